use Rattle.std.proofs.lemmas.Result.{err_from_is_err_and}
use Rattle.risch_text.proofs.TowerValues.{built_begin, built_over, built_more, built_fault, built_done}
use Rattle.risch_text.proofs.values.tower_of.Goals as goal

pub loop-line-preserved : goal.loop-line-preserved
loop-line-preserved c =
    built_more c.args.lines.now c.loop-line.line-index c.loop-line.tower c.loop-line.invariant c.line-item.result c.push_line.new.tower c.loop-line-test.true c.line-item.is
    c.in_ok-push_line.ensures.value c.in_ok-push_line.ensures.higher

pub loop-line-init : goal.loop-line-init
loop-line-init c = built_begin c.args.lines.now c.new-tower.result c.new-tower.ensures c.requires

pub push_line-requires : goal.push_line-requires
push_line-requires c = built_over c.args.lines.now c.loop-line.line-index c.loop-line.tower c.loop-line.invariant c.line-item.result c.loop-line-test.true c.line-item.is

pub returns-in_err-push_line-clause-value : goal.returns-in_err-push_line-clause-value
returns-in_err-push_line-clause-value c =
    let p = err_from_is_err_and c.from_residual.result c.from_residual.ensures.1 in
    rw (p.1, p.2) (built_fault c.args.lines.now c.loop-line.line-index c.loop-line.tower c.loop-line.invariant c.line-item.result c.in_err-push_line.field-0.0 c.loop-line-test.true c.line-item.is
    c.in_err-push_line.ensures.value)

pub returns-clause-value : goal.returns-clause-value
returns-clause-value c = built_done c.args.lines.now c.loop-line.line-index c.loop-line.tower c.loop-line.invariant c.loop-line-test.false
