use Rattle.std.proofs.lemmas.Result.{err_from_is_err_and}
use Rattle.risch_text.proofs.TowerLines.{tower_begin, tower_stop, tower_done, tower_more, tower_fault}
use Rattle.risch_text.proofs.file.tower_lines.Goals as goal

pub loop-n-preserved : goal.loop-n-preserved
loop-n-preserved c = (
  tower_more _ c.loop-n.n c.loop-n.tower c.loop-n.lines c.loop-n.invariant.0 c.take_word.new.self c.left-left.result c.in_ok-tower_line.field-0 c.push.new.self c.tower_line.new.lines c.loop-n-test.true
      c.if-not-take_word.ensures.passes c.left-left.ensures c.in_ok-tower_line.ensures.read c.in_ok-push.ensures.ok,
  c.in_ok-tower_line.ensures.in_file,
)

pub loop-n-init : goal.loop-n-init
loop-n-init c = (tower_begin c.args.lines.now c.new-tower.result c.new-tower.ensures, c.requires)

pub returns-then-not-take_word-clause-read : goal.returns-then-not-take_word-clause-read
returns-then-not-take_word-clause-read c =
    rw c.if-not-take_word.ensures.passes.1 (tower_stop _ c.loop-n.n c.loop-n.tower c.loop-n.lines c.loop-n.invariant.0 c.loop-n-test.true c.if-not-take_word.ensures.passes.0)

pub returns-in_err-tower_line-clause-fault : goal.returns-in_err-tower_line-clause-fault
returns-in_err-tower_line-clause-fault c =
    let p = err_from_is_err_and c.from_residual.result c.from_residual.ensures.1 in
    rw (p.1, p.2) (tower_fault _ c.loop-n.n c.loop-n.tower c.loop-n.lines c.loop-n.invariant.0 c.take_word.new.self c.left-left.result c.in_err-tower_line.field-0.0 c.loop-n-test.true
    c.if-not-take_word.ensures.passes c.left-left.ensures c.in_err-tower_line.ensures.fault)

pub returns-clause-read : goal.returns-clause-read
returns-clause-read c = tower_done _ c.loop-n.n c.loop-n.tower c.loop-n.lines c.loop-n.invariant.0 c.loop-n-test.false
