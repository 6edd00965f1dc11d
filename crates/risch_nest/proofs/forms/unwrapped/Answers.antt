use Rattle.std.proofs.Common.{◌≡◌, arith, map, sym, ◌∙◌}
use Rattle.std.proofs.lemmas.Grind.{common_steps}
use Rattle.risch_nest.proofs.forms.unwrapped.Goals as goal

pub kept-requires : goal.kept-requires
kept-requires g c =
    let items : c.push_unwrapped.new.to.items ≡ map g.W.HasForm.opened c.args.from = grind (arith, common_steps) in
    rw (items ∙ sym (g.met.W.HasForm.all_opened_is c.args.from)) (g.met.W.HasForm.all_opened_kept c.args.from c.kept_weight-weight.result c.kept_weight-weight.ensures)

pub returns : goal.returns
returns g c =
    let items : c.push_unwrapped.new.to.items ≡ map g.W.HasForm.opened c.args.from = grind (arith, common_steps) in
    c.kept.ensures ∙ items ∙ sym (g.met.W.HasForm.all_opened_is c.args.from)
