use Rattle.std.proofs.Common.{◌++◌, ap, map, ◌∙◌}
use Rattle.risch_nest.proofs.Moved.{all-yielded}
use Rattle.risch_nest.proofs.forms.push_wrapped.Goals as goal

pub returns : goal.returns
returns g c =
    let into = c.into_iter-form-iterator.ensures.into_iter_gives in
    let all = all-yielded c.args.from.items c.into_iter-form-iterator.result into.0 (into.1 ∙ c.args.from.ok.0)
    c.loop-form.yielded c.loop-form.form-iterator c.loop-form.yielded_by c.next.result c.next.new.self c.in-None.is c.next.ensures.steps in
    c.loop-form.invariant ∙ ap (λ items. c.args.to.now.items ++ map g.W.HasForm.of items) all
