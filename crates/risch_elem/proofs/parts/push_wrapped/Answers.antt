use Rattle.std.proofs.Common.{◌++◌, length, ap, ◌∙◌}
use Rattle.std.proofs.lemmas.Iterator.Adapters.{YieldsList-from_vec}
use Rattle.std.proofs.lemmas.Iterator.Consumers.{YieldsList-turn}
use Rattle.risch_element_theory.proofs.PartsRules.{item-is_element}
use Rattle.risch_nest.proofs.Moved.{all-yielded}
use Rattle.risch_elem.proofs.parts.push_wrapped.Goals as goal

pub of-requires : goal.of-requires
of-requires c =
    let into = c.into_iter-nest-iterator.ensures.into_iter_gives in
    let list = YieldsList-from_vec c.args.from.items into.0 (into.1 ∙ c.args.from.ok.0) in
    let turn = YieldsList-turn list c.loop-nest.yielded c.loop-nest.nest-iterator c.loop-nest.yielded_by c.next.result c.next.new.self c.in-Some.nest c.in-Some.is c.next.ensures.steps in
    item-is_element c.args.from.items (length c.loop-nest.yielded) c.in-Some.nest c.requires turn.0 turn.1

pub returns : goal.returns
returns c =
    let into = c.into_iter-nest-iterator.ensures.into_iter_gives in
    let all = all-yielded c.args.from.items c.into_iter-nest-iterator.result into.0 (into.1 ∙ c.args.from.ok.0)
    c.loop-nest.yielded c.loop-nest.nest-iterator c.loop-nest.yielded_by c.next.result c.next.new.self c.in-None.is c.next.ensures.steps in
    c.loop-nest.invariant ∙ ap (λ items. c.args.to.now.items ++ items) all
