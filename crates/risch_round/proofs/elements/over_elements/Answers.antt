use Rattle.risch_round.proofs.Numbers.{trimmed-elements, degree-elements, weight-elements}
use Rattle.risch_round.proofs.elements.over_elements.Goals as goal

pub of-requires-clause-degree : goal.of-requires-clause-degree
of-requires-clause-degree c = rw c.in_ok-numbers.ensures (degree-elements c.args.fractions.now c.requires.ends_not_zero c.requires.degree_small)

pub of-requires-clause-weight : goal.of-requires-clause-weight
of-requires-clause-weight c = rw c.in_ok-numbers.ensures (weight-elements c.args.fractions.now c.requires.degree_small)

pub returns : goal.returns
returns c = rw (c.in_ok-numbers.ensures, trimmed-elements c.args.fractions.now c.requires.ends_not_zero) at c.of.ensures.rule
