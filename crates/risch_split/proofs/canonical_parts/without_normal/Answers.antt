use Rattle.std.proofs.Common.{◌+◌}
use Rattle.risch_element_theory.proofs.ElementWithin.{zero-element-within}
use Rattle.risch_split.proofs.canonical_parts.without_normal.Goals as goal

pub returns-clause-within : goal.returns-clause-within
returns-clause-within c = (c.in_ok-reduced.ensures.within, rw c.zero.ensures (zero-element-within (c.args.level + 1)))
