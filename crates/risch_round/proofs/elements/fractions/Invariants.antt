use Rattle.std.proofs.Common.{◌≡◌, map, take}
use Rattle.risch_round.specs.Elements.{fraction_of}
use Rattle.risch_round.proofs.elements.fractions.Given as goal

-- The fractions of the elements so far are there.
abbrev pub invariant-loop-element : goal.invariant-loop-element
invariant-loop-element l = l.fractions.items ≡ map fraction_of (take l.element-index l.elements)
