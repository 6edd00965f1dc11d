use Rattle.std.proofs.Common.{◌≡◌, map, take}
use Rattle.risch_level.specs.Accessors.{number}
use Rattle.risch_round.proofs.elements.numbers.Given as goal

-- The fractions so far are there as elements.
abbrev pub invariant-loop-fraction : goal.invariant-loop-fraction
invariant-loop-fraction l = l.numbers ≡ map (number 5) (take l.fraction-index l.fractions)
