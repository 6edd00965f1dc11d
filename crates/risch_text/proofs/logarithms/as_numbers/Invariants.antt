use Rattle.std.proofs.Common.{◌≡◌, [], drop}
use Rattle.risch_text.specs.Values.{with_numbers}
use Rattle.risch_text.proofs.logarithms.as_numbers.Given as goal

abbrev pub invariant-loop-element : goal.invariant-loop-element
invariant-loop-element l = with_numbers l.numbers (drop l.element-index l.elements) ≡ with_numbers [] l.elements
