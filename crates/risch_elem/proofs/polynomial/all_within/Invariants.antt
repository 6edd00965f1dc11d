-- The elements from here on decide.
use Rattle.std.specs.Prelude.{◌↔◌}
use Rattle.std.proofs.Common.{drop}
use Rattle.risch_element_theory.specs.WholeTower.{AllWithin}
use Rattle.risch_elem.proofs.polynomial.all_within.Given as goal

abbrev pub invariant-loop-element : goal.invariant-loop-element
invariant-loop-element l = AllWithin l.n l.elements ↔ AllWithin l.n (drop l.element-index l.elements)
