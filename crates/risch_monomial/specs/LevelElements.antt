-- Polynomials in the variable t of a level as elements, their quotients, and the numerator and the denominator of an element at the level.
use Rattle.std.specs.Prelude.{ℕ, ◌-◌, List, [], ◌∷◌}
use Rattle.risch_univariate.specs.Polynomial.{Polynomial}
use Rattle.risch_mean.specs.Element as mean
use Rattle.risch_mean.specs.Element.{variable}
use Rattle.risch_mean.specs.ElementField.{elements}
use Rattle.risch_field.specs.Checked.{Checked, and_then}
use Rattle.risch_level.specs.Levels.{Element, element}
use Rattle.risch_level.specs.Parts.{levels, denominator}
use Rattle.risch_element_theory.proofs.ElementsTranscendence as Transcendence

-- p(t) for the variable t of the level
abbrev pub at : ℕ → Polynomial elements → mean.Element
at level p = Transcendence.at elements (variable level) p

-- the polynomial 1
abbrev pub one : List Element
one = element.one ∷ []

-- the polynomial p as an element of the level
unfoldable pub of_polynomial : ℕ → List Element → Checked Element
of_polynomial level p = (levels 5).quotient (4 - level) p one

-- p/q as the quotient of the two elements
unfoldable pub ratio : ℕ → List Element → List Element → Checked Element
ratio level p q =
    and_then (of_polynomial level p) (λ top.
    and_then (of_polynomial level q) (λ bottom.
    element.quotient top bottom))

-- numerator and denominator at the level
abbrev pub numerator_at : ℕ → Element → List Element
numerator_at level f = (levels 5).numerator (4 - level) f

abbrev pub denominator_at : ℕ → Element → List Element
denominator_at level f = denominator 5 (4 - level) f
