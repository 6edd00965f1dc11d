use Rattle.std.specs.Prelude.{map}
use Rattle.std.proofs.Common.{◌≡◌, ◌≤◌, List, [], ◌∷◌, length, Ok, refl, ◌∙◌, ap, ap₂, subst, arith}
use Rattle.risch_frac.specs.Fraction.{Fraction}
use Rattle.risch_field.specs.Checked.{Agrees}
use Rattle.risch_field.specs.Ground.{ground}
use Rattle.risch_level.specs.Levels.{Element}
use Rattle.risch_level.specs.Accessors.{number}
use Rattle.risch_level.specs.Parts.{levels}
use Rattle.risch_polynomial.specs.Poly as poly
use Rattle.risch_element_theory.specs.WholeTower.{Within}
use Rattle.risch_round.specs.Elements.{element_of}
use Rattle.risch_round.proofs.Numbers.{elements-within}
use Rattle.risch_round.proofs.ElementsInX.{element-formed, formed-is, formed-if}
use Rattle.risch_round.proofs.elements.element_of.Goals as goal

pub over_elements-requires-clause-ends_not_zero : goal.over_elements-requires-clause-ends_not_zero
over_elements-requires-clause-ends_not_zero c = rw c.coefficients.ensures.value c.kept_weight-weight.ensures.ends_not_zero

pub over_elements-requires-clause-degree_small : goal.over_elements-requires-clause-degree_small
over_elements-requires-clause-degree_small c = rw c.coefficients.ensures.value c.kept_weight-weight.ensures.degree_small

pub over_elements-requires-2-clause-ends_not_zero : goal.over_elements-requires-2-clause-ends_not_zero
over_elements-requires-2-clause-ends_not_zero c = rw c.one.ensures.value refl

pub quotient-requires-clause-some : goal.quotient-requires-clause-some
quotient-requires-clause-some c = rw c.in_ok-denominator.ensures (omega arith)

pub quotient-requires-clause-num_within : goal.quotient-requires-clause-num_within
quotient-requires-clause-num_within c = rw c.in_ok-numerator.ensures (elements-within 0 c.coefficients.result.now)

pub quotient-requires-clause-den_within : goal.quotient-requires-clause-den_within
quotient-requires-clause-den_within c = rw c.in_ok-denominator.ensures (elements-within 0 (c.one.result ∷ []))

-- the quotient of what the two polynomials are
quotient-formed : (n d : List Element) (q r : List Fraction) (one : Fraction) → q ≡ r → one ≡ ground.one → n ≡ map (number 5) q → d ≡ map (number 5) (one ∷ []) → poly.trimmed ground r ≡ r → length r ≤ 256 →
    (levels 5).quotient 4 n d ≡ Ok (element_of r)
quotient-formed n d q r one same one_is n_is d_is ends small =
    ap₂ (λ a b. (levels 5).quotient 4 a b) (n_is ∙ ap (map (number 5)) same) (d_is ∙ ap (λ e. map (number 5) (e ∷ [])) one_is) ∙ element-formed r ends small

pub formed-requires : goal.formed-requires
formed-requires c = (
  element_of c.args.polynomial.now,
  subst (λ rule. Agrees c.quotient.result rule)
      (quotient-formed c.in_ok-numerator.numerator c.in_ok-denominator.denominator c.coefficients.result.now c.args.polynomial.now c.one.result c.coefficients.ensures.value c.one.ensures.value
      c.in_ok-numerator.ensures c.in_ok-denominator.ensures c.kept_weight-weight.ensures.ends_not_zero c.kept_weight-weight.ensures.degree_small)
      c.quotient.ensures.rule,
)

pub returns-clause-value : goal.returns-clause-value
returns-clause-value c = formed-is c.quotient.result c.formed.result (element_of c.args.polynomial.now)
    (subst (λ rule. Agrees c.quotient.result rule)
    (quotient-formed c.in_ok-numerator.numerator c.in_ok-denominator.denominator c.coefficients.result.now c.args.polynomial.now c.one.result c.coefficients.ensures.value c.one.ensures.value
    c.in_ok-numerator.ensures c.in_ok-denominator.ensures c.kept_weight-weight.ensures.ends_not_zero c.kept_weight-weight.ensures.degree_small)
    c.quotient.ensures.rule) c.formed.ensures

pub returns-clause-within : goal.returns-clause-within
returns-clause-within c = formed-if c.quotient.result c.formed.result (Within 1) c.quotient.ensures.within c.formed.ensures
