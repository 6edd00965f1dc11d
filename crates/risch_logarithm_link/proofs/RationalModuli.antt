-- The polynomial R of a logarithm over the fractions: where its coefficients are fractions, as elements, the fractions that the rule takes for them are these.
--     modulus-same, fractions-lowest, fractions-monic
use Rattle.std.specs.Prelude.{map}
use Rattle.std.proofs.Common.{◌≡◌, refl, sym, ap, ap₂, ◌∙◌, ℕ, zero, suc, ◌-◌, ◌<◌, List, [], ◌∷◌, length, Option, None, Some, arith, subst}
use Rattle.std.proofs.lemmas.List.{length-map}
use Rattle.risch_univariate.specs.Degree.{IsMonic}
use Rattle.risch_frac.specs.Fraction.{Fraction, IsLowest}
use Rattle.risch_mean.specs.Element as mean
use Rattle.risch_mean.specs.ElementField.{elements}
use Rattle.risch_field.specs.Ground.{ground}
use Rattle.risch_polynomial.specs.Poly as poly
use Rattle.risch_polynomial_theory.specs.FractionMeaning.{fraction_meaning}
use Rattle.risch_polynomial_theory.specs.Meaning.{AllValid}
use Rattle.risch_polynomial_theory.proofs.FractionValues.{ground_means}
use Rattle.risch_level.specs.Accessors.{number, as_number}
use Rattle.risch_level.specs.Levels.{Field, Element, element}
use Rattle.risch_level.specs.declared.over.Over.TheVariants.{Below, Quotient}
use Rattle.risch_element_theory.specs.LevelMeaning.{valid_at}
use Rattle.risch_element_theory.specs.WholeTower.{IsElement, IsPolynomial, meaning, polynomial, WithinAt, Within, AllWithin}
use Rattle.risch_element_theory.proofs.ElementPolynomials.{element_interprets}
use Rattle.risch_element_theory.proofs.ElementParts.{number-stands}
use Rattle.risch_element_theory.proofs.GcdRule as GcdRule
use Rattle.risch_rootsum.specs.Algebra.{modulus, IsModulus}
use Rattle.risch_logarithm_rules.specs.Logarithms.{fraction_of, fractions_of}

-- e is the fraction that the rule takes for it
record IsNumber (height : ℕ) (e : Field height) : Type 0 where
  same : number height (fraction_of (as_number height e)) ≡ e
  lowest : IsLowest (fraction_of (as_number height e))

number-of_within : (height : ℕ) (e : Field height) → valid_at height e → WithinAt height 0 e → IsNumber height e
number-of_within zero e v w = record { same = refl; lowest = v }
number-of_within (suc height) (Below e) v w = let h = number-of_within height e v w in record { same = ap (λ (x : Field height). Below x) h.same; lowest = h.lowest }
number-of_within (suc height) (Quotient r) v w = absurd (omega (arith, w))

number-is : (e : Element) → IsElement e → Within 0 e → IsNumber 5 e
unfolding IsElement Within
number-is e v w = number-of_within 5 e v w

-- R over the elements is R
pub modulus-same : (R : List Element) → AllValid IsElement R → AllWithin 0 R → modulus (fractions_of R) ≡ R
modulus-same [] all within = refl
modulus-same (c ∷ R) all within = ap₂ (λ (x : Element) (l : List Element). x ∷ l) (number-is c all.0 within.0).same (modulus-same R all.1 within.1)

pub fractions-lowest : (R : List Element) → AllValid IsElement R → AllWithin 0 R → AllValid IsLowest (fractions_of R)
fractions-lowest [] all within = tt
fractions-lowest (c ∷ R) all within = ((number-is c all.0 within.0).lowest, fractions-lowest R all.1 within.1)

pub fractions-length : (R : List Element) → length (fractions_of R) ≡ length R
fractions-length R = length-map R (λ c. fraction_of (as_number 5 c))

coefficient-meaning : (R : List Element) (k : ℕ) → AllValid IsElement R → AllWithin 0 R → fraction_meaning (poly.coefficient ground (fractions_of R) k) ≡ meaning (poly.coefficient element R k)
coefficient-meaning [] k all within = ground_means.zero-means ∙ sym element_interprets.zero-means
coefficient-meaning (c ∷ R) zero all within = sym (number-stands (fraction_of (as_number 5 c))) ∙ ap meaning (number-is c all.0 within.0).same
coefficient-meaning (c ∷ R) (suc k) all within = coefficient-meaning R k all.1 within.1

coefficient-lowest : (R : List Fraction) (k : ℕ) → AllValid IsLowest R → IsLowest (poly.coefficient ground R k)
coefficient-lowest [] k all = ground_means.zero-valid
coefficient-lowest (q ∷ R) zero all = all.0
coefficient-lowest (q ∷ R) (suc k) all = coefficient-lowest R k all.1

-- R is monic, of degree at least 1
pub fractions-modulus : (R : List Element) → IsPolynomial R → AllWithin 0 R → IsMonic elements (polynomial R) → 1 < length R → IsModulus (fractions_of R)
fractions-modulus R kept within monic large = record {
  monic = ground_means.injective (poly.last ground (fractions_of R)) ground.one (coefficient-lowest (fractions_of R) (length (fractions_of R) - 1) (fractions-lowest R kept.all_valid within)) ground_means.one-valid
      (coefficient-meaning R (length (fractions_of R) - 1) kept.all_valid within
      ∙ ap (λ n. meaning (poly.coefficient element R (n - 1))) (fractions-length R)
      ∙ sym (GcdRule.leading_coefficient-polynomial_of elements element_interprets R kept) ∙ monic ∙ sym ground_means.one-means);
  some = let l = fractions-length R in omega (arith, l, large);
  small = let l = fractions-length R in let k = kept.degree_small in omega (arith, l, k);
}
