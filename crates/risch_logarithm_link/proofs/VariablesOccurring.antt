-- An element in normal form that lies in the field of the first n variables has no higher variable: so the rules on lists see that it lies there.
use Rattle.std.proofs.Common.{◌≡◌, ℕ, zero, suc, ◌≤◌, ◌<◌, ◌⊎◌, inl, inr, List, [], ◌∷◌, length, sym, ◌∙◌, ap, arith}
use mathlib.Core.Logic.{∥∥₁_elim}
use native.Mathlib.Decide.{dec_le}
use Rattle.risch_ring.specs.CommRing.{CommRing}
use Rattle.risch_univariate.specs.Polynomial.{Polynomial, constant}
use Rattle.risch_univariate.specs.PolynomialRing.{polynomials}
use Rattle.risch_univariate.specs.Degree.{size, IsMonic}
use Rattle.risch_univariate.specs.Division.{Divides}
use Rattle.risch_univariate.proofs.Degree as Degree
use Rattle.risch_univariate.proofs.Gcd as Gcd
use Rattle.risch_mean.specs.Element as mean
use Rattle.risch_mean.specs.Element.{InField, variable}
use Rattle.risch_mean.specs.ElementField.{elements}
use Rattle.risch_mean.proofs.FieldClosure as FieldClosure
use Rattle.risch_level.specs.Levels.{Field, field, Element}
use Rattle.risch_level.specs.declared.over.Over.TheVariants.{Below, Quotient}
use Rattle.risch_element_theory.specs.ElementMeaning.{IsNormal}
use Rattle.risch_element_theory.specs.LevelMeaning.{valid_at, meaning_at}
use Rattle.risch_element_theory.specs.WholeTower.{IsElement, meaning, WithinAt, Within}
use Rattle.risch_element_theory.proofs.ElementsQuotients.{of, at-is, Over-of}
use Rattle.risch_element_theory.proofs.ElementsSums.{normal-represents}
use Rattle.risch_element_theory.proofs.ElementsTranscendence as Transcendence
use Rattle.risch_element_theory.proofs.GcdRule as GcdRule
use Rattle.risch_element_theory.proofs.Levels.{level_below}
use Rattle.risch_element_theory.proofs.PolynomialRules as Rules

abbrev R : CommRing (Polynomial elements)
R = polynomials elements

-- n(t)/m(t) in normal form does not lie in the field below: n(t) = c·m(t) gives n = c·m, and n and m are coprime, so that m = 1 and n = c
module _ (height : ℕ) (n m : List (Field height)) (k : IsNormal elements (field height) (valid_at height) (meaning_at height) n m) (lies : InField height (meaning_at (suc height) (Quotient (n, m)))) where
  abbrev c : mean.Element
  c = meaning_at (suc height) (Quotient (n, m))

  abbrev N : Polynomial elements
  N = of elements (level_below height) n

  abbrev M : Polynomial elements
  M = of elements (level_below height) m

  over-constant : Transcendence.Over elements (InField height) (level_below height).is_closed (constant elements c)
  unfolding constant
  over-constant = Transcendence.Over-of_list elements (InField height) (level_below height).is_closed (c ∷ []) (lies, tt)

  over-m : Transcendence.Over elements (InField height) (level_below height).is_closed M
  over-m = Over-of elements (level_below height) m k.is_reduced.denominator_kept.all_valid

  over-n : Transcendence.Over elements (InField height) (level_below height).is_closed N
  over-n = Over-of elements (level_below height) n k.is_reduced.numerator_kept.all_valid

  equal : N ≡ R.mul (constant elements c) M
  equal =
      Transcendence.same_of_value elements (InField height) (level_below height).is_closed (variable height) (level_below height).transcendental N (R.mul (constant elements c) M) over-n
      (Transcendence.Over-mul elements (InField height) (level_below height).is_closed (constant elements c) M over-constant over-m)
      (at-is elements (level_below height) n ∙ sym (normal-represents elements (level_below height) n m k.is_reduced).equation
      ∙ sym (Transcendence.at-mul elements (variable height) (constant elements c) M
      ∙ ap (λ x. mean.mul x (Transcendence.at elements (variable height) M)) (Transcendence.at-constant elements (variable height) c)
      ∙ ap (mean.mul c) (at-is elements (level_below height) m)))

  monic : IsMonic elements M
  monic = GcdRule.leading_coefficient-polynomial_of elements (level_below height).interprets m k.is_reduced.denominator_kept ∙ k.is_reduced.is_monic

  divides_one : Divides elements M R.one
  divides_one =
      Gcd.coprime-divides_of_mul elements M N R.one (Gcd.coprime_sym elements N M k.is_reduced.is_coprime)
      (record { cofactor = constant elements c; equation = R.mul-one N ∙ equal })

  one : M ≡ R.one
  one = Gcd.monic_antisymm elements M R.one monic (Gcd.one-is_monic elements) divides_one (record { cofactor = M; equation = sym (R.mul-one M) })

  below : N ≡ constant elements c
  below = equal ∙ ap (R.mul (constant elements c)) one ∙ R.mul-one (constant elements c)

  small : (1 < length n) ⊎ (1 < length m) → ⊥
  small (inl l) =
      let sized = Rules.size-polynomial_of elements (level_below height).interprets n k.is_reduced.numerator_kept in
      let same = ap (size elements) below in
      let least = Degree.size-constant-le elements c in
      omega (arith, l, sized, same, least)
  small (inr l) =
      let sized = Rules.size-polynomial_of elements (level_below height).interprets m k.is_reduced.denominator_kept in
      let same = ap (size elements) one in
      let least = Degree.size-one elements in
      omega (arith, l, sized, same, least)

  quotient-no_below : ⊥
  quotient-no_below = small k.variable_occurs

within_at-of_lies : (height n : ℕ) (e : Field height) → valid_at height e → ∥ InField n (meaning_at height e) ∥₁ → WithinAt height n e
within_at-of_lies zero n e v lies = tt
within_at-of_lies (suc height) n (Below e) v lies = within_at-of_lies height n e v lies
within_at-of_lies (suc height) n (Quotient r) v lies = by (dec_le (suc height) n)
  where
    by : Dec (suc height ≤ n) → height < n
    by (yes l) = omega (arith, l)
    by (no l) = absurd (∥∥₁_elim lies (λ x y. absurd x) (λ a.
        quotient-no_below height r.0 r.1 v (FieldClosure.InField_more n height (meaning_at (suc height) (Quotient r)) (omega (arith, l)) a)))

-- only the first n variables occur in an element of their field
pub within-of_lies : (n : ℕ) (e : Element) → IsElement e → ∥ InField n (meaning e) ∥₁ → Within n e
unfolding IsElement meaning Within
within-of_lies n e v lies = within_at-of_lies 5 n e v lies
