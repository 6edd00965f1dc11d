-- The derivative of C·log U.
--     linear_of_length, first-factor, first-argument      where R = z - C, the constants C and U
--     nonzero_test      U is not 0
--     log-means      C·(DU/U) is the derivative of the part
use Rattle.std.proofs.Common.{◌≡◌, refl, sym, ap, ◌∙◌, ℕ, Bool, true, false, ◌<◌, List, [], ◌∷◌, get_or, length, arith}
use Rattle.std.proofs.lemmas.Bool.{true≢false}
use Rattle.std.proofs.lemmas.List.{get_or_read}
use Rattle.risch_frac.specs.Fraction as fraction
use Rattle.risch_frac.specs.Fraction.{Fraction}
use Rattle.risch_mean.specs.Element as mean
use Rattle.risch_mean.specs.Element.{◌*ₑ◌, ◌/ₑ◌}
use Rattle.risch_mean.specs.Tower.{Tower, derive_in}
use Rattle.risch_field.specs.Ground.{ground}
use Rattle.risch_polynomial.specs.Poly as poly
use Rattle.risch_polynomial_theory.specs.FractionMeaning.{fraction_meaning}
use Rattle.risch_level.specs.Levels.{Element, element}
use Rattle.risch_element_theory.specs.WholeTower.{IsElement, meaning}
use Rattle.risch_element_theory.proofs.ElementPolynomials.{element_interprets}
use Rattle.risch_rootsum.specs.Derivative.{is_linear, factor, argument}
use Rattle.risch_rootsum.specs.DerivativeMeaning.{IsPartDerivative}
use Rattle.risch_rootsum.specs.declared.integral.LogPart.{LogPart}

pub linear_of_length : (l : LogPart) (n : ℕ) → n ≡ length l.poly → n ≡ 2 → is_linear l ≡ true
linear_of_length l n e two = let same : length l.poly ≡ 2 = sym e ∙ two in rw same refl

pub first-factor : (l : LogPart) (items : List Fraction) (first c : Fraction) → items ≡ l.poly → first ≡ get_or items 0 first → 0 < length items →
    c ≡ fraction.negative first → c ≡ factor l
first-factor l items first c same read some e =
    e ∙ ap fraction.negative (get_or_read items 0 first some read ground.zero) ∙ ap (λ R. fraction.negative (poly.coefficient ground R 0)) same

pub first-argument : (l : LogPart) (items : List Element) (first : Element) → items ≡ l.arg → first ≡ get_or items 0 first → 0 < length items → first ≡ argument l
first-argument l items first same read some = get_or_read items 0 first some read element.zero ∙ ap (λ s. poly.coefficient element s 0) same

pub nonzero_test : (e : Element) → IsElement e → ¬ (meaning e ≡ mean.zero) → element.is_zero e ≡ false
nonzero_test e v h = by_test (element.is_zero e) refl
  where
    by_test : (t : Bool) → element.is_zero e ≡ t → t ≡ false
    by_test true z = absurd (h (element_interprets.zero_is e v z))
    by_test false z = refl

first-some : (s : List Element) → ¬ (meaning (poly.coefficient element s 0) ≡ mean.zero) → 0 < length s
first-some [] h = absurd (h element_interprets.zero-means)
first-some (c ∷ s) h = omega arith

module _ (tower : Tower) (l : LogPart) (linear : is_linear l ≡ true) (has : (g : mean.Element) × IsPartDerivative tower l g) where
  pub argument-nonzero : ¬ (meaning (argument l) ≡ mean.zero)
  argument-nonzero = (has.1.of_logarithm linear).argument-ne-zero

  -- S has a coefficient
  pub argument-some : 0 < length l.arg
  argument-some = first-some l.arg argument-nonzero

  pub log-means : (f : mean.Element) → f ≡ fraction_meaning (factor l) *ₑ (derive_in tower (meaning (argument l)) /ₑ meaning (argument l)) → IsPartDerivative tower l f
  log-means f e =
      let h = has.1.of_logarithm linear in
      record {
        of_logarithm = λ i. record { rational = h.rational; in_tower = h.in_tower; argument-ne-zero = h.argument-ne-zero; is = e };
        of_sum = λ i. absurd (true≢false (sym linear ∙ i));
      }
