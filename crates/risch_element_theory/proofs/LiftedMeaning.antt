-- Polynomials over the field below a level are polynomials over the level, and back where each coefficient lies below it: they are kept together, and have the same value.
use Rattle.std.specs.Prelude.{if◌then◌else◌}
use Rattle.std.proofs.Common.{◌≡◌, ℕ, zero, suc, ◌-◌, Bool, true, false, List, [], ◌∷◌, length, Ok, refl, sym, ◌∙◌, ap, subst}
use Rattle.std.proofs.lemmas.List.{length-map}
use Rattle.risch_ring.specs.CommRing.{Field}
use Rattle.risch_field.specs.Ops.{Ops}
use Rattle.risch_polynomial.specs.Poly as poly
use Rattle.risch_level.specs.Over.{over}
use Rattle.risch_level.specs.Tower.{lifted, lowered, formed_below}
use Rattle.risch_level.specs.declared.over.Over.{Over}
use Rattle.risch_level.specs.declared.over.Over.TheVariants.{Below}
use Rattle.risch_polynomial_theory.specs.Meaning.{Interprets, AllValid, value}
use Rattle.risch_polynomial_theory.proofs.PolynomialValues as PolynomialValues
use Rattle.risch_element_theory.specs.PolynomialMeaning.{IsKept}
use Rattle.risch_element_theory.specs.ElementMeaning.{valid_over, meaning_over}

module _ {E A : Type 0} (F : Field A) (o : Ops E) (valid : E → Type 0) (meaning : E → A) where
  -- p is kept over the field below
  abbrev Kept : List E → Type 0
  Kept p = IsKept o valid p

  -- the same over the level
  abbrev Kept_over : List (Over E) → Type 0
  Kept_over p = IsKept (over o) (valid_over F o valid meaning) p

  -- ---- lifted polynomials
  lifted-valid : (p : List E) → AllValid valid p → AllValid (valid_over F o valid meaning) (lifted o p)
  lifted-valid [] all = tt
  lifted-valid (c ∷ p) all = (all.0, lifted-valid p all.1)

  valid-lifted : (p : List E) → AllValid (valid_over F o valid meaning) (lifted o p) → AllValid valid p
  valid-lifted [] all = tt
  valid-lifted (c ∷ p) all = (all.0, valid-lifted p all.1)

  leading-lifted : (c : E) (p : List E) → poly.leading (over o) (Below c) (lifted o p) ≡ lifted o (poly.leading o c p)
  leading-lifted c [] = by_zero (o.is_zero c)
    where
      by_zero : (z : Bool) → (if z then [] else Below c ∷ []) ≡ lifted o (if z then [] else c ∷ [])
      by_zero true = refl
      by_zero false = refl
  leading-lifted c (d ∷ p) = refl

  trimmed-lifted : (p : List E) → poly.trimmed (over o) (lifted o p) ≡ lifted o (poly.trimmed o p)
  trimmed-lifted [] = refl
  trimmed-lifted (c ∷ p) = ap (poly.leading (over o) (Below c)) (trimmed-lifted p) ∙ leading-lifted c (poly.trimmed o p)

  pub lifted-kept : (p : List E) → Kept p → Kept_over (lifted o p)
  lifted-kept p k = record {
    all_valid = lifted-valid p k.all_valid;
    ends_not_zero = trimmed-lifted p ∙ ap (lifted o) k.ends_not_zero;
    degree_small = rw (length-map p Below) k.degree_small;
  }

  -- the coefficients stand for the same
  pub value-lifted : (t v : A) (p : List E) → value F.ring (meaning_over F meaning t) v (lifted o p) ≡ value F.ring meaning v p
  value-lifted t v [] = refl
  value-lifted t v (c ∷ p) = ap (λ w. F.ring.add (meaning c) (F.ring.mul v w)) (value-lifted t v p)

  pub lifted-ne-nil : (p : List E) → ¬ (p ≡ []) → ¬ (lifted o p ≡ [])
  lifted-ne-nil [] n e = n refl
  lifted-ne-nil (c ∷ p) n e = cc

  coefficient-lifted : (p : List E) (k : ℕ) → poly.coefficient (over o) (lifted o p) k ≡ Below (poly.coefficient o p k)
  coefficient-lifted [] k = refl
  coefficient-lifted (c ∷ p) zero = refl
  coefficient-lifted (c ∷ p) (suc k) = coefficient-lifted p k

  pub last-lifted : (p : List E) → poly.last (over o) (lifted o p) ≡ Below (poly.last o p)
  last-lifted p = ap (λ n. poly.coefficient (over o) (lifted o p) (n - 1)) (length-map p Below) ∙ coefficient-lifted p (length p - 1)

  -- ---- lowered polynomials
  lowered-lifted : (p : List E) → lowered o (lifted o p) ≡ p
  lowered-lifted [] = refl
  lowered-lifted (c ∷ p) = ap (λ q. c ∷ q) (lowered-lifted p)

  kept-lifted : (p : List E) → Kept_over (lifted o p) → Kept p
  kept-lifted p k = record {
    all_valid = valid-lifted p k.all_valid;
    ends_not_zero = sym (lowered-lifted (poly.trimmed o p)) ∙ ap (lowered o) (sym (trimmed-lifted p) ∙ k.ends_not_zero) ∙ lowered-lifted p;
    degree_small = rw⁻¹ (length-map p Below) k.degree_small;
  }

  -- p over the level, each of whose coefficients lies below it
  pub lowered-kept : (p : List (Over E)) → lifted o (lowered o p) ≡ p → Kept_over p → Kept (lowered o p)
  lowered-kept p e k = kept-lifted (lowered o p) (subst Kept_over (sym e) k)

  pub value-lowered : (t v : A) (p : List (Over E)) → lifted o (lowered o p) ≡ p → value F.ring meaning v (lowered o p) ≡ value F.ring (meaning_over F meaning t) v p
  value-lowered t v p e = sym (value-lifted t v (lowered o p)) ∙ ap (value F.ring (meaning_over F meaning t) v) e

  pub lowered-ne-nil : (p : List (Over E)) → ¬ (p ≡ []) → ¬ (lowered o p ≡ [])
  lowered-ne-nil [] n e = n refl
  lowered-ne-nil (c ∷ p) n e = cc

  -- what is formed over the field below is that polynomial
  pub formed_below-is : Interprets o F.ring valid meaning → (p : List (Over E)) (q : List E) → Kept (lowered o p) → formed_below o p ≡ Ok q → lowered o p ≡ q
  formed_below-is h p q k e = sym k.ends_not_zero ∙ PolynomialValues.sized-is h (poly.trimmed o (lowered o p)) q e
