-- Laws of the negative of a polynomial: its weight, and the coefficients at the end that are 0.
use Rattle.std.specs.Prelude.{◌≡◌, ℕ, ◌+◌, Bool, true, false, refl, if◌then◌else◌, List, [], ◌∷◌, fold}
use Rattle.std.proofs.Common.{ap, ◌∙◌}
use Rattle.risch_field.specs.Ops.{Ops, KeepsNegatives}
use Rattle.risch_polynomial.specs.Poly as poly

module _ {E : Type 0} (o : Ops E) where
  weight_in-negative : KeepsNegatives o → (c : E) → poly.weight_in o (o.negative c) ≡ poly.weight_in o c
  weight_in-negative k c = rw (k.zero_kept c, k.weight_kept c) refl

  weight_from-negatives : KeepsNegatives o → (a : ℕ) (p : List E) →
      fold (λ w c. w + poly.weight_in o c) a (poly.negatives o p) ≡ fold (λ w c. w + poly.weight_in o c) a p
  weight_from-negatives k a [] = refl
  weight_from-negatives k a (c ∷ p) =
      weight_from-negatives k (a + poly.weight_in o (o.negative c)) p ∙
      ap (λ w. fold (λ w c. w + poly.weight_in o c) (a + w) p) (weight_in-negative k c)

  pub weight-negatives : KeepsNegatives o → (p : List E) → poly.weight o (poly.negatives o p) ≡ poly.weight o p
  weight-negatives k p = weight_from-negatives k 0 p

  leading-negative : KeepsNegatives o → (c : E) (p : List E) →
      poly.leading o (o.negative c) (poly.negatives o p) ≡ poly.negatives o (poly.leading o c p)
  leading-negative k c [] = rw (k.zero_kept c) (by_zero (o.is_zero c))
    where
      by_zero : (z : Bool) → (if z then [] else o.negative c ∷ []) ≡ poly.negatives o (if z then [] else c ∷ [])
      by_zero true = refl
      by_zero false = refl
  leading-negative k c (d ∷ p) = refl

  pub trimmed-negatives : KeepsNegatives o → (p : List E) → poly.trimmed o (poly.negatives o p) ≡ poly.negatives o (poly.trimmed o p)
  trimmed-negatives k [] = refl
  trimmed-negatives k (c ∷ p) = ap (poly.leading o (o.negative c)) (trimmed-negatives k p) ∙ leading-negative k c (poly.trimmed o p)
