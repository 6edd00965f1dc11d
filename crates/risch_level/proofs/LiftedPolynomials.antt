-- A polynomial over the field below is one over the level, of the same weight.
use Rattle.std.specs.Prelude.{if◌then◌else◌, fold}
use Rattle.std.proofs.Common.{◌≡◌, ℕ, ◌+◌, Bool, true, false, List, [], ◌∷◌, ◌∙◌, sym, ap, refl}
use Rattle.std.proofs.lemmas.List.{length-map}
use Rattle.risch_field.specs.Ops.{Ops}
use Rattle.risch_polynomial.specs.Poly as poly
use Rattle.risch_polynomial.specs.Polynomial.{IsPolynomial}
use Rattle.risch_level.specs.Over.{over}
use Rattle.risch_level.specs.Tower.{lifted}
use Rattle.risch_level.specs.declared.over.Over.TheVariants.{Below}

module _ {E : Type 0} (o : Ops E) where
  leading-lifted : (c : E) (p : List E) → poly.leading (over o) (Below c) (lifted o p) ≡ lifted o (poly.leading o c p)
  leading-lifted c [] = by_zero (o.is_zero c)
    where
      by_zero : (z : Bool) → (if z then [] else Below c ∷ []) ≡ lifted o (if z then [] else c ∷ [])
      by_zero true = refl
      by_zero false = refl
  leading-lifted c (d ∷ p) = refl

  trimmed-lifted : (p : List E) → poly.trimmed (over o) (lifted o p) ≡ lifted o (poly.trimmed o p)
  trimmed-lifted [] = refl
  trimmed-lifted (c ∷ p) = ap (poly.leading (over o) (Below c)) (trimmed-lifted p) ∙ leading-lifted c (poly.trimmed o p)

  weight_from-lifted : (a : ℕ) (p : List E) →
      fold (λ w c. w + poly.weight_in (over o) c) a (lifted o p) ≡ fold (λ w c. w + poly.weight_in o c) a p
  weight_from-lifted a [] = refl
  weight_from-lifted a (c ∷ p) = weight_from-lifted (a + poly.weight_in o c) p

  weight-lifted : (p : List E) → poly.weight (over o) (lifted o p) ≡ poly.weight o p
  weight-lifted p = weight_from-lifted 0 p

  pub IsPolynomial-lifted : (p : List E) (w : ℕ) → IsPolynomial o p w → IsPolynomial (over o) (lifted o p) w
  IsPolynomial-lifted p w is = record {
    ends_not_zero = trimmed-lifted p ∙ ap (lifted o) is.ends_not_zero;
    weight_is = is.weight_is ∙ sym (weight-lifted p);
    weight_small = is.weight_small;
    degree_small = rw (length-map p Below) is.degree_small;
  }
