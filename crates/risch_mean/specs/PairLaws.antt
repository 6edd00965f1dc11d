-- The operations on pairs respect the equality of fractions: N·M' = N'·M.
use Rattle.std.specs.Prelude.{◌≡◌, refl, List, [], ◌∷◌}
use Rattle.std.proofs.Common.{sym, ap, ap₂, ◌∙◌}
use Rattle.risch_ring.specs.CommRing.{CommRing, sub}
use Rattle.risch_ring.proofs.Expression.{reading}
use Rattle.risch_ring.proofs.Solver.{ring}
use Rattle.risch_ring.proofs.Domains.{product-nonzero}
use Rattle.risch_ring.proofs.Laws as Laws
use Rattle.risch_mean.specs.Pairs.{IsDecidableDomain, Pair, Same, add_pairs, mul_pairs, neg_pair, inverse_pair_by}

module _ {A : Type 0} (R : CommRing A) (d : IsDecidableDomain R) where
  open R use {zero as 𝟘, one as 𝟙, add as ◌+◌, mul as ◌*◌, neg as -◌}

  infixl 60 ◌+◌
  infixl 70 ◌*◌
  infix 80 -◌
  pub mul_cancel : (x y z : A) → ¬ (z ≡ 𝟘) → x * z ≡ y * z → x ≡ y
  mul_cancel x y z n h =
      elim (d.is_zero (sub R x y)) [
        | yes e ↦ Laws.eq_of_sub R x y e
        | no m ↦ absurd (product-nonzero R d.domain m n (ring R (x ∷ y ∷ z ∷ []) {x = sub R x y * z} {y = sub R (x * z) (y * z)} (search reading depth 20) refl ∙ ap (λ w. sub R w (y * z)) h ∙ R.add-neg (y * z)))
      ]

  mul_right_comm : (x y z : A) → (x * y) * z ≡ (x * z) * y
  mul_right_comm x y z = ring R (x ∷ y ∷ z ∷ []) (search reading depth 20) refl

  pub same_trans : (a b c : Pair R) → Same R d a b → Same R d b c → Same R d a c
  same_trans a b c h k =
      mul_cancel (a.num * c.den) (c.num * a.den) b.den b.den-ne-zero
      (mul_right_comm a.num c.den b.den ∙ ap (λ w. w * c.den) h ∙ mul_right_comm b.num a.den c.den ∙ ap (λ w. w * a.den) k ∙ mul_right_comm c.num b.den a.den)

  pub same_add : (a b a' b' : Pair R) → Same R d a a' → Same R d b b' → Same R d (add_pairs R d a b) (add_pairs R d a' b')
  same_add a b a' b' h k =
      ring R atoms {x = (a.num * b.den + b.num * a.den) * (a'.den * b'.den)} {y = (a.num * a'.den) * (b.den * b'.den) + (b.num * b'.den) * (a.den * a'.den)} (search reading depth 30 fits 4000) refl
      ∙ ap₂ (λ v w. v * (b.den * b'.den) + w * (a.den * a'.den)) h k
      ∙ ring R atoms {x = (a'.num * a.den) * (b.den * b'.den) + (b'.num * b.den) * (a.den * a'.den)} {y = (a'.num * b'.den + b'.num * a'.den) * (a.den * b.den)} (search reading depth 30 fits 4000) refl
    where
      atoms : List A
      atoms = a.num ∷ a.den ∷ b.num ∷ b.den ∷ a'.num ∷ a'.den ∷ b'.num ∷ b'.den ∷ []

  pub same_mul : (a b a' b' : Pair R) → Same R d a a' → Same R d b b' → Same R d (mul_pairs R d a b) (mul_pairs R d a' b')
  same_mul a b a' b' h k = exchange a.num b.num a'.den b'.den ∙ ap₂ R.mul h k ∙ exchange a'.num a.den b'.num b.den
    where
      exchange : (x y z w : A) → (x * y) * (z * w) ≡ (x * z) * (y * w)
      exchange x y z w = ring R (x ∷ y ∷ z ∷ w ∷ []) (search reading depth 20) refl

  pub same_neg : (a a' : Pair R) → Same R d a a' → Same R d (neg_pair R d a) (neg_pair R d a')
  same_neg a a' h = out a.num a'.den ∙ ap R.neg h ∙ sym (out a'.num a.den)
    where
      out : (x y : A) → - x * y ≡ - (x * y)
      out x y = ring R (x ∷ y ∷ []) (search reading depth 20) refl

  pub zero-mul : (x : A) → 𝟘 * x ≡ 𝟘
  zero-mul x = ring R (x ∷ []) (search reading depth 20) refl

  -- a fraction with numerator 0 equals only such
  pub num-zero : (a a' : Pair R) → Same R d a a' → a.num ≡ 𝟘 → a'.num ≡ 𝟘
  num-zero a a' h e =
      elim (d.is_zero a'.num) [
        | yes p ↦ p
        | no n ↦ absurd (product-nonzero R d.domain n a.den-ne-zero (sym h ∙ ap (λ w. w * a'.den) e ∙ zero-mul a'.den))
      ]

  pub same_inverse : (a a' : Pair R) (p : Dec (a.num ≡ 𝟘)) (q : Dec (a'.num ≡ 𝟘)) → Same R d a a' → Same R d (inverse_pair_by R d a p) (inverse_pair_by R d a' q)
  same_inverse a a' (yes p) (yes q) h = refl
  same_inverse a a' (yes p) (no n) h = absurd (n (num-zero a a' h p))
  same_inverse a a' (no n) (yes p) h = absurd (n (num-zero a' a (sym h) p))
  same_inverse a a' (no m) (no n) h = R.mul_comm a.den a'.num ∙ sym h ∙ R.mul_comm a.num a'.den
