-- The field of fractions of a domain: the classes of pairs (N, M) with M ≠ 0, where (N, M) and (N', M') are one class if N·M' = N'·M.
use Rattle.std.specs.Prelude.{refl}
use Rattle.std.proofs.Common.{sym}
use mathlib.Core.Quot.Quotient
use mathlib.Core.Quot.{Quotient, Setoid, Quotient-set}
use Rattle.risch_ring.specs.CommRing.{CommRing}
use Rattle.risch_mean.specs.Pairs.{IsDecidableDomain, Pair, Same, add_pairs, mul_pairs, neg_pair, whole_pair, inverse_pair}
use Rattle.risch_mean.specs.PairLaws.{same_trans, same_add, same_mul, same_neg, same_inverse}

module _ {A : Type 0} (R : CommRing A) (d : IsDecidableDomain R) where
  open R use {zero as 𝟘, one as 𝟙}

  -- the equality of fractions
  abbrev pub pairs : Setoid {0, 0} (Pair R)
  pairs = record { r = Same R d; iseqv = record { refl = λ a. refl; symm = λ a b h. sym h; trans = same_trans R d } }

  -- the classes of pairs
  abbrev pub Fraction : Type 0
  Fraction = Quotient pairs

  -- the class of (N, M)
  abbrev pub class : Pair R → Fraction
  class a = Quotient.mk pairs a

  -- ---- the operations, on any pairs of the classes
  unfoldable pub add : Fraction → Fraction → Fraction
  add = Quotient.lift₂ pairs pairs (Quotient-set pairs) (λ a b. class (add_pairs R d a b)) (λ a b a' b' h k. Quotient.sound pairs (same_add R d a b a' b' h k))

  unfoldable pub mul : Fraction → Fraction → Fraction
  mul = Quotient.lift₂ pairs pairs (Quotient-set pairs) (λ a b. class (mul_pairs R d a b)) (λ a b a' b' h k. Quotient.sound pairs (same_mul R d a b a' b' h k))

  unfoldable pub neg : Fraction → Fraction
  neg = Quotient.lift pairs (Quotient-set pairs) (λ a. class (neg_pair R d a)) (λ a a' h. Quotient.sound pairs (same_neg R d a a' h))

  unfoldable pub inverse : Fraction → Fraction
  inverse = Quotient.lift pairs (Quotient-set pairs) (λ a. class (inverse_pair R d a)) (λ a a' h. Quotient.sound pairs (same_inverse R d a a' (d.is_zero a.num) (d.is_zero a'.num) h))

  -- x / 1
  unfoldable pub whole : A → Fraction
  whole x = class (whole_pair R d x)

  unfoldable pub zero : Fraction
  zero = whole 𝟘

  unfoldable pub one : Fraction
  one = whole 𝟙
