-- The fractions of a domain form a field.
use Rattle.std.specs.Prelude.{◌≡◌, refl, [], ◌∷◌}
use Rattle.std.proofs.Common.{sym, ap, ◌∙◌}
use mathlib.Core.HLevel.{Π_prop}
use mathlib.Core.Logic.{Dec-prop}
use native.Mathlib.Decide.{map_dec}
use mathlib.Core.Quot.Quotient
use mathlib.Core.Quot.{Quotient-set}
use Rattle.risch_ring.specs.CommRing.{CommRing, Field}
use Rattle.risch_ring.proofs.Expression.{reading}
use Rattle.risch_ring.proofs.Solver.{ring}
use Rattle.risch_mean.specs.Pairs.{IsDecidableDomain, Pair, Same, add_pairs, mul_pairs, neg_pair, whole_pair, inverse_pair_by, inverse_pair}
use Rattle.risch_mean.specs.PairLaws.{num-zero, zero-mul}
use Rattle.risch_mean.specs.Fractions.{Fraction, pairs, class, add, mul, neg, inverse, whole, zero, one}

module _ {A : Type 0} (R : CommRing A) (d : IsDecidableDomain R) where
  open R use {zero as 𝟘, one as 𝟙, add as ◌+◌, mul as ◌*◌, neg as -◌}

  infixl 60 ◌+◌
  infixl 70 ◌*◌
  infix 80 -◌
  pub Fraction-set : IsSet (Fraction R d)
  Fraction-set = Quotient-set (pairs R d)

  -- ---- what they are on classes
  pub add-class : (a b : Pair R) → add R d (class R d a) (class R d b) ≡ class R d (add_pairs R d a b)
  unfolding add Quotient.lift₂
  add-class a b = refl

  pub mul-class : (a b : Pair R) → mul R d (class R d a) (class R d b) ≡ class R d (mul_pairs R d a b)
  unfolding mul Quotient.lift₂
  mul-class a b = refl

  pub neg-class : (a : Pair R) → neg R d (class R d a) ≡ class R d (neg_pair R d a)
  unfolding neg Quotient.lift
  neg-class a = refl

  pub inverse-class : (a : Pair R) → inverse R d (class R d a) ≡ class R d (inverse_pair R d a)
  unfolding inverse Quotient.lift
  inverse-class a = refl

  -- equal classes are the classes of pairs with N·M' = N'·M
  pub class-same : (a b : Pair R) → class R d a ≡ class R d b → Same R d a b
  class-same a b h = Quotient.exact (pairs R d) (λ u v. R.is_set _ _) h

  pub same-class : (a b : Pair R) → Same R d a b → class R d a ≡ class R d b
  same-class a b h = Quotient.sound (pairs R d) h

  -- ---- an equation between fractions is shown on pairs
  pub by_pairs : (f g : Fraction R d → Fraction R d) → ((a : Pair R) → f (class R d a) ≡ g (class R d a)) → (x : Fraction R d) → f x ≡ g x
  by_pairs f g h = Quotient.ind (pairs R d) {motive = λ x. f x ≡ g x} (λ x. Fraction-set _ _) h

  pub by_pairs₂ : (f g : Fraction R d → Fraction R d → Fraction R d) → ((a b : Pair R) → f (class R d a) (class R d b) ≡ g (class R d a) (class R d b)) → (x y : Fraction R d) → f x y ≡ g x y
  by_pairs₂ f g h = Quotient.ind₂ (pairs R d) (pairs R d) {motive = λ x y. f x y ≡ g x y} (λ x y. Fraction-set _ _) h

  pub by_pairs₃ : (f g : Fraction R d → Fraction R d → Fraction R d → Fraction R d) → ((a b c : Pair R) → f (class R d a) (class R d b) (class R d c) ≡ g (class R d a) (class R d b) (class R d c)) →
      (x y z : Fraction R d) → f x y z ≡ g x y z
  by_pairs₃ f g h x y z = Quotient.induction_on₃ (pairs R d) (pairs R d) (pairs R d) {motive = λ x y z. f x y z ≡ g x y z} (λ x y z. Fraction-set _ _) x y z h

  -- ---- the laws of a field
  pub add_assoc : (x y z : Fraction R d) → add R d (add R d x y) z ≡ add R d x (add R d y z)
  unfolding add Quotient.lift₂
  add_assoc = by_pairs₃ (λ x y z. add R d (add R d x y) z) (λ x y z. add R d x (add R d y z))
      (λ a b c. same-class _ _ (ring R (a.num ∷ a.den ∷ b.num ∷ b.den ∷ c.num ∷ c.den ∷ []) (search reading depth 30 fits 4000) refl))

  pub add_comm : (x y : Fraction R d) → add R d x y ≡ add R d y x
  unfolding add Quotient.lift₂
  add_comm = by_pairs₂ (λ x y. add R d x y) (λ x y. add R d y x)
      (λ a b. same-class _ _ (ring R (a.num ∷ a.den ∷ b.num ∷ b.den ∷ []) (search reading depth 30 fits 4000) refl))

  pub add-zero : (x : Fraction R d) → add R d x (zero R d) ≡ x
  unfolding add Quotient.lift₂ zero whole
  add-zero = by_pairs (λ x. add R d x (zero R d)) (λ x. x) (λ a. same-class _ _ (ring R (a.num ∷ a.den ∷ []) (search reading depth 30 fits 4000) refl))

  pub add-neg : (x : Fraction R d) → add R d x (neg R d x) ≡ zero R d
  unfolding add neg Quotient.lift₂ Quotient.lift zero whole
  add-neg = by_pairs (λ x. add R d x (neg R d x)) (λ x. zero R d) (λ a. same-class _ _ (ring R (a.num ∷ a.den ∷ []) (search reading depth 30 fits 4000) refl))

  pub mul_assoc : (x y z : Fraction R d) → mul R d (mul R d x y) z ≡ mul R d x (mul R d y z)
  unfolding mul Quotient.lift₂
  mul_assoc = by_pairs₃ (λ x y z. mul R d (mul R d x y) z) (λ x y z. mul R d x (mul R d y z))
      (λ a b c. same-class _ _ (ring R (a.num ∷ a.den ∷ b.num ∷ b.den ∷ c.num ∷ c.den ∷ []) (search reading depth 30 fits 4000) refl))

  pub mul_comm : (x y : Fraction R d) → mul R d x y ≡ mul R d y x
  unfolding mul Quotient.lift₂
  mul_comm = by_pairs₂ (λ x y. mul R d x y) (λ x y. mul R d y x)
      (λ a b. same-class _ _ (ring R (a.num ∷ a.den ∷ b.num ∷ b.den ∷ []) (search reading depth 30 fits 4000) refl))

  pub mul-one : (x : Fraction R d) → mul R d x (one R d) ≡ x
  unfolding mul Quotient.lift₂ one whole
  mul-one = by_pairs (λ x. mul R d x (one R d)) (λ x. x) (λ a. same-class _ _ (ring R (a.num ∷ a.den ∷ []) (search reading depth 30 fits 4000) refl))

  pub mul-add : (x y z : Fraction R d) → mul R d x (add R d y z) ≡ add R d (mul R d x y) (mul R d x z)
  unfolding add mul Quotient.lift₂
  mul-add = by_pairs₃ (λ x y z. mul R d x (add R d y z)) (λ x y z. add R d (mul R d x y) (mul R d x z))
      (λ a b c. same-class _ _ (ring R (a.num ∷ a.den ∷ b.num ∷ b.den ∷ c.num ∷ c.den ∷ []) (search reading depth 30 fits 4000) refl))

  -- whether a fraction is 0: whether its numerator is
  pub zero-class : (a : Pair R) → class R d a ≡ zero R d → a.num ≡ 𝟘
  unfolding zero whole
  zero-class a h = num-zero R d (whole_pair R d 𝟘) a (sym (class-same a (whole_pair R d 𝟘) h)) refl

  pub class-zero : (a : Pair R) → a.num ≡ 𝟘 → class R d a ≡ zero R d
  unfolding zero whole
  class-zero a h = same-class a (whole_pair R d 𝟘) (ap (λ w. w * 𝟙) h ∙ zero-mul R d 𝟙 ∙ sym (zero-mul R d a.den))

  pub is_zero : (x : Fraction R d) → Dec (x ≡ zero R d)
  is_zero = Quotient.ind (pairs R d) {motive = λ x. Dec (x ≡ zero R d)} (λ x. Dec-prop (Fraction-set x (zero R d))) (λ a. map_dec (class-zero a) (zero-class a) (d.is_zero a.num))

  pub one-ne-zero : ¬ (one R d ≡ zero R d)
  unfolding one whole
  one-ne-zero h = d.domain.one-ne-zero (zero-class (whole_pair R d 𝟙) h)

  inverse_pair_is : (a : Pair R) (p : Dec (a.num ≡ 𝟘)) → ¬ (a.num ≡ 𝟘) → Same R d (mul_pairs R d a (inverse_pair_by R d a p)) (whole_pair R d 𝟙)
  inverse_pair_is a (yes p) n = absurd (n p)
  inverse_pair_is a (no m) n = ring R (a.num ∷ a.den ∷ []) (search reading depth 30 fits 4000) refl

  pub mul-inverse : (x : Fraction R d) → ¬ (x ≡ zero R d) → mul R d x (inverse R d x) ≡ one R d
  unfolding mul inverse Quotient.lift₂ Quotient.lift one whole
  mul-inverse = Quotient.ind (pairs R d) {motive = λ x. ¬ (x ≡ zero R d) → mul R d x (inverse R d x) ≡ one R d} (λ x. Π_prop (λ n. Fraction-set _ _))
      (λ a n. same-class (mul_pairs R d a (inverse_pair R d a)) (whole_pair R d 𝟙) (inverse_pair_is a (d.is_zero a.num) (λ e. n (class-zero a e))))

  pub inverse-zero : inverse R d (zero R d) ≡ zero R d
  unfolding inverse Quotient.lift zero whole
  inverse-zero = same-class _ _ (of_zero (d.is_zero 𝟘))
    where
      of_zero : (p : Dec (𝟘 ≡ 𝟘)) → Same R d (inverse_pair_by R d (whole_pair R d 𝟘) p) (whole_pair R d 𝟘)
      of_zero (yes p) = refl
      of_zero (no n) = absurd (n refl)

  abbrev pub fractions : Field (Fraction R d)
  fractions = record {
    ring = record {
      zero = zero R d;
      one = one R d;
      add = add R d;
      mul = mul R d;
      neg = neg R d;
      is_set = Fraction-set;
      add_assoc = add_assoc;
      add_comm = add_comm;
      add-zero = add-zero;
      add-neg = add-neg;
      mul_assoc = mul_assoc;
      mul_comm = mul_comm;
      mul-one = mul-one;
      mul-add = mul-add;
    };
    inverse = inverse R d;
    is_zero = is_zero;
    one-ne-zero = one-ne-zero;
    mul-inverse = mul-inverse;
  }

  -- the ring lies in its field of fractions
  pub whole-add : (x y : A) → whole R d (x + y) ≡ add R d (whole R d x) (whole R d y)
  unfolding whole add Quotient.lift₂
  whole-add x y = same-class _ _ (ring R (x ∷ y ∷ []) (search reading depth 30 fits 4000) refl)

  pub whole-mul : (x y : A) → whole R d (x * y) ≡ mul R d (whole R d x) (whole R d y)
  unfolding whole mul Quotient.lift₂
  whole-mul x y = same-class _ _ (ring R (x ∷ y ∷ []) (search reading depth 30 fits 4000) refl)

  pub whole_injective : (x y : A) → whole R d x ≡ whole R d y → x ≡ y
  unfolding whole
  whole_injective x y h = sym (R.mul-one x) ∙ class-same (whole_pair R d x) (whole_pair R d y) h ∙ R.mul-one y

  -- the class of (N, M) is N / M
  pub class-is : (a : Pair R) → class R d a ≡ mul R d (whole R d a.num) (inverse R d (whole R d a.den))
  unfolding whole mul inverse Quotient.lift₂ Quotient.lift
  class-is a = same-class _ _ (by (d.is_zero a.den))
    where
      by : (p : Dec (a.den ≡ 𝟘)) → Same R d a (mul_pairs R d (whole_pair R d a.num) (inverse_pair_by R d (whole_pair R d a.den) p))
      by (yes p) = absurd (a.den-ne-zero p)
      by (no n) = ring R (a.num ∷ a.den ∷ []) (search reading depth 30 fits 4000) refl
