-- What follows for every homomorphism f of commutative rings and of fields, the identity, and composition.
use Rattle.std.specs.Prelude.{◌≡◌, refl, ℕ, zero, suc, List, [], ◌∷◌, ℤ, pos, negsuc}
use Rattle.std.proofs.Common.{sym, ap, ap₂, ◌∙◌}
use Rattle.risch_ring.specs.CommRing.{CommRing, Field, HasCharacteristicZero, RingMap, sub, power, of_nat, of_int, quotient}
use Rattle.risch_ring.specs.Sums.{sum_over, sum_below, product_over}
use Rattle.risch_ring.specs.Integers.{ints}
use Rattle.risch_ring.proofs.Laws as Laws
use Rattle.risch_ring.proofs.FieldLaws.{mul_left_cancel}

module _ {A B : Type 0} {R : CommRing A} {S : CommRing B} (f : RingMap R S) where
  -- f(0) = 0
  pub apply-zero : f.apply R.zero ≡ S.zero
  apply-zero =
      Laws.add_right_cancel S (f.apply R.zero) S.zero (f.apply R.zero)
      (sym (f.apply-add R.zero R.zero) ∙ ap f.apply (R.add-zero R.zero) ∙ sym (Laws.zero-add S (f.apply R.zero)))

  -- f(-x) = -f(x)
  pub apply-neg : (x : A) → f.apply (R.neg x) ≡ S.neg (f.apply x)
  apply-neg x = Laws.neg_of_add S (f.apply x) (f.apply (R.neg x)) (sym (f.apply-add (R.neg x) x) ∙ ap f.apply (Laws.neg-add R x) ∙ apply-zero)

  -- f(x - y) = f(x) - f(y)
  pub apply-sub : (x y : A) → f.apply (sub R x y) ≡ sub S (f.apply x) (f.apply y)
  apply-sub x y = f.apply-add x (R.neg y) ∙ ap (S.add (f.apply x)) (apply-neg y)

  -- f(x^n) = f(x)^n
  pub apply-power : (x : A) (n : ℕ) → f.apply (power R x n) ≡ power S (f.apply x) n
  unfolding power
  apply-power x zero = f.apply-one
  apply-power x (suc n) = f.apply-mul x (power R x n) ∙ ap (S.mul (f.apply x)) (apply-power x n)

  -- f(n·1) = n·1
  pub apply-of_nat : (n : ℕ) → f.apply (of_nat R n) ≡ of_nat S n
  unfolding of_nat
  apply-of_nat zero = apply-zero
  apply-of_nat (suc n) = f.apply-add R.one (of_nat R n) ∙ ap₂ S.add f.apply-one (apply-of_nat n)

  -- the same for integers
  pub apply-of_int : (c : ℤ) → f.apply (of_int R c) ≡ of_int S c
  unfolding of_int
  apply-of_int (pos n) = apply-of_nat n
  apply-of_int (negsuc n) = apply-neg (of_nat R (suc n)) ∙ ap S.neg (apply-of_nat (suc n))

  -- f(Σ g(x)) = Σ f(g(x))
  pub sum_over-apply : {X : Type 0} (g : X → A) (xs : List X) → f.apply (sum_over R g xs) ≡ sum_over S (λ x. f.apply (g x)) xs
  unfolding sum_over
  sum_over-apply g [] = apply-zero
  sum_over-apply g (x ∷ xs) = f.apply-add (g x) (sum_over R g xs) ∙ ap (S.add (f.apply (g x))) (sum_over-apply g xs)

  -- f(Π g(x)) = Π f(g(x))
  pub product_over-apply : {X : Type 0} (g : X → A) (xs : List X) → f.apply (product_over R g xs) ≡ product_over S (λ x. f.apply (g x)) xs
  unfolding product_over
  product_over-apply g [] = f.apply-one
  product_over-apply g (x ∷ xs) = f.apply-mul (g x) (product_over R g xs) ∙ ap (S.mul (f.apply (g x))) (product_over-apply g xs)

  -- f(Σ over i < n of g(i)) = Σ over i < n of f(g(i))
  pub sum_below-apply : (g : ℕ → A) (n : ℕ) → f.apply (sum_below R g n) ≡ sum_below S (λ i. f.apply (g i)) n
  unfolding sum_below
  sum_below-apply g zero = apply-zero
  sum_below-apply g (suc n) = f.apply-add (sum_below R g n) (g n) ∙ ap (λ s. S.add s (f.apply (g n))) (sum_below-apply g n)

-- the integers map to every commutative ring
pub int_map : {A : Type 0} (R : CommRing A) → RingMap ints R
int_map R = record { apply = of_int R; apply-one = Laws.of_int-one R; apply-add = Laws.of_int-add R; apply-mul = Laws.of_int-mul R }

-- the identity
abbrev pub identity_map : {A : Type 0} (R : CommRing A) → RingMap R R
identity_map R = record { apply = λ x. x; apply-one = refl; apply-add = λ x y. refl; apply-mul = λ x y. refl }

-- g ∘ f
abbrev pub compose : {A B C : Type 0} {R : CommRing A} {S : CommRing B} {T : CommRing C} → RingMap S T → RingMap R S → RingMap R T
compose g f = record {
  apply = λ x. g.apply (f.apply x);
  apply-one = ap g.apply f.apply-one ∙ g.apply-one;
  apply-add = λ x y. ap g.apply (f.apply-add x y) ∙ g.apply-add (f.apply x) (f.apply y);
  apply-mul = λ x y. ap g.apply (f.apply-mul x y) ∙ g.apply-mul (f.apply x) (f.apply y);
}

module _ {A B : Type 0} (F : Field A) (G : Field B) (f : RingMap F.ring G.ring) where
  -- a homomorphism of fields takes a ≠ 0 to an element that is not 0
  pub apply-nonzero : (a : A) → ¬ (a ≡ F.zero) → ¬ (f.apply a ≡ G.zero)
  apply-nonzero a n e = G.one-ne-zero
      (sym f.apply-one ∙ ap f.apply (sym (F.mul-inverse a n)) ∙ f.apply-mul a (F.inverse a) ∙ ap (λ z. G.mul z (f.apply (F.inverse a))) e
      ∙ Laws.zero-mul G.ring (f.apply (F.inverse a)))

  -- characteristic 0 passes to extensions
  pub apply-characteristic : HasCharacteristicZero F.ring → HasCharacteristicZero G.ring
  apply-characteristic char n e = apply-nonzero (of_nat F.ring (suc n)) (char n) (apply-of_nat f (suc n) ∙ e)

  -- f(1/y) = 1/f(y) for y ≠ 0
  pub apply-inverse : (y : A) → ¬ (y ≡ F.zero) → f.apply (F.inverse y) ≡ G.inverse (f.apply y)
  apply-inverse y n =
      mul_left_cancel G (f.apply y) (f.apply (F.inverse y)) (G.inverse (f.apply y)) (apply-nonzero y n)
      (sym (f.apply-mul y (F.inverse y)) ∙ ap f.apply (F.mul-inverse y n) ∙ f.apply-one ∙ sym (G.mul-inverse (f.apply y) (apply-nonzero y n)))

  -- f(x/y) = f(x)/f(y) for y ≠ 0
  pub apply-quotient : (x y : A) → ¬ (y ≡ F.zero) → f.apply (quotient F x y) ≡ quotient G (f.apply x) (f.apply y)
  apply-quotient x y n = f.apply-mul x (F.inverse y) ∙ ap (G.mul (f.apply x)) (apply-inverse y n)

  -- a homomorphism of fields is injective
  pub apply-injective : (x y : A) → f.apply x ≡ f.apply y → x ≡ y
  apply-injective x y e =
      equal (F.is_zero (sub F.ring x y))
    where
      equal : Dec (sub F.ring x y ≡ F.zero) → x ≡ y
      equal (yes z) = Laws.eq_of_sub F.ring x y z
      equal (no n) = absurd (apply-nonzero (sub F.ring x y) n (apply-sub f x y ∙ ap (λ w. sub G.ring w (f.apply y)) e ∙ G.add-neg (f.apply y)))
