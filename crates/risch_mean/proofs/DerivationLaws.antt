-- The derivation of elements is one.
--     derive-add, derive-mul, derivation      it is additive and has the product rule
--     derive-polynomial, derive-integer, derive-variable      its values at polynomials, whole numbers and variables
use Rattle.std.specs.Prelude.{◌≡◌, refl, ℕ, zero as nat_zero, suc, ◌+◌, ◌<◌, List, [], ◌∷◌, ℤ, pos}
use Rattle.std.proofs.Common.{sym, ap, ap₂, ◌∙◌, arith}
use mathlib.Core.HLevel.{Π_prop}
use Rattle.risch_ring.specs.CommRing.{Derivation}
use Rattle.risch_ring.proofs.Expression.{reading}
use Rattle.risch_ring.proofs.Solver.{ring}
use mathlib.Core.Quot.Quotient
use Rattle.risch_mean.specs.Polynomial
use Rattle.risch_mean.specs.PolynomialLaws
use Rattle.risch_mean.specs.Polynomial.{Polynomial}
use Rattle.risch_mean.specs.Element.{Element, of_pair, zero, one, add, mul, minus, polynomial, integer, variable}
use Rattle.risch_mean.specs.ElementField.{elements}
use Rattle.risch_mean.specs.ElementLaws.{for_pairs, polynomial-add, polynomial-mul, polynomial-zero, polynomial-one, polynomial-ne-zero, of_pair-mul-den, is_of_pair, mul_cancel, product_ne_zero}
use Rattle.risch_mean.specs.ElementFieldLaws.{is_set, mul-one}
use Rattle.risch_mean.specs.Derivation.{derive}
use Rattle.risch_mean.specs.QuotientRule.{derive_from, derive_polynomial, quotient_rule}
use Rattle.risch_mean.specs.QuotientRuleLaws.{quotient_rule-mul, derive_polynomial-add, derive_polynomial-constant, derive_polynomial-mul}

-- the element at a place of a list, 0 past its end
abbrev pub at_place : ℕ → List Element → Element
at_place i [] = zero
at_place nat_zero (v ∷ vs) = v
at_place (suc i) (v ∷ vs) = at_place i vs

pub derive-of_pair : (vs : List Element) (n m : Polynomial) (h : ¬ (m ≡ Polynomial.zero)) → derive vs (of_pair n m h) ≡ quotient_rule vs n m
unfolding Element derive of_pair Quotient.lift
derive-of_pair vs n m h = refl

-- a property of elements is shown for f with f·M = N
pub for_represented : {P : Element → Type 0} → ((f : Element) → IsProp (P f)) →
    ((f : Element) (n m : Polynomial) → ¬ (m ≡ Polynomial.zero) → mul f (polynomial m) ≡ polynomial n → P f) → (f : Element) → P f
for_represented {P} p h = for_pairs {P = P} p (λ n m k. h (of_pair n m k) n m k (of_pair-mul-den n m k))

module _ (vs : List Element) where
  -- Df·M = DN - f·DM
  pub derive-mul-den : (f : Element) (n m : Polynomial) → ¬ (m ≡ Polynomial.zero) → mul f (polynomial m) ≡ polynomial n →
      mul (derive vs f) (polynomial m) ≡ minus (derive_polynomial vs n) (mul f (derive_polynomial vs m))
  derive-mul-den f n m h e =
      ap (λ g. mul (derive vs g) (polynomial m)) (is_of_pair f n m h e) ∙ ap (λ g. mul g (polynomial m)) (derive-of_pair vs n m h)
      ∙ quotient_rule-mul vs n m h f e

  pub derive-polynomial : (p : Polynomial) → derive vs (polynomial p) ≡ derive_polynomial vs p
  derive-polynomial p =
      sym (mul-one (derive vs (polynomial p))) ∙ ap (mul (derive vs (polynomial p))) (sym polynomial-one)
      ∙ derive-mul-den (polynomial p) p Polynomial.one PolynomialLaws.one_nonzero (ap (mul (polynomial p)) polynomial-one ∙ mul-one (polynomial p))
      ∙ ap (λ k. minus (derive_polynomial vs p) (mul (polynomial p) k)) (derive_polynomial-constant-one) ∙ nothing (derive_polynomial vs p) (polynomial p)
    where
      derive_polynomial-constant-one : derive_polynomial vs Polynomial.one ≡ zero
      derive_polynomial-constant-one = ap (derive_polynomial vs) PolynomialLaws.one-is ∙ derive_polynomial-constant vs (pos 1)

      nothing : (x y : Element) → minus x (mul y zero) ≡ x
      nothing x y = ring elements.ring (x ∷ y ∷ []) (search reading depth 20) refl

  pub derive-integer : (c : ℤ) → derive vs (integer c) ≡ zero
  derive-integer c = derive-polynomial (Polynomial.constant c) ∙ derive_polynomial-constant vs c

  -- the derivative of variable i is the one at place i
  from-variable_before : (i : ℕ) (vs : List Element) (j : ℕ) → j < i → derive_from i vs (Polynomial.variable j) ≡ zero
  unfolding derive_from
  from-variable_before i [] j h = refl
  from-variable_before i (v ∷ vs) j h =
      ap₂ (λ f g. add (mul f v) g) (ap polynomial (PolynomialLaws.partial-variable_other i j (λ e. omega arith)) ∙ polynomial-zero) (from-variable_before (suc i) vs j (omega arith)) ∙ nothing v
    where
      nothing : (v : Element) → add (mul zero v) zero ≡ zero
      nothing v = ring elements.ring (v ∷ []) (search reading depth 30 fits 4000) refl

  from-variable : (i : ℕ) (vs : List Element) (j : ℕ) → derive_from i vs (Polynomial.variable (i + j)) ≡ at_place j vs
  unfolding derive_from
  from-variable i [] j = refl
  from-variable i (v ∷ vs) nat_zero =
      ap (λ (k : ℕ). add (mul (polynomial (Polynomial.partial i (Polynomial.variable k))) v) (derive_from (suc i) vs (Polynomial.variable k))) (omega arith)
      ∙ ap₂ (λ f g. add (mul f v) g) (ap polynomial (PolynomialLaws.partial-variable_same i) ∙ polynomial-one) (from-variable_before (suc i) vs i (omega arith)) ∙ once v
    where
      once : (v : Element) → add (mul one v) zero ≡ v
      once v = ring elements.ring (v ∷ []) (search reading depth 30 fits 4000) refl
  from-variable i (v ∷ vs) (suc j) =
      ap₂ (λ f g. add (mul f v) g) (ap polynomial (PolynomialLaws.partial-variable_other i (i + suc j) (λ e. omega arith)) ∙ polynomial-zero)
      (ap (λ (k : ℕ). derive_from (suc i) vs (Polynomial.variable k)) (omega arith) ∙ from-variable (suc i) vs j) ∙ rest v (at_place j vs)
    where
      rest : (v w : Element) → add (mul zero v) w ≡ w
      rest v w = ring elements.ring (v ∷ w ∷ []) (search reading depth 30 fits 4000) refl

  pub derive-variable : (i : ℕ) → derive vs (variable i) ≡ at_place i vs
  unfolding derive_polynomial
  derive-variable i = derive-polynomial (Polynomial.variable i) ∙ ap (λ (k : ℕ). derive_from 0 vs (Polynomial.variable k)) (omega arith) ∙ from-variable 0 vs i

  pub derive-add : (f g : Element) → derive vs (add f g) ≡ add (derive vs f) (derive vs g)
  derive-add =
      for_represented {P = λ f. (g : Element) → derive vs (add f g) ≡ add (derive vs f) (derive vs g)} (λ f. Π_prop (λ g. is_set _ _))
      (λ f n m h e. for_represented {P = λ g. derive vs (add f g) ≡ add (derive vs f) (derive vs g)} (λ g. is_set _ _) (λ g n' m' h' e'. by f n m h e g n' m' h' e'))
    where
      by : (f : Element) (n m : Polynomial) → ¬ (m ≡ Polynomial.zero) → mul f (polynomial m) ≡ polynomial n →
          (g : Element) (n' m' : Polynomial) → ¬ (m' ≡ Polynomial.zero) → mul g (polynomial m') ≡ polynomial n' → derive vs (add f g) ≡ add (derive vs f) (derive vs g)
      by f n m h e g n' m' h' e' =
          mul_cancel _ _ (polynomial (Polynomial.mul m m')) (polynomial-ne-zero _ (product_ne_zero m m' h h'))
          (derive-mul-den (add f g) (Polynomial.add (Polynomial.mul n m') (Polynomial.mul n' m)) (Polynomial.mul m m') (product_ne_zero m m' h h') sum
          ∙ ap₂ (λ x y. minus x (mul (add f g) y)) (derive_polynomial-add vs _ _ ∙ ap₂ add (derive_polynomial-mul vs n m') (derive_polynomial-mul vs n' m)) (derive_polynomial-mul vs m m')
          ∙ ap₂ (λ x y. minus (add (add (mul dn pm') (mul x dm')) (add (mul dn' pm) (mul y dm))) (mul (add f g) (add (mul dm pm') (mul pm dm')))) (sym e) (sym e')
          ∙ final f g pm pm' dn dn' dm dm'
          ∙ ap₂ (λ x y. add (mul x pm') (mul y pm)) (sym (derive-mul-den f n m h e)) (sym (derive-mul-den g n' m' h' e'))
          ∙ last (derive vs f) (derive vs g) pm pm' ∙ ap (mul (add (derive vs f) (derive vs g))) (sym (polynomial-mul m m')))
        where
          pm : Element
          pm = polynomial m

          pm' : Element
          pm' = polynomial m'

          dn : Element
          dn = derive_polynomial vs n

          dn' : Element
          dn' = derive_polynomial vs n'

          dm : Element
          dm = derive_polynomial vs m

          dm' : Element
          dm' = derive_polynomial vs m'

          first_step : (f g x y : Element) → mul (add f g) (mul x y) ≡ add (mul (mul f x) y) (mul (mul g y) x)
          first_step f g x y = ring elements.ring (f ∷ g ∷ x ∷ y ∷ []) (search reading depth 30 fits 4000) refl

          sum : mul (add f g) (polynomial (Polynomial.mul m m')) ≡ polynomial (Polynomial.add (Polynomial.mul n m') (Polynomial.mul n' m))
          sum =
              ap (mul (add f g)) (polynomial-mul m m') ∙ first_step f g pm pm' ∙ ap₂ (λ x y. add (mul x pm') (mul y pm)) e e'
              ∙ sym (polynomial-add (Polynomial.mul n m') (Polynomial.mul n' m) ∙ ap₂ add (polynomial-mul n m') (polynomial-mul n' m))

          final : (f g x y dn dn' dm dm' : Element) →
              minus (add (add (mul dn y) (mul (mul f x) dm')) (add (mul dn' x) (mul (mul g y) dm))) (mul (add f g) (add (mul dm y) (mul x dm')))
              ≡ add (mul (minus dn (mul f dm)) y) (mul (minus dn' (mul g dm')) x)
          final f g x y dn dn' dm dm' = ring elements.ring (f ∷ g ∷ x ∷ y ∷ dn ∷ dn' ∷ dm ∷ dm' ∷ []) (search reading depth 50 fits 16000) refl

          last : (x y z w : Element) → add (mul (mul x z) w) (mul (mul y w) z) ≡ mul (add x y) (mul z w)
          last x y z w = ring elements.ring (x ∷ y ∷ z ∷ w ∷ []) (search reading depth 30 fits 4000) refl

  pub derive-mul : (f g : Element) → derive vs (mul f g) ≡ add (mul (derive vs f) g) (mul f (derive vs g))
  derive-mul =
      for_represented {P = λ f. (g : Element) → derive vs (mul f g) ≡ add (mul (derive vs f) g) (mul f (derive vs g))} (λ f. Π_prop (λ g. is_set _ _))
      (λ f n m h e. for_represented {P = λ g. derive vs (mul f g) ≡ add (mul (derive vs f) g) (mul f (derive vs g))} (λ g. is_set _ _) (λ g n' m' h' e'. by f n m h e g n' m' h' e'))
    where
      by : (f : Element) (n m : Polynomial) → ¬ (m ≡ Polynomial.zero) → mul f (polynomial m) ≡ polynomial n →
          (g : Element) (n' m' : Polynomial) → ¬ (m' ≡ Polynomial.zero) → mul g (polynomial m') ≡ polynomial n' → derive vs (mul f g) ≡ add (mul (derive vs f) g) (mul f (derive vs g))
      by f n m h e g n' m' h' e' =
          mul_cancel _ _ (polynomial (Polynomial.mul m m')) (polynomial-ne-zero _ (product_ne_zero m m' h h'))
          (derive-mul-den (mul f g) (Polynomial.mul n n') (Polynomial.mul m m') (product_ne_zero m m' h h') product
          ∙ ap₂ (λ x y. minus x (mul (mul f g) y)) (derive_polynomial-mul vs n n') (derive_polynomial-mul vs m m')
          ∙ ap₂ (λ x y. minus (add (mul dn y) (mul x dn')) (mul (mul f g) (add (mul dm pm') (mul pm dm')))) (sym e) (sym e')
          ∙ final f g pm pm' dn dn' dm dm'
          ∙ ap₂ (λ x y. add (mul x (mul g pm')) (mul y (mul f pm))) (sym (derive-mul-den f n m h e)) (sym (derive-mul-den g n' m' h' e'))
          ∙ last f g (derive vs f) (derive vs g) pm pm' ∙ ap (mul (add (mul (derive vs f) g) (mul f (derive vs g)))) (sym (polynomial-mul m m')))
        where
          pm : Element
          pm = polynomial m

          pm' : Element
          pm' = polynomial m'

          dn : Element
          dn = derive_polynomial vs n

          dn' : Element
          dn' = derive_polynomial vs n'

          dm : Element
          dm = derive_polynomial vs m

          dm' : Element
          dm' = derive_polynomial vs m'

          exchange : (f g x y : Element) → mul (mul f g) (mul x y) ≡ mul (mul f x) (mul g y)
          exchange f g x y = ring elements.ring (f ∷ g ∷ x ∷ y ∷ []) (search reading depth 30 fits 4000) refl

          product : mul (mul f g) (polynomial (Polynomial.mul m m')) ≡ polynomial (Polynomial.mul n n')
          product = ap (mul (mul f g)) (polynomial-mul m m') ∙ exchange f g pm pm' ∙ ap₂ mul e e' ∙ sym (polynomial-mul n n')

          final : (f g x y dn dn' dm dm' : Element) →
              minus (add (mul dn (mul g y)) (mul (mul f x) dn')) (mul (mul f g) (add (mul dm y) (mul x dm')))
              ≡ add (mul (minus dn (mul f dm)) (mul g y)) (mul (minus dn' (mul g dm')) (mul f x))
          final f g x y dn dn' dm dm' = ring elements.ring (f ∷ g ∷ x ∷ y ∷ dn ∷ dn' ∷ dm ∷ dm' ∷ []) (search reading depth 50 fits 16000) refl

          last : (f g x y z w : Element) → add (mul (mul x z) (mul g w)) (mul (mul y w) (mul f z)) ≡ mul (add (mul x g) (mul f y)) (mul z w)
          last f g x y z w = ring elements.ring (f ∷ g ∷ x ∷ y ∷ z ∷ w ∷ []) (search reading depth 40 fits 8000) refl

  unfoldable pub derivation : Derivation elements.ring
  derivation = record { derive = derive vs; derive-add = derive-add; derive-mul = derive-mul }
