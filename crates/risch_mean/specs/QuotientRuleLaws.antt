-- The derivative of polynomials is additive and has the product rule, and the quotient rule gives the same for each pair N, M of one fraction.
use Rattle.std.specs.Prelude.{◌≡◌, refl, ℕ, suc, List, [], ◌∷◌, ℤ}
use Rattle.std.proofs.Common.{sym, ap, ap₂, ◌∙◌}
use Rattle.risch_ring.proofs.Expression.{reading}
use Rattle.risch_ring.proofs.Solver.{ring}
use Rattle.risch_mean.specs.Polynomial
use Rattle.risch_mean.specs.PolynomialLaws
use Rattle.risch_mean.specs.ElementFieldLaws
use Rattle.risch_mean.specs.Pairs
use Rattle.risch_mean.specs.ElementLaws
use Rattle.risch_mean.specs.Polynomial.{Polynomial}
use Rattle.risch_mean.specs.PolynomialLaws.{polynomials}
use Rattle.risch_mean.specs.Pairs.{Pair}
use Rattle.risch_mean.specs.Element.{Element, of_pair, zero, add, mul, minus, polynomial}
use Rattle.risch_mean.specs.ElementField.{elements}
use Rattle.risch_mean.specs.PolynomialDomain.{domain}
use Rattle.risch_mean.specs.ElementLaws.{polynomial-add, polynomial-mul, polynomial-zero, polynomial-ne-zero, of_pair-mul-den, mul_cancel, over-mul, mul-ne-zero}
use Rattle.risch_mean.specs.QuotientRule.{derive_from, derive_polynomial, quotient_rule}

module _ (vs : List Element) where
  abbrev D : Polynomial → Element
  D p = derive_polynomial vs p

  from-add : (i : ℕ) (vs : List Element) (p q : Polynomial) → derive_from i vs (Polynomial.add p q) ≡ add (derive_from i vs p) (derive_from i vs q)
  unfolding derive_from
  from-add i [] p q = ring elements.ring [] (search reading depth 20) refl
  from-add i (v ∷ vs) p q =
      ap₂ (λ f g. add (mul f v) g) (ap polynomial (PolynomialLaws.partial-add i p q) ∙ polynomial-add (Polynomial.partial i p) (Polynomial.partial i q)) (from-add (suc i) vs p q)
      ∙ rearranged (polynomial (Polynomial.partial i p)) (polynomial (Polynomial.partial i q)) v (derive_from (suc i) vs p) (derive_from (suc i) vs q)
    where
      rearranged : (a b v x y : Element) → add (mul (add a b) v) (add x y) ≡ add (add (mul a v) x) (add (mul b v) y)
      rearranged a b v x y = ring elements.ring (a ∷ b ∷ v ∷ x ∷ y ∷ []) (search reading depth 30 fits 4000) refl

  from-mul : (i : ℕ) (vs : List Element) (p q : Polynomial) →
      derive_from i vs (Polynomial.mul p q) ≡ add (mul (derive_from i vs p) (polynomial q)) (mul (polynomial p) (derive_from i vs q))
  unfolding derive_from
  from-mul i [] p q = nothing (polynomial p) (polynomial q)
    where
      nothing : (a b : Element) → zero ≡ add (mul zero b) (mul a zero)
      nothing a b = ring elements.ring (a ∷ b ∷ []) (search reading depth 30 fits 4000) refl
  from-mul i (v ∷ vs) p q =
      ap₂ (λ f g. add (mul f v) g)
      (ap polynomial (PolynomialLaws.partial-mul i p q) ∙ polynomial-add _ _ ∙ ap₂ add (polynomial-mul (Polynomial.partial i p) q) (polynomial-mul p (Polynomial.partial i q)))
      (from-mul (suc i) vs p q)
      ∙ rearranged (polynomial (Polynomial.partial i p)) (polynomial (Polynomial.partial i q)) (polynomial p) (polynomial q) v (derive_from (suc i) vs p) (derive_from (suc i) vs q)
    where
      rearranged : (a b p q v x y : Element) → add (mul (add (mul a q) (mul p b)) v) (add (mul x q) (mul p y)) ≡ add (mul (add (mul a v) x) q) (mul p (add (mul b v) y))
      rearranged a b p q v x y = ring elements.ring (a ∷ b ∷ p ∷ q ∷ v ∷ x ∷ y ∷ []) (search reading depth 40 fits 8000) refl

  from-constant : (i : ℕ) (vs : List Element) (c : ℤ) → derive_from i vs (Polynomial.constant c) ≡ zero
  unfolding derive_from
  from-constant i [] c = refl
  from-constant i (v ∷ vs) c = ap₂ (λ f g. add (mul f v) g) (ap polynomial (PolynomialLaws.partial-constant i c) ∙ polynomial-zero) (from-constant (suc i) vs c) ∙ nothing v
    where
      nothing : (v : Element) → add (mul zero v) zero ≡ zero
      nothing v = ring elements.ring (v ∷ []) (search reading depth 30 fits 4000) refl

  pub derive_polynomial-add : (p q : Polynomial) → derive_polynomial vs (Polynomial.add p q) ≡ add (derive_polynomial vs p) (derive_polynomial vs q)
  unfolding derive_polynomial
  derive_polynomial-add p q = from-add 0 vs p q

  pub derive_polynomial-mul : (p q : Polynomial) →
      derive_polynomial vs (Polynomial.mul p q) ≡ add (mul (derive_polynomial vs p) (polynomial q)) (mul (polynomial p) (derive_polynomial vs q))
  unfolding derive_polynomial
  derive_polynomial-mul p q = from-mul 0 vs p q

  pub derive_polynomial-constant : (c : ℤ) → derive_polynomial vs (Polynomial.constant c) ≡ zero
  unfolding derive_polynomial
  derive_polynomial-constant c = from-constant 0 vs c

  -- ---- the quotient rule does not depend on the pair
  -- from f·M = N: (DN·M - N·DM)/(M·M) = (DN - f·DM)/M
  pub quotient_rule-mul : (n m : Polynomial) (h : ¬ (m ≡ Polynomial.zero)) (f : Element) → mul f (polynomial m) ≡ polynomial n →
      mul (quotient_rule vs n m) (polynomial m) ≡ minus (D n) (mul f (D m))
  quotient_rule-mul n m h f e =
      mul_cancel _ _ (polynomial m) (polynomial-ne-zero m h)
      (ElementFieldLaws.mul_assoc (quotient_rule vs n m) (polynomial m) (polynomial m)
      ∙ over-mul _ (mul (polynomial m) (polynomial m)) (mul-ne-zero (polynomial m) (polynomial m) (polynomial-ne-zero m h) (polynomial-ne-zero m h))
      ∙ ap (λ k. minus (mul (D n) (polynomial m)) (mul k (D m))) (sym e)
      ∙ rearranged f (polynomial m) (D n) (D m))
    where
      rearranged : (f m dn dm : Element) → minus (mul dn m) (mul (mul f m) dm) ≡ mul (minus dn (mul f dm)) m
      rearranged f m dn dm = ring elements.ring (f ∷ m ∷ dn ∷ dm ∷ []) (search reading depth 40 fits 8000) refl

  pub quotient_rule_same : (a b : Pair polynomials) → Pairs.Same polynomials domain a b → quotient_rule vs a.num a.den ≡ quotient_rule vs b.num b.den
  quotient_rule_same a b h =
      mul_cancel _ _ (mul (polynomial a.den) (polynomial b.den)) (mul-ne-zero _ _ (polynomial-ne-zero a.den a.den-ne-zero) (polynomial-ne-zero b.den b.den-ne-zero))
      (regroup (quotient_rule vs a.num a.den) (polynomial a.den) (polynomial b.den) ∙ ap (λ k. mul k (polynomial b.den)) (quotient_rule-mul a.num a.den a.den-ne-zero f fa)
      ∙ crossed (D a.num) (D a.den) (D b.num) (D b.den) (polynomial a.den) (polynomial b.den) cross_derivative
      ∙ ap (λ k. mul k (polynomial a.den)) (sym (quotient_rule-mul b.num b.den b.den-ne-zero f fb)) ∙ regroup' (quotient_rule vs b.num b.den) (polynomial a.den) (polynomial b.den))
    where
      f : Element
      f = of_pair a.num a.den a.den-ne-zero

      fa : mul f (polynomial a.den) ≡ polynomial a.num
      fa = of_pair-mul-den a.num a.den a.den-ne-zero

      fb : mul f (polynomial b.den) ≡ polynomial b.num
      fb = ap (λ k. mul k (polynomial b.den)) (ElementLaws.same_of_pair a.num a.den b.num b.den a.den-ne-zero b.den-ne-zero h) ∙ of_pair-mul-den b.num b.den b.den-ne-zero

      -- the derivative of N·M' = N'·M
      cross_derivative : add (mul (D a.num) (polynomial b.den)) (mul (mul f (polynomial a.den)) (D b.den)) ≡ add (mul (D b.num) (polynomial a.den)) (mul (mul f (polynomial b.den)) (D a.den))
      cross_derivative =
          ap (λ k. add (mul (D a.num) (polynomial b.den)) (mul k (D b.den))) fa ∙ sym (derive_polynomial-mul a.num b.den)
          ∙ ap D h ∙ derive_polynomial-mul b.num a.den ∙ ap (λ k. add (mul (D b.num) (polynomial a.den)) (mul k (D a.den))) (sym fb)

      crossed : (na ma nb mb x y : Element) → add (mul na y) (mul (mul f x) mb) ≡ add (mul nb x) (mul (mul f y) ma) → mul (minus na (mul f ma)) y ≡ mul (minus nb (mul f mb)) x
      crossed na ma nb mb x y e =
          ring elements.ring atoms {x = mul (minus na (mul f ma)) y} {y = minus (add (mul na y) (mul (mul f x) mb)) (add (mul (mul f x) mb) (mul (mul f y) ma))} (search reading depth 40 fits 8000) refl
          ∙ ap (λ k. minus k (add (mul (mul f x) mb) (mul (mul f y) ma))) e
          ∙ ring elements.ring atoms {x = minus (add (mul nb x) (mul (mul f y) ma)) (add (mul (mul f x) mb) (mul (mul f y) ma))} {y = mul (minus nb (mul f mb)) x} (search reading depth 40 fits 8000) refl
        where
          atoms : List Element
          atoms = f ∷ na ∷ ma ∷ nb ∷ mb ∷ x ∷ y ∷ []

      regroup : (q x y : Element) → mul q (mul x y) ≡ mul (mul q x) y
      regroup q x y = ring elements.ring (q ∷ x ∷ y ∷ []) (search reading depth 20) refl

      regroup' : (q x y : Element) → mul (mul q y) x ≡ mul q (mul x y)
      regroup' q x y = ring elements.ring (q ∷ x ∷ y ∷ []) (search reading depth 20) refl
