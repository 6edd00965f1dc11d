-- Laws of elements.
--     of_pair_same, same_of_pair      when two fractions N/M are equal.  for_pairs: each element is of this form
--     polynomial-add, polynomial-mul, polynomial_injective      the polynomials lie in the field
--     over-mul, mul_cancel, mul-ne-zero      laws of division
--     same_is, same_if      the test of equality is one
use Rattle.std.specs.Prelude.{◌≡◌, refl, true, false, [], ◌∷◌}
use Rattle.std.proofs.Common.{sym, ap, ◌∙◌, arith}
use mathlib.Core.HLevel.{Discrete, Π_prop}
use mathlib.Core.Bool.{Bool-set}
use Rattle.risch_ring.proofs.Expression.{reading}
use Rattle.risch_ring.proofs.Solver.{ring}
use mathlib.Core.Quot.Quotient
use Rattle.risch_ring.proofs.Laws as Laws
use Rattle.risch_ring.proofs.Domains.{product-nonzero}
use Rattle.risch_mean.specs.Polynomial
use Rattle.risch_mean.specs.FractionLaws
use Rattle.risch_mean.specs.Fractions
use Rattle.risch_mean.specs.PolynomialLaws
use Rattle.risch_mean.specs.Polynomial.{Polynomial}
use Rattle.risch_mean.specs.PolynomialLaws.{polynomials}
use Rattle.risch_mean.specs.Element.{Element, add, inverse, is_zero_test, minus, mul, neg, of_pair, one, over, polynomial, same, zero}
use Rattle.risch_mean.specs.ElementFieldLaws.{add-neg, is_set, mul-inverse, mul-one, mul_assoc, mul_comm}
use Rattle.risch_mean.specs.PolynomialDomain.{domain}
use Rattle.risch_mean.specs.ElementField.{elements}

pub of_pair_same : (n m n' m' : Polynomial) (h : ¬ (m ≡ Polynomial.zero)) (h' : ¬ (m' ≡ Polynomial.zero)) →
    of_pair n m h ≡ of_pair n' m' h' → Polynomial.mul n m' ≡ Polynomial.mul n' m
unfolding Element of_pair
of_pair_same n m n' m' h h' e = FractionLaws.class-same polynomials domain _ _ e

pub same_of_pair : (n m n' m' : Polynomial) (h : ¬ (m ≡ Polynomial.zero)) (h' : ¬ (m' ≡ Polynomial.zero)) →
    Polynomial.mul n m' ≡ Polynomial.mul n' m → of_pair n m h ≡ of_pair n' m' h'
unfolding Element of_pair
same_of_pair n m n' m' h h' e = FractionLaws.same-class polynomials domain _ _ e

pub for_pairs : {P : Element → Type 0} → ((f : Element) → IsProp (P f)) → ((n m : Polynomial) (h : ¬ (m ≡ Polynomial.zero)) → P (of_pair n m h)) → (f : Element) → P f
unfolding Element of_pair
for_pairs {P} p h f = Quotient.ind (Fractions.pairs polynomials domain) {motive = P} p (λ a. h a.num a.den a.den-ne-zero) f

pub polynomial-add : (p q : Polynomial) → polynomial (Polynomial.add p q) ≡ add (polynomial p) (polynomial q)
unfolding Element polynomial add
polynomial-add p q = FractionLaws.whole-add polynomials domain p q

pub polynomial-mul : (p q : Polynomial) → polynomial (Polynomial.mul p q) ≡ mul (polynomial p) (polynomial q)
unfolding Element polynomial mul
polynomial-mul p q = FractionLaws.whole-mul polynomials domain p q

pub polynomial-zero : polynomial Polynomial.zero ≡ zero
unfolding Element polynomial zero Fractions.zero
polynomial-zero = refl

pub polynomial-one : polynomial Polynomial.one ≡ one
unfolding Element polynomial one Fractions.one
polynomial-one = refl

pub polynomial_injective : (p q : Polynomial) → polynomial p ≡ polynomial q → p ≡ q
unfolding Element polynomial
polynomial_injective p q h = FractionLaws.whole_injective polynomials domain p q h

pub polynomial-ne-zero : (p : Polynomial) → ¬ (p ≡ Polynomial.zero) → ¬ (polynomial p ≡ zero)
polynomial-ne-zero p n h = n (polynomial_injective p Polynomial.zero (h ∙ sym polynomial-zero))

-- the element N/M is N divided by M
pub of_pair-is : (n m : Polynomial) (h : ¬ (m ≡ Polynomial.zero)) → of_pair n m h ≡ over (polynomial n) (polynomial m)
unfolding Element of_pair polynomial mul inverse
of_pair-is n m h = FractionLaws.class-is polynomials domain (record { num = n; den = m; den-ne-zero = h })

-- ---- laws of division
pub inverse-mul : (f : Element) → ¬ (f ≡ zero) → mul (inverse f) f ≡ one
inverse-mul f h = mul_comm (inverse f) f ∙ mul-inverse f h

pub over-mul : (f g : Element) → ¬ (g ≡ zero) → mul (over f g) g ≡ f
over-mul f g h = mul_assoc f (inverse g) g ∙ ap (mul f) (inverse-mul g h) ∙ mul-one f

pub mul_cancel : (f g h : Element) → ¬ (h ≡ zero) → mul f h ≡ mul g h → f ≡ g
mul_cancel f g h n e =
    sym (undo f) ∙ ap (λ k. mul k (inverse h)) e ∙ undo g
  where
    undo : (k : Element) → mul (mul k h) (inverse h) ≡ k
    undo k = mul_assoc k h (inverse h) ∙ ap (mul k) (mul-inverse h n) ∙ mul-one k

pub zero-mul : (f : Element) → mul zero f ≡ zero
zero-mul f = ring elements.ring (f ∷ []) (search reading depth 20) refl

pub mul-ne-zero : (f g : Element) → ¬ (f ≡ zero) → ¬ (g ≡ zero) → ¬ (mul f g ≡ zero)
mul-ne-zero f g n m h = n (mul_cancel f zero g m (h ∙ sym (zero-mul g)))

is_zero_test-of_pair : (n m : Polynomial) (h : ¬ (m ≡ Polynomial.zero)) → is_zero_test (of_pair n m h) ≡ Polynomial.same n Polynomial.zero
unfolding is_zero_test of_pair Quotient.lift
is_zero_test-of_pair n m h = refl

pub of_pair-zero : (n m : Polynomial) (h : ¬ (m ≡ Polynomial.zero)) → n ≡ Polynomial.zero → of_pair n m h ≡ zero
unfolding Element of_pair zero
of_pair-zero n m h e = FractionLaws.class-zero polynomials domain (record { num = n; den = m; den-ne-zero = h }) e

pub zero-of_pair : (n m : Polynomial) (h : ¬ (m ≡ Polynomial.zero)) → of_pair n m h ≡ zero → n ≡ Polynomial.zero
unfolding Element of_pair zero
zero-of_pair n m h e = FractionLaws.zero-class polynomials domain (record { num = n; den = m; den-ne-zero = h }) e

zero_is : (f : Element) → is_zero_test f ≡ true → f ≡ zero
zero_is = for_pairs {P = λ f. is_zero_test f ≡ true → f ≡ zero} (λ f. Π_prop (λ h. is_set f zero))
    (λ n m h t. of_pair-zero n m h (PolynomialLaws.same_is n Polynomial.zero (sym (is_zero_test-of_pair n m h) ∙ t)))

zero_if : (f : Element) → f ≡ zero → is_zero_test f ≡ true
zero_if = for_pairs {P = λ f. f ≡ zero → is_zero_test f ≡ true} (λ f. Π_prop (λ h. Bool-set _ _))
    (λ n m h e. is_zero_test-of_pair n m h ∙ PolynomialLaws.same_if n Polynomial.zero (zero-of_pair n m h e))

pub same_is : (f g : Element) → same f g ≡ true → f ≡ g
unfolding same
same_is f g h = Laws.eq_of_sub elements.ring f g (zero_is (minus f g) h)

pub same_if : (f g : Element) → f ≡ g → same f g ≡ true
unfolding same
same_if f g h = zero_if (minus f g) (ap (λ k. minus k g) h ∙ add-neg g)

pub different : (f g : Element) → same f g ≡ false → ¬ (f ≡ g)
different f g h e = grind (arith, same_if f g e)

pub discrete : Discrete Element
discrete f g =
    elim (same f g) as (λ b. same f g ≡ b → Dec (f ≡ g)) [ true ↦ λ h. yes (same_is f g h) | false ↦ λ h. no (different f g h) ] refl

-- ---- the operations on pairs
pub product_ne_zero : (m m' : Polynomial) → ¬ (m ≡ Polynomial.zero) → ¬ (m' ≡ Polynomial.zero) → ¬ (Polynomial.mul m m' ≡ Polynomial.zero)
product_ne_zero m m' h h' = product-nonzero polynomials domain.domain h h'

pub of_pair-add : (n m n' m' : Polynomial) (h : ¬ (m ≡ Polynomial.zero)) (h' : ¬ (m' ≡ Polynomial.zero)) →
    add (of_pair n m h) (of_pair n' m' h') ≡ of_pair (Polynomial.add (Polynomial.mul n m') (Polynomial.mul n' m)) (Polynomial.mul m m') (product_ne_zero m m' h h')
unfolding Element of_pair add product_ne_zero
of_pair-add n m n' m' h h' = FractionLaws.add-class polynomials domain (record { num = n; den = m; den-ne-zero = h }) (record { num = n'; den = m'; den-ne-zero = h' })

pub of_pair-mul : (n m n' m' : Polynomial) (h : ¬ (m ≡ Polynomial.zero)) (h' : ¬ (m' ≡ Polynomial.zero)) →
    mul (of_pair n m h) (of_pair n' m' h') ≡ of_pair (Polynomial.mul n n') (Polynomial.mul m m') (product_ne_zero m m' h h')
unfolding Element of_pair mul product_ne_zero
of_pair-mul n m n' m' h h' = FractionLaws.mul-class polynomials domain (record { num = n; den = m; den-ne-zero = h }) (record { num = n'; den = m'; den-ne-zero = h' })

pub of_pair-neg : (n m : Polynomial) (h : ¬ (m ≡ Polynomial.zero)) → neg (of_pair n m h) ≡ of_pair (Polynomial.neg n) m h
unfolding Element of_pair neg
of_pair-neg n m h = FractionLaws.neg-class polynomials domain (record { num = n; den = m; den-ne-zero = h })

pub of_pair-mul-den : (n m : Polynomial) (h : ¬ (m ≡ Polynomial.zero)) → mul (of_pair n m h) (polynomial m) ≡ polynomial n
of_pair-mul-den n m h = ap (λ f. mul f (polynomial m)) (of_pair-is n m h) ∙ over-mul (polynomial n) (polynomial m) (polynomial-ne-zero m h)

-- f·M = N says that f is N/M
pub is_of_pair : (f : Element) (n m : Polynomial) (h : ¬ (m ≡ Polynomial.zero)) → mul f (polynomial m) ≡ polynomial n → f ≡ of_pair n m h
is_of_pair f n m h e = mul_cancel f (of_pair n m h) (polynomial m) (polynomial-ne-zero m h) (e ∙ sym (of_pair-mul-den n m h))
