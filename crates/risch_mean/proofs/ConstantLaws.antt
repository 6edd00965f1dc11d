-- Laws of rational elements and of sound towers.
--     rational_functions_sound      every tower is sound to level 0: a rational function in x with derivative 0 is rational
--     sound_below      a tower that is sound to a field is sound to each smaller one
--     ground_rational, rational_ground      the field of no variables is that of the rational elements
--     derive-rational      a rational element has derivative 0
use Rattle.std.specs.Prelude.{◌≡◌, refl, ℕ, ◌≤◌, List, [], ◌∷◌, ℤ, pos}
use Rattle.std.proofs.Common.{sym, ap, ap₂, ◌∙◌, subst, arith}
use Rattle.risch_ring.proofs.Expression.{reading}
use Rattle.risch_ring.proofs.Solver.{ring}
use Rattle.risch_ring.proofs.Laws as Laws
use Rattle.risch_mean.specs.Polynomial
use Rattle.risch_mean.proofs.PolynomialConstants
use Rattle.risch_mean.specs.Exponents
use Rattle.risch_mean.specs.PolynomialLaws
use Rattle.risch_mean.specs.ElementFieldLaws
use Rattle.risch_mean.specs.ElementLaws
use Rattle.risch_mean.proofs.FieldClosure
use Rattle.risch_mean.specs.Polynomial.{Polynomial, Within}
use Rattle.risch_mean.proofs.PolynomialConstants.{Proportional}
use Rattle.risch_mean.specs.Element.{Element, zero, one, add, mul, neg, inverse, minus, over, polynomial, integer, InField}
use Rattle.risch_mean.specs.ElementField.{elements}
use Rattle.risch_mean.specs.ElementLaws.{polynomial-mul, polynomial-ne-zero, polynomial_injective, of_pair-mul-den, mul_cancel, mul-ne-zero, zero-mul, over-mul}
use Rattle.risch_mean.specs.Derivation.{derive}
use Rattle.risch_mean.specs.QuotientRule.{derive_from, derive_polynomial}
use Rattle.risch_mean.proofs.DerivationLaws.{derive-mul-den}
use Rattle.risch_mean.specs.QuotientRuleLaws.{derive_polynomial-constant}
use Rattle.risch_mean.specs.Tower.{Tower}
use Rattle.risch_mean.proofs.FieldClosure.{InField_more, InField-over}
use Rattle.risch_mean.proofs.Levels.{derive_from_past, derivatives_extend}
use Rattle.risch_mean.specs.Constants.{IsRational, IsSoundTo}

pub sound_below : (tower : Tower) (m n : ℕ) → m ≤ n → IsSoundTo tower n → IsSoundTo tower m
sound_below tower m n h s f a e = s f (InField_more m n f h a) e

-- ---- rational functions in x
derive_in_x : (vs : List Element) (p : Polynomial) → Within 1 p → derive_polynomial (one ∷ vs) p ≡ polynomial (Polynomial.partial 0 p)
unfolding derive_polynomial derive_from
derive_in_x vs p w = ap (add (mul (polynomial (Polynomial.partial 0 p)) one)) (derive_from_past 1 1 vs p (omega arith) w) ∙ once (polynomial (Polynomial.partial 0 p))
  where
    once : (v : Element) → add (mul v one) zero ≡ v
    once v = ring elements.ring (v ∷ []) (search reading depth 30 fits 4000) refl

-- N'·M = N·M' from D(N/M) = 0
wronskian_zero : (vs : List Element) (f : Element) (a : InField 1 f) → derive (one ∷ vs) f ≡ zero →
    Polynomial.mul (Polynomial.partial 0 a.num) a.den ≡ Polynomial.mul a.num (Polynomial.partial 0 a.den)
wronskian_zero vs f a e =
    polynomial_injective _ _ (polynomial-mul _ _ ∙ ap (λ k. mul k m) derivative ∙ moved f dm m ∙ ap (λ k. mul k dm) is-num ∙ sym (polynomial-mul _ _))
  where
    m : Element
    m = polynomial a.den

    dn : Element
    dn = polynomial (Polynomial.partial 0 a.num)

    dm : Element
    dm = polynomial (Polynomial.partial 0 a.den)

    is-num : mul f m ≡ polynomial a.num
    is-num = ap (λ k. mul k m) a.is ∙ of_pair-mul-den a.num a.den a.den-ne-zero

    difference : minus dn (mul f dm) ≡ zero
    difference =
        sym (ap₂ (λ x y. minus x (mul f y)) (derive_in_x vs a.num a.num-within) (derive_in_x vs a.den a.den-within))
        ∙ sym (derive-mul-den (one ∷ vs) f a.num a.den a.den-ne-zero is-num) ∙ ap (λ k. mul k m) e ∙ zero-mul m

    derivative : dn ≡ mul f dm
    derivative = Laws.eq_of_sub elements.ring dn (mul f dm) difference

    moved : (f x y : Element) → mul (mul f x) y ≡ mul (mul f y) x
    moved f x y = ring elements.ring (f ∷ x ∷ y ∷ []) (search reading depth 30 fits 4000) refl

constant-ne-zero : (c : ℤ) → ¬ (c ≡ pos 0) → ¬ (Polynomial.constant c ≡ Polynomial.zero)
constant-ne-zero c h e = h (sym (PolynomialConstants.coefficient-constant c) ∙ ap (λ p. Polynomial.coefficient_of p Exponents.none) e ∙ PolynomialLaws.coefficient-zero Exponents.none)

rational_from : (f : Element) (n m : Polynomial) → ¬ (m ≡ Polynomial.zero) → mul f (polynomial m) ≡ polynomial n → Proportional n m → IsRational f
rational_from f n m h e q = record {
  num = q.factor;
  den = q.divisor;
  den-ne-zero = q.divisor-ne-zero;
  is =
      mul_cancel _ _ (mul (integer q.divisor) (polynomial m)) (mul-ne-zero _ _ den (polynomial-ne-zero m h))
      (moved f (integer q.divisor) (polynomial m) ∙ ap (mul (integer q.divisor)) e ∙ sym (polynomial-mul _ _) ∙ ap polynomial q.is ∙ polynomial-mul _ _
      ∙ ap (λ k. mul k (polynomial m)) (sym (over-mul (integer q.factor) (integer q.divisor) den)) ∙ ElementFieldLaws.mul_assoc _ _ _);
}
  where
    den : ¬ (integer q.divisor ≡ zero)
    den = polynomial-ne-zero _ (constant-ne-zero q.divisor q.divisor-ne-zero)

    moved : (f x y : Element) → mul f (mul x y) ≡ mul x (mul f y)
    moved f x y = ring elements.ring (f ∷ x ∷ y ∷ []) (search reading depth 30 fits 4000) refl

-- every tower is sound to level x
pub rational_functions_sound : (tower : Tower) → IsSoundTo tower 1
rational_functions_sound tower f a e =
    rational_from f a.num a.den a.den-ne-zero (ap (λ k. mul k (polynomial a.den)) a.is ∙ of_pair-mul-den a.num a.den a.den-ne-zero)
    (PolynomialConstants.proportional a.num a.den a.num-within a.den-within (wronskian_zero (derivatives_extend (one ∷ []) tower).0 f a (sym (ap (λ vs. derive vs f) (derivatives_extend (one ∷ []) tower).1) ∙ e)) a.den-ne-zero)

-- ---- the ground: the fractions of whole numbers
pub ground_rational : (f : Element) → InField 0 f → IsRational f
ground_rational f a =
    let n = PolynomialConstants.Within-none a.num a.num-within in
    let m = PolynomialConstants.Within-none a.den a.den-within in
    record {
      num = n.0;
      den = m.0;
      den-ne-zero = λ h. a.den-ne-zero (m.1 ∙ ap Polynomial.constant h ∙ PolynomialConstants.constant-zero);
      is = a.is ∙ ElementLaws.of_pair-is a.num a.den a.den-ne-zero ∙ ap₂ (λ x y. over (polynomial x) (polynomial y)) n.1 m.1;
    }

pub rational_ground : (f : Element) → IsRational f → InField 0 f
rational_ground f q = subst (InField 0) (sym q.is) (InField-over 0 _ _ (FieldClosure.InField-integer 0 q.num) (FieldClosure.InField-integer 0 q.den))

pub rational_in : (n : ℕ) (f : Element) → IsRational f → InField n f
rational_in n f q = InField_more 0 n f (omega arith) (rational_ground f q)

-- the fractions are closed under the operations, and have derivative 0
pub IsRational-add : (f g : Element) → IsRational f → IsRational g → IsRational (add f g)
IsRational-add f g p q = ground_rational _ (FieldClosure.InField-add 0 f g (rational_ground f p) (rational_ground g q))

pub IsRational-mul : (f g : Element) → IsRational f → IsRational g → IsRational (mul f g)
IsRational-mul f g p q = ground_rational _ (FieldClosure.InField-mul 0 f g (rational_ground f p) (rational_ground g q))

pub IsRational-neg : (f : Element) → IsRational f → IsRational (neg f)
IsRational-neg f p = ground_rational _ (FieldClosure.InField-neg 0 f (rational_ground f p))

pub IsRational-inverse : (f : Element) → IsRational f → IsRational (inverse f)
IsRational-inverse f p = ground_rational _ (FieldClosure.InField-inverse 0 f (rational_ground f p))

pub derive-rational : (vs : List Element) (f : Element) → IsRational f → derive vs f ≡ zero
derive-rational vs f q =
    mul_cancel (derive vs f) zero (integer q.den) den
    (derive-mul-den vs f (Polynomial.constant q.num) (Polynomial.constant q.den) (constant-ne-zero q.den q.den-ne-zero) (ap (λ k. mul k (integer q.den)) q.is ∙ over-mul (integer q.num) (integer q.den) den)
    ∙ ap₂ (λ x y. minus x (mul f y)) (derive_polynomial-constant vs q.num) (derive_polynomial-constant vs q.den) ∙ nothing f (integer q.den))
  where
    den : ¬ (integer q.den ≡ zero)
    den = polynomial-ne-zero _ (constant-ne-zero q.den q.den-ne-zero)

    nothing : (f x : Element) → minus zero (mul f zero) ≡ mul zero x
    nothing f x = ring elements.ring (f ∷ x ∷ []) (search reading depth 30 fits 4000) refl
