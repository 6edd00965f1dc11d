-- The rules of fractions in lowest terms give fractions in lowest terms that stand for sums, products and quotients of elements.
--     ground_means      the operations on fractions as operations on elements
--     fraction-rational, fractions-rational      a fraction stands for a rational element
use Rattle.std.specs.Prelude.{nat_eq}
use Rattle.std.proofs.Common.{◌≡◌, ◌≢◌, ℕ, Bool, true, false, ◌&&◌, List, [], ◌∷◌, map, Ok, Err, refl, sym, ◌∙◌, ap, ap₂, arith, subst, eqb-true, eq-eqb, pos, ◌+ℤ◌, ◌*ℤ◌}
use Rattle.std.specs.Ordering.{int_eq}
use Rattle.std.specs.Cmp.{signed_Decides}
use Rattle.risch_ring.specs.CommRing.{of_nat}
use Rattle.risch_ring.proofs.Laws as Laws
use Rattle.risch_ring.proofs.Expression.{reading, nat-is}
use Rattle.risch_ring.proofs.Solver.{ring}
use Rattle.risch_frac.specs.Fraction as fraction
use Rattle.risch_frac.specs.Fraction.{Fraction, IsLowest}
use Rattle.risch_frac.proofs.Lowest.{lowest_unique, negative-is_lowest}
use Rattle.risch_frac.proofs.Rules.{sum-is_lowest, product-is_lowest, ratio-is_lowest, sum-value, product-value, ratio-times}
use Rattle.risch_frac.proofs.Units.{whole-is_lowest}
use Rattle.risch_mean.specs.Element.{Element, zero as none, one, add, mul, neg, inverse, integer}
use Rattle.risch_mean.specs.ElementField.{elements}
use Rattle.risch_mean.specs.ElementFieldLaws.{mul-one, mul-inverse, one-ne-zero}
use Rattle.risch_mean.specs.ElementLaws.{over-mul, mul_cancel, mul-ne-zero, zero-mul}
use Rattle.risch_mean.specs.Constants.{IsRational, AllRational}
use Rattle.risch_mean.proofs.IntegerLaws.{integer-add, integer-mul, integer-neg, integer-zero, integer-one, integer_injective, integer-ne-zero, integer-is}
use Rattle.risch_field.specs.Ground.{ground, overflowing}
use Rattle.risch_polynomial_theory.specs.Meaning.{Interprets, AllValid}
use Rattle.risch_polynomial_theory.specs.FractionMeaning.{fraction_meaning}
use Rattle.risch_field.proofs.CheckedSteps.{if-false}

overflowing-ok : (x : fraction.Checked Fraction) (r : Fraction) → overflowing x ≡ Ok r → x ≡ Ok r
overflowing-ok (Ok p) r e = cc
overflowing-ok (Err op) r e = cc

-- ---- numerator and denominator as elements
abbrev num : Fraction → Element
num p = integer p.num

abbrev den : Fraction → Element
den p = integer (pos p.den)

den_nonzero : (p : Fraction) → IsLowest p → pos p.den ≢ pos 0
den_nonzero p l e = let some = l.positive in let same : p.den ≡ 0 = cc in omega arith

den-ne-zero : (p : Fraction) → IsLowest p → ¬ (den p ≡ none)
den-ne-zero p l = integer-ne-zero (pos p.den) (den_nonzero p l)

-- (num / den)·den = num
times_den : (p : Fraction) → IsLowest p → mul (fraction_meaning p) (den p) ≡ num p
times_den p l = over-mul (num p) (den p) (den-ne-zero p l)

-- ---- the operations
sum-means : (a b c : Fraction) → IsLowest a → IsLowest b → fraction.sum a b ≡ Ok c → fraction_meaning c ≡ add (fraction_meaning a) (fraction_meaning b)
sum-means a b c la lb e =
    let lc = sum-is_lowest a b c la lb e in
    mul_cancel (fraction_meaning c) (add (fraction_meaning a) (fraction_meaning b)) (mul (den c) (mul (den a) (den b)))
    (mul-ne-zero (den c) (mul (den a) (den b)) (den-ne-zero c lc) (mul-ne-zero (den a) (den b) (den-ne-zero a la) (den-ne-zero b lb)))
    (left (fraction_meaning c) (den c) (mul (den a) (den b))
    ∙ ap (λ x. mul x (mul (den a) (den b))) (times_den c lc)
    ∙ ap (mul (num c)) (sym (integer-mul (pos a.den) (pos b.den)))
    ∙ sym (integer-mul c.num (pos a.den *ℤ pos b.den))
    ∙ ap integer (sum-value a b c la lb e)
    ∙ integer-mul (a.num *ℤ pos b.den +ℤ b.num *ℤ pos a.den) (pos c.den)
    ∙ ap (λ x. mul x (den c)) (integer-add (a.num *ℤ pos b.den) (b.num *ℤ pos a.den) ∙ ap₂ add (integer-mul a.num (pos b.den)) (integer-mul b.num (pos a.den)))
    ∙ ap₂ (λ x y. mul (add (mul x (den b)) (mul y (den a))) (den c)) (sym (times_den a la)) (sym (times_den b lb))
    ∙ right (fraction_meaning a) (fraction_meaning b) (den a) (den b) (den c))
  where
    left : (x d m : Element) → mul x (mul d m) ≡ mul (mul x d) m
    left x d m = ring elements.ring (x ∷ d ∷ m ∷ []) (search reading depth 30 fits 4000) refl

    right : (x y a b c : Element) → mul (add (mul (mul x a) b) (mul (mul y b) a)) c ≡ mul (add x y) (mul c (mul a b))
    right x y a b c = ring elements.ring (x ∷ y ∷ a ∷ b ∷ c ∷ []) (search reading depth 40 fits 8000) refl

product-means : (a b c : Fraction) → IsLowest a → IsLowest b → fraction.product a b ≡ Ok c → fraction_meaning c ≡ mul (fraction_meaning a) (fraction_meaning b)
product-means a b c la lb e =
    let lc = product-is_lowest a b c la lb e in
    mul_cancel (fraction_meaning c) (mul (fraction_meaning a) (fraction_meaning b)) (mul (den c) (mul (den a) (den b)))
    (mul-ne-zero (den c) (mul (den a) (den b)) (den-ne-zero c lc) (mul-ne-zero (den a) (den b) (den-ne-zero a la) (den-ne-zero b lb)))
    (left (fraction_meaning c) (den c) (mul (den a) (den b))
    ∙ ap (λ x. mul x (mul (den a) (den b))) (times_den c lc)
    ∙ ap (mul (num c)) (sym (integer-mul (pos a.den) (pos b.den)))
    ∙ sym (integer-mul c.num (pos a.den *ℤ pos b.den))
    ∙ ap integer (product-value a b c la lb e)
    ∙ integer-mul (a.num *ℤ b.num) (pos c.den)
    ∙ ap (λ x. mul x (den c)) (integer-mul a.num b.num)
    ∙ ap₂ (λ x y. mul (mul x y) (den c)) (sym (times_den a la)) (sym (times_den b lb))
    ∙ right (fraction_meaning a) (fraction_meaning b) (den a) (den b) (den c))
  where
    left : (x d m : Element) → mul x (mul d m) ≡ mul (mul x d) m
    left x d m = ring elements.ring (x ∷ d ∷ m ∷ []) (search reading depth 30 fits 4000) refl

    right : (x y a b c : Element) → mul (mul (mul x a) (mul y b)) c ≡ mul (mul x y) (mul c (mul a b))
    right x y a b c = ring elements.ring (x ∷ y ∷ a ∷ b ∷ c ∷ []) (search reading depth 40 fits 8000) refl

ratio-means : (a b c : Fraction) → IsLowest a → IsLowest b → b.num ≢ pos 0 → fraction.ratio a b ≡ Ok c → mul (fraction_meaning c) (fraction_meaning b) ≡ fraction_meaning a
ratio-means a b c la lb n e =
    let lc = ratio-is_lowest a b c la lb n e in
    mul_cancel (mul (fraction_meaning c) (fraction_meaning b)) (fraction_meaning a) (mul (den a) (mul (den c) (den b)))
    (mul-ne-zero (den a) (mul (den c) (den b)) (den-ne-zero a la) (mul-ne-zero (den c) (den b) (den-ne-zero c lc) (den-ne-zero b lb)))
    (left (fraction_meaning c) (fraction_meaning b) (den a) (den b) (den c)
    ∙ ap₂ (λ x y. mul (mul x y) (den a)) (times_den c lc) (times_den b lb)
    ∙ ap (λ x. mul x (den a)) (sym (integer-mul c.num b.num))
    ∙ sym (integer-mul (c.num *ℤ b.num) (pos a.den))
    ∙ ap integer (ratio-times a b c la lb n e)
    ∙ integer-mul a.num (pos c.den *ℤ pos b.den)
    ∙ ap (mul (num a)) (integer-mul (pos c.den) (pos b.den))
    ∙ ap (λ x. mul x (mul (den c) (den b))) (sym (times_den a la))
    ∙ right (fraction_meaning a) (den a) (mul (den c) (den b)))
  where
    left : (x y a b c : Element) → mul (mul x y) (mul a (mul c b)) ≡ mul (mul (mul x c) (mul y b)) a
    left x y a b c = ring elements.ring (x ∷ y ∷ a ∷ b ∷ c ∷ []) (search reading depth 40 fits 8000) refl

    right : (x d m : Element) → mul (mul x d) m ≡ mul x (mul d m)
    right x d m = ring elements.ring (x ∷ d ∷ m ∷ []) (search reading depth 30 fits 4000) refl

negative-means : (p : Fraction) → fraction_meaning (fraction.negative p) ≡ neg (fraction_meaning p)
negative-means p = ap (λ x. mul x (inverse (den p))) (integer-neg p.num) ∙ Laws.neg-mul elements.ring (num p) (inverse (den p))

inverse-one : inverse (integer (pos 1)) ≡ one
inverse-one = ap inverse integer-one ∙ sym (Laws.one-mul elements.ring (inverse one)) ∙ mul-inverse one one-ne-zero

whole-means : (n : ℕ) → fraction_meaning (fraction.whole n) ≡ of_nat elements.ring n
whole-means n = ap (mul (integer (pos n))) inverse-one ∙ mul-one (integer (pos n)) ∙ integer-is (pos n) ∙ nat-is elements.ring n

zero-means : fraction_meaning (fraction.whole 0) ≡ none
zero-means = ap (λ x. mul x (inverse (integer (pos 1)))) integer-zero ∙ zero-mul (inverse (integer (pos 1)))

one-means : fraction_meaning (fraction.whole 1) ≡ one
one-means = ap₂ mul integer-one inverse-one ∙ mul-one one

-- ---- the tests
not_zero : (p : Fraction) → fraction.is_zero p ≡ false → p.num ≢ pos 0
not_zero p h e = let t = (signed_Decides p.num (pos 0)).1 e in cc

zero_is : (p : Fraction) → fraction.is_zero p ≡ true → fraction_meaning p ≡ none
zero_is p h = ap (λ z. mul (integer z) (inverse (den p))) ((signed_Decides p.num (pos 0)).0 h) ∙ ap (λ x. mul x (inverse (den p))) integer-zero ∙ zero-mul (inverse (den p))

zero_if : (p : Fraction) → IsLowest p → fraction_meaning p ≡ none → fraction.is_zero p ≡ true
zero_if p l e =
    (signed_Decides p.num (pos 0)).1
    (integer_injective p.num (pos 0) (sym (times_den p l) ∙ ap (λ x. mul x (den p)) e ∙ zero-mul (den p) ∙ sym integer-zero))

and-true : (a b : Bool) → (a && b) ≡ true → (a ≡ true) × (b ≡ true)
and-true true b e = (refl, e)
and-true false b e = cc

same_is : (a b : Fraction) → fraction.same a b ≡ true → a ≡ b
same_is a b h =
    let both = and-true (int_eq a.num b.num) (nat_eq a.den b.den) h in
    ap₂ (λ n d. record { num = n; den = d }) ((signed_Decides a.num b.num).0 both.0) (eqb-true a.den b.den both.1)

same_itself : (a : Fraction) → fraction.same a a ≡ true
same_itself a = rw ((signed_Decides a.num a.num).1 refl, eq-eqb a.den a.den refl) refl

injective : (a b : Fraction) → IsLowest a → IsLowest b → fraction_meaning a ≡ fraction_meaning b → a ≡ b
injective a b la lb e =
    lowest_unique a b la lb
    (integer_injective (a.num *ℤ pos b.den) (b.num *ℤ pos a.den)
    (integer-mul a.num (pos b.den) ∙ ap (λ x. mul x (den b)) (sym (times_den a la) ∙ ap (λ x. mul x (den a)) e) ∙ exchanged (fraction_meaning b) (den a) (den b)
    ∙ ap (λ x. mul x (den a)) (times_den b lb) ∙ sym (integer-mul b.num (pos a.den))))
  where
    exchanged : (x a b : Element) → mul (mul x a) b ≡ mul (mul x b) a
    exchanged x a b = ring elements.ring (x ∷ a ∷ b ∷ []) (search reading depth 30 fits 4000) refl

-- ---- all of them
pub ground_means : Interprets ground elements.ring IsLowest fraction_meaning
ground_means = record {
  zero-valid = whole-is_lowest 0 (omega arith);
  one-valid = whole-is_lowest 1 (omega arith);
  whole-valid = λ n small. whole-is_lowest n (omega arith);
  negative-valid = negative-is_lowest;
  sum-valid = λ a b c la lb e. sum-is_lowest a b c la lb (overflowing-ok (fraction.sum a b) c e);
  product-valid = λ a b c la lb e. product-is_lowest a b c la lb (overflowing-ok (fraction.product a b) c e);
  quotient-valid = λ a b c la lb n e. ratio-is_lowest a b c la lb (not_zero b n) (overflowing-ok (fraction.ratio a b) c (if-false (fraction.is_zero b) (Ok b) (overflowing (fraction.ratio a b)) c n e));
  zero-means = zero-means;
  one-means = one-means;
  whole-means = λ n small. whole-means n;
  negative-means = λ p l. negative-means p;
  sum-means = λ a b c la lb e. sum-means a b c la lb (overflowing-ok (fraction.sum a b) c e);
  product-means = λ a b c la lb e. product-means a b c la lb (overflowing-ok (fraction.product a b) c e);
  quotient-means = λ a b c la lb n e. ratio-means a b c la lb (not_zero b n) (overflowing-ok (fraction.ratio a b) c (if-false (fraction.is_zero b) (Ok b) (overflowing (fraction.ratio a b)) c n e));
  zero_is = λ p l. zero_is p;
  zero_if = zero_if;
  same_is = λ a b la lb. same_is a b;
  same_if = λ a b la lb e. subst (λ c. fraction.same a c ≡ true) e (same_itself a);
  injective = injective;
}

-- ---- rational elements
pub fraction-rational : (p : Fraction) → IsLowest p → IsRational (fraction_meaning p)
fraction-rational p l = record { num = p.num; den = pos p.den; den-ne-zero = den_nonzero p l; is = refl }

pub fractions-rational : (p : List Fraction) → AllValid IsLowest p → AllRational (map fraction_meaning p)
fractions-rational [] all = tt
fractions-rational (c ∷ p) all = (fraction-rational c all.0, fractions-rational p all.1)
