-- The fraction num / den in lowest terms: it is in lowest terms, it is the fraction of the two numbers, and its value determines it.
use Rattle.std.specs.Prelude.{ltb}
use Rattle.std.proofs.Common.{◌≡◌, ◌≢◌, ℕ, zero, suc, ◌*◌, ◌/◌, ◌^◌, ◌<◌, ◌≤◌, [], ◌∷◌, refl, sym, ◌∙◌, ap, ap₂, arith, subst, false, ℤ, pos, negsuc, neg_ℤ, ◌*ℤ◌, ◌<ℤ◌, unsigned_abs, int_div}
use Rattle.std.specs.Int.{◌∣◌}
use Rattle.std.proofs.Math.Nat.{div-mul_cancel, div-le_self, dvd-mul_left}
use Rattle.std.proofs.lemmas.Nat.{le-div}
use Rattle.std.proofs.lemmas.Bool.{le-ltb}
use Rattle.std.proofs.lemmas.Nat.Gcd.{dvd_antisymm}
use Rattle.std.proofs.lemmas.Int.{ints, unsigned_abs-mul}
use lib.IntN.{pos-*ℤ-pos}
use Rattle.risch_ring.specs.Integers as Integers
use Rattle.risch_ring.proofs.Domains.{cancel, fraction_eq_trans, ints_domain}
use Rattle.risch_ring.proofs.Expression.{reading_ints}
use Rattle.risch_ring.proofs.Solver.{ring, linear}
use Rattle.risch_frac.specs.Gcd.{gcd}
use Rattle.risch_frac.specs.Fraction.{Fraction, IsInLowest, IsLowest, lowest, quotient, negative}
use Rattle.risch_frac.proofs.CommonDivisor.{IsGcd-gcd, gcd-positive, gcd-le, gcd-div_gcd, dvd_of_coprime}
use Rattle.risch_frac.proofs.Signs.{unsigned_abs-neg, unsigned_abs-int_div, unsigned_abs-positive, int_div-mul, positive-is, positive-div}

pub lowest-is_lowest : (num den : ℤ) → pos 0 <ℤ den → unsigned_abs num < 2 ^ 127 → unsigned_abs den < 2 ^ 127 → IsLowest (lowest num den)
unfolding lowest
lowest-is_lowest num den p q r =
    let a = unsigned_abs num in
    let b = unsigned_abs den in
    let some = unsigned_abs-positive den p in
    let num_is = unsigned_abs-int_div num (gcd a b) in
    record {
      positive = le-div 1 b (gcd a b) (gcd-positive a b some) (let below = gcd-le a b some in omega arith);
      coprime = rw num_is (gcd-div_gcd a b some);
      num_fits = rw num_is (let below = div-le_self a (gcd a b) in omega arith);
      den_fits = let below = div-le_self b (gcd a b) in omega arith;
    }

-- the two signs of a quotient
negated : (r n d e : ℤ) → r *ℤ d ≡ neg_ℤ n *ℤ e → r *ℤ neg_ℤ d ≡ n *ℤ e
negated r n d e h = linear Integers.ints (negsuc 0) h (ring Integers.ints (r ∷ n ∷ d ∷ e ∷ []) (search reading_ints depth 20 fits 4000) refl)

-- the numbers that are kept of num / den
pub IsInLowest-lowest : (num den : ℤ) → pos 0 <ℤ den → unsigned_abs num < 2 ^ 127 → unsigned_abs den < 2 ^ 127 →
    IsInLowest (int_div num (pos (gcd (unsigned_abs num) (unsigned_abs den)))) (int_div den (pos (gcd (unsigned_abs num) (unsigned_abs den))))
IsInLowest-lowest num den p q r =
    let a = unsigned_abs num in
    let b = unsigned_abs den in
    let some = unsigned_abs-positive den p in
    let num_is = unsigned_abs-int_div num (gcd a b) in
    let den_is = unsigned_abs-int_div den (gcd a b) in
    record {
      positive = positive-div den (gcd a b) p (gcd-positive a b some) (gcd-le a b some);
      coprime = rw (num_is, den_is) (gcd-div_gcd a b some);
      num_fits = rw num_is (let below = div-le_self a (gcd a b) in omega arith);
      den_fits = rw den_is (let below = div-le_self b (gcd a b) in omega arith);
    }

mul_last : (x y z : ℤ) → x *ℤ (y *ℤ z) ≡ (x *ℤ z) *ℤ y
mul_last x y z = ring Integers.ints (x ∷ y ∷ z ∷ []) (search reading_ints depth 20 fits 4000) refl

-- as a fraction it is num / den
pub lowest-value : (num den : ℤ) → pos 0 <ℤ den → (lowest num den).num *ℤ den ≡ num *ℤ pos (lowest num den).den
unfolding lowest
lowest-value num den p =
    let a = unsigned_abs num in
    let b = unsigned_abs den in
    let g = gcd a b in
    let n = int_div num (pos g) in
    let num_is : n *ℤ pos g ≡ num = int_div-mul num g (IsGcd-gcd a b).0 in
    let den_is : pos (b / g) *ℤ pos g ≡ den = pos-*ℤ-pos (b / g) g ∙ ap pos (div-mul_cancel g (IsGcd-gcd a b).1) ∙ sym (positive-is den p) in
    ap (λ z. n *ℤ z) (sym den_is) ∙ mul_last n (pos (b / g)) (pos g) ∙ ap (λ z. z *ℤ pos (b / g)) num_is

-- a fraction in lowest terms is determined by its value
divides : (p q : Fraction) → IsLowest p → p.num *ℤ pos q.den ≡ q.num *ℤ pos p.den → p.den ∣ q.den
divides p q lowest_p e =
    let sizes : unsigned_abs p.num * q.den ≡ unsigned_abs q.num * p.den =
    sym (unsigned_abs-mul p.num (pos q.den)) ∙ ap unsigned_abs e ∙ unsigned_abs-mul q.num (pos p.den) in
    dvd_of_coprime (unsigned_abs p.num) p.den q.den lowest_p.coprime (subst (λ n. p.den ∣ n) (sym sizes) (dvd-mul_left p.den (unsigned_abs q.num)))

pub lowest_unique : (p q : Fraction) → IsLowest p → IsLowest q → p.num *ℤ pos q.den ≡ q.num *ℤ pos p.den → p ≡ q
lowest_unique p q lowest_p lowest_q e =
    let dens : p.den ≡ q.den = dvd_antisymm (divides p q lowest_p e) (divides q p lowest_q (sym e)) in
    let scaled : pos q.den *ℤ p.num ≡ pos q.den *ℤ q.num = grind arith in
    let nonzero : ¬ (pos q.den ≡ pos 0) = λ z. (let none : q.den ≡ 0 = cc in let some = lowest_q.positive in omega arith) in
    let nums : p.num ≡ q.num = cancel Integers.ints ints_domain (pos q.den) nonzero scaled in
    ap₂ (λ n d. record { num = n; den = d }) nums dens

-- the same for a denominator of either sign
pub quotient-suc : (num : ℤ) (d : ℕ) → quotient num (pos (suc d)) ≡ lowest num (pos (suc d))
unfolding quotient
quotient-suc num d = let positive : ltb (suc d) 0 ≡ false = le-ltb (suc d) 0 (omega arith) in rw positive refl

pub quotient-positive : (num den : ℤ) → pos 0 <ℤ den → quotient num den ≡ lowest num den
quotient-positive num (pos zero) p = absurd (omega (arith, ints))
quotient-positive num (pos (suc d)) p = quotient-suc num d
quotient-positive num (negsuc d) p = absurd (omega (arith, ints))

pub quotient-is_lowest : (num den : ℤ) → den ≢ pos 0 → unsigned_abs num < 2 ^ 127 → unsigned_abs den < 2 ^ 127 → IsLowest (quotient num den)
unfolding quotient
quotient-is_lowest num (pos zero) h p q = absurd (h refl)
quotient-is_lowest num (pos (suc d)) h p q = subst IsLowest (sym (quotient-suc num d)) (lowest-is_lowest num (pos (suc d)) (omega (arith, ints)) p q)
quotient-is_lowest num (negsuc d) h p q = lowest-is_lowest (neg_ℤ num) (pos (suc d)) (omega (arith, ints)) (rw unsigned_abs-neg p) q

pub quotient-value : (num den : ℤ) → den ≢ pos 0 → (quotient num den).num *ℤ den ≡ num *ℤ pos (quotient num den).den
unfolding quotient
quotient-value num (pos zero) h = absurd (h refl)
quotient-value num (pos (suc d)) h =
    subst (λ r. r.num *ℤ pos (suc d) ≡ num *ℤ pos r.den) (sym (quotient-suc num d)) (lowest-value num (pos (suc d)) (omega (arith, ints)))
quotient-value num (negsuc d) h =
    let p = lowest (neg_ℤ num) (pos (suc d)) in
    negated p.num num (pos (suc d)) (pos p.den) (lowest-value (neg_ℤ num) (pos (suc d)) (omega (arith, ints)))

pub negative-is_lowest : (p : Fraction) → IsLowest p → IsLowest (negative p)
negative-is_lowest p lowest_p = record {
  positive = lowest_p.positive;
  coprime = rw unsigned_abs-neg lowest_p.coprime;
  num_fits = rw unsigned_abs-neg lowest_p.num_fits;
  den_fits = lowest_p.den_fits;
}

-- num / den is r, where r is in lowest terms and has its value
pub lowest-is : (num den : ℤ) (r : Fraction) → pos 0 <ℤ den → unsigned_abs num < 2 ^ 127 → unsigned_abs den < 2 ^ 127 → IsLowest r →
    r.num *ℤ den ≡ num *ℤ pos r.den → lowest num den ≡ r
lowest-is num den r p num_fits den_fits lowest_r e =
    let l = lowest num den in
    let nonzero : ¬ (den ≡ pos 0) = λ z. (let below : pos 0 <ℤ pos 0 = subst (λ d. pos 0 <ℤ d) z p in omega (arith, ints)) in
    lowest_unique l r (lowest-is_lowest num den p num_fits den_fits) lowest_r
    (fraction_eq_trans Integers.ints ints_domain l.num (pos l.den) num den r.num (pos r.den) nonzero (lowest-value num den p) (sym e))

-- neither number grows
pub lowest-num_le : (num den : ℤ) → unsigned_abs (lowest num den).num ≤ unsigned_abs num
unfolding lowest
lowest-num_le num den =
    rw (unsigned_abs-int_div num (gcd (unsigned_abs num) (unsigned_abs den))) (div-le_self (unsigned_abs num) (gcd (unsigned_abs num) (unsigned_abs den)))

pub lowest-den_le : (num den : ℤ) → (lowest num den).den ≤ unsigned_abs den
unfolding lowest
lowest-den_le num den = div-le_self (unsigned_abs den) (gcd (unsigned_abs num) (unsigned_abs den))
