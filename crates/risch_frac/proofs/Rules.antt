-- What the rules of the sum, the product, the quotient and the negative form: fractions in lowest terms, and the numbers that they name.
use Rattle.std.specs.Prelude.{nat_lt, Ok, IfOk}
use Rattle.std.proofs.Common.{◌≡◌, ◌≢◌, ℕ, ◌*◌, ◌^◌, ◌<◌, ◌≤◌, [], ◌∷◌, refl, ◌∙◌, arith, subst, true, false, ⊎_elim, ℤ, pos, neg_ℤ, ◌+ℤ◌, ◌-ℤ◌, ◌*ℤ◌, ◌<ℤ◌, unsigned_abs}
use Rattle.std.proofs.Math.Nat.{mul-pos}
use Rattle.std.proofs.lemmas.Result.{IfOk-weaker}
use Rattle.std.proofs.lemmas.Bool.{cases_lt, lt-ltb, le-ltb}
use Rattle.std.proofs.lemmas.Int.{ints}
use Rattle.risch_ring.specs.Integers as Integers
use Rattle.risch_ring.proofs.Expression.{reading_ints}
use Rattle.risch_ring.proofs.Solver.{ring, linear}
use Rattle.risch_frac.specs.declared.Op.{Op}
use Rattle.risch_frac.specs.declared.Op.TheVariants.{Add, Mul, Div}
use Rattle.risch_frac.specs.Fraction.{Fraction, IsLowest, Checked, and_then, number, lowest, quotient, sum, product, ratio, negative}
use Rattle.risch_frac.specs.Meaning.{IsSum, IsDifference}
use Rattle.risch_frac.proofs.Signs.{positive_product, nonzero_product}
use Rattle.risch_frac.proofs.Lowest.{quotient-is_lowest, quotient-value, quotient-positive}

-- where a rule gives a value, each number that it forms fits
pub and_then-ok : {B : Type 0} (op : Op) (z : ℤ) (next : ℤ → Checked B) (r : B) → and_then (number op z) next ≡ Ok r → (unsigned_abs z < 2 ^ 127) × (next z ≡ Ok r)
and_then-ok {B} op z next r e =
    ⊎_elim (λ below. (below, formed below)) (λ above. absurd (stops above)) (cases_lt (unsigned_abs z) (2 ^ 127))
  where
    formed : unsigned_abs z < 2 ^ 127 → next z ≡ Ok r
    formed below = let test : nat_lt (unsigned_abs z) (2 ^ 127) ≡ true = lt-ltb (unsigned_abs z) (2 ^ 127) below in rw test at e

    stops : 2 ^ 127 ≤ unsigned_abs z → ⊥
    stops above = let test : nat_lt (unsigned_abs z) (2 ^ 127) ≡ false = le-ltb (unsigned_abs z) (2 ^ 127) above in let stop = rw test at e in cc

-- a value that fits is formed
pub and_then-fits : {B : Type 0} (op : Op) (z : ℤ) (next : ℤ → Checked B) → unsigned_abs z < 2 ^ 127 → and_then (number op z) next ≡ next z
and_then-fits op z next below = let test : nat_lt (unsigned_abs z) (2 ^ 127) ≡ true = lt-ltb (unsigned_abs z) (2 ^ 127) below in rw test refl

-- r is num / den in lowest terms, where both numbers fit
pub record IsFormed (num den : ℤ) (r : Fraction) : Type 0 where
  pub num_fits : unsigned_abs num < 2 ^ 127
  pub den_fits : unsigned_abs den < 2 ^ 127
  pub is : quotient num den ≡ r

module _ {num den : ℤ} {r : Fraction} (nonzero : den ≢ pos 0) (formed : IsFormed num den r) where
  pub formed-is_lowest : IsLowest r
  formed-is_lowest = subst IsLowest formed.is (quotient-is_lowest num den nonzero formed.num_fits formed.den_fits)

  pub formed-value : r.num *ℤ den ≡ num *ℤ pos r.den
  formed-value = subst (λ s. s.num *ℤ den ≡ num *ℤ pos s.den) formed.is (quotient-value num den nonzero)

pub pos-positive : (n : ℕ) → 0 < n → pos 0 <ℤ pos n
pos-positive n p = omega (arith, ints)

-- the product of the denominators
pub denominator : (p q : Fraction) → 0 < p.den → 0 < q.den → pos 0 <ℤ (pos p.den *ℤ pos q.den)
denominator p q some others = positive_product (pos p.den) (pos q.den) (pos-positive p.den some) (pos-positive q.den others)

pub denominator-nonzero : (p q : Fraction) → 0 < p.den → 0 < q.den → (pos p.den *ℤ pos q.den) ≢ pos 0
denominator-nonzero p q some others e = let positive = mul-pos some others in let none : p.den * q.den ≡ 0 = cc in omega arith

pub divisor-nonzero : (p q : Fraction) → 0 < p.den → q.num ≢ pos 0 → (pos p.den *ℤ q.num) ≢ pos 0
divisor-nonzero p q some h = nonzero_product (pos p.den) q.num (pos-positive p.den some) h

pub sum-formed : (p q r : Fraction) → 0 < p.den → 0 < q.den → sum p q ≡ Ok r → IsFormed (p.num *ℤ pos q.den +ℤ q.num *ℤ pos p.den) (pos p.den *ℤ pos q.den) r
unfolding sum
sum-formed p q r some others e =
    let left = and_then-ok Add (p.num *ℤ pos q.den) _ r e in
    let right = and_then-ok Add (q.num *ℤ pos p.den) _ r left.1 in
    let num = and_then-ok Add (p.num *ℤ pos q.den +ℤ q.num *ℤ pos p.den) _ r right.1 in
    let den = and_then-ok Add (pos p.den *ℤ pos q.den) _ r num.1 in
    record { num_fits = num.0; den_fits = den.0; is = quotient-positive _ _ (denominator p q some others) ∙ cc }

pub product-formed : (p q r : Fraction) → 0 < p.den → 0 < q.den → product p q ≡ Ok r → IsFormed (p.num *ℤ q.num) (pos p.den *ℤ pos q.den) r
unfolding product
product-formed p q r some others e =
    let num = and_then-ok Mul (p.num *ℤ q.num) _ r e in
    let den = and_then-ok Mul (pos p.den *ℤ pos q.den) _ r num.1 in
    record { num_fits = num.0; den_fits = den.0; is = quotient-positive _ _ (denominator p q some others) ∙ cc }

pub ratio-formed : (p q r : Fraction) → ratio p q ≡ Ok r → IsFormed (p.num *ℤ pos q.den) (pos p.den *ℤ q.num) r
unfolding ratio
ratio-formed p q r e =
    let num = and_then-ok Div (p.num *ℤ pos q.den) _ r e in
    let den = and_then-ok Div (pos p.den *ℤ q.num) _ r num.1 in
    record { num_fits = num.0; den_fits = den.0; is = cc }

-- the results are in lowest terms
pub sum-is_lowest : (p q r : Fraction) → IsLowest p → IsLowest q → sum p q ≡ Ok r → IsLowest r
sum-is_lowest p q r lowest_p lowest_q e =
    formed-is_lowest (denominator-nonzero p q lowest_p.positive lowest_q.positive) (sum-formed p q r lowest_p.positive lowest_q.positive e)

pub product-is_lowest : (p q r : Fraction) → IsLowest p → IsLowest q → product p q ≡ Ok r → IsLowest r
product-is_lowest p q r lowest_p lowest_q e =
    formed-is_lowest (denominator-nonzero p q lowest_p.positive lowest_q.positive) (product-formed p q r lowest_p.positive lowest_q.positive e)

pub ratio-is_lowest : (p q r : Fraction) → IsLowest p → IsLowest q → q.num ≢ pos 0 → ratio p q ≡ Ok r → IsLowest r
ratio-is_lowest p q r lowest_p lowest_q h e = formed-is_lowest (divisor-nonzero p q lowest_p.positive h) (ratio-formed p q r e)

-- p + q = (a·d + c·b) / (b·d) for p = a/b and q = c/d
pub sum-value : (p q r : Fraction) → IsLowest p → IsLowest q → sum p q ≡ Ok r →
    r.num *ℤ (pos p.den *ℤ pos q.den) ≡ (p.num *ℤ pos q.den +ℤ q.num *ℤ pos p.den) *ℤ pos r.den
sum-value p q r lowest_p lowest_q e =
    formed-value (denominator-nonzero p q lowest_p.positive lowest_q.positive) (sum-formed p q r lowest_p.positive lowest_q.positive e)

-- p·q = (a·c) / (b·d)
pub product-value : (p q r : Fraction) → IsLowest p → IsLowest q → product p q ≡ Ok r →
    r.num *ℤ (pos p.den *ℤ pos q.den) ≡ (p.num *ℤ q.num) *ℤ pos r.den
product-value p q r lowest_p lowest_q e =
    formed-value (denominator-nonzero p q lowest_p.positive lowest_q.positive) (product-formed p q r lowest_p.positive lowest_q.positive e)

-- p/q = (a·d) / (b·c)
pub ratio-value : (p q r : Fraction) → IsLowest p → IsLowest q → q.num ≢ pos 0 → ratio p q ≡ Ok r →
    r.num *ℤ (pos p.den *ℤ q.num) ≡ (p.num *ℤ pos q.den) *ℤ pos r.den
ratio-value p q r lowest_p lowest_q h e = formed-value (divisor-nonzero p q lowest_p.positive h) (ratio-formed p q r e)

-- (p/q)·q = p
pub ratio-times : (p q r : Fraction) → IsLowest p → IsLowest q → q.num ≢ pos 0 → ratio p q ≡ Ok r →
    (r.num *ℤ q.num) *ℤ pos p.den ≡ p.num *ℤ (pos r.den *ℤ pos q.den)
ratio-times p q r lowest_p lowest_q h e = regrouped r.num q.num (pos p.den) p.num (pos r.den) (pos q.den) (ratio-value p q r lowest_p lowest_q h e)
  where
    regrouped : (s c b a t d : ℤ) → s *ℤ (b *ℤ c) ≡ (a *ℤ d) *ℤ t → (s *ℤ c) *ℤ b ≡ a *ℤ (t *ℤ d)
    regrouped s c b a t d h = linear Integers.ints (pos 1) h (ring Integers.ints (s ∷ c ∷ b ∷ a ∷ t ∷ d ∷ []) (search reading_ints depth 20 fits 4000) refl)

-- the negative is (-a) / b
pub negative-value : (p : Fraction) → (negative p).num *ℤ pos p.den ≡ neg_ℤ p.num *ℤ pos (negative p).den
negative-value p = refl

-- where the numbers that a rule forms fit, it gives their fraction
pub sum-fits : (p q : Fraction) → unsigned_abs (p.num *ℤ pos q.den) < 2 ^ 127 → unsigned_abs (q.num *ℤ pos p.den) < 2 ^ 127 →
    unsigned_abs (p.num *ℤ pos q.den +ℤ q.num *ℤ pos p.den) < 2 ^ 127 → unsigned_abs (pos p.den *ℤ pos q.den) < 2 ^ 127 →
    sum p q ≡ Ok (lowest (p.num *ℤ pos q.den +ℤ q.num *ℤ pos p.den) (pos p.den *ℤ pos q.den))
unfolding sum
sum-fits p q left right num den =
    and_then-fits Add (p.num *ℤ pos q.den) _ left ∙ and_then-fits Add (q.num *ℤ pos p.den) _ right
    ∙ and_then-fits Add (p.num *ℤ pos q.den +ℤ q.num *ℤ pos p.den) _ num ∙ and_then-fits Add (pos p.den *ℤ pos q.den) _ den

pub product-fits : (p q : Fraction) → unsigned_abs (p.num *ℤ q.num) < 2 ^ 127 → unsigned_abs (pos p.den *ℤ pos q.den) < 2 ^ 127 →
    product p q ≡ Ok (lowest (p.num *ℤ q.num) (pos p.den *ℤ pos q.den))
unfolding product
product-fits p q num den = and_then-fits Mul (p.num *ℤ q.num) _ num ∙ and_then-fits Mul (pos p.den *ℤ pos q.den) _ den

pub ratio-fits : (p q : Fraction) → unsigned_abs (p.num *ℤ pos q.den) < 2 ^ 127 → unsigned_abs (pos p.den *ℤ q.num) < 2 ^ 127 →
    ratio p q ≡ Ok (quotient (p.num *ℤ pos q.den) (pos p.den *ℤ q.num))
unfolding ratio
ratio-fits p q num den = and_then-fits Div (p.num *ℤ pos q.den) _ num ∙ and_then-fits Div (pos p.den *ℤ q.num) _ den

-- p - q = p + n for n = -q
pub difference-value : (p q r : Fraction) → IsSum p (negative q) r → IsDifference p q r
difference-value p q r h = record { value = moved p.num (pos p.den) q.num (pos q.den) r.num (pos r.den) h.value }
  where
    moved : (a b c d s t : ℤ) → s *ℤ (b *ℤ d) ≡ (a *ℤ d +ℤ neg_ℤ c *ℤ b) *ℤ t → s *ℤ (b *ℤ d) ≡ (a *ℤ d -ℤ c *ℤ b) *ℤ t
    moved a b c d s t h = linear Integers.ints (pos 1) h (ring Integers.ints (a ∷ b ∷ c ∷ d ∷ s ∷ t ∷ []) (search reading_ints depth 20 fits 6000) refl)

pub difference_from_sum : (result : Checked Fraction) (p q n : Fraction) → n ≡ negative q → IfOk result (IsSum p n) → IfOk result (IsDifference p q)
difference_from_sum result p q n e =
    IfOk-weaker result (IsSum p n) (IsDifference p q) (λ r h. difference-value p q r (subst (λ m. IsSum p m r) e h))
