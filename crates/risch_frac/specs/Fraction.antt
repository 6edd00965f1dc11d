-- Fractions of whole numbers of at most 127 bits, and the rules of their sum, product and quotient.
use Rattle.std.specs.Prelude.{◌≡◌, ℕ, ◌/◌, ◌^◌, ◌<◌, ℤ, pos, ◌+ℤ◌, ◌*ℤ◌, ◌<ℤ◌, neg_ℤ, unsigned_abs, int_div, int_lt, nat_lt, if◌then◌else◌, Bool, ◌&&◌, nat_eq, Result, Ok, Err}
use Rattle.std.specs.Ordering.{int_eq}
use Rattle.risch_frac.specs.declared.Op.{Op}
use Rattle.risch_frac.specs.declared.Op.TheVariants.{Add, Mul, Div}
use Rattle.risch_frac.specs.Gcd.{gcd}

-- the fraction num / den
pub record Fraction : Type 0 where
  pub num : ℤ
  pub den : ℕ

-- the whole number n as a fraction
abbrev pub whole : ℕ → Fraction
whole n = record { num = pos n; den = 1 }

-- the denominator is positive, the fraction is in lowest terms, and both numbers fit
pub record IsLowest (p : Fraction) : Type 0 where
  pub positive : 0 < p.den
  pub coprime : gcd (unsigned_abs p.num) p.den ≡ 1
  pub num_fits : unsigned_abs p.num < 2 ^ 127
  pub den_fits : p.den < 2 ^ 127

-- the numbers that are kept of a fraction: a positive denominator, and lowest terms
pub record IsInLowest (num den : ℤ) : Type 0 where
  pub positive : pos 0 <ℤ den
  pub coprime : gcd (unsigned_abs num) (unsigned_abs den) ≡ 1
  pub num_fits : unsigned_abs num < 2 ^ 127
  pub den_fits : unsigned_abs den < 2 ^ 127

-- a value, or the operation that overflows
abbrev pub Checked : Type 0 → Type 0
Checked A = Result A Op

-- forms the first value, and then the second from it
abbrev pub and_then : {A B : Type 0} → Checked A → (A → Checked B) → Checked B
and_then (Ok a) f = f a
and_then (Err op) f = Err op

-- the whole number z, which fits if its absolute value is at most 2^127 - 1
abbrev pub number : Op → ℤ → Checked ℤ
number op z = if nat_lt (unsigned_abs z) (2 ^ 127) then Ok z else Err op

-- num / den divided by their common divisor
unfoldable pub lowest : ℤ → ℤ → Fraction
lowest num den =
    let divisor = gcd (unsigned_abs num) (unsigned_abs den) in
    record { num = int_div num (pos divisor); den = unsigned_abs den / divisor }

-- the fraction num / den for den other than 0
unfoldable pub quotient : ℤ → ℤ → Fraction
quotient num den = if int_lt den (pos 0) then lowest (neg_ℤ num) (neg_ℤ den) else lowest num den

-- the sum of a/b and c/d: a*d, c*b, their sum, b*d, and then lowest terms
unfoldable pub sum : Fraction → Fraction → Checked Fraction
sum p q =
    and_then (number Add (p.num *ℤ pos q.den)) (λ left.
    and_then (number Add (q.num *ℤ pos p.den)) (λ right.
    and_then (number Add (left +ℤ right)) (λ num.
    and_then (number Add (pos p.den *ℤ pos q.den)) (λ den.
    Ok (lowest num den)))))

-- the product of a/b and c/d: a*c, b*d, and then lowest terms
unfoldable pub product : Fraction → Fraction → Checked Fraction
product p q =
    and_then (number Mul (p.num *ℤ q.num)) (λ num.
    and_then (number Mul (pos p.den *ℤ pos q.den)) (λ den.
    Ok (lowest num den)))

-- the negative forms nothing
abbrev pub negative : Fraction → Fraction
negative p = record { num = neg_ℤ p.num; den = p.den }

-- the quotient of a/b by c/d for c other than 0: a*d, b*c, and then lowest terms with a positive denominator
unfoldable pub ratio : Fraction → Fraction → Checked Fraction
ratio p q =
    and_then (number Div (p.num *ℤ pos q.den)) (λ num.
    and_then (number Div (pos p.den *ℤ q.num)) (λ den.
    Ok (quotient num den)))

abbrev pub is_zero : Fraction → Bool
is_zero p = int_eq p.num (pos 0)

abbrev pub is_one : Fraction → Bool
is_one p = int_eq p.num (pos 1) && nat_eq p.den 1

abbrev pub same : Fraction → Fraction → Bool
same p q = int_eq p.num q.num && nat_eq p.den q.den
