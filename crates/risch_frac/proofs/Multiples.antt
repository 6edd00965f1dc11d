-- Quotients of fractions by small whole numbers, and products with them: they do not overflow, and n·(p/n) = p.
use Rattle.std.specs.Prelude.{Ok}
use Rattle.std.proofs.Common.{◌≡◌, ◌≢◌, ℕ, ◌-◌, ◌*◌, ◌^◌, ◌<◌, ◌≤◌, [], ◌∷◌, refl, ◌∙◌, ap, arith, ℤ, pos, ◌*ℤ◌, ◌<ℤ◌, unsigned_abs}
use Rattle.std.proofs.Math.Nat.{mul-le-mul, mul_comm}
use Rattle.std.proofs.lemmas.Int.{unsigned_abs-mul}
use Rattle.risch_ring.specs.Integers as Integers
use Rattle.risch_ring.proofs.Domains.{cancel, ints_domain}
use Rattle.risch_ring.proofs.Expression.{reading_ints}
use Rattle.risch_ring.proofs.Solver.{ring, linear}
use Rattle.risch_frac.specs.Fraction.{Fraction, IsLowest, whole, lowest, product, ratio}
use Rattle.risch_frac.proofs.Signs.{positive_product}
use Rattle.risch_frac.proofs.Lowest.{lowest-is_lowest, lowest-num_le, lowest-den_le, lowest_unique, quotient-positive}
use Rattle.risch_frac.proofs.Rules.{product-fits, ratio-fits, product-formed, ratio-formed, formed-is_lowest, formed-value, denominator-nonzero, divisor-nonzero, pos-positive}

-- a·n with a < 2^60 and n ≤ 2^8
small_product : (a n : ℕ) → a < 2 ^ 60 → n ≤ 256 → a * n < 2 ^ 68
small_product a n p q =
    let below : a ≤ 2 ^ 60 - 1 = omega arith in
    let bound : a * n ≤ (2 ^ 60 - 1) * 256 = mul-le-mul below q in
    omega arith

-- p/n for a whole number n from 1 to 256
pub ratio-small : (p : Fraction) (n : ℕ) → IsLowest p → unsigned_abs p.num < 2 ^ 60 → p.den < 2 ^ 60 → 0 < n → n ≤ 256 →
    (r : Fraction) × (ratio p (whole n) ≡ Ok r) × IsLowest r × (unsigned_abs r.num < 2 ^ 60) × (r.den < 2 ^ 68)
ratio-small p n lowest_p num_small den_small some few =
    let num = p.num *ℤ pos 1 in
    let den = pos p.den *ℤ pos n in
    let num_is : unsigned_abs num ≡ unsigned_abs p.num = unsigned_abs-mul p.num (pos 1) ∙ (omega arith) in
    let den_is : unsigned_abs den ≡ p.den * n = unsigned_abs-mul (pos p.den) (pos n) in
    let den_below : p.den * n < 2 ^ 68 = small_product p.den n den_small few in
    let num_fits : unsigned_abs num < 2 ^ 127 = omega arith in
    let den_fits : unsigned_abs den < 2 ^ 127 = omega arith in
    let positive : pos 0 <ℤ den = positive_product (pos p.den) (pos n) (pos-positive p.den lowest_p.positive) (pos-positive n some) in
    let num_le = lowest-num_le num den in
    let den_le = lowest-den_le num den in (
      lowest num den,
      ratio-fits p (whole n) num_fits den_fits ∙ ap Ok (quotient-positive num den positive),
      lowest-is_lowest num den positive num_fits den_fits,
      (omega arith),
      (omega arith),
    )

-- n·p for a whole number n up to 256
pub product-small : (p : Fraction) (n : ℕ) → IsLowest p → unsigned_abs p.num < 2 ^ 60 → p.den < 2 ^ 68 → n ≤ 256 →
    (r : Fraction) × (product (whole n) p ≡ Ok r)
product-small p n lowest_p num_small den_small few =
    let num = pos n *ℤ p.num in
    let den = pos 1 *ℤ pos p.den in
    let num_is : unsigned_abs num ≡ unsigned_abs p.num * n = unsigned_abs-mul (pos n) p.num ∙ mul_comm n (unsigned_abs p.num) in
    let den_is : unsigned_abs den ≡ p.den = unsigned_abs-mul (pos 1) (pos p.den) ∙ (omega arith) in
    let num_below : unsigned_abs p.num * n < 2 ^ 68 = small_product (unsigned_abs p.num) n num_small few in
    (lowest num den, product-fits (whole n) p (omega arith) (omega arith))

-- n·(p/n) = p
pub undone : (p r s : Fraction) (n : ℕ) → IsLowest p → 0 < n → ratio p (whole n) ≡ Ok r → product (whole n) r ≡ Ok s → s ≡ p
undone p r s n lowest_p some divided multiplied =
    let nonzero : pos n ≢ pos 0 = λ z. (let none : n ≡ 0 = cc in omega arith) in
    let divisor = divisor-nonzero p (whole n) lowest_p.positive nonzero in
    let part = ratio-formed p (whole n) r divided in
    let lowest_r = formed-is_lowest divisor part in
    let back = product-formed (whole n) r s (omega arith) lowest_r.positive multiplied in
    let common = denominator-nonzero (whole n) r (omega arith) lowest_r.positive in
    let r_nonzero : ¬ (pos r.den ≡ pos 0) = λ z. (let none : r.den ≡ 0 = cc in let positive = lowest_r.positive in omega arith) in
    lowest_unique s p (formed-is_lowest common back) lowest_p
    (cancel Integers.ints ints_domain (pos r.den) r_nonzero
    (whole_again (pos n) p.num (pos p.den) r.num (pos r.den) s.num (pos s.den) (formed-value divisor part) (formed-value common back)))
  where
    -- r = a / (b·n) and s = n·r give s = a / b
    whole_again : (n a b r d s e : ℤ) → r *ℤ (b *ℤ n) ≡ (a *ℤ pos 1) *ℤ d → s *ℤ (pos 1 *ℤ d) ≡ (n *ℤ r) *ℤ e → d *ℤ (s *ℤ b) ≡ d *ℤ (a *ℤ e)
    whole_again n a b r d s e h k =
        linear Integers.ints e h (linear Integers.ints b k (ring Integers.ints (n ∷ a ∷ b ∷ r ∷ d ∷ s ∷ e ∷ []) (search reading_ints depth 20 fits 6000) refl))
