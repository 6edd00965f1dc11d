-- Whole numbers as fractions.
use Rattle.std.proofs.Common.{◌≡◌, ℕ, ◌/◌, ◌%◌, refl, sym, ◌∙◌, arith, pos}
use Rattle.risch_frac.specs.Gcd.{gcd}
use Rattle.risch_frac.specs.Fraction.{lowest, quotient, whole}
use Rattle.risch_frac.proofs.CommonDivisor.{gcd-zero, gcd-step}

gcd-one : (n : ℕ) → gcd n 1 ≡ 1
gcd-one n = sym (gcd-step n 1 (omega arith)) ∙ gcd-zero 1 (n % 1) (omega arith)

-- n / 1 is the whole number n
pub quotient_one : (n : ℕ) → quotient (pos n) (pos 1) ≡ whole n
unfolding quotient lowest
quotient_one n = rw gcd-one (let same : n / 1 ≡ n = omega arith in rw same refl)
