-- Euclid's algorithm: its steps, that it gives the greatest common divisor, and Euclid's lemma.
use Rattle.std.proofs.Common.{◌≡◌, ℕ, zero, suc, ◌+◌, ◌*◌, ◌/◌, ◌%◌, ◌<◌, ◌≤◌, refl, sym, ◌∙◌, ap, arith, subst}
use Rattle.std.specs.Int.{IsGcd, ◌∣◌}
use Rattle.std.proofs.Math.Nat.{add-zero, zero-mul, one-mul, mul-pos, mul-div_cancel, mul-mod_left, dvd-mul_right, div-mul_cancel, dvd_of_mul-dvd-mul_right, mul-dvd-mul_right, eq-one_of_dvd-one, pos_of_dvd_of_pos, le_of_dvd}
use Rattle.std.proofs.Math.Arith.{mod-mul}
use Rattle.std.proofs.lemmas.Nat.Gcd.{IsGcd-from_zero, IsGcd-from_mod, dvd-zero}
use Rattle.risch_frac.specs.Gcd.{gcd, gcd_within}

-- more steps than the second number change nothing
pub gcd_within-enough : (m n a b : ℕ) → b < m → b < n → gcd_within m a b ≡ gcd_within n a b
gcd_within-enough zero n a b p q = absurd (omega arith)
gcd_within-enough (suc m) zero a b p q = absurd (omega arith)
gcd_within-enough (suc m) (suc n) a zero p q = refl
gcd_within-enough (suc m) (suc n) a (suc b) p q =
    gcd_within-enough m n (suc b) (a % suc b) (omega arith) (omega arith)

pub gcd-zero : (a b : ℕ) → b ≡ 0 → gcd a b ≡ a
unfolding gcd
gcd-zero a zero e = refl
gcd-zero a (suc b) e = absurd (omega arith)

pub gcd-step : (a b : ℕ) → 0 < b → gcd b (a % b) ≡ gcd a b
unfolding gcd
gcd-step a zero p = absurd (omega arith)
gcd-step a (suc b) p = gcd_within-enough (suc (a % suc b)) (suc b) (suc b) (a % suc b) (omega arith) (omega arith)

IsGcd-gcd_within : (m a b : ℕ) → b < m → IsGcd a b (gcd_within m a b)
IsGcd-gcd_within zero a b p = absurd (omega arith)
IsGcd-gcd_within (suc m) a zero p = IsGcd-from_zero a zero refl
IsGcd-gcd_within (suc m) a (suc b) p = IsGcd-from_mod a (suc b) _ (IsGcd-gcd_within m (suc b) (a % suc b) (omega arith))

pub IsGcd-gcd : (a b : ℕ) → IsGcd a b (gcd a b)
unfolding gcd
IsGcd-gcd a b = IsGcd-gcd_within (suc b) a b (omega arith)

pub gcd-positive : (a b : ℕ) → 0 < b → 0 < gcd a b
gcd-positive a b p = pos_of_dvd_of_pos (IsGcd-gcd a b).1 p

pub gcd-le : (a b : ℕ) → 0 < b → gcd a b ≤ b
gcd-le a b p = le_of_dvd p (IsGcd-gcd a b).1

-- what divides the quotient of a number by g divides, times g, that number
times : (d a g : ℕ) → g ∣ a → d ∣ a / g → d * g ∣ a
times d a g divides h = subst (λ n. d * g ∣ n) (div-mul_cancel g divides) (mul-dvd-mul_right d h g)

pub gcd-div_gcd : (a b : ℕ) → 0 < b → gcd (a / gcd a b) (b / gcd a b) ≡ 1
gcd-div_gcd a b p =
    let g = gcd a b in
    let of_g = IsGcd-gcd a b in
    let of_d = IsGcd-gcd (a / g) (b / g) in
    let d = gcd (a / g) (b / g) in
    let both : d * g ∣ g = of_g.2 (d * g) (times d a g of_g.0 of_d.0) (times d b g of_g.1 of_d.1) in
    let once : d * g ∣ 1 * g = subst (λ n. d * g ∣ n) (omega arith) both in
    eq-one_of_dvd-one (dvd_of_mul-dvd-mul_right d (gcd-positive a b p) once)

-- (a·c) % (b·c) = (a % b)·c
mul-mod_mul : (a b c : ℕ) → 0 < b → 0 < c → (a * c) % (b * c) ≡ (a % b) * c
mul-mod_mul a b c p q = mod-mul (a * c) p q ∙ ap (λ n. (n % b) * c + (a * c) % c) (mul-div_cancel a q) ∙ ap (λ n. (a % b) * c + n) (mul-mod_left a c) ∙ add-zero ((a % b) * c)

-- a common factor of two numbers comes out of their common divisor: gcd (a·c) (b·c) = gcd a b · c
gcd-mul_within : (m a b c : ℕ) → b < m → 0 < c → gcd (a * c) (b * c) ≡ gcd a b * c
gcd-mul_within zero a b c p q = absurd (omega arith)
gcd-mul_within (suc m) a zero c p q = gcd-zero (a * c) (zero * c) (zero-mul c) ∙ ap (λ n. n * c) (sym (gcd-zero a zero refl))
gcd-mul_within (suc m) a (suc b) c p q =
    let rest : (a * c) % (suc b * c) ≡ (a % suc b) * c = mul-mod_mul a (suc b) c (omega arith) q in
    sym (gcd-step (a * c) (suc b * c) (mul-pos (omega arith) q)) ∙ ap (λ n. gcd (suc b * c) n) rest
    ∙ gcd-mul_within m (suc b) (a % suc b) c (omega arith) q ∙ ap (λ n. n * c) (gcd-step a (suc b) (omega arith))

pub gcd-mul : (a b c : ℕ) → 0 < c → gcd (a * c) (b * c) ≡ gcd a b * c
gcd-mul a b c = gcd-mul_within (suc b) a b c (omega arith)

-- Euclid's lemma: a divisor of a·c with no common divisor with a divides c
pub dvd_of_coprime : (a b c : ℕ) → gcd a b ≡ 1 → b ∣ a * c → b ∣ c
dvd_of_coprime a b zero e h = dvd-zero b
dvd_of_coprime a b (suc c) e h =
    let divides = (IsGcd-gcd (a * suc c) (b * suc c)).2 b h (dvd-mul_right b (suc c)) in
    let same : gcd (a * suc c) (b * suc c) ≡ suc c = gcd-mul a b (suc c) (omega arith) ∙ ap (λ n. n * suc c) e ∙ one-mul (suc c) in
    subst (λ n. b ∣ n) same divides
