-- The level at a place of the list of levels: its rate and its monomial.
use Rattle.std.specs.Prelude.{slice_get, IfSome}
use Rattle.std.proofs.Common.{◌≡◌, ℕ, zero, suc, ◌-◌, ◌<◌, ◌≤◌, get_or, List, [], ◌∷◌, map, length, ap, arith, subst}
use Rattle.risch_tower.specs.declared.level.Level.{Level}
use Rattle.risch_tower.specs.Tower.{rate_at, rate_of_x}

rate-in : (levels : List Level) (i : ℕ) (l : Level) → i < length levels → l ≡ get_or levels i l → l.rate ≡ get_or (map (λ l. l.rate) levels) i rate_of_x
rate-in [] i l k e = absurd (omega arith)
rate-in (m ∷ levels) zero l k e = ap (λ (l : Level). l.rate) e
rate-in (m ∷ levels) (suc i) l k e = rate-in levels i l (omega arith) e

pub rate-there : (levels : List Level) (n : ℕ) (l : Level) → 1 ≤ n → n ≤ length levels → l ≡ get_or levels (n - 1) l → l.rate ≡ rate_at levels n
rate-there levels zero l some k e = absurd (omega arith)
rate-there levels (suc i) l some k e = rate-in levels i l (omega arith) (subst (λ (j : ℕ). l ≡ get_or levels j l) (omega arith) e)

pub monomial-there : (levels : List Level) (i : ℕ) (l : Level) → i < length levels → l ≡ get_or levels i l → IfSome (slice_get levels i) (λ it. l.monomial ≡ it.monomial)
monomial-there [] i l k e = absurd (omega arith)
monomial-there (m ∷ levels) zero l k e = ap (λ (l : Level). l.monomial) e
monomial-there (m ∷ levels) (suc i) l k e = monomial-there levels i l (omega arith) e
