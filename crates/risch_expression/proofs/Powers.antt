-- The loop of a power: what is left to multiply.
use Rattle.std.proofs.Common.{◌≡◌, ℕ, zero, suc, ◌+◌, ◌-◌, ◌<◌, ◌≤◌, List, Result, Ok, ap, subst, ◌∙◌, arith}
use Rattle.risch_field.specs.Checked.{and_then, IsStopOf, Agrees}
use Rattle.risch_field.specs.declared.Fail.{Fail}
use Rattle.risch_field.proofs.CheckedSteps.{stop_passes}
use Rattle.risch_polynomial.specs.Poly as poly
use Rattle.risch_level.specs.Levels.{Element, element}
use Rattle.risch_expression.specs.Evaluation.{multiplied, power_of}

-- one factor is left, and then those after it
one_more : (p v : List Element) (n k : ℕ) → k < n → multiplied v p (n - k) ≡ and_then (poly.product element v p) (λ q. multiplied q p (n - (k + 1)))
one_more p v n k h = ap (multiplied v p) (let e : n - k ≡ suc (n - (k + 1)) = omega arith in e)

pub multiplied_stops : (stop : Fail) (p s v : List Element) (n k : ℕ) → multiplied s p n ≡ multiplied v p (n - k) → k < n → IsStopOf stop (poly.product element v p) → IsStopOf stop (multiplied s p n)
multiplied_stops stop p s v n k e h stops = rw (e ∙ one_more p v n k h) (stop_passes stop (poly.product element v p) (λ q. multiplied q p (n - (k + 1))) stops)

pub multiplied_more : (p s v w : List Element) (n k : ℕ) → multiplied s p n ≡ multiplied v p (n - k) → k < n → poly.product element v p ≡ Ok w → multiplied s p n ≡ multiplied w p (n - (k + 1))
multiplied_more p s v w n k e h o = e ∙ one_more p v n k h ∙ ap (λ r. and_then r (λ q. multiplied q p (n - (k + 1)))) o

pub multiplied_done : (p s v : List Element) (n k : ℕ) → multiplied s p n ≡ multiplied v p (n - k) → n ≤ k → multiplied s p n ≡ Ok v
multiplied_done p s v n k e h = e ∙ ap (multiplied v p) (let z : n - k ≡ 0 = omega arith in z)

-- a power begins with its base
pub power_multiplied : (answer : Result (List Element) Fail) (p s : List Element) (n : ℕ) → 0 < n → s ≡ p → Agrees answer (multiplied s p (n - 1)) → Agrees answer (power_of p n)
unfolding power_of
power_multiplied answer p s zero h e a = absurd (omega arith)
power_multiplied answer p s (suc n) h e a = subst (λ q. Agrees answer (multiplied q p n)) e (subst (λ k. Agrees answer (multiplied s p k)) (let same : suc n - 1 ≡ n = omega arith in same) a)
