-- The kind of a level is what it says: Dt is the value of the polynomial that the kind gives.
--     kind_is      of each level of the tower
--     kind_past, kind_is_past      a level past the end of the tower is primitive with Dt = 0
use Rattle.std.specs.Prelude.{◌≡◌, refl, ℕ, zero as nat_zero, suc, ◌+◌, [], ◌∷◌, ◌++◌, length, ◌≤◌, ◌<◌}
use Rattle.std.proofs.Common.{sym, ap, ◌∙◌, subst, arith, length-append}
use Rattle.risch_ring.proofs.Expression.{reading}
use Rattle.risch_ring.proofs.Solver.{ring}
use Rattle.risch_mean.specs.Element.{Element, one, zero, add, mul, variable}
use Rattle.risch_mean.specs.ElementField.{elements}
use Rattle.risch_mean.specs.Tower.{Tower, Monomial, log, exp, primitive, derive_in, IsTower, kind_at, kind_of, kind_by, derivative_of}
use Rattle.risch_mean.proofs.Levels.{derivative-x, derivative-log, derivative-exp, derivative-past}
use Rattle.risch_mean.specs.Univariate.{value_at}

constant_value : (t η : Element) → η ≡ add η (mul t zero)
constant_value t η = ring elements.ring (t ∷ η ∷ []) (search reading depth 20) refl

linear_value : (t η : Element) → mul η t ≡ add zero (mul t (add η (mul t zero)))
linear_value t η = ring elements.ring (t ∷ η ∷ []) (search reading depth 30 fits 4000) refl

append_one : (before : Tower) (m : Monomial) (after : Tower) → (before ++ (m ∷ [])) ++ after ≡ before ++ (m ∷ after)
append_one [] m after = refl
append_one (l ∷ before) m after = ap (λ (r : Tower). l ∷ r) (append_one before m after)

-- the level of the monomial i places into the rest ms of the tower
kind_from : (before ms : Tower) (i : ℕ) → i < length ms → IsTower (before ++ ms) →
    derive_in (before ++ ms) (variable (suc (length before + i))) ≡ value_at elements.ring (variable (suc (length before + i))) (derivative_of (kind_at (before ++ ms) ms i))
kind_from before [] i l h = absurd (omega (arith, l))
kind_from before (log a ∷ after) nat_zero l h =
    subst (λ (k : ℕ). derive_in (before ++ (log a ∷ after)) (variable (suc k)) ≡ value_at elements.ring (variable (suc k)) (derivative_of (kind_by (before ++ (log a ∷ after)) (log a)))) (omega arith)
    (derivative-log before a after h ∙ constant_value (variable (suc (length before))) _)
kind_from before (exp a ∷ after) nat_zero l h =
    subst (λ (k : ℕ). derive_in (before ++ (exp a ∷ after)) (variable (suc k)) ≡ value_at elements.ring (variable (suc k)) (derivative_of (kind_by (before ++ (exp a ∷ after)) (exp a)))) (omega arith)
    (derivative-exp before a after h ∙ linear_value (variable (suc (length before))) _)
kind_from before (m ∷ after) (suc i) l h =
    subst (λ (k : ℕ). derive_in (before ++ (m ∷ after)) (variable (suc k)) ≡ value_at elements.ring (variable (suc k)) (derivative_of (kind_at (before ++ (m ∷ after)) after i))) (omega (arith, length-append before (m ∷ [])))
    (subst (λ (w : Tower). derive_in w (variable (suc (length (before ++ (m ∷ [])) + i))) ≡ value_at elements.ring (variable (suc (length (before ++ (m ∷ [])) + i))) (derivative_of (kind_at w after i))) (append_one before m after)
    (kind_from (before ++ (m ∷ [])) after i (omega (arith, l)) (subst IsTower (sym (append_one before m after)) h)))

pub kind_is : (tower : Tower) (n : ℕ) → n ≤ length tower → IsTower tower → derive_in tower (variable n) ≡ value_at elements.ring (variable n) (derivative_of (kind_of tower n))
kind_is tower nat_zero l h = derivative-x tower ∙ constant_value (variable 0) one
kind_is tower (suc i) l h =
    subst (λ (k : ℕ). derive_in tower (variable (suc k)) ≡ value_at elements.ring (variable (suc k)) (derivative_of (kind_at tower tower i))) (omega arith)
    (kind_from [] tower i (omega (arith, l)) h)

pub kind_at_past : (tower ms : Tower) (i : ℕ) → length ms ≤ i → kind_at tower ms i ≡ primitive zero
kind_at_past tower [] i l = refl
kind_at_past tower (m ∷ ms) nat_zero l = absurd (omega arith)
kind_at_past tower (m ∷ ms) (suc i) l = kind_at_past tower ms i (omega arith)

pub kind_past : (tower : Tower) (n : ℕ) → length tower < n → kind_of tower n ≡ primitive zero
kind_past tower nat_zero l = absurd (omega arith)
kind_past tower (suc i) l = kind_at_past tower tower i (omega arith)

pub kind_is_past : (tower : Tower) (n : ℕ) → length tower < n → derive_in tower (variable n) ≡ value_at elements.ring (variable n) (derivative_of (kind_of tower n))
kind_is_past tower n l =
    derivative-past tower n l ∙ constant_value (variable n) zero
    ∙ sym (ap (λ k. value_at elements.ring (variable n) (derivative_of k)) (kind_past tower n l))
