-- The operations on lists of exponents keep them without a 0 at the end.
use Rattle.std.specs.Prelude.{◌≡◌, refl, ℕ, zero, suc, ◌+◌, ◌-◌, true, false, cond, not, T, eqb, List, [], ◌∷◌}
use Rattle.std.proofs.Common.{sym, subst, arith}
use Rattle.risch_mean.specs.ExponentLists.{add_lists, is_trimmed, lower_list, push, unit_list}

not_zero : (a b : ℕ) → T (not (eqb a 0)) → T (not (eqb (a + b) 0))
not_zero a b h = grind arith

pub is_trimmed-add_lists : (e f : List ℕ) → T (is_trimmed e) → T (is_trimmed f) → T (is_trimmed (add_lists e f))
is_trimmed-add_lists [] f p q = q
is_trimmed-add_lists (a ∷ e) [] p q = p
is_trimmed-add_lists (a ∷ []) (b ∷ []) p q = not_zero a b p
is_trimmed-add_lists (a ∷ []) (b ∷ d ∷ f) p q = q
is_trimmed-add_lists (a ∷ c ∷ e) (b ∷ []) p q = p
is_trimmed-add_lists (a ∷ c ∷ e) (b ∷ d ∷ f) p q = is_trimmed-add_lists (c ∷ e) (d ∷ f) p q

-- ---- the order and the sum: adding the same exponents keeps the order
pub is_trimmed-tail : (a : ℕ) (e : List ℕ) → T (is_trimmed (a ∷ e)) → T (is_trimmed e)
is_trimmed-tail a [] h = tt
is_trimmed-tail a (b ∷ e) h = h

is_trimmed-push : (a : ℕ) (e : List ℕ) → T (is_trimmed e) → T (is_trimmed (push a e))
is_trimmed-push a [] h =
    elim (eqb a 0) as (λ b. eqb a 0 ≡ b → T (is_trimmed (cond b [] (a ∷ [])))) [
      | true ↦ λ _. tt
      | false ↦ λ p. subst (λ b. T (not b)) (sym p) tt
    ] refl
is_trimmed-push a (b ∷ e) h = h

pub is_trimmed-lower : (i : ℕ) (e : List ℕ) → T (is_trimmed e) → T (is_trimmed (lower_list i e))
is_trimmed-lower i [] h = tt
is_trimmed-lower zero (a ∷ e) h = is_trimmed-push (a - 1) e (is_trimmed-tail a e h)
is_trimmed-lower (suc i) (a ∷ e) h = is_trimmed-push a (lower_list i e) (is_trimmed-lower i e (is_trimmed-tail a e h))

pub is_trimmed-unit : (i : ℕ) → T (is_trimmed (unit_list i))
is_trimmed-unit zero = tt
is_trimmed-unit (suc zero) = tt
is_trimmed-unit (suc (suc i)) = is_trimmed-unit (suc i)
