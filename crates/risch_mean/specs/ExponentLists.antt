-- Lists of exponents: entry i is the exponent of variable i, and all entries past the end are 0.
use Rattle.std.specs.Prelude.{ℕ, zero, suc, ◌+◌, ◌-◌, Bool, true, cond, not, eqb, List, [], ◌∷◌}

-- whether there is no 0 at the end
abbrev pub is_trimmed : List ℕ → Bool
is_trimmed [] = true
is_trimmed (a ∷ []) = not (eqb a 0)
is_trimmed (a ∷ b ∷ e) = is_trimmed (b ∷ e)

-- the sum, entry by entry
abbrev pub add_lists : List ℕ → List ℕ → List ℕ
add_lists [] f = f
add_lists (a ∷ e) [] = a ∷ e
add_lists (a ∷ e) (b ∷ f) = (a + b) ∷ add_lists e f

-- a before the list e; a list that would be 0 alone is empty
abbrev pub push : ℕ → List ℕ → List ℕ
push a [] = cond (eqb a 0) [] (a ∷ [])
push a (b ∷ e) = a ∷ b ∷ e

-- the list with entry i less 1, where this is not 0
abbrev pub lower_list : ℕ → List ℕ → List ℕ
lower_list i [] = []
lower_list zero (a ∷ e) = push (a - 1) e
lower_list (suc i) (a ∷ e) = push a (lower_list i e)

-- entry i, 0 past the end
abbrev pub entry : ℕ → List ℕ → ℕ
entry i [] = 0
entry zero (a ∷ e) = a
entry (suc i) (a ∷ e) = entry i e

-- 1 at place i alone
abbrev pub unit_list : ℕ → List ℕ
unit_list zero = 1 ∷ []
unit_list (suc i) = 0 ∷ unit_list i
