-- A polynomial with another coefficient at one exponent.
use Rattle.std.specs.Prelude.{ℕ, zero, suc, List, [], ◌∷◌}
use Rattle.risch_field.specs.Ops.{Ops}

-- p with the coefficient c at exponent e, and zeros between where e lies above the degree
abbrev pub replaced : {E : Type 0} → Ops E → List E → ℕ → E → List E
replaced o [] zero c = c ∷ []
replaced o [] (suc e) c = o.zero ∷ replaced o [] e c
replaced o (a ∷ p) zero c = c ∷ p
replaced o (a ∷ p) (suc e) c = a ∷ replaced o p e c
