-- How the level of an element says which variables occur in it.
use Rattle.std.specs.Prelude.{ℕ, ◌<◌, Option, None, Some}

-- a fraction lies below every level, an element of level l below level n where l < n
abbrev pub IsBelow : Option ℕ → ℕ → Type 0
IsBelow None n = Unit {0}
IsBelow (Some l) n = l < n
