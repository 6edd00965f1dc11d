-- What came of reading the input.
use Rattle.std.specs.Prelude.{ℕ, ◌≤◌, Option, None, Some, List, length}
use Rattle.risch_io.specs.Whole.{IsAllOf, HasMoreThan}

-- the bytes that are left, at most 1048576 of them; or there are more
abbrev pub IsInput : Option (List ℕ) → Option (List ℕ) → Type 0
IsInput left (Some bytes) = (length bytes ≤ 1048576) × IsAllOf left bytes
IsInput left None = HasMoreThan 1048576 left
