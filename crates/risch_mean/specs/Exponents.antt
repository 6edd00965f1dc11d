-- Exponent lists: entry i is the exponent of variable i. Variable 0 is x, variable i is the i-th monomial of the tower.
-- All entries past the end are 0, and a list has no 0 at its end, so a monomial has exactly one exponent list, whatever the height of the tower.
use Rattle.std.specs.Prelude.{ℕ, Bool, T, leb, List, [], length}
use Rattle.std.specs.declared.cmp.Ordering.{Ordering}
use Rattle.std.specs.Ordering.{nat_cmp}
use Rattle.std.specs.Cmp.Lexicographic.{slice_cmp}
use Rattle.risch_mean.specs.ExponentLists.{add_lists, entry, is_trimmed, lower_list, unit_list}
use Rattle.risch_mean.specs.ExponentListLaws.{is_trimmed-add_lists, is_trimmed-lower, is_trimmed-unit}

-- a list of exponents without a 0 at its end
pub record Exponents : Type 0 where
  pub entries : List ℕ
  pub trimmed : T (is_trimmed entries)

-- the exponents of a product of two monomials
unfoldable pub add : Exponents → Exponents → Exponents
add e f = record { entries = add_lists e.entries f.entries; trimmed = is_trimmed-add_lists e.entries f.entries e.trimmed f.trimmed }

-- the exponents of the monomial 1
unfoldable pub none : Exponents
none = record { entries = []; trimmed = tt }

-- the order: the first entry that differs decides, and a list goes before those that it begins
unfoldable pub compare : Exponents → Exponents → Ordering
compare e f = slice_cmp nat_cmp e.entries f.entries

-- the exponent of variable i
unfoldable pub exponent : ℕ → Exponents → ℕ
exponent i e = entry i e.entries

-- the exponents with that of variable i less 1, where it is not 0
unfoldable pub lower : ℕ → Exponents → Exponents
lower i e = record { entries = lower_list i e.entries; trimmed = is_trimmed-lower i e.entries e.trimmed }

-- the exponents of variable i alone
unfoldable pub unit : ℕ → Exponents
unit i = record { entries = unit_list i; trimmed = is_trimmed-unit i }

-- whether only variables below n occur
unfoldable pub below : ℕ → Exponents → Bool
below n e = leb (length e.entries) n
