-- What a list ends as, whose items were lent to be changed.
use Rattle.std.specs.Prelude.{List, ◌++◌, length, take, drop}

-- The list of the same length that begins with these items. A lent slice keeps its length, so these are all of it.
abbrev pub with_items : {T : Type 0} → List T → List T → List T
with_items list items = take (length list) (items ++ drop (length items) list)
