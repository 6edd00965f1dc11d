-- Values, or the fault that ends a rule.
use Rattle.std.specs.Prelude.{Result, Ok, Err}

-- the first, and then what follows from it
abbrev pub and_next : {A B E : Type 0} → Result A E → (A → Result B E) → Result B E
and_next (Ok a) next = next a
and_next (Err fault) next = Err fault

-- what is made of the value
abbrev pub map_value : {A B E : Type 0} → (A → B) → Result A E → Result B E
map_value f (Ok a) = Ok (f a)
map_value f (Err fault) = Err fault
