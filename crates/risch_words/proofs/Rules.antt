-- The arguments of the command line as `clap` builds it, and where it finds each.
use Rattle.std.proofs.Common.{◌≡◌, ◌||◌, refl, Bool, true, false, cond, List, [], ◌∷◌, Some, None, option_map, codes, bytes_eq}
use Rattle.clap.specs.Walk.{Rule, arg_by_id, arg_by_long}
use Rattle.clap.specs.Simple.{Shape, built, filled, is_simple, with_index}
use Rattle.clap.specs.Faults.{is_simple_and_free}
use Rattle.risch_words.specs.Line.{command_rule, line, option_rule}
use Rattle.risch_words.specs.Words.{Name, Workers, Budget, Size, Text, name_of}

-- `clap` says of the command line exactly what a parse gives
pub is_simple_line : is_simple line ≡ true
is_simple_line = refl

pub is_free_line : is_simple_and_free line ≡ true
is_free_line = refl

-- ---- the arguments

abbrev pub id : Name → Text
id Workers = codes "workers"
id Budget = codes "budget"
id Size = codes "size"

abbrev pub command_id : Text
command_id = codes "command"

abbrev pub option_arg : Name → Rule
option_arg name = filled (option_rule (id name))

abbrev pub command_arg : Rule
command_arg = with_index 1 (filled command_rule)

abbrev pub rules : List Rule
rules = command_arg ∷ option_arg Workers ∷ option_arg Budget ∷ option_arg Size ∷ []

abbrev pub shape : Shape
shape = (built line).top

-- ---- where an argument is found

pub found_by_id : (name : Name) → arg_by_id rules (id name) ≡ Some (option_arg name)
found_by_id Workers = refl
found_by_id Budget = refl
found_by_id Size = refl

pub found_by_long : (name : Text) → arg_by_long rules name ≡ option_map option_arg (name_of name)
found_by_long name = go (bytes_eq (id Workers) name) (bytes_eq (id Budget) name) (bytes_eq (id Size) name)
  where
    go : (a b c : Bool) → cond (a || false) (Some (option_arg Workers)) (cond (b || false) (Some (option_arg Budget)) (cond (c || false) (Some (option_arg Size)) None))
        ≡ option_map option_arg (cond a (Some Workers) (cond b (Some Budget) (cond c (Some Size) None)))
    go true b c = refl
    go false true c = refl
    go false false true = refl
    go false false false = refl
