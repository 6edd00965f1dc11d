-- What some words ask for.
use Rattle.std.proofs.Common.{◌≡◌, ◌==◌, refl, cond, ℕ, List, [], ◌∷◌, Option, Some, None, option_map, codes}
use Rattle.risch_words.specs.declared.request.Command.{Command}
use Rattle.risch_words.specs.declared.request.Command.TheVariants.{Integrate, Check, Solve, Sample}
use Rattle.risch_words.specs.Words.{Text, asked}

-- a byte before the first word
abbrev begun : ℕ → List Text → List Text
begun b [] = (b ∷ []) ∷ []
begun b (word ∷ words) = (b ∷ word) ∷ words

-- the words between the spaces (32)
abbrev split : Text → List Text
split [] = [] ∷ []
split (b ∷ bs) = cond (b == 32) ([] ∷ split bs) (begun b (split bs))

-- the command, the workers, the budget and the size that the words ask for
abbrev asks : List Text → Option (Command × ℕ × ℕ × ℕ)
asks words = option_map (λ r. (r.command, r.workers, r.budget, r.size)) (asked words)

bare : asks (split (codes "risch integrate")) ≡ Some (Integrate, 1, 100000, 8)
unfolding asked
bare = refl

each_command_check : asks (split (codes "risch check")) ≡ Some (Check, 1, 100000, 8)
unfolding asked
each_command_check = refl

each_command_solve : asks (split (codes "risch solve")) ≡ Some (Solve, 1, 100000, 8)
unfolding asked
each_command_solve = refl

all_options : asks (split (codes "risch --workers 16 sample --size=64 --budget 9223372036854775807")) ≡ Some (Sample, 16, 9223372036854775807, 64)
unfolding asked
all_options = refl

glued : asks (split (codes "risch --budget=2 integrate")) ≡ Some (Integrate, 1, 2, 8)
unfolding asked
glued = refl

leading_zeros : asks (split (codes "risch integrate --budget 0002")) ≡ Some (Integrate, 1, 2, 8)
unfolding asked
leading_zeros = refl

many_zeros : asks (split (codes "risch integrate --workers 000000000000000000000000000000016")) ≡ Some (Integrate, 16, 100000, 8)
unfolding asked
many_zeros = refl

not_needed : asks (split (codes "risch check --size 3")) ≡ Some (Check, 1, 100000, 3)
unfolding asked
not_needed = refl

ended : asks (split (codes "risch --budget 2 -- integrate")) ≡ Some (Integrate, 1, 2, 8)
unfolding asked
ended = refl

ended_behind : asks (split (codes "risch integrate --")) ≡ Some (Integrate, 1, 100000, 8)
unfolding asked
ended_behind = refl

no_words : asks [] ≡ None
unfolding asked
no_words = refl

no_command : asks (split (codes "risch")) ≡ None
unfolding asked
no_command = refl

unknown_command : asks (split (codes "risch sum")) ≡ None
unfolding asked
unknown_command = refl

two_commands : asks (split (codes "risch integrate check")) ≡ None
unfolding asked
two_commands = refl

empty_command : asks (split (codes "risch ")) ≡ None
unfolding asked
empty_command = refl

sign : asks (split (codes "risch integrate --budget +2")) ≡ None
unfolding asked
sign = refl

minus : asks (split (codes "risch integrate --budget -2")) ≡ None
unfolding asked
minus = refl

shortened : asks (split (codes "risch integrate --work 2")) ≡ None
unfolding asked
shortened = refl

unknown_option : asks (split (codes "risch integrate --depth 2")) ≡ None
unfolding asked
unknown_option = refl

short_option : asks (split (codes "risch integrate -b 2")) ≡ None
unfolding asked
short_option = refl

twice : asks (split (codes "risch integrate --budget 2 --budget 2")) ≡ None
unfolding asked
twice = refl

many_workers : asks (split (codes "risch integrate --workers 17")) ≡ None
unfolding asked
many_workers = refl

no_workers : asks (split (codes "risch integrate --workers 0")) ≡ None
unfolding asked
no_workers = refl

no_size : asks (split (codes "risch integrate --size 0")) ≡ None
unfolding asked
no_size = refl

large_budget : asks (split (codes "risch integrate --budget 9223372036854775808")) ≡ None
unfolding asked
large_budget = refl

no_value : asks (split (codes "risch integrate --budget")) ≡ None
unfolding asked
no_value = refl

empty_value : asks (split (codes "risch integrate --budget=")) ≡ None
unfolding asked
empty_value = refl

end_as_value : asks (split (codes "risch --budget -- integrate")) ≡ None
unfolding asked
end_as_value = refl

option_as_value : asks (split (codes "risch --budget --size integrate")) ≡ None
unfolding asked
option_as_value = refl

ended_twice : asks (split (codes "risch -- -- integrate")) ≡ None
unfolding asked
ended_twice = refl

option_behind_end : asks (split (codes "risch integrate -- --budget 2")) ≡ None
unfolding asked
option_behind_end = refl

hyphen : asks (split (codes "risch -")) ≡ None
unfolding asked
hyphen = refl
