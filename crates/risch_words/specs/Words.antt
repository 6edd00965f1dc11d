-- What the words of the program ask for.
use Rattle.std.specs.Borrow.{Bor}
use Rattle.std.specs.Prelude.{ℕ, ◌==◌, ◌&&◌, Bool, true, false, cond, List, [], ◌∷◌, map, Option, Some, None, bytes_eq, codes}
use Rattle.risch_words.specs.Numbers.{number_or}
use Rattle.risch_words.specs.declared.request.Command.{Command}
use Rattle.risch_words.specs.declared.request.Command.TheVariants.{Integrate, Check, Solve, Sample}
use Rattle.risch_words.specs.declared.request.Request.{Request}

-- the bytes of a word
abbrev pub Text : Type 0
Text = List ℕ

-- the bytes of the words
abbrev pub texts : List (Bor Text) → List Text
texts words = map (λ word. word.now) words

-- what comes of a value, if there is one
abbrev pub given : {A B : Type 0} → Option A → (A → Option B) → Option B
given None f = None
given (Some a) f = f a

-- ---- where the words stand

-- an option
pub data Name : Type 0 where
  Workers : Name
  Budget : Name
  Size : Name

-- the words in their places: the command, the value of each option, the option whose value is the next word, and whether `--`
-- has ended the options
pub record Places : Type 0 where
  pub command : Option Text
  pub workers : Option Text
  pub budget : Option Text
  pub size : Option Text
  pub waits : Option Name
  pub ended : Bool

-- no word stands anywhere
abbrev pub nowhere : Places
nowhere = record { command = None; workers = None; budget = None; size = None; waits = None; ended = false }

-- the places, if nothing stood where the word went
abbrev pub unless_taken : Option Text → Places → Option Places
unless_taken None places = Some places
unless_taken (Some text) places = None

-- the word is the command
abbrev pub with_command : Text → Places → Option Places
with_command word p = unless_taken p.command (record p { command = Some word })

-- the text is the value of the option
abbrev pub with_value : Name → Text → Places → Option Places
with_value Workers text p = unless_taken p.workers (record p { workers = Some text; waits = None })
with_value Budget text p = unless_taken p.budget (record p { budget = Some text; waits = None })
with_value Size text p = unless_taken p.size (record p { size = Some text; waits = None })

-- the option of this name
abbrev pub name_of : Text → Option Name
name_of text =
    cond (bytes_eq (codes "workers") text) (Some Workers)
    (cond (bytes_eq (codes "budget") text) (Some Budget)
    (cond (bytes_eq (codes "size") text) (Some Size) None))

-- what stands before the first `=` (61)
abbrev pub before_equals : Text → Text
before_equals [] = []
before_equals (b ∷ bs) = cond (b == 61) [] (b ∷ before_equals bs)

-- what stands behind it, if there is one
abbrev pub behind_equals : Text → Option Text
behind_equals [] = None
behind_equals (b ∷ bs) = cond (b == 61) (Some bs) (behind_equals bs)

-- an option with its value, or one that waits for it
abbrev pub with_option : Option Name → Option Text → Places → Option Places
with_option None value p = None
with_option (Some name) (Some value) p = with_value name value p
with_option (Some name) None p = Some (record p { waits = Some name })

-- what follows `--` at the front of a word
abbrev pub behind_hyphens : Text → Option Text
behind_hyphens (a ∷ b ∷ rest) = cond (a == 45 && b == 45) (Some rest) None
behind_hyphens word = None

-- a word while options may still come, by what follows its `--`
abbrev pub with_word : Option Text → Text → Places → Option Places
with_word None word p = with_command word p
with_word (Some []) word p = Some (record p { ended = true })
with_word (Some (b ∷ bs)) word p = with_option (name_of (before_equals (b ∷ bs))) (behind_equals (b ∷ bs)) p

-- a word, by the option that waits for its value
abbrev pub with_next : Option Name → Text → Places → Option Places
with_next (Some name) word p = with_value name word p
with_next None word p = cond p.ended (with_command word p) (with_word (behind_hyphens word) word p)

-- the places after all the words
abbrev pub placed : Places → List Text → Option Places
placed p [] = Some p
placed p (word ∷ words) = given (with_next p.waits word p) (λ q. placed q words)

-- ---- what they ask for

-- the command of this name
abbrev pub command_of : Text → Option Command
command_of text =
    cond (bytes_eq (codes "integrate") text) (Some Integrate)
    (cond (bytes_eq (codes "check") text) (Some Check)
    (cond (bytes_eq (codes "solve") text) (Some Solve)
    (cond (bytes_eq (codes "sample") text) (Some Sample) None)))

-- the request of a command and the values of its options
abbrev pub requested : Option Text → Option Text → Option Text → Option Text → Option Request
requested command workers budget size =
    given command (λ word.
    given (command_of word) (λ name.
    given (number_or 1 16 workers) (λ w.
    given (number_or 100000 9223372036854775807 budget) (λ b.
    given (number_or 8 64 size) (λ s.
    Some (record {
      command = name;
      workers = w.value;
      budget = b.value;
      size = s.value;
      workers_in_range = w.in_range;
      budget_in_range = b.in_range;
      size_in_range = s.in_range;
    }))))))

-- the request of the words in their places, where no option waits for its value
abbrev pub request_at : Option Name → Places → Option Request
request_at None p = requested p.command p.workers p.budget p.size
request_at (Some name) p = None

-- what the words ask for; the first is the program's name, which is not looked at
unfoldable pub asked : List Text → Option Request
asked [] = None
asked (program ∷ words) = given (placed nowhere words) (λ p. request_at p.waits p)
