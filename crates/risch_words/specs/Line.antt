-- The command line as `clap` sees it.
use Rattle.std.specs.Prelude.{List, ℕ, true, Option, Some, codes}
use Rattle.clap.specs.Walk.{Row, Rule, first_of}
use Rattle.clap.specs.Simple.{App, new_app, new_rule, with_rule}
use Rattle.risch_words.specs.declared.request.Request.{Request}
use Rattle.risch_words.specs.Words.{requested}

-- the one word that is required
abbrev pub command_rule : Rule
command_rule = record (new_rule (codes "command")) { required = true }

-- an option with a value
abbrev pub option_rule : List ℕ → Rule
option_rule name = record (new_rule name) { long = Some name }

-- the program's name, with no help flag and no version flag
abbrev pub bare : App
bare = record (new_app (codes "risch")) { top = record (new_app (codes "risch")).top { disable_help_flag = true; disable_version_flag = true } }

-- the command and the three options
abbrev pub line : App
line = with_rule (with_rule (with_rule (with_rule bare command_rule) (option_rule (codes "workers"))) (option_rule (codes "budget"))) (option_rule (codes "size"))

-- the request of the values that a parse found
abbrev pub read : List Row → Option Request
read rows = requested (first_of (codes "command") rows) (first_of (codes "workers") rows) (first_of (codes "budget") rows) (first_of (codes "size") rows)
