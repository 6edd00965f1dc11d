-- A request whose command and numbers are known.
use Rattle.std.proofs.Common.{◌≡◌, refl, sym, codes, Option, Some}
use Rattle.clap.specs.Matches.{first_value}
use Rattle.clap.specs.Walk.{rows_of}
use Rattle.clap.specs.declared.parser.matches.Found.{Found}
use Rattle.clap.proofs.WalkLemmas.{first_value-rows}
use Rattle.risch_words.specs.declared.request.Request.{Request}
use Rattle.risch_words.specs.Line.{read}
use Rattle.risch_words.specs.Numbers.{number_or}
use Rattle.risch_words.specs.Words.{Text, command_of, requested}
use Rattle.risch_words.proofs.NumberLemmas.{number_is, value_of}

pub requested_is : (r : Request) (command workers budget size : Option Text) (word : Text) → command ≡ Some word → command_of word ≡ Some r.command → value_of (number_or 1 16 workers) ≡ Some r.workers
    → value_of (number_or 100000 9223372036854775807 budget) ≡ Some r.budget → value_of (number_or 8 64 size) ≡ Some r.size → Some r ≡ requested command workers budget size
requested_is r command workers budget size word c n w b s =
    rw (
      c,
      n,
      number_is 16 r.workers r.workers_in_range (number_or 1 16 workers) w,
      number_is 9223372036854775807 r.budget r.budget_in_range (number_or 100000 9223372036854775807 budget) b,
      number_is 64 r.size r.size_in_range (number_or 8 64 size) s,
    ) refl

-- the request of the values that are found
pub read_found : (f : Found) → read (rows_of f) ≡ requested (first_value f (codes "command")) (first_value f (codes "workers")) (first_value f (codes "budget")) (first_value f (codes "size"))
read_found f = sym (rw (first_value-rows f (codes "command"), first_value-rows f (codes "workers"), first_value-rows f (codes "budget"), first_value-rows f (codes "size")) refl)
