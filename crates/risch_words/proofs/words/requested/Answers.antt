use Rattle.std.proofs.Common.{rules, option_map, Bor, Option}
use Rattle.risch_words.specs.Words.{Text}
use Rattle.risch_words.proofs.RequestLemmas.{requested_is}
use Rattle.risch_words.proofs.words.requested.Goals as goal

abbrev text_of : Option (Bor Text) → Option Text
text_of = option_map (λ t. t.now)

pub returns : goal.returns
returns c = requested_is _ (text_of c.args.command) (text_of c.args.workers) (text_of c.args.budget) (text_of c.args.size) c.in_ok-command.field-0.now
    (search rules) (search rules) (search rules) (search rules) (search rules)
