use Rattle.std.proofs.Common.{ap, ◌∙◌, true}
use Rattle.clap.specs.Simple.{App, app_of_fields}
use Rattle.risch_words.proofs.line.program.Goals as goal

abbrev without_version : App → App
without_version a = record a { top = record a.top { disable_version_flag = true } }

abbrev without_help : App → App
without_help a = record a { top = record a.top { disable_help_flag = true } }

pub returns : goal.returns
returns c = ap app_of_fields c.disable_version_flag.ensures ∙ ap (λ (a : App). without_version a) (ap app_of_fields c.disable_help_flag.ensures ∙ ap (λ (a : App). without_help a) c.new.ensures.app)
