use Rattle.std.proofs.Common.{ap₂, ◌≡◌, ◌∙◌, codes}
use Rattle.std.proofs.lemmas.Result.{IfOk-weaker}
use Rattle.clap.specs.Simple.{app_of, with_rule}
use Rattle.risch_words.specs.Line.{bare, command_rule, option_rule}
use Rattle.risch_words.proofs.line.command_line.Goals as goal

pub returns : goal.returns
returns c =
    let first : app_of c.in_ok-arg.field-0 ≡ with_rule bare command_rule =
    c.in_ok-arg.ensures.shape c.required_word.ensures.local ∙ ap₂ with_rule c.program.ensures c.required_word.ensures.rule in
    let second : app_of c.in_ok-arg-2.field-0 ≡ with_rule (with_rule bare command_rule) (option_rule (codes "workers")) =
    c.in_ok-arg-2.ensures.shape c.option.ensures.local ∙ ap₂ with_rule first c.option.ensures.rule in
    let third : app_of c.in_ok-arg-3.field-0 ≡ with_rule (with_rule (with_rule bare command_rule) (option_rule (codes "workers"))) (option_rule (codes "budget")) =
    c.in_ok-arg-3.ensures.shape c.option-2.ensures.local ∙ ap₂ with_rule second c.option-2.ensures.rule in
    IfOk-weaker c.arg-4.result _ _ (λ r h. h.shape c.option-3.ensures.local ∙ ap₂ with_rule third c.option-3.ensures.rule) c.arg-4.ensures
