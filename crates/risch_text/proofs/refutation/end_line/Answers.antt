use Rattle.std.proofs.Common.{◌<◌, ◌^◌, subst}
use Rattle.std.specs.Prelude.{codes}
use Rattle.risch_text.specs.Lines.{Front}
use Rattle.risch_text.proofs.AnswerLines.{fixed_word_low, on_ok}
use Rattle.risch_text.proofs.refutation.end_line.Goals as goal

pub returns-clause-low : goal.returns-clause-low
returns-clause-low c =
    let low : c.take_word.new.self.line < 2 ^ 32 = fixed_word_low 101 (codes "nd") c.take_word.new.self _ c.in_ok-word.ensures.moves c.take_word.ensures.in_file in
    on_ok c.end_kind.result _ (subst (λ (f : Front). f.line < 2 ^ 32) c.if-take_word.ensures.passes.1 low)
