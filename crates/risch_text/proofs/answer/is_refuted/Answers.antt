use Rattle.std.specs.Prelude.{codes}
use Rattle.std.proofs.Common.{true, false}
use Rattle.risch_text.proofs.AnswerLines.{word_low, on_ok, on_mapped, first_integral, first_refuted, refuted_low}
use Rattle.risch_text.proofs.answer.is_refuted.Goals as goal

pub returns-then-take_word-clause-moves : goal.returns-then-take_word-clause-moves
returns-then-take_word-clause-moves c =
    rw c.if_ended.ensures (first_integral c.args.lines.now c.take_word.new.self c.line_end.new.self c.line_end.result c.if-take_word.ensures.passes c.line_end.ensures.moves)

pub returns-then-take_word-clause-low : goal.returns-then-take_word-clause-low
returns-then-take_word-clause-low c =
    on_ok c.if_ended.result _ (word_low 105 (codes "ntegral") c.args.lines.now c.take_word.new.self c.if-take_word.ensures.passes c.requires)

pub returns-then-take_word-clause-in_file : goal.returns-then-take_word-clause-in_file
returns-then-take_word-clause-in_file c = rw c.if_ended.ensures (on_mapped (λ u. false) c.line_end.result _ c.line_end.ensures.in_file)

pub returns-clause-moves : goal.returns-clause-moves
returns-clause-moves c =
    let here = c.if-take_word.ensures.passes.1 in
    rw c.if_ended-2.ensures (first_refuted c.args.lines.now c.bare_line.new.self c.bare_line.result c.if-take_word.ensures.passes.0 (rw here at c.bare_line.ensures.moves))

pub returns-clause-low : goal.returns-clause-low
returns-clause-low c =
    let here = c.if-take_word.ensures.passes.1 in
    rw c.if_ended-2.ensures (refuted_low c.args.lines.now c.bare_line.new.self c.bare_line.result (rw here at c.bare_line.ensures.moves) c.requires)

pub returns-clause-in_file : goal.returns-clause-in_file
returns-clause-in_file c = rw c.if_ended-2.ensures (on_mapped (λ u. true) c.bare_line.result _ c.bare_line.ensures.in_file)
