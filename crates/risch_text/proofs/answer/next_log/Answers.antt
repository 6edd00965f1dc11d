use Rattle.std.proofs.Common.{◌≡◌, Some, None}
use Rattle.std.specs.Prelude.{codes}
use Rattle.risch_text.specs.Lines.{behind_word}
use Rattle.risch_text.proofs.AnswerLines.{word_low, on_mapped, log_stands, sum_stands, none_stands, next_read, next_faults}
use Rattle.risch_text.proofs.answer.next_log.Goals as goal

pub returns-then-take_word-clause-read : goal.returns-then-take_word-clause-read
returns-then-take_word-clause-read c =
    rw c.some_log.ensures (next_read c.args.n c.args.lines.now _ (log_stands c.args.n c.args.lines.now c.take_word.new.self c.if-take_word.ensures.passes) c.after_log.result c.after_log.new.lines
    (word_low 108 (codes "og") c.args.lines.now c.take_word.new.self c.if-take_word.ensures.passes c.requires) c.after_log.ensures.read)

pub returns-then-take_word-clause-fault : goal.returns-then-take_word-clause-fault
returns-then-take_word-clause-fault c =
    rw c.some_log.ensures (next_faults c.args.n c.args.lines.now _ (log_stands c.args.n c.args.lines.now c.take_word.new.self c.if-take_word.ensures.passes) c.after_log.result c.after_log.ensures.fault)

pub returns-then-take_word-clause-in_file : goal.returns-then-take_word-clause-in_file
returns-then-take_word-clause-in_file c = rw c.some_log.ensures (on_mapped Some c.after_log.result _ c.after_log.ensures.in_file)

pub returns-then-take_word-2-clause-read : goal.returns-then-take_word-2-clause-read
returns-then-take_word-2-clause-read c =
    let stands : behind_word (codes "sum") c.args.lines.now ≡ Some c.take_word-2.new.self = rw c.if-take_word.ensures.passes.1 at c.if-take_word-2.ensures.passes in
    rw c.some_log-then-take_word-2.ensures (next_read c.args.n c.args.lines.now _ (sum_stands c.args.n c.args.lines.now c.take_word-2.new.self c.if-take_word.ensures.passes.0 stands) c.after_sum.result
    c.after_sum.new.lines (word_low 115 (codes "um") c.args.lines.now c.take_word-2.new.self stands c.requires) c.after_sum.ensures.read)

pub returns-then-take_word-2-clause-fault : goal.returns-then-take_word-2-clause-fault
returns-then-take_word-2-clause-fault c =
    let stands : behind_word (codes "sum") c.args.lines.now ≡ Some c.take_word-2.new.self = rw c.if-take_word.ensures.passes.1 at c.if-take_word-2.ensures.passes in
    rw c.some_log-then-take_word-2.ensures (next_faults c.args.n c.args.lines.now _ (sum_stands c.args.n c.args.lines.now c.take_word-2.new.self c.if-take_word.ensures.passes.0 stands) c.after_sum.result
    c.after_sum.ensures.fault)

pub returns-then-take_word-2-clause-in_file : goal.returns-then-take_word-2-clause-in_file
returns-then-take_word-2-clause-in_file c = rw c.some_log-then-take_word-2.ensures (on_mapped Some c.after_sum.result _ c.after_sum.ensures.in_file)

pub returns-clause-read : goal.returns-clause-read
returns-clause-read c =
    let none : behind_word (codes "sum") c.args.lines.now ≡ None = rw c.if-take_word.ensures.passes.1 at c.if-take_word-2.ensures.passes.0 in
    (none_stands c.args.n c.args.lines.now c.if-take_word.ensures.passes.0 none, rw c.if-take_word.ensures.passes.1 at c.if-take_word-2.ensures.passes.1)
