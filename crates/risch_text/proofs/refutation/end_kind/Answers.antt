use Rattle.std.proofs.Common.{Some}
use Rattle.risch_text.proofs.AnswerLines.{on_mapped, residue_read, residue_fault}
use Rattle.risch_text.proofs.refutation.end_kind.Goals as goal

pub returns-then-take_word-clause-read : goal.returns-then-take_word-clause-read
returns-then-take_word-clause-read c =
    rw c.some_end.ensures (residue_read c.args.n c.args.lines.now c.take_word.new.self c.if-take_word.ensures.passes c.residue_end.result c.residue_end.new.lines c.residue_end.ensures.read)

pub returns-then-take_word-clause-fault : goal.returns-then-take_word-clause-fault
returns-then-take_word-clause-fault c =
    rw c.some_end.ensures (residue_fault c.args.n c.args.lines.now c.take_word.new.self c.if-take_word.ensures.passes c.residue_end.result c.residue_end.ensures.fault)

pub returns-then-take_word-clause-in_file : goal.returns-then-take_word-clause-in_file
returns-then-take_word-clause-in_file c = rw c.some_end.ensures (on_mapped Some c.residue_end.result _ c.residue_end.ensures.in_file)
