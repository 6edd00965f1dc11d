use Rattle.risch_text.specs.Lines.{Front}
use Rattle.risch_text.proofs.Fronts.{passes_word, in_file_word}
use Rattle.risch_text.proofs.lines.Lines.take_word.Goals as goal

pub returns-clause-passes : goal.returns-clause-passes
returns-clause-passes c =
    let front : Front = record { rest = c.self.inside.words; line = c.self.inside.line; start = c.self.inside.start } in
    rw (← c.self.view_is) (passes_word c.take_word.result c.args.word.now front c.take_word.new.self c.take_word.ensures)

pub returns-clause-in_file : goal.returns-clause-in_file
returns-clause-in_file c =
    let front : Front = record { rest = c.self.inside.words; line = c.self.inside.line; start = c.self.inside.start } in
    in_file_word c.take_word.result c.args.word.now front c.take_word.new.self c.take_word.ensures (rw c.self.view_is c.requires)
