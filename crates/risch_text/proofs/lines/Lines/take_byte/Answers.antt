use Rattle.risch_text.specs.Lines.{Front}
use Rattle.risch_text.proofs.Fronts.{passes_byte, in_file_byte}
use Rattle.risch_text.proofs.lines.Lines.take_byte.Goals as goal

pub returns-clause-passes : goal.returns-clause-passes
returns-clause-passes c =
    let front : Front = record { rest = c.self.inside.words; line = c.self.inside.line; start = c.self.inside.start } in
    rw (← c.self.view_is) (passes_byte c.take_byte.result c.args.byte front c.take_byte.new.self c.take_byte.ensures)

pub returns-clause-in_file : goal.returns-clause-in_file
returns-clause-in_file c =
    let front : Front = record { rest = c.self.inside.words; line = c.self.inside.line; start = c.self.inside.start } in
    in_file_byte c.take_byte.result c.args.byte front c.take_byte.new.self c.take_byte.ensures (rw c.self.view_is c.requires)
