use Rattle.risch_text.specs.Lines.{Front}
use Rattle.risch_text.proofs.Fronts.{variable_moves, variable_in_file}
use Rattle.risch_text.proofs.lines.Lines.variable.Goals as goal

pub returns-clause-moves : goal.returns-clause-moves
returns-clause-moves c =
    let front : Front = record { rest = c.self.inside.words; line = c.self.inside.line; start = c.self.inside.start } in
    rw (← c.self.view_is) (variable_moves c.args.monomials front c.take_variable.result c.take_variable.new.words c.take_variable.ensures.takes)

pub returns-clause-in_file : goal.returns-clause-in_file
returns-clause-in_file c =
    let front : Front = record { rest = c.self.inside.words; line = c.self.inside.line; start = c.self.inside.start } in
    variable_in_file c.args.monomials front c.take_variable.result c.take_variable.new.words c.take_variable.ensures.takes (rw c.self.view_is c.requires)
