use Rattle.risch_text.specs.Lines.{Front}
use Rattle.risch_text.proofs.Fronts.{sum_read, sum_in_file}
use Rattle.risch_text.proofs.lines.Lines.sum.Goals as goal

pub returns-clause-read : goal.returns-clause-read
returns-clause-read c =
    let front : Front = record { rest = c.self.inside.words; line = c.self.inside.line; start = c.self.inside.start } in
    rw (← c.self.view_is) (sum_read c.args.names front c.new-program.result _ c.read_sum.new.words c.new-program.ensures c.in_ok-read_sum.ensures.parsed)

pub returns-clause-in_file : goal.returns-clause-in_file
returns-clause-in_file c =
    let front : Front = record { rest = c.self.inside.words; line = c.self.inside.line; start = c.self.inside.start } in
    sum_in_file c.args.names front c.new-program.result _ c.read_sum.new.words c.in_ok-read_sum.ensures.parsed (rw c.self.view_is c.requires)
