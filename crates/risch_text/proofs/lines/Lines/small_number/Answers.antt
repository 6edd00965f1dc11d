use Rattle.std.proofs.lemmas.Result.{err_from_is_err_and}
use Rattle.risch_text.specs.Lines.{Front}
use Rattle.risch_text.proofs.Fronts.{small_number_read, small_number_fault, small_number_in_file}
use Rattle.risch_text.proofs.lines.Lines.small_number.Goals as goal

pub returns-in_err-number-clause-moves : goal.returns-in_err-number-clause-moves
returns-in_err-number-clause-moves c =
    let p = err_from_is_err_and c.from_residual.result c.from_residual.ensures.1 in
    let front : Front = record { rest = c.self.inside.words; line = c.self.inside.line; start = c.self.inside.start } in
    rw (p.1, p.2, ← c.self.view_is) (small_number_fault front c.in_err-number.field-0.0 c.in_err-number.ensures.found.0)

pub returns-clause-moves : goal.returns-clause-moves
returns-clause-moves c =
    let front : Front = record { rest = c.self.inside.words; line = c.self.inside.line; start = c.self.inside.start } in
    rw (← c.self.view_is) (small_number_read front c.in_ok-number.number c.want_number.new.self c.in_ok-number.ensures.found)

pub returns-clause-in_file : goal.returns-clause-in_file
returns-clause-in_file c =
    let front : Front = record { rest = c.self.inside.words; line = c.self.inside.line; start = c.self.inside.start } in
    small_number_in_file front c.in_ok-number.number c.want_number.new.self c.in_ok-number.ensures.found (rw c.self.view_is c.requires)
