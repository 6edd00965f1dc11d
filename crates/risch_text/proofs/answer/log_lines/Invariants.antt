use Rattle.std.proofs.Common.{◌-◌, [], length}
use Rattle.risch_text.specs.Lines.{InFile}
use Rattle.risch_text.specs.Certified.{log_lines}
use Rattle.risch_text.proofs.AnswerLines.{IsLogsSoFar}
use Rattle.risch_text.proofs.answer.log_lines.Given as goal

abbrev pub invariant-loop-turn : goal.invariant-loop-turn
invariant-loop-turn l =
    IsLogsSoFar l.n (length l.fn.so_far.lines) (log_lines l.n (length l.fn.lines.rest) (record { logs = []; lines = l.fn.so_far.lines }) l.fn.lines) (l._turn-end - l._turn) l.so_far l.lines
    × InFile l.lines
