use Rattle.std.proofs.Common.{[]}
use Rattle.risch_text.specs.Lines.{InFile}
use Rattle.risch_text.specs.File.{tower_lines}
use Rattle.risch_text.proofs.TowerLines.{IsTowerSoFar}
use Rattle.risch_text.proofs.file.tower_lines.Given as goal

abbrev pub invariant-loop-n : goal.invariant-loop-n
invariant-loop-n l = IsTowerSoFar (tower_lines 9 [] l.fn.lines) l.n l.tower l.lines × InFile l.lines
