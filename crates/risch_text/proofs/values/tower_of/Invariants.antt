use Rattle.risch_text.proofs.TowerValues.{IsTowerBuilt}
use Rattle.risch_text.proofs.values.tower_of.Given as goal

abbrev pub invariant-loop-line : goal.invariant-loop-line
invariant-loop-line l = IsTowerBuilt l.lines l.line-index l.tower
