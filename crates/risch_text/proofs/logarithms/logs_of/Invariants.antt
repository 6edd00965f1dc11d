use Rattle.risch_text.proofs.RootSums.{ArePartsSoFar}
use Rattle.risch_text.proofs.logarithms.logs_of.Given as goal

abbrev pub invariant-loop-program : goal.invariant-loop-program
invariant-loop-program l = ArePartsSoFar l.programs l.program-index l.parts
