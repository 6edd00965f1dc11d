use Rattle.std.proofs.Common.{take}
use Rattle.risch_polynomial_theory.specs.Meaning.{AllValid}
use Rattle.risch_check.specs.Certificates.{IsNormal}
use Rattle.risch_check.proofs.normal.normal_parts.Given as goal

abbrev pub invariant-loop-part : goal.invariant-loop-part
invariant-loop-part l = AllValid IsNormal (take l.part-index l.parts)
