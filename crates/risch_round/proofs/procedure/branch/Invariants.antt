use Rattle.std.proofs.Common.{◌≡◌}
use Rattle.risch_round.specs.Procedure as spec
use Rattle.risch_round.proofs.procedure.branch.Given as goal

-- The piece so far with the terms of the exponents that are left, for the units that are left, gives the branch.
abbrev pub invariant-loop-exponent : goal.invariant-loop-exponent
invariant-loop-exponent l = spec.branch l.budget l.integrand ≡ spec.with_terms l.units l.integrand l.exponent l.piece
