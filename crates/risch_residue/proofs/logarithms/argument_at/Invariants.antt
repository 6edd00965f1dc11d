use Rattle.std.proofs.Common.{◌≡◌, drop}
use Rattle.risch_logarithm_rules.specs.Logarithms.{member_of_degree}
use Rattle.risch_residue.proofs.logarithms.argument_at.Given as goal

abbrev pub invariant-loop-member : goal.invariant-loop-member
invariant-loop-member l = member_of_degree l.degree l.members ≡ member_of_degree l.degree (drop l.member-index l.members)
