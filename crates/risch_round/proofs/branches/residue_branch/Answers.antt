use Rattle.std.proofs.Common.{sym, ◌∙◌}
use Rattle.risch_round.proofs.branches.residue_branch.Goals as goal

pub residues_within-requires-clause-simple : goal.residues_within-requires-clause-simple
residues_within-requires-clause-simple c = c.requires.simple (sym c.is_zero.ensures.value ∙ c.if-is_zero.false)
