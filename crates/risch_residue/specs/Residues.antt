-- The residues of h: not constant, or the logarithms with the trace of ρ, which is the sum of the residues.
use Rattle.std.specs.Prelude.{ℕ, List, get_or, Ok}
use Rattle.risch_field.specs.Checked.{Checked, and_then}
use Rattle.risch_level.specs.Accessors.{as_number}
use Rattle.risch_level.specs.Levels.{Element, element}
use Rattle.risch_tower.specs.declared.level.Level.{Level}
use Rattle.risch_run.specs.Ruled.{formed}
use Rattle.risch_run.specs.Counted.{Counted, free, and_counted}
use Rattle.risch_residue_traces.specs.ResidueTraces.{residue_traces}
use Rattle.risch_residue_traces.specs.declared.traces.Traces.{Traces}
use Rattle.risch_residue_traces.specs.declared.traces.Traces.TheVariants as traces
use Rattle.risch_logarithm_rules.specs.Logarithms.{logarithms, fraction_of}
use Rattle.risch_residue.specs.declared.outcome.Residues.{Residues}
use Rattle.risch_residue.specs.declared.outcome.Residues.TheVariants.{Constant, NotConstant}

-- p_1
abbrev pub first_trace : List Element → Element
first_trace ps = get_or ps 0 element.zero

-- from the power sums of the residues, which nothing more is charged for
abbrev pub residues_by : List Level → ℕ → Element → Traces → Checked Residues
residues_by tower level h (traces.NotConstant power p) = Ok (NotConstant power p)
residues_by tower level h (traces.Constant ps) = and_then (logarithms tower level h ps) (λ logs. Ok (Constant logs (fraction_of (as_number 5 (first_trace ps)))))

unfoldable pub residues : List Level → ℕ → Element → Counted Residues
residues tower level h = and_counted (residue_traces tower level h) (λ told. free (formed (residues_by tower level h told)))
