-- The conditions at the line `end` of a refutation, in the order in which they are tested. V is the variable of its level, and D the derivation of the tower.
-- Left of a condition is what the certificate says or implies, right what it should be.
use Rattle.std.specs.Prelude.{ℕ, ◌==◌, nat_lt, if◌then◌else◌, Option, None, Some, List, codes, decimal}
use Rattle.risch_polynomial.specs.Poly as poly
use Rattle.risch_level.specs.Accessors.{level as level_of}
use Rattle.risch_level.specs.Levels.{Element, element}
use Rattle.risch_tower.specs.declared.level.Level.{Level}
use Rattle.risch_monomial.specs.LevelElements.{denominator_at}
use Rattle.risch_split.specs.Canonical.{canonical}
use Rattle.risch_split.specs.declared.canonical_parts.Canonical.{Canonical}
use Rattle.risch_residue_traces.specs.ResidueTraces.{residue_traces}
use Rattle.risch_residue_traces.specs.declared.traces.Traces.{Traces}
use Rattle.risch_residue_traces.specs.declared.traces.Traces.TheVariants.{Constant, NotConstant}
use Rattle.risch_cert.specs.Printing.{print_element, print_in_variable, variable_name}
use Rattle.risch_cert.specs.declared.chain.Chain.{Chain}
use Rattle.risch_cert.specs.declared.chain.End.{End}
use Rattle.risch_cert.specs.declared.chain.End.TheVariants.{Residue}
use Rattle.risch_chain_end.specs.Verdict.{Verdict, accepted, refused, also, ruled, formed}

-- the rest, which is of this level or a fraction, lies in the level of V
abbrev pub checked_level : ℕ → ℕ → Option ℕ → Verdict
checked_level line level None = accepted
checked_level line level (Some of) = if nat_lt level of then refused line (variable_name of) (variable_name level) else accepted

-- ---- the normal part
-- g = 1
abbrev pub checked_one : ℕ → ℕ → List Element → Verdict
checked_one line level g = if poly.is_one element g then accepted else refused line (print_in_variable level g) (codes "1")

-- gcd(d, ∂d) = 1
unfoldable pub checked_square_free : ℕ → ℕ → List Element → Verdict
checked_square_free line level d = formed (poly.partial element d) (λ derivative. formed (poly.gcd element d derivative) (checked_one line level))

-- gcd(d, ∂d) = 1 for the denominator d of the normal part h, where h ≠ 0
abbrev pub checked_denominator : ℕ → ℕ → Element → Verdict
checked_denominator line level h = if element.is_zero h then accepted else checked_square_free line level (denominator_at level h)

-- h ≠ 0
abbrev pub checked_some : ℕ → Element → Verdict
checked_some line h = if element.is_zero h then refused line (codes "0") (codes "not 0") else accepted

-- ---- residues that are not constant
abbrev pub checked_power : ℕ → ℕ → ℕ → Verdict
checked_power line power found = if power == found then accepted else refused line (decimal power) (decimal found)

abbrev pub checked_trace : ℕ → Element → Element → Verdict
checked_trace line trace found = if element.same trace found then accepted else refused line (print_element trace) (print_element found)

-- the residues are not constant, with this power and this trace
abbrev pub checked_traces : ℕ → ℕ → Element → Traces → Verdict
checked_traces line power trace (Constant traces) = refused line (decimal power) (codes "none")
checked_traces line power trace (NotConstant found next) = also (checked_power line power found) (checked_trace line trace next)

-- the normal part h is not 0, and its residues are not constant
unfoldable pub checked_residue : List Level → ℕ → ℕ → Element → ℕ → Element → Verdict
checked_residue tower line level h power trace = also (checked_some line h) (ruled (residue_traces tower level h).result (checked_traces line power trace))

-- ---- the end
abbrev pub checked_end_of : List Level → ℕ → ℕ → Element → End → Verdict
checked_end_of tower line level h (Residue power trace) = checked_residue tower line level h power trace

-- the conditions on the canonical parts of the rest
abbrev pub checked_parts : List Level → ℕ → ℕ → End → Canonical → Verdict
checked_parts tower line level end parts = also (checked_denominator line level parts.normal) (checked_end_of tower line level parts.normal end)

-- the rest lies in the level, and the end is read off its canonical parts
unfoldable pub checked_end : List Level → ℕ → Chain → Verdict
checked_end tower line chain =
    also (checked_level line chain.level (level_of 5 chain.rest)) (ruled (canonical tower chain.level chain.rest) (checked_parts tower line chain.level chain.end))
