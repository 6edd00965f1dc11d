-- What it means that the end of a refutation holds, by the definitions of chains.
use Rattle.std.specs.Prelude.{◌≡◌, ℕ, List, IsFalse}
use Rattle.risch_univariate.specs.Division.{IsSquareFree}
use Rattle.risch_mean.specs.Element as mean
use Rattle.risch_mean.specs.Element.{level, InField}
use Rattle.risch_mean.specs.ElementField.{elements}
use Rattle.risch_mean.specs.Tower.{Tower, kind_of}
use Rattle.risch_mean.specs.Chain as chains
use Rattle.risch_mean.specs.Chain.{ShiftAllowed, CanonicalParts, NormalPart, ReadOff}
use Rattle.risch_level.specs.Levels.{Element, element}
use Rattle.risch_element_theory.specs.WholeTower.{meaning, polynomial}
use Rattle.risch_tower.specs.declared.level.Level.{Level}
use Rattle.risch_monomial.specs.LevelElements.{denominator_at}
use Rattle.risch_residue_traces.specs.TracesMeaning.{AreNotConstant}
use Rattle.risch_residue_traces.specs.declared.traces.Traces.{Traces}
use Rattle.risch_residue_traces.specs.declared.traces.Traces.TheVariants.{Constant, NotConstant}
use Rattle.risch_cert.specs.declared.chain.End.{End}
use Rattle.risch_cert.specs.declared.chain.End.TheVariants.{Residue}

-- the end that a chain claims
abbrev pub end_of : End → chains.End
end_of (Residue power trace) = chains.residue power (meaning trace)

-- the rest lies in the field of level n, and the end is read off its canonical parts
pub record IsEndOf (tower : Tower) (n : ℕ) (rest : mean.Element) (end : chains.End) : Type 0 where
  pub in_level : InField (level n) rest
  pub us : List mean.Element
  pub shift : ℕ
  pub shift_allowed : ShiftAllowed (kind_of tower n) shift
  pub a : List mean.Element
  pub d : List mean.Element
  pub parts : CanonicalParts tower n rest us shift a d
  pub normal : NormalPart tower n a d
  pub read_off : ReadOff tower n us shift a d end

-- ---- what single conditions mean
-- where h is not 0, its denominator is square-free
abbrev pub HasSquareFreeDenominator : ℕ → Element → Type 0
HasSquareFreeDenominator n h = IsFalse (element.is_zero h) → IsSquareFree elements (polynomial (denominator_at n h))

-- the residues are not constant, with this power and a trace that stands for the same
abbrev pub AreGivenBy : ℕ → Element → Traces → Type 0
AreGivenBy power trace (Constant traces) = ⊥
AreGivenBy power trace (NotConstant found next) = (power ≡ found) × (meaning trace ≡ meaning next)

-- the end is read off the normal part h: its residues are not constant, with this power and this trace
abbrev pub IsReadOff : List Level → ℕ → Element → End → Type 0
IsReadOff tower n h (Residue power trace) = AreNotConstant tower n h power trace
