-- The integral of a rational function f in x: the round of the procedure at x over the empty tower (Bronstein, sections 2.2, 2.5 and 5.8). f = Dg + h + r with a simple part h and a reduced part r; h has the logarithms of its residues, r is a
-- polynomial in x. Where f is a polynomial in x, its canonical parts and its branches are those of the procedure for polynomials, as nothing else is formed.
use Rattle.std.specs.Prelude.{ℕ, if◌then◌else◌, Option, None, Some, List, [], Ok, Err}
use Rattle.risch_frac.specs.Fraction.{Fraction}
use Rattle.risch_field.specs.Checked.{Checked, and_then}
use Rattle.risch_level.specs.Levels.{Element, element}
use Rattle.risch_tower.specs.declared.level.Level.{Level}
use Rattle.risch_tower.specs.Tower.{derivative}
use Rattle.risch_run.specs.Ruled.{Ruled, stop_of, formed, and_ruled}
use Rattle.risch_split.specs.Canonical.{canonical}
use Rattle.risch_split.specs.declared.canonical_parts.Canonical.{Canonical}
use Rattle.risch_hermite.specs.HermiteReduction.{hermite}
use Rattle.risch_hermite.specs.declared.reduction.Hermite.{Hermite}
use Rattle.risch_rootsum.specs.Derivative.{derive_integral}
use Rattle.risch_rootsum.specs.declared.integral.LogPart.{LogPart}
use Rattle.risch_rootsum.specs.declared.integral.Integral.{Integral}
use Rattle.risch_residue.specs.Residues.{residues}
use Rattle.risch_residue.specs.declared.outcome.Residues.{Residues}
use Rattle.risch_residue.specs.declared.outcome.Residues.TheVariants.{Constant, NotConstant}
use Rattle.risch_cert.specs.declared.answer.Place.TheVariants.{Preparing, Branch, Gathering, Checking}
use Rattle.risch_cert.specs.declared.answer.Answer.{Answer}
use Rattle.risch_cert.specs.declared.answer.Answer.TheVariants.{Integral as Found, Stopped, Disagree}
use Rattle.risch_round.specs.declared.preparation.Prepared.{Prepared}
use Rattle.risch_round.specs.Elements.{coefficients, element_of}
use Rattle.risch_round.specs.Procedure as polynomials
use Rattle.risch_round.specs.Procedure.{branch, stopped_in}
use Rattle.risch_round.specs.Budgets.{within_budget}
use Rattle.risch_round.specs.Halts.{Halted, in_step, and_halted}

-- ---- preparation: f = Dg + h + r
-- r is the reduced part and the rest of the reduction
unfoldable pub with_rest : Element → Hermite → Checked Prepared
with_rest reduced it = and_then (element.sum reduced it.rest) (λ r. Ok (record { g = it.g; h = it.h; r = r }))

-- ---- branches, with the budget anew
-- Over Q(x) all residues are constant; what stands for others only makes the definition whole
abbrev pub logarithms_in : Residues → List LogPart
logarithms_in (Constant logs trace) = logs
logarithms_in (NotConstant power trace) = []

-- the integral of r by its coefficients; that of 0 is 0. Over Q(x) r is a polynomial; what stands for others only makes the definition whole
abbrev pub branch_by : ℕ → Option (List Fraction) → Ruled (List Fraction)
branch_by budget None = Ok []
branch_by budget (Some r) = branch budget r

unfoldable pub polynomial_branch : ℕ → Element → Ruled (List Fraction)
polynomial_branch budget r = branch_by budget (coefficients r)

-- the number of the polynomial branch, which stands behind that of the residues
abbrev pub polynomial_number : Element → ℕ
polynomial_number h = if element.is_zero h then 0 else 1

-- ---- gathering: g, and then the piece of the polynomial branch
unfoldable pub gathered : Element → List LogPart → List Fraction → Checked Integral
gathered g logs piece = and_then (element.sum g (element_of piece)) (λ part. Ok (record { part = part; logs = logs }))

-- ---- the final check: the derivative of the integral is f
abbrev pub compared : Element → Integral → Element → Answer
compared f it d = if element.same d f then Found it else Disagree d f

abbrev pub checked : Element → Integral → Checked Element → Answer
checked f it (Ok d) = compared f it d
checked f it (Err stop) = stopped_in Checking (stop_of stop)

-- ---- the steps, over a tower without monomials
module _ (tower : List Level) (budget : ℕ) where
  -- the parts of f, with the Hermite reduction of the normal part where it is not 0
  unfoldable pub prepared_by : Canonical → Ruled Prepared
  prepared_by parts =
      if element.is_zero parts.normal then Ok (record { g = element.zero; h = element.zero; r = parts.reduced }) else
      and_ruled (within_budget budget (hermite tower 0 parts.normal)) (λ it. formed (with_rest parts.reduced it))

  unfoldable pub prepared : Element → Ruled Prepared
  prepared f = and_ruled (canonical tower 0 f) prepared_by

  -- the logarithms of the residues of h, where h is not 0
  unfoldable pub residue_branch : Element → Ruled (List LogPart)
  residue_branch h =
      if element.is_zero h then Ok [] else
      and_ruled (within_budget budget (residues tower 0 h)) (λ it. Ok (logarithms_in it))

  -- Both branches are run. A stop is that of the least stopped branch.
  unfoldable pub branches : Prepared → Halted Integral
  branches it =
      and_halted (in_step (Branch 0 0) (residue_branch it.h)) (λ logs.
      and_halted (in_step (Branch 0 (polynomial_number it.h)) (polynomial_branch budget it.r)) (λ piece.
      in_step (Gathering 0) (formed (gathered it.g logs piece))))

  unfoldable pub round : Element → Halted Integral
  round f = and_halted (in_step (Preparing 0) (prepared f)) branches

  abbrev pub answered : Element → Halted Integral → Answer
  answered f (Ok it) = checked f it (derive_integral (derivative tower) it)
  answered f (Err halt) = Stopped halt

  -- ---- the answer to the integrand f
  abbrev pub answer_by : Element → Option (List Fraction) → Answer
  answer_by f None = answered f (round f)
  answer_by f (Some p) = polynomials.answer budget p

unfoldable pub answer : ℕ → Element → Answer
answer budget f = answer_by [] budget f (coefficients f)
