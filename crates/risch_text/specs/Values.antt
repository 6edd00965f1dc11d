-- The values of what was read, line by line, or what ends the reading first.
use Rattle.std.specs.Prelude.{ℕ, nat_le, nat_lt, Bool, true, false, ◌&&◌, if◌then◌else◌, Option, None, Some, List, [], ◌∷◌, ◌++◌, length, Result, Ok, Err}
use Rattle.risch_frac.specs.Fraction as fraction
use Rattle.risch_frac.specs.Fraction.{Fraction}
use Rattle.risch_frac.specs.declared.Op.{Op}
use Rattle.risch_field.specs.Ground.{ground}
use Rattle.risch_polynomial.specs.Poly as poly
use Rattle.risch_level.specs.Levels.{Element}
use Rattle.risch_level.specs.Accessors.{as_number}
use Rattle.risch_elem.specs.declared.units.Stop as stop
use Rattle.risch_tower.specs.Tower.{pushed}
use Rattle.risch_tower.specs.declared.level.Level.{Level}
use Rattle.risch_tower.specs.declared.level.Monomial.{Monomial}
use Rattle.risch_tower.specs.declared.level.Monomial.TheVariants.{Log, Exp}
use Rattle.risch_tower.specs.declared.fault.PushFault as push
use Rattle.risch_rootsum.specs.declared.integral.LogPart.{LogPart}
use Rattle.risch_rootsum.specs.declared.integral.Integral.{Integral}
use Rattle.risch_cert.specs.declared.answer.Certificate.{Certificate}
use Rattle.risch_cert.specs.declared.answer.Certificate.TheVariants.{Integral as Certified, Refuted as Refutation}
use Rattle.risch_cert.specs.declared.chain.Chain.{Chain}
use Rattle.risch_cert.specs.declared.chain.End.TheVariants.{Residue}
use Rattle.risch_expression.specs.Results.{and_next, map_value}
use Rattle.risch_expression.specs.Tree.{Tree}
use Rattle.risch_expression.specs.Grammar.{Read}
use Rattle.risch_expression.specs.Evaluation.{constant, evaluate, element_value}
use Rattle.risch_expression.specs.declared.fault.Cause.TheVariants as cause
use Rattle.risch_expression.specs.declared.fault.ReadFault as reading
use Rattle.risch_expression.specs.declared.fault.ValueFault as value
use Rattle.risch_text.specs.File.{TowerLine, ProblemTree}
use Rattle.risch_text.specs.Certified.{LogLine, log_line, sum_line, RefutationTree, AnswerTree, CertifiedTree}
use Rattle.risch_text.specs.Problem.{ProblemValue, CertifiedValue}
use Rattle.risch_text.specs.declared.programs.Divisor.{Divisor}
use Rattle.risch_text.specs.declared.programs.Factor.{Factor}
use Rattle.risch_text.specs.declared.fault.Refusal.TheVariants.{ZeroDivision, TooHigh, ZeroArgument, ConstantArgument}
use Rattle.risch_text.specs.declared.fault.Fault.{Fault}
use Rattle.risch_text.specs.declared.fault.Fault.TheVariants.{Syntax, Refused, Stopped, Memory}

-- a value, or what ends the reading
abbrev pub Reading : Type 0 → Type 0
Reading A = Result A Fault

-- ---- faults and their places, as how many bytes are left there
-- The fault of an expression, where so many bytes are left at the beginning of its line. A wrong shape, which needs z, has its place there.
abbrev pub wrong_shape : ℕ → Fault
wrong_shape start = Syntax (record { left = start; cause = cause.Shape })

abbrev pub fault_of_value : ℕ → value.ValueFault → Fault
fault_of_value start (value.TheVariants.DivisionByZero left) = Refused left ZeroDivision
fault_of_value start value.TheVariants.Shape = wrong_shape start
fault_of_value start (value.TheVariants.Overflow op) = Stopped (stop.TheVariants.Overflow op)
fault_of_value start value.TheVariants.Size = Stopped stop.TheVariants.Size
fault_of_value start value.TheVariants.Memory = Memory

-- the fault of syntax, or want of memory
abbrev pub fault_of_reading : reading.ReadFault → Fault
fault_of_reading (reading.TheVariants.Syntax fault) = Syntax fault
fault_of_reading reading.TheVariants.Memory = Memory

-- the fault of a tower line, where so many bytes are left at its first token
abbrev pub fault_of_push : ℕ → push.PushFault → Fault
fault_of_push left push.TheVariants.TooHigh = Refused left TooHigh
fault_of_push left push.TheVariants.ZeroArgument = Refused left ZeroArgument
fault_of_push left push.TheVariants.ConstantArgument = Refused left ConstantArgument
fault_of_push left (push.TheVariants.Overflow op) = Stopped (stop.TheVariants.Overflow op)
fault_of_push left push.TheVariants.Size = Stopped stop.TheVariants.Size
fault_of_push left push.TheVariants.Memory = Memory

-- the value, or the fault in a file
abbrev pub map_fault : {A E : Type 0} → (E → Fault) → Result A E → Reading A
map_fault f (Ok a) = Ok a
map_fault f (Err fault) = Err (f fault)

-- ---- problems
-- the element that an expression without z stands for, in a line that begins there
unfoldable pub element_at : ℕ → Tree → Reading Element
element_at start tree = map_fault (fault_of_value start) (element_value tree)

-- log a, or exp a
abbrev pub monomial_with : Bool → Element → Monomial
monomial_with false a = Log a
monomial_with true a = Exp a

-- the argument of the line, and then the tower with its monomial
unfoldable pub with_line : List Level → TowerLine → Reading (List Level)
with_line levels l = and_next (element_at l.left l.argument) (λ a. map_fault (fault_of_push l.left) (pushed levels (monomial_with l.exponential a)))

-- the tower with the monomials of the lines
abbrev pub with_lines : List Level → List TowerLine → Reading (List Level)
with_lines levels [] = Ok levels
with_lines levels (l ∷ lines) = and_next (with_line levels l) (λ more. with_lines more lines)

-- the tower, and then the integrand
unfoldable pub problem_value : ProblemTree → Reading ProblemValue
problem_value tree =
    and_next (with_lines [] tree.tower) (λ tower.
    and_next (element_at 0 tree.integrand) (λ integrand.
    Ok (record { tower = tower; integrand = integrand })))

-- ---- logarithms
-- an overflow of numbers
abbrev pub overflow : Op → Fault
overflow op = Stopped (stop.TheVariants.Overflow op)

-- the factor C, where a division by 0 has its place at the `/`
abbrev pub quotient_by : Fraction → Option Divisor → Reading Fraction
quotient_by top None = Ok top
quotient_by top (Some d) = if fraction.is_zero d.number then Err (Refused d.left ZeroDivision) else map_fault overflow (fraction.ratio top d.number)

unfoldable pub factor_value : Factor → Reading Fraction
factor_value c = quotient_by c.top c.bottom

-- the polynomial in z that an expression stands for, in a line that begins there
unfoldable pub polynomial_at : ℕ → Tree → Reading (List Element)
polynomial_at start tree = map_fault (fault_of_value start) (evaluate tree)

-- C·log U: R is z - C, and S is U
unfoldable pub logarithm : Factor → Tree → Reading LogPart
logarithm c tree =
    and_next (factor_value c) (λ f.
    and_next (element_at 0 tree) (λ u.
    Ok (record { poly = fraction.negative f ∷ ground.one ∷ []; arg = constant u })))

-- the fractions so far, and those that the elements are, where each is one
abbrev pub with_number : (List Fraction → Option (List Fraction)) → List Fraction → Option Fraction → Option (List Fraction)
with_number more numbers None = None
with_number more numbers (Some q) = more (numbers ++ q ∷ [])

abbrev pub with_numbers : List Fraction → List Element → Option (List Fraction)
with_numbers numbers [] = Some numbers
with_numbers numbers (c ∷ p) = with_number (λ more. with_numbers more p) numbers (as_number 5 c)

-- whether R is monic of degree at least 2, and S has a smaller degree
abbrev pub has_shape : List Fraction → List Element → Bool
has_shape r s = (nat_le 3 (length r) && fraction.is_one (poly.last ground r)) && nat_lt (length s) (length r)

abbrev pub shaped : ℕ → Option (List Fraction) → List Element → Reading LogPart
shaped start None s = Err (wrong_shape start)
shaped start (Some r) s = if has_shape r s then Ok (record { poly = r; arg = s }) else Err (wrong_shape start)

-- the sum over the roots of R, in a line that begins there: R, then S, and then their shape
unfoldable pub root_sum : ℕ → Tree → Tree → Reading LogPart
root_sum start modulus argument =
    and_next (polynomial_at start modulus) (λ r.
    and_next (polynomial_at start argument) (λ s.
    shaped start (with_numbers [] r) s))

abbrev pub log_value : LogLine → Reading LogPart
log_value (log_line c u) = logarithm c u
log_value (sum_line r s start) = root_sum start r s

-- what was formed, and the logarithms of the lines in order
abbrev pub with_logs : List LogPart → List LogLine → Reading (List LogPart)
with_logs parts [] = Ok parts
with_logs parts (l ∷ lines) = and_next (log_value l) (λ part. with_logs (parts ++ part ∷ []) lines)

-- ---- answers
-- the part, and then the logarithms
unfoldable pub integral_value : AnswerTree → Reading Integral
integral_value tree =
    and_next (element_at 0 tree.part) (λ part.
    and_next (with_logs [] tree.logs) (λ logs.
    Ok (record { part = part; logs = logs })))

-- the rest, and then the trace
unfoldable pub chain_value : Integral → RefutationTree → Reading Chain
chain_value partial tree =
    and_next (element_at 0 tree.rest) (λ rest.
    and_next (element_at 0 tree.end.trace) (λ trace.
    Ok (record { partial = partial; rest = rest; level = tree.end.level; end = Residue tree.end.power trace })))

-- the integral alone, or with a refutation
abbrev pub certificate_value : Integral → Option RefutationTree → Reading Certificate
certificate_value it None = Ok (Certified it)
certificate_value it (Some tree) = map_value Refutation (chain_value it tree)

-- the integral, and then the refutation
unfoldable pub answer_value : AnswerTree → Reading Certificate
answer_value tree = and_next (integral_value tree) (λ it. certificate_value it tree.refutation)

-- the problem, and then the answer
unfoldable pub certified_value : CertifiedTree → Reading CertifiedValue
certified_value tree =
    and_next (problem_value tree.problem) (λ problem.
    and_next (answer_value tree.answer) (λ certificate.
    Ok (record { problem = problem; certificate = certificate; lines = tree.answer.lines })))

-- none where the answer is not yet read
abbrev pub certified_if_read : Option CertifiedTree → Reading (Option CertifiedValue)
certified_if_read None = Ok None
certified_if_read (Some tree) = map_value Some (certified_value tree)

-- ---- files
-- what is read, and then its value
abbrev pub valued_by : {A B : Type 0} → (A → Reading B) → Read A → Reading B
valued_by value (Ok a) = value a
valued_by value (Err fault) = Err (Syntax fault)
