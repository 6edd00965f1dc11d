-- How certificates and answers are printed: one line after the other, each ended by byte 10.
use Rattle.std.specs.Prelude.{ℕ, nat_lt, if◌then◌else◌, List, [], ◌∷◌, ◌++◌, length, codes, decimal}
use Rattle.risch_frac.specs.Fraction.{Fraction, negative}
use Rattle.risch_frac.specs.declared.Op.{Op}
use Rattle.risch_frac.specs.declared.Op.TheVariants.{Add, Mul, Div}
use Rattle.risch_field.specs.Ground.{ground}
use Rattle.risch_level.specs.Levels.{Element}
use Rattle.risch_elem.specs.declared.units.Stop.{Stop}
use Rattle.risch_elem.specs.declared.units.Stop.TheVariants.{Overflow, Size, Case, NotSound, Budget}
use Rattle.risch_elem.specs.declared.units.Case as units
use Rattle.risch_elem.specs.declared.units.Case.TheVariants.{RootBound, Undetermined}
use Rattle.risch_rootsum.specs.declared.integral.LogPart.{LogPart}
use Rattle.risch_rootsum.specs.declared.integral.Integral as rootsum
use Rattle.risch_cert.specs.declared.answer.Place.{Place}
use Rattle.risch_cert.specs.declared.answer.Place.TheVariants.{Reading, Preparing, Branch, Gathering, Checking, Solving}
use Rattle.risch_cert.specs.declared.answer.Halt.{Halt}
use Rattle.risch_cert.specs.declared.answer.Certificate.{Certificate}
use Rattle.risch_cert.specs.declared.answer.Certificate.TheVariants.{Integral as Certified, Refuted as CertifiedChain}
use Rattle.risch_cert.specs.declared.answer.Answer.{Answer}
use Rattle.risch_cert.specs.declared.answer.Answer.TheVariants.{Integral as Found, Refuted, Stopped, Disagree}
use Rattle.risch_cert.specs.declared.chain.Chain.{Chain}
use Rattle.risch_cert.specs.declared.chain.End.{End}
use Rattle.risch_cert.specs.declared.chain.End.TheVariants.{Residue}
use Rattle.risch_cert.specs.Printing.{print_fraction, variable_name, print_element, print_in_z, print_fractions_in_z}

-- a line ends with byte 10
abbrev pub line : List ℕ → List ℕ
line text = text ++ 10 ∷ []

-- C = -R_0, for R = z - C
abbrev pub factor : List Fraction → Fraction
factor [] = ground.zero
factor (c ∷ r) = negative c

-- U, for S = U of degree 0 in z, or 0
abbrev pub print_argument : List Element → List ℕ
print_argument [] = codes "0"
print_argument (u ∷ s) = print_element u

-- C·log U
unfoldable pub print_logarithm : LogPart → List ℕ
print_logarithm part = line (codes "log " ++ (print_fraction (factor part.poly) ++ (codes " of " ++ print_argument part.arg)))

-- the sum over the roots z of R of z·log S
unfoldable pub print_root_sum : LogPart → List ℕ
print_root_sum part = line (codes "sum " ++ (print_fractions_in_z part.poly ++ (codes " of " ++ print_in_z part.arg)))

-- a sum where R has degree 2 or more, else one logarithm
unfoldable pub print_log_part : LogPart → List ℕ
print_log_part part = if nat_lt 2 (length part.poly) then print_root_sum part else print_logarithm part

-- the logarithmic parts in order
abbrev pub print_log_parts : List LogPart → List ℕ
print_log_parts [] = []
print_log_parts (part ∷ parts) = print_log_part part ++ print_log_parts parts

-- the part that is an element, and the logarithmic parts
unfoldable pub print_integral : rootsum.Integral → List ℕ
print_integral it =
    line (codes "integral") ++ (line (codes "part " ++ print_element it.part) ++ (print_log_parts it.logs ++ line (codes "end")))

-- ---- refutations
unfoldable pub print_rest : Element → List ℕ
print_rest rest = line (codes "rest " ++ print_element rest)

-- an end by the trace of a power of the residues, at a level
unfoldable pub print_residue : ℕ → ℕ → Element → List ℕ
print_residue level power trace =
    line (codes "end residue of " ++ (variable_name level ++ (codes " power " ++ (decimal power ++ (codes " trace " ++ print_element trace)))))

abbrev pub print_end : ℕ → End → List ℕ
print_end level (Residue power trace) = print_residue level power trace

-- the partial integral, the rest and the end
unfoldable pub print_chain : Chain → List ℕ
print_chain chain =
    line (codes "refuted") ++ (line (codes "part " ++ print_element chain.partial.part) ++ (print_log_parts chain.partial.logs ++ (print_rest chain.rest ++ print_end chain.level chain.end)))

-- ---- certificates
unfoldable pub print_certificate : Certificate → List ℕ
print_certificate (Certified it) = print_integral it
print_certificate (CertifiedChain chain) = print_chain chain

-- the operation that overflows
abbrev pub print_operation : Op → List ℕ
print_operation Add = codes "add"
print_operation Mul = codes "mul"
print_operation Div = codes "div"

-- the case that is not decided
abbrev pub print_case : units.Case → List ℕ
print_case RootBound = codes "root bound"
print_case Undetermined = codes "undetermined"

-- what stops a run
unfoldable pub print_stop : Stop → List ℕ
print_stop (Overflow op) = codes "overflow " ++ print_operation op
print_stop Size = codes "size"
print_stop (Case case) = codes "case " ++ print_case case
print_stop (NotSound e) = codes "not sound " ++ print_element e
print_stop Budget = codes "budget"

-- the step in which a run stops
unfoldable pub print_place : Place → List ℕ
print_place Reading = codes "reading"
print_place (Preparing l) = codes "preparing " ++ variable_name l
print_place (Branch l n) = codes "branch " ++ (decimal n ++ (codes " of " ++ variable_name l))
print_place (Gathering l) = codes "gathering " ++ variable_name l
print_place Checking = codes "checking"
print_place Solving = codes "solving"

unfoldable pub print_halt : Halt → List ℕ
print_halt halt = line (print_stop halt.stop ++ (codes " in " ++ print_place halt.place))

-- two elements that should be the same and are not
unfoldable pub print_disagreement : Element → Element → List ℕ
print_disagreement left right =
    line (codes "disagree") ++ (line (codes "left " ++ print_element left) ++ line (codes "right " ++ print_element right))

unfoldable pub print_answer : Answer → List ℕ
print_answer (Found it) = print_integral it
print_answer (Refuted chain) = print_chain chain
print_answer (Stopped halt) = print_halt halt
print_answer (Disagree left right) = print_disagreement left right
