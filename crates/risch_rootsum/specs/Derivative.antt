-- The derivative of an integral, in the order in which its values are formed: that of its part, and then those of its logarithms in order are added.
use Rattle.std.specs.Prelude.{Bool, nat_eq, if◌then◌else◌, List, [], ◌∷◌, ◌++◌, length, Option, None, Some, Ok}
use Rattle.risch_frac.specs.Fraction as fraction
use Rattle.risch_frac.specs.Fraction.{Fraction}
use Rattle.risch_field.specs.Checked.{Checked, and_then}
use Rattle.risch_field.specs.Ground.{ground}
use Rattle.risch_polynomial.specs.Poly as poly
use Rattle.risch_polynomial.specs.Modular as modular
use Rattle.risch_level.specs.Levels.{Element, element}
use Rattle.risch_level.specs.Accessors.{number}
use Rattle.risch_trace.specs.Traces.{raised, remainder, trace}
use Rattle.risch_rootsum.specs.Algebra.{modulus}
use Rattle.risch_rootsum.specs.declared.integral.LogPart.{LogPart}
use Rattle.risch_rootsum.specs.declared.integral.Integral.{Integral}

-- R = z - C
abbrev pub is_linear : LogPart → Bool
is_linear l = nat_eq (length l.poly) 2

-- C, for R = z - C
abbrev pub factor : LogPart → Fraction
factor l = fraction.negative (poly.coefficient ground l.poly 0)

-- U, for S = U
abbrev pub argument : LogPart → Element
argument l = poly.coefficient element l.arg 0

-- the trace modulo d of (z·(p·q)) rem d
unfoldable pub trace_of_product : List Element → List Element → List Element → Checked Element
trace_of_product d p q =
    and_then (poly.product element p q) (λ m.
    and_then (raised 1 m) (λ z.
    and_then (remainder z d) (λ r.
    trace d r)))

-- the trace of z·DS·T for the inverse T of S. Each integral that has a derivative has one; what stands where there is none only makes the definition whole
abbrev pub sum_trace : List Element → List Element → Option (List Element) → Checked Element
sum_trace d derivative None = Ok element.zero
sum_trace d derivative (Some inverse) = trace_of_product d derivative inverse

-- D is the derivation of the tower
module _ (D : Element → Checked Element) where
  -- D(s_0), D(s_1), .., exponents ascending, after those that are formed
  abbrev pub derivatives_onto : List Element → List Element → Checked (List Element)
  derivatives_onto formed [] = Ok formed
  derivatives_onto formed (c ∷ s) = and_then (D c) (λ d. derivatives_onto (formed ++ d ∷ []) s)

  -- DS
  unfoldable pub coefficient_derivatives : List Element → Checked (List Element)
  coefficient_derivatives s = and_then (derivatives_onto [] s) (λ r. poly.sized element (poly.trimmed element r))

  -- C·(DU/U)
  unfoldable pub log_derivative : Fraction → Element → Checked Element
  log_derivative c u =
      and_then (D u) (λ d.
      and_then (element.quotient d u) (λ q.
      element.product (number 5 c) q))

  -- DS, and then T with S·T = 1 modulo R, and the trace
  unfoldable pub sum_derivative : List Fraction → List Element → Checked Element
  sum_derivative R s =
      and_then (coefficient_derivatives s) (λ derivative.
      and_then (modular.inverse element (poly.trimmed element s) (modulus R)) (λ inverse.
      sum_trace (modulus R) derivative inverse))

  -- of C·log U, or of the sum over the roots
  abbrev pub part_derivative : LogPart → Checked Element
  part_derivative l = if is_linear l then log_derivative (factor l) (argument l) else sum_derivative l.poly l.arg

  -- the total, to which the derivatives are added
  abbrev pub derivatives_from : Element → List LogPart → Checked Element
  derivatives_from total [] = Ok total
  derivatives_from total (l ∷ logs) =
      and_then (part_derivative l) (λ d.
      and_then (element.sum total d) (λ s.
      derivatives_from s logs))

  -- of the integral
  unfoldable pub derive_integral : Integral → Checked Element
  derive_integral integral = and_then (D integral.part) (λ d. derivatives_from d integral.logs)
