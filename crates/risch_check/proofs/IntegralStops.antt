-- The conditions on an integral are stopped by values that cannot be formed, and by nothing else.
--     integral-stops      of the conditions on a certificate of an integral
use Rattle.std.specs.Prelude.{if◌then◌else◌}
use Rattle.std.proofs.Common.{◌≡◌, ℕ, ◌+◌, Bool, true, false, List, [], ◌∷◌, length, Ok, Err, subst}
use Rattle.risch_field.specs.Checked.{Checked}
use Rattle.risch_field.specs.declared.Fail.TheVariants.{Overflow, Size, Memory}
use Rattle.risch_elem.specs.declared.units.Stop.{Stop}
use Rattle.risch_frac.specs.Fraction.{Fraction}
use Rattle.risch_polynomial.specs.Poly as poly
use Rattle.risch_level.specs.Levels.{Element, element}
use Rattle.risch_tower.specs.declared.level.Level.{Level}
use Rattle.risch_tower.specs.Tower.{derivative}
use Rattle.risch_rootsum.specs.Algebra.{modulus}
use Rattle.risch_rootsum.specs.Derivative.{is_linear, argument, derive_integral}
use Rattle.risch_rootsum.specs.declared.integral.LogPart.{LogPart}
use Rattle.risch_rootsum.specs.declared.integral.Integral.{Integral}
use Rattle.risch_cert.specs.Printing.{print_element, print_in_z}
use Rattle.risch_cert.specs.declared.answer.Certificate.{Certificate}
use Rattle.risch_cert.specs.declared.answer.Certificate.TheVariants.{Integral as Certified, Refuted}
use Rattle.risch_chain_end.specs.Verdict.{Verdict, accepted, refused, stopped, also, formed}
use Rattle.risch_check.specs.Answers.{IsOfValue}
use Rattle.risch_check.specs.Certificates.{IfIntegral}
use Rattle.risch_check.specs.Checked.{checked_one, checked_coprime, checked_separable, checked_sum, checked_logarithm, checked_part, checked_parts, line_at, checked_same, checked_derivative, checked_integral, checked}

-- the stop of a verdict is that of a value
abbrev IsPlain : Verdict → Type 0
IsPlain accepted = Unit {0}
IsPlain (refused line left right) = Unit {0}
IsPlain (stopped stop) = IsOfValue stop

also-plain : (first next : Verdict) → IsPlain first → IsPlain next → IsPlain (also first next)
also-plain accepted next h k = k
also-plain (refused line left right) next h k = tt
also-plain (stopped stop) next h k = h

formed-plain : {A : Type 0} (rule : Checked A) (condition : A → Verdict) → ((a : A) → IsPlain (condition a)) → IsPlain (formed rule condition)
formed-plain (Ok a) condition h = h a
formed-plain (Err (Overflow op)) condition h = tt
formed-plain (Err Size) condition h = tt
formed-plain (Err Memory) condition h = tt

test-plain : (test : Bool) (first next : Verdict) → IsPlain first → IsPlain next → IsPlain (if test then first else next)
test-plain true first next h k = h
test-plain false first next h k = k

coprime-plain : (line : ℕ) (p q : List Element) → IsPlain (checked_coprime line p q)
unfolding checked_coprime
coprime-plain line p q = formed-plain (poly.gcd element p q) (checked_one line) (λ g. test-plain (poly.is_one element g) accepted (refused line (print_in_z g) _) tt tt)

separable-plain : (line : ℕ) (R : List Fraction) → IsPlain (checked_separable line R)
unfolding checked_separable
separable-plain line R = formed-plain (poly.partial element (modulus R)) (checked_coprime line (modulus R)) (λ d. coprime-plain line (modulus R) d)

sum-plain : (line : ℕ) (l : LogPart) → IsPlain (checked_sum line l)
unfolding checked_sum
sum-plain line l = also-plain (checked_separable line l.poly) (checked_coprime line (poly.trimmed element l.arg) (modulus l.poly)) (separable-plain line l.poly) (coprime-plain line (poly.trimmed element l.arg) (modulus l.poly))

logarithm-plain : (line : ℕ) (l : LogPart) → IsPlain (checked_logarithm line l)
unfolding checked_logarithm
logarithm-plain line l = test-plain (element.is_zero (argument l)) (refused line _ _) accepted tt tt

parts-plain : (lines : List ℕ) (place : ℕ) (logs : List LogPart) → IsPlain (checked_parts lines place logs)
parts-plain lines place [] = tt
parts-plain lines place (l ∷ logs) =
    also-plain (checked_part (line_at lines place) l) (checked_parts lines (place + 1) logs)
    (test-plain (is_linear l) (checked_logarithm (line_at lines place) l) (checked_sum (line_at lines place) l) (logarithm-plain (line_at lines place) l) (sum-plain (line_at lines place) l))
    (parts-plain lines (place + 1) logs)

same-plain : (line : ℕ) (integrand f : Element) → IsPlain (checked_same line integrand f)
same-plain line integrand f = test-plain (element.same f integrand) accepted (refused line (print_element f) (print_element integrand)) tt tt

derivative-plain : (D : Element → Checked Element) (line : ℕ) (integrand : Element) (it : Integral) → IsPlain (checked_derivative D line integrand it)
unfolding checked_derivative
derivative-plain D line integrand it = formed-plain (derive_integral D it) (checked_same line integrand) (same-plain line integrand)

integral-plain : (levels : List Level) (integrand : Element) (it : Integral) (lines : List ℕ) → IsPlain (checked_integral levels integrand it lines)
unfolding checked_integral
integral-plain levels integrand it lines =
    also-plain (checked_parts lines 2 it.logs) (checked_derivative (derivative levels) (line_at lines (length it.logs + 2)) integrand it) (parts-plain lines 2 it.logs)
    (derivative-plain (derivative levels) (line_at lines (length it.logs + 2)) integrand it)

-- a check of a certificate of an integral is stopped by Overflow or Size alone
pub integral-stops : (levels : List Level) (integrand : Element) (certificate : Certificate) (lines : List ℕ) (stop : Stop) → checked levels integrand certificate lines ≡ stopped stop →
    IfIntegral certificate (λ _. IsOfValue stop)
integral-stops levels integrand (Certified it) lines stop e = subst IsPlain e (integral-plain levels integrand it lines)
integral-stops levels integrand (Refuted chain) lines stop e = tt
