-- The conditions on a certificate, in the order in which they are tested: those of the logarithms, line by line, and then that the derivative is the integrand; of a refutation at last those of its end.
-- Left of a condition is what the certificate says or implies, right what it should be.
use Rattle.std.specs.Prelude.{ℕ, ◌+◌, if◌then◌else◌, List, [], ◌∷◌, length, slice_index_or, codes}
use Rattle.risch_frac.specs.Fraction.{Fraction}
use Rattle.risch_field.specs.Checked.{Checked}
use Rattle.risch_polynomial.specs.Poly as poly
use Rattle.risch_level.specs.Levels.{Element, element}
use Rattle.risch_tower.specs.declared.level.Level.{Level}
use Rattle.risch_tower.specs.Tower.{derivative}
use Rattle.risch_rootsum.specs.Algebra.{modulus}
use Rattle.risch_rootsum.specs.Derivative.{is_linear, argument, derive_integral}
use Rattle.risch_rootsum.specs.declared.integral.LogPart.{LogPart}
use Rattle.risch_rootsum.specs.declared.integral.Integral.{Integral}
use Rattle.risch_cert.specs.Printing.{print_element, print_in_z}
use Rattle.risch_cert.specs.declared.answer.Certificate.{Certificate}
use Rattle.risch_cert.specs.declared.answer.Certificate.TheVariants.{Integral as Certified, Refuted}
use Rattle.risch_cert.specs.declared.chain.Chain.{Chain}
use Rattle.risch_chain_end.specs.Verdict.{Verdict, accepted, refused, also, formed}
use Rattle.risch_chain_end.specs.End.{checked_end}

-- g = 1
abbrev pub checked_one : ℕ → List Element → Verdict
checked_one line g = if poly.is_one element g then accepted else refused line (print_in_z g) (codes "1")

-- gcd(p, q) = 1 over the polynomials in z
unfoldable pub checked_coprime : ℕ → List Element → List Element → Verdict
checked_coprime line p q = formed (poly.gcd element p q) (checked_one line)

-- gcd(R, R') = 1
unfoldable pub checked_separable : ℕ → List Fraction → Verdict
checked_separable line R = formed (poly.partial element (modulus R)) (checked_coprime line (modulus R))

-- of the sum over the roots z of R of z·log S(z): gcd(R, R') = 1, and then gcd(S, R) = 1
unfoldable pub checked_sum : ℕ → LogPart → Verdict
checked_sum line l = also (checked_separable line l.poly) (checked_coprime line (poly.trimmed element l.arg) (modulus l.poly))

-- of C·log U: U ≠ 0
unfoldable pub checked_logarithm : ℕ → LogPart → Verdict
checked_logarithm line l = if element.is_zero (argument l) then refused line (codes "0") (codes "not 0") else accepted

-- a logarithm where R has degree 1, else a sum
abbrev pub checked_part : ℕ → LogPart → Verdict
checked_part line l = if is_linear l then checked_logarithm line l else checked_sum line l

-- the number of the line at a place of the certificate
abbrev pub line_at : List ℕ → ℕ → ℕ
line_at lines place = slice_index_or lines place 0

-- each logarithm, the first of which stands at this place of the certificate
abbrev pub checked_parts : List ℕ → ℕ → List LogPart → Verdict
checked_parts lines place [] = accepted
checked_parts lines place (l ∷ logs) = also (checked_part (line_at lines place) l) (checked_parts lines (place + 1) logs)

-- ---- derivatives; D is the derivation of the tower
-- f is the integrand
abbrev pub checked_same : ℕ → Element → Element → Verdict
checked_same line integrand f = if element.same f integrand then accepted else refused line (print_element f) (print_element integrand)

-- the derivative of the integral is the integrand
unfoldable pub checked_derivative : (Element → Checked Element) → ℕ → Element → Integral → Verdict
checked_derivative D line integrand it = formed (derive_integral D it) (checked_same line integrand)

-- the derivative of the partial integral plus the rest is the integrand
unfoldable pub checked_rest : (Element → Checked Element) → ℕ → Element → Integral → Element → Verdict
checked_rest D line integrand partial rest = formed (derive_integral D partial) (λ d. formed (element.sum d rest) (checked_same line integrand))

-- ---- certificates
-- the logarithms stand behind the lines `integral` and `part`, and `end` behind them
unfoldable pub checked_integral : List Level → Element → Integral → List ℕ → Verdict
checked_integral levels integrand it lines =
    also (checked_parts lines 2 it.logs) (checked_derivative (derivative levels) (line_at lines (length it.logs + 2)) integrand it)

-- the logarithms stand behind the lines `refuted` and `part`, and `rest` and `end` behind them
unfoldable pub checked_chain : List Level → Element → Chain → List ℕ → Verdict
checked_chain levels integrand chain lines =
    also (checked_parts lines 2 chain.partial.logs)
    (also (checked_rest (derivative levels) (line_at lines (length chain.partial.logs + 2)) integrand chain.partial chain.rest)
    (checked_end levels (line_at lines (length chain.partial.logs + 3)) chain))

-- the conditions on a certificate with these line numbers
abbrev pub checked : List Level → Element → Certificate → List ℕ → Verdict
checked levels integrand (Certified it) lines = checked_integral levels integrand it lines
checked levels integrand (Refuted chain) lines = checked_chain levels integrand chain lines
