-- What holds where conditions on a certificate do.
--     coprime-accepted      the polynomials are coprime
--     separable-accepted, invertible-accepted      R' and S have inverses modulo R
--     parts-accepted      each logarithm and each sum has a derivative
--     derivative-accepted      so the answer has one
--     chain-exact      the chain of a refutation is exact
use Rattle.std.specs.Prelude.{cond, if◌then◌else◌, filter, not, nat_eq, take, codes, All}
use Rattle.std.proofs.Common.{◌≡◌, refl, subst, ℕ, zero, suc, ◌+◌, ◌-◌, ◌≤◌, ◌<◌, Bool, true, false, List, [], ◌∷◌, map, length, Ok, Err, arith}
use Rattle.std.proofs.lemmas.Bool.Decides.{nat_tests}
use Rattle.std.proofs.lemmas.List.{length-map}
use Rattle.risch_frac.specs.Fraction as fraction
use Rattle.risch_frac.specs.Fraction.{Fraction, IsLowest}
use Rattle.risch_frac.proofs.Lowest.{negative-is_lowest}
use Rattle.risch_univariate.specs.Degree.{size}
use Rattle.risch_univariate.specs.Division.{IsCoprime}
use Rattle.risch_univariate.proofs.Gcd as Gcd
use Rattle.risch_mean.specs.Element as mean
use Rattle.risch_mean.specs.Element.{level, InField, AllInField, ◌+ₑ◌, ◌*ₑ◌, ◌/ₑ◌}
use Rattle.risch_mean.specs.ElementField.{elements}
use Rattle.risch_mean.specs.ElementPolynomials.{derivative_of_modulus, times_modulo, z_times_modulo, trace_modulo, IsInvertibleModulo}
use Rattle.risch_mean.specs.Chain.{IsExact}
use Rattle.risch_mean.specs.Tower.{Tower, derive_in}
use Rattle.risch_mean.specs.Answer.{LogDerivative, SumDerivative, SumOf, HasDerivative}
use Rattle.risch_field.specs.Checked.{Checked}
use Rattle.risch_field.specs.Ground.{ground}
use Rattle.risch_polynomial.specs.Poly as poly
use Rattle.risch_polynomial_theory.specs.Meaning.{AllValid}
use Rattle.risch_polynomial_theory.proofs.FractionValues.{fraction-rational, fractions-rational}
use Rattle.risch_level.specs.Levels.{Element, element}
use Rattle.risch_level.specs.Accessors.{number}
use Rattle.risch_element_theory.specs.WholeTower.{IsElement, IsPolynomial, meaning, polynomial, Within, AllWithin}
use Rattle.risch_element_theory.proofs.ElementDerivation.{element-lies}
use Rattle.risch_element_theory.proofs.ElementLaws.{zero-told}
use Rattle.risch_element_theory.proofs.ElementParts.{number-is_element}
use Rattle.risch_element_theory.proofs.ElementPolynomials.{trimmed-is_polynomial, trimmed-stands, degree-stands, partial-is_polynomial, partial-stands, gcd-is_polynomial, gcd-stands}
use Rattle.risch_tower.specs.declared.level.Level.{Level}
use Rattle.risch_tower.specs.TowerMeaning.{monomial_of, monomials}
use Rattle.risch_rootsum.specs.Algebra.{IsModulus, IsMember, modulus}
use Rattle.risch_rootsum.specs.AlgebraMeaning.{below}
use Rattle.risch_rootsum.specs.Derivative.{is_linear, argument}
use Rattle.risch_rootsum.specs.DerivativeMeaning.{logarithm_of, sum_of, logarithms_of, sums_of, answer_of, IsLogPart}
use Rattle.risch_rootsum.specs.declared.integral.LogPart.{LogPart}
use Rattle.risch_rootsum.specs.declared.integral.Integral.{Integral}
use Rattle.risch_rootsum.proofs.Invertibles.{coprime_of_gcd}
use Rattle.risch_rootsum.proofs.ElementInvertibles as ElementInvertibles
use Rattle.risch_trace.proofs.TraceRules.{IsMonicWith}
use Rattle.risch_rootsum.proofs.AlgebraRules.{modulus-is_monic, length-below, trimmed_length}
use Rattle.risch_cert.specs.Printing.{print_in_z}
use Rattle.risch_cert.specs.declared.chain.Chain.{Chain}
use Rattle.risch_chain_end.specs.EndMeaning.{end_of, IsEndOf}
use Rattle.risch_chain_end.specs.Verdict.{Verdict, accepted, refused, stopped, also, formed}
use Rattle.risch_check.specs.Checked.{checked_one, checked_coprime, checked_separable, checked_sum, checked_logarithm, checked_part, checked_parts, line_at}
use Rattle.risch_check.proofs.ZeroTests.{zero_told}
use Rattle.risch_check.specs.Certificates.{IsFormed, IsNormal, IsReduced, chain_of}

-- ---- conditions that hold
pub test-accepted : (test : Bool) (line : ℕ) (left right : List ℕ) → (if test then accepted else refused line left right) ≡ accepted → test ≡ true
test-accepted true line left right e = refl
test-accepted false line left right e = cc

failure-accepted : (test : Bool) (line : ℕ) (left right : List ℕ) → (if test then refused line left right else accepted) ≡ accepted → test ≡ false
failure-accepted true line left right e = cc
failure-accepted false line left right e = refl

pub first-accepted : (first next : Verdict) → also first next ≡ accepted → first ≡ accepted
first-accepted accepted next e = refl
first-accepted (refused line left right) next e = cc
first-accepted (stopped fail) next e = cc

pub next-accepted : (first next : Verdict) → also first next ≡ accepted → next ≡ accepted
next-accepted accepted next e = e
next-accepted (refused line left right) next e = cc
next-accepted (stopped fail) next e = cc

-- the value that is formed, of which the condition holds
pub record HasValue {A : Type 0} (rule : Checked A) (condition : A → Verdict) : Type 0 where
  pub value : A
  pub is : rule ≡ Ok value
  pub holds : condition value ≡ accepted

pub formed-accepted : {A : Type 0} (rule : Checked A) (condition : A → Verdict) → formed rule condition ≡ accepted → HasValue rule condition
formed-accepted (Ok a) condition e = record { value = a; is = refl; holds = e }
formed-accepted (Err stop) condition e = cc

-- ---- common divisors
one-size : (g : List Element) → IsPolynomial g → poly.is_one element g ≡ true → size elements (polynomial g) ≡ 1
one-size [] kept e = cc
one-size (c ∷ []) kept e = degree-stands (c ∷ []) kept
one-size (c ∷ (d ∷ g)) kept e = cc

pub coprime-accepted : (line : ℕ) (p q : List Element) → IsPolynomial p → IsPolynomial q → 0 < length p + length q → checked_coprime line p q ≡ accepted →
    IsCoprime elements (polynomial p) (polynomial q)
unfolding checked_coprime
coprime-accepted line p q left right some e =
    let g = formed-accepted (poly.gcd element p q) (checked_one line) e in
    let kept : IsPolynomial g.value = gcd-is_polynomial p q g.value left right some g.is in
    let divisor = gcd-stands p q g.value left right some g.is in
    let one : poly.is_one element g.value ≡ true = test-accepted (poly.is_one element g.value) line (print_in_z g.value) (codes "1") g.holds in
    coprime_of_gcd elements (polynomial g.value) (polynomial p) (polynomial q) divisor.0 divisor.1 (one-size g.value kept one)

modulus-valid : (R : List Fraction) → AllValid IsLowest R → AllValid IsElement (modulus R)
modulus-valid [] all = tt
modulus-valid (q ∷ R) all = (number-is_element q all.0, modulus-valid R all.1)

front-valid : (n : ℕ) (R : List Fraction) → AllValid IsLowest R → AllValid IsLowest (take n R)
front-valid zero R all = tt
front-valid (suc n) [] all = tt
front-valid (suc n) (q ∷ R) all = (all.0, front-valid n R all.1)

-- R is monic, with coefficients in lowest terms
module _ (R : List Fraction) (h : IsModulus R) (lowest : AllValid IsLowest R) where
  monic : IsMonicWith (modulus R) (below R)
  monic = modulus-is_monic R h (modulus-valid R lowest)

  length-modulus : length (modulus R) ≡ length R
  length-modulus = length-map R (number 5)

  pub separable-accepted : (line : ℕ) → checked_separable line R ≡ accepted → IsInvertibleModulo (below R) (derivative_of_modulus (below R))
  unfolding checked_separable
  separable-accepted line e =
      let d = formed-accepted (poly.partial element (modulus R)) (checked_coprime line (modulus R)) e in
      let kept : IsPolynomial d.value = partial-is_polynomial (modulus R) d.value monic.kept d.is in
      let two = h.some in
      let some : 0 < length (modulus R) + length d.value = omega (arith, length-modulus) in
      ElementInvertibles.separable_of_coprime (modulus R) (below R) monic d.value (partial-stands (modulus R) d.value monic.kept d.is)
      (coprime-accepted line (modulus R) d.value monic.kept kept some d.holds)

  pub invertible-accepted : (line : ℕ) (s : List Element) → AllValid IsElement s → IsMember R s → checked_coprime line (poly.trimmed element s) (modulus R) ≡ accepted →
      IsInvertibleModulo (below R) (map meaning s)
  invertible-accepted line s all member e =
      let two = h.some in
      let small = h.small in
      let short = member.degree_small in
      let kept : IsPolynomial (poly.trimmed element s) = trimmed-is_polynomial s (poly.trimmed element s) all (omega (arith, trimmed_length s)) refl in
      let some : 0 < length (poly.trimmed element s) + length (modulus R) = omega (arith, length-modulus) in
      let coprime = coprime-accepted line (poly.trimmed element s) (modulus R) kept monic.kept some e in
      ElementInvertibles.invertible_of_coprime (modulus R) (below R) monic s
      (Gcd.coprime_sym elements (polynomial s) (polynomial (modulus R))
      (subst (λ p. IsCoprime elements p (polynomial (modulus R))) (trimmed-stands s (poly.trimmed element s) all refl) coprime))

-- ---- the derivatives of the parts
all-in_field : (n : ℕ) (s : List Element) → AllValid IsElement s → AllWithin n s → AllInField n (map meaning s)
all-in_field n [] all within = tt
all-in_field n (c ∷ s) all within = (element-lies n c all.0 within.0, all-in_field n s all.1 within.1)

lowest-at : (R : List Fraction) → 2 ≤ length R → AllValid IsLowest R → IsLowest (poly.coefficient ground R 0)
lowest-at [] some all = absurd (omega arith)
lowest-at (q ∷ R) some all = all.0

true-false : (test : Bool) → test ≡ true → test ≡ false → ⊥
true-false true e f = cc
true-false false e f = cc

-- where the argument is not 0
argument-is_element : (s : List Element) → AllValid IsElement s → element.is_zero (poly.coefficient element s 0) ≡ false → IsElement (poly.coefficient element s 0)
argument-is_element [] all some = absurd (true-false (element.is_zero element.zero) zero_told some)
argument-is_element (u ∷ s) all some = all.0

argument-within : (n : ℕ) (s : List Element) → AllWithin n s → element.is_zero (poly.coefficient element s 0) ≡ false → Within n (poly.coefficient element s 0)
argument-within n [] within some = absurd (true-false (element.is_zero element.zero) zero_told some)
argument-within n (u ∷ s) within some = within.0

three : (n : ℕ) → 2 ≤ n → nat_eq n 2 ≡ false → 3 ≤ n
three n some other = grind (arith, nat_tests)

module _ (levels : List Level) where
  height : length levels + 1 ≡ level (length (monomials levels))
  height = omega (arith, length-map levels (λ (l : Level). monomial_of l.monomial))

  logarithm-accepted : (line : ℕ) (l : LogPart) → IsLogPart (length levels + 1) l → IsNormal l → checked_logarithm line l ≡ accepted →
      (f : mean.Element) × LogDerivative (monomials levels) (logarithm_of l) f
  unfolding checked_logarithm
  logarithm-accepted line l part normal e =
      let some : element.is_zero (argument l) ≡ false = failure-accepted (element.is_zero (argument l)) line (codes "0") (codes "not 0") e in
      let valid : IsElement (argument l) = argument-is_element l.arg normal.elements_normal some in
      let within : Within (length levels + 1) (argument l) = argument-within (length levels + 1) l.arg part.argument_within some in
      let lowest : IsLowest (poly.coefficient ground l.poly 0) = lowest-at l.poly part.modulus.some normal.fractions_lowest in (
        (logarithm_of l).factor *ₑ (derive_in (monomials levels) (meaning (argument l)) /ₑ meaning (argument l)),
        record {
          rational = fraction-rational (fraction.negative (poly.coefficient ground l.poly 0)) (negative-is_lowest (poly.coefficient ground l.poly 0) lowest);
          in_tower = subst (λ (n : ℕ). InField n (meaning (argument l))) height (element-lies (length levels + 1) (argument l) valid within);
          argument-ne-zero = λ z. true-false (element.is_zero (argument l)) ((zero-told (argument l) valid).1 z) some;
          is = refl;
        },
      )

  sum-accepted : (line : ℕ) (l : LogPart) → IsLogPart (length levels + 1) l → IsNormal l → is_linear l ≡ false → checked_sum line l ≡ accepted →
      (f : mean.Element) × SumDerivative (monomials levels) (sum_of l) f
  unfolding checked_sum
  sum-accepted line l part normal other e =
      let R = l.poly in
      let s = l.arg in
      let first : checked_separable line R ≡ accepted = first-accepted (checked_separable line R) (checked_coprime line (poly.trimmed element s) (modulus R)) e in
      let second : checked_coprime line (poly.trimmed element s) (modulus R) ≡ accepted = next-accepted (checked_separable line R) (checked_coprime line (poly.trimmed element s) (modulus R)) e in
      let invertible = invertible-accepted R part.modulus normal.fractions_lowest line s normal.elements_normal part.argument_member second in
      let more : 3 ≤ length R = three (length R) part.modulus.some other in
      let short : length s ≤ length R - 1 = part.argument_member.degree_small in (
        trace_modulo (below R) (z_times_modulo (below R) (times_modulo (below R) (map (derive_in (monomials levels)) (map meaning s)) invertible.inverse)),
        record {
          degree = omega (arith, length-below R);
          rational = fractions-rational (poly.front ground R) (front-valid (length R - 1) R normal.fractions_lowest);
          separable = separable-accepted R part.modulus normal.fractions_lowest line first;
          in_tower = subst (λ (n : ℕ). AllInField n (map meaning s)) height (all-in_field (length levels + 1) s normal.elements_normal part.argument_within);
          inner_degree = omega (arith, length-below R, length-map s meaning);
          inverse = invertible.inverse;
          is_inverse = invertible.is_inverse;
          is = refl;
        },
      )

  -- the derivatives of logarithms and of sums
  pub record HasSums (logs : List LogPart) : Type 0 where
    pub logarithms : mean.Element
    pub logarithms_are : SumOf (LogDerivative (monomials levels)) (logarithms_of logs) logarithms
    pub sums : mean.Element
    pub sums_are : SumOf (SumDerivative (monomials levels)) (sums_of logs) sums

  -- with one part more in front, by the test of that part
  record HasSumsBy (t : Bool) (l : LogPart) (logs : List LogPart) : Type 0 where
    logarithms : mean.Element
    logarithms_are : SumOf (LogDerivative (monomials levels)) (map logarithm_of (cond t (l ∷ filter is_linear logs) (filter is_linear logs))) logarithms
    sums : mean.Element
    sums_are : SumOf (SumDerivative (monomials levels)) (map sum_of (cond (not t) (l ∷ filter (λ p. not (is_linear p)) logs) (filter (λ p. not (is_linear p)) logs))) sums

  next_by : (t : Bool) (line : ℕ) (l : LogPart) (logs : List LogPart) → is_linear l ≡ t → (if t then checked_logarithm line l else checked_sum line l) ≡ accepted →
      IsLogPart (length levels + 1) l → IsNormal l → HasSums logs → HasSumsBy t l logs
  next_by true line l logs linear e part normal h =
      let d = logarithm-accepted line l part normal e in
      record { logarithms = d.0 +ₑ h.logarithms; logarithms_are = (d.0, h.logarithms, d.1, h.logarithms_are, refl); sums = h.sums; sums_are = h.sums_are }
  next_by false line l logs linear e part normal h =
      let d = sum-accepted line l part normal linear e in
      record { logarithms = h.logarithms; logarithms_are = h.logarithms_are; sums = d.0 +ₑ h.sums; sums_are = (d.0, h.sums, d.1, h.sums_are, refl) }

  pub parts-accepted : (lines : List ℕ) (place : ℕ) (logs : List LogPart) → All (IsLogPart (length levels + 1)) logs → AllValid IsNormal logs → checked_parts lines place logs ≡ accepted → HasSums logs
  parts-accepted lines place [] parts normal e = record { logarithms = mean.zero; logarithms_are = refl; sums = mean.zero; sums_are = refl }
  parts-accepted lines place (l ∷ logs) parts normal e =
      let first = first-accepted (checked_part (line_at lines place) l) (checked_parts lines (place + 1) logs) e in
      let next = next-accepted (checked_part (line_at lines place) l) (checked_parts lines (place + 1) logs) e in
      let more = parts-accepted lines (place + 1) logs (λ k d below. parts (suc k) d (omega arith)) normal.1 next in
      let h = next_by (is_linear l) (line_at lines place) l logs refl first (parts 0 l (omega arith)) normal.0 more in
      record { logarithms = h.logarithms; logarithms_are = h.logarithms_are; sums = h.sums; sums_are = h.sums_are }

  -- where the conditions on the logarithms hold, the answer has a derivative
  pub derivative-accepted : (it : Integral) (lines : List ℕ) → IsFormed (length levels + 1) it → IsElement it.part → AllValid IsNormal it.logs → checked_parts lines 2 it.logs ≡ accepted →
      (f : mean.Element) × HasDerivative (monomials levels) (answer_of it) f
  derivative-accepted it lines formed part normal e =
      let h = parts-accepted lines 2 it.logs formed.logs_formed normal e in (
        derive_in (monomials levels) (meaning it.part) +ₑ (h.logarithms +ₑ h.sums),
        record {
          part_in_tower = subst (λ (n : ℕ). InField n (meaning it.part)) height (element-lies (length levels + 1) it.part part formed.part_within);
          logs = h.logarithms;
          logs_are = h.logarithms_are;
          sums = h.sums;
          sums_are = h.sums_are;
          is = refl;
        },
      )

-- a partial integral and a rest that reduce f, and an end that is read off the rest
pub chain-exact : (tower : Tower) (f : mean.Element) (chain : Chain) → chain.level ≤ length tower → IsReduced tower f (answer_of chain.partial) (meaning chain.rest) →
    IsEndOf tower chain.level (meaning chain.rest) (end_of chain.end) → IsExact tower f (chain_of chain)
chain-exact tower f chain low reduced end =
    record {
      derivative = reduced.derivative;
      has_derivative = reduced.has_derivative;
      is = reduced.is;
      is_level = low;
      in_level = end.in_level;
      us = end.us;
      shift = end.shift;
      shift_allowed = end.shift_allowed;
      a = end.a;
      d = end.d;
      parts = end.parts;
      normal = end.normal;
      read_off = end.read_off;
    }
