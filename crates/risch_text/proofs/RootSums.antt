-- The values of logarithms, one after the other.
use Rattle.std.proofs.Common.{◌≡◌, ℕ, pos, Bool, true, false, suc, ◌+◌, ◌≤◌, ◌<◌, List, [], ◌∷◌, ◌++◌, length, map, drop, get_or, Some, None, Option, Ok, Err, refl, sym, ap, ◌∙◌, arith, drop-cons, add-one, length-append}
use Rattle.std.specs.Prelude.{if◌then◌else◌, All, nat_le, nat_lt, nat_eq, ◌&&◌}
use Rattle.std.specs.Ordering.{int_eq}
use Rattle.std.proofs.lemmas.Bool.{leb-true, ltb-true, eqb-true}
use Rattle.std.proofs.lemmas.Bool.Decides.{Decides-int_eq}
use Rattle.std.proofs.lemmas.List.{drop_all, length-map}
use Rattle.std.proofs.lemmas.List.Elements.{All-nil, All-get_or, All-push}
use Rattle.risch_frac.specs.Fraction.{Fraction, is_one}
use Rattle.risch_field.specs.Ground.{ground}
use Rattle.risch_polynomial.specs.Poly as poly
use Rattle.risch_level.specs.Levels.{Element, element}
use Rattle.risch_level.specs.Accessors.{as_number}
use Rattle.risch_element_theory.specs.WholeTower.{IsElement, IsPolynomial, Within, AllWithin}
use Rattle.risch_element_theory.proofs.ElementPolynomials.{trimmed-is_polynomial}
use Rattle.risch_expression.proofs.Constants.{constant_short, constant_light}
use Rattle.risch_expression.specs.Evaluation.{constant}
use Rattle.risch_rootsum.specs.declared.integral.LogPart.{LogPart}
use Rattle.risch_expression.specs.Results.{and_next}
use Rattle.risch_text.specs.Certified.{LogLine}
use Rattle.risch_text.specs.Problem.{IsLogForm}
use Rattle.risch_text.specs.Values.{Reading, with_number, with_numbers, has_shape, log_value, with_logs}
use Rattle.risch_text.specs.Programs.{log_program, IsLogProgramOver}
use Rattle.risch_text.specs.Reading.{IsEndOf}
use Rattle.risch_text.specs.declared.fault.Fault.{Fault}
use Rattle.risch_text.specs.declared.fault.Fault.TheVariants.{Syntax, Refused, Stopped, Memory}
use Rattle.risch_text.specs.declared.programs.LogProgram.{LogProgram}
use Rattle.risch_text.proofs.Places.{item_at}

-- ---- fractions
module _ (elements : List Element) (i : ℕ) (numbers : List Fraction) (same : with_numbers numbers (drop i elements) ≡ with_numbers [] elements) where
  next_number : (c : Element) (q : Option Fraction) → i < length elements → c ≡ get_or elements i c → as_number 5 c ≡ q → with_numbers [] elements ≡ with_number (λ more. with_numbers more (drop (suc i) elements)) numbers q
  next_number c q low e is =
      let there : as_number 5 (get_or elements i c) ≡ q = rw e at is in
      sym same ∙ ap (with_numbers numbers) (drop-cons elements i c low) ∙ ap (with_number (λ more. with_numbers more (drop (suc i) elements)) numbers) there

  pub numbers_more : (c : Element) (q : Fraction) (numbers_new : List Fraction) → i < length elements → c ≡ get_or elements i c → as_number 5 c ≡ Some q → numbers_new ≡ numbers ++ q ∷ [] →
      with_numbers numbers_new (drop (i + 1) elements) ≡ with_numbers [] elements
  numbers_more c q numbers_new low e is w = rw (w, add-one) (sym (next_number c (Some q) low e is))

  pub numbers_none : (c : Element) → i < length elements → c ≡ get_or elements i c → as_number 5 c ≡ None → None ≡ with_numbers [] elements
  numbers_none c low e is = sym (next_number c None low e is)

  pub numbers_done : length elements ≤ i → Some numbers ≡ with_numbers [] elements
  numbers_done high = sym (ap (with_numbers numbers) (drop_all i elements high)) ∙ same

-- ---- sums of the right shape
numbers-length : (numbers : List Fraction) (p : List Element) (all : List Fraction) → with_numbers numbers p ≡ Some all → length all ≡ length numbers + length p
numbers-length numbers [] all e = let same : numbers ≡ all = cc in rw (← same) (omega arith)
numbers-length numbers (c ∷ p) all e = by_number (λ more h. numbers-length more p all h) (as_number 5 c) e
  where
    by_number : ((more : List Fraction) → with_numbers more p ≡ Some all → length all ≡ length more + length p) →
        (q : Option Fraction) → with_number (λ more. with_numbers more p) numbers q ≡ Some all → length all ≡ length numbers + suc (length p)
    by_number rest None h = cc
    by_number rest (Some q) h = omega (arith, rest (numbers ++ q ∷ []) h, length-append numbers (q ∷ []))

both-true : (s t : Bool) → (s && t) ≡ true → (s ≡ true) × (t ≡ true)
both-true true t e = (refl, e)
both-true false t e = cc

is_one-true : (q : Fraction) → is_one q ≡ true → q ≡ ground.one
is_one-true q e =
    let tests = both-true (int_eq q.num (pos 1)) (nat_eq q.den 1) e in
    let num : q.num ≡ pos 1 = (Decides-int_eq q.num (pos 1)).0 tests.0 in
    let den : q.den ≡ 1 = eqb-true q.den 1 tests.1 in
    let numbers : (record { num = q.num; den = q.den }) ≡ ground.one = rw (num, den) refl in
    numbers

pub shaped_form : (n : ℕ) (r s : List Element) (numbers : List Fraction) → Some numbers ≡ with_numbers [] r → IsPolynomial r → IsPolynomial s → poly.weight element s ≤ 65536 → has_shape numbers s ≡ true →
    AllWithin n s → IsLogForm n (record { poly = numbers; arg = s })
shaped_form n r s numbers e kept_r kept_s light shape within =
    let tests = both-true (nat_le 3 (length numbers) && is_one (poly.last ground numbers)) (nat_lt (length s) (length numbers)) shape in
    let leading = both-true (nat_le 3 (length numbers)) (is_one (poly.last ground numbers)) tests.0 in
    let long : 3 ≤ length numbers = leb-true 3 (length numbers) leading.0 in
    let smaller : length s < length numbers = ltb-true (length s) (length numbers) tests.1 in
    let same : length numbers ≡ length r = omega (arith, numbers-length [] r numbers (sym e)) in
    record {
      part = record {
        modulus = record { monic = is_one-true (poly.last ground numbers) leading.1; some = omega arith; small = omega (arith, kept_r.degree_small) };
        argument_member = record { degree_small = omega arith; weight_small = light };
        argument_within = within;
      };
      argument_kept = kept_s;
    }

-- ---- constants
pub constant_kept : (u : Element) → IsElement u → IsPolynomial (constant u)
constant_kept u valid = trimmed-is_polynomial (u ∷ []) (constant u) (valid, tt) (constant_short (u ∷ []) u refl) refl

pub constant_weight : (u : Element) → element.weight u ≤ 65536 → poly.weight element (constant u) ≤ 65536
constant_weight u small = by_test (element.is_zero u)
  where
    by_test : (z : Bool) → poly.weight element (if z then [] else u ∷ []) ≤ 65536
    by_test true = omega arith
    by_test false = constant_light (u ∷ []) u refl small

pub constant_within : (n : ℕ) (u : Element) → Within n u → AllWithin n (constant u)
constant_within n u h = by_test (element.is_zero u)
  where
    by_test : (z : Bool) → AllWithin n (if z then [] else u ∷ [])
    by_test true = tt
    by_test false = (h, tt)

-- ---- logarithms
-- Those of the first lines are formed: the rule is the same from here on.
pub record ArePartsSoFar (programs : List LogProgram) (i : ℕ) (parts : List LogPart) : Type 0 where
  pub value : (lines : List LogLine) → programs ≡ map log_program lines → with_logs parts (drop i lines) ≡ with_logs [] lines
  pub form : (n : ℕ) → All (IsLogProgramOver n) programs → All (IsLogForm n) parts
  pub count : length parts ≡ i

pub parts_begin : (programs : List LogProgram) (parts : List LogPart) → parts ≡ [] → ArePartsSoFar programs 0 parts
parts_begin programs parts e = rw e (record { value = λ lines w. refl; form = λ n all. All-nil (IsLogForm n); count = refl })

module _ (programs : List LogProgram) (i : ℕ) (parts : List LogPart) (s : ArePartsSoFar programs i parts) where
  next_part : (program : LogProgram) → i < length programs → program ≡ get_or programs i program → (lines : List LogLine) → programs ≡ map log_program lines →
      (part : Reading LogPart) → ((l : LogLine) → program ≡ log_program l → log_value l ≡ part) → with_logs [] lines ≡ and_next part (λ p. with_logs (parts ++ p ∷ []) (drop (suc i) lines))
  next_part program low e lines w part rule =
      let l = item_at log_program programs lines i program w low e in
      sym (s.value lines w) ∙ ap (with_logs parts) l.here ∙ ap (λ r. and_next r (λ p. with_logs (parts ++ p ∷ []) (drop (suc i) lines))) (rule l.item l.image_is)

  pub parts_more : (program : LogProgram) (part : LogPart) (parts_new : List LogPart) → i < length programs → program ≡ get_or programs i program →
      ((l : LogLine) → program ≡ log_program l → log_value l ≡ Ok part) → ((n : ℕ) → IsLogProgramOver n program → IsLogForm n part) → parts_new ≡ parts ++ part ∷ [] →
      ArePartsSoFar programs (i + 1) parts_new
  parts_more program part parts_new low e rule form w = rw w (record {
    value = λ lines is. rw add-one (sym (next_part program low e lines is (Ok part) rule));
    form = λ n all. All-push (IsLogForm n) parts part (s.form n all) (form n (rw e (All-get_or (IsLogProgramOver n) programs i program low all)));
    count = omega (arith, s.count, length-append parts (part ∷ []));
  })

  pub parts_fault : (program : LogProgram) (fault : Fault) → i < length programs → program ≡ get_or programs i program →
      ((l : LogLine) → program ≡ log_program l → IsEndOf fault (log_value l)) → (lines : List LogLine) → programs ≡ map log_program lines → IsEndOf fault (with_logs [] lines)
  parts_fault program (Syntax f) low e rule lines w = next_part program low e lines w (Err (Syntax f)) rule
  parts_fault program (Refused left cause) low e rule lines w = next_part program low e lines w (Err (Refused left cause)) rule
  parts_fault program (Stopped stop) low e rule lines w = next_part program low e lines w (Err (Stopped stop)) rule
  parts_fault program Memory low e rule lines w = tt

  pub parts_done : length programs ≤ i → (lines : List LogLine) → programs ≡ map log_program lines → with_logs [] lines ≡ Ok parts
  parts_done high lines w =
      let long : length lines ≤ i = omega (arith, ap length w, length-map lines log_program) in
      sym (s.value lines w) ∙ ap (with_logs parts) (drop_all i lines long)
