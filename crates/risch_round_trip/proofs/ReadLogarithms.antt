-- The printed lines of logarithms are read, and what is read has the value that was printed, or a limit is met where it is formed.
use Rattle.std.specs.Prelude.{◌==◌, ◌&&◌, nat_lt, if◌then◌else◌, option_map, codes, All}
use Rattle.std.proofs.Common.{◌≡◌, ℕ, zero, suc, ◌+◌, ◌≤◌, ◌<◌, ℤ, pos, negsuc, neg_ℤ, List, [], ◌∷◌, ◌++◌, length, Bool, true, false, None, Some, Ok, Err, refl, sym, ap, ap₂, subst, ◌∙◌, append_assoc, arith}
use Rattle.std.proofs.lemmas.Bool.{le-leb, lt-ltb, ltb-true, ltb-false}
use Rattle.std.proofs.lemmas.Fmt.{decimal_digit}
use Rattle.std.proofs.lemmas.List.{length-map, length-append, append-nil}
use Rattle.std.specs.List.{range_with_len}
use Rattle.risch_frac.specs.Fraction as fraction
use Rattle.risch_frac.specs.Fraction.{Fraction, IsLowest, negative}
use Rattle.risch_frac.proofs.Lowest.{negative-is_lowest}
use Rattle.risch_field.specs.Ground.{ground}
use Rattle.risch_polynomial_theory.specs.Meaning.{AllValid}
use Rattle.risch_level.specs.Levels.{Element, element}
use Rattle.risch_level.specs.Accessors.{number}
use Rattle.risch_element_theory.specs.WholeTower.{IsElement, IsPolynomial, Within, AllWithin}
use Rattle.risch_element_theory.proofs.ElementLaws.{zero-is_element}
use Rattle.risch_element_theory.proofs.ElementParts.{number-is_element, number-element-within}
use Rattle.risch_rootsum.specs.Algebra.{IsModulus, modulus}
use Rattle.risch_rootsum.specs.declared.integral.LogPart.{LogPart}
use Rattle.risch_rootsum.proofs.AlgebraRules.{modulus-trimmed, modulus-within}
use Rattle.risch_cert.specs.Printing.{print_fraction, print_element, print_below, print_in_z, print_fractions_in_z}
use Rattle.risch_cert.specs.Answers.{line, factor as factor_of, print_argument, print_logarithm, print_root_sum, print_log_part, print_log_parts}
use Rattle.risch_expression.specs.Words.{after_blanks, after_word}
use Rattle.risch_expression.specs.Results.{and_next}
use Rattle.risch_expression.specs.Evaluation.{constant}
use Rattle.risch_expression.specs.Grammar.{Read}
use Rattle.risch_text.specs.Lines.{Front, moved, behind_word, fixed, Reached, reached, to_line_end, sum_of}
use Rattle.risch_text.specs.File.{monomials}
use Rattle.risch_text.specs.Certified.{LogLine, log_line, sum_line, with_z, after_log, after_sum, log_by, next_log, LogLines, with_log, log_lines, log_lines_from}
use Rattle.risch_text.specs.Values.{element_at, factor_value, polynomial_at, logarithm, with_numbers, has_shape, wrong_shape, shaped, root_sum, log_value, with_logs}
use Rattle.risch_round_trip.specs.RoundTrip.{IsPrintable}
use Rattle.risch_round_trip.proofs.Fronts.{Begins, begins-append, of-after_sum}
use Rattle.risch_round_trip.proofs.PrintedTerms.{fraction-printed}
use Rattle.risch_round_trip.proofs.PrintedElements.{element-is_sum, in_z-is_sum}
use Rattle.risch_round_trip.proofs.FurtherLines.{IsFirst}
use Rattle.risch_round_trip.proofs.PrintedLines.{spaced_word-read}
use Rattle.risch_round_trip.proofs.ReadLines.{IsFormed, formed-next, at, fixed-read, last-read, polynomial-read, last_element-read, last_polynomial-read, factor-read}

-- ---- lists
all-first : {X : Type 0} (P : X → Type 0) (x : X) (xs : List X) → All P (x ∷ xs) → P x
all-first P x xs h = h 0 x (omega arith)

all-rest : {X : Type 0} (P : X → Type 0) (x : X) (xs : List X) → All P (x ∷ xs) → All P xs
all-rest P x xs h = λ k d low. h (suc k) d (omega arith)

-- ---- a logarithm C·log U
zero-is_zero : element.is_zero element.zero ≡ true
unfolding element
zero-is_zero = refl

zero-within : (n : ℕ) → Within n element.zero
unfolding element
zero-within n = number-element-within n (record { num = pos 0; den = 1 })

zero-printed : print_element element.zero ≡ codes "0"
unfolding element print_element print_below print_fraction
zero-printed = decimal_digit 0 (omega arith)

-- U, and 0 where there is none
argument_of : List Element → Element
argument_of [] = element.zero
argument_of (u ∷ s) = u

record IsArgument (n : ℕ) (s : List Element) : Type 0 where
  valid : IsElement (argument_of s)
  within : Within n (argument_of s)
  printed : print_argument s ≡ print_element (argument_of s)
  is : constant (argument_of s) ≡ s

argument-is : (n : ℕ) (s : List Element) → IsPolynomial s → AllWithin n s → length s ≤ 1 → IsArgument n s
unfolding argument_of
argument-is n [] kept within short = record {
  valid = zero-is_element;
  within = zero-within n;
  printed = sym zero-printed;
  is = ap (λ (t : Bool). if t then [] else element.zero ∷ []) zero-is_zero;
}
argument-is n (u ∷ []) kept within short = record { valid = kept.all_valid.0; within = within.0; printed = refl; is = kept.ends_not_zero }
argument-is n (u ∷ (w ∷ s)) kept within short = absurd (omega arith)

negative-negative : (q : Fraction) → negative (negative q) ≡ q
negative-negative q = ap (λ (z : ℤ). record { num = z; den = q.den }) (twice q.num)
  where
    twice : (z : ℤ) → neg_ℤ (neg_ℤ z) ≡ z
    twice (pos zero) = refl
    twice (pos (suc n)) = refl
    twice (negsuc n) = refl

-- R is z - C
record IsLinear (r : List Fraction) : Type 0 where
  constant_term : Fraction
  is : r ≡ constant_term ∷ ground.one ∷ []

linear-is : (r : List Fraction) → IsModulus r → length r ≤ 2 → IsLinear r
linear-is [] m short = let some = m.some in absurd (omega arith)
linear-is (c ∷ []) m short = let some = m.some in absurd (omega arith)
linear-is (c ∷ (d ∷ [])) m short = record { constant_term = c; is = ap (λ (e : Fraction). c ∷ e ∷ []) m.monic }
linear-is (c ∷ (d ∷ (e ∷ r))) m short = absurd (omega arith)

-- ---- a sum over roots
numbers-valid : (r : List Fraction) → All IsLowest r → AllValid IsElement (modulus r)
numbers-valid [] h = tt
numbers-valid (q ∷ r) h = (number-is_element q (all-first IsLowest q r h), numbers-valid r (all-rest IsLowest q r h))

modulus-is_polynomial : (r : List Fraction) → IsModulus r → All IsLowest r → IsPolynomial (modulus r)
modulus-is_polynomial r m low = record {
  all_valid = numbers-valid r low;
  ends_not_zero = modulus-trimmed r m;
  degree_small = let small = m.small in omega (arith, small, length-map r (number 5));
}

numbers-read : (before r : List Fraction) → with_numbers before (modulus r) ≡ Some (before ++ r)
numbers-read before [] = ap Some (sym (nothing before))
  where
    nothing : (qs : List Fraction) → qs ++ [] ≡ qs
    nothing [] = refl
    nothing (q ∷ qs) = ap (λ t. q ∷ t) (nothing qs)
numbers-read before (q ∷ r) = numbers-read (before ++ q ∷ []) r ∙ ap Some (append_assoc before (q ∷ []) r)

one-is_one : fraction.is_one ground.one ≡ true
one-is_one = refl

shape-is : (r : List Fraction) (s : List Element) → IsModulus r → 2 < length r → length s < length r → has_shape r s ≡ true
shape-is r s m long lower =
    ap₂ (λ (a b : Bool). (a && b) && nat_lt (length s) (length r)) (le-leb 3 (length r) (omega arith)) (ap fraction.is_one m.monic ∙ one-is_one) ∙ lt-ltb (length s) (length r) lower

sum-shaped : (start : ℕ) (r : List Fraction) (s : List Element) → IsModulus r → 2 < length r → length s < length r → shaped start (with_numbers [] (modulus r)) s ≡ Ok (record { poly = r; arg = s })
sum-shaped start r s m long lower =
    ap (λ found. shaped start found s) (numbers-read [] r)
    ∙ ap (λ (t : Bool). if t then Ok (record { poly = r; arg = s }) else Err (wrong_shape start)) (shape-is r s m long lower)

-- ---- lines
-- A line is read behind its word, and its value is this, or it stops at a limit.
record ReadsLine (rule : Read (Reached LogLine)) (behind : Front) (l : LogPart) : Type 0 where
  value : LogLine
  is : rule ≡ Ok (reached value behind)
  formed : IsFormed l (log_value value)

-- The line of a logarithm stands there.
pub record ReadsLog (n : ℕ) (front behind : Front) (l : LogPart) : Type 0 where
  pub value : LogLine
  pub is : next_log n front ≡ Some (Ok (reached value behind))
  pub formed : IsFormed l (log_value value)

-- over the first n + 1 variables: x and n monomials
module _ (n : ℕ) (low : n ≤ 4) (more : List ℕ) (first : IsFirst more) (front : Front) (l : LogPart) (kept : IsPrintable (n + 1) l) where
  -- ---- log C of U
  logarithm-line : front.rest ≡ print_fraction (factor_of l.poly) ++ (codes " of " ++ (print_argument l.arg ++ (10 ∷ more))) → length l.poly ≤ 2 → ReadsLine (after_log n front) (at (front.line + 1) more) l
  unfolding after_log logarithm
  logarithm-line e short =
      let linear = linear-is l.poly kept.modulus short in
      let c = linear.constant_term in
      let lowest : IsLowest c = first-lowest l.poly c linear.is kept.lowest in
      let lower = kept.argument_lower in
      let a = argument-is (n + 1) l.arg kept.argument_kept kept.argument_within (omega (arith, lower, short)) in
      let u = argument_of l.arg in
      let text = print_element u ++ (10 ∷ more) in
      let there : front.rest ≡ print_fraction (negative c) ++ (32 ∷ (111 ∷ (102 ∷ (32 ∷ text))))
      = e ∙ ap₂ (λ (q : Fraction) (t : List ℕ). print_fraction q ++ (codes " of " ++ (t ++ (10 ∷ more)))) (ap factor_of linear.is) a.printed in
      let f = factor-read front (negative c) (102 ∷ (32 ∷ text)) (negative-is_lowest c lowest) there in
      let b : Begins text = begins-append (print_element u) (10 ∷ more) (element-begins u a.valid a.within) in
      let t = last_element-read (monomials n) low (n + 1) (omega arith) (moved front text) refl u more a.valid a.within refl in
      record {
        value = log_line f.value t.tree;
        is = ap (λ v. and_next v (λ c. and_next (fixed (codes "of") c.front) (λ behind. and_next (sum_of (monomials n) behind) (λ u. to_line_end (log_line c.value u.value) u.front)))) f.is
            ∙ ap (λ v. and_next v (λ behind. and_next (sum_of (monomials n) behind) (λ u. to_line_end (log_line f.value u.value) u.front)))
            (fixed-read (codes "of") (moved front (111 ∷ (102 ∷ (32 ∷ text)))) (111 ∷ (102 ∷ (32 ∷ text))) text refl (spaced_word-read (codes "of") text b))
            ∙ last-read element_at u (sum_of (monomials n) (moved front text)) (moved front text) more (log_line f.value) first t;
        formed = formed-next (negative c) l (factor_value f.value) _ f.formed (formed-next u l (element_at 0 t.tree) _ (t.formed 0) (same-part c linear.is a.is));
      }
    where
      first-lowest : (r : List Fraction) (c : Fraction) → r ≡ c ∷ ground.one ∷ [] → All IsLowest r → IsLowest c
      first-lowest r c e h = all-first IsLowest c (ground.one ∷ []) (subst (All IsLowest) e h)

      element-begins : (u : Element) → IsElement u → Within (n + 1) u → Begins (print_element u)
      element-begins u v w = (element-is_sum (monomials n) (n + 1) (omega arith) (omega arith) u v w 64 (omega arith)).begins

      same-part : (c : Fraction) → l.poly ≡ c ∷ ground.one ∷ [] → constant (argument_of l.arg) ≡ l.arg →
          ◌≡◌ {A = LogPart} (record { poly = negative (negative c) ∷ ground.one ∷ []; arg = constant (argument_of l.arg) }) l
      same-part c e f = ap₂ (λ (r : List Fraction) (s : List Element). record { poly = r; arg = s }) (ap (λ (q : Fraction). q ∷ ground.one ∷ []) (negative-negative c) ∙ sym e) f

  -- ---- sum R of S
  sum-line : front.rest ≡ print_fractions_in_z l.poly ++ (codes " of " ++ (print_in_z l.arg ++ (10 ∷ more))) → 2 < length l.poly → ReadsLine (after_sum n front) (at (front.line + 1) more) l
  unfolding after_sum print_fractions_in_z root_sum after_blanks
  sum-line e long =
      let text = print_in_z l.arg ++ (10 ∷ more) in
      let names = with_z n in
      let r = polynomial-read names low (n + 1) (omega arith) front refl (modulus l.poly) (32 ∷ (111 ∷ (102 ∷ (32 ∷ text)))) (modulus-is_polynomial l.poly kept.modulus kept.lowest)
      (modulus-within (n + 1) l.poly) (of-after_sum (102 ∷ (32 ∷ text))) e in
      let b : Begins text = begins-append (print_in_z l.arg) (10 ∷ more) (in_z-is_sum names refl (n + 1) (omega arith) (omega arith) l.arg kept.argument_kept kept.argument_within 63 (omega arith)).begins in
      let s = last_polynomial-read names low (n + 1) (omega arith) (moved front text) refl l.arg more kept.argument_kept kept.argument_within refl in
      record {
        value = sum_line r.tree s.tree front.start;
        is = ap (λ v. and_next v (λ r. and_next (fixed (codes "of") r.front) (λ behind. and_next (sum_of (with_z n) behind) (λ s. to_line_end (sum_line r.value s.value front.start) s.front)))) r.is
            ∙ ap (λ v. and_next v (λ behind. and_next (sum_of (with_z n) behind) (λ s. to_line_end (sum_line r.tree s.value front.start) s.front)))
            (fixed-read (codes "of") (moved front (111 ∷ (102 ∷ (32 ∷ text)))) (111 ∷ (102 ∷ (32 ∷ text))) text refl (spaced_word-read (codes "of") text b))
            ∙ last-read polynomial_at l.arg (sum_of (with_z n) (moved front text)) (moved front text) more (λ t. sum_line r.tree t front.start) first s;
        formed = formed-next (modulus l.poly) l (polynomial_at front.start r.tree) _ (r.formed front.start) (formed-next l.arg l (polynomial_at front.start s.tree) _ (s.formed front.start)
            (subst (IsFormed l) (sym (sum-shaped front.start l.poly l.arg kept.modulus long kept.argument_lower)) refl));
      }

-- ---- one line
-- a line with two parts, and what follows it
two-parts : (word a b more : List ℕ) → line (word ++ (a ++ (codes " of " ++ b))) ++ more ≡ word ++ (a ++ (codes " of " ++ (b ++ (10 ∷ more))))
two-parts word a b more = simp append_assoc

module _ (n : ℕ) (low : n ≤ 4) (more : List ℕ) (first : IsFirst more) (front : Front) (l : LogPart) (kept : IsPrintable (n + 1) l) where
  -- a printed fraction begins with a digit or a sign
  fraction-begins : (q : Fraction) → IsLowest q → Begins (print_fraction q)
  fraction-begins q lowest = (fraction-printed (monomials n) 64 q lowest).is_sum.begins

  logarithm-read : front.rest ≡ print_logarithm l ++ more → length l.poly ≤ 2 → ReadsLog n front (at (front.line + 1) more) l
  unfolding print_logarithm next_log behind_word
  logarithm-read e short =
      let text = print_fraction (factor_of l.poly) ++ (codes " of " ++ (print_argument l.arg ++ (10 ∷ more))) in
      let linear = linear-is l.poly kept.modulus short in
      let lowest = all-first IsLowest linear.constant_term (ground.one ∷ []) (subst (All IsLowest) linear.is kept.lowest) in
      let b : Begins text = begins-append (print_fraction (factor_of l.poly)) (codes " of " ++ (print_argument l.arg ++ (10 ∷ more)))
      (subst (λ (r : List Fraction). Begins (print_fraction (factor_of r))) (sym linear.is) (fraction-begins (negative linear.constant_term) (negative-is_lowest linear.constant_term lowest))) in
      let there : front.rest ≡ codes "log" ++ (32 ∷ text) = e ∙ two-parts (codes "log ") (print_fraction (factor_of l.poly)) (print_argument l.arg) more in
      let r = logarithm-line n low more first (moved front text) l kept refl short in
      record {
        value = r.value;
        is = ap (λ bytes. log_by n (option_map (moved front) (after_word (codes "log") bytes)) (option_map (moved front) (after_word (codes "sum") front.rest))) there
            ∙ ap (λ found. log_by n (option_map (moved front) found) (option_map (moved front) (after_word (codes "sum") front.rest))) (spaced_word-read (codes "log") text b)
            ∙ ap Some r.is;
        formed = r.formed;
      }

  root_sum-read : front.rest ≡ print_root_sum l ++ more → 2 < length l.poly → ReadsLog n front (at (front.line + 1) more) l
  unfolding print_root_sum next_log behind_word after_word print_fractions_in_z
  root_sum-read e long =
      let text = print_fractions_in_z l.poly ++ (codes " of " ++ (print_in_z l.arg ++ (10 ∷ more))) in
      let b : Begins text = begins-append (print_fractions_in_z l.poly) (codes " of " ++ (print_in_z l.arg ++ (10 ∷ more)))
      (in_z-is_sum (with_z n) refl (n + 1) (omega arith) (omega arith) (modulus l.poly) (modulus-is_polynomial l.poly kept.modulus kept.lowest) (modulus-within (n + 1) l.poly) 63 (omega arith)).begins in
      let there : front.rest ≡ codes "sum" ++ (32 ∷ text) = e ∙ two-parts (codes "sum ") (print_fractions_in_z l.poly) (print_in_z l.arg) more in
      let r = sum-line n low more first (moved front text) l kept refl long in
      record {
        value = r.value;
        is = ap (λ bytes. log_by n (option_map (moved front) (after_word (codes "log") bytes)) (option_map (moved front) (after_word (codes "sum") bytes))) there
            ∙ ap (λ found. log_by n None (option_map (moved front) found)) (spaced_word-read (codes "sum") text b)
            ∙ ap Some r.is;
        formed = r.formed;
      }

  pub log_part-read : front.rest ≡ print_log_part l ++ more → ReadsLog n front (at (front.line + 1) more) l
  unfolding print_log_part
  log_part-read e = by_test (nat_lt 2 (length l.poly)) refl e
    where
      by_test : (t : Bool) → nat_lt 2 (length l.poly) ≡ t → front.rest ≡ (if t then print_root_sum l else print_logarithm l) ++ more → ReadsLog n front (at (front.line + 1) more) l
      by_test true h e = root_sum-read e (ltb-true 2 (length l.poly) h)
      by_test false h e = logarithm-read e (ltb-false 2 (length l.poly) h)

-- ---- all lines
-- a printed logarithm begins with a letter
record StartsLine (text : List ℕ) : Type 0 where
  first : (more : List ℕ) → IsFirst (text ++ more)
  long : (more : List ℕ) → suc (length more) ≤ length (text ++ more)

log_part-starts : (l : LogPart) → StartsLine (print_log_part l)
unfolding print_log_part print_root_sum print_logarithm
log_part-starts l = by_test (nat_lt 2 (length l.poly))
  where
    starts : (b : ℕ) (text : List ℕ) → 33 ≤ b → (b == 35) ≡ false → StartsLine (b ∷ text)
    starts b text dark other = record { first = λ more. (dark, other); long = λ more. (let sum = length-append text more in omega (arith, sum)) }

    by_test : (t : Bool) → StartsLine (if t then print_root_sum l else print_logarithm l)
    by_test true = starts 115 _ (omega arith) refl
    by_test false = starts 108 _ (omega arith) refl

pub log_parts-first : (ls : List LogPart) (more : List ℕ) → IsFirst more → IsFirst (print_log_parts ls ++ more)
log_parts-first [] more first = first
log_parts-first (l ∷ ls) more first = subst IsFirst (sym (append_assoc (print_log_part l) (print_log_parts ls) more)) ((log_part-starts l).first (print_log_parts ls ++ more))

pub log_parts-long : (ls : List LogPart) (more : List ℕ) → length ls ≤ length (print_log_parts ls ++ more)
log_parts-long [] more = omega arith
log_parts-long (l ∷ ls) more =
    let rest = log_parts-long ls more in
    let one = (log_part-starts l).long (print_log_parts ls ++ more) in
    let same = ap length (append_assoc (print_log_part l) (print_log_parts ls) more) in
    omega (arith, rest, one, same)

-- The lines of logarithms are read, so many at most, and what follows them is no logarithm.
pub record ReadsLogs (n line most : ℕ) (rest : List ℕ) (logs : List LogPart) : Type 0 where
  pub values : List LogLine
  pub is : (so_far : LogLines) → log_lines n most so_far (at line (print_log_parts logs ++ rest))
      ≡ Ok (reached (record { logs = so_far.logs ++ values; lines = so_far.lines ++ range_with_len line (length logs) }) (at (line + length logs) rest))
  pub formed : (parts : List LogPart) → IsFormed (parts ++ logs) (with_logs parts values)

module _ (n : ℕ) (low : n ≤ 4) (rest : List ℕ) (first : IsFirst rest) (no_log : (line : ℕ) → next_log n (at line rest) ≡ None) where
  pub logs-read : (logs : List LogPart) (line most : ℕ) → All (IsPrintable (n + 1)) logs → length logs ≤ most → ReadsLogs n line most rest logs
  logs-read [] line most kept many = record {
    values = [];
    is = λ so_far. no_more most so_far;
    formed = λ parts. sym (append-nil parts);
  }
    where
      no_more_lines : (m : ℕ) → m + 0 ≡ m
      no_more_lines m = omega arith

      nothing_read : (so_far : LogLines) → ◌≡◌ {A = Read (Reached LogLines)} (Ok (reached so_far (at line rest)))
          (Ok (reached (record { logs = so_far.logs ++ []; lines = so_far.lines ++ [] }) (at (line + 0) rest)))
      nothing_read so_far =
          ap (λ t. Ok (reached t (at line rest))) (ap₂ (λ (a : List LogLine) (b : List ℕ). record { logs = a; lines = b }) (sym (append-nil so_far.logs)) (sym (append-nil so_far.lines)))
          ∙ ap (λ (m : ℕ). Ok (reached (record { logs = so_far.logs ++ []; lines = so_far.lines ++ [] }) (at m rest))) (sym (no_more_lines line))

      no_more : (most : ℕ) (so_far : LogLines) → log_lines n most so_far (at line rest) ≡ Ok (reached (record { logs = so_far.logs ++ []; lines = so_far.lines ++ [] }) (at (line + 0) rest))
      no_more zero so_far = nothing_read so_far
      no_more (suc most) so_far = ap (log_lines_from (log_lines n most) so_far (at line rest)) (no_log line) ∙ nothing_read so_far
  logs-read (l ∷ ls) line zero kept many = absurd (omega arith)
  logs-read (l ∷ ls) line (suc most) kept many =
      let behind = print_log_parts ls ++ rest in
      let r = log_part-read n low behind (log_parts-first ls rest first) (at line (print_log_part l ++ behind)) l (all-first (IsPrintable (n + 1)) l ls kept) refl in
      let more = logs-read ls (line + 1) most (all-rest (IsPrintable (n + 1)) l ls kept) (omega arith) in
      record {
        values = r.value ∷ more.values;
        is = λ so_far.
            ap (λ bytes. log_lines n (suc most) so_far (at line bytes)) (append_assoc (print_log_part l) (print_log_parts ls) rest)
            ∙ ap (log_lines_from (log_lines n most) so_far (at line (print_log_part l ++ behind))) r.is
            ∙ more.is (with_log so_far line r.value)
            ∙ all_read so_far r.value more.values;
        formed = λ parts. formed-next l (parts ++ l ∷ ls) (log_value r.value) (λ part. with_logs (parts ++ part ∷ []) more.values) r.formed
            (subst (λ (t : List LogPart). IsFormed t (with_logs (parts ++ l ∷ []) more.values)) (append_assoc parts (l ∷ []) ls) (more.formed (parts ++ l ∷ [])));
      }
    where
      one_more : (k m : ℕ) → k + 1 + m ≡ k + suc m
      one_more k m = omega arith

      all_read : (so_far : LogLines) (value : LogLine) (values : List LogLine) → ◌≡◌ {A = Read (Reached LogLines)}
          (Ok (reached (record { logs = (so_far.logs ++ value ∷ []) ++ values; lines = (so_far.lines ++ line ∷ []) ++ range_with_len (line + 1) (length ls) }) (at (line + 1 + length ls) rest)))
          (Ok (reached (record { logs = so_far.logs ++ (value ∷ values); lines = so_far.lines ++ (line ∷ range_with_len (line + 1) (length ls)) }) (at (line + suc (length ls)) rest)))
      all_read so_far value values =
          ap (λ t. Ok (reached t (at (line + 1 + length ls) rest)))
          (ap₂ (λ (a : List LogLine) (b : List ℕ). record { logs = a; lines = b }) (append_assoc so_far.logs (value ∷ []) values) (append_assoc so_far.lines (line ∷ []) (range_with_len (line + 1) (length ls))))
          ∙ ap (λ (m : ℕ). Ok (reached (record { logs = so_far.logs ++ (value ∷ values); lines = so_far.lines ++ (line ∷ range_with_len (line + 1) (length ls)) }) (at m rest))) (one_more line (length ls))
