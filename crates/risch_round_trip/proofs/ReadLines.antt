-- Printed lines are read: fixed words, ends of lines, expressions to the end of a line, and factors. What is read has the value that was printed, or a limit is met where it is formed.
use Rattle.std.specs.Prelude.{◌==◌, ◌^◌, if◌then◌else◌, option_map, codes, decimal}
use Rattle.std.specs.Fmt.{signed_decimal}
use Rattle.std.proofs.Common.{◌≡◌, ◌≢◌, ℕ, suc, ◌+◌, ◌≤◌, ◌<◌, ℤ, pos, negsuc, ◌*ℤ◌, unsigned_abs, List, [], ◌∷◌, ◌++◌, length, Bool, true, false, None, Some, Ok, Err, refl, sym, ap, subst, ◌∙◌, append_assoc, arith, eqb-true}
use Rattle.std.proofs.lemmas.Bool.Decides.{Decides-int_eq}
use Rattle.risch_frac.specs.Fraction as fraction
use Rattle.risch_frac.specs.Fraction.{Fraction, IsLowest, whole, negative, ratio}
use Rattle.risch_frac.proofs.Lowest.{lowest_unique, negative-is_lowest}
use Rattle.risch_frac.proofs.Rules.{ratio-is_lowest, ratio-value}
use Rattle.risch_frac.proofs.Units.{whole-is_lowest}
use Rattle.risch_ring.specs.Integers as Integers
use Rattle.risch_ring.proofs.Expression.{reading_ints}
use Rattle.risch_ring.proofs.Solver.{ring}
use Rattle.risch_level.specs.Levels.{Element}
use Rattle.risch_element_theory.specs.WholeTower.{IsElement, IsPolynomial, Within, AllWithin}
use Rattle.risch_cert.specs.Printing.{print_fraction, print_element, print_in_z}
use Rattle.risch_expression.specs.Words.{after_blanks, after_byte, after_word}
use Rattle.risch_expression.specs.Fault.{most_number}
use Rattle.risch_expression.specs.Results.{and_next, map_value}
use Rattle.risch_expression.specs.Tree.{Tree}
use Rattle.risch_expression.specs.Grammar.{Read, parsed, expression, wanted_number}
use Rattle.risch_expression.specs.Evaluation.{Valued, evaluate, element_value}
use Rattle.risch_expression.specs.declared.fault.Cause.TheVariants.{Wide}
use Rattle.risch_expression.specs.declared.fault.ValueFault.TheVariants.{DivisionByZero, Shape, Overflow, Size, Memory}
use Rattle.risch_expression.specs.declared.names.Names.{Names}
use Rattle.risch_text.specs.Lines.{Front, moved, from_line, behind_word, behind_byte, wanted, fixed, line_end, Reached, reached, to_line_end, number_of, sum_of, bare_line}
use Rattle.risch_text.specs.Certified.{negated, signed_by, signed_number, over, divided_by, factor}
use Rattle.risch_text.specs.Values.{Reading, fault_of_value, map_fault, element_at, overflow, quotient_by, factor_value, polynomial_at}
use Rattle.risch_text.specs.ReadCertified.{certified_answer}
use Rattle.risch_text.specs.declared.certified.ReadCertified.{ReadCertified}
use Rattle.risch_text.specs.declared.certified.ReadCertified.TheVariants as answer
use Rattle.risch_round_trip.specs.RoundTrip.{IsLimit}
use Rattle.risch_round_trip.proofs.Fronts.{after_blanks-kept, Begins, begins-append, after_byte-found, AfterAtom, AfterSum, line-after_sum, decimal-begins}
use Rattle.risch_round_trip.proofs.WrittenTexts.{no_minus, decimal-unsigned}
use Rattle.risch_round_trip.proofs.ReadElements.{IsFormedOrStopped, printed_expression_is_read, printed_expression_in_z_is_read}
use Rattle.risch_round_trip.proofs.FurtherLines.{IsFirst, first-kept}
use Rattle.risch_round_trip.proofs.PrintedLines.{word-read, wanted-read}

-- ---- values
-- the reading ends at a limit
abbrev pub EndsAtLimit : ReadCertified → Type 0
EndsAtLimit (answer.Certified it) = ⊥
EndsAtLimit answer.NotYet = ⊥
EndsAtLimit (answer.Syntax at cause) = ⊥
EndsAtLimit (answer.Refused at cause) = ⊥
EndsAtLimit (answer.Stopped stop) = IsLimit stop
EndsAtLimit answer.Memory = ⊥

-- the value is this, or it ends at a limit
abbrev pub IsFormed : {A : Type 0} → A → Reading A → Type 0
IsFormed a (Ok b) = b ≡ a
IsFormed a (Err end) = (size : ℕ) → EndsAtLimit (certified_answer size (Err end))

pub formed-next : {A B : Type 0} (a : A) (b : B) (value : Reading A) (next : A → Reading B) → IsFormed a value → IsFormed b (next a) → IsFormed b (and_next value next)
formed-next a b (Ok c) next f g = subst (λ x. IsFormed b (next x)) (sym f) g
formed-next a b (Err end) next f g = f

pub formed-map : {A B : Type 0} (a : A) (f : A → B) (value : Reading A) → IsFormed a value → IsFormed (f a) (map_value f value)
formed-map a f (Ok c) h = ap f h
formed-map a f (Err end) h = h

value-formed : {A : Type 0} (start : ℕ) (value : Valued A) (a : A) → ((b : A) → value ≡ Ok b → b ≡ a) → IsFormedOrStopped value → IsFormed a (map_fault (fault_of_value start) value)
value-formed start (Ok b) a only stops = only b refl
value-formed start (Err (DivisionByZero left)) a only stops = λ size. stops
value-formed start (Err Shape) a only stops = λ size. stops
value-formed start (Err (Overflow op)) a only stops = λ size. tt
value-formed start (Err Size) a only stops = λ size. tt
value-formed start (Err Memory) a only stops = λ size. stops

-- ---- fronts
-- at the first byte of a line
abbrev pub at : ℕ → List ℕ → Front
at line bytes = record { rest = bytes; line = line; start = length bytes }

-- the line ends, and the next one is at hand
pub end-read : (front : Front) (more : List ℕ) → IsFirst more → line_end (moved front (10 ∷ more)) ≡ Ok (at (front.line + 1) more)
unfolding line_end from_line
end-read front more first = ap Ok (first-kept (front.line + 1) (length more) more first)

pub fixed-read : (word : List ℕ) (front : Front) (rest behind : List ℕ) → front.rest ≡ rest → after_word word rest ≡ Some behind → fixed word front ≡ Ok (moved front behind)
unfolding fixed behind_word
fixed-read word front rest behind e h = ap (λ b. wanted front (option_map (moved front) (after_word word b))) e ∙ ap (λ f. wanted front (option_map (moved front) f)) h

pub bare-read : (word : List ℕ) (front : Front) (more : List ℕ) → IsFirst more → front.rest ≡ word ++ (10 ∷ more) → bare_line word front ≡ Ok (at (front.line + 1) more)
unfolding bare_line after_blanks
bare-read word front more first e =
    ap (λ v. and_next v line_end) (fixed-read word front (word ++ (10 ∷ more)) (10 ∷ more) e (word-read word (10 ∷ more) refl)) ∙ end-read front more first

-- ---- expressions
-- A tree is read, and the value of the tree is this, or it stops at a limit.
pub record ReadsTree {V : Type 0} (value : ℕ → Tree → Reading V) (v : V) (rule : Read (Reached Tree)) (behind : Front) : Type 0 where
  pub tree : Tree
  pub is : rule ≡ Ok (reached tree behind)
  pub formed : (start : ℕ) → IsFormed v (value start tree)

sum-read : (names : Names) (front : Front) (bytes behind : List ℕ) (tree : Tree) → front.rest ≡ bytes → expression names bytes ≡ parsed tree behind → sum_of names front ≡ Ok (reached tree (moved front behind))
unfolding sum_of
sum-read names front bytes behind tree e h =
    ap (λ b. and_next (expression names b) (λ p. Ok (reached p.tree (moved front p.rest)))) e ∙ ap (λ v. and_next v (λ p. Ok (reached p.tree (moved front p.rest)))) h

-- the tree, in what is read to the end of the line
pub last-read : {V A : Type 0} (value : ℕ → Tree → Reading V) (v : V) (rule : Read (Reached Tree)) (front : Front) (more : List ℕ) (f : Tree → A) → IsFirst more →
    (r : ReadsTree value v rule (moved front (10 ∷ more))) → and_next rule (λ s. to_line_end (f s.value) s.front) ≡ Ok (reached (f r.tree) (at (front.line + 1) more))
last-read value v rule front more f first r =
    ap (λ t. and_next t (λ s. to_line_end (f s.value) s.front)) r.is ∙ ap (λ t. and_next t (λ next. Ok (reached (f r.tree) next))) (end-read front more first)

module _ (names : Names) (low : names.monomials ≤ 4) (n : ℕ) (known : n ≤ suc names.monomials) (front : Front) where
  pub element-read : names.with_z ≡ false → (e : Element) (rest : List ℕ) → IsElement e → Within n e → AfterSum rest → front.rest ≡ print_element e ++ rest →
      ReadsTree element_at e (sum_of names front) (moved front (after_blanks rest))
  unfolding element_at
  element-read no_z e rest v w after is =
      let r = printed_expression_is_read names no_z low n known e v w rest after in
      record {
        tree = r.tree;
        is = sum-read names front (print_element e ++ rest) (after_blanks rest) r.tree is r.is;
        formed = λ start. value-formed start (element_value r.tree) e (λ f h. r.only f h) r.stops;
      }

  pub polynomial-read : names.with_z ≡ true → (p : List Element) (rest : List ℕ) → IsPolynomial p → AllWithin n p → AfterSum rest → front.rest ≡ print_in_z p ++ rest →
      ReadsTree polynomial_at p (sum_of names front) (moved front (after_blanks rest))
  unfolding polynomial_at
  polynomial-read some_z p rest kept within after is =
      let r = printed_expression_in_z_is_read names some_z low n known p kept within rest after in
      record {
        tree = r.tree;
        is = sum-read names front (print_in_z p ++ rest) (after_blanks rest) r.tree is r.is;
        formed = λ start. value-formed start (evaluate r.tree) p (λ f h. r.only f h) r.stops;
      }

  -- the same at the end of a line
  ten-kept : (more : List ℕ) → after_blanks (10 ∷ more) ≡ 10 ∷ more
  unfolding after_blanks
  ten-kept more = refl

  pub last_element-read : names.with_z ≡ false → (e : Element) (more : List ℕ) → IsElement e → Within n e → front.rest ≡ print_element e ++ (10 ∷ more) →
      ReadsTree element_at e (sum_of names front) (moved front (10 ∷ more))
  last_element-read no_z e more v w is =
      subst (λ b. ReadsTree element_at e (sum_of names front) (moved front b)) (ten-kept more) (element-read no_z e (10 ∷ more) v w (line-after_sum more) is)

  pub last_polynomial-read : names.with_z ≡ true → (p : List Element) (more : List ℕ) → IsPolynomial p → AllWithin n p → front.rest ≡ print_in_z p ++ (10 ∷ more) →
      ReadsTree polynomial_at p (sum_of names front) (moved front (10 ∷ more))
  last_polynomial-read some_z p more kept within is =
      subst (λ b. ReadsTree polynomial_at p (sum_of names front) (moved front b)) (ten-kept more) (polynomial-read some_z p (10 ∷ more) kept within (line-after_sum more) is)

-- ---- factors
number-read : (front : Front) (n : ℕ) (rest : List ℕ) → n < 2 ^ 127 → AfterAtom rest → front.rest ≡ decimal n ++ rest → number_of front ≡ Ok (reached (whole n) (moved front (after_blanks rest)))
unfolding number_of
number-read front n rest small after e =
    ap (λ b. map_value (λ m. reached (whole m.value) (moved front m.rest)) (wanted_number 64 most_number Wide b)) e
    ∙ ap (map_value (λ m. reached (whole m.value) (moved front m.rest))) (wanted-read 64 most_number Wide n rest small (omega arith) after)

-- the number z/1
abbrev integer : ℤ → Fraction
integer z = record { num = z; den = 1 }

signed-read : (front : Front) (z : ℤ) (rest : List ℕ) → unsigned_abs z < 2 ^ 127 → AfterAtom rest → front.rest ≡ signed_decimal z ++ rest → signed_number front ≡ Ok (reached (integer z) (moved front (after_blanks rest)))
unfolding signed_number behind_byte
signed-read front (pos n) rest small after e =
    ap (λ b. signed_by front (option_map (moved front) (after_byte 45 b))) e ∙ ap (λ f. signed_by front (option_map (moved front) f)) (no_minus (decimal n) rest (decimal-unsigned n (omega arith)))
    ∙ number-read front n rest small after e
signed-read front (negsuc n) rest small after e =
    let text = decimal (suc n) ++ rest in
    ap (λ b. signed_by front (option_map (moved front) (after_byte 45 b))) e
    ∙ ap (λ f. signed_by front (option_map (moved front) f)) (after_byte-found 45 text (begins-append (decimal (suc n)) rest (decimal-begins (suc n) (omega arith))))
    ∙ ap (map_value negated) (number-read (moved front text) (suc n) rest small after refl)

integer-is_lowest : (z : ℤ) → unsigned_abs z < 2 ^ 127 → IsLowest (integer z)
integer-is_lowest (pos n) small = whole-is_lowest n small
integer-is_lowest (negsuc n) small = negative-is_lowest (whole (suc n)) (whole-is_lowest (suc n) small)

-- p/q in lowest terms is formed from p and q
fraction-formed : (q : Fraction) → IsLowest q → IsFormed q (map_fault overflow (ratio (integer q.num) (whole q.den)))
fraction-formed q low = by_value (ratio (integer q.num) (whole q.den)) refl
  where
    times-one : (a b : ℤ) → (a *ℤ (pos 1 *ℤ b)) ≡ a *ℤ b
    times-one a b = ring Integers.ints (a ∷ (b ∷ [])) (search reading_ints depth 12 fits 2000) refl

    one-times : (a b : ℤ) → (a *ℤ pos 1) *ℤ b ≡ a *ℤ b
    one-times a b = ring Integers.ints (a ∷ (b ∷ [])) (search reading_ints depth 12 fits 2000) refl

    some : pos q.den ≢ pos 0
    some h = let positive = low.positive in let none : q.den ≡ 0 = cc in omega (arith, none, positive)

    by_value : (value : fraction.Checked Fraction) → ratio (integer q.num) (whole q.den) ≡ value → IsFormed q (map_fault overflow value)
    by_value (Err op) e = λ size. tt
    by_value (Ok r) e =
        let top = integer-is_lowest q.num low.num_fits in
        let bottom = whole-is_lowest q.den low.den_fits in
        lowest_unique r q (ratio-is_lowest (integer q.num) (whole q.den) r top bottom some e) low
        (sym (times-one r.num (pos q.den)) ∙ ratio-value (integer q.num) (whole q.den) r top bottom some e ∙ one-times q.num (pos r.den))

-- A factor is read, and its value is this, or it stops at a limit.
pub record ReadsFactor {F : Type 0} (value_of : F → Reading Fraction) (rule : Read (Reached F)) (behind : Front) (q : Fraction) : Type 0 where
  pub value : F
  pub is : rule ≡ Ok (reached value behind)
  pub formed : IsFormed q (value_of value)

-- a fraction is printed before ` of `
pub factor-read : (front : Front) (q : Fraction) (more : List ℕ) → IsLowest q → front.rest ≡ print_fraction q ++ (32 ∷ (111 ∷ more)) → ReadsFactor factor_value (factor front) (moved front (111 ∷ more)) q
unfolding print_fraction factor behind_byte after_byte after_blanks factor_value
factor-read front q more low e = by_test (q.den == 1) refl e
  where
    whole-factor : (q.den == 1) ≡ true → front.rest ≡ signed_decimal q.num ++ (32 ∷ (111 ∷ more)) → ReadsFactor factor_value (factor front) (moved front (111 ∷ more)) q
    whole-factor one e = record {
      value = record { top = integer q.num; bottom = None };
      is = ap (λ v. and_next v (λ top. divided_by top (behind_byte 47 top.front))) (signed-read front q.num (32 ∷ (111 ∷ more)) low.num_fits refl e);
      formed = ap (λ (d : ℕ). record { num = q.num; den = d }) (sym (eqb-true q.den 1 one));
    }

    found-over : (text : List ℕ) → Begins text → after_byte 47 (47 ∷ text) ≡ Some text
    found-over text b = after_byte-found 47 text b

    quotient-formed : (left : ℕ) → IsFormed q (quotient_by (integer q.num) (Some (record { number = whole q.den; left = left })))
    quotient-formed left = by_zero (fraction.is_zero (whole q.den)) _ (some (fraction.is_zero (whole q.den)) refl)
      where
        some : (t : Bool) → fraction.is_zero (whole q.den) ≡ t → t ≡ false
        some true h =
            let same : pos q.den ≡ pos 0 = (Decides-int_eq (pos q.den) (pos 0)).0 h in
            let positive = low.positive in
            let none : q.den ≡ 0 = cc in
            absurd (omega (arith, none, positive))
        some false h = refl

        by_zero : (t : Bool) (refused : Reading Fraction) → t ≡ false → IsFormed q (if t then refused else map_fault overflow (ratio (integer q.num) (whole q.den)))
        by_zero true refused h = absurd (cc)
        by_zero false refused h = fraction-formed q low

    quotient-factor : front.rest ≡ (signed_decimal q.num ++ (47 ∷ decimal q.den)) ++ (32 ∷ (111 ∷ more)) → ReadsFactor factor_value (factor front) (moved front (111 ∷ more)) q
    quotient-factor e =
        let text = decimal q.den ++ (32 ∷ (111 ∷ more)) in
        let b = begins-append (decimal q.den) (32 ∷ (111 ∷ more)) (decimal-begins q.den (let fits = low.den_fits in omega (arith, fits))) in
        let kept : after_blanks (47 ∷ text) ≡ 47 ∷ text = after_blanks-kept 47 text (omega arith) in
        record {
          value = record { top = integer q.num; bottom = Some (record { number = whole q.den; left = length (47 ∷ text) }) };
          is = ap (λ v. and_next v (λ top. divided_by top (behind_byte 47 top.front)))
              (signed-read front q.num (47 ∷ text) low.num_fits refl (e ∙ append_assoc (signed_decimal q.num) (47 ∷ decimal q.den) (32 ∷ (111 ∷ more))))
              ∙ ap (λ (bytes : List ℕ). divided_by (reached (integer q.num) (moved front bytes)) (option_map (moved front) (after_byte 47 bytes))) kept
              ∙ ap (λ f. divided_by (reached (integer q.num) (moved front (47 ∷ text))) (option_map (moved front) f)) (found-over text b)
              ∙ ap (map_value (over (integer q.num) (length (47 ∷ text)))) (number-read (moved front text) q.den (32 ∷ (111 ∷ more)) low.den_fits refl refl);
          formed = quotient-formed (length (47 ∷ text));
        }

    by_test : (t : Bool) → (q.den == 1) ≡ t → front.rest ≡ (if t then signed_decimal q.num else signed_decimal q.num ++ (codes "/" ++ decimal q.den)) ++ (32 ∷ (111 ∷ more)) →
        ReadsFactor factor_value (factor front) (moved front (111 ∷ more)) q
    by_test true one e = whole-factor one e
    by_test false one e = quotient-factor e
