-- The printed end of a refutation is read: a variable, a power and a trace. The value of the trace is the one that was printed, or a limit is met where it is formed.
use Rattle.std.specs.Prelude.{◌==◌, option_map, codes, decimal, if◌then◌else◌}
use Rattle.std.specs.Option.{option_map_or}
use Rattle.std.proofs.Common.{◌≡◌, ℕ, ◌+◌, ◌≤◌, List, [], ◌∷◌, ◌++◌, Bool, true, false, None, Some, Ok, Err, refl, sym, ap, ◌∙◌, arith, eqb-true}
use Rattle.std.proofs.lemmas.Bool.{eqb-false}
use Rattle.std.proofs.lemmas.Fmt.{decimal_digit}
use Rattle.risch_level.specs.Levels.{Element}
use Rattle.risch_element_theory.specs.WholeTower.{IsElement, Within}
use Rattle.risch_cert.specs.Printing.{variable_name, print_element}
use Rattle.risch_expression.specs.Words.{after_blanks, after_word, is_digit, name}
use Rattle.risch_expression.specs.Fault.{fault_at, unexpected}
use Rattle.risch_expression.specs.Results.{and_next, map_value}
use Rattle.risch_expression.specs.Tree.{Tree}
use Rattle.risch_expression.specs.Grammar.{wanted_number}
use Rattle.risch_expression.specs.declared.fault.Cause.TheVariants.{Wide, Name as UnknownName}
use Rattle.risch_text.specs.Lines.{Front, moved, behind_word, unexpected_at, fixed, reached, to_line_end, small_number_of, known_variable, wanted_variable, variable_of, sum_of, expression_line}
use Rattle.risch_text.specs.File.{monomials}
use Rattle.risch_text.specs.Certified.{end_power, residue_end, not_yet, some_end, end_kind, end_line}
use Rattle.risch_text.specs.Values.{element_at}
use Rattle.risch_round_trip.proofs.Fronts.{Begins, begins-append, begins-kept, AfterAtom, decimal-begins, digit-is, name-one, name-two}
use Rattle.risch_round_trip.proofs.PrintedElements.{element-is_sum, or_digit, t-found}
use Rattle.risch_round_trip.proofs.FurtherLines.{IsFirst}
use Rattle.risch_round_trip.proofs.PrintedLines.{spaced_word-read, wanted-read}
use Rattle.risch_round_trip.proofs.ReadLines.{IsFormed, at, fixed-read, ReadsTree, last-read, last_element-read}

-- ---- lines of a word and an expression
module _ (n : ℕ) (low : n ≤ 4) where
  pub element_line-read : (word : List ℕ) (e : Element) → IsElement e → Within (n + 1) e → (front : Front) (more : List ℕ) → IsFirst more →
      front.rest ≡ word ++ (32 ∷ (print_element e ++ (10 ∷ more))) → ReadsTree element_at e (expression_line word (monomials n) front) (at (front.line + 1) more)
  unfolding expression_line
  element_line-read word e kept within front more first is =
      let text = print_element e ++ (10 ∷ more) in
      let b : Begins text = begins-append (print_element e) (10 ∷ more) (element-is_sum (monomials n) (n + 1) (omega arith) (omega arith) e kept within 64 (omega arith)).begins in
      let t = last_element-read (monomials n) low (n + 1) (omega arith) (moved front text) refl e more kept within refl in
      record {
        tree = t.tree;
        is = ap (λ v. and_next v (λ behind. and_next (sum_of (monomials n) behind) (λ sum. to_line_end sum.value sum.front)))
            (fixed-read word front (word ++ (32 ∷ text)) text is (spaced_word-read word text b))
            ∙ last-read element_at e (sum_of (monomials n) (moved front text)) (moved front text) more (λ tree. tree) first t;
        formed = t.formed;
      }

-- ---- variables
variable-begins : (l : ℕ) (rest : List ℕ) → Begins (variable_name l ++ rest)
unfolding variable_name
variable-begins l rest = by_test (l == 0)
  where
    by_test : (b : Bool) → Begins ((if b then codes "x" else codes "t" ++ decimal l) ++ rest)
    by_test true = record { byte = 120; more = rest; is = refl; dark = omega arith }
    by_test false = record { byte = 116; more = decimal l ++ rest; is = refl; dark = omega arith }

variable-wanted : (n l : ℕ) (rest : List ℕ) → l ≤ 4 → l ≤ n → AfterAtom rest → wanted_variable n (variable_name l ++ rest) ≡ Ok (record { value = l; rest = after_blanks rest })
unfolding variable_name wanted_variable
variable-wanted n l rest low known after = by_test (l == 0) refl
  where
    x-wanted : l ≡ 0 → option_map_or (known_variable n (120 ∷ rest)) (name (120 ∷ rest)) (Err (unexpected 64 (120 ∷ rest))) ≡ Ok (record { value = l; rest = after_blanks rest })
    x-wanted none =
        ap (λ f. option_map_or (known_variable n (120 ∷ rest)) f (Err (unexpected 64 (120 ∷ rest)))) (name-one 120 rest refl after)
        ∙ ap (λ (m : ℕ). Ok (record { value = m; rest = after_blanks rest })) (sym none)

    t-wanted : 1 ≤ l → (text : List ℕ) → text ≡ 116 ∷ ((48 + l) ∷ rest) → option_map_or (known_variable n text) (name text) (Err (unexpected 64 text)) ≡ Ok (record { value = l; rest = after_blanks rest })
    t-wanted some text is =
        let digit : is_digit (48 + l) ≡ true = digit-is (48 + l) (omega arith) (omega arith) in
        ap (λ f. option_map_or (known_variable n text) f (Err (unexpected 64 text))) (ap name is ∙ name-two 116 (48 + l) rest refl (or_digit (48 + l) digit) after)
        ∙ ap (λ found. option_map_or (λ level. Ok (record { value = level; rest = after_blanks rest })) found (Err (fault_at text UnknownName))) (t-found (monomials n) l some low known)

    by_test : (b : Bool) → (l == 0) ≡ b →
        option_map_or (known_variable n ((if b then codes "x" else codes "t" ++ decimal l) ++ rest)) (name ((if b then codes "x" else codes "t" ++ decimal l) ++ rest))
        (Err (unexpected 64 ((if b then codes "x" else codes "t" ++ decimal l) ++ rest))) ≡ Ok (record { value = l; rest = after_blanks rest })
    by_test true e = x-wanted (eqb-true l 0 e)
    by_test false e = let other = eqb-false l 0 e in t-wanted (omega arith) (116 ∷ (decimal l ++ rest)) (ap (λ t. 116 ∷ (t ++ rest)) (decimal_digit l (omega arith)))

-- ---- the line
abbrev trace_text : Element → List ℕ
trace_text trace = codes "trace" ++ (32 ∷ (print_element trace ++ (10 ∷ [])))

abbrev power_text : ℕ → Element → List ℕ
power_text power trace = codes "power" ++ (32 ∷ (decimal power ++ (32 ∷ trace_text trace)))

abbrev of_text : ℕ → ℕ → Element → List ℕ
of_text level power trace = codes "of" ++ (32 ∷ (variable_name level ++ (32 ∷ power_text power trace)))

abbrev residue_text : ℕ → ℕ → Element → List ℕ
residue_text level power trace = codes "residue" ++ (32 ∷ of_text level power trace)

abbrev pub residue_line : ℕ → ℕ → Element → List ℕ
residue_line level power trace = codes "end" ++ (32 ∷ residue_text level power trace)

-- The end is read with the tree of its trace.
pub record ReadsEnd (n : ℕ) (front : Front) (level power : ℕ) (trace : Element) : Type 0 where
  pub tree : Tree
  pub is : end_line n front ≡ Ok (reached (Some (record { level = level; power = power; trace = tree })) (at (front.line + 1) []))
  pub formed : (start : ℕ) → IsFormed trace (element_at start tree)

module _ (n : ℕ) (low : n ≤ 4) (level power : ℕ) (trace : Element) (known : level ≤ n) (small : power ≤ 65535) (kept : IsElement trace) (within : Within (n + 1) trace) where
  -- a space before a word is passed
  word-kept : (text : List ℕ) → Begins text → after_blanks (32 ∷ text) ≡ text
  unfolding after_blanks
  word-kept text b = begins-kept text b

  trace-begins : Begins (trace_text trace)
  trace-begins = begins-append (codes "trace") (32 ∷ (print_element trace ++ (10 ∷ []))) (record { byte = 116; more = codes "race"; is = refl; dark = omega arith })

  power-begins : Begins (power_text power trace)
  power-begins = begins-append (codes "power") (32 ∷ (decimal power ++ (32 ∷ trace_text trace))) (record { byte = 112; more = codes "ower"; is = refl; dark = omega arith })

  of-begins : Begins (of_text level power trace)
  of-begins = begins-append (codes "of") (32 ∷ (variable_name level ++ (32 ∷ power_text power trace))) (record { byte = 111; more = codes "f"; is = refl; dark = omega arith })

  residue-begins : Begins (residue_text level power trace)
  residue-begins = begins-append (codes "residue") (32 ∷ of_text level power trace) (record { byte = 114; more = codes "esidue"; is = refl; dark = omega arith })

  power-read : (front : Front) → front.rest ≡ decimal power ++ (32 ∷ trace_text trace) → small_number_of front ≡ Ok (reached power (moved front (trace_text trace)))
  unfolding small_number_of
  power-read front e =
      ap (λ b. map_value (λ m. reached m.value (moved front m.rest)) (wanted_number 64 65535 Wide b)) e
      ∙ ap (map_value (λ m. reached m.value (moved front m.rest))) (wanted-read 64 65535 Wide power (32 ∷ trace_text trace) (omega arith) small refl)
      ∙ ap (λ bytes. Ok (reached power (moved front bytes))) (word-kept (trace_text trace) trace-begins)

  level-read : (front : Front) → front.rest ≡ variable_name level ++ (32 ∷ power_text power trace) → variable_of n front ≡ Ok (reached level (moved front (power_text power trace)))
  unfolding variable_of
  level-read front e =
      ap (λ b. map_value (λ m. reached m.value (moved front m.rest)) (wanted_variable n b)) e
      ∙ ap (map_value (λ m. reached m.value (moved front m.rest))) (variable-wanted n level (32 ∷ power_text power trace) (omega arith) known refl)
      ∙ ap (λ bytes. Ok (reached level (moved front bytes))) (word-kept (power_text power trace) power-begins)

  -- the fixed words
  end-found : (front : Front) → front.rest ≡ residue_line level power trace → fixed (codes "end") front ≡ Ok (moved front (residue_text level power trace))
  end-found front e =
      let text = residue_text level power trace in
      fixed-read (codes "end") front (codes "end" ++ (32 ∷ text)) text e (spaced_word-read (codes "end") text residue-begins)

  of-found : (front : Front) → front.rest ≡ of_text level power trace → fixed (codes "of") front ≡ Ok (moved front (variable_name level ++ (32 ∷ power_text power trace)))
  of-found front e =
      let text = variable_name level ++ (32 ∷ power_text power trace) in
      fixed-read (codes "of") front (codes "of" ++ (32 ∷ text)) text e (spaced_word-read (codes "of") text (variable-begins level (32 ∷ power_text power trace)))

  power-found : (front : Front) → front.rest ≡ power_text power trace → fixed (codes "power") front ≡ Ok (moved front (decimal power ++ (32 ∷ trace_text trace)))
  power-found front e =
      let text = decimal power ++ (32 ∷ trace_text trace) in
      fixed-read (codes "power") front (codes "power" ++ (32 ∷ text)) text e
      (spaced_word-read (codes "power") text (begins-append (decimal power) (32 ∷ trace_text trace) (decimal-begins power (omega arith))))

  residue-found : (front : Front) → front.rest ≡ residue_text level power trace → behind_word (codes "residue") front ≡ Some (moved front (of_text level power trace))
  unfolding behind_word
  residue-found front e =
      let text = of_text level power trace in
      ap (λ bytes. option_map (moved front) (after_word (codes "residue") bytes)) e
      ∙ ap (option_map (moved front)) (spaced_word-read (codes "residue") text of-begins)

  -- no equation stands there
  no_equation : (front : Front) → front.rest ≡ residue_line level power trace → behind_word (codes "equation") front ≡ None
  unfolding behind_word after_word
  no_equation front e = ap (λ bytes. option_map (moved front) (after_word (codes "equation") bytes)) e

  pub residue_line-read : (front : Front) → front.rest ≡ residue_line level power trace → ReadsEnd n front level power trace
  unfolding end_line end_kind residue_end end_power
  residue_line-read front e =
      let t = element_line-read n low (codes "trace") trace kept within (moved front (trace_text trace)) [] tt refl in
      record {
        tree = t.tree;
        is = ap (λ found. option_map_or not_yet found (and_next (fixed (codes "end") front) (end_kind n))) (no_equation front e)
            ∙ ap (λ v. and_next v (end_kind n)) (end-found front e)
            ∙ ap (λ found. option_map_or (λ behind. some_end (residue_end n behind)) found (option_map_or not_yet (behind_word (codes "exponent") (moved front (residue_text level power trace)))
            (option_map_or not_yet (behind_word (codes "degree") (moved front (residue_text level power trace))) (Err (unexpected_at (moved front (residue_text level power trace)))))))
            (residue-found (moved front (residue_text level power trace)) refl)
            ∙ ap (λ v. some_end (and_next v (λ behind. and_next (variable_of n behind) (λ l. end_power n l.value l.front)))) (of-found (moved front (of_text level power trace)) refl)
            ∙ ap (λ v. some_end (and_next v (λ l. end_power n l.value l.front))) (level-read (moved front (variable_name level ++ (32 ∷ power_text power trace))) refl)
            ∙ ap (λ v. some_end (and_next v (λ behind. and_next (small_number_of behind) (λ p. and_next (expression_line (codes "trace") (monomials n) p.front) (λ t.
            Ok (reached (record { level = level; power = p.value; trace = t.value }) t.front)))))) (power-found (moved front (power_text power trace)) refl)
            ∙ ap (λ v. some_end (and_next v (λ p. and_next (expression_line (codes "trace") (monomials n) p.front) (λ t.
            Ok (reached (record { level = level; power = p.value; trace = t.value }) t.front))))) (power-read (moved front (decimal power ++ (32 ∷ trace_text trace))) refl)
            ∙ ap (λ v. some_end (and_next v (λ t. Ok (reached (record { level = level; power = power; trace = t.value }) t.front)))) t.is;
        formed = t.formed;
      }
