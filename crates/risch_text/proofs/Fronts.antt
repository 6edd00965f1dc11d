-- What stands at a front.
use Rattle.std.proofs.Common.{◌≡◌, ◌≢◌, ℕ, ◌+◌, ◌-◌, ◌≤◌, ◌^◌, List, [], ◌∷◌, length, Bool, true, false, refl, ap, sym, subst, ◌∙◌, arith, Option, Some, None, Result, Ok, Err, ◌==◌}
use Rattle.std.proofs.lemmas.Bool.{cond-true, cond-false, cond_both, eq-eqb, ne_eqb, leb-true}
use Rattle.std.specs.Prelude.{nat_le, option_map, ◌||◌, ◌&&◌, OnOk}
use Rattle.risch_frac.specs.Fraction.{Fraction, whole}
use Rattle.risch_expression.specs.Fault.{most_number}
use Rattle.risch_expression.specs.Words.{is_blank, after_blanks, after_byte, after_word}
use Rattle.risch_expression.specs.Grammar.{variable_named, wanted_number, expression}
use Rattle.risch_expression.specs.Reading.{IsParsedOver, IsFaultOf}
use Rattle.risch_expression.specs.Taken.{Takes}
use Rattle.risch_expression.specs.declared.fault.Cause.TheVariants.{Wide}
use Rattle.risch_expression.specs.declared.fault.ReadFault.{ReadFault}
use Rattle.risch_expression.specs.declared.fault.ReadFault.TheVariants.{Syntax, Memory}
use Rattle.risch_expression.specs.declared.names.Names.{Names}
use Rattle.risch_expression.specs.declared.program.Step.{Step}
use Rattle.risch_expression.specs.declared.fault.SyntaxFault.{SyntaxFault}
use Rattle.risch_text.specs.Lines.{Front, moved, reached, after_lines, from_line, behind_word, behind_byte, fixed, symbol, unexpected_at, line_end, number_of, small_number_of, wanted_variable, variable_of, sum_of, expression_line, InFile}
use Rattle.risch_text.specs.Reading.{Passes, MovesTo, TakesVariable, IsSum}
use Rattle.risch_text.proofs.Shorter.{after_byte-short, after_word-short, wanted_number-short, wanted_variable-short, expression-short}

-- ---- lines that are passed over
pub after_lines_end : (in_comment : Bool) (line start : ℕ) (bytes : List ℕ) → length bytes ≡ 0 → after_lines in_comment line start bytes ≡ record { rest = after_blanks bytes; line = line; start = start }
unfolding after_lines after_blanks
after_lines_end in_comment line start [] h = refl
after_lines_end in_comment line start (b ∷ bs) h = absurd (omega arith)

pub after_lines_next : (in_comment : Bool) (line start : ℕ) (bytes : List ℕ) (b : ℕ) (bs : List ℕ) → bytes ≡ b ∷ bs → b ≡ 10 →
    after_lines in_comment line start bytes ≡ after_lines false (line + 1) (length bs) bs
unfolding after_lines
after_lines_next in_comment line start bytes b bs e h = rw e (cond-true (b == 10) _ _ (eq-eqb b 10 h))

-- a byte of a comment, or a blank
pub after_lines_passed : (in_comment : Bool) (line start : ℕ) (bytes : List ℕ) (b : ℕ) (bs : List ℕ) → bytes ≡ b ∷ bs → b ≢ 10 → (in_comment || is_blank b bs) ≡ true →
    after_lines in_comment line start bytes ≡ after_lines in_comment line start bs
unfolding after_lines
after_lines_passed in_comment line start bytes b bs e n h = rw e (cond-false (b == 10) _ _ (ne_eqb b 10 n) ∙ cond-true (in_comment || is_blank b bs) _ _ h)

pub after_lines_comment : (in_comment : Bool) (line start : ℕ) (bytes : List ℕ) (b : ℕ) (bs : List ℕ) → bytes ≡ b ∷ bs → b ≢ 10 → (in_comment || is_blank b bs) ≡ false → b ≡ 35 →
    after_lines in_comment line start bytes ≡ after_lines true line start bs
unfolding after_lines
after_lines_comment in_comment line start bytes b bs e n h k =
    rw e (cond-false (b == 10) _ _ (ne_eqb b 10 n) ∙ cond-false (in_comment || is_blank b bs) _ _ h ∙ cond-true (b == 35) _ _ (eq-eqb b 35 k))

pub after_lines_stop : (in_comment : Bool) (line start : ℕ) (bytes : List ℕ) (b : ℕ) (bs : List ℕ) → bytes ≡ b ∷ bs → b ≢ 10 → (in_comment || is_blank b bs) ≡ false → b ≢ 35 →
    after_lines in_comment line start bytes ≡ record { rest = after_blanks bytes; line = line; start = start }
unfolding after_lines after_blanks
after_lines_stop in_comment line start bytes b bs e n h k =
    rw e (cond-false (b == 10) _ _ (ne_eqb b 10 n) ∙ cond-false (in_comment || is_blank b bs) _ _ h ∙ cond-false (b == 35) _ _ (ne_eqb b 35 k)
    ∙ ap (λ rest. record { rest = rest; line = line; start = start }) (sym (cond-false (is_blank b bs) _ _ (no_blank in_comment (is_blank b bs) h))))
  where
    no_blank : (c d : Bool) → (c || d) ≡ false → d ≡ false
    no_blank true d h = cc
    no_blank false d h = h

-- ---- words and bytes
pub passes_word : (found : Bool) (word : List ℕ) (front : Front) (rest : List ℕ) → Takes found (after_word word front.rest) front.rest rest → Passes found (behind_word word front) front (moved front rest)
unfolding behind_word
passes_word true word front rest t = ap (option_map (moved front)) t
passes_word false word front rest t = (ap (option_map (moved front)) t.0, ap (moved front) t.1)

pub passes_byte : (found : Bool) (byte : ℕ) (front : Front) (rest : List ℕ) → Takes found (after_byte byte front.rest) front.rest rest → Passes found (behind_byte byte front) front (moved front rest)
unfolding behind_byte
passes_byte true byte front rest t = ap (option_map (moved front)) t
passes_byte false byte front rest t = (ap (option_map (moved front)) t.0, ap (moved front) t.1)

pub fixed_found : (word : List ℕ) (front behind : Front) → behind_word word front ≡ Some behind → fixed word front ≡ Ok behind
unfolding fixed
fixed_found word front behind e = rw e refl

pub fixed_other : (word : List ℕ) (front : Front) → behind_word word front ≡ None → fixed word front ≡ Err (unexpected_at front)
unfolding fixed
fixed_other word front e = rw e refl

pub symbol_found : (byte : ℕ) (front behind : Front) → behind_byte byte front ≡ Some behind → symbol byte front ≡ Ok behind
unfolding symbol
symbol_found byte front behind e = rw e refl

pub symbol_other : (byte : ℕ) (front : Front) → behind_byte byte front ≡ None → symbol byte front ≡ Err (unexpected_at front)
unfolding symbol
symbol_other byte front e = rw e refl

-- ---- in the file
pub in_file_moved : (front : Front) (rest : List ℕ) → InFile front → length rest ≤ length front.rest → InFile (moved front rest)
unfolding InFile
in_file_moved front rest f h = omega arith

pub in_file_word : (found : Bool) (word : List ℕ) (front : Front) (rest : List ℕ) → Takes found (after_word word front.rest) front.rest rest → InFile front → InFile (moved front rest)
in_file_word true word front rest t f = in_file_moved front rest f (let short = after_word-short word front.rest in rw t at short)
in_file_word false word front rest t f = rw t.1 f

pub in_file_byte : (found : Bool) (byte : ℕ) (front : Front) (rest : List ℕ) → Takes found (after_byte byte front.rest) front.rest rest → InFile front → InFile (moved front rest)
in_file_byte true byte front rest t f = in_file_moved front rest f (let short = after_byte-short byte front.rest in rw t at short)
in_file_byte false byte front rest t f = rw t.1 f

pub in_file_is : (front : Front) → front.line + length front.rest ≤ 2 ^ 32 → InFile front
unfolding InFile
in_file_is front h = h

pub line_in_file : (front : Front) → InFile front → front.line + length front.rest ≤ 2 ^ 32
unfolding InFile
line_in_file front h = h

-- ---- the end of a line
pub line_end_last : (front : Front) → length front.rest ≡ 0 → line_end front ≡ Ok front
unfolding line_end
line_end_last front h = by_rest front.rest refl h
  where
    by_rest : (rest : List ℕ) → front.rest ≡ rest → length rest ≡ 0 → line_end front ≡ Ok front
    by_rest [] e h = rw e refl
    by_rest (b ∷ bs) e h = absurd (omega arith)

pub line_end_next : (front : Front) (b : ℕ) (bs : List ℕ) → front.rest ≡ b ∷ bs → b ≡ 10 → line_end front ≡ Ok (from_line (front.line + 1) bs)
unfolding line_end
line_end_next front b bs e h = rw e (cond-true (b == 10) _ _ (eq-eqb b 10 h))

pub line_end_other : (front : Front) (b : ℕ) (bs : List ℕ) → front.rest ≡ b ∷ bs → b ≢ 10 → line_end front ≡ Err (unexpected_at front)
unfolding line_end
line_end_other front b bs e h = rw e (cond-false (b == 10) _ _ (ne_eqb b 10 h))

-- ---- numbers
pub number_read : (front : Front) (n : ℕ) (q : Fraction) (rest : List ℕ) → wanted_number 64 most_number Wide front.rest ≡ Ok (record { value = n; rest = rest }) → q ≡ whole n →
    number_of front ≡ Ok (reached q (moved front rest))
unfolding number_of
number_read front n q rest e is = rw (e, is) refl

pub number_fault : (front : Front) (fault : SyntaxFault) → wanted_number 64 most_number Wide front.rest ≡ Err fault → number_of front ≡ Err fault
unfolding number_of
number_fault front fault e = rw e refl

pub number_in_file : (front : Front) (n : ℕ) (rest : List ℕ) → wanted_number 64 most_number Wide front.rest ≡ Ok (record { value = n; rest = rest }) → InFile front → InFile (moved front rest)
number_in_file front n rest e f = in_file_moved front rest f (let short = wanted_number-short 64 most_number Wide front.rest in rw e at short)

pub small_number_read : (front : Front) (n : ℕ) (rest : List ℕ) → wanted_number 64 65535 Wide front.rest ≡ Ok (record { value = n; rest = rest }) → small_number_of front ≡ Ok (reached n (moved front rest))
unfolding small_number_of
small_number_read front n rest e = rw e refl

pub small_number_fault : (front : Front) (fault : SyntaxFault) → wanted_number 64 65535 Wide front.rest ≡ Err fault → small_number_of front ≡ Err fault
unfolding small_number_of
small_number_fault front fault e = rw e refl

pub small_number_in_file : (front : Front) (n : ℕ) (rest : List ℕ) → wanted_number 64 65535 Wide front.rest ≡ Ok (record { value = n; rest = rest }) → InFile front → InFile (moved front rest)
small_number_in_file front n rest e f = in_file_moved front rest f (let short = wanted_number-short 64 65535 Wide front.rest in rw e at short)

-- ---- variables
both-true : (s t : Bool) → (s && t) ≡ true → (s ≡ true) × (t ≡ true)
both-true true t e = (refl, e)
both-true false t e = cc

abbrev IsNamedLow : ℕ → Option ℕ → Type 0
IsNamedLow monomials None = Unit {0}
IsNamedLow monomials (Some i) = i ≤ monomials

known-low : (monomials : ℕ) (text : List ℕ) → IsNamedLow monomials (variable_named monomials text)
known-low monomials [] = tt
known-low monomials (b ∷ []) = cond_both (b == 120) (Some 0) None (IsNamedLow monomials) (λ t. omega arith) (λ t. tt)
known-low monomials (b ∷ (d ∷ [])) =
    cond_both (b == 116 && ((nat_le 49 d && nat_le d 57) && nat_le (d - 48) monomials)) (Some (d - 48)) None (IsNamedLow monomials)
    (λ t. leb-true (d - 48) monomials (both-true (nat_le 49 d && nat_le d 57) _ (both-true (b == 116) _ t).1).1) (λ t. tt)
known-low monomials (b ∷ (d ∷ (e ∷ es))) = tt

-- a variable that is named is one of x and the monomials
pub named_low : (monomials level : ℕ) (text : List ℕ) → Some level ≡ variable_named monomials text → level ≤ monomials
named_low monomials level text e = subst (IsNamedLow monomials) (sym e) (known-low monomials text)

pub variable_moves : (monomials : ℕ) (front : Front) (result : Result ℕ SyntaxFault) (rest : List ℕ) → TakesVariable result (wanted_variable monomials front.rest) rest →
    MovesTo result (variable_of monomials front) (moved front rest)
unfolding variable_of
variable_moves monomials front (Ok level) rest e = rw e refl
variable_moves monomials front (Err fault) rest e = rw e refl

pub variable_in_file : (monomials : ℕ) (front : Front) (result : Result ℕ SyntaxFault) (rest : List ℕ) → TakesVariable result (wanted_variable monomials front.rest) rest → InFile front →
    OnOk result (InFile (moved front rest))
variable_in_file monomials front (Ok level) rest e f = in_file_moved front rest f (let short = wanted_variable-short monomials front.rest in rw e at short)
variable_in_file monomials front (Err fault) rest e f = tt

-- ---- expressions
pub sum_read : (names : Names) (front : Front) (program_old program : List Step) (rest : List ℕ) → program_old ≡ [] → IsParsedOver names (expression names front.rest) program_old program rest →
    IsSum names (sum_of names front) program (moved front rest)
unfolding sum_of
sum_read names front program_old program rest none p = record {
  tree = p.tree;
  is = rw p.is refl;
  written = rw (p.written, none) refl;
  over = p.over;
}

pub sum_fault : (names : Names) (front : Front) (fault : ReadFault) → IsFaultOf fault (expression names front.rest) → IsFaultOf fault (sum_of names front)
unfolding sum_of
sum_fault names front (Syntax f) h = rw h refl
sum_fault names front Memory h = tt

pub sum_in_file : (names : Names) (front : Front) (program_old program : List Step) (rest : List ℕ) → IsParsedOver names (expression names front.rest) program_old program rest →
    InFile front → InFile (moved front rest)
sum_in_file names front program_old program rest p f = in_file_moved front rest f (let short = expression-short names front.rest in rw p.is at short)

-- ---- a line of a word and an expression
pub line_word_fault : (word : List ℕ) (names : Names) (front : Front) (fault : SyntaxFault) → fixed word front ≡ Err fault → expression_line word names front ≡ Err fault
unfolding expression_line
line_word_fault word names front fault e = rw e refl

module _ (word : List ℕ) (names : Names) (front behind : Front) (e : fixed word front ≡ Ok behind) where
  pub line_sum_fault : (fault : ReadFault) → IsFaultOf fault (sum_of names behind) → IsFaultOf fault (expression_line word names front)
  unfolding expression_line
  line_sum_fault (Syntax f) h = rw (e, h) refl
  line_sum_fault Memory h = tt

  module _ (program : List Step) (after : Front) (s : IsSum names (sum_of names behind) program after) where
    pub line_not_ended : (fault : SyntaxFault) → line_end after ≡ Err fault → expression_line word names front ≡ Err fault
    unfolding expression_line
    line_not_ended fault h = let is = s.is in rw (e, is, h) refl

    pub line_read : (next : Front) → line_end after ≡ Ok next → IsSum names (expression_line word names front) program next
    unfolding expression_line
    line_read next h = let is = s.is in record { tree = s.tree; is = rw (e, is, h) refl; written = s.written; over = s.over }
