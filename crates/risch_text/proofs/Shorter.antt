-- What is read leaves no more bytes than there were.
use Rattle.std.proofs.Common.{ℕ, zero, suc, ◌+◌, ◌-◌, ◌*◌, ◌≤◌, List, [], ◌∷◌, length, drop, Option, Some, None, Ok, Err, arith, length-drop}
use Rattle.std.specs.Prelude.{nat_lt, ◌==◌, option_map}
use Rattle.std.specs.Option.{option_or, option_map_or}
use Rattle.std.proofs.lemmas.Bool.{cond_both}
use Rattle.risch_expression.specs.Words.{is_blank, after_blanks, after_byte, is_letter, is_digit, goes_on, after_word, Name, front_name, name, Numeral, more_digits, numeral}
use Rattle.risch_expression.specs.Fault.{most_number, fault_at, unexpected}
use Rattle.risch_expression.specs.Results.{and_next}
use Rattle.risch_expression.specs.Tree.{Tree}
use Rattle.risch_expression.specs.Grammar.{Read, Parsed, parsed, Rule, limited, number_found, wanted_number, variable_named, named, number_atom, name_atom, atom, raised, with_exponent, power_rule, Sign, signed, product_sign, sum_sign, joined, joined_by_sign, joined_by, chain, term_rule, opposite, first_term, sum_rule, closed, opened, parenthesized, atom_in, power_in, term_in, sum_in, expression}
use Rattle.risch_expression.specs.declared.fault.Cause.{Cause}
use Rattle.risch_expression.specs.declared.fault.Cause.TheVariants.{Wide, Exponent, Name as UnknownName}
use Rattle.risch_expression.specs.declared.names.Names.{Names}
use Rattle.risch_expression.specs.declared.program.Operation.{Operation}
use Rattle.risch_expression.specs.declared.program.Operation.TheVariants.{Sum, Difference, Product, Quotient}
use Rattle.risch_text.specs.Lines.{known_variable, wanted_variable}

-- ---- at most n bytes are left
abbrev pub SomeShort : ℕ → Option (List ℕ) → Type 0
SomeShort n None = Unit {0}
SomeShort n (Some rest) = length rest ≤ n

pub after_blanks-short : (bytes : List ℕ) → length (after_blanks bytes) ≤ length bytes
unfolding after_blanks
after_blanks-short [] = omega arith
after_blanks-short (b ∷ bs) =
    cond_both (is_blank b bs) (after_blanks bs) (b ∷ bs) (λ rest. length rest ≤ length (b ∷ bs)) (λ t. omega (arith, after_blanks-short bs)) (λ t. omega arith)

pub after_byte-short : (byte : ℕ) (bytes : List ℕ) → SomeShort (length bytes) (after_byte byte bytes)
unfolding after_byte
after_byte-short byte [] = tt
after_byte-short byte (b ∷ bs) =
    cond_both (b == byte) (Some (after_blanks bs)) None (SomeShort (length (b ∷ bs))) (λ t. omega (arith, after_blanks-short bs)) (λ t. tt)

more-short : (m n : ℕ) (rest : Option (List ℕ)) → m ≤ n → SomeShort m rest → SomeShort n rest
more-short m n None h s = tt
more-short m n (Some rest) h s = omega arith

pub after_word-short : (word bytes : List ℕ) → SomeShort (length bytes) (after_word word bytes)
unfolding after_word
after_word-short [] bytes = cond_both (goes_on bytes) None (Some (after_blanks bytes)) (SomeShort (length bytes)) (λ t. tt) (λ t. after_blanks-short bytes)
after_word-short (w ∷ ws) [] = tt
after_word-short (w ∷ ws) (b ∷ bs) =
    cond_both (b == w) (after_word ws bs) None (SomeShort (length (b ∷ bs)))
    (λ t. more-short (length bs) (length (b ∷ bs)) (after_word ws bs) (omega arith) (after_word-short ws bs)) (λ t. tt)

-- ---- names and numbers
abbrev NameShort : ℕ → Option Name → Type 0
NameShort n None = Unit {0}
NameShort n (Some s) = length s.rest ≤ n

front_name-short : (bytes : List ℕ) (size : ℕ) → length (after_blanks (drop size bytes)) ≤ length bytes
front_name-short bytes size = omega (arith, after_blanks-short (drop size bytes), length-drop size bytes)

name-short : (bytes : List ℕ) → NameShort (length bytes) (name bytes)
unfolding name
name-short [] = tt
name-short (b ∷ bs) = cond_both (is_letter b) (Some (front_name (b ∷ bs))) None (NameShort (length (b ∷ bs))) (λ t. front_name-short (b ∷ bs) _) (λ t. tt)

more_digits-short : (value : ℕ) (bytes : List ℕ) → length (more_digits value bytes).rest ≤ length bytes
unfolding more_digits
more_digits-short value [] = omega arith
more_digits-short value (b ∷ bs) =
    cond_both (is_digit b) (more_digits (value * 10 + (b - 48)) bs) (record { value = value; rest = after_blanks (b ∷ bs) }) (λ n. length n.rest ≤ length (b ∷ bs))
    (λ t. omega (arith, more_digits-short (value * 10 + (b - 48)) bs)) (λ t. after_blanks-short (b ∷ bs))

abbrev NumeralShort : ℕ → Option Numeral → Type 0
NumeralShort n None = Unit {0}
NumeralShort n (Some s) = length s.rest ≤ n

numeral-short : (bytes : List ℕ) → NumeralShort (length bytes) (numeral bytes)
unfolding numeral
numeral-short [] = tt
numeral-short (b ∷ bs) =
    cond_both (is_digit b) (Some (more_digits (b - 48) bs)) None (NumeralShort (length (b ∷ bs))) (λ t. omega (arith, more_digits-short (b - 48) bs)) (λ t. tt)

abbrev pub NumberShort : ℕ → Read Numeral → Type 0
NumberShort n (Ok s) = length s.rest ≤ n
NumberShort n (Err fault) = Unit {0}

abbrev FoundShort : ℕ → Option (Read Numeral) → Type 0
FoundShort n None = Unit {0}
FoundShort n (Some found) = NumberShort n found

limited-short : (n most : ℕ) (above : Cause) (bytes : List ℕ) (s : Numeral) → length s.rest ≤ n → NumberShort n (limited most above bytes s)
limited-short n most above bytes s h =
    cond_both (nat_lt most_number s.value) _ _ (NumberShort n) (λ t. tt) (λ t. cond_both (nat_lt most s.value) _ (Ok s) (NumberShort n) (λ u. tt) (λ u. h))

number_found-short : (most : ℕ) (above : Cause) (bytes : List ℕ) → FoundShort (length bytes) (number_found most above bytes)
unfolding number_found
number_found-short most above bytes = of (numeral bytes) (numeral-short bytes)
  where
    of : (s : Option Numeral) → NumeralShort (length bytes) s → FoundShort (length bytes) (option_map (limited most above bytes) s)
    of None h = tt
    of (Some s) h = limited-short (length bytes) most above bytes s h

pub wanted_number-short : (open_left most : ℕ) (above : Cause) (bytes : List ℕ) → NumberShort (length bytes) (wanted_number open_left most above bytes)
unfolding wanted_number
wanted_number-short open_left most above bytes = of (number_found most above bytes) (number_found-short most above bytes)
  where
    of : (found : Option (Read Numeral)) → FoundShort (length bytes) found → NumberShort (length bytes) (option_map_or (λ found. found) found (Err (unexpected open_left bytes)))
    of None h = tt
    of (Some found) h = h

-- ---- variables
pub wanted_variable-short : (monomials : ℕ) (bytes : List ℕ) → NumberShort (length bytes) (wanted_variable monomials bytes)
unfolding wanted_variable
wanted_variable-short monomials bytes = by_name (name bytes) (name-short bytes)
  where
    by_level : (found : Name) (level : Option ℕ) → length found.rest ≤ length bytes →
        NumberShort (length bytes) (option_map_or (λ l. Ok (record { value = l; rest = found.rest })) level (Err (fault_at bytes UnknownName)))
    by_level found None h = tt
    by_level found (Some level) h = h

    by_name : (found : Option Name) → NameShort (length bytes) found → NumberShort (length bytes) (option_map_or (known_variable monomials bytes) found (Err (unexpected 64 bytes)))
    by_name None h = tt
    by_name (Some found) h = by_level found (variable_named monomials found.text) h

-- ---- expressions
abbrev pub Short : ℕ → Read Parsed → Type 0
Short n (Ok p) = length p.rest ≤ n
Short n (Err fault) = Unit {0}

abbrev ShortRule : Rule → Type 0
ShortRule rule = (bytes : List ℕ) → Short (length bytes) (rule bytes)

short-more : (m n : ℕ) (r : Read Parsed) → m ≤ n → Short m r → Short n r
short-more m n (Ok p) h s = omega arith
short-more m n (Err fault) h s = tt

short-then : (n : ℕ) (first : Read Parsed) (next : Parsed → Read Parsed) → Short n first → ((p : Parsed) → length p.rest ≤ n → Short n (next p)) → Short n (and_next first next)
short-then n (Ok p) next f h = h p f
short-then n (Err fault) next f h = tt

short-number : (n : ℕ) (first : Read Numeral) (next : Numeral → Read Parsed) → NumberShort n first → ((s : Numeral) → length s.rest ≤ n → Short n (next s)) → Short n (and_next first next)
short-number n (Ok s) next f h = h s f
short-number n (Err fault) next f h = tt

short-rest : (n : ℕ) (found : Option (List ℕ)) (next : List ℕ → Read Parsed) (other : Read Parsed) →
    SomeShort n found → ((rest : List ℕ) → length rest ≤ n → Short n (next rest)) → Short n other → Short n (option_map_or next found other)
short-rest n None next other f h o = o
short-rest n (Some rest) next other f h o = h rest f

short-found : (n : ℕ) (found : Option (Read Numeral)) (other : Read Parsed) → FoundShort n found → Short n other → Short n (option_map_or (λ found. and_next found number_atom) found other)
short-found n None other f o = o
short-found n (Some found) other f o = short-number n found number_atom f (λ s h. h)

short-tree : (n : ℕ) (found : Option Tree) (rest bytes : List ℕ) (cause : Cause) → length rest ≤ n → Short n (option_map_or (λ tree. parsed tree rest) found (Err (fault_at bytes cause)))
short-tree n None rest bytes cause h = tt
short-tree n (Some tree) rest bytes cause h = h

module _ (names : Names) where
  short-name : (n : ℕ) (bytes : List ℕ) (found : Option Name) (other : Read Parsed) → NameShort n found → Short n other → Short n (option_map_or (name_atom names bytes) found other)
  short-name n bytes None other f o = o
  short-name n bytes (Some s) other f o = short-tree n (named names s.text) s.rest bytes _ f

  short-atom : (rule : Rule) → ShortRule rule → ShortRule (atom names rule)
  unfolding atom
  short-atom rule h bytes =
      short-found (length bytes) (number_found most_number Wide bytes) _ (number_found-short most_number Wide bytes)
      (short-name (length bytes) bytes (name bytes) _ (name-short bytes) (h bytes))

  short-exponent : (n k : ℕ) (p : Parsed) → length p.rest ≤ n → (rest : Option (List ℕ)) → SomeShort n rest → Short n (with_exponent k p rest)
  short-exponent n k p h None s = h
  short-exponent n k p h (Some rest) s = short-more (length rest) n _ s (short-number (length rest) (wanted_number k 9999 Exponent rest) (raised p.tree) (wanted_number-short k 9999 Exponent rest) (λ m f. f))

  short-power : (k : ℕ) (rule : Rule) → ShortRule rule → ShortRule (power_rule k rule)
  unfolding power_rule
  short-power k rule h bytes =
      short-then (length bytes) (rule bytes) _ (h bytes)
      (λ p f. short-exponent (length bytes) k p f (after_byte 94 p.rest) (more-short (length p.rest) (length bytes) _ f (after_byte-short 94 p.rest)))

  -- ---- signs
  abbrev SignShort : ℕ → Option Sign → Type 0
  SignShort n None = Unit {0}
  SignShort n (Some s) = length s.rest ≤ n

  one-sign : (n : ℕ) (o u : Operation) (first second : Option (List ℕ)) → SomeShort n first → SomeShort n second → SignShort n (option_or (option_map (signed o) first) (option_map (signed u) second))
  one-sign n o u None None f s = tt
  one-sign n o u None (Some rest) f s = s
  one-sign n o u (Some rest) second f s = f

  product_sign-short : (bytes : List ℕ) → SignShort (length bytes) (product_sign bytes)
  unfolding product_sign
  product_sign-short bytes = one-sign (length bytes) Product (Quotient (length bytes)) (after_byte 42 bytes) (after_byte 47 bytes) (after_byte-short 42 bytes) (after_byte-short 47 bytes)

  sum_sign-short : (bytes : List ℕ) → SignShort (length bytes) (sum_sign bytes)
  unfolding sum_sign
  sum_sign-short bytes = one-sign (length bytes) Sum Difference (after_byte 43 bytes) (after_byte 45 bytes) (after_byte-short 43 bytes) (after_byte-short 45 bytes)

  module _ (sign : List ℕ → Option Sign) (sign-short : (bytes : List ℕ) → SignShort (length bytes) (sign bytes)) (operand : Rule) (h : ShortRule operand) where
    short-sign : (n : ℕ) (more : Parsed → Read Parsed) → ((p : Parsed) → length p.rest ≤ n → Short n (more p)) → (p : Parsed) → length p.rest ≤ n → (s : Option Sign) → SignShort n s →
        Short n (joined_by_sign operand more p s)
    short-sign n more m p f None g = f
    short-sign n more m p f (Some s) g =
        short-then n (operand s.rest) _ (short-more (length s.rest) n (operand s.rest) g (h s.rest)) (λ q k. m (record { tree = joined s.operation p.tree q.tree; rest = q.rest }) k)

    sign-more : (n : ℕ) (bytes : List ℕ) → length bytes ≤ n → SignShort n (sign bytes)
    sign-more n bytes f = of (sign bytes) (sign-short bytes)
      where
        of : (s : Option Sign) → SignShort (length bytes) s → SignShort n s
        of None g = tt
        of (Some s) g = omega arith

    short-joined : (n k : ℕ) (p : Parsed) → length p.rest ≤ n → Short n (joined_by sign operand k p)
    short-joined n zero p f = f
    short-joined n (suc k) p f = short-sign n (joined_by sign operand k) (λ q g. short-joined n k q g) p f (sign p.rest) (sign-more n p.rest f)

  short-term : (rule : Rule) → ShortRule rule → ShortRule (term_rule rule)
  unfolding term_rule
  short-term rule h bytes =
      short-then (length bytes) (rule bytes) (chain product_sign rule) (h bytes) (λ p f. short-joined product_sign product_sign-short rule h (length bytes) (length p.rest) p f)

  short-first : (n : ℕ) (rule : Rule) → ShortRule rule → (bytes : List ℕ) → length bytes ≤ n → (minus : Option (List ℕ)) → SomeShort n minus → Short n (first_term rule bytes minus)
  short-first n rule h bytes f None s = short-more (length bytes) n (rule bytes) f (h bytes)
  short-first n rule h bytes f (Some rest) s = short-then n (rule rest) opposite (short-more (length rest) n (rule rest) s (h rest)) (λ p g. g)

  short-sum : (rule : Rule) → ShortRule rule → ShortRule (sum_rule rule)
  unfolding sum_rule
  short-sum rule h bytes =
      short-then (length bytes) (first_term rule bytes (after_byte 45 bytes)) (chain sum_sign rule)
      (short-first (length bytes) rule h bytes (omega arith) (after_byte 45 bytes) (after_byte-short 45 bytes))
      (λ p f. short-joined sum_sign sum_sign-short rule h (length bytes) (length p.rest) p f)

  short-closed : (n k : ℕ) (p : Parsed) → length p.rest ≤ n → Short n (closed k p)
  short-closed n k p f = short-rest n (after_byte 41 p.rest) (parsed p.tree) _ (more-short (length p.rest) n _ f (after_byte-short 41 p.rest)) (λ rest g. g) tt

  short-opened : (n k : ℕ) (inside : Rule) → ShortRule inside → (rest : List ℕ) → length rest ≤ n → Short n (opened k inside rest)
  short-opened n k inside h rest f = short-then n (inside rest) (closed k) (short-more (length rest) n (inside rest) f (h rest)) (λ p g. short-closed n k p g)

  short-parenthesized : (k : ℕ) → ShortRule (parenthesized names k)
  short-parenthesized zero bytes = tt
  short-parenthesized (suc k) bytes =
      short-rest (length bytes) (after_byte 40 bytes) _ _ (after_byte-short 40 bytes)
      (λ rest f. short-opened (length bytes) k _ (short-sum _ (short-term _ (short-power k _ (short-atom (parenthesized names k) (short-parenthesized k))))) rest f) tt

  pub expression-short : ShortRule (expression names)
  unfolding expression sum_in term_in power_in atom_in
  expression-short = short-sum _ (short-term _ (short-power 64 _ (short-atom (parenthesized names 64) (short-parenthesized 64))))
