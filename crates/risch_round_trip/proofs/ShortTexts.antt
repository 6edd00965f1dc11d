-- Texts that are printed without parentheses in a quotient: digits alone, and a variable with or without an exponent. Read as a sum they are powers of the same value.
use Rattle.std.specs.Prelude.{◌==◌, ◌-◌, ◌*◌, ◌&&◌, ◌||◌, cond, if◌then◌else◌, nat_lt, nat_le, take, drop, option_map}
use Rattle.std.specs.Option.{option_map_or}
use Rattle.std.specs.List.{list_all, prefix_len}
use Rattle.std.specs.Char.{is_ascii_digit}
use Rattle.std.proofs.Common.{◌≡◌, ℕ, suc, ◌+◌, ◌≤◌, ◌<◌, List, [], ◌∷◌, ◌++◌, length, Bool, true, false, Option, None, Some, Ok, Err, refl, sym, ap, subst, ◌∙◌, arith, ne_eqb, eqb-true}
use Rattle.std.proofs.lemmas.Bool.{cond-true, cond-false, leb-true, lt-ltb, ltb-true, ltb-false}
use Rattle.std.proofs.lemmas.List.{append-nil}
use Rattle.std.proofs.Math.Seq.{take-append_seam, drop-append_seam}
use Rattle.risch_mean.specs.Element as mean
use Rattle.risch_mean.specs.Written.{written_value}
use Rattle.risch_cert.specs.Texts.{is_digits, after_digits, is_exponent, is_numbered, is_power}
use Rattle.risch_expression.specs.Words.{after_blanks, after_byte, is_digit, is_letter, is_letter_or_digit, Name, front_name, name, Numeral, more_digits, numeral}
use Rattle.risch_expression.specs.Fault.{most_number, unexpected, fault_at}
use Rattle.risch_expression.specs.Results.{and_next}
use Rattle.risch_expression.specs.Tree.{Tree, variable, root, expression_of}
use Rattle.risch_expression.specs.Grammar.{Read, Parsed, parsed, limited, number_found, wanted_number, named, variable_named, is_z, number_atom, name_atom, atom, raised, with_exponent, power_rule, product_sign, sum_sign, chain, term_rule, first_term, sum_rule, parenthesized, atom_in, power_in, term_in, sum_in}
use Rattle.risch_expression.specs.declared.fault.SyntaxFault.{SyntaxFault}
use Rattle.risch_expression.specs.declared.fault.Cause.TheVariants.{Wide, Exponent, Name as UnknownName}
use Rattle.risch_expression.specs.declared.names.Names.{Names}
use Rattle.risch_round_trip.proofs.Fronts.{after_blanks-kept, after_byte-found, AfterAtom, end-after_sum, more_digits-one, more_digits-end, prefix-none}
use Rattle.risch_round_trip.proofs.Chained.{Holds}
use Rattle.risch_round_trip.proofs.WrittenTexts.{IsUnsigned, unsigned-of, unsigned-append, no_minus, IsAtom, IsPower, IsSum, IsNumber, number-is_atom, named-is_atom, atom-is_power, raised-is_power, power-is_term, term-is_sum, sum-reads}

-- the tree that is read
tree_of : Read Parsed → Tree
tree_of (Ok p) = p.tree
tree_of (Err fault) = root

both : (a b : Bool) → (a && b) ≡ true → (a ≡ true) × (b ≡ true)
both true b h = (refl, h)
both false b h = absurd (cc)

-- ---- digits
-- the value of a number that goes on with these digits
digits_from : ℕ → List ℕ → ℕ
digits_from value [] = value
digits_from value (b ∷ bs) = digits_from (value * 10 + (b - 48)) bs

more_digits-all : (value : ℕ) (text rest : List ℕ) → list_all is_ascii_digit text ≡ true → AfterAtom rest → more_digits value (text ++ rest) ≡ record { value = digits_from value text; rest = after_blanks rest }
unfolding digits_from
more_digits-all value [] rest h after = more_digits-end value rest after
more_digits-all value (b ∷ bs) rest h after =
    let t = both (is_digit b) (list_all is_ascii_digit bs) h in
    more_digits-one value b (bs ++ rest) t.0 ∙ more_digits-all (value * 10 + (b - 48)) bs rest t.1 after

-- what digits are as a number
record IsSomeNumber (text : List ℕ) : Type 0 where
  value : ℕ
  number : IsNumber text value

digit-unsigned : (b : ℕ) (bs : List ℕ) → is_digit b ≡ true → IsUnsigned (b ∷ bs)
digit-unsigned b bs h =
    let low : 48 ≤ b = leb-true 48 b (both (nat_le 48 b) (nat_le b 57) h).0 in
    unsigned-of b bs (omega arith) (ne_eqb b 45 (λ e. omega arith))

digits-are_number : (text : List ℕ) → is_digits text ≡ true → IsSomeNumber text
unfolding numeral
digits-are_number [] h = absurd (cc)
digits-are_number (b ∷ bs) h = record {
  value = digits_from (b - 48) bs;
  number = record {
    unsigned = digit-unsigned b bs (both (is_digit b) (list_all is_ascii_digit bs) h).0;
    reads = λ rest after. first rest (both (is_digit b) (list_all is_ascii_digit bs) h).0
        ∙ ap Some (more_digits-all (b - 48) bs rest (both (is_digit b) (list_all is_ascii_digit bs) h).1 after);
  };
}
  where
    first : (rest : List ℕ) → is_digit b ≡ true → numeral ((b ∷ bs) ++ rest) ≡ Some (more_digits (b - 48) (bs ++ rest))
    first rest t = cond-true (is_digit b) (Some (more_digits (b - 48) (bs ++ rest))) None t

-- ---- digits at the front
record SplitDigits (text : List ℕ) : Type 0 where
  front : List ℕ
  is : text ≡ front ++ after_digits text
  all : list_all is_ascii_digit front ≡ true

split_digits : (text : List ℕ) → SplitDigits text
split_digits [] = record { front = []; is = refl; all = refl }
split_digits (b ∷ bs) = by_test (is_ascii_digit b) refl (split_digits bs)
  where
    by_test : (t : Bool) → is_ascii_digit b ≡ t → SplitDigits bs → SplitDigits (b ∷ bs)
    by_test true e s = record {
      front = b ∷ s.front;
      is = ap (λ r. b ∷ r) s.is ∙ ap (λ (t : Bool). b ∷ (s.front ++ (if t then after_digits bs else b ∷ bs))) (sym e);
      all = rw (e, s.all) refl;
    }
    by_test false e s = record { front = []; is = ap (λ (t : Bool). if t then after_digits bs else b ∷ bs) (sym e); all = refl }

-- ---- names
prefix-all : (text rest : List ℕ) → list_all is_ascii_digit text ≡ true → AfterAtom rest → prefix_len is_letter_or_digit (text ++ rest) ≡ length text
prefix-all [] rest h after = prefix-none rest after
prefix-all (b ∷ bs) rest h after =
    let t = both (is_digit b) (list_all is_ascii_digit bs) h in
    cond-true (is_letter_or_digit b) (1 + prefix_len is_letter_or_digit (bs ++ rest)) 0 (letter_or (is_letter b) (is_digit b) t.0)
    ∙ ap (λ n. 1 + n) (prefix-all bs rest t.1 after) ∙ one_more (length bs)
  where
    letter_or : (l d : Bool) → d ≡ true → (l || d) ≡ true
    letter_or true d e = refl
    letter_or false d e = e

    one_more : (n : ℕ) → 1 + n ≡ suc n
    one_more n = omega arith

front-sized : (text rest : List ℕ) (size : ℕ) → size ≡ length text →
    ◌≡◌ {A = Name} (record { text = take size (text ++ rest); rest = after_blanks (drop size (text ++ rest)) }) (record { text = text; rest = after_blanks rest })
front-sized text rest size e =
    ap (λ k. record { text = take k (text ++ rest); rest = after_blanks (drop k (text ++ rest)) }) e
    ∙ ap (λ t. record { text = t; rest = after_blanks (drop (length text) (text ++ rest)) }) (take-append_seam text rest)
    ∙ ap (λ t. record { text = text; rest = after_blanks t }) (drop-append_seam text rest)

-- a letter and digits are a name
lettered-prefix : (b : ℕ) (digits rest : List ℕ) → is_letter b ≡ true → list_all is_ascii_digit digits ≡ true → AfterAtom rest →
    prefix_len is_letter_or_digit (b ∷ (digits ++ rest)) ≡ length (b ∷ digits)
lettered-prefix b digits rest l h after =
    cond-true (is_letter_or_digit b) (1 + prefix_len is_letter_or_digit (digits ++ rest)) 0 (or_left (is_letter b) (is_digit b) l)
    ∙ ap (λ n. 1 + n) (prefix-all digits rest h after) ∙ one_more (length digits)
  where
    or_left : (a d : Bool) → a ≡ true → (a || d) ≡ true
    or_left true d e = refl
    or_left false d e = absurd (cc)

    one_more : (n : ℕ) → 1 + n ≡ suc n
    one_more n = omega arith

lettered-name : (b : ℕ) (digits rest : List ℕ) → is_letter b ≡ true → list_all is_ascii_digit digits ≡ true → AfterAtom rest →
    name ((b ∷ digits) ++ rest) ≡ Some (record { text = b ∷ digits; rest = after_blanks rest })
unfolding name
lettered-name b digits rest l h after =
    cond-true (is_letter b) (Some (front_name (b ∷ (digits ++ rest)))) None l
    ∙ ap Some (front-sized (b ∷ digits) rest (prefix_len is_letter_or_digit (b ∷ (digits ++ rest))) (lettered-prefix b digits rest l h after))

pub no_numeral : (b : ℕ) (rest : List ℕ) → is_digit b ≡ false → numeral (b ∷ rest) ≡ None
unfolding numeral
no_numeral b rest h = cond-false (is_digit b) (Some (more_digits (b - 48) rest)) None h

module _ (names : Names) where
  -- ---- a fault at the front ends a sum
  power_fault : (open_left : ℕ) (bytes : List ℕ) (fault : SyntaxFault) → atom_in names open_left bytes ≡ Err fault → power_in names open_left bytes ≡ Err fault
  unfolding power_in power_rule
  power_fault open_left bytes fault e = ap (λ f. and_next f (λ p. with_exponent open_left p (after_byte 94 p.rest))) e

  sum_fault : (open_left : ℕ) (bytes : List ℕ) (fault : SyntaxFault) → after_byte 45 bytes ≡ None → power_in names open_left bytes ≡ Err fault → sum_in names open_left bytes ≡ Err fault
  unfolding sum_in sum_rule term_in term_rule
  sum_fault open_left bytes fault no_sign e =
      ap (λ found. and_next (first_term (term_in names open_left) bytes found) (chain sum_sign (term_in names open_left))) no_sign
      ∙ ap (λ f. and_next (and_next f (chain product_sign (power_in names open_left))) (chain sum_sign (term_in names open_left))) e

  -- a text that is read has no fault at its front
  no_fault : {A : Type 0} (open_left : ℕ) (text : List ℕ) (v : mean.Element) (fault : SyntaxFault) → IsUnsigned text → IsSum names open_left text v →
      power_in names open_left text ≡ Err fault → A
  no_fault open_left text v fault u s e =
      let r = sum-reads names open_left text [] v s end-after_sum in
      let other : sum_in names open_left text ≡ Err fault = sum_fault open_left text fault (subst (λ t. after_byte 45 t ≡ None) (append-nil text) (no_minus text [] u)) e in
      let is : sum_in names open_left text ≡ parsed r.tree (after_blanks []) = subst (λ t. sum_in names open_left t ≡ parsed r.tree (after_blanks [])) (append-nil text) r.is in
      absurd (cc)

  -- the value is determined by the text
  same_value : (open_left : ℕ) (text : List ℕ) (v w : mean.Element) → IsSum names open_left text v → IsPower names open_left text w → w ≡ v
  unfolding tree_of
  same_value open_left text v w s p =
      let r = sum-reads names open_left text [] v s end-after_sum in
      let q = sum-reads names open_left text [] w (term-is_sum names open_left text w (power-is_term names open_left text w p)) end-after_sum in
      let trees : r.tree ≡ q.tree = same_tree r.tree q.tree (after_blanks []) (sym r.is ∙ q.is) in
      same_some w v (sym q.holds.written ∙ ap (λ t. written_value (expression_of t)) (sym trees) ∙ r.holds.written)
    where
      same_tree : (a b : Tree) (rest : List ℕ) → parsed a rest ≡ parsed b rest → a ≡ b
      same_tree a b rest e = ap tree_of e

      same_some : (a b : mean.Element) → Some a ≡ Some b → a ≡ b
      same_some a b e = cc

  power-same : (open_left : ℕ) (text : List ℕ) (v w : mean.Element) → w ≡ v → IsPower names open_left text w → IsPower names open_left text v
  power-same open_left text v w e p = subst (IsPower names open_left text) e p

  -- ---- digits alone
  wide_fault : (open_left : ℕ) (text : List ℕ) (n : ℕ) → IsNumber text n → most_number < n → atom_in names open_left text ≡ Err (fault_at text Wide)
  unfolding atom_in atom number_found
  wide_fault open_left text n d wide =
      ap (λ found. option_map_or (λ f. and_next f number_atom) (option_map (limited most_number Wide text) found) (option_map_or (name_atom names text) (name text) (parenthesized names open_left text)))
      (ap numeral (sym (append-nil text)) ∙ d.reads [] refl)
      ∙ ap (λ f. and_next f number_atom) (cond-true (nat_lt most_number n) (Err (fault_at text Wide)) _ (lt-ltb most_number n wide))

  pub digits-are_power : (open_left : ℕ) (text : List ℕ) (v : mean.Element) → is_digits text ≡ true → IsSum names open_left text v → IsPower names open_left text v
  digits-are_power open_left text v h s = let d = digits-are_number text h in by_width d.value d.number (nat_lt most_number d.value) refl
    where
      by_width : (n : ℕ) → IsNumber text n → (wide : Bool) → nat_lt most_number n ≡ wide → IsPower names open_left text v
      by_width n d true e = no_fault open_left text v (fault_at text Wide) d.unsigned s (power_fault open_left text (fault_at text Wide) (wide_fault open_left text n d (ltb-true most_number n e)))
      by_width n d false e =
          let small : n ≤ most_number = ltb-false most_number n e in
          let p = atom-is_power names open_left text _ (number-is_atom names open_left text n d (omega arith)) in
          power-same open_left text v _ (same_value open_left text v _ s p) p

  -- ---- names
  -- the tree of a known name has a value
  record HoldsSome (tree : Tree) : Type 0 where
    value : mean.Element
    holds : Holds names tree value

  variable_found : (text : List ℕ) (i : ℕ) → variable_named names.monomials text ≡ Some i → i ≤ names.monomials
  variable_found [] i h = absurd (cc)
  variable_found (b ∷ []) i h = by_test (b == 120) h
    where
      by_test : (t : Bool) → cond t (Some 0) None ≡ Some i → i ≤ names.monomials
      by_test true e = let same : 0 ≡ i = cc in omega (arith, same)
      by_test false e = absurd (cc)
  variable_found (b ∷ (d ∷ [])) i h = by_tests (b == 116) (nat_le 49 d && nat_le d 57) (nat_le (d - 48) names.monomials) refl h
    where
      by_tests : (s t u : Bool) → nat_le (d - 48) names.monomials ≡ u → cond (s && (t && u)) (Some (d - 48)) None ≡ Some i → i ≤ names.monomials
      by_tests true true true k e = let same : d - 48 ≡ i = cc in let low = leb-true (d - 48) names.monomials k in omega (arith, same, low)
      by_tests true true false k e = absurd (cc)
      by_tests true false u k e = absurd (cc)
      by_tests false t u k e = absurd (cc)
  variable_found (b ∷ (d ∷ (e ∷ es))) i h = absurd (cc)

  named_holds : (text : List ℕ) (tree : Tree) → named names text ≡ Some tree → HoldsSome tree
  unfolding named
  named_holds text tree h = by_tests names.with_z (is_z text) (variable_named names.monomials text) refl refl h
    where
      by_tests : (z w : Bool) (found : Option ℕ) → names.with_z ≡ z → variable_named names.monomials text ≡ found →
          cond (z && w) (Some root) (option_map variable found) ≡ Some tree → HoldsSome tree
      by_tests true true found f g e = let same : root ≡ tree = cc in subst HoldsSome same (record { value = mean.variable 10; holds = record { written = refl; over = f; plain = tt } })
      by_tests true false found f g e = by_found found g e
        where
          by_found : (found : Option ℕ) → variable_named names.monomials text ≡ found → option_map variable found ≡ Some tree → HoldsSome tree
          by_found None k e = absurd (cc)
          by_found (Some i) k e = let low = variable_found text i k in let same : variable i ≡ tree = cc in subst HoldsSome same (record { value = mean.variable i; holds = record { written = refl; over = omega arith; plain = tt } })
      by_tests false w found f g e = by_found found g e
        where
          by_found : (found : Option ℕ) → variable_named names.monomials text ≡ found → option_map variable found ≡ Some tree → HoldsSome tree
          by_found None k e = absurd (cc)
          by_found (Some i) k e = let low = variable_found text i k in let same : variable i ≡ tree = cc in subst HoldsSome same (record { value = mean.variable i; holds = record { written = refl; over = omega arith; plain = tt } })

  unknown_fault : (open_left : ℕ) (text exponent : List ℕ) → ((rest : List ℕ) → numeral (text ++ rest) ≡ None) →
      ((rest : List ℕ) → AfterAtom rest → name (text ++ rest) ≡ Some (record { text = text; rest = after_blanks rest })) → AfterAtom exponent → named names text ≡ None →
      atom_in names open_left (text ++ exponent) ≡ Err (fault_at (text ++ exponent) UnknownName)
  unfolding atom_in atom number_found
  unknown_fault open_left text exponent no_number is_name after unknown =
      let bytes = text ++ exponent in
      ap (λ found. option_map_or (λ f. and_next f number_atom) (option_map (limited most_number Wide bytes) found) (option_map_or (name_atom names bytes) (name bytes) (parenthesized names open_left bytes))) (no_number exponent)
      ∙ ap (λ found. option_map_or (name_atom names bytes) found (parenthesized names open_left bytes)) (is_name exponent after)
      ∙ ap (λ found. option_map_or (λ (t : Tree). parsed t (after_blanks exponent)) found (Err (fault_at bytes UnknownName))) unknown

  -- ---- exponents
  record IsFault (rule : Read Parsed) : Type 0 where
    fault : SyntaxFault
    is : rule ≡ Err fault

  large_fault : (open_left : ℕ) (digits : List ℕ) (e : ℕ) (p : Parsed) → IsNumber digits e → 9999 < e → IsFault (with_exponent open_left p (Some digits))
  unfolding wanted_number number_found
  large_fault open_left digits e p d large = by_width (nat_lt most_number e) refl
    where
      at : with_exponent open_left p (Some digits) ≡ and_next (limited 9999 Exponent digits (record { value = e; rest = after_blanks [] })) (raised p.tree)
      at = ap (λ found. and_next (option_map_or (λ (f : Read Numeral). f) (option_map (limited 9999 Exponent digits) found) (Err (unexpected open_left digits))) (raised p.tree)) (ap numeral (sym (append-nil digits)) ∙ d.reads [] refl)

      by_width : (wide : Bool) → nat_lt most_number e ≡ wide → IsFault (with_exponent open_left p (Some digits))
      by_width true w = record {
        fault = fault_at digits Wide;
        is = at ∙ ap (λ t. and_next (cond t (Err (fault_at digits Wide)) (cond (nat_lt 9999 e) (Err (fault_at digits Exponent)) (Ok (record { value = e; rest = after_blanks [] })))) (raised p.tree)) w;
      }
      by_width false w = record {
        fault = fault_at digits Exponent;
        is = at ∙ ap (λ t. and_next (cond t (Err (fault_at digits Wide)) (cond (nat_lt 9999 e) (Err (fault_at digits Exponent)) (Ok (record { value = e; rest = after_blanks [] })))) (raised p.tree)) w
            ∙ ap (λ t. and_next (cond t (Err (fault_at digits Exponent)) (Ok (record { value = e; rest = after_blanks [] }))) (raised p.tree)) (lt-ltb 9999 e large);
      }

  raised_fault : (open_left : ℕ) (text digits : List ℕ) (u : mean.Element) (e : ℕ) → IsAtom names open_left text u → IsNumber digits e → 9999 < e →
      IsFault (power_in names open_left (text ++ (94 ∷ digits)))
  unfolding power_in power_rule
  raised_fault open_left text digits u e a d large =
      let behind = 94 ∷ digits in
      let r = a.reads behind refl in
      let f = large_fault open_left digits e (record { tree = r.tree; rest = behind }) d large in
      record {
        fault = f.fault;
        is = ap (λ g. and_next g (λ p. with_exponent open_left p (after_byte 94 p.rest))) r.is
            ∙ ap (λ bytes. with_exponent open_left (record { tree = r.tree; rest = bytes }) (after_byte 94 bytes)) (after_blanks-kept 94 digits (omega arith))
            ∙ ap (with_exponent open_left (record { tree = r.tree; rest = behind })) (after_byte-found 94 digits d.unsigned.begins)
            ∙ f.is;
      }

  -- ---- a name with or without an exponent
  module _ (open_left : ℕ) (b : ℕ) (digits : List ℕ) (letter : is_letter b ≡ true) (no_digit : is_digit b ≡ false) (unsigned : IsUnsigned (b ∷ digits)) (all : list_all is_ascii_digit digits ≡ true) where
    known_atom : (tree : Tree) (u : mean.Element) → named names (b ∷ digits) ≡ Some tree → Holds names tree u → IsAtom names open_left (b ∷ digits) u
    known_atom tree u known h =
        named-is_atom names open_left (b ∷ digits) tree u unsigned (λ rest. no_numeral b (digits ++ rest) no_digit) (λ rest after. lettered-name b digits rest letter all after) known h

    exponent_power : (exponent : List ℕ) (v u : mean.Element) → is_exponent exponent ≡ true → IsSum names open_left ((b ∷ digits) ++ exponent) v → IsAtom names open_left (b ∷ digits) u →
        IsPower names open_left ((b ∷ digits) ++ exponent) v
    exponent_power [] v u h s a =
        let p = subst (λ t. IsPower names open_left t u) (sym (append-nil (b ∷ digits))) (atom-is_power names open_left (b ∷ digits) u a) in
        power-same open_left ((b ∷ digits) ++ []) v u (same_value open_left ((b ∷ digits) ++ []) v u s p) p
    exponent_power (c ∷ exponent) v u h s a =
        let t = both (c == 94) (is_digits exponent) h in
        let d = digits-are_number exponent t.1 in
        subst (λ (k : ℕ). IsSum names open_left ((b ∷ digits) ++ (k ∷ exponent)) v → IsPower names open_left ((b ∷ digits) ++ (k ∷ exponent)) v) (sym (eqb-true c 94 t.0))
        (λ r. by_size exponent d.value d.number (nat_lt 9999 d.value) refl r) s
      where
        by_size : (exponent : List ℕ) (e : ℕ) → IsNumber exponent e → (large : Bool) → nat_lt 9999 e ≡ large → IsSum names open_left ((b ∷ digits) ++ (94 ∷ exponent)) v →
            IsPower names open_left ((b ∷ digits) ++ (94 ∷ exponent)) v
        by_size exponent e d true k r =
            let f = raised_fault open_left (b ∷ digits) exponent u e a d (ltb-true 9999 e k) in
            no_fault open_left ((b ∷ digits) ++ (94 ∷ exponent)) v f.fault (unsigned-append (b ∷ digits) (94 ∷ exponent) unsigned) r f.is
        by_size exponent e d false k r =
            let low : e ≤ 9999 = ltb-false 9999 e k in
            let p = raised-is_power names open_left (b ∷ digits) exponent u e d low a in
            power-same open_left ((b ∷ digits) ++ (94 ∷ exponent)) v _ (same_value open_left ((b ∷ digits) ++ (94 ∷ exponent)) v _ r p) p

    after_exponent : (exponent : List ℕ) → is_exponent exponent ≡ true → AfterAtom exponent
    after_exponent [] h = refl
    after_exponent (c ∷ exponent) h = ap (λ k. is_letter_or_digit k) (eqb-true c 94 (both (c == 94) (is_digits exponent) h).0)

    name_power : (exponent : List ℕ) (v : mean.Element) → is_exponent exponent ≡ true → IsSum names open_left ((b ∷ digits) ++ exponent) v → IsPower names open_left ((b ∷ digits) ++ exponent) v
    name_power exponent v h s = by_known (named names (b ∷ digits)) refl
      where
        by_known : (found : Option Tree) → named names (b ∷ digits) ≡ found → IsPower names open_left ((b ∷ digits) ++ exponent) v
        by_known None k =
            let fault = fault_at ((b ∷ digits) ++ exponent) UnknownName in
            no_fault open_left ((b ∷ digits) ++ exponent) v fault (unsigned-append (b ∷ digits) exponent unsigned) s
            (power_fault open_left ((b ∷ digits) ++ exponent) fault
            (unknown_fault open_left (b ∷ digits) exponent (λ rest. no_numeral b (digits ++ rest) no_digit) (λ rest after. lettered-name b digits rest letter all after) (after_exponent exponent h) k))
        by_known (Some tree) k = let t = named_holds (b ∷ digits) tree k in exponent_power exponent v t.value h s (known_atom tree t.value k t.holds)

  -- ---- the texts
  numbered_power : (open_left : ℕ) (text : List ℕ) (v : mean.Element) → is_numbered text ≡ true → IsSum names open_left (116 ∷ text) v → IsPower names open_left (116 ∷ text) v
  numbered_power open_left [] v h s = absurd (cc)
  numbered_power open_left (d ∷ ds) v h s =
      let t = both (is_ascii_digit d) (is_exponent (after_digits ds)) h in
      let front = split_digits ds in
      let is : 116 ∷ (d ∷ ds) ≡ (116 ∷ (d ∷ front.front)) ++ after_digits ds = ap (λ r. 116 ∷ (d ∷ r)) front.is in
      subst (λ r. IsPower names open_left r v) (sym is)
      (name_power open_left 116 (d ∷ front.front) refl refl (unsigned-of 116 (d ∷ front.front) (omega arith) refl) (rw (t.0, front.all) refl) (after_digits ds) v t.1
      (subst (λ r. IsSum names open_left r v) is s))

  pub named-are_power : (open_left : ℕ) (text : List ℕ) (v : mean.Element) → is_power text ≡ true → IsSum names open_left text v → IsPower names open_left text v
  unfolding is_power
  named-are_power open_left [] v h s = absurd (cc)
  named-are_power open_left (b ∷ bs) v h s = by_tests (b == 116) (b == 120) (b == 122) refl refl refl h
    where
      single : (c : ℕ) → is_letter c ≡ true → is_digit c ≡ false → 33 ≤ c → (c == 45) ≡ false → b ≡ c → is_exponent bs ≡ true → IsPower names open_left (b ∷ bs) v
      single c letter no_digit dark other e exponent =
          subst (λ k. IsPower names open_left (k ∷ bs) v) (sym e)
          (name_power open_left c [] letter no_digit (unsigned-of c [] dark other) refl bs v exponent (subst (λ k. IsSum names open_left (k ∷ bs) v) e s))

      by_tests : (t x z : Bool) → (b == 116) ≡ t → (b == 120) ≡ x → (b == 122) ≡ z → (if t then is_numbered bs else if x || z then is_exponent bs else false) ≡ true →
          IsPower names open_left (b ∷ bs) v
      by_tests true x z e f g k =
          let is = eqb-true b 116 e in
          subst (λ c. IsPower names open_left (c ∷ bs) v) (sym is) (numbered_power open_left bs v k (subst (λ c. IsSum names open_left (c ∷ bs) v) is s))
      by_tests false true z e f g k = single 120 refl refl (omega arith) refl (eqb-true b 120 f) k
      by_tests false false true e f g k = single 122 refl refl (omega arith) refl (eqb-true b 122 g) k
      by_tests false false false e f g k = absurd (cc)
