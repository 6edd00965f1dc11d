-- Texts that are read as an atom, a power, a term or a sum of a value, whatever follows them.
use Rattle.std.specs.Prelude.{◌==◌, ◌^◌, if◌then◌else◌, nat_lt, codes, decimal, option_map}
use Rattle.std.specs.Option.{option_or, option_map_or}
use Rattle.std.proofs.Common.{◌≡◌, ℕ, suc, ◌≤◌, ◌<◌, List, [], ◌∷◌, ◌++◌, length, Bool, true, false, None, Some, Ok, Err, refl, sym, ap, subst, ◌∙◌, append_assoc, arith, pos, ne_eqb, eqb-true}
use Rattle.std.proofs.lemmas.Bool.{cond-false, le-ltb}
use Rattle.std.proofs.lemmas.List.{length-append}
use Rattle.risch_mean.specs.Element as mean
use Rattle.risch_mean.specs.Element.{InField, neg, integer, ◌+ₑ◌, ◌-ₑ◌, ◌*ₑ◌, ◌/ₑ◌, is_zero_test}
use Rattle.risch_mean.specs.ElementField.{◌^ₑ◌}
use Rattle.risch_mean.specs.ElementFieldLaws.{add_assoc}
use Rattle.risch_cert.specs.Printing.{is_signed}
use Rattle.risch_expression.specs.Words.{begins_with, after_blanks, after_byte, name, Numeral, numeral}
use Rattle.risch_expression.specs.Fault.{most_number, unexpected, fault_at}
use Rattle.risch_expression.specs.Results.{and_next}
use Rattle.risch_expression.specs.Tree.{Tree, number, negated, power}
use Rattle.risch_expression.specs.Grammar.{Read, Parsed, parsed, Rule, limited, number_found, wanted_number, named, number_atom, name_atom, atom, raised, with_exponent, power_rule, signed, product_sign, sum_sign, chain, term_rule, opposite, first_term, sum_rule, closed, opened, parenthesized, atom_in, power_in, term_in, sum_in}
use Rattle.risch_expression.specs.declared.fault.Cause.{Cause}
use Rattle.risch_expression.specs.declared.fault.Cause.TheVariants.{Wide, Exponent, Name as UnknownName}
use Rattle.risch_expression.specs.declared.names.Names.{Names}
use Rattle.risch_expression.specs.declared.program.Operation.TheVariants.{Sum, Difference, Product, Quotient}
use Rattle.risch_round_trip.proofs.Fronts.{after_blanks-kept, after_blanks-short, Begins, begins-append, after_byte-found, after_byte-behind, after_byte-none, AfterAtom, AfterPower, AfterTerm, AfterSum, times-after_power, over-after_power, plus-after_term, minus-after_term, close-after_sum, decimal-is_digits_of, decimal-begins, numeral-decimal}
use Rattle.risch_round_trip.proofs.Chained.{Holds, Reads, Chained, sum-combines, difference-combines, product-combines, quotient-combines, power-holds, negated-holds, chained-begin, chained-more, chained-stop, chained-same}

-- ---- texts with no sign at their front
pub record IsUnsigned (text : List ℕ) : Type 0 where
  pub begins : Begins text
  pub unsigned : is_signed text ≡ false

pub unsigned-of : (b : ℕ) (more : List ℕ) → 33 ≤ b → (b == 45) ≡ false → IsUnsigned (b ∷ more)
unsigned-of b more dark other = record { begins = record { byte = b; more = more; is = refl; dark = dark }; unsigned = other }

signed-append : (text more : List ℕ) → Begins text → is_signed (text ++ more) ≡ is_signed text
signed-append text more b = ap (λ t. is_signed (t ++ more)) b.is ∙ ap is_signed (sym b.is)

pub unsigned-append : (text more : List ℕ) → IsUnsigned text → IsUnsigned (text ++ more)
unsigned-append text more u = record { begins = begins-append text more u.begins; unsigned = signed-append text more u.begins ∙ u.unsigned }

pub no_minus : (text more : List ℕ) → IsUnsigned text → after_byte 45 (text ++ more) ≡ None
no_minus text more u = after_byte-none 45 (text ++ more) (as_signed (text ++ more) ∙ (unsigned-append text more u).unsigned)
  where
    as_signed : (t : List ℕ) → begins_with 45 t ≡ is_signed t
    as_signed [] = refl
    as_signed (b ∷ bs) = refl

-- digits
pub decimal-unsigned : (n : ℕ) → n < 10 ^ 64 → IsUnsigned (decimal n)
decimal-unsigned n h =
    let d = decimal-is_digits_of n h in
    let low = d.low in
    let other : (d.byte == 45) ≡ false = ne_eqb d.byte 45 (λ e. omega arith) in
    record { begins = decimal-begins n h; unsigned = ap is_signed d.is ∙ other }

-- the text is the number n, whatever follows it that is no digit and no letter
pub record IsNumber (text : List ℕ) (n : ℕ) : Type 0 where
  pub unsigned : IsUnsigned text
  pub reads : (rest : List ℕ) → AfterAtom rest → numeral (text ++ rest) ≡ Some (record { value = n; rest = after_blanks rest })

pub decimal-is_number : (n : ℕ) → n < 10 ^ 64 → IsNumber (decimal n) n
decimal-is_number n small = record { unsigned = decimal-unsigned n small; reads = λ rest h. numeral-decimal n rest small h }

-- behind an operand: the sign `+` unless the text has one
abbrev pub following : List ℕ → List ℕ
following text = (if is_signed text then [] else codes "+") ++ text

-- past a text of which some is left, the bytes are no more
no_longer : (text rest : List ℕ) → length (after_blanks rest) ≤ length (text ++ rest)
no_longer text rest = let short = after_blanks-short rest in let sum = length-append text rest in omega (arith, short, sum)

module _ (names : Names) where
  -- ---- an atom of value v
  pub record IsAtom (open_left : ℕ) (text : List ℕ) (v : mean.Element) : Type 0 where
    pub unsigned : IsUnsigned text
    pub reads : (rest : List ℕ) → AfterAtom rest → Reads names (atom_in names open_left (text ++ rest)) (after_blanks rest) v

  -- a power
  pub record IsPower (open_left : ℕ) (text : List ℕ) (v : mean.Element) : Type 0 where
    pub unsigned : IsUnsigned text
    pub reads : (rest : List ℕ) → AfterPower rest → Reads names (power_in names open_left (text ++ rest)) (after_blanks rest) v

  -- factors, of which more may follow
  pub record IsTerm (open_left : ℕ) (text : List ℕ) (v : mean.Element) : Type 0 where
    pub unsigned : IsUnsigned text
    pub chains : (rest : List ℕ) → AfterPower rest → Chained names product_sign (power_in names open_left) (term_in names open_left (text ++ rest)) (after_blanks rest) v

  -- terms, of which more may follow, alone or behind others
  pub record IsSum (open_left : ℕ) (text : List ℕ) (v : mean.Element) : Type 0 where
    pub begins : Begins text
    pub leads : (rest : List ℕ) → AfterTerm rest → Chained names sum_sign (term_in names open_left) (sum_in names open_left (text ++ rest)) (after_blanks rest) v
    pub follows : (value : Read Parsed) (u : mean.Element) (rest : List ℕ) → AfterTerm rest → Chained names sum_sign (term_in names open_left) value (following text ++ rest) u →
        Chained names sum_sign (term_in names open_left) value (after_blanks rest) (u +ₑ v)

  -- ---- numbers
  limited-ok : (most : ℕ) (above : Cause) (bytes : List ℕ) (n : Numeral) → n.value ≤ most_number → n.value ≤ most → limited most above bytes n ≡ Ok n
  limited-ok most above bytes n fits low =
      cond-false (nat_lt most_number n.value) (Err _) _ (le-ltb most_number n.value fits) ∙ cond-false (nat_lt most n.value) (Err _) (Ok n) (le-ltb most n.value low)

  pub number_read : (most : ℕ) (above : Cause) (text : List ℕ) (n : ℕ) (rest : List ℕ) → IsNumber text n → n < 2 ^ 127 → n ≤ most → AfterAtom rest →
      number_found most above (text ++ rest) ≡ Some (Ok (record { value = n; rest = after_blanks rest }))
  unfolding number_found
  number_read most above text n rest d small low h =
      ap (option_map (limited most above (text ++ rest))) (d.reads rest h)
      ∙ ap Some (limited-ok most above (text ++ rest) (record { value = n; rest = after_blanks rest }) (omega arith) low)

  pub number-is_atom : (open_left : ℕ) (text : List ℕ) (n : ℕ) → IsNumber text n → n < 2 ^ 127 → IsAtom open_left text (integer (pos n))
  unfolding atom_in atom
  number-is_atom open_left text n d small = record {
    unsigned = d.unsigned;
    reads = λ rest h. record {
      tree = number n;
      is = ap (λ found. option_map_or (λ f. and_next f number_atom) found (option_map_or (name_atom names (text ++ rest)) (name (text ++ rest)) (parenthesized names open_left (text ++ rest))))
          (number_read most_number Wide text n rest d small (omega arith) h);
      holds = record { written = refl; over = small; plain = tt };
    };
  }

  -- ---- names
  pub named-is_atom : (open_left : ℕ) (text : List ℕ) (tree : Tree) (v : mean.Element) → IsUnsigned text → ((rest : List ℕ) → numeral (text ++ rest) ≡ None) →
      ((rest : List ℕ) → AfterAtom rest → name (text ++ rest) ≡ Some (record { text = text; rest = after_blanks rest })) → named names text ≡ Some tree → Holds names tree v → IsAtom open_left text v
  unfolding atom_in atom number_found
  named-is_atom open_left text tree v u no_number is_name known holds = record {
    unsigned = u;
    reads = λ rest h. record {
      tree = tree;
      is = ap (λ found. option_map_or (λ f. and_next f number_atom) (option_map (limited most_number Wide (text ++ rest)) found) (option_map_or (name_atom names (text ++ rest)) (name (text ++ rest)) (parenthesized names open_left (text ++ rest))))
          (no_number rest)
          ∙ ap (λ found. option_map_or (name_atom names (text ++ rest)) found (parenthesized names open_left (text ++ rest))) (is_name rest h)
          ∙ ap (λ found. option_map_or (λ (t : Tree). parsed t (after_blanks rest)) found (Err (fault_at (text ++ rest) UnknownName))) known;
      holds = holds;
    };
  }

  -- ---- powers
  pub atom-is_power : (open_left : ℕ) (text : List ℕ) (v : mean.Element) → IsAtom open_left text v → IsPower open_left text v
  unfolding power_in power_rule
  atom-is_power open_left text v a = record {
    unsigned = a.unsigned;
    reads = λ rest h.
        let r = a.reads rest h.atom in
        record {
          tree = r.tree;
          is = ap (λ f. and_next f (λ p. with_exponent open_left p (after_byte 94 p.rest))) r.is
              ∙ ap (with_exponent open_left (record { tree = r.tree; rest = after_blanks rest })) (after_byte-none 94 (after_blanks rest) h.no_power);
          holds = r.holds;
        };
  }

  exponent_read : (open_left : ℕ) (text : List ℕ) (e : ℕ) (p : Parsed) (rest : List ℕ) → IsNumber text e → e ≤ 9999 → AfterAtom rest →
      with_exponent open_left p (Some (text ++ rest)) ≡ parsed (power p.tree e) (after_blanks rest)
  unfolding wanted_number
  exponent_read open_left text e p rest d low h =
      ap (λ found. and_next (option_map_or (λ f. f) found (Err (unexpected open_left (text ++ rest)))) (raised p.tree)) (number_read 9999 Exponent text e rest d (omega arith) low h)

  pub raised-is_power : (open_left : ℕ) (text digits : List ℕ) (v : mean.Element) (e : ℕ) → IsNumber digits e → e ≤ 9999 → IsAtom open_left text v → IsPower open_left (text ++ (94 ∷ digits)) (v ^ₑ e)
  unfolding power_in power_rule
  raised-is_power open_left text digits v e d low a = record {
    unsigned = unsigned-append text (94 ∷ digits) a.unsigned;
    reads = λ rest h.
        let behind = 94 ∷ (digits ++ rest) in
        let r = a.reads behind refl in
        let kept : after_blanks behind ≡ behind = after_blanks-kept 94 (digits ++ rest) (omega arith) in
        record {
          tree = power r.tree e;
          is = ap (λ bytes. power_rule open_left (atom_in names open_left) bytes) (append_assoc text (94 ∷ digits) rest)
              ∙ ap (λ f. and_next f (λ p. with_exponent open_left p (after_byte 94 p.rest))) r.is
              ∙ ap (λ bytes. with_exponent open_left (record { tree = r.tree; rest = bytes }) (after_byte 94 bytes)) kept
              ∙ ap (with_exponent open_left (record { tree = r.tree; rest = behind })) (after_byte-found 94 (digits ++ rest) (begins-append digits rest d.unsigned.begins))
              ∙ exponent_read open_left digits e (record { tree = r.tree; rest = behind }) rest d low h.atom;
          holds = power-holds names r.tree e v r.holds;
        };
  }

  -- ---- terms
  pub power-is_term : (open_left : ℕ) (text : List ℕ) (v : mean.Element) → IsPower open_left text v → IsTerm open_left text v
  unfolding term_in term_rule
  power-is_term open_left text v p = record {
    unsigned = p.unsigned;
    chains = λ rest h. chained-begin names product_sign (power_in names open_left) (power_in names open_left (text ++ rest)) (after_blanks rest) v (p.reads rest h);
  }

  times_sign : (behind : List ℕ) → Begins behind → product_sign (42 ∷ behind) ≡ Some (record { operation = Product; rest = behind })
  unfolding product_sign
  times_sign behind b = ap (λ found. option_or (option_map (signed Product) found) (option_map (signed (Quotient (length (42 ∷ behind)))) (after_byte 47 (42 ∷ behind)))) (after_byte-found 42 behind b)

  over_sign : (behind : List ℕ) → Begins behind → product_sign (47 ∷ behind) ≡ Some (record { operation = Quotient (length (47 ∷ behind)); rest = behind })
  unfolding product_sign
  over_sign behind b =
      ap (λ found. option_or (option_map (signed Product) found) (option_map (signed (Quotient (length (47 ∷ behind)))) (after_byte 47 (47 ∷ behind)))) (after_byte-none 42 (47 ∷ behind) refl)
      ∙ ap (option_map (signed (Quotient (length (47 ∷ behind))))) (after_byte-found 47 behind b)

  pub times-is_term : (open_left : ℕ) (text next : List ℕ) (u v : mean.Element) → IsTerm open_left text u → IsPower open_left next v → IsTerm open_left (text ++ (42 ∷ next)) (u *ₑ v)
  times-is_term open_left text next u v t p = record {
    unsigned = unsigned-append text (42 ∷ next) t.unsigned;
    chains = λ rest h.
        let behind = next ++ rest in
        let c = t.chains (42 ∷ behind) (times-after_power behind) in
        subst (λ bytes. Chained names product_sign (power_in names open_left) (term_in names open_left bytes) (after_blanks rest) (u *ₑ v)) (sym (append_assoc text (42 ∷ next) rest))
        (chained-more names product_sign (power_in names open_left) (term_in names open_left (text ++ (42 ∷ behind))) (42 ∷ behind) behind (after_blanks rest) Product u v (u *ₑ v)
        (subst (λ bytes. Chained names product_sign (power_in names open_left) (term_in names open_left (text ++ (42 ∷ behind))) bytes u) (after_blanks-kept 42 behind (omega arith)) c)
        (times_sign behind (begins-append next rest p.unsigned.begins)) (omega arith) (p.reads rest h) (no_longer next rest) (product-combines names u v));
  }

  pub over-is_term : (open_left : ℕ) (text next : List ℕ) (u v : mean.Element) → IsTerm open_left text u → IsPower open_left next v → is_zero_test v ≡ false → InField 5 v →
      IsTerm open_left (text ++ (47 ∷ next)) (u /ₑ v)
  over-is_term open_left text next u v t p some inside = record {
    unsigned = unsigned-append text (47 ∷ next) t.unsigned;
    chains = λ rest h.
        let behind = next ++ rest in
        let c = t.chains (47 ∷ behind) (over-after_power behind) in
        subst (λ bytes. Chained names product_sign (power_in names open_left) (term_in names open_left bytes) (after_blanks rest) (u /ₑ v)) (sym (append_assoc text (47 ∷ next) rest))
        (chained-more names product_sign (power_in names open_left) (term_in names open_left (text ++ (47 ∷ behind))) (47 ∷ behind) behind (after_blanks rest) (Quotient (length (47 ∷ behind))) u v (u /ₑ v)
        (subst (λ bytes. Chained names product_sign (power_in names open_left) (term_in names open_left (text ++ (47 ∷ behind))) bytes u) (after_blanks-kept 47 behind (omega arith)) c)
        (over_sign behind (begins-append next rest p.unsigned.begins)) (omega arith) (p.reads rest h) (no_longer next rest) (quotient-combines names (length (47 ∷ behind)) u v some inside));
  }

  no_product_sign : (rest : List ℕ) → AfterTerm rest → product_sign (after_blanks rest) ≡ None
  unfolding product_sign
  no_product_sign rest h =
      ap (λ found. option_or (option_map (signed Product) found) (option_map (signed (Quotient (length (after_blanks rest)))) (after_byte 47 (after_blanks rest)))) (after_byte-none 42 (after_blanks rest) h.no_times)
      ∙ ap (option_map (signed (Quotient (length (after_blanks rest))))) (after_byte-none 47 (after_blanks rest) h.no_over)

  pub term-reads : (open_left : ℕ) (text rest : List ℕ) (v : mean.Element) → IsTerm open_left text v → AfterTerm rest → Reads names (term_in names open_left (text ++ rest)) (after_blanks rest) v
  term-reads open_left text rest v t h =
      chained-stop names product_sign (power_in names open_left) (term_in names open_left (text ++ rest)) (after_blanks rest) v (t.chains rest h.power) (no_product_sign rest h)

  pub term-same : (open_left : ℕ) (text : List ℕ) (u v : mean.Element) → u ≡ v → IsTerm open_left text u → IsTerm open_left text v
  term-same open_left text u v e t = subst (IsTerm open_left text) e t

  -- ---- sums
  plus_sign : (behind : List ℕ) → Begins behind → sum_sign (43 ∷ behind) ≡ Some (record { operation = Sum; rest = behind })
  unfolding sum_sign
  plus_sign behind b = ap (λ found. option_or (option_map (signed Sum) found) (option_map (signed Difference) (after_byte 45 (43 ∷ behind)))) (after_byte-found 43 behind b)

  minus_sign : (behind : List ℕ) → Begins behind → sum_sign (45 ∷ behind) ≡ Some (record { operation = Difference; rest = behind })
  unfolding sum_sign
  minus_sign behind b =
      ap (λ found. option_or (option_map (signed Sum) found) (option_map (signed Difference) (after_byte 45 (45 ∷ behind)))) (after_byte-none 43 (45 ∷ behind) refl)
      ∙ ap (option_map (signed Difference)) (after_byte-found 45 behind b)

  pub term-is_sum : (open_left : ℕ) (text : List ℕ) (v : mean.Element) → IsTerm open_left text v → IsSum open_left text v
  unfolding sum_in sum_rule
  term-is_sum open_left text v t = record {
    begins = t.unsigned.begins;
    leads = λ rest h.
        subst (λ f. Chained names sum_sign (term_in names open_left) (and_next f (chain sum_sign (term_in names open_left))) (after_blanks rest) v)
        (sym (ap (first_term (term_in names open_left) (text ++ rest)) (no_minus text rest t.unsigned)))
        (chained-begin names sum_sign (term_in names open_left) (term_in names open_left (text ++ rest)) (after_blanks rest) v (term-reads open_left text rest v t h));
    follows = λ value u rest h c.
        let is : following text ++ rest ≡ 43 ∷ (text ++ rest) = ap (λ s. ((if s then [] else codes "+") ++ text) ++ rest) t.unsigned.unsigned in
        chained-more names sum_sign (term_in names open_left) value (43 ∷ (text ++ rest)) (text ++ rest) (after_blanks rest) Sum u v (u +ₑ v)
        (subst (λ bytes. Chained names sum_sign (term_in names open_left) value bytes u) is c)
        (plus_sign (text ++ rest) (begins-append text rest t.unsigned.begins)) (omega arith) (term-reads open_left text rest v t h) (no_longer text rest) (sum-combines names u v);
  }

  pub opposite-is_sum : (open_left : ℕ) (text : List ℕ) (v : mean.Element) → IsTerm open_left text v → IsSum open_left (45 ∷ text) (neg v)
  unfolding sum_in sum_rule
  opposite-is_sum open_left text v t = record {
    begins = record { byte = 45; more = text; is = refl; dark = omega arith };
    leads = λ rest h.
        let r = term-reads open_left text rest v t h in
        let first : first_term (term_in names open_left) (45 ∷ (text ++ rest)) (after_byte 45 (45 ∷ (text ++ rest))) ≡ parsed (negated r.tree) (after_blanks rest)
        = ap (first_term (term_in names open_left) (45 ∷ (text ++ rest))) (after_byte-found 45 (text ++ rest) (begins-append text rest t.unsigned.begins))
        ∙ ap (λ f. and_next f opposite) r.is in
        chained-begin names sum_sign (term_in names open_left) (first_term (term_in names open_left) (45 ∷ (text ++ rest)) (after_byte 45 (45 ∷ (text ++ rest)))) (after_blanks rest) (neg v)
        (record { tree = negated r.tree; is = first; holds = negated-holds names r.tree v r.holds });
    follows = λ value u rest h c.
        chained-more names sum_sign (term_in names open_left) value (45 ∷ (text ++ rest)) (text ++ rest) (after_blanks rest) Difference u v (u +ₑ neg v)
        c (minus_sign (text ++ rest) (begins-append text rest t.unsigned.begins)) (omega arith) (term-reads open_left text rest v t h) (no_longer text rest) (difference-combines names u v);
  }

  -- behind an operand a text begins with a sign
  record IsSigned (text rest : List ℕ) (sign : Bool) : Type 0 where
    after : AfterTerm (((if sign then [] else codes "+") ++ text) ++ rest)
    kept : after_blanks (((if sign then [] else codes "+") ++ text) ++ rest) ≡ ((if sign then [] else codes "+") ++ text) ++ rest

  abbrev IsFollowing : List ℕ → List ℕ → Type 0
  IsFollowing text rest = IsSigned text rest (is_signed text)

  following-is : (text rest : List ℕ) → Begins text → IsFollowing text rest
  following-is text rest b = subst (λ t. IsFollowing t rest) (sym b.is) (by_test (b.byte == 45) refl)
    where
      plus : IsSigned (b.byte ∷ b.more) rest false
      plus = record { after = plus-after_term ((b.byte ∷ b.more) ++ rest); kept = after_blanks-kept 43 ((b.byte ∷ b.more) ++ rest) (omega arith) }

      minus : (b.byte == 45) ≡ true → IsSigned (b.byte ∷ b.more) rest true
      minus e =
          let same : 45 ≡ b.byte = sym (eqb-true b.byte 45 e) in
          subst (λ c. IsSigned (c ∷ b.more) rest true) same (record { after = minus-after_term (b.more ++ rest); kept = after_blanks-kept 45 (b.more ++ rest) (omega arith) })

      by_test : (s : Bool) → (b.byte == 45) ≡ s → IsFollowing (b.byte ∷ b.more) rest
      by_test true e = subst (λ s. IsSigned (b.byte ∷ b.more) rest s) (sym e) (minus e)
      by_test false e = subst (λ s. IsSigned (b.byte ∷ b.more) rest s) (sym e) plus

  pub add-is_sum : (open_left : ℕ) (higher term : List ℕ) (u v : mean.Element) → IsSum open_left higher u → IsSum open_left term v → IsSum open_left (higher ++ following term) (u +ₑ v)
  add-is_sum open_left higher term u v l m = record {
    begins = begins-append higher (following term) l.begins;
    leads = λ rest h.
        let f = following-is term rest m.begins in
        subst (λ bytes. Chained names sum_sign (term_in names open_left) (sum_in names open_left bytes) (after_blanks rest) (u +ₑ v)) (sym (append_assoc higher (following term) rest))
        (m.follows (sum_in names open_left (higher ++ (following term ++ rest))) u rest h
        (subst (λ bytes. Chained names sum_sign (term_in names open_left) (sum_in names open_left (higher ++ (following term ++ rest))) bytes u) f.kept
        (l.leads (following term ++ rest) f.after)));
    follows = λ value w rest h c.
        let f = following-is term rest m.begins in
        let is : following (higher ++ following term) ++ rest ≡ following higher ++ (following term ++ rest)
        = ap (λ s. ((if s then [] else codes "+") ++ (higher ++ following term)) ++ rest) (signed-append higher (following term) l.begins)
        ∙ simp append_assoc in
        chained-same names sum_sign (term_in names open_left) value (after_blanks rest) ((w +ₑ u) +ₑ v) (w +ₑ (u +ₑ v)) (add_assoc w u v)
        (m.follows value (w +ₑ u) rest h
        (subst (λ bytes. Chained names sum_sign (term_in names open_left) value bytes (w +ₑ u)) f.kept
        (l.follows value w (following term ++ rest) f.after (subst (λ bytes. Chained names sum_sign (term_in names open_left) value bytes w) is c))));
  }

  no_sum_sign : (rest : List ℕ) → AfterSum rest → sum_sign (after_blanks rest) ≡ None
  unfolding sum_sign
  no_sum_sign rest h =
      ap (λ found. option_or (option_map (signed Sum) found) (option_map (signed Difference) (after_byte 45 (after_blanks rest)))) (after_byte-none 43 (after_blanks rest) h.no_plus)
      ∙ ap (option_map (signed Difference)) (after_byte-none 45 (after_blanks rest) h.no_minus)

  -- a sum of value v is read, and what follows it is at hand
  pub sum-reads : (open_left : ℕ) (text rest : List ℕ) (v : mean.Element) → IsSum open_left text v → AfterSum rest → Reads names (sum_in names open_left (text ++ rest)) (after_blanks rest) v
  sum-reads open_left text rest v t h =
      chained-stop names sum_sign (term_in names open_left) (sum_in names open_left (text ++ rest)) (after_blanks rest) v (t.leads rest h.term) (no_sum_sign rest h)

  pub sum-same : (open_left : ℕ) (text : List ℕ) (u v : mean.Element) → u ≡ v → IsSum open_left text u → IsSum open_left text v
  sum-same open_left text u v e t = subst (IsSum open_left text) e t

  -- ---- parentheses
  abbrev sum_in_is : ℕ → Rule
  sum_in_is open_left = sum_rule (term_rule (power_rule open_left (atom names (parenthesized names open_left))))

  read_is : (open_left : ℕ) (bytes : List ℕ) → sum_in_is open_left bytes ≡ sum_in names open_left bytes
  unfolding sum_in term_in power_in atom_in
  read_is open_left bytes = refl

  pub enclosed-is_atom : (open_left : ℕ) (text : List ℕ) (v : mean.Element) → IsSum open_left text v → IsAtom (suc open_left) (40 ∷ (text ++ (41 ∷ []))) v
  unfolding atom_in atom number_found numeral name
  enclosed-is_atom open_left text v s = record {
    unsigned = unsigned-of 40 (text ++ (41 ∷ [])) (omega arith) refl;
    reads = λ rest h.
        let r = sum-reads open_left text (41 ∷ rest) v s (close-after_sum rest) in
        let inside = (text ++ (41 ∷ [])) ++ rest in
        let is : inside ≡ text ++ (41 ∷ rest) = append_assoc text (41 ∷ []) rest in
        record {
          tree = r.tree;
          is = ap (λ found. option_map_or (opened open_left (sum_in_is open_left)) found (Err (unexpected (suc open_left) (40 ∷ inside)))) (after_byte-found 40 inside (begins-append (text ++ (41 ∷ [])) rest (begins-append text (41 ∷ []) s.begins)))
              ∙ ap (λ bytes. and_next (sum_in_is open_left bytes) (closed open_left)) is
              ∙ ap (λ f. and_next f (closed open_left)) (read_is open_left (text ++ (41 ∷ rest)) ∙ r.is)
              ∙ ap (λ bytes. closed open_left (record { tree = r.tree; rest = bytes })) (after_blanks-kept 41 rest (omega arith))
              ∙ ap (λ found. option_map_or (parsed r.tree) found (Err (unexpected open_left (41 ∷ rest)))) (after_byte-behind 41 rest);
          holds = r.holds;
        };
  }
