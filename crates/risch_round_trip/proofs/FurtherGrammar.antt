-- An expression in bytes that end with a line's end is read in the same way where more bytes follow, but for the places of its divisions.
use Rattle.std.specs.Prelude.{cond, nat_lt, option_map}
use Rattle.std.specs.Option.{option_or, option_map_or}
use Rattle.std.proofs.Common.{◌≡◌, ℕ, zero, suc, ◌≤◌, ◌<◌, List, ◌++◌, length, Bool, true, false, Option, None, Some, Ok, Err, refl, sym, ap, ap₂, subst, ◌∙◌, arith}
use Rattle.std.proofs.lemmas.List.{length-append}
use Rattle.risch_expression.specs.Words.{after_byte, Name, name, Numeral, numeral}
use Rattle.risch_expression.specs.Fault.{most_number, unexpected, fault_at}
use Rattle.risch_expression.specs.Results.{and_next}
use Rattle.risch_expression.specs.Tree.{Tree, number, variable, root, negated, sum, difference, product, quotient, power}
use Rattle.risch_expression.specs.Grammar.{Read, Parsed, parsed, Rule, limited, number_found, wanted_number, named, number_atom, name_atom, atom, raised, with_exponent, power_rule, Sign, signed, product_sign, sum_sign, joined, joined_by, joined_by_sign, chain, term_rule, opposite, first_term, sum_rule, closed, opened, parenthesized, atom_in, power_in, term_in, sum_in, expression}
use Rattle.risch_expression.specs.declared.fault.Cause.{Cause}
use Rattle.risch_expression.specs.declared.fault.Cause.TheVariants.{Wide, Exponent, Name as UnknownName}
use Rattle.risch_expression.specs.declared.names.Names.{Names}
use Rattle.risch_expression.specs.declared.program.Operation.{Operation}
use Rattle.risch_expression.specs.declared.program.Operation.TheVariants.{Sum, Difference, Product, Quotient}
use Rattle.risch_round_trip.specs.RoundTrip.{EndsLine, ended_lines}
use Rattle.risch_round_trip.proofs.FurtherBytes.{ends-long, Further, byte-further, NumeralsFurther, numeral-further, further, NamesFurther, name-further}

-- ---- trees without the places of their divisions
abbrev pub unplaced : Tree → Tree
unplaced (number n) = number n
unplaced (variable i) = variable i
unplaced root = root
unplaced (negated a) = negated (unplaced a)
unplaced (sum a b) = sum (unplaced a) (unplaced b)
unplaced (difference a b) = difference (unplaced a) (unplaced b)
unplaced (product a b) = product (unplaced a) (unplaced b)
unplaced (quotient left a b) = quotient 0 (unplaced a) (unplaced b)
unplaced (power a n) = power (unplaced a) n

-- The same tree is read with more bytes behind the rest; of size bytes some were read, and they end no line.
pub record ReadFurther (size : ℕ) (bytes more : List ℕ) (p : Parsed) (value : Read Parsed) : Type 0 where
  pub tree : Tree
  pub is : value ≡ parsed tree (p.rest ++ more)
  pub same : unplaced tree ≡ unplaced p.tree
  pub ends : EndsLine p.rest
  pub shorter : length p.rest < size
  pub lines : ended_lines p.rest ≡ ended_lines bytes

-- what a rule reads does not depend on the bytes behind
abbrev pub IsFurther : Rule → Type 0
IsFurther rule = (bytes more : List ℕ) (p : Parsed) → EndsLine bytes → rule bytes ≡ Ok p → ReadFurther (length bytes) bytes more p (rule (bytes ++ more))

-- ---- numbers
limited-further : (most : ℕ) (above : Cause) (bytes others more : List ℕ) (n m : Numeral) → limited most above bytes n ≡ Ok m → (n ≡ m) × (limited most above others (further n more) ≡ Ok (further n more))
limited-further most above bytes others more n m h = by_tests (nat_lt most_number n.value) (nat_lt most n.value) h
  where
    by_tests : (s t : Bool) → cond s (Err (fault_at bytes Wide)) (cond t (Err (fault_at bytes above)) (Ok n)) ≡ Ok m →
        (n ≡ m) × (cond s (Err (fault_at others Wide)) (cond t (Err (fault_at others above)) (Ok (further n more))) ≡ Ok (further n more))
    by_tests true t e = absurd (cc)
    by_tests false true e = absurd (cc)
    by_tests false false e = (cc, refl)

pub record NumberFurther (bytes more : List ℕ) (m : Numeral) (value : Read Numeral) : Type 0 where
  pub is : value ≡ Ok (further m more)
  pub ends : EndsLine m.rest
  pub shorter : length m.rest < length bytes
  pub lines : ended_lines m.rest ≡ ended_lines bytes

pub wanted-further : (open_left most : ℕ) (above : Cause) (bytes more : List ℕ) (m : Numeral) → EndsLine bytes → wanted_number open_left most above bytes ≡ Ok m →
    NumberFurther bytes more m (wanted_number open_left most above (bytes ++ more))
unfolding wanted_number number_found
wanted-further open_left most above bytes more m ends h = by_found (numeral bytes) (numeral (bytes ++ more)) (numeral-further bytes more ends) h
  where
    by_found : (found other : Option Numeral) → NumeralsFurther bytes more found other →
        option_map_or (λ f. f) (option_map (limited most above bytes) found) (Err (unexpected open_left bytes)) ≡ Ok m →
        NumberFurther bytes more m (option_map_or (λ f. f) (option_map (limited most above (bytes ++ more)) other) (Err (unexpected open_left (bytes ++ more))))
    by_found None other f e = absurd (cc)
    by_found (Some n) other f e =
        let l = limited-further most above bytes (bytes ++ more) more n m e in
        subst (λ k. NumberFurther bytes more k (option_map_or (λ f. f) (option_map (limited most above (bytes ++ more)) other) (Err (unexpected open_left (bytes ++ more))))) l.0
        (record {
          is = ap (λ o. option_map_or (λ g. g) (option_map (limited most above (bytes ++ more)) o) (Err (unexpected open_left (bytes ++ more)))) f.1 ∙ l.1;
          ends = f.0;
          shorter = f.2;
          lines = f.3;
        })

-- ---- atoms
atom-further : (names : Names) (inside : Rule) → IsFurther inside → IsFurther (atom names inside)
unfolding atom number_found
atom-further names inside i bytes more p ends h =
    by_number (numeral bytes) (numeral (bytes ++ more)) (numeral-further bytes more ends) h
  where
    by_known : (n : Name) (found : Option Tree) → EndsLine n.rest → length n.rest < length bytes → ended_lines n.rest ≡ ended_lines bytes → option_map_or (λ tree. parsed tree n.rest) found (Err (fault_at bytes UnknownName)) ≡ Ok p →
        ReadFurther (length bytes) bytes more p (option_map_or (λ tree. parsed tree (n.rest ++ more)) found (Err (fault_at (bytes ++ more) UnknownName)))
    by_known n None e short l k = absurd (cc)
    by_known n (Some tree) e short l k =
        let is : record { tree = tree; rest = n.rest } ≡ p = same_ok (record { tree = tree; rest = n.rest }) p k in
        subst (λ q. ReadFurther (length bytes) bytes more q (parsed tree (n.rest ++ more))) is (record { tree = tree; is = refl; same = refl; ends = e; shorter = short; lines = l })
      where
        same_ok : (a b : Parsed) → ◌≡◌ {A = Read Parsed} (Ok a) (Ok b) → a ≡ b
        same_ok a b e = cc

    by_name : (found other : Option Name) → NamesFurther bytes more found other → option_map_or (name_atom names bytes) found (inside bytes) ≡ Ok p →
        ReadFurther (length bytes) bytes more p (option_map_or (name_atom names (bytes ++ more)) other (inside (bytes ++ more)))
    by_name None other f e = subst (λ o. ReadFurther (length bytes) bytes more p (option_map_or (name_atom names (bytes ++ more)) o (inside (bytes ++ more)))) (sym f) (i bytes more p ends e)
    by_name (Some n) other f e =
        subst (λ o. ReadFurther (length bytes) bytes more p (option_map_or (name_atom names (bytes ++ more)) o (inside (bytes ++ more)))) (sym f.1) (by_known n (named names n.text) f.0 f.2 f.3 e)

    by_limit : (n : Numeral) (value other : Read Numeral) → EndsLine n.rest → length n.rest < length bytes → ended_lines n.rest ≡ ended_lines bytes → ((m : Numeral) → value ≡ Ok m → (n ≡ m) × (other ≡ Ok (further n more))) →
        and_next value number_atom ≡ Ok p → ReadFurther (length bytes) bytes more p (and_next other number_atom)
    by_limit n (Ok m) other e short lines l k =
        let t = l m refl in
        let is : record { tree = number m.value; rest = m.rest } ≡ p = same_ok (record { tree = number m.value; rest = m.rest }) p k in
        subst (λ q. ReadFurther (length bytes) bytes more q (and_next other number_atom)) (ap (λ j. record { tree = number j.value; rest = j.rest }) t.0 ∙ is)
        (record { tree = number n.value; is = ap (λ o. and_next o number_atom) t.1; same = refl; ends = e; shorter = short; lines = lines })
      where
        same_ok : (a b : Parsed) → ◌≡◌ {A = Read Parsed} (Ok a) (Ok b) → a ≡ b
        same_ok a b e = cc
    by_limit n (Err fault) other e short lines l k = absurd (cc)

    by_number : (found other : Option Numeral) → NumeralsFurther bytes more found other →
        option_map_or (λ f. and_next f number_atom) (option_map (limited most_number Wide bytes) found) (option_map_or (name_atom names bytes) (name bytes) (inside bytes)) ≡ Ok p →
        ReadFurther (length bytes) bytes more p (option_map_or (λ f. and_next f number_atom) (option_map (limited most_number Wide (bytes ++ more)) other)
        (option_map_or (name_atom names (bytes ++ more)) (name (bytes ++ more)) (inside (bytes ++ more))))
    by_number None other f e =
        subst (λ o. ReadFurther (length bytes) bytes more p (option_map_or (λ g. and_next g number_atom) (option_map (limited most_number Wide (bytes ++ more)) o)
        (option_map_or (name_atom names (bytes ++ more)) (name (bytes ++ more)) (inside (bytes ++ more))))) (sym f)
        (by_name (name bytes) (name (bytes ++ more)) (name-further bytes more ends) e)
    by_number (Some n) other f e =
        subst (λ o. ReadFurther (length bytes) bytes more p (option_map_or (λ g. and_next g number_atom) (option_map (limited most_number Wide (bytes ++ more)) o)
        (option_map_or (name_atom names (bytes ++ more)) (name (bytes ++ more)) (inside (bytes ++ more))))) (sym f.1)
        (by_limit n (limited most_number Wide bytes n) (limited most_number Wide (bytes ++ more) (further n more)) f.0 f.2 f.3 (λ m k. limited-further most_number Wide bytes (bytes ++ more) more n m k) e)

-- ---- a rule, and what follows from what it reads
next-further : (rule : Rule) (next : Parsed → Read Parsed) → IsFurther rule →
    ((q p : Parsed) (tree : Tree) (more : List ℕ) → EndsLine q.rest → unplaced tree ≡ unplaced q.tree → next q ≡ Ok p → ReadFurther (suc (length q.rest)) q.rest more p (next (record { tree = tree; rest = q.rest ++ more }))) →
    IsFurther (λ bytes. and_next (rule bytes) next)
next-further rule next r n bytes more p ends h = by_first (rule bytes) refl h
  where
    by_first : (first : Read Parsed) → rule bytes ≡ first → and_next first next ≡ Ok p → ReadFurther (length bytes) bytes more p (and_next (rule (bytes ++ more)) next)
    by_first (Err fault) e k = absurd (cc)
    by_first (Ok q) e k =
        let f = r bytes more q ends e in
        let g = n q p f.tree more f.ends f.same k in
        let shorter = f.shorter in
        let less = g.shorter in
        record { tree = g.tree; is = ap (λ o. and_next o next) f.is ∙ g.is; same = g.same; ends = g.ends; shorter = omega (arith, shorter, less); lines = g.lines ∙ f.lines }

-- nothing more is read
nothing_more : (q p : Parsed) (tree : Tree) (more : List ℕ) → EndsLine q.rest → unplaced tree ≡ unplaced q.tree → ◌≡◌ {A = Read Parsed} (Ok q) (Ok p) →
    ReadFurther (suc (length q.rest)) q.rest more p (parsed tree (q.rest ++ more))
nothing_more q p tree more ends same h =
    let is : q ≡ p = cc in
    subst (λ r. ReadFurther (suc (length q.rest)) q.rest more r (parsed tree (q.rest ++ more))) is (record { tree = tree; is = refl; same = same; ends = ends; shorter = omega arith; lines = refl })

-- ---- powers
power-further : (open_left : ℕ) (base : Rule) → IsFurther base → IsFurther (power_rule open_left base)
unfolding power_rule
power-further open_left base b = next-further base (λ p. with_exponent open_left p (after_byte 94 p.rest)) b with_power
  where
    with_power : (q p : Parsed) (tree : Tree) (more : List ℕ) → EndsLine q.rest → unplaced tree ≡ unplaced q.tree → with_exponent open_left q (after_byte 94 q.rest) ≡ Ok p →
        ReadFurther (suc (length q.rest)) q.rest more p (with_exponent open_left (record { tree = tree; rest = q.rest ++ more }) (after_byte 94 (q.rest ++ more)))
    with_power q p tree more ends same h = by_found (after_byte 94 q.rest) (after_byte 94 (q.rest ++ more)) (byte-further 94 q.rest more refl ends) h
      where
        by_exponent : (rest : List ℕ) (value other : Read Numeral) → length rest < length q.rest → ended_lines rest ≡ ended_lines q.rest → ((m : Numeral) → value ≡ Ok m → NumberFurther rest more m other) →
            and_next value (raised q.tree) ≡ Ok p → ReadFurther (suc (length q.rest)) q.rest more p (and_next other (raised tree))
        by_exponent rest (Err fault) other short l f e = absurd (cc)
        by_exponent rest (Ok m) other short l f e =
            let n = f m refl in
            let is : record { tree = power q.tree m.value; rest = m.rest } ≡ p = cc in
            let less = n.shorter in
            subst (λ r. ReadFurther (suc (length q.rest)) q.rest more r (and_next other (raised tree))) is
            (record { tree = power tree m.value; is = ap (λ o. and_next o (raised tree)) n.is; same = ap (λ a. power a m.value) same; ends = n.ends; shorter = omega (arith, short, less); lines = n.lines ∙ l })

        by_found : (found other : Option (List ℕ)) → Further q.rest more found other → with_exponent open_left q found ≡ Ok p →
            ReadFurther (suc (length q.rest)) q.rest more p (with_exponent open_left (record { tree = tree; rest = q.rest ++ more }) other)
        by_found None other f e =
            subst (λ o. ReadFurther (suc (length q.rest)) q.rest more p (with_exponent open_left (record { tree = tree; rest = q.rest ++ more }) o)) (sym f) (nothing_more q p tree more ends same e)
        by_found (Some rest) other f e =
            subst (λ o. ReadFurther (suc (length q.rest)) q.rest more p (with_exponent open_left (record { tree = tree; rest = q.rest ++ more }) o)) (sym f.1)
            (by_exponent rest (wanted_number open_left 9999 Exponent rest) (wanted_number open_left 9999 Exponent (rest ++ more)) f.2 f.3 (λ m k. wanted-further open_left 9999 Exponent rest more m f.0 k) e)

-- ---- signs
-- the operations differ in their place at most
record SameOperation (a b : Operation) : Type 0 where
  joins : (s t u v : Tree) → unplaced s ≡ unplaced t → unplaced u ≡ unplaced v → unplaced (joined a s u) ≡ unplaced (joined b t v)

-- the same sign is found
abbrev SignsFurther : List ℕ → List ℕ → Option Sign → Option Sign → Type 0
SignsFurther bytes more None found = found ≡ None
SignsFurther bytes more (Some s) found =
    (operation : Operation) × EndsLine s.rest × (found ≡ Some (record { operation = operation; rest = s.rest ++ more })) × SameOperation operation s.operation × (length s.rest < length bytes) × (ended_lines s.rest ≡ ended_lines bytes)

abbrev SignIsFurther : (List ℕ → Option Sign) → Type 0
SignIsFurther sign = (bytes more : List ℕ) → EndsLine bytes → SignsFurther bytes more (sign bytes) (sign (bytes ++ more))

two-signs : (bytes more : List ℕ) (first first' second second' : Option (List ℕ)) (a b a' b' : Operation) → Further bytes more first first' → Further bytes more second second' →
    SameOperation a' a → SameOperation b' b →
    SignsFurther bytes more (option_or (option_map (signed a) first) (option_map (signed b) second)) (option_or (option_map (signed a') first') (option_map (signed b') second'))
two-signs bytes more (Some rest) first' second second' a b a' b' f g s t =
    subst (λ o. SignsFurther bytes more (Some (signed a rest)) (option_or (option_map (signed a') o) (option_map (signed b') second'))) (sym f.1) (a', f.0, refl, s, f.2, f.3)
two-signs bytes more None first' (Some rest) second' a b a' b' f g s t =
    subst (λ o. SignsFurther bytes more (Some (signed b rest)) (option_or (option_map (signed a') o) (option_map (signed b') second'))) (sym f)
    (subst (λ o. SignsFurther bytes more (Some (signed b rest)) (option_map (signed b') o)) (sym g.1) (b', g.0, refl, t, g.2, g.3))
two-signs bytes more None first' None second' a b a' b' f g s t =
    ap (λ o. option_or (option_map (signed a') o) (option_map (signed b') second')) f ∙ ap (option_map (signed b')) g

same-sum : SameOperation Sum Sum
same-sum = record { joins = λ s t u v e f. ap₂ sum e f }

same-difference : SameOperation Difference Difference
same-difference = record { joins = λ s t u v e f. ap₂ difference e f }

same-product : SameOperation Product Product
same-product = record { joins = λ s t u v e f. ap₂ product e f }

same-quotient : (left other : ℕ) → SameOperation (Quotient left) (Quotient other)
same-quotient left other = record { joins = λ s t u v e f. ap₂ (quotient 0) e f }

product_sign-further : SignIsFurther product_sign
unfolding product_sign
product_sign-further bytes more ends =
    two-signs bytes more (after_byte 42 bytes) (after_byte 42 (bytes ++ more)) (after_byte 47 bytes) (after_byte 47 (bytes ++ more)) Product (Quotient (length bytes)) Product
    (Quotient (length (bytes ++ more))) (byte-further 42 bytes more refl ends) (byte-further 47 bytes more refl ends) same-product (same-quotient (length (bytes ++ more)) (length bytes))

sum_sign-further : SignIsFurther sum_sign
unfolding sum_sign
sum_sign-further bytes more ends =
    two-signs bytes more (after_byte 43 bytes) (after_byte 43 (bytes ++ more)) (after_byte 45 bytes) (after_byte 45 (bytes ++ more)) Sum Difference Sum Difference
    (byte-further 43 bytes more refl ends) (byte-further 45 bytes more refl ends) same-sum same-difference

-- ---- chains
module _ (sign : List ℕ → Option Sign) (operand : Rule) (s : SignIsFurther sign) (o : IsFurther operand) where
  joined-further : (n m : ℕ) (q p : Parsed) (tree : Tree) (more : List ℕ) → EndsLine q.rest → unplaced tree ≡ unplaced q.tree → length q.rest ≤ n → length (q.rest ++ more) ≤ m →
      joined_by sign operand n q ≡ Ok p → ReadFurther (suc (length q.rest)) q.rest more p (joined_by sign operand m (record { tree = tree; rest = q.rest ++ more }))
  joined-further zero m q p tree more ends same low high h = let long = ends-long q.rest ends in absurd (omega (arith, long))
  joined-further (suc n) zero q p tree more ends same low high h =
      let long = ends-long q.rest ends in let whole = length-append q.rest more in absurd (omega (arith, long, whole))
  joined-further (suc n) (suc m) q p tree more ends same low high h =
      by_sign (sign q.rest) (sign (q.rest ++ more)) (s q.rest more ends)
      (λ r t e k a b c. joined-further n m r p t more e k a b c) h
    where
      by_operand : (behind : List ℕ) (a b : Operation) → EndsLine behind → length behind < length q.rest → ended_lines behind ≡ ended_lines q.rest → SameOperation b a → (value : Read Parsed) → operand behind ≡ value →
          ((r : Parsed) (t : Tree) → EndsLine r.rest → unplaced t ≡ unplaced r.tree → length r.rest ≤ n → length (r.rest ++ more) ≤ m → joined_by sign operand n r ≡ Ok p →
          ReadFurther (suc (length r.rest)) r.rest more p (joined_by sign operand m (record { tree = t; rest = r.rest ++ more }))) →
          and_next value (λ r. joined_by sign operand n (record { tree = joined a q.tree r.tree; rest = r.rest })) ≡ Ok p →
          ReadFurther (suc (length q.rest)) q.rest more p (and_next (operand (behind ++ more)) (λ r. joined_by sign operand m (record { tree = joined b tree r.tree; rest = r.rest })))
      by_operand behind a b e short l same_op (Err fault) v rest k = absurd (cc)
      by_operand behind a b e short l same_op (Ok r) v rest k =
          let f = o behind more r e v in
          let less = f.shorter in
          let whole = length-append r.rest more in
          let all = length-append q.rest more in
          let g = rest (record { tree = joined a q.tree r.tree; rest = r.rest }) (joined b tree f.tree) f.ends (same_op.joins tree q.tree f.tree r.tree same f.same)
          (omega (arith, low, short, less)) (omega (arith, high, short, less, whole, all)) k in
          let left = g.shorter in
          record {
            tree = g.tree;
            is = ap (λ v. and_next v (λ r. joined_by sign operand m (record { tree = joined b tree r.tree; rest = r.rest }))) f.is ∙ g.is;
            same = g.same;
            ends = g.ends;
            shorter = omega (arith, short, less, left);
            lines = g.lines ∙ f.lines ∙ l;
          }

      by_sign : (found other : Option Sign) → SignsFurther q.rest more found other →
          ((r : Parsed) (t : Tree) → EndsLine r.rest → unplaced t ≡ unplaced r.tree → length r.rest ≤ n → length (r.rest ++ more) ≤ m → joined_by sign operand n r ≡ Ok p →
          ReadFurther (suc (length r.rest)) r.rest more p (joined_by sign operand m (record { tree = t; rest = r.rest ++ more }))) →
          joined_by_sign operand (joined_by sign operand n) q found ≡ Ok p →
          ReadFurther (suc (length q.rest)) q.rest more p (joined_by_sign operand (joined_by sign operand m) (record { tree = tree; rest = q.rest ++ more }) other)
      by_sign None other f rest k =
          subst (λ v. ReadFurther (suc (length q.rest)) q.rest more p (joined_by_sign operand (joined_by sign operand m) (record { tree = tree; rest = q.rest ++ more }) v)) (sym f)
          (nothing_more q p tree more ends same k)
      by_sign (Some t) other f rest k =
          subst (λ v. ReadFurther (suc (length q.rest)) q.rest more p (joined_by_sign operand (joined_by sign operand m) (record { tree = tree; rest = q.rest ++ more }) v)) (sym f.2)
          (by_operand t.rest t.operation f.0 f.1 f.4 f.5 f.3 (operand t.rest) refl rest k)

  chain-further : (q p : Parsed) (tree : Tree) (more : List ℕ) → EndsLine q.rest → unplaced tree ≡ unplaced q.tree → chain sign operand q ≡ Ok p →
      ReadFurther (suc (length q.rest)) q.rest more p (chain sign operand (record { tree = tree; rest = q.rest ++ more }))
  chain-further q p tree more ends same h = joined-further (length q.rest) (length (q.rest ++ more)) q p tree more ends same (omega arith) (omega arith) h

-- ---- terms and sums
term-further : (factor : Rule) → IsFurther factor → IsFurther (term_rule factor)
unfolding term_rule
term-further factor f = next-further factor (chain product_sign factor) f (λ q p tree more ends same h. chain-further product_sign factor product_sign-further f q p tree more ends same h)

first-further : (term : Rule) → IsFurther term → IsFurther (λ bytes. first_term term bytes (after_byte 45 bytes))
first-further term t bytes more p ends h = by_found (after_byte 45 bytes) (after_byte 45 (bytes ++ more)) (byte-further 45 bytes more refl ends) h
  where
    by_found : (found other : Option (List ℕ)) → Further bytes more found other → first_term term bytes found ≡ Ok p →
        ReadFurther (length bytes) bytes more p (first_term term (bytes ++ more) other)
    by_found None other f e = subst (λ o. ReadFurther (length bytes) bytes more p (first_term term (bytes ++ more) o)) (sym f) (t bytes more p ends e)
    by_found (Some rest) other f e =
        let g = next-further term opposite t (λ q r tree rest e same k. opposite_further q r tree rest e same k) rest more p f.0 e in
        let short = g.shorter in
        let less = f.2 in
        subst (λ o. ReadFurther (length bytes) bytes more p (first_term term (bytes ++ more) o)) (sym f.1)
        (record { tree = g.tree; is = g.is; same = g.same; ends = g.ends; shorter = omega (arith, short, less); lines = g.lines ∙ f.3 })
      where
        opposite_further : (q r : Parsed) (tree : Tree) (more : List ℕ) → EndsLine q.rest → unplaced tree ≡ unplaced q.tree → opposite q ≡ Ok r →
            ReadFurther (suc (length q.rest)) q.rest more r (opposite (record { tree = tree; rest = q.rest ++ more }))
        opposite_further q r tree more e same k = nothing_more (record { tree = negated q.tree; rest = q.rest }) r (negated tree) more e (ap negated same) k

sum-further : (term : Rule) → IsFurther term → IsFurther (sum_rule term)
unfolding sum_rule
sum-further term t =
    next-further (λ bytes. first_term term bytes (after_byte 45 bytes)) (chain sum_sign term) (first-further term t)
    (λ q p tree more ends same h. chain-further sum_sign term sum_sign-further t q p tree more ends same h)

-- ---- parentheses
abbrev sum_inside : Names → ℕ → Rule
sum_inside names n = sum_rule (term_rule (power_rule n (atom names (parenthesized names n))))

parenthesized-further : (names : Names) (open_left : ℕ) → IsFurther (parenthesized names open_left)
parenthesized-further names zero bytes more p ends h = absurd (cc)
parenthesized-further names (suc n) bytes more p ends h =
    by_found (sum-further (term_rule (power_rule n (atom names (parenthesized names n)))) (term-further (power_rule n (atom names (parenthesized names n)))
    (power-further n (atom names (parenthesized names n)) (atom-further names (parenthesized names n) (parenthesized-further names n)))))
    (after_byte 40 bytes) (after_byte 40 (bytes ++ more)) (byte-further 40 bytes more refl ends) h
  where
    closed-further : (q r : Parsed) (tree : Tree) (more : List ℕ) → EndsLine q.rest → unplaced tree ≡ unplaced q.tree → closed n q ≡ Ok r →
        ReadFurther (suc (length q.rest)) q.rest more r (closed n (record { tree = tree; rest = q.rest ++ more }))
    closed-further q r tree more e same k = by_close (after_byte 41 q.rest) (after_byte 41 (q.rest ++ more)) (byte-further 41 q.rest more refl e) k
      where
        by_close : (found other : Option (List ℕ)) → Further q.rest more found other → option_map_or (parsed q.tree) found (Err (unexpected n q.rest)) ≡ Ok r →
            ReadFurther (suc (length q.rest)) q.rest more r (option_map_or (parsed tree) other (Err (unexpected n (q.rest ++ more))))
        by_close None other f l = absurd (cc)
        by_close (Some rest) other f l =
            let is : record { tree = q.tree; rest = rest } ≡ r = cc in
            let less = f.2 in
            subst (λ o. ReadFurther (suc (length q.rest)) q.rest more r (option_map_or (parsed tree) o (Err (unexpected n (q.rest ++ more))))) (sym f.1)
            (subst (λ v. ReadFurther (suc (length q.rest)) q.rest more v (parsed tree (rest ++ more))) is (record { tree = tree; is = refl; same = same; ends = f.0; shorter = omega (arith, less); lines = f.3 }))

    by_found : IsFurther (sum_inside names n) → (found other : Option (List ℕ)) → Further bytes more found other → option_map_or (opened n (sum_inside names n)) found (Err (unexpected (suc n) bytes)) ≡ Ok p →
        ReadFurther (length bytes) bytes more p (option_map_or (opened n (sum_inside names n)) other (Err (unexpected (suc n) (bytes ++ more))))
    by_found i None other f e = absurd (cc)
    by_found i (Some rest) other f e =
        let g = next-further (sum_inside names n) (closed n) i (λ q r tree rest e same k. closed-further q r tree rest e same k) rest more p f.0 e in
        let short = g.shorter in
        let less = f.2 in
        subst (λ o. ReadFurther (length bytes) bytes more p (option_map_or (opened n (sum_inside names n)) o (Err (unexpected (suc n) (bytes ++ more))))) (sym f.1)
        (record { tree = g.tree; is = g.is; same = g.same; ends = g.ends; shorter = omega (arith, short, less); lines = g.lines ∙ f.3 })

-- ---- all
pub sum_in-further : (names : Names) (open_left : ℕ) → IsFurther (sum_in names open_left)
unfolding sum_in term_in power_in atom_in
sum_in-further names open_left =
    sum-further (term_rule (power_rule open_left (atom names (parenthesized names open_left)))) (term-further (power_rule open_left (atom names (parenthesized names open_left)))
    (power-further open_left (atom names (parenthesized names open_left)) (atom-further names (parenthesized names open_left) (parenthesized-further names open_left))))

-- An expression is read in the same way where more bytes follow the line.
pub expression-further : (names : Names) → IsFurther (expression names)
unfolding expression
expression-further names = sum_in-further names 64
