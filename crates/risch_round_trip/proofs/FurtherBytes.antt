-- What is read from bytes that end with a line's end does not depend on the bytes behind them, but for the places of divisions. No line's end is passed.
use Rattle.std.specs.Prelude.{◌==◌, ◌-◌, ◌*◌, ◌||◌, cond, take, drop}
use Rattle.std.specs.List.{prefix_len}
use Rattle.std.proofs.Common.{◌≡◌, ℕ, zero, suc, ◌+◌, ◌≤◌, ◌<◌, List, [], ◌∷◌, ◌++◌, length, Bool, true, false, Option, None, Some, refl, sym, ap, subst, ◌∙◌, arith, eqb-true}
use Rattle.std.proofs.lemmas.Bool.{cond-false}
use Rattle.std.proofs.lemmas.List.{take-append-le, drop-append-le}
use Rattle.risch_expression.specs.Words.{is_blank, after_blanks, after_byte, is_digit, is_letter, is_letter_or_digit, Name, front_name, name, Numeral, more_digits, numeral}
use Rattle.risch_round_trip.proofs.Fronts.{after_blanks-short}
use Rattle.risch_round_trip.specs.RoundTrip.{EndsLine, ended_lines}

pub ends-long : (bytes : List ℕ) → EndsLine bytes → 0 < length bytes
ends-long [] h = absurd h
ends-long (b ∷ bs) h = omega arith

-- ---- blanks
pub blanks-ends : (bytes : List ℕ) → EndsLine bytes → EndsLine (after_blanks bytes)
unfolding after_blanks
blanks-ends [] h = absurd h
blanks-ends (b ∷ []) h = subst (λ c. EndsLine (after_blanks (c ∷ []))) (sym h) refl
blanks-ends (b ∷ (c ∷ bs)) h = by_test (is_blank b (c ∷ bs)) (blanks-ends (c ∷ bs) h)
  where
    by_test : (t : Bool) → EndsLine (after_blanks (c ∷ bs)) → EndsLine (cond t (after_blanks (c ∷ bs)) (b ∷ (c ∷ bs)))
    by_test true e = e
    by_test false e = h

pub blanks-further : (bytes more : List ℕ) → EndsLine bytes → after_blanks (bytes ++ more) ≡ after_blanks bytes ++ more
unfolding after_blanks
blanks-further [] more h = absurd h
blanks-further (b ∷ []) more h = subst (λ c. after_blanks (c ∷ more) ≡ after_blanks (c ∷ []) ++ more) (sym h) refl
blanks-further (b ∷ (c ∷ bs)) more h = by_test (is_blank b (c ∷ bs)) (blanks-further (c ∷ bs) more h)
  where
    by_test : (t : Bool) → after_blanks ((c ∷ bs) ++ more) ≡ after_blanks (c ∷ bs) ++ more →
        cond t (after_blanks ((c ∷ bs) ++ more)) ((b ∷ (c ∷ bs)) ++ more) ≡ cond t (after_blanks (c ∷ bs)) (b ∷ (c ∷ bs)) ++ more
    by_test true e = e
    by_test false e = refl

-- a blank ends no line
blank-inside : (b : ℕ) (bs : List ℕ) → is_blank b bs ≡ true → (b == 10) ≡ false
blank-inside b bs h = by_test (b == 10) refl
  where
    by_test : (t : Bool) → (b == 10) ≡ t → t ≡ false
    by_test true e =
        let other : is_blank b bs ≡ false = ap (λ c. is_blank c bs) (eqb-true b 10 e) in
        cc
    by_test false e = refl

-- one byte that ends no line
pub inside-lines : (b : ℕ) (bs : List ℕ) → (b == 10) ≡ false → ended_lines (b ∷ bs) ≡ ended_lines bs
inside-lines b bs h = cond-false (b == 10) (suc (ended_lines bs)) (ended_lines bs) h

pub blanks-lines : (bytes : List ℕ) → ended_lines (after_blanks bytes) ≡ ended_lines bytes
unfolding after_blanks
blanks-lines [] = refl
blanks-lines (b ∷ bs) = by_test (is_blank b bs) refl (blanks-lines bs)
  where
    by_test : (t : Bool) → is_blank b bs ≡ t → ended_lines (after_blanks bs) ≡ ended_lines bs → ended_lines (cond t (after_blanks bs) (b ∷ bs)) ≡ ended_lines (b ∷ bs)
    by_test true e h = h ∙ sym (inside-lines b bs (blank-inside b bs e))
    by_test false e h = refl

-- ---- a byte
-- the same is found, with more bytes behind it; what is found is behind at least one byte, in the same line
abbrev pub Further : List ℕ → List ℕ → Option (List ℕ) → Option (List ℕ) → Type 0
Further bytes more None found = found ≡ None
Further bytes more (Some rest) found = EndsLine rest × (found ≡ Some (rest ++ more)) × (length rest < length bytes) × (ended_lines rest ≡ ended_lines bytes)

-- a byte other than 10 is no line's end
pub byte-inside : (b byte : ℕ) → (10 == byte) ≡ false → (b == byte) ≡ true → (b == 10) ≡ false
byte-inside b byte other e = by_test (b == 10) refl
  where
    by_test : (t : Bool) → (b == 10) ≡ t → t ≡ false
    by_test true h = let same : (10 == byte) ≡ true = ap (λ c. c == byte) (sym (eqb-true b 10 h)) ∙ e in cc
    by_test false h = refl

pub byte-further : (byte : ℕ) (bytes more : List ℕ) → (10 == byte) ≡ false → EndsLine bytes → Further bytes more (after_byte byte bytes) (after_byte byte (bytes ++ more))
unfolding after_byte
byte-further byte [] more other h = absurd h
byte-further byte (b ∷ []) more other h =
    subst (λ c. Further (c ∷ []) more (cond (c == byte) (Some (after_blanks [])) None) (cond (c == byte) (Some (after_blanks more)) None)) (sym h)
    (subst (λ (t : Bool). Further (10 ∷ []) more (cond t (Some (after_blanks [])) None) (cond t (Some (after_blanks more)) None)) (sym other) refl)
byte-further byte (b ∷ (c ∷ bs)) more other h = by_test (b == byte) refl
  where
    by_test : (t : Bool) → (b == byte) ≡ t → Further (b ∷ (c ∷ bs)) more (cond t (Some (after_blanks (c ∷ bs))) None) (cond t (Some (after_blanks ((c ∷ bs) ++ more))) None)
    by_test true e = (
      blanks-ends (c ∷ bs) h,
      ap Some (blanks-further (c ∷ bs) more h),
      let short = after_blanks-short (c ∷ bs) in omega (arith, short),
      blanks-lines (c ∷ bs) ∙ sym (inside-lines b (c ∷ bs) (byte-inside b byte other e)),
    )
    by_test false e = refl

-- ---- numbers
abbrev pub further : Numeral → List ℕ → Numeral
further n more = record { value = n.value; rest = n.rest ++ more }

pub record NumeralFurther (bytes more : List ℕ) (n : Numeral) (found : Numeral) : Type 0 where
  pub ends : EndsLine n.rest
  pub is : found ≡ further n more
  pub shorter : length n.rest ≤ length bytes
  pub lines : ended_lines n.rest ≡ ended_lines bytes

digit-inside : (b : ℕ) → is_digit b ≡ true → (b == 10) ≡ false
digit-inside b h = by_test (b == 10) refl
  where
    by_test : (t : Bool) → (b == 10) ≡ t → t ≡ false
    by_test true e = let other : is_digit b ≡ false = ap is_digit (eqb-true b 10 e) in cc
    by_test false e = refl

more_digits-further : (value : ℕ) (bytes more : List ℕ) → EndsLine bytes → NumeralFurther bytes more (more_digits value bytes) (more_digits value (bytes ++ more))
unfolding more_digits
more_digits-further value [] more h = absurd h
more_digits-further value (b ∷ []) more h =
    subst (λ c. NumeralFurther (c ∷ []) more (cond (is_digit c) (more_digits (value * 10 + (c - 48)) []) (record { value = value; rest = after_blanks (c ∷ []) }))
    (cond (is_digit c) (more_digits (value * 10 + (c - 48)) more) (record { value = value; rest = after_blanks (c ∷ more) }))) (sym h)
    (record {
      ends = blanks-ends (10 ∷ []) refl;
      is = ap (λ rest. record { value = value; rest = rest }) (blanks-further (10 ∷ []) more refl);
      shorter = after_blanks-short (10 ∷ []);
      lines = blanks-lines (10 ∷ []);
    })
more_digits-further value (b ∷ (c ∷ bs)) more h = by_test (is_digit b) refl (more_digits-further (value * 10 + (b - 48)) (c ∷ bs) more h)
  where
    by_test : (t : Bool) → is_digit b ≡ t → NumeralFurther (c ∷ bs) more (more_digits (value * 10 + (b - 48)) (c ∷ bs)) (more_digits (value * 10 + (b - 48)) ((c ∷ bs) ++ more)) →
        NumeralFurther (b ∷ (c ∷ bs)) more (cond t (more_digits (value * 10 + (b - 48)) (c ∷ bs)) (record { value = value; rest = after_blanks (b ∷ (c ∷ bs)) }))
        (cond t (more_digits (value * 10 + (b - 48)) ((c ∷ bs) ++ more)) (record { value = value; rest = after_blanks ((b ∷ (c ∷ bs)) ++ more) }))
    by_test true d e = let short = e.shorter in record { ends = e.ends; is = e.is; shorter = omega (arith, short); lines = e.lines ∙ sym (inside-lines b (c ∷ bs) (digit-inside b d)) }
    by_test false d e = record {
      ends = blanks-ends (b ∷ (c ∷ bs)) h;
      is = ap (λ rest. record { value = value; rest = rest }) (blanks-further (b ∷ (c ∷ bs)) more h);
      shorter = after_blanks-short (b ∷ (c ∷ bs));
      lines = blanks-lines (b ∷ (c ∷ bs));
    }

abbrev pub NumeralsFurther : List ℕ → List ℕ → Option Numeral → Option Numeral → Type 0
NumeralsFurther bytes more None found = found ≡ None
NumeralsFurther bytes more (Some n) found = EndsLine n.rest × (found ≡ Some (further n more)) × (length n.rest < length bytes) × (ended_lines n.rest ≡ ended_lines bytes)

pub numeral-further : (bytes more : List ℕ) → EndsLine bytes → NumeralsFurther bytes more (numeral bytes) (numeral (bytes ++ more))
unfolding numeral
numeral-further [] more h = absurd h
numeral-further (b ∷ []) more h =
    subst (λ c. NumeralsFurther (c ∷ []) more (cond (is_digit c) (Some (more_digits (c - 48) [])) None) (cond (is_digit c) (Some (more_digits (c - 48) more)) None)) (sym h) refl
numeral-further (b ∷ (c ∷ bs)) more h = by_test (is_digit b) refl (more_digits-further (b - 48) (c ∷ bs) more h)
  where
    by_test : (t : Bool) → is_digit b ≡ t → NumeralFurther (c ∷ bs) more (more_digits (b - 48) (c ∷ bs)) (more_digits (b - 48) ((c ∷ bs) ++ more)) →
        NumeralsFurther (b ∷ (c ∷ bs)) more (cond t (Some (more_digits (b - 48) (c ∷ bs))) None) (cond t (Some (more_digits (b - 48) ((c ∷ bs) ++ more))) None)
    by_test true d e = let short = e.shorter in (e.ends, ap Some e.is, omega (arith, short), e.lines ∙ sym (inside-lines b (c ∷ bs) (digit-inside b d)))
    by_test false d e = refl

-- ---- names
prefix-further : (bytes more : List ℕ) → EndsLine bytes → prefix_len is_letter_or_digit (bytes ++ more) ≡ prefix_len is_letter_or_digit bytes
prefix-further [] more h = absurd h
prefix-further (b ∷ []) more h =
    subst (λ c. cond (is_letter_or_digit c) (1 + prefix_len is_letter_or_digit more) 0 ≡ cond (is_letter_or_digit c) (1 + prefix_len is_letter_or_digit []) 0) (sym h) refl
prefix-further (b ∷ (c ∷ bs)) more h = ap (λ k. cond (is_letter_or_digit b) (1 + k) 0) (prefix-further (c ∷ bs) more h)

prefix-shorter : (bytes : List ℕ) → EndsLine bytes → prefix_len is_letter_or_digit bytes < length bytes
prefix-shorter [] h = absurd h
prefix-shorter (b ∷ []) h = subst (λ c. cond (is_letter_or_digit c) (1 + 0) 0 < 1) (sym h) (omega arith)
prefix-shorter (b ∷ (c ∷ bs)) h = by_test (is_letter_or_digit b) (prefix-shorter (c ∷ bs) h)
  where
    by_test : (t : Bool) → prefix_len is_letter_or_digit (c ∷ bs) < length (c ∷ bs) → cond t (1 + prefix_len is_letter_or_digit (c ∷ bs)) 0 < suc (length (c ∷ bs))
    by_test true e = omega arith
    by_test false e = omega arith

-- what stands before the end of a name ends no line
prefix-lines : (bytes : List ℕ) → ended_lines (drop (prefix_len is_letter_or_digit bytes) bytes) ≡ ended_lines bytes
prefix-lines [] = refl
prefix-lines (b ∷ bs) = by_test (is_letter_or_digit b) refl (prefix-lines bs)
  where
    letter-inside : is_letter_or_digit b ≡ true → (t : Bool) → (b == 10) ≡ t → t ≡ false
    letter-inside h true e = let other : is_letter_or_digit b ≡ false = ap is_letter_or_digit (eqb-true b 10 e) in cc
    letter-inside h false e = refl

    sized : (k size : ℕ) → size ≡ suc k → ended_lines (drop k bs) ≡ ended_lines bs → ended_lines (drop size (b ∷ bs)) ≡ ended_lines bs
    sized k size e h = ap (λ m. ended_lines (drop m (b ∷ bs))) e ∙ h

    by_test : (t : Bool) → is_letter_or_digit b ≡ t → ended_lines (drop (prefix_len is_letter_or_digit bs) bs) ≡ ended_lines bs →
        ended_lines (drop (cond t (1 + prefix_len is_letter_or_digit bs) 0) (b ∷ bs)) ≡ ended_lines (b ∷ bs)
    by_test true e h = sized (prefix_len is_letter_or_digit bs) (1 + prefix_len is_letter_or_digit bs) (omega arith) h ∙ sym (inside-lines b bs (letter-inside e (b == 10) refl))
    by_test false e h = refl

drop-ends : (size : ℕ) (bytes : List ℕ) → size < length bytes → EndsLine bytes → EndsLine (drop size bytes)
drop-ends zero bytes low h = h
drop-ends (suc size) [] low h = absurd h
drop-ends (suc size) (b ∷ []) low h = absurd (omega arith)
drop-ends (suc size) (b ∷ (c ∷ bs)) low h = drop-ends size (c ∷ bs) (omega arith) h

drop-shorter : (size : ℕ) (bytes : List ℕ) → length (drop size bytes) ≤ length bytes
drop-shorter zero bytes = omega arith
drop-shorter (suc size) [] = omega arith
drop-shorter (suc size) (b ∷ bs) = let short = drop-shorter size bs in omega (arith, short)

abbrev pub name_further : Name → List ℕ → Name
name_further n more = record { text = n.text; rest = n.rest ++ more }

sized_name : ℕ → List ℕ → Name
sized_name size bytes = record { text = take size bytes; rest = after_blanks (drop size bytes) }

sized-further : (size : ℕ) (bytes more : List ℕ) → size < length bytes → EndsLine bytes → sized_name size (bytes ++ more) ≡ name_further (sized_name size bytes) more
unfolding sized_name
sized-further size bytes more low h =
    ap (λ t. record { text = t; rest = after_blanks (drop size (bytes ++ more)) }) (take-append-le size bytes more (omega arith))
    ∙ ap (λ t. record { text = take size bytes; rest = after_blanks t }) (drop-append-le size bytes more (omega arith))
    ∙ ap (λ t. record { text = take size bytes; rest = t }) (blanks-further (drop size bytes) more (drop-ends size bytes low h))

front_name-sized : (bytes : List ℕ) → front_name bytes ≡ sized_name (prefix_len is_letter_or_digit bytes) bytes
unfolding sized_name
front_name-sized bytes = refl

pub record NameFurther (bytes more : List ℕ) : Type 0 where
  pub ends : EndsLine (front_name bytes).rest
  pub is : front_name (bytes ++ more) ≡ name_further (front_name bytes) more
  pub lines : ended_lines (front_name bytes).rest ≡ ended_lines bytes

front-further : (bytes more : List ℕ) → EndsLine bytes → NameFurther bytes more
unfolding sized_name
front-further bytes more h = record {
  ends = blanks-ends (drop (prefix_len is_letter_or_digit bytes) bytes) (drop-ends (prefix_len is_letter_or_digit bytes) bytes (prefix-shorter bytes h) h);
  is = ap (λ k. sized_name k (bytes ++ more)) (prefix-further bytes more h) ∙ sized-further (prefix_len is_letter_or_digit bytes) bytes more (prefix-shorter bytes h) h;
  lines = blanks-lines (drop (prefix_len is_letter_or_digit bytes) bytes) ∙ prefix-lines bytes;
}

abbrev pub NamesFurther : List ℕ → List ℕ → Option Name → Option Name → Type 0
NamesFurther bytes more None found = found ≡ None
NamesFurther bytes more (Some n) found = EndsLine n.rest × (found ≡ Some (name_further n more)) × (length n.rest < length bytes) × (ended_lines n.rest ≡ ended_lines bytes)

-- a name is behind at least one byte
letter-shorter : (b : ℕ) (bs : List ℕ) → is_letter b ≡ true → length (front_name (b ∷ bs)).rest < suc (length bs)
letter-shorter b bs l =
    subst (λ (t : Bool). length (after_blanks (drop (cond (t || is_digit b) (1 + prefix_len is_letter_or_digit bs) 0) (b ∷ bs))) < suc (length bs)) (sym l)
    (sized (1 + prefix_len is_letter_or_digit bs) (prefix_len is_letter_or_digit bs) (omega arith))
  where
    sized : (size less : ℕ) → size ≡ suc less → length (after_blanks (drop size (b ∷ bs))) < suc (length bs)
    sized size less e =
        subst (λ k. length (after_blanks (drop k (b ∷ bs))) < suc (length bs)) (sym e)
        (let short = after_blanks-short (drop less bs) in let low = drop-shorter less bs in omega (arith, short, low))

pub name-further : (bytes more : List ℕ) → EndsLine bytes → NamesFurther bytes more (name bytes) (name (bytes ++ more))
unfolding name
name-further [] more h = absurd h
name-further (b ∷ bs) more h = by_test (is_letter b) refl (front-further (b ∷ bs) more h)
  where
    by_test : (t : Bool) → is_letter b ≡ t → NameFurther (b ∷ bs) more →
        NamesFurther (b ∷ bs) more (cond t (Some (front_name (b ∷ bs))) None) (cond t (Some (front_name ((b ∷ bs) ++ more))) None)
    by_test true l e = (e.ends, ap Some e.is, letter-shorter b bs l, e.lines)
    by_test false l e = refl
