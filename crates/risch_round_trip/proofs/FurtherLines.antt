-- Rules of lines in a file whose last line is ended: what they read does not depend on the bytes behind the file, but for places. The number of the line is that of the lines that are ended.
use Rattle.std.specs.Prelude.{◌==◌, ◌||◌, cond, option_map}
use Rattle.std.proofs.Common.{◌≡◌, ℕ, suc, ◌+◌, ◌≤◌, List, [], ◌∷◌, ◌++◌, length, Bool, true, false, Option, None, Some, Ok, Err, refl, sym, ap, subst, ◌∙◌, arith, ne_eqb}
use Rattle.std.proofs.lemmas.Bool.{cond-false}
use Rattle.risch_expression.specs.Words.{is_blank, after_blanks, after_byte, goes_on, after_word}
use Rattle.risch_expression.specs.Results.{and_next}
use Rattle.risch_expression.specs.Tree.{Tree}
use Rattle.risch_expression.specs.Grammar.{Read, Parsed, expression}
use Rattle.risch_expression.specs.declared.names.Names.{Names}
use Rattle.risch_text.specs.Lines.{Front, moved, after_lines, from_line, behind_word, behind_byte, unexpected_at, wanted, fixed, symbol, ended_by, line_end, Reached, reached, to_line_end, sum_of}
use Rattle.risch_round_trip.specs.RoundTrip.{EndsLine, ended_lines}
use Rattle.risch_round_trip.proofs.Fronts.{not-blank}
use Rattle.risch_round_trip.proofs.FurtherBytes.{inside-lines, blanks-ends, blanks-further, blanks-lines, Further, byte-further, byte-inside}
use Rattle.risch_round_trip.proofs.FurtherGrammar.{unplaced, expression-further}

-- ---- fronts
-- nothing is left, or bytes that end a line
abbrev pub IsClosed : List ℕ → Type 0
IsClosed [] = Unit {0}
IsClosed (b ∷ bs) = EndsLine (b ∷ bs)

-- nothing, or a first byte that is no blank and begins no comment
abbrev pub IsFirst : List ℕ → Type 0
IsFirst [] = Unit {0}
IsFirst (b ∷ bs) = (33 ≤ b) × ((b == 35) ≡ false)

-- The front with more bytes behind it. All lines of the file are so many, with the one that begins where it ends.
pub record FurtherFront (all : ℕ) (more : List ℕ) (old new : Front) : Type 0 where
  pub rest : new.rest ≡ old.rest ++ more
  pub line : new.line ≡ old.line
  pub numbered : old.line + ended_lines old.rest ≡ all

-- inside a line
pub record InLine (all : ℕ) (more : List ℕ) (old new : Front) : Type 0 where
  pub further : FurtherFront all more old new
  pub ends : EndsLine old.rest

-- at the first token of a line, or at the end of the file
pub record AtLine (all : ℕ) (more : List ℕ) (old new : Front) : Type 0 where
  pub further : FurtherFront all more old new
  pub closed : IsClosed old.rest

-- ---- what follows in the same way
-- the other reads a value too, in this relation
pub record IsRead {A B : Type 0} (R : A → B → Type 0) (a : A) (other : Read B) : Type 0 where
  pub value : B
  pub is : other ≡ Ok value
  pub related : R a value

abbrev pub Follows : {A B : Type 0} → (A → B → Type 0) → Read A → Read B → Type 0
Follows {A = A} R one other = (a : A) → one ≡ Ok a → IsRead R a other

pub next-follows : {A B C D : Type 0} (R : A → B → Type 0) (Q : C → D → Type 0) (one : Read A) (other : Read B) (next : A → Read C) (next' : B → Read D) → Follows R one other →
    ((a : A) (b : B) → R a b → Follows Q (next a) (next' b)) → Follows Q (and_next one next) (and_next other next')
next-follows R Q (Ok a) other next next' f g c h =
    let r = f a refl in
    let q = g a r.value r.related c h in
    record { value = q.value; is = ap (λ v. and_next v next') r.is ∙ q.is; related = q.related }
next-follows R Q (Err fault) other next next' f g c h = absurd (cc)

pub value-follows : {A B : Type 0} (R : A → B → Type 0) (a : A) (b : B) → R a b → Follows R (Ok a) (Ok b)
value-follows R a b r c h = record { value = b; is = refl; related = subst (λ x. R x b) (same_ok a c h) r }
  where
    same_ok : {A : Type 0} (x y : A) → ◌≡◌ {A = Read A} (Ok x) (Ok y) → x ≡ y
    same_ok x y e = cc

-- a value that is reached, and the front behind it
pub record ReachedIn {A B : Type 0} (R : A → B → Type 0) (F : Front → Front → Type 0) (one : Reached A) (other : Reached B) : Type 0 where
  pub value : R one.value other.value
  pub front : F one.front other.front

-- ---- words and bytes
-- the same is found, with more bytes behind it, in the same line
abbrev WordFurther : List ℕ → List ℕ → Option (List ℕ) → Option (List ℕ) → Type 0
WordFurther bytes more None found = found ≡ None
WordFurther bytes more (Some rest) found = EndsLine rest × (found ≡ Some (rest ++ more)) × (ended_lines rest ≡ ended_lines bytes)

-- the word ends no line
abbrev pub IsInside : List ℕ → Type 0
IsInside [] = Unit {0}
IsInside (w ∷ ws) = ((10 == w) ≡ false) × IsInside ws

word-further : (word bytes more : List ℕ) → IsInside word → EndsLine bytes → WordFurther bytes more (after_word word bytes) (after_word word (bytes ++ more))
unfolding after_word
word-further word [] more inside h = absurd h
word-further [] (b ∷ bs) more inside h = by_test (goes_on (b ∷ bs))
  where
    by_test : (t : Bool) → WordFurther (b ∷ bs) more (cond t None (Some (after_blanks (b ∷ bs)))) (cond t None (Some (after_blanks ((b ∷ bs) ++ more))))
    by_test true = refl
    by_test false = (blanks-ends (b ∷ bs) h, ap Some (blanks-further (b ∷ bs) more h), blanks-lines (b ∷ bs))
word-further (w ∷ ws) (b ∷ []) more inside h =
    subst (λ c. WordFurther (c ∷ []) more (cond (c == w) (after_word ws []) None) (cond (c == w) (after_word ws more) None)) (sym h)
    (subst (λ (t : Bool). WordFurther (10 ∷ []) more (cond t (after_word ws []) None) (cond t (after_word ws more) None)) (sym inside.0) refl)
word-further (w ∷ ws) (b ∷ (c ∷ bs)) more inside h = by_test (b == w) refl (word-further ws (c ∷ bs) more inside.1 h)
  where
    by_found : (found other : Option (List ℕ)) → (b == w) ≡ true → WordFurther (c ∷ bs) more found other → WordFurther (b ∷ (c ∷ bs)) more found other
    by_found None other e f = f
    by_found (Some rest) other e f = (f.0, f.1, f.2 ∙ sym (inside-lines b (c ∷ bs) (byte-inside b w inside.0 e)))

    by_test : (t : Bool) → (b == w) ≡ t → WordFurther (c ∷ bs) more (after_word ws (c ∷ bs)) (after_word ws ((c ∷ bs) ++ more)) →
        WordFurther (b ∷ (c ∷ bs)) more (cond t (after_word ws (c ∷ bs)) None) (cond t (after_word ws ((c ∷ bs) ++ more)) None)
    by_test true e f = by_found (after_word ws (c ∷ bs)) (after_word ws ((c ∷ bs) ++ more)) e f
    by_test false e f = refl

as_word : (bytes more : List ℕ) (found other : Option (List ℕ)) → Further bytes more found other → WordFurther bytes more found other
as_word bytes more None other f = f
as_word bytes more (Some rest) other f = (f.0, f.1, f.3)

-- the same front is found
abbrev pub FoundIn : (Front → Front → Type 0) → Option Front → Option Front → Type 0
FoundIn R None found = found ≡ None
FoundIn R (Some old) found = (new : Front) × (found ≡ Some new) × R old new

module _ (all : ℕ) (more : List ℕ) where
  found-further : (old new : Front) (found other : Option (List ℕ)) → InLine all more old new → WordFurther old.rest more found other →
      FoundIn (InLine all more) (option_map (moved old) found) (option_map (moved new) other)
  found-further old new None other l f = ap (option_map (moved new)) f
  found-further old new (Some rest) other l f = (
    moved new (rest ++ more),
    ap (option_map (moved new)) f.1,
    record { further = record { rest = refl; line = l.further.line; numbered = ap (λ n. old.line + n) f.2 ∙ l.further.numbered }; ends = f.0 },
  )

  pub word_found : (word : List ℕ) (old new : Front) → IsInside word → InLine all more old new → FoundIn (InLine all more) (behind_word word old) (behind_word word new)
  unfolding behind_word
  word_found word old new inside l =
      found-further old new (after_word word old.rest) (after_word word new.rest) l
      (subst (λ r. WordFurther old.rest more (after_word word old.rest) (after_word word r)) (sym l.further.rest) (word-further word old.rest more inside l.ends))

  pub byte_found : (byte : ℕ) (old new : Front) → (10 == byte) ≡ false → InLine all more old new → FoundIn (InLine all more) (behind_byte byte old) (behind_byte byte new)
  unfolding behind_byte
  byte_found byte old new inside l =
      found-further old new (after_byte byte old.rest) (after_byte byte new.rest) l
      (as_word old.rest more (after_byte byte old.rest) (after_byte byte new.rest)
      (subst (λ r. Further old.rest more (after_byte byte old.rest) (after_byte byte r)) (sym l.further.rest) (byte-further byte old.rest more inside l.ends)))

  wanted-follows : (old new : Front) (found other : Option Front) → FoundIn (InLine all more) found other → Follows (InLine all more) (wanted old found) (wanted new other)
  wanted-follows old new None other f behind h = absurd (cc)
  wanted-follows old new (Some front) other f behind h =
      let is : front ≡ behind = cc in
      record { value = f.0; is = ap (wanted new) f.1; related = subst (λ x. InLine all more x f.0) is f.2 }

  pub symbol-follows : (byte : ℕ) (old new : Front) → (10 == byte) ≡ false → InLine all more old new → Follows (InLine all more) (symbol byte old) (symbol byte new)
  unfolding symbol
  symbol-follows byte old new inside l = wanted-follows old new (behind_byte byte old) (behind_byte byte new) (byte_found byte old new inside l)

  pub fixed-follows : (word : List ℕ) (old new : Front) → IsInside word → InLine all more old new → Follows (InLine all more) (fixed word old) (fixed word new)
  unfolding fixed
  fixed-follows word old new inside l = wanted-follows old new (behind_word word old) (behind_word word new) (word_found word old new inside l)

  -- ---- expressions
  pub sum-follows : (names : Names) (old new : Front) → InLine all more old new →
      Follows (ReachedIn (λ (a b : Tree). unplaced a ≡ unplaced b) (InLine all more)) (sum_of names old) (sum_of names new)
  unfolding sum_of
  sum-follows names old new l r h = by_value (expression names old.rest) refl h
    where
      by_value : (value : Read Parsed) → expression names old.rest ≡ value → and_next value (λ p. Ok (reached p.tree (moved old p.rest))) ≡ Ok r →
          IsRead (ReachedIn (λ (a b : Tree). unplaced a ≡ unplaced b) (InLine all more)) r (and_next (expression names new.rest) (λ p. Ok (reached p.tree (moved new p.rest))))
      by_value (Err fault) e k = absurd (cc)
      by_value (Ok p) e k =
          let f = expression-further names old.rest more p l.ends e in
          let is : reached p.tree (moved old p.rest) ≡ r = cc in
          record {
            value = reached f.tree (moved new (p.rest ++ more));
            is = ap (λ b. and_next (expression names b) (λ q. Ok (reached q.tree (moved new q.rest)))) l.further.rest ∙ ap (λ v. and_next v (λ q. Ok (reached q.tree (moved new q.rest)))) f.is;
            related = subst (λ x. ReachedIn (λ (a b : Tree). unplaced a ≡ unplaced b) (InLine all more) x (reached f.tree (moved new (p.rest ++ more)))) is
                (record { value = sym f.same; front = record { further = record { rest = refl; line = l.further.line; numbered = ap (λ n. old.line + n) f.lines ∙ l.further.numbered }; ends = f.ends } });
          }

-- ---- the ends of lines
-- a first byte is at hand as it stands
pub first-kept : (line start : ℕ) (bytes : List ℕ) → IsFirst bytes → after_lines false line start bytes ≡ record { rest = bytes; line = line; start = start }
unfolding after_lines
first-kept line start [] h = refl
first-kept line start (b ∷ bs) h =
    cond-false (b == 10) _ _ (ne_eqb b 10 (λ e. let low = h.0 in omega (arith, low, e))) ∙ cond-false (is_blank b bs) _ _ (not-blank b bs h.0) ∙ cond-false (b == 35) _ _ h.1

ten-lines : (b : ℕ) (bs : List ℕ) → (b == 10) ≡ true → ended_lines (b ∷ bs) ≡ suc (ended_lines bs)
ten-lines b bs h = ap (λ (t : Bool). cond t (suc (ended_lines bs)) (ended_lines bs)) h

module _ (more : List ℕ) (first : IsFirst more) where
  -- the next token, in bytes that end a line
  record LinesFurther (first_line : ℕ) (bytes : List ℕ) (old new : Front) : Type 0 where
    rest : new.rest ≡ old.rest ++ more
    line : new.line ≡ old.line
    numbered : old.line + ended_lines old.rest ≡ first_line + ended_lines bytes
    closed : IsClosed old.rest

  lines-further : (in_comment : Bool) (line start other : ℕ) (bytes : List ℕ) → EndsLine bytes →
      LinesFurther line bytes (after_lines in_comment line start bytes) (after_lines in_comment line other (bytes ++ more))
  unfolding after_lines
  lines-further in_comment line start other [] h = absurd h
  lines-further in_comment line start other (b ∷ []) h =
      subst (λ c. LinesFurther line (c ∷ []) (cond (c == 10) (after_lines false (line + 1) 0 []) (cond (in_comment || is_blank c []) (after_lines in_comment line start [])
      (cond (c == 35) (after_lines true line start []) (record { rest = c ∷ []; line = line; start = start }))))
      (cond (c == 10) (after_lines false (line + 1) (length more) more) (cond (in_comment || is_blank c more) (after_lines in_comment line other more)
      (cond (c == 35) (after_lines true line other more) (record { rest = c ∷ more; line = line; start = other }))))) (sym h)
      (subst (λ new. LinesFurther line (10 ∷ []) (record { rest = []; line = line + 1; start = 0 }) new) (sym (first-kept (line + 1) (length more) more first))
      (record { rest = refl; line = refl; numbered = omega arith; closed = tt }))
  lines-further in_comment line start other (b ∷ (c ∷ bs)) h =
      by_tests (b == 10) (in_comment || is_blank b (c ∷ bs)) (b == 35) refl (lines-further false (line + 1) (length (c ∷ bs)) (length ((c ∷ bs) ++ more)) (c ∷ bs) h)
      (lines-further in_comment line start other (c ∷ bs) h) (lines-further true line start other (c ∷ bs) h)
    where
      by_tests : (s t u : Bool) → (b == 10) ≡ s →
          LinesFurther (line + 1) (c ∷ bs) (after_lines false (line + 1) (length (c ∷ bs)) (c ∷ bs)) (after_lines false (line + 1) (length ((c ∷ bs) ++ more)) ((c ∷ bs) ++ more)) →
          LinesFurther line (c ∷ bs) (after_lines in_comment line start (c ∷ bs)) (after_lines in_comment line other ((c ∷ bs) ++ more)) →
          LinesFurther line (c ∷ bs) (after_lines true line start (c ∷ bs)) (after_lines true line other ((c ∷ bs) ++ more)) →
          LinesFurther line (b ∷ (c ∷ bs)) (cond s (after_lines false (line + 1) (length (c ∷ bs)) (c ∷ bs)) (cond t (after_lines in_comment line start (c ∷ bs))
          (cond u (after_lines true line start (c ∷ bs)) (record { rest = b ∷ (c ∷ bs); line = line; start = start }))))
          (cond s (after_lines false (line + 1) (length ((c ∷ bs) ++ more)) ((c ∷ bs) ++ more)) (cond t (after_lines in_comment line other ((c ∷ bs) ++ more))
          (cond u (after_lines true line other ((c ∷ bs) ++ more)) (record { rest = (b ∷ (c ∷ bs)) ++ more; line = line; start = other }))))
      by_tests true t u e f g k =
          let n = f.numbered in let more_lines = ten-lines b (c ∷ bs) e in
          record { rest = f.rest; line = f.line; numbered = n ∙ one_more line (ended_lines (c ∷ bs)) ∙ ap (λ m. line + m) (sym more_lines); closed = f.closed }
        where
          one_more : (l m : ℕ) → l + 1 + m ≡ l + suc m
          one_more l m = omega arith
      by_tests false true u e f g k = record { rest = g.rest; line = g.line; numbered = g.numbered ∙ ap (λ m. line + m) (sym (inside-lines b (c ∷ bs) e)); closed = g.closed }
      by_tests false false true e f g k = record { rest = k.rest; line = k.line; numbered = k.numbered ∙ ap (λ m. line + m) (sym (inside-lines b (c ∷ bs) e)); closed = k.closed }
      by_tests false false false e f g k = record { rest = refl; line = refl; numbered = refl; closed = h }

  -- the first token from the first byte of a line on
  from_line-further : (line : ℕ) (bytes : List ℕ) → IsClosed bytes → AtLine (line + ended_lines bytes) more (from_line line bytes) (from_line line (bytes ++ more))
  unfolding from_line after_lines
  from_line-further line [] h =
      subst (λ new. AtLine (line + 0) more (record { rest = []; line = line; start = 0 }) new) (sym (first-kept line (length more) more first))
      (record { further = record { rest = refl; line = refl; numbered = refl }; closed = tt })
  from_line-further line (b ∷ bs) h =
      let f = lines-further false line (length (b ∷ bs)) (length ((b ∷ bs) ++ more)) (b ∷ bs) h in
      record { further = record { rest = f.rest; line = f.line; numbered = f.numbered }; closed = f.closed }

  -- the file's first token
  pub file-further : (bytes : List ℕ) → EndsLine bytes → AtLine (1 + ended_lines bytes) more (from_line 1 bytes) (from_line 1 (bytes ++ more))
  file-further bytes h = from_line-further 1 bytes (as_closed bytes h)
    where
      as_closed : (bytes : List ℕ) → EndsLine bytes → IsClosed bytes
      as_closed [] h = absurd h
      as_closed (b ∷ bs) h = h

  ended-follows : (all : ℕ) (old new : Front) (rest : List ℕ) → new.line ≡ old.line → old.line + ended_lines rest ≡ all → EndsLine rest → Follows (AtLine all more) (ended_by old rest) (ended_by new (rest ++ more))
  ended-follows all old new [] e n h = absurd h
  ended-follows all old new (b ∷ bs) e n h = by_test (b == 10) refl
    where
      less : (bs : List ℕ) → EndsLine (b ∷ bs) → IsClosed bs
      less [] h = tt
      less (c ∷ bs) h = h

      one_more : (l m : ℕ) → l + 1 + m ≡ l + suc m
      one_more l m = omega arith

      no_value : (r : Front) → ◌≡◌ {A = Read Front} (Err (unexpected_at old)) (Ok r) → ⊥
      no_value r h = cc

      by_test : (t : Bool) → (b == 10) ≡ t → Follows (AtLine all more) (cond t (Ok (from_line (old.line + 1) bs)) (Err (unexpected_at old))) (cond t (Ok (from_line (new.line + 1) (bs ++ more))) (Err (unexpected_at new)))
      by_test false k = λ r i. absurd (no_value r i)
      by_test true k =
          value-follows (AtLine all more) (from_line (old.line + 1) bs) (from_line (new.line + 1) (bs ++ more))
          (subst (λ (m : ℕ). AtLine all more (from_line (old.line + 1) bs) (from_line (m + 1) (bs ++ more))) (sym e)
          (subst (λ m. AtLine m more (from_line (old.line + 1) bs) (from_line (old.line + 1) (bs ++ more))) (one_more old.line (ended_lines bs) ∙ ap (λ m. old.line + m) (sym (ten-lines b bs k)) ∙ n)
          (from_line-further (old.line + 1) bs (less bs h))))

  pub line_end-follows : (all : ℕ) (old new : Front) → InLine all more old new → Follows (AtLine all more) (line_end old) (line_end new)
  unfolding line_end
  line_end-follows all old new l =
      subst (λ r. Follows (AtLine all more) (ended_by old old.rest) (ended_by new r)) (sym l.further.rest) (ended-follows all old new old.rest l.further.line l.further.numbered l.ends)

  pub to_line_end-follows : {A B : Type 0} (R : A → B → Type 0) (all : ℕ) (a : A) (b : B) (old new : Front) → R a b → InLine all more old new →
      Follows (ReachedIn R (AtLine all more)) (to_line_end a old) (to_line_end b new)
  to_line_end-follows R all a b old new r l =
      next-follows (AtLine all more) (ReachedIn R (AtLine all more)) (line_end old) (line_end new) (λ next. Ok (reached a next)) (λ next. Ok (reached b next)) (line_end-follows all old new l)
      (λ f g k. value-follows (ReachedIn R (AtLine all more)) (reached a f) (reached b g) (record { value = r; front = k }))
