-- The lines of a problem are read in the same way where a certificate follows the file, but for places.
use Rattle.std.specs.Prelude.{◌==◌, cond, option_map, map, codes}
use Rattle.std.specs.Option.{option_map_or}
use Rattle.std.proofs.Common.{◌≡◌, ℕ, zero, suc, ◌+◌, ◌≤◌, List, [], ◌∷◌, ◌++◌, length, Bool, true, false, Option, None, Some, Ok, Err, refl, sym, ap, ap₂, subst, ◌∙◌, arith, ne_eqb}
use Rattle.std.proofs.lemmas.List.{length-map, map-append}
use Rattle.risch_expression.specs.Words.{after_word}
use Rattle.risch_expression.specs.Results.{and_next}
use Rattle.risch_expression.specs.Tree.{Tree}
use Rattle.risch_expression.specs.Grammar.{Read}
use Rattle.risch_expression.specs.declared.names.Names.{Names}
use Rattle.risch_text.specs.Lines.{Front, moved, unexpected_at, from_line, behind_word, wanted, fixed, symbol, Reached, reached, sum_of, expression_line, nothing, nothing_by, finished}
use Rattle.risch_text.specs.File.{TowerLine, ProblemTree, monomials, monomial_name, is_exponential, tower_line, tower_lines, tower_lines_from, problem_lines, whole_problem}
use Rattle.risch_round_trip.specs.RoundTrip.{EndsLine, ended_lines}
use Rattle.risch_round_trip.proofs.FurtherGrammar.{unplaced}
use Rattle.risch_round_trip.proofs.FurtherLines.{IsClosed, IsFirst, InLine, AtLine, Follows, next-follows, value-follows, ReachedIn, IsInside, FoundIn, word_found, symbol-follows, fixed-follows, sum-follows, file-further, to_line_end-follows}

-- ---- lines without places
abbrev pub unplaced_line : TowerLine → TowerLine
unplaced_line l = record { exponential = l.exponential; argument = unplaced l.argument; left = 0 }

abbrev pub unplaced_problem : ProblemTree → ProblemTree
unplaced_problem p = record { tower = map unplaced_line p.tower; integrand = unplaced p.integrand }

abbrev SameTrees : Tree → Tree → Type 0
SameTrees a b = unplaced a ≡ unplaced b

abbrev SameLine : TowerLine → TowerLine → Type 0
SameLine a b = unplaced_line a ≡ unplaced_line b

abbrev SameLines : List TowerLine → List TowerLine → Type 0
SameLines ls ms = map unplaced_line ls ≡ map unplaced_line ms

abbrev pub SameProblem : ProblemTree → ProblemTree → Type 0
SameProblem p q = unplaced_problem p ≡ unplaced_problem q

pub same-length : (ls ms : List TowerLine) → SameLines ls ms → length ls ≡ length ms
same-length ls ms e = sym (length-map ls unplaced_line) ∙ ap length e ∙ length-map ms unplaced_line

one_more-same : (ls ms : List TowerLine) (a b : TowerLine) → SameLines ls ms → SameLine a b → SameLines (ls ++ a ∷ []) (ms ++ b ∷ [])
one_more-same ls ms a b e f = map-append unplaced_line ls (a ∷ []) ∙ ap₂ (λ ks k. ks ++ k ∷ []) e f ∙ sym (map-append unplaced_line ms (b ∷ []))

-- ---- the first word of a line
-- The certificate behind the file begins with a letter other than t, so that no word that begins otherwise stands where the file ends.
module _ (all letter : ℕ) (dark : 33 ≤ letter) (no_comment : (letter == 35) ≡ false) (no_t : (letter == 116) ≡ false) (behind : List ℕ) where
  abbrev more : List ℕ
  more = letter ∷ behind

  no_word : (w : ℕ) (ws : List ℕ) (old : Front) → old.rest ≡ [] → after_word (w ∷ ws) old.rest ≡ None
  unfolding after_word
  no_word w ws old e = ap (after_word (w ∷ ws)) e

  other_word : (w : ℕ) (ws bytes : List ℕ) → (letter == w) ≡ false → after_word (w ∷ ws) (letter ∷ bytes) ≡ None
  unfolding after_word
  other_word w ws bytes h = ap (λ (t : Bool). cond t (after_word ws bytes) None) h

  -- at the end of the file no word is found, else the front is inside a line
  by_rest : (old new : Front) (P : Type 0) → AtLine all more old new → (old.rest ≡ [] → new.rest ≡ more → P) → (InLine all more old new → P) → P
  by_rest old new P l none some = by_bytes old.rest refl
    where
      by_bytes : (rest : List ℕ) → old.rest ≡ rest → P
      by_bytes [] e = none e (l.further.rest ∙ ap (λ r. r ++ more) e)
      by_bytes (b ∷ bs) e = some (record { further = l.further; ends = ends (subst IsClosed e l.closed) })
        where
          ends : EndsLine (b ∷ bs) → EndsLine old.rest
          ends h = subst EndsLine (sym e) h

  first_word_found : (w : ℕ) (ws : List ℕ) (old new : Front) → (letter == w) ≡ false → IsInside (w ∷ ws) → AtLine all more old new →
      FoundIn (InLine all more) (behind_word (w ∷ ws) old) (behind_word (w ∷ ws) new)
  unfolding behind_word
  first_word_found w ws old new other inside l =
      by_rest old new (FoundIn (InLine all more) (behind_word (w ∷ ws) old) (behind_word (w ∷ ws) new)) l
      (λ e f. subst (λ found. FoundIn (InLine all more) (option_map (moved old) found) (option_map (moved new) (after_word (w ∷ ws) new.rest))) (sym (no_word w ws old e))
      (ap (option_map (moved new)) (ap (after_word (w ∷ ws)) f ∙ other_word w ws behind other)))
      (λ k. word_found all more (w ∷ ws) old new inside k)

  first_fixed-follows : (w : ℕ) (ws : List ℕ) (old new : Front) → IsInside (w ∷ ws) → AtLine all more old new → Follows (InLine all more) (fixed (w ∷ ws) old) (fixed (w ∷ ws) new)
  unfolding fixed behind_word
  first_fixed-follows w ws old new inside l =
      by_rest old new (Follows (InLine all more) (fixed (w ∷ ws) old) (fixed (w ∷ ws) new)) l
      (λ e f a h. absurd (no_value a (sym (ap (λ found. wanted old (option_map (moved old) found)) (no_word w ws old e)) ∙ h)))
      (λ k. fixed-follows all more (w ∷ ws) old new inside k)
    where
      no_value : (a : Front) → ◌≡◌ {A = Read Front} (Err (unexpected_at old)) (Ok a) → ⊥
      no_value a h = cc

  -- ---- tower lines
  abbrev Inside : {A : Type 0} → (A → A → Type 0) → Reached A → Reached A → Type 0
  Inside R = ReachedIn R (InLine all more)

  abbrev Ended : {A : Type 0} → (A → A → Type 0) → Reached A → Reached A → Type 0
  Ended R = ReachedIn R (AtLine all more)

  abbrev Equal : Bool → Bool → Type 0
  Equal a b = a ≡ b

  exponential-follows : (old new : Front) → InLine all more old new → Follows (Inside Equal) (is_exponential old) (is_exponential new)
  unfolding is_exponential
  exponential-follows old new l =
      by_log (behind_word (codes "log") old) (behind_word (codes "log") new) (word_found all more (codes "log") old new (refl, (refl, (refl, tt))) l)
    where
      no_kind : (a : Reached Bool) → ◌≡◌ {A = Read (Reached Bool)} (Err (unexpected_at old)) (Ok a) → ⊥
      no_kind a h = cc

      by_exp : (found other : Option Front) → FoundIn (InLine all more) found other →
          Follows (Inside Equal) (option_map_or (λ front. Ok (reached true front)) found (Err (unexpected_at old))) (option_map_or (λ front. Ok (reached true front)) other (Err (unexpected_at new)))
      by_exp None other f = λ a h. absurd (no_kind a h)
      by_exp (Some front) other f =
          subst (λ o. Follows (Inside Equal) (Ok (reached true front)) (option_map_or (λ g. Ok (reached true g)) o (Err (unexpected_at new)))) (sym f.1)
          (value-follows (Inside Equal) (reached true front) (reached true f.0) (record { value = refl; front = f.2 }))

      by_log : (found other : Option Front) → FoundIn (InLine all more) found other →
          Follows (Inside Equal) (option_map_or (λ front. Ok (reached false front)) found (option_map_or (λ front. Ok (reached true front)) (behind_word (codes "exp") old) (Err (unexpected_at old))))
          (option_map_or (λ front. Ok (reached false front)) other (option_map_or (λ front. Ok (reached true front)) (behind_word (codes "exp") new) (Err (unexpected_at new))))
      by_log None other f =
          subst (λ o. Follows (Inside Equal) (option_map_or (λ front. Ok (reached true front)) (behind_word (codes "exp") old) (Err (unexpected_at old)))
          (option_map_or (λ front. Ok (reached false front)) o (option_map_or (λ front. Ok (reached true front)) (behind_word (codes "exp") new) (Err (unexpected_at new))))) (sym f)
          (by_exp (behind_word (codes "exp") old) (behind_word (codes "exp") new) (word_found all more (codes "exp") old new (refl, (refl, (refl, tt))) l))
      by_log (Some front) other f =
          subst (λ o. Follows (Inside Equal) (Ok (reached false front)) (option_map_or (λ g. Ok (reached false g)) o (option_map_or (λ g. Ok (reached true g)) (behind_word (codes "exp") new) (Err (unexpected_at new))))) (sym f.1)
          (value-follows (Inside Equal) (reached false front) (reached false f.0) (record { value = refl; front = f.2 }))

  first : IsFirst more
  first = (dark, no_comment)

  line-same : (a b : Bool) (s t : Tree) (left other : ℕ) → a ≡ b → SameTrees s t →
      SameLine (record { exponential = a; argument = s; left = left }) (record { exponential = b; argument = t; left = other })
  line-same a b s t left other e f = ap₂ (λ x y. record { exponential = x; argument = y; left = 0 }) e f

  tower_line-follows : (n left other : ℕ) (old new : Front) → InLine all more old new → Follows (Ended SameLine) (tower_line n left old) (tower_line n other new)
  unfolding tower_line
  tower_line-follows n left other old new l =
      next-follows (InLine all more) (Ended SameLine) (symbol 61 old) (symbol 61 new) _ _ (symbol-follows all more 61 old new refl l) (λ definition definition' d.
      next-follows (Inside Equal) (Ended SameLine) (is_exponential definition) (is_exponential definition') _ _ (exponential-follows definition definition' d) (λ kind kind' k.
      next-follows (InLine all more) (Ended SameLine) (symbol 40 kind.front) (symbol 40 kind'.front) _ _ (symbol-follows all more 40 kind.front kind'.front refl k.front) (λ inside inside' i.
      next-follows (Inside SameTrees) (Ended SameLine) (sum_of (monomials n) inside) (sum_of (monomials n) inside') _ _ (sum-follows all more (monomials n) inside inside' i) (λ argument argument' a.
      next-follows (InLine all more) (Ended SameLine) (symbol 41 argument.front) (symbol 41 argument'.front) _ _ (symbol-follows all more 41 argument.front argument'.front refl a.front) (λ behind behind' b.
      to_line_end-follows more first SameLine all (record { exponential = kind.value; argument = argument.value; left = left })
      (record { exponential = kind'.value; argument = argument'.value; left = other }) behind behind'
      (line-same kind.value kind'.value argument.value argument'.value left other k.value a.value) b)))))

  tower_lines-follow : (n : ℕ) (lines lines' : List TowerLine) (old new : Front) → SameLines lines lines' → AtLine all more old new →
      Follows (Ended SameLines) (tower_lines n lines old) (tower_lines n lines' new)
  tower_lines-follow zero lines lines' old new e l = value-follows (Ended SameLines) (reached lines old) (reached lines' new) (record { value = e; front = l })
  tower_lines-follow (suc n) lines lines' old new e l =
      subst (λ m. Follows (Ended SameLines) (tower_lines_from (tower_lines n) lines old (behind_word (monomial_name (length lines)) old)) (tower_lines_from (tower_lines n) lines' new (behind_word (monomial_name m) new)))
      (same-length lines lines' e)
      (by_found (λ a b f g s t. tower_lines-follow n a b f g s t) (behind_word (monomial_name (length lines)) old) (behind_word (monomial_name (length lines)) new)
      (first_word_found 116 ((49 + length lines) ∷ []) old new no_t (refl, (ne_eqb 10 (49 + length lines) (λ z. omega arith), tt)) l))
    where
      by_found : ((a b : List TowerLine) (f g : Front) → SameLines a b → AtLine all more f g → Follows (Ended SameLines) (tower_lines n a f) (tower_lines n b g)) →
          (found other : Option Front) → FoundIn (InLine all more) found other →
          Follows (Ended SameLines) (tower_lines_from (tower_lines n) lines old found) (tower_lines_from (tower_lines n) lines' new other)
      by_found rest None other f =
          subst (λ o. Follows (Ended SameLines) (Ok (reached lines old)) (tower_lines_from (tower_lines n) lines' new o)) (sym f)
          (value-follows (Ended SameLines) (reached lines old) (reached lines' new) (record { value = e; front = l }))
      by_found rest (Some front) other f =
          subst (λ o. Follows (Ended SameLines) (tower_lines_from (tower_lines n) lines old (Some front)) (tower_lines_from (tower_lines n) lines' new o)) (sym f.1)
          (next-follows (Ended SameLine) (Ended SameLines) (tower_line (length lines) (length old.rest) front) (tower_line (length lines') (length new.rest) f.0) _ _
          (subst (λ m. Follows (Ended SameLine) (tower_line (length lines) (length old.rest) front) (tower_line m (length new.rest) f.0)) (same-length lines lines' e)
          (tower_line-follows (length lines) (length old.rest) (length new.rest) front f.0 f.2))
          (λ a b r. rest (lines ++ a.value ∷ []) (lines' ++ b.value ∷ []) a.front b.front (one_more-same lines lines' a.value b.value e r.value) r.front))

  -- ---- whole problems
  integrand-follows : (names : Names) (old new : Front) → AtLine all more old new → Follows (Ended SameTrees) (expression_line (codes "integrate") names old) (expression_line (codes "integrate") names new)
  unfolding expression_line
  integrand-follows names old new l =
      next-follows (InLine all more) (Ended SameTrees) (fixed (codes "integrate") old) (fixed (codes "integrate") new) _ _
      (first_fixed-follows 105 (codes "ntegrate") old new (refl, (refl, (refl, (refl, (refl, (refl, (refl, (refl, (refl, tt))))))))) l) (λ a b r.
      next-follows (Inside SameTrees) (Ended SameTrees) (sum_of names a) (sum_of names b) _ _ (sum-follows all more names a b r) (λ s t q.
      to_line_end-follows more first SameTrees all s.value t.value s.front t.front q.value q.front))

  problem-follows : (old new : Front) → AtLine all more old new → Follows (Ended SameProblem) (problem_lines old) (problem_lines new)
  unfolding problem_lines
  problem-follows old new l =
      next-follows (Ended SameLines) (Ended SameProblem) (tower_lines 9 [] old) (tower_lines 9 [] new) _ _ (tower_lines-follow 9 [] [] old new refl l) (λ tower tower' t.
      next-follows (Ended SameTrees) (Ended SameProblem) (expression_line (codes "integrate") (monomials (length tower.value)) tower.front)
      (expression_line (codes "integrate") (monomials (length tower'.value)) tower'.front) _ _
      (subst (λ m. Follows (Ended SameTrees) (expression_line (codes "integrate") (monomials (length tower.value)) tower.front) (expression_line (codes "integrate") (monomials m) tower'.front))
      (same-length tower.value tower'.value t.value) (integrand-follows (monomials (length tower.value)) tower.front tower'.front t.front)) (λ integrand integrand' i.
      value-follows (Ended SameProblem) (reached (record { tower = tower.value; integrand = integrand.value }) integrand.front)
      (reached (record { tower = tower'.value; integrand = integrand'.value }) integrand'.front)
      (record { value = ap₂ (λ a b. record { tower = a; integrand = b }) t.value i.value; front = i.front })))

-- The problem is read, and the certificate is at hand in the line that follows the file.
pub record ReadBehind (bytes more : List ℕ) (tree : ProblemTree) : Type 0 where
  pub other : ProblemTree
  pub front : Front
  pub is : problem_lines (from_line 1 (bytes ++ more)) ≡ Ok (reached other front)
  pub same : SameProblem tree other
  pub rest : front.rest ≡ more
  pub line : front.line ≡ 1 + ended_lines bytes

module _ (letter : ℕ) (dark : 33 ≤ letter) (no_comment : (letter == 35) ≡ false) (no_t : (letter == 116) ≡ false) where
  pub problem_behind : (bytes behind : List ℕ) (tree : ProblemTree) → EndsLine bytes → whole_problem bytes ≡ Ok tree → ReadBehind bytes (letter ∷ behind) tree
  unfolding whole_problem nothing
  problem_behind bytes behind tree ends h = by_problem (problem_lines (from_line 1 bytes)) refl h
    where
      by_rest : (r : Reached ProblemTree) (rest : List ℕ) → problem_lines (from_line 1 bytes) ≡ Ok r → r.front.rest ≡ rest → and_next (nothing_by r.front rest) (λ end. Ok r.value) ≡ Ok tree →
          ReadBehind bytes (letter ∷ behind) tree
      by_rest r (b ∷ bs) e f k = absurd (cc)
      by_rest r [] e f k =
          let is : r.value ≡ tree = cc in
          let q = problem-follows (1 + ended_lines bytes) letter dark no_comment no_t behind (from_line 1 bytes) (from_line 1 (bytes ++ (letter ∷ behind)))
          (file-further (letter ∷ behind) (dark, no_comment) bytes ends) r e in
          let last : r.front.line + 0 ≡ 1 + ended_lines bytes = subst (λ t. r.front.line + ended_lines t ≡ 1 + ended_lines bytes) f q.related.front.further.numbered in
          record {
            other = q.value.value;
            front = q.value.front;
            is = q.is;
            same = ap unplaced_problem (sym is) ∙ q.related.value;
            rest = q.related.front.further.rest ∙ ap (λ t. t ++ (letter ∷ behind)) f;
            line = q.related.front.further.line ∙ omega (arith, last);
          }

      by_problem : (value : Read (Reached ProblemTree)) → problem_lines (from_line 1 bytes) ≡ value → and_next value finished ≡ Ok tree → ReadBehind bytes (letter ∷ behind) tree
      by_problem (Err fault) e k = absurd (cc)
      by_problem (Ok r) e k = by_rest r r.front.rest e refl k
