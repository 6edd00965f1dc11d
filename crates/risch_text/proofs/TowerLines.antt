-- Tower lines, one after the other.
use Rattle.std.proofs.Common.{◌≡◌, ℕ, suc, ◌+◌, ◌-◌, ◌≤◌, ◌<◌, List, [], ◌∷◌, ◌++◌, length, map, Some, None, refl, sym, ap, subst, ◌∙◌, arith, false, length-append}
use Rattle.std.specs.Prelude.{codes}
use Rattle.std.proofs.lemmas.List.{map-append, length-map}
use Rattle.risch_expression.specs.Results.{and_next}
use Rattle.risch_expression.specs.Tree.{IsOver}
use Rattle.risch_expression.specs.Grammar.{Read}
use Rattle.risch_expression.specs.Reading.{IsFaultOf}
use Rattle.risch_expression.specs.declared.fault.ReadFault.{ReadFault}
use Rattle.risch_expression.specs.declared.fault.ReadFault.TheVariants.{Syntax, Memory}
use Rattle.risch_text.specs.Lines.{Front, Reached, behind_word, expression_line}
use Rattle.risch_text.specs.File.{TowerLine, monomials, monomial_name, tower_line, tower_lines, tower_lines_from, problem_lines}
use Rattle.risch_text.specs.Programs.{tower_program, AreOver}
use Rattle.risch_text.specs.Reading.{IsSum, IsTowerLine, AreTowerLines, IsProblemRead}
use Rattle.risch_expression.specs.declared.program.Step.{Step}
use Rattle.risch_text.specs.declared.programs.TowerProgram.{TowerProgram}

-- The first n lines are read: the rule is the same from here on.
pub record IsTowerSoFar (rule : Read (Reached (List TowerLine))) (n : ℕ) (programs : List TowerProgram) (front : Front) : Type 0 where
  pub lines : List TowerLine
  pub same : rule ≡ tower_lines (9 - n) lines front
  pub written : programs ≡ map tower_program lines
  pub over : AreOver 1 lines
  pub count : length lines ≡ n

pub tower_begin : (front : Front) (programs : List TowerProgram) → programs ≡ [] → IsTowerSoFar (tower_lines 9 [] front) 0 programs front
tower_begin front programs none = record { lines = []; same = refl; written = none; over = tt; count = refl }

over-append : (m : ℕ) (lines : List TowerLine) (l : TowerLine) → AreOver m lines → IsOver (m + length lines) false l.argument → AreOver m (lines ++ l ∷ [])
over-append m [] l o h = (subst (λ (k : ℕ). IsOver k false l.argument) (omega arith) h, tt)
over-append m (k ∷ lines) l o h = (o.0, over-append (suc m) lines l o.1 (subst (λ (k : ℕ). IsOver k false l.argument) (omega arith) h))

module _ (rule : Read (Reached (List TowerLine))) (n : ℕ) (programs : List TowerProgram) (front : Front) (s : IsTowerSoFar rule n programs front) where
  -- the next line, where one stands there
  next : n < 9 → rule ≡ tower_lines_from (tower_lines (9 - (n + 1))) s.lines front (behind_word (monomial_name n) front)
  next low =
      let one : 9 - n ≡ suc (9 - (n + 1)) = omega arith in
      s.same ∙ ap (λ k. tower_lines k s.lines front) one ∙ ap (λ k. tower_lines_from (tower_lines (9 - (n + 1))) s.lines front (behind_word (monomial_name k) front)) s.count

  next_line : (behind : Front) (left : ℕ) → n < 9 → behind_word (monomial_name n) front ≡ Some behind → left ≡ length front.rest →
      rule ≡ and_next (tower_line n left behind) (λ l. tower_lines (9 - (n + 1)) (s.lines ++ l.value ∷ []) l.front)
  next_line behind left low e is =
      next low ∙ ap (tower_lines_from (tower_lines (9 - (n + 1))) s.lines front) e
      ∙ ap (λ k. and_next (tower_line k (length front.rest) behind) (λ l. tower_lines (9 - (n + 1)) (s.lines ++ l.value ∷ []) l.front)) s.count
      ∙ ap (λ k. and_next (tower_line n k behind) (λ l. tower_lines (9 - (n + 1)) (s.lines ++ l.value ∷ []) l.front)) (sym is)

  pub tower_stop : n < 9 → behind_word (monomial_name n) front ≡ None → AreTowerLines rule programs front
  tower_stop low e = record {
    lines = s.lines;
    is = next low ∙ ap (tower_lines_from (tower_lines (9 - (n + 1))) s.lines front) e;
    written = s.written;
    over = s.over;
  }

  pub tower_done : 9 ≤ n → AreTowerLines rule programs front
  tower_done high =
      let none : 9 - n ≡ 0 = omega arith in
      record { lines = s.lines; is = s.same ∙ ap (λ k. tower_lines k s.lines front) none; written = s.written; over = s.over }

  pub tower_more : (behind : Front) (left : ℕ) (program : TowerProgram) (programs_new : List TowerProgram) (front_new : Front) → n < 9 → behind_word (monomial_name n) front ≡ Some behind → left ≡ length front.rest →
      IsTowerLine (n + 1) (tower_line n left behind) program front_new → programs_new ≡ programs ++ program ∷ [] → IsTowerSoFar rule (n + 1) programs_new front_new
  tower_more behind left program programs_new front_new low e is p w = record {
    lines = s.lines ++ p.line ∷ [];
    same = next_line behind left low e is ∙ ap (λ r. and_next r (λ l. tower_lines (9 - (n + 1)) (s.lines ++ l.value ∷ []) l.front)) p.is;
    written = w ∙ rw (s.written, p.written) (sym (map-append tower_program s.lines (p.line ∷ [])));
    over = over-append 1 s.lines p.line s.over (subst (λ (k : ℕ). IsOver k false p.line.argument) (omega (arith, s.count)) p.over);
    count = omega (arith, s.count, length-append s.lines (p.line ∷ []));
  }

  pub tower_fault : (behind : Front) (left : ℕ) (fault : ReadFault) → n < 9 → behind_word (monomial_name n) front ≡ Some behind → left ≡ length front.rest →
      IsFaultOf fault (tower_line n left behind) → IsFaultOf fault rule
  tower_fault behind left (Syntax f) low e is h =
      next_line behind left low e is ∙ ap (λ r. and_next r (λ l. tower_lines (9 - (n + 1)) (s.lines ++ l.value ∷ []) l.front)) h
  tower_fault behind left Memory low e is h = tt

-- ---- the lines of a problem
pub tower_lines_fault : (front : Front) (fault : ReadFault) → IsFaultOf fault (tower_lines 9 [] front) → IsFaultOf fault (problem_lines front)
unfolding problem_lines
tower_lines_fault front (Syntax f) h = rw h refl
tower_lines_fault front Memory h = tt

module _ (front behind : Front) (tower : List TowerProgram) (t : AreTowerLines (tower_lines 9 [] front) tower behind) where
  height : length tower ≡ length t.lines
  height = ap length t.written ∙ length-map t.lines tower_program

  pub integrand_fault : (fault : ReadFault) → IsFaultOf fault (expression_line (codes "integrate") (monomials (length tower)) behind) → IsFaultOf fault (problem_lines front)
  unfolding problem_lines
  integrand_fault (Syntax f) h =
      let is = t.is in
      let there = rw height at h in
      rw (is, there) refl
  integrand_fault Memory h = tt

  pub problem_read : (integrand : List Step) (next : Front) → IsSum (monomials (length tower)) (expression_line (codes "integrate") (monomials (length tower)) behind) integrand next →
      IsProblemRead (problem_lines front) (record { tower = tower; integrand = integrand }) next
  unfolding problem_lines
  problem_read integrand next u =
      let is = t.is in
      let there = ap (λ n. expression_line (codes "integrate") (monomials n) behind) (sym height) ∙ u.is in
      record {
        tree = record { tower = t.lines; integrand = u.tree };
        is = rw (is, there) refl;
        written = rw (t.written, u.written) refl;
        over = record { tower = t.over; integrand = subst (λ (n : ℕ). IsOver (n + 1) false u.tree) height u.over };
      }
