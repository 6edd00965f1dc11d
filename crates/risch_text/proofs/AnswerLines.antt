-- The lines of an answer, one after the other.
use Rattle.std.proofs.Common.{◌≡◌, ℕ, suc, ◌+◌, ◌<◌, ◌^◌, List, [], ◌∷◌, ◌++◌, length, map, Bool, true, false, Option, Some, None, Result, Ok, Err, refl, sym, ap, ◌∙◌, arith, length-append, append_assoc}
use Rattle.std.specs.Prelude.{⊤, option_map, All, codes, OnOk, IfOk, IfErr}
use Rattle.std.proofs.lemmas.List.{map-append}
use Rattle.std.proofs.lemmas.List.Elements.{All-nil, All-push}
use Rattle.risch_expression.specs.Words.{after_word}
use Rattle.risch_expression.specs.Results.{and_next, map_value}
use Rattle.risch_expression.specs.Tree.{Tree}
use Rattle.risch_expression.specs.Grammar.{Read}
use Rattle.risch_expression.specs.Reading.{IsFaultOf}
use Rattle.risch_expression.specs.declared.fault.ReadFault.{ReadFault}
use Rattle.risch_expression.specs.declared.fault.ReadFault.TheVariants.{Syntax, Memory}
use Rattle.risch_expression.specs.declared.fault.SyntaxFault.{SyntaxFault}
use Rattle.risch_expression.specs.declared.names.Names.{Names}
use Rattle.risch_text.specs.Lines.{Front, moved, Reached, reached, behind_word, wanted, fixed, line_end, to_line_end, sum_of, bare_line, expression_line, InFile}
use Rattle.risch_text.specs.File.{monomials}
use Rattle.risch_text.specs.Certified.{LogLine, log_line, sum_line, with_z, factor, after_log, after_sum, LogLines, next_log, log_lines, log_lines_from, with_log, AnswerTree, residue_end, some_end, end_kind, end_line, is_refuted, partial_lines, integral_end, refutation_end, answer_end, answer_lines}
use Rattle.risch_text.specs.Programs.{log_program, partial_program, ended_program, refuted_program, IsLogOver, IsPartialOver}
use Rattle.risch_text.specs.Reading.{Moves, MovesTo, IsSum, IsLogLine, IsSomeLog, IsNextLog, IsNextFault, AreLogLines, IsEndRead, IsSomeEnd, IsNextEnd, IsPartialRead, IsAnswerRead, IsSomeAnswer}
use Rattle.risch_text.specs.declared.programs.Factor.{Factor}
use Rattle.risch_text.specs.declared.programs.LogProgram.{LogProgram}
use Rattle.risch_text.specs.declared.programs.LogProgram.TheVariants.{Log, Sum}
use Rattle.risch_text.specs.declared.programs.LogPrograms.{LogPrograms}
use Rattle.risch_text.specs.declared.programs.PartialProgram.{PartialProgram}
use Rattle.risch_text.specs.declared.programs.EndProgram.{EndProgram}
use Rattle.risch_text.specs.declared.programs.AnswerProgram.{AnswerProgram}
use Rattle.risch_expression.specs.declared.program.Step.{Step}
use Rattle.risch_text.proofs.Fronts.{line_in_file}

-- ---- where some word stands, the number of the line has 32 bits
low_at : (w : ℕ) (ws : List ℕ) (front behind : Front) (rest : List ℕ) → front.rest ≡ rest → option_map (moved front) (after_word (w ∷ ws) rest) ≡ Some behind → InFile front → front.line < 2 ^ 32
unfolding after_word
low_at w ws front behind [] e h f = cc
low_at w ws front behind (b ∷ bs) e h f = omega (arith, line_in_file front f, ap length e)

pub word_low : (w : ℕ) (ws : List ℕ) (front behind : Front) → behind_word (w ∷ ws) front ≡ Some behind → InFile front → front.line < 2 ^ 32
unfolding behind_word
word_low w ws front behind h f = low_at w ws front behind front.rest refl h f

fixed_low : (w : ℕ) (ws : List ℕ) (front : Front) (behind : Option Front) → behind_word (w ∷ ws) front ≡ behind → {A : Type 0} (next : Front → Read A) (a : A) →
    and_next (fixed (w ∷ ws) front) next ≡ Ok a → InFile front → front.line < 2 ^ 32
unfolding fixed
fixed_low w ws front None e next a h f = let none = rw e at h in cc
fixed_low w ws front (Some behind) e next a h f = word_low w ws front behind e f

pub fixed_word_low : (w : ℕ) (ws : List ℕ) (front behind : Front) → fixed (w ∷ ws) front ≡ Ok behind → InFile front → front.line < 2 ^ 32
unfolding fixed
fixed_word_low w ws front behind h f = by_found (behind_word (w ∷ ws) front) refl h
  where
    by_found : (found : Option Front) → behind_word (w ∷ ws) front ≡ found → wanted front found ≡ Ok behind → front.line < 2 ^ 32
    by_found None e k = absurd (cc)
    by_found (Some there) e k = word_low w ws front there e f

pub on_ok : {A E : Type 0} (result : Result A E) (P : Type 0) → P → OnOk result P
on_ok (Ok a) P h = h
on_ok (Err e) P h = tt

pub on_mapped : {A B E : Type 0} (f : A → B) (result : Result A E) (P : Type 0) → OnOk result P → OnOk (map_value f result) P
on_mapped f (Ok a) P h = h
on_mapped f (Err e) P h = tt

pub bare_line_low : (w : ℕ) (ws : List ℕ) (front next : Front) → bare_line (w ∷ ws) front ≡ Ok next → InFile front → front.line < 2 ^ 32
unfolding bare_line
bare_line_low w ws front next h f = fixed_low w ws front (behind_word (w ∷ ws) front) refl _ next h f

pub expression_line_low : (w : ℕ) (ws : List ℕ) (names : Names) (front : Front) (r : Reached Tree) → expression_line (w ∷ ws) names front ≡ Ok r → InFile front → front.line < 2 ^ 32
unfolding expression_line
expression_line_low w ws names front r h f = fixed_low w ws front (behind_word (w ∷ ws) front) refl _ r h f

pub expression_line_at : (word : List ℕ) (names : Names) (front : Front) (r : Reached Tree) → 0 < length word → expression_line word names front ≡ Ok r → InFile front → front.line < 2 ^ 32
expression_line_at [] names front r some h f = absurd (omega arith)
expression_line_at (w ∷ ws) names front r some h f = expression_line_low w ws names front r h f

-- ---- a line that ends in an expression of which a value is formed
module _ {A : Type 0} (f : Tree → A) where
  abbrev with_value : Reached Tree → Reached A
  with_value r = record { value = f r.value; front = r.front }

  abbrev formed_line : List ℕ → Names → Front → Read (Reached A)
  formed_line word names front = and_next (fixed word front) (λ behind. and_next (sum_of names behind) (λ sum. to_line_end (f sum.value) sum.front))

  formed : (word : List ℕ) (names : Names) (front : Front) → formed_line word names front ≡ map_value with_value (expression_line word names front)
  unfolding expression_line
  formed word names front = by_word (fixed word front)
    where
      by_end : (tree : Tree) (end : Read Front) → and_next end (λ next. Ok (reached (f tree) next)) ≡ map_value with_value (and_next end (λ next. Ok (reached tree next)))
      by_end tree (Ok next) = refl
      by_end tree (Err fault) = refl

      by_sum : (sum : Read (Reached Tree)) → and_next sum (λ s. to_line_end (f s.value) s.front) ≡ map_value with_value (and_next sum (λ s. to_line_end s.value s.front))
      by_sum (Ok s) = by_end s.value (line_end s.front)
      by_sum (Err fault) = refl

      by_word : (found : Read Front) → and_next found (λ behind. and_next (sum_of names behind) (λ sum. to_line_end (f sum.value) sum.front))
          ≡ map_value with_value (and_next found (λ behind. and_next (sum_of names behind) (λ sum. to_line_end sum.value sum.front)))
      by_word (Ok behind) = by_sum (sum_of names behind)
      by_word (Err fault) = refl

-- behind the word `log`
pub log_factor_fault : (n : ℕ) (front : Front) (fault : SyntaxFault) → factor front ≡ Err fault → after_log n front ≡ Err fault
unfolding after_log
log_factor_fault n front fault e = rw e refl

module _ (n : ℕ) (front behind : Front) (c : Factor) (e : factor front ≡ Ok (record { value = c; front = behind })) where
  log_is : after_log n front ≡ map_value (with_value (log_line c)) (expression_line (codes "of") (monomials n) behind)
  unfolding after_log
  log_is = rw e (formed (log_line c) (codes "of") (monomials n) behind)

  pub log_read : (argument : List Step) (after : Front) → IsSum (monomials n) (expression_line (codes "of") (monomials n) behind) argument after → IsLogLine n (after_log n front) (Log c argument) after
  log_read argument after u = record {
    line = log_line c u.tree;
    is = log_is ∙ ap (map_value (with_value (log_line c))) u.is;
    written = ap (Log c) u.written;
    over = u.over;
  }

  pub log_fault : (fault : ReadFault) → IsFaultOf fault (expression_line (codes "of") (monomials n) behind) → IsFaultOf fault (after_log n front)
  log_fault (Syntax f) h = log_is ∙ ap (map_value (with_value (log_line c))) h
  log_fault Memory h = tt

-- behind the word `sum`
pub sum_modulus_fault : (n : ℕ) (front : Front) (fault : ReadFault) → IsFaultOf fault (sum_of (with_z n) front) → IsFaultOf fault (after_sum n front)
unfolding after_sum
sum_modulus_fault n front (Syntax f) h = rw h refl
sum_modulus_fault n front Memory h = tt

module _ (n : ℕ) (front behind : Front) (modulus : List Step) (r : IsSum (with_z n) (sum_of (with_z n) front) modulus behind) where
  sum_is : after_sum n front ≡ map_value (with_value (λ s. sum_line r.tree s front.start)) (expression_line (codes "of") (with_z n) behind)
  unfolding after_sum
  sum_is = let is = r.is in rw is (formed (λ s. sum_line r.tree s front.start) (codes "of") (with_z n) behind)

  pub sum_read : (argument : List Step) (after : Front) (start : ℕ) → start ≡ front.start → IsSum (with_z n) (expression_line (codes "of") (with_z n) behind) argument after →
      IsLogLine n (after_sum n front) (Sum modulus argument start) after
  sum_read argument after start e s = record {
    line = sum_line r.tree s.tree front.start;
    is = sum_is ∙ ap (map_value (with_value (λ s. sum_line r.tree s front.start))) s.is;
    written = rw (r.written, s.written, e) refl;
    over = (r.over, s.over);
  }

  pub sum_fault : (fault : ReadFault) → IsFaultOf fault (expression_line (codes "of") (with_z n) behind) → IsFaultOf fault (after_sum n front)
  sum_fault (Syntax f) h = sum_is ∙ ap (map_value (with_value (λ s. sum_line r.tree s front.start))) h
  sum_fault Memory h = tt

-- ---- the logarithm that stands next
module _ (n : ℕ) (front : Front) where
  pub log_stands : (behind : Front) → behind_word (codes "log") front ≡ Some behind → next_log n front ≡ Some (after_log n behind)
  unfolding next_log
  log_stands behind e = rw e refl

  pub sum_stands : (behind : Front) → behind_word (codes "log") front ≡ None → behind_word (codes "sum") front ≡ Some behind → next_log n front ≡ Some (after_sum n behind)
  unfolding next_log
  sum_stands behind none e = rw (none, e) refl

  pub none_stands : behind_word (codes "log") front ≡ None → behind_word (codes "sum") front ≡ None → next_log n front ≡ None
  unfolding next_log
  none_stands none e = rw (none, e) refl

  module _ (rule : Read (Reached LogLine)) (e : next_log n front ≡ Some rule) where
    next_is : (program : LogProgram) (next : Front) → front.line < 2 ^ 32 → IsLogLine n rule program next → IsSomeLog n (next_log n front) program front next
    next_is program next low p = record { line = p.line; is = e ∙ ap Some p.is; written = p.written; over = p.over; low = low }

    next_fault : (fault : ReadFault) → IsFaultOf fault rule → IsNextFault fault (next_log n front)
    next_fault (Syntax f) h = e ∙ ap Some h
    next_fault Memory h = tt

    pub next_read : (log : Result LogProgram ReadFault) (next : Front) → front.line < 2 ^ 32 → IfOk log (λ program. IsLogLine n rule program next) →
        IfOk (map_value Some log) (λ log. IsNextLog n (next_log n front) log front next)
    next_read (Ok program) next low p = next_is program next low p
    next_read (Err fault) next low p = tt

    pub next_faults : (log : Result LogProgram ReadFault) → IfErr log (λ fault. IsFaultOf fault rule) → IfErr (map_value Some log) (λ fault. IsNextFault fault (next_log n front))
    next_faults (Ok program) h = tt
    next_faults (Err fault) h = next_fault fault h

-- ---- logarithms, over n monomials, behind so many lines
-- What is read so far: the rule is the same from here on.
pub record IsLogsSoFar (n before : ℕ) (rule : Read (Reached LogLines)) (most : ℕ) (programs : LogPrograms) (front : Front) : Type 0 where
  pub lines : LogLines
  pub same : rule ≡ log_lines n most lines front
  pub logs_written : programs.logs ≡ map log_program lines.logs
  pub lines_written : programs.lines ≡ lines.lines
  pub over : All (IsLogOver (n + 1)) lines.logs
  pub numbered : length lines.lines ≡ length lines.logs + before

pub logs_begin : (n : ℕ) (numbers : List ℕ) (most : ℕ) (programs : LogPrograms) (front : Front) → programs.logs ≡ [] → programs.lines ≡ numbers →
    IsLogsSoFar n (length numbers) (log_lines n most (record { logs = []; lines = numbers }) front) most programs front
logs_begin n numbers most programs front none is = record {
  lines = record { logs = []; lines = numbers };
  same = refl;
  logs_written = none;
  lines_written = is;
  over = All-nil (IsLogOver (n + 1));
  numbered = omega arith;
}

module _ (n before : ℕ) (rule : Read (Reached LogLines)) (most : ℕ) (programs : LogPrograms) (front : Front) (s : IsLogsSoFar n before rule most programs front) where
  next : (below : ℕ) → most ≡ suc below → rule ≡ log_lines_from (log_lines n below) s.lines front (next_log n front)
  next below e = s.same ∙ ap (λ k. log_lines n k s.lines front) e

  pub logs_stop : (below : ℕ) → most ≡ suc below → next_log n front ≡ None → AreLogLines n before rule programs front
  logs_stop below e none = record {
    lines = s.lines;
    is = next below e ∙ ap (log_lines_from (log_lines n below) s.lines front) none;
    logs_written = s.logs_written;
    lines_written = s.lines_written;
    over = s.over;
    numbered = s.numbered;
  }

  pub logs_done : most ≡ 0 → AreLogLines n before rule programs front
  logs_done e = record {
    lines = s.lines;
    is = s.same ∙ ap (λ k. log_lines n k s.lines front) e;
    logs_written = s.logs_written;
    lines_written = s.lines_written;
    over = s.over;
    numbered = s.numbered;
  }

  pub logs_more : (below : ℕ) (program : LogProgram) (programs_new : LogPrograms) (front_new : Front) → most ≡ suc below → IsSomeLog n (next_log n front) program front front_new →
      programs_new.logs ≡ programs.logs ++ program ∷ [] → programs_new.lines ≡ programs.lines ++ front.line ∷ [] → IsLogsSoFar n before rule below programs_new front_new
  logs_more below program programs_new front_new e p logs lines = record {
    lines = with_log s.lines front.line p.line;
    same = next below e ∙ ap (log_lines_from (log_lines n below) s.lines front) p.is;
    logs_written = logs ∙ rw (s.logs_written, p.written) (sym (map-append log_program s.lines.logs (p.line ∷ [])));
    lines_written = lines ∙ ap (λ ls. ls ++ front.line ∷ []) s.lines_written;
    over = All-push (IsLogOver (n + 1)) s.lines.logs p.line s.over p.over;
    numbered = omega (arith, s.numbered, length-append s.lines.logs (p.line ∷ []), length-append s.lines.lines (front.line ∷ []));
  }

  pub logs_fault : (below : ℕ) (fault : ReadFault) → most ≡ suc below → IsNextFault fault (next_log n front) → IsFaultOf fault rule
  logs_fault below (Syntax f) e h = next below e ∙ ap (log_lines_from (log_lines n below) s.lines front) h
  logs_fault below Memory e h = tt

-- ---- an answer, over n monomials
pub part_fault : (n first : ℕ) (front : Front) (fault : ReadFault) → IsFaultOf fault (expression_line (codes "part") (monomials n) front) → IsFaultOf fault (partial_lines n first front)
unfolding partial_lines
part_fault n first front (Syntax f) h = rw h refl
part_fault n first front Memory h = tt

module _ (n first : ℕ) (front after : Front) (part : List Step) (p : IsSum (monomials n) (expression_line (codes "part") (monomials n) front) part after) where
  pub partial_read : (programs : LogPrograms) (next : Front) →
      AreLogLines n 2 (log_lines n (length after.rest) (record { logs = []; lines = first ∷ front.line ∷ [] }) after) programs next →
      IsPartialRead n (partial_lines n first front) (record { part = part; so_far = record { logs = programs.logs; lines = programs.lines } }) next
  unfolding partial_lines
  partial_read programs next l = record {
    tree = record { part = p.tree; logs = l.lines.logs; refutation = None; lines = l.lines.lines };
    is = rw (p.is, l.is) refl;
    written = rw (p.written, l.logs_written, l.lines_written) refl;
    over = record { unrefuted = refl; part = p.over; logs = l.over; numbered = l.numbered };
  }

  pub partial_fault : (fault : ReadFault) → IsFaultOf fault (log_lines n (length after.rest) (record { logs = []; lines = first ∷ front.line ∷ [] }) after) → IsFaultOf fault (partial_lines n first front)
  unfolding partial_lines
  partial_fault (Syntax f) h = rw (p.is, h) refl
  partial_fault Memory h = tt

module _ (n : ℕ) (tree : AnswerTree) (partial : PartialProgram) (written : partial ≡ partial_program tree) (over : IsPartialOver (n + 1) tree) (front : Front) where
  -- the end of an integral
  pub integral_read : (next : Front) (lines : List ℕ) → bare_line (codes "end") front ≡ Ok next → lines ≡ partial.so_far.lines ++ front.line ∷ [] →
      IsAnswerRead n (integral_end tree front) (ended_program partial lines None) next
  unfolding integral_end
  integral_read next lines e is = record {
    tree = record { part = tree.part; logs = tree.logs; refutation = tree.refutation; lines = tree.lines ++ front.line ∷ [] };
    is = rw e refl;
    written = rw (is, written, over.unrefuted) refl;
    over = rw over.unrefuted (record { part = over.part; logs = over.logs; refutation = tt; numbered = omega (arith, over.numbered, length-append tree.lines (front.line ∷ [])) });
  }

  -- the rest and the end of a refutation
  module _ (after : Front) (rest : List Step) (r : IsSum (monomials n) (expression_line (codes "rest") (monomials n) front) rest after) where
    refutation_read : (end : EndProgram) (next : Front) (first_lines lines : List ℕ) → IsSomeEnd n (end_line n after) end next → first_lines ≡ partial.so_far.lines ++ front.line ∷ [] →
        lines ≡ first_lines ++ after.line ∷ [] → IsAnswerRead n (refutation_end n tree front) (ended_program partial lines (refuted_program rest end)) next
    unfolding refutation_end
    refutation_read end next first_lines lines s first is =
        let both : lines ≡ tree.lines ++ front.line ∷ after.line ∷ [] = is ∙ ap (λ ls. ls ++ after.line ∷ []) first ∙ append_assoc partial.so_far.lines (front.line ∷ []) (after.line ∷ [])
        ∙ ap (λ (a : PartialProgram). a.so_far.lines ++ front.line ∷ after.line ∷ []) written in
        record {
          tree = record { part = tree.part; logs = tree.logs; refutation = Some (record { rest = r.tree; end = s.tree }); lines = tree.lines ++ front.line ∷ after.line ∷ [] };
          is = rw (r.is, s.is) refl;
          written = rw (both, written, r.written, s.written) refl;
          over = record {
            part = over.part;
            logs = over.logs;
            refutation = record { rest = r.over; end = s.over };
            numbered = omega (arith, over.numbered, length-append tree.lines (front.line ∷ after.line ∷ []));
          };
        }

    refutation_unread : (next : Front) → end_line n after ≡ Ok (record { value = None; front = next }) → refutation_end n tree front ≡ Ok (record { value = None; front = next })
    unfolding refutation_end
    refutation_unread next e = rw (r.is, e) refl

    pub refutation_ended : (end : Option EndProgram) (next : Front) (first_lines lines : List ℕ) → IsNextEnd n (end_line n after) end next → first_lines ≡ partial.so_far.lines ++ front.line ∷ [] →
        lines ≡ first_lines ++ after.line ∷ [] → IsSomeAnswer n (refutation_end n tree front) (option_map (ended_program partial lines) (option_map (refuted_program rest) end)) next
    refutation_ended None next first_lines lines e first is = refutation_unread next e
    refutation_ended (Some end) next first_lines lines e first is = refutation_read end next first_lines lines e first is

pub integral_end_fault : (tree : AnswerTree) (front : Front) (fault : SyntaxFault) → bare_line (codes "end") front ≡ Err fault → integral_end tree front ≡ Err fault
unfolding integral_end
integral_end_fault tree front fault e = rw e refl

pub rest_fault : (n : ℕ) (tree : AnswerTree) (front : Front) (fault : ReadFault) → IsFaultOf fault (expression_line (codes "rest") (monomials n) front) → IsFaultOf fault (refutation_end n tree front)
unfolding refutation_end
rest_fault n tree front (Syntax f) h = rw h refl
rest_fault n tree front Memory h = tt

pub end_line_fault : (n : ℕ) (tree : AnswerTree) (front after : Front) (rest : List Step) (fault : ReadFault) → IsSum (monomials n) (expression_line (codes "rest") (monomials n) front) rest after →
    IsFaultOf fault (end_line n after) → IsFaultOf fault (refutation_end n tree front)
unfolding refutation_end
end_line_fault n tree front after rest (Syntax f) r h = let is = r.is in rw (is, h) refl
end_line_fault n tree front after rest Memory r h = tt

-- the end of a refutation in residues
module _ (n : ℕ) (front behind : Front) (e : behind_word (codes "residue") front ≡ Some behind) where
  residue_stands : end_kind n front ≡ some_end (residue_end n behind)
  unfolding end_kind
  residue_stands = rw e refl

  pub residue_read : (end : Result EndProgram ReadFault) (next : Front) → IfOk end (λ program. IsEndRead n (residue_end n behind) program next) →
      IfOk (map_value Some end) (λ end. IsNextEnd n (end_kind n front) end next)
  residue_read (Ok program) next p = record { tree = p.tree; is = residue_stands ∙ ap some_end p.is; written = p.written; over = p.over }
  residue_read (Err fault) next p = tt

  fault_stands : (fault : ReadFault) → IsFaultOf fault (residue_end n behind) → IsFaultOf fault (end_kind n front)
  fault_stands (Syntax f) h = residue_stands ∙ ap some_end h
  fault_stands Memory h = tt

  pub residue_fault : (end : Result EndProgram ReadFault) → IfErr end (λ fault. IsFaultOf fault (residue_end n behind)) → IfErr (map_value Some end) (λ fault. IsFaultOf fault (end_kind n front))
  residue_fault (Ok program) h = tt
  residue_fault (Err fault) h = fault_stands fault h

-- the first line
pub first_integral : (front behind next : Front) (end : Result ⊤ SyntaxFault) → behind_word (codes "integral") front ≡ Some behind → Moves end (line_end behind) next →
    MovesTo (map_value (λ u. false) end) (is_refuted front) next
unfolding is_refuted
first_integral front behind next (Ok u) e h = rw (e, h) refl
first_integral front behind next (Err fault) e h = rw (e, h) refl

pub first_refuted : (front next : Front) (end : Result ⊤ SyntaxFault) → behind_word (codes "integral") front ≡ None → Moves end (bare_line (codes "refuted") front) next →
    MovesTo (map_value (λ u. true) end) (is_refuted front) next
unfolding is_refuted
first_refuted front next (Ok u) e h = rw (e, h) refl
first_refuted front next (Err fault) e h = rw (e, h) refl

pub refuted_low : (front next : Front) (end : Result ⊤ SyntaxFault) → Moves end (bare_line (codes "refuted") front) next → InFile front → OnOk (map_value (λ u. true) end) (front.line < 2 ^ 32)
refuted_low front next (Ok u) h f = bare_line_low 114 (codes "efuted") front next h f
refuted_low front next (Err fault) h f = tt

-- the part and the logarithms, and the end
pub first_line_fault : (n : ℕ) (front : Front) (fault : SyntaxFault) → is_refuted front ≡ Err fault → answer_lines n front ≡ Err fault
unfolding answer_lines
first_line_fault n front fault e = rw e refl

module _ (n : ℕ) (front after : Front) (refuted : Bool) (first : is_refuted front ≡ Ok (record { value = refuted; front = after })) where
  pub partial_lines_fault : (fault : ReadFault) → IsFaultOf fault (partial_lines n front.line after) → IsFaultOf fault (answer_lines n front)
  unfolding answer_lines
  partial_lines_fault (Syntax f) h = rw (first, h) refl
  partial_lines_fault Memory h = tt

  module _ (partial : PartialProgram) (behind : Front) (p : IsPartialRead n (partial_lines n front.line after) partial behind) where
    lines_are : answer_lines n front ≡ answer_end n refuted p.tree behind
    unfolding answer_lines
    lines_are = let is = p.is in rw (first, is) refl

    pub answer_ended : (result : Result (Option AnswerProgram) ReadFault) (next : Front) →
        ((tree : AnswerTree) → partial ≡ partial_program tree → IsPartialOver (n + 1) tree → IfOk result (λ program. IsSomeAnswer n (answer_end n refuted tree behind) program next)) →
        IfOk result (λ program. IsSomeAnswer n (answer_lines n front) program next)
    answer_ended result next h = rw lines_are (h p.tree p.written p.over)

    pub answer_end_fault : (result : Result (Option AnswerProgram) ReadFault) → ((tree : AnswerTree) → IfErr result (λ fault. IsFaultOf fault (answer_end n refuted tree behind))) →
        IfErr result (λ fault. IsFaultOf fault (answer_lines n front))
    answer_end_fault result h = rw lines_are (h p.tree)
