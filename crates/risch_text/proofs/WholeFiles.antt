-- A problem and its answer.
use Rattle.std.proofs.Common.{◌≡◌, ℕ, ◌+◌, List, length, Some, None, Ok, Err, refl, sym, ap, ◌∙◌, subst}
use Rattle.std.proofs.lemmas.List.{length-map}
use Rattle.risch_expression.specs.Reading.{IsFaultOf}
use Rattle.risch_expression.specs.declared.fault.ReadFault.{ReadFault}
use Rattle.risch_expression.specs.declared.fault.ReadFault.TheVariants.{Syntax, Memory}
use Rattle.risch_expression.specs.declared.fault.SyntaxFault.{SyntaxFault}
use Rattle.risch_text.specs.Lines.{Front, from_line, nothing}
use Rattle.risch_text.specs.File.{problem_lines}
use Rattle.risch_text.specs.Certified.{answer_lines, whole_certified}
use Rattle.risch_text.specs.Programs.{tower_program, IsAnswerOver}
use Rattle.risch_text.specs.Reading.{IsProblemRead, IsAnswerRead, IsCertifiedRead}
use Rattle.risch_text.specs.declared.programs.ProblemProgram.{ProblemProgram}
use Rattle.risch_text.specs.declared.programs.AnswerProgram.{AnswerProgram}

pub problem_fault : (bytes : List ℕ) (front : Front) (fault : ReadFault) → front ≡ from_line 1 bytes → IsFaultOf fault (problem_lines front) → IsFaultOf fault (whole_certified bytes)
unfolding whole_certified
problem_fault bytes front (Syntax f) is h = let same = rw is at h in rw same refl
problem_fault bytes front Memory is h = tt

module _ (bytes : List ℕ) (start : Front) (problem : ProblemProgram) (front : Front) (is : start ≡ from_line 1 bytes) (p : IsProblemRead (problem_lines start) problem front) where
  lines : problem_lines (from_line 1 bytes) ≡ Ok (record { value = p.tree; front = front })
  lines = ap problem_lines (sym is) ∙ p.is

  height : length problem.tower ≡ length p.tree.tower
  height = ap (λ q. length q.tower) p.written ∙ length-map p.tree.tower tower_program

  pub answer_unread : (next : Front) → answer_lines (length problem.tower) front ≡ Ok (record { value = None; front = next }) → whole_certified bytes ≡ Ok None
  unfolding whole_certified
  answer_unread next e = let there = rw height at e in rw (lines, there) refl

  pub answer_fault : (fault : ReadFault) → IsFaultOf fault (answer_lines (length problem.tower) front) → IsFaultOf fault (whole_certified bytes)
  unfolding whole_certified
  answer_fault (Syntax f) h = let there = rw height at h in rw (lines, there) refl
  answer_fault Memory h = tt

  module _ (answer : AnswerProgram) (next : Front) (a : IsAnswerRead (length problem.tower) (answer_lines (length problem.tower) front) answer next) where
    answer_is : answer_lines (length p.tree.tower) front ≡ Ok (record { value = Some a.tree; front = next })
    answer_is = ap (λ n. answer_lines n front) (sym height) ∙ a.is

    pub end_fault : (f : SyntaxFault) (fault : ReadFault) → nothing next ≡ Err f → fault ≡ Syntax f → IsFaultOf fault (whole_certified bytes)
    unfolding whole_certified
    end_fault f fault h s = rw (s, lines, answer_is, h) refl

    pub certified_read : nothing next ≡ Ok next → IsCertifiedRead (whole_certified bytes) (record { problem = problem; answer = answer })
    unfolding whole_certified
    certified_read h = record {
      tree = record { problem = p.tree; answer = a.tree };
      is = rw (lines, answer_is, h) refl;
      written = rw (p.written, a.written) refl;
      over = record { problem = p.over; answer = subst (λ (n : ℕ). IsAnswerOver (n + 1) a.tree) height a.over };
    }
