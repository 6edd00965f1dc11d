-- What is printed of a certificate, behind the file of a problem, is read as the same certificate.
use Rattle.std.specs.List.{range_with_len}
use Rattle.std.proofs.Common.{◌≡◌, ℕ, ◌+◌, List, [], ◌++◌, length, Option, None, Some, Ok, Err, refl, sym, ap, subst, ◌∙◌, arith}
use Rattle.risch_cert.specs.Answers.{print_certificate}
use Rattle.risch_cert.specs.declared.answer.Certificate.{Certificate}
use Rattle.risch_expression.specs.Results.{and_next}
use Rattle.risch_expression.specs.Grammar.{Read}
use Rattle.risch_text.specs.Lines.{Front, from_line, nothing_by, nothing}
use Rattle.risch_text.specs.File.{ProblemTree, problem_lines, whole_problem}
use Rattle.risch_text.specs.Certified.{CertifiedTree, answer_lines, whole_answer, whole_certified}
use Rattle.risch_text.specs.Problem.{ProblemValue, CertifiedValue, line_count}
use Rattle.risch_text.specs.Values.{Reading, problem_value, answer_value, certified_value, certified_if_read, valued_by}
use Rattle.risch_text.specs.Read.{problem_answer, read_problem}
use Rattle.risch_text.specs.ReadCertified.{certified_answer, read_certified}
use Rattle.risch_text.specs.declared.certified.ReadCertified.{ReadCertified}
use Rattle.risch_text.specs.declared.certified.ReadCertified.TheVariants as answer
use Rattle.risch_text.specs.declared.problem.ReadProblem.TheVariants.{Problem}
use Rattle.risch_round_trip.specs.RoundTrip as spec
use Rattle.risch_round_trip.specs.RoundTrip.{EndsLine, ended_lines, IsOverTower, IsReadBack, certified_behind}
use Rattle.risch_round_trip.proofs.FurtherProblems.{same-length, problem_behind}
use Rattle.risch_round_trip.proofs.ProblemValues.{problem-same, problem-answered, problem-high}
use Rattle.risch_round_trip.proofs.ReadLines.{EndsAtLimit, IsFormed, formed-next, formed-map}
use Rattle.risch_round_trip.proofs.ReadAnswers.{certificate-is_text}

-- the problem that a file is read as, and its tree
record IsProblemOf (bytes : List ℕ) (problem : ProblemValue) : Type 0 where
  tree : ProblemTree
  read : whole_problem bytes ≡ Ok tree
  value : problem_value tree ≡ Ok problem

problem-of : (bytes : List ℕ) (problem : ProblemValue) → read_problem bytes ≡ Problem problem → IsProblemOf bytes problem
unfolding read_problem
problem-of bytes problem h = by_tree (whole_problem bytes) refl h
  where
    by_tree : (tree : Read ProblemTree) → whole_problem bytes ≡ tree → problem_answer (length bytes) (valued_by problem_value tree) ≡ Problem problem → IsProblemOf bytes problem
    by_tree (Err g) e k = absurd (cc)
    by_tree (Ok tree) e k = record { tree = tree; read = e; value = problem-answered (length bytes) tree problem k }

-- a value that is formed, or a limit, is what is answered
answered : (size : ℕ) (c : CertifiedValue) (value : Reading (Option CertifiedValue)) → IsFormed (Some c) value → IsReadBack c (certified_answer size value)
answered size c (Ok None) h = absurd (cc)
answered size c (Ok (Some d)) h = let same : d ≡ c = cc in same
answered size c (Err end) h = at_limit (certified_answer size (Err end)) (h size)
  where
    at_limit : (read : ReadCertified) → EndsAtLimit read → IsReadBack c read
    at_limit (answer.Certified it) k = absurd k
    at_limit answer.NotYet k = k
    at_limit (answer.Syntax at cause) k = k
    at_limit (answer.Refused at cause) k = k
    at_limit (answer.Stopped stop) k = k
    at_limit answer.Memory k = k

-- the tree of the whole, and its value
record IsCertifiedOf (bytes : List ℕ) (c : CertifiedValue) : Type 0 where
  tree : CertifiedTree
  read : whole_certified bytes ≡ Ok (Some tree)
  value : IsFormed c (certified_value tree)

read-back : (bytes : List ℕ) (c : CertifiedValue) → IsCertifiedOf bytes c → IsReadBack c (read_certified bytes)
unfolding read_certified
read-back bytes c t =
    answered (length bytes) c (valued_by certified_if_read (whole_certified bytes))
    (subst (λ v. IsFormed (Some c) (valued_by certified_if_read v)) (sym t.read) (formed-map c Some (certified_value t.tree) t.value))

certificate-behind : (bytes : List ℕ) (problem : ProblemValue) (c : Certificate) → EndsLine bytes → IsProblemOf bytes problem → IsOverTower (length problem.tower + 1) c →
    IsCertifiedOf (bytes ++ print_certificate c) (certified_behind bytes problem c)
unfolding whole_certified certified_value nothing
certificate-behind bytes problem c ends p kept =
    let t = certificate-is_text c in
    let behind = problem_behind t.letter t.dark t.no_comment t.no_t bytes t.tail p.tree ends p.read in
    let high = problem-high p.tree problem p.value in
    let same : length p.tree.tower ≡ length behind.other.tower = same-length p.tree.tower behind.other.tower (ap (λ x. x.tower) behind.same) in
    let long = high.is in
    let most = high.most in
    let height : length problem.tower ≡ length behind.other.tower = long ∙ same in
    let r = t.reads (length behind.other.tower) (omega (arith, height, most)) (subst (λ (m : ℕ). IsOverTower (m + 1) c) height kept) behind.front behind.rest in
    let numbered : r.tree.lines ≡ range_with_len (ended_lines bytes + 1) (line_count c)
    = r.numbered ∙ ap (λ (m : ℕ). range_with_len m (line_count c)) (behind.line ∙ one_first (ended_lines bytes)) in
    record {
      tree = record { problem = behind.other; answer = r.tree };
      read = ap (λ (text : List ℕ). and_next (problem_lines (from_line 1 (bytes ++ text))) (λ q. and_next (answer_lines (length q.value.tower) q.front) (λ a. whole_answer q.value a.front a.value))) t.is
          ∙ ap (λ v. and_next v (λ q. and_next (answer_lines (length q.value.tower) q.front) (λ a. whole_answer q.value a.front a.value))) behind.is
          ∙ ap (λ v. and_next v (λ a. whole_answer behind.other a.front a.value)) r.is
          ∙ ap (λ v. and_next v (λ end. Ok (Some (record { problem = behind.other; answer = r.tree })))) (nothing-read r.end r.nothing_left);
      value =
          let problem_is = problem-same p.tree behind.other problem behind.same p.value in
          subst (λ v. IsFormed (certified_behind bytes problem c) (and_next v (λ problem. and_next (answer_value r.tree) (λ certificate.
          Ok (record { problem = problem; certificate = certificate; lines = r.tree.lines }))))) (sym problem_is)
          (formed-next c (certified_behind bytes problem c) (answer_value r.tree) _ r.formed
          (ap (λ (lines : List ℕ). record { problem = problem; certificate = c; lines = lines }) numbered));
    }
  where
    one_first : (m : ℕ) → 1 + m ≡ m + 1
    one_first m = omega arith

    nothing-read : (end : Front) → end.rest ≡ [] → nothing end ≡ Ok end
    nothing-read end h = ap (nothing_by end) h

pub printed_is_read : spec.printed_is_read
printed_is_read bytes problem c ends h kept =
    read-back (bytes ++ print_certificate c) (certified_behind bytes problem c) (certificate-behind bytes problem c ends (problem-of bytes problem h) kept)
