-- The values of a problem and its printed answer.
use Rattle.std.proofs.Common.{◌≡◌, ℕ, ◌+◌, List, length, [], Option, None, Some, Result, Ok, refl, ap}
use Rattle.std.specs.Prelude.{option_map, IfSome}
use Rattle.std.proofs.lemmas.List.{length-map}
use Rattle.std.proofs.lemmas.List.Elements.{All-map, All-weaker}
use Rattle.risch_level.specs.Levels.{Element}
use Rattle.risch_rootsum.specs.declared.integral.LogPart.{LogPart}
use Rattle.risch_rootsum.specs.declared.integral.Integral.{Integral}
use Rattle.risch_cert.specs.declared.answer.Certificate.{Certificate}
use Rattle.risch_cert.specs.declared.answer.Certificate.TheVariants.{Integral as Certified, Refuted}
use Rattle.risch_cert.specs.declared.chain.Chain.{Chain}
use Rattle.risch_cert.specs.declared.chain.End.TheVariants.{Residue}
use Rattle.risch_expression.specs.Results.{map_value}
use Rattle.risch_expression.specs.Grammar.{Read}
use Rattle.risch_text.specs.Certified.{LogLine, log_line, sum_line, RefutationTree, AnswerTree, CertifiedTree}
use Rattle.risch_text.specs.Problem.{ProblemValue, CertifiedValue, IsForm, line_count, IsCertified}
use Rattle.risch_text.specs.Values.{Reading, element_at, with_logs, problem_value, integral_value, chain_value, certificate_value, answer_value, certified_value, certified_if_read}
use Rattle.risch_text.specs.Programs.{tower_program, log_program, problem_program, refutation_program, certified_program, IsLogOver, IsLogProgramOver, IsSomeRefutationOver, IsSomeRefutationProgramOver, other_lines, IsAnswerProgramOver, IsCertifiedOver, IsCertifiedProgramOver}
use Rattle.risch_text.specs.Reading.{IsEndOf, Reads, IsCertifiedRead, IsWholeCertified}
use Rattle.risch_text.specs.declared.fault.Fault.{Fault}
use Rattle.risch_text.specs.declared.fault.Fault.TheVariants.{Syntax, Refused, Stopped, Memory}
use Rattle.risch_text.specs.declared.programs.RefutationProgram.{RefutationProgram}
use Rattle.risch_text.specs.declared.programs.CertifiedProgram.{CertifiedProgram}
use Rattle.risch_text.proofs.TowerValues.{problem_over}

-- ---- the steps of expressions over the tower
log_over : (n : ℕ) (l : LogLine) → IsLogOver n l → IsLogProgramOver n (log_program l)
log_over n (log_line c u) o = record { tree = u; written = refl; over = o }
log_over n (sum_line r s start) o = (record { tree = r; written = refl; over = o.0 }, record { tree = s; written = refl; over = o.1 })

refutation_over : (n : ℕ) (r : Option RefutationTree) → IsSomeRefutationOver n r → IsSomeRefutationProgramOver n (option_map refutation_program r)
refutation_over n None o = tt
refutation_over n (Some r) o = record {
  rest = record { tree = r.rest; written = refl; over = o.rest };
  end = record { level = o.end.level; power = o.end.power; trace = record { tree = r.end.trace; written = refl; over = o.end.trace } };
}

same_others : (r : Option RefutationTree) → other_lines (option_map refutation_program r) ≡ other_lines r
same_others None = refl
same_others (Some r) = refl

certified_over : (rule : Read (Option CertifiedTree)) (program : CertifiedProgram) → IsCertifiedRead rule program → IsCertifiedProgramOver program
certified_over rule program p = rw p.written (of p.tree p.over)
  where
    of : (t : CertifiedTree) → IsCertifiedOver t → IsCertifiedProgramOver (certified_program t)
    of t o = let n = length t.problem.tower + 1 in record {
      problem = problem_over t.problem (problem_program t.problem) refl o.problem;
      answer = rw (length-map t.problem.tower tower_program) (record {
        part = record { tree = t.answer.part; written = refl; over = o.answer.part };
        logs = All-map (IsLogProgramOver n) log_program t.answer.logs (All-weaker (IsLogOver n) (λ l. IsLogProgramOver n (log_program l)) (log_over n) t.answer.logs o.answer.logs);
        refutation = refutation_over n t.answer.refutation o.answer.refutation;
        numbered = rw (length-map t.answer.logs log_program, same_others t.answer.refutation) o.answer.numbered;
      });
    }

pub over_if_read : (rule : Read (Option CertifiedTree)) (program : Option CertifiedProgram) → IsWholeCertified rule program → IfSome program IsCertifiedProgramOver
over_if_read rule None p = tt
over_if_read rule (Some program) p = certified_over rule program p

-- ---- the values of an answer
pub part_ends : (tree : AnswerTree) (fault : Fault) → IsEndOf fault (element_at 0 tree.part) → IsEndOf fault (integral_value tree)
unfolding integral_value
part_ends tree (Syntax f) h = rw h refl
part_ends tree (Refused left cause) h = rw h refl
part_ends tree (Stopped stop) h = rw h refl
part_ends tree Memory h = tt

pub logs_end : (tree : AnswerTree) (part : Element) (fault : Fault) → element_at 0 tree.part ≡ Ok part → IsEndOf fault (with_logs [] tree.logs) → IsEndOf fault (integral_value tree)
unfolding integral_value
logs_end tree part (Syntax f) e h = rw (e, h) refl
logs_end tree part (Refused left cause) e h = rw (e, h) refl
logs_end tree part (Stopped stop) e h = rw (e, h) refl
logs_end tree part Memory e h = tt

pub integral_is : (tree : AnswerTree) (part : Element) (logs : List LogPart) → element_at 0 tree.part ≡ Ok part → with_logs [] tree.logs ≡ Ok logs →
    integral_value tree ≡ Ok (record { part = part; logs = logs })
unfolding integral_value
integral_is tree part logs e h = rw (e, h) refl

-- ---- the values of a refutation
module _ (partial : Integral) (tree : RefutationTree) where
  pub rest_ends : (fault : Fault) → IsEndOf fault (element_at 0 tree.rest) → IsEndOf fault (chain_value partial tree)
  unfolding chain_value
  rest_ends (Syntax f) h = rw h refl
  rest_ends (Refused left cause) h = rw h refl
  rest_ends (Stopped stop) h = rw h refl
  rest_ends Memory h = tt

  pub trace_ends : (rest : Element) (fault : Fault) → element_at 0 tree.rest ≡ Ok rest → IsEndOf fault (element_at 0 tree.end.trace) → IsEndOf fault (chain_value partial tree)
  unfolding chain_value
  trace_ends rest (Syntax f) e h = rw (e, h) refl
  trace_ends rest (Refused left cause) e h = rw (e, h) refl
  trace_ends rest (Stopped stop) e h = rw (e, h) refl
  trace_ends rest Memory e h = tt

  pub chain_is : (level power : ℕ) (rest trace : Element) → level ≡ tree.end.level → power ≡ tree.end.power → element_at 0 tree.rest ≡ Ok rest → element_at 0 tree.end.trace ≡ Ok trace →
      chain_value partial tree ≡ Ok (record { partial = partial; rest = rest; level = level; end = Residue power trace })
  unfolding chain_value
  chain_is level power rest trace l p e h = rw (l, p, e, h) refl

-- ---- the values of certificates
pub integral_ends : (tree : AnswerTree) (fault : Fault) → IsEndOf fault (integral_value tree) → IsEndOf fault (answer_value tree)
unfolding answer_value
integral_ends tree (Syntax f) h = rw h refl
integral_ends tree (Refused left cause) h = rw h refl
integral_ends tree (Stopped stop) h = rw h refl
integral_ends tree Memory h = tt

module _ (tree : AnswerTree) (it : Integral) (e : integral_value tree ≡ Ok it) where
  -- an answer whose steps have no refutation has none
  pub unrefuted_is : None ≡ option_map refutation_program tree.refutation → answer_value tree ≡ Ok (Certified it)
  unfolding answer_value
  unrefuted_is none = rw e (by_tree tree.refutation none)
    where
      by_tree : (r : Option RefutationTree) → None ≡ option_map refutation_program r → certificate_value it r ≡ Ok (Certified it)
      by_tree None none = refl
      by_tree (Some r) none = cc

  -- and one with a refutation has the value of its tree
  module _ (program : RefutationProgram) (some : Some program ≡ option_map refutation_program tree.refutation) where
    pub chain_ends : (fault : Fault) → ((r : RefutationTree) → program ≡ refutation_program r → IsEndOf fault (chain_value it r)) → IsEndOf fault (answer_value tree)
    unfolding answer_value
    chain_ends fault value = rw e (by_tree tree.refutation some)
      where
        ends : (fault : Fault) (r : RefutationTree) → IsEndOf fault (chain_value it r) → IsEndOf fault (certificate_value it (Some r))
        ends (Syntax f) r h = rw h refl
        ends (Refused left cause) r h = rw h refl
        ends (Stopped stop) r h = rw h refl
        ends Memory r h = tt

        by_tree : (r : Option RefutationTree) → Some program ≡ option_map refutation_program r → IsEndOf fault (certificate_value it r)
        by_tree None s = absurd (cc)
        by_tree (Some r) s = let same : program ≡ refutation_program r = cc in ends fault r (value r same)

    pub refuted_is : (chain : Chain) → ((r : RefutationTree) → program ≡ refutation_program r → chain_value it r ≡ Ok chain) → answer_value tree ≡ Ok (Refuted chain)
    unfolding answer_value
    refuted_is chain value = rw e (by_tree tree.refutation some)
      where
        by_tree : (r : Option RefutationTree) → Some program ≡ option_map refutation_program r → certificate_value it r ≡ Ok (Refuted chain)
        by_tree None s = absurd (cc)
        by_tree (Some r) s = let same : program ≡ refutation_program r = cc in ap (map_value Refuted) (value r same)

-- ---- the values of a file
pub problem_ends : (tree : CertifiedTree) (fault : Fault) → IsEndOf fault (problem_value tree.problem) → IsEndOf fault (certified_value tree)
unfolding certified_value
problem_ends tree (Syntax f) h = rw h refl
problem_ends tree (Refused left cause) h = rw h refl
problem_ends tree (Stopped stop) h = rw h refl
problem_ends tree Memory h = tt

pub answer_ends : (tree : CertifiedTree) (problem : ProblemValue) (fault : Fault) → problem_value tree.problem ≡ Ok problem → IsEndOf fault (answer_value tree.answer) → IsEndOf fault (certified_value tree)
unfolding certified_value
answer_ends tree problem (Syntax f) e h = rw (e, h) refl
answer_ends tree problem (Refused left cause) e h = rw (e, h) refl
answer_ends tree problem (Stopped stop) e h = rw (e, h) refl
answer_ends tree problem Memory e h = tt

pub certified_is : (tree : CertifiedTree) (problem : ProblemValue) (it : Certificate) (lines : List ℕ) → problem_value tree.problem ≡ Ok problem → answer_value tree.answer ≡ Ok it →
    lines ≡ tree.answer.lines → certified_value tree ≡ Ok (record { problem = problem; certificate = it; lines = lines })
unfolding certified_value
certified_is tree problem it lines e h is = rw (e, h, is) refl

-- as it is answered for what is read with its answer
pub ends_some : {A : Type 0} (fault : Fault) (value : Reading A) → IsEndOf fault value → IsEndOf fault (map_value Some value)
ends_some (Syntax f) value h = rw h refl
ends_some (Refused left cause) value h = rw h refl
ends_some (Stopped stop) value h = rw h refl
ends_some Memory value h = tt

pub none_if_read : (tree : Option CertifiedTree) → None ≡ option_map certified_program tree → certified_if_read tree ≡ Ok None
none_if_read None e = refl
none_if_read (Some tree) e = absurd (cc)

pub some_if_read : (program : CertifiedProgram) (result : Result (Option CertifiedValue) Fault) → ((tree : CertifiedTree) → program ≡ certified_program tree → Reads result (map_value Some (certified_value tree))) →
    (tree : Option CertifiedTree) → Some program ≡ option_map certified_program tree → Reads result (certified_if_read tree)
some_if_read program result value None e = absurd (cc)
some_if_read program result value (Some tree) e = let same : program ≡ certified_program tree = cc in value tree same

-- ---- the certificate has its form over the tower, and there is one number for each of its lines
pub certificate_formed : (program : CertifiedProgram) (problem : ProblemValue) (it : Certificate) → IsCertifiedProgramOver program → length problem.tower ≡ length program.problem.tower →
    ((n : ℕ) → IsAnswerProgramOver n program.answer → IsForm n it) → ((n : ℕ) → IsAnswerProgramOver n program.answer → length program.answer.lines ≡ line_count it) →
    IsCertified (record { problem = problem; certificate = it; lines = program.answer.lines })
certificate_formed program problem it over height form count = record {
  form = form (length problem.tower + 1) (rw height over.answer);
  numbered = count (length program.problem.tower + 1) over.answer;
}
