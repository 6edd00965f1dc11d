-- The values of a problem are the written values of its lines.
use Rattle.std.specs.Prelude.{if◌then◌else◌, nat_lt, option_map, All, IfOk, IfSome}
use Rattle.std.specs.List.{AllZip}
use Rattle.std.proofs.Common.{◌≡◌, ℕ, ◌+◌, ◌≤◌, ◌<◌, Bool, true, false, List, [], ◌∷◌, ◌++◌, length, map, Option, None, Some, Result, Ok, Err, refl, sym, ap, subst, ◌∙◌, arith, length-append, append_assoc}
use Rattle.std.proofs.lemmas.Bool.{ltb-true}
use Rattle.std.proofs.lemmas.List.{map-append, append-nil}
use Rattle.std.proofs.lemmas.List.Elements.{All-head, All-tail}
use Rattle.std.proofs.Math.IntN.{neg_ℤ-neg_ℤ}
use Rattle.risch_mean.specs.Written.{written_value}
use Rattle.risch_frac.specs.Fraction.{Fraction, negative}
use Rattle.risch_field.specs.Ground.{ground}
use Rattle.risch_polynomial.specs.Poly as poly
use Rattle.risch_level.specs.Levels.{Element, element}
use Rattle.risch_derivation.specs.declared.rate.Rate.{Rate}
use Rattle.risch_element_theory.specs.WholeTower.{IsElement, meaning}
use Rattle.risch_element_theory.proofs.ElementPolynomials.{element_interprets}
use Rattle.risch_tower.specs.Tower.{pushed, with_level, rate_of, derivative}
use Rattle.risch_tower.specs.TowerMeaning as tower
use Rattle.risch_tower.specs.TowerMeaning.{monomials}
use Rattle.risch_tower.specs.declared.level.Level.{Level}
use Rattle.risch_tower.specs.declared.level.Monomial.{Monomial}
use Rattle.risch_tower.specs.declared.fault.PushFault.{PushFault}
use Rattle.risch_tower.specs.declared.fault.PushFault.TheVariants.{TooHigh}
use Rattle.risch_rootsum.specs.declared.integral.Integral.{Integral}
use Rattle.risch_rootsum.specs.declared.integral.LogPart.{LogPart}
use Rattle.risch_cert.specs.declared.answer.Certificate.{Certificate}
use Rattle.risch_cert.specs.declared.answer.Certificate.TheVariants.{Integral as Certified, Refuted}
use Rattle.risch_cert.specs.declared.chain.Chain.{Chain}
use Rattle.risch_cert.specs.declared.chain.End.TheVariants.{Residue}
use Rattle.risch_expression.specs.Results.{and_next, map_value}
use Rattle.risch_expression.specs.Tree.{Tree, expression_of, IsOver}
use Rattle.risch_expression.specs.Evaluation.{Valued, constant, constant_term, evaluate, element_value}
use Rattle.risch_expression.proofs.Standing.{constant_term-is_element}
use Rattle.risch_expression.proofs.EvaluationMeaning.{evaluate-means, element_answer_written}
use Rattle.risch_text.specs.File.{TowerLine, ProblemTree, whole_problem}
use Rattle.risch_text.specs.Certified.{LogLine, log_line, sum_line, RefutationTree, AnswerTree, CertifiedTree, whole_certified}
use Rattle.risch_text.specs.Problem.{ProblemValue, CertifiedValue}
use Rattle.risch_text.specs.Values.{Reading, map_fault, fault_of_value, fault_of_push, monomial_with, element_at, with_line, with_lines, factor_value, logarithm, log_value, with_logs, problem_value, integral_value, chain_value, certificate_value, answer_value, certified_value, certified_if_read}
use Rattle.risch_text.specs.Programs.{problem_program, certified_program, AreOver, IsProblemOver, IsLogOver, IsRefutationOver, IsSomeRefutationOver, IsAnswerOver}
use Rattle.risch_text.specs.Reading.{Reads, IsWholeProblem, IsCertifiedRead, IsWholeCertified}
use Rattle.risch_text.specs.Meaning.{monomial_of, written_monomial, IsWritten, IsLogWritten, IsIntegralWritten, IsChainWritten, IsCertificateWritten, IsCertifiedWritten}
use Rattle.risch_text.specs.declared.fault.Fault.{Fault}
use Rattle.risch_text.specs.declared.programs.ProblemProgram.{ProblemProgram}
use Rattle.risch_text.specs.declared.programs.CertifiedProgram.{CertifiedProgram}

-- ---- the steps of a rule that gives a value
record Passes {A B : Type 0} (first : Reading A) (next : A → Reading B) (b : B) : Type 0 where
  value : A
  is : first ≡ Ok value
  after : next value ≡ Ok b

passes : {A B : Type 0} (first : Reading A) (next : A → Reading B) (b : B) → and_next first next ≡ Ok b → Passes first next b
passes (Ok a) next b e = record { value = a; is = refl; after = e }
passes (Err fault) next b e = cc

map_fault-ok : {A E : Type 0} (f : E → Fault) (r : Result A E) (a : A) → map_fault f r ≡ Ok a → r ≡ Ok a
map_fault-ok f (Ok b) a e = cc
map_fault-ok f (Err fault) a e = cc

-- ---- expressions
element_written : (start : ℕ) (tree : Tree) (n : ℕ) (e : Element) → n ≤ 5 → IsOver n false tree → element_at start tree ≡ Ok e → written_value (expression_of tree) ≡ Some (meaning e)
unfolding element_at
element_written start tree n e small over h = element_answer_written (Ok e) tree n (map_fault-ok (fault_of_value start) (element_value tree) e h) small over

-- ---- a level more
record IsOneMore (levels : List Level) (monomial : Monomial) (more : List Level) : Type 0 where
  rate : Rate Element
  low : length levels < 4
  is : more ≡ levels ++ (record { monomial = monomial; rate = rate }) ∷ []

with_level-more : (levels more : List Level) (monomial : Monomial) (rate : Result (Rate Element) PushFault) → length levels < 4 → with_level levels monomial rate ≡ Ok more → IsOneMore levels monomial more
with_level-more levels more monomial (Ok rate) low e = record { rate = rate; low = low; is = cc }
with_level-more levels more monomial (Err refusal) low e = cc

one_more : (levels more : List Level) (monomial : Monomial) (low : Bool) (rate : Result (Rate Element) PushFault) → nat_lt (length levels) 4 ≡ low →
    (if low then with_level levels monomial rate else Err TooHigh) ≡ Ok more → IsOneMore levels monomial more
one_more levels more monomial true rate t e = with_level-more levels more monomial rate (ltb-true (length levels) 4 t) e
one_more levels more monomial false rate t e = cc

pushed-more : (levels more : List Level) (monomial : Monomial) → pushed levels monomial ≡ Ok more → IsOneMore levels monomial more
unfolding pushed
pushed-more levels more monomial e = one_more levels more monomial (nat_lt (length levels) 4) (rate_of (derivative levels) monomial) refl e

monomial-means : (exponential : Bool) (a : Element) → tower.monomial_of (monomial_with exponential a) ≡ monomial_of exponential (meaning a)
monomial-means false a = refl
monomial-means true a = refl

-- ---- tower lines
-- these monomials are those of the lines, above those of the levels
record AreWrittenOn (levels : List Level) (lines : List TowerLine) (more : List Level) : Type 0 where
  are : map Some (monomials more) ≡ map Some (monomials levels) ++ map written_monomial lines
  height : length more ≡ length levels + length lines
  low : length more ≤ 4

record IsLineOn (levels : List Level) (l : TowerLine) (more : List Level) : Type 0 where
  are : map Some (monomials more) ≡ map Some (monomials levels) ++ written_monomial l ∷ []
  height : length more ≡ length levels + 1
  low : length more ≤ 4

line_on : (levels more : List Level) (l : TowerLine) → IsOver (length levels + 1) false l.argument → with_line levels l ≡ Ok more → IsLineOn levels l more
unfolding with_line
line_on levels more l over e =
    let a = passes (element_at l.left l.argument) (λ a. map_fault (fault_of_push l.left) (pushed levels (monomial_with l.exponential a))) more e in
    let m = pushed-more levels more (monomial_with l.exponential a.value) (map_fault-ok (fault_of_push l.left) _ more a.after) in
    let small : length levels + 1 ≤ 5 = omega (arith, m.low) in
    let level : Level = record { monomial = monomial_with l.exponential a.value; rate = m.rate } in
    let written : written_monomial l ≡ Some (tower.monomial_of (monomial_with l.exponential a.value)) =
    ap (option_map (monomial_of l.exponential)) (element_written l.left l.argument (length levels + 1) a.value small over a.is) ∙ ap Some (sym (monomial-means l.exponential a.value)) in
    record {
      are = rw (m.is, written) (ap (map Some) (map-append (λ (l : Level). tower.monomial_of l.monomial) levels (level ∷ [])) ∙ map-append Some (monomials levels) _);
      height = omega (arith, ap length m.is, length-append levels (level ∷ []));
      low = omega (arith, ap length m.is, length-append levels (level ∷ []), m.low);
    }

lines_on : (levels more : List Level) (lines : List TowerLine) → length levels ≤ 4 → AreOver (length levels + 1) lines → with_lines levels lines ≡ Ok more → AreWrittenOn levels lines more
lines_on levels more [] low over e =
    let same : levels ≡ more = cc in
    rw (← same) (record { are = sym (append-nil (map Some (monomials levels))); height = omega arith; low = low })
lines_on levels more (l ∷ lines) low over e =
    let next = passes (with_line levels l) (λ more. with_lines more lines) more e in
    let one = line_on levels next.value l over.0 next.is in
    let above : AreOver (length next.value + 1) lines = subst (λ (n : ℕ). AreOver n lines) (omega (arith, one.height)) over.1 in
    let rest = lines_on next.value more lines one.low above next.after in
    record {
      are = rest.are ∙ ap (λ ms. ms ++ map written_monomial lines) one.are ∙ append_assoc (map Some (monomials levels)) (written_monomial l ∷ []) (map written_monomial lines);
      height = omega (arith, rest.height, one.height);
      low = rest.low;
    }

-- ---- problems, whose towers have at most 4 monomials
pub record AreWrittenValues (tree : ProblemTree) (problem : ProblemValue) : Type 0 where
  pub small : length tree.tower + 1 ≤ 5
  pub tower_is : map written_monomial tree.tower ≡ map Some (monomials problem.tower)
  pub integrand_is : written_value (expression_of tree.integrand) ≡ Some (meaning problem.integrand)

values_written : (tree : ProblemTree) (problem : ProblemValue) → IsProblemOver tree → problem_value tree ≡ Ok problem → AreWrittenValues tree problem
unfolding problem_value
values_written tree problem over e =
    let none : length {A = Level} [] ≤ 4 = omega arith in
    let both = λ (levels : List Level) (f : Element). Ok (record { tower = levels; integrand = f }) in
    let t = passes (with_lines [] tree.tower) (λ levels. and_next (element_at 0 tree.integrand) (both levels)) problem e in
    let f = passes (element_at 0 tree.integrand) (both t.value) problem t.after in
    let on = lines_on [] t.value tree.tower none over.tower t.is in
    let small : length tree.tower + 1 ≤ 5 = omega (arith, on.height, on.low) in
    let is : (record { tower = t.value; integrand = f.value }) ≡ problem = cc in
    rw (← is) (record { small = small; tower_is = sym on.are; integrand_is = element_written 0 tree.integrand (length tree.tower + 1) f.value small over.integrand f.is })

pub problem_is_written : (bytes : List ℕ) (program : ProblemProgram) (problem : ProblemValue) → IsWholeProblem (whole_problem bytes) program →
    ((tree : ProblemTree) → program ≡ problem_program tree → problem_value tree ≡ Ok problem) → IsWritten bytes problem
problem_is_written bytes program problem p value =
    let w = values_written p.tree problem p.over (value p.tree p.written) in
    record { tree = p.tree; read = p.is; tower = w.tower_is; integrand = w.integrand_is }

pub problem_if_written : (bytes : List ℕ) (program : ProblemProgram) (result : Result ProblemValue Fault) → IsWholeProblem (whole_problem bytes) program →
    ((tree : ProblemTree) → program ≡ problem_program tree → Reads result (problem_value tree)) → IfOk result (IsWritten bytes)
problem_if_written bytes program (Ok problem) p value = problem_is_written bytes program problem p value
problem_if_written bytes program (Err fault) p value = tt

-- ---- logarithms
element_kept : (start : ℕ) (tree : Tree) (n : ℕ) (e : Element) → IsOver n false tree → element_at start tree ≡ Ok e → IsElement e
unfolding element_at
element_kept start tree n e over h = of (evaluate tree) refl (map_fault-ok (fault_of_value start) (element_value tree) e h)
  where
    of : (value : Valued (List Element)) → evaluate tree ≡ value → map_value constant_term value ≡ Ok e → IsElement e
    of (Ok p) is k = let term : constant_term p ≡ e = cc in subst IsElement term (constant_term-is_element p (evaluate-means n false tree p over is).lies.kept)
    of (Err fault) is k = absurd (cc)

argument_means : (u : Element) → IsElement u → meaning (poly.coefficient element (constant u) 0) ≡ meaning u
argument_means u v = by_test (element.is_zero u) refl
  where
    by_test : (z : Bool) → element.is_zero u ≡ z → meaning (poly.coefficient element (if z then [] else u ∷ []) 0) ≡ meaning u
    by_test true t = element_interprets.zero-means ∙ sym (element_interprets.zero_is u v t)
    by_test false t = refl

log_written : (l : LogLine) (part : LogPart) (n : ℕ) → n ≤ 5 → IsLogOver n l → log_value l ≡ Ok part → IsLogWritten l part
unfolding logarithm
log_written (log_line c tree) part n small over e =
    let formed = λ (f : Fraction) (u : Element). Ok (record { poly = negative f ∷ ground.one ∷ []; arg = constant u }) in
    let f = passes (factor_value c) (λ f. and_next (element_at 0 tree) (formed f)) part e in
    let u = passes (element_at 0 tree) (formed f.value) part f.after in
    let is : (record { poly = negative f.value ∷ ground.one ∷ []; arg = constant u.value }) ≡ part = cc in
    rw (← is) (record {
      linear = refl;
      factor_is = f.is ∙ ap Ok (sym (ap (λ n. record { num = n; den = f.value.den }) (neg_ℤ-neg_ℤ f.value.num)));
      argument_is = element_written 0 tree n u.value small over u.is ∙ ap Some (sym (argument_means u.value (element_kept 0 tree n u.value over u.is)));
    })
log_written (sum_line r s start) part n small over e = e

-- the logarithms of these lines are put behind those that were formed
record AreLogsWritten (lines : List LogLine) (parts all : List LogPart) : Type 0 where
  more : List LogPart
  is : all ≡ parts ++ more
  written : AllZip IsLogWritten lines more

logs_written : (lines : List LogLine) (parts all : List LogPart) (n : ℕ) → n ≤ 5 → All (IsLogOver n) lines → with_logs parts lines ≡ Ok all → AreLogsWritten lines parts all
logs_written [] parts all n small over e =
    let same : parts ≡ all = cc in
    record { more = []; is = sym same ∙ sym (append-nil parts); written = tt }
logs_written (l ∷ lines) parts all n small over e =
    let one = passes (log_value l) (λ part. with_logs (parts ++ part ∷ []) lines) all e in
    let rest = logs_written lines (parts ++ one.value ∷ []) all n small (All-tail (IsLogOver n) l lines over) one.after in
    record {
      more = one.value ∷ rest.more;
      is = rest.is ∙ append_assoc parts (one.value ∷ []) rest.more;
      written = (log_written l one.value n small (All-head (IsLogOver n) l lines over) one.is, rest.written);
    }

-- ---- answers
integral_written : (tree : AnswerTree) (it : Integral) (n : ℕ) → n ≤ 5 → IsAnswerOver n tree → integral_value tree ≡ Ok it → IsIntegralWritten tree it
unfolding integral_value
integral_written tree it n small over e =
    let both = λ (part : Element) (logs : List LogPart). Ok (record { part = part; logs = logs }) in
    let part = passes (element_at 0 tree.part) (λ part. and_next (with_logs [] tree.logs) (both part)) it e in
    let logs = passes (with_logs [] tree.logs) (both part.value) it part.after in
    let on = logs_written tree.logs [] logs.value n small over.logs logs.is in
    let is : (record { part = part.value; logs = logs.value }) ≡ it = cc in
    rw (← is) (record {
      part = element_written 0 tree.part n part.value small over.part part.is;
      logs = subst (AllZip IsLogWritten tree.logs) (sym on.is) on.written;
    })

chain_written : (tree : AnswerTree) (r : RefutationTree) (partial : Integral) (chain : Chain) (n : ℕ) → n ≤ 5 → tree.refutation ≡ Some r → IsRefutationOver n r → IsIntegralWritten tree partial →
    chain_value partial r ≡ Ok chain → IsChainWritten tree chain
unfolding chain_value
chain_written tree r partial chain n small some over w e =
    let both = λ (rest trace : Element). Ok (record { partial = partial; rest = rest; level = r.end.level; end = Residue r.end.power trace }) in
    let rest = passes (element_at 0 r.rest) (λ rest. and_next (element_at 0 r.end.trace) (both rest)) chain e in
    let trace = passes (element_at 0 r.end.trace) (both rest.value) chain rest.after in
    let is : (record { partial = partial; rest = rest.value; level = r.end.level; end = Residue r.end.power trace.value }) ≡ chain = cc in
    rw (← is) (record {
      tree = r;
      is = some;
      partial = w;
      rest = element_written 0 r.rest n rest.value small over.rest rest.is;
      level = refl;
      end = (refl, element_written 0 r.end.trace n trace.value small over.end.trace trace.is);
    })

certificate_written : (tree : AnswerTree) (it : Certificate) (n : ℕ) → n ≤ 5 → IsAnswerOver n tree → answer_value tree ≡ Ok it → IsCertificateWritten tree it
unfolding answer_value
certificate_written tree it n small over e =
    let partial = passes (integral_value tree) (λ it. certificate_value it tree.refutation) it e in
    let w = integral_written tree partial.value n small over partial.is in
    by_tree tree.refutation partial.value refl over.refutation w partial.after
  where
    by_tree : (r : Option RefutationTree) (partial : Integral) → tree.refutation ≡ r → IsSomeRefutationOver n r → IsIntegralWritten tree partial → certificate_value partial r ≡ Ok it → IsCertificateWritten tree it
    by_tree None partial none o w h = let is : Certified partial ≡ it = cc in rw (← is) (none, w)
    by_tree (Some r) partial some o w h = of (chain_value partial r) refl h
      where
        of : (value : Reading Chain) → chain_value partial r ≡ value → map_value Refuted value ≡ Ok it → IsCertificateWritten tree it
        of (Ok chain) e k = let is : Refuted chain ≡ it = cc in rw (← is) (chain_written tree r partial chain n small some o w e)
        of (Err fault) e k = absurd (cc)

certified_is_written : (bytes : List ℕ) (program : CertifiedProgram) (certified : CertifiedValue) → IsCertifiedRead (whole_certified bytes) program →
    ((tree : CertifiedTree) → program ≡ certified_program tree → certified_value tree ≡ Ok certified) → IsCertifiedWritten bytes certified
unfolding certified_value
certified_is_written bytes program certified p value =
    let with = λ (problem : ProblemValue) (it : Certificate). Ok (record { problem = problem; certificate = it; lines = p.tree.answer.lines }) in
    let problem = passes (problem_value p.tree.problem) (λ problem. and_next (answer_value p.tree.answer) (with problem)) certified (value p.tree p.written) in
    let it = passes (answer_value p.tree.answer) (with problem.value) certified problem.after in
    let w = values_written p.tree.problem problem.value p.over.problem problem.is in
    let is : (record { problem = problem.value; certificate = it.value; lines = p.tree.answer.lines }) ≡ certified = cc in
    rw (← is) (record {
      tree = p.tree;
      read = p.is;
      tower = w.tower_is;
      integrand = w.integrand_is;
      certificate = certificate_written p.tree.answer it.value (length p.tree.problem.tower + 1) w.small p.over.answer it.is;
    })

-- what is answered where the answer is not yet read, too
unsome : (value : Reading CertifiedValue) (certified : CertifiedValue) → map_value Some value ≡ Ok (Some certified) → value ≡ Ok certified
unsome (Ok it) certified e = cc
unsome (Err fault) certified e = absurd (cc)

pub certified_if_written : (bytes : List ℕ) (program : Option CertifiedProgram) (result : Result (Option CertifiedValue) Fault) → IsWholeCertified (whole_certified bytes) program →
    ((tree : Option CertifiedTree) → program ≡ option_map certified_program tree → Reads result (certified_if_read tree)) → IfOk result (λ certified. IfSome certified (IsCertifiedWritten bytes))
certified_if_written bytes program (Err fault) p value = tt
certified_if_written bytes program (Ok None) p value = tt
certified_if_written bytes None (Ok (Some certified)) p value = let none = value None refl in absurd (cc)
certified_if_written bytes (Some program) (Ok (Some certified)) p value =
    certified_is_written bytes program certified p (λ tree e. unsome (certified_value tree) certified (value (Some tree) (ap Some e)))
