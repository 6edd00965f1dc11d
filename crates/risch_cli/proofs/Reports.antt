-- What is reported on files, case by case.
use Rattle.std.specs.Prelude.{IfOk, option_map}
use Rattle.std.proofs.Common.{◌≡◌, ◌≢◌, ℕ, ◌≤◌, ◌<◌, List, [], ◌∷◌, length, Option, Some, None, Result, Ok, Err, refl, sym, ap, ◌∙◌, subst, arith}
use Rattle.risch_frac.specs.Fraction.{Fraction}
use Rattle.risch_mean.specs.Answer.{IsIntegral}
use Rattle.risch_level.specs.Levels.{Element}
use Rattle.risch_element_theory.specs.WholeTower.{IsElement, Within, meaning}
use Rattle.risch_elem.specs.declared.units.Stop.{Stop}
use Rattle.risch_elem.specs.declared.units.Stop.TheVariants.{Overflow, Size, Case, NotSound, Budget}
use Rattle.risch_tower.specs.TowerMeaning.{monomials}
use Rattle.risch_tower.specs.declared.level.Level.{Level}
use Rattle.risch_rootsum.specs.DerivativeMeaning.{answer_of}
use Rattle.risch_rootsum.specs.declared.integral.Integral as integrals
use Rattle.risch_cert.specs.Answers.{print_answer}
use Rattle.risch_cert.specs.declared.answer.Answer.{Answer}
use Rattle.risch_cert.specs.declared.answer.Answer.TheVariants.{Integral, Refuted as Refutation, Stopped, Disagree}
use Rattle.risch_chain_end.specs.Verdict.{Verdict}
use Rattle.risch_check.specs.Answers.{Answers, OnAccepted}
use Rattle.risch_check.specs.Checked.{checked}
use Rattle.risch_cert.specs.declared.answer.Certificate.{Certificate}
use Rattle.risch_cert.specs.declared.answer.Certificate.TheVariants.{Integral as Claimed, Refuted}
use Rattle.risch_mean.specs.Chain.{IsExact}
use Rattle.risch_cert.specs.declared.chain.End.{End}
use Rattle.risch_cert.specs.declared.chain.End.TheVariants.{Residue}
use Rattle.risch_check.specs.Certificates.{IsCertificate, IsFormed, IsFormedEnd, IfIntegral, IfRefuted, line_count}
use Rattle.risch_check.specs.Printing.{print_check}
use Rattle.risch_check.specs.declared.kinds.Check.{Check}
use Rattle.risch_check.specs.declared.kinds.Check.TheVariants as check
use Rattle.risch_expression.specs.declared.fault.Cause.{Cause}
use Rattle.risch_text.specs.declared.fault.Refusal.{Refusal}
use Rattle.risch_text.specs.Problem as text
use Rattle.risch_text.specs.Problem.{ProblemValue, CertifiedValue, IsIntegralForm, IsEndForm, IsForm}
use Rattle.risch_text.specs.Read.{read_problem}
use Rattle.risch_text.specs.ReadCertified.{read_certified}
use Rattle.risch_text.specs.Meaning.{IsWritten, IsCertifiedWritten}
use Rattle.risch_text.specs.declared.problem.ReadProblem.{ReadProblem}
use Rattle.risch_text.specs.declared.problem.ReadProblem.TheVariants as problem
use Rattle.risch_text.specs.declared.certified.ReadCertified.{ReadCertified}
use Rattle.risch_text.specs.declared.certified.ReadCertified.TheVariants as certificate
use Rattle.risch_cli.specs.declared.report.Report.{Report}
use Rattle.risch_round.specs.Elements.{coefficients}
use Rattle.risch_round.specs.Meaning.{IsSmall}
use Rattle.risch_round.specs.AnswerMeaning.{IsFoundIntegral, IsDisagreement}
use Rattle.risch_round.specs.RationalFunctions.{answer, answer_by}
use Rattle.risch_round.proofs.ElementsInX.{coefficients-stand}
use Rattle.risch_cli.specs.Saying.{on_out, not_yet, status_of, answer_status, report_of, check_status, integrand_in_x, answer_in_x, answered, problem_report, integrated, judged, certified}
use Rattle.risch_cli.specs.Truth.{PrintsIntegral, PrintsDisagreement, IsSmallProblem, ReportsProblem, ReportsProblemFile, IsRight, ReportsCertificate, ReportsCertificateFile}
use Rattle.risch_round.proofs.SmallIntegrands.{small-integral}

-- what holds of a value holds of what follows from it
pub if_ok : {A E : Type 0} (P Q : A → Type 0) (result : Result A E) → ((a : A) → P a → Q a) → IfOk result P → IfOk result Q
if_ok P Q (Ok a) follows h = follows a h
if_ok P Q (Err fault) follows h = tt

-- no stop has the status 0
pub stop-not_zero : (stop : Stop) → status_of stop ≢ 0
stop-not_zero (Overflow op) e = omega arith
stop-not_zero Size e = omega arith
stop-not_zero (Case case) e = omega arith
stop-not_zero (NotSound element) e = omega arith
stop-not_zero Budget e = omega arith

-- nor has one the status 11
stop-not_eleven : (stop : Stop) → status_of stop ≢ 11
stop-not_eleven (Overflow op) e = omega arith
stop-not_eleven Size e = omega arith
stop-not_eleven (Case case) e = omega arith
stop-not_eleven (NotSound element) e = omega arith
stop-not_eleven Budget e = omega arith

-- ---- problems
empty : (levels : List Level) → length levels ≤ 0 → levels ≡ []
empty [] h = refl
empty (l ∷ levels) h = absurd (omega arith)

-- a tower with a monomial
unserved : (budget : ℕ) (levels : List Level) (e : Element) → 0 < length levels → answer_in_x budget levels e ≡ None
unserved budget [] e h = absurd (omega arith)
unserved budget (l ∷ levels) e h = refl

no_polynomial : (levels : List Level) (e : Element) (f : List Fraction) → 0 < length levels → integrand_in_x levels e ≡ Some f → ⊥
no_polynomial [] e f h is = absurd (omega arith)
no_polynomial (l ∷ levels) e f h is = cc

pub problem-higher : (budget : ℕ) (p : ProblemValue) (report : Report) → 0 < length p.tower → report ≡ not_yet → ReportsProblem budget p report
unfolding problem_report
problem-higher budget p report h e = record {
  said = e ∙ ap answered (sym (unserved budget p.tower p.integrand h));
  integral = λ zero. absurd (let thirteen = ap (λ r. r.status) e in omega arith);
  disagree = λ eleven. absurd (let thirteen = ap (λ r. r.status) e in omega arith);
  small = λ enough small. absurd (no_polynomial p.tower p.integrand small.polynomial h small.is);
}

-- ---- x alone
prints : (p : ProblemValue) (a : Answer) → IsFoundIntegral p.tower p.integrand a → answer_status a ≡ 0 → PrintsIntegral p (print_answer a)
unfolding print_answer
prints p (Integral it) found zero = record { integral = it; exact = found; printed = refl }
prints p (Refutation chain) found zero = absurd (omega arith)
prints p (Stopped halt) found zero = absurd (stop-not_zero halt.stop zero)
prints p (Disagree left right) found zero = absurd (omega arith)

tells_apart : (a : Answer) → IsDisagreement a → answer_status a ≡ 11 → PrintsDisagreement (print_answer a)
unfolding print_answer
tells_apart (Integral it) other eleven = absurd (omega arith)
tells_apart (Refutation chain) other eleven = absurd (omega arith)
tells_apart (Stopped halt) other eleven = absurd (stop-not_eleven halt.stop eleven)
tells_apart (Disagree left right) other eleven = record { left = left; right = right; other = other; printed = refl }

-- a polynomial with small coefficients is answered by its integral
small_answer : (budget : ℕ) (e : Element) (f : List Fraction) → 512 ≤ budget → IsElement e → Within 1 e → coefficients e ≡ Some f → IsSmall f → answer_status (answer budget e) ≡ 0
unfolding answer
small_answer budget e f enough valid within is small =
    let s = coefficients-stand e f valid within is in
    let found = small-integral budget f enough s.valid s.ends_not_zero small in
    ap (λ o. answer_status (answer_by [] budget e o)) is ∙ ap answer_status found.1

-- a rational function in x
pub problem-answered : (budget : ℕ) (p : ProblemValue) (a : Answer) (report : Report) → length p.tower ≤ 0 → IsElement p.integrand → Within 1 p.integrand → a ≡ answer budget p.integrand →
    IsFoundIntegral p.tower p.integrand a → IsDisagreement a → report ≡ report_of a → ReportsProblem budget p report
unfolding problem_report
problem-answered budget p a report h valid within is found other e =
    let none : p.tower ≡ [] = empty p.tower h in
    record {
      said = e ∙ ap report_of is ∙ ap (λ levels. answered (answer_in_x budget levels p.integrand)) (sym none);
      integral = λ zero. subst (PrintsIntegral p) (sym (ap (λ r. r.out) e)) (prints p a found (sym (ap (λ r. r.status) e) ∙ zero));
      disagree = λ eleven. subst PrintsDisagreement (sym (ap (λ r. r.out) e)) (tells_apart a other (sym (ap (λ r. r.status) e) ∙ eleven));
      small = λ enough small.
          let polynomial : coefficients p.integrand ≡ Some small.polynomial = ap (λ levels. integrand_in_x levels p.integrand) (sym none) ∙ small.is in
          ap (λ r. r.status) e ∙ ap answer_status is ∙ small_answer budget p.integrand small.polynomial enough valid within polynomial small.small;
    }

-- ---- files of problems
pub file-problem : (budget : ℕ) (bytes : List ℕ) (p : ProblemValue) (report : Report) → read_problem bytes ≡ problem.Problem p → IsWritten bytes p → ReportsProblem budget p report →
    ReportsProblemFile budget bytes report
file-problem budget bytes p report read written r = record {
  said = r.said ∙ ap (integrated budget) (sym read);
  integral = λ zero. record { problem = p; written = written; prints = r.integral zero };
  disagree = r.disagree;
  small = λ enough small.
      let same : problem.Problem p ≡ problem.Problem small.problem = sym read ∙ small.read in
      let here : small.problem ≡ p = cc in
      r.small enough (subst IsSmallProblem here small.small);
}

-- what is no problem
file-other : (budget : ℕ) (bytes : List ℕ) (read : ReadProblem) (report : Report) → read_problem bytes ≡ read → ((p : ProblemValue) → ¬ (read ≡ problem.Problem p)) →
    report ≡ integrated budget read → report.status ≢ 0 → report.status ≢ 11 → ReportsProblemFile budget bytes report
file-other budget bytes read report is other e some same = record {
  said = e ∙ ap (integrated budget) (sym is);
  integral = λ zero. absurd (some zero);
  disagree = λ eleven. absurd (same eleven);
  small = λ enough small. absurd (other small.problem (sym is ∙ small.read));
}

pub file-syntax : (budget : ℕ) (bytes : List ℕ) (at : ℕ) (cause : Cause) (report : Report) → read_problem bytes ≡ problem.Syntax at cause → report ≡ integrated budget (problem.Syntax at cause) →
    ReportsProblemFile budget bytes report
file-syntax budget bytes at cause report is e =
    file-other budget bytes (problem.Syntax at cause) report is (λ p f. cc) e (λ zero. let three = ap (λ r. r.status) e in omega arith) (λ eleven. let three = ap (λ r. r.status) e in omega arith)

pub file-refused : (budget : ℕ) (bytes : List ℕ) (at : ℕ) (cause : Refusal) (report : Report) → read_problem bytes ≡ problem.Refused at cause → report ≡ integrated budget (problem.Refused at cause) →
    ReportsProblemFile budget bytes report
file-refused budget bytes at cause report is e =
    file-other budget bytes (problem.Refused at cause) report is (λ p f. cc) e (λ zero. let three = ap (λ r. r.status) e in omega arith) (λ eleven. let three = ap (λ r. r.status) e in omega arith)

pub file-stopped : (budget : ℕ) (bytes : List ℕ) (stop : Stop) (report : Report) → read_problem bytes ≡ problem.Stopped stop → report ≡ integrated budget (problem.Stopped stop) →
    ReportsProblemFile budget bytes report
file-stopped budget bytes stop report is e =
    file-other budget bytes (problem.Stopped stop) report is (λ p f. cc) e (λ zero. stop-not_zero stop (sym (ap (λ r. r.status) e) ∙ zero)) (λ eleven. stop-not_eleven stop (sym (ap (λ r. r.status) e) ∙ eleven))

-- ---- certificates
-- a certificate of the form that the reader gives has that which the check needs
form-integral : (n : ℕ) (it : integrals.Integral) → IsIntegralForm n it → IsFormed n it
form-integral n it form = record { part_within = form.part_within; logs_formed = λ k l below. (form.logs k l below).part }

form-end : (n : ℕ) (end : End) → IsEndForm n end → IsFormedEnd n end
form-end n (Residue power trace) form = form.1

pub form-certificate : (n : ℕ) (c : Certificate) → IsForm n c → IsCertificate n c
form-certificate n (Claimed it) form = form-integral n it form
form-certificate n (Refuted chain) form = record {
  partial_formed = form-integral n chain.partial form.partial;
  rest_within = form.rest_within;
  is_level = form.level_low;
  end_formed = form-end n chain.end form.end;
}

pub same_lines : (c : Certificate) → text.line_count c ≡ line_count c
same_lines (Claimed it) = refl
same_lines (Refuted chain) = refl

judged-is : (c : Check) (v : Verdict) (text : List ℕ) → Answers c v → print_check c ≡ Some text → on_out (check_status c) text ≡ judged v
unfolding print_check print_answer
judged-is check.Accepted v text h e = let same : _ ≡ text = cc in ap (on_out 0) (sym same) ∙ ap judged (sym h)
judged-is (check.Refused number left right) v text h e = let same : _ ≡ text = cc in ap (on_out 12) (sym same) ∙ ap judged (sym h)
judged-is (check.Stopped stop) v text h e = let same : _ ≡ text = cc in ap (on_out (status_of stop)) (sym same) ∙ ap judged (sym h)
judged-is check.Memory v text h e = cc

accepted-holds : (c : Check) (fact : Type 0) → OnAccepted c fact → check_status c ≡ 0 → fact
accepted-holds check.Accepted fact h zero = h
accepted-holds (check.Refused number left right) fact h zero = absurd (omega arith)
accepted-holds (check.Stopped stop) fact h zero = absurd (stop-not_zero stop zero)
accepted-holds check.Memory fact h zero = absurd (omega arith)

-- what is proved of each kind of certificate
is_right : (tower : List Level) (integrand : Element) (certificate : Certificate) →
    IfIntegral certificate (λ it. IsIntegral (monomials tower) it (meaning integrand)) →
    IfRefuted certificate (IsExact (monomials tower) (meaning integrand)) → IsRight tower integrand certificate
is_right tower integrand (Claimed it) integral chain = integral
is_right tower integrand (Refuted it) integral chain = chain

pub certificate-judged : (it : CertifiedValue) (c : Check) (text : List ℕ) (report : Report) →
    Answers c (checked it.problem.tower it.problem.integrand it.certificate it.lines) →
    OnAccepted c (IfIntegral it.certificate (λ answer. IsIntegral (monomials it.problem.tower) answer (meaning it.problem.integrand))) →
    OnAccepted c (IfRefuted it.certificate (IsExact (monomials it.problem.tower) (meaning it.problem.integrand))) →
    print_check c ≡ Some text → report ≡ on_out (check_status c) text → ReportsCertificate it report
certificate-judged it c text report rule integral chain printed e = record {
  said = e ∙ judged-is c (checked it.problem.tower it.problem.integrand it.certificate it.lines) text rule printed;
  accepted = λ zero.
      let accepts = sym (ap (λ r. r.status) e) ∙ zero in
      is_right it.problem.tower it.problem.integrand it.certificate
      (accepted-holds c (IfIntegral it.certificate (λ answer. IsIntegral (monomials it.problem.tower) answer (meaning it.problem.integrand))) integral accepts)
      (accepted-holds c (IfRefuted it.certificate (IsExact (monomials it.problem.tower) (meaning it.problem.integrand))) chain accepts);
}

pub file-certified : (bytes : List ℕ) (it : CertifiedValue) (report : Report) → read_certified bytes ≡ certificate.Certified it → IsCertifiedWritten bytes it → ReportsCertificate it report →
    ReportsCertificateFile bytes report
file-certified bytes it report read written r = record {
  said = r.said ∙ ap certified (sym read);
  accepted = λ zero. record { it = it; read = read; written = written; right = r.accepted zero };
}

-- what is no problem with a certificate
file-no_certificate : (bytes : List ℕ) (read : ReadCertified) (report : Report) → read_certified bytes ≡ read → report ≡ certified read → report.status ≢ 0 → ReportsCertificateFile bytes report
file-no_certificate bytes read report is e some = record { said = e ∙ ap certified (sym is); accepted = λ zero. absurd (some zero) }

pub certificate-not_yet : (bytes : List ℕ) (report : Report) → read_certified bytes ≡ certificate.NotYet → report ≡ not_yet → ReportsCertificateFile bytes report
certificate-not_yet bytes report is e = file-no_certificate bytes certificate.NotYet report is e (λ zero. let thirteen = ap (λ r. r.status) e in omega arith)

pub certificate-syntax : (bytes : List ℕ) (at : ℕ) (cause : Cause) (report : Report) → read_certified bytes ≡ certificate.Syntax at cause → report ≡ certified (certificate.Syntax at cause) →
    ReportsCertificateFile bytes report
certificate-syntax bytes at cause report is e = file-no_certificate bytes (certificate.Syntax at cause) report is e (λ zero. let three = ap (λ r. r.status) e in omega arith)

pub certificate-refused : (bytes : List ℕ) (at : ℕ) (cause : Refusal) (report : Report) → read_certified bytes ≡ certificate.Refused at cause → report ≡ certified (certificate.Refused at cause) →
    ReportsCertificateFile bytes report
certificate-refused bytes at cause report is e = file-no_certificate bytes (certificate.Refused at cause) report is e (λ zero. let three = ap (λ r. r.status) e in omega arith)

pub certificate-stopped : (bytes : List ℕ) (stop : Stop) (report : Report) → read_certified bytes ≡ certificate.Stopped stop → report ≡ certified (certificate.Stopped stop) →
    ReportsCertificateFile bytes report
certificate-stopped bytes stop report is e = file-no_certificate bytes (certificate.Stopped stop) report is e (λ zero. stop-not_zero stop (sym (ap (λ r. r.status) e) ∙ zero))
