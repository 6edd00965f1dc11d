-- What is told of a report: its status, and why it is true.
use Rattle.std.specs.Prelude.{nat_lt, option_map}
use Rattle.std.specs.Io.KnownBytes.{Appends}
use Rattle.std.proofs.Common.{◌≡◌, ◌≢◌, ℕ, ◌≤◌, List, length, Option, Some, None, sym, ◌∙◌, subst, arith}
use Rattle.std.proofs.lemmas.Bool.{cond_both}
use Rattle.risch_io.specs.Whole.{IsAllOf}
use Rattle.risch_elem.specs.declared.units.Stop.{Stop}
use Rattle.risch_elem.specs.declared.units.Stop.TheVariants.{Overflow, Size, Case, NotSound, Budget}
use Rattle.risch_cert.specs.declared.answer.Answer.{Answer}
use Rattle.risch_cert.specs.declared.answer.Answer.TheVariants.{Integral, Refuted, Stopped, Disagree}
use Rattle.risch_cert.specs.Answers.{print_integral, print_disagreement}
use Rattle.risch_chain_end.specs.Verdict.{Verdict, accepted, refused, stopped}
use Rattle.risch_check.specs.Checked.{checked}
use Rattle.risch_text.specs.Read.{read_problem}
use Rattle.risch_text.specs.ReadCertified.{read_certified}
use Rattle.risch_text.specs.declared.problem.ReadProblem.{ReadProblem}
use Rattle.risch_text.specs.declared.problem.ReadProblem.TheVariants as problem
use Rattle.risch_text.specs.declared.certified.ReadCertified.{ReadCertified}
use Rattle.risch_text.specs.declared.certified.ReadCertified.TheVariants as certificate
use Rattle.risch_words.specs.Words.{asked}
use Rattle.risch_words.specs.declared.request.Command.{Command}
use Rattle.risch_words.specs.declared.request.Command.TheVariants.{Integrate, Check, Solve, Sample}
use Rattle.risch_words.specs.declared.request.Request.{Request}
use Rattle.risch_cli.specs.declared.report.Report.{Report}
use Rattle.risch_cli.specs.Saying.{said_to, requested, unless_long, too_long, status_of, answer_status, answer_in_x, answered, problem_report, integrated, judged, certified}
use Rattle.risch_cli.specs.Truth.{AsksFor, HasSmallProblem, IsReported}
use Rattle.risch_cli.specs.Telling.{IsSaid, IsAnswer, IsTold, TellsIntegral, TellsDisagreement, TellsAccepted, HasSmallIntegrand}

-- ---- the status of what is said is neither that of a read fault nor that of a write fault
pub record IsNoFault (code : ℕ) : Type 0 where
  pub not_read_fault : code ≢ 8
  pub not_write_fault : code ≢ 9

no_fault : (code : ℕ) → code ≢ 8 → code ≢ 9 → IsNoFault code
no_fault code p q = record { not_read_fault = p; not_write_fault = q }

stop_no_fault : (stop : Stop) → IsNoFault (status_of stop)
stop_no_fault (Overflow op) = no_fault 4 (λ e. omega arith) (λ e. omega arith)
stop_no_fault Size = no_fault 7 (λ e. omega arith) (λ e. omega arith)
stop_no_fault (Case case) = no_fault 5 (λ e. omega arith) (λ e. omega arith)
stop_no_fault (NotSound element) = no_fault 5 (λ e. omega arith) (λ e. omega arith)
stop_no_fault Budget = no_fault 6 (λ e. omega arith) (λ e. omega arith)

answer_no_fault : (a : Answer) → IsNoFault (answer_status a)
answer_no_fault (Integral it) = no_fault 0 (λ e. omega arith) (λ e. omega arith)
answer_no_fault (Refuted chain) = no_fault 1 (λ e. omega arith) (λ e. omega arith)
answer_no_fault (Stopped halt) = stop_no_fault halt.stop
answer_no_fault (Disagree left right) = no_fault 11 (λ e. omega arith) (λ e. omega arith)

answered_no_fault : (o : Option Answer) → IsNoFault (answered o).status
answered_no_fault None = no_fault 13 (λ e. omega arith) (λ e. omega arith)
answered_no_fault (Some a) = answer_no_fault a

problem_no_fault : (budget : ℕ) (read : ReadProblem) → IsNoFault (integrated budget read).status
unfolding problem_report
problem_no_fault budget (problem.Problem p) = answered_no_fault (answer_in_x budget p.tower p.integrand)
problem_no_fault budget (problem.Syntax at cause) = no_fault 3 (λ e. omega arith) (λ e. omega arith)
problem_no_fault budget (problem.Refused at cause) = no_fault 3 (λ e. omega arith) (λ e. omega arith)
problem_no_fault budget (problem.Stopped stop) = stop_no_fault stop
problem_no_fault budget problem.Memory = no_fault 10 (λ e. omega arith) (λ e. omega arith)

verdict_no_fault : (v : Verdict) → IsNoFault (judged v).status
verdict_no_fault accepted = no_fault 0 (λ e. omega arith) (λ e. omega arith)
verdict_no_fault (refused line left right) = no_fault 12 (λ e. omega arith) (λ e. omega arith)
verdict_no_fault (stopped stop) = stop_no_fault stop

certificate_no_fault : (read : ReadCertified) → IsNoFault (certified read).status
certificate_no_fault (certificate.Certified c) = verdict_no_fault (checked c.problem.tower c.problem.integrand c.certificate c.lines)
certificate_no_fault certificate.NotYet = no_fault 13 (λ e. omega arith) (λ e. omega arith)
certificate_no_fault (certificate.Syntax at cause) = no_fault 3 (λ e. omega arith) (λ e. omega arith)
certificate_no_fault (certificate.Refused at cause) = no_fault 3 (λ e. omega arith) (λ e. omega arith)
certificate_no_fault (certificate.Stopped stop) = stop_no_fault stop
certificate_no_fault certificate.Memory = no_fault 10 (λ e. omega arith) (λ e. omega arith)

unless_long_no_fault : (bytes : List ℕ) (report : Report) → IsNoFault report.status → IsNoFault (unless_long bytes report).status
unless_long_no_fault bytes report h =
    cond_both (nat_lt 1048576 (length bytes)) too_long report (λ r. IsNoFault r.status) (λ long. no_fault 7 (λ e. omega arith) (λ e. omega arith)) (λ short. h)

command_no_fault : (command : Command) (budget : ℕ) (bytes : List ℕ) → IsNoFault (said_to command budget bytes).status
command_no_fault Integrate budget bytes = unless_long_no_fault bytes (integrated budget (read_problem bytes)) (problem_no_fault budget (read_problem bytes))
command_no_fault Check budget bytes = unless_long_no_fault bytes (certified (read_certified bytes)) (certificate_no_fault (read_certified bytes))
command_no_fault Solve budget bytes = no_fault 13 (λ e. omega arith) (λ e. omega arith)
command_no_fault Sample budget bytes = no_fault 13 (λ e. omega arith) (λ e. omega arith)

request_no_fault : (request : Option Request) (bytes : List ℕ) → IsNoFault (requested request bytes).status
request_no_fault None bytes = no_fault 2 (λ e. omega arith) (λ e. omega arith)
request_no_fault (Some request) bytes = command_no_fault request.command request.budget bytes

-- ---- the same of a report
pub report_no_fault : (words : List (List ℕ)) (left : Option (List ℕ)) (report : Report) → IsReported words left report → IsNoFault report.status
report_no_fault words left report r = subst (λ (x : Report). IsNoFault x.status) (sym r.said) (request_no_fault (asked words) r.bytes)

pub report_said : (words : List (List ℕ)) (left : Option (List ℕ)) (report : Report) → IsReported words left report → IsSaid words left report
report_said words left report r = record { bytes = r.bytes; all = r.all; said = r.said }

-- A status that is told, and isn't that of a write fault, is that of the report.
pub told_status : (code status k : ℕ) → (code ≢ 9 → code ≡ status) → k ≢ 9 → code ≡ k → status ≡ k
told_status code status k same other e = sym (same (λ nine. other (sym e ∙ nine))) ∙ e

-- Out took the print of an integral.
pub tells_integral : (words : List (List ℕ)) (left out_old out_new : Option (List ℕ)) (report : Report) (text : List ℕ) →
    IsReported words left report → AsksFor words Integrate → report.status ≡ 0 → text ≡ report.out → Appends out_old out_new text → TellsIntegral left out_old out_new
tells_integral words left out_old out_new report text r asks zero same told =
    let answers = r.is_true.integral asks zero in
    let whole : text ≡ print_integral answers.prints.integral = same ∙ answers.prints.printed in
    record {
      bytes = r.bytes;
      all = r.all;
      problem = answers.problem;
      written = answers.written;
      integral = answers.prints.integral;
      exact = answers.prints.exact;
      printed = subst (λ (t : List ℕ). Appends out_old out_new t) whole told;
    }

-- Out took two elements that are other ones.
pub tells_disagreement : (words : List (List ℕ)) (left out_old out_new : Option (List ℕ)) (report : Report) (text : List ℕ) →
    IsReported words left report → AsksFor words Integrate → report.status ≡ 11 → text ≡ report.out → Appends out_old out_new text → TellsDisagreement out_old out_new
tells_disagreement words left out_old out_new report text r asks eleven same told =
    let prints = r.is_true.disagree asks eleven in
    let whole : text ≡ print_disagreement prints.left prints.right = same ∙ prints.printed in
    record { left = prints.left; right = prints.right; other = prints.other; printed = subst (λ (t : List ℕ). Appends out_old out_new t) whole told }

-- The certificate holds.
pub tells_accepted : (words : List (List ℕ)) (left : Option (List ℕ)) (report : Report) → IsReported words left report → AsksFor words Check → report.status ≡ 0 → TellsAccepted left
tells_accepted words left report r asks zero = record { bytes = r.bytes; all = r.all; holds = r.is_true.accepted asks zero }

-- A report is told where its texts are.
pub report_told : (report : Report) (out err : List ℕ) (code : ℕ) (out_old out_new err_old err_new : Option (List ℕ)) →
    out ≡ report.out → err ≡ report.err →
    IsTold (record { out = out; err = err; status = report.status }) code out_old out_new err_old err_new →
    IsTold report code out_old out_new err_old err_new
report_told report out err code out_old out_new err_old err_new e f told =
    subst (λ (x : List ℕ). IsTold (record { out = x; err = report.err; status = report.status }) code out_old out_new err_old err_new) e
    (subst (λ (y : List ℕ). IsTold (record { out = out; err = y; status = report.status }) code out_old out_new err_old err_new) f told)

all-known : (left : Option (List ℕ)) (bytes known : List ℕ) → left ≡ Some known → IsAllOf left bytes → bytes ≡ known
all-known None bytes known e all = cc
all-known (Some x) bytes known e all = sym all ∙ cc

-- The report of an input whose integral is surely found has status 0.
pub small_report : (words : List (List ℕ)) (left : Option (List ℕ)) (report : Report) → HasSmallIntegrand words left → IsReported words left report → report.status ≡ 0
small_report words left report h r =
    let same : h.bytes ≡ r.bytes = sym (all-known left r.bytes h.bytes h.known r.all) in
    r.is_true.small h.asks (subst (λ (b : List ℕ). length b ≤ 1048576) same h.short) (subst HasSmallProblem same h.small)

-- ---- what is told where there is no report
pub read_fault-not_zero : (code : ℕ) → (code ≢ 9 → code ≡ 8) → code ≡ 0 → ⊥
read_fault-not_zero code told zero = let e : code ≡ 8 = told (λ n. absurd (omega arith)) in omega arith

pub read_fault-no_answer : (code : ℕ) → (code ≢ 9 → code ≡ 8) → IsAnswer code → ⊥
read_fault-no_answer code told a = a.not_read_fault (told a.not_write_fault)

pub read_fault-not_eleven : (code : ℕ) → (code ≢ 9 → code ≡ 8) → code ≡ 11 → ⊥
read_fault-not_eleven code told eleven = let e : code ≡ 8 = told (λ n. absurd (omega arith)) in omega arith

pub memory-not_eleven : (code : ℕ) → (code ≢ 9 → code ≡ 10) → code ≡ 11 → ⊥
memory-not_eleven code told eleven = let e : code ≡ 10 = told (λ n. absurd (omega arith)) in omega arith

pub memory-not_zero : (code : ℕ) → (code ≢ 9 → code ≡ 10) → code ≡ 0 → ⊥
memory-not_zero code told zero = let e : code ≡ 10 = told (λ n. absurd (omega arith)) in omega arith

pub memory-no_read_fault : (code : ℕ) → (code ≢ 9 → code ≡ 10) → code ≡ 8 → ⊥
memory-no_read_fault code told eight = let e : code ≡ 10 = told (λ n. absurd (omega arith)) in omega arith

pub memory-no_answer : (code : ℕ) → (code ≢ 9 → code ≡ 10) → IsAnswer code → ⊥
memory-no_answer code told a = a.not_memory (told a.not_write_fault)
