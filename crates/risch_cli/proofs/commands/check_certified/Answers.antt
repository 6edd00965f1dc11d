use Rattle.std.proofs.Common.{◌≡◌, ◌+◌, length, sym, ◌∙◌, ap, subst}
use Rattle.risch_check.specs.Answers.{Answers, OnAccepted}
use Rattle.risch_check.specs.Checked.{checked}
use Rattle.risch_check.specs.Certificates.{IsCertificate, IfIntegral, IfRefuted, line_count}
use Rattle.risch_mean.specs.Answer.{IsIntegral}
use Rattle.risch_mean.specs.Chain.{IsExact}
use Rattle.risch_element_theory.specs.WholeTower.{meaning}
use Rattle.risch_tower.specs.TowerMeaning.{monomials}
use Rattle.risch_text.specs.Problem.{CertifiedValue}
use Rattle.risch_text.specs.contracts.certified.Certified.{the_view}
use Rattle.risch_cli.specs.Saying.{on_out}
use Rattle.risch_cli.proofs.Reports.{certificate-judged, form-certificate, same_lines}
use Rattle.risch_cli.proofs.commands.check_certified.Goals as goal

-- The certificate has the form that is asked for, and a number for each of its lines.
pub check-verdict-requires-clause-certificate : goal.check-verdict-requires-clause-certificate
check-verdict-requires-clause-certificate c =
    let path = ap the_view c.certified-inside.view_is ∙ c.certified.view_is in
    subst (λ (it : CertifiedValue). IsCertificate (length it.problem.tower + 1) it.certificate) (sym path) (form-certificate _ _ c.is_formed.ensures.form)

pub check-verdict-requires-clause-lines : goal.check-verdict-requires-clause-lines
check-verdict-requires-clause-lines c =
    let path = ap the_view c.certified-inside.view_is ∙ c.certified.view_is in
    subst (λ (it : CertifiedValue). length it.lines ≡ line_count it.certificate) (sym path) (c.is_formed.ensures.numbered ∙ same_lines _)

pub returns : goal.returns
returns c =
    let path = ap the_view c.certified-inside.view_is ∙ c.certified.view_is in
    certificate-judged c.args.certified.now c.check-verdict.result c.in_ok-text.text c.on_out.result
    (subst (λ (it : CertifiedValue). Answers c.check-verdict.result (checked it.problem.tower it.problem.integrand it.certificate it.lines)) path c.check-verdict.ensures.rule)
    (subst (λ (it : CertifiedValue). OnAccepted c.check-verdict.result (IfIntegral it.certificate (λ answer. IsIntegral (monomials it.problem.tower) answer (meaning it.problem.integrand)))) path c.check-verdict.ensures.integral)
    (subst (λ (it : CertifiedValue). OnAccepted c.check-verdict.result (IfRefuted it.certificate (IsExact (monomials it.problem.tower) (meaning it.problem.integrand)))) path c.check-verdict.ensures.chain)
    c.in_ok-text.ensures (c.on_out.ensures ∙ ap (λ k. on_out k c.in_ok-text.text) c.check_status.ensures)
