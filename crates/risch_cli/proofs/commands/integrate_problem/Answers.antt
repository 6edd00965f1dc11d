use Rattle.std.proofs.Common.{◌≡◌, ◌+◌, ◌≤◌, ◌<◌, length, ap, subst, ◌∙◌, arith}
use Rattle.risch_element_theory.specs.WholeTower.{IsElement, Within}
use Rattle.risch_text.specs.Problem.{ProblemValue}
use Rattle.risch_round.specs.RationalFunctions.{answer}
use Rattle.risch_round.specs.AnswerMeaning.{IsFoundIntegral}
use Rattle.risch_cli.proofs.Reports.{if_ok, problem-higher, problem-answered}
use Rattle.risch_cli.proofs.commands.integrate_problem.Goals as goal

pub returns-then-height-gt0 : goal.returns-then-height-gt0
returns-then-height-gt0 c =
    let same = ap (λ (p : ProblemValue). length p.tower) c.problem.view_is in
    let high : 0 < length c.args.problem.now.tower = omega (arith, same, c.height.ensures.value, c.if-height-gt0.true) in
    if_ok _ _ _ (λ report e. problem-higher c.args.budget c.args.problem.now report high e) c.not_yet.ensures

pub returns : goal.returns
returns c =
    let p = c.args.problem.now in
    let a = c.in_ok-answer.answer in
    let same = ap (λ (p : ProblemValue). length p.tower) c.problem.view_is in
    let low : length p.tower ≤ 0 = omega (arith, same, c.height.ensures.value, c.if-height-gt0.false) in
    let one : length p.tower + 1 ≡ 1 = omega (arith, low) in
    let valid : IsElement p.integrand = subst (λ (p : ProblemValue). IsElement p.integrand) c.problem.view_is c.nest-integrand.ensures.normal in
    let within : Within 1 p.integrand = subst (λ n. Within n p.integrand) one c.is_kept.ensures in
    let is : a ≡ answer c.args.budget p.integrand = c.in_ok-answer.ensures.rule ∙ ap (λ (p : ProblemValue). answer c.args.budget p.integrand) c.problem.view_is in
    let found : IsFoundIntegral p.tower p.integrand a = subst (λ (p : ProblemValue). IsFoundIntegral p.tower p.integrand a) c.problem.view_is c.in_ok-answer.ensures.integral in
    if_ok _ _ _ (λ report e. problem-answered c.args.budget p a report low valid within is found c.in_ok-answer.ensures.disagree e) c.of_answer.ensures
