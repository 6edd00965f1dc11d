use Rattle.risch_round.proofs.TopSteps.{polynomial-answers}
use Rattle.risch_round.proofs.integration.integrate.Goals as goal

pub returns-in-Some-clause-integral : goal.returns-in-Some-clause-integral
returns-in-Some-clause-integral c =
    polynomial-answers c.args.tower.now c.args.budget c.args.integrand.now c.in-Some.polynomial c.integrate.result c.requires.tower (rw c.in-Some.is at c.in_ok-polynomial.ensures.stands) c.integrate.ensures.rule
