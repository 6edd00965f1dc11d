use Rattle.std.proofs.Common.{◌∙◌, sym}
use Rattle.risch_polynomial.proofs.CoefficientLists.{ends_in_zero-last}
use Rattle.risch_polynomial.proofs.coefficients.ends_in_zero.Goals as goal

pub returns-in-Some : goal.returns-in-Some
returns-in-Some g c = c.is_zero.ensures ∙ sym (ends_in_zero-last g.E.Arith.ops c.args.coefficients.now c.in-Some.last.now c.in-Some.ensures.value)
