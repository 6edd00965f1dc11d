use Rattle.std.proofs.Common.{sym}
use Rattle.risch_polynomial.proofs.CoefficientLists.{same-lengths}
use Rattle.risch_polynomial.proofs.coefficients.same_items.Goals as goal

pub returns-then-left-right : goal.returns-then-left-right
returns-then-left-right g c = sym (same-lengths g.E.Arith.ops c.args.left.now c.args.right.now c.if-left-right.true)
