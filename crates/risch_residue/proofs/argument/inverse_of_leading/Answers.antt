use Rattle.std.proofs.Common.{sym, arith, subst}
use Rattle.risch_field.specs.Checked.{Agrees}
use Rattle.risch_polynomial.specs.Modular as modular
use Rattle.risch_level.specs.Levels.{element}
use Rattle.risch_sub.proofs.RemainderSteps.{leading-is}
use Rattle.risch_residue.proofs.argument.inverse_of_leading.Goals as goal

pub returns : goal.returns
returns c =
    let is = leading-is c.args.of.now c.index-of-of.result (omega arith) c.index-of-of.is in
    subst (λ p. Agrees c.inverse_mod-2.result (modular.inverse element p c.args.modulus.now)) (sym is) c.inverse_mod-2.ensures
