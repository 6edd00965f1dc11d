use Rattle.std.proofs.Common.{◌≡◌, Ok}
use Rattle.risch_polynomial.specs.Poly as poly
use Rattle.risch_level.specs.Levels.{element}
use Rattle.risch_monomial.proofs.LevelElements.{length-some}
use Rattle.risch_split.proofs.NewConstants.{monomial-power}
use Rattle.risch_split.proofs.special.power_of_variable.Goals as goal

pub kept-requires : goal.kept-requires
kept-requires c =
    let formed : poly.monomial element element.one c.args.exponent ≡ Ok c.in_ok-inner.inner = rw c.one.ensures.value at c.in_ok-inner.ensures in
    (monomial-power 0 c.args.exponent c.in_ok-inner.inner formed).kept

pub returns-clause-some : goal.returns-clause-some
returns-clause-some c =
    let formed : poly.monomial element element.one c.args.exponent ≡ Ok c.in_ok-inner.inner = rw c.one.ensures.value at c.in_ok-inner.ensures in
    rw c.kept.ensures (length-some c.in_ok-inner.inner (monomial-power 0 c.args.exponent c.in_ok-inner.inner formed).some)

pub returns-clause-within : goal.returns-clause-within
returns-clause-within c =
    let formed : poly.monomial element element.one c.args.exponent ≡ Ok c.in_ok-inner.inner = rw c.one.ensures.value at c.in_ok-inner.ensures in
    λ n. rw c.kept.ensures (monomial-power n c.args.exponent c.in_ok-inner.inner formed).within
