use Rattle.std.proofs.Common.{◌≡◌, ◌<◌, ◌+◌, sym, ap, subst, get_or, length, ◌∙◌, arith}
use Rattle.risch_mean.specs.Element.{◌*ₑ◌, ◌/ₑ◌}
use Rattle.risch_mean.specs.Tower.{derive_in}
use Rattle.risch_field.specs.Checked.{Agrees}
use Rattle.risch_polynomial_theory.specs.FractionMeaning.{fraction_meaning}
use Rattle.risch_level.specs.Levels.{Element}
use Rattle.risch_element_theory.specs.WholeTower.{meaning}
use Rattle.risch_tower.specs.Tower.{derivative}
use Rattle.risch_tower.specs.TowerMeaning.{monomials}
use Rattle.risch_rootsum.specs.Derivative.{factor, argument, log_derivative}
use Rattle.risch_rootsum.specs.DerivativeMeaning.{IsPartDerivative}
use Rattle.risch_rootsum.proofs.Agreement.{follows}
use Rattle.risch_rootsum.proofs.DerivativeWithin.{within-read}
use Rattle.risch_rootsum.proofs.IntegralSteps.{part-linear}
use Rattle.risch_rootsum.proofs.LogDerivatives.{linear_of_length, first-factor, first-argument, argument-nonzero, argument-some, log-means}
use Rattle.risch_rootsum.proofs.derivative.part_derivative.Goals as goal

pub bounds-as_slice-0-then-len-eq2 : goal.bounds-as_slice-0-then-len-eq2
bounds-as_slice-0-then-len-eq2 c =
    let l = c.args.part.now in
    let linear = linear_of_length l c.len.result c.len.ensures c.if-len-eq2.true in
    rw c.as_slice-then-len-eq2.ensures (argument-some (monomials c.args.tower.now) l linear c.requires.derivative)

pub log_derivative-requires-clause-within : goal.log_derivative-requires-clause-within
log_derivative-requires-clause-within c =
    let l = c.args.part.now in
    let linear = linear_of_length l c.len.result c.len.ensures c.if-len-eq2.true in
    let some = argument-some (monomials c.args.tower.now) l linear c.requires.derivative in
    let u = c.index-as_slice-0-then-len-eq2.result in
    let read : u ≡ get_or l.arg 0 u = rw c.as_slice-then-len-eq2.ensures at c.index-as_slice-0-then-len-eq2.is in
    within-read (length c.args.tower.now + 1) l.arg 0 u c.requires.part.argument_within some read

pub log_derivative-requires-clause-some : goal.log_derivative-requires-clause-some
log_derivative-requires-clause-some c =
    let l = c.args.part.now in
    let linear = linear_of_length l c.len.result c.len.ensures c.if-len-eq2.true in
    let tower = monomials c.args.tower.now in
    let items = c.as_slice-then-len-eq2.result.now in
    let some : 0 < length items = rw c.as_slice-then-len-eq2.ensures (argument-some tower l linear c.requires.derivative) in
    let u_is = first-argument l items c.index-as_slice-0-then-len-eq2.result c.as_slice-then-len-eq2.ensures c.index-as_slice-0-then-len-eq2.is some in
    λ z. argument-nonzero tower l linear c.requires.derivative (sym (ap meaning u_is) ∙ z)

pub returns-then-len-eq2-clause-rule : goal.returns-then-len-eq2-clause-rule
returns-then-len-eq2-clause-rule c =
    let l = c.args.part.now in
    let linear = linear_of_length l c.len.result c.len.ensures c.if-len-eq2.true in
    let D = derivative c.args.tower.now in
    let items = c.as_slice-then-len-eq2.result.now in
    let some : 0 < length items = rw c.as_slice-then-len-eq2.ensures (argument-some (monomials c.args.tower.now) l linear c.requires.derivative) in
    let u_is = first-argument l items c.index-as_slice-0-then-len-eq2.result c.as_slice-then-len-eq2.ensures c.index-as_slice-0-then-len-eq2.is some in
    let R = c.as_slice.result.now in
    let more : 0 < length R = rw c.as_slice.ensures (omega (arith, c.len.ensures, c.if-len-eq2.true)) in
    let c_is = first-factor l R c.index-as_slice-0.result c.neg-factor.result c.as_slice.ensures c.index-as_slice-0.is more c.neg-factor.ensures.rule in
    let rule : Agrees c.log_derivative.result (log_derivative D (factor l) (argument l)) = rw (c_is, u_is) at c.log_derivative.ensures.rule in
    subst (Agrees c.log_derivative.result) (sym (part-linear D l linear)) rule

pub returns-then-len-eq2-clause-meaning : goal.returns-then-len-eq2-clause-meaning
returns-then-len-eq2-clause-meaning c =
    let l = c.args.part.now in
    let linear = linear_of_length l c.len.result c.len.ensures c.if-len-eq2.true in
    let tower = monomials c.args.tower.now in
    let items = c.as_slice-then-len-eq2.result.now in
    let u = c.index-as_slice-0-then-len-eq2.result in
    let some : 0 < length items = rw c.as_slice-then-len-eq2.ensures (argument-some tower l linear c.requires.derivative) in
    let u_is = first-argument l items u c.as_slice-then-len-eq2.ensures c.index-as_slice-0-then-len-eq2.is some in
    let R = c.as_slice.result.now in
    let more : 0 < length R = rw c.as_slice.ensures (omega (arith, c.len.ensures, c.if-len-eq2.true)) in
    let c_is = first-factor l R c.index-as_slice-0.result c.neg-factor.result c.as_slice.ensures c.index-as_slice-0.is more c.neg-factor.ensures.rule in
    follows (λ (e : Element). meaning e ≡ fraction_meaning c.neg-factor.result *ₑ (derive_in tower (meaning u) /ₑ meaning u)) (λ (e : Element). IsPartDerivative tower l (meaning e)) c.log_derivative.result
    (λ e is. log-means tower l linear c.requires.derivative (meaning e) (rw (c_is, u_is) at is)) c.log_derivative.ensures.meaning
