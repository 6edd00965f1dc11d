use Rattle.std.proofs.Common.{◌≡◌, map, All, sym, subst}
use Rattle.risch_element_theory.specs.WholeTower.{AllWithin}
use Rattle.risch_sub.specs.RemainderSequence.{Member}
use Rattle.risch_logarithm_rules.specs.Logarithms.{constant_in_z}
use Rattle.risch_residue.proofs.MemberSteps.{constants-within}
use Rattle.risch_residue.proofs.PartSteps.{members_stop, form_stops, argument_formed}
use Rattle.risch_residue.proofs.logarithms.argument_for.Goals as goal

pub returns-then-from-coefficients-clause-argument : goal.returns-then-from-coefficients-clause-argument
returns-then-from-coefficients-clause-argument c =
    let is : c.in_ok-constants.field-0 ≡ map constant_in_z c.args.of.now.denominator = rw (c.coefficients-coefficients.ensures.value, c.inner.ensures.value) at c.in_ok-constants.ensures in
    subst (λ (m : Member). All (AllWithin c.args.level) m) (sym is) (constants-within c.args.level c.args.of.now.denominator c.requires.denominator)

pub returns-clause-argument : goal.returns-clause-argument
returns-clause-argument c =
    let kept : All (All (AllWithin c.args.level)) c.as_slice.result.now = rw c.as_slice.ensures c.in_ok-formed.ensures.within in
    c.in_ok-argument.ensures.within c.args.level kept c.requires.modulus

pub returns-in_err-formed-clause-rule : goal.returns-in_err-formed-clause-rule
returns-in_err-formed-clause-rule c =
    members_stop _ _ _ _ _ _ _ c.if-from-coefficients.false c.from.ensures c.coefficients-coefficients.ensures.value c.inner.ensures.value c.in_err-formed.field-0.0 c.from_residual-in_err-formed.result c.in_err-formed.ensures.rule
    c.from_residual-in_err-formed.ensures.1

pub returns-in_err-argument-clause-rule : goal.returns-in_err-argument-clause-rule
returns-in_err-argument-clause-rule c =
    form_stops _ _ _ _ _ _ _ c.if-from-coefficients.false c.from.ensures c.coefficients-coefficients.ensures.value c.inner.ensures.value c.in_ok-formed.ensures.rule c.as_slice.ensures c.in_err-argument.field-0.0 c.from_residual-in_err-argument.result
    c.in_err-argument.ensures.rule c.from_residual-in_err-argument.ensures.1

pub returns-clause-rule : goal.returns-clause-rule
returns-clause-rule c = argument_formed _ _ _ _ _ _ _ c.if-from-coefficients.false c.from.ensures c.coefficients-coefficients.ensures.value c.inner.ensures.value c.in_ok-formed.ensures.rule c.as_slice.ensures c.in_ok-argument.ensures.rule
