use Rattle.std.proofs.Common.{◌≡◌, ◌≤◌, map, All, Ok, sym, subst, arith}
use Rattle.risch_element_theory.specs.WholeTower.{AllWithin}
use Rattle.risch_sub.specs.RemainderSequence.{Member, sized}
use Rattle.risch_logarithm_rules.specs.Logarithms.{constant_in_z, differences_in_z}
use Rattle.risch_residue.proofs.MemberSteps.{constants-within, sized-within, members-within}
use Rattle.risch_residue.proofs.members.sequence.Goals as goal

pub returns-clause-within : goal.returns-clause-within
returns-clause-within c =
    let level = c.args.level in
    let a = c.args.of.now.numerator in
    let d = c.args.of.now.denominator in
    let derived = c.in_ok-derived.derived in
    let at_least : level ≤ level = omega arith in
    let all_derived : AllWithin level derived = c.in_ok-derived.ensures.within level at_least c.requires.denominator in
    let is_second : sized (differences_in_z a derived) ≡ Ok c.in_ok-second.second =
    rw (c.coefficients.ensures.value, c.inner.ensures.value, c.coefficients-2.ensures.value, c.inner-2.ensures.value) at c.in_ok-second.ensures in
    let is_first : c.in_ok-first.first ≡ map constant_in_z d = rw (c.coefficients-3.ensures.value, c.inner-3.ensures.value) at c.in_ok-first.ensures in
    let all_first : All (AllWithin level) c.in_ok-first.first = subst (λ (m : Member). All (AllWithin level) m) (sym is_first) (constants-within level d c.requires.denominator) in
    members-within level c.in_ok-first.first c.in_ok-second.second c.args.least c.sequence.result all_first (sized-within level a derived c.in_ok-second.second c.requires.numerator all_derived is_second) c.sequence.ensures
