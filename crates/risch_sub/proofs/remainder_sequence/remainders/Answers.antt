use Rattle.std.proofs.Common.{◌≡◌, Ok, All}
use Rattle.risch_element_theory.specs.WholeTower.{IsPolynomial, AllWithin}
use Rattle.risch_sub.specs.RemainderSequence.{remainders}
use Rattle.risch_sub.proofs.RemainderSteps.{agrees-if}
use Rattle.risch_sub.proofs.RemainderRules.{remainders-are_polynomials, remainders-within}
use Rattle.risch_sub.proofs.remainder_sequence.remainders.Goals as goal
use Rattle.risch_sub.proofs.remainder_sequence.remainders.Goals.{In_ok-members}

formed : (c : In_ok-members) → remainders c.args.d.now c.args.b.now c.args.least ≡ Ok c.in_ok-members.members
formed c = rw (c.in_ok-dividend.ensures.value, c.as_slice.ensures, c.in_ok-divisor.ensures.value, c.as_slice-2.ensures) at c.in_ok-members.ensures

dividend_kept : (c : In_ok-members) → All IsPolynomial c.args.d.now
dividend_kept c = rw (c.in_ok-dividend.ensures.value, c.as_slice.ensures) at c.in_ok-dividend.ensures.normal

divisor_kept : (c : In_ok-members) → All IsPolynomial c.args.b.now
divisor_kept c = rw (c.in_ok-divisor.ensures.value, c.as_slice-2.ensures) at c.in_ok-divisor.ensures.normal

pub wrapped_members-requires : goal.wrapped_members-requires
wrapped_members-requires c =
    let x = (goal.at.wrapped_members-requires c).In_ok-members in
    remainders-are_polynomials c.args.d.now c.args.b.now c.args.least c.in_ok-members.members (dividend_kept x) (divisor_kept x) c.requires.dividend c.requires.divisor (formed x)

pub returns-clause-rule : goal.returns-clause-rule
returns-clause-rule c = rw (formed (goal.at.returns-clause-rule c).In_ok-members) c.wrapped_members.ensures

pub returns-clause-within : goal.returns-clause-within
returns-clause-within c n all_d all_b =
    agrees-if c.wrapped_members.result c.in_ok-members.members (All (All (AllWithin n)))
    (remainders-within n c.args.d.now c.args.b.now c.args.least c.in_ok-members.members all_d all_b (formed (goal.at.returns-clause-within c).In_ok-members)) c.wrapped_members.ensures
