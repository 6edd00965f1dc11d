use Rattle.std.proofs.Common.{◌<◌, [], length, All, sym, subst}
use Rattle.std.proofs.lemmas.List.Elements.{All-nil, All-get_or}
use Rattle.risch_element_theory.specs.WholeTower.{AllWithin}
use Rattle.risch_sub.specs.RemainderSequence.{Member}
use Rattle.risch_residue.proofs.LogarithmSteps.{argument-within}
use Rattle.risch_residue.proofs.logarithms.argument_at.Goals as goal

pub returns-then-len-from-clause-within : goal.returns-then-len-from-clause-within
returns-then-len-from-clause-within c n all all_R =
    let m = c.member-item.result in
    let i = c.loop-member.member-index in
    let below : i < length c.args.members.now = c.loop-member-test.true in
    let all_m : All (AllWithin n) m = subst (λ (x : Member). All (AllWithin n) x) (sym c.member-item.is) (All-get_or (All (AllWithin n)) c.args.members.now i m below all) in
    argument-within n m c.args.modulus.now c.argument_of.result all_m all_R (rw c.as_slice.ensures at c.argument_of.ensures)

pub returns-clause-within : goal.returns-clause-within
returns-clause-within c n all all_R =
    argument-within n [] c.args.modulus.now c.argument_of-2.result (All-nil (AllWithin n)) all_R (rw (c.deref.ensures.value, c.new-none.ensures.items) at c.argument_of-2.ensures)
