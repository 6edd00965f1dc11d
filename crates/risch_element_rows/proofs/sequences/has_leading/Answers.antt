use Rattle.std.proofs.Common.{rules}
use Rattle.risch_element_rows.proofs.Members.{leading-last}
use Rattle.risch_element_rows.proofs.sequences.has_leading.Goals as goal

pub returns-in-Some : goal.returns-in-Some
returns-in-Some c =
    let last = rw c.as_slice.ensures at c.in-Some.ensures.value in
    let is = leading-last c.args.member.now c.in-Some.last.now last in
    rw is (search rules)
