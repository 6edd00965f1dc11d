use Rattle.std.proofs.Common.{◌≡◌, ◌∙◌, ◌≤◌, ◌<◌, ◌++◌, ◌∷◌, [], max, length, refl, arith, Ok}
use Rattle.risch_field.specs.Checked.{IsStopOf}
use Rattle.risch_polynomial.specs.Poly as poly
use Rattle.risch_level.specs.Levels.{element}
use Rattle.risch_logarithm_rules.specs.Logarithms.{difference_in_z, differences_in_z}
use Rattle.risch_residue.proofs.MemberSteps.{differences-pushed, differences_end, difference_stops, difference-is}
use Rattle.risch_residue.proofs.members.differences.Goals as goal

pub returns-in_err-difference : goal.returns-in_err-difference
returns-in_err-difference c =
    let a = c.args.left.now in
    let e = c.args.right.now in
    let j = c.loop-j.j in
    let below : j < max (length a) (length e) = omega arith in
    let stop : IsStopOf c.in_err-difference.field-0.0 (poly.sized element (difference_in_z (poly.coefficient element a j) (poly.coefficient element e j))) =
    rw (c.in_ok-minuend.ensures, c.in_ok-factor.ensures) at c.in_err-difference.ensures in
    let stops = difference_stops c.in_err-difference.field-0.0 a e c.loop-j.member.items j below stop in
    rw c.loop-j.invariant (grind (arith, stops))

pub loop-j-preserved : goal.loop-j-preserved
loop-j-preserved c =
    let a = c.args.left.now in
    let e = c.args.right.now in
    let j = c.loop-j.j in
    let d = c.in_ok-difference.difference in
    let below : j < max (length a) (length e) = omega arith in
    let sized : poly.sized element (difference_in_z (poly.coefficient element a j) (poly.coefficient element e j)) ≡ Ok d =
    rw (c.in_ok-minuend.ensures, c.in_ok-factor.ensures) at c.in_ok-difference.ensures in
    let is = difference-is (poly.coefficient element a j) (poly.coefficient element e j) d sized in
    let formed : c.push.new.self.items ≡ c.loop-j.member.items ++ d ∷ [] = c.in_ok-push.ensures.items in
    c.loop-j.invariant ∙ differences-pushed a e c.loop-j.member.items d j below is ∙ rw formed refl

pub returns : goal.returns
returns c =
    let a = c.args.left.now in
    let e = c.args.right.now in
    let past : max (length a) (length e) ≤ c.loop-j.j = omega arith in
    let whole : differences_in_z a e ≡ c.loop-j.member.items = c.loop-j.invariant ∙ differences_end a e c.loop-j.member.items c.loop-j.j past in
    rw whole c.sized.ensures
