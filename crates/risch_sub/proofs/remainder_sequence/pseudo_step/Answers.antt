use Rattle.std.specs.Prelude.{Option, None, Some, option_map, unwrap_or}
use Rattle.std.proofs.Common.{◌≡◌, ◌∙◌, ◌+◌, ◌-◌, refl, sym, ap, subst, length, get_or, Ok, [], arith}
use Rattle.risch_field.specs.Checked.{and_then, IsStopOf}
use Rattle.risch_sub.specs.RemainderSequence.{sized}
use Rattle.risch_sub.proofs.RemainderSteps.{left, left-is, left_stops, right_stops, step_formed}
use Rattle.risch_sub.proofs.remainder_sequence.pseudo_step.Goals as goal
use Rattle.risch_sub.proofs.remainder_sequence.pseudo_step.Goals.{After-unwrap_or-factor, In_ok-left}

-- the part of what is found, or of what stands for it
part : {A B : Type 0} (f : A → B) (found : Option A) (default : A) → f (unwrap_or found default) ≡ unwrap_or (option_map f found) (f default)
part f None default = refl
part f (Some a) default = refl

factor-is : (c : After-unwrap_or-factor) → c.unwrap_or-factor.result.now ≡ get_or c.args.rest.now (c.args.exponent + (length c.args.by.now - 1)) []
factor-is c =
    ap (λ factor. factor.now) c.unwrap_or-factor.ensures ∙ part (λ factor. factor.now) c.get.result _ ∙ c.get.ensures.lookup.4 (omega arith) c.zero-zero.result
    ∙ ap (get_or c.args.rest.now (c.args.exponent + (length c.args.by.now - 1))) c.zero-zero.ensures

pub returns-in_err-left : goal.returns-in_err-left
returns-in_err-left c =
    let rule = left-is c.args.by.now c.args.rest.now c.args.exponent c.index-by-degree.result c.min.result c.requires.some c.index-by-degree.is c.min.ensures in
    let stops =
    left_stops c.args.by.now c.args.rest.now c.args.exponent c.in_err-left.field-0.0
    (subst (λ x. IsStopOf c.in_err-left.field-0.0 (and_then x sized)) rule c.in_err-left.ensures) in
    grind (arith, stops)

is_left : (c : In_ok-left) → and_then (left c.args.by.now c.args.rest.now c.args.exponent) sized ≡ Ok c.in_ok-left.left
is_left c =
    let rule = left-is c.args.by.now c.args.rest.now c.args.exponent c.index-by-degree.result c.min.result c.requires.some c.index-by-degree.is c.min.ensures in
    ap (λ x. and_then x sized) (sym rule) ∙ c.in_ok-left.ensures

pub returns-in_err-right : goal.returns-in_err-right
returns-in_err-right c =
    let rule = factor-is ((goal.at.returns-in_err-right c).After-unwrap_or-factor) in
    let stops =
    right_stops c.args.by.now c.args.rest.now c.args.exponent c.in_err-right.field-0.0 c.in_ok-left.left (is_left ((goal.at.returns-in_err-right c).In_ok-left)) (rw rule at c.in_err-right.ensures) in
    grind (arith, stops)

pub returns : goal.returns
returns c =
    let rule = factor-is ((goal.at.returns c).After-unwrap_or-factor) in
    let formed =
    step_formed c.args.by.now c.args.rest.now c.args.exponent c.in_ok-left.left c.in_ok-right.right (is_left ((goal.at.returns c).In_ok-left)) (rw rule at c.in_ok-right.ensures) in
    rw (formed, ← c.as_slice.ensures, ← c.as_slice-2.ensures) c.difference.ensures
