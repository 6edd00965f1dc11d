-- The leading coefficient of a member of a remainder sequence is its last.
use Rattle.std.specs.Prelude.{Some}
use Rattle.std.proofs.Common.{◌≡◌, ◌-◌, length, arith, sym}
use Rattle.std.specs.List.{slice_get}
use Rattle.std.proofs.lemmas.Option.{slice_get_within, get_or_from_slice_get}
use Rattle.risch_sub.specs.RemainderSequence.{InZ, Member, leading}
use Rattle.risch_sub.proofs.RemainderSteps.{leading-is}

pub leading-last : (m : Member) (p : InZ) → Some p ≡ slice_get m (length m - 1) → leading m ≡ p
leading-last m p e =
    let inside = slice_get_within m (length m - 1) p (sym e) in
    leading-is m p (omega (arith, inside)) (sym (get_or_from_slice_get m (length m - 1) p p (sym e)))
