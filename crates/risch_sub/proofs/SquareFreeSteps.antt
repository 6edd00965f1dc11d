-- The steps of the rule of the square-free parts, at the step i of n.
use Rattle.std.specs.Result.{IsErrAnd}
use Rattle.std.proofs.Common.{◌≡◌, ℕ, zero, suc, ◌+◌, ◌-◌, ◌<◌, ◌≤◌, Bool, true, false, List, [], ◌∷◌, ◌++◌, Result, Ok, refl, sym, ap, ◌∙◌, arith}
use Rattle.std.proofs.lemmas.Result.{err_from_is_err_and}
use Rattle.risch_field.specs.Checked.{Checked, Agrees, and_then, IsStopOf}
use Rattle.risch_field.specs.declared.Fail.{Fail}
use Rattle.risch_field.proofs.CheckedSteps.{stop_passes}
use Rattle.risch_polynomial.specs.Poly as poly
use Rattle.risch_level.specs.Levels.{Element, element}
use Rattle.risch_sub.specs.SquareFree.{parts_from}

module _ (n i : ℕ) (parts : List (List Element)) (w c : List Element) {rule : Checked (List (List Element))} (so_far : rule ≡ parts_from (n - i) parts w c) where
  pub parts_end : n ≤ i → rule ≡ Ok parts
  parts_end past =
      let none : n - i ≡ 0 = omega arith in
      so_far ∙ ap (λ k. parts_from k parts w c) none

  -- w is 1
  pub parts_done : {one : Bool} → one ≡ poly.is_one element w → one ≡ true → rule ≡ Ok parts
  parts_done is h = so_far ∙ by_steps (n - i)
    where
      is_one : poly.is_one element w ≡ true
      is_one = sym is ∙ h

      by_steps : (k : ℕ) → parts_from k parts w c ≡ Ok parts
      by_steps zero = refl
      by_steps (suc k) = rw is_one refl

  module _ {one : Bool} (below : i < n) (is : one ≡ poly.is_one element w) (h : one ≡ false) where
    next_part : rule ≡ and_then (poly.gcd element w c) (λ y. and_then (poly.quo element w y) (λ part. and_then (poly.quo element c y) (λ rest. parts_from (n - (i + 1)) (parts ++ part ∷ []) y rest)))
    next_part =
        let one_less : n - i ≡ suc (n - (i + 1)) = omega arith in
        let not_one : poly.is_one element w ≡ false = sym is ∙ h in
        so_far ∙ ap (λ k. parts_from k parts w c) one_less ∙ rw not_one refl

    pub gcd_stops : (stop : Fail) (result : Result (List (List Element)) Fail) → IsStopOf stop (poly.gcd element w c) → IsErrAnd result (λ s. s ≡ stop) → Agrees result rule
    gcd_stops stop result e is_err =
        let s = err_from_is_err_and result is_err in
        rw (s.1, s.2, next_part)
        (stop_passes stop (poly.gcd element w c)
        (λ y. and_then (poly.quo element w y) (λ part. and_then (poly.quo element c y) (λ rest. parts_from (n - (i + 1)) (parts ++ part ∷ []) y rest))) e)

    module _ {y : List Element} (e : poly.gcd element w c ≡ Ok y) where
      pub part_stops : (stop : Fail) (result : Result (List (List Element)) Fail) → IsStopOf stop (poly.quo element w y) → IsErrAnd result (λ s. s ≡ stop) → Agrees result rule
      part_stops stop result f is_err =
          let s = err_from_is_err_and result is_err in
          rw (s.1, s.2, next_part, e) (stop_passes stop (poly.quo element w y) (λ part. and_then (poly.quo element c y) (λ rest. parts_from (n - (i + 1)) (parts ++ part ∷ []) y rest)) f)

      module _ {part : List Element} (f : poly.quo element w y ≡ Ok part) where
        pub rest_stops : (stop : Fail) (result : Result (List (List Element)) Fail) → IsStopOf stop (poly.quo element c y) → IsErrAnd result (λ s. s ≡ stop) → Agrees result rule
        rest_stops stop result g is_err =
            let s = err_from_is_err_and result is_err in
            rw (s.1, s.2, next_part, e, f) (stop_passes stop (poly.quo element c y) (λ rest. parts_from (n - (i + 1)) (parts ++ part ∷ []) y rest) g)

        pub parts_kept : {rest : List Element} {pushed : List (List Element)} → poly.quo element c y ≡ Ok rest → pushed ≡ parts ++ part ∷ [] → rule ≡ parts_from (n - (i + 1)) pushed y rest
        parts_kept g is_pushed = next_part ∙ rw (e, f, g, is_pushed) refl
