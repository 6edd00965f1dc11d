-- The steps of the rule of the logarithms of the square-free parts, at the part R at i, and of the argument for R.
use Rattle.std.specs.Prelude.{nat_eq}
use Rattle.std.specs.Result.{IsErrAnd}
use Rattle.std.proofs.Common.{◌≡◌, ℕ, ◌+◌, ◌<◌, ◌≤◌, Bool, true, false, List, [], ◌∷◌, ◌++◌, Option, Some, drop, length, get_or, Result, Ok, ◌∙◌, refl, sym, add-one, suc, arith}
use Rattle.std.proofs.lemmas.Bool.Decides.{nat_tests}
use Rattle.std.proofs.lemmas.List.{drop_more, drop_all}
use Rattle.std.proofs.lemmas.Result.{err_from_is_err_and}
use Rattle.risch_field.specs.Checked.{Checked, and_then, Agrees, IsStopOf}
use Rattle.risch_field.specs.declared.Fail.{Fail}
use Rattle.risch_field.proofs.CheckedSteps.{stop_passes}
use Rattle.risch_polynomial.specs.Poly as poly
use Rattle.risch_level.specs.Levels.{Element, element}
use Rattle.risch_tower.specs.declared.level.Level.{Level}
use Rattle.risch_rootsum.specs.declared.integral.LogPart.{LogPart}
use Rattle.risch_sub.specs.RemainderSequence.{InZ, Member}
use Rattle.risch_logarithm_rules.specs.Logarithms.{member_of_degree, members_or, argument_of, argument_for, logarithm, logarithms_from}

module _ (tower : List Level) (level : ℕ) (a d : List Element) (i : ℕ) (members : Option (List Member)) (logs : List LogPart) (parts : List InZ) {rule : Checked (List LogPart)}
    (so_far : rule ≡ logarithms_from tower level a d (i + 1) members logs (drop i parts)) where
  pub parts_end : length parts ≤ i → rule ≡ Ok logs
  parts_end past = so_far ∙ rw (drop_all i parts past) refl

  module _ {R : InZ} {one : Bool} (below : i < length parts) (is : R ≡ get_or parts i R) (is_one : one ≡ poly.is_one element R) where
    pub passed_over : one ≡ true → rule ≡ logarithms_from tower level a d (i + 1 + 1) members logs (drop (i + 1) parts)
    passed_over h =
        let one_is : poly.is_one element R ≡ true = sym is_one ∙ h in
        so_far ∙ rw (drop_more parts i R below, ← is, one_is, ← add-one (i + 1)) refl

    module _ (h : one ≡ false) where
      next_part : rule ≡ and_then (argument_for tower level a d members (i + 1) R) (λ found. and_then (logarithm level R found.0) (λ l. logarithms_from tower level a d (i + 1 + 1) found.1 (logs ++ l ∷ []) (drop (i + 1) parts)))
      next_part =
          let not_one : poly.is_one element R ≡ false = sym is_one ∙ h in
          so_far ∙ rw (drop_more parts i R below, ← is, not_one, ← add-one (i + 1)) refl

      pub argument_stops : (stop : Fail) (result : Result (List LogPart) Fail) {degree : ℕ} → IsStopOf stop (argument_for tower level a d members degree R) → degree ≡ i + 1 → IsErrAnd result (λ s. s ≡ stop) → Agrees result rule
      argument_stops stop result e place is_err =
          let s = err_from_is_err_and result is_err in
          let here : IsStopOf stop (argument_for tower level a d members (i + 1) R) = rw place at e in
          rw (s.1, s.2, next_part)
          (stop_passes stop (argument_for tower level a d members (i + 1) R) (λ found. and_then (logarithm level R found.0) (λ l. logarithms_from tower level a d (i + 1 + 1) found.1 (logs ++ l ∷ []) (drop (i + 1) parts))) here)

      module _ {degree : ℕ} {S read_S : Member} {formed : Option (List Member)} (e : argument_for tower level a d members degree R ≡ Ok (S, formed)) (place : degree ≡ i + 1) (is_S : read_S ≡ S) where
        next_logarithm : rule ≡ and_then (logarithm level R read_S) (λ l. logarithms_from tower level a d (i + 1 + 1) formed (logs ++ l ∷ []) (drop (i + 1) parts))
        next_logarithm = next_part ∙ rw (← place, e, is_S) refl

        pub logarithm_stops : (stop : Fail) (result : Result (List LogPart) Fail) → IsStopOf stop (logarithm level R read_S) → IsErrAnd result (λ s. s ≡ stop) → Agrees result rule
        logarithm_stops stop result f is_err =
            let s = err_from_is_err_and result is_err in
            rw (s.1, s.2, next_logarithm) (stop_passes stop (logarithm level R read_S) (λ l. logarithms_from tower level a d (i + 1 + 1) formed (logs ++ l ∷ []) (drop (i + 1) parts)) f)

        pub logarithms_kept : {l : LogPart} {next : List LogPart} → logarithm level R read_S ≡ Ok l → next ≡ logs ++ l ∷ [] → rule ≡ logarithms_from tower level a d (i + 1 + 1) formed next (drop (i + 1) parts)
        logarithms_kept f pushed = next_logarithm ∙ rw (f, pushed) refl

-- the argument for R, of a degree other than that of d
not_equal : (m n : ℕ) → (m + 1 ≡ n → ⊥) → nat_eq (suc m) n ≡ false
not_equal m n h = grind (arith, nat_tests)

module _ (tower : List Level) (level : ℕ) (a d : List Element) (members : Option (List Member)) (degree : ℕ) (R : InZ)
    {read : ℕ} {l m : List Element} (other : read + 1 ≡ length l → ⊥) (is_read : read ≡ degree) (is_l : l ≡ m) (is_m : m ≡ d) where
  next_members : argument_for tower level a d members degree R
      ≡ and_then (members_or tower level a d members degree) (λ ms. and_then (argument_of (member_of_degree degree ms) R) (λ S. Ok (S, Some ms)))
  unfolding argument_for
  next_members = rw (not_equal degree (length d) (rw (is_read, is_l, is_m) at other)) refl

  pub members_stop : (stop : Fail) (result : Result (Member × Option (List Member)) Fail) → IsStopOf stop (members_or tower level a d members degree) → IsErrAnd result (λ s. s ≡ stop) →
      Agrees result (argument_for tower level a d members degree R)
  members_stop stop result e is_err =
      let s = err_from_is_err_and result is_err in
      rw (s.1, s.2, next_members) (stop_passes stop (members_or tower level a d members degree) (λ ms. and_then (argument_of (member_of_degree degree ms) R) (λ S. Ok (S, Some ms))) e)

  module _ {ms read_ms : List Member} (e : members_or tower level a d members degree ≡ Ok ms) (is_ms : read_ms ≡ ms) where
    pub form_stops : (stop : Fail) (result : Result (Member × Option (List Member)) Fail) → IsStopOf stop (argument_of (member_of_degree degree read_ms) R) → IsErrAnd result (λ s. s ≡ stop) →
        Agrees result (argument_for tower level a d members degree R)
    form_stops stop result f is_err =
        let s = err_from_is_err_and result is_err in
        rw (s.1, s.2, next_members, e, ← is_ms) (stop_passes stop (argument_of (member_of_degree degree read_ms) R) (λ S. Ok (S, Some read_ms)) f)

    pub argument_formed : {S : Member} → argument_of (member_of_degree degree read_ms) R ≡ Ok S → argument_for tower level a d members degree R ≡ Ok (S, Some ms)
    argument_formed f = next_members ∙ rw (e, ← is_ms, f) refl
