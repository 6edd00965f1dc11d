-- The steps of the rules that form a list from another one, at the place i: of what is formed of each item alone, and of the coefficients of an argument from those of a member, at the coefficient p.
use Rattle.std.specs.Prelude.{⊤}
use Rattle.std.specs.Result.{IsErrAnd}
use Rattle.std.proofs.Common.{◌≡◌, ℕ, ◌+◌, ◌<◌, ◌≤◌, [], ◌∷◌, ◌++◌, List, zero, suc, map, take, drop, length, get_or, Result, Ok, sym, ap, ◌∙◌, refl, arith}
use Rattle.std.proofs.lemmas.List.{drop_more, drop_all, take_all}
use Rattle.std.proofs.lemmas.Result.{err_from_is_err_and}
use Rattle.risch_field.specs.Checked.{Checked, and_then, IsStopOf, AgreesWith}
use Rattle.risch_field.specs.declared.Fail.{Fail}
use Rattle.risch_field.proofs.CheckedSteps.{stop_passes}
use Rattle.risch_polynomial.specs.Poly as poly
use Rattle.risch_level.specs.Levels.{element}
use Rattle.risch_trace.specs.Traces.{remainder}
use Rattle.risch_sub.specs.RemainderSequence.{InZ, Member}
use Rattle.risch_sub.proofs.PushSteps.{onto_kept, onto_stops, onto_whole}
use Rattle.risch_logarithm_rules.specs.Logarithms.{remainders_onto, multiples_onto}

-- ---- f x_0, f x_1, ..
map-more : {A B : Type 0} (f : A → B) (xs : List A) (i : ℕ) (x : A) → i < length xs → x ≡ get_or xs i x → map f (take (i + 1) xs) ≡ map f (take i xs) ++ f x ∷ []
map-more f [] i x below is = absurd (omega arith)
map-more f (y ∷ xs) zero x below is = ap (λ z. f z ∷ []) (sym is)
map-more f (y ∷ xs) (suc i) x below is =
    let s : suc i + 1 ≡ suc (i + 1) = omega arith in
    ap (λ k. map f (take k (y ∷ xs))) s ∙ ap (λ r. f y ∷ r) (map-more f xs i x (omega arith) is)

module _ {A B : Type 0} (f : A → B) (xs : List A) (i : ℕ) {before : List B} (so_far : before ≡ map f (take i xs)) where
  pub map_kept : {x : A} {r : B} {next : List B} → i < length xs → x ≡ get_or xs i x → r ≡ f x → next ≡ before ++ r ∷ [] → next ≡ map f (take (i + 1) xs)
  map_kept {x} below is r_is pushed = pushed ∙ rw (so_far, r_is) (sym (map-more f xs i x below is))

  pub map_whole : length xs ≤ i → before ≡ map f xs
  map_whole past = so_far ∙ ap (map f) (take_all i xs past)

-- ---- p_0 rem R, p_1 rem R, ..
module _ (formed m : Member) (i : ℕ) (R : InZ) {rule : Checked Member} (so_far : rule ≡ remainders_onto formed (drop i m) R) where
  pub remainders_whole : length m ≤ i → rule ≡ Ok formed
  remainders_whole past = onto_whole (λ p. remainder p R) (λ l m. remainders_onto l m R) (λ k p l. refl) m i formed (λ k. refl) rule so_far past

  module _ {p : InZ} (below : i < length m) (is : p ≡ get_or m i p) where
    pub remainders_kept : {r : InZ} {next : Member} → remainder p R ≡ Ok r → next ≡ formed ++ r ∷ [] → rule ≡ remainders_onto next (drop (i + 1) m) R
    remainders_kept {r} {next} e pushed = onto_kept (λ p. remainder p R) (λ l m. remainders_onto l m R) (λ k p l. refl) m i formed p below is rule so_far r next e pushed

    pub remainders_stop : (stop : Fail) (result : Result ⊤ Fail) (written : Member) → IsStopOf stop (remainder p R) → IsErrAnd result (λ s. s ≡ stop) → AgreesWith result written rule
    remainders_stop stop result written e is_err =
        onto_stops (λ p. remainder p R) (λ l m. remainders_onto l m R) (λ k p l. refl) m i formed p below is rule so_far stop result written e is_err

-- ---- (p_0·c) rem R, (p_1·c) rem R, ..
module _ (formed m : Member) (i : ℕ) (c R : InZ) {rule : Checked Member} (so_far : rule ≡ multiples_onto formed (drop i m) c R) where
  pub multiples_whole : length m ≤ i → rule ≡ Ok formed
  multiples_whole past = so_far ∙ rw (drop_all i m past) refl

  module _ {p : InZ} (below : i < length m) (is : p ≡ get_or m i p) where
    next_multiple : rule ≡ and_then (poly.product element p c) (λ q. and_then (remainder q R) (λ r. multiples_onto (formed ++ r ∷ []) (drop (i + 1) m) c R))
    next_multiple = so_far ∙ rw (drop_more m i p below, ← is) refl

    pub products_stop : (stop : Fail) (result : Result ⊤ Fail) (written : Member) → IsStopOf stop (poly.product element p c) → IsErrAnd result (λ s. s ≡ stop) → AgreesWith result written rule
    products_stop stop result written e is_err =
        let s = err_from_is_err_and result is_err in
        rw (s.1, s.2, next_multiple) (stop_passes stop (poly.product element p c) (λ q. and_then (remainder q R) (λ r. multiples_onto (formed ++ r ∷ []) (drop (i + 1) m) c R)) e)

    module _ {q : InZ} (e : poly.product element p c ≡ Ok q) where
      pub multiples_kept : {r : InZ} {next : Member} → remainder q R ≡ Ok r → next ≡ formed ++ r ∷ [] → rule ≡ multiples_onto next (drop (i + 1) m) c R
      multiples_kept f pushed = next_multiple ∙ rw (e, f, pushed) refl

      pub multiples_stop : (stop : Fail) (result : Result ⊤ Fail) (written : Member) → IsStopOf stop (remainder q R) → IsErrAnd result (λ s. s ≡ stop) → AgreesWith result written rule
      multiples_stop stop result written f is_err =
          let s = err_from_is_err_and result is_err in
          rw (s.1, s.2, next_multiple, e) (stop_passes stop (remainder q R) (λ r. multiples_onto (formed ++ r ∷ []) (drop (i + 1) m) c R) f)
