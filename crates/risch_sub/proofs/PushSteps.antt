-- The steps of the rules that form the members of a list from those of others, in their order. In the first, f is what is formed of one member, and `onto` appends what is formed of all.
use Rattle.std.specs.Prelude.{⊤, replicate}
use Rattle.std.specs.Result.{IsErrAnd}
use Rattle.std.proofs.Common.{◌≡◌, ℕ, ◌+◌, ◌<◌, ◌≤◌, zero, suc, min, map, take, List, [], ◌∷◌, ◌++◌, append_assoc, drop, length, get_or, Result, Ok, sym, ap, ◌∙◌, refl, arith}
use Rattle.std.proofs.lemmas.List.{drop_more, drop_all, take_all, take_more}
use Rattle.std.proofs.lemmas.Grind.{replicate_next}
use Rattle.std.proofs.lemmas.Result.{err_from_is_err_and}
use Rattle.risch_field.specs.Checked.{Checked, and_then, IsStopOf, AgreesWith}
use Rattle.risch_field.specs.declared.Fail.{Fail}
use Rattle.risch_field.proofs.CheckedSteps.{stop_passes}
use Rattle.risch_polynomial.specs.Poly as poly
use Rattle.risch_level.specs.Levels.{element}
use Rattle.risch_sub.specs.RemainderSequence.{InZ, Member, products_onto, differences_onto, quotients_onto}

module _ {A B : Type 0} (f : A → Checked B) (onto : List B → List A → Checked (List B))
    (step : (formed : List B) (p : A) (m : List A) → onto formed (p ∷ m) ≡ and_then (f p) (λ q. onto (formed ++ q ∷ []) m))
    (l : List A) (i : ℕ) (formed : List B) where
  module _ (p : A) (below : i < length l) (is : p ≡ get_or l i p) where
    -- the member p at i, and those after it
    next_step : onto formed (drop i l) ≡ and_then (f p) (λ q. onto (formed ++ q ∷ []) (drop (i + 1) l))
    next_step = ap (onto formed) (drop_more l i p below ∙ ap (λ q. q ∷ drop (i + 1) l) (sym is)) ∙ step formed p (drop (i + 1) l)

    pub onto_kept : (rule : Checked (List B)) → rule ≡ onto formed (drop i l) → (q : B) (next : List B) → f p ≡ Ok q → next ≡ formed ++ q ∷ [] → rule ≡ onto next (drop (i + 1) l)
    onto_kept rule so_far q next e pushed = so_far ∙ next_step ∙ rw (e, pushed) refl

    pub onto_stops : (rule : Checked (List B)) → rule ≡ onto formed (drop i l) → (stop : Fail) (result : Result ⊤ Fail) (written : List B) → IsStopOf stop (f p) → IsErrAnd result (λ s. s ≡ stop) → AgreesWith result written rule
    onto_stops rule so_far stop result written e is_err =
        let s = err_from_is_err_and result is_err in
        rw (s.1, s.2, so_far, next_step) (stop_passes stop (f p) (λ q. onto (formed ++ q ∷ []) (drop (i + 1) l)) e)

  pub onto_whole : ((k : List B) → onto k [] ≡ Ok k) → (rule : Checked (List B)) → rule ≡ onto formed (drop i l) → length l ≤ i → rule ≡ Ok formed
  onto_whole end rule so_far past = so_far ∙ ap (onto formed) (drop_all i l past) ∙ end formed

-- ---- m_0 quo c, m_1 quo c, ..
module _ (formed m : Member) (i : ℕ) (c : InZ) {rule : Checked Member} (so_far : rule ≡ quotients_onto formed (drop i m) c) where
  pub quotients_kept : {p q : InZ} {next : Member} → i < length m → p ≡ get_or m i p → poly.quo element p c ≡ Ok q → next ≡ formed ++ q ∷ [] → rule ≡ quotients_onto next (drop (i + 1) m) c
  quotients_kept {p} {q} {next} below is e pushed = onto_kept (λ p. poly.quo element p c) (λ l m. quotients_onto l m c) (λ k p l. refl) m i formed p below is rule so_far q next e pushed

  pub quotients_stop : {p : InZ} (stop : Fail) (result : Result ⊤ Fail) (written : Member) → i < length m → p ≡ get_or m i p → IsStopOf stop (poly.quo element p c) → IsErrAnd result (λ s. s ≡ stop) →
      AgreesWith result written rule
  quotients_stop {p} stop result written below is e is_err =
      onto_stops (λ p. poly.quo element p c) (λ l m. quotients_onto l m c) (λ k p l. refl) m i formed p below is rule so_far stop result written e is_err

  pub quotients_whole : length m ≤ i → rule ≡ Ok formed
  quotients_whole past = onto_whole (λ p. poly.quo element p c) (λ l m. quotients_onto l m c) (λ k p l. refl) m i formed (λ k. refl) rule so_far past

-- ---- c·m_0, c·m_1, ..
module _ (formed : Member) (c : InZ) (m : Member) (i : ℕ) {rule : Checked Member} (so_far : rule ≡ products_onto formed c (drop i m)) where
  pub products_kept : {p q : InZ} {next : Member} → i < length m → p ≡ get_or m i p → poly.product element c p ≡ Ok q → next ≡ formed ++ q ∷ [] → rule ≡ products_onto next c (drop (i + 1) m)
  products_kept {p} {q} {next} below is e pushed = onto_kept (poly.product element c) (λ l m. products_onto l c m) (λ k p l. refl) m i formed p below is rule so_far q next e pushed

  pub products_stop : {p : InZ} (stop : Fail) (result : Result ⊤ Fail) (written : Member) → i < length m → p ≡ get_or m i p → IsStopOf stop (poly.product element c p) → IsErrAnd result (λ s. s ≡ stop) →
      AgreesWith result written rule
  products_stop {p} stop result written below is e is_err =
      onto_stops (poly.product element c) (λ l m. products_onto l c m) (λ k p l. refl) m i formed p below is rule so_far stop result written e is_err

  pub products_whole : length m ≤ i → rule ≡ Ok formed
  products_whole past = onto_whole (poly.product element c) (λ l m. products_onto l c m) (λ k p l. refl) m i formed (λ k. refl) rule so_far past

-- ---- x_0, x_1, .. and f x_0, f x_1, ..
module _ {A : Type 0} (xs : List A) (i : ℕ) (before : List A) {formed : List A} (so_far : formed ≡ before ++ take i xs) where
  pub copies_kept : {x r : A} {next : List A} → i < length xs → x ≡ get_or xs i x → r ≡ x → next ≡ formed ++ r ∷ [] → next ≡ before ++ take (i + 1) xs
  copies_kept {x} below is r_is pushed =
      pushed ∙ rw (so_far, r_is) (append_assoc before (take i xs) (x ∷ []) ∙ ap (λ l. before ++ l) (sym (take_more xs i x below ∙ ap (λ y. take i xs ++ y ∷ []) (sym is))))

  pub copies_whole : length xs ≤ i → formed ≡ before ++ xs
  copies_whole past = so_far ∙ ap (λ l. before ++ l) (take_all i xs past)

map-more : {A B : Type 0} (f : A → B) (xs : List A) (i : ℕ) (x : A) → i < length xs → x ≡ get_or xs i x → map f (take (i + 1) xs) ≡ map f (take i xs) ++ f x ∷ []
map-more f [] i x below is = absurd (omega arith)
map-more f (y ∷ xs) zero x below is = ap (λ z. f z ∷ []) (sym is)
map-more f (y ∷ xs) (suc i) x below is =
    let s : suc i + 1 ≡ suc (i + 1) = omega arith in
    ap (λ k. map f (take k (y ∷ xs))) s ∙ ap (λ r. f y ∷ r) (map-more f xs i x (omega arith) is)

module _ {A B : Type 0} (f : A → B) (xs : List A) (i : ℕ) (before : List B) {formed : List B} (so_far : formed ≡ before ++ map f (take i xs)) where
  pub images_kept : {x : A} {r : B} {next : List B} → i < length xs → x ≡ get_or xs i x → r ≡ f x → next ≡ formed ++ r ∷ [] → next ≡ before ++ map f (take (i + 1) xs)
  images_kept {x} below is r_is pushed =
      pushed ∙ rw (so_far, r_is) (append_assoc before (map f (take i xs)) (f x ∷ []) ∙ ap (λ l. before ++ l) (sym (map-more f xs i x below is)))

  pub images_whole : length xs ≤ i → formed ≡ before ++ map f xs
  images_whole past = so_far ∙ ap (λ l. before ++ map f l) (take_all i xs past)

-- ---- 0, 0, ..
pub zeros_kept : (before formed next : Member) (i : ℕ) {p : InZ} → formed ≡ before ++ replicate i [] → p ≡ [] → next ≡ formed ++ p ∷ [] → next ≡ before ++ replicate (i + 1) []
zeros_kept before formed next i so_far is pushed = pushed ∙ rw (so_far, is, replicate_next {X = InZ} i []) (append_assoc before (replicate i []) ([] ∷ []))

-- ---- m_0 - n_0, m_1 - n_1, ..
module _ (formed m n : Member) (i : ℕ) {rule : Checked Member} (so_far : rule ≡ differences_onto formed (drop i m) (drop i n))
    {both : ℕ} {p q : InZ} (below : i < both) (shorter : both ≡ min (length m) (length n)) (is_p : p ≡ get_or m i p) (is_q : q ≡ get_or n i q) where
  next_difference : rule ≡ and_then (poly.sum element p (poly.negatives element q)) (λ s. differences_onto (formed ++ s ∷ []) (drop (i + 1) m) (drop (i + 1) n))
  next_difference =
      let in_m : i < length m = omega arith in
      let in_n : i < length n = omega arith in
      so_far ∙ rw (drop_more m i p in_m, drop_more n i q in_n, ← is_p, ← is_q) refl

  pub differences_kept : {s : InZ} {next : Member} → poly.sum element p (poly.negatives element q) ≡ Ok s → next ≡ formed ++ s ∷ [] → rule ≡ differences_onto next (drop (i + 1) m) (drop (i + 1) n)
  differences_kept e pushed = next_difference ∙ rw (e, pushed) refl

  pub differences_stop : (stop : Fail) (result : Result ⊤ Fail) (written : Member) → IsStopOf stop (poly.sum element p (poly.negatives element q)) → IsErrAnd result (λ s. s ≡ stop) → AgreesWith result written rule
  differences_stop stop result written e is_err =
      let s = err_from_is_err_and result is_err in
      rw (s.1, s.2, next_difference) (stop_passes stop (poly.sum element p (poly.negatives element q)) (λ s. differences_onto (formed ++ s ∷ []) (drop (i + 1) m) (drop (i + 1) n)) e)
