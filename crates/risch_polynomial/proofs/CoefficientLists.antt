-- Polynomials as lists of coefficients.
use Rattle.std.proofs.Common.{◌≡◌, ℕ, zero, suc, ◌+◌, ◌-◌, Bool, true, false, ◌&&◌, List, [], ◌∷◌, ◌++◌, length, leb, take, drop, length-drop, min, ◌⊎◌, inl, inr, Option, Some, None, Ok, refl, sym, ◌∙◌, ap, arith, append-nil}
use Rattle.std.proofs.lemmas.List.{take_all, length-map}
use Rattle.std.proofs.lemmas.Bool.{leb-true, leb-false}
use Rattle.std.specs.Prelude.{slice_get, option_to_list, fold, if◌then◌else◌}
use Rattle.risch_field.specs.Ops.{Ops, KeepsNegatives}
use Rattle.risch_polynomial.specs.Polynomial.{IsPolynomial}
use Rattle.risch_polynomial.specs.Poly as poly
use Rattle.risch_polynomial.specs.Negatives.{trimmed-negatives, weight-negatives}

module _ {E : Type 0} (o : Ops E) where
  ends_in_zero-read : (p : List E) (i : ℕ) (c : E) → length p ≡ i + 1 → Some c ≡ slice_get p i → poly.ends_in_zero o p ≡ o.is_zero c
  ends_in_zero-read [] i c l e = absurd (omega arith)
  ends_in_zero-read (a ∷ []) zero c l e = let same : a ≡ c = cc in ap o.is_zero same
  ends_in_zero-read (a ∷ []) (suc i) c l e = absurd (omega arith)
  ends_in_zero-read (a ∷ (b ∷ p)) zero c l e = absurd (omega arith)
  ends_in_zero-read (a ∷ (b ∷ p)) (suc i) c l e = ends_in_zero-read (b ∷ p) i c (omega arith) e

  pub ends_in_zero-last : (p : List E) (c : E) → Some c ≡ slice_get p (length p - 1) → poly.ends_in_zero o p ≡ o.is_zero c
  ends_in_zero-last [] c e = cc
  ends_in_zero-last (a ∷ p) c e = ends_in_zero-read (a ∷ p) (length (a ∷ p) - 1) c (omega arith) e

  pub ends_in_zero-push : (p : List E) (c : E) → poly.ends_in_zero o (p ++ c ∷ []) ≡ o.is_zero c
  ends_in_zero-push [] c = refl
  ends_in_zero-push (a ∷ []) c = refl
  ends_in_zero-push (a ∷ (b ∷ p)) c = ends_in_zero-push (b ∷ p) c

  -- a zero at the end changes nothing
  pub trimmed-push : (p : List E) (c : E) → o.is_zero c ≡ true → poly.trimmed o (p ++ c ∷ []) ≡ poly.trimmed o p
  trimmed-push [] c e = rw e refl
  trimmed-push (a ∷ p) c e = ap (poly.leading o a) (trimmed-push p c e)

  pub trimmed-whole : (p : List E) → poly.ends_in_zero o p ≡ false → poly.trimmed o p ≡ p
  trimmed-whole [] e = refl
  trimmed-whole (a ∷ []) e = rw e refl
  trimmed-whole (a ∷ (b ∷ p)) e = ap (poly.leading o a) (trimmed-whole (b ∷ p) e)

  -- a zero taken from the end changes nothing
  pub trimmed-popped : (p q : List E) (last : Option E) → p ≡ q ++ option_to_list last → poly.ends_in_zero o p ≡ true → poly.trimmed o q ≡ poly.trimmed o p
  trimmed-popped p q None e z = rw (e, append-nil) refl
  trimmed-popped p q (Some c) e z =
      let zero : o.is_zero c ≡ true = sym (ends_in_zero-push q c) ∙ ap (poly.ends_in_zero o) (sym e) ∙ z in
      sym (ap (poly.trimmed o) e ∙ trimmed-push q c zero)

  trimmed-leading : (c : E) (p : List E) → poly.trimmed o p ≡ p → poly.trimmed o (poly.leading o c p) ≡ poly.leading o c p
  trimmed-leading c [] e = by_zero (o.is_zero c) refl
    where
      by_zero : (z : Bool) → o.is_zero c ≡ z → poly.trimmed o (poly.leading o c []) ≡ poly.leading o c []
      by_zero true h = rw h refl
      by_zero false h = rw (h, h) refl
  trimmed-leading c (d ∷ p) e = ap (poly.leading o c) e

  pub trimmed-trimmed : (p : List E) → poly.trimmed o (poly.trimmed o p) ≡ poly.trimmed o p
  trimmed-trimmed [] = refl
  trimmed-trimmed (c ∷ p) = trimmed-leading c (poly.trimmed o p) (trimmed-trimmed p)

  pub trimmed-fixed : (p q : List E) → q ≡ poly.trimmed o p → poly.trimmed o q ≡ q
  trimmed-fixed p q e = rw e (trimmed-trimmed p)

  weight_from-leading : (a : ℕ) (c : E) (p : List E) → fold (λ w c. w + poly.weight_in o c) a (poly.leading o c p) ≡ fold (λ w c. w + poly.weight_in o c) (a + poly.weight_in o c) p
  weight_from-leading a c [] = by_zero (o.is_zero c) refl
    where
      by_zero : (z : Bool) → o.is_zero c ≡ z → fold (λ w c. w + poly.weight_in o c) a (if z then [] else c ∷ []) ≡ a + poly.weight_in o c
      by_zero true h = rw h (omega arith)
      by_zero false h = refl
  weight_from-leading a c (d ∷ p) = refl

  weight_from-trimmed : (a : ℕ) (p : List E) → fold (λ w c. w + poly.weight_in o c) a (poly.trimmed o p) ≡ fold (λ w c. w + poly.weight_in o c) a p
  weight_from-trimmed a [] = refl
  weight_from-trimmed a (c ∷ p) = weight_from-leading a c (poly.trimmed o p) ∙ weight_from-trimmed (a + poly.weight_in o c) p

  -- the zeros at the end weigh nothing
  pub weight-trimmed : (p : List E) → poly.weight o (poly.trimmed o p) ≡ poly.weight o p
  weight-trimmed p = weight_from-trimmed 0 p

  sum_onto-rest : (formed p q : List E) → (length p ≡ 0) ⊎ (length q ≡ 0) → poly.sum_onto o formed p q ≡ Ok ((formed ++ p) ++ q)
  sum_onto-rest formed [] q h = rw append-nil refl
  sum_onto-rest formed (a ∷ p) [] h = rw append-nil refl
  sum_onto-rest formed (a ∷ p) (b ∷ q) h = absurd (omega arith)

  -- after the shorter list the rest of the longer one follows
  pub sum_onto-end : (formed p q first second : List E) (i : ℕ) → i ≡ min (length p) (length q) →
      first ≡ formed ++ take (length p - i) (drop i p) → second ≡ first ++ take (length q - i) (drop i q) →
      poly.sum_onto o formed (drop i p) (drop i q) ≡ Ok second
  sum_onto-end formed p q first second i shorter e f =
      let p_rest : length (drop i p) ≡ length p - i = length-drop i p in
      let q_rest : length (drop i q) ≡ length q - i = length-drop i q in
      let p_all : take (length p - i) (drop i p) ≡ drop i p = take_all (length p - i) (drop i p) (omega arith) in
      let q_all : take (length q - i) (drop i q) ≡ drop i q = take_all (length q - i) (drop i q) (omega arith) in
      sum_onto-rest formed (drop i p) (drop i q) (one_empty (length p) (length q) i (length (drop i p)) (length (drop i q)) shorter p_rest q_rest) ∙ rw (f, e, p_all, q_all) refl
    where
      one_empty : (m n i a b : ℕ) → i ≡ min m n → a ≡ m - i → b ≡ n - i → (a ≡ 0) ⊎ (b ≡ 0)
      one_empty m n i a b e f g = by_order (leb m n) refl
        where
          by_order : (t : Bool) → leb m n ≡ t → (a ≡ 0) ⊎ (b ≡ 0)
          by_order true h = inl (let le = leb-true m n h in omega arith)
          by_order false h = inr (let lt = leb-false m n h in omega arith)

  and-false : (t : Bool) → (t && false) ≡ false
  and-false true = refl
  and-false false = refl

  pub same-lengths : (p q : List E) → (length p ≡ length q → ⊥) → poly.same o p q ≡ false
  same-lengths [] [] h = absurd (h refl)
  same-lengths [] (b ∷ q) h = refl
  same-lengths (a ∷ p) [] h = refl
  same-lengths (a ∷ p) (b ∷ q) h = rw (same-lengths p q (λ e. h (omega arith))) (and-false (o.same a b))

  -- the negatives of a polynomial's coefficients are those of a polynomial of the same weight
  pub IsPolynomial-negatives : KeepsNegatives o → (p : List E) (w : ℕ) → IsPolynomial o p w → IsPolynomial o (poly.negatives o p) w
  IsPolynomial-negatives k p w is = record {
    ends_not_zero = trimmed-negatives o k p ∙ ap (poly.negatives o) is.ends_not_zero;
    weight_is = is.weight_is ∙ sym (weight-negatives o k p);
    weight_small = is.weight_small;
    degree_small = rw (length-map p o.negative) is.degree_small;
  }
