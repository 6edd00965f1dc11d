-- The steps of loops over coefficients: one more, and the end.
use Rattle.std.specs.Prelude.{get_or, map}
use Rattle.std.proofs.Common.{◌≡◌, ℕ, ◌+◌, ◌<◌, ◌≤◌, true, false, List, [], ◌∷◌, ◌++◌, Ok, length, take, drop, ◌∙◌, sym, ap, refl, arith, append_assoc, take_all}
use Rattle.std.proofs.lemmas.List.{map-append, take_more, drop_more, drop_all}
use Rattle.risch_field.specs.Checked.{Checked, and_then}
use Rattle.risch_field.specs.Ops.{Ops}
use Rattle.risch_polynomial.specs.Poly as poly

pub appended : {E : Type 0} (start now next : List E) (p : List E) (i : ℕ) (x : E) → i < length p → x ≡ get_or p i x →
    now ≡ start ++ take i p → next ≡ now ++ x ∷ [] → next ≡ start ++ take (i + 1) p
appended start now next p i x less is so_far e =
    e ∙ ap (λ l. l ++ x ∷ []) so_far ∙ append_assoc start (take i p) (x ∷ []) ∙
    ap (λ l. start ++ l) (sym (take_more p i x less ∙ ap (λ y. take i p ++ y ∷ []) (sym is)))

pub all_appended : {E : Type 0} (start now : List E) (p : List E) (i : ℕ) → length p ≤ i → now ≡ start ++ take i p → now ≡ start ++ p
all_appended start now p i end so_far = so_far ∙ ap (λ l. start ++ l) (take_all i p end)

pub image_appended : {A B : Type 0} (f : A → B) (start now next : List B) (p : List A) (i : ℕ) (x : A) → i < length p → x ≡ get_or p i x →
    now ≡ start ++ map f (take i p) → next ≡ now ++ f x ∷ [] → next ≡ start ++ map f (take (i + 1) p)
image_appended f start now next p i x less is so_far e =
    e ∙ ap (λ l. l ++ f x ∷ []) so_far ∙ append_assoc start (map f (take i p)) (f x ∷ []) ∙
    ap (λ l. start ++ l) (sym (ap (map f) (take_more p i x less) ∙ map-append f (take i p) (get_or p i x ∷ []) ∙ ap (λ y. map f (take i p) ++ f y ∷ []) (sym is)))

pub all_images_appended : {A B : Type 0} (f : A → B) (start now : List B) (p : List A) (i : ℕ) → length p ≤ i → now ≡ start ++ map f (take i p) → now ≡ start ++ map f p
all_images_appended f start now p i end so_far = so_far ∙ ap (λ l. start ++ map f l) (take_all i p end)

module _ {E : Type 0} (o : Ops E) where
  rest : (p : List E) (i : ℕ) (x : E) → i < length p → x ≡ get_or p i x → drop i p ≡ x ∷ drop (i + 1) p
  rest p i x less is = drop_more p i x less ∙ ap (λ y. y ∷ drop (i + 1) p) (sym is)

  pub scaled-more : (whole : Checked (List E)) (formed next : List E) (by : E) (p : List E) (i : ℕ) (x c : E) → i < length p → x ≡ get_or p i x →
      whole ≡ poly.scaled_onto o formed by (drop i p) → o.product by x ≡ Ok c → next ≡ formed ++ c ∷ [] → whole ≡ poly.scaled_onto o next by (drop (i + 1) p)
  scaled-more whole formed next by p i x c less is so_far product e = so_far ∙ ap (poly.scaled_onto o formed by) (rest p i x less is) ∙ rw (product, e) refl

  pub scaled-ends : (whole : Checked (List E)) (formed : List E) (by : E) (p : List E) (i : ℕ) → length p ≤ i →
      whole ≡ poly.scaled_onto o formed by (drop i p) → whole ≡ Ok formed
  scaled-ends whole formed by p i end so_far = so_far ∙ ap (poly.scaled_onto o formed by) (drop_all i p end)

  pub rows-more : (whole : Checked (List E)) (formed next : List E) (p q : List E) (i : ℕ) (x : E) → i < length p → x ≡ get_or p i x → o.is_zero x ≡ false →
      whole ≡ poly.rows o formed i (drop i p) q → poly.row o false formed i x q ≡ Ok next → whole ≡ poly.rows o next (i + 1) (drop (i + 1) p) q
  rows-more whole formed next p q i x less is some so_far row = so_far ∙ ap (λ l. poly.rows o formed i l q) (rest p i x less is) ∙ rw (some, row) refl

  pub rows-passed : (whole : Checked (List E)) (formed : List E) (p q : List E) (i : ℕ) (x : E) → i < length p → x ≡ get_or p i x → o.is_zero x ≡ true →
      whole ≡ poly.rows o formed i (drop i p) q → whole ≡ poly.rows o formed (i + 1) (drop (i + 1) p) q
  rows-passed whole formed p q i x less is none so_far = so_far ∙ ap (λ l. poly.rows o formed i l q) (rest p i x less is) ∙ rw none refl

  pub rows-ends : (whole : Checked (List E)) (formed : List E) (p q : List E) (i : ℕ) → length p ≤ i →
      whole ≡ poly.rows o formed i (drop i p) q → whole ≡ Ok formed
  rows-ends whole formed p q i end so_far = so_far ∙ ap (λ l. poly.rows o formed i l q) (drop_all i p end)

  pub multiples-more : (whole : Checked (List E)) (formed next : List E) (p : List E) (i m : ℕ) (x d : E) → i < length p → x ≡ get_or p i x →
      whole ≡ poly.multiples_onto o formed (1 + i) (drop i p) → poly.multiple o m x ≡ Ok d → next ≡ formed ++ d ∷ [] → m ≡ 1 + i →
      whole ≡ poly.multiples_onto o next (1 + (i + 1)) (drop (i + 1) p)
  multiples-more whole formed next p i m x d less is so_far multiple e f =
      let later : 1 + i + 1 ≡ 1 + (i + 1) = omega arith in
      so_far ∙ ap (poly.multiples_onto o formed (1 + i)) (rest p i x less is) ∙
      ap (λ r. and_then r (λ d. poly.multiples_onto o (formed ++ d ∷ []) (1 + i + 1) (drop (i + 1) p))) (ap (λ n. poly.multiple o n x) (sym f) ∙ multiple) ∙
      ap (λ l. poly.multiples_onto o l (1 + i + 1) (drop (i + 1) p)) (sym e) ∙
      ap (λ n. poly.multiples_onto o next n (drop (i + 1) p)) later

  pub multiples-end : (whole : Checked (List E)) (formed : List E) (p : List E) (i : ℕ) → length p ≤ i →
      whole ≡ poly.multiples_onto o formed (1 + i) (drop i p) → whole ≡ Ok formed
  multiples-end whole formed p i end so_far = so_far ∙ ap (poly.multiples_onto o formed (1 + i)) (drop_all i p end)

  pub sums-more : (whole : Checked (List E)) (formed next : List E) (p q : List E) (i : ℕ) (x y c : E) → i < length p → x ≡ get_or p i x → i < length q → y ≡ get_or q i y →
      whole ≡ poly.sum_onto o formed (drop i p) (drop i q) → o.sum x y ≡ Ok c → next ≡ formed ++ c ∷ [] →
      whole ≡ poly.sum_onto o next (drop (i + 1) p) (drop (i + 1) q)
  sums-more whole formed next p q i x y c less is less' is' so_far sum e =
      so_far ∙ ap (λ l. poly.sum_onto o formed l (drop i q)) (rest p i x less is) ∙ ap (poly.sum_onto o formed (x ∷ drop (i + 1) p)) (rest q i y less' is') ∙
      ap (λ r. and_then r (λ c. poly.sum_onto o (formed ++ c ∷ []) (drop (i + 1) p) (drop (i + 1) q))) sum ∙
      ap (λ l. poly.sum_onto o l (drop (i + 1) p) (drop (i + 1) q)) (sym e)
