-- The item at a place of a list that is mapped.
use Rattle.std.proofs.Common.{◌≡◌, ℕ, zero, suc, ◌<◌, List, [], ◌∷◌, length, map, drop, get_or, refl, ap, ◌∙◌, arith}

pub record IsItemAt {A B : Type 0} (f : A → B) (items : List A) (i : ℕ) (image : B) : Type 0 where
  pub item : A
  pub here : drop i items ≡ item ∷ drop (suc i) items
  pub image_is : image ≡ f item

at_map : {A B : Type 0} (f : A → B) (items : List A) (i : ℕ) (image : B) → i < length (map f items) → image ≡ get_or (map f items) i image → IsItemAt f items i image
at_map f [] i image low e = absurd (omega arith)
at_map f (a ∷ items) zero image low e = record { item = a; here = refl; image_is = e }
at_map f (a ∷ items) (suc i) image low e =
    let more = at_map f items i image (omega arith) e in
    record { item = more.item; here = more.here; image_is = more.image_is }

pub item_at : {A B : Type 0} (f : A → B) (images : List B) (items : List A) (i : ℕ) (image : B) → images ≡ map f items → i < length images → image ≡ get_or images i image → IsItemAt f items i image
item_at f images items i image w low e = at_map f items i image (rw w at low) (e ∙ ap (λ (list : List _). get_or list i image) w)
