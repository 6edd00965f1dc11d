-- Laws of the members of a list.
use Rattle.std.specs.Prelude.{◌≡◌, List, [], ◌∷◌, map, suc, length}
use Rattle.std.proofs.Common.{refl, sym, subst, inl, inr, ap, ap₂}
use Rattle.risch_ring.specs.Lists.{Each, Member, Distinct}

-- what holds of every member holds of each
pub each_of_members : {X : Type 0} {P : X → Type 0} (xs : List X) → ((y : X) → Member y xs → P y) → Each P xs
each_of_members [] f = tt
each_of_members (x ∷ xs) f = (f x (inl refl), each_of_members xs (λ y m. f y (inr m)))

-- what holds of each holds of a member
pub each-member : {X : Type 0} (P : X → Type 0) (y : X) (xs : List X) → Each P xs → Member y xs → P y
each-member P y [] h m = absurd m
each-member P y (x ∷ xs) h (inl e) = subst P (sym e) h.0
each-member P y (x ∷ xs) h (inr m) = each-member P y xs h.1 m

-- what follows from P for each member
pub each-map : {X : Type 0} {P Q : X → Type 0} → ((x : X) → P x → Q x) → (xs : List X) → Each P xs → Each Q xs
each-map f [] h = tt
each-map f (x ∷ xs) h = (f x h.0, each-map f xs h.1)

-- a list mapped by an injective function stays distinct
pub distinct-map : {X Y : Type 0} (f : X → Y) → ((x y : X) → f x ≡ f y → x ≡ y) → (xs : List X) → Distinct xs → Distinct (map f xs)
distinct-map f injective [] d = tt
distinct-map f injective (x ∷ xs) d = (apart xs d.0, distinct-map f injective xs d.1)
  where
    apart : (ys : List _) → Each (λ y. ¬ (x ≡ y)) ys → Each (λ y. ¬ (f x ≡ y)) (map f ys)
    apart [] h = tt
    apart (y ∷ ys) h = (λ e. h.0 (injective x y e), apart ys h.1)

-- a mapped list keeps its length
pub length-map : {X Y : Type 0} (f : X → Y) (xs : List X) → length (map f xs) ≡ length xs
length-map f [] = refl
length-map f (x ∷ xs) = ap suc (length-map f xs)

-- a member is mapped to a member
pub member-map : {X Y : Type 0} (f : X → Y) (y : X) (xs : List X) → Member y xs → Member (f y) (map f xs)
member-map f y [] m = absurd m
member-map f y (x ∷ xs) (inl e) = inl (ap f e)
member-map f y (x ∷ xs) (inr m) = inr (member-map f y xs m)

-- a member of the mapped list is the image of a member
pub member_of_map : {X Y : Type 0} (f : X → Y) (y : Y) (xs : List X) → Member y (map f xs) → (x : X) × Member x xs × (y ≡ f x)
member_of_map f y [] m = absurd m
member_of_map f y (x ∷ xs) (inl e) = (x, inl refl, e)
member_of_map f y (x ∷ xs) (inr m) = let r = member_of_map f y xs m in (r.0, inr r.1, r.2)

-- functions that agree at the members give the same mapped list
pub map-ext_members : {X Y : Type 0} (f g : X → Y) (xs : List X) → ((x : X) → Member x xs → f x ≡ g x) → map f xs ≡ map g xs
map-ext_members f g [] e = refl
map-ext_members f g (x ∷ xs) e = ap₂ (λ y ys. y ∷ ys) (e x (inl refl)) (map-ext_members f g xs (λ y m. e y (inr m)))
