-- Lists: what holds of each member, membership, and lists in which no member stands twice.
use Rattle.std.specs.Prelude.{◌≡◌, ◌⊎◌, List, [], ◌∷◌}

-- P holds of each member
abbrev pub Each : {X : Type 0} → (X → Type 0) → List X → Type 0
Each P [] = Unit
Each P (x ∷ xs) = P x × Each P xs

-- y stands in the list
abbrev pub Member : {X : Type 0} → X → List X → Type 0
Member y [] = ⊥
Member y (x ∷ xs) = (y ≡ x) ⊎ Member y xs

-- no member stands twice
abbrev pub Distinct : {X : Type 0} → List X → Type 0
Distinct [] = Unit
Distinct (x ∷ xs) = Each (λ y. ¬ (x ≡ y)) xs × Distinct xs
