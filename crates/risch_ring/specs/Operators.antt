-- The operations of a commutative ring and of a field as operators. One line opens them for a block over a ring, with their precedences:
--
--   module _ {A : Type 0} (R : CommRing A) where
--     open (operators R) use {𝟘, 𝟙, ◌+◌, ◌-◌, ◌*◌, -◌, ◌^◌}
--
-- A file that does so names the operations of ℕ through their module: `use Prim.Native.Nat as Nat`, and `Nat.◌+◌ m n`.
use Rattle.std.specs.Prelude.{ℕ}
use Rattle.risch_ring.specs.CommRing.{CommRing, Field, sub, power, quotient}

-- the operations of a commutative ring with their precedences
pub record Operators (A : Type 0) : Type 0 where
  infixl 60 ◌+◌ ◌-◌
  infixl 70 ◌*◌
  infix 80 -◌
  infixr 90 ◌^◌
  pub 𝟘 : A
  pub 𝟙 : A
  pub ◌+◌ : A → A → A
  pub ◌-◌ : A → A → A
  pub ◌*◌ : A → A → A
  pub -◌ : A → A
  pub ◌^◌ : A → ℕ → A

-- those of R
abbrev pub operators : {A : Type 0} → CommRing A → Operators A
operators R = record { 𝟘 = R.zero; 𝟙 = R.one; ◌+◌ = R.add; ◌-◌ = sub R; ◌*◌ = R.mul; -◌ = R.neg; ◌^◌ = power R }

-- the operations of a field with their precedences
pub record FieldOperators (A : Type 0) : Type 0 where
  infixl 60 ◌+◌ ◌-◌
  infixl 70 ◌*◌ ◌/◌
  infix 80 -◌
  infixr 90 ◌^◌
  pub 𝟘 : A
  pub 𝟙 : A
  pub ◌+◌ : A → A → A
  pub ◌-◌ : A → A → A
  pub ◌*◌ : A → A → A
  pub ◌/◌ : A → A → A
  pub -◌ : A → A
  pub ◌^◌ : A → ℕ → A

-- those of F
abbrev pub field_operators : {A : Type 0} → Field A → FieldOperators A
field_operators F = record {
  𝟘 = F.ring.zero;
  𝟙 = F.ring.one;
  ◌+◌ = F.ring.add;
  ◌-◌ = sub F.ring;
  ◌*◌ = F.ring.mul;
  ◌/◌ = quotient F;
  -◌ = F.ring.neg;
  ◌^◌ = power F.ring;
}
