-- What elements and polynomials stand for: an element e for the element ⟦e⟧ of a commutative ring, the polynomial with the coefficients
-- p_0, p_1, .. for ⟦p_0⟧ + ⟦p_1⟧·t + .. at every t of the ring.
use Rattle.std.specs.Prelude.{◌≡◌, ℕ, ◌<◌, ◌^◌, true, false, List, [], ◌∷◌, map, Ok}
use Rattle.risch_ring.specs.CommRing.{CommRing, of_nat}
use Rattle.risch_mean.specs.Univariate.{value_at}
use Rattle.risch_field.specs.Ops.{Ops}

-- each valid element e stands for ⟦e⟧ in R, and the operations give valid elements that stand for the sum, the product and so on
pub record Interprets {E A : Type 0} (o : Ops E) (R : CommRing A) (valid : E → Type 0) (meaning : E → A) : Type 0 where
  pub zero-valid : valid o.zero
  pub one-valid : valid o.one
  pub whole-valid : (n : ℕ) → n < 2 ^ 16 → valid (o.whole n)
  pub negative-valid : (e : E) → valid e → valid (o.negative e)
  pub sum-valid : (a b c : E) → valid a → valid b → o.sum a b ≡ Ok c → valid c
  pub product-valid : (a b c : E) → valid a → valid b → o.product a b ≡ Ok c → valid c
  pub quotient-valid : (a b c : E) → valid a → valid b → o.is_zero b ≡ false → o.quotient a b ≡ Ok c → valid c
  pub zero-means : meaning o.zero ≡ R.zero
  pub one-means : meaning o.one ≡ R.one
  pub whole-means : (n : ℕ) → n < 2 ^ 16 → meaning (o.whole n) ≡ of_nat R n
  pub negative-means : (e : E) → valid e → meaning (o.negative e) ≡ R.neg (meaning e)
  pub sum-means : (a b c : E) → valid a → valid b → o.sum a b ≡ Ok c → meaning c ≡ R.add (meaning a) (meaning b)
  pub product-means : (a b c : E) → valid a → valid b → o.product a b ≡ Ok c → meaning c ≡ R.mul (meaning a) (meaning b)
  pub quotient-means : (a b c : E) → valid a → valid b → o.is_zero b ≡ false → o.quotient a b ≡ Ok c → R.mul (meaning c) (meaning b) ≡ meaning a
  -- the tests tell the truth, and an element is determined by what it stands for
  pub zero_is : (e : E) → valid e → o.is_zero e ≡ true → meaning e ≡ R.zero
  pub zero_if : (e : E) → valid e → meaning e ≡ R.zero → o.is_zero e ≡ true
  pub same_is : (a b : E) → valid a → valid b → o.same a b ≡ true → a ≡ b
  pub same_if : (a b : E) → valid a → valid b → a ≡ b → o.same a b ≡ true
  pub injective : (a b : E) → valid a → valid b → meaning a ≡ meaning b → a ≡ b

-- each coefficient is valid
abbrev pub AllValid : {E : Type 0} → (E → Type 0) → List E → Type 0
AllValid valid [] = Unit {0}
AllValid valid (c ∷ p) = valid c × AllValid valid p

-- ⟦p_0⟧ + ⟦p_1⟧·t + ..
abbrev pub value : {E A : Type 0} → CommRing A → (E → A) → A → List E → A
value R meaning t p = value_at R t (map meaning p)

-- the polynomial p has valid coefficients, and at every t the value v(t)
pub record HasValue {E A : Type 0} (R : CommRing A) (valid : E → Type 0) (meaning : E → A) (p : List E) (v : A → A) : Type 0 where
  pub all_valid : AllValid valid p
  pub value_is : (t : A) → value R meaning t p ≡ v t

-- sums with 0, and products with 0 and with 1, are formed for all valid elements
pub record HasUnits {E : Type 0} (o : Ops E) (valid : E → Type 0) : Type 0 where
  pub sum-zero_left : (e : E) → valid e → o.sum o.zero e ≡ Ok e
  pub sum-zero_right : (e : E) → valid e → o.sum e o.zero ≡ Ok e
  pub product-zero_left : (e : E) → valid e → o.product o.zero e ≡ Ok o.zero
  pub product-zero_right : (e : E) → valid e → o.product e o.zero ≡ Ok o.zero
  pub product-one_left : (e : E) → valid e → o.product o.one e ≡ Ok e
  pub product-one_right : (e : E) → valid e → o.product e o.one ≡ Ok e
