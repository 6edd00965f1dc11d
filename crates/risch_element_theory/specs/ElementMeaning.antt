-- What an element of the level over a field stands for: e for ⟦e⟧, and n/m for n(t)/m(t), where t is the variable of the level.
use Rattle.std.specs.Prelude.{◌≡◌, ◌<◌, ◌⊎◌, true, List, [], length}
use Rattle.risch_ring.specs.CommRing.{Field, quotient}
use Rattle.risch_ring.specs.Lists.{Each}
use Rattle.risch_univariate.specs.Division.{IsCoprime}
use Rattle.risch_mean.specs.Univariate.{value_at}
use Rattle.risch_field.specs.Ops.{Ops}
use Rattle.risch_polynomial.specs.Poly as poly
use Rattle.risch_polynomial_theory.specs.Meaning.{Interprets, value}
use Rattle.risch_level.specs.declared.over.Over.{Over}
use Rattle.risch_level.specs.declared.over.Over.TheVariants.{Below, Quotient}
use Rattle.risch_element_theory.specs.PolynomialMeaning.{IsKept, polynomial_of}

-- the test of 1 tells the truth
pub record TellsOne {E A : Type 0} (F : Field A) (o : Ops E) (valid : E → Type 0) (meaning : E → A) : Type 0 where
  pub one_is : (e : E) → valid e → o.is_one e ≡ true → meaning e ≡ F.ring.one
  pub one_if : (e : E) → valid e → meaning e ≡ F.ring.one → o.is_one e ≡ true

-- the elements with the property P contain 0, and are closed under sums, products and negatives
pub record IsClosed {A : Type 0} (F : Field A) (P : A → Type 0) : Type 0 where
  pub zero_in : P F.ring.zero
  pub add_in : (x y : A) → P x → P y → P (F.ring.add x y)
  pub mul_in : (x y : A) → P x → P y → P (F.ring.mul x y)
  pub neg_in : (x : A) → P x → P (F.ring.neg x)

-- t is transcendental over the elements with the property P: c_0 + c_1·t + .. = 0 with each c_j among them only if each c_j = 0
abbrev pub IsTranscendental : {A : Type 0} → (F : Field A) → (A → Type 0) → A → Type 0
IsTranscendental {A = A} F P t = (c : List A) → Each P c → value_at F.ring t c ≡ F.ring.zero → Each (λ x. x ≡ F.ring.zero) c

-- each valid element stands for one with the property P, over which t is transcendental
pub record IsBelow {E A : Type 0} (F : Field A) (o : Ops E) (valid : E → Type 0) (meaning : E → A) (P : A → Type 0) (t : A) : Type 0 where
  pub interprets : Interprets o F.ring valid meaning
  pub tells_one : TellsOne F o valid meaning
  pub is_closed : IsClosed F P
  pub lies : (e : E) → valid e → P (meaning e)
  pub transcendental : IsTranscendental F P t

-- the element that an element of the level stands for, where the variable stands for t
abbrev pub meaning_over : {E A : Type 0} → (F : Field A) → (E → A) → A → Over E → A
meaning_over F meaning t (Below e) = meaning e
meaning_over F meaning t (Quotient r) = quotient F (value F.ring meaning t r.0) (value F.ring meaning t r.1)

module _ {E A : Type 0} (F : Field A) (o : Ops E) (valid : E → Type 0) (meaning : E → A) where
  -- n and m are coprime, and m is monic
  pub record IsReduced (n m : List E) : Type 0 where
    pub numerator_kept : IsKept o valid n
    pub denominator_kept : IsKept o valid m
    pub denominator-ne-zero : ¬ (m ≡ [])
    pub is_monic : meaning (poly.last o m) ≡ F.ring.one
    pub is_coprime : IsCoprime F (polynomial_of F meaning n) (polynomial_of F meaning m)

  -- n/m is in normal form and lies in no level below: the variable occurs
  pub record IsNormal (n m : List E) : Type 0 where
    pub is_reduced : IsReduced n m
    pub numerator-ne-zero : ¬ (n ≡ [])
    pub variable_occurs : (1 < length n) ⊎ (1 < length m)

  -- the valid elements of the level
  abbrev pub valid_over : Over E → Type 0
  valid_over (Below e) = valid e
  valid_over (Quotient r) = IsNormal r.0 r.1
