-- A place of a field L with values in a field E: every x in L has a value in E or a pole. Polynomials over L and their values over E;
-- elements and polynomials of L that are not all 0 can be scaled so that they have values that are not all 0.
use Rattle.std.specs.Prelude.{◌≡◌, ℕ, zero, suc, ◌≤◌, ◌⊎◌}
use Rattle.std.proofs.Common.{refl, sym, ap, subst, ◌∙◌, inl, inr}
use Rattle.risch_ring.specs.CommRing.{CommRing, Field}
use Rattle.risch_ring.proofs.Laws as Laws
use Rattle.risch_univariate.specs.Polynomial.{Polynomial, constant, coefficient}
use Rattle.risch_univariate.specs.Degree.{size}
use Rattle.risch_ring.proofs.FieldLaws as FieldLaws
use Rattle.risch_univariate.proofs.Degree as Degree
use Rattle.risch_univariate.proofs.Evaluation as Evaluation
use Rattle.risch_univariate.specs.PolynomialRing.{polynomials, horner}
use Rattle.risch_univariate.specs.PolynomialLaws.{polynomial_ext}
use Rattle.risch_univariate.proofs.PolynomialInduction.{polynomial_induction}
use Rattle.risch_univariate.proofs.Coefficients.{coefficient-zero, coefficient-add, coefficient-constant_mul, coefficient-horner-zero, coefficient-horner-suc}

-- an element with the property V
pub record Some {C : Type 0} (V : C → Type 0) : Type 0 where
  pub value : C
  pub has_value : V value

-- a place of L with values in E: values respect sums and products, and each x has one value, or 1/x has the value 0
pub record Place {B C : Type 0} (L : Field B) (E : Field C) : Type 1 where
  -- x has the value a
  pub HasValue : B → C → Type 0
  pub value-zero : HasValue L.zero E.zero
  pub value-one : HasValue L.one E.one
  pub value-add : (x y : B) (a b : C) → HasValue x a → HasValue y b → HasValue (L.add x y) (E.add a b)
  pub value-mul : (x y : B) (a b : C) → HasValue x a → HasValue y b → HasValue (L.mul x y) (E.mul a b)
  pub value_unique : (x : B) (a b : C) → HasValue x a → HasValue x b → a ≡ b
  pub value_or_pole : (x : B) → Some (HasValue x) ⊎ (¬ (x ≡ L.zero) × HasValue (L.inverse x) E.zero)

-- p = a + t·q
pub record Horner {A : Type 0} (F : Field A) (p : Polynomial F) : Type 0 where
  pub head : A
  pub tail : Polynomial F
  pub equation : p ≡ horner F head tail

-- every p is a + t·q
pub horner_of : {A : Type 0} (F : Field A) (p : Polynomial F) → Horner F p
horner_of F = polynomial_induction F (Horner F)
    (record {
      head = F.zero;
      tail = (polynomials F).zero;
      equation = sym (Evaluation.horner-constant F F.zero ∙ Degree.constant-zero F);
    })
    (λ a p ih. record { head = a; tail = p; equation = refl })

module _ {B C : Type 0} (L : Field B) (E : Field C) (φ : Place L E) where
  abbrev R : CommRing (Polynomial L)
  R = polynomials L

  abbrev S : CommRing (Polynomial E)
  S = polynomials E

  -- the coefficients of M have the values that are the coefficients of m
  abbrev pub HasValues : Polynomial L → Polynomial E → Type 0
  HasValues M m = (i : ℕ) → φ.HasValue (coefficient L M i) (coefficient E m i)

  -- values are moved along equations
  pub move : (x y : B) (a b : C) → x ≡ y → a ≡ b → φ.HasValue x a → φ.HasValue y b
  move x y a b e f h = subst (λ z. φ.HasValue z b) e (subst (φ.HasValue x) f h)

  -- the same of polynomials, by coefficients
  pub move_values : (P Q : Polynomial L) (p q : Polynomial E) → P ≡ Q → p ≡ q → HasValues P p → HasValues Q q
  move_values P Q p q e f h = λ i. move _ _ _ _ (ap (λ z. coefficient L z i) e) (ap (λ z. coefficient E z i) f) (h i)

  -- values of polynomials are unique
  pub values_unique : (M : Polynomial L) (m n : Polynomial E) → HasValues M m → HasValues M n → m ≡ n
  values_unique M m n h k = polynomial_ext E m n (λ i. φ.value_unique (coefficient L M i) (coefficient E m i) (coefficient E n i) (h i) (k i))

  -- 0 has the value 0
  pub values-zero : HasValues R.zero S.zero
  values-zero = λ i. move _ _ _ _ (sym (coefficient-zero L i)) (sym (coefficient-zero E i)) φ.value-zero

  -- the degree of the values is not larger
  pub size-values : (M : Polynomial L) (m : Polynomial E) → HasValues M m → size E m ≤ size L M
  size-values M m h = Degree.size-le E m (size L M) (λ i l.
      φ.value_unique L.zero (coefficient E m i) E.zero (move _ _ _ _ (Degree.below_size L M i l) refl (h i)) φ.value-zero)

  -- P and Q have the values p and q: P + Q has p + q
  pub values-add : (P Q : Polynomial L) (p q : Polynomial E) → HasValues P p → HasValues Q q → HasValues (R.add P Q) (S.add p q)
  values-add P Q p q h k = λ i.
      move _ _ _ _ (sym (coefficient-add L P Q i)) (sym (coefficient-add E p q i)) (φ.value-add _ _ _ _ (h i) (k i))

  -- x·P has the value a·p
  pub values-constant_mul : (x : B) (a : C) (P : Polynomial L) (p : Polynomial E) → φ.HasValue x a → HasValues P p → HasValues (R.mul (constant L x) P) (S.mul (constant E a) p)
  values-constant_mul x a P p h k = λ i.
      move _ _ _ _ (sym (coefficient-constant_mul L x P i)) (sym (coefficient-constant_mul E a p i)) (φ.value-mul _ _ _ _ h (k i))

  -- values of a + t·P
  values-horner : (a : B) (P : Polynomial L) (c : C) (p : Polynomial E) → φ.HasValue a c → HasValues P p → HasValues (horner L a P) (horner E c p)
  values-horner a P c p h k zero = move _ _ _ _ (sym (coefficient-horner-zero L a P)) (sym (coefficient-horner-zero E c p)) h
  values-horner a P c p h k (suc i) = move _ _ _ _ (sym (coefficient-horner-suc L a P i)) (sym (coefficient-horner-suc E c p i)) (k i)

  -- P·Q has the value p·q
  pub values-mul : (P Q : Polynomial L) (p q : Polynomial E) → HasValues P p → HasValues Q q → HasValues (R.mul P Q) (S.mul p q)
  values-mul P Q p q h k = go P p h
    where
      step : (a : B) (P' : Polynomial L) → ((p' : Polynomial E) → HasValues P' p' → HasValues (R.mul P' Q) (S.mul p' q))
          → (c : C) (p' : Polynomial E) → HasValues (horner L a P') (horner E c p') → HasValues (R.mul (horner L a P') Q) (S.mul (horner E c p') q)
      step a P' ih c p' h' zero =
          move _ _ _ _ (sym (Degree.horner_mul-zero L a P' Q)) (sym (Degree.horner_mul-zero E c p' q))
          (φ.value-mul _ _ _ _ (move _ _ _ _ (coefficient-horner-zero L a P') (coefficient-horner-zero E c p') (h' zero)) (k zero))
      step a P' ih c p' h' (suc i) =
          move _ _ _ _ (sym (Degree.horner_mul-suc L a P' Q i)) (sym (Degree.horner_mul-suc E c p' q i))
          (φ.value-add _ _ _ _
          (φ.value-mul _ _ _ _ (move _ _ _ _ (coefficient-horner-zero L a P') (coefficient-horner-zero E c p') (h' zero)) (k (suc i)))
          (ih p' (λ j. move _ _ _ _ (coefficient-horner-suc L a P' j) (coefficient-horner-suc E c p' j) (h' (suc j))) i))

      go : (P' : Polynomial L) (p' : Polynomial E) → HasValues P' p' → HasValues (R.mul P' Q) (S.mul p' q)
      go = polynomial_induction L (λ P'. (p' : Polynomial E) → HasValues P' p' → HasValues (R.mul P' Q) (S.mul p' q))
          (λ p' h'. move_values _ _ _ _ (sym (Laws.zero-mul R Q))
          (sym (ap (λ z. S.mul z q) (values_unique R.zero p' S.zero h' values-zero) ∙ Laws.zero-mul S q)) values-zero)
          (λ a P' ih p' h'.
          let s = horner_of E p' in
          move_values _ _ _ _ refl (ap (λ z. S.mul z q) (sym s.equation))
          (step a P' ih s.head s.tail (move_values _ _ _ _ refl s.equation h')))

  -- ---- scaling

  -- some y ≠ 0 is such that x/y and the coefficients of P/y have values, which are not all 0
  pub record Scaled (x : B) (P : Polynomial L) : Type 0 where
    pub divisor : B
    pub nonzero : ¬ (divisor ≡ L.zero)
    pub ratio : C
    pub has_ratio : φ.HasValue (L.mul (L.inverse divisor) x) ratio
    pub values : Polynomial E
    pub has_values : HasValues (R.mul (constant L (L.inverse divisor)) P) values
    pub not_zero : ratio ≡ E.zero → values ≡ S.zero → ⊥

  scaled-zero : (x : B) → ¬ (x ≡ L.zero) → Scaled x R.zero
  scaled-zero x n = record {
    divisor = x;
    nonzero = n;
    ratio = E.one;
    has_ratio = move _ _ _ _ (sym (FieldLaws.inverse-mul L x n)) refl φ.value-one;
    values = S.zero;
    has_values = move_values _ _ _ _ (sym (Laws.mul-zero R (constant L (L.inverse x)))) refl values-zero;
    not_zero = λ e f. E.one-ne-zero e;
  }

  -- the divisor y is kept, where a/y has a value
  scaled-keep : (x a : B) (P : Polynomial L) (s : Scaled x P) → Some (φ.HasValue (L.mul (L.inverse s.divisor) a)) → Scaled x (horner L a P)
  scaled-keep x a P s v = record {
    divisor = s.divisor;
    nonzero = s.nonzero;
    ratio = s.ratio;
    has_ratio = s.has_ratio;
    values = horner E v.value s.values;
    has_values = move_values _ _ _ _ (sym (Evaluation.constant-mul-horner L (L.inverse s.divisor) a P)) refl
        (values-horner (L.mul (L.inverse s.divisor) a) (R.mul (constant L (L.inverse s.divisor)) P) v.value s.values v.has_value s.has_values);
    not_zero = λ e f. s.not_zero e (polynomial_ext E s.values S.zero (λ i.
        sym (coefficient-horner-suc E v.value s.values i) ∙ ap (λ z. coefficient E z (suc i)) f ∙ coefficient-zero E (suc i) ∙ sym (coefficient-zero E i)));
  }

  -- the inverse of y⁻¹·a is a⁻¹·y
  inverse_quotient : (y a : B) → ¬ (y ≡ L.zero) → ¬ (a ≡ L.zero) → ¬ (L.mul (L.inverse y) a ≡ L.zero) → L.inverse (L.mul (L.inverse y) a) ≡ L.mul (L.inverse a) y
  inverse_quotient y a ny na nq =
      FieldLaws.mul_left_cancel L (L.mul (L.inverse y) a) _ _ nq
      (L.mul-inverse (L.mul (L.inverse y) a) nq
      ∙ sym (L.mul_assoc (L.inverse y) a (L.mul (L.inverse a) y) ∙ ap (L.mul (L.inverse y)) (FieldLaws.mul-inverse_cancel L a y na) ∙ FieldLaws.inverse-mul L y ny))

  -- a⁻¹·z = (a⁻¹·y)·(y⁻¹·z)
  through : (a y z : B) → ¬ (y ≡ L.zero) → L.mul (L.mul (L.inverse a) y) (L.mul (L.inverse y) z) ≡ L.mul (L.inverse a) z
  through a y z ny = L.mul_assoc (L.inverse a) y (L.mul (L.inverse y) z) ∙ ap (L.mul (L.inverse a)) (FieldLaws.mul-inverse_cancel L y z ny)

  -- a becomes the divisor, where a/y has a pole
  scaled-change : (x a : B) (P : Polynomial L) (s : Scaled x P) → ¬ (a ≡ L.zero) → φ.HasValue (L.mul (L.inverse a) s.divisor) E.zero → Scaled x (horner L a P)
  scaled-change x a P s na h = record {
    divisor = a;
    nonzero = na;
    ratio = E.zero;
    has_ratio = move _ _ _ _ (through a s.divisor x s.nonzero) (Laws.zero-mul E.ring s.ratio) (φ.value-mul _ _ _ _ h s.has_ratio);
    values = horner E E.one S.zero;
    has_values = move_values _ _ _ _ (sym (Evaluation.constant-mul-horner L (L.inverse a) a P)) refl
        (values-horner (L.mul (L.inverse a) a) (R.mul (constant L (L.inverse a)) P) E.one S.zero
        (move _ _ _ _ (sym (FieldLaws.inverse-mul L a na)) refl φ.value-one)
        (λ i. move _ _ _ _
        (ap (L.mul (L.mul (L.inverse a) s.divisor)) (coefficient-constant_mul L (L.inverse s.divisor) P i)
        ∙ through a s.divisor (coefficient L P i) s.nonzero ∙ sym (coefficient-constant_mul L (L.inverse a) P i))
        (Laws.zero-mul E.ring (coefficient E s.values i) ∙ sym (coefficient-zero E i))
        (φ.value-mul _ _ _ _ h (s.has_values i))));
    not_zero = λ e f. E.one-ne-zero
        (sym (coefficient-horner-zero E E.one S.zero) ∙ ap (λ z. coefficient E z 0) f ∙ coefficient-zero E 0);
  }

  -- for x ≠ 0 the polynomial P can be scaled
  pub scaled : (x : B) → ¬ (x ≡ L.zero) → (P : Polynomial L) → Scaled x P
  scaled x n = polynomial_induction L (Scaled x) (scaled-zero x n) step
    where
      step : (a : B) (P : Polynomial L) → Scaled x P → Scaled x (horner L a P)
      step a P s = go (φ.value_or_pole (L.mul (L.inverse s.divisor) a))
        where
          go : Some (φ.HasValue (L.mul (L.inverse s.divisor) a)) ⊎ (¬ (L.mul (L.inverse s.divisor) a ≡ L.zero) × φ.HasValue (L.inverse (L.mul (L.inverse s.divisor) a)) E.zero)
              → Scaled x (horner L a P)
          go (inl v) = scaled-keep x a P s v
          go (inr h) =
              let na : ¬ (a ≡ L.zero) = λ e. h.0 (ap (L.mul (L.inverse s.divisor)) e ∙ Laws.mul-zero L.ring (L.inverse s.divisor)) in
              scaled-change x a P s na (move _ _ _ _ (inverse_quotient s.divisor a s.nonzero na h.0) refl h.1)

  -- g·γ, g·U, g·V have values that are not all 0, for some g ≠ 0
  pub record ScaledTriple (γ : B) (U V : Polynomial L) : Type 0 where
    pub factor : B
    pub value : C
    pub has_value : φ.HasValue (L.mul factor γ) value
    pub left : Polynomial E
    pub has_left : HasValues (R.mul (constant L factor) U) left
    pub right : Polynomial E
    pub has_right : HasValues (R.mul (constant L factor) V) right
    pub not_zero : value ≡ E.zero → left ≡ S.zero → right ≡ S.zero → ⊥

  -- for γ ≠ 0 the polynomials U and V can be scaled together
  pub scaled_triple : (γ : B) → ¬ (γ ≡ L.zero) → (U V : Polynomial L) → ScaledTriple γ U V
  scaled_triple γ n U V = record {
    factor = L.inverse t.divisor;
    value = E.mul t.ratio s.ratio;
    has_value = move _ _ _ _ (through t.divisor s.divisor γ s.nonzero) refl (φ.value-mul _ _ _ _ t.has_ratio s.has_ratio);
    left = t.values;
    has_left = t.has_values;
    right = S.mul (constant E t.ratio) s.values;
    has_right = λ i. move _ _ _ _
        (ap (L.mul (L.mul (L.inverse t.divisor) s.divisor)) (coefficient-constant_mul L (L.inverse s.divisor) V i)
        ∙ through t.divisor s.divisor (coefficient L V i) s.nonzero ∙ sym (coefficient-constant_mul L (L.inverse t.divisor) V i))
        (sym (coefficient-constant_mul E t.ratio s.values i))
        (φ.value-mul _ _ _ _ t.has_ratio (s.has_values i));
    not_zero = λ e f g. t.not_zero (ratio-zero e g) f;
  }
    where
      s : Scaled γ V
      s = scaled γ n V

      t : Scaled s.divisor U
      t = scaled s.divisor s.nonzero U

      -- t.ratio ≠ 0 would make both values of s zero
      ratio-zero : E.mul t.ratio s.ratio ≡ E.zero → S.mul (constant E t.ratio) s.values ≡ S.zero → t.ratio ≡ E.zero
      ratio-zero e g = elim (E.is_zero t.ratio) [
        | yes z ↦ z
        | no k ↦ absurd (s.not_zero (FieldLaws.zero_of_mul E t.ratio s.ratio k e)
            (Degree.zero_of_mul_polynomials E (constant E t.ratio) s.values (Degree.constant-nonzero E t.ratio k) g))
      ]
