-- The solver for equations between quotients in a field.
use Rattle.std.specs.Prelude.{◌≡◌, refl, pos, List, [], ◌∷◌, ℕ}
use Rattle.std.proofs.Common.{sym, ap, ap₂, ◌∙◌}
use Rattle.risch_ring.specs.CommRing.{Field, sub, power, of_nat, of_int}
use Rattle.risch_ring.specs.Operators.{field_operators}
use Rattle.risch_ring.proofs.Laws as Laws
use Rattle.risch_ring.proofs.FieldLaws.{mul_left_cancel, mul-nonzero, power-nonzero}
use Rattle.risch_ring.proofs.Laws.{of_int-one}
use Rattle.risch_ring.proofs.Expression.{Expression, constant, plus, times, negative, raised, Reading, reading, value, read_var₀, read_var₁, read_var₂, read_var₃, read_var₄, read_var₅, read_var₆, read_var₇, read_var₈, read_var₉, read_var₁₀, read_var₁₁, read_var₁₂, read_var₁₃, read_var₁₄, read_var₁₅, read_var₁₆, read_var₁₇, read_var₁₈, read_var₁₉, read_zero, read_one, read_nat}
use Rattle.risch_ring.proofs.Solver.{ring, linear, remainder, remainder-zero}

module _ {A : Type 0} (F : Field A) where
  open (field_operators F) use {𝟘, 𝟙, ◌+◌, ◌-◌, ◌*◌, ◌/◌, -◌}

  -- the term x, read as a quotient of two expressions in the variables xs, with a denominator that is not zero
  pub record Fraction (xs : List A) (x : A) : Type 0 where
    pub numerator : Expression
    pub denominator : Expression
    pub apart : ¬ (value F.ring xs denominator ≡ 𝟘)
    pub is : x * value F.ring xs denominator ≡ value F.ring xs numerator

  -- x = 0 where x·d = n, with d not zero and n = 0
  zero_of_fraction : (x d n : A) → x * d ≡ n → ¬ (d ≡ 𝟘) → n ≡ 𝟘 → x ≡ 𝟘
  zero_of_fraction x d n h p e = mul_left_cancel F d x 𝟘 p (F.mul_comm d x ∙ h ∙ e ∙ sym (Laws.mul-zero F.ring d))

  pub sum_of_fractions : (x y m n d e : A) → x * d ≡ m → y * e ≡ n → (x + y) * (d * e) ≡ m * e + n * d
  sum_of_fractions x y m n d e h k =
      linear F.ring e h (linear F.ring d k (ring F.ring (x ∷ y ∷ m ∷ n ∷ d ∷ e ∷ []) (search reading depth 20 fits 4000) refl))

  pub product_of_fractions : (x y m n d e : A) → x * d ≡ m → y * e ≡ n → x * y * (d * e) ≡ m * n
  product_of_fractions x y m n d e h k = Laws.mul_exchange F.ring x y d e ∙ ap₂ F.mul h k

  pub inverse_of_fraction : (y n d : A) → y * d ≡ n → ¬ (y ≡ 𝟘) → F.inverse y * n ≡ d
  inverse_of_fraction y n d h p =
      ap (λ w. F.inverse y * w) (sym h) ∙ sym (F.mul_assoc (F.inverse y) y d) ∙ ap (λ w. w * d) (F.mul_comm (F.inverse y) y ∙ F.mul-inverse y p)
      ∙ Laws.one-mul F.ring d

  pub apart_of_fraction : (y n d : A) → y * d ≡ n → ¬ (y ≡ 𝟘) → ¬ (d ≡ 𝟘) → ¬ (n ≡ 𝟘)
  apart_of_fraction y n d h p q e = mul-nonzero F y d p q (h ∙ e)

  pub one-apart : ¬ (of_int F.ring (pos 1) ≡ 𝟘)
  one-apart e = F.one-ne-zero (sym (of_int-one F.ring) ∙ e)

  pub power_of_fraction : (x m d : A) (n : ℕ) → x * d ≡ m → power F.ring x n * power F.ring d n ≡ power F.ring m n
  power_of_fraction x m d n h = sym (Laws.power-mul F.ring x d n) ∙ ap (λ w. power F.ring w n) h

  pub whole-is : (x a : A) → a ≡ x → x * of_int F.ring (pos 1) ≡ a
  whole-is x a e = ap (λ w. x * w) (of_int-one F.ring) ∙ F.mul-one x ∙ sym e

-- how each form of term is read as a fraction; of `F.inverse y` and of a quotient by y a proof that y is not zero is wanted, from a hypothesis or the list
module _ {A : Type 0} {F : Field A} {xs : List A} where
  abbrev pub whole : {x : A} → Reading F.ring xs x → Fraction F xs x
  whole {x = x} a = record {
    numerator = a.expression;
    denominator = constant (pos 1);
    apart = one-apart F;
    is = whole-is F x (value F.ring xs a.expression) a.is;
  }

  abbrev pub fraction_add : {x y : A} → Fraction F xs x → Fraction F xs y → Fraction F xs (F.ring.add x y)
  fraction_add {x = x} {y = y} a b = record {
    numerator = plus (times a.numerator b.denominator) (times b.numerator a.denominator);
    denominator = times a.denominator b.denominator;
    apart = mul-nonzero F (value F.ring xs a.denominator) (value F.ring xs b.denominator) a.apart b.apart;
    is = sum_of_fractions F x y (value F.ring xs a.numerator) (value F.ring xs b.numerator) (value F.ring xs a.denominator) (value F.ring xs b.denominator) a.is b.is;
  }

  abbrev pub fraction_mul : {x y : A} → Fraction F xs x → Fraction F xs y → Fraction F xs (F.ring.mul x y)
  fraction_mul {x = x} {y = y} a b = record {
    numerator = times a.numerator b.numerator;
    denominator = times a.denominator b.denominator;
    apart = mul-nonzero F (value F.ring xs a.denominator) (value F.ring xs b.denominator) a.apart b.apart;
    is = product_of_fractions F x y (value F.ring xs a.numerator) (value F.ring xs b.numerator) (value F.ring xs a.denominator) (value F.ring xs b.denominator) a.is b.is;
  }

  abbrev pub fraction_neg : {x : A} → Fraction F xs x → Fraction F xs (F.ring.neg x)
  fraction_neg {x = x} a = record {
    numerator = negative a.numerator;
    denominator = a.denominator;
    apart = a.apart;
    is = Laws.neg-mul F.ring x (value F.ring xs a.denominator) ∙ ap F.ring.neg a.is;
  }

  abbrev pub fraction_inverse : {y : A} → Fraction F xs y → ¬ (y ≡ F.ring.zero) → Fraction F xs (F.inverse y)
  fraction_inverse {y = y} a p = record {
    numerator = a.denominator;
    denominator = a.numerator;
    apart = apart_of_fraction F y (value F.ring xs a.numerator) (value F.ring xs a.denominator) a.is p a.apart;
    is = inverse_of_fraction F y (value F.ring xs a.numerator) (value F.ring xs a.denominator) a.is p;
  }

  abbrev pub fraction_power : {x : A} (n : ℕ) → Fraction F xs x → Fraction F xs (power F.ring x n)
  fraction_power {x = x} n a = record {
    numerator = raised a.numerator n;
    denominator = raised a.denominator n;
    apart = power-nonzero F (value F.ring xs a.denominator) n a.apart;
    is = power_of_fraction F x (value F.ring xs a.numerator) (value F.ring xs a.denominator) n a.is;
  }

  abbrev pub fraction_nat : (n : ℕ) → Fraction F xs (of_nat F.ring n)
  fraction_nat n = whole (read_nat n)

  abbrev pub fraction_zero : Fraction F xs F.ring.zero
  fraction_zero = whole read_zero

  abbrev pub fraction_one : Fraction F xs F.ring.one
  fraction_one = whole read_one

-- the variables, up to twenty
abbrev pub fraction_var₀ : {A : Type 0} {F : Field A} {x₀ : A} {xs : List A} → Fraction F (x₀ ∷ xs) x₀
fraction_var₀ = whole read_var₀

abbrev pub fraction_var₁ : {A : Type 0} {F : Field A} {x₀ x₁ : A} {xs : List A} → Fraction F (x₀ ∷ x₁ ∷ xs) x₁
fraction_var₁ = whole read_var₁

abbrev pub fraction_var₂ : {A : Type 0} {F : Field A} {x₀ x₁ x₂ : A} {xs : List A} → Fraction F (x₀ ∷ x₁ ∷ x₂ ∷ xs) x₂
fraction_var₂ = whole read_var₂

abbrev pub fraction_var₃ : {A : Type 0} {F : Field A} {x₀ x₁ x₂ x₃ : A} {xs : List A} → Fraction F (x₀ ∷ x₁ ∷ x₂ ∷ x₃ ∷ xs) x₃
fraction_var₃ = whole read_var₃

abbrev pub fraction_var₄ : {A : Type 0} {F : Field A} {x₀ x₁ x₂ x₃ x₄ : A} {xs : List A} → Fraction F (x₀ ∷ x₁ ∷ x₂ ∷ x₃ ∷ x₄ ∷ xs) x₄
fraction_var₄ = whole read_var₄

abbrev pub fraction_var₅ : {A : Type 0} {F : Field A} {x₀ x₁ x₂ x₃ x₄ x₅ : A} {xs : List A} → Fraction F (x₀ ∷ x₁ ∷ x₂ ∷ x₃ ∷ x₄ ∷ x₅ ∷ xs) x₅
fraction_var₅ = whole read_var₅

abbrev pub fraction_var₆ : {A : Type 0} {F : Field A} {x₀ x₁ x₂ x₃ x₄ x₅ x₆ : A} {xs : List A} → Fraction F (x₀ ∷ x₁ ∷ x₂ ∷ x₃ ∷ x₄ ∷ x₅ ∷ x₆ ∷ xs) x₆
fraction_var₆ = whole read_var₆

abbrev pub fraction_var₇ : {A : Type 0} {F : Field A} {x₀ x₁ x₂ x₃ x₄ x₅ x₆ x₇ : A} {xs : List A} → Fraction F (x₀ ∷ x₁ ∷ x₂ ∷ x₃ ∷ x₄ ∷ x₅ ∷ x₆ ∷ x₇ ∷ xs) x₇
fraction_var₇ = whole read_var₇

abbrev pub fraction_var₈ : {A : Type 0} {F : Field A} {x₀ x₁ x₂ x₃ x₄ x₅ x₆ x₇ x₈ : A} {xs : List A} → Fraction F (x₀ ∷ x₁ ∷ x₂ ∷ x₃ ∷ x₄ ∷ x₅ ∷ x₆ ∷ x₇ ∷ x₈ ∷ xs) x₈
fraction_var₈ = whole read_var₈

abbrev pub fraction_var₉ : {A : Type 0} {F : Field A} {x₀ x₁ x₂ x₃ x₄ x₅ x₆ x₇ x₈ x₉ : A} {xs : List A} → Fraction F (x₀ ∷ x₁ ∷ x₂ ∷ x₃ ∷ x₄ ∷ x₅ ∷ x₆ ∷ x₇ ∷ x₈ ∷ x₉ ∷ xs) x₉
fraction_var₉ = whole read_var₉

abbrev pub fraction_var₁₀ : {A : Type 0} {F : Field A} {x₀ x₁ x₂ x₃ x₄ x₅ x₆ x₇ x₈ x₉ x₁₀ : A} {xs : List A} → Fraction F (x₀ ∷ x₁ ∷ x₂ ∷ x₃ ∷ x₄ ∷ x₅ ∷ x₆ ∷ x₇ ∷ x₈ ∷ x₉ ∷ x₁₀ ∷ xs) x₁₀
fraction_var₁₀ = whole read_var₁₀

abbrev pub fraction_var₁₁ : {A : Type 0} {F : Field A} {x₀ x₁ x₂ x₃ x₄ x₅ x₆ x₇ x₈ x₉ x₁₀ x₁₁ : A} {xs : List A} → Fraction F (x₀ ∷ x₁ ∷ x₂ ∷ x₃ ∷ x₄ ∷ x₅ ∷ x₆ ∷ x₇ ∷ x₈ ∷ x₉ ∷ x₁₀ ∷ x₁₁ ∷ xs) x₁₁
fraction_var₁₁ = whole read_var₁₁

abbrev pub fraction_var₁₂ : {A : Type 0} {F : Field A} {x₀ x₁ x₂ x₃ x₄ x₅ x₆ x₇ x₈ x₉ x₁₀ x₁₁ x₁₂ : A} {xs : List A} → Fraction F (x₀ ∷ x₁ ∷ x₂ ∷ x₃ ∷ x₄ ∷ x₅ ∷ x₆ ∷ x₇ ∷ x₈ ∷ x₉ ∷ x₁₀ ∷ x₁₁ ∷ x₁₂ ∷ xs) x₁₂
fraction_var₁₂ = whole read_var₁₂

abbrev pub fraction_var₁₃ : {A : Type 0} {F : Field A} {x₀ x₁ x₂ x₃ x₄ x₅ x₆ x₇ x₈ x₉ x₁₀ x₁₁ x₁₂ x₁₃ : A} {xs : List A} → Fraction F (x₀ ∷ x₁ ∷ x₂ ∷ x₃ ∷ x₄ ∷ x₅ ∷ x₆ ∷ x₇ ∷ x₈ ∷ x₉ ∷ x₁₀ ∷ x₁₁ ∷ x₁₂ ∷ x₁₃ ∷ xs) x₁₃
fraction_var₁₃ = whole read_var₁₃

abbrev pub fraction_var₁₄ : {A : Type 0} {F : Field A} {x₀ x₁ x₂ x₃ x₄ x₅ x₆ x₇ x₈ x₉ x₁₀ x₁₁ x₁₂ x₁₃ x₁₄ : A} {xs : List A} → Fraction F (x₀ ∷ x₁ ∷ x₂ ∷ x₃ ∷ x₄ ∷ x₅ ∷ x₆ ∷ x₇ ∷ x₈ ∷ x₉ ∷ x₁₀ ∷ x₁₁ ∷ x₁₂ ∷ x₁₃ ∷ x₁₄ ∷ xs) x₁₄
fraction_var₁₄ = whole read_var₁₄

abbrev pub fraction_var₁₅ : {A : Type 0} {F : Field A} {x₀ x₁ x₂ x₃ x₄ x₅ x₆ x₇ x₈ x₉ x₁₀ x₁₁ x₁₂ x₁₃ x₁₄ x₁₅ : A} {xs : List A} → Fraction F (x₀ ∷ x₁ ∷ x₂ ∷ x₃ ∷ x₄ ∷ x₅ ∷ x₆ ∷ x₇ ∷ x₈ ∷ x₉ ∷ x₁₀ ∷ x₁₁ ∷ x₁₂ ∷ x₁₃ ∷ x₁₄ ∷ x₁₅ ∷ xs) x₁₅
fraction_var₁₅ = whole read_var₁₅

abbrev pub fraction_var₁₆ : {A : Type 0} {F : Field A} {x₀ x₁ x₂ x₃ x₄ x₅ x₆ x₇ x₈ x₉ x₁₀ x₁₁ x₁₂ x₁₃ x₁₄ x₁₅ x₁₆ : A} {xs : List A} → Fraction F (x₀ ∷ x₁ ∷ x₂ ∷ x₃ ∷ x₄ ∷ x₅ ∷ x₆ ∷ x₇ ∷ x₈ ∷ x₉ ∷ x₁₀ ∷ x₁₁ ∷ x₁₂ ∷ x₁₃ ∷ x₁₄ ∷ x₁₅ ∷ x₁₆ ∷ xs) x₁₆
fraction_var₁₆ = whole read_var₁₆

abbrev pub fraction_var₁₇ : {A : Type 0} {F : Field A} {x₀ x₁ x₂ x₃ x₄ x₅ x₆ x₇ x₈ x₉ x₁₀ x₁₁ x₁₂ x₁₃ x₁₄ x₁₅ x₁₆ x₁₇ : A} {xs : List A} → Fraction F (x₀ ∷ x₁ ∷ x₂ ∷ x₃ ∷ x₄ ∷ x₅ ∷ x₆ ∷ x₇ ∷ x₈ ∷ x₉ ∷ x₁₀ ∷ x₁₁ ∷ x₁₂ ∷ x₁₃ ∷ x₁₄ ∷ x₁₅ ∷ x₁₆ ∷ x₁₇ ∷ xs) x₁₇
fraction_var₁₇ = whole read_var₁₇

abbrev pub fraction_var₁₈ : {A : Type 0} {F : Field A} {x₀ x₁ x₂ x₃ x₄ x₅ x₆ x₇ x₈ x₉ x₁₀ x₁₁ x₁₂ x₁₃ x₁₄ x₁₅ x₁₆ x₁₇ x₁₈ : A} {xs : List A} → Fraction F (x₀ ∷ x₁ ∷ x₂ ∷ x₃ ∷ x₄ ∷ x₅ ∷ x₆ ∷ x₇ ∷ x₈ ∷ x₉ ∷ x₁₀ ∷ x₁₁ ∷ x₁₂ ∷ x₁₃ ∷ x₁₄ ∷ x₁₅ ∷ x₁₆ ∷ x₁₇ ∷ x₁₈ ∷ xs) x₁₈
fraction_var₁₈ = whole read_var₁₈

abbrev pub fraction_var₁₉ : {A : Type 0} {F : Field A} {x₀ x₁ x₂ x₃ x₄ x₅ x₆ x₇ x₈ x₉ x₁₀ x₁₁ x₁₂ x₁₃ x₁₄ x₁₅ x₁₆ x₁₇ x₁₈ x₁₉ : A} {xs : List A} → Fraction F (x₀ ∷ x₁ ∷ x₂ ∷ x₃ ∷ x₄ ∷ x₅ ∷ x₆ ∷ x₇ ∷ x₈ ∷ x₉ ∷ x₁₀ ∷ x₁₁ ∷ x₁₂ ∷ x₁₃ ∷ x₁₄ ∷ x₁₅ ∷ x₁₆ ∷ x₁₇ ∷ x₁₈ ∷ x₁₉ ∷ xs) x₁₉
fraction_var₁₉ = whole read_var₁₉

pub ruleset fraction_variables = (fraction_var₀, fraction_var₁, fraction_var₂, fraction_var₃, fraction_var₄, fraction_var₅, fraction_var₆, fraction_var₇, fraction_var₈, fraction_var₉, fraction_var₁₀, fraction_var₁₁, fraction_var₁₂, fraction_var₁₃, fraction_var₁₄, fraction_var₁₅, fraction_var₁₆, fraction_var₁₇, fraction_var₁₈, fraction_var₁₉)

pub ruleset fractions = (fraction_add, fraction_mul, fraction_neg, fraction_inverse, fraction_variables, fraction_power, fraction_zero, fraction_one, fraction_nat, mul-nonzero, power-nonzero)

-- without the powers and integers: a power with a variable exponent, or an integer that is a variable, is then an atom
pub ruleset fractions_symbolic = (fraction_add, fraction_mul, fraction_neg, fraction_inverse, fraction_variables, fraction_zero, fraction_one, mul-nonzero)

-- x ≡ y, where the difference, read as a fraction in the variables xs, has a numerator with no terms. `field F xs (search fractions depth 40 fits 9000) refl`
-- finds in the context that each denominator is not zero; what it does not find there goes into the list, `search (fractions, known)`
pub field : {A : Type 0} (F : Field A) (xs : List A) {x y : A} → (difference : Fraction F xs (sub F.ring x y)) → remainder difference.numerator ≡ [] → x ≡ y
field F xs {x} {y} difference e =
    Laws.eq_of_sub F.ring x y
    (zero_of_fraction F (sub F.ring x y) (value F.ring xs difference.denominator) (value F.ring xs difference.numerator) difference.is difference.apart
    (remainder-zero F.ring xs difference.numerator e))
