-- Expressions of a commutative ring as data, their values, and the reading of a term of the ring as an expression.
use Rattle.std.specs.Prelude.{◌≡◌, refl, ℕ, zero, suc, ℤ, pos, negsuc, List, [], ◌∷◌, ◌+ℤ◌, neg_ℤ}
use Rattle.std.proofs.Common.{ap, ap₂, ◌∙◌, one-add}
use Rattle.risch_ring.specs.CommRing.{CommRing, of_nat, of_int, power}
use Rattle.risch_ring.specs.Integers.{ints}
use Rattle.risch_ring.proofs.Laws.{of_int-one}

pub data Expression : Type 0 where
  var : ℕ → Expression
  constant : ℤ → Expression
  plus : Expression → Expression → Expression
  times : Expression → Expression → Expression
  negative : Expression → Expression
  raised : Expression → ℕ → Expression

-- the element at a place of a list, with a default
abbrev pub at : {A : Type 0} → A → List A → ℕ → A
at d [] i = d
at d (x ∷ xs) zero = x
at d (x ∷ xs) (suc i) = at d xs i

-- the value of an expression; xs are the values of its variables, and one is that of all further ones
abbrev pub value : {A : Type 0} → CommRing A → List A → Expression → A
value R xs (var i) = at R.one xs i
value R xs (constant c) = of_int R c
value R xs (plus a b) = R.add (value R xs a) (value R xs b)
value R xs (times a b) = R.mul (value R xs a) (value R xs b)
value R xs (negative a) = R.neg (value R xs a)
value R xs (raised a n) = power R (value R xs a) n

-- the term x, read as an expression in the variables xs
pub record Reading {A : Type 0} (R : CommRing A) (xs : List A) (x : A) : Type 0 where
  pub expression : Expression
  pub is : value R xs expression ≡ x

pub zero-is : {A : Type 0} (R : CommRing A) → of_int R (pos 0) ≡ R.zero
unfolding of_int of_nat
zero-is R = refl

pub nat-is : {A : Type 0} (R : CommRing A) (n : ℕ) → of_int R (pos n) ≡ of_nat R n
unfolding of_int
nat-is R n = refl

-- How each form of term is read. The tactic `search` finds a reading by the set `reading` of these rules. It deepens its search step by step, so
-- no two rules may fit one term, or its cost would double at each step.
module _ {A : Type 0} {R : CommRing A} {xs : List A} where
  abbrev pub read_add : {x y : A} → Reading R xs x → Reading R xs y → Reading R xs (R.add x y)
  read_add a b = record { expression = plus a.expression b.expression; is = ap₂ R.add a.is b.is }

  abbrev pub read_mul : {x y : A} → Reading R xs x → Reading R xs y → Reading R xs (R.mul x y)
  read_mul a b = record { expression = times a.expression b.expression; is = ap₂ R.mul a.is b.is }

  abbrev pub read_neg : {x : A} → Reading R xs x → Reading R xs (R.neg x)
  read_neg a = record { expression = negative a.expression; is = ap R.neg a.is }

  abbrev pub read_power : {x : A} (n : ℕ) → Reading R xs x → Reading R xs (power R x n)
  read_power n a = record { expression = raised a.expression n; is = ap (λ w. power R w n) a.is }

  abbrev pub read_zero : Reading R xs R.zero
  read_zero = record { expression = constant (pos 0); is = zero-is R }

  abbrev pub read_one : Reading R xs R.one
  read_one = record { expression = constant (pos 1); is = of_int-one R }

  abbrev pub read_nat : (n : ℕ) → Reading R xs (of_nat R n)
  read_nat n = record { expression = constant (pos n); is = nat-is R n }

  abbrev pub read_int : (c : ℤ) → Reading R xs (of_int R c)
  read_int c = record { expression = constant c; is = refl }

-- the variables, up to twenty
abbrev pub read_var₀ : {A : Type 0} {R : CommRing A} {x₀ : A} {xs : List A} → Reading R (x₀ ∷ xs) x₀
read_var₀ = record { expression = var 0; is = refl }

abbrev pub read_var₁ : {A : Type 0} {R : CommRing A} {x₀ x₁ : A} {xs : List A} → Reading R (x₀ ∷ x₁ ∷ xs) x₁
read_var₁ = record { expression = var 1; is = refl }

abbrev pub read_var₂ : {A : Type 0} {R : CommRing A} {x₀ x₁ x₂ : A} {xs : List A} → Reading R (x₀ ∷ x₁ ∷ x₂ ∷ xs) x₂
read_var₂ = record { expression = var 2; is = refl }

abbrev pub read_var₃ : {A : Type 0} {R : CommRing A} {x₀ x₁ x₂ x₃ : A} {xs : List A} → Reading R (x₀ ∷ x₁ ∷ x₂ ∷ x₃ ∷ xs) x₃
read_var₃ = record { expression = var 3; is = refl }

abbrev pub read_var₄ : {A : Type 0} {R : CommRing A} {x₀ x₁ x₂ x₃ x₄ : A} {xs : List A} → Reading R (x₀ ∷ x₁ ∷ x₂ ∷ x₃ ∷ x₄ ∷ xs) x₄
read_var₄ = record { expression = var 4; is = refl }

abbrev pub read_var₅ : {A : Type 0} {R : CommRing A} {x₀ x₁ x₂ x₃ x₄ x₅ : A} {xs : List A} → Reading R (x₀ ∷ x₁ ∷ x₂ ∷ x₃ ∷ x₄ ∷ x₅ ∷ xs) x₅
read_var₅ = record { expression = var 5; is = refl }

abbrev pub read_var₆ : {A : Type 0} {R : CommRing A} {x₀ x₁ x₂ x₃ x₄ x₅ x₆ : A} {xs : List A} → Reading R (x₀ ∷ x₁ ∷ x₂ ∷ x₃ ∷ x₄ ∷ x₅ ∷ x₆ ∷ xs) x₆
read_var₆ = record { expression = var 6; is = refl }

abbrev pub read_var₇ : {A : Type 0} {R : CommRing A} {x₀ x₁ x₂ x₃ x₄ x₅ x₆ x₇ : A} {xs : List A} → Reading R (x₀ ∷ x₁ ∷ x₂ ∷ x₃ ∷ x₄ ∷ x₅ ∷ x₆ ∷ x₇ ∷ xs) x₇
read_var₇ = record { expression = var 7; is = refl }

abbrev pub read_var₈ : {A : Type 0} {R : CommRing A} {x₀ x₁ x₂ x₃ x₄ x₅ x₆ x₇ x₈ : A} {xs : List A} → Reading R (x₀ ∷ x₁ ∷ x₂ ∷ x₃ ∷ x₄ ∷ x₅ ∷ x₆ ∷ x₇ ∷ x₈ ∷ xs) x₈
read_var₈ = record { expression = var 8; is = refl }

abbrev pub read_var₉ : {A : Type 0} {R : CommRing A} {x₀ x₁ x₂ x₃ x₄ x₅ x₆ x₇ x₈ x₉ : A} {xs : List A} → Reading R (x₀ ∷ x₁ ∷ x₂ ∷ x₃ ∷ x₄ ∷ x₅ ∷ x₆ ∷ x₇ ∷ x₈ ∷ x₉ ∷ xs) x₉
read_var₉ = record { expression = var 9; is = refl }

abbrev pub read_var₁₀ : {A : Type 0} {R : CommRing A} {x₀ x₁ x₂ x₃ x₄ x₅ x₆ x₇ x₈ x₉ x₁₀ : A} {xs : List A} → Reading R (x₀ ∷ x₁ ∷ x₂ ∷ x₃ ∷ x₄ ∷ x₅ ∷ x₆ ∷ x₇ ∷ x₈ ∷ x₉ ∷ x₁₀ ∷ xs) x₁₀
read_var₁₀ = record { expression = var 10; is = refl }

abbrev pub read_var₁₁ : {A : Type 0} {R : CommRing A} {x₀ x₁ x₂ x₃ x₄ x₅ x₆ x₇ x₈ x₉ x₁₀ x₁₁ : A} {xs : List A} → Reading R (x₀ ∷ x₁ ∷ x₂ ∷ x₃ ∷ x₄ ∷ x₅ ∷ x₆ ∷ x₇ ∷ x₈ ∷ x₉ ∷ x₁₀ ∷ x₁₁ ∷ xs) x₁₁
read_var₁₁ = record { expression = var 11; is = refl }

abbrev pub read_var₁₂ : {A : Type 0} {R : CommRing A} {x₀ x₁ x₂ x₃ x₄ x₅ x₆ x₇ x₈ x₉ x₁₀ x₁₁ x₁₂ : A} {xs : List A} → Reading R (x₀ ∷ x₁ ∷ x₂ ∷ x₃ ∷ x₄ ∷ x₅ ∷ x₆ ∷ x₇ ∷ x₈ ∷ x₉ ∷ x₁₀ ∷ x₁₁ ∷ x₁₂ ∷ xs) x₁₂
read_var₁₂ = record { expression = var 12; is = refl }

abbrev pub read_var₁₃ : {A : Type 0} {R : CommRing A} {x₀ x₁ x₂ x₃ x₄ x₅ x₆ x₇ x₈ x₉ x₁₀ x₁₁ x₁₂ x₁₃ : A} {xs : List A} → Reading R (x₀ ∷ x₁ ∷ x₂ ∷ x₃ ∷ x₄ ∷ x₅ ∷ x₆ ∷ x₇ ∷ x₈ ∷ x₉ ∷ x₁₀ ∷ x₁₁ ∷ x₁₂ ∷ x₁₃ ∷ xs) x₁₃
read_var₁₃ = record { expression = var 13; is = refl }

abbrev pub read_var₁₄ : {A : Type 0} {R : CommRing A} {x₀ x₁ x₂ x₃ x₄ x₅ x₆ x₇ x₈ x₉ x₁₀ x₁₁ x₁₂ x₁₃ x₁₄ : A} {xs : List A} → Reading R (x₀ ∷ x₁ ∷ x₂ ∷ x₃ ∷ x₄ ∷ x₅ ∷ x₆ ∷ x₇ ∷ x₈ ∷ x₉ ∷ x₁₀ ∷ x₁₁ ∷ x₁₂ ∷ x₁₃ ∷ x₁₄ ∷ xs) x₁₄
read_var₁₄ = record { expression = var 14; is = refl }

abbrev pub read_var₁₅ : {A : Type 0} {R : CommRing A} {x₀ x₁ x₂ x₃ x₄ x₅ x₆ x₇ x₈ x₉ x₁₀ x₁₁ x₁₂ x₁₃ x₁₄ x₁₅ : A} {xs : List A} → Reading R (x₀ ∷ x₁ ∷ x₂ ∷ x₃ ∷ x₄ ∷ x₅ ∷ x₆ ∷ x₇ ∷ x₈ ∷ x₉ ∷ x₁₀ ∷ x₁₁ ∷ x₁₂ ∷ x₁₃ ∷ x₁₄ ∷ x₁₅ ∷ xs) x₁₅
read_var₁₅ = record { expression = var 15; is = refl }

abbrev pub read_var₁₆ : {A : Type 0} {R : CommRing A} {x₀ x₁ x₂ x₃ x₄ x₅ x₆ x₇ x₈ x₉ x₁₀ x₁₁ x₁₂ x₁₃ x₁₄ x₁₅ x₁₆ : A} {xs : List A} → Reading R (x₀ ∷ x₁ ∷ x₂ ∷ x₃ ∷ x₄ ∷ x₅ ∷ x₆ ∷ x₇ ∷ x₈ ∷ x₉ ∷ x₁₀ ∷ x₁₁ ∷ x₁₂ ∷ x₁₃ ∷ x₁₄ ∷ x₁₅ ∷ x₁₆ ∷ xs) x₁₆
read_var₁₆ = record { expression = var 16; is = refl }

abbrev pub read_var₁₇ : {A : Type 0} {R : CommRing A} {x₀ x₁ x₂ x₃ x₄ x₅ x₆ x₇ x₈ x₉ x₁₀ x₁₁ x₁₂ x₁₃ x₁₄ x₁₅ x₁₆ x₁₇ : A} {xs : List A} → Reading R (x₀ ∷ x₁ ∷ x₂ ∷ x₃ ∷ x₄ ∷ x₅ ∷ x₆ ∷ x₇ ∷ x₈ ∷ x₉ ∷ x₁₀ ∷ x₁₁ ∷ x₁₂ ∷ x₁₃ ∷ x₁₄ ∷ x₁₅ ∷ x₁₆ ∷ x₁₇ ∷ xs) x₁₇
read_var₁₇ = record { expression = var 17; is = refl }

abbrev pub read_var₁₈ : {A : Type 0} {R : CommRing A} {x₀ x₁ x₂ x₃ x₄ x₅ x₆ x₇ x₈ x₉ x₁₀ x₁₁ x₁₂ x₁₃ x₁₄ x₁₅ x₁₆ x₁₇ x₁₈ : A} {xs : List A} → Reading R (x₀ ∷ x₁ ∷ x₂ ∷ x₃ ∷ x₄ ∷ x₅ ∷ x₆ ∷ x₇ ∷ x₈ ∷ x₉ ∷ x₁₀ ∷ x₁₁ ∷ x₁₂ ∷ x₁₃ ∷ x₁₄ ∷ x₁₅ ∷ x₁₆ ∷ x₁₇ ∷ x₁₈ ∷ xs) x₁₈
read_var₁₈ = record { expression = var 18; is = refl }

abbrev pub read_var₁₉ : {A : Type 0} {R : CommRing A} {x₀ x₁ x₂ x₃ x₄ x₅ x₆ x₇ x₈ x₉ x₁₀ x₁₁ x₁₂ x₁₃ x₁₄ x₁₅ x₁₆ x₁₇ x₁₈ x₁₉ : A} {xs : List A} → Reading R (x₀ ∷ x₁ ∷ x₂ ∷ x₃ ∷ x₄ ∷ x₅ ∷ x₆ ∷ x₇ ∷ x₈ ∷ x₉ ∷ x₁₀ ∷ x₁₁ ∷ x₁₂ ∷ x₁₃ ∷ x₁₄ ∷ x₁₅ ∷ x₁₆ ∷ x₁₇ ∷ x₁₈ ∷ x₁₉ ∷ xs) x₁₉
read_var₁₉ = record { expression = var 19; is = refl }

pub ruleset reading_variables = (read_var₀, read_var₁, read_var₂, read_var₃, read_var₄, read_var₅, read_var₆, read_var₇, read_var₈, read_var₉, read_var₁₀, read_var₁₁, read_var₁₂, read_var₁₃, read_var₁₄, read_var₁₅, read_var₁₆, read_var₁₇, read_var₁₈, read_var₁₉)

pub ruleset reading = (read_add, read_mul, read_neg, reading_variables, read_power, read_zero, read_one, read_nat, read_int)

-- without the powers and integers: a power with a variable exponent, or an integer that is a variable, is then an atom
pub ruleset reading_symbolic = (read_add, read_mul, read_neg, reading_variables, read_zero, read_one)

-- ---- numerals of ℤ
pub ints_of_nat : (n : ℕ) → of_nat ints n ≡ pos n
unfolding of_nat
ints_of_nat zero = refl
ints_of_nat (suc n) = ap (λ w. pos 1 +ℤ w) (ints_of_nat n) ∙ ap pos (one-add n)

pub pos-is : (n : ℕ) → of_int ints (pos n) ≡ pos n
pos-is n = nat-is ints n ∙ ints_of_nat n

pub negsuc-is : (n : ℕ) → of_int ints (negsuc n) ≡ negsuc n
unfolding of_int
negsuc-is n = ap neg_ℤ (ints_of_nat (suc n))

abbrev pub read_pos : {xs : List ℤ} (n : ℕ) → Reading ints xs (pos n)
read_pos n = record { expression = constant (pos n); is = pos-is n }

abbrev pub read_negsuc : {xs : List ℤ} (n : ℕ) → Reading ints xs (negsuc n)
read_negsuc n = record { expression = constant (negsuc n); is = negsuc-is n }

-- for terms of ℤ, with its numerals
pub ruleset reading_ints = (read_add, read_mul, read_neg, reading_variables, read_pos, read_negsuc, read_power, read_nat, read_int)
