-- Polynomials in one variable t over a field K: the list of the coefficients, the constant one first, with no zero at the end. So equal polynomials are equal lists.
use Rattle.std.specs.Prelude.{◌≡◌, ℕ, List, [], ◌∷◌, get_or}
use Rattle.risch_ring.specs.CommRing.{Field}
use Rattle.risch_ring.specs.Operators.{operators}

-- the last coefficient is not zero
abbrev pub IsTrimmed : {A : Type 0} → Field A → List A → Type 0
IsTrimmed F [] = Unit
IsTrimmed F (a ∷ []) = ¬ (a ≡ F.zero)
IsTrimmed F (a ∷ b ∷ p) = IsTrimmed F (b ∷ p)

-- K[t]
pub record Polynomial {A : Type 0} (F : Field A) : Type 0 where
  pub coefficients : List A
  pub is_trimmed : IsTrimmed F coefficients

module _ {A : Type 0} (F : Field A) where
  open (operators F.ring) use {𝟘, 𝟙, ◌+◌, ◌*◌, -◌}

  -- the coefficient of t ^ i
  unfoldable pub coefficient : Polynomial F → ℕ → A
  coefficient p i = get_or p.coefficients i 𝟘

  -- a + t·p on lists: a ∷ p, or [] where a = 0 and p = []
  abbrev pub with_head : A → List A → List A
  with_head a [] = elim (F.is_zero a) [ yes e ↦ [] | no n ↦ a ∷ [] ]
  with_head a (b ∷ p) = a ∷ b ∷ p

  -- the list without the zeros at its end
  abbrev pub trim : List A → List A
  trim [] = []
  trim (a ∷ p) = with_head a (trim p)

  -- a + t·p has no zero at the end, if p has none
  pub with_head-is_trimmed : (a : A) (p : List A) → IsTrimmed F p → IsTrimmed F (with_head a p)
  with_head-is_trimmed a [] h = go (F.is_zero a)
    where
      go : (d : Dec (a ≡ 𝟘)) → IsTrimmed F (elim d as (λ d. List A) [ yes e ↦ [] | no n ↦ a ∷ [] ])
      go (yes e) = tt
      go (no n) = n
  with_head-is_trimmed a (b ∷ p) h = h

  -- the list without the zeros at its end has no zero at the end
  pub trim-is_trimmed : (p : List A) → IsTrimmed F (trim p)
  trim-is_trimmed [] = tt
  trim-is_trimmed (a ∷ p) = with_head-is_trimmed a (trim p) (trim-is_trimmed p)

  -- the polynomial with these coefficients
  unfoldable pub of_list : List A → Polynomial F
  of_list p = record { coefficients = trim p; is_trimmed = trim-is_trimmed p }

  -- p + q on lists
  abbrev pub add_lists : List A → List A → List A
  add_lists [] q = q
  add_lists (a ∷ p) [] = a ∷ p
  add_lists (a ∷ p) (b ∷ q) = (a + b) ∷ add_lists p q

  -- c·p on lists
  abbrev pub scale_list : A → List A → List A
  scale_list c [] = []
  scale_list c (a ∷ p) = c * a ∷ scale_list c p

  -- -p on lists
  abbrev pub neg_list : List A → List A
  neg_list [] = []
  neg_list (a ∷ p) = - a ∷ neg_list p

  -- (a + t·p)·q = a·q + t·(p·q) on lists
  abbrev pub mul_lists : List A → List A → List A
  mul_lists [] q = []
  mul_lists (a ∷ p) q = add_lists (scale_list a q) (𝟘 ∷ mul_lists p q)

  -- p + q
  unfoldable pub add_polynomials : Polynomial F → Polynomial F → Polynomial F
  add_polynomials p q = of_list (add_lists p.coefficients q.coefficients)

  -- -p
  unfoldable pub neg_polynomial : Polynomial F → Polynomial F
  neg_polynomial p = of_list (neg_list p.coefficients)

  -- p·q
  unfoldable pub mul_polynomials : Polynomial F → Polynomial F → Polynomial F
  mul_polynomials p q = of_list (mul_lists p.coefficients q.coefficients)

  -- 0
  unfoldable pub zero_polynomial : Polynomial F
  zero_polynomial = of_list []

  -- 1
  unfoldable pub one_polynomial : Polynomial F
  one_polynomial = of_list (𝟙 ∷ [])

  -- the constant a
  unfoldable pub constant : A → Polynomial F
  constant a = of_list (a ∷ [])

  -- t
  unfoldable pub variable : Polynomial F
  variable = of_list (𝟘 ∷ 𝟙 ∷ [])
