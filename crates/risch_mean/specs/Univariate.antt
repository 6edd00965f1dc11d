-- Polynomials in one variable over a ring, as lists of their coefficients from exponent 0. Zeros at the end do not matter.
use Rattle.std.specs.Prelude.{ℕ, zero, suc, List, [], ◌∷◌, map}
use Rattle.risch_ring.specs.CommRing.{CommRing, of_nat}
use Rattle.risch_ring.specs.Operators.{operators}

module _ {A : Type 0} (R : CommRing A) where
  open (operators R) use {𝟘, 𝟙, ◌+◌, ◌*◌}

  -- the value at t: c_0 + c_1·t + c_2·t² + ..
  abbrev pub value_at : A → List A → A
  value_at t [] = 𝟘
  value_at t (c ∷ cs) = c + t * value_at t cs

  -- the coefficient at an exponent, 0 past the end
  abbrev pub coefficient_at : ℕ → List A → A
  coefficient_at i [] = 𝟘
  coefficient_at zero (c ∷ cs) = c
  coefficient_at (suc i) (c ∷ cs) = coefficient_at i cs

  -- the sum
  abbrev pub add_lists : List A → List A → List A
  add_lists [] ds = ds
  add_lists (c ∷ cs) [] = c ∷ cs
  add_lists (c ∷ cs) (d ∷ ds) = (c + d) ∷ add_lists cs ds

  -- a times the polynomial
  abbrev pub scale : A → List A → List A
  scale a [] = []
  scale a (c ∷ cs) = (a * c) ∷ scale a cs

  -- the product
  abbrev pub mul_lists : List A → List A → List A
  mul_lists [] ds = []
  mul_lists (c ∷ cs) ds = add_lists (scale c ds) (𝟘 ∷ mul_lists cs ds)

  -- n·c_0, (n + 1)·c_1, ..
  abbrev pub numbered : ℕ → List A → List A
  numbered n [] = []
  numbered n (c ∷ cs) = (of_nat R n * c) ∷ numbered (suc n) cs

  -- the derivative by the variable: c_1 + 2·c_2·t + 3·c_3·t² + ..
  abbrev pub formal_derivative : List A → List A
  formal_derivative [] = []
  formal_derivative (c ∷ cs) = numbered 1 cs

  -- the derivative where D is a derivation of the coefficients and the variable has the derivative dt, a polynomial: Dc_0 + Dc_1·t + .. + dt·(c_1 + 2·c_2·t + ..)
  abbrev pub derivative_of_list : (A → A) → List A → List A → List A
  derivative_of_list D dt cs = add_lists (map D cs) (mul_lists dt (formal_derivative cs))
