-- Vectors of an equation: its solutions as tuples (c_1, .., c_m; y), and their combinations, independence and span over the rational numbers.
use Rattle.std.specs.Prelude.{◌≡◌, ℕ, zero as nat_zero, suc, List, [], ◌∷◌, length}
use Rattle.risch_mean.specs.Element.{Element, zero, ◌+ₑ◌, ◌*ₑ◌}
use Rattle.risch_mean.specs.ElementField.{elements}
use Rattle.risch_mean.specs.Tower.{Tower}
use Rattle.risch_mean.specs.Univariate.{add_lists, scale}
use Rattle.risch_mean.specs.Constants.{AllRational}
use Rattle.risch_mean.specs.Equation.{Equation, IsSolution}

-- (c_1, .., c_m; y)
pub record Vector : Type 0 where
  pub factors : List Element
  pub element : Element

-- m factors 0
abbrev pub zeros : ℕ → List Element
zeros nat_zero = []
zeros (suc m) = zero ∷ zeros m

-- (0, .., 0; 0) with m factors
abbrev pub zero_vector : ℕ → Vector
zero_vector m = record { factors = zeros m; element = zero }

-- k·v + w, factors and element together
abbrev pub plus_multiple : Element → Vector → Vector → Vector
plus_multiple k v w = record { factors = add_lists elements.ring (scale elements.ring k v.factors) w.factors; element = k *ₑ v.element +ₑ w.element }

-- k_1·v_1 + .. + k_r·v_r, of vectors with m factors
abbrev pub combination : ℕ → List Element → List Vector → Vector
combination m [] vs = zero_vector m
combination m (k ∷ ks) [] = zero_vector m
combination m (k ∷ ks) (v ∷ vs) = plus_multiple k v (combination m ks vs)

-- each is 0
abbrev pub AllZero : List Element → Type 0
AllZero [] = Unit {0}
AllZero (c ∷ cs) = (c ≡ zero) × AllZero cs

-- linearly independent over the rational numbers: k_1·v_1 + .. + k_r·v_r = 0 with rational k_j only if each k_j is 0
abbrev pub AreIndependent : ℕ → List Vector → Type 0
AreIndependent m vs = (ks : List Element) → length ks ≡ length vs → AllRational ks → combination m ks vs ≡ zero_vector m → AllZero ks

-- the vectors are solutions
abbrev pub AllSolve : Tower → Equation → List Vector → Type 0
AllSolve tower e [] = Unit {0}
AllSolve tower e (v ∷ vs) = IsSolution tower e v.factors v.element × AllSolve tower e vs

-- v = k_1·v_1 + .. + k_r·v_r with rational k_j
pub record IsCombination (m : ℕ) (vs : List Vector) (v : Vector) : Type 0 where
  pub coefficients : List Element
  pub as_many : length coefficients ≡ length vs
  pub rational : AllRational coefficients
  pub is : v ≡ combination m coefficients vs

-- each solution is a combination of the vectors
abbrev pub Span : Tower → Equation → List Vector → Type 0
Span tower e vs = (v : Vector) → IsSolution tower e v.factors v.element → IsCombination (length e.columns) vs v
