-- What the rules of the modular inverse and of b·r + a·z = c mean in K[t].
use Rattle.std.specs.Prelude.{◌≡◌, ◌<◌, List, Option, None, Some}
use Rattle.risch_ring.specs.CommRing.{Field, sub}
use Rattle.risch_univariate.specs.Degree.{size}
use Rattle.risch_univariate.specs.Division.{Divides, IsCoprime}
use Rattle.risch_univariate.specs.PolynomialRing.{polynomials}
use Rattle.risch_field.specs.Ops.{Ops}
use Rattle.risch_element_theory.specs.PolynomialMeaning.{polynomial_of, IsKept}

module _ {E A : Type 0} (o : Ops E) (F : Field A) (valid : E → Type 0) (meaning : E → A) where
  -- i is kept, ⟦a⟧ divides ⟦i⟧·⟦b⟧ - 1, and deg ⟦i⟧ < deg ⟦a⟧
  pub record KeepsInverse (b a i : List E) : Type 0 where
    pub kept : IsKept o valid i
    pub divides : Divides F (polynomial_of F meaning a) (sub (polynomials F) ((polynomials F).mul (polynomial_of F meaning i) (polynomial_of F meaning b)) (polynomials F).one)
    pub smaller : size F (polynomial_of F meaning i) < size F (polynomial_of F meaning a)

  -- r and z are kept, ⟦b⟧·⟦r⟧ + ⟦a⟧·⟦z⟧ = ⟦c⟧, and deg ⟦r⟧ < deg ⟦a⟧
  pub record KeepsSolution (a b c r z : List E) : Type 0 where
    pub left_kept : IsKept o valid r
    pub right_kept : IsKept o valid z
    pub equation : (polynomials F).add ((polynomials F).mul (polynomial_of F meaning b) (polynomial_of F meaning r)) ((polynomials F).mul (polynomial_of F meaning a) (polynomial_of F meaning z)) ≡ polynomial_of F meaning c
    pub smaller : size F (polynomial_of F meaning r) < size F (polynomial_of F meaning a)

  -- the inverse of b modulo a, or none where a and b are not coprime
  abbrev pub InverseMeans : List E → List E → Option (List E) → Type 0
  InverseMeans b a None = ¬ IsCoprime F (polynomial_of F meaning a) (polynomial_of F meaning b)
  InverseMeans b a (Some i) = KeepsInverse b a i

  -- the solution, or none where a and b are not coprime
  abbrev pub SolutionMeans : List E → List E → List E → Option (List E × List E) → Type 0
  SolutionMeans a b c None = ¬ IsCoprime F (polynomial_of F meaning a) (polynomial_of F meaning b)
  SolutionMeans a b c (Some s) = KeepsSolution a b c s.0 s.1
