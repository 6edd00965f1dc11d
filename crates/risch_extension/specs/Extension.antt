-- Extensions of a differential field, and those in which a polynomial is a product of linear factors.
use Rattle.std.specs.Prelude.{◌≡◌, List}
use Rattle.risch_ring.specs.CommRing.{Field, RingMap, Derivation}
use Rattle.risch_univariate.specs.Polynomial.{Polynomial, constant}
use Rattle.risch_univariate.specs.PolynomialRing.{polynomials}
use Rattle.risch_extension.specs.PolynomialMap.{map_polynomial}
use Rattle.risch_extension.specs.LinearFactors.{product_of_linear}

-- a field above K with a derivation that extends that of K
pub record Extension {A : Type 0} (F : Field A) (D : Derivation F.ring) : Type 1 where
  pub carrier : Type 0
  pub field : Field carrier
  pub derivation : Derivation field.ring
  pub map : RingMap F.ring field.ring
  pub map-derive : (a : A) → derivation.derive (map.apply a) ≡ map.apply (D.derive a)

-- an extension in which d = c·Π (t - x)
pub record Splitting {A : Type 0} (F : Field A) (D : Derivation F.ring) (d : Polynomial F) : Type 1 where
  pub extension : Extension F D
  pub unit : extension.carrier
  pub roots : List extension.carrier
  pub equation : map_polynomial F extension.field extension.map d
      ≡ (polynomials extension.field).mul (constant extension.field unit) (product_of_linear extension.field roots)
