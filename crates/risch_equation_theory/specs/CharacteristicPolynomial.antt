-- The characteristic polynomial of the multiplication by ρ in K[t]/(d), by the roots of d.
use Rattle.std.specs.Prelude.{◌≡◌, map}
use Rattle.risch_ring.specs.CommRing.{Field, Derivation}
use Rattle.risch_univariate.specs.Polynomial.{Polynomial}
use Rattle.risch_extension.specs.PolynomialMap.{map_polynomial}
use Rattle.risch_extension.specs.LinearFactors.{value_at, product_of_linear}
use Rattle.risch_extension.specs.Extension.{Splitting}

-- C = Π (z - ρ(x_i)) over the roots x_i of d, wherever d splits
abbrev pub IsCharacteristicPolynomial : {A : Type 0} (F : Field A) (D : Derivation F.ring) (C ρ d : Polynomial F) → Type 1
IsCharacteristicPolynomial F D C ρ d = (S : Splitting F D d)
    → map_polynomial F S.extension.field S.extension.map C
    ≡ product_of_linear S.extension.field (map (λ x. value_at S.extension.field x (map_polynomial F S.extension.field S.extension.map ρ)) S.roots)
