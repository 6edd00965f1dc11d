-- The residues a(τ)/D(d)(τ) of a/d at the roots τ of d, and the polynomial of the residues.
use Rattle.std.specs.Prelude.{◌≡◌, List, map}
use Rattle.risch_ring.specs.CommRing.{Field, Derivation, RingMap, quotient}
use Rattle.risch_univariate.specs.Polynomial.{Polynomial}
use Rattle.risch_univariate.proofs.Derivation.{derive_polynomial}
use Rattle.risch_univariate.proofs.Evaluation.{value}
use Rattle.risch_extension.specs.PolynomialMap.{map_polynomial}
use Rattle.risch_extension.specs.LinearFactors.{product_of_linear}
use Rattle.risch_extension.specs.Extension.{Extension}

-- a(τ)/e(τ) in an extension of K by f
unfoldable pub residue_at : {A B : Type 0} (F : Field A) (E : Field B) (f : RingMap F.ring E.ring) (a e : Polynomial F) → B → B
residue_at F E f a e τ = quotient E (value F E.ring f τ a) (value F E.ring f τ e)

-- C = Π (z - α_j) with the residues α_j = a(τ_j)/D(d)(τ_j), wherever d = Π (t - τ_j), for the derivation D with Dt = w
abbrev pub IsResiduePolynomial : {A : Type 0} (F : Field A) (D : Derivation F.ring) (w d a C : Polynomial F) → Type 1
IsResiduePolynomial F D w d a C = (X : Extension F D) (τs : List X.carrier) → map_polynomial F X.field X.map d ≡ product_of_linear X.field τs
    → map_polynomial F X.field X.map C ≡ product_of_linear X.field (map (residue_at F X.field X.map a (derive_polynomial F D w d)) τs)
