-- The polynomial of the residues from traces: with ρ·D(d) ≡ a modulo d and p_j = trace(ρ^j) over K[t]/(d), Newton's rule for e_0, e_1, .. gives
-- C = Σ (-1)^i·e_i·z^(m-i), and C = Π (z - residue) wherever d splits. The sum of the residues is the trace of ρ.
use Rattle.std.specs.Prelude.{◌≡◌, ℕ, suc, List, length, map}
use Rattle.std.proofs.Common.{sym, ap, ◌∙◌, arith}
use Rattle.risch_ring.specs.CommRing.{Field, Derivation, sub, power, HasCharacteristicZero}
use Rattle.risch_ring.specs.Sums.{sum_over}
use Rattle.risch_ring.proofs.Laws as Laws
use Rattle.risch_univariate.specs.Polynomial.{Polynomial}
use Rattle.risch_univariate.specs.Degree.{size}
use Rattle.risch_univariate.specs.Division.{Divides, IsCoprime}
use Rattle.risch_ring.proofs.FieldLaws as FieldLaws
use Rattle.risch_univariate.proofs.Evaluation as Evaluation
use Rattle.risch_univariate.proofs.Derivation as Derivation
use Rattle.risch_residue_theory.proofs.LogarithmsDerivative.{residue, distinct, at-root, slope-nonzero, residue-equation}
use Rattle.risch_univariate.specs.PolynomialRing.{polynomials}
use Rattle.risch_extension.specs.PolynomialMap.{map_polynomial}
use Rattle.risch_extension.specs.LinearFactors.{product_of_linear}
use Rattle.risch_extension.proofs.PolynomialMaps.{size-map_polynomial}
use Rattle.risch_extension.specs.Extension.{Extension}
use Rattle.risch_ring.specs.Lists.{Member}
use Rattle.risch_extension.proofs.LinearFactors.{size-product_of_linear}
use Rattle.risch_ring.proofs.Sums as RingSums
use Rattle.risch_extension.specs.SymmetricFunctions.{power_sum}
use Rattle.risch_ring.proofs.Lists.{length-map, map-ext_members}
use Rattle.risch_extension.specs.NewtonPolynomial.{power_trace, IsNewtonPolynomial}
use Rattle.risch_extension.proofs.NewtonPolynomial.{power_trace-sum, newton_polynomial-splits}

module _ {A : Type 0} (F : Field A) (D : Derivation F.ring) (w : Polynomial F) (char : HasCharacteristicZero F.ring) (d a : Polynomial F) (nonzero : ¬ (d ≡ (polynomials F).zero))
    (coprime : IsCoprime F d (Derivation.derive_polynomial F D w d)) (ρ : Polynomial F)
    (ρ-equation : Divides F d (sub (polynomials F) ((polynomials F).mul ρ (Derivation.derive_polynomial F D w d)) a)) where
  module _ (X : Extension F D) (τs : List X.carrier) (splits : map_polynomial F X.field X.map d ≡ product_of_linear X.field τs) where
    abbrev E : Field X.carrier
    E = X.field

    abbrev value : X.carrier → Polynomial F → X.carrier
    value = λ τ. Evaluation.value F X.field.ring X.map τ

    abbrev res : X.carrier → X.carrier
    res = residue F D w char d a nonzero coprime X τs splits

    abbrev de : Polynomial F
    de = Derivation.derive_polynomial F D w d

    -- ρ is the residue at each root of d
    pub residue-value : (τ : X.carrier) → Member τ τs → value τ ρ ≡ res τ
    residue-value τ m = FieldLaws.mul_left_cancel E (value τ de) (value τ ρ) (res τ) (slope-nonzero F D w char d a nonzero coprime X τs splits τ m)
        (E.mul_comm (value τ de) (value τ ρ) ∙ sym (Evaluation.value-mul F E.ring X.map τ ρ de)
        ∙ ap (value τ) (sym (Laws.neg-add_cancel (polynomials F) ((polynomials F).mul ρ de) a) ∙ ap (λ z. (polynomials F).add z a) ρ-equation.equation)
        ∙ Evaluation.value-add F E.ring X.map τ _ a
        ∙ ap (λ z. E.add z (value τ a)) (Evaluation.value-mul F E.ring X.map τ ρ-equation.cofactor d ∙ ap (E.mul (value τ ρ-equation.cofactor)) (at-root F D w char d a nonzero coprime X τs splits τ m) ∙ Laws.mul-zero E.ring _)
        ∙ Laws.zero-add E.ring (value τ a)
        ∙ sym (residue-equation F D w char d a nonzero coprime X τs splits τ m) ∙ E.mul_comm (res τ) (value τ de))

    -- the traces of the powers are the power sums of the residues
    pub power_trace-residues : (j : ℕ) → X.map.apply (power_trace F d nonzero ρ j) ≡ power_sum X.field.ring j (map res τs)
    power_trace-residues j =
        power_trace-sum F E X.map d nonzero ρ τs splits (distinct F D w char d a nonzero coprime X τs splits) j
        ∙ ap (power_sum E.ring j) (map-ext_members (λ τ. value τ ρ) res τs residue-value)

    -- the sum of the residues is the trace of ρ
    pub sum_of_residues : X.map.apply (power_trace F d nonzero ρ 1) ≡ sum_over X.field.ring res τs
    sum_of_residues = power_trace-residues 1 ∙ RingSums.sum_over-map E.ring (λ x. power E.ring x 1) res τs ∙ RingSums.sum_over-ext E.ring _ res (λ τ. Laws.power-one E.ring (res τ)) τs

    -- C = Π (z - residue)
    pub residue_polynomial-splits : (C : Polynomial F) → IsNewtonPolynomial F d nonzero ρ C → map_polynomial F X.field X.map C ≡ product_of_linear X.field (map res τs)
    residue_polynomial-splits C c =
        newton_polynomial-splits F E X.map char C (length τs) (power_trace F d nonzero ρ) c.e (map res τs) (length-map res τs) (let s = c.size-le in omega (arith, s, size-d)) c.e-zero c.e-suc
        (λ k i q. c.coefficients k i (ap suc q ∙ sym size-d)) (λ j. power_trace-residues (suc j))
      where
        size-d : size F d ≡ suc (length τs)
        size-d = sym (size-map_polynomial F E X.map d) ∙ ap (size E) splits ∙ size-product_of_linear E τs
