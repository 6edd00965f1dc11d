-- The main theorem for the logarithms by residues as they are formed from the remainder sequence of d and b = a - z·D(d), where b is not made primitive.
--
-- K is a field of characteristic 0 with a derivation D, and t is a monomial over K with Dt in K, or Dt = η·t with η in K. d in K[t] is monic with gcd(d, D(d)) = 1, and deg a < deg d.
-- Let ρ·D(d) = a modulo d, and C by the traces of the powers of ρ and Newton's rule, with constant coefficients, and C = R_1·R_2²·.. with square-free R_i, pairwise coprime.
-- For each R_i ≠ 1 let S_i be d, where i = deg d, else the member of degree i, divided by its content and made monic modulo R_i.
-- Then S_i is invertible modulo R_i over K(t), and for the traces f_i of z·D(S_i)·T_i over K(t)[z]/(R_i), for any T_i with T_i·S_i = 1 modulo R_i, where f_i = c·D(S_i(c))/S_i(c) for R_i = z - c,
--
--   Σ f_i  =  a/d             where Dt = η in K,
--   Σ f_i  =  a/d + η·p_1     where Dt = η·t, with the trace p_1 of ρ.
use Rattle.std.specs.Prelude.{◌≡◌, ℕ, zero, suc, ◌≤◌, ◌<◌, List, [], ◌∷◌, map}
use Rattle.std.proofs.Common.{refl, sym, ap, subst, ◌∙◌, arith, inl, inr}
use Rattle.risch_ring.specs.CommRing.{Field, Derivation, sub, quotient, HasCharacteristicZero}
use Rattle.risch_ring.specs.Lists.{Each}
use Rattle.risch_ring.specs.Sums.{sum_over}
use Rattle.risch_ring.proofs.Sums as Sums
use Rattle.risch_univariate.specs.Polynomial.{Polynomial, constant, variable, coefficient}
use Rattle.risch_univariate.proofs.Coefficients.{coefficient-constant_mul, coefficient-variable_mul-suc}
use Rattle.risch_ring.proofs.Laws as Laws
use Rattle.risch_univariate.specs.PolynomialRing.{polynomials}
use Rattle.risch_univariate.specs.Degree.{size, IsMonic}
use Rattle.risch_univariate.specs.Division.{Divides, IsCoprime}
use Rattle.risch_univariate.specs.SquareFreeParts.{product_of_powers, AreParts}
use Rattle.risch_univariate.proofs.Degree as Degree
use Rattle.risch_univariate.proofs.Derivation as Derivation
use Rattle.risch_univariate.proofs.FormalDerivative.{coefficientwise, size-derive_polynomial-le}
use Rattle.risch_univariate.proofs.Gcd as Gcd
use Rattle.risch_fraction_field.specs.Fraction.{Fraction, of_polynomial}
use Rattle.risch_fraction_field.specs.FractionField.{fractions}
use Rattle.risch_extension.specs.Extension.{Splitting}
use Rattle.risch_extension.specs.NewtonPolynomial.{power_trace, IsNewtonPolynomial}
use Rattle.risch_extension.proofs.SplittingField.{by_splitting, monic-splitting}
use Rattle.risch_residue_theory.specs.BivariatePolynomial.{lift, by_powers}
use Rattle.risch_residue_theory.specs.Logarithm.{Logarithm, derivative, AreLogarithmsOf}
use Rattle.risch_residue_theory.specs.Residue.{IsResiduePolynomial}
use Rattle.risch_residue_theory.specs.RuleLogarithm.{IsRuleSequence, RuleLogarithm, IsRuleArgument, AreRuleLogarithms, AreRuleDerivatives, HaveDerivative}
use Rattle.risch_residue_theory.proofs.ConstantParts.{parts-constant}
use Rattle.risch_residue_theory.proofs.InvertibleParts.{IsPartOf}
use Rattle.risch_residue_theory.proofs.LazardRiobooTrager.{stable}
use Rattle.risch_residue_theory.proofs.LogarithmsDerivative.{IsComplete, logarithms-primitive, logarithms-exponential}
use Rattle.risch_residue_theory.proofs.LogarithmsOfTraces.{newton_polynomial-is_monic}
use Rattle.risch_residue_theory.proofs.ResiduePolynomialByTraces.{residue_polynomial-splits, sum_of_residues}
use Rattle.risch_residue_theory.proofs.RuleArguments.{part-is_monic, rule_argument-values, rule_argument-invertible}
use Rattle.risch_residue_theory.proofs.RuleDerivatives.{logarithm_of, derivative-is}
use Rattle.risch_residue_theory.proofs.SquareFreeLogarithms.{logarithms-complete}

-- deg D(d) ≤ deg d, where Dt has degree at most 1
pub size-derivative : {A : Type 0} (F : Field A) (D : Derivation F.ring) (w d : Polynomial F) → size F w ≤ 2 → size F (Derivation.derive_polynomial F D w d) ≤ size F d
size-derivative F D w d l = size-derive_polynomial-le F D w d (size F d) (omega arith) (omega (arith, l))

-- η·t has degree at most 1
pub size-multiple : {A : Type 0} (F : Field A) (η : A) → size F ((polynomials F).mul (constant F η) (variable F)) ≤ 2
size-multiple F η = Degree.size-le F _ 2 (λ i l. coefficient-constant_mul F η (variable F) i ∙ ap (F.mul η) (beyond i l) ∙ Laws.mul-zero F.ring η)
  where
    beyond : (i : ℕ) → 2 ≤ i → coefficient F (variable F) i ≡ F.zero
    beyond zero l = absurd (omega (arith, l))
    beyond (suc i) l =
        ap (λ z. coefficient F z (suc i)) (sym ((polynomials F).mul-one (variable F))) ∙ coefficient-variable_mul-suc F (polynomials F).one i
        ∙ Degree.below_size F (polynomials F).one i (let s = Degree.size-one F in omega (arith, s, l))

-- C by Newton's rule is the polynomial of the residues
pub newton_polynomial-is_residue_polynomial : {A : Type 0} (F : Field A) (D : Derivation F.ring) (w : Polynomial F) (char : HasCharacteristicZero F.ring) (d a : Polynomial F) (is_monic : IsMonic F d)
    (coprime : IsCoprime F d (Derivation.derive_polynomial F D w d)) (ρ : Polynomial F)
    → Divides F d (sub (polynomials F) ((polynomials F).mul ρ (Derivation.derive_polynomial F D w d)) a)
    → (C : Polynomial F) → IsNewtonPolynomial F d (Gcd.monic-nonzero F d is_monic) ρ C → IsResiduePolynomial F D w d a C
newton_polynomial-is_residue_polynomial F D w char d a is_monic coprime ρ ρ-equation C c X τs splits =
    residue_polynomial-splits F D w char d a (Gcd.monic-nonzero F d is_monic) coprime ρ ρ-equation X τs splits C c

module _ {A : Type 0} (F : Field A) (D : Derivation F.ring) (w : Polynomial F) (char : HasCharacteristicZero F.ring) (d a : Polynomial F) (is_monic : IsMonic F d)
    (coprime : IsCoprime F d (Derivation.derive_polynomial F D w d)) (small : size F a < size F d) (small_w : size F w ≤ 2)
    (n : ℕ) (positive : 1 ≤ n) (b : List (Polynomial F)) (ms : List (List (Polynomial F))) (sequence : IsRuleSequence F n d a (Derivation.derive_polynomial F D w d) b ms)
    (C : Polynomial F) (C-monic : IsMonic F C) (C-size : size F C ≤ size F d) (residues : IsResiduePolynomial F D w d a C) (C-constant : coefficientwise F D C ≡ (polynomials F).zero)
    (parts : List (Polynomial F)) (C-parts : C ≡ product_of_powers F 1 parts) (are_parts : AreParts F parts) where
  small_a : size F a ≤ size F d
  small_a = omega (arith, small)

  small_e : size F (Derivation.derive_polynomial F D w d) ≤ size F d
  small_e = size-derivative F D w d small_w

  -- the argument of l is the one for the part with number k
  record HasRuleArgument (k : ℕ) (l : Logarithm F D w) : Type 0 where
    pub coefficients : List (Polynomial F)
    pub is_argument : IsRuleArgument F d n b ms k l.polynomial coefficients
    pub equation : l.argument ≡ by_powers F coefficients

  -- the logarithms with their derivatives
  record AsLogarithms (i : ℕ) (Rs : List (Polynomial F)) (ls : List (RuleLogarithm F)) : Type 0 where
    pub logarithms : List (Logarithm F D w)
    pub are_logarithms : AreLogarithmsOf F D w HasRuleArgument i Rs logarithms
    pub are_derivatives : AreRuleDerivatives F D w ls (map (derivative F D w) logarithms)

  no_logarithms : (i : ℕ) (Rs : List (Polynomial F)) → AreRuleLogarithms F d n b ms i Rs [] → AreLogarithmsOf F D w HasRuleArgument i Rs []
  no_logarithms i [] x = tt
  no_logarithms i (R ∷ Rs) x = (x.0, no_logarithms (suc i) Rs x.1)

  -- a part 1 is passed over
  passed_over : (i : ℕ) (R : Polynomial F) (Rs : List (Polynomial F)) → R ≡ (polynomials F).one → (ls : List (Logarithm F D w)) → AreLogarithmsOf F D w HasRuleArgument (suc i) Rs ls
      → AreLogarithmsOf F D w HasRuleArgument i (R ∷ Rs) ls
  passed_over i R Rs e [] x = (e, x)
  passed_over i R Rs e (l ∷ ls) x = inl (e, x)

  as_logarithms : (i : ℕ) (Rs : List (Polynomial F)) (ls : List (RuleLogarithm F)) → AreRuleLogarithms F d n b ms i Rs ls → Each (λ R. coefficientwise F D R ≡ (polynomials F).zero) Rs
      → ((k : ℕ) (q : Polynomial F) → IsPartOf F k q i Rs → IsPartOf F k q 1 parts) → AsLogarithms i Rs ls
  as_logarithms i [] [] x constants among = record { logarithms = []; are_logarithms = tt; are_derivatives = tt }
  as_logarithms i [] (l ∷ ls) x constants among = absurd x
  as_logarithms i (R ∷ Rs) [] x constants among = record { logarithms = []; are_logarithms = no_logarithms i (R ∷ Rs) x; are_derivatives = tt }
  as_logarithms i (R ∷ Rs) (l ∷ ls) (inl x) constants among =
      let y = as_logarithms (suc i) Rs (l ∷ ls) x.1 constants.1 (λ k q z. among k q (inr z)) in
      record { logarithms = y.logarithms; are_logarithms = passed_over i R Rs x.0 y.logarithms y.are_logarithms; are_derivatives = y.are_derivatives }
  as_logarithms i (R ∷ Rs) (l ∷ ls) (inr x) constants among =
      let y = as_logarithms (suc i) Rs ls x.1 constants.1 (λ k q z. among k q (inr z)) in
      record {
        logarithms = logarithm_of F D w l nonzero is_constant invertible ∷ y.logarithms;
        are_logarithms = inr ((same, record { coefficients = l.argument; is_argument = argument; equation = refl }), y.are_logarithms);
        are_derivatives = (derivative-is F D w l nonzero is_constant invertible, y.are_derivatives);
      }
    where
      same : l.modulus ≡ R
      same = x.0.1.0

      argument : IsRuleArgument F d n b ms i l.modulus l.argument
      argument = subst (λ z. IsRuleArgument F d n b ms i z l.argument) (sym same) x.0.1.1

      part : IsPartOf F i l.modulus 1 parts
      part = among i l.modulus (inl (refl, same))

      nonzero : ¬ (l.modulus ≡ (polynomials F).zero)
      nonzero = Gcd.monic-nonzero F l.modulus (part-is_monic F i l.modulus 1 parts are_parts part)

      is_constant : coefficientwise F D l.modulus ≡ (polynomials F).zero
      is_constant = ap (coefficientwise F D) same ∙ constants.0

      invertible : IsCoprime (fractions F) (by_powers F l.argument) (lift F l.modulus)
      invertible = rule_argument-invertible F D w char d a is_monic coprime small_a small_e n positive b ms sequence C C-monic C-size residues parts C-parts are_parts i l.modulus part
          (λ z. x.0.0 (sym same ∙ z)) l.argument argument

  all_logarithms : (ls : List (RuleLogarithm F)) → AreRuleLogarithms F d n b ms 1 parts ls → AsLogarithms 1 parts ls
  all_logarithms ls x = as_logarithms 1 parts ls x (parts-constant F D char 0 parts are_parts (ap (coefficientwise F D) (sym C-parts) ∙ C-constant)) (λ k q z. z)

  -- their roots are the residues, each once
  complete : (ls : List (Logarithm F D w)) → AreLogarithmsOf F D w HasRuleArgument 1 parts ls → (s : Splitting F D d)
      → IsComplete F D w char d a (Gcd.monic-nonzero F d is_monic) coprime s.extension s.roots (monic-splitting F D d s is_monic) ls
  complete ls x s =
      let splits = monic-splitting F D d s is_monic in
      logarithms-complete F D w char d a (Gcd.monic-nonzero F d is_monic) coprime s.extension s.roots splits C (residues s.extension s.roots splits) parts C-parts are_parts HasRuleArgument
      (λ k l h β z q.
      rule_argument-values F D w char d a is_monic coprime small_a small_e n positive b ms sequence s.extension k l h.coefficients h.is_argument h.equation β z q)
      ls x

  -- a sum of the derivatives of these logarithms
  have_derivative : (h : Fraction F) → ((ls : List (Logarithm F D w)) → AreLogarithmsOf F D w HasRuleArgument 1 parts ls → sum_over (fractions F).ring (derivative F D w) ls ≡ h)
      → (ls : List (RuleLogarithm F)) → AreRuleLogarithms F d n b ms 1 parts ls → HaveDerivative F D w ls h
  have_derivative h total ls x =
      let y = all_logarithms ls x in
      record {
        derivatives = map (derivative F D w) y.logarithms;
        are_derivatives = y.are_derivatives;
        total = Sums.sum_over-map (fractions F).ring (λ f. f) (derivative F D w) y.logarithms ∙ total y.logarithms y.are_logarithms;
      }

-- Dt = η in K: the derivatives of the logarithms add up to a/d
pub rule_logarithms-primitive : {A : Type 0} (F : Field A) (D : Derivation F.ring) (η : A) (char : HasCharacteristicZero F.ring) (d a : Polynomial F) (is_monic : IsMonic F d)
    (coprime : IsCoprime F d (Derivation.derive_polynomial F D (constant F η) d)) → size F a < size F d
    → (ρ : Polynomial F) → Divides F d (sub (polynomials F) ((polynomials F).mul ρ (Derivation.derive_polynomial F D (constant F η) d)) a)
    → (C : Polynomial F) → IsNewtonPolynomial F d (Gcd.monic-nonzero F d is_monic) ρ C → coefficientwise F D C ≡ (polynomials F).zero
    → (parts : List (Polynomial F)) → C ≡ product_of_powers F 1 parts → AreParts F parts
    → (n : ℕ) → 1 ≤ n → (b : List (Polynomial F)) (ms : List (List (Polynomial F))) → IsRuleSequence F n d a (Derivation.derive_polynomial F D (constant F η) d) b ms
    → (ls : List (RuleLogarithm F)) → AreRuleLogarithms F d n b ms 1 parts ls
    → HaveDerivative F D (constant F η) ls (quotient (fractions F) (of_polynomial F a) (of_polynomial F d))
rule_logarithms-primitive F D η char d a is_monic coprime small ρ ρ-equation C c C-constant parts C-parts are_parts n positive b ms sequence =
    have_derivative F D w char d a is_monic coprime small small_w n positive b ms sequence C C-monic c.size-le residues C-constant parts C-parts are_parts
    (quotient (fractions F) (of_polynomial F a) (of_polynomial F d))
    (λ ls x. by_splitting (stable (fractions F) _ _) F char D d (Gcd.monic-nonzero F d is_monic) (λ s.
    logarithms-primitive F D η d a (Gcd.monic-nonzero F d is_monic) coprime small s.extension s.roots (monic-splitting F D d s is_monic) char ls
    (complete F D w char d a is_monic coprime small small_w n positive b ms sequence C C-monic c.size-le residues C-constant parts C-parts are_parts ls x s)))
  where
    w : Polynomial F
    w = constant F η

    small_w : size F (constant F η) ≤ 2
    small_w = let l = Degree.size-constant-le F η in omega (arith, l)

    C-monic : IsMonic F C
    C-monic = newton_polynomial-is_monic F d (Gcd.monic-nonzero F d is_monic) ρ C c

    residues : IsResiduePolynomial F D (constant F η) d a C
    residues = newton_polynomial-is_residue_polynomial F D (constant F η) char d a is_monic coprime ρ ρ-equation C c

-- Dt = η·t: the derivatives of the logarithms add up to a/d + η·p_1
pub rule_logarithms-exponential : {A : Type 0} (F : Field A) (D : Derivation F.ring) (η : A) (char : HasCharacteristicZero F.ring) (d a : Polynomial F) (is_monic : IsMonic F d)
    (coprime : IsCoprime F d (Derivation.derive_polynomial F D ((polynomials F).mul (constant F η) (variable F)) d)) → size F a < size F d
    → (ρ : Polynomial F) → Divides F d (sub (polynomials F) ((polynomials F).mul ρ (Derivation.derive_polynomial F D ((polynomials F).mul (constant F η) (variable F)) d)) a)
    → (C : Polynomial F) → IsNewtonPolynomial F d (Gcd.monic-nonzero F d is_monic) ρ C → coefficientwise F D C ≡ (polynomials F).zero
    → (parts : List (Polynomial F)) → C ≡ product_of_powers F 1 parts → AreParts F parts
    → (n : ℕ) → 1 ≤ n → (b : List (Polynomial F)) (ms : List (List (Polynomial F)))
    → IsRuleSequence F n d a (Derivation.derive_polynomial F D ((polynomials F).mul (constant F η) (variable F)) d) b ms
    → (ls : List (RuleLogarithm F)) → AreRuleLogarithms F d n b ms 1 parts ls
    → HaveDerivative F D ((polynomials F).mul (constant F η) (variable F)) ls
    ((fractions F).add (quotient (fractions F) (of_polynomial F a) (of_polynomial F d)) (of_polynomial F (constant F (F.mul η (power_trace F d (Gcd.monic-nonzero F d is_monic) ρ 1)))))
rule_logarithms-exponential F D η char d a is_monic coprime small ρ ρ-equation C c C-constant parts C-parts are_parts n positive b ms sequence =
    have_derivative F D w char d a is_monic coprime small small_w n positive b ms sequence C C-monic c.size-le residues C-constant parts C-parts are_parts
    ((fractions F).add (quotient (fractions F) (of_polynomial F a) (of_polynomial F d)) (of_polynomial F (constant F (F.mul η (power_trace F d (Gcd.monic-nonzero F d is_monic) ρ 1)))))
    (λ ls x. by_splitting (stable (fractions F) _ _) F char D d (Gcd.monic-nonzero F d is_monic) (λ s.
    logarithms-exponential F D η d a (Gcd.monic-nonzero F d is_monic) coprime small s.extension s.roots (monic-splitting F D d s is_monic) char ls
    (complete F D w char d a is_monic coprime small small_w n positive b ms sequence C C-monic c.size-le residues C-constant parts C-parts are_parts ls x s)
    (power_trace F d (Gcd.monic-nonzero F d is_monic) ρ 1)
    (sum_of_residues F D w char d a (Gcd.monic-nonzero F d is_monic) coprime ρ ρ-equation s.extension s.roots (monic-splitting F D d s is_monic))))
  where
    w : Polynomial F
    w = (polynomials F).mul (constant F η) (variable F)

    small_w : size F ((polynomials F).mul (constant F η) (variable F)) ≤ 2
    small_w = size-multiple F η

    C-monic : IsMonic F C
    C-monic = newton_polynomial-is_monic F d (Gcd.monic-nonzero F d is_monic) ρ C c

    residues : IsResiduePolynomial F D ((polynomials F).mul (constant F η) (variable F)) d a C
    residues = newton_polynomial-is_residue_polynomial F D ((polynomials F).mul (constant F η) (variable F)) char d a is_monic coprime ρ ρ-equation C c
