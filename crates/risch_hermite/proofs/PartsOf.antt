-- The parts of a denominator that are left, before and after each of them.
use Rattle.std.proofs.Common.{◌≡◌, ℕ, zero, suc, ◌≤◌, List, [], ◌∷◌, drop, map, refl, sym, ◌∙◌, ap, subst, arith}
use Rattle.risch_ring.specs.CommRing.{CommRing, Derivation, power}
use Rattle.risch_ring.specs.Lists.{Each}
use Rattle.risch_ring.specs.Operators.{operators}
use Rattle.risch_ring.proofs.Expression.{reading}
use Rattle.risch_ring.proofs.Laws as Laws
use Rattle.risch_ring.proofs.Solver.{ring}
use Rattle.risch_univariate.specs.Polynomial.{Polynomial}
use Rattle.risch_univariate.specs.PolynomialRing.{polynomials}
use Rattle.risch_univariate.specs.Degree.{IsMonic}
use Rattle.risch_univariate.specs.Division.{Divides, IsCoprime}
use Rattle.risch_univariate.specs.SplittingFactorization.{IsNormal}
use Rattle.risch_univariate.specs.SquareFreeParts.{product_of_powers, AreParts}
use Rattle.risch_univariate.proofs.Degree as Degree
use Rattle.risch_univariate.proofs.Divides as Divides
use Rattle.risch_univariate.proofs.Gcd as Gcd
use Rattle.risch_univariate.proofs.Multiplicity as Multiplicity
use Rattle.risch_mean.specs.ElementField.{elements}
use Rattle.risch_level.specs.Levels.{Element}
use Rattle.risch_element_theory.specs.WholeTower.{polynomial}
use Rattle.risch_tower.specs.declared.level.Level.{Level}
use Rattle.risch_tower.specs.TowerMeaning.{monomials}
use Rattle.risch_monomial.specs.LevelDerivation.{level_derivation}
use Rattle.risch_monomial.specs.NormalPolynomials.{HasNormalDivisors}
use Rattle.risch_hermite.specs.HermiteMeaning.{HasPart, ArePartsOf}
use Rattle.risch_hermite.proofs.NormalProducts.{coprime-mul_right, coprime_one-right, normal-one, normal-mul}

module _ {A : Type 0} (S : CommRing A) where
  open (operators S) use {◌*◌}

  -- (d·(p·q))·v = p·((d·v)·q)
  product_identity : (d p q v : A) → d * (p * q) * v ≡ p * (d * v * q)
  product_identity d p q v = ring S (d ∷ p ∷ q ∷ v ∷ []) (search reading depth 30 fits 9000) refl

abbrev R : CommRing (Polynomial elements)
R = polynomials elements

-- ---- products of powers
pub product-cons : (i : ℕ) (v : Polynomial elements) (vs : List (Polynomial elements)) → product_of_powers elements i (v ∷ vs) ≡ R.mul (power R v i) (product_of_powers elements (suc i) vs)
unfolding product_of_powers
product-cons i v vs = refl

product-nil : (i : ℕ) → product_of_powers elements i [] ≡ R.one
unfolding product_of_powers
product-nil i = refl

-- v is coprime with v_i^i·v_(i + 1)^(i + 1)·.. where it is with each of them
coprime-product : (v : Polynomial elements) (i : ℕ) (vs : List (Polynomial elements)) → Each (IsCoprime elements v) vs → IsCoprime elements v (product_of_powers elements i vs)
coprime-product v i [] c = subst (IsCoprime elements v) (sym (product-nil i)) (coprime_one-right elements v)
coprime-product v i (u ∷ us) c = subst (IsCoprime elements v) (sym (product-cons i u us))
    (coprime-mul_right elements v (power R u i) (product_of_powers elements (suc i) us)
    (Gcd.coprime_sym elements (power R u i) v (Gcd.coprime-power elements u v i (Gcd.coprime_sym elements v u c.0))) (coprime-product v (suc i) us c.1))

-- each of the parts divides the product
part-divides : (i : ℕ) (v : Polynomial elements) → 1 ≤ i → Divides elements v (power R v i)
part-divides (suc i) v some = subst (Divides elements v) (sym (Laws.power-suc R v i)) (Divides.divides-mul_right elements v (power R v i))
part-divides zero v some = absurd (omega arith)

parts-normal : (D : Derivation R) (n : Polynomial elements) → HasNormalDivisors D n → (i : ℕ) (vs : List (Polynomial elements)) → 1 ≤ i → Divides elements (product_of_powers elements i vs) n → AreParts elements vs →
    Each (IsNormal elements D) vs
parts-normal D n normal i [] some d parts = tt
parts-normal D n normal i (v ∷ vs) some d parts =
    let whole = subst (λ p. Divides elements p n) (product-cons i v vs) d in
    let first = Divides.divides_trans elements v (R.mul (power R v i) (product_of_powers elements (suc i) vs)) n
    (Divides.divides_trans elements v (power R v i) (R.mul (power R v i) (product_of_powers elements (suc i) vs)) (part-divides i v some)
    (Divides.divides-mul_right elements (power R v i) (product_of_powers elements (suc i) vs))) whole in
    let later = Divides.divides_trans elements (product_of_powers elements (suc i) vs) (R.mul (power R v i) (product_of_powers elements (suc i) vs)) n
    (Divides.divides-mul elements (power R v i) (product_of_powers elements (suc i) vs)) whole in
    (normal v parts.1 first, parts-normal D n normal (suc i) vs (omega arith) later parts.3)

-- coprime with d and with v
both-coprime : (d v : Polynomial elements) (vs : List (Polynomial elements)) → Each (λ u. IsCoprime elements u d) vs → Each (IsCoprime elements v) vs → Each (λ u. IsCoprime elements u (R.mul d v)) vs
both-coprime d v [] c e = tt
both-coprime d v (u ∷ us) c e = (coprime-mul_right elements u d v c.0 (Gcd.coprime_sym elements v u e.0), both-coprime d v us c.1 e.1)

module _ (tower : List Level) (level : ℕ) where
  abbrev D : Derivation R
  D = level_derivation (monomials tower) level

  -- the first of the parts, with its exponent
  pub has-part : (i : ℕ) (v w : Polynomial elements) (vs : List (Polynomial elements)) → ArePartsOf tower level i (v ∷ vs) w → HasPart v i w
  has-part i v w vs h =
      let rest = product_of_powers elements (suc i) vs in
      record {
        cofactor = R.mul h.done rest;
        equation = h.equation ∙ ap (R.mul h.done) (product-cons i v vs ∙ R.mul_comm (power R v i) rest) ∙ sym (R.mul_assoc h.done rest (power R v i));
        coprime = coprime-mul_right elements v h.done rest h.coprime.0 (coprime-product v (suc i) vs h.are_parts.2);
      }

  -- the others, where the first stands once
  pub after-part : (i : ℕ) (v w w' : Polynomial elements) (vs : List (Polynomial elements)) → ArePartsOf tower level i (v ∷ vs) w → R.mul w' (power R v i) ≡ R.mul w v → ArePartsOf tower level (suc i) vs w'
  after-part i v w w' vs h e =
      let rest = product_of_powers elements (suc i) vs in
      let some = Multiplicity.power-nonzero elements v i (Gcd.monic-nonzero elements v h.are_parts.0) in
      record {
        done = R.mul h.done v;
        equation = Degree.mul_polynomials_cancel elements (power R v i) w' (R.mul (R.mul h.done v) rest) some
            (R.mul_comm (power R v i) w' ∙ e ∙ ap (λ p. R.mul p v) (h.equation ∙ ap (R.mul h.done) (product-cons i v vs)) ∙ product_identity R h.done (power R v i) rest v);
        done_is_monic = Gcd.mul-is_monic elements h.done v h.done_is_monic h.are_parts.0;
        done_is_normal = normal-mul elements D h.done v h.done_is_normal h.are_normal.0 (Gcd.coprime_sym elements v h.done h.coprime.0);
        are_parts = h.are_parts.3;
        are_normal = h.are_normal.1;
        coprime = both-coprime h.done v vs h.coprime.1 h.are_parts.2;
      }

  -- where none is left, w is monic and normal
  pub none-left : (i : ℕ) (w : Polynomial elements) → ArePartsOf tower level i [] w → IsMonic elements w × IsNormal elements D w
  none-left i w h =
      let same = h.equation ∙ ap (R.mul h.done) (product-nil i) ∙ R.mul-one h.done in
      (subst (IsMonic elements) (sym same) h.done_is_monic, subst (IsNormal elements D) (sym same) h.done_is_normal)

  swapped-coprime : (v : Polynomial elements) (vs : List (Polynomial elements)) → Each (IsCoprime elements v) vs → Each (λ u. IsCoprime elements u v) vs
  swapped-coprime v [] c = tt
  swapped-coprime v (u ∷ us) c = (Gcd.coprime_sym elements v u c.0, swapped-coprime v us c.1)

  one-coprime : (vs : List (Polynomial elements)) → Each (λ u. IsCoprime elements u R.one) vs
  one-coprime [] = tt
  one-coprime (u ∷ us) = (coprime_one-right elements u, one-coprime us)

  -- the parts from the second on
  pub parts-start : (n : Polynomial elements) (parts : List (List Element)) → HasNormalDivisors D n → AreParts elements (map polynomial parts) → n ≡ product_of_powers elements 1 (map polynomial parts) →
      ArePartsOf tower level 2 (map polynomial (drop 1 parts)) n
  parts-start n [] normal are e = record {
    done = R.one;
    equation = e ∙ product-nil 1 ∙ sym (ap (R.mul R.one) (product-nil 2) ∙ R.mul-one R.one);
    done_is_monic = Gcd.one-is_monic elements;
    done_is_normal = normal-one elements D;
    are_parts = tt;
    are_normal = tt;
    coprime = tt;
  }
  parts-start n (p ∷ parts) normal are e =
      let v = polynomial p in
      let vs = map polynomial parts in
      let are_normal = parts-normal D n normal 1 (v ∷ vs) (omega arith) (subst (Divides elements (product_of_powers elements 1 (v ∷ vs))) (sym e) (Divides.divides_refl elements (product_of_powers elements 1 (v ∷ vs)))) are in
      record {
        done = v;
        equation = e ∙ product-cons 1 v vs ∙ ap (λ q. R.mul q (product_of_powers elements 2 vs)) (Laws.power-one R v);
        done_is_monic = are.0;
        done_is_normal = are_normal.0;
        are_parts = are.3;
        are_normal = are_normal.1;
        coprime = swapped-coprime v vs are.2;
      }
