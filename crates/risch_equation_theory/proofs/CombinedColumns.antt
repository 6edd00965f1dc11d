-- New columns that are combinations of the old ones: what is a combination of combinations, and the step of the highest coefficient on columns.
use Rattle.std.specs.Prelude.{◌≡◌, ℕ, List, [], ◌∷◌}
use Rattle.std.proofs.Common.{refl, sym, ap, ap₂, ◌∙◌}
use Rattle.risch_ring.specs.CommRing.{CommRing, Field, Derivation}
use Rattle.risch_ring.proofs.Laws as Laws
use Rattle.risch_univariate.specs.Polynomial.{Polynomial, coefficient, constant}
use Rattle.risch_univariate.proofs.Degree as Degree
use Rattle.risch_equation_theory.proofs.Combinations as Combinations
use Rattle.risch_equation_theory.proofs.Monomials as Monomials
use Rattle.risch_equation_theory.proofs.TopCoefficient as TopCoefficient
use Rattle.risch_univariate.specs.PolynomialRing.{polynomials}
use Rattle.risch_equation_theory.specs.Combination.{AreConstants, total, total_element}

module _ {A : Type 0} (F : Field A) where
  abbrev R : CommRing (Polynomial F)
  R = polynomials F

  -- u + v, where missing entries are 0
  pub add_vectors : List A → List A → List A
  add_vectors [] v = v
  add_vectors (x ∷ u) [] = x ∷ u
  add_vectors (x ∷ u) (y ∷ v) = F.add x y ∷ add_vectors u v

  -- k·v
  pub scale_vector : A → List A → List A
  scale_vector k [] = []
  scale_vector k (x ∷ v) = F.mul k x ∷ scale_vector k v

  -- Σ λ_i·v_i
  pub combine : List A → List (List A) → List A
  combine [] vs = []
  combine (l ∷ ls) [] = []
  combine (l ∷ ls) (v ∷ vs) = add_vectors (scale_vector l v) (combine ls vs)

  module _ {C : Type 0} (x : C → Polynomial F) where
    total-add_vectors : (u v : List A) (cs : List C) → total F x (add_vectors u v) cs ≡ R.add (total F x u cs) (total F x v cs)
    unfolding total add_vectors
    total-add_vectors [] v cs = sym (Laws.zero-add R (total F x v cs))
    total-add_vectors (a ∷ u) [] cs = sym (R.add-zero (total F x (a ∷ u) cs))
    total-add_vectors (a ∷ u) (b ∷ v) [] = sym (R.add-zero R.zero)
    total-add_vectors (a ∷ u) (b ∷ v) (c ∷ cs) =
        ap₂ (λ y z. R.add (R.mul y (x c)) z) (Degree.constant-add F a b) (total-add_vectors u v cs)
        ∙ ap (λ z. R.add z (R.add (total F x u cs) (total F x v cs))) (Laws.add-mul R (constant F a) (constant F b) (x c))
        ∙ Laws.add_exchange R (R.mul (constant F a) (x c)) (R.mul (constant F b) (x c)) (total F x u cs) (total F x v cs)

    total-scale_vector : (k : A) (v : List A) (cs : List C) → total F x (scale_vector k v) cs ≡ R.mul (constant F k) (total F x v cs)
    unfolding total scale_vector
    total-scale_vector k [] cs = sym (Laws.mul-zero R (constant F k))
    total-scale_vector k (a ∷ v) [] = sym (Laws.mul-zero R (constant F k))
    total-scale_vector k (a ∷ v) (c ∷ cs) =
        ap₂ (λ y z. R.add (R.mul y (x c)) z) (Degree.constant-mul F k a) (total-scale_vector k v cs)
        ∙ ap (λ z. R.add z (R.mul (constant F k) (total F x v cs))) (R.mul_assoc (constant F k) (constant F a) (x c))
        ∙ sym (R.mul-add (constant F k) (R.mul (constant F a) (x c)) (total F x v cs))

    -- with κ = Σ λ_i·v_i the combination of the columns by κ is that by λ of the new columns, which are the combinations by the v_i
    pub total-combine : (ls : List A) (vs : List (List A)) (cs : List C) → total F x (combine ls vs) cs ≡ total F (λ v. total F x v cs) ls vs
    unfolding total combine
    total-combine [] vs cs = refl
    total-combine (l ∷ ls) [] cs = refl
    total-combine (l ∷ ls) (v ∷ vs) cs =
        total-add_vectors (scale_vector l v) (combine ls vs) cs ∙ ap₂ R.add (total-scale_vector l v cs) (total-combine ls vs cs)

  -- ---- the step of the highest coefficient, with the vectors (v_i, y_i) of the equation asked

  -- Σ λ_i·(y_i·t^m) = (Σ λ_i·y_i)·t^m
  pub total-monomial : {V : Type 0} (y : V → A) (m : ℕ) (ls : List A) (vs : List V)
      → total F (λ v. Monomials.monomial F (y v) m) ls vs ≡ Monomials.monomial F (total_element F y ls vs) m
  total-monomial y m ls vs = Monomials.monomial_ext F (total F (λ v. Monomials.monomial F (y v) m) ls vs) (total_element F y ls vs) m
      (Combinations.total-coefficient F (λ v. Monomials.monomial F (y v) m) m ls vs ∙ element-equal (λ v. coefficient F (Monomials.monomial F (y v) m) m) y (λ v. Monomials.coefficient-monomial F (y v) m) ls vs)
      (λ i n. Combinations.total-coefficient F (λ v. Monomials.monomial F (y v) m) i ls vs
      ∙ element-zero (λ v. coefficient F (Monomials.monomial F (y v) m) i) (λ v. Monomials.coefficient-monomial-other F (y v) m i n) ls vs)
    where
      element-equal : {V : Type 0} (g h : V → A) → ((v : V) → g v ≡ h v) → (ls : List A) (vs : List V) → total_element F g ls vs ≡ total_element F h ls vs
      element-equal g h e [] vs = Combinations.total_element-nil F g vs ∙ sym (Combinations.total_element-nil F h vs)
      element-equal g h e (l ∷ ls) [] = Combinations.total_element-empty F g l ls ∙ sym (Combinations.total_element-empty F h l ls)
      element-equal g h e (l ∷ ls) (v ∷ vs) = Combinations.total_element-cons F g l ls v vs ∙ ap₂ (λ x z. F.add (F.mul l x) z) (e v) (element-equal g h e ls vs) ∙ sym (Combinations.total_element-cons F h l ls v vs)

      element-zero : {V : Type 0} (g : V → A) → ((v : V) → g v ≡ F.zero) → (ls : List A) (vs : List V) → total_element F g ls vs ≡ F.zero
      element-zero g e [] vs = Combinations.total_element-nil F g vs
      element-zero g e (l ∷ ls) [] = Combinations.total_element-empty F g l ls
      element-zero g e (l ∷ ls) (v ∷ vs) = Combinations.total_element-cons F g l ls v vs ∙ ap₂ F.add (ap (F.mul l) (e v) ∙ Laws.mul-zero F.ring l) (element-zero g e ls vs) ∙ F.add-zero F.zero

  module _ (D : Derivation R) (b : Polynomial F) (m : ℕ) {V : Type 0} (right : V → Polynomial F) (y : V → A) (ls : List A) (vs : List V) (constants : AreConstants F D ls) where
    -- the right sides of the new columns, each without its own term
    abbrev pub next_right : V → Polynomial F
    next_right v = TopCoefficient.right_without F D b (right v) (y v) m

    -- the combination of the new right sides is that of the old ones without the combined term
    pub total-next_right : total F next_right ls vs ≡ TopCoefficient.right_without F D b (total F right ls vs) (total_element F y ls vs) m
    total-next_right =
        Combinations.total-add F right (λ v. R.neg (R.add (D.derive (Monomials.monomial F (y v) m)) (R.mul b (Monomials.monomial F (y v) m)))) ls vs
        ∙ ap (R.add (total F right ls vs))
        (Combinations.total-neg F (λ v. R.add (D.derive (Monomials.monomial F (y v) m)) (R.mul b (Monomials.monomial F (y v) m))) ls vs
        ∙ ap R.neg (Combinations.total-add F (λ v. D.derive (Monomials.monomial F (y v) m)) (λ v. R.mul b (Monomials.monomial F (y v) m)) ls vs
        ∙ ap₂ R.add (Combinations.total-derive F D (λ v. Monomials.monomial F (y v) m) ls vs constants ∙ ap D.derive (total-monomial y m ls vs))
        (Combinations.total-mul F b (λ v. Monomials.monomial F (y v) m) ls vs ∙ ap (R.mul b) (total-monomial y m ls vs))))

    -- a solution whose coefficient at m is Σ λ_i·y_i: the rest of it solves the equation for the combination by λ of the new columns
    pub rest-solves-columns : (q : Polynomial F) → R.add (D.derive q) (R.mul b q) ≡ total F right ls vs → coefficient F q m ≡ total_element F y ls vs
        → R.add (D.derive (Monomials.rest F q m)) (R.mul b (Monomials.rest F q m)) ≡ total F next_right ls vs
    rest-solves-columns q h e =
        TopCoefficient.rest-solves F D b (total F right ls vs) q m h ∙ ap (λ z. TopCoefficient.right_without F D b (total F right ls vs) z m) e ∙ sym total-next_right
