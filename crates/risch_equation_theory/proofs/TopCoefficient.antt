-- The highest coefficient of a solution of D(q) + b·q = c in K[t], and the equation for the rest of q.
use Rattle.std.specs.Prelude.{◌≡◌, ℕ, suc, ◌+◌, ◌≤◌}
use Rattle.std.proofs.Common.{sym, ap, ap₂, subst, ◌∙◌, arith}
use Rattle.risch_ring.specs.CommRing.{CommRing, Field, Derivation, of_nat, sub}
use Rattle.risch_ring.proofs.Laws as Laws
use Rattle.risch_ring.proofs.Derivations as Derivations
use Rattle.risch_univariate.specs.Polynomial.{Polynomial, coefficient, constant, variable}
use Rattle.risch_univariate.specs.Degree.{size}
use Rattle.risch_ring.proofs.FieldLaws as FieldLaws
use Rattle.risch_univariate.proofs.Degree as Degree
use Rattle.risch_univariate.proofs.Derivation as Derivation
use Rattle.risch_univariate.proofs.FormalDerivative as FormalDerivative
use Rattle.risch_univariate.proofs.Special as Special
use Rattle.risch_equation_theory.proofs.Identities as Identities
use Rattle.risch_equation_theory.proofs.Monomials as Monomials
use Rattle.risch_univariate.specs.PolynomialRing.{polynomials}
use Rattle.risch_univariate.proofs.Coefficients.{coefficient-add, coefficient-constant_mul, coefficient-sub}

module _ {A : Type 0} (F : Field A) where
  abbrev R : CommRing (Polynomial F)
  R = polynomials F

  -- ---- for every derivation of K[t]

  module _ (D : Derivation R) where
    -- the right side without what the term y·t^m contributes
    abbrev pub right_without : (b c : Polynomial F) (y : A) (m : ℕ) → Polynomial F
    right_without b c y m = sub R c (R.add (D.derive (Monomials.monomial F y m)) (R.mul b (Monomials.monomial F y m)))

    -- q solves the equation just where q without its term at m solves that with the right side without the term
    pub rest-solves : (b c q : Polynomial F) (m : ℕ) → R.add (D.derive q) (R.mul b q) ≡ c
        → R.add (D.derive (Monomials.rest F q m)) (R.mul b (Monomials.rest F q m)) ≡ right_without b c (coefficient F q m) m
    rest-solves b c q m h = Identities.without_term R b c _ _ _ _
        (ap₂ (λ x y. R.add x (R.mul b y)) (sym (ap D.derive (Monomials.rest-equation F q m) ∙ D.derive-add _ _)) (sym (Monomials.rest-equation F q m)) ∙ h)

    -- and the other way round: s solves the equation with the right side without y·t^m, then s + y·t^m solves that with c
    pub solves-of_rest : (b c s : Polynomial F) (y : A) (m : ℕ) → R.add (D.derive s) (R.mul b s) ≡ right_without b c y m
        → R.add (D.derive (R.add (Monomials.monomial F y m) s)) (R.mul b (R.add (Monomials.monomial F y m) s)) ≡ c
    solves-of_rest b c s y m h =
        ap (λ x. R.add x (R.mul b (R.add (Monomials.monomial F y m) s))) (D.derive-add (Monomials.monomial F y m) s)
        ∙ Identities.with_term R b c (Monomials.monomial F y m) s (D.derive (Monomials.monomial F y m)) (D.derive s) h

    -- deg b ≥ 1 and D raises no degree: lc(b)·q_m is the coefficient of c at m + deg b
    pub top-of_degree : ((q : Polynomial F) (n : ℕ) → size F q ≤ n → size F (D.derive q) ≤ n) → (b c q : Polynomial F) (d m : ℕ) → size F b ≡ suc (suc d) → size F q ≤ suc m
        → R.add (D.derive q) (R.mul b q) ≡ c → F.mul (coefficient F b (suc d)) (coefficient F q m) ≡ coefficient F c (suc d + m)
    top-of_degree raises b c q d m sb sq h = sym (ap (λ z. coefficient F z (suc d + m)) (sym h) ∙ coefficient-add F (D.derive q) (R.mul b q) (suc d + m)
        ∙ ap₂ F.add (Degree.below_size F (D.derive q) (suc d + m) (let l = raises q (suc m) sq in omega (arith, l))) (Degree.coefficient-mul-top F b q (suc d) m (omega (arith, sb)) sq)
        ∙ Laws.zero-add F.ring _)

    -- so it is determined: q_m = c_(m + deg b)/lc(b)
    pub top-determined : ((q : Polynomial F) (n : ℕ) → size F q ≤ n → size F (D.derive q) ≤ n) → (b c q : Polynomial F) (d m : ℕ) → size F b ≡ suc (suc d) → size F q ≤ suc m
        → R.add (D.derive q) (R.mul b q) ≡ c → coefficient F q m ≡ F.mul (coefficient F c (suc d + m)) (F.inverse (coefficient F b (suc d)))
    top-determined raises b c q d m sb sq h =
        FieldLaws.mul_left_cancel F (coefficient F b (suc d)) _ _ nonzero
        (top-of_degree raises b c q d m sb sq h ∙ sym (FieldLaws.mul-inverse_cancel F (coefficient F b (suc d)) (coefficient F c (suc d + m)) nonzero) ∙ ap (F.mul (coefficient F b (suc d))) (F.mul_comm _ _))
      where
        nonzero : ¬ (coefficient F b (suc d) ≡ F.zero)
        nonzero = Degree.leading-nonzero F b (suc d) sb

  module _ (D : Derivation F.ring) (η : A) where
    -- ---- b in K, Dt = η

    -- D raises no degree
    pub primitive-not_raising : (q : Polynomial F) (n : ℕ) → size F q ≤ n → size F (Special.primitive F D η q) ≤ n
    primitive-not_raising q n l = let k = Degree.size-constant-le F η in FormalDerivative.size-derive_polynomial-le F D (constant F η) q n l (omega (arith, l, k))

    -- Dt = η·t: deg D(q) ≤ deg q
    pub exponential-not_raising : (q : Polynomial F) (n : ℕ) → size F q ≤ n → size F (Special.exponential F D η q) ≤ n
    exponential-not_raising q n l = let k = Special.size-exponential-le F D η q in omega (arith, l, k)

    -- D(q_m) + b·q_m = c_m for deg q ≤ m
    pub asked-primitive : (b : A) (c q : Polynomial F) (m : ℕ) → size F q ≤ suc m → R.add (Special.primitive F D η q) (R.mul (constant F b) q) ≡ c
        → F.add (D.derive (coefficient F q m)) (F.mul b (coefficient F q m)) ≡ coefficient F c m
    asked-primitive b c q m l h = sym (ap (λ z. coefficient F z m) (sym h) ∙ coefficient-add F (Special.primitive F D η q) (R.mul (constant F b) q) m
        ∙ ap₂ F.add (Special.coefficient-primitive F D η q m
        ∙ ap (λ z. F.add (D.derive (coefficient F q m)) (F.mul η (F.mul (of_nat F.ring (suc m)) z))) (Degree.below_size F q (suc m) l)
        ∙ ap (F.add (D.derive (coefficient F q m))) (ap (F.mul η) (Laws.mul-zero F.ring _) ∙ Laws.mul-zero F.ring η) ∙ F.add-zero _)
        (coefficient-constant_mul F b q m))

    -- deg q ≤ m gives deg c ≤ m
    pub right-primitive : (b : A) (c q : Polynomial F) (m : ℕ) → size F q ≤ m → R.add (Special.primitive F D η q) (R.mul (constant F b) q) ≡ c → size F c ≤ m
    right-primitive b c q m l h = subst (λ z. size F z ≤ m) h (Degree.size-add-le F _ _ m (primitive-not_raising q m l) (constant_mul b q m l))
      where
        constant_mul : (b : A) (q : Polynomial F) (m : ℕ) → size F q ≤ m → size F (R.mul (constant F b) q) ≤ m
        constant_mul b q m l = Degree.size-le F (R.mul (constant F b) q) m (λ i k. coefficient-constant_mul F b q i ∙ ap (F.mul b) (Degree.below_size F q i (omega (arith, l, k))) ∙ Laws.mul-zero F.ring b)

    -- D(y·t^m) has the coefficients D(y) at m, m·η·y at m - 1, and 0 elsewhere
    pub derive-monomial-top : (y : A) (m : ℕ) → coefficient F (Special.primitive F D η (Monomials.monomial F y m)) m ≡ D.derive y
    derive-monomial-top y m = Special.coefficient-primitive F D η (Monomials.monomial F y m) m
        ∙ ap₂ (λ x z. F.add (D.derive x) (F.mul η (F.mul (of_nat F.ring (suc m)) z))) (Monomials.coefficient-monomial F y m) (Monomials.coefficient-monomial-other F y m (suc m) (λ e. absurd (omega (arith, e))))
        ∙ ap (F.add (D.derive y)) (ap (F.mul η) (Laws.mul-zero F.ring _) ∙ Laws.mul-zero F.ring η) ∙ F.add-zero _

    -- the coefficient of D(y·t^(m + 1)) at m is η·(m + 1)·y
    pub derive-monomial-below : (y : A) (m : ℕ) → coefficient F (Special.primitive F D η (Monomials.monomial F y (suc m))) m ≡ F.mul η (F.mul (of_nat F.ring (suc m)) y)
    derive-monomial-below y m = Special.coefficient-primitive F D η (Monomials.monomial F y (suc m)) m
        ∙ ap₂ (λ x z. F.add (D.derive x) (F.mul η (F.mul (of_nat F.ring (suc m)) z))) (Monomials.coefficient-monomial-other F y (suc m) m (λ e. absurd (omega (arith, e)))) (Monomials.coefficient-monomial F y (suc m))
        ∙ ap (λ z. F.add z (F.mul η (F.mul (of_nat F.ring (suc m)) y))) (Derivations.derive-zero D) ∙ Laws.zero-add F.ring _

    -- the other coefficients are 0
    pub derive-monomial-other : (y : A) (m i : ℕ) → ¬ (i ≡ m) → ¬ (suc i ≡ m) → coefficient F (Special.primitive F D η (Monomials.monomial F y m)) i ≡ F.zero
    derive-monomial-other y m i n k = Special.coefficient-primitive F D η (Monomials.monomial F y m) i
        ∙ ap₂ (λ x z. F.add (D.derive x) (F.mul η (F.mul (of_nat F.ring (suc i)) z))) (Monomials.coefficient-monomial-other F y m i n) (Monomials.coefficient-monomial-other F y m (suc i) k)
        ∙ ap₂ F.add (Derivations.derive-zero D) (ap (F.mul η) (Laws.mul-zero F.ring _) ∙ Laws.mul-zero F.ring η) ∙ F.add-zero F.zero

    -- ---- b in K, Dt = η·t

    -- D(q_m) + (b + m·η)·q_m = c_m for every m
    pub asked-exponential : (b : A) (c q : Polynomial F) (m : ℕ) → R.add (Special.exponential F D η q) (R.mul (constant F b) q) ≡ c
        → F.add (D.derive (coefficient F q m)) (F.mul (F.add b (F.mul (of_nat F.ring m) η)) (coefficient F q m)) ≡ coefficient F c m
    asked-exponential b c q m h = sym (ap (λ z. coefficient F z m) (sym h) ∙ coefficient-add F (Special.exponential F D η q) (R.mul (constant F b) q) m
        ∙ ap₂ F.add (Special.coefficient-exponential F D η q m) (coefficient-constant_mul F b q m)
        ∙ Identities.twisted_coefficient F.ring (D.derive (coefficient F q m)) η (of_nat F.ring m) (coefficient F q m) b)

    -- deg q ≤ m gives deg c ≤ m
    pub right-exponential : (b : A) (c q : Polynomial F) (m : ℕ) → size F q ≤ m → R.add (Special.exponential F D η q) (R.mul (constant F b) q) ≡ c → size F c ≤ m
    right-exponential b c q m l h = subst (λ z. size F z ≤ m) h (Degree.size-add-le F _ _ m (exponential-not_raising q m l)
        (Degree.size-le F (R.mul (constant F b) q) m (λ i k. coefficient-constant_mul F b q i ∙ ap (F.mul b) (Degree.below_size F q i (omega (arith, l, k))) ∙ Laws.mul-zero F.ring b)))

    -- D(y·t^m) = (D(y) + m·η·y)·t^m
    pub derive-monomial-exponential : (y : A) (m : ℕ) → Special.exponential F D η (Monomials.monomial F y m) ≡ Monomials.monomial F (F.add (D.derive y) (F.mul η (F.mul (of_nat F.ring m) y))) m
    derive-monomial-exponential y m = Monomials.monomial_ext F _ _ m
        (Special.coefficient-exponential F D η (Monomials.monomial F y m) m ∙ ap (λ x. F.add (D.derive x) (F.mul η (F.mul (of_nat F.ring m) x))) (Monomials.coefficient-monomial F y m))
        (λ i n. Special.coefficient-exponential F D η (Monomials.monomial F y m) i ∙ ap (λ x. F.add (D.derive x) (F.mul η (F.mul (of_nat F.ring i) x))) (Monomials.coefficient-monomial-other F y m i n)
        ∙ ap₂ F.add (Derivations.derive-zero D) (ap (F.mul η) (Laws.mul-zero F.ring _) ∙ Laws.mul-zero F.ring η) ∙ F.add-zero F.zero)

    -- ---- the right side without the term: what changes at m and m - 1

    coefficient-right : (E : Derivation R) (b : A) (c : Polynomial F) (y : A) (m i : ℕ) → coefficient F (right_without E (constant F b) c y m) i
        ≡ F.add (coefficient F c i) (F.neg (F.add (coefficient F (E.derive (Monomials.monomial F y m)) i) (F.mul b (coefficient F (Monomials.monomial F y m) i))))
    coefficient-right E b c y m i = coefficient-sub F c _ i ∙ ap (λ z. F.add (coefficient F c i) (F.neg z)) (coefficient-add F (E.derive (Monomials.monomial F y m)) _ i ∙ ap (F.add _) (coefficient-constant_mul F b (Monomials.monomial F y m) i))

    nothing : (a b x : A) → a ≡ F.zero → x ≡ F.zero → F.neg (F.add a (F.mul b x)) ≡ F.zero
    nothing a b x e k = ap F.neg (ap₂ F.add e (ap (F.mul b) k ∙ Laws.mul-zero F.ring b) ∙ F.add-zero F.zero) ∙ Laws.neg-zero F.ring

    -- Dt = η: the coefficient at m is 0, where y solves the asked equation
    pub right-primitive-top : (b : A) (c : Polynomial F) (y : A) (m : ℕ) → F.add (D.derive y) (F.mul b y) ≡ coefficient F c m
        → coefficient F (right_without (Derivation.derivation F D (constant F η)) (constant F b) c y m) m ≡ F.zero
    right-primitive-top b c y m h =
        coefficient-right (Derivation.derivation F D (constant F η)) b c y m m
        ∙ ap (λ z. F.add (coefficient F c m) (F.neg z)) (ap₂ (λ x z. F.add x (F.mul b z)) (derive-monomial-top y m) (Monomials.coefficient-monomial F y m) ∙ h) ∙ F.add-neg (coefficient F c m)

    -- the one at m - 1 loses m·η·y
    pub right-primitive-below : (b : A) (c : Polynomial F) (y : A) (m : ℕ)
        → coefficient F (right_without (Derivation.derivation F D (constant F η)) (constant F b) c y (suc m)) m ≡ F.add (coefficient F c m) (F.neg (F.mul η (F.mul (of_nat F.ring (suc m)) y)))
    right-primitive-below b c y m =
        coefficient-right (Derivation.derivation F D (constant F η)) b c y (suc m) m
        ∙ ap (λ z. F.add (coefficient F c m) (F.neg z)) (ap₂ (λ x z. F.add x (F.mul b z)) (derive-monomial-below y m) (Monomials.coefficient-monomial-other F y (suc m) m (λ e. absurd (omega (arith, e))))
        ∙ ap (F.add (F.mul η (F.mul (of_nat F.ring (suc m)) y))) (Laws.mul-zero F.ring b) ∙ F.add-zero _)

    -- the others stay
    pub right-primitive-other : (b : A) (c : Polynomial F) (y : A) (m i : ℕ) → ¬ (i ≡ m) → ¬ (suc i ≡ m)
        → coefficient F (right_without (Derivation.derivation F D (constant F η)) (constant F b) c y m) i ≡ coefficient F c i
    right-primitive-other b c y m i n k =
        coefficient-right (Derivation.derivation F D (constant F η)) b c y m i
        ∙ ap (F.add (coefficient F c i)) (nothing _ b _ (derive-monomial-other y m i n k) (Monomials.coefficient-monomial-other F y m i n)) ∙ F.add-zero (coefficient F c i)

    -- Dt = η·t: the coefficient at m is 0, where y solves the asked equation
    pub right-exponential-top : (b : A) (c : Polynomial F) (y : A) (m : ℕ) → F.add (D.derive y) (F.mul (F.add b (F.mul (of_nat F.ring m) η)) y) ≡ coefficient F c m
        → coefficient F (right_without (Derivation.derivation F D (R.mul (constant F η) (variable F))) (constant F b) c y m) m ≡ F.zero
    right-exponential-top b c y m h =
        coefficient-right (Derivation.derivation F D (R.mul (constant F η) (variable F))) b c y m m
        ∙ ap (λ z. F.add (coefficient F c m) (F.neg z))
        (ap₂ (λ x z. F.add x (F.mul b z)) (ap (λ z. coefficient F z m) (derive-monomial-exponential y m) ∙ Monomials.coefficient-monomial F _ m) (Monomials.coefficient-monomial F y m)
        ∙ Identities.twisted_coefficient F.ring (D.derive y) η (of_nat F.ring m) y b ∙ h)
        ∙ F.add-neg (coefficient F c m)

    -- the others stay
    pub right-exponential-other : (b : A) (c : Polynomial F) (y : A) (m i : ℕ) → ¬ (i ≡ m)
        → coefficient F (right_without (Derivation.derivation F D (R.mul (constant F η) (variable F))) (constant F b) c y m) i ≡ coefficient F c i
    right-exponential-other b c y m i n =
        coefficient-right (Derivation.derivation F D (R.mul (constant F η) (variable F))) b c y m i
        ∙ ap (F.add (coefficient F c i)) (nothing _ b _ (ap (λ z. coefficient F z i) (derive-monomial-exponential y m) ∙ Monomials.coefficient-monomial-other F _ m i n) (Monomials.coefficient-monomial-other F y m i n))
        ∙ F.add-zero (coefficient F c i)
