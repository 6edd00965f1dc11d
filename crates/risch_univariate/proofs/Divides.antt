-- Divisibility in K[t]: its laws, and that it is decidable.
use Rattle.std.specs.Prelude.{◌≡◌, suc, ◌+◌, ◌≤◌}
use Rattle.std.proofs.Common.{refl, sym, ap, ap₂, subst, ◌∙◌, arith}
use Rattle.risch_ring.specs.CommRing.{CommRing, Field}
use Rattle.risch_ring.proofs.Laws as Laws
use Rattle.risch_univariate.specs.Polynomial.{Polynomial, coefficient, constant}
use Rattle.risch_univariate.specs.Degree.{size}
use Rattle.risch_univariate.specs.Division.{Divides}
use Rattle.risch_ring.proofs.FieldLaws as FieldLaws
use Rattle.risch_univariate.proofs.Degree as Degree
use Rattle.risch_univariate.proofs.Division as Division
use Rattle.risch_univariate.specs.PolynomialRing.{polynomials}

module _ {A : Type 0} (F : Field A) where
  abbrev R : CommRing (Polynomial F)
  R = polynomials F

  -- p | p
  pub divides_refl : (p : Polynomial F) → Divides F p p
  divides_refl p = record { cofactor = R.one; equation = sym (Laws.one-mul R p) }

  -- d | q·d
  pub divides-mul : (q d : Polynomial F) → Divides F d (R.mul q d)
  divides-mul q d = record { cofactor = q; equation = refl }

  -- d | d·q
  pub divides-mul_right : (d q : Polynomial F) → Divides F d (R.mul d q)
  divides-mul_right d q = record { cofactor = q; equation = R.mul_comm d q }

  -- d | p and p | q give d | q
  pub divides_trans : (d p q : Polynomial F) → Divides F d p → Divides F p q → Divides F d q
  divides_trans d p q h k = record {
    cofactor = R.mul k.cofactor h.cofactor;
    equation = k.equation ∙ ap (R.mul k.cofactor) h.equation ∙ sym (R.mul_assoc k.cofactor h.cofactor d);
  }

  -- d | 0
  pub divides-zero : (d : Polynomial F) → Divides F d R.zero
  divides-zero d = record { cofactor = R.zero; equation = sym (Laws.zero-mul R d) }

  -- d | p and d | q give d | p + q
  pub divides-add : (d p q : Polynomial F) → Divides F d p → Divides F d q → Divides F d (R.add p q)
  divides-add d p q h k = record {
    cofactor = R.add h.cofactor k.cofactor;
    equation = ap₂ R.add h.equation k.equation ∙ sym (Laws.add-mul R h.cofactor k.cofactor d);
  }

  -- d | p gives d | -p
  pub divides-neg : (d p : Polynomial F) → Divides F d p → Divides F d (R.neg p)
  divides-neg d p h = record { cofactor = R.neg h.cofactor; equation = ap R.neg h.equation ∙ sym (Laws.neg-mul R h.cofactor d) }

  -- d | p gives d | x·p
  pub divides-mul_left : (d x p : Polynomial F) → Divides F d p → Divides F d (R.mul x p)
  divides-mul_left d x p h = record { cofactor = R.mul x h.cofactor; equation = ap (R.mul x) h.equation ∙ sym (R.mul_assoc x h.cofactor d) }

  -- d | p and d | q give d | p - q
  pub divides-sub : (d p q : Polynomial F) → Divides F d p → Divides F d q → Divides F d (R.add p (R.neg q))
  divides-sub d p q h k = divides-add d p (R.neg q) h (divides-neg d q k)

  -- d | p and d | p + q give d | q
  pub divides_of_add : (d p q : Polynomial F) → Divides F d p → Divides F d (R.add p q) → Divides F d q
  divides_of_add d p q h k = subst (Divides F d) (sym (Laws.sub_of_add R (R.add p q) p q refl)) (divides-sub d (R.add p q) p k h)

  -- d | p and e | q give d·e | p·q
  pub divides-mul_mul : (d e p q : Polynomial F) → Divides F d p → Divides F e q → Divides F (R.mul d e) (R.mul p q)
  divides-mul_mul d e p q h k = record {
    cofactor = R.mul h.cofactor k.cofactor;
    equation = ap₂ R.mul h.equation k.equation ∙ Laws.mul_exchange R h.cofactor d k.cofactor e;
  }

  -- x·d | x·p and x ≠ 0 give d | p
  pub divides_cancel : (x d p : Polynomial F) → ¬ (x ≡ R.zero) → Divides F (R.mul x d) (R.mul x p) → Divides F d p
  divides_cancel x d p h k = record {
    cofactor = k.cofactor;
    equation = Degree.mul_polynomials_cancel F x p (R.mul k.cofactor d) h (k.equation ∙ Laws.mul_left_comm R k.cofactor x d);
  }

  -- 0 | p gives p = 0
  pub zero_of_zero-divides : (p : Polynomial F) → Divides F R.zero p → p ≡ R.zero
  zero_of_zero-divides p h = h.equation ∙ Laws.mul-zero R h.cofactor

  -- d ∤ p gives p ≠ 0
  pub nonzero_of_not_divides : (d p : Polynomial F) → ¬ Divides F d p → ¬ (p ≡ R.zero)
  nonzero_of_not_divides d p n e = n (subst (Divides F d) (sym e) (divides-zero d))

  -- d | p and p ≠ 0 give d ≠ 0
  pub divisor-nonzero : (d p : Polynomial F) → Divides F d p → ¬ (p ≡ R.zero) → ¬ (d ≡ R.zero)
  divisor-nonzero d p h n e = n (h.equation ∙ ap (R.mul h.cofactor) e ∙ Laws.mul-zero R h.cofactor)

  -- p = q·d ≠ 0 gives q ≠ 0
  pub cofactor-nonzero : (d p : Polynomial F) (h : Divides F d p) → ¬ (p ≡ R.zero) → ¬ (h.cofactor ≡ R.zero)
  cofactor-nonzero d p h n e = n (h.equation ∙ ap (λ z. R.mul z d) e ∙ Laws.zero-mul R d)

  -- size p + 1 = size (p/d) + size d
  pub size-cofactor : (d p : Polynomial F) (h : Divides F d p) → ¬ (p ≡ R.zero) → suc (size F p) ≡ size F h.cofactor + size F d
  size-cofactor d p h n = ap (λ z. suc (size F z)) h.equation ∙ Degree.size-mul-nonzero F h.cofactor d (cofactor-nonzero d p h n) (divisor-nonzero d p h n)

  -- d | p and p ≠ 0 give deg d ≤ deg p
  pub size-divides : (d p : Polynomial F) → Divides F d p → ¬ (p ≡ R.zero) → size F d ≤ size F p
  size-divides d p h n =
      let e = size-cofactor d p h n in
      let c = Degree.size_of_nonzero F h.cofactor (cofactor-nonzero d p h n) in
      omega (arith, e, c)

  -- c ≠ 0 divides every polynomial
  pub constant-divides : (c : A) (p : Polynomial F) → ¬ (c ≡ F.zero) → Divides F (constant F c) p
  constant-divides c p h = record {
    cofactor = R.mul p (constant F (F.inverse c));
    equation =
        sym (R.mul_assoc p (constant F (F.inverse c)) (constant F c)
        ∙ ap (R.mul p) (sym (Degree.constant-mul F (F.inverse c) c) ∙ ap (constant F) (FieldLaws.inverse-mul F c h) ∙ Degree.constant-one F) ∙ R.mul-one p);
  }

  -- a constant d ≠ 0 divides every polynomial
  pub unit-divides : (d p : Polynomial F) → size F d ≡ 1 → Divides F d p
  unit-divides d p h =
      subst (λ z. Divides F z p) (sym (Degree.constant_of_size F d (omega (arith, h)))) (constant-divides (coefficient F d 0) p (Degree.leading-nonzero F d 0 h))

  -- c·d | p if d | p and c ≠ 0
  pub constant_mul-divides : (c : A) (d p : Polynomial F) → ¬ (c ≡ F.zero) → Divides F d p → Divides F (R.mul (constant F c) d) p
  constant_mul-divides c d p n h =
      let k = constant-divides c h.cofactor n in record {
        cofactor = k.cofactor;
        equation = h.equation ∙ ap (λ z. R.mul z d) k.equation ∙ R.mul_assoc k.cofactor (constant F c) d;
      }

  -- d | p is decidable
  pub dec_divides : (d p : Polynomial F) → Dec (Divides F d p)
  dec_divides d p = elim (Degree.dec_zero F d) [ yes e ↦ by_zero e | no n ↦ by_division n (Division.divide F d n p) ]
    where
      by_zero : d ≡ R.zero → Dec (Divides F d p)
      by_zero e = elim (Degree.dec_zero F p) [
        | yes z ↦ yes (subst (Divides F d) (sym z) (divides-zero d))
        | no n ↦ no (λ h. n (zero_of_zero-divides p (subst (λ x. Divides F x p) e h)))
      ]

      by_division : ¬ (d ≡ R.zero) → Division.Division F p d → Dec (Divides F d p)
      by_division n s = elim (Degree.dec_zero F s.remainder) [
        | yes z ↦ yes (record { cofactor = s.quotient; equation = s.is_division.equation ∙ ap (R.add (R.mul s.quotient d)) z ∙ R.add-zero (R.mul s.quotient d) })
        | no k ↦ no (λ h. k ((Division.division_unique F p d s.quotient s.remainder h.cofactor R.zero s.is_division (record {
          equation = h.equation ∙ sym (R.add-zero (R.mul h.cofactor d));
          smaller = let z = Degree.size-zero F in let l = Degree.size_of_nonzero F d n in omega (arith, z, l);
        })).1))
      ]
