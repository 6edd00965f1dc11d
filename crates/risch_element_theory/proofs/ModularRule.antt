-- The rules of the modular inverse and of b·r + a·z = c give them in K[t].
use Rattle.std.proofs.Common.{◌≡◌, ℕ, zero, suc, ◌≤◌, ◌<◌, List, [], ◌∷◌, length, Option, None, Some, Ok, sym, ap, subst, ◌∙◌, arith}
use Rattle.risch_ring.specs.CommRing.{CommRing, Field}
use Rattle.risch_ring.proofs.Laws as Laws
use Rattle.risch_univariate.specs.Polynomial.{Polynomial, constant, variable}
use Rattle.risch_univariate.specs.Degree.{size}
use Rattle.risch_univariate.specs.Division.{Divides}
use Rattle.risch_univariate.specs.PolynomialRing.{polynomials}
use Rattle.risch_univariate.proofs.Degree as Degree
use Rattle.risch_field.specs.Checked.{and_then}
use Rattle.risch_field.specs.Ops.{Ops}
use Rattle.risch_polynomial.specs.Poly as poly
use Rattle.risch_polynomial_theory.specs.Meaning.{Interprets}
use Rattle.risch_field.proofs.CheckedSteps.{and_then-ok}
use Rattle.risch_element_theory.specs.PolynomialMeaning.{polynomial_of, IsKept, KeepsPolynomial}
use Rattle.risch_element_theory.specs.ModularMeaning.{KeepsInverse, KeepsSolution, InverseMeans, SolutionMeans}
use Rattle.risch_polynomial.specs.Modular as modular
use Rattle.risch_element_theory.proofs.DivisionValues as DivisionValues
use Rattle.risch_element_theory.proofs.DivisionRule as DivisionRule
use Rattle.risch_element_theory.proofs.GcdRule as GcdRule
use Rattle.risch_element_theory.proofs.ModularEuclid as Euclid
use Rattle.risch_element_theory.proofs.PolynomialRules as Rules

module _ {E A : Type 0} {o : Ops E} (F : Field A) {valid : E → Type 0} {meaning : E → A} (h : Interprets o F.ring valid meaning) where
  open (polynomials F) use {zero as 𝟘, one as 𝟙, add as ◌⊕◌, mul as ◌⊗◌, neg as ⊖◌}

  infixl 60 ◌⊕◌
  infixl 70 ◌⊗◌
  infix 80 ⊖◌
  abbrev R : CommRing (Polynomial F)
  R = polynomials F

  -- ⟦p⟧
  abbrev of : List E → Polynomial F
  of p = polynomial_of F meaning p

  -- p - q·m
  pub less_product-polynomial : (p q m r : List E) → IsKept o valid p → IsKept o valid q → IsKept o valid m → modular.less_product o p q m ≡ Ok r → KeepsPolynomial o F valid meaning r (of p ⊕ ⊖ (of q ⊗ of m))
  unfolding modular.less_product
  less_product-polynomial p q m r k l j e =
      let first = and_then-ok (poly.product o q m) (λ x. poly.sum o p (poly.negatives o x)) r e in
      let x = Rules.product-polynomial F h q m first.value l.all_valid j.all_valid first.is in
      let y = Rules.negatives-polynomial F h first.value x.kept in
      let z = Rules.sum-polynomial F h p (poly.negatives o first.value) r k.all_valid y.kept.all_valid first.next in
      record { kept = z.kept; means = z.means ∙ ap (λ v. of p ⊕ v) (y.means ∙ ap R.neg x.means) }

  -- ---- the inverse
  -- the lists stand for remainders of a and b with their coefficients
  record Reached (a b r' s' r s : List E) : Type 0 where
    before_kept : IsKept o valid r'
    before_coefficient_kept : IsKept o valid s'
    kept : IsKept o valid r
    coefficient_kept : IsKept o valid s
    reached : Euclid.Reached F (of a) (of b) (of r') (of s') (of r) (of s)

  abbrev Means : List E → List E → Option (List E) → Type 0
  Means b a x = InverseMeans o F valid meaning b a x

  inverse-none : (a b r' s' s : List E) (x : Option (List E)) → Reached a b r' s' [] s → None ≡ x → Means b a x
  inverse-none a b r' s' s x t e =
      subst (Means b a) e (Euclid.reached-zero F (of a) (of b) (of r') (of s') (of []) (of s) t.reached (Rules.polynomial_of-nil F h))

  -- ⟦c⟧ is a constant
  polynomial_of-constant : (c : E) → of (c ∷ []) ≡ constant F (meaning c)
  polynomial_of-constant c =
      sym (Rules.value-polynomial_of F h (c ∷ [])) ∙ ap (λ v. constant F (meaning c) ⊕ v) (Laws.mul-zero R (variable F)) ∙ R.add-zero (constant F (meaning c))

  inverse-constant : (a b r' s' s : List E) (c : E) (x : Option (List E)) → Reached a b r' s' (c ∷ []) s →
      and_then (o.quotient o.one c) (λ u. and_then (poly.scaled o u s) (λ i. Ok (Some i))) ≡ Ok x → Means b a x
  inverse-constant a b r' s' s c x t e =
      let first = and_then-ok (o.quotient o.one c) (λ u. and_then (poly.scaled o u s) (λ i. Ok (Some i))) x e in
      let u = first.value in
      let second = and_then-ok (poly.scaled o u s) (λ i. Ok (Some i)) x first.next in
      let i = second.value in
      let inverse = DivisionValues.quotient-is_inverse h F.zero c [] u t.kept first.is in
      let y = Rules.scaled-polynomial F h u s i inverse.is_valid t.coefficient_kept.all_valid second.is in
      let product : constant F (meaning u) ⊗ of (c ∷ []) ≡ 𝟙 =
      ap (λ v. constant F (meaning u) ⊗ v) (polynomial_of-constant c) ∙ sym (Degree.constant-mul F (meaning u) (meaning c)) ∙ ap (constant F) inverse.equation ∙ Degree.constant-one F in
      let nonzero : ¬ (meaning u ≡ F.zero) =
      λ z. F.one-ne-zero (sym inverse.equation ∙ ap (λ v. F.mul v (meaning c)) z ∙ Laws.zero-mul F.ring (meaning c)) in
      let is : Some i ≡ x = cc second.next in
      subst (Means b a) is (record {
        kept = y.kept;
        divides = subst (λ v. Divides F (of a) (v ⊗ of b ⊕ ⊖ 𝟙)) (sym y.means) (Euclid.reached-constant F (of a) (of b) (of r') (of s') (of (c ∷ [])) (of s) (constant F (meaning u)) t.reached product);
        smaller = subst (λ v. size F v < size F (of a)) (sym y.means) (Euclid.reached-size F (of a) (of b) (of r') (of s') (of (c ∷ [])) (of s) (meaning u) t.reached nonzero);
      })

  reached-next : (a b r' s' r s q r'' s'' : List E) → Reached a b r' s' r s → 2 ≤ length r → poly.division o r' r ≡ Ok (q, r'') → modular.less_product o s' q s ≡ Ok s'' → Reached a b r s r'' s''
  reached-next a b r' s' r s q r'' s'' t l e f =
      let some : ¬ (r ≡ []) = λ (z : r ≡ []). let none = ap length z in absurd (omega (arith, none, l)) in
      let x = DivisionRule.division-is_division F h r' r q r'' t.before_kept t.kept some e in
      let y = less_product-polynomial s' q s s'' t.before_coefficient_kept x.quotient_kept t.coefficient_kept f in
      let r-size = Rules.size-polynomial_of F h r t.kept in
      record {
        before_kept = t.kept;
        before_coefficient_kept = t.coefficient_kept;
        kept = x.remainder_kept;
        coefficient_kept = y.kept;
        reached = subst (Euclid.Reached F (of a) (of b) (of r) (of s) (of r'')) (sym y.means)
            (Euclid.reached-next F (of a) (of b) (of r') (of s') (of r) (of s) (of q) (of r'') t.reached x.is_division (omega (arith, r-size, l)));
      }

  reached-shorter : (a b r' s' r s : List E) → Reached a b r' s' r s → length r < length r'
  reached-shorter a b r' s' r s t =
      let smaller = t.reached.smaller in
      let e = Rules.size-polynomial_of F h r' t.before_kept in
      let f = Rules.size-polynomial_of F h r t.kept in
      omega (arith, smaller, e, f)

  inverse_from-means : (steps : ℕ) (a b r' s' r s : List E) (x : Option (List E)) → Reached a b r' s' r s → length r ≤ steps → modular.inverse_from o steps r' s' r s ≡ Ok x → Means b a x
  inverse_from-means steps a b r' s' [] s x t enough e = inverse-none a b r' s' s x t (cc e)
  inverse_from-means steps a b r' s' (c ∷ []) s x t enough e = inverse-constant a b r' s' s c x t e
  inverse_from-means zero a b r' s' (c ∷ (d ∷ r)) s x t enough e = absurd (omega (arith, enough))
  inverse_from-means (suc steps) a b r' s' (c ∷ (d ∷ r)) s x t enough e =
      let l = c ∷ d ∷ r in
      let first = and_then-ok (poly.division o r' l) (λ y. and_then (modular.less_product o s' y.0 s) (λ s''. modular.inverse_from o steps l s y.1 s'')) x e in
      let y = first.value in
      let second = and_then-ok (modular.less_product o s' y.0 s) (λ s''. modular.inverse_from o steps l s y.1 s'') x first.next in
      let s'' = second.value in
      let next = reached-next a b r' s' l s y.0 y.1 s'' t (omega arith) first.is second.is in
      let shorter = reached-shorter a b l s y.1 s'' next in
      inverse_from-means steps a b l s y.1 s'' x next (omega (arith, shorter, enough)) second.next

  long-not_nil : (p : List E) → 2 ≤ length p → ¬ (p ≡ [])
  long-not_nil p l z = let none = ap length z in absurd (omega (arith, none, l))

  -- the inverse of b modulo a, or none where a and b are not coprime
  pub inverse-means : (b a : List E) (x : Option (List E)) → IsKept o valid b → IsKept o valid a → 2 ≤ length a → modular.inverse o b a ≡ Ok x → InverseMeans o F valid meaning b a x
  unfolding modular.inverse
  inverse-means b a x k l large e =
      let first = and_then-ok (poly.division o b a) (λ y. modular.inverse_from o (length a) a [] y.1 (o.one ∷ [])) x e in
      let y = first.value in
      let d = DivisionRule.division-is_division F h b a y.0 y.1 k l (long-not_nil a large) first.is in
      let a-size = Rules.size-polynomial_of F h a l in
      let start : Reached a b a [] y.1 (o.one ∷ []) = record {
        before_kept = l;
        before_coefficient_kept = GcdRule.nil-kept F h;
        kept = d.remainder_kept;
        coefficient_kept = GcdRule.one-kept F h;
        reached = subst (λ s'. Euclid.Reached F (of a) (of b) (of a) s' (of y.1) (of (o.one ∷ []))) (sym (Rules.polynomial_of-nil F h))
            (subst (Euclid.Reached F (of a) (of b) (of a) 𝟘 (of y.1)) (sym (GcdRule.polynomial_of-one F h)) (Euclid.reached-start F (of a) (of b) (of y.0) (of y.1) d.is_division (omega (arith, a-size, large))));
      } in
      let shorter = reached-shorter a b a [] y.1 (o.one ∷ []) start in
      inverse_from-means (length a) a b a [] y.1 (o.one ∷ []) x start (omega (arith, shorter)) first.next

  -- ---- the equation
  abbrev SamePair : List E × List E → List E × List E → Type 0
  SamePair d e = d ≡ e

  abbrev Solves : List E → List E → List E → Option (List E × List E) → Type 0
  Solves a b c x = SolutionMeans o F valid meaning a b c x

  -- b·r + (c - b·r) = c
  whole : (b r a z c : Polynomial F) → c ⊕ ⊖ (b ⊗ r) ≡ z ⊗ a → b ⊗ r ⊕ a ⊗ z ≡ c
  whole b r a z c e = ap (λ v. b ⊗ r ⊕ v) (R.mul_comm a z ∙ sym e) ∙ R.add_comm (b ⊗ r) (c ⊕ ⊖ (b ⊗ r)) ∙ Laws.neg-add_cancel R c (b ⊗ r)

  pub solution-means : (i a b c : List E) (s : List E × List E) → IsKept o valid a → IsKept o valid b → IsKept o valid c → 2 ≤ length a → KeepsInverse o F valid meaning b a i →
      modular.solution o i a b c ≡ Ok s → KeepsSolution o F valid meaning a b c s.0 s.1
  unfolding modular.solution
  solution-means i a b c s k l j large inverse e =
      let some = long-not_nil a large in
      let one = and_then-ok (poly.division o c a) (λ x. and_then (poly.product o i x.1) (λ m. and_then (poly.division o m a) (λ y. and_then (modular.less_product o c b y.1) (λ n. and_then (poly.quo o n a) (λ z. Ok (y.1, z)))))) s e in
      let x = one.value in
      let two = and_then-ok (poly.product o i x.1) (λ m. and_then (poly.division o m a) (λ y. and_then (modular.less_product o c b y.1) (λ n. and_then (poly.quo o n a) (λ z. Ok (y.1, z))))) s one.next in
      let m = two.value in
      let three = and_then-ok (poly.division o m a) (λ y. and_then (modular.less_product o c b y.1) (λ n. and_then (poly.quo o n a) (λ z. Ok (y.1, z)))) s two.next in
      let y = three.value in
      let four = and_then-ok (modular.less_product o c b y.1) (λ n. and_then (poly.quo o n a) (λ z. Ok (y.1, z))) s three.next in
      let n = four.value in
      let five = and_then-ok (poly.quo o n a) (λ z. Ok (y.1, z)) s four.next in
      let z = five.value in
      let first = DivisionRule.division-is_division F h c a x.0 x.1 j k some one.is in
      let product = Rules.product-polynomial F h i x.1 m inverse.kept.all_valid first.remainder_kept.all_valid two.is in
      let second = DivisionRule.division-is_division F h m a y.0 y.1 product.kept k some three.is in
      let left = less_product-polynomial c b y.1 n j l second.remainder_kept four.is in
      let divides = Euclid.divides-solution F (of a) (of b) (of c) (of i) (of x.1) (of y.1) inverse.divides
      (Euclid.divides-remainder F (of c) (of a) (of x.0) (of x.1) first.is_division)
      (subst (λ v. Divides F (of a) (v ⊕ ⊖ of y.1)) product.means (Euclid.divides-remainder F (of m) (of a) (of y.0) (of y.1) second.is_division)) in
      let quotient = DivisionRule.quo-exact F h n a z left.kept k some (subst (Divides F (of a)) (sym left.means) divides) five.is in
      let is : SamePair (y.1, z) s = cc five.next in
      subst (λ s. KeepsSolution o F valid meaning a b c s.0 s.1) is (record {
        left_kept = second.remainder_kept;
        right_kept = quotient.kept;
        equation = whole (of b) (of y.1) (of a) (of z) (of c) (sym left.means ∙ quotient.equation);
        smaller = second.is_division.smaller;
      })

  solution_by-means : (i : Option (List E)) (a b c : List E) (x : Option (List E × List E)) → IsKept o valid a → IsKept o valid b → IsKept o valid c → 2 ≤ length a → Means b a i →
      modular.solution_by o i a b c ≡ Ok x → Solves a b c x
  solution_by-means None a b c x k l j large m e = let is : None ≡ x = cc e in subst (Solves a b c) is m
  solution_by-means (Some i) a b c x k l j large m e =
      let first = and_then-ok (modular.solution o i a b c) (λ s. Ok (Some s)) x e in
      let is : Some first.value ≡ x = cc first.next in
      subst (Solves a b c) is (solution-means i a b c first.value k l j large m first.is)

  -- b·r + a·z = c with deg r < deg a, or none where a and b are not coprime
  pub solve-means : (a b c : List E) (x : Option (List E × List E)) → IsKept o valid a → IsKept o valid b → IsKept o valid c → 2 ≤ length a → modular.solve o a b c ≡ Ok x → SolutionMeans o F valid meaning a b c x
  unfolding modular.solve
  solve-means a b c x k l j large e =
      let first = and_then-ok (modular.inverse o b a) (λ i. modular.solution_by o i a b c) x e in
      solution_by-means first.value a b c x k l j large (inverse-means b a first.value l k large first.is) first.next
