-- A homomorphism f of fields on polynomials, f applied to the coefficients: it keeps and reflects divisors, greatest common divisors, monic polynomials and square-free parts, and commutes with division and traces.
--     polynomial_map      the homomorphism K[t] → L[t]
--     map-injective, divides_of_map, coprime_of_map, monic_of_map      what holds of the images holds of the polynomials
--     gcd-map, product_of_powers-map, remainder-map, trace-map      f(gcd(a, b)) = gcd(f(a), f(b)), ..
--     are_parts_of_map, are_parts-map      the square-free parts of f(p) are the images of those of p
use Rattle.std.specs.Prelude.{◌≡◌, ℕ, zero, suc, ◌<◌, List, [], ◌∷◌, map, get_or, pred}
use Rattle.std.proofs.Common.{refl, sym, ap, ap₂, subst, ◌∙◌, arith}
use Rattle.risch_ring.specs.CommRing.{CommRing, Field, RingMap, HasCharacteristicZero, power}
use Rattle.risch_ring.specs.Lists.{Each}
use Rattle.risch_ring.specs.Sums.{sum_below}
use Rattle.risch_ring.proofs.RingMaps as RingMaps
use Rattle.risch_ring.proofs.Sums as Sums
use Rattle.risch_univariate.specs.Polynomial.{Polynomial, of_list, coefficient, variable}
use Rattle.risch_univariate.specs.PolynomialLaws.{polynomial_ext, coefficient-of_list}
use Rattle.risch_univariate.specs.PolynomialRing.{polynomials}
use Rattle.risch_univariate.specs.Degree.{size, degree, leading_coefficient, IsMonic}
use Rattle.risch_univariate.specs.Division.{IsDivision, Divides, IsGcd, IsCoprime, IsSquareFree}
use Rattle.risch_univariate.proofs.Degree as Degree
use Rattle.risch_univariate.proofs.Divides as Divides
use Rattle.risch_univariate.proofs.Division as Division
use Rattle.risch_univariate.proofs.Gcd as Gcd
use Rattle.risch_univariate.proofs.FormalDerivative.{formal_derivative}
use Rattle.risch_univariate.proofs.Derivation.{formal_derivation}
use Rattle.risch_univariate.proofs.SquareFree.{square_free_of_coprime, coprime_of_square_free}
use Rattle.risch_univariate.specs.SquareFreeParts.{product_of_powers, AreParts}
use Rattle.risch_extension.specs.PolynomialMap.{map_polynomial}
use Rattle.risch_extension.specs.NewtonPolynomial.{power_trace}
use Rattle.risch_extension.specs.Trace.{trace}
use Rattle.risch_extension.proofs.PolynomialMaps as Maps
use Rattle.risch_extension.proofs.Extensions.{map-formal_derivative, map-coprime}

module _ {A B : Type 0} (F : Field A) (G : Field B) (f : RingMap F.ring G.ring) where
  abbrev R : CommRing (Polynomial F)
  R = polynomials F

  abbrev S : CommRing (Polynomial G)
  S = polynomials G

  abbrev m : Polynomial F → Polynomial G
  m = map_polynomial F G f

  -- K[t] → L[t]
  abbrev pub polynomial_map : RingMap (polynomials F) (polynomials G)
  polynomial_map = record {
    apply = map_polynomial F G f;
    apply-one = Maps.map_polynomial-one F G f;
    apply-add = Maps.map_polynomial-add F G f;
    apply-mul = Maps.map_polynomial-mul F G f;
  }

  item-map : (p : List A) (i : ℕ) → f.apply (get_or p i F.zero) ≡ get_or (map f.apply p) i G.zero
  item-map [] i = RingMaps.apply-zero f
  item-map (a ∷ p) zero = refl
  item-map (a ∷ p) (suc i) = item-map p i

  -- f of the polynomial with the coefficients p_0, p_1, .. has the coefficients f(p_0), f(p_1), ..
  pub map-of_list : (p : List A) → map_polynomial F G f (of_list F p) ≡ of_list G (map f.apply p)
  map-of_list p = polynomial_ext G (m (of_list F p)) (of_list G (map f.apply p)) (λ i.
      Maps.coefficient-map_polynomial F G f (of_list F p) i ∙ ap f.apply (coefficient-of_list F p i) ∙ item-map p i ∙ sym (coefficient-of_list G (map f.apply p) i))

  -- f(p) = f(q) gives p = q
  pub map-injective : (p q : Polynomial F) → map_polynomial F G f p ≡ map_polynomial F G f q → p ≡ q
  map-injective p q e = polynomial_ext F p q (λ i.
      RingMaps.apply-injective F G f (coefficient F p i) (coefficient F q i)
      (sym (Maps.coefficient-map_polynomial F G f p i) ∙ ap (λ r. coefficient G r i) e ∙ Maps.coefficient-map_polynomial F G f q i))

  -- f(p) = 0 gives p = 0
  pub zero_of_map : (p : Polynomial F) → map_polynomial F G f p ≡ S.zero → p ≡ R.zero
  zero_of_map p e = map-injective p R.zero (e ∙ sym (Maps.map_polynomial-zero F G f))

  -- ---- monic polynomials
  -- lc(f(p)) = f(lc(p))
  pub leading_coefficient-map : (p : Polynomial F) → leading_coefficient G (map_polynomial F G f p) ≡ f.apply (leading_coefficient F p)
  leading_coefficient-map p = ap (λ k. coefficient G (m p) (pred k)) (Maps.size-map_polynomial F G f p) ∙ Maps.coefficient-map_polynomial F G f p (degree F p)

  pub monic-map : (p : Polynomial F) → IsMonic F p → IsMonic G (map_polynomial F G f p)
  monic-map p h = leading_coefficient-map p ∙ ap f.apply h ∙ f.apply-one

  pub monic_of_map : (p : Polynomial F) → IsMonic G (map_polynomial F G f p) → IsMonic F p
  monic_of_map p h = RingMaps.apply-injective F G f (leading_coefficient F p) F.one (sym (leading_coefficient-map p) ∙ h ∙ sym f.apply-one)

  -- ---- divisors
  -- d | p gives f(d) | f(p)
  pub divides-map : (d p : Polynomial F) → Divides F d p → Divides G (map_polynomial F G f d) (map_polynomial F G f p)
  divides-map d p h = record { cofactor = m h.cofactor; equation = ap m h.equation ∙ Maps.map_polynomial-mul F G f h.cofactor d }

  -- the remainder of a division whose divisor's image divides the image of the dividend is 0
  remainder-zero : (d p q r : Polynomial F) → p ≡ R.add (R.mul q d) r → size F r < size F d → Divides G (m d) (m p) → Dec (r ≡ R.zero) → r ≡ R.zero
  remainder-zero d p q r e smaller h (yes z) = z
  remainder-zero d p q r e smaller h (no n) =
      let split : m p ≡ S.add (S.mul (m q) (m d)) (m r) = ap m e ∙ Maps.map_polynomial-add F G f (R.mul q d) r ∙ ap (λ x. S.add x (m r)) (Maps.map_polynomial-mul F G f q d) in
      let divides : Divides G (m d) (m r) = Divides.divides_of_add G (m d) (S.mul (m q) (m d)) (m r) (Divides.divides-mul G (m q) (m d)) (subst (Divides G (m d)) split h) in
      let le = Divides.size-divides G (m d) (m r) divides (Maps.map_polynomial-nonzero F G f r n) in
      let sd = Maps.size-map_polynomial F G f d in
      let sr = Maps.size-map_polynomial F G f r in
      absurd (omega (arith, le, sd, sr, smaller))

  -- f(d) | f(p) gives d | p
  pub divides_of_map : (d p : Polynomial F) → Divides G (map_polynomial F G f d) (map_polynomial F G f p) → Divides F d p
  divides_of_map d p h = by (Degree.dec_zero F d)
    where
      divided : (s : Division.Division F p d) → Divides F d p
      divided s =
          let z = remainder-zero d p s.quotient s.remainder s.is_division.equation s.is_division.smaller h (Degree.dec_zero F s.remainder) in
          record { cofactor = s.quotient; equation = s.is_division.equation ∙ ap (R.add (R.mul s.quotient d)) z ∙ R.add-zero (R.mul s.quotient d) }

      by : Dec (d ≡ R.zero) → Divides F d p
      by (yes e) =
          let z = Divides.zero_of_zero-divides G (m p) (subst (λ x. Divides G x (m p)) (ap m e ∙ Maps.map_polynomial-zero F G f) h) in
          subst (Divides F d) (sym (zero_of_map p z)) (Divides.divides-zero F d)
      by (no n) = divided (Division.divide F d n p)

  -- p = c·d gives f(p) = f(c)·f(d), and the cofactor is the only one
  pub cofactor-map : (d p : Polynomial F) → ¬ (d ≡ R.zero) → (h : Divides F d p) (d' p' : Polynomial G) → map_polynomial F G f d ≡ d' → map_polynomial F G f p ≡ p' → (k : Divides G d' p')
      → map_polynomial F G f h.cofactor ≡ k.cofactor
  cofactor-map d p n h d' p' ed ep k =
      Degree.mul_polynomials_cancel G (m d) (m h.cofactor) k.cofactor (Maps.map_polynomial-nonzero F G f d n)
      (S.mul_comm (m d) (m h.cofactor) ∙ sym (Maps.map_polynomial-mul F G f h.cofactor d) ∙ sym (ap m h.equation) ∙ ep ∙ k.equation ∙ S.mul_comm k.cofactor d' ∙ ap (λ z. S.mul z k.cofactor) (sym ed))

  -- ---- greatest common divisors
  -- f keeps what is a greatest common divisor
  is_gcd-map : (a b : Polynomial F) → IsGcd G (m (Gcd.gcd F a b)) (m a) (m b)
  is_gcd-map a b =
      let z = Gcd.gcd-bezout F a b in
      let e : m (Gcd.gcd F a b) ≡ Gcd.combination G (m z.left) (m a) (m z.right) (m b) =
      ap m z.equation ∙ Maps.map_polynomial-add F G f (R.mul z.left a) (R.mul z.right b) ∙ ap₂ S.add (Maps.map_polynomial-mul F G f z.left a) (Maps.map_polynomial-mul F G f z.right b) in
      record {
        divides_left = divides-map (Gcd.gcd F a b) a (Gcd.gcd-divides_left F a b);
        divides_right = divides-map (Gcd.gcd F a b) b (Gcd.gcd-divides_right F a b);
        greatest = λ d h k. subst (Divides G d) (sym e) (Gcd.divides-combination G d (m z.left) (m a) (m z.right) (m b) h k);
      }

  -- f(gcd(a, b)) = gcd(f(a), f(b))
  pub gcd-map : (a b : Polynomial F) → map_polynomial F G f (Gcd.gcd F a b) ≡ Gcd.gcd G (map_polynomial F G f a) (map_polynomial F G f b)
  gcd-map a b = by (Degree.dec_zero F (Gcd.gcd F a b))
    where
      by : Dec (Gcd.gcd F a b ≡ R.zero) → m (Gcd.gcd F a b) ≡ Gcd.gcd G (m a) (m b)
      by (yes e) =
          let g = is_gcd-map a b in
          let z : m (Gcd.gcd F a b) ≡ S.zero = ap m e ∙ Maps.map_polynomial-zero F G f in
          z ∙ sym (Divides.zero_of_zero-divides G (Gcd.gcd G (m a) (m b)) (subst (λ x. Divides G x (Gcd.gcd G (m a) (m b))) z (Gcd.gcd-greatest G (m a) (m b) (m (Gcd.gcd F a b)) g.divides_left g.divides_right)))
      by (no n) = Gcd.gcd_unique G (m (Gcd.gcd F a b)) (m a) (m b) (is_gcd-map a b) (monic-map (Gcd.gcd F a b) (Gcd.gcd-is_monic F a b n))

  -- f(a) and f(b) are coprime only if a and b are
  pub coprime_of_map : (a b : Polynomial F) → IsCoprime G (map_polynomial F G f a) (map_polynomial F G f b) → IsCoprime F a b
  coprime_of_map a b h =
      Gcd.coprime_of_size F a b
      (sym (Maps.size-map_polynomial F G f (Gcd.gcd F a b)) ∙ ap (size G) (gcd-map a b ∙ Gcd.gcd_of_coprime G (m a) (m b) h) ∙ Degree.size-one G)

  -- ---- square-free parts
  -- f(q_i^i·q_(i+1)^(i+1)·..) = f(q_i)^i·f(q_(i+1))^(i+1)·..
  pub product_of_powers-map : (i : ℕ) (qs : List (Polynomial F)) → map_polynomial F G f (product_of_powers F i qs) ≡ product_of_powers G i (map (map_polynomial F G f) qs)
  unfolding product_of_powers
  product_of_powers-map i [] = Maps.map_polynomial-one F G f
  product_of_powers-map i (q ∷ qs) =
      Maps.map_polynomial-mul F G f (power R q i) (product_of_powers F (suc i) qs) ∙ ap₂ S.mul (RingMaps.apply-power polynomial_map q i) (product_of_powers-map (suc i) qs)

  -- f(p) is square-free only if p is
  pub square_free_of_map : (p : Polynomial F) → IsSquareFree G (map_polynomial F G f p) → IsSquareFree F p
  square_free_of_map p h s divides =
      let e = Maps.size-map_polynomial F G f s in
      let l = h (m s) (subst (λ x. Divides G x (m p)) (Maps.map_polynomial-mul F G f s s) (divides-map (R.mul s s) p divides)) in
      omega (arith, e, l)

  -- square-free stays square-free, in characteristic 0
  pub square_free-map : HasCharacteristicZero F.ring → (p : Polynomial F) → ¬ (p ≡ R.zero) → IsSquareFree F p → IsSquareFree G (map_polynomial F G f p)
  square_free-map char p n h =
      square_free_of_coprime G (formal_derivation G) (m p)
      (subst (IsCoprime G (m p)) (map-formal_derivative F G f p) (map-coprime F G f p (formal_derivative F p) (coprime_of_square_free F char p n h)))

  coprime-each_of_map : (q : Polynomial F) (qs : List (Polynomial F)) → Each (IsCoprime G (m q)) (map m qs) → Each (IsCoprime F q) qs
  coprime-each_of_map q [] h = tt
  coprime-each_of_map q (r ∷ qs) h = (coprime_of_map q r h.0, coprime-each_of_map q qs h.1)

  coprime-each-map : (q : Polynomial F) (qs : List (Polynomial F)) → Each (IsCoprime F q) qs → Each (IsCoprime G (m q)) (map m qs)
  coprime-each-map q [] h = tt
  coprime-each-map q (r ∷ qs) h = (map-coprime F G f q r h.0, coprime-each-map q qs h.1)

  -- the images are monic, square-free and pairwise coprime only if the polynomials are
  pub are_parts_of_map : (qs : List (Polynomial F)) → AreParts G (map (map_polynomial F G f) qs) → AreParts F qs
  are_parts_of_map [] h = tt
  are_parts_of_map (q ∷ qs) h = (monic_of_map q h.0, square_free_of_map q h.1, coprime-each_of_map q qs h.2, are_parts_of_map qs h.3)

  -- and they are if the polynomials are, in characteristic 0
  pub are_parts-map : HasCharacteristicZero F.ring → (qs : List (Polynomial F)) → AreParts F qs → AreParts G (map (map_polynomial F G f) qs)
  are_parts-map char [] h = tt
  are_parts-map char (q ∷ qs) h =
      (monic-map q h.0, square_free-map char q (Gcd.monic-nonzero F q h.0) h.1, coprime-each-map q qs h.2, are_parts-map char qs h.3)

  -- ---- division and traces
  -- f(p rem d) = f(p) rem f(d)
  pub remainder-map : (d : Polynomial F) (n : ¬ (d ≡ R.zero)) (n' : ¬ (map_polynomial F G f d ≡ S.zero)) (p : Polynomial F)
      → map_polynomial F G f (Division.divide F d n p).remainder ≡ (Division.divide G (map_polynomial F G f d) n' (map_polynomial F G f p)).remainder
  remainder-map d n n' p =
      let s = Division.divide F d n p in
      let t = Division.divide G (m d) n' (m p) in
      (Division.division_unique G (m p) (m d) (m s.quotient) (m s.remainder) t.quotient t.remainder
      (record {
        equation = ap m s.is_division.equation ∙ Maps.map_polynomial-add F G f (R.mul s.quotient d) s.remainder ∙ ap (λ x. S.add x (m s.remainder)) (Maps.map_polynomial-mul F G f s.quotient d);
        smaller = let a = Maps.size-map_polynomial F G f s.remainder in let b = Maps.size-map_polynomial F G f d in let l = s.is_division.smaller in omega (arith, a, b, l);
      }) t.is_division).1

  -- the trace over L of f(u) modulo f(P) is that of u modulo P
  pub trace-map : (P : Polynomial F) (n : ¬ (P ≡ R.zero)) (n' : ¬ (map_polynomial F G f P ≡ S.zero)) (u : Polynomial F)
      → f.apply (trace F P n u) ≡ trace G (map_polynomial F G f P) n' (map_polynomial F G f u)
  unfolding trace
  trace-map P n n' u =
      RingMaps.sum_below-apply f (λ i. coefficient F (Division.divide F P n (R.mul (power R (variable F) i) u)).remainder i) (degree F P)
      ∙ Sums.sum_below-ext G.ring _ (λ i. coefficient G (Division.divide G (m P) n' (S.mul (power S (variable G) i) (m u))).remainder i) (degree F P) (λ i l. item i)
      ∙ ap (λ k. sum_below G.ring (λ i. coefficient G (Division.divide G (m P) n' (S.mul (power S (variable G) i) (m u))).remainder i) (pred k)) (sym (Maps.size-map_polynomial F G f P))
    where
      item : (i : ℕ) → f.apply (coefficient F (Division.divide F P n (R.mul (power R (variable F) i) u)).remainder i)
          ≡ coefficient G (Division.divide G (m P) n' (S.mul (power S (variable G) i) (m u))).remainder i
      item i =
          sym (Maps.coefficient-map_polynomial F G f (Division.divide F P n (R.mul (power R (variable F) i) u)).remainder i)
          ∙ ap (λ r. coefficient G r i) (remainder-map P n n' (R.mul (power R (variable F) i) u))
          ∙ ap (λ v. coefficient G (Division.divide G (m P) n' v).remainder i)
          (Maps.map_polynomial-mul F G f (power R (variable F) i) u
          ∙ ap (λ v. S.mul v (m u)) (RingMaps.apply-power polynomial_map (variable F) i ∙ ap (λ v. power S v i) (Maps.map_polynomial-variable F G f)))

  -- p_j over L for f(ρ) modulo f(d) is that for ρ modulo d
  pub power_trace-map : (d : Polynomial F) (n : ¬ (d ≡ R.zero)) (n' : ¬ (map_polynomial F G f d ≡ S.zero)) (ρ : Polynomial F) (j : ℕ)
      → f.apply (power_trace F d n ρ j) ≡ power_trace G (map_polynomial F G f d) n' (map_polynomial F G f ρ) j
  power_trace-map d n n' ρ j = trace-map d n n' (power R ρ j) ∙ ap (trace G (m d) n') (RingMaps.apply-power polynomial_map ρ j)

  -- f(p) = f(q)·f(d) + f(r) with deg f(r) < deg f(d) only if p = q·d + r with deg r < deg d
  pub division_of_map : (p d q r : Polynomial F) → IsDivision G (map_polynomial F G f p) (map_polynomial F G f d) (map_polynomial F G f q) (map_polynomial F G f r) → IsDivision F p d q r
  division_of_map p d q r h = record {
    equation = map-injective p (R.add (R.mul q d) r)
        (h.equation ∙ sym (Maps.map_polynomial-add F G f (R.mul q d) r ∙ ap (λ x. S.add x (m r)) (Maps.map_polynomial-mul F G f q d)));
    smaller = let a = Maps.size-map_polynomial F G f r in let b = Maps.size-map_polynomial F G f d in let l = h.smaller in omega (arith, a, b, l);
  }
