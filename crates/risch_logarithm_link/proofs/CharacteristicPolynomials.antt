-- The characteristic polynomial by Newton's identities, as the rule forms it from traces: it has the coefficients (-1)^i·e_i.
--     characteristic_polynomial-stands      the rule
use Rattle.std.specs.Prelude.{if◌then◌else◌, nat_le}
use Rattle.std.proofs.Common.{◌≡◌, refl, sym, ap, ap₂, ◌∙◌, ℕ, zero, suc, ◌+◌, ◌^◌, ◌≤◌, ◌<◌, Bool, true, false, not, ◌&&◌, List, [], ◌∷◌, ◌++◌, length, reverse, get_or, map, Ok, Err, arith, subst}
use Rattle.std.proofs.lemmas.List.{reverse-append, length-append, length-map}
use Rattle.risch_ring.specs.CommRing.{CommRing, Field, RingMap, HasCharacteristicZero, of_nat}
use Rattle.risch_ring.proofs.RingMaps as RingMaps
use Rattle.risch_ring.proofs.Laws as Laws
use Rattle.risch_univariate.specs.Polynomial.{Polynomial, of_list, coefficient}
use Rattle.risch_univariate.specs.PolynomialLaws.{coefficient-of_list}
use Rattle.risch_univariate.specs.Degree.{size}
use Rattle.risch_univariate.proofs.Degree as Degree
use Rattle.risch_extension.specs.PolynomialMap.{map_polynomial}
use Rattle.risch_extension.specs.SymmetricFunctions.{alternating, signed}
use Rattle.risch_mean.specs.Element as mean
use Rattle.risch_mean.specs.ElementField.{elements}
use Rattle.risch_field.specs.Checked.{and_then}
use Rattle.risch_field.proofs.CheckedSteps.{and_then-ok, if-ok}
use Rattle.risch_polynomial.specs.Poly as poly
use Rattle.risch_polynomial_theory.specs.Meaning.{AllValid}
use Rattle.risch_level.specs.Levels.{Element, element}
use Rattle.risch_element_theory.specs.PolynomialMeaning.{polynomial_of}
use Rattle.risch_element_theory.specs.WholeTower.{IsElement, meaning, polynomial}
use Rattle.risch_element_theory.proofs.ElementPolynomials as Polynomials
use Rattle.risch_element_theory.proofs.ElementPolynomials.{element_interprets}
use Rattle.risch_logarithm_theory.proofs.MappedPolynomials as Mapped
use Rattle.risch_logarithm_rules.specs.Newton as rule
use Rattle.risch_logarithm_rules.specs.Newton.{inverse_of, alternating_sum, next_symmetric, symmetrics_from, characteristic_polynomial}
use Rattle.risch_logarithm_link.proofs.FirstMembers.{trimmed-short}
use Rattle.risch_logarithm_link.proofs.NewtonCoefficients.{inverse_of-is_element, inverse_of-mul, symmetric, symmetric-zero, symmetric-newton, parity, parity-suc, alternating-push, IsImage, Descends, Ascends, negative-image, IsSum, sum-is}
use Rattle.risch_logarithm_link.proofs.StandingPolynomials.{StandsFor}

-- the list without zeros at its end, where it is within its limits
sized-ok : (p r : List Element) → poly.sized element p ≡ Ok r → p ≡ r
sized-ok p r e = if-ok (nat_le (length p) 256 && nat_le (poly.weight element p) 65536) p r e

module _ {A : Type 0} (F : Field A) (f : RingMap F.ring elements.ring) (char : HasCharacteristicZero F.ring) (P : ℕ → A) where
  -- e_i
  abbrev E : ℕ → A
  E = symmetric F P

  -- (-1)^i·e_i
  abbrev SE : ℕ → A
  SE i = signed F.ring i (symmetric F P i)

  -- ---- the next e_i
  next-is : (n : ℕ) (es ps : List Element) (x : Element) → length es ≡ suc n → suc n < 2 ^ 16 → Descends F f (symmetric F P) n (reverse es) → Ascends F f P n ps → next_symmetric es ps ≡ Ok x
      → IsImage F f x (symmetric F P (suc n))
  unfolding next_symmetric
  next-is n es ps x l small h k is =
      let a = and_then-ok (alternating_sum false element.zero (reverse es) ps) (λ s. element.product (inverse_of (length es)) s) x is in
      of_sum a.value (sum-is F f n E P false element.zero a.value (reverse es) ps h k element_interprets.zero-valid a.is) (subst (λ i. element.product (inverse_of i) a.value ≡ Ok x) l a.next)
    where
      of_sum : (s : Element) → IsSum F f false element.zero s (alternating F.ring (symmetric F P) P n) → element.product (inverse_of (suc n)) s ≡ Ok x → IsImage F f x (symmetric F P (suc n))
      of_sum s t next =
          let v = inverse_of-is_element (suc n) (omega arith) small in
          record {
            normal = element_interprets.product-valid (inverse_of (suc n)) s x v t.normal next;
            image = sym
                (element_interprets.product-means (inverse_of (suc n)) s x v t.normal next
                ∙ ap (mean.mul (meaning (inverse_of (suc n))))
                (t.sum ∙ ap (λ (z : mean.Element). mean.add z (f.apply (alternating F.ring E P n))) element_interprets.zero-means ∙ Laws.zero-add elements.ring (f.apply (alternating F.ring E P n))
                ∙ ap f.apply (sym (symmetric-newton F P char n)) ∙ f.apply-mul (of_nat F.ring (suc n)) (E (suc n)) ∙ ap (λ (z : mean.Element). mean.mul z (f.apply (E (suc n)))) (RingMaps.apply-of_nat f (suc n)))
                ∙ sym (elements.mul_assoc (meaning (inverse_of (suc n))) (of_nat elements.ring (suc n)) (f.apply (E (suc n))))
                ∙ ap (λ (z : mean.Element). mean.mul z (f.apply (E (suc n)))) (inverse_of-mul (suc n) (omega arith) small) ∙ Laws.one-mul elements.ring (f.apply (E (suc n))));
          }

  -- ---- all of them
  -- the image of (-1)^n·y
  sign-image : (n : ℕ) (x : Element) (y : A) → IsImage F f x y → IsImage F f (poly.signed element (parity false n) x) (signed F.ring n y)
  unfolding parity
  sign-image zero x y h = h
  sign-image (suc n) x y h = subst (λ b. IsImage F f (poly.signed element b x) (signed F.ring (suc n) y)) (sym (parity-suc false n)) (other (parity false n) (signed F.ring n y) (sign-image n x y h))
    where
      other : (b : Bool) (v : A) → IsImage F f (poly.signed element b x) v → IsImage F f (poly.signed element (not b) x) (F.neg v)
      other false v k = negative-image F f x v k
      other true v k = record {
        normal = h.normal;
        image = RingMaps.apply-neg f v ∙ ap mean.neg (k.image ∙ element_interprets.negative-means x h.normal) ∙ Laws.neg-neg elements.ring (meaning x);
      }

  -- e_0, .., e_n, and e_0, -e_1, .., from the last one back
  record AreSymmetric (n : ℕ) (es : List Element) : Type 0 where
    long : length es ≡ suc n
    down : Descends F f (symmetric F P) n (reverse es)
    down_signed : Descends F f (λ i. signed F.ring i (symmetric F P i)) n (reverse (rule.alternating false es))

  pushed : (n : ℕ) (es : List Element) (x : Element) → AreSymmetric n es → IsImage F f x (symmetric F P (suc n)) → AreSymmetric (suc n) (es ++ x ∷ [])
  pushed n es x h k = record {
    long = let l = h.long in omega (arith, length-append es (x ∷ []), l);
    down = subst (Descends F f E (suc n)) (sym (reverse-append es (x ∷ []))) (k, h.down);
    down_signed = subst (Descends F f SE (suc n))
        (sym (ap reverse (alternating-push false es x) ∙ reverse-append (rule.alternating false es) (poly.signed element (parity false (length es)) x ∷ [])))
        (subst (λ j. IsImage F f (poly.signed element (parity false j) x) (SE (suc n))) (sym h.long) (sign-image (suc n) x (E (suc n)) k), h.down_signed);
  }

  -- the traces from the first on
  abbrev pub AreTraces : List Element → Type 0
  AreTraces ps = (i : ℕ) → i < length ps → IsImage F f (get_or ps i element.zero) (P i)

  ascend : (Q : ℕ → A) (n : ℕ) (ps : List Element) → n < length ps → ((i : ℕ) → i < length ps → IsImage F f (get_or ps i element.zero) (Q i)) → Ascends F f Q n ps
  ascend Q n [] l h = absurd (omega (arith, l))
  ascend Q zero (p ∷ ps) l h = h 0 (omega arith)
  ascend Q (suc n) (p ∷ ps) l h = (h 0 (omega arith), ascend (λ j. Q (suc j)) n ps (omega (arith, l)) (λ i k. h (suc i) (omega (arith, k))))

  symmetrics-are : (steps n : ℕ) (es ps r : List Element) → n + steps ≡ length ps → length ps ≤ 255 → AreTraces ps → AreSymmetric n es → symmetrics_from steps es ps ≡ Ok r → AreSymmetric (length ps) r
  symmetrics-are zero n es ps r l small h k is =
      let same : es ≡ r = cc in
      let last : n ≡ length ps = omega (arith, l) in
      subst (λ i. AreSymmetric i r) last (subst (AreSymmetric n) same k)
  symmetrics-are (suc steps) n es ps r l small h k is =
      let s = and_then-ok (next_symmetric es ps) (λ e. symmetrics_from steps (es ++ e ∷ []) ps) r is in
      symmetrics-are steps (suc n) (es ++ s.value ∷ []) ps r (omega (arith, l)) small h
      (pushed n es s.value k (next-is n es ps s.value k.long (omega (arith, l, small)) k.down (ascend P n ps (omega (arith, l)) h) s.is)) s.next

  start : AreSymmetric 0 (element.one ∷ [])
  start = record { long = refl; down = (one, refl); down_signed = (one, refl) }
    where
      one : IsImage F f element.one (symmetric F P 0)
      one = record { normal = element_interprets.one-valid; image = ap f.apply (symmetric-zero F P) ∙ f.apply-one ∙ sym element_interprets.one-means }

  -- ---- the polynomial
  -- E(n), .., E(0)
  descending : (ℕ → A) → ℕ → List A
  descending G zero = G 0 ∷ []
  descending G (suc n) = G (suc n) ∷ descending G n

  length-descending : (G : ℕ → A) (n : ℕ) → length (descending G n) ≡ suc n
  unfolding descending
  length-descending G zero = refl
  length-descending G (suc n) = ap suc (length-descending G n)

  descending-at : (G : ℕ → A) (n k i : ℕ) → k + i ≡ n → get_or (descending G n) k F.zero ≡ G i
  unfolding descending
  descending-at G zero zero i e = ap G (omega (arith, e))
  descending-at G zero (suc k) i e = absurd (omega (arith, e))
  descending-at G (suc n) zero i e = ap G (omega (arith, e))
  descending-at G (suc n) (suc k) i e = descending-at G n k i (omega (arith, e))

  descending-images : (G : ℕ → A) (n : ℕ) (cs : List Element) → Descends F f G n cs → (map f.apply (descending G n) ≡ map meaning cs) × AllValid IsElement cs
  unfolding descending
  descending-images G n [] h = absurd h
  descending-images G zero (c ∷ []) h = let e = h.0.image in (ap (λ (z : mean.Element). z ∷ []) e, (h.0.normal, tt))
  descending-images G zero (c ∷ (d ∷ cs)) h = absurd (let z = h.1 in cc)
  descending-images G (suc n) (c ∷ cs) h =
      let rest = descending-images G n cs h.1 in
      (ap₂ (λ (z : mean.Element) (l : List mean.Element). z ∷ l) h.0.image rest.0, (h.0.normal, rest.1))

  descends-length : (G : ℕ → A) (n : ℕ) (cs : List Element) → Descends F f G n cs → length cs ≡ suc n
  descends-length G n cs h = sym (length-map cs meaning) ∙ ap length (sym (descending-images G n cs h).0) ∙ length-map (descending G n) f.apply ∙ length-descending G n

  -- C has the coefficients (-1)^i·e_i
  pub record IsStandingCharacteristic (m : ℕ) (C : List Element) : Type 0 where
    pub polynomial_of : Polynomial F
    pub stands : StandsFor F f C polynomial_of
    pub coefficients : (k i : ℕ) → k + i ≡ m → coefficient F polynomial_of k ≡ signed F.ring i (symmetric F P i)
    pub size-le : size F polynomial_of ≤ suc m

  formed-stands : (m : ℕ) (cs C : List Element) → m ≤ 255 → Descends F f (λ i. signed F.ring i (symmetric F P i)) m cs → poly.sized element (poly.trimmed element cs) ≡ Ok C → IsStandingCharacteristic m C
  unfolding polynomial_of
  formed-stands m cs C small h is =
      let same = sized-ok (poly.trimmed element cs) C is in
      let images = descending-images SE m cs h in
      let long = descends-length SE m cs h in
      record {
        polynomial_of = of_list F (descending SE m);
        stands = record {
          kept = Polynomials.trimmed-is_polynomial cs C images.1 (let l = trimmed-short cs in omega (arith, l, long, small)) (sym same);
          image = Mapped.map-of_list F elements f (descending SE m) ∙ ap (of_list elements) images.0 ∙ sym (Polynomials.trimmed-stands cs C images.1 (sym same));
        };
        coefficients = λ k i e. coefficient-of_list F (descending SE m) k ∙ descending-at SE m k i e;
        size-le = Degree.size-le F (of_list F (descending SE m)) (suc m) (λ i l. coefficient-of_list F (descending SE m) i ∙ past (descending SE m) i (let n = length-descending SE m in omega (arith, n, l)));
      }
    where
      past : (l : List A) (i : ℕ) → length l ≤ i → get_or l i F.zero ≡ F.zero
      past [] i k = refl
      past (x ∷ l) zero k = absurd (omega (arith, k))
      past (x ∷ l) (suc i) k = past l i (omega (arith, k))

  -- the rule, from the traces p_1, .., p_m
  pub characteristic_polynomial-stands : (ps C : List Element) → length ps ≤ 255 → ((i : ℕ) → i < length ps → IsImage F f (get_or ps i element.zero) (P i)) → characteristic_polynomial ps ≡ Ok C
      → IsStandingCharacteristic (length ps) C
  unfolding characteristic_polynomial
  characteristic_polynomial-stands ps C small h is =
      let s = and_then-ok (symmetrics_from (length ps) (element.one ∷ []) ps) (λ es. poly.sized element (poly.trimmed element (reverse (rule.alternating false es)))) C is in
      let k = symmetrics-are (length ps) 0 (element.one ∷ []) ps s.value (omega arith) small h start s.is in
      formed-stands (length ps) (reverse (rule.alternating false s.value)) C small k.down_signed s.next
