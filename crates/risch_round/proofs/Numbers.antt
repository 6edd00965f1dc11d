-- Polynomials over the fractions as polynomials over the elements of a field of some height: the numbers as coefficients change neither tests, nor limits, nor what is below.
use Rattle.std.specs.Prelude.{◌-◌, nat_le, nat_eq, if◌then◌else◌, fold, map}
use Rattle.std.proofs.Common.{◌≡◌, ℕ, zero, suc, ◌+◌, ◌≤◌, ◌<◌, Bool, true, false, List, [], ◌∷◌, ◌++◌, take, get_or, length, Ok, refl, sym, ◌∙◌, ap, arith}
use Rattle.std.proofs.lemmas.Bool.{le-leb}
use Rattle.std.proofs.lemmas.List.{length-map, take_all}
use Rattle.risch_frac.specs.Fraction.{Fraction}
use Rattle.risch_field.specs.Checked.{map_ok}
use Rattle.risch_field.specs.Ground.{ground}
use Rattle.risch_polynomial.specs.Poly as poly
use Rattle.risch_level.specs.Levels.{Field, field, element}
use Rattle.risch_level.specs.Accessors.{number}
use Rattle.risch_level.specs.Tower as tower
use Rattle.risch_level.specs.Tower.{Levels}
use Rattle.risch_level.specs.declared.over.Over.TheVariants.{Below}
use Rattle.risch_element_theory.specs.WholeTower.{AllWithin}
use Rattle.risch_element_theory.proofs.ElementParts.{number-element-within}

-- ---- a list that is mapped item by item
pub map_more : {A B : Type 0} (f : A → B) (xs : List A) (i : ℕ) (x : A) → i < length xs → x ≡ get_or xs i x → map f (take (i + 1) xs) ≡ map f (take i xs) ++ f x ∷ []
map_more f [] i x h is = absurd (omega arith)
map_more f (y ∷ xs) zero x h is = ap (λ z. f z ∷ []) (sym is)
map_more f (y ∷ xs) (suc i) x h is =
    let s : suc i + 1 ≡ suc (i + 1) = omega arith in
    ap (λ k. map f (take k (y ∷ xs))) s ∙ ap (λ r. f y ∷ r) (map_more f xs i x (omega arith) is)

pub map_all : {A B : Type 0} (f : A → B) (xs : List A) (i : ℕ) → length xs ≤ i → map f (take i xs) ≡ map f xs
map_all f xs i h = ap (map f) (take_all i xs h)

pub map_pushed : {A B : Type 0} (f : A → B) (xs : List A) (i : ℕ) (before next : List B) {x : A} {r : B} → before ≡ map f (take i xs) → i < length xs → x ≡ get_or xs i x → r ≡ f x → next ≡ before ++ r ∷ [] →
    next ≡ map f (take (i + 1) xs)
map_pushed f xs i before next {x} so_far below is r_is pushed = pushed ∙ rw (so_far, r_is) (sym (map_more f xs i x below is))

-- ---- one number
zero-number : (h : ℕ) (q : Fraction) → (field h).is_zero (number h q) ≡ ground.is_zero q
zero-number zero q = refl
zero-number (suc h) q = zero-number h q

weight-number : (h : ℕ) (q : Fraction) → (field h).weight (number h q) ≡ 1
weight-number zero q = refl
weight-number (suc h) q = weight-number h q

-- ---- no zero at the end
leading-numbers : (h : ℕ) (c : Fraction) (p : List Fraction) → poly.leading (field h) (number h c) (map (number h) p) ≡ map (number h) (poly.leading ground c p)
leading-numbers h c [] = ap (λ b. if b then [] else number h c ∷ []) (zero-number h c) ∙ by_test (ground.is_zero c)
  where
    by_test : (b : Bool) → (if b then [] else number h c ∷ []) ≡ map (number h) (if b then [] else c ∷ [])
    by_test true = refl
    by_test false = refl
leading-numbers h c (d ∷ p) = refl

pub trimmed-numbers : (h : ℕ) (p : List Fraction) → poly.trimmed (field h) (map (number h) p) ≡ map (number h) (poly.trimmed ground p)
trimmed-numbers h [] = refl
trimmed-numbers h (c ∷ p) = ap (poly.leading (field h) (number h c)) (trimmed-numbers h p) ∙ leading-numbers h c (poly.trimmed ground p)

-- ---- the limits
weight_in-number : (h : ℕ) (c : Fraction) → poly.weight_in (field h) (number h c) ≤ 1
weight_in-number h c = let one = weight-number h c in by_test ((field h).is_zero (number h c)) one
  where
    by_test : (b : Bool) → (field h).weight (number h c) ≡ 1 → (if b then 0 else (field h).weight (number h c)) ≤ 1
    by_test true one = omega arith
    by_test false one = omega arith

weight_from-numbers : (h a : ℕ) (p : List Fraction) → fold (λ w c. w + poly.weight_in (field h) c) a (map (number h) p) ≤ a + length p
weight_from-numbers h a [] = omega arith
weight_from-numbers h a (c ∷ p) =
    let one = weight_in-number h c in let others = weight_from-numbers h (a + poly.weight_in (field h) (number h c)) p in omega arith

-- the number of the coefficients bounds the weight
pub weight-numbers : (h : ℕ) (p : List Fraction) → poly.weight (field h) (map (number h) p) ≤ length p
weight-numbers h p = let all = weight_from-numbers h 0 p in omega arith

sized-numbers : (h : ℕ) (p : List Fraction) → length p ≤ 256 → poly.sized (field h) (map (number h) p) ≡ Ok (map (number h) p)
sized-numbers h p small =
    let bound = weight-numbers h p in
    let long = length-map p (number h) in
    let degree : nat_le (length (map (number h) p)) 256 ≡ true = le-leb (length (map (number h) p)) 256 (omega arith) in
    let weight : nat_le (poly.weight (field h) (map (number h) p)) 65536 ≡ true = le-leb (poly.weight (field h) (map (number h) p)) 65536 (omega arith) in
    rw (degree, weight) refl

-- ---- below
lowered-numbers : (h : ℕ) (p : List Fraction) → tower.lowered (field h) (map (number (suc h)) p) ≡ map (number h) p
lowered-numbers h [] = refl
lowered-numbers h (c ∷ p) = ap (λ q. number h c ∷ q) (lowered-numbers h p)

pub formed-numbers : (h : ℕ) (p : List Fraction) → poly.trimmed ground p ≡ p → length p ≤ 256 → tower.formed_below (field h) (map (number (suc h)) p) ≡ Ok (map (number h) p)
formed-numbers h p t small =
    ap (λ q. poly.sized (field h) (poly.trimmed (field h) q)) (lowered-numbers h p)
    ∙ ap (poly.sized (field h)) (trimmed-numbers h p ∙ ap (map (number h)) t)
    ∙ sized-numbers h p small

-- a quotient at a level below is formed there
pub quotient-numbers : (h down : ℕ) (l : Levels (Field h)) (n m : List Fraction) → nat_eq down 0 ≡ false →
    poly.trimmed ground n ≡ n → length n ≤ 256 → poly.trimmed ground m ≡ m → length m ≤ 256 →
    tower.quotient_at (field h) l down (map (number (suc h)) n) (map (number (suc h)) m) ≡ map_ok Below (l.quotient (down - 1) (map (number h) n) (map (number h) m))
unfolding tower.quotient_at
quotient-numbers h down l n m some tn sn tm sm =
    rw (formed-numbers h n tn sn, formed-numbers h m tm sm, some) refl

-- ---- over the whole tower
pub trimmed-elements : (p : List Fraction) → poly.trimmed ground p ≡ p → poly.trimmed element (map (number 5) p) ≡ map (number 5) p
unfolding element
trimmed-elements p t = trimmed-numbers 5 p ∙ ap (map (number 5)) t

pub degree-elements : (p : List Fraction) → poly.trimmed ground p ≡ p → length p ≤ 256 → length (poly.trimmed element (map (number 5) p)) ≤ 256
degree-elements p t small = let same = ap length (trimmed-elements p t) in let long = length-map p (number 5) in omega arith

pub weight-elements : (p : List Fraction) → length p ≤ 256 → poly.weight element (map (number 5) p) ≤ 65536
unfolding element
weight-elements p small = let bound = weight-numbers 5 p in omega arith

pub elements-within : (n : ℕ) (p : List Fraction) → AllWithin n (map (number 5) p)
elements-within n [] = tt
elements-within n (c ∷ p) = (number-element-within n c, elements-within n p)
