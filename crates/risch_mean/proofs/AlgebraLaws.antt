-- The laws of the algebra of polynomials modulo a monic one.
--     times_mod_comm, times_mod_assoc, times_mod-one, inverse_unique      the laws of a commutative ring, for members
--     remainder-add, remainder-mul, remainder-modulus      taking the remainder is a ring map from polynomials to members, and the modulus is taken to 0
use Rattle.std.specs.Prelude.{◌≡◌, refl, ℕ, zero as nat_zero, suc, ◌≤◌, ◌<◌, List, [], ◌∷◌, length}
use Rattle.std.proofs.Common.{sym, ap, ap₂, ◌∙◌, arith}
use Rattle.risch_ring.specs.CommRing.{CommRing}
use Rattle.risch_ring.proofs.Expression.{reading}
use Rattle.risch_ring.proofs.Solver.{ring}
use Rattle.risch_ring.proofs.Laws as Laws
use Rattle.risch_mean.specs.Univariate.{coefficient_at, add_lists, scale, mul_lists}
use Rattle.risch_mean.specs.Algebra.{last, shifted, times_z, zeros, remainder, times_mod, one_mod, IsInverse, with_leading_one}

module _ {A : Type 0} (R : CommRing A) where
  open R use {zero as 𝟘, one as 𝟙, add as ◌+◌, mul as ◌*◌, neg as -◌}

  infixl 60 ◌+◌
  infixl 70 ◌*◌
  infix 80 -◌
  -- ---- lengths
  length-add_lists : (u v : List A) → length u ≡ length v → length (add_lists R u v) ≡ length v
  length-add_lists [] v h = refl
  length-add_lists (c ∷ u) [] h = absurd (omega arith)
  length-add_lists (c ∷ u) (d ∷ v) h = omega (arith, length-add_lists u v (omega arith))

  length-scale : (a : A) (u : List A) → length (scale R a u) ≡ length u
  length-scale a [] = refl
  length-scale a (c ∷ u) = omega (arith, length-scale a u)

  length-shifted : (a : A) (u : List A) → length (shifted R a u) ≡ length u
  length-shifted a [] = refl
  length-shifted a (c ∷ u) = omega (arith, length-shifted c u)

  length-zeros : (r : List A) → length (zeros R r) ≡ length r
  length-zeros [] = refl
  length-zeros (c ∷ r) = omega (arith, length-zeros r)

  length-times_z : (r u : List A) → length u ≡ length r → length (times_z R r u) ≡ length r
  length-times_z r u h =
      length-add_lists (shifted R 𝟘 u) (scale R (- last R u) r) (length-shifted 𝟘 u ∙ h ∙ sym (length-scale (- last R u) r)) ∙ length-scale (- last R u) r

  pub length-times_mod : (r u v : List A) → length v ≡ length r → length (times_mod R r u v) ≡ length r
  length-times_mod r [] v h = length-zeros r
  length-times_mod r (c ∷ u) v h =
      let k = length-times_z r (times_mod R r u v) (length-times_mod r u v h) in
      length-add_lists (scale R c v) (times_z R r (times_mod R r u v)) (length-scale c v ∙ h ∙ sym k) ∙ k

  length-one_mod : (r : List A) → length (one_mod R r) ≡ length r
  length-one_mod [] = refl
  length-one_mod (c ∷ r) = omega (arith, length-zeros r)

  -- ---- sums and scalar products of lists
  add_lists_exchange : (u v w x : List A) → length u ≡ length v → length v ≡ length w → length w ≡ length x →
      add_lists R (add_lists R u v) (add_lists R w x) ≡ add_lists R (add_lists R u w) (add_lists R v x)
  add_lists_exchange [] [] [] [] h k l = refl
  add_lists_exchange [] [] [] (d ∷ x) h k l = absurd (omega arith)
  add_lists_exchange [] [] (c ∷ w) x h k l = absurd (omega arith)
  add_lists_exchange [] (b ∷ v) w x h k l = absurd (omega arith)
  add_lists_exchange (a ∷ u) [] w x h k l = absurd (omega arith)
  add_lists_exchange (a ∷ u) (b ∷ v) [] x h k l = absurd (omega arith)
  add_lists_exchange (a ∷ u) (b ∷ v) (c ∷ w) [] h k l = absurd (omega arith)
  add_lists_exchange (a ∷ u) (b ∷ v) (c ∷ w) (d ∷ x) h k l = ap₂ ◌∷◌ (exchange a b c d) (add_lists_exchange u v w x (omega arith) (omega arith) (omega arith))
    where
      exchange : (a b c d : A) → a + b + (c + d) ≡ a + c + (b + d)
      exchange a b c d = ring R (a ∷ b ∷ c ∷ d ∷ []) (search reading depth 20) refl

  scale-add_lists : (a : A) (u v : List A) → scale R a (add_lists R u v) ≡ add_lists R (scale R a u) (scale R a v)
  scale-add_lists a [] v = refl
  scale-add_lists a (c ∷ u) [] = refl
  scale-add_lists a (c ∷ u) (d ∷ v) = ap₂ ◌∷◌ (R.mul-add a c d) (scale-add_lists a u v)

  scale-scale : (a b : A) (u : List A) → scale R a (scale R b u) ≡ scale R (a * b) u
  scale-scale a b [] = refl
  scale-scale a b (c ∷ u) = ap₂ ◌∷◌ (sym (R.mul_assoc a b c)) (scale-scale a b u)

  scale_sum : (a b : A) (u : List A) → scale R (a + b) u ≡ add_lists R (scale R a u) (scale R b u)
  scale_sum a b [] = refl
  scale_sum a b (c ∷ u) = ap₂ ◌∷◌ (spread a b c) (scale_sum a b u)
    where
      spread : (a b c : A) → (a + b) * c ≡ a * c + b * c
      spread a b c = ring R (a ∷ b ∷ c ∷ []) (search reading depth 20) refl

  -- ---- z acts linearly
  last-add_lists : (u v : List A) → length u ≡ length v → last R (add_lists R u v) ≡ last R u + last R v
  last-add_lists [] [] h = sym (R.add-zero 𝟘)
  last-add_lists [] (d ∷ v) h = absurd (omega arith)
  last-add_lists (c ∷ u) [] h = absurd (omega arith)
  last-add_lists (c ∷ []) (d ∷ []) h = refl
  last-add_lists (c ∷ []) (d ∷ e ∷ v) h = absurd (omega arith)
  last-add_lists (c ∷ e ∷ u) (d ∷ []) h = absurd (omega arith)
  last-add_lists (c ∷ e ∷ u) (d ∷ f ∷ v) h = last-add_lists (e ∷ u) (f ∷ v) (omega arith)

  last-scale : (a : A) (u : List A) → last R (scale R a u) ≡ a * last R u
  last-scale a [] = nothing a
    where
      nothing : (a : A) → 𝟘 ≡ a * 𝟘
      nothing a = ring R (a ∷ []) (search reading depth 20) refl
  last-scale a (c ∷ []) = refl
  last-scale a (c ∷ d ∷ u) = last-scale a (d ∷ u)

  shifted-add_lists : (a b : A) (u v : List A) → length u ≡ length v → shifted R (a + b) (add_lists R u v) ≡ add_lists R (shifted R a u) (shifted R b v)
  shifted-add_lists a b [] [] h = refl
  shifted-add_lists a b [] (d ∷ v) h = absurd (omega arith)
  shifted-add_lists a b (c ∷ u) [] h = absurd (omega arith)
  shifted-add_lists a b (c ∷ u) (d ∷ v) h = ap (λ (l : List A). (a + b) ∷ l) (shifted-add_lists c d u v (omega arith))

  shifted-scale : (a b : A) (u : List A) → shifted R (a * b) (scale R a u) ≡ scale R a (shifted R b u)
  shifted-scale a b [] = refl
  shifted-scale a b (c ∷ u) = ap (λ (l : List A). (a * b) ∷ l) (shifted-scale a c u)

  times_z-add_lists : (r u v : List A) → length u ≡ length r → length v ≡ length r → times_z R r (add_lists R u v) ≡ add_lists R (times_z R r u) (times_z R r v)
  times_z-add_lists r u v h k =
      ap₂ (add_lists R)
      (ap (λ a. shifted R a (add_lists R u v)) (sym (R.add-zero 𝟘)) ∙ shifted-add_lists 𝟘 𝟘 u v (h ∙ sym k))
      (ap (λ a. scale R a r) (ap R.neg (last-add_lists u v (h ∙ sym k)) ∙ negative (last R u) (last R v)) ∙ scale_sum (- last R u) (- last R v) r)
      ∙ add_lists_exchange (shifted R 𝟘 u) (shifted R 𝟘 v) (scale R (- last R u) r) (scale R (- last R v) r)
      (length-shifted 𝟘 u ∙ h ∙ sym (length-shifted 𝟘 v ∙ k)) (length-shifted 𝟘 v ∙ k ∙ sym (length-scale (- last R u) r)) (length-scale (- last R u) r ∙ sym (length-scale (- last R v) r))
    where
      negative : (a b : A) → - (a + b) ≡ - a + - b
      negative a b = ring R (a ∷ b ∷ []) (search reading depth 20) refl

  times_z-scale : (r : List A) (a : A) (u : List A) → times_z R r (scale R a u) ≡ scale R a (times_z R r u)
  times_z-scale r a u =
      ap₂ (add_lists R)
      (ap (λ b. shifted R b (scale R a u)) (nothing a) ∙ shifted-scale a 𝟘 u)
      (ap (λ b. scale R b r) (ap R.neg (last-scale a u) ∙ out a (last R u)) ∙ sym (scale-scale a (- last R u) r))
      ∙ sym (scale-add_lists a (shifted R 𝟘 u) (scale R (- last R u) r))
    where
      nothing : (a : A) → 𝟘 ≡ a * 𝟘
      nothing a = ring R (a ∷ []) (search reading depth 20) refl

      out : (a b : A) → - (a * b) ≡ a * - b
      out a b = ring R (a ∷ b ∷ []) (search reading depth 20) refl

  -- ---- zeros
  scale-zeros-add : (a : A) (r v : List A) → length v ≡ length r → add_lists R (scale R a (zeros R r)) v ≡ v
  scale-zeros-add a [] v h = refl
  scale-zeros-add a (c ∷ r) [] h = absurd (omega arith)
  scale-zeros-add a (c ∷ r) (d ∷ v) h = ap₂ ◌∷◌ (nothing a d) (scale-zeros-add a r v (omega arith))
    where
      nothing : (a d : A) → a * 𝟘 + d ≡ d
      nothing a d = ring R (a ∷ d ∷ []) (search reading depth 20) refl

  add-scale_zero : (r v : List A) → length v ≡ length r → add_lists R v (scale R (- 𝟘) r) ≡ v
  add-scale_zero [] [] h = refl
  add-scale_zero [] (d ∷ v) h = absurd (omega arith)
  add-scale_zero (c ∷ r) [] h = absurd (omega arith)
  add-scale_zero (c ∷ r) (d ∷ v) h = ap₂ ◌∷◌ (nothing c d) (add-scale_zero r v (omega arith))
    where
      nothing : (c d : A) → d + - 𝟘 * c ≡ d
      nothing c d = ring R (c ∷ d ∷ []) (search reading depth 20) refl

  zeros-add : (r : List A) → add_lists R (zeros R r) (zeros R r) ≡ zeros R r
  zeros-add [] = refl
  zeros-add (c ∷ r) = ap₂ ◌∷◌ (R.add-zero 𝟘) (zeros-add r)

  scale-zeros : (a : A) (r : List A) → scale R a (zeros R r) ≡ zeros R r
  scale-zeros a [] = refl
  scale-zeros a (c ∷ r) = ap₂ ◌∷◌ (nothing a) (scale-zeros a r)
    where
      nothing : (a : A) → a * 𝟘 ≡ 𝟘
      nothing a = ring R (a ∷ []) (search reading depth 20) refl

  last-zeros : (r : List A) → last R (zeros R r) ≡ 𝟘
  last-zeros [] = refl
  last-zeros (c ∷ []) = refl
  last-zeros (c ∷ d ∷ r) = last-zeros (d ∷ r)

  shifted-zeros : (r : List A) → shifted R 𝟘 (zeros R r) ≡ zeros R r
  shifted-zeros [] = refl
  shifted-zeros (c ∷ r) = ap (λ (l : List A). 𝟘 ∷ l) (shifted-zeros r)

  -- where the last coefficient is 0, z shifts
  times_z-shifts : (r u : List A) → length u ≡ length r → last R u ≡ 𝟘 → times_z R r u ≡ shifted R 𝟘 u
  times_z-shifts r u h e = ap (λ a. add_lists R (shifted R 𝟘 u) (scale R (- a) r)) e ∙ add-scale_zero r (shifted R 𝟘 u) (length-shifted 𝟘 u ∙ h)

  times_z-zeros : (r : List A) → times_z R r (zeros R r) ≡ zeros R r
  times_z-zeros r = times_z-shifts r (zeros R r) (length-zeros r) (last-zeros r) ∙ shifted-zeros r

  -- ---- multiplication is linear, and commutes with z
  times_mod-add_lists : (r u v w : List A) → length v ≡ length r → length w ≡ length r → times_mod R r u (add_lists R v w) ≡ add_lists R (times_mod R r u v) (times_mod R r u w)
  times_mod-add_lists r [] v w h k = sym (zeros-add r)
  times_mod-add_lists r (c ∷ u) v w h k =
      ap₂ (add_lists R) (scale-add_lists c v w)
      (ap (times_z R r) (times_mod-add_lists r u v w h k) ∙ times_z-add_lists r (times_mod R r u v) (times_mod R r u w) (length-times_mod r u v h) (length-times_mod r u w k))
      ∙ add_lists_exchange (scale R c v) (scale R c w) (times_z R r (times_mod R r u v)) (times_z R r (times_mod R r u w))
      (length-scale c v ∙ h ∙ sym (length-scale c w ∙ k)) (length-scale c w ∙ k ∙ sym (length-times_z r (times_mod R r u v) (length-times_mod r u v h)))
      (length-times_z r (times_mod R r u v) (length-times_mod r u v h) ∙ sym (length-times_z r (times_mod R r u w) (length-times_mod r u w k)))

  times_mod-scale : (r u : List A) (a : A) (v : List A) → times_mod R r u (scale R a v) ≡ scale R a (times_mod R r u v)
  times_mod-scale r [] a v = sym (scale-zeros a r)
  times_mod-scale r (c ∷ u) a v =
      ap₂ (add_lists R) (scale-scale c a v ∙ ap (λ b. scale R b v) (R.mul_comm c a) ∙ sym (scale-scale a c v))
      (ap (times_z R r) (times_mod-scale r u a v) ∙ times_z-scale r a (times_mod R r u v))
      ∙ sym (scale-add_lists a (scale R c v) (times_z R r (times_mod R r u v)))

  times_mod-times_z : (r u v : List A) → length v ≡ length r → times_mod R r u (times_z R r v) ≡ times_z R r (times_mod R r u v)
  times_mod-times_z r [] v h = sym (times_z-zeros r)
  times_mod-times_z r (c ∷ u) v h =
      ap₂ (add_lists R) (sym (times_z-scale r c v)) (ap (times_z R r) (times_mod-times_z r u v h))
      ∙ sym (times_z-add_lists r (scale R c v) (times_z R r (times_mod R r u v)) (length-scale c v ∙ h) (length-times_z r (times_mod R r u v) (length-times_mod r u v h)))

  times_mod-zeros : (r u : List A) → times_mod R r u (zeros R r) ≡ zeros R r
  times_mod-zeros r [] = refl
  times_mod-zeros r (c ∷ u) = ap₂ (add_lists R) (scale-zeros c r) (ap (times_z R r) (times_mod-zeros r u) ∙ times_z-zeros r) ∙ zeros-add r

  times_mod_left_comm : (r u v w : List A) → length w ≡ length r → times_mod R r u (times_mod R r v w) ≡ times_mod R r v (times_mod R r u w)
  times_mod_left_comm r [] v w h = sym (times_mod-zeros r v)
  times_mod_left_comm r (c ∷ u) v w h =
      let k = length-times_mod r u w h in
      ap₂ (add_lists R) (sym (times_mod-scale r v c w)) (ap (times_z R r) (times_mod_left_comm r u v w h) ∙ sym (times_mod-times_z r v (times_mod R r u w) k))
      ∙ sym (times_mod-add_lists r v (scale R c w) (times_z R r (times_mod R r u w)) (length-scale c w ∙ h) (length-times_z r (times_mod R r u w) k))

  -- ---- u·1 = u
  -- u with zeros at its end, as long as r
  abbrev padded : List A → List A → List A
  padded r [] = zeros R r
  padded [] (c ∷ u) = []
  padded (d ∷ r) (c ∷ u) = c ∷ padded r u

  padded_whole : (r u : List A) → length u ≡ length r → padded r u ≡ u
  padded_whole [] [] h = refl
  padded_whole (d ∷ r) [] h = absurd (omega arith)
  padded_whole [] (c ∷ u) h = absurd (omega arith)
  padded_whole (d ∷ r) (c ∷ u) h = ap (λ (l : List A). c ∷ l) (padded_whole r u (omega arith))

  length-padded : (r u : List A) → length (padded r u) ≡ length r
  length-padded r [] = length-zeros r
  length-padded [] (c ∷ u) = refl
  length-padded (d ∷ r) (c ∷ u) = omega (arith, length-padded r u)

  last-padded : (r u : List A) → length u < length r → last R (padded r u) ≡ 𝟘
  last-padded r [] h = last-zeros r
  last-padded [] (c ∷ u) h = absurd (omega arith)
  last-padded (d ∷ []) (c ∷ u) h = absurd (omega arith)
  last-padded (d ∷ e ∷ r) (c ∷ []) h = last-zeros (e ∷ r)
  last-padded (d ∷ e ∷ r) (c ∷ b ∷ u) h = last-padded (e ∷ r) (b ∷ u) (omega arith)

  shifted-padded : (a d : A) (r u : List A) → length u ≤ length r → shifted R a (padded (d ∷ r) u) ≡ a ∷ padded r u
  shifted-padded a d r [] h = ap (λ (l : List A). a ∷ l) (shifted-zeros r)
  shifted-padded a d [] (c ∷ u) h = absurd (omega arith)
  shifted-padded a d (e ∷ r) (c ∷ u) h = ap (λ (l : List A). a ∷ l) (shifted-padded c e r u (omega arith))

  times_mod-one_padded : (r u : List A) → length u ≤ length r → times_mod R r u (one_mod R r) ≡ padded r u
  times_mod-one_padded r [] h = refl
  times_mod-one_padded [] (c ∷ u) h = absurd (omega arith)
  times_mod-one_padded (d ∷ r) (c ∷ u) h =
      ap (λ l. add_lists R (scale R c (one_mod R (d ∷ r))) l)
      (ap (times_z R (d ∷ r)) (times_mod-one_padded (d ∷ r) u (omega arith))
      ∙ times_z-shifts (d ∷ r) (padded (d ∷ r) u) (length-padded (d ∷ r) u) (last-padded (d ∷ r) u (omega arith)) ∙ shifted-padded 𝟘 d r u (omega arith))
      ∙ ap₂ ◌∷◌ (once c) (scale-zeros-add c r (padded r u) (length-padded r u))
    where
      once : (c : A) → c * 𝟙 + 𝟘 ≡ c
      once c = ring R (c ∷ []) (search reading depth 20) refl

  pub times_mod-one : (r u : List A) → length u ≡ length r → times_mod R r u (one_mod R r) ≡ u
  times_mod-one r u h = times_mod-one_padded r u (omega arith) ∙ padded_whole r u h

  -- ---- the laws of a commutative ring
  pub times_mod_comm : (r u v : List A) → length u ≡ length r → length v ≡ length r → times_mod R r u v ≡ times_mod R r v u
  times_mod_comm r u v h k = ap (times_mod R r u) (sym (times_mod-one r v k)) ∙ times_mod_left_comm r u v (one_mod R r) (length-one_mod r) ∙ ap (times_mod R r v) (times_mod-one r u h)

  -- for a polynomial u of any degree and members v and w
  pub times_mod_assoc : (r u v w : List A) → length v ≡ length r → length w ≡ length r → times_mod R r (times_mod R r u v) w ≡ times_mod R r u (times_mod R r v w)
  times_mod_assoc r u v w k l =
      times_mod_comm r (times_mod R r u v) w (length-times_mod r u v k) l ∙ times_mod_left_comm r w u v k ∙ ap (times_mod R r u) (times_mod_comm r w v l k)

  -- there is at most one inverse
  pub inverse_unique : (r u v w : List A) → IsInverse R r u v → IsInverse R r u w → v ≡ w
  inverse_unique r u v w a b =
      sym (times_mod-one r v a.member) ∙ ap (times_mod R r v) (sym b.is) ∙ times_mod_left_comm r v u w b.member
      ∙ sym (times_mod_assoc r u v w a.member b.member) ∙ ap (λ l. times_mod R r l w) a.is
      ∙ times_mod_comm r (one_mod R r) w (length-one_mod r) b.member ∙ times_mod-one r w b.member

  -- ---- from polynomials to members: a ring map whose kernel contains R
  scale_zero : (r v : List A) → length v ≡ length r → scale R 𝟘 v ≡ zeros R r
  scale_zero [] [] h = refl
  scale_zero [] (d ∷ v) h = absurd (omega arith)
  scale_zero (c ∷ r) [] h = absurd (omega arith)
  scale_zero (c ∷ r) (d ∷ v) h = ap₂ ◌∷◌ (Laws.zero-mul R d) (scale_zero r v (omega arith))

  zeros_left : (r v : List A) → length v ≡ length r → add_lists R (zeros R r) v ≡ v
  zeros_left [] v h = refl
  zeros_left (c ∷ r) [] h = absurd (omega arith)
  zeros_left (c ∷ r) (d ∷ v) h = ap₂ ◌∷◌ (Laws.zero-add R d) (zeros_left r v (omega arith))

  add_lists_comm : (u v : List A) → length u ≡ length v → add_lists R u v ≡ add_lists R v u
  add_lists_comm [] [] h = refl
  add_lists_comm [] (d ∷ v) h = absurd (omega arith)
  add_lists_comm (c ∷ u) [] h = absurd (omega arith)
  add_lists_comm (c ∷ u) (d ∷ v) h = ap₂ ◌∷◌ (R.add_comm c d) (add_lists_comm u v (omega arith))

  -- p(z)·v for the sum, a multiple and a product of polynomials p of any degree
  polynomial-add-times : (r p q v : List A) → length v ≡ length r → times_mod R r (add_lists R p q) v ≡ add_lists R (times_mod R r p v) (times_mod R r q v)
  polynomial-add-times r [] q v h = sym (zeros_left r (times_mod R r q v) (length-times_mod r q v h))
  polynomial-add-times r (c ∷ p) [] v h =
      sym (add_lists_comm (times_mod R r (c ∷ p) v) (zeros R r) (length-times_mod r (c ∷ p) v h ∙ sym (length-zeros r)) ∙ zeros_left r (times_mod R r (c ∷ p) v) (length-times_mod r (c ∷ p) v h))
  polynomial-add-times r (c ∷ p) (d ∷ q) v h =
      ap₂ (add_lists R) (scale_sum c d v)
      (ap (times_z R r) (polynomial-add-times r p q v h) ∙ times_z-add_lists r (times_mod R r p v) (times_mod R r q v) (length-times_mod r p v h) (length-times_mod r q v h))
      ∙ add_lists_exchange (scale R c v) (scale R d v) (times_z R r (times_mod R r p v)) (times_z R r (times_mod R r q v))
      (length-scale c v ∙ sym (length-scale d v)) (length-scale d v ∙ h ∙ sym (length-times_z r (times_mod R r p v) (length-times_mod r p v h)))
      (length-times_z r (times_mod R r p v) (length-times_mod r p v h) ∙ sym (length-times_z r (times_mod R r q v) (length-times_mod r q v h)))

  polynomial-scale-times : (r : List A) (a : A) (p v : List A) → times_mod R r (scale R a p) v ≡ scale R a (times_mod R r p v)
  polynomial-scale-times r a [] v = sym (scale-zeros a r)
  polynomial-scale-times r a (c ∷ p) v =
      ap₂ (add_lists R) (sym (scale-scale a c v)) (ap (times_z R r) (polynomial-scale-times r a p v) ∙ times_z-scale r a (times_mod R r p v))
      ∙ sym (scale-add_lists a (scale R c v) (times_z R r (times_mod R r p v)))

  polynomial-mul-times : (r p q v : List A) → length v ≡ length r → times_mod R r (mul_lists R p q) v ≡ times_mod R r p (times_mod R r q v)
  polynomial-mul-times r [] q v h = refl
  polynomial-mul-times r (c ∷ p) q v h =
      polynomial-add-times r (scale R c q) (𝟘 ∷ mul_lists R p q) v h
      ∙ ap₂ (add_lists R) (polynomial-scale-times r c q v)
      (ap (λ l. add_lists R l (times_z R r (times_mod R r (mul_lists R p q) v))) (scale_zero r v h)
      ∙ zeros_left r (times_z R r (times_mod R r (mul_lists R p q) v)) (length-times_z r _ (length-times_mod r (mul_lists R p q) v h)) ∙ ap (times_z R r) (polynomial-mul-times r p q v h))

  -- the member of p is p(z)·1
  pub remainder-is : (r p : List A) → 1 ≤ length r → remainder R r p ≡ times_mod R r p (one_mod R r)
  remainder-is r [] h = refl
  remainder-is [] (c ∷ p) h = absurd (omega arith)
  remainder-is (d ∷ r) (c ∷ p) h =
      ap (λ l. add_lists R (times_z R (d ∷ r) l) (c ∷ [])) (remainder-is (d ∷ r) p h)
      ∙ front (times_z R (d ∷ r) (times_mod R (d ∷ r) p (one_mod R (d ∷ r)))) (length-times_z (d ∷ r) _ (length-times_mod (d ∷ r) p (one_mod R (d ∷ r)) (length-one_mod (d ∷ r))))
    where
      front : (v : List A) → length v ≡ length (d ∷ r) → add_lists R v (c ∷ []) ≡ add_lists R (scale R c (one_mod R (d ∷ r))) v
      front [] k = absurd (omega arith)
      front (x ∷ v) k = ap₂ ◌∷◌ (first_sum x c) (back_nil v ∙ sym (scale-zeros-add c r v (omega arith)))
        where
          first_sum : (x c : A) → x + c ≡ c * 𝟙 + x
          first_sum x c = ring R (x ∷ c ∷ []) (search reading depth 20) refl

          back_nil : (v : List A) → add_lists R v [] ≡ v
          back_nil [] = refl
          back_nil (y ∷ v) = refl

  length-remainder : (r p : List A) → 1 ≤ length r → length (remainder R r p) ≡ length r
  length-remainder r p h = ap length (remainder-is r p h) ∙ length-times_mod r p (one_mod R r) (length-one_mod r)

  pub remainder-mul : (r p q : List A) → 1 ≤ length r → remainder R r (mul_lists R p q) ≡ times_mod R r (remainder R r p) (remainder R r q)
  remainder-mul r p q h =
      remainder-is r (mul_lists R p q) h ∙ polynomial-mul-times r p q (one_mod R r) (length-one_mod r) ∙ ap (times_mod R r p) (sym (remainder-is r q h))
      ∙ sym (acts (remainder R r q) (length-remainder r q h))
    where
      -- the member of p acts as p(z)
      acts : (w : List A) → length w ≡ length r → times_mod R r (remainder R r p) w ≡ times_mod R r p w
      acts w k =
          times_mod_comm r (remainder R r p) w (length-remainder r p h) k ∙ ap (times_mod R r w) (remainder-is r p h)
          ∙ times_mod_left_comm r w p (one_mod R r) (length-one_mod r) ∙ ap (times_mod R r p) (times_mod-one r w k)

  pub remainder-add : (r p q : List A) → 1 ≤ length r → remainder R r (add_lists R p q) ≡ add_lists R (remainder R r p) (remainder R r q)
  remainder-add r p q h =
      remainder-is r (add_lists R p q) h ∙ polynomial-add-times r p q (one_mod R r) (length-one_mod r) ∙ sym (ap₂ (add_lists R) (remainder-is r p h) (remainder-is r q h))

  -- ---- R itself is 0
  length-with_leading_one : (u : List A) → length (with_leading_one R u) ≡ suc (length u)
  length-with_leading_one [] = refl
  length-with_leading_one (c ∷ u) = omega (arith, length-with_leading_one u)

  last-with_leading_one : (u : List A) → last R (with_leading_one R u) ≡ 𝟙
  last-with_leading_one [] = refl
  last-with_leading_one (c ∷ []) = refl
  last-with_leading_one (c ∷ d ∷ u) = last-with_leading_one (d ∷ u)

  shifted-with_leading_one : (a : A) (u : List A) → shifted R a (with_leading_one R u) ≡ a ∷ u
  shifted-with_leading_one a [] = refl
  shifted-with_leading_one a (c ∷ u) = ap (λ (l : List A). a ∷ l) (shifted-with_leading_one c u)

  cancel_all : (c : A) (u : List A) → add_lists R (scale R c (zeros R u)) (add_lists R u (scale R (- 𝟙) u)) ≡ zeros R u
  cancel_all c [] = refl
  cancel_all c (d ∷ u) = ap₂ ◌∷◌ (cancels c d) (cancel_all c u)
    where
      cancels : (c d : A) → c * 𝟘 + (d + - 𝟙 * d) ≡ 𝟘
      cancels c d = ring R (c ∷ d ∷ []) (search reading depth 20) refl

  pub remainder-modulus : (r : List A) → 1 ≤ length r → remainder R r (with_leading_one R r) ≡ zeros R r
  remainder-modulus [] h = absurd (omega arith)
  remainder-modulus (c ∷ r) h =
      remainder-is (c ∷ r) (with_leading_one R (c ∷ r)) h
      ∙ ap (λ l. add_lists R (scale R c (one_mod R (c ∷ r))) (times_z R (c ∷ r) l)) (times_mod-one (c ∷ r) (with_leading_one R r) (length-with_leading_one r))
      ∙ ap₂ (λ l a. add_lists R (scale R c (one_mod R (c ∷ r))) (add_lists R l (scale R (- a) (c ∷ r)))) (shifted-with_leading_one 𝟘 r) (last-with_leading_one r)
      ∙ ap₂ ◌∷◌ (first_zero c) (cancel_all c r)
    where
      first_zero : (c : A) → c * 𝟙 + (𝟘 + - 𝟙 * c) ≡ 𝟘
      first_zero c = ring R (c ∷ []) (search reading depth 20) refl

  -- ---- coefficients of sums and multiples
  pub coefficient_at-add_lists : (i : ℕ) (u v : List A) → coefficient_at R i (add_lists R u v) ≡ coefficient_at R i u + coefficient_at R i v
  coefficient_at-add_lists i [] v = sym (Laws.zero-add R (coefficient_at R i v))
  coefficient_at-add_lists i (c ∷ u) [] = sym (R.add-zero (coefficient_at R i (c ∷ u)))
  coefficient_at-add_lists nat_zero (c ∷ u) (d ∷ v) = refl
  coefficient_at-add_lists (suc i) (c ∷ u) (d ∷ v) = coefficient_at-add_lists i u v

  pub coefficient_at-scale : (i : ℕ) (a : A) (u : List A) → coefficient_at R i (scale R a u) ≡ a * coefficient_at R i u
  coefficient_at-scale i a [] = sym (Laws.mul-zero R a)
  coefficient_at-scale nat_zero a (c ∷ u) = refl
  coefficient_at-scale (suc i) a (c ∷ u) = coefficient_at-scale i a u
