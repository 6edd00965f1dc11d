-- Pairs (N, M) of elements of a domain with M ≠ 0, and the operations of fractions on them.
use Rattle.std.specs.Prelude.{◌≡◌}
use Rattle.risch_ring.specs.CommRing.{CommRing, IsDomain}
use Rattle.risch_ring.specs.Operators.{operators}
use Rattle.risch_ring.proofs.Domains.{product-nonzero}

-- a domain in which zero can be decided
pub record IsDecidableDomain {A : Type 0} (R : CommRing A) : Type 0 where
  pub domain : IsDomain R
  pub is_zero : (x : A) → Dec (x ≡ R.zero)

-- num / den
pub record Pair {A : Type 0} (R : CommRing A) : Type 0 where
  pub num : A
  pub den : A
  pub den-ne-zero : ¬ (den ≡ R.zero)

module _ {A : Type 0} (R : CommRing A) (d : IsDecidableDomain R) where
  open (operators R) use {𝟘, 𝟙, ◌+◌, ◌*◌, -◌}

  -- N/M = N'/M' where N·M' = N'·M
  abbrev pub Same : Pair R → Pair R → Type 0
  Same a b = a.num * b.den ≡ b.num * a.den

  -- N/M + N'/M' = (N·M' + N'·M) / (M·M')
  abbrev pub add_pairs : Pair R → Pair R → Pair R
  add_pairs a b = record { num = a.num * b.den + b.num * a.den; den = a.den * b.den; den-ne-zero = product-nonzero R d.domain a.den-ne-zero b.den-ne-zero }

  -- N/M · N'/M' = (N·N') / (M·M')
  abbrev pub mul_pairs : Pair R → Pair R → Pair R
  mul_pairs a b = record { num = a.num * b.num; den = a.den * b.den; den-ne-zero = product-nonzero R d.domain a.den-ne-zero b.den-ne-zero }

  -- -(N/M) = (-N) / M
  abbrev pub neg_pair : Pair R → Pair R
  neg_pair a = record { num = - a.num; den = a.den; den-ne-zero = a.den-ne-zero }

  -- x / 1
  abbrev pub whole_pair : A → Pair R
  whole_pair x = record { num = x; den = 𝟙; den-ne-zero = d.domain.one-ne-zero }

  -- M / N, and 0 where N is 0
  abbrev pub inverse_pair_by : (a : Pair R) → Dec (a.num ≡ 𝟘) → Pair R
  inverse_pair_by a (yes _) = whole_pair 𝟘
  inverse_pair_by a (no n) = record { num = a.den; den = a.num; den-ne-zero = n }

  -- the same, where zero is decided
  abbrev pub inverse_pair : Pair R → Pair R
  inverse_pair a = inverse_pair_by a (d.is_zero a.num)
