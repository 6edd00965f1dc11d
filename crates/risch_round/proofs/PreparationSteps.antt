-- What the preparation gives lies in Q(x), and its simple part is simple where it is not 0.
use Rattle.std.specs.Prelude.{IsFalse}
use Rattle.std.proofs.Common.{◌≡◌, List, true, refl}
use Rattle.risch_level.specs.Levels.{Element, element}
use Rattle.risch_element_theory.specs.WholeTower.{Within}
use Rattle.risch_tower.specs.declared.level.Level.{Level}
use Rattle.risch_hermite.specs.HermiteMeaning.{IsHermiteReduction}
use Rattle.risch_hermite.specs.declared.reduction.Hermite.{Hermite}
use Rattle.risch_round.specs.AnswerMeaning.{IsPrepared}

zero_told : element.is_zero element.zero ≡ true
unfolding element
zero_told = refl

zero_within : Within 1 element.zero
unfolding element Within
zero_within = tt

pub nothing_is_prepared : (tower : List Level) (g h r : Element) → g ≡ element.zero → h ≡ element.zero → Within 1 r → IsPrepared tower (record { g = g; h = h; r = r })
nothing_is_prepared tower g h r is_g is_h w = record {
  g_within = rw is_g zero_within;
  h_within = rw is_h zero_within;
  r_within = w;
  simple = λ some. absurd (told (rw is_h at some));
}
  where
    told : IsFalse (element.is_zero element.zero) → ⊥
    told some = let e = zero_told in cc

pub is_prepared : (tower : List Level) (f : Element) (it : Hermite) (r : Element) → IsHermiteReduction tower 0 f it → Within 1 it.g × Within 1 it.h × Within 1 it.rest → Within 1 r →
    IsPrepared tower (record { g = it.g; h = it.h; r = r })
is_prepared tower f it r h w k = record { g_within = w.0; h_within = w.1; r_within = k; simple = λ some. record { proper = h.proper; normal = h.normal } }
