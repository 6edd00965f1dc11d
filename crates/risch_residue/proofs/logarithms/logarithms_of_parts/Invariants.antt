use Rattle.std.proofs.Common.{◌≡◌, ◌+◌, None, [], drop, All}
use Rattle.std.specs.Prelude.{IfSome}
use Rattle.risch_element_theory.specs.WholeTower.{AllWithin}
use Rattle.risch_logarithm_rules.specs.Logarithms.{logarithms_from}
use Rattle.risch_residue.proofs.logarithms.logarithms_of_parts.Given as goal

abbrev pub invariant-loop-place : goal.invariant-loop-place
invariant-loop-place l = record {
  so_far : logarithms_from l.tower l.level l.of.numerator l.of.denominator 1 None [] l.parts
      ≡ logarithms_from l.tower l.level l.of.numerator l.of.denominator (l.place + 1) l.members l.logs (drop l.place l.parts);
  kept : IfSome l.members (λ formed. All (All (AllWithin l.level)) formed);
}
