-- The level that a push adds is that of the monomial above the tower.
--     rate-next      where the rule gives a rate for a monomial
use Rattle.std.specs.Prelude.{if◌then◌else◌}
use Rattle.std.proofs.Common.{◌≡◌, ℕ, suc, ◌+◌, ◌<◌, Bool, true, false, List, length, Result, Ok, Err, refl, sym, arith, subst}
use Rattle.risch_field.specs.Checked.{Checked}
use Rattle.risch_level.specs.Levels.{Element, element}
use Rattle.risch_derivation.specs.declared.rate.Kind.TheVariants.{Primitive, Exponential}
use Rattle.risch_derivation.specs.declared.rate.Rate.{Rate}
use Rattle.risch_element_theory.specs.WholeTower.{IsElement, Within}
use Rattle.risch_element_theory.proofs.ElementWithin.{quotient-element-within}
use Rattle.risch_element_theory.proofs.ElementDerivation.{derivative-within, exponential-adjoined, logarithm-adjoined, exponential-has_kind, logarithm-has_kind}
use Rattle.risch_tower.specs.declared.fault.PushFault.{PushFault}
use Rattle.risch_tower.specs.declared.fault.PushFault.TheVariants.{ZeroArgument, ConstantArgument}
use Rattle.risch_tower.specs.declared.level.Level.{Level}
use Rattle.risch_tower.specs.declared.level.Monomial.{Monomial}
use Rattle.risch_tower.specs.declared.level.Monomial.TheVariants.{Log, Exp}
use Rattle.risch_tower.specs.Tower.{argument, derivative, rates_of, or_fault, rate_of, rate_of_logarithm, rate_of_exponential}
use Rattle.risch_tower.specs.TowerMeaning.{monomials, AreTower}
use Rattle.risch_tower.proofs.TowerLevels.{are-tower, length-monomials, IsNext}

-- ---- the steps of the rule
record Passes {A B : Type 0} (rule : Checked A) (continue : A → Result B PushFault) (result : B) : Type 0 where
  value : A
  is : rule ≡ Ok value
  next : continue value ≡ Ok result

or_fault-ok : {A B : Type 0} (rule : Checked A) (continue : A → Result B PushFault) (result : B) → or_fault rule continue ≡ Ok result → Passes rule continue result
or_fault-ok (Ok a) continue result e = record { value = a; is = refl; next = e }
or_fault-ok (Err stop) continue result e = cc

-- a test that is not met
record Fails {A : Type 0} (test : Bool) (rule : Result A PushFault) (result : A) : Type 0 where
  is : test ≡ false
  next : rule ≡ Ok result

test-fails : {A : Type 0} (test : Bool) (refusal : PushFault) (rule : Result A PushFault) (result : A) → (if test then Err refusal else rule) ≡ Ok result → Fails test rule result
test-fails true refusal rule result e = cc
test-fails false refusal rule result e = record { is = refl; next = e }

-- Da, which is not 0
record DerivesTo (D : Element → Checked Element) (a d : Element) : Type 0 where
  derivative-is : D a ≡ Ok d
  derivative-some : element.is_zero d ≡ false

record IsExponential (D : Element → Checked Element) (a : Element) (rate : Rate Element) : Type 0 where
  derivative : Element
  derives : DerivesTo D a derivative
  rate-is : (record { kind = Exponential; eta = derivative }) ≡ rate

exponential-steps : (D : Element → Checked Element) (a : Element) (rate : Rate Element) → rate_of_exponential D a ≡ Ok rate → IsExponential D a rate
unfolding rate_of_exponential
exponential-steps D a rate e =
    let d = or_fault-ok (D a) (λ d. if element.is_zero d then Err ConstantArgument else Ok (record { kind = Exponential; eta = d })) rate e in
    let some = test-fails (element.is_zero d.value) ConstantArgument (Ok (record { kind = Exponential; eta = d.value })) rate d.next in
    record { derivative = d.value; derives = record { derivative-is = d.is; derivative-some = some.is }; rate-is = cc }

record IsLogarithm (D : Element → Checked Element) (a : Element) (rate : Rate Element) : Type 0 where
  allowed : element.is_zero a ≡ false
  derivative : Element
  derives : DerivesTo D a derivative
  ratio : Element
  ratio-is : element.quotient derivative a ≡ Ok ratio
  rate-is : (record { kind = Primitive; eta = ratio }) ≡ rate

logarithm-steps : (D : Element → Checked Element) (a : Element) (rate : Rate Element) → rate_of_logarithm D a ≡ Ok rate → IsLogarithm D a rate
unfolding rate_of_logarithm
logarithm-steps D a rate e =
    let last = λ (eta : Element). Ok (record { kind = Primitive; eta = eta }) in
    let after = λ (d : Element). if element.is_zero d then Err ConstantArgument else or_fault (element.quotient d a) last in
    let allowed = test-fails (element.is_zero a) ZeroArgument (or_fault (D a) after) rate e in
    let d = or_fault-ok (D a) after rate allowed.next in
    let some = test-fails (element.is_zero d.value) ConstantArgument (or_fault (element.quotient d.value a) last) rate d.next in
    let q = or_fault-ok (element.quotient d.value a) last rate some.next in
    record { allowed = allowed.is; derivative = d.value; derives = record { derivative-is = d.is; derivative-some = some.is }; ratio = q.value; ratio-is = q.is; rate-is = cc }

-- ---- the level
module _ (levels : List Level) (h : AreTower levels) (low : length levels < 4) where
  tower_low : length (monomials levels) < 4
  tower_low = omega (arith, length-monomials levels)

  in_tower : (e : Element) → Within (suc (length levels)) e → Within (suc (length (monomials levels))) e
  in_tower e w = subst (λ (n : ℕ). Within (suc n) e) (sym (length-monomials levels)) w

  exponential-next : (a : Element) (rate : Rate Element) → IsElement a → Within (suc (length levels)) a → rate_of_exponential (derivative levels) a ≡ Ok rate → IsNext levels (record { monomial = Exp a; rate = rate })
  exponential-next a rate v w e =
      let s = exponential-steps (derivative levels) a rate e in
      let d = s.derives.derivative-is in
      let t = are-tower levels h in
      subst (λ (r : Rate Element). IsNext levels (record { monomial = Exp a; rate = r })) s.rate-is
      (record {
        is_level = record { argument_normal = v; argument_within = w; allowed = tt; eta_within = derivative-within (rates_of levels) (suc (length levels)) a s.derivative w d };
        has_kind = exponential-has_kind (monomials levels) (rates_of levels) t h.are_rates a v s.derivative d;
        are_rates = exponential-adjoined (monomials levels) (rates_of levels) t h.are_rates tower_low a v (in_tower a w) s.derivative d;
      })

  logarithm-next : (a : Element) (rate : Rate Element) → IsElement a → Within (suc (length levels)) a → rate_of_logarithm (derivative levels) a ≡ Ok rate → IsNext levels (record { monomial = Log a; rate = rate })
  logarithm-next a rate v w e =
      let s = logarithm-steps (derivative levels) a rate e in
      let d = s.derives.derivative-is in
      let t = are-tower levels h in
      subst (λ (r : Rate Element). IsNext levels (record { monomial = Log a; rate = r })) s.rate-is
      (record {
        is_level = record {
          argument_normal = v;
          argument_within = w;
          allowed = s.allowed;
          eta_within = quotient-element-within (suc (length levels)) s.derivative a s.ratio (derivative-within (rates_of levels) (suc (length levels)) a s.derivative w d) w s.ratio-is;
        };
        has_kind = logarithm-has_kind (monomials levels) (rates_of levels) t h.are_rates a v s.derivative s.ratio d s.allowed s.ratio-is;
        are_rates = logarithm-adjoined (monomials levels) (rates_of levels) t h.are_rates tower_low a v (in_tower a w) s.derivative s.ratio d s.allowed s.ratio-is;
      })

  pub rate-next : (m : Monomial) (rate : Rate Element) → IsElement (argument m) → Within (length levels + 1) (argument m) → rate_of (derivative levels) m ≡ Ok rate → IsNext levels (record { monomial = m; rate = rate })
  rate-next (Log a) rate v w e = logarithm-next a rate v (subst (λ (n : ℕ). Within n a) (omega arith) w) e
  rate-next (Exp a) rate v w e = exponential-next a rate v (subst (λ (n : ℕ). Within n a) (omega arith) w) e
