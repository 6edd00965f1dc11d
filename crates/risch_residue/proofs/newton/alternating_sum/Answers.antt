use Rattle.std.proofs.Common.{◌≡◌, ◌∙◌, ◌<◌, length, reverse, get_or, sym, min, arith}
use Rattle.std.proofs.lemmas.List.{get_or-reverse, length-reverse}
use Rattle.risch_residue.proofs.NewtonSteps.{sum_end, sum_more, product_stops, sum_stops}
use Rattle.risch_residue.proofs.newton.alternating_sum.Goals as goal

pub returns-in_err-term : goal.returns-in_err-term
returns-in_err-term c =
    let es = c.args.es.now in
    let j = c.loop-j.j in
    let e = c.index-es-es.result in
    let small : j < length es = omega arith in
    let few : j < length c.args.traces.now = omega arith in
    let below : j < length (reverse es) = omega (arith, length-reverse es) in
    let is_e : e ≡ get_or (reverse es) j e = c.index-es-es.is ∙ sym (get_or-reverse es j e small) in
    let stops = product_stops (reverse es) c.args.traces.now j c.loop-j.minus c.loop-j.total e c.index-traces-j.result below few is_e c.index-traces-j.is c.in_err-term.field-0.0 c.in_err-term.ensures in
    rw c.loop-j.invariant (grind (arith, stops))

pub returns-in_err-total : goal.returns-in_err-total
returns-in_err-total c =
    let es = c.args.es.now in
    let j = c.loop-j.j in
    let e = c.index-es-es.result in
    let small : j < length es = omega arith in
    let few : j < length c.args.traces.now = omega arith in
    let below : j < length (reverse es) = omega (arith, length-reverse es) in
    let is_e : e ≡ get_or (reverse es) j e = c.index-es-es.is ∙ sym (get_or-reverse es j e small) in
    let stops = sum_stops (reverse es) c.args.traces.now j c.loop-j.minus c.loop-j.total e c.index-traces-j.result below few is_e c.index-traces-j.is c.in_err-total.field-0.0 c.in_ok-term.term c.in_ok-term.ensures c.in_err-total.ensures.rule in
    rw c.loop-j.invariant (grind (arith, stops))

pub loop-j-preserved : goal.loop-j-preserved
loop-j-preserved c =
    let es = c.args.es.now in
    let j = c.loop-j.j in
    let e = c.index-es-es.result in
    let small : j < length es = omega arith in
    let few : j < length c.args.traces.now = omega arith in
    let below : j < length (reverse es) = omega (arith, length-reverse es) in
    let is_e : e ≡ get_or (reverse es) j e = c.index-es-es.is ∙ sym (get_or-reverse es j e small) in
    c.loop-j.invariant
    ∙ sum_more (reverse es) c.args.traces.now j c.loop-j.minus c.loop-j.total e c.index-traces-j.result below few is_e c.index-traces-j.is c.in_ok-term.term c.in_ok-total.total c.in_ok-term.ensures c.in_ok-total.ensures.rule

pub returns : goal.returns
returns c =
    let es = c.args.es.now in
    let ends : c.loop-j.j ≡ min (length (reverse es)) (length c.args.traces.now) = omega (arith, length-reverse es) in
    c.loop-j.invariant ∙ sum_end (reverse es) c.args.traces.now c.loop-j.j c.loop-j.minus c.loop-j.total ends
