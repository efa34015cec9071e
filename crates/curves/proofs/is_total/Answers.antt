-- One item after the other.
use Rattle.std.proofs.Common.{◌+◌, ◌-◌, ◌<◌, sym, arith}
use mathlib.Core.Path.{subst⁻¹}
use Rattle.curves.proofs.Laws.CountingDown.{Down, down_start, down_next, down-over, down_end}
use Rattle.curves.proofs.is_total.Goals as goal

pub loop-item-init : goal.loop-item-init
loop-item-init g c = λ f h. down_start f c.args.items.now c.args.size

pub returns-in_default : goal.returns-in_default
returns-in_default g c = λ f h.
    let l = c.loop-item in
    let k : l.left < c.own.result = omega (arith, c.in_default.ensures) in
    sym
    (down-over f c.args.items.now c.args.size l.item-index l.left (l.invariant f h) c.item-item.is c.loop-item-test.true (h c.item-item.result c.own.result c.own.ensures) k)

pub loop-item-preserved : goal.loop-item-preserved
loop-item-preserved g c = λ f h.
    let l = c.loop-item in
    let e = c.in-Some.ensures in
    subst⁻¹ (Down f c.args.items.now c.args.size (l.item-index + 1)) {y = l.left - c.own.result} (omega (arith, e.1))
    (down_next f c.args.items.now c.args.size l.item-index l.left (l.invariant f h) c.item-item.is c.loop-item-test.true (h c.item-item.result c.own.result c.own.ensures) (omega (arith, e.0)))

pub returns : goal.returns
returns g c = λ f h. let l = c.loop-item in down_end f c.args.items.now c.args.size l.item-index l.left (l.invariant f h) c.loop-item-test.false
