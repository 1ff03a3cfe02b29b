-- `quantiser::Steps::fill` meets its contract. Assumes nothing.
use Rattle.std.proofs.Common.{sym, ◌∙◌, arith}
use lib.Ieee.{nan}
use Rattle.quantiser.proofs.Bins.{done_none, done_all, done_more, bits_most}
use Rattle.quantiser.proofs.Steps.fill.Goals as goal

pub loop-j-init : goal.loop-j-init
loop-j-init c = let s = c.args.self.now in done_none s.hebap s.gk c.args.x.now c.args.values.now (c.told-values ∙ sym c.told-x)

pub loop-j-preserved : goal.loop-j-preserved
loop-j-preserved c = let s = c.args.self.now in
    done_more s.hebap s.gk c.args.x.now c.loop-j.values c.loop-j.bits c.loop-j.err c.loop-j.j nan c.loop-j.invariant (omega arith)
    c.pick-code.result c.value_of-y.result c.code_bits-bits.result c.pick-code.ensures c.value_of-y.ensures c.code_bits-bits.ensures

pub overflow_add-bits : goal.overflow_add-bits
overflow_add-bits c = let s = c.args.self.now in
    let most = bits_most s.hebap s.gk s.in_range.0 s.in_range.1 c.args.x.now in
    let sum = (loop-j-preserved c).bits in
    record { fits = omega arith }

pub returns : goal.returns
returns c = let s = c.args.self.now in
    done_all s.hebap s.gk c.args.x.now c.loop-j.values c.loop-j.bits c.loop-j.err c.loop-j.j c.loop-j.invariant (omega arith)
