use Rattle.std.proofs.Common.{◌≤◌, ◌-◌, arith, drop, length, length-drop, sym, ◌∙◌}
use Rattle.cu_crwl.proofs.OfValues.{short_rises}
use Rattle.cu_crwl.proofs.of_program.rise.Goals as goal

pub returns : goal.returns
returns c =
    let bindings = c.args.bindings.now in
    let short : length (drop (c.loop-i.i - 1) bindings) ≤ 1 = omega (arith, length-drop (c.loop-i.i - 1) bindings, c.loop-i-test.false) in
    sym (short_rises (drop (c.loop-i.i - 1) bindings) short) ∙ c.loop-i.invariant
