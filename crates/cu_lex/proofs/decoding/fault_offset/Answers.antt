use Rattle.std.proofs.Common.{◌≡◌, ◌∙◌, ◌+◌, ◌≤◌, subst, sym, take, true, length, arith}
use Rattle.cu_lex.specs.Decoding.{begins_text}
use Rattle.cu_lex.proofs.DecodingLemmas.{offset-at, offset-end, begins-slice, text-begins}
use Rattle.cu_lex.proofs.decoding.fault_offset.Goals as goal

pub loop-end-init : goal.loop-end-init
loop-end-init c = text-begins (take c.args.valid c.args.bytes.now) c.requires.text

pub returns-then-not-branch : goal.returns-then-not-branch
returns-then-not-branch c =
    let low : c.args.valid ≤ c.loop-end.end + 1 = omega (arith, c.loop-end.auto.end) in
    offset-at c.args.bytes.now c.loop-end.end c.loop-end-test.true c.loop-end.invariant
    (begins-slice c.args.bytes.now c.args.valid (c.loop-end.end + 1) c.requires.text low ∙ sym c.in_ok-begins.ensures ∙ c.if-not-branch.true)

pub loop-end-preserved : goal.loop-end-preserved
loop-end-preserved c =
    let low : c.args.valid ≤ c.loop-end.end + 1 = omega (arith, c.loop-end.auto.end) in
    begins-slice c.args.bytes.now c.args.valid (c.loop-end.end + 1) c.requires.text low ∙ sym c.in_ok-begins.ensures ∙ c.if-not-branch.false

pub returns : goal.returns
returns c =
    let at : c.loop-end.end ≡ length c.args.bytes.now = omega (arith, c.loop-end-test.false, c.loop-end.auto.end-end c.requires.within) in
    offset-end c.args.bytes.now (subst (λ n. begins_text (take n c.args.bytes.now) ≡ true) at c.loop-end.invariant)
