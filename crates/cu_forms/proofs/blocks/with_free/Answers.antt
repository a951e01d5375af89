use Rattle.std.proofs.Common.{◌≡◌, ◌<◌, ◌-◌, ◌∙◌, ap, arith, length, suc, sym, take}
use Rattle.std.proofs.Math.Seq.{take-length}
use Rattle.cu_kernel.specs.LocalTermsOf.{local_term_of}
use Rattle.cu_translation.specs.Blocks.{with_free}
use Rattle.cu_uses.specs.Gathered.{names_meaning}
use Rattle.cu_forms.specs.Inside.Blocks.{with_free_names}
use Rattle.cu_forms.proofs.BlockLemmas.{default_name, free_is}
use Rattle.cu_forms.proofs.blocks.with_free.Goals as goal

pub loop-index-init : goal.loop-index-init
loop-index-init g c w tells = ap (λ xs. with_free w.around (names_meaning w.names xs) (local_term_of c.args.term)) (take-length c.args.free.now)

pub loop-index-preserved : goal.loop-index-preserved
loop-index-preserved g c w tells =
    let n = c.loop-index.index - 1 in
    let next : c.loop-index.index ≡ suc n = omega (arith, c.loop-index-test.true) in
    let within : n < length c.args.free.now = omega (arith, c.loop-index-test.true, c.loop-index.auto.index) in
    free_is w c.args.free.now n c.loop-index.index default_name c.of.result c.variable-variable.result c.in_ok-new.field-0 c.loop-index.inner (with_free_names w c.args.free.now (local_term_of c.args.term)) within next
    c.of.ensures (c.variable-variable.ensures w tells) c.in_ok-new.ensures.ok (c.loop-index.invariant w tells)

pub returns : goal.returns
returns g c w tells =
    let none : c.loop-index.index ≡ 0 = omega (arith, c.loop-index-test.false) in
    ap (λ n. with_free w.around (names_meaning w.names (take n c.args.free.now)) (local_term_of c.loop-index.inner)) (sym none) ∙ c.loop-index.invariant w tells
