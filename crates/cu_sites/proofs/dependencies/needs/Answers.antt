use Rattle.std.proofs.Common.{arith, subst, ◌≡◌, ◌+◌, ℕ, [], length, suc}
use Rattle.cu_sites.specs.Inside.Relating.{Holds}
use Rattle.cu_sites.proofs.DefinedLemmas.{needed_end, needed_next}
use Rattle.cu_sites.proofs.dependencies.needs.Goals as goal

pub loop-definition-init : goal.loop-definition-init
loop-definition-init c binders functions h =
    let size : c.variable_count.result ≡ length binders = c.variable_count.ensures binders functions h in
    let all : c.variable_count.result + 1 ≡ suc (length binders) = omega arith in
    subst (λ (n : ℕ). Holds n [] c.in_ok-needs.needs) all c.in_ok-needs.ensures

pub loop-definition-preserved : goal.loop-definition-preserved
loop-definition-preserved c binders functions h =
    needed_next binders functions c.args.captured.now c.args.definitions.now c.loop-definition.definition-index c.definition-item.result
    c.loop-definition.needs c.add_needs.new.needs c.definition-item.is (omega arith) (c.loop-definition.invariant binders functions h)
    (c.in_ok-add_needs.ensures binders functions h)

pub returns : goal.returns
returns c binders functions h =
    needed_end binders functions c.args.captured.now c.args.definitions.now c.loop-definition.definition-index c.loop-definition.needs (omega arith)
    (c.loop-definition.invariant binders functions h)
