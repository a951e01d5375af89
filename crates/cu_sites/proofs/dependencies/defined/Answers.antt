use Rattle.std.proofs.Common.{◌∷◌, [], List, map, refl, subst}
use Rattle.cu_translation.specs.declared.local_names.Binder as code
use Rattle.cu_translation.specs.Meaning.{binder_meaning}
use Rattle.cu_sites.specs.Depending.{is_defined}
use Rattle.cu_sites.specs.Inside.Counting.{Counts}
use Rattle.cu_sites.specs.Inside.Defining.{definitions_meaning}
use Rattle.cu_sites.proofs.CountLemmas.{counts_all, counts_end, counts_one, counts_prefix}
use Rattle.cu_sites.proofs.dependencies.defined.Goals as goal

pub loop-definition-init : goal.loop-definition-init
loop-definition-init c after rest =
    subst (λ (xs : List code.Binder). Counts xs (map is_defined (definitions_meaning c.args.definitions.now)) after) c.new-found.ensures.items rest

pub loop-definition-preserved : goal.loop-definition-preserved
loop-definition-preserved c after rest =
    let d = c.definition-item.result in
    c.loop-definition.invariant after
    (counts_prefix (λ ds. map is_defined (definitions_meaning ds)) (λ e. binder_meaning e.variable ∷ []) (λ e ds. refl) c.args.definitions.now
    c.loop-definition.definition-index d c.loop-definition.found.items c.push.new.self.items after c.definition-item.is c.loop-definition-test.true
    (counts_one c.loop-definition.found.items c.push.new.self.items d.variable (binder_meaning d.variable) c.in_ok-push.ensures.items refl) rest)

pub returns : goal.returns
returns c =
    let ds = c.args.definitions.now in
    counts_all [] c.loop-definition.found.items (map is_defined (definitions_meaning ds)) refl
    (c.loop-definition.invariant c.loop-definition.found.items
    (counts_end (λ es. map is_defined (definitions_meaning es)) refl ds c.loop-definition.definition-index c.loop-definition.found.items c.loop-definition-test.false))
