use Rattle.std.proofs.Common.{◌∙◌, sym, take}
use Rattle.std.specs.List.{flat_map}
use Rattle.cu_entities.specs.EntityMeaning.{entities_meaning}
use Rattle.cu_modules.proofs.BindingLemmas.{no_entity}
use Rattle.cu_modules.proofs.ExportFaultLemmas.{all_values, type_passed, value_added, value_text}
use Rattle.cu_modules.proofs.checking.own_values.Goals as goal

pub own-preserved-then-is_type : goal.own-preserved-then-is_type
own-preserved-then-is_type c = λ names differ known.
    type_passed names c.args.own.now c.own.entity-index no_entity c.own.values c.own-test.true (sym c.is_type.ensures ∙ c.if-is_type.true) (c.own.invariant names differ known)

pub own-preserved : goal.own-preserved
own-preserved c = λ names differ known.
    let es = c.args.own.now in
    let i = c.own.entity-index in
    value_added names es i no_entity c.add.new.self c.own-test.true (sym c.is_type.ensures ∙ c.if-is_type.false)
    (c.in_ok-add.ensures names (flat_map value_text (entities_meaning names (take i es))) differ (known i no_entity c.own-test.true).name (c.own.invariant names differ known))

pub returns : goal.returns
returns c = λ names mine differ are.
    all_values names c.args.own.now mine c.own.entity-index c.own.values c.own-test.false are (c.own.invariant names differ are.known)
