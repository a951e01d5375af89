use Rattle.std.proofs.Common.{◌++◌, map, subst, take, take_all}
use Rattle.std.specs.Option.{option_map}
use Rattle.cu_entities.specs.EntityMeaning.{entities_meaning}
use Rattle.cu_modules.specs.Inside.Binding.{IsScope}
use Rattle.cu_modules.specs.Scopes.{binding}
use Rattle.cu_names.specs.Texts.{text_of}
use Rattle.cu_modules.proofs.BindingLemmas.{more_bound, no_entity}
use Rattle.cu_modules.proofs.module_scope.ModuleScope.bind_all.Goals as goal

pub entities-preserved : goal.entities-preserved
entities-preserved c = λ names bindings differ known_qualifier known before.
    let es = c.args.entities.now in
    let i = c.entities.entity-index in
    more_bound names bindings c.args.qualifier es i no_entity c.bind.new.self c.entities-test.true
    (c.in_ok-bind.ensures names (bindings ++ map (binding (option_map (text_of names) c.args.qualifier)) (entities_meaning names (take i es))) differ known_qualifier
    (known i no_entity c.entities-test.true) (c.entities.invariant names bindings differ known_qualifier known before))

pub returns : goal.returns
returns c = λ names bindings differ known_qualifier known before.
    subst (λ es. IsScope names (bindings ++ map (binding (option_map (text_of names) c.args.qualifier)) (entities_meaning names es)) c.entities.self)
    (take_all c.entities.entity-index c.args.entities.now c.entities-test.false) (c.entities.invariant names bindings differ known_qualifier known before)
