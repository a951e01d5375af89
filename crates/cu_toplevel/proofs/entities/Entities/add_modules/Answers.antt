use Rattle.std.proofs.Common.{◌∙◌, ◌++◌, ◌∷◌, List, [], ap, append-nil, append_assoc, map, subst, sym, take, take_all}
use Rattle.std.proofs.lemmas.List.{map_more}
use Rattle.cu_modules.specs.declared.modules.Module.{Module}
use Rattle.cu_modules.specs.Ordering.{module_of}
use Rattle.cu_modules.specs.Scopes.{Named}
use Rattle.cu_toplevel.specs.EntityTables.{AreEntities}
use Rattle.cu_toplevel.proofs.entities.Entities.add_modules.Goals as goal

pub modules-init : goal.modules-init
modules-init c = λ before has. subst (λ (ms : List Named). AreEntities c.args.names.now ms c.args.self.now) (sym (append-nil before)) has

pub modules-preserved : goal.modules-preserved
modules-preserved c = λ before has.
    let names = c.args.names.now in
    let done = map (module_of names) (take c.modules.module-index c.args.modules.now) in
    subst (λ (ms : List Named). AreEntities names ms c.add_module.new.self)
    (append_assoc before done (module_of names c.module-item.result ∷ [])
    ∙ ap (λ (ms : List Named). before ++ ms)
    (ap (λ (m : Module). done ++ module_of names m ∷ []) c.module-item.is ∙ sym (map_more (module_of names) c.args.modules.now c.modules.module-index c.module-item.result c.modules-test.true)))
    (c.in_ok-add_module.ensures (before ++ done) (c.modules.invariant before has))

pub returns : goal.returns
returns c = λ before has.
    subst (λ ms. AreEntities c.args.names.now (before ++ map (module_of c.args.names.now) ms) c.modules.self) (take_all c.modules.module-index c.args.modules.now c.modules-test.false)
    (c.modules.invariant before has)
