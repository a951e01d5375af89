use Rattle.std.proofs.Common.{◌∙◌, [], ap, map, subst, sym, take_all}
use Rattle.cu_kernel.specs.KernelOf as code
use Rattle.cu_syntax.specs.declared.items.ConstructorDeclaration.{ConstructorDeclaration}
use Rattle.cu_syntax.specs.Items.{constructor_meaning}
use Rattle.cu_syntax.specs.Names.{name_meaning}
use Rattle.cu_syntax.specs.Owners.{ConstructorDeclarationIsOf}
use Rattle.cu_translation.specs.ModuleTypes.{declared_constructor}
use Rattle.cu_toplevel.proofs.ModuleTypeLemmas.{meant_constructor}
use Rattle.cu_toplevel.proofs.NameLemmas.{map_twice}
use Rattle.cu_toplevel.proofs.TypeLemmas.{pushed_more}
use Rattle.cu_toplevel.proofs.module_types.declared_constructors.Goals as goal

pub declared-init : goal.declared-init
declared-init c = λ owner names r has parameters all. ap (map code.constructor_meaning) c.new-constructors.ensures.items

pub declared-preserved : goal.declared-preserved
declared-preserved c = λ owner names r has parameters all.
    let f = meant_constructor names r c.args.parameters.now in
    let x = c.one-item.result in
    let own = subst (λ (x : ConstructorDeclaration). ConstructorDeclarationIsOf owner names x) (sym c.one-item.is) (all c.declared.one-index x c.declared-test.true) in
    pushed_more code.constructor_meaning f [] c.args.declared.now c.declared.one-index x c.declared.constructors.items c.push.new.self.items c.in_ok-made.made c.declared-test.true
    c.in_ok-push.ensures.items (c.in_ok-made.ensures owner names r has parameters own ∙ ap f c.one-item.is) (c.declared.invariant owner names r has parameters all)

pub returns : goal.returns
returns c = λ owner names r has parameters all.
    c.declared.invariant owner names r has parameters all
    ∙ ap (map (meant_constructor names r c.args.parameters.now)) (take_all c.declared.one-index c.args.declared.now c.declared-test.false)
    ∙ sym (map_twice (declared_constructor r (map (name_meaning names) c.args.parameters.now)) (constructor_meaning names) c.args.declared.now)
