use Rattle.std.proofs.Common.{◌∙◌, ap, map, subst, sym}
use Rattle.std.specs.List.{All}
use Rattle.cu_kernel.specs.KernelOf as code
use Rattle.cu_syntax.specs.Answer.{item_meaning}
use Rattle.cu_syntax.specs.Items.{constructor_meaning}
use Rattle.cu_syntax.specs.Names.{name_meaning}
use Rattle.cu_syntax.specs.Owners.{ConstructorDeclarationIsOf, ItemNodeIsOf, NameIsOf}
use Rattle.cu_toplevel.specs.Inside.Declared.{declared_type}
use Rattle.cu_toplevel.proofs.ModuleTypeLemmas.{data_adds, no_data}
use Rattle.cu_toplevel.proofs.module_types.add_type.Goals as goal

pub returns-in-Data : goal.returns-in-Data
returns-in-Data c = λ owner names r has is.
    let own = subst (ItemNodeIsOf owner names) c.in-Data.is (c.in_ok-name.ensures.owned owner names is) in
    let name = name_meaning names c.in-Data.name in
    let parameters = subst (All (NameIsOf owner names)) (sym c.as_slice.ensures.value) own.2 in
    let all = subst (All (ConstructorDeclarationIsOf owner names)) (sym c.as_slice-in-Data.ensures.value) own.3 in
    data_adds names r (item_meaning names c.args.item.now) c.in_ok-name.field-0 c.in-Data.field-0 c.in-Data.name c.in-Data.parameters c.in-Data.constructors c.args.types.now.items c.push.new.self.items c.in_ok-made-in-Data.made
    (c.in_ok-name.ensures.meaning names) c.in-Data.is c.in_ok-push-in-Data.ensures.items
    (c.in_ok-made-in-Data.ensures owner names r has own.1 parameters all
    ∙ ap (λ ps. declared_type r name (map (name_meaning names) ps) (map (constructor_meaning names) c.as_slice-in-Data.result.now)) c.as_slice.ensures.value
    ∙ ap (λ cs. declared_type r name (map (name_meaning names) c.in-Data.parameters.items) (map (constructor_meaning names) cs)) c.as_slice-in-Data.ensures.value)

pub returns : goal.returns
returns c = λ owner names r has is.
    no_data names r (item_meaning names c.args.item.now) c.in_ok-name.field-0 (map code.type_meaning c.args.types.now.items) (c.in_ok-name.ensures.meaning names) c.in_default.not-Data
