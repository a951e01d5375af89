use Rattle.std.proofs.Common.{◌∙◌, List, ap, rules, subst, sym, take_all}
use Rattle.std.specs.List.{All}
use Rattle.std.specs.Prelude.{OnOk}
use Rattle.cu_syntax.proofs.Elements.{largest}
use Rattle.cu_syntax.specs.declared.types.TypeNode.TheVariants as node
use Rattle.cu_syntax.specs.declared.types.TypeTerm.{TypeTerm}
use Rattle.cu_syntax.specs.Owners.{TypeIsOf, TypeNodeIsOf}
use Rattle.cu_syntax.specs.Smaller.{type_size}
use Rattle.cu_syntax.specs.Types.{types_meaning}
use Rattle.cu_uses.specs.Binders.{all_type_variables}
use Rattle.cu_toplevel.specs.Inside.Variables.{AddsOnce}
use Rattle.cu_toplevel.proofs.SignatureLemmas.{adds_function, adds_more, adds_none, all_variables, node_adds, variables_of}
use Rattle.cu_toplevel.proofs.TypeLemmas.{on_ok}
use Rattle.cu_toplevel.proofs.signatures.+variables.Goals as goal

pub add_all-add_variables-requires : goal.add_all-add_variables-requires
add_all-add_variables-requires t c = (search (rules, largest type_size c.args.ts.now c.types.t-index, c.types-test.true), tt)

pub add_all-types-init : goal.add_all-types-init
add_all-types-init t c = λ owner table differ all. adds_none owner table c.args.variables.now.items

pub add_all-types-preserved : goal.add_all-types-preserved
add_all-types-preserved t c = λ owner table differ all.
    let x = c.t-item.result in
    let own = subst (λ (x : TypeTerm). TypeIsOf owner table x) (sym c.t-item.is) (all c.types.t-index x c.types-test.true) in
    adds_more owner table c.args.ts.now c.types.t-index x c.args.variables.now.items c.types.variables.items c.add_variables.new.variables.items c.types-test.true c.t-item.is
    (c.types.invariant owner table differ all) (c.in_ok-add_variables.ensures owner table differ own)

pub add_all-returns : goal.add_all-returns
add_all-returns t c = λ owner table differ all.
    subst (λ xs. AddsOnce owner table c.args.variables.now.items xs c.types.variables.items)
    (ap (variables_of table) (take_all c.types.t-index c.args.ts.now c.types-test.false) ∙ all_variables table c.args.ts.now)
    (c.types.invariant owner table differ all)

pub add_variables-returns-in-Variable : goal.add_variables-returns-in-Variable
add_variables-returns-in-Variable t c = λ owner table differ is.
    let of = subst (TypeNodeIsOf owner table) c.in-Variable.is (c.in_ok-name.ensures.owned owner table is) in
    on_ok c.add_variable.result
    (node_adds owner table c.args.t c.in_ok-name.field-0 (node.Variable c.in-Variable.name) c.args.variables.now.items c.add_variable.new.variables.items (c.in_ok-name.ensures.meaning table) c.in-Variable.is)
    (c.add_variable.ensures owner table differ of)

pub add_variables-returns-in-Named : goal.add_variables-returns-in-Named
add_variables-returns-in-Named t c = λ owner table differ is.
    let of = subst (TypeNodeIsOf owner table) c.in-Named.is (c.in_ok-name.ensures.owned owner table is) in
    on_ok c.add_all.result
    (node_adds owner table c.args.t c.in_ok-name.field-0 (node.Named c.in-Named.field-0 c.in-Named.arguments) c.args.variables.now.items c.add_all.new.variables.items (c.in_ok-name.ensures.meaning table) c.in-Named.is)
    (subst (λ (ts : List TypeTerm). All (TypeIsOf owner table) ts → OnOk c.add_all.result (AddsOnce owner table c.args.variables.now.items (all_type_variables (types_meaning table ts)) c.add_all.new.variables.items))
    c.as_slice.ensures.value (c.add_all.ensures owner table differ) of.1)

pub add_variables-returns-in_ok-add_all-in-Function : goal.add_variables-returns-in_ok-add_all-in-Function
add_variables-returns-in_ok-add_all-in-Function t c = λ owner table differ is.
    let of = subst (TypeNodeIsOf owner table) c.in-Function.is (c.in_ok-name.ensures.owned owner table is) in
    on_ok c.add_variables-in-Function.result
    (λ last. node_adds owner table c.args.t c.in_ok-name.field-0 (node.Function c.in-Function.first c.in-Function.further c.in-Function.to) c.args.variables.now.items c.add_variables-in-Function.new.variables.items
    (c.in_ok-name.ensures.meaning table) c.in-Function.is
    (adds_function owner table c.in-Function.first c.in-Function.to c.in-Function.further.items c.args.variables.now.items c.add_variables.new.variables.items c.add_all-in-Function.new.variables.items
    c.add_variables-in-Function.new.variables.items (c.in_ok-add_variables-in-Function.ensures owner table differ of.0)
    (subst (λ (ts : List TypeTerm). All (TypeIsOf owner table) ts → AddsOnce owner table c.add_variables.new.variables.items (all_type_variables (types_meaning table ts)) c.add_all-in-Function.new.variables.items)
    c.as_slice-in-Function.ensures.value (c.in_ok-add_all-in-Function.ensures owner table differ) of.1)
    last))
    (c.add_variables-in-Function.ensures owner table differ of.2)

pub add_variables-returns-in-Tuple : goal.add_variables-returns-in-Tuple
add_variables-returns-in-Tuple t c = λ owner table differ is.
    let of = subst (TypeNodeIsOf owner table) c.in-Tuple.is (c.in_ok-name.ensures.owned owner table is) in
    on_ok c.add_all-in-Tuple.result
    (node_adds owner table c.args.t c.in_ok-name.field-0 (node.Tuple c.in-Tuple.field-0 c.in-Tuple.components) c.args.variables.now.items c.add_all-in-Tuple.new.variables.items (c.in_ok-name.ensures.meaning table) c.in-Tuple.is)
    (subst (λ (ts : List TypeTerm). All (TypeIsOf owner table) ts → OnOk c.add_all-in-Tuple.result (AddsOnce owner table c.args.variables.now.items (all_type_variables (types_meaning table ts)) c.add_all-in-Tuple.new.variables.items))
    c.as_slice-in-Tuple.ensures.value (c.add_all-in-Tuple.ensures owner table differ) of.1)

pub add_variables-returns-in-List : goal.add_variables-returns-in-List
add_variables-returns-in-List t c = λ owner table differ is.
    let of = subst (TypeNodeIsOf owner table) c.in-List.is (c.in_ok-name.ensures.owned owner table is) in
    on_ok c.add_variables-in-List.result
    (node_adds owner table c.args.t c.in_ok-name.field-0 (node.List c.in-List.field-0 c.in-List.element) c.args.variables.now.items c.add_variables-in-List.new.variables.items (c.in_ok-name.ensures.meaning table) c.in-List.is)
    (c.add_variables-in-List.ensures owner table differ of.1)
