use Rattle.std.proofs.Common.{◌∙◌, ap, map, rules, subst, sym, take_all, []}
use Rattle.std.specs.List.{All}
use Rattle.cu_kernel.specs.TypesOf as code
use Rattle.cu_syntax.proofs.Elements.{largest}
use Rattle.cu_syntax.specs.declared.types.TypeNode.TheVariants as node
use Rattle.cu_syntax.specs.declared.types.TypeTerm.{TypeTerm}
use Rattle.cu_syntax.specs.Names.{name_meaning}
use Rattle.cu_syntax.specs.Owners.{TypeIsOf, TypeNodeIsOf}
use Rattle.cu_syntax.specs.Smaller.{type_size}
use Rattle.cu_syntax.specs.Types.{types_meaning}
use Rattle.cu_translation.specs.ModuleTypes.{list_of}
use Rattle.cu_translation.specs.TypeTable.{fields_of}
use Rattle.cu_uses.specs.Binders.{texts}
use Rattle.cu_toplevel.proofs.TypeLemmas.{fields_are, function_is, if_ok, meant_type, named_is, pushed_more, tuple_is, type_is}
use Rattle.cu_toplevel.proofs.types.+types.Goals as goal

pub types_of-type_of-requires : goal.types_of-type_of-requires
types_of-type_of-requires t c = (search (rules, largest type_size c.args.ts.now c.types.t-index, c.types-test.true), tt)

pub types_of-types-init : goal.types_of-types-init
types_of-types-init t c = λ owner names around tells variables all. ap (map code.type_of) c.new-types.ensures.items

pub types_of-types-preserved : goal.types_of-types-preserved
types_of-types-preserved t c = λ owner names around tells variables all.
    let x = c.t-item.result in
    let own = subst (λ (x : TypeTerm). TypeIsOf owner names x) (sym c.t-item.is) (all c.types.t-index x c.types-test.true) in
    pushed_more code.type_of (meant_type names around c.args.variables.now) [] c.args.ts.now c.types.t-index x c.types.types.items c.push.new.self.items c.in_ok-made.made c.types-test.true c.in_ok-push.ensures.items
    (c.in_ok-made.ensures owner names around tells variables own ∙ ap (meant_type names around c.args.variables.now) c.t-item.is)
    (c.types.invariant owner names around tells variables all)

pub types_of-returns : goal.types_of-returns
types_of-returns t c = λ owner names around tells variables all.
    c.types.invariant owner names around tells variables all
    ∙ ap (map (meant_type names around c.args.variables.now)) (take_all c.types.t-index c.args.ts.now c.types-test.false)
    ∙ fields_are names around c.args.variables.now c.args.ts.now

pub type_of-returns-in-Variable : goal.type_of-returns-in-Variable
type_of-returns-in-Variable t c = λ owner names around tells variables is.
    let of = subst (TypeNodeIsOf owner names) c.in-Variable.is (c.in_ok-name.ensures.owned owner names is) in
    if_ok c.variable.result
    (λ made same. type_is names around c.args.variables.now c.args.t c.in_ok-name.field-0 (node.Variable c.in-Variable.name) (code.type_of made) (c.in_ok-name.ensures.meaning names) c.in-Variable.is same)
    (c.variable.ensures owner names tells.entities.differ of variables)

pub type_of-returns-in_ok-made-in-Named : goal.type_of-returns-in_ok-made-in-Named
type_of-returns-in_ok-made-in-Named t c = λ owner names around tells variables is.
    let of = subst (TypeNodeIsOf owner names) c.in-Named.is (c.in_ok-name.ensures.owned owner names is) in
    let all = subst (All (TypeIsOf owner names)) (sym c.as_slice.ensures.value) of.1 in
    type_is names around c.args.variables.now c.args.t c.in_ok-name.field-0 (node.Named c.in-Named.name c.in-Named.arguments) _ (c.in_ok-name.ensures.meaning names) c.in-Named.is
    (named_is names around c.args.variables.now c.in-Named.name c.in-Named.arguments c.type_name.result c.in_ok-made-in-Named.made (c.type_name.ensures owner names around tells of.0)
    (c.in_ok-made-in-Named.ensures owner names around tells variables all
    ∙ ap (λ ts. fields_of around (texts (map (name_meaning names) c.args.variables.now)) (types_meaning names ts)) c.as_slice.ensures.value))

pub type_of-returns-in_ok-made-in-Function : goal.type_of-returns-in_ok-made-in-Function
type_of-returns-in_ok-made-in-Function t c = λ owner names around tells variables is.
    let of = subst (TypeNodeIsOf owner names) c.in-Function.is (c.in_ok-name.ensures.owned owner names is) in
    let all = subst (All (TypeIsOf owner names)) (sym c.as_slice-in-Function.ensures.value) of.1 in
    if_ok c.function.result
    (λ made same. type_is names around c.args.variables.now c.args.t c.in_ok-name.field-0 (node.Function c.in-Function.first c.in-Function.further c.in-Function.to) (code.type_of made) (c.in_ok-name.ensures.meaning names) c.in-Function.is
    (function_is names around c.args.variables.now c.in-Function.first c.in-Function.further c.in-Function.to c.in_ok-from-in-Function.from c.in_ok-made-in-Function.made made c.in_ok-others-in-Function.others.items
    (c.in_ok-from-in-Function.ensures owner names around tells variables of.0)
    (c.in_ok-others-in-Function.ensures owner names around tells variables all
    ∙ ap (λ ts. fields_of around (texts (map (name_meaning names) c.args.variables.now)) (types_meaning names ts)) c.as_slice-in-Function.ensures.value)
    (c.in_ok-made-in-Function.ensures owner names around tells variables of.2) same))
    c.function.ensures

pub type_of-returns-in_ok-made-in-Tuple : goal.type_of-returns-in_ok-made-in-Tuple
type_of-returns-in_ok-made-in-Tuple t c = λ owner names around tells variables is.
    let of = subst (TypeNodeIsOf owner names) c.in-Tuple.is (c.in_ok-name.ensures.owned owner names is) in
    let all = subst (All (TypeIsOf owner names)) (sym c.as_slice-in-Tuple.ensures.value) of.1 in
    type_is names around c.args.variables.now c.args.t c.in_ok-name.field-0 (node.Tuple c.in-Tuple.field-0 c.in-Tuple.components) _ (c.in_ok-name.ensures.meaning names) c.in-Tuple.is
    (tuple_is names around (texts (map (name_meaning names) c.args.variables.now)) c.in-Tuple.components.items (code.type_of c.tuple_of.result) c.in_ok-made-in-Tuple.made.items
    (c.in_ok-made-in-Tuple.ensures owner names around tells variables all
    ∙ ap (λ ts. fields_of around (texts (map (name_meaning names) c.args.variables.now)) (types_meaning names ts)) c.as_slice-in-Tuple.ensures.value)
    (c.tuple_of.ensures names around tells))

pub type_of-returns-in_ok-made-in-List : goal.type_of-returns-in_ok-made-in-List
type_of-returns-in_ok-made-in-List t c = λ owner names around tells variables is.
    let of = subst (TypeNodeIsOf owner names) c.in-List.is (c.in_ok-name.ensures.owned owner names is) in
    if_ok c.list_of.result
    (λ made same. type_is names around c.args.variables.now c.args.t c.in_ok-name.field-0 (node.List c.in-List.field-0 c.in-List.element) (code.type_of made) (c.in_ok-name.ensures.meaning names) c.in-List.is
    (same ∙ ap (list_of around) (c.in_ok-made-in-List.ensures owner names around tells variables of.1)))
    (c.list_of.ensures names around tells)
