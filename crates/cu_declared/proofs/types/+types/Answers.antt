use Rattle.std.proofs.Common.{rules, List, [], ◌∷◌, length, ap, subst}
use Rattle.std.specs.List.{All}
use Rattle.std.specs.Prelude.{OnOk}
use Rattle.cu_syntax.proofs.Elements.{largest}
use Rattle.cu_syntax.specs.declared.types.TypeNode.TheVariants as type_term
use Rattle.cu_syntax.specs.declared.types.TypeTerm.{TypeTerm}
use Rattle.cu_syntax.specs.Names.{name_meaning}
use Rattle.cu_syntax.specs.Owners.{TypeIsOf, TypeNodeIsOf}
use Rattle.cu_syntax.specs.Smaller.{type_size}
use Rattle.cu_declared.specs.Inside.Gathered.{Adds, in_types}
use Rattle.cu_declared.proofs.AddsLemmas.{adds_as, adds_both, adds_none, adds_one, on_ok}
use Rattle.cu_declared.proofs.UsesLemmas.{type_found, types_end, types_prefix}
use Rattle.cu_declared.proofs.types.+types.Goals as goal

pub types-type_term-requires : goal.types-type_term-requires
types-type_term-requires t c = (search (rules, largest type_size c.args.ts.now c.loop-t.t-index, c.loop-t-test.true), tt)

pub types-loop-t-preserved : goal.types-loop-t-preserved
types-loop-t-preserved t c owner names after all rest =
    c.loop-t.invariant owner names after all
    (types_prefix (TypeIsOf owner names) owner names c.args.ts.now c.loop-t.t-index c.t-item.result c.loop-t.found.items c.type_term.new.found.items after c.t-item.is c.loop-t-test.true all
    (λ of. c.in_ok-type_term.ensures owner names of) rest)

pub types-returns : goal.types-returns
types-returns t c owner names all =
    c.loop-t.invariant owner names c.loop-t.found.items all (types_end owner names c.args.ts.now c.loop-t.t-index c.loop-t.found.items c.loop-t-test.false)

pub type_term-returns-in-Variable : goal.type_term-returns-in-Variable
type_term-returns-in-Variable t c owner names is =
    type_found owner names c.args.t c.in_ok-node.node (type_term.Variable c.in-Variable.field-0) c.args.found.now.items c.args.found.now.items (c.in_ok-node.ensures.meaning names) c.in-Variable.is
    (adds_none owner names c.args.found.now.items)

pub type_term-returns-in_ok-push-in-Named : goal.type_term-returns-in_ok-push-in-Named
type_term-returns-in_ok-push-in-Named t c owner names is =
    let of = subst (TypeNodeIsOf owner names) c.in-Named.is (c.in_ok-node.ensures.owned owner names is) in
    on_ok c.types.result
    (λ inner. type_found owner names c.args.t c.in_ok-node.node (type_term.Named c.in-Named.name c.in-Named.arguments) c.args.found.now.items c.types.new.found.items
    (c.in_ok-node.ensures.meaning names) c.in-Named.is
    (adds_both (adds_as owner names c.args.found.now.items c.push.new.self.items (record { name = name_meaning names c.in-Named.name; arguments = c.len.result } ∷ [])
    (record { name = name_meaning names c.in-Named.name; arguments = length c.in-Named.arguments.items } ∷ [])
    (ap (λ k. (record { name = name_meaning names c.in-Named.name; arguments = k }) ∷ []) (search rules))
    (adds_one owner names c.args.found.now.items c.push.new.self.items (record { name = c.in-Named.name; arguments = c.len.result }) of.0 c.in_ok-push-in-Named.ensures.items)) inner))
    (subst (λ (ts : List TypeTerm). All (TypeIsOf owner names) ts → OnOk c.types.result (Adds owner names c.push.new.self.items (in_types names ts) c.types.new.found.items))
    c.as_slice.ensures.value (c.types.ensures owner names) of.1)

pub type_term-returns-in_ok-types-in-Function : goal.type_term-returns-in_ok-types-in-Function
type_term-returns-in_ok-types-in-Function t c owner names is =
    let of = subst (TypeNodeIsOf owner names) c.in-Function.is (c.in_ok-node.ensures.owned owner names is) in
    on_ok c.type_term-in-Function.result
    (λ last. type_found owner names c.args.t c.in_ok-node.node (type_term.Function c.in-Function.first c.in-Function.further c.in-Function.result) c.args.found.now.items c.type_term-in-Function.new.found.items
    (c.in_ok-node.ensures.meaning names) c.in-Function.is (adds_both (c.in_ok-type_term-in-Function.ensures owner names of.0) (adds_both
    (subst (λ (ts : List TypeTerm). All (TypeIsOf owner names) ts → Adds owner names c.type_term.new.found.items (in_types names ts) c.types-in-Function.new.found.items)
    c.as_slice-in-Function.ensures.value (c.in_ok-types-in-Function.ensures owner names) of.1) last)))
    (c.type_term-in-Function.ensures owner names of.2)

pub type_term-returns-in-Tuple : goal.type_term-returns-in-Tuple
type_term-returns-in-Tuple t c owner names is =
    let of = subst (TypeNodeIsOf owner names) c.in-Tuple.is (c.in_ok-node.ensures.owned owner names is) in
    on_ok c.types-in-Tuple.result
    (type_found owner names c.args.t c.in_ok-node.node (type_term.Tuple c.in-Tuple.field-0 c.in-Tuple.components) c.args.found.now.items c.types-in-Tuple.new.found.items (c.in_ok-node.ensures.meaning names) c.in-Tuple.is)
    (subst (λ (ts : List TypeTerm). All (TypeIsOf owner names) ts → OnOk c.types-in-Tuple.result (Adds owner names c.args.found.now.items (in_types names ts) c.types-in-Tuple.new.found.items))
    c.as_slice-in-Tuple.ensures.value (c.types-in-Tuple.ensures owner names) of.1)

pub type_term-returns-in-List : goal.type_term-returns-in-List
type_term-returns-in-List t c owner names is =
    let of = subst (TypeNodeIsOf owner names) c.in-List.is (c.in_ok-node.ensures.owned owner names is) in
    on_ok c.type_term-in-List.result
    (type_found owner names c.args.t c.in_ok-node.node (type_term.List c.in-List.field-0 c.in-List.element) c.args.found.now.items c.type_term-in-List.new.found.items (c.in_ok-node.ensures.meaning names) c.in-List.is)
    (c.type_term-in-List.ensures owner names of.1)
