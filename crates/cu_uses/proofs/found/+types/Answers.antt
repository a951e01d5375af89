use Rattle.std.proofs.Common.{rules, List, refl, subst}
use Rattle.std.specs.List.{All}
use Rattle.std.specs.Prelude.{OnOk}
use Rattle.cu_syntax.proofs.Elements.{largest}
use Rattle.cu_syntax.specs.declared.types.TypeNode.TheVariants as type_term
use Rattle.cu_syntax.specs.declared.types.TypeTerm.{TypeTerm}
use Rattle.cu_syntax.specs.Owners.{TypeIsOf, TypeNodeIsOf}
use Rattle.cu_syntax.specs.Smaller.{type_size}
use Rattle.cu_uses.specs.Gathered.{Finds, types_bind, types_build}
use Rattle.cu_uses.proofs.FoundLemmas.{finds_both, on_ok, type_found, types_end, types_prefix}
use Rattle.cu_uses.proofs.found.+types.Goals as goal

pub types-type_term-requires : goal.types-type_term-requires
types-type_term-requires t c = (search (rules, largest type_size c.args.ts.now c.loop-t.t-index, c.loop-t-test.true), tt)

pub types-loop-t-preserved : goal.types-loop-t-preserved
types-loop-t-preserved t c owner names after all rest =
    c.loop-t.invariant owner names after all
    (types_prefix (TypeIsOf owner names) owner names c.args.ts.now c.loop-t.t-index c.t-item.result c.loop-t.found c.type_term.new.found after c.t-item.is c.loop-t-test.true all
    (λ of. c.in_ok-type_term.ensures owner names of) rest)

pub types-returns : goal.types-returns
types-returns t c owner names all =
    c.loop-t.invariant owner names c.loop-t.found all (types_end owner names c.args.ts.now c.loop-t.t-index c.loop-t.found c.loop-t-test.false)

pub type_term-returns-in-Variable : goal.type_term-returns-in-Variable
type_term-returns-in-Variable t c owner names is =
    let of = subst (TypeNodeIsOf owner names) c.in-Variable.is (c.in_ok-name.ensures.owned owner names is) in
    on_ok c.variable.result
    (type_found owner names c.args.t c.in_ok-name.field-0 (type_term.Variable c.in-Variable.name) c.args.found.now c.variable.new.self (c.in_ok-name.ensures.meaning names) c.in-Variable.is)
    (c.variable.ensures owner names of)

pub type_term-returns-in_ok-constructor-in-Named : goal.type_term-returns-in_ok-constructor-in-Named
type_term-returns-in_ok-constructor-in-Named t c owner names is =
    let of = subst (TypeNodeIsOf owner names) c.in-Named.is (c.in_ok-name.ensures.owned owner names is) in
    on_ok c.types.result
    (λ inner. type_found owner names c.args.t c.in_ok-name.field-0 (type_term.Named c.in-Named.name c.in-Named.arguments) c.args.found.now c.types.new.found
    (c.in_ok-name.ensures.meaning names) c.in-Named.is (finds_both (c.in_ok-constructor-in-Named.ensures owner names of.0) inner))
    (subst (λ (ts : List TypeTerm). All (TypeIsOf owner names) ts → OnOk c.types.result (Finds owner names c.constructor.new.self (types_bind names ts) (types_build names ts) c.types.new.found))
    c.as_slice.ensures.value (c.types.ensures owner names) of.1)

pub type_term-returns-in_ok-types-in-Function : goal.type_term-returns-in_ok-types-in-Function
type_term-returns-in_ok-types-in-Function t c owner names is =
    let of = subst (TypeNodeIsOf owner names) c.in-Function.is (c.in_ok-name.ensures.owned owner names is) in
    on_ok c.type_term-in-Function.result
    (λ last. type_found owner names c.args.t c.in_ok-name.field-0 (type_term.Function c.in-Function.first c.in-Function.further c.in-Function.result) c.args.found.now c.type_term-in-Function.new.found
    (c.in_ok-name.ensures.meaning names) c.in-Function.is (finds_both (c.in_ok-type_term-in-Function.ensures owner names of.0) (finds_both
    (subst (λ (ts : List TypeTerm). All (TypeIsOf owner names) ts → Finds owner names c.type_term.new.found (types_bind names ts) (types_build names ts) c.types-in-Function.new.found)
    c.as_slice-in-Function.ensures.value (c.in_ok-types-in-Function.ensures owner names) of.1) last)))
    (c.type_term-in-Function.ensures owner names of.2)

pub type_term-returns-in-Tuple : goal.type_term-returns-in-Tuple
type_term-returns-in-Tuple t c owner names is =
    let of = subst (TypeNodeIsOf owner names) c.in-Tuple.is (c.in_ok-name.ensures.owned owner names is) in
    on_ok c.types-in-Tuple.result
    (type_found owner names c.args.t c.in_ok-name.field-0 (type_term.Tuple c.in-Tuple.field-0 c.in-Tuple.components) c.args.found.now c.types-in-Tuple.new.found (c.in_ok-name.ensures.meaning names) c.in-Tuple.is)
    (subst (λ (ts : List TypeTerm). All (TypeIsOf owner names) ts → OnOk c.types-in-Tuple.result (Finds owner names c.args.found.now (types_bind names ts) (types_build names ts) c.types-in-Tuple.new.found))
    c.as_slice-in-Tuple.ensures.value (c.types-in-Tuple.ensures owner names) of.1)

pub type_term-returns-in-List : goal.type_term-returns-in-List
type_term-returns-in-List t c owner names is =
    let of = subst (TypeNodeIsOf owner names) c.in-List.is (c.in_ok-name.ensures.owned owner names is) in
    on_ok c.type_term-in-List.result
    (type_found owner names c.args.t c.in_ok-name.field-0 (type_term.List c.in-List.field-0 c.in-List.element) c.args.found.now c.type_term-in-List.new.found (c.in_ok-name.ensures.meaning names) c.in-List.is)
    (c.type_term-in-List.ensures owner names of.1)
