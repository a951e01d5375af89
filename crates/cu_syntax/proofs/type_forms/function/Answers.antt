-- The last type is that of the result, and the first that of the first parameter.
use Rattle.std.proofs.Common.{rules, [], ◌≡◌, ap, arith, eqb-true, length, sym}
use Rattle.std.proofs.lemmas.List.{nil_from_length}
use Rattle.cu_syntax.specs.SubtreeMeaning.{tree_of}
use Rattle.cu_syntax.specs.Owners.{TypeIsOf}
use Rattle.cu_syntax.proofs.TypeForms.{function_is, no_types, one_alone}
use Rattle.cu_syntax.proofs.ViewLemmas.{removed_first}
use Rattle.cu_syntax.proofs.OwnerLemmas.{all_popped, all_removed}
use Rattle.cu_syntax.proofs.type_forms.function.Goals as goal
use Rattle.cu_syntax.proofs.type_forms.function.Goals.{in_default-via-in-Some+else-not-is_empty, in_default-via-in_default}

pub unreachable-requires : goal.unreachable-requires
unreachable-requires c =
    let types = c.in_ok-types.types in
    let tree = tree_of [] c.args.tree in
    elim c.in_default.branch [
      | in_default-via-in-Some+else-not-is_empty w ↦
          one_alone [] c.args.tree.symbol tree types.items c.pop.new.self.items w.in-Some.result c.requires.symbol (c.requires.more []) (c.in_ok-types.ensures.trees []) w.in-Some.ensures.items
          (nil_from_length c.pop.new.self.items (omega (arith, c.pop.new.self.ok.0, eqb-true _ 0 (sym w.if-not-is_empty.ensures))))
      | in_default-via-in_default w ↦
          no_types [] c.args.tree.symbol tree types.items c.requires.symbol (c.args.tree.fits []) (c.in_ok-types.ensures.trees [])
          (nil_from_length types.items (omega (arith, types.ok.0, w.in_default.ensures.cases.0)))
    ]

pub returns-clause-meaning : goal.returns-clause-meaning
returns-clause-meaning c = λ names.
    let types = c.pop.new.self.items in
    let later = c.remove-first.new.self.items in
    let same = removed_first types later c.remove-first.result (λ none. omega (arith, c.remove-first.ensures.len, c.pop.new.self.ok.0, ap length none)) c.remove-first.ensures.value
    c.remove-first.ensures.by_index.2 in
    function_is names (tree_of names c.args.tree) c.in_ok-types.types.items types later c.remove-first.result c.in-Some.result (c.in_ok-types.ensures.trees names) c.in_ok-types.ensures.symbols
    c.in-Some.ensures.items same

pub returns-clause-owned : goal.returns-clause-owned
returns-clause-owned c = λ owner names whole.
    let h = c.is_empty.ensures in
    let k = c.if-not-is_empty.true in
    let some : ¬ (c.pop.new.self.items ≡ []) = search rules in
    let popped = all_popped (TypeIsOf owner names) c.in_ok-types.types.items c.pop.new.self.items c.in-Some.result c.in-Some.ensures.items (c.in_ok-types.ensures.owned owner names whole) in
    let removed = all_removed (TypeIsOf owner names) c.pop.new.self.items c.remove-first.new.self.items c.remove-first.result some c.remove-first.ensures.value
    c.remove-first.ensures.by_index.2 popped.0 in
    (removed.0, removed.1, popped.1)
