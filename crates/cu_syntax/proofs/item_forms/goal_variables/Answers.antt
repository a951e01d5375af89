-- The variables of each declaration stand before those of the declarations after it.
use Rattle.std.proofs.Common.{rules, ◌≡◌, ◌++◌, ap, map, refl, sym, ◌∙◌}
use Rattle.std.specs.Vec.Iter.{into_iter_items, into_iter_len}
use Rattle.cu_syntax.specs.declared.subtree.Subtree.{Subtree}
use Rattle.cu_syntax.specs.declared.symbol.Symbol.TheVariants as symbol
use Rattle.cu_syntax.specs.Names.{name_meaning}
use Rattle.cu_syntax.specs.Reading.{free_names, goal_variables}
use Rattle.cu_syntax.specs.SubtreeMeaning.{tree_of}
use Rattle.cu_syntax.specs.Owners.{IsOf, NameIsOf}
use Rattle.cu_syntax.proofs.DeclarationLemmas.{has_part}
use Rattle.cu_syntax.proofs.ItemLemmas.{free_begun, free_done, free_first, free_step, goal_where, no_goal_where}
use Rattle.cu_syntax.proofs.ViewLemmas.{all_here, all_later, all_left, nothing_left, one_left}
use Rattle.cu_syntax.proofs.OwnerLemmas.{all_joined, none_yet, parts_here, parts_later}
use Rattle.cu_syntax.proofs.item_forms.goal_variables.Goals as goal

pub returns-in_default-clause-meaning : goal.returns-in_default-clause-meaning
returns-in_default-clause-meaning c = λ names.
    ap (map (name_meaning names)) c.new-variables.ensures.items ∙ no_goal_where (tree_of names c.args.tree) (c.in_default.ensures.none names)

pub loop-declaration-init : goal.loop-declaration-init
loop-declaration-init c = record {
  reads = λ names.
      let tree = tree_of names c.args.tree in
      let outer = c.in-Some.declarations in
      let list = tree_of names c.part-list.result in
      free_begun names list (goal_variables tree) c.new-variables.result.items (into_iter_items c.into_iter-declaration-iterator.result) c.in_ok-declaration-items.declaration-items.items
      (goal_where outer.symbol tree (tree_of names outer) list (c.in-Some.ensures.tree names) c.in-Some.ensures.symbol (outer.fits names) (c.part-list.ensures.tree names))
      c.new-variables.ensures.items c.into_iter-declaration-iterator.ensures.into_iter_gives.0 (c.in_ok-declaration-items.ensures.trees names);
  left = λ owner names whole.
      all_left (IsOf owner names) (into_iter_items c.into_iter-declaration-iterator.result) c.in_ok-declaration-items.declaration-items.items c.into_iter-declaration-iterator.ensures.into_iter_gives.0
      (c.in_ok-declaration-items.ensures.owned owner names (c.part-list.ensures.owned owner names (c.in-Some.ensures.owned owner names whole)));
  owned = λ owner names whole. none_yet (NameIsOf owner names) c.new-variables.result.items c.new-variables.ensures.items;
  symbols = search rules;
  counted = search rules;
}

pub part-requires : goal.part-requires
part-requires c =
    let at = c.loop-declaration in
    let part = c.in-Some-declaration.declaration in
    let here = all_here (λ (part : Subtree). part.symbol ≡ symbol.FreeDecl) (into_iter_items at.declaration-iterator) (into_iter_items c.next.new.self) part
    c.in-Some-declaration.ensures.steps.0 at.invariant.symbols in
    has_part part.symbol symbol.FreeDecl 0 symbol.VarIdList here refl

pub loop-declaration-preserved : goal.loop-declaration-preserved
loop-declaration-preserved c =
    let at = c.loop-declaration in
    let left = into_iter_items at.declaration-iterator in
    let later = into_iter_items c.next.new.self in
    let part = c.in-Some-declaration.declaration in
    let here = all_here (λ (part : Subtree). part.symbol ≡ symbol.FreeDecl) left later part c.in-Some-declaration.ensures.steps.0 at.invariant.symbols in
    record {
      reads = λ names.
          free_step names (goal_variables (tree_of names c.args.tree)) at.variables.items c.extend_from_slice.new.self.items c.in_ok-declared.declared.items left later part
          (at.invariant.reads names) c.in-Some-declaration.ensures.steps.0
          (λ rest. free_first part.symbol (tree_of names part) (tree_of names c.part.result) rest here (part.fits names) (c.part.ensures.tree names)
          ∙ ap (λ xs. xs ++ free_names rest) (sym (c.in_ok-declared.ensures.meaning names)))
          (c.in_ok-extend_from_slice.ensures.items ∙ ap (λ xs. at.variables.items ++ xs) c.as_slice.ensures.value);
      left = λ owner names whole. parts_later owner names left later c.in-Some-declaration.declaration c.in-Some-declaration.ensures.steps.0 (at.invariant.left owner names whole);
      owned = λ owner names whole.
          all_joined (NameIsOf owner names) at.variables.items c.in_ok-declared.declared.items c.as_slice.result.now c.extend_from_slice.new.self.items c.in_ok-extend_from_slice.ensures.items
          c.as_slice.ensures.value (at.invariant.owned owner names whole) (c.in_ok-declared.ensures.owned owner names (c.part.ensures.owned owner names (parts_here owner names left later c.in-Some-declaration.declaration c.in-Some-declaration.ensures.steps.0 (at.invariant.left owner names whole))));
      symbols = all_later (λ (part : Subtree). part.symbol ≡ symbol.FreeDecl) left later part c.in-Some-declaration.ensures.steps.0 at.invariant.symbols;
      counted = one_left left later part (into_iter_len at.declaration-iterator) (into_iter_len c.next.new.self) c.in-Some-declaration.ensures.steps.0
          c.in-Some-declaration.ensures.steps.1 at.invariant.counted;
    }

pub returns-clause-meaning : goal.returns-clause-meaning
returns-clause-meaning c = λ names.
    let at = c.loop-declaration in
    let left = into_iter_items at.declaration-iterator in
    let none = nothing_left left (into_iter_len at.declaration-iterator) c.in-None.ensures.steps.0 at.invariant.counted in
    free_done names (goal_variables (tree_of names c.args.tree)) at.variables.items left (at.invariant.reads names) none

pub returns-clause-owned : goal.returns-clause-owned
returns-clause-owned c = λ owner names whole. c.loop-declaration.invariant.owned owner names whole

pub returns-in_default-clause-owned : goal.returns-in_default-clause-owned
returns-in_default-clause-owned c = λ owner names whole. none_yet (NameIsOf owner names) c.new-variables.result.items c.new-variables.ensures.items
