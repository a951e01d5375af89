-- Each constructor is read before those after it.
use Rattle.std.proofs.Common.{rules, ◌≡◌, [], ap, map, refl, sym, ◌∙◌}
use Rattle.std.specs.Option.{unwrap_or}
use Rattle.std.specs.Vec.Iter.{into_iter_items, into_iter_len}
use Rattle.cu_syntax.specs.declared.subtree.Subtree.{Subtree}
use Rattle.cu_syntax.specs.declared.symbol.Symbol.TheVariants as symbol
use Rattle.cu_syntax.specs.Items.{constructor_meaning}
use Rattle.cu_syntax.specs.Reading.{constructor_declaration, constructors_of, each_in, optional}
use Rattle.cu_syntax.specs.SubtreeMeaning.{tree_of}
use Rattle.cu_syntax.specs.Subtrees.{is_choice}
use Rattle.cu_syntax.specs.Table.{rule_of}
use Rattle.cu_syntax.specs.Owners.{ConstructorDeclarationIsOf, IsOf}
use Rattle.cu_syntax.proofs.ItemLemmas.{constructor_taken, constructors_there, no_constructors, read_all, read_first, read_part}
use Rattle.cu_syntax.proofs.ViewLemmas.{all_here, all_later, all_left, nothing_left, one_left}
use Rattle.cu_syntax.proofs.OwnerLemmas.{none_yet, one_more, parts_here, parts_later}
use Rattle.cu_syntax.proofs.item_forms.constructors.Goals as goal

pub returns-in_default-clause-meaning : goal.returns-in_default-clause-meaning
returns-in_default-clause-meaning c = λ names.
    no_constructors (tree_of names c.args.tree) (map (constructor_meaning names) c.new-constructors.result.items) (c.in_default.ensures.none names)
    (ap (map (constructor_meaning names)) c.new-constructors.ensures.items)

pub loop-declaration-init : goal.loop-declaration-init
loop-declaration-init c = record {
  reads = λ names.
      let tree = tree_of names c.args.tree in
      let outer = c.in-Some.declarations in
      let list = tree_of names c.part-list.result in
      read_first (constructor_meaning names) constructor_declaration names list (unwrap_or (optional constructors_of tree) []) c.new-constructors.result.items
      (into_iter_items c.into_iter-declaration-iterator.result) c.in_ok-declaration-items.declaration-items.items
      (constructors_there outer.symbol tree (tree_of names outer) list (each_in constructor_declaration list) (c.in-Some.ensures.tree names) c.in-Some.ensures.symbol (outer.fits names)
      (c.part-list.ensures.tree names) refl)
      c.new-constructors.ensures.items c.into_iter-declaration-iterator.ensures.into_iter_gives.0 (c.in_ok-declaration-items.ensures.trees names);
  left = λ owner names whole.
      all_left (IsOf owner names) (into_iter_items c.into_iter-declaration-iterator.result) c.in_ok-declaration-items.declaration-items.items c.into_iter-declaration-iterator.ensures.into_iter_gives.0
      (c.in_ok-declaration-items.ensures.owned owner names (c.part-list.ensures.owned owner names (c.in-Some.ensures.owned owner names whole)));
  owned = λ owner names whole. none_yet (ConstructorDeclarationIsOf owner names) c.new-constructors.result.items c.new-constructors.ensures.items;
  symbols = search rules;
  counted = search rules;
}

pub chosen-requires : goal.chosen-requires
chosen-requires c =
    let at = c.loop-declaration in
    let here = all_here (λ (part : Subtree). part.symbol ≡ symbol.ConDecl) (into_iter_items at.declaration-iterator) (into_iter_items c.next.new.self) c.in-Some-declaration.declaration
    c.in-Some-declaration.ensures.steps.0 at.invariant.symbols in
    ap (λ s. is_choice (rule_of s)) here

pub constructor-requires : goal.constructor-requires
constructor-requires c =
    let at = c.loop-declaration in
    let part = c.in-Some-declaration.declaration in
    let here = all_here (λ (part : Subtree). part.symbol ≡ symbol.ConDecl) (into_iter_items at.declaration-iterator) (into_iter_items c.next.new.self) part
    c.in-Some-declaration.ensures.steps.0 at.invariant.symbols in
    (constructor_taken part.symbol (tree_of [] part) c.chosen.result.symbol (tree_of [] c.chosen.result) here (part.fits []) (c.chosen.ensures.tree [])).is_constructor

pub loop-declaration-preserved : goal.loop-declaration-preserved
loop-declaration-preserved c =
    let at = c.loop-declaration in
    let left = into_iter_items at.declaration-iterator in
    let later = into_iter_items c.next.new.self in
    let part = c.in-Some-declaration.declaration in
    let here = all_here (λ (part : Subtree). part.symbol ≡ symbol.ConDecl) left later part c.in-Some-declaration.ensures.steps.0 at.invariant.symbols in
    record {
      reads = λ names.
          read_part (constructor_meaning names) constructor_declaration names (unwrap_or (optional constructors_of (tree_of names c.args.tree)) []) at.constructors.items c.push.new.self.items
          left later part c.in_ok-constructor.field-0 (at.invariant.reads names) c.in-Some-declaration.ensures.steps.0
          (c.in_ok-constructor.ensures.meaning names
          ∙ sym (constructor_taken part.symbol (tree_of names part) c.chosen.result.symbol (tree_of names c.chosen.result) here (part.fits names) (c.chosen.ensures.tree names)).is)
          c.in_ok-push.ensures.items;
      left = λ owner names whole. parts_later owner names left later c.in-Some-declaration.declaration c.in-Some-declaration.ensures.steps.0 (at.invariant.left owner names whole);
      owned = λ owner names whole.
          one_more (ConstructorDeclarationIsOf owner names) at.constructors.items c.push.new.self.items c.in_ok-constructor.field-0 c.in_ok-push.ensures.items (at.invariant.owned owner names whole)
          (c.in_ok-constructor.ensures.owned owner names (c.chosen.ensures.owned owner names (parts_here owner names left later c.in-Some-declaration.declaration c.in-Some-declaration.ensures.steps.0 (at.invariant.left owner names whole))));
      symbols = all_later (λ (part : Subtree). part.symbol ≡ symbol.ConDecl) left later part c.in-Some-declaration.ensures.steps.0 at.invariant.symbols;
      counted = one_left left later part (into_iter_len at.declaration-iterator) (into_iter_len c.next.new.self) c.in-Some-declaration.ensures.steps.0
          c.in-Some-declaration.ensures.steps.1 at.invariant.counted;
    }

pub returns-clause-meaning : goal.returns-clause-meaning
returns-clause-meaning c = λ names.
    let at = c.loop-declaration in
    let left = into_iter_items at.declaration-iterator in
    let none = nothing_left left (into_iter_len at.declaration-iterator) c.in-None.ensures.steps.0 at.invariant.counted in
    read_all (constructor_meaning names) constructor_declaration names (unwrap_or (optional constructors_of (tree_of names c.args.tree)) []) at.constructors.items left
    (at.invariant.reads names) none

pub returns-clause-owned : goal.returns-clause-owned
returns-clause-owned c = λ owner names whole. c.loop-declaration.invariant.owned owner names whole

pub returns-in_default-clause-owned : goal.returns-in_default-clause-owned
returns-in_default-clause-owned c = λ owner names whole. none_yet (ConstructorDeclarationIsOf owner names) c.new-constructors.result.items c.new-constructors.ensures.items
