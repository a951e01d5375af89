-- Each declaration is read before those after it, and an empty one says nothing.
use Rattle.std.proofs.Common.{rules, ◌≡◌, [], refl, sym, ◌∙◌}
use Rattle.std.specs.Vec.Iter.{into_iter_items, into_iter_len}
use Rattle.cu_syntax.specs.declared.subtree.Subtree.{Subtree}
use Rattle.cu_syntax.specs.declared.symbol.Symbol.TheVariants as symbol
use Rattle.cu_syntax.specs.Reading.{block_of, declarations_of}
use Rattle.cu_syntax.specs.SubtreeMeaning.{tree_of}
use Rattle.cu_syntax.specs.Owners.{DeclarationIsOf, IsOf}
use Rattle.cu_syntax.proofs.DeclarationLemmas.{block_is, declaration_taken, declaration_there, declarations_folded, declarations_in, no_declaration, with_declaration}
use Rattle.cu_syntax.proofs.ViewLemmas.{all_later, all_left, nothing_left, one_left, reads_all, reads_first, reads_none, reads_one}
use Rattle.cu_syntax.proofs.OwnerLemmas.{none_yet, one_more, parts_here, parts_later, same_part}
use Rattle.cu_syntax.proofs.declaration_forms.block.Goals as goal

pub loop-place-init : goal.loop-place-init
loop-place-init c = record {
  reads = λ names.
      let list = tree_of names c.part-list.result in
      sym (block_is c.args.tree.symbol (tree_of names c.args.tree) list c.requires (c.args.tree.fits names) (c.part-list.ensures.tree names))
      ∙ reads_first (with_declaration names) declarations_of declarations_in names list c.new-declarations.result.items (into_iter_items c.into_iter-place-iterator.result)
      c.in_ok-place-items.place-items.items (λ trees. refl) c.new-declarations.ensures.items c.into_iter-place-iterator.ensures.into_iter_gives.0 (c.in_ok-place-items.ensures.trees names);
  left = λ owner names whole.
      all_left (IsOf owner names) (into_iter_items c.into_iter-place-iterator.result) c.in_ok-place-items.place-items.items c.into_iter-place-iterator.ensures.into_iter_gives.0
      (c.in_ok-place-items.ensures.owned owner names (c.part-list.ensures.owned owner names whole));
  owned = λ owner names whole. none_yet (DeclarationIsOf owner names) c.new-declarations.result.items c.new-declarations.ensures.items;
  symbols = search rules;
  counted = search rules;
}

pub new-requires : goal.new-requires
new-requires c =
    (declaration_taken c.in-Some-optional.declaration.symbol (tree_of [] c.in-Some-optional.declaration) c.chosen.result.symbol (tree_of [] c.chosen.result) c.in-Some-optional.ensures.symbol
    (c.in-Some-optional.declaration.fits []) (c.chosen.ensures.tree [])).is_declaration

pub loop-place-preserved-in-Continue-branch-2 : goal.loop-place-preserved-in-Continue-branch-2
loop-place-preserved-in-Continue-branch-2 c =
    let at = c.loop-place in
    let left = into_iter_items at.place-iterator in
    let later = into_iter_items c.next.new.self in
    let found = c.in-Some-optional.declaration in
    record {
      reads = λ names.
          reads_one (with_declaration names) declarations_of names (block_of (tree_of names c.args.tree)) at.declarations.items c.push.new.self.items left later c.in-Some.place
          c.new.result (at.invariant.reads names) c.in-Some.ensures.steps.0
          (λ rest. declaration_there names (tree_of names c.in-Some.place) (tree_of names found) c.chosen.result c.new.result rest (c.in-Some-optional.ensures.tree names)
          (declaration_taken found.symbol (tree_of names found) c.chosen.result.symbol (tree_of names c.chosen.result) c.in-Some-optional.ensures.symbol (found.fits names)
          (c.chosen.ensures.tree names)) c.new.ensures) c.in_ok-push.ensures.items;
      left = λ owner names whole. parts_later owner names left later c.in-Some.place c.in-Some.ensures.steps.0 (at.invariant.left owner names whole);
      owned = λ owner names whole.
          one_more (DeclarationIsOf owner names) at.declarations.items c.push.new.self.items c.new.result c.in_ok-push.ensures.items (at.invariant.owned owner names whole)
          (same_part owner names c.chosen.result c.new.result.tree c.new.ensures (c.chosen.ensures.owned owner names (c.in-Some-optional.ensures.owned owner names (parts_here owner names left later c.in-Some.place c.in-Some.ensures.steps.0 (at.invariant.left owner names whole)))));
      symbols = all_later (λ (part : Subtree). part.symbol ≡ symbol.OptionalDecl) left later c.in-Some.place c.in-Some.ensures.steps.0 at.invariant.symbols;
      counted = one_left left later c.in-Some.place (into_iter_len at.place-iterator) (into_iter_len c.next.new.self) c.in-Some.ensures.steps.0 c.in-Some.ensures.steps.1 at.invariant.counted;
    }

pub loop-place-preserved : goal.loop-place-preserved
loop-place-preserved c =
    let at = c.loop-place in
    let left = into_iter_items at.place-iterator in
    let later = into_iter_items c.next.new.self in
    record {
      reads = λ names.
          reads_none (with_declaration names) declarations_of names (block_of (tree_of names c.args.tree)) at.declarations.items left later c.in-Some.place
          (at.invariant.reads names) c.in-Some.ensures.steps.0 (λ rest. no_declaration (tree_of names c.in-Some.place) rest (c.in_default.ensures.none names));
      left = λ owner names whole. parts_later owner names left later c.in-Some.place c.in-Some.ensures.steps.0 (at.invariant.left owner names whole);
      owned = at.invariant.owned;
      symbols = all_later (λ (part : Subtree). part.symbol ≡ symbol.OptionalDecl) left later c.in-Some.place c.in-Some.ensures.steps.0 at.invariant.symbols;
      counted = one_left left later c.in-Some.place (into_iter_len at.place-iterator) (into_iter_len c.next.new.self) c.in-Some.ensures.steps.0 c.in-Some.ensures.steps.1 at.invariant.counted;
    }

pub returns-clause-meaning : goal.returns-clause-meaning
returns-clause-meaning c = λ names.
    let at = c.loop-place in
    let left = into_iter_items at.place-iterator in
    let none = nothing_left left (into_iter_len at.place-iterator) c.in-None.ensures.steps.0 at.invariant.counted in
    sym
    (reads_all (with_declaration names) declarations_of names (block_of (tree_of names c.args.tree)) at.declarations.items left (at.invariant.reads names) none
    ∙ declarations_folded names at.declarations.items)

pub returns-clause-owned : goal.returns-clause-owned
returns-clause-owned c = λ owner names whole. c.loop-place.invariant.owned owner names whole
