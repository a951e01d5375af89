-- Each guard is read before those after it.
use Rattle.std.proofs.Common.{rules, ◌≡◌, ap, refl, sym, ◌∙◌}
use Rattle.std.specs.Vec.Iter.{into_iter_items, into_iter_len}
use Rattle.cu_syntax.specs.declared.subtree.Subtree.{Subtree}
use Rattle.cu_syntax.specs.Declarations.{Guards, guards_in, with_guard}
use Rattle.cu_syntax.specs.Forms.{is_guard}
use Rattle.cu_syntax.specs.Reading.{guards_of}
use Rattle.cu_syntax.specs.SubtreeMeaning.{tree_of}
use Rattle.cu_syntax.specs.Owners.{GuardIsOf, IsOf}
use Rattle.cu_syntax.proofs.DeclarationLemmas.{guards_folded}
use Rattle.cu_syntax.proofs.ViewLemmas.{all_here, all_later, all_left, nothing_left, one_left, reads_all, reads_first, reads_one}
use Rattle.cu_syntax.proofs.OwnerLemmas.{none_yet, one_more, parts_here, parts_later}
use Rattle.cu_syntax.proofs.declaration_forms.guards.Goals as goal

pub loop-tree-init : goal.loop-tree-init
loop-tree-init c = record {
  reads = λ names.
      reads_first (with_guard names) guards_of guards_in names (tree_of names c.args.tree) c.new-guards.result.items (into_iter_items c.into_iter-tree-iterator.result)
      c.in_ok-tree-items.tree-items.items (λ trees. refl) c.new-guards.ensures.items c.into_iter-tree-iterator.ensures.into_iter_gives.0 (c.in_ok-tree-items.ensures.trees names);
  left = λ owner names whole.
      all_left (IsOf owner names) (into_iter_items c.into_iter-tree-iterator.result) c.in_ok-tree-items.tree-items.items c.into_iter-tree-iterator.ensures.into_iter_gives.0
      (c.in_ok-tree-items.ensures.owned owner names whole);
  owned = λ owner names whole. none_yet (GuardIsOf owner names) c.new-guards.result.items c.new-guards.ensures.items;
  symbols = search rules;
  counted = search rules;
}

pub guard-requires : goal.guard-requires
guard-requires c =
    let at = c.loop-tree in
    let here = all_here (λ (part : Subtree). part.symbol ≡ c.args.part) (into_iter_items at.tree-iterator) (into_iter_items c.next.new.self) c.in-Some.tree c.in-Some.ensures.steps.0 at.invariant.symbols in
    ap is_guard here ∙ c.requires.symbol

pub loop-tree-preserved : goal.loop-tree-preserved
loop-tree-preserved c =
    let at = c.loop-tree in
    let left = into_iter_items at.tree-iterator in
    let later = into_iter_items c.next.new.self in
    record {
      reads = λ names.
          reads_one (with_guard names) guards_of names (guards_in (tree_of names c.args.tree)) at.guards.items c.push.new.self.items left later c.in-Some.tree c.guard.result
          (at.invariant.reads names) c.in-Some.ensures.steps.0 (c.guard.ensures.meaning names) c.in_ok-push.ensures.items;
      left = λ owner names whole. parts_later owner names left later c.in-Some.tree c.in-Some.ensures.steps.0 (at.invariant.left owner names whole);
      owned = λ owner names whole.
          one_more (GuardIsOf owner names) at.guards.items c.push.new.self.items c.guard.result c.in_ok-push.ensures.items (at.invariant.owned owner names whole)
          (c.guard.ensures.owned owner names (parts_here owner names left later c.in-Some.tree c.in-Some.ensures.steps.0 (at.invariant.left owner names whole)));
      symbols = all_later (λ (part : Subtree). part.symbol ≡ c.args.part) left later c.in-Some.tree c.in-Some.ensures.steps.0 at.invariant.symbols;
      counted = one_left left later c.in-Some.tree (into_iter_len at.tree-iterator) (into_iter_len c.next.new.self) c.in-Some.ensures.steps.0 c.in-Some.ensures.steps.1 at.invariant.counted;
    }

pub returns-clause-meaning : goal.returns-clause-meaning
returns-clause-meaning c = λ names.
    let at = c.loop-tree in
    let left = into_iter_items at.tree-iterator in
    let none = nothing_left left (into_iter_len at.tree-iterator) c.in-None.ensures.steps.0 at.invariant.counted in
    ap Guards
    (sym
    (reads_all (with_guard names) guards_of names (guards_in (tree_of names c.args.tree)) at.guards.items left (at.invariant.reads names) none ∙ guards_folded names at.guards.items))

pub returns-clause-owned : goal.returns-clause-owned
returns-clause-owned c = λ owner names whole. c.loop-tree.invariant.owned owner names whole
