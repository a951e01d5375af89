-- Each name is read before those after it.
use Rattle.std.proofs.Common.{rules, ◌≡◌, ◌∷◌, ap, refl, sym, ◌∙◌}
use Rattle.std.specs.Vec.Iter.{into_iter_items, into_iter_len}
use Rattle.cu_syntax.specs.declared.subtree.Subtree.{Subtree}
use Rattle.cu_syntax.specs.Forms.{is_name}
use Rattle.cu_syntax.specs.Names.{name_meaning}
use Rattle.cu_syntax.specs.Reading.{names_in, names_of}
use Rattle.cu_syntax.specs.SubtreeMeaning.{tree_of}
use Rattle.cu_syntax.specs.Owners.{IsOf, NameIsOf}
use Rattle.cu_syntax.proofs.DeclarationLemmas.{before, before_folded}
use Rattle.cu_syntax.proofs.ViewLemmas.{all_here, all_later, all_left, nothing_left, one_left, reads_all, reads_first, reads_one}
use Rattle.cu_syntax.proofs.OwnerLemmas.{none_yet, one_more, parts_here, parts_later}
use Rattle.cu_syntax.proofs.declaration_forms.names.Goals as goal

pub loop-name-init : goal.loop-name-init
loop-name-init c = record {
  reads = λ names.
      reads_first (before (name_meaning names)) names_of names_in names (tree_of names c.args.tree) c.new-names.result.items (into_iter_items c.into_iter-name-iterator.result)
      c.in_ok-name-items.name-items.items (λ trees. refl) c.new-names.ensures.items c.into_iter-name-iterator.ensures.into_iter_gives.0 (c.in_ok-name-items.ensures.trees names);
  left = λ owner names whole.
      all_left (IsOf owner names) (into_iter_items c.into_iter-name-iterator.result) c.in_ok-name-items.name-items.items c.into_iter-name-iterator.ensures.into_iter_gives.0
      (c.in_ok-name-items.ensures.owned owner names whole);
  owned = λ owner names whole. none_yet (NameIsOf owner names) c.new-names.result.items c.new-names.ensures.items;
  symbols = search rules;
  counted = search rules;
}

pub name-requires : goal.name-requires
name-requires c =
    let at = c.loop-name in
    let here = all_here (λ (part : Subtree). part.symbol ≡ c.args.part) (into_iter_items at.name-iterator) (into_iter_items c.next.new.self) c.in-Some.name c.in-Some.ensures.steps.0 at.invariant.symbols in
    ap is_name here ∙ c.requires.symbol

pub loop-name-preserved : goal.loop-name-preserved
loop-name-preserved c =
    let at = c.loop-name in
    let left = into_iter_items at.name-iterator in
    let later = into_iter_items c.next.new.self in
    record {
      reads = λ names.
          reads_one (before (name_meaning names)) names_of names (names_in (tree_of names c.args.tree)) at.names.items c.push.new.self.items left later c.in-Some.name c.name.result
          (at.invariant.reads names) c.in-Some.ensures.steps.0 (λ rest. ap (λ n. n ∷ names_of rest) (sym (c.name.ensures.meaning names))) c.in_ok-push.ensures.items;
      left = λ owner names whole. parts_later owner names left later c.in-Some.name c.in-Some.ensures.steps.0 (at.invariant.left owner names whole);
      owned = λ owner names whole.
          one_more (NameIsOf owner names) at.names.items c.push.new.self.items c.name.result c.in_ok-push.ensures.items (at.invariant.owned owner names whole)
          (c.name.ensures.owned owner names (parts_here owner names left later c.in-Some.name c.in-Some.ensures.steps.0 (at.invariant.left owner names whole)));
      symbols = all_later (λ (part : Subtree). part.symbol ≡ c.args.part) left later c.in-Some.name c.in-Some.ensures.steps.0 at.invariant.symbols;
      counted = one_left left later c.in-Some.name (into_iter_len at.name-iterator) (into_iter_len c.next.new.self) c.in-Some.ensures.steps.0 c.in-Some.ensures.steps.1 at.invariant.counted;
    }

pub returns-clause-meaning : goal.returns-clause-meaning
returns-clause-meaning c = λ names.
    let at = c.loop-name in
    let left = into_iter_items at.name-iterator in
    let none = nothing_left left (into_iter_len at.name-iterator) c.in-None.ensures.steps.0 at.invariant.counted in
    sym
    (reads_all (before (name_meaning names)) names_of names (names_in (tree_of names c.args.tree)) at.names.items left (at.invariant.reads names) none
    ∙ before_folded (name_meaning names) at.names.items)

pub returns-clause-owned : goal.returns-clause-owned
returns-clause-owned c = λ owner names whole. c.loop-name.invariant.owned owner names whole
