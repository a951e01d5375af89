-- Each entity is read before those after it.
use Rattle.std.proofs.Common.{rules, ◌≡◌, [], ap, map, refl}
use Rattle.std.specs.Option.{unwrap_or}
use Rattle.std.specs.Vec.Iter.{into_iter_items, into_iter_len}
use Rattle.cu_syntax.specs.declared.subtree.Subtree.{Subtree}
use Rattle.cu_syntax.specs.declared.symbol.Symbol.TheVariants as symbol
use Rattle.cu_syntax.specs.Items.{entity_meaning}
use Rattle.cu_syntax.specs.Reading.{each_in, entity_of, optional}
use Rattle.cu_syntax.specs.SubtreeMeaning.{tree_of}
use Rattle.cu_syntax.specs.Owners.{EntityIsOf, IsOf}
use Rattle.cu_syntax.proofs.ItemLemmas.{list_none, list_there, read_all, read_first, read_part}
use Rattle.cu_syntax.proofs.ViewLemmas.{all_here, all_later, all_left, nothing_left, one_left}
use Rattle.cu_syntax.proofs.OwnerLemmas.{none_yet, one_more, parts_here, parts_later}
use Rattle.cu_syntax.proofs.item_forms.entities.Goals as goal

pub returns-in_default-clause-meaning : goal.returns-in_default-clause-meaning
returns-in_default-clause-meaning c = λ names. list_none entity_of (tree_of names c.args.tree) (map (entity_meaning names) c.new-entities.result.items) (c.in_default.ensures.none names) (ap (map (entity_meaning names)) c.new-entities.ensures.items)

pub loop-part-init : goal.loop-part-init
loop-part-init c = record {
  reads = λ names.
      let tree = tree_of names c.args.tree in
      let list = tree_of names c.in-Some.list in
      read_first (entity_meaning names) entity_of names list (unwrap_or (optional (each_in entity_of) tree) []) c.new-entities.result.items (into_iter_items c.into_iter-part-iterator.result)
      c.in_ok-part-items.part-items.items (list_there entity_of tree list (each_in entity_of list) (c.in-Some.ensures.tree names) refl) c.new-entities.ensures.items
      c.into_iter-part-iterator.ensures.into_iter_gives.0 (c.in_ok-part-items.ensures.trees names);
  left = λ owner names whole.
      all_left (IsOf owner names) (into_iter_items c.into_iter-part-iterator.result) c.in_ok-part-items.part-items.items c.into_iter-part-iterator.ensures.into_iter_gives.0
      (c.in_ok-part-items.ensures.owned owner names (c.in-Some.ensures.owned owner names whole));
  owned = λ owner names whole. none_yet (EntityIsOf owner names) c.new-entities.result.items c.new-entities.ensures.items;
  symbols = search rules;
  counted = search rules;
}

pub entity-requires : goal.entity-requires
entity-requires c =
    let at = c.loop-part in
    all_here (λ (part : Subtree). part.symbol ≡ symbol.Entity) (into_iter_items at.part-iterator) (into_iter_items c.next.new.self) c.in-Some-part.part c.in-Some-part.ensures.steps.0
    at.invariant.symbols

pub loop-part-preserved : goal.loop-part-preserved
loop-part-preserved c =
    let at = c.loop-part in
    let left = into_iter_items at.part-iterator in
    let later = into_iter_items c.next.new.self in
    record {
      reads = λ names.
          read_part (entity_meaning names) entity_of names (unwrap_or (optional (each_in entity_of) (tree_of names c.args.tree)) []) at.entities.items c.push.new.self.items left later c.in-Some-part.part
          c.in_ok-entity.field-0 (at.invariant.reads names) c.in-Some-part.ensures.steps.0 (c.in_ok-entity.ensures.meaning names) c.in_ok-push.ensures.items;
      left = λ owner names whole. parts_later owner names left later c.in-Some-part.part c.in-Some-part.ensures.steps.0 (at.invariant.left owner names whole);
      owned = λ owner names whole.
          one_more (EntityIsOf owner names) at.entities.items c.push.new.self.items c.in_ok-entity.field-0 c.in_ok-push.ensures.items (at.invariant.owned owner names whole)
          (c.in_ok-entity.ensures.owned owner names (parts_here owner names left later c.in-Some-part.part c.in-Some-part.ensures.steps.0 (at.invariant.left owner names whole)));
      symbols = all_later (λ (part : Subtree). part.symbol ≡ symbol.Entity) left later c.in-Some-part.part c.in-Some-part.ensures.steps.0 at.invariant.symbols;
      counted = one_left left later c.in-Some-part.part (into_iter_len at.part-iterator) (into_iter_len c.next.new.self) c.in-Some-part.ensures.steps.0 c.in-Some-part.ensures.steps.1 at.invariant.counted;
    }

pub returns-clause-meaning : goal.returns-clause-meaning
returns-clause-meaning c = λ names.
    let at = c.loop-part in
    let left = into_iter_items at.part-iterator in
    let none = nothing_left left (into_iter_len at.part-iterator) c.in-None.ensures.steps.0 at.invariant.counted in
    read_all (entity_meaning names) entity_of names (unwrap_or (optional (each_in entity_of) (tree_of names c.args.tree)) []) at.entities.items left (at.invariant.reads names) none

pub returns-clause-owned : goal.returns-clause-owned
returns-clause-owned c = λ owner names whole. c.loop-part.invariant.owned owner names whole

pub returns-in_default-clause-owned : goal.returns-in_default-clause-owned
returns-in_default-clause-owned c = λ owner names whole. none_yet (EntityIsOf owner names) c.new-entities.result.items c.new-entities.ensures.items
