-- Graphs in which other nodes stand in the place of some.
use Rattle.std.proofs.Common.{◌≡◌, ◌≢◌, ℕ, zero, suc, ◌+◌, ◌-◌, ◌<◌, ◌≤◌, Bool, true, false, ◌||◌, List, [], ◌∷◌, ◌++◌, length, get_or, set, drop, nat_eq, Some, Result, Ok, Err, OnOk, slice_get, refl, ap, sym, ◌∙◌, arith, eqb-true}
use Rattle.std.proofs.lemmas.Bool.{eqb-false}
use Rattle.std.specs.List.{list_any, position}
use Rattle.std.proofs.lemmas.List.{length-set, get_or-set_same, get_or-set_other, set-set, set_comm, set-append_left, set-append_right, get_or_append_left, get_or-append_right, drop_more}
use Rattle.std.proofs.lemmas.List.Quantifiers.{position-Some}
use Rattle.std.proofs.lemmas.Option.{get_or_from_slice_get}
use Rattle.cu_machine.specs.Graph.{Graph, Node, node_at, put, stuck}
use Rattle.cu_machine.specs.declared.Kind.{Kind}
use Rattle.cu_frozen.specs.Layers.{Layer, layer_of, Amends, Holds, Leaves, over, written}

-- ---- nodes at some places

pub length-written : (graph : Graph) (ids : List ℕ) (nodes : List Node) → length (written graph ids nodes) ≡ length graph
length-written graph [] nodes = refl
length-written graph (id ∷ ids) [] = refl
length-written graph (id ∷ ids) (node ∷ nodes) = length-set (written graph ids nodes) id node ∙ length-written graph ids nodes

or_neither : (a b : Bool) → (a || b) ≡ false → (a ≡ false) × (b ≡ false)
or_neither true b is_not = let never : ⊥ = cc in absurd never
or_neither false b is_not = (refl, is_not)

-- a place that none of these is
pub written_elsewhere : (graph : Graph) (ids : List ℕ) (nodes : List Node) (id : ℕ) → list_any (nat_eq id) ids ≡ false
    → node_at (written graph ids nodes) id ≡ node_at graph id
written_elsewhere graph [] nodes id absent = refl
written_elsewhere graph (x ∷ ids) [] id absent = refl
written_elsewhere graph (x ∷ ids) (node ∷ nodes) id absent =
    let both = or_neither (nat_eq id x) (list_any (nat_eq id) ids) absent in
    get_or-set_other (written graph ids nodes) x id node stuck (eqb-false id x both.0) ∙ written_elsewhere graph ids nodes id both.1

-- ---- the first of these places that is a given one

record IsFirst (id : ℕ) (ids : List ℕ) (i : ℕ) : Type 0 where
  within : i < length ids
  at : get_or ids i 0 ≡ id
  first : (k : ℕ) → k < i → id ≢ get_or ids k 0

first_of : (ids : List ℕ) (id i : ℕ) → position (nat_eq id) ids ≡ Some i → IsFirst id ids i
first_of ids id i found =
    let so = position-Some (nat_eq id) ids i 0 found in
    record { within = so.0; at = sym (eqb-true id (get_or ids i 0) so.1); first = λ k below. eqb-false id (get_or ids k 0) (so.2 k below) }

first_after : (x : ℕ) (ids : List ℕ) (id i : ℕ) → IsFirst id (x ∷ ids) (suc i) → IsFirst id ids i
first_after x ids id i is = record { within = let h = is.within in omega arith; at = is.at; first = λ k below. is.first (suc k) (omega arith) }

read_first : (graph : Graph) (ids : List ℕ) (nodes : List Node) (id i : ℕ) → IsFirst id ids i → length ids ≡ length nodes → id < length graph
    → node_at (written graph ids nodes) id ≡ node_at nodes i
read_first graph [] nodes id i is paired there = let h = is.within in absurd (omega arith)
read_first graph (x ∷ ids) [] id i is paired there = absurd (omega arith)
read_first graph (x ∷ ids) (node ∷ nodes) id zero is paired there =
    let rest = written graph ids nodes in
    let inside : id < length rest = omega (arith, length-written graph ids nodes) in
    ap (λ y. node_at (put rest y node) id) is.at ∙ get_or-set_same rest id node stuck inside
read_first graph (x ∷ ids) (node ∷ nodes) id (suc i) is paired there =
    get_or-set_other (written graph ids nodes) x id node stuck (is.first 0 (omega arith))
    ∙ read_first graph ids nodes id i (first_after x ids id i is) (omega arith) there

change_first : (graph : Graph) (ids : List ℕ) (nodes : List Node) (id i : ℕ) (node : Node) → IsFirst id ids i → length ids ≡ length nodes
    → written graph ids (set nodes i node) ≡ put (written graph ids nodes) id node
change_first graph [] nodes id i node is paired = let h = is.within in absurd (omega arith)
change_first graph (x ∷ ids) [] id i node is paired = absurd (omega arith)
change_first graph (x ∷ ids) (old ∷ nodes) id zero node is paired =
    let rest = written graph ids nodes in
    ap (λ y. put rest y node) is.at ∙ sym (set-set rest id old node) ∙ ap (λ y. put (put rest y old) id node) (sym is.at)
change_first graph (x ∷ ids) (old ∷ nodes) id (suc i) node is paired =
    ap (λ rest. put rest x old) (change_first graph ids nodes id i node (first_after x ids id i is) (omega arith))
    ∙ set_comm (written graph ids nodes) id x node old (is.first 0 (omega arith))

change_new : (graph : Graph) (ids : List ℕ) (nodes : List Node) (id : ℕ) (node : Node) → length ids ≡ length nodes → list_any (nat_eq id) ids ≡ false
    → written graph (ids ++ id ∷ []) (nodes ++ node ∷ []) ≡ put (written graph ids nodes) id node
change_new graph [] [] id node paired absent = refl
change_new graph [] (old ∷ nodes) id node paired absent = absurd (omega arith)
change_new graph (x ∷ ids) [] id node paired absent = absurd (omega arith)
change_new graph (x ∷ ids) (old ∷ nodes) id node paired absent =
    let both = or_neither (nat_eq id x) (list_any (nat_eq id) ids) absent in
    ap (λ rest. put rest x old) (change_new graph ids nodes id node (omega arith) both.1)
    ∙ set_comm (written graph ids nodes) id x node old (eqb-false id x both.0)

-- ---- what one layer shows

pub shows_added : (layer : Layer) (id : ℕ) → layer.base ≤ id → id < layer.base + length layer.added
    → Holds layer id layer.added (id - layer.base)
shows_added layer id suffix there = λ below fits.
    let prefix = written below layer.changed layer.changes in
    let size : length prefix ≡ layer.base = length-written below layer.changed layer.changes ∙ fits in
    record { within = omega arith; same = sym (get_or-append_right prefix layer.added layer.base id stuck size suffix) }

pub shows_changed : (layer : Layer) (id i : ℕ) → id < layer.base → length layer.changed ≡ length layer.changes
    → position (nat_eq id) layer.changed ≡ Some i → Holds layer id layer.changes i
shows_changed layer id i there paired found = λ below fits.
    let prefix = written below layer.changed layer.changes in
    let is = first_of layer.changed id i found in
    let inside : id < length prefix = omega (arith, length-written below layer.changed layer.changes) in
    record {
      within = let h = is.within in omega arith;
      same = sym (get_or_append_left prefix layer.added stuck id inside ∙ read_first below layer.changed layer.changes id i is paired (omega arith));
    }

pub shows_below : (layer : Layer) (id : ℕ) → id < layer.base → list_any (nat_eq id) layer.changed ≡ false → Leaves layer id
shows_below layer id there absent = λ below fits.
    let prefix = written below layer.changed layer.changes in
    let inside : id < length prefix = omega (arith, length-written below layer.changed layer.changes) in
    get_or_append_left prefix layer.added stuck id inside ∙ written_elsewhere below layer.changed layer.changes id absent

-- ---- one layer more

pub puts_added : (layer : Layer) (added : List Node) (id : ℕ) (node : Node) → layer.base ≤ id → added ≡ set layer.added (id - layer.base) node
    → Amends layer (layer_of layer.base layer.changed layer.changes added) (λ graph. put graph id node)
puts_added layer added id node suffix is = record {
  base = refl;
  graph = λ below fits.
      let prefix = written below layer.changed layer.changes in
      let size : length prefix ≡ layer.base = length-written below layer.changed layer.changes ∙ fits in
      ap (λ more. prefix ++ more) is ∙ sym (set-append_right prefix layer.added layer.base id node size suffix);
}

pub puts_changed : (layer : Layer) (changes : List Node) (id i : ℕ) (node : Node) → id < layer.base → length layer.changed ≡ length layer.changes
    → position (nat_eq id) layer.changed ≡ Some i → changes ≡ set layer.changes i node
    → Amends layer (layer_of layer.base layer.changed changes layer.added) (λ graph. put graph id node)
puts_changed layer changes id i node there paired found is = record {
  base = refl;
  graph = λ below fits.
      let prefix = written below layer.changed layer.changes in
      let inside : id < length prefix = omega (arith, length-written below layer.changed layer.changes) in
      ap (λ nodes. written below layer.changed nodes ++ layer.added) is
      ∙ ap (λ graph. graph ++ layer.added) (change_first below layer.changed layer.changes id i node (first_of layer.changed id i found) paired)
      ∙ sym (set-append_left prefix layer.added id node inside);
}

new_place : (old new : Layer) (id : ℕ) (node : Node) → id < old.base → length old.changed ≡ length old.changes → list_any (nat_eq id) old.changed ≡ false
    → new.base ≡ old.base → new.added ≡ old.added → new.changed ≡ old.changed ++ id ∷ [] → new.changes ≡ old.changes ++ node ∷ []
    → Amends old new (λ graph. put graph id node)
new_place old new id node there paired absent base added changed changes = record {
  base = base;
  graph = λ below fits.
      let prefix = written below old.changed old.changes in
      let inside : id < length prefix = omega (arith, length-written below old.changed old.changes) in
      ap (λ ids. written below ids new.changes ++ new.added) changed
      ∙ ap (λ nodes. written below (old.changed ++ id ∷ []) nodes ++ new.added) changes
      ∙ ap (λ more. written below (old.changed ++ id ∷ []) (old.changes ++ node ∷ []) ++ more) added
      ∙ ap (λ graph. graph ++ old.added) (change_new below old.changed old.changes id node paired absent)
      ∙ sym (set-append_left prefix old.added id node inside);
}

pub puts_new : {X E : Type 0} (result : Result X E) (old new : Layer) (id : ℕ) (node : Node) → id < old.base → length old.changed ≡ length old.changes
    → list_any (nat_eq id) old.changed ≡ false → new.base ≡ old.base → new.added ≡ old.added
    → OnOk result (new.changed ≡ old.changed ++ id ∷ []) → OnOk result (new.changes ≡ old.changes ++ node ∷ [])
    → OnOk result (Amends old new (λ graph. put graph id node))
puts_new (Ok x) old new id node there paired absent base added changed changes =
    new_place old new id node there paired absent base added changed changes
puts_new (Err e) old new id node there paired absent base added changed changes = tt

-- ---- one change after another

pub amends_both : (old middle new : Layer) (first second : Graph → Graph) → Amends old middle first → Amends middle new second
    → Amends old new (λ graph. second (first graph))
amends_both old middle new first second one other = record {
  base = other.base ∙ one.base;
  graph = λ below fits. other.graph below (fits ∙ sym one.base) ∙ ap second (one.graph below fits);
}

-- an earlier one of the changes of a layer
pub changes_more : (old middle new : Layer) (ids : List ℕ) (nodes : List Node) (left i id : ℕ) (node : Node) → left ≡ i + 1 → left ≤ length ids
    → length ids ≡ length nodes → slice_get ids i ≡ Some id → node ≡ node_at nodes i
    → Amends old middle (λ graph. written graph (drop left ids) (drop left nodes)) → Amends middle new (λ graph. put graph id node)
    → Amends old new (λ graph. written graph (drop i ids) (drop i nodes))
changes_more old middle new ids nodes left i id node next within paired is meant done put_there = record {
  base = put_there.base ∙ done.base;
  graph = λ below fits.
      let graph = over old below in
      let at : get_or ids i 0 ≡ id = get_or_from_slice_get ids i id 0 is in
      let ids_more : drop i ids ≡ get_or ids i 0 ∷ drop (i + 1) ids = drop_more ids i 0 (omega arith) in
      let nodes_more : drop i nodes ≡ node_at nodes i ∷ drop (i + 1) nodes = drop_more nodes i stuck (omega arith) in
      put_there.graph below (fits ∙ sym done.base)
      ∙ ap (λ rest. put rest id node) (done.graph below fits)
      ∙ ap (λ k. put (written graph (drop k ids) (drop k nodes)) id node) next
      ∙ ap (λ y. put (written graph (drop (i + 1) ids) (drop (i + 1) nodes)) y node) (sym at)
      ∙ ap (λ y. put (written graph (drop (i + 1) ids) (drop (i + 1) nodes)) (get_or ids i 0) y) meant
      ∙ ap (λ xs. written graph xs (node_at nodes i ∷ drop (i + 1) nodes)) (sym ids_more)
      ∙ ap (λ xs. written graph (drop i ids) xs) (sym nodes_more);
}

abbrev node_with : Kind → List ℕ → Node
node_with what args = record { kind = what; args = args }

-- a node is what it is, on its arguments
pub node_again : (what : Kind) (args : List ℕ) (node : Node) → what ≡ node.kind → args ≡ node.args → record { kind = what; args = args } ≡ node
node_again what args node same_kind same_args =
    ap (λ (k : Kind). node_with k args) same_kind ∙ ap (node_with node.kind) same_args
