use Rattle.std.proofs.Common.{◌≡◌, ℕ, List, [], ◌∷◌, length, map, sym, ◌∙◌, subst, arith}
use Rattle.std.proofs.lemmas.Option.{MatchOption-at_none, MatchOption-at_some}
use Rattle.cu_types.proofs.ClosingLemmas.{closing_starts, each_suffix}
use Rattle.cu_types.proofs.Joins.{each_within_converse, no_items, none_of}
use Rattle.cu_types.proofs.TableLemmas.{mapped_length}
use Rattle.cu_types.proofs.closing.close.Goals as goal
use Rattle.cu_types.specs.Inside.Closing.{Each, IsApart, IsClosing, IsWithin}
use Rattle.cu_types.specs.Table.{shape_of}
use Rattle.cu_types.specs.declared.pair.Pair.{Pair}

pub loop-pair-init : goal.loop-pair-init
loop-pair-init c = record {
  sized = c.in_ok-classes.ensures.sized;
  forest = c.in_ok-classes.ensures.forest;
  within = c.requires.pending;
  closing = λ equations sound. (
    (λ k. k),
    closing_starts equations (map shape_of c.args.nodes.now) c.args.pending.items c.in_ok-classes.classes.parents.items
        c.in_ok-classes.ensures.alone sound,
  );
}

pub join-requires-clause-pair : goal.join-requires-clause-pair
join-requires-clause-pair c =
    (each_suffix (IsWithin (length c.args.nodes.now)) c.pop.new.self.items (c.in-Some.pair ∷ [])
    (subst (Each (IsWithin (length c.args.nodes.now))) c.in-Some.ensures.items c.loop-pair.invariant.within)).0

pub returns-in-Some-2 : goal.returns-in-Some-2
returns-in-Some-2 c = λ equations sound.
    let before = c.loop-pair.invariant.closing equations sound in
    MatchOption-at_some _ (IsApart equations (map shape_of c.args.nodes.now)) c.in-Some-2.apart c.in-Some-2.is
    (c.in_ok-apart.ensures.joined.closing equations c.args.pending.items before.0
    (subst (λ (xs : List Pair). IsClosing equations (map shape_of c.args.nodes.now) c.args.pending.items xs c.loop-pair.classes.parents.items before.0)
    c.in-Some.ensures.items before.1))

pub loop-pair-preserved : goal.loop-pair-preserved
loop-pair-preserved c = record {
  sized = c.in_ok-apart.ensures.sized;
  forest = c.in_ok-apart.ensures.forest;
  within = each_within_converse c.args.nodes.now c.join.new.pending.items c.in_ok-apart.ensures.joined.within;
  closing = λ equations sound.
      let before = c.loop-pair.invariant.closing equations sound in
      MatchOption-at_none ((class : ℕ → ℕ) × IsClosing equations (map shape_of c.args.nodes.now) c.args.pending.items c.join.new.pending.items c.join.new.self.parents.items class)
      (IsApart equations (map shape_of c.args.nodes.now)) (none_of c.in_ok-apart.field-0 c.in_default-2.not-Some)
      (c.in_ok-apart.ensures.joined.closing equations c.args.pending.items before.0
      (subst (λ (xs : List Pair). IsClosing equations (map shape_of c.args.nodes.now) c.args.pending.items xs c.loop-pair.classes.parents.items before.0)
      c.in-Some.ensures.items before.1));
}

pub returns : goal.returns
returns c = λ equations sound.
    let before = c.loop-pair.invariant.closing equations sound in
    let none : c.loop-pair.pending.items ≡ [] =
    no_items c.loop-pair.pending.items (omega (arith, c.loop-pair.pending.ok.0, c.in_default.ensures.cases.0)) in (
      c.loop-pair.invariant.forest,
      c.loop-pair.invariant.sized ∙ sym (mapped_length shape_of c.args.nodes.now),
      (
        before.0,
        subst (λ (xs : List Pair). IsClosing equations (map shape_of c.args.nodes.now) c.args.pending.items xs c.loop-pair.classes.parents.items before.0)
            none before.1,
      ),
    )
