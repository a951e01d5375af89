use Rattle.std.proofs.Common.{◌≡◌, ◌<◌, ◌≤◌, ℕ, IfNone, List, None, Option, Some, get_or, refl, length, slice_get, ap, sym, subst, arith}
use Rattle.std.proofs.lemmas.Option.{slice_get-get_or}
use Rattle.cu_lift.proofs.Edges.{as_many_targets, mention_edge}
use Rattle.cu_lift.proofs.Calls.{call_of, calls_found, calls_not, calls_until}
use Rattle.cu_lift.specs.Inside.Levelling.{Collects, Mentioned}
use Rattle.cu_lift.specs.Inside.MentionsOf.{targets_in}
use Rattle.cu_lift.specs.declared.mentions.Mention.{Mention}
use Rattle.cu_lift.proofs.set_levels.calls.Goals as goal

rank_at : (ranks slice : List ℕ) (n : ℕ) → slice ≡ ranks → n < length slice → slice_get ranks n ≡ Some (get_or slice n 0)
rank_at ranks slice n same low =
    subst (λ (x : List ℕ). slice_get x n ≡ Some (get_or slice n 0)) same (slice_get-get_or slice n 0 low)

none_of : (found : Option ℕ) (P : ℕ → Type 0) → IfNone found ((f : ℕ) → P f → ⊥) → ((x : ℕ) → found ≡ Some x → ⊥) → (f : ℕ) → P f → ⊥
none_of None P none not f h = none f h
none_of (Some x) P none not f h = not x refl

pub row_of-row-requires : goal.row_of-row-requires
row_of-row-requires c =
    let g = c.args.graph.now in
    let many : length (targets_in g) ≡ length g = as_many_targets g in
    let size = c.requires.ranks.sized in
    let same : length c.as_slice-ranks.result.now ≡ length c.args.found.now.ranks.items = ap length c.as_slice-ranks.ensures.value in
    omega arith

pub collected_in-requires : goal.collected_in-requires
collected_in-requires c k m e =
    let g = c.args.graph.now in
    let n = c.loop-caller.caller in
    let is = c.row_of-row.ensures in
    let mentioned : Mentioned g n m = record {
      row = is.0;
      is_row = is.1;
      place = k;
      is_there = subst (λ (x : List Mention). slice_get x k ≡ Some m) (sym is.2) e;
    } in
    let low = c.requires.whole.within n m.function.0 (mention_edge g n m mentioned) in
    let size = c.requires.ranks.sized in
    let same : length c.as_slice-ranks.result.now ≡ length c.args.found.now.ranks.items = ap length c.as_slice-ranks.ensures.value in
    omega arith

pub loop-caller-preserved-in_default : goal.loop-caller-preserved-in_default
loop-caller-preserved-in_default c =
    let g = c.args.graph.now in
    let n = c.loop-caller.caller in
    let ranks = c.args.found.now.ranks.items in
    let slice = c.as_slice-ranks.result.now in
    let low : n < length slice = omega arith in
    let rank = rank_at ranks slice n c.as_slice-ranks.ensures.value low in
    calls_not g ranks c.args.found.now.count n (get_or slice n 0) c.loop-caller.calls.items c.loop-caller.invariant rank
    c.row_of-row.result.now c.row_of-row.ensures
    (λ f h.
    none_of c.collected_in.result (λ (f : ℕ). Collects slice c.row_of-row.result.now (get_or slice n 0) f) c.collected_in.ensures.none c.in_default.not-Some f
    (subst (λ (x : List ℕ). Collects x c.row_of-row.result.now (get_or slice n 0) f) (sym c.as_slice-ranks.ensures.value) h))

pub loop-caller-preserved : goal.loop-caller-preserved
loop-caller-preserved c =
    let g = c.args.graph.now in
    let n = c.loop-caller.caller in
    let ranks = c.args.found.now.ranks.items in
    let slice = c.as_slice-ranks.result.now in
    let low : n < length slice = omega arith in
    let rank = rank_at ranks slice n c.as_slice-ranks.ensures.value low in
    calls_found g ranks c.args.found.now.count n (get_or slice n 0) c.loop-caller.calls.items c.loop-caller.invariant rank
    (record { caller = n; collected = c.in-Some.collected })
    (call_of g ranks n (get_or slice n 0) c.in-Some.collected c.row_of-row.result.now rank c.row_of-row.ensures
    (subst (λ (x : List ℕ). Collects x c.row_of-row.result.now (get_or slice n 0) c.in-Some.collected) c.as_slice-ranks.ensures.value
    c.in-Some.ensures.some))

pub returns : goal.returns
returns c =
    let g = c.args.graph.now in
    let size = c.requires.ranks.sized in
    let same : length c.as_slice-ranks.result.now ≡ length c.args.found.now.ranks.items = ap length c.as_slice-ranks.ensures.value in
    let many : length (targets_in g) ≡ length g = as_many_targets g in
    let end : length g ≤ c.loop-caller.caller = omega arith in
    calls_until g c.args.found.now.ranks.items c.args.found.now.count c.loop-caller.caller (length g) c.loop-caller.calls.items end c.loop-caller.invariant
