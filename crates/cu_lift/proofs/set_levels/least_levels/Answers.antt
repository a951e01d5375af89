use Rattle.std.proofs.Common.{◌≡◌, ◌<◌, ℕ, List, Some, get_or, length, slice_get, refl, sym, ◌∙◌, subst, arith}
use Rattle.std.proofs.lemmas.Option.{slice_get_read}
use Rattle.std.specs.declared.alloc.Global.{Global}
use Rattle.std.specs.declared.vec.Vec.{Vec}
use Rattle.cu_calculus.specs.declared.FunId.{FunId}
use Rattle.cu_lift.proofs.LevelSteps.{all_below, levels_step}
use Rattle.cu_lift.proofs.Members.{members_all, members_in}
use Rattle.cu_cycles.proofs.Places.{within}
use Rattle.cu_cycles.specs.Components.{AreRanks}
use Rattle.cu_lift.proofs.Edges.{as_many_targets}
use Rattle.cu_lift.specs.Inside.MentionsOf.{MentionRows, targets_in}
use Rattle.cu_lift.specs.Inside.Levelling.{AreBelow, AreDemands, AreMembers}
use Rattle.cu_lift.proofs.set_levels.least_levels.Goals as goal

-- the functions of a group, in the terms of its slice
row_at : (groups members : List (Vec FunId Global)) (i : ℕ) (row : Vec FunId Global) → groups ≡ members → i < length groups → row ≡ get_or groups i row
    → slice_get members i ≡ Some row
row_at groups members i row same low is =
    subst (λ (x : List (Vec FunId Global)). slice_get x i ≡ Some row) same (slice_get_read groups (length groups) i row refl low is)

in_rank : (ranks : List ℕ) (count : ℕ) (members : List (Vec FunId Global)) (i : ℕ) (row : Vec FunId Global) (slice : List FunId)
    → AreMembers ranks count members → slice_get members i ≡ Some row → slice ≡ row.items
    → (k : ℕ) (f : FunId) → slice_get slice k ≡ Some f → slice_get ranks f.0 ≡ Some i
in_rank ranks count members i row slice are is same k f e =
    members_in ranks count members are i row is k f (subst (λ (x : List FunId). slice_get x k ≡ Some f) same e)

all_in : (ranks : List ℕ) (count : ℕ) (members : List (Vec FunId Global)) (i : ℕ) (row : Vec FunId Global) (slice : List FunId)
    → AreMembers ranks count members → slice_get members i ≡ Some row → slice ≡ row.items
    → (v : ℕ) → slice_get ranks v ≡ Some i → (k : ℕ) × (slice_get slice k ≡ Some (record { 0 = v }))
all_in ranks count members i row slice are is same v e =
    let found = members_all ranks count members are i row is v e in
    (found.0, subst (λ (x : List FunId). slice_get x found.0 ≡ Some (record { 0 = v })) (sym same) found.1)

ranked_within : (g : MentionRows) (ranks : List ℕ) (count v r : ℕ) → AreRanks (targets_in g) ranks count → slice_get ranks v ≡ Some r → v < length g
ranked_within g ranks count v r are e =
    let low = within ranks v r e in
    let size : length ranks ≡ length g = are.sized ∙ as_many_targets g in
    omega arith

below_as : (slice levels : List ℕ) → slice ≡ levels → AreBelow (length levels) levels → AreBelow (length slice) slice
below_as slice levels same h = subst (λ (x : List ℕ). AreBelow (length x) x) (sym same) h

pub demands-level-requires-clause-within : goal.demands-level-requires-clause-within
demands-level-requires-clause-within c k f e =
    let ranks = c.args.found.now.ranks.items in
    let count = c.args.found.now.count in
    let i = c.loop-group.group-index in
    let low : i < length c.as_slice-groups.result.now = omega arith in
    let is = row_at c.as_slice-groups.result.now c.in_ok-rows.rows.items i c.group-item.result c.as_slice-groups.ensures.value low c.group-item.is in
    ranked_within c.args.graph.now ranks count f.0 i c.requires.ranks
    (in_rank ranks count c.in_ok-rows.rows.items i c.group-item.result c.as_slice-functions.result.now c.in_ok-rows.ensures is
    c.as_slice-functions.ensures.value k f e)

pub demands-level-requires-clause-fits : goal.demands-level-requires-clause-fits
demands-level-requires-clause-fits c =
    below_as c.as_slice.result.now c.loop-group.levels.items c.as_slice.ensures.value
    (all_below c.args.graph.now c.args.found.now.ranks.items c.args.found.now.count c.loop-group.group-index c.loop-group.levels.items
    c.requires.ranks c.loop-group.invariant)

pub raise-requires : goal.raise-requires
raise-requires c k f e =
    let ranks = c.args.found.now.ranks.items in
    let count = c.args.found.now.count in
    let i = c.loop-group.group-index in
    let low : i < length c.as_slice-groups.result.now = omega arith in
    let is = row_at c.as_slice-groups.result.now c.in_ok-rows.rows.items i c.group-item.result c.as_slice-groups.ensures.value low c.group-item.is in
    let under =
    ranked_within c.args.graph.now ranks count f.0 i c.requires.ranks
    (in_rank ranks count c.in_ok-rows.rows.items i c.group-item.result c.as_slice-functions.result.now c.in_ok-rows.ensures is
    c.as_slice-functions.ensures.value k f e) in
    let size = c.loop-group.invariant.sized in
    omega arith

pub loop-group-preserved : goal.loop-group-preserved
loop-group-preserved c =
    let g = c.args.graph.now in
    let ranks = c.args.found.now.ranks.items in
    let count = c.args.found.now.count in
    let i = c.loop-group.group-index in
    let members = c.in_ok-rows.rows.items in
    let slice = c.as_slice-functions.result.now in
    let low : i < length c.as_slice-groups.result.now = omega arith in
    let is = row_at c.as_slice-groups.result.now members i c.group-item.result c.as_slice-groups.ensures.value low c.group-item.is in
    levels_step g ranks count i c.loop-group.levels.items c.raise.new.levels.items slice c.demands-level.result c.requires.whole c.requires.ranks
    c.requires.calm c.loop-group.invariant
    (subst (λ (x : List ℕ). AreDemands g x slice c.demands-level.result) c.as_slice.ensures.value c.demands-level.ensures)
    (in_rank ranks count members i c.group-item.result slice c.in_ok-rows.ensures is c.as_slice-functions.ensures.value)
    (all_in ranks count members i c.group-item.result slice c.in_ok-rows.ensures is c.as_slice-functions.ensures.value) c.raise.ensures
