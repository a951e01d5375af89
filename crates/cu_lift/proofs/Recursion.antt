-- Closed walks through set calls, and programs without levels.
use Rattle.std.proofs.Common.{◌≡◌, ℕ, zero, suc, ◌+◌, ◌<◌, ◌≤◌, ◌⊎◌, inl, inr, Bool, true, false, List, [], ◌∷◌, length, Option, None, Some, slice_get, slice_index, refl, ap, sym, ◌∙◌, subst, arith}
use Rattle.std.proofs.lemmas.Option.{slice_get_read}
use Rattle.std.specs.List.{Contains}
use Rattle.cu_calculus.specs.Claims as claims
use Rattle.cu_calculus.specs.Claims.{AreLevels, Collected, Plain}
use Rattle.cu_calculus.specs.Program.{Program}
use Rattle.cu_calculus.specs.declared.FunId.{FunId}
use Rattle.cu_lift.proofs.Bridges.{collected_is, function_at, has_mentioned, mentioned_has, mentions_edge, steps_walk}
use Rattle.cu_cycles.proofs.Places.{before_or_not, prefix_or_suffix, within}
use Rattle.cu_cycles.specs.Components.{AreRanks}
use Rattle.cu_cycles.specs.Graph.{Edge, IsWhole}
use Rattle.cu_lift.proofs.Edges.{as_many_targets, mention_edge}
use Rattle.cu_lift.specs.Inside.Levelling.{AreCalls, IsCalm, IsCall, IsCycleOf, IsFirstCall}
use Rattle.cu_lift.specs.Inside.MentionsOf.{MentionRows, graph_of, mention_by, rows_of, targets_in}
use Rattle.cu_lift.specs.SetCycles.{IsSetCycle, IsSetRecursion, StandsOn}
use Rattle.cu_lift.specs.Walks as walks
use Rattle.cu_lift.specs.Walks.{Has, Mentions, Walk}
use Rattle.cu_lift.specs.declared.set_levels.Call.{Call}

contained : (xs : List FunId) (x : FunId) → Contains xs x → (k : ℕ) × (slice_get xs k ≡ Some x)
contained xs x h = (h.0, slice_get_read xs (length xs) h.0 x refl h.1 (sym h.2))

-- ---- numbers that fall along mentions

module _ (program : Program) (rank : ℕ → ℕ) (falls : (f g : FunId) → Mentions program f g → rank g.0 ≤ rank f.0) where
  walk_falls : (f g : FunId) (fs : List FunId) → Walk program f fs g → rank g.0 ≤ rank f.0
  walk_falls _ _ _ (walks.stay f) = omega arith
  walk_falls _ _ _ (walks.go f g h fs mention rest) = let one = falls f g mention in let more = walk_falls g h fs rest in omega arith

  walk_between : (f g : FunId) (fs : List FunId) (k : ℕ) (x : FunId) → Walk program f fs g → slice_get fs k ≡ Some x
      → (rank x.0 ≤ rank f.0) × (rank g.0 ≤ rank x.0)
  walk_between _ _ _ k x (walks.stay f) e = let no : ⊥ = cc in absurd no
  walk_between _ _ _ zero x (walks.go f g h fs mention rest) e =
      let same : f ≡ x = cc in
      let as_rank : rank f.0 ≡ rank x.0 = ap (λ (y : FunId). rank y.0) same in
      let one = falls f g mention in let more = walk_falls g h fs rest in
      (omega arith, omega arith)
  walk_between _ _ _ (suc k) x (walks.go f g h fs mention rest) e =
      let one = falls f g mention in
      let more = walk_between g h fs k x rest e in
      let high : rank x.0 ≤ rank g.0 = more.0 in
      (omega arith, more.1)

  -- all functions of a closed walk have one rank
  cycle_ranks : (start f : FunId) (cycle : List FunId) (c : IsSetCycle program start cycle) → (k : ℕ) → slice_get cycle k ≡ Some f
      → (rank f.0 ≡ rank c.caller.0) × (rank c.collected.0 ≡ rank c.caller.0)
  cycle_ranks start f cycle c k e =
      by (prefix_or_suffix c.prefix (c.caller ∷ c.suffix) k f (subst (λ (x : List FunId). slice_get x k ≡ Some f) c.whole e))
    where
      to : rank c.caller.0 ≤ rank start.0
      to = walk_falls start c.caller c.prefix c.to_caller

      call : rank c.collected.0 ≤ rank c.caller.0
      call = falls c.caller c.collected (inr c.call)

      from : rank start.0 ≤ rank c.collected.0
      from = walk_falls c.collected start c.suffix c.from_collected

      suffix : (j : ℕ) → slice_get (c.caller ∷ c.suffix) j ≡ Some f → rank f.0 ≡ rank c.caller.0
      suffix zero d = let same : f ≡ c.caller = cc in ap (λ (y : FunId). rank y.0) same
      suffix (suc j) d =
          let between = walk_between c.collected start c.suffix j f c.from_collected d in
          let high : rank f.0 ≤ rank c.collected.0 = between.0 in
          let low : rank start.0 ≤ rank f.0 = between.1 in
          omega (arith, to, call, from)

      by : (slice_get c.prefix k ≡ Some f) ⊎ ((j : ℕ) × (k ≡ length c.prefix + j) × (slice_get (c.caller ∷ c.suffix) j ≡ Some f))
          → (rank f.0 ≡ rank c.caller.0) × (rank c.collected.0 ≡ rank c.caller.0)
      by (inl d) =
          let between = walk_between start c.caller c.prefix k f c.to_caller d in
          let high : rank f.0 ≤ rank start.0 = between.0 in
          let low : rank c.caller.0 ≤ rank f.0 = between.1 in
          (omega (arith, to, call, from), omega (arith, to, call, from))
      by (inr h) = (suffix h.0 h.2, omega (arith, to, call, from))

-- ---- no levels

level_falls : (program : Program) (levels : List ℕ) → AreLevels program levels → (f g : FunId) → Mentions program f g
    → slice_index levels g.0 ≤ slice_index levels f.0
level_falls program levels are f g (inl h) = are.allowed f.0 h.place h.function (Plain g) h.is_function h.is_there
level_falls program levels are f g (inr h) =
    let less : slice_index levels g.0 < slice_index levels f.0 = are.allowed f.0 h.place h.function (Collected g) h.is_function h.is_there in
    omega arith

-- a program with such a walk has no levels
pub no_levels : (program : Program) (start : FunId) (cycle : List FunId) → IsSetCycle program start cycle → (levels : List ℕ) → AreLevels program levels → ⊥
no_levels program start cycle c levels are =
    let falls = level_falls program levels are in
    let less : slice_index levels c.collected.0 < slice_index levels c.caller.0 =
    are.allowed c.caller.0 c.call.place c.call.function (Collected c.collected) c.call.is_function c.call.is_there in
    let to = walk_falls program (slice_index levels) falls start c.caller c.prefix c.to_caller in
    let from = walk_falls program (slice_index levels) falls c.collected start c.suffix c.from_collected in
    omega arith

-- ---- what the code finds

index_get : (xs : List ℕ) (k : ℕ) → k < length xs → slice_get xs k ≡ Some (slice_index xs k)
index_get [] k h = absurd (omega arith)
index_get (x ∷ xs) zero h = refl
index_get (x ∷ xs) (suc k) h = index_get xs k (omega arith)

module _ (program : Program) (rows : MentionRows) (same : rows_of rows ≡ graph_of program) (ranks : List ℕ) (count : ℕ) (whole : IsWhole (targets_in rows))
    (are : AreRanks (targets_in rows) ranks count) (calls : List (Option Call)) (found : AreCalls rows ranks count (length rows) calls) where
  -- where no component has a call, no set call stays in its component
  pub is_calm : ((f r : ℕ) → slice_get ranks f ≡ Some r → slice_get calls r ≡ Some None) → IsCalm rows ranks
  is_calm none = record {
    calm = λ u r m h c e d. found.none u r m (within rows u h.row h.is_row) h c e d (none u r e);
  }

  rank_there : (u : ℕ) → u < length (targets_in rows) → slice_get ranks u ≡ Some (slice_index ranks u)
  rank_there u low = let size = are.sized in index_get ranks u (omega arith)

  edge_falls : (u v : ℕ) → Edge (targets_in rows) u v → slice_index ranks v ≤ slice_index ranks u
  edge_falls u v edge =
      are.falling u v (slice_index ranks u) (slice_index ranks v) edge (rank_there u (within (targets_in rows) u edge.row edge.is_row))
      (rank_there v (whole.within u v edge))

  rank_falls : (f g : FunId) → Mentions program f g → slice_index ranks g.0 ≤ slice_index ranks f.0
  rank_falls f g h = edge_falls f.0 g.0 (mentions_edge program rows same f g h)

  module _ (first : ℕ) (call : Call) (is_first : IsFirstCall ranks calls first call) (cycle : List FunId)
      (walked : IsCycleOf (targets_in rows) first call.caller call.collected cycle) where
    is_call : IsCall rows ranks is_first.rank call
    is_call = found.some is_first.rank call is_first.is_call

    meaning : (b : Bool) (f : FunId) (c : ℕ) → b ≡ true → f.0 ≡ c → mention_by b f ≡ Collected (function_at c)
    meaning true f c e d = ap (λ (n : ℕ). Collected (function_at n)) d
    meaning false f c e d = let no : ⊥ = cc in absurd no

    has_call : Has program (function_at call.caller) (Collected (function_at call.collected))
    has_call =
        subst (λ (x : claims.Mention). Has program (function_at call.caller) x)
        (meaning is_call.mention.collected is_call.mention.function call.collected is_call.collected is_call.function)
        (mentioned_has program rows same call.caller is_call.mention is_call.mentioned)

    set_cycle : IsSetCycle program (function_at first) cycle
    set_cycle = record {
      caller = function_at call.caller;
      collected = function_at call.collected;
      prefix = walked.prefix;
      suffix = walked.suffix;
      to_caller = steps_walk program rows same first walked.prefix call.caller walked.to;
      call = has_call;
      from_collected = steps_walk program rows same call.collected walked.suffix first walked.from;
      whole = walked.whole;
    }

    earlier : (f : FunId) → StandsOn program f → f.0 < first → ⊥
    earlier f on less =
        let c = on.2 in
        let at = contained on.1 f on.3 in
        let one = cycle_ranks program (slice_index ranks) rank_falls on.0 f on.1 c at.0 at.1 in
        let m = has_mentioned program rows same c.caller (Collected c.collected) c.call in
        let name = collected_is program rows same m.0.collected m.0.function c.collected m.2 in
        let r = slice_index ranks c.caller.0 in
        let low_first = within ranks first is_first.rank is_first.is_rank in
        let size = are.sized in
        let low : f.0 < length (targets_in rows) = omega arith in
        let caller_low : c.caller.0 < length rows = within rows c.caller.0 m.1.row m.1.is_row in
        let caller_rank : slice_get ranks c.caller.0 ≡ Some (slice_index ranks c.caller.0) =
        rank_there c.caller.0 (subst (λ (n : ℕ). c.caller.0 < n) (sym (as_many_targets rows)) caller_low) in
        let target_low : m.0.function.0 < length (targets_in rows) = whole.within c.caller.0 m.0.function.0 (mention_edge rows c.caller.0 m.0 m.1) in
        let f_rank : slice_get ranks f.0 ≡ Some (slice_index ranks c.caller.0) = rank_there f.0 low ∙ ap Some one.0 in
        let target_rank : slice_get ranks m.0.function.0 ≡ Some (slice_index ranks c.caller.0) =
        rank_there m.0.function.0 target_low ∙ ap Some (ap (λ (x : FunId). slice_index ranks x.0) name.0 ∙ one.1) in
        found.none c.caller.0 (slice_index ranks c.caller.0) m.0 caller_low m.1 name.1 caller_rank target_rank
        (is_first.before f.0 (slice_index ranks c.caller.0) less f_rank)

    pub set_recursion : IsSetRecursion program cycle
    set_recursion = record {
      first = function_at first;
      is_cycle = set_cycle;
      is_first = λ f on. elim (before_or_not f.0 first) [ inl less ↦ absurd (earlier f on less) | inr more ↦ more ];
      no_levels = no_levels program (function_at first) cycle set_cycle;
    }
