-- The graph that the code keeps is that of the program: its mentions, walks and levels.
use Rattle.std.proofs.Common.{◌≡◌, ℕ, ◌+◌, ◌≤◌, inl, inr, Bool, true, false, cond, List, [], ◌∷◌, Some, slice_get, slice_index, refl, ap, sym, ◌∙◌, subst, arith}
use Rattle.std.specs.declared.alloc.Global.{Global}
use Rattle.std.specs.declared.vec.Vec.{Vec}
use Rattle.cu_calculus.proofs.Lists.{get_map}
use Rattle.cu_calculus.specs.Claims as claims
use Rattle.cu_calculus.specs.Claims.{Allows, AreLeastLevels, AreLevels, Collected, Plain, body_mentions}
use Rattle.cu_calculus.specs.Program.{Function, Program}
use Rattle.cu_calculus.specs.declared.FunId.{FunId}
use Rattle.cu_lift.proofs.Edges.{edge_mention, mention_edge}
use Rattle.cu_lift.proofs.InRange.{rows_length}
use Rattle.cu_cycles.proofs.Places.{mapped_at}
use Rattle.cu_cycles.specs.Graph as graph
use Rattle.cu_cycles.specs.Graph.{Edge, Reach}
use Rattle.cu_lift.specs.Inside.Levelling.{AreLevelsOn, Mentioned}
use Rattle.cu_lift.specs.Inside.MentionsOf.{MentionRows, graph_of, mention_by, mention_meaning, mention_meanings, rows_of, targets_in}
use Rattle.cu_lift.specs.Inside.Trail.{Steps}
use Rattle.cu_lift.specs.Walks as walks
use Rattle.cu_lift.specs.Walks.{Has, Mentions, Reaches, Walk}
use Rattle.cu_lift.specs.declared.mentions.Mention.{Mention}

abbrev pub function_at : ℕ → FunId
function_at u = record { 0 = u }

-- ---- rows

module _ (program : Program) (rows : MentionRows) (same : rows_of rows ≡ graph_of program) where
  function_of_row : (u : ℕ) (row : Vec Mention Global) → slice_get rows u ≡ Some row
      → (function : Function) × (slice_get program.functions u ≡ Some function) × (body_mentions function.body ≡ mention_meanings row.items)
  function_of_row u row e =
      mapped_at (λ (function : Function). body_mentions function.body) program.functions u (mention_meanings row.items)
      (subst (λ (x : List (List claims.Mention)). slice_get x u ≡ Some (mention_meanings row.items)) same
      (get_map (λ (r : Vec Mention Global). mention_meanings r.items) rows u row e))

  row_of_function : (u : ℕ) (function : Function) → slice_get program.functions u ≡ Some function
      → (row : Vec Mention Global) × (slice_get rows u ≡ Some row) × (mention_meanings row.items ≡ body_mentions function.body)
  row_of_function u function e =
      mapped_at (λ (r : Vec Mention Global). mention_meanings r.items) rows u (body_mentions function.body)
      (subst (λ (x : List (List claims.Mention)). slice_get x u ≡ Some (body_mentions function.body)) (sym same)
      (get_map (λ (f : Function). body_mentions f.body) program.functions u function e))

  pub mentioned_has : (u : ℕ) (m : Mention) → Mentioned rows u m → Has program (function_at u) (mention_meaning m)
  mentioned_has u m h =
      let at = function_of_row u h.row h.is_row in
      record {
        function = at.0;
        is_function = at.1;
        place = h.place;
        is_there = subst (λ (x : List claims.Mention). slice_get x h.place ≡ Some (mention_meaning m)) (sym at.2)
            (get_map mention_meaning h.row.items h.place m h.is_there);
      }

  pub has_mentioned : (f : FunId) (mention : claims.Mention) → Has program f mention → (m : Mention) × Mentioned rows f.0 m × (mention_meaning m ≡ mention)
  has_mentioned f mention h =
      let at = row_of_function f.0 h.function h.is_function in
      let m = mapped_at mention_meaning at.0.items h.place mention
      (subst (λ (x : List claims.Mention). slice_get x h.place ≡ Some mention) (sym at.2) h.is_there) in
      (m.0, record { row = at.0; is_row = at.1; place = h.place; is_there = m.1 }, m.2)

  -- ---- edges and walks

  mention_of : (u : ℕ) (b : Bool) (f : FunId) → Has program (function_at u) (mention_by b f) → Mentions program (function_at u) f
  mention_of u true f h = inr h
  mention_of u false f h = inl h

  pub edge_mentions : (u v : ℕ) → Edge (targets_in rows) u v → Mentions program (function_at u) (function_at v)
  edge_mentions u v edge =
      let m = edge_mention rows u v edge in
      subst (λ (x : ℕ). Mentions program (function_at u) (function_at x)) m.2
      (mention_of u m.0.collected m.0.function (mentioned_has u m.0 m.1))

  pub plain_is : (b : Bool) (f g : FunId) → mention_by b f ≡ Plain g → (f ≡ g) × (b ≡ false)
  plain_is true f g e = let no : ⊥ = cc in absurd no
  plain_is false f g e = (cc, refl)

  pub collected_is : (b : Bool) (f g : FunId) → mention_by b f ≡ Collected g → (f ≡ g) × (b ≡ true)
  collected_is true f g e = (cc, refl)
  collected_is false f g e = let no : ⊥ = cc in absurd no

  pub mentions_edge : (f g : FunId) → Mentions program f g → Edge (targets_in rows) f.0 g.0
  mentions_edge f g (inl h) =
      let m = has_mentioned f (Plain g) h in
      let name = plain_is m.0.collected m.0.function g m.2 in
      subst (λ (x : FunId). Edge (targets_in rows) f.0 x.0) name.0 (mention_edge rows f.0 m.0 m.1)
  mentions_edge f g (inr h) =
      let m = has_mentioned f (Collected g) h in
      let name = collected_is m.0.collected m.0.function g m.2 in
      subst (λ (x : FunId). Edge (targets_in rows) f.0 x.0) name.0 (mention_edge rows f.0 m.0 m.1)

  pub steps_walk : (u : ℕ) (fs : List FunId) (w : ℕ) → Steps (targets_in rows) u fs w → Walk program (function_at u) fs (function_at w)
  steps_walk u [] w h = subst (λ (x : ℕ). Walk program (function_at u) [] (function_at x)) h (walks.stay (function_at u))
  steps_walk u (f ∷ fs) w h =
      let first : function_at u ≡ f = ap function_at (sym h.0) in
      subst (λ (x : FunId). Walk program (function_at u) (x ∷ fs) (function_at w)) first
      (walks.go (function_at u) (function_at h.1) (function_at w) fs (edge_mentions u h.1 h.2) (steps_walk h.1 fs w h.3))

  pub reach_walk : (u w : ℕ) → Reach (targets_in rows) u w → Reaches program (function_at u) (function_at w)
  reach_walk _ _ (graph.here u) = ([], walks.stay (function_at u))
  reach_walk _ w (graph.there u v _ edge rest) =
      let more = reach_walk v w rest in
      (function_at u ∷ more.0, walks.go (function_at u) (function_at v) (function_at w) more.0 (edge_mentions u v edge) more.1)

  pub walk_reach : (f g : FunId) (fs : List FunId) → Walk program f fs g → Reach (targets_in rows) f.0 g.0
  walk_reach _ _ _ (walks.stay f) = graph.here f.0
  walk_reach _ _ _ (walks.go f g h fs mention rest) = graph.there f.0 g.0 h.0 (mentions_edge f g mention) (walk_reach g h fs rest)

  -- ---- levels

  to_demand : (levels : List ℕ) (level : ℕ) (b : Bool) (f : FunId) → Allows levels level (mention_by b f) → slice_index levels f.0 + cond b 1 0 ≤ level
  to_demand levels level true f h = omega arith
  to_demand levels level false f h = omega arith

  from_demand : (levels : List ℕ) (level : ℕ) (b : Bool) (f : FunId) → slice_index levels f.0 + cond b 1 0 ≤ level → Allows levels level (mention_by b f)
  from_demand levels level true f h = omega arith
  from_demand levels level false f h = omega arith

  pub levels_on : (levels : List ℕ) → AreLevels program levels → AreLevelsOn rows levels
  levels_on levels are = record {
    each = are.each ∙ sym (rows_length program rows same);
    allowed = λ u m h.
        let has = mentioned_has u m h in
        to_demand levels (slice_index levels u) m.collected m.function
        (are.allowed u has.place has.function (mention_meaning m) has.is_function has.is_there);
  }

  pub levels_of : (levels : List ℕ) → AreLevelsOn rows levels → AreLevels program levels
  levels_of levels are = record {
    each = are.each ∙ rows_length program rows same;
    allowed = λ k place function mention e d.
        let m = has_mentioned (function_at k) mention (record { function = function; is_function = e; place = place; is_there = d }) in
        subst (λ (x : claims.Mention). Allows levels (slice_index levels k) x) m.2
        (from_demand levels (slice_index levels k) m.0.collected m.0.function (are.allowed k m.0 m.1));
  }

  pub least_of : (levels : List ℕ) → AreLevelsOn rows levels
      → ((others : List ℕ) (v : ℕ) → AreLevelsOn rows others → slice_index levels v ≤ slice_index others v) → AreLeastLevels program levels
  least_of levels are least = record {
    are_levels = levels_of levels are;
    least = λ others k h. least others k (levels_on others h);
  }
