-- Where a set function's call is needed and its arguments are data, they are ground.
use Rattle.std.proofs.Common.{◌≡◌, ℕ, zero, suc, ◌≤◌, true, not, List, [], ◌∷◌, refl, ap, sym, ◌∙◌, subst, length, map, filter, nat_lt, arith, true≢false}
use Rattle.std.specs.List.{list_all}
use Rattle.std.proofs.lemmas.Bool.{and_from, and_parts}
use Rattle.cu_calculus.specs.declared.ConId.{ConId}
use Rattle.cu_calculus.specs.declared.FunId.{FunId}
use Rattle.cu_calculus.specs.Shape.{are_data, are_ground, are_total, is_data, is_ground, is_total}
use Rattle.cu_calculus.specs.Value.{Value, values_of}
use Rattle.cu_machine.specs.declared.Kind.{Kind}
use Rattle.cu_machine.specs.declared.Kind.TheVariants as kind
use Rattle.cu_machine.specs.Graph.{Graph, Node, head_at, head_of, node_at}
use Rattle.cu_machine.specs.Need.{At, Done, Extent, Throughout, all_free, first, free_at, free_of, free_within, is_head, need_at, need_within, rest_at, unless_done, waiting}
use Rattle.cu_machine.specs.Places.{holds, joined}
use Rattle.cu_machine.specs.Spell.{spelled, spelled_at, spelled_within}
use Rattle.cu_machine.specs.Steps.{node}
use Rattle.cu_machine.specs.Validity.{ArgumentsThere}
use Rattle.cu_machine.proofs.DoneLaws.{head_of_done, then_first, then_second, within_is_head}
use Rattle.cu_machine.proofs.NeedPlaces.{before_done, first_at, places_closed, rest_at_at, table_at, unless_done_at, waiting_not_at}
use Rattle.cu_machine.proofs.Rows.{head_closed}

-- ---- the call that is needed

-- nothing is needed of these values throughout, within a bound, and none of them has a free
-- variable
pub record Ready (truth : ConId) (graph : Graph) (bound : ℕ) (args : List ℕ) : Type 0 where
  pub depth : ℕ
  pub within : depth ≤ bound
  pub done : first (map (need_within depth truth graph Throughout) args) ≡ Done
  pub closed : free_of graph args ≡ []

no_waiting : (ids : List ℕ) → waiting ids ≡ Done → ids ≡ []
no_waiting [] same = refl
no_waiting (id ∷ ids) same = let no : ⊥ = cc in absurd no

ready_later : (truth : ConId) (graph : Graph) (bound more : ℕ) (args : List ℕ) → bound ≤ more → Ready truth graph bound args → Ready truth graph more args
ready_later truth graph bound more args up ready =
    let inside = ready.within in record { depth = ready.depth; within = omega arith; done = ready.done; closed = ready.closed }

module _ (truth : ConId) (graph : Graph) (f : FunId) (args : List ℕ) (i : ℕ) (is : node_at graph i ≡ node (kind.SetCall f) args) (there : ArgumentsThere graph) where
  -- the node at a place that is needed itself
  own_call : (depth bound id : ℕ) (k : Kind) (parts : List ℕ) → depth ≤ bound → node_at graph id ≡ node k parts
      → ((extent : Extent) (x : ℕ) → nat_lt x (length graph) ≡ true → need_within depth truth graph extent x ≡ At i → Ready truth graph bound args)
      → list_all (λ x. nat_lt x (length graph)) parts ≡ true → need_at truth graph (need_within depth truth graph) id k parts ≡ At i → Ready truth graph bound args
  own_call depth bound id (kind.SetCall g) parts within at each low same =
      let part = need_within depth truth graph in
      unless_done_at (Ready truth graph bound args) (first (map (part Throughout) parts)) (unless_done (waiting (free_of graph parts)) (At id)) i
      (first_at (Ready truth graph bound args) (λ x. nat_lt x (length graph)) (part Throughout) parts i (each Throughout) low)
      (λ done. unless_done_at (Ready truth graph bound args) (waiting (free_of graph parts)) (At id) i (λ at_i. absurd (waiting_not_at (free_of graph parts) i at_i))
      (λ closed here.
      let place : id ≡ i = cc in
      let nodes : node (kind.SetCall g) parts ≡ node (kind.SetCall f) args = sym at ∙ ap (node_at graph) place ∙ is in
      let arguments : parts ≡ args = ap (λ (n : Node). n.args) nodes in
      subst (λ (xs : List ℕ). Ready truth graph bound xs) arguments
      (record { depth = depth; within = within; done = done; closed = no_waiting (free_of graph parts) closed }))) same
  own_call depth bound id k parts within at each low same =
      table_at (Ready truth graph bound args) truth graph (need_within depth truth graph) (λ x. nat_lt x (length graph)) id i each (λ y done. within_is_head depth truth graph y done)
      k parts
      (λ unplain ready here.
      let kinds : k ≡ kind.SetCall f = ap (λ (n : Node). n.kind) (sym at ∙ ap (node_at graph) here ∙ is) in
      let no : ⊥ = cc in
      absurd no) low same

  pub collect_ready : (depth : ℕ) (extent : Extent) (x : ℕ) → nat_lt x (length graph) ≡ true → need_within depth truth graph extent x ≡ At i → Ready truth graph depth args
  unfolding need_within
  collect_ready zero extent x within same = let no : ⊥ = cc in absurd no
  collect_ready (suc depth) extent x within same =
      let p = λ (y : ℕ). nat_lt y (length graph) in
      let part = need_within depth truth graph in
      let closed = places_closed graph there in
      let here : p (head_of graph x) ≡ true = head_closed p graph (length graph) x closed within in
      let parts : list_all p (head_at graph x).args ≡ true = (closed (head_of graph x) here).1 in
      let each = λ (e : Extent) (y : ℕ) (low : p y ≡ true) (at : part e y ≡ At i). ready_later truth graph depth (suc depth) args (omega arith) (collect_ready depth e y low at) in
      unless_done_at (Ready truth graph (suc depth) args) (need_at truth graph part (head_of graph x) (head_at graph x).kind (head_at graph x).args)
      (rest_at part extent (head_at graph x).kind (head_at graph x).args) i
      (own_call depth (suc depth) (head_of graph x) (head_at graph x).kind (head_at graph x).args (omega arith) refl each parts)
      (λ done. rest_at_at (Ready truth graph (suc depth) args) truth graph part p (head_of graph x) i each (λ y is_done. within_is_head depth truth graph y is_done) extent
      (head_at graph x).kind (head_at graph x).args parts)
      same

-- ---- values of which nothing is needed

all_done : (truth : ConId) (graph : Graph) (depth : ℕ) (part : ℕ → Value) (args : List ℕ)
    → ((x : ℕ) → need_within depth truth graph Throughout x ≡ Done → is_total (part x) ≡ true) → first (map (need_within depth truth graph Throughout) args) ≡ Done
    → are_total (values_of (map part args)) ≡ true
all_done truth graph depth part [] each same = refl
all_done truth graph depth part (arg ∷ args) each same =
    let parts = before_done (need_within depth truth graph Throughout arg) (first (map (need_within depth truth graph Throughout) args)) same in
    and_from (is_total (part arg)) (are_total (values_of (map part args))) (each arg parts.0) (all_done truth graph depth part args each parts.1)

total_head : (truth : ConId) (graph : Graph) (depth : ℕ) (part : ℕ → Value) (id : ℕ) (k : Kind) (args : List ℕ) → is_head k ≡ true
    → ((x : ℕ) → need_within depth truth graph Throughout x ≡ Done → is_total (part x) ≡ true)
    → rest_at (need_within depth truth graph) Throughout k args ≡ Done → is_total (spelled_at part id k args) ≡ true
total_head truth graph depth part id (kind.Cons c) args head each same = all_done truth graph depth part args each same
total_head truth graph depth part id (kind.Part h) args head each same = all_done truth graph depth part args each same
total_head truth graph depth part id (kind.Lit l) args head each same = refl
total_head truth graph depth part id kind.Free args head each same = refl
total_head truth graph depth part id _ args head each same = absurd (true≢false (sym head))

pub done_total : (truth : ConId) (graph : Graph) (depth more id : ℕ) → depth ≤ more → need_within depth truth graph Throughout id ≡ Done
    → is_total (spelled_within more graph id) ≡ true
unfolding need_within spelled_within
done_total truth graph zero more id up same = let no : ⊥ = cc in absurd no
done_total truth graph (suc depth) zero id up same = absurd (omega arith)
done_total truth graph (suc depth) (suc more) id up same =
    let part = need_within depth truth graph in
    let head = head_of graph id in
    let k = (head_at graph id).kind in
    let args = (head_at graph id).args in
    total_head truth graph depth (spelled_within more graph) head k args (head_of_done truth graph part head k args (then_first _ _ same))
    (λ x done. done_total truth graph depth more x (omega arith) done) (then_second _ _ same)

-- ---- values without variables

joined_none : (xs ys : List ℕ) → joined xs ys ≡ [] → (xs ≡ []) × (ys ≡ [])
joined_none [] ys same = (refl, none_kept ys same)
  where
    none_kept : (zs : List ℕ) → filter (λ id. not (holds [] id)) zs ≡ [] → zs ≡ []
    none_kept [] e = refl
    none_kept (z ∷ zs) e = let no : ⊥ = cc in absurd no
joined_none (x ∷ xs) ys same = let no : ⊥ = cc in absurd no

all_closed : (free : ℕ → List ℕ) (part : ℕ → Value) (args : List ℕ)
    → ((x : ℕ) → free x ≡ [] → is_total (part x) ≡ true → is_data (part x) ≡ true → is_ground (part x) ≡ true) → all_free free args ≡ []
    → are_total (values_of (map part args)) ≡ true → are_data (values_of (map part args)) ≡ true → are_ground (values_of (map part args)) ≡ true
all_closed free part [] each closed total data_only = refl
all_closed free part (arg ∷ args) each closed total data_only =
    let none = joined_none (free arg) (all_free free args) closed in
    let totals = and_parts (is_total (part arg)) (are_total (values_of (map part args))) total in
    let datas = and_parts (is_data (part arg)) (are_data (values_of (map part args))) data_only in
    and_from (is_ground (part arg)) (are_ground (values_of (map part args))) (each arg none.0 totals.0 datas.0)
    (all_closed free part args each none.1 totals.1 datas.1)

closed_head : (free : ℕ → List ℕ) (part : ℕ → Value) (id : ℕ) (k : Kind) (args : List ℕ)
    → ((x : ℕ) → free x ≡ [] → is_total (part x) ≡ true → is_data (part x) ≡ true → is_ground (part x) ≡ true) → free_at free id k args ≡ []
    → is_total (spelled_at part id k args) ≡ true → is_data (spelled_at part id k args) ≡ true → is_ground (spelled_at part id k args) ≡ true
closed_head free part id (kind.Cons c) args each closed total data_only = all_closed free part args each closed total data_only
closed_head free part id (kind.Lit l) args each closed total data_only = refl
closed_head free part id (kind.Part h) args each closed total data_only = absurd (true≢false (sym data_only))
closed_head free part id kind.Free args each closed total data_only = let no : ⊥ = cc in absurd no
closed_head free part id _ args each closed total data_only = absurd (true≢false (sym total))

pub closed_ground : (graph : Graph) (depth id : ℕ) → free_within depth graph id ≡ [] → is_total (spelled_within depth graph id) ≡ true
    → is_data (spelled_within depth graph id) ≡ true → is_ground (spelled_within depth graph id) ≡ true
unfolding free_within spelled_within
closed_ground graph zero id closed total data_only = absurd (true≢false (sym total))
closed_ground graph (suc depth) id closed total data_only =
    closed_head (free_within depth graph) (spelled_within depth graph) (head_of graph id) (head_at graph id).kind (head_at graph id).args
    (λ x. closed_ground graph depth x) closed total data_only

pub ready_ground : (truth : ConId) (graph : Graph) (args : List ℕ) → Ready truth graph (length graph) args → are_data (values_of (map (spelled graph) args)) ≡ true
    → are_ground (values_of (map (spelled graph) args)) ≡ true
ready_ground truth graph args ready data_only =
    let inside = ready.within in
    all_closed (free_within (length graph) graph) (spelled graph) args (λ x. closed_ground graph (length graph) x) ready.closed
    (all_done truth graph ready.depth (spelled graph) args (λ x done. done_total truth graph ready.depth (length graph) x inside done) ready.done) data_only
