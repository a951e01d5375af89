-- The frames that a branch keeps may be kept in each graph that follows when the node is rewritten
-- to which they lead.
use Rattle.std.proofs.Common.{◌≡◌, ◌≢◌, ℕ, zero, suc, ◌<◌, ◌≤◌, inl, inr, Bool, true, false, ◌&&◌, List, [], ◌∷◌, Option, None, Some, if◌then◌else◌, IsTrue, refl, ap, sym, ◌∙◌, subst, true≢false, length, get_or, take, nat_lt, arith, ltb-true, lt-ltb}
use Rattle.std.specs.List.{list_all}
use Rattle.std.proofs.lemmas.List.Folds.{list_all-append}
use Rattle.cu_calculus.specs.declared.ConId.{ConId}
use Rattle.cu_calculus.specs.declared.Mode.TheVariants.{Flex, Rigid}
use Rattle.cu_calculus.specs.declared.builtin.Primitive.TheVariants as prim
use Rattle.cu_calculus.specs.Code.{Code}
use Rattle.cu_calculus.specs.Match.{same_constructor}
use Rattle.cu_calculus.specs.WellFormed.{is_well_formed}
use Rattle.cu_machine.specs.declared.Kind.{Kind}
use Rattle.cu_machine.specs.declared.Kind.TheVariants as kind
use Rattle.cu_machine.specs.Among.{Among}
use Rattle.cu_machine.specs.Graph.{Graph, Node, head_of, node_at}
use Rattle.cu_machine.specs.Need.{At, Done, Throughout, need_all}
use Rattle.cu_machine.specs.Rewrite.{Become, Collect, Move, Overflows, move}
use Rattle.cu_machine.specs.State.{Branch, Idle}
use Rattle.cu_machine.specs.Validity.{ArgumentsThere, IsAcyclic, IsValid, are_places}
use Rattle.cu_machine.proofs.Building.{passes_expr}
use Rattle.cu_machine.proofs.Equations.{move_good}
use Rattle.cu_machine.proofs.Fuel.{both_true, left_true, right_true}
use Rattle.cu_machine.proofs.MoveRows.{moves_row}
use Rattle.cu_machine.proofs.NeedPlaces.{IsRedex, need_at_redex}
use Rattle.cu_machine.proofs.Rows.{AllGraphsGood, GraphGood, MoveGood}
use Rattle.cu_machine.proofs.Successors.{all_true}
use Rattle.cu_step.specs.declared.need.Ask.{Ask}
use Rattle.cu_step.specs.declared.need.Ask.TheVariants as ask
use Rattle.cu_step.specs.declared.need.Frame.{Frame}
use Rattle.cu_step.specs.declared.need.Look.{Look}
use Rattle.cu_step.specs.declared.need.Look.TheVariants as look
use Rattle.cu_step.specs.declared.need.KeptWalk.{KeptWalk}
use Rattle.cu_step.specs.Inside.Kept.{AllMayGoOn, IsKept, Leads, MayGoOn, StandsAt, StandsAtNode}
use Rattle.cu_step.specs.Inside.Walk.{asked, asked_of, height, highest, look_all, look_bound, look_first, look_head, look_true, looked, looked_at}
use Rattle.cu_step.proofs.Bindings.{Keeps, is_fixed, is_free, redex_unfixed}
use Rattle.cu_step.proofs.Heights.{head_lower, height_table}
use Rattle.cu_step.proofs.RowsKeep.{row_keeps}
use Rattle.cu_step.proofs.StaysThere.{is_ind, outer_stays, own_head, side_stays, strict_stays, through, unfixed_no_ind, whole_stays}

-- ---- what looks from the root ask

-- whether nothing is asked about free variables inside a value
abbrev pub is_outside : Ask → Bool
is_outside ask.Ground = false
is_outside ask.Inside = false
is_outside _ = true

-- whether a look at a node asks nothing about free variables inside values
abbrev stays_outside : Look → Bool
stays_outside (look.Node id a) = is_outside a
stays_outside _ = true

first_outside : (id : ℕ) (a : Ask) (args : List ℕ) → is_outside a ≡ true → stays_outside (look_first id a args) ≡ true
first_outside id a [] is = refl
first_outside id a (x ∷ xs) is = is

head_outside : (id : ℕ) (k : Kind) (args : List ℕ) → stays_outside (look_head id k args) ≡ true
head_outside id (kind.Prim prim.Unify) args = refl
head_outside id (kind.Prim prim.And) args = refl
head_outside id (kind.Prim _) args = refl
head_outside id kind.Apply args = first_outside id ask.Bound args refl
head_outside id (kind.Case Rigid e) args = first_outside id ask.Bound args refl
head_outside id (kind.Case Flex e) args = first_outside id ask.Head args refl
head_outside id _ args = refl

bound_outside : (id : ℕ) (k : Kind) (args : List ℕ) → stays_outside (look_bound id k args) ≡ true
bound_outside id kind.Free args = refl
bound_outside id (kind.Prim operation) args = head_outside id (kind.Prim operation) args
bound_outside id kind.Apply args = head_outside id kind.Apply args
bound_outside id (kind.Case mode e) args = head_outside id (kind.Case mode e) args
bound_outside id _ args = refl

if_outside : (by : ℕ) (b : Bool) → stays_outside (if b then look.There else look.At by) ≡ true
if_outside by true = refl
if_outside by false = refl

true_outside : (truth : ConId) (by id : ℕ) (k : Kind) (args : List ℕ) → stays_outside (look_true truth by id k args) ≡ true
true_outside truth by id (kind.Cons c) args = if_outside by (same_constructor c truth)
true_outside truth by id (kind.Prim operation) args = head_outside id (kind.Prim operation) args
true_outside truth by id kind.Apply args = head_outside id kind.Apply args
true_outside truth by id (kind.Case mode e) args = head_outside id (kind.Case mode e) args
true_outside truth by id _ args = refl

all_outside : (id : ℕ) (k : Kind) (args : List ℕ) → stays_outside (look_all id k args) ≡ true
all_outside id (kind.Prim operation) args = head_outside id (kind.Prim operation) args
all_outside id kind.Apply args = head_outside id kind.Apply args
all_outside id (kind.Case mode e) args = head_outside id (kind.Case mode e) args
all_outside id _ args = refl

looked_outside : (truth : ConId) (by : ℕ) (a : Ask) (id : ℕ) (k : Kind) (args : List ℕ) → is_outside a ≡ true
    → stays_outside (looked truth by a id k args) ≡ true
looked_outside truth by ask.Head id k args is = head_outside id k args
looked_outside truth by ask.Bound id k args is = bound_outside id k args
looked_outside truth by ask.Truth id k args is = true_outside truth by id k args
looked_outside truth by ask.All id k args is = all_outside id k args
looked_outside truth by ask.Ground id k args is = let none_left : ⊥ = true≢false (sym is) in absurd none_left
looked_outside truth by ask.Inside id k args is = let none_left : ⊥ = true≢false (sym is) in absurd none_left

abbrev is_node : Look → Bool
is_node (look.Node id a) = true
is_node _ = false

free_no_node : (truth : ConId) (by : ℕ) (a : Ask) (id : ℕ) (args : List ℕ) → is_node (looked truth by a id kind.Free args) ≡ false
free_no_node truth by ask.Head id args = refl
free_no_node truth by ask.Bound id args = refl
free_no_node truth by ask.Truth id args = refl
free_no_node truth by ask.All id args = refl
free_no_node truth by ask.Ground id args = refl
free_no_node truth by ask.Inside id args = refl

ind_no_node : (truth : ConId) (by : ℕ) (a : Ask) (id : ℕ) (args : List ℕ) → is_node (looked truth by a id kind.Ind args) ≡ false
ind_no_node truth by ask.Head id args = refl
ind_no_node truth by ask.Bound id args = refl
ind_no_node truth by ask.Truth id args = refl
ind_no_node truth by ask.All id args = refl
ind_no_node truth by ask.Ground id args = refl
ind_no_node truth by ask.Inside id args = refl

node_unfree : (truth : ConId) (by : ℕ) (a : Ask) (id : ℕ) (k : Kind) (args : List ℕ) → is_node (looked truth by a id k args) ≡ true → is_free k ≡ false
node_unfree truth by a id kind.Free args is = let none_left : ⊥ = true≢false (sym is ∙ free_no_node truth by a id args) in absurd none_left
node_unfree truth by a id _ args is = refl

node_no_ind : (truth : ConId) (by : ℕ) (a : Ask) (id : ℕ) (k : Kind) (args : List ℕ) → is_node (looked truth by a id k args) ≡ true → is_ind k ≡ false
node_no_ind truth by a id kind.Ind args is = let none_left : ⊥ = true≢false (sym is ∙ ind_no_node truth by a id args) in absurd none_left
node_no_ind truth by a id _ args is = refl

-- ---- where frames lead is below them

-- a node of the graph that is lower than another
abbrev is_below : Graph → ℕ → ℕ → Bool
is_below graph top x = nat_lt x (length graph) && nat_lt (height graph x) (height graph top)

all_below : (graph : Graph) (top : ℕ) (xs : List ℕ) → IsTrue (are_places (length graph) xs) → highest (height graph) xs < height graph top
    → list_all (is_below graph top) xs ≡ true
unfolding highest
all_below graph top [] there low = refl
all_below graph top (x ∷ xs) there low =
    both_true (is_below graph top x) (list_all (is_below graph top) xs)
    (both_true (nat_lt x (length graph)) (nat_lt (height graph x) (height graph top)) (left_true (nat_lt x (length graph)) (are_places (length graph) xs) there)
    (lt-ltb (height graph x) (height graph top) (omega arith)))
    (all_below graph top xs (right_true (nat_lt x (length graph)) (are_places (length graph) xs) there) (omega arith))

asked_pass : (p : ℕ → Bool) (k : Kind) (args : List ℕ) → list_all p args ≡ true → list_all p (asked_of k args) ≡ true
asked_pass p kind.Apply (function ∷ args) all = both_true (p function) true (left_true (p function) (list_all p args) all) refl
asked_pass p (kind.Case mode e) (scrutinee ∷ values) all = both_true (p scrutinee) true (left_true (p scrutinee) (list_all p values) all) refl
asked_pass p _ args all = all

taken_pass : (p : ℕ → Bool) (n : ℕ) (xs : List ℕ) → list_all p xs ≡ true → list_all p (take n xs) ≡ true
taken_pass p zero xs all = refl
taken_pass p (suc n) [] all = refl
taken_pass p (suc n) (x ∷ xs) all =
    both_true (p x) (list_all p (take n xs)) (left_true (p x) (list_all p xs) all) (taken_pass p n xs (right_true (p x) (list_all p xs) all))

looked_below : (graph : Graph) (id : ℕ) → ArgumentsThere graph → IsAcyclic graph → id < length graph → list_all (is_below graph id) (looked_at graph id) ≡ true
looked_below graph id arguments acyclic below =
    let table = height_table graph id arguments acyclic below in
    asked_pass (is_below graph id) (node_at graph id).kind (node_at graph id).args
    (all_below graph id (node_at graph id).args (arguments id below) (omega arith))

-- An argument of a node is below it, and so are those before it.
record Under (graph : Graph) (id argument : ℕ) (earlier : List ℕ) : Type 0 where
  there : argument < length graph
  lower : height graph argument < height graph id
  before : list_all (is_below graph id) earlier ≡ true

below_there : (graph : Graph) (top x : ℕ) → is_below graph top x ≡ true → x < length graph
below_there graph top x is = ltb-true x (length graph) (left_true (nat_lt x (length graph)) (nat_lt (height graph x) (height graph top)) is)

below_lower : (graph : Graph) (top x : ℕ) → is_below graph top x ≡ true → height graph x < height graph top
below_lower graph top x is = ltb-true (height graph x) (height graph top) (right_true (nat_lt x (length graph)) (nat_lt (height graph x) (height graph top)) is)

stands_below : (truth : ConId) (graph : Graph) (frame : Frame) (argument : ℕ) → ArgumentsThere graph → IsAcyclic graph
    → (stands : StandsAt truth graph frame argument) → Under graph frame.node argument stands.earlier
stands_below truth graph frame argument arguments acyclic stands =
    let p = is_below graph frame.node in
    let both : (list_all p stands.earlier && (p argument && true)) ≡ true =
    sym (list_all-append p stands.earlier (argument ∷ []))
    ∙ ap (list_all p) (sym stands.splits)
    ∙ taken_pass p frame.next (looked_at graph frame.node) (looked_below graph frame.node arguments acyclic stands.there) in
    let last = left_true (p argument) true (right_true (list_all p stands.earlier) (p argument && true) both) in record {
      there = below_there graph frame.node argument last;
      lower = below_lower graph frame.node argument last;
      before = left_true (list_all p stands.earlier) (p argument && true) both;
    }

leads_low : (truth : ConId) (graph : Graph) (by : ℕ) (a : Ask) (start : ℕ) (frames : List Frame) (id : ℕ) → ArgumentsThere graph → IsAcyclic graph
    → head_of graph id ≡ id → start < length graph → Leads truth graph by a start frames id → height graph id ≤ height graph start
unfolding Leads
leads_low truth graph by a start [] id arguments acyclic own below leads =
    let low = head_lower (length graph) graph start arguments acyclic below in
    subst (λ (x : ℕ). height graph x ≤ height graph start) (leads ∙ own) low.1
leads_low truth graph by a start (frame ∷ frames) id arguments acyclic own below leads =
    let looks = leads.0 in
    let argument = leads.1 in
    let under = stands_below truth graph frame argument arguments acyclic leads.2 in
    let lower = under.lower in
    let rest = leads_low truth graph frame.node frame.ask argument frames id arguments acyclic own under.there leads.3 in
    let low = head_lower (length graph) graph start arguments acyclic below in
    let top = subst (λ (x : ℕ). height graph x ≤ height graph start) looks.head low.1 in
    omega arith

-- ---- kept frames stay

each_place : (p : ℕ → Bool) (xs : List ℕ) (k d : ℕ) → list_all p xs ≡ true → k < length xs → p (get_or xs k d) ≡ true
each_place p [] k d all below = let none_left : ⊥ = omega arith in absurd none_left
each_place p (x ∷ xs) zero d all below = left_true (p x) (list_all p xs) all
each_place p (x ∷ xs) (suc k) d all below = each_place p xs k d (right_true (p x) (list_all p xs) all) (omega arith)

module _ (truth : ConId) (graph after : Graph) (id : ℕ) (arguments : ArgumentsThere graph) (acyclic : IsAcyclic graph) (later_arguments : ArgumentsThere after)
    (later_acyclic : IsAcyclic after) (redex : is_fixed (node_at graph id).kind ≡ false) (keeps : Keeps graph after id) (here : id < length graph) where
  -- what is asked of an argument, and is there, stays there
  pub asked_stays : (a : Ask) (by x : ℕ) → is_outside a ≡ true → x < length graph → asked truth graph a by x ≡ Done → asked truth after a by x ≡ Done
  unfolding asked
  asked_stays ask.Head by x is below done = outer_stays truth graph after id arguments acyclic later_arguments later_acyclic redex keeps x below done
  asked_stays ask.Bound by x is below done = strict_stays truth graph after id arguments acyclic later_arguments later_acyclic redex keeps x below done
  asked_stays ask.Truth by x is below done = side_stays truth graph after id arguments acyclic later_arguments later_acyclic redex keeps by x below done
  asked_stays ask.All by x is below done =
      whole_stays truth graph after id arguments acyclic later_arguments later_acyclic redex keeps x (acyclic x below) below done
  asked_stays ask.Ground by x is below done = let none_left : ⊥ = true≢false (sym is) in absurd none_left
  asked_stays ask.Inside by x is below done = let none_left : ⊥ = true≢false (sym is) in absurd none_left

  same_head : (x : ℕ) → x < length graph → head_of after x ≡ head_of after (head_of graph x)
  same_head x below = through truth graph after id arguments acyclic later_arguments later_acyclic redex keeps x (acyclic x below) below

  own_id : head_of graph id ≡ id
  own_id = own_head truth graph arguments acyclic id here (unfixed_no_ind (node_at graph id).kind redex)

  -- frames that lead to the node that is rewritten lead to it still
  pub leads_still : (by : ℕ) (a : Ask) (start : ℕ) (frames : List Frame) → is_outside a ≡ true → start < length graph
      → Leads truth graph by a start frames id → Leads truth after by a start frames id
  unfolding Leads
  leads_still by a start [] outside below leads = same_head start below ∙ ap (head_of after) leads ∙ sym (same_head id here)
  leads_still by a start (frame ∷ frames) outside below leads =
      let looks = leads.0 in
      let argument = leads.1 in
      let stands = leads.2 in
      let under = stands_below truth graph frame argument arguments acyclic stands in
      let lower = under.lower in
      let low = leads_low truth graph frame.node frame.ask argument frames id arguments acyclic own_id under.there leads.3 in
      let apart : frame.node ≢ id = λ same. let equal : height graph frame.node ≡ height graph id = ap (height graph) same in let none_left : ⊥ = omega arith in none_left in
      let node : is_node (looked truth by a frame.node (node_at graph frame.node).kind (node_at graph frame.node).args) ≡ true = ap is_node looks.look in
      let stays : node_at after frame.node ≡ node_at graph frame.node =
      keeps.same frame.node stands.there apart (node_unfree truth by a frame.node (node_at graph frame.node).kind (node_at graph frame.node).args node) in
      let longer = keeps.longer in
      let inside : frame.node < length after = let old = stands.there in omega arith in
      let own : head_of after frame.node ≡ frame.node =
      own_head truth after later_arguments later_acyclic frame.node inside
      (ap (λ (n : Node). is_ind n.kind) stays ∙ node_no_ind truth by a frame.node (node_at graph frame.node).kind (node_at graph frame.node).args node) in
      let asks : is_outside frame.ask ≡ true =
      ap stays_outside (sym looks.look) ∙ looked_outside truth by a frame.node (node_at graph frame.node).kind (node_at graph frame.node).args outside in (
        record {
          head = same_head start below ∙ ap (head_of after) looks.head ∙ own;
          look = ap (λ (n : Node). looked truth by a frame.node n.kind n.args) stays ∙ looks.look;
        },
        argument,
        record {
          there = inside;
          next = subst (λ (n : Node). frame.next ≤ length (asked_of n.kind n.args)) (sym stays) stands.next;
          waits = stands.waits;
          earlier = stands.earlier;
          splits = ap (λ (n : Node). take frame.next (asked_of n.kind n.args)) stays ∙ stands.splits;
          known = λ k d within.
              asked_stays frame.ask frame.node (get_or stands.earlier k d) asks
              (below_there graph frame.node (get_or stands.earlier k d)
              (each_place (is_below graph frame.node) stands.earlier k d under.before within))
              (stands.known k d within);
        },
        leads_still frame.node frame.ask argument frames asks under.there leads.3,
      )

-- ---- each graph that follows

among_good : (program : Code) (sets : Bool) (goals : List ℕ) (n : ℕ) (graphs : List Graph) (after : Graph) → AllGraphsGood program sets goals n graphs
    → Among after graphs → GraphGood program sets goals n after
among_good program sets goals n [] after all m = absurd m
among_good program sets goals n (graph ∷ graphs) after all m = elim m [
  | inl same ↦ subst (λ (g : Graph). GraphGood program sets goals n g) same all.0
  | inr rest ↦ among_good program sets goals n graphs after all.1 rest
]

-- The frames that lead to the node that is needed lead to it in each graph that follows when it is
-- rewritten.
pub kept_stays : (program : Code) (graph after : Graph) (root id : ℕ) (goals : List ℕ) (frames : List Frame) (graphs : List Graph)
    → IsTrue (is_well_formed program) → IsValid program (Branch graph root goals Idle) → need_all program.special.truth graph root ≡ At id
    → move program graph id ≡ Become graphs → Among after graphs → IsKept program.special.truth graph root frames id
    → IsKept program.special.truth after root frames id
unfolding IsValid
kept_stays program graph after root id goals frames graphs well valid needed moved m kept =
    let branch = valid.0 in
    let truth = program.special.truth in
    let redex : IsRedex graph id = need_at_redex (length graph) truth graph Throughout root id branch.arguments (lt-ltb root (length graph) branch.root_there) needed in
    let unfixed = redex_unfixed graph (node_at graph id).kind (node_at graph id).args redex.1 redex.2 in
    let keeps : Keeps graph after id =
    row_keeps program graph after id redex.0 unfixed (moves_row program graph after root id goals graphs valid needed moved m) in
    let good : MoveGood program true goals (length graph) (move program graph id) =
    move_good program true graph goals id (record { well_formed = well; passing = all_true (passes_expr true) program.expressions (λ x. refl) })
    (record { nodes = branch.nodes; arguments = branch.arguments; acyclic = branch.acyclic; passing = λ i below. refl }) branch.goals_plain redex.0 redex.1 in
    let graph_is = among_good program true goals (length graph) graphs after (subst (λ (what : Move). MoveGood program true goals (length graph) what) moved good) m in
    leads_still truth graph after id branch.arguments branch.acyclic graph_is.fine.arguments graph_is.fine.acyclic unfixed keeps redex.0 root ask.All root frames refl
    branch.root_there kept

among_place : (graphs : List Graph) (k : ℕ) (d : Graph) → k < length graphs → Among (get_or graphs k d) graphs
among_place [] k d below = let none_left : ⊥ = omega arith in absurd none_left
among_place (graph ∷ graphs) zero d below = inl refl
among_place (graph ∷ graphs) (suc k) d below = inr (among_place graphs k d (omega arith))

-- what the row of the step table leaves as it was
after_keeps : (program : Code) (graph after : Graph) (root id : ℕ) (goals : List ℕ) (graphs : List Graph) → IsValid program (Branch graph root goals Idle)
    → need_all program.special.truth graph root ≡ At id → move program graph id ≡ Become graphs → Among after graphs → Keeps graph after id
unfolding IsValid
after_keeps program graph after root id goals graphs valid needed moved m =
    let branch = valid.0 in
    let redex : IsRedex graph id = need_at_redex (length graph) program.special.truth graph Throughout root id branch.arguments (lt-ltb root (length graph) branch.root_there) needed in
    row_keeps program graph after id redex.0 (redex_unfixed graph (node_at graph id).kind (node_at graph id).args redex.1 redex.2)
    (moves_row program graph after root id goals graphs valid needed moved m)

-- A walk that is kept, where one is, may go on in each graph that follows when the node at which it
-- stands is rewritten.
pub walk_moves : (program : Code) (graph : Graph) (root id : ℕ) (goals : List ℕ) (walk : Option KeptWalk) (what : Move) → IsTrue (is_well_formed program)
    → IsValid program (Branch graph root goals Idle) → need_all program.special.truth graph root ≡ At id → what ≡ move program graph id
    → StandsAtNode program.special.truth id walk → MayGoOn graph root walk → AllMayGoOn root walk what
walk_moves program graph root id goals None (Become graphs) well valid needed is at may = λ k d below. tt
walk_moves program graph root id goals (Some walk) (Become graphs) well valid needed is at may = λ k d below.
    let truth = program.special.truth in
    let frames = walk.frames.items in
    let after = get_or graphs k d in
    let m : Among after graphs = among_place graphs k d below in
    let there : walk.place < length graph = may.0 in
    let long = (after_keeps program graph after root id goals graphs valid needed (sym is) m).longer in
    let kept : IsKept truth graph root frames id = subst (λ i. IsKept truth graph root frames i) at.1 (subst (λ t. IsKept t graph root frames walk.place) at.0 may.1) in
    let now = kept_stays program graph after root id goals frames graphs well valid needed (sym is) m kept in
    let still : IsKept walk.truth after root frames walk.place = subst (λ t. IsKept t after root frames walk.place) (sym at.0) (subst (λ i. IsKept truth after root frames i) (sym at.1) now) in
    let below_after : walk.place < length after = omega arith in
    (below_after, still)
walk_moves program graph root id goals walk (Overflows operation a b) well valid needed is at may = tt
walk_moves program graph root id goals walk (Collect f arguments) well valid needed is at may = tt
