-- Frames that may be kept: one more and one less, the last of them, and what is there before each.
use Rattle.std.proofs.Common.{◌≡◌, ◌⊎◌, ℕ, zero, suc, ◌<◌, Bool, true, false, List, [], ◌∷◌, ◌++◌, inl, inr, if◌then◌else◌, refl, ap, ap₂, sym, ◌∙◌, subst, length, nat_eq, arith, eq-eqb, eqb-true}
use Rattle.std.proofs.lemmas.List.Elements.{All-nil, All-push}
use Rattle.std.specs.List.{All}
use Rattle.cu_calculus.specs.declared.ConId.{ConId}
use Rattle.cu_calculus.specs.declared.Mode.TheVariants.{Flex, Rigid}
use Rattle.cu_calculus.specs.declared.builtin.Primitive.TheVariants as prim
use Rattle.cu_calculus.specs.Match.{same_constructor}
use Rattle.cu_machine.specs.declared.Kind.{Kind}
use Rattle.cu_machine.specs.declared.Kind.TheVariants as kind
use Rattle.cu_machine.specs.Graph.{Graph, followed, head_at, head_of, head_within, node_at}
use Rattle.cu_machine.specs.Need.{Done}
use Rattle.cu_machine.specs.Validity.{ArgumentsThere, IsAcyclic}
use Rattle.cu_step.specs.declared.need.Ask.{Ask}
use Rattle.cu_step.specs.declared.need.Ask.TheVariants as ask
use Rattle.cu_step.specs.declared.need.Frame.{Frame}
use Rattle.cu_step.specs.declared.need.Look.{Look}
use Rattle.cu_step.specs.declared.need.Look.TheVariants as look
use Rattle.cu_step.specs.Inside.Kept.{AllThere, IsKept, Leads, Standing, StandsAt, at_last, last_ask, last_node, none, without_own}
use Rattle.cu_step.specs.Inside.Walk.{asked, fresh, look_all, look_bound, look_head, look_inside, look_true, looked}
use Rattle.cu_step.proofs.Advances.{argument}
use Rattle.cu_step.proofs.Heights.{head_lower}
use Rattle.cu_step.proofs.Looks.{shown_node}
use Rattle.cu_step.proofs.Resumed.{asked_head, resumed_shown}

-- ---- a head to which a look comes is its own

-- the look shows a node
abbrev IsOfNode : Look → Type 0
IsOfNode (look.Node id a) = Unit {0}
IsOfNode (look.At id) = Unit {0}
IsOfNode _ = ⊥

other_name : (truth : ConId) (by : ℕ) (a : Ask) (id : ℕ) (args : List ℕ) → IsOfNode (looked truth by a id kind.Ind args) → ⊥
other_name truth by ask.Head id args shows = shows
other_name truth by ask.Bound id args shows = shows
other_name truth by ask.Truth id args shows = shows
other_name truth by ask.All id args shows = shows
other_name truth by ask.Ground id args shows = shows
other_name truth by ask.Inside id args shows = shows

follows_none : (truth : ConId) (by : ℕ) (a : Ask) (id : ℕ) (k : Kind) (args : List ℕ) (follow : ℕ → ℕ) → IsOfNode (looked truth by a id k args) → followed follow id k args ≡ id
follows_none truth by a id kind.Ind args follow shows = absurd (other_name truth by a id args shows)
follows_none truth by a id _ args follow shows = refl

own_within : (n : ℕ) (truth : ConId) (graph : Graph) (by : ℕ) (a : Ask) (id : ℕ) → IsOfNode (looked truth by a id (node_at graph id).kind (node_at graph id).args)
    → head_within n graph id ≡ id
unfolding head_within
own_within zero truth graph by a id shows = refl
own_within (suc n) truth graph by a id shows = follows_none truth by a id (node_at graph id).kind (node_at graph id).args (head_within n graph) shows

own_head : (truth : ConId) (graph : Graph) (by : ℕ) (a : Ask) (id : ℕ) (l : Look) → looked truth by a id (node_at graph id).kind (node_at graph id).args ≡ l → IsOfNode l
    → head_of graph id ≡ id
own_head truth graph by a id l is shows = own_within (length graph) truth graph by a id (subst IsOfNode (sym is) shows)

-- ---- one frame more, and one less

-- the look at the node of this frame, of which the last of the frames before it asks something
abbrev pub IsLast : ConId → Graph → ℕ → Ask → List Frame → Frame → Type 0
IsLast truth graph by a rest frame =
    looked truth (last_node by rest) (last_ask a rest) frame.node (node_at graph frame.node).kind (node_at graph frame.node).args ≡ look.Node frame.node frame.ask

pub last_own : (truth : ConId) (graph : Graph) (by : ℕ) (a : Ask) (rest : List Frame) (frame : Frame) → IsLast truth graph by a rest frame → head_of graph frame.node ≡ frame.node
last_own truth graph by a rest frame looks =
    own_head truth graph (last_node by rest) (last_ask a rest) frame.node (look.Node frame.node frame.ask) looks tt

pub leads_push : (truth : ConId) (graph : Graph) (by : ℕ) (a : Ask) (start : ℕ) (rest : List Frame) (frame : Frame) (argument id : ℕ)
    → Leads truth graph by a start rest frame.node → IsLast truth graph by a rest frame → StandsAt truth graph frame argument → head_of graph argument ≡ head_of graph id
    → Leads truth graph by a start (rest ++ frame ∷ []) id
unfolding Leads last_ask last_node
leads_push truth graph by a start [] frame argument id leads looks stands same =
    (record { head = leads ∙ last_own truth graph by a [] frame looks; look = looks }, argument, stands, same)
leads_push truth graph by a start (x ∷ rest) frame argument id leads looks stands same =
    (leads.0, leads.1, leads.2, leads_push truth graph x.node x.ask leads.1 rest frame argument id leads.3 looks stands same)

-- the frames before the last one, and where that one stands
pub record Popped (truth : ConId) (graph : Graph) (by : ℕ) (a : Ask) (start : ℕ) (rest : List Frame) (frame : Frame) (id : ℕ) : Type 0 where
  pub leads : Leads truth graph by a start rest frame.node
  pub looks : IsLast truth graph by a rest frame
  pub argument : ℕ
  pub stands : StandsAt truth graph frame argument
  pub same : head_of graph argument ≡ head_of graph id

pub leads_pop : (truth : ConId) (graph : Graph) (by : ℕ) (a : Ask) (start : ℕ) (rest : List Frame) (frame : Frame) (id : ℕ)
    → Leads truth graph by a start (rest ++ frame ∷ []) id → Popped truth graph by a start rest frame id
unfolding Leads last_ask last_node
leads_pop truth graph by a start [] frame id leads = record {
  leads = leads.0.head ∙ sym (last_own truth graph by a [] frame leads.0.look);
  looks = leads.0.look;
  argument = leads.1;
  stands = leads.2;
  same = leads.3;
}
leads_pop truth graph by a start (x ∷ rest) frame id leads =
    let popped : Popped truth graph x.node x.ask leads.1 rest frame id = leads_pop truth graph x.node x.ask leads.1 rest frame id leads.3 in
    record {
      leads = (leads.0, leads.1, leads.2, popped.leads);
      looks = popped.looks;
      argument = popped.argument;
      stands = popped.stands;
      same = popped.same;
    }

-- what leads to a node leads to another with the same head
pub leads_same : (truth : ConId) (graph : Graph) (by : ℕ) (a : Ask) (start : ℕ) (frames : List Frame) (id other : ℕ) → Leads truth graph by a start frames id
    → head_of graph id ≡ head_of graph other → Leads truth graph by a start frames other
unfolding Leads
leads_same truth graph by a start [] id other leads same = leads ∙ same
leads_same truth graph by a start (frame ∷ frames) id other leads same =
    (leads.0, leads.1, leads.2, leads_same truth graph frame.node frame.ask leads.1 frames id other leads.3 same)

-- ---- the last of several frames

-- there is no frame, or a last one
pub data Ending (frames : List Frame) : Type 0 where
  empty : frames ≡ [] → Ending frames
  ends : (rest : List Frame) (frame : Frame) → frames ≡ rest ++ frame ∷ [] → Ending frames

pub ending : (frames : List Frame) → Ending frames
ending [] = empty refl
ending (x ∷ frames) = elim (ending frames) [
  | empty is ↦ ends [] x (ap (λ fs. x ∷ fs) is)
  | ends rest frame is ↦ ends (x ∷ rest) frame (ap (λ fs. x ∷ fs) is)
]

node_push : (by : ℕ) (rest : List Frame) (frame : Frame) → last_node by (rest ++ frame ∷ []) ≡ frame.node
unfolding last_node
node_push by [] frame = refl
node_push by (x ∷ rest) frame = node_push x.node rest frame

ask_push : (a : Ask) (rest : List Frame) (frame : Frame) → last_ask a (rest ++ frame ∷ []) ≡ frame.ask
unfolding last_ask
ask_push a [] frame = refl
ask_push a (x ∷ rest) frame = ask_push x.ask rest frame

-- what the last of the frames asks of a node
last_asked : (truth : ConId) (graph : Graph) (by : ℕ) (a : Ask) (rest : List Frame) (frame : Frame) (id : ℕ)
    → asked truth graph (last_ask a (rest ++ frame ∷ [])) (last_node by (rest ++ frame ∷ [])) id ≡ asked truth graph frame.ask frame.node id
last_asked truth graph by a rest frame id = ap₂ (λ b x. asked truth graph b x id) (ask_push a rest frame) (node_push by rest frame)

-- a look for what the last of the frames asks
pub last_look : (truth : ConId) (by : ℕ) (a : Ask) (rest : List Frame) (frame : Frame) (id : ℕ) (k : Kind) (args : List ℕ)
    → looked truth (last_node by (rest ++ frame ∷ [])) (last_ask a (rest ++ frame ∷ [])) id k args ≡ looked truth frame.node frame.ask id k args
last_look truth by a rest frame id k args = ap₂ (λ b x. looked truth x b id k args) (ask_push a rest frame) (node_push by rest frame)

-- ---- what is asked is there

-- what the frame asks of the node is there
abbrev IsThere : ConId → Graph → Frame → ℕ → Type 0
IsThere truth graph frame id = asked truth graph frame.ask frame.node id ≡ Done

stood : (truth : ConId) (graph : Graph) (frame : Frame) (argument : ℕ) → StandsAt truth graph frame argument → IsThere truth graph frame argument → AllThere truth graph frame
stood truth graph frame argument stands known = record {
  there = stands.there;
  next = stands.next;
  waits = stands.waits;
  known = subst (λ (xs : List ℕ). All (IsThere truth graph frame) xs) (sym stands.splits)
      (All-push (IsThere truth graph frame) stands.earlier argument stands.known known);
}

kept_last : (truth : ConId) (graph : Graph) (root : ℕ) (rest : List Frame) (frame : Frame) (id : ℕ) → IsKept truth graph root (rest ++ frame ∷ []) id
    → IsThere truth graph frame id → Standing truth graph root (rest ++ frame ∷ [])
kept_last truth graph root rest frame id kept known =
    let popped : Popped truth graph root ask.All root rest frame id = leads_pop truth graph root ask.All root rest frame id kept in
    at_last rest frame refl popped.leads popped.looks
    (stood truth graph frame popped.argument popped.stands (asked_head truth graph frame.ask frame.node popped.argument id popped.same ∙ known))

-- where what is asked of the node is there to which the frames lead, the last frame goes on
pub kept_there : (truth : ConId) (graph : Graph) (root : ℕ) (frames : List Frame) (id : ℕ) → IsKept truth graph root frames id
    → asked truth graph (last_ask ask.All frames) (last_node root frames) id ≡ Done → Standing truth graph root frames
kept_there truth graph root frames id kept known = elim (ending frames) [
  | empty is ↦ none is
  | ends rest frame is ↦
      subst (λ (fs : List Frame). Standing truth graph root fs) (sym is)
      (kept_last truth graph root rest frame id (subst (λ (fs : List Frame). IsKept truth graph root fs id) is kept)
      (sym (last_asked truth graph root ask.All rest frame id) ∙ sym (ap (λ fs. asked truth graph (last_ask ask.All fs) (last_node root fs) id) is) ∙ known))
]

-- ---- a node is entered

pub kept_enters : (truth : ConId) (graph : Graph) (root : ℕ) (frames : List Frame) (id other : ℕ) (a : Ask) → ArgumentsThere graph → IsAcyclic graph → id < length graph
    → IsKept truth graph root frames id → resumed_shown truth graph root frames id ≡ look.Node other a → Standing truth graph root (frames ++ fresh other a ∷ [])
kept_enters truth graph root frames id other a there acyclic below kept looks =
    let same : other ≡ head_of graph id =
    shown_node truth (last_node root frames) (last_ask ask.All frames) (head_of graph id) (head_at graph id).kind (head_at graph id).args other a looks in
    let own : head_of graph (head_of graph id) ≡ head_of graph id =
    own_head truth graph (last_node root frames) (last_ask ask.All frames) (head_of graph id) (look.Node other a) looks tt in
    at_last frames (fresh other a) refl (leads_same truth graph root ask.All root frames id other kept (sym (ap (head_of graph) same ∙ own)))
    (ap (λ x. looked truth (last_node root frames) (last_ask ask.All frames) x (node_at graph x).kind (node_at graph x).args) same ∙ looks)
    (record {
      there = subst (λ (x : ℕ). x < length graph) (sym same) (head_lower (length graph) graph id there acyclic below).0;
      next = omega arith;
      waits = refl;
      known = All-nil (IsThere truth graph (fresh other a));
    })

-- ---- a look answers

-- the node that a look at `id` answers is this one, or the one that asks
abbrev AtOf : ℕ → ℕ → Look → Type 0
AtOf by id (look.At other) = (other ≡ id) ⊎ (other ≡ by)
AtOf by id _ = Unit {0}

at_head : (by id : ℕ) (k : Kind) (args : List ℕ) → AtOf by id (look_head id k args)
at_head by id (kind.Call f) args = inl refl
at_head by id kind.Or args = inl refl
at_head by id (kind.Prim prim.Unify) args = tt
at_head by id (kind.Prim prim.And) args = tt
at_head by id (kind.Prim operation) args = tt
at_head by id kind.Apply [] = tt
at_head by id kind.Apply (function ∷ args) = tt
at_head by id (kind.Case Rigid e) [] = tt
at_head by id (kind.Case Rigid e) (scrutinee ∷ values) = tt
at_head by id (kind.Case Flex e) [] = tt
at_head by id (kind.Case Flex e) (scrutinee ∷ values) = tt
at_head by id _ args = tt

at_bound : (by id : ℕ) (k : Kind) (args : List ℕ) → AtOf by id (look_bound id k args)
at_bound by id kind.Free args = tt
at_bound by id k args = at_head by id k args

at_if : (by id : ℕ) (b : Bool) → AtOf by id (if b then look.There else look.At by)
at_if by id true = tt
at_if by id false = inr refl

at_true : (truth : ConId) (by id : ℕ) (k : Kind) (args : List ℕ) → AtOf by id (look_true truth by id k args)
at_true truth by id (kind.Cons c) args = at_if by id (same_constructor c truth)
at_true truth by id (kind.Lit l) args = inr refl
at_true truth by id (kind.Part h) args = inr refl
at_true truth by id k args = at_bound by id k args

at_all : (by id : ℕ) (k : Kind) (args : List ℕ) → AtOf by id (look_all id k args)
at_all by id (kind.Cons c) args = tt
at_all by id (kind.Part h) args = tt
at_all by id k args = at_head by id k args

at_inside : (by id : ℕ) (k : Kind) → AtOf by id (look_inside id k)
at_inside by id (kind.Cons c) = tt
at_inside by id (kind.Part h) = tt
at_inside by id kind.Free = tt
at_inside by id _ = tt

at_looked : (truth : ConId) (by : ℕ) (a : Ask) (id : ℕ) (k : Kind) (args : List ℕ) → AtOf by id (looked truth by a id k args)
at_looked truth by ask.Head id k args = at_head by id k args
at_looked truth by ask.Bound id k args = at_bound by id k args
at_looked truth by ask.Truth id k args = at_true truth by id k args
at_looked truth by ask.All id k args = at_all by id k args
at_looked truth by ask.Ground id k args = at_inside by id k
at_looked truth by ask.Inside id k args = at_inside by id k

pub own_true : (rest : List Frame) (frame : Frame) (id : ℕ) → nat_eq frame.node id ≡ true → without_own id (rest ++ frame ∷ []) ≡ rest
unfolding without_own
own_true [] frame id is = ap (λ b. if b then [] else frame ∷ []) is
own_true (x ∷ []) frame id is = ap (λ fs. x ∷ fs) (own_true [] frame id is)
own_true (x ∷ y ∷ rest) frame id is = ap (λ fs. x ∷ fs) (own_true (y ∷ rest) frame id is)

pub own_false : (rest : List Frame) (frame : Frame) (id : ℕ) → nat_eq frame.node id ≡ false → without_own id (rest ++ frame ∷ []) ≡ rest ++ frame ∷ []
unfolding without_own
own_false [] frame id is = ap (λ b. if b then [] else frame ∷ []) is
own_false (x ∷ []) frame id is = ap (λ fs. x ∷ fs) (own_false [] frame id is)
own_false (x ∷ y ∷ rest) frame id is = ap (λ fs. x ∷ fs) (own_false (y ∷ rest) frame id is)

last_ends : (truth : ConId) (graph : Graph) (root : ℕ) (rest : List Frame) (frame : Frame) (id n : ℕ) (b : Bool) → nat_eq frame.node n ≡ b
    → IsKept truth graph root (rest ++ frame ∷ []) id → (head_of graph id ≡ head_of graph n) ⊎ (n ≡ frame.node)
    → IsKept truth graph root (without_own n (rest ++ frame ∷ [])) n
last_ends truth graph root rest frame id n true is kept at =
    subst (λ (fs : List Frame). IsKept truth graph root fs n) (sym (own_true rest frame n is))
    (subst (λ (x : ℕ). IsKept truth graph root rest x) (eqb-true frame.node n is) (leads_pop truth graph root ask.All root rest frame id kept).leads)
last_ends truth graph root rest frame id n false is kept (inl same) =
    subst (λ (fs : List Frame). IsKept truth graph root fs n) (sym (own_false rest frame n is))
    (leads_same truth graph root ask.All root (rest ++ frame ∷ []) id n kept same)
last_ends truth graph root rest frame id n false is kept (inr own) =
    let no : ⊥ = cc (eq-eqb frame.node n (sym own)) in absurd no

none_ends : (truth : ConId) (graph : Graph) (root id n : ℕ) → IsKept truth graph root [] id → (head_of graph id ≡ head_of graph n) ⊎ (n ≡ root)
    → IsKept truth graph root (without_own n []) n
unfolding Leads without_own
none_ends truth graph root id n kept (inl same) = kept ∙ same
none_ends truth graph root id n kept (inr own) = ap (head_of graph) (sym own)

at_from : (truth : ConId) (graph : Graph) (root : ℕ) (frames : List Frame) (id n : ℕ) → resumed_shown truth graph root frames id ≡ look.At n
    → (head_of graph id ≡ head_of graph n) ⊎ (n ≡ last_node root frames)
at_from truth graph root frames id n looks =
    let own : head_of graph (head_of graph id) ≡ head_of graph id =
    own_head truth graph (last_node root frames) (last_ask ask.All frames) (head_of graph id) (look.At n) looks tt in
    let at : (n ≡ head_of graph id) ⊎ (n ≡ last_node root frames) =
    subst (λ (l : Look). AtOf (last_node root frames) (head_of graph id) l) looks
    (at_looked truth (last_node root frames) (last_ask ask.All frames) (head_of graph id) (head_at graph id).kind (head_at graph id).args) in
    elim at [
      | inl same ↦ inl (sym (ap (head_of graph) same ∙ own))
      | inr same ↦ inr same
    ]

empty_node : (root : ℕ) → last_node root [] ≡ root
unfolding last_node
empty_node root = refl

-- where the look at the node to which the frames lead answers, they end there
pub kept_ends : (truth : ConId) (graph : Graph) (root : ℕ) (frames : List Frame) (id n : ℕ) → IsKept truth graph root frames id
    → resumed_shown truth graph root frames id ≡ look.At n → IsKept truth graph root (without_own n frames) n
kept_ends truth graph root frames id n kept looks =
    let at = at_from truth graph root frames id n looks in
    elim (ending frames) [
      | empty is ↦
          subst (λ (fs : List Frame). IsKept truth graph root (without_own n fs) n) (sym is)
          (none_ends truth graph root id n (subst (λ (fs : List Frame). IsKept truth graph root fs id) is kept)
          (subst (λ (x : ℕ). (head_of graph id ≡ head_of graph n) ⊎ (n ≡ x)) (ap (last_node root) is ∙ empty_node root) at))
      | ends rest frame is ↦
          subst (λ (fs : List Frame). IsKept truth graph root (without_own n fs) n) (sym is)
          (last_ends truth graph root rest frame id n (nat_eq frame.node n) refl (subst (λ (fs : List Frame). IsKept truth graph root fs id) is kept)
          (subst (λ (x : ℕ). (head_of graph id ≡ head_of graph n) ⊎ (n ≡ x)) (ap (last_node root) is ∙ node_push root rest frame) at))
    ]
