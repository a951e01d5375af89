-- The walk that finds a node's need: what it stands for at each moment, and what makes it right.
use Rattle.std.specs.Prelude.{◌≡◌, ℕ, zero, suc, ◌+◌, ◌*◌, ◌-◌, ◌<◌, ◌≤◌, Bool, true, false, not, ◌&&◌, ◌||◌, Option, None, Some, List, [], ◌∷◌, ◌++◌, length, map, max, if◌then◌else◌, nat_eq, slice_index_or, slice_set, take, drop, replicate}
use Rattle.cu_calculus.specs.declared.ConId.{ConId}
use Rattle.cu_calculus.specs.declared.Mode.TheVariants.{Flex, Rigid}
use Rattle.cu_calculus.specs.declared.builtin.Primitive.TheVariants as prim
use Rattle.cu_calculus.specs.Match.{same_constructor}
use Rattle.cu_machine.specs.declared.Kind.{Kind}
use Rattle.cu_machine.specs.declared.Kind.TheVariants as kind
use Rattle.cu_machine.specs.Graph.{Graph, node_at}
use Rattle.cu_machine.specs.Need as need
use Rattle.cu_machine.specs.Need.{Extent, Outermost, Throughout, Need, before, first, free_at, free_within, need_at, need_within, rest_at, side, strict, unless_done, waiting}
use Rattle.cu_machine.specs.Places.{joined}
use Rattle.cu_step.specs.declared.need.Ask.{Ask}
use Rattle.cu_step.specs.declared.need.Ask.TheVariants as ask
use Rattle.cu_step.specs.declared.need.Frame.{Frame}
use Rattle.cu_step.specs.declared.need.Look.{Look}
use Rattle.cu_step.specs.declared.need.Look.TheVariants as look
use Rattle.cu_step.specs.declared.need.Mark.{Mark}
use Rattle.cu_step.specs.declared.need.Walk.{Walk}
use Rattle.cu_step.specs.declared.need.Mark.TheVariants as mark

-- ---- what is asked

-- the need of a node whose value is there and is to have no free variables in it: it waits for
-- those that are in it, if there are any
abbrev pub inside_of : Graph → ℕ → Need
inside_of graph id = waiting (free_within (length graph) graph id)

-- what an argument needs so that what the node `id` asks of it is there
unfoldable pub asked : ConId → Graph → Ask → ℕ → ℕ → Need
asked truth graph ask.Head id argument = need_within (length graph) truth graph Outermost argument
asked truth graph ask.Bound id argument =
    strict graph (need_within (length graph) truth graph) argument
asked truth graph ask.Truth id argument =
    side truth graph (need_within (length graph) truth graph) id argument
asked truth graph ask.All id argument = need_within (length graph) truth graph Throughout argument
asked truth graph ask.Ground id argument = inside_of graph argument
asked truth graph ask.Inside id argument = inside_of graph argument

-- the arguments of which a node of this kind asks something
abbrev pub asked_of : Kind → List ℕ → List ℕ
asked_of kind.Apply (function ∷ args) = function ∷ []
asked_of (kind.Case mode e) (scrutinee ∷ values) = scrutinee ∷ []
asked_of _ args = args

-- the arguments of which a node asks something
abbrev pub looked_at : Graph → ℕ → List ℕ
looked_at graph id = asked_of (node_at graph id).kind (node_at graph id).args

-- what a node needs where all that it asks of its arguments is there
abbrev pub then_needed : ConId → Graph → ℕ → Kind → Ask → List ℕ → Need
then_needed truth graph id (kind.Cons c) a args = need.Done
then_needed truth graph id (kind.Part h) a args = need.Done
then_needed truth graph id (kind.SetCall f) ask.All args =
    unless_done (first (map (asked truth graph ask.Ground id) args)) (need.At id)
then_needed truth graph id _ a args = need.At id

-- what a node of this kind and with these arguments needs, where it asks this of its arguments
abbrev pub entered_as : ConId → Graph → ℕ → Ask → Kind → List ℕ → Need
entered_as truth graph id a k args =
    unless_done (first (map (asked truth graph a id) (asked_of k args)))
    (then_needed truth graph id k a args)

-- what a node needs, where it asks this of its arguments
unfoldable pub entered : ConId → Graph → ℕ → Ask → Need
entered truth graph id a =
    entered_as truth graph id a (node_at graph id).kind (node_at graph id).args

-- what a head of this kind and with these arguments needs so that its whole value is there
abbrev pub whole_as : ConId → Graph → ℕ → Kind → List ℕ → Need
whole_as truth graph id k args =
    unless_done (need_at truth graph (need_within (length graph) truth graph) id k args)
    (rest_at (need_within (length graph) truth graph) Throughout k args)

-- what a head needs so that its whole value is there
unfoldable pub whole_need : ConId → Graph → ℕ → Need
whole_need truth graph id = whole_as truth graph id (node_at graph id).kind (node_at graph id).args

-- what a head needs so that no free variables are in its value
unfoldable pub inside_need : Graph → ℕ → Need
inside_need graph id =
    waiting (free_at (free_within (length graph) graph) id (node_at graph id).kind
    (node_at graph id).args)

-- whether what is asked is about free variables inside a value
abbrev pub is_inside : Ask → Bool
is_inside ask.Inside = true
is_inside _ = false

-- what a head needs so that no free variables are in its value, or so that its whole value is there
abbrev pub marked_need : Bool → ConId → Graph → ℕ → Need
marked_need true truth graph id = inside_need graph id
marked_need false truth graph id = whole_need truth graph id

-- ---- what is found

-- the need that a look shows
abbrev pub look_need : ConId → Graph → Look → Need
look_need truth graph look.There = need.Done
look_need truth graph look.Stuck = need.Wait []
look_need truth graph (look.Free id) = need.Wait (id ∷ [])
look_need truth graph (look.Node id a) = entered truth graph id a
look_need truth graph look.Dead = need.Dead
look_need truth graph (look.At id) = need.At id

-- a need, where something before it may have waited
abbrev pub also : Bool → Need → Need
also false n = n
also true need.Done = need.Wait []
also true (need.Wait ids) = need.Wait ids
also true need.Dead = need.Dead
also true (need.At id) = need.At id

-- what the node of a frame needs, where the argument at which it stands needs n
unfoldable pub needed_by : ConId → Graph → Frame → Need → Need
needed_by truth graph frame n =
    unless_done
    (also frame.waits
    (before n
    (first (map (asked truth graph frame.ask frame.node)
    (drop frame.next (looked_at graph frame.node))))))
    (then_needed truth graph frame.node (node_at graph frame.node).kind frame.ask
    (node_at graph frame.node).args)

-- what the node of the outermost frame needs, where the argument at which the innermost frame
-- stands needs n
unfoldable pub needed_outside : ConId → Graph → List Frame → Need → Need
needed_outside truth graph [] n = n
needed_outside truth graph (frame ∷ frames) n =
    needed_by truth graph frame (needed_outside truth graph frames n)

-- the need that was found so far: none, or to wait for these variables
abbrev pub told : Bool → List ℕ → Need
told false ids = need.Done
told true ids = need.Wait ids

-- ---- what fits

-- the greatest height of several nodes
unfoldable pub highest : (ℕ → ℕ) → List ℕ → ℕ
highest f [] = 0
highest f (id ∷ ids) = max (f id) (highest f ids)

-- the length of the longest path from a node; the first number bounds how many nodes are visited
unfoldable pub height_within : ℕ → Graph → ℕ → ℕ
height_within zero graph id = 0
height_within (suc visits) graph id =
    suc (highest (height_within visits graph) (node_at graph id).args)

-- the length of the longest path from a node, in a graph without cycles
abbrev pub height : Graph → ℕ → ℕ
height graph id = height_within (length graph) graph id

-- The need waits, and for no variable that isn't among those found so far.
pub record Waited (so_far : Need) (n : Need) : Type 0 where
  pub ids : List ℕ
  pub is : n ≡ need.Wait ids
  pub known : before so_far n ≡ so_far

-- What was seen of a need is right: whether it waits.
abbrev pub Seen : Need → Bool → Need → Type 0
Seen so_far false n = n ≡ need.Done
Seen so_far true n = Waited so_far n

-- What a mark says of a node's need is right. A node that is being looked at is held to wait.
abbrev pub MarkFits : Need → Bool → Mark → Need → Type 0
MarkFits so_far is_looked_at mark.Unseen n = Unit {0}
MarkFits so_far is_looked_at mark.There n = n ≡ need.Done
MarkFits so_far is_looked_at mark.Waits n = is_looked_at ≡ false → Waited so_far n

-- the mark of a node; a node without a mark is unseen
abbrev pub mark_at : List Mark → ℕ → Mark
mark_at marks id = slice_index_or marks id mark.Unseen

-- whether what is asked is about free variables inside a value, or else about the whole of it
abbrev pub regards : Bool → Ask → Bool
regards true a = is_inside a
regards false a = not (is_inside a)

-- whether a node is being looked at, with regard to free variables in its value or to the whole of
-- it
unfoldable pub is_open : Bool → ℕ → List Frame → Bool
is_open inside id [] = false
is_open inside id (frame ∷ frames) = (nat_eq frame.node id && regards inside frame.ask)
    || is_open inside id frames

-- The node is lower than each of those that are being looked at.
unfoldable pub IsBelow : Graph → ℕ → List Frame → Type 0
IsBelow graph id [] = Unit {0}
IsBelow graph id (frame ∷ frames) = (height graph id < height graph frame.node)
    × IsBelow graph id frames

-- The node is higher than each of those that are being looked at.
unfoldable pub IsAbove : Graph → ℕ → List Frame → Type 0
IsAbove graph id [] = Unit {0}
IsAbove graph id (frame ∷ frames) = (height graph frame.node < height graph id)
    × IsAbove graph id frames

-- Each of the nodes that are being looked at is higher than those after it.
unfoldable pub IsPath : Graph → List Frame → Type 0
IsPath graph [] = Unit {0}
IsPath graph (frame ∷ frames) = IsAbove graph frame.node frames × IsPath graph frames

-- A frame is right where the last argument that was looked at needs n: what the arguments before it
-- need was seen.
pub record FrameFits (truth : ConId) (graph : Graph) (told_so_far : Need) (frame : Frame)
    (n : Need) : Type 0 where
  pub there : frame.node < length graph
  pub next : frame.next ≤ length (looked_at graph frame.node)
  pub needs : marked_need (is_inside frame.ask) truth graph frame.node
      ≡ entered truth graph frame.node frame.ask
  pub earlier : Need
  pub seen : Seen told_so_far frame.waits earlier
  pub is : first (map (asked truth graph frame.ask frame.node)
      (take frame.next (looked_at graph frame.node))) ≡ before earlier n

-- what the node of the outermost of these frames needs, or n where there are none
abbrev pub need_in : ConId → Graph → List Frame → Need → Need
need_in truth graph [] n = n
need_in truth graph (frame ∷ frames) n = marked_need (is_inside frame.ask) truth graph frame.node

-- All frames are right, where the argument at which the innermost one stands needs n.
unfoldable pub AllFit : ConId → Graph → Need → List Frame → Need → Type 0
AllFit truth graph told_so_far [] n = Unit {0}
AllFit truth graph told_so_far (frame ∷ frames) n =
    FrameFits truth graph told_so_far frame (need_in truth graph frames n)
    × AllFit truth graph told_so_far frames n

-- what a walk has found: its frames, its marks, and the variables that are waited for
pub record Found : Type 0 where
  pub frames : List Frame
  pub whole : List Mark
  pub inside : List Mark
  pub waits : Bool
  pub ids : List ℕ

-- what a walk of the code has found
abbrev pub found : Walk → Found
found walk = record {
  frames = walk.frames.items;
  whole = walk.whole.items;
  inside = walk.inside.items;
  waits = walk.waits;
  ids = walk.ids.keys;
}

-- the need that a walk has found so far
abbrev pub so_far : Found → Need
so_far f = told f.waits f.ids

-- What a walk has found is right, if the argument at which its innermost frame stands has the need
-- n.
pub record Fits (truth : ConId) (graph : Graph) (f : Found) (n : Need) : Type 0 where
  pub whole : (id : ℕ) → id < length graph
      → MarkFits (so_far f) (is_open false id f.frames) (mark_at f.whole id)
      (whole_need truth graph id)
  pub inside : (id : ℕ) → id < length graph
      → MarkFits (so_far f) (is_open true id f.frames) (mark_at f.inside id) (inside_need graph id)
  pub none : f.waits ≡ false → f.ids ≡ []
  pub fit : AllFit truth graph (so_far f) f.frames n
  pub path : IsPath graph f.frames

-- the need that a walk comes to, if the argument at which its innermost frame stands has the need n
unfoldable pub outcome : ConId → Graph → Found → Need → Need
outcome truth graph f n = before (so_far f) (needed_outside truth graph f.frames n)

-- ---- what the walk does

-- frames of which the innermost one's node waits
unfoldable pub flagged : List Frame → List Frame
flagged [] = []
flagged (frame ∷ []) = record frame { waits = true } ∷ []
flagged (frame ∷ other ∷ frames) = frame ∷ flagged (other ∷ frames)

-- what was found, after the innermost node was found to wait
abbrev pub waited : Found → Found
waited f = record f { waits = true; frames = flagged f.frames }

-- what was found, after the innermost node was found to wait for a variable
abbrev pub waited_for : Found → ℕ → Found
waited_for f id = waited (record f { ids = joined f.ids (id ∷ []) })

-- what was found, with one more frame inside
abbrev pub with_frame : Found → Frame → Found
with_frame f frame = record f { frames = f.frames ++ frame ∷ [] }

-- what was found, without the innermost frame
abbrev pub outside_of : Found → Found
outside_of f = record f { frames = take (length f.frames - 1) f.frames }

-- what was found, with this mark of a node
abbrev pub with_mark : Found → Bool → ℕ → Mark → Found
with_mark f true id m = record f { inside = slice_set f.inside id m }
with_mark f false id m = record f { whole = slice_set f.whole id m }

-- the mark of a node, with regard to free variables in its value or to the whole of it
abbrev pub mark_of : Found → Bool → ℕ → Mark
mark_of f true id = mark_at f.inside id
mark_of f false id = mark_at f.whole id

-- a frame for a node none of whose arguments was looked at
abbrev pub fresh : ℕ → Ask → Frame
fresh id a = record { node = id; ask = a; next = 0; waits = false }

-- what was found, after a look showed a node with this mark that asks something of its arguments
abbrev pub entered_at : Found → ℕ → Ask → Mark → Found
entered_at f id a mark.There = f
entered_at f id a mark.Waits = waited f
entered_at f id a mark.Unseen = with_frame (with_mark f (is_inside a) id mark.Waits) (fresh id a)

-- what was found, after a look
abbrev pub met : Found → Look → Found
met f look.Stuck = waited f
met f (look.Free id) = waited_for f id
met f (look.Node id a) = entered_at f id a (mark_of f (is_inside a) id)
met f _ = f

-- the need that a look answers at once, where it does
abbrev pub at_once : Look → Option Need
at_once look.Dead = Some need.Dead
at_once (look.At id) = Some (need.At id)
at_once _ = None

-- what was found, after a frame is left none of whose node's arguments waits
abbrev pub left_there : Found → Frame → Kind → Ask → Found
left_there f frame (kind.Cons c) a = with_mark f (is_inside a) frame.node mark.There
left_there f frame (kind.Part h) a = with_mark f (is_inside a) frame.node mark.There
left_there f frame (kind.SetCall g) ask.All = with_frame f (fresh frame.node ask.Ground)
left_there f frame _ a = f

-- the need that is answered where a frame is left none of whose node's arguments waits
abbrev pub left_need : ℕ → Kind → Ask → Option Need
left_need id (kind.Cons c) a = None
left_need id (kind.Part h) a = None
left_need id (kind.SetCall g) ask.All = None
left_need id _ a = Some (need.At id)

-- what was found, after a frame is left
abbrev pub left : Found → Frame → Kind → Bool → Found
left f frame k true = waited f
left f frame k false = left_there f frame k frame.ask

-- the need that is answered where a frame is left
abbrev pub left_answer : Frame → Kind → Bool → Option Need
left_answer frame k true = None
left_answer frame k false = left_need frame.node k frame.ask

-- what was found, where marks are kept from now on
abbrev pub unseen_all : Found → ℕ → Found
unseen_all f count =
    record f { whole = replicate count mark.Unseen; inside = replicate count mark.Unseen }

-- ---- what fits a look

-- What a look shows is right, at a node no higher than `top`.
abbrev pub LookFits : ConId → Graph → ℕ → Look → Type 0
LookFits truth graph top (look.Free id) = (id < length graph)
    × (inside_need graph id ≡ need.Wait (id ∷ [])) × (height graph id ≤ top)
LookFits truth graph top (look.Node id a) =
    (id < length graph) × (marked_need (is_inside a) truth graph id ≡ entered truth graph id a)
    × (height graph id ≤ top)
LookFits truth graph top _ = Unit {0}

-- ---- how long it takes

-- The looks that unseen nodes still take: each is looked at once with regard to its whole value and
-- once with regard to free variables in it, and its arguments at most twice each time.
unfoldable pub unseen_cost : Graph → List Mark → ℕ
unseen_cost (node ∷ graph) (mark.Unseen ∷ marks) =
    2 * length node.args + 3 + unseen_cost graph marks
unseen_cost (node ∷ graph) (_ ∷ marks) = unseen_cost graph marks
unseen_cost _ _ = 0

-- the looks that a frame takes again at n arguments, where free variables in them are asked for
-- after their whole values
abbrev pub again_cost : Ask → ℕ → ℕ
again_cost ask.All n = n + 1
again_cost _ n = 0

-- the looks that a frame still takes
unfoldable pub frame_cost : Graph → Frame → ℕ
frame_cost graph frame =
    length (looked_at graph frame.node) - frame.next + again_cost frame.ask
    (length (looked_at graph frame.node)) + 1

-- the looks that all frames still take
unfoldable pub frames_cost : Graph → List Frame → ℕ
frames_cost graph [] = 0
frames_cost graph (frame ∷ frames) = frame_cost graph frame + frames_cost graph frames

-- the looks that a walk still takes
unfoldable pub cost : Graph → Found → ℕ
cost graph f = unseen_cost graph f.whole + unseen_cost graph f.inside + frames_cost graph f.frames

-- There is a mark for each node of the graph.
pub record Marked (graph : Graph) (f : Found) : Type 0 where
  pub whole : length f.whole ≡ length graph
  pub inside : length f.inside ≡ length graph

-- The walk goes on: the need that it comes to stays the same, and where marks are kept, some of the
-- cost is paid.
pub record Goes (truth : ConId) (graph : Graph) (old new : Found) : Type 0 where
  pub fits : Fits truth graph new need.Done
  pub outcome : outcome truth graph new need.Done ≡ outcome truth graph old need.Done
  pub marked : Marked graph old → Marked graph new
  pub cost : Marked graph old → cost graph new < cost graph old

-- ---- what a look shows, by a head's kind

-- a look at a node that asks something of its first argument
abbrev pub look_first : ℕ → Ask → List ℕ → Look
look_first id a [] = look.Stuck
look_first id a (argument ∷ args) = look.Node id a

-- a look at a head that is to be there
abbrev pub look_head : ℕ → Kind → List ℕ → Look
look_head id (kind.Cons c) args = look.There
look_head id (kind.Lit l) args = look.There
look_head id (kind.Part h) args = look.There
look_head id kind.Free args = look.There
look_head id (kind.Call f) args = look.At id
look_head id kind.Or args = look.At id
look_head id (kind.Prim prim.Unify) args = look.Node id ask.Head
look_head id (kind.Prim prim.And) args = look.Node id ask.Truth
look_head id (kind.Prim operation) args = look.Node id ask.Bound
look_head id kind.Apply args = look_first id ask.Bound args
look_head id (kind.Case Rigid e) args = look_first id ask.Bound args
look_head id (kind.Case Flex e) args = look_first id ask.Head args
look_head id (kind.SetCall f) args = look.Node id ask.All
look_head id kind.Fail args = look.Dead
look_head id _ args = look.Stuck

-- a look at a head that is to be there and bound
abbrev pub look_bound : ℕ → Kind → List ℕ → Look
look_bound id kind.Free args = look.Free id
look_bound id k args = look_head id k args

-- a look at a side of the conjunction `by`, which is to be True
abbrev pub look_true : ConId → ℕ → ℕ → Kind → List ℕ → Look
look_true truth by id (kind.Cons c) args = if same_constructor c truth then look.There
    else look.At by
look_true truth by id (kind.Lit l) args = look.At by
look_true truth by id (kind.Part h) args = look.At by
look_true truth by id k args = look_bound id k args

-- a look at a head whose whole value is to be there
abbrev pub look_all : ℕ → Kind → List ℕ → Look
look_all id (kind.Cons c) args = look.Node id ask.All
look_all id (kind.Part h) args = look.Node id ask.All
look_all id k args = look_head id k args

-- a look at a head that is to have no free variables in its value
abbrev pub look_inside : ℕ → Kind → Look
look_inside id (kind.Cons c) = look.Node id ask.Inside
look_inside id (kind.Part h) = look.Node id ask.Inside
look_inside id kind.Free = look.Free id
look_inside id _ = look.There

-- a look at a head of which this is asked
abbrev pub looked : ConId → ℕ → Ask → ℕ → Kind → List ℕ → Look
looked truth by ask.Head id k args = look_head id k args
looked truth by ask.Bound id k args = look_bound id k args
looked truth by ask.Truth id k args = look_true truth by id k args
looked truth by ask.All id k args = look_all id k args
looked truth by ask.Ground id k args = look_inside id k
looked truth by ask.Inside id k args = look_inside id k
