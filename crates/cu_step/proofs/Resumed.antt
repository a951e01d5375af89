-- A walk that goes on from the frames that were kept comes to what the walk from the root comes to.
use Rattle.std.proofs.Common.{◌≡◌, if◌then◌else◌, ℕ, zero, suc, ◌<◌, ◌≤◌, Bool, true, List, [], ◌∷◌, ◌++◌, None, Some, refl, ap, ap₂, sym, ◌∙◌, subst, length, map, take, drop, get_or, arith, length-append, length-take}
use Rattle.std.proofs.lemmas.List.{get_or_append_left, map-append, take-append-drop}
use Rattle.std.proofs.Math.Seq.{get_or-append_seam}
use Rattle.std.specs.List.{All, list_all}
use Rattle.cu_calculus.specs.declared.ConId.{ConId}
use Rattle.cu_calculus.specs.Value.{Value}
use Rattle.cu_machine.specs.declared.Kind.{Kind}
use Rattle.cu_machine.specs.declared.Kind.TheVariants as kind
use Rattle.cu_machine.specs.Graph.{Graph, followed, head_at, head_of, head_within, node_at}
use Rattle.cu_machine.specs.Need.{Need, Done, Extent, Outermost, Throughout, before, first, free_at, free_within, need_all, need_at, need_within, rest_at, unless_done, unless_free, unless_true, waiting}
use Rattle.cu_machine.specs.declared.Limits.{Limits}
use Rattle.cu_machine.specs.Next.{Answer, Reading, answered, is_above, read, spelled_all, too_large}
use Rattle.cu_machine.specs.Spell.{cells_of_all, ordinal, renumbered, spelled, spelled_at, spelled_within, variables_of_all}
use Rattle.cu_machine.specs.Validity.{ArgumentsThere, IsAcyclic}
use Rattle.cu_machine.proofs.Fuel.{is_low, left_true, low_enough}
use Rattle.cu_machine.proofs.Visits.{never_low}
use Rattle.cu_step.specs.declared.need.Ask.{Ask}
use Rattle.cu_step.specs.declared.need.Ask.TheVariants as ask
use Rattle.cu_step.specs.declared.need.Frame.{Frame}
use Rattle.cu_step.specs.declared.need.Look.{Look}
use Rattle.cu_step.specs.declared.need.Look.TheVariants as look
use Rattle.cu_step.specs.Inside.Kept.{IsKept, Leads, LooksTo, StandsAt, first_node, last_ask, last_node, resumed}
use Rattle.cu_step.specs.Inside.Walk.{AllFit, Fits, Found, IsAbove, IsBelow, IsPath, LookFits, Seen, also, asked, entered, height, at_once, is_inside, look_need, looked, looked_at, marked_need, met, need_in, needed_by, needed_outside, outcome, then_needed}
use Rattle.cu_step.proofs.Advances.{asked_at, asked_within}
use Rattle.cu_step.proofs.Finds.{Begun}
use Rattle.cu_step.proofs.Heights.{argument_lower, argument_there, head_lower}
use Rattle.cu_step.proofs.Looks.{shown_fits, shown_need}
use Rattle.cu_step.proofs.Needs.{before_done, first_append}
use Rattle.cu_step.proofs.Steps.{look_answers, look_met}

-- ---- what has the same head

need_same : (truth : ConId) (graph : Graph) (extent : Extent) (x y : ℕ) → head_of graph x ≡ head_of graph y
    → need_within (length graph) truth graph extent x ≡ need_within (length graph) truth graph extent y
unfolding need_within
need_same truth [] extent x y same = refl
need_same truth (node ∷ rest) extent x y same =
    let graph : Graph = node ∷ rest in
    ap (λ h. unless_done (need_at truth graph (need_within (length rest) truth graph) h (node_at graph h).kind (node_at graph h).args)
    (rest_at (need_within (length rest) truth graph) extent (node_at graph h).kind (node_at graph h).args)) same

free_same : (graph : Graph) (x y : ℕ) → head_of graph x ≡ head_of graph y → free_within (length graph) graph x ≡ free_within (length graph) graph y
unfolding free_within
free_same [] x y same = refl
free_same (node ∷ rest) x y same =
    let graph : Graph = node ∷ rest in
    ap (λ h. free_at (free_within (length rest) graph) h (node_at graph h).kind (node_at graph h).args) same

-- what is asked of a node asks the same of another with the same head
pub asked_head : (truth : ConId) (graph : Graph) (a : Ask) (by x y : ℕ) → head_of graph x ≡ head_of graph y → asked truth graph a by x ≡ asked truth graph a by y
unfolding asked
asked_head truth graph ask.Head by x y same = need_same truth graph Outermost x y same
asked_head truth graph ask.Bound by x y same =
    ap₂ (λ n h. unless_done n (unless_free h (node_at graph h).kind)) (need_same truth graph Outermost x y same) same
asked_head truth graph ask.Truth by x y same =
    ap₂ (λ n h. unless_done n (unless_true truth by h (node_at graph h).kind)) (need_same truth graph Outermost x y same) same
asked_head truth graph ask.All by x y same = need_same truth graph Throughout x y same
asked_head truth graph ask.Ground by x y same = ap waiting (free_same graph x y same)
asked_head truth graph ask.Inside by x y same = ap waiting (free_same graph x y same)

-- ---- a head is its own head

-- no Ind is followed from the node
abbrev IsOwn : Graph → ℕ → Type 0
IsOwn graph id = (follow : ℕ → ℕ) → followed follow id (node_at graph id).kind (node_at graph id).args ≡ id

followed_is : (P : ℕ → Type 0) (p : ℕ → Bool) (follow : ℕ → ℕ) (id : ℕ) (k : Kind) (args : List ℕ) → ((x : ℕ) → p x ≡ true → P (follow x))
    → list_all p args ≡ true → (((other : ℕ → ℕ) → followed other id k args ≡ id) → P id) → P (followed follow id k args)
followed_is P p follow id kind.Ind (other ∷ args) next low here = next other (left_true (p other) (list_all p args) low)
followed_is P p follow id kind.Ind [] next low here = here (λ other. refl)
followed_is P p follow id _ args next low here = here (λ other. refl)

head_own : (n : ℕ) (graph : Graph) (id : ℕ) → is_low n graph id ≡ true → IsOwn graph (head_within n graph id)
unfolding is_low head_within
head_own zero graph id low = never_low graph id low
head_own (suc n) graph id low =
    followed_is (IsOwn graph) (is_low n graph) (head_within n graph) id (node_at graph id).kind (node_at graph id).args
    (λ x. head_own n graph x) low (λ own. own)

own_head : (n : ℕ) (graph : Graph) (id : ℕ) → IsOwn graph id → head_within n graph id ≡ id
unfolding head_within
own_head zero graph id own = refl
own_head (suc n) graph id own = own (head_within n graph)

pub head_head : (graph : Graph) (x : ℕ) → ArgumentsThere graph → IsAcyclic graph → x < length graph → head_of graph (head_of graph x) ≡ head_of graph x
head_head graph x there acyclic below =
    own_head (length graph) graph (head_of graph x) (head_own (length graph) graph x (low_enough graph x there (acyclic x below) below))

-- ---- the argument at which a frame stands

at_place : (next : ℕ) (xs earlier : List ℕ) (x : ℕ) → take next xs ≡ earlier ++ x ∷ [] → (length earlier < length xs) × (get_or xs (length earlier) 0 ≡ x)
at_place next xs earlier x splits = (within, place)
  where
    long : length earlier < length (take next xs)
    long =
        let same : length (take next xs) ≡ length (earlier ++ x ∷ []) = ap length splits in
        let more = length-append earlier (x ∷ []) in
        omega arith

    within : length earlier < length xs
    within =
        let few = length-take next xs in
        let here = long in
        omega arith

    place : get_or xs (length earlier) 0 ≡ x
    place =
        ap (λ ys. get_or ys (length earlier) 0) (sym (take-append-drop next xs))
        ∙ get_or_append_left (take next xs) (drop next xs) 0 (length earlier) long
        ∙ ap (λ ys. get_or ys (length earlier) 0) splits
        ∙ get_or-append_seam earlier x [] 0

stands_low : (truth : ConId) (graph : Graph) (frame : Frame) (argument : ℕ) → ArgumentsThere graph → IsAcyclic graph → StandsAt truth graph frame argument
    → (argument < length graph) × (height graph argument < height graph frame.node)
stands_low truth graph frame argument there acyclic stands =
    let at = at_place frame.next (looked_at graph frame.node) stands.earlier argument stands.splits in
    let within = asked_within (node_at graph frame.node).kind (node_at graph frame.node).args (length stands.earlier) at.0 in
    let same : get_or (node_at graph frame.node).args (length stands.earlier) 0 ≡ argument =
    sym (asked_at (node_at graph frame.node).kind (node_at graph frame.node).args (length stands.earlier) at.0) ∙ at.1 in (
      subst (λ (x : ℕ). x < length graph) same (argument_there graph frame.node (length stands.earlier) there stands.there within),
      subst (λ (x : ℕ). height graph x < height graph frame.node) same (argument_lower graph frame.node (length stands.earlier) there acyclic stands.there within),
    )

-- what comes after needs that are all there
first_known : (f : ℕ → Need) (xs : List ℕ) (y : ℕ) → All (λ x. f x ≡ Done) xs → first (map f (xs ++ y ∷ [])) ≡ f y
first_known f [] y known = before_done (f y)
first_known f (x ∷ xs) y known =
    ap (λ n. before n (first (map f (xs ++ y ∷ [])))) (known 0 x (omega arith))
    ∙ first_known f xs y (λ k d below. known (suc k) d (omega arith))

stands_first : (truth : ConId) (graph : Graph) (frame : Frame) (argument : ℕ) → StandsAt truth graph frame argument
    → first (map (asked truth graph frame.ask frame.node) (take frame.next (looked_at graph frame.node))) ≡ asked truth graph frame.ask frame.node argument
stands_first truth graph frame argument stands =
    ap (λ xs. first (map (asked truth graph frame.ask frame.node) xs)) stands.splits
    ∙ first_known (asked truth graph frame.ask frame.node) stands.earlier argument stands.known

stands_out : (truth : ConId) (graph : Graph) (frame : Frame) (argument : ℕ) → StandsAt truth graph frame argument
    → needed_by truth graph frame (asked truth graph frame.ask frame.node argument) ≡ entered truth graph frame.node frame.ask
unfolding needed_by entered
stands_out truth graph frame argument stands =
    let f = asked truth graph frame.ask frame.node in
    let xs = looked_at graph frame.node in
    let owed = then_needed truth graph frame.node (node_at graph frame.node).kind frame.ask (node_at graph frame.node).args in
    ap (λ b. unless_done (also b (before (f argument) (first (map f (drop frame.next xs))))) owed) stands.waits
    ∙ ap (λ n. unless_done (before n (first (map f (drop frame.next xs)))) owed) (sym (stands_first truth graph frame argument stands))
    ∙ ap (λ n. unless_done n owed) (sym (first_append (map f (take frame.next xs)) (map f (drop frame.next xs))))
    ∙ ap (λ ys. unless_done (first ys) owed) (sym (map-append f (take frame.next xs) (drop frame.next xs)))
    ∙ ap (λ ys. unless_done (first (map f ys)) owed) (take-append-drop frame.next xs)

-- ---- the node to which a look comes

looks_to : (truth : ConId) (graph : Graph) (by : ℕ) (a : Ask) (start : ℕ) (frame : Frame) → LooksTo truth graph by a start frame
    → looked truth by a (head_of graph start) (head_at graph start).kind (head_at graph start).args ≡ look.Node frame.node frame.ask
looks_to truth graph by a start frame looks =
    ap (λ h. looked truth by a h (node_at graph h).kind (node_at graph h).args) looks.head ∙ looks.look

looks_fit : (truth : ConId) (graph : Graph) (by : ℕ) (a : Ask) (start : ℕ) (frame : Frame) → ArgumentsThere graph → IsAcyclic graph → start < length graph
    → LooksTo truth graph by a start frame → LookFits truth graph (height graph start) (look.Node frame.node frame.ask)
looks_fit truth graph by a start frame there acyclic below looks =
    subst (λ (l : Look). LookFits truth graph (height graph start) l) (looks_to truth graph by a start frame looks) (shown_fits truth graph by a start there acyclic below)

looks_entered : (truth : ConId) (graph : Graph) (by : ℕ) (a : Ask) (start : ℕ) (frame : Frame) → ArgumentsThere graph → IsAcyclic graph → start < length graph
    → LooksTo truth graph by a start frame → asked truth graph a by start ≡ entered truth graph frame.node frame.ask
looks_entered truth graph by a start frame there acyclic below looks =
    shown_need truth graph by a start there acyclic below ∙ ap (look_need truth graph) (looks_to truth graph by a start frame looks)

looks_need : (truth : ConId) (graph : Graph) (by : ℕ) (a : Ask) (start : ℕ) (frame : Frame) → ArgumentsThere graph → IsAcyclic graph → start < length graph
    → LooksTo truth graph by a start frame → asked truth graph a by start ≡ marked_need (is_inside frame.ask) truth graph frame.node
looks_need truth graph by a start frame there acyclic below looks =
    let fits = looks_fit truth graph by a start frame there acyclic below looks in
    looks_entered truth graph by a start frame there acyclic below looks ∙ sym fits.1

-- ---- what holds of all frames

-- what the last of these frames asks of the node `id`
abbrev last_need : ConId → Graph → ℕ → Ask → List Frame → ℕ → Need
last_need truth graph by a frames id = asked truth graph (last_ask a frames) (last_node by frames) id

lead_need : (truth : ConId) (graph : Graph) (by : ℕ) (a : Ask) (start : ℕ) (frames : List Frame) (id : ℕ) → ArgumentsThere graph → IsAcyclic graph → start < length graph
    → Leads truth graph by a start frames id → asked truth graph a by start ≡ need_in truth graph frames (last_need truth graph by a frames id)
unfolding Leads last_ask last_node
lead_need truth graph by a start [] id there acyclic below leads = asked_head truth graph a by start id leads
lead_need truth graph by a start (frame ∷ frames) id there acyclic below leads = looks_need truth graph by a start frame there acyclic below leads.0

lead_fits : (truth : ConId) (graph : Graph) (by : ℕ) (a : Ask) (start : ℕ) (frames : List Frame) (id : ℕ) → ArgumentsThere graph → IsAcyclic graph → start < length graph
    → Leads truth graph by a start frames id → AllFit truth graph Done frames (last_need truth graph by a frames id)
unfolding Leads AllFit last_ask last_node
lead_fits truth graph by a start [] id there acyclic below leads = tt
lead_fits truth graph by a start (frame ∷ frames) id there acyclic below leads =
    let stands : StandsAt truth graph frame leads.1 = leads.2 in
    let fits = looks_fit truth graph by a start frame there acyclic below leads.0 in
    let low = stands_low truth graph frame leads.1 there acyclic stands in (
      record {
        there = fits.0;
        next = stands.next;
        needs = fits.1;
        earlier = Done;
        seen = subst (λ (b : Bool). Seen Done b Done) (sym stands.waits) refl;
        is = stands_first truth graph frame leads.1 stands ∙ lead_need truth graph frame.node frame.ask leads.1 frames id there acyclic low.0 leads.3;
      },
      lead_fits truth graph frame.node frame.ask leads.1 frames id there acyclic low.0 leads.3,
    )

lead_out : (truth : ConId) (graph : Graph) (by : ℕ) (a : Ask) (start : ℕ) (frames : List Frame) (id : ℕ) → ArgumentsThere graph → IsAcyclic graph → start < length graph
    → Leads truth graph by a start frames id → needed_outside truth graph frames (last_need truth graph by a frames id) ≡ asked truth graph a by start
unfolding Leads needed_outside last_ask last_node
lead_out truth graph by a start [] id there acyclic below leads = sym (asked_head truth graph a by start id leads)
lead_out truth graph by a start (frame ∷ frames) id there acyclic below leads =
    let stands : StandsAt truth graph frame leads.1 = leads.2 in
    let low = stands_low truth graph frame leads.1 there acyclic stands in
    ap (needed_by truth graph frame) (lead_out truth graph frame.node frame.ask leads.1 frames id there acyclic low.0 leads.3)
    ∙ stands_out truth graph frame leads.1 stands
    ∙ sym (looks_entered truth graph by a start frame there acyclic below leads.0)

-- ---- heights

head_no_higher : (graph : Graph) (id : ℕ) → ArgumentsThere graph → IsAcyclic graph → id < length graph → (head_of graph id < length graph) × (height graph (head_of graph id) ≤ height graph id)
head_no_higher graph id there acyclic below = head_lower (length graph) graph id there acyclic below

-- the head at which the frames end is no higher than where they begin
lead_lower : (truth : ConId) (graph : Graph) (by : ℕ) (a : Ask) (start : ℕ) (frames : List Frame) (id : ℕ) → ArgumentsThere graph → IsAcyclic graph → start < length graph
    → Leads truth graph by a start frames id → height graph (head_of graph id) ≤ height graph start
unfolding Leads
lead_lower truth graph by a start [] id there acyclic below leads =
    subst (λ (h : ℕ). height graph h ≤ height graph start) leads (head_no_higher graph start there acyclic below).1
lead_lower truth graph by a start (frame ∷ frames) id there acyclic below leads =
    let fits = looks_fit truth graph by a start frame there acyclic below leads.0 in
    let low = stands_low truth graph frame leads.1 there acyclic leads.2 in
    let rest = lead_lower truth graph frame.node frame.ask leads.1 frames id there acyclic low.0 leads.3 in
    let less = low.1 in
    let high = fits.2 in
    omega arith

lead_below : (truth : ConId) (graph : Graph) (by : ℕ) (a : Ask) (start : ℕ) (frames : List Frame) (id other : ℕ) → ArgumentsThere graph → IsAcyclic graph → start < length graph
    → Leads truth graph by a start frames id → height graph other ≤ height graph (head_of graph id) → IsBelow graph other frames
unfolding Leads IsBelow
lead_below truth graph by a start [] id other there acyclic below leads lower = tt
lead_below truth graph by a start (frame ∷ frames) id other there acyclic below leads lower =
    let low = stands_low truth graph frame leads.1 there acyclic leads.2 in
    let rest = lead_lower truth graph frame.node frame.ask leads.1 frames id there acyclic low.0 leads.3 in
    let less = low.1 in
    (omega arith, lead_below truth graph frame.node frame.ask leads.1 frames id other there acyclic low.0 leads.3 lower)

lead_above : (truth : ConId) (graph : Graph) (by : ℕ) (a : Ask) (start : ℕ) (frames : List Frame) (id top : ℕ) → ArgumentsThere graph → IsAcyclic graph → start < length graph
    → Leads truth graph by a start frames id → height graph start < height graph top → IsAbove graph top frames
unfolding Leads IsAbove
lead_above truth graph by a start [] id top there acyclic below leads higher = tt
lead_above truth graph by a start (frame ∷ frames) id top there acyclic below leads higher =
    let fits = looks_fit truth graph by a start frame there acyclic below leads.0 in
    let low = stands_low truth graph frame leads.1 there acyclic leads.2 in
    let less = low.1 in
    let high = fits.2 in
    (omega arith, lead_above truth graph frame.node frame.ask leads.1 frames id top there acyclic low.0 leads.3 (omega arith))

lead_path : (truth : ConId) (graph : Graph) (by : ℕ) (a : Ask) (start : ℕ) (frames : List Frame) (id : ℕ) → ArgumentsThere graph → IsAcyclic graph → start < length graph
    → Leads truth graph by a start frames id → IsPath graph frames
unfolding Leads IsPath
lead_path truth graph by a start [] id there acyclic below leads = tt
lead_path truth graph by a start (frame ∷ frames) id there acyclic below leads =
    let low = stands_low truth graph frame leads.1 there acyclic leads.2 in (
      lead_above truth graph frame.node frame.ask leads.1 frames id frame.node there acyclic low.0 leads.3 low.1,
      lead_path truth graph frame.node frame.ask leads.1 frames id there acyclic low.0 leads.3,
    )

-- ---- the walk that goes on

-- what the walk that goes on from these frames asks of the node `id`
abbrev pub resumed_need : ConId → Graph → ℕ → List Frame → ℕ → Need
resumed_need truth graph root frames id = last_need truth graph root ask.All frames id

pub resumed_fits : (truth : ConId) (graph : Graph) (root : ℕ) (frames : List Frame) (id : ℕ) → ArgumentsThere graph → IsAcyclic graph → root < length graph
    → IsKept truth graph root frames id → Fits truth graph (resumed frames) (resumed_need truth graph root frames id)
resumed_fits truth graph root frames id there acyclic below kept = record {
  whole = λ other here. tt;
  inside = λ other here. tt;
  none = λ same. refl;
  fit = lead_fits truth graph root ask.All root frames id there acyclic below kept;
  path = lead_path truth graph root ask.All root frames id there acyclic below kept;
}

pub resumed_out : (truth : ConId) (graph : Graph) (root : ℕ) (frames : List Frame) (id : ℕ) → ArgumentsThere graph → IsAcyclic graph → root < length graph
    → IsKept truth graph root frames id → outcome truth graph (resumed frames) (resumed_need truth graph root frames id) ≡ need_all truth graph root
unfolding outcome asked
resumed_out truth graph root frames id there acyclic below kept = lead_out truth graph root ask.All root frames id there acyclic below kept

pub resumed_below : (truth : ConId) (graph : Graph) (root : ℕ) (frames : List Frame) (id : ℕ) → ArgumentsThere graph → IsAcyclic graph → root < length graph
    → IsKept truth graph root frames id → (other : ℕ) → height graph other ≤ height graph (head_of graph id) → IsBelow graph other frames
resumed_below truth graph root frames id there acyclic below kept other lower =
    lead_below truth graph root ask.All root frames id other there acyclic below kept lower

-- the look with which the walk goes on
abbrev pub resumed_shown : ConId → Graph → ℕ → List Frame → ℕ → Look
resumed_shown truth graph root frames id =
    looked truth (last_node root frames) (last_ask ask.All frames) (head_of graph id) (head_at graph id).kind (head_at graph id).args

pub resumed_look : (truth : ConId) (graph : Graph) (root : ℕ) (frames : List Frame) (id : ℕ) → ArgumentsThere graph → IsAcyclic graph → id < length graph
    → LookFits truth graph (height graph (head_of graph id)) (resumed_shown truth graph root frames id)
resumed_look truth graph root frames id there acyclic below =
    subst (λ (h : ℕ). LookFits truth graph (height graph (head_of graph id)) (looked truth (last_node root frames) (last_ask ask.All frames) h (node_at graph h).kind (node_at graph h).args))
    (head_head graph id there acyclic below)
    (shown_fits truth graph (last_node root frames) (last_ask ask.All frames) (head_of graph id) there acyclic (head_no_higher graph id there acyclic below).0)

-- the look shows what the node needs
pub resumed_asks : (truth : ConId) (graph : Graph) (root : ℕ) (frames : List Frame) (id : ℕ) → ArgumentsThere graph → IsAcyclic graph → id < length graph
    → resumed_need truth graph root frames id ≡ look_need truth graph (resumed_shown truth graph root frames id)
resumed_asks truth graph root frames id there acyclic below = shown_need truth graph (last_node root frames) (last_ask ask.All frames) id there acyclic below

-- where the look answers at once, it answers what the root needs
pub resumed_answer : (truth : ConId) (graph : Graph) (root : ℕ) (frames : List Frame) (id : ℕ) (l : Look) (n : Need) → ArgumentsThere graph → IsAcyclic graph → root < length graph
    → id < length graph → IsKept truth graph root frames id → l ≡ resumed_shown truth graph root frames id → Some n ≡ at_once l → n ≡ need_all truth graph root
resumed_answer truth graph root frames id l n there acyclic below here kept is answers =
    look_answers truth graph (resumed frames) (resumed_shown truth graph root frames id) n (answers ∙ ap at_once is)
    ∙ ap (outcome truth graph (resumed frames)) (sym (resumed_asks truth graph root frames id there acyclic here))
    ∙ resumed_out truth graph root frames id there acyclic below kept

-- and otherwise the walk has begun as one from the root
pub resumed_met : (truth : ConId) (graph : Graph) (f new : Found) (root : ℕ) (frames : List Frame) (id : ℕ) (l : Look) → ArgumentsThere graph → IsAcyclic graph → root < length graph
    → id < length graph → IsKept truth graph root frames id → f ≡ resumed frames → l ≡ resumed_shown truth graph root frames id → None ≡ at_once l → new ≡ met f l
    → Begun truth graph root new
resumed_met truth graph f new root frames id l there acyclic below here kept begins is answers now =
    let shows = resumed_asks truth graph root frames id there acyclic here in
    let result = look_met truth graph (resumed frames) (height graph (head_of graph id)) (resumed_shown truth graph root frames id)
    (subst (λ (n : Need). Fits truth graph (resumed frames) n) shows (resumed_fits truth graph root frames id there acyclic below kept))
    (resumed_look truth graph root frames id there acyclic here)
    (λ other low. resumed_below truth graph root frames id there acyclic below kept other low)
    (sym (answers ∙ ap at_once is)) in
    let begun : Begun truth graph root (met (resumed frames) (resumed_shown truth graph root frames id)) = (
      result.fits,
      result.comes ∙ ap (outcome truth graph (resumed frames)) (sym shows) ∙ resumed_out truth graph root frames id there acyclic below kept,
    ) in
    subst (λ (g : Found). Begun truth graph root g) (sym (now ∙ ap (λ g. met g l) begins ∙ ap (met (resumed frames)) is)) begun

-- ---- where an answer is read

spelled_same : (graph : Graph) (x y : ℕ) → head_of graph x ≡ head_of graph y → spelled graph x ≡ spelled graph y
unfolding spelled_within
spelled_same [] x y same = refl
spelled_same (node ∷ rest) x y same =
    let graph : Graph = node ∷ rest in
    ap (λ h. spelled_at (spelled_within (length rest) graph) h (node_at graph h).kind (node_at graph h).args) same

pub resumed_head : (truth : ConId) (graph : Graph) (root : ℕ) (frames : List Frame) (id : ℕ) → ArgumentsThere graph → IsAcyclic graph → root < length graph
    → IsKept truth graph root frames id → head_of graph root ≡ head_of graph (first_node id frames)
unfolding Leads first_node
resumed_head truth graph root [] id there acyclic below kept = kept
resumed_head truth graph root (frame ∷ frames) id there acyclic below kept =
    kept.0.head ∙ sym (ap (head_of graph) (sym kept.0.head) ∙ head_head graph root there acyclic below ∙ kept.0.head)

pub resumed_start : (truth : ConId) (graph : Graph) (root : ℕ) (frames : List Frame) (id : ℕ) → ArgumentsThere graph → IsAcyclic graph → root < length graph
    → id < length graph → IsKept truth graph root frames id → first_node id frames < length graph
unfolding Leads first_node
resumed_start truth graph root [] id there acyclic below here kept = here
resumed_start truth graph root (frame ∷ frames) id there acyclic below here kept =
    let fits = looks_fit truth graph root ask.All root frame there acyclic below kept.0 in
    fits.0

pub spelled_start : (graph : Graph) (root start : ℕ) (goals : List ℕ) → head_of graph root ≡ head_of graph start → spelled_all graph root goals ≡ spelled_all graph start goals
spelled_start graph root start [] same = ap (λ v. v ∷ []) (spelled_same graph root start same)
spelled_start graph root start (goal ∷ goals) same = ap (λ vs. spelled graph goal ∷ vs) (spelled_start graph root start goals same)

-- an answer, from what the goal variables and the root spell, and from what the root spells
abbrev read_of : Graph → List ℕ → List Value → Value → Reading
read_of graph goals values v =
    let number = ordinal (variables_of_all values) in
    record {
      bindings = map (λ goal. renumbered number (spelled graph goal)) goals;
      value = renumbered number v;
    }

pub read_start : (graph : Graph) (root start : ℕ) (goals : List ℕ) → head_of graph root ≡ head_of graph start → read graph root goals ≡ read graph start goals
read_start graph root start goals same = ap₂ (read_of graph goals) (spelled_start graph root start goals same) (spelled_same graph root start same)

-- an answer may be read from there
pub answered_start : (limits : Limits) (graph : Graph) (root start : ℕ) (goals : List ℕ) → head_of graph root ≡ head_of graph start
    → answered limits graph root goals ≡ answered limits graph start goals
answered_start limits graph root start goals same =
    ap₂ (λ (vs : List Value) (r : Reading). if is_above limits (cells_of_all vs) then too_large limits else Answer r) (spelled_start graph root start goals same)
    (read_start graph root start goals same)
