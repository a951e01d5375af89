-- The first and the last of several frames.
use Rattle.std.proofs.Common.{◌≡◌, ℕ, suc, ◌-◌, ◌<◌, ◌≤◌, true, false, List, [], ◌∷◌, refl, ap, ◌∙◌, length, take, get_or, nat_eq, arith}
use Rattle.cu_step.specs.declared.need.Ask.{Ask}
use Rattle.cu_step.specs.declared.need.Frame.{Frame}
use Rattle.cu_step.specs.Inside.Kept.{ends_with, first_node, last_ask, last_node, without_own}

-- no frame
pub nothing : (frames : List Frame) → length frames < 1 → frames ≡ []
nothing [] none = refl
nothing (frame ∷ frames) none = let no : ⊥ = omega arith in absurd no

pub first_none : (place : ℕ) (frames : List Frame) → length frames < 1 → place ≡ first_node place frames
unfolding first_node
first_none place [] none = refl
first_none place (frame ∷ frames) none = let no : ⊥ = omega arith in absurd no

pub first_some : (place : ℕ) (frames : List Frame) (other : Frame) → 1 ≤ length frames → (get_or frames 0 other).node ≡ first_node place frames
unfolding first_node
first_some place [] other some = let no : ⊥ = omega arith in absurd no
first_some place (frame ∷ frames) other some = refl

pub node_none : (by : ℕ) (frames : List Frame) → length frames < 1 → by ≡ last_node by frames
unfolding last_node
node_none by [] none = refl
node_none by (frame ∷ frames) none = let no : ⊥ = omega arith in absurd no

pub ask_none : (a : Ask) (frames : List Frame) → length frames < 1 → a ≡ last_ask a frames
unfolding last_ask
ask_none a [] none = refl
ask_none a (frame ∷ frames) none = let no : ⊥ = omega arith in absurd no

pub before_last : (frame other : Frame) (frames : List Frame) → length (frame ∷ other ∷ frames) - 1 ≡ suc (length (other ∷ frames) - 1)
before_last frame other frames = omega arith

pub node_some : (by : ℕ) (frames : List Frame) (default : Frame) → 1 ≤ length frames → (get_or frames (length frames - 1) default).node ≡ last_node by frames
unfolding last_node
node_some by [] default some = let no : ⊥ = omega arith in absurd no
node_some by (frame ∷ []) default some = refl
node_some by (frame ∷ other ∷ frames) default some =
    ap (λ i. (get_or (frame ∷ other ∷ frames) i default).node) (before_last frame other frames) ∙ node_some frame.node (other ∷ frames) default (omega arith)

pub ask_some : (a : Ask) (frames : List Frame) (default : Frame) → 1 ≤ length frames → (get_or frames (length frames - 1) default).ask ≡ last_ask a frames
unfolding last_ask
ask_some a [] default some = let no : ⊥ = omega arith in absurd no
ask_some a (frame ∷ []) default some = refl
ask_some a (frame ∷ other ∷ frames) default some =
    ap (λ i. (get_or (frame ∷ other ∷ frames) i default).ask) (before_last frame other frames) ∙ ask_some frame.ask (other ∷ frames) default (omega arith)

pub ends_none : (id : ℕ) (frames : List Frame) → length frames < 1 → false ≡ ends_with id frames
unfolding ends_with
ends_none id [] none = refl
ends_none id (frame ∷ frames) none = let no : ⊥ = omega arith in absurd no

pub ends_some : (id : ℕ) (frames : List Frame) (default : Frame) → 1 ≤ length frames → nat_eq (get_or frames (length frames - 1) default).node id ≡ ends_with id frames
unfolding ends_with
ends_some id [] default some = let no : ⊥ = omega arith in absurd no
ends_some id (frame ∷ []) default some = refl
ends_some id (frame ∷ other ∷ frames) default some =
    ap (λ i. nat_eq (get_or (frame ∷ other ∷ frames) i default).node id) (before_last frame other frames) ∙ ends_some id (other ∷ frames) default (omega arith)

-- the last frame is left, or not
pub own_left : (id : ℕ) (frames : List Frame) → ends_with id frames ≡ true → take (length frames - 1) frames ≡ without_own id frames
unfolding ends_with without_own
own_left id [] ends = refl
own_left id (frame ∷ []) ends = rw ends refl
own_left id (frame ∷ other ∷ frames) ends =
    ap (λ i. take i (frame ∷ other ∷ frames)) (before_last frame other frames) ∙ ap (λ (fs : List Frame). frame ∷ fs) (own_left id (other ∷ frames) ends)

pub own_kept : (id : ℕ) (frames : List Frame) → ends_with id frames ≡ false → frames ≡ without_own id frames
unfolding ends_with without_own
own_kept id [] ends = refl
own_kept id (frame ∷ []) ends = rw ends refl
own_kept id (frame ∷ other ∷ frames) ends = ap (λ (fs : List Frame). frame ∷ fs) (own_kept id (other ∷ frames) ends)
