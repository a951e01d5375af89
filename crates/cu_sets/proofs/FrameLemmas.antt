-- Steps of searches within each other: what is left of them comes to the step of the whole.
use Rattle.std.proofs.Common.{◌≡◌, ℕ, suc, ◌+◌, ◌<◌, true, false, List, [], ◌∷◌, ◌++◌, Option, None, Some, IfNone, IfSome, length, map, refl, ap, sym, ◌∙◌, subst, arith, append-nil}
use Rattle.std.specs.List.{All}
use Rattle.std.proofs.lemmas.List.Elements.{All-cons, All-pop, All-push}
use Rattle.cu_calculus.specs.Code.{Code}
use Rattle.cu_calculus.specs.Value.{Value}
use Rattle.cu_graph.specs.declared.store.Store.{Ghosts}
use Rattle.cu_machine.specs.declared.Limits.{Limits}
use Rattle.cu_machine.specs.Graph.{Graph}
use Rattle.cu_machine.specs.Next.{LevelEvent, Blocked, Halts, Next, On, after_level, is_above, next, searched, stepped, too_large, with_outcome}
use Rattle.cu_machine.specs.State.{Branch, NoState, Running, State, States, states_of}
use Rattle.cu_machine.specs.Validity.{AllValid, IsValid}
use Rattle.cu_step.specs.declared.branch.BranchOver.{BranchOver}
use Rattle.cu_step.specs.declared.focus.Focus.{Focus}
use Rattle.cu_step.specs.declared.Outcome.{Outcome}
use Rattle.cu_step.specs.Outcome.{next_of, state_of}
use Rattle.cu_sets.specs.declared.level.Ending.{Ending}
use Rattle.cu_sets.specs.declared.level.Ending.TheVariants as ending
use Rattle.cu_sets.specs.declared.searches.Frame.{Frame}
use Rattle.cu_sets.specs.declared.searches.Turn.{Turn}
use Rattle.cu_sets.specs.declared.searches.Turn.TheVariants as turn
use Rattle.cu_sets.specs.Inside.Frames.{FrameIsValid, TurnIsValid, all_resumed, frame_size, frames_size, resumed, turn_next, turn_size}
use Rattle.cu_sets.specs.Inside.Levels.{Level, before, ended}
use Rattle.cu_sets.specs.Inside.Sizes.{size}

-- ---- what calls answer

pub some_ending : (r : Option Ending) (e : Ending) (P : Ending → Type 0) → r ≡ Some e → IfSome r P → P e
some_ending r e P is here = subst (λ (o : Option Ending). IfSome o P) is here

pub no_ending : (r : Option Ending) (P : Type 0) → r ≡ None → IfNone r P → P
no_ending r P is here = subst (λ (o : Option Ending). IfNone o P) is here

-- nothing is left where no more comes
pub nothing_left : {A : Type 0} (xs : List A) (n : ℕ) → n ≡ 0 → n ≡ length xs → xs ≡ []
nothing_left [] n none counts = refl
nothing_left (x ∷ xs) n none counts = let no : ⊥ = omega arith in absurd no

-- ---- valid branches

module _ {B : Type 0} (state : B → State) (program : Code) where
  level_valid : (branches : List B) → AllValid program (states_of (map state branches)) → All (λ branch. IsValid program (state branch)) branches
  unfolding IsValid
  level_valid [] valid = λ k d below. let no : ⊥ = omega arith in absurd no
  level_valid (branch ∷ branches) valid = All-cons (λ one. IsValid program (state one)) branch branches valid.0 (level_valid branches valid.1)

  -- of some branches, the first and the others
  pub first_valid : (branches left : List B) (branch : B) → branches ≡ branch ∷ left → All (λ one. IsValid program (state one)) branches → IsValid program (state branch)
  first_valid branches left branch is valid = (subst (λ bs. All (λ one. IsValid program (state one)) bs) is valid) 0 branch (omega arith)

  pub others_valid : (branches left : List B) (branch : B) → branches ≡ branch ∷ left → All (λ one. IsValid program (state one)) branches → All (λ one. IsValid program (state one)) left
  others_valid branches left branch is valid =
      let all = subst (λ bs. All (λ one. IsValid program (state one)) bs) is valid in
      λ k d below. all (suc k) d (omega arith)

  pub running_valid : (graph : Graph) (root : ℕ) (goals : List ℕ) (id : ℕ) (found : List Value) (branches : List B)
      → IsValid program (Branch graph root goals (Running id found (states_of (map state branches)))) → All (λ branch. IsValid program (state branch)) branches
  unfolding IsValid
  running_valid graph root goals id found branches valid = level_valid branches valid.1.1

pub call_there : (program : Code) (graph : Graph) (root : ℕ) (goals : List ℕ) (id : ℕ) (found : List Value) (level : States)
    → IsValid program (Branch graph root goals (Running id found level)) → id < length graph
unfolding IsValid
call_there program graph root goals id found level valid = valid.1.0.there

-- ---- a level

before_ended : (a : Level) (e : Ending) → before a (ended e) ≡ ended e
before_ended a ending.Blocked = refl
before_ended a (ending.Halted stop) = refl

before_none : (a : Level) → before a (On [] []) ≡ On a.values a.states
before_none a = ap (λ (vs : List Value). On vs (a.states ++ [])) (append-nil a.values) ∙ ap (On a.values) (append-nil a.states)

before_all : (a : Level) (e : LevelEvent) → a ≡ record { values = []; states = [] } → before a e ≡ e
before_all a e none = ap (λ (l : Level). before l e) none ∙ empty e
  where
    empty : (e : LevelEvent) → before (record { values = []; states = [] }) e ≡ e
    empty (On values states) = refl
    empty Blocked = refl
    empty (Halts stop) = refl

-- an outcome that ends the search does so whatever is left of the level
pub gives_ending : (limits : Limits) (graph : Graph) (root : ℕ) (goals : List ℕ) (id : ℕ) (found : List Value) (after : Level) (event : Next) (e : Ending) (others : LevelEvent) (result : Next)
    → ((others : LevelEvent) → with_outcome event others ≡ ended e) → result ≡ after_level limits graph root goals id found (ended e)
    → result ≡ after_level limits graph root goals id found (before after (with_outcome event others))
gives_ending limits graph root goals id found after event e others result ends is =
    is ∙ sym (ap (after_level limits graph root goals id found) (ap (before after) (ends others) ∙ before_ended after e))

-- ---- the first branch of a level

module _ {B : Type 0} (state : B → State) (program : Code) (limits : Limits) where
  first_stepped : (branches left : List B) (branch : B) → branches ≡ branch ∷ left
      → with_outcome (next program limits (state branch)) (stepped program limits (states_of (map state left))) ≡ stepped program limits (states_of (map state branches))
  unfolding next stepped
  first_stepped branches left branch is = ap (λ bs. stepped program limits (states_of (map state bs))) (sym is)

  none_stepped : (branches : List B) → branches ≡ [] → stepped program limits (states_of (map state branches)) ≡ On [] []
  unfolding next stepped
  none_stepped branches none = ap (λ bs. stepped program limits (states_of (map state bs))) none

  module _ (graph : Graph) (root : ℕ) (goals : List ℕ) (id : ℕ) (found : List Value) where
    running_large : (level : States) → is_above limits (length graph) ≡ true → next program limits (Branch graph root goals (Running id found level)) ≡ too_large limits
    unfolding next stepped
    running_large level above = rw above refl

    running_small : (level : States) → is_above limits (length graph) ≡ false
        → next program limits (Branch graph root goals (Running id found level)) ≡ searched program limits graph root goals id found level (stepped program limits level)
    unfolding next stepped
    running_small level within = rw within refl

    pub enters_large : (branches : List B) (event : Next) → is_above limits (length graph) ≡ true → event ≡ too_large limits
        → event ≡ next program limits (Branch graph root goals (Running id found (states_of (map state branches))))
    enters_large branches event above is = is ∙ sym (running_large (states_of (map state branches)) above)

    pub enters_none : (branches : List B) (event : Next) → is_above limits (length graph) ≡ false → branches ≡ []
        → event ≡ searched program limits graph root goals id found NoState (On [] [])
        → event ≡ next program limits (Branch graph root goals (Running id found (states_of (map state branches))))
    enters_none branches event within none is =
        subst (λ bs. event ≡ next program limits (Branch graph root goals (Running id found (states_of (map state bs))))) (sym none) (is ∙ empty)
      where
        empty : searched program limits graph root goals id found NoState (On [] []) ≡ next program limits (Branch graph root goals (Running id found NoState))
        empty = sym (running_small NoState within)

    pub enters_first : (branches left : List B) (branch : B) (after : Level) → is_above limits (length graph) ≡ false → branches ≡ branch ∷ left → after ≡ record { values = []; states = [] }
        → after_level limits graph root goals id found (before after (with_outcome (next program limits (state branch)) (stepped program limits (states_of (map state left)))))
        ≡ next program limits (Branch graph root goals (Running id found (states_of (map state branches))))
    enters_first branches left branch after within is none =
        ap (after_level limits graph root goals id found) (before_all after (with_outcome (next program limits (state branch)) (stepped program limits (states_of (map state left)))) none ∙ first_stepped branches left branch is)
        ∙ subst (λ bs. after_level limits graph root goals id found (stepped program limits (states_of (map state bs))) ≡ next program limits (Branch graph root goals (Running id found (states_of (map state bs))))) (sym is)
        (sym (running_small (states_of (map state (branch ∷ left))) within))

    -- what becomes of a search's branch once this becomes of the branch at hand

    pub gives_all : (old new : Level) (event result : Next) (left : List B) → left ≡ [] → ((others : LevelEvent) → before old (with_outcome event others) ≡ before new others)
        → result ≡ after_level limits graph root goals id found (On new.values new.states)
        → result ≡ after_level limits graph root goals id found (before old (with_outcome event (stepped program limits (states_of (map state left)))))
    gives_all old new event result left none adds is =
        is ∙ sym (ap (after_level limits graph root goals id found) (adds (stepped program limits (states_of (map state left))) ∙ ap (before new) (none_stepped left none) ∙ before_none new))

    pub gives_next : (old new : Level) (event : Next) (branches left : List B) (branch : B) → branches ≡ branch ∷ left → ((others : LevelEvent) → before old (with_outcome event others) ≡ before new others)
        → after_level limits graph root goals id found (before new (with_outcome (next program limits (state branch)) (stepped program limits (states_of (map state left)))))
        ≡ after_level limits graph root goals id found (before old (with_outcome event (stepped program limits (states_of (map state branches)))))
    gives_next old new event branches left branch is adds =
        ap (after_level limits graph root goals id found) (ap (before new) (first_stepped branches left branch is) ∙ sym (adds (stepped program limits (states_of (map state branches)))))

-- ---- searches within each other

module _ {S : Type 0} {G : Ghosts S} (content : S → Graph) where
  pub frames_size-push : (frames : List (Frame S G)) (frame : Frame S G) → frames_size content (frames ++ frame ∷ []) ≡ frames_size content frames + frame_size content frame
  frames_size-push [] frame = omega arith
  frames_size-push (first ∷ frames) frame = let later = frames_size-push frames frame in omega arith

  -- there is less to step after each turn
  pub falls_into : (frames more : List (Frame S G)) (t after : Turn S G) (frame : Frame S G) (branch : BranchOver (Focus S G)) → t ≡ turn.Into frame branch → more ≡ frames ++ frame ∷ []
      → turn_size content after < size (state_of content branch) → frames_size content more + turn_size content after < frames_size content frames + turn_size content t
  falls_into frames more t after frame branch is pushed falls =
      let whole : turn_size content t ≡ frame_size content frame + size (state_of content branch) = ap (turn_size content) is in
      let longer : frames_size content more ≡ frames_size content frames + frame_size content frame = ap (frames_size content) pushed ∙ frames_size-push frames frame in
      omega (arith, whole, longer, falls)

  pub falls_given : (frames rest : List (Frame S G)) (t after : Turn S G) (frame : Frame S G) → frames ≡ rest ++ frame ∷ [] → turn_size content after < frame_size content frame
      → frames_size content rest + turn_size content after < frames_size content frames + turn_size content t
  falls_given frames rest t after frame popped falls =
      let shorter : frames_size content frames ≡ frames_size content rest + frame_size content frame = ap (frames_size content) popped ∙ frames_size-push rest frame in
      omega (arith, shorter, falls)

  module _ (program : Code) (limits : Limits) where
    all_resumed-push : (frames : List (Frame S G)) (frame : Frame S G) (event : Next)
        → all_resumed content program limits (frames ++ frame ∷ []) event ≡ all_resumed content program limits frames (resumed content program limits frame event)
    all_resumed-push [] frame event = refl
    all_resumed-push (first ∷ frames) frame event = ap (resumed content program limits first) (all_resumed-push frames frame event)

    -- what is left of searches within each other, and the way that goes on, come to the step of the
    -- state at the start
    pub record Stands (start : State) (frames : List (Frame S G)) (t : Turn S G) : Type 0 where
      pub whole : all_resumed content program limits frames (turn_next content program limits t) ≡ next program limits start
      pub valid : All (FrameIsValid content program) frames
      pub turn_valid : TurnIsValid content program t

    pub stands_begin : (start : State) (frames : List (Frame S G)) (t : Turn S G) → frames ≡ [] → turn_next content program limits t ≡ next program limits start → TurnIsValid content program t
        → Stands start frames t
    stands_begin start frames t none is valid = subst (λ (fs : List (Frame S G)). Stands start fs t) (sym none) (record {
      whole = is;
      valid = λ k d below. let no : ⊥ = omega arith in absurd no;
      turn_valid = valid;
    })

    stands_as : (start : State) (frames : List (Frame S G)) (t same : Turn S G) → t ≡ same → Stands start frames t → Stands start frames same
    stands_as start frames t same is stands = subst (λ (u : Turn S G). Stands start frames u) is stands

    -- with a branch of the level of a search
    pub into_valid : (start : State) (frames : List (Frame S G)) (t : Turn S G) (frame : Frame S G) (branch : BranchOver (Focus S G)) → t ≡ turn.Into frame branch → Stands start frames t
        → IsValid program (state_of content branch)
    into_valid start frames t frame branch is stands = (stands_as start frames t (turn.Into frame branch) is stands).turn_valid.1

    pub stands_into : (start : State) (frames more : List (Frame S G)) (t : Turn S G) (frame : Frame S G) (branch : BranchOver (Focus S G)) (after : Turn S G) → t ≡ turn.Into frame branch
        → more ≡ frames ++ frame ∷ [] → Stands start frames t → turn_next content program limits after ≡ next program limits (state_of content branch) → TurnIsValid content program after
        → Stands start more after
    stands_into start frames more t frame branch after is pushed stands becomes valid =
        let here = stands_as start frames t (turn.Into frame branch) is stands in
        subst (λ (fs : List (Frame S G)). Stands start fs after) (sym pushed) (record {
          whole =
              all_resumed-push frames frame (turn_next content program limits after)
              ∙ ap (λ (event : Next). all_resumed content program limits frames (resumed content program limits frame event)) becomes
              ∙ here.whole;
          valid = All-push (FrameIsValid content program) frames frame here.valid here.turn_valid.0;
          turn_valid = valid;
        })

    -- with an outcome for the innermost search
    pub given_frame : (start : State) (frames rest : List (Frame S G)) (t : Turn S G) (frame : Frame S G) → frames ≡ rest ++ frame ∷ [] → Stands start frames t → FrameIsValid content program frame
    given_frame start frames rest t frame popped stands = (All-pop (FrameIsValid content program) frames rest (Some frame) popped stands.valid).1

    pub stands_given : (start : State) (frames rest : List (Frame S G)) (t : Turn S G) (frame : Frame S G) (outcome : Outcome S G) (after : Turn S G) → t ≡ turn.Done outcome
        → frames ≡ rest ++ frame ∷ [] → Stands start frames t → turn_next content program limits after ≡ resumed content program limits frame (next_of content outcome)
        → TurnIsValid content program after → Stands start rest after
    stands_given start frames rest t frame outcome after is popped stands becomes valid =
        let here = stands_as start frames t (turn.Done outcome) is stands in
        record {
          whole =
              ap (all_resumed content program limits rest) becomes
              ∙ sym (all_resumed-push rest frame (next_of content outcome))
              ∙ ap (λ (fs : List (Frame S G)). all_resumed content program limits fs (next_of content outcome)) (sym popped)
              ∙ here.whole;
          valid = (All-pop (FrameIsValid content program) frames rest (Some frame) popped here.valid).0;
          turn_valid = valid;
        }

    -- with an outcome where no search is left
    pub stands_done : (start : State) (frames : List (Frame S G)) (t : Turn S G) (outcome : Outcome S G) → t ≡ turn.Done outcome → frames ≡ [] → Stands start frames t
        → next_of content outcome ≡ next program limits start
    stands_done start frames t outcome is none stands =
        let here = stands_as start frames t (turn.Done outcome) is stands in
        ap (λ (fs : List (Frame S G)). all_resumed content program limits fs (next_of content outcome)) (sym none) ∙ here.whole

    pub done_whole : (start : State) (frames : List (Frame S G)) (t : Turn S G) (outcome : Outcome S G) → t ≡ turn.Done outcome → Stands start frames t → TurnIsValid content program (turn.Done outcome)
    done_whole start frames t outcome is stands = (stands_as start frames t (turn.Done outcome) is stands).turn_valid
