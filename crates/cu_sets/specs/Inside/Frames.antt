-- Searches whose levels are being stepped, one within another.
use Rattle.std.specs.Prelude.{ℕ, ◌+◌, ◌<◌, List, [], ◌∷◌, IsFalse, length, map}
use Rattle.std.specs.List.{All}
use Rattle.std.specs.Vec.Iter.{into_iter_items}
use Rattle.cu_calculus.specs.Code.{Code}
use Rattle.cu_graph.specs.declared.store.Store.{Ghosts}
use Rattle.cu_machine.specs.declared.Limits.{Limits}
use Rattle.cu_machine.specs.Graph.{Graph}
use Rattle.cu_machine.specs.Next.{Next, after_level, next, stepped, with_outcome}
use Rattle.cu_machine.specs.State.{States, states_of}
use Rattle.cu_machine.specs.Validity.{IsValid}
use Rattle.cu_step.specs.Outcome.{is_inner, next_of, state_of}
use Rattle.cu_sets.specs.declared.searches.Frame.{Frame}
use Rattle.cu_sets.specs.declared.searches.Turn.{Turn}
use Rattle.cu_sets.specs.declared.searches.Turn.TheVariants as turn
use Rattle.cu_sets.specs.Inside.Levels.{before, level_of}
use Rattle.cu_sets.specs.Inside.Sizes.{size, total_size}

module _ {S : Type 0} {G : Ghosts S} (content : S → Graph) where
  -- the states of a search's level that are still to be stepped, but for the one at hand
  abbrev pub states_left : Frame S G → States
  states_left frame = states_of (map (state_of content) (into_iter_items frame.left))

  -- what is still to be stepped of a search's level, with 1 for the search itself
  abbrev pub frame_size : Frame S G → ℕ
  frame_size frame = total_size (states_left frame) + 1

  -- what is still to be stepped of the levels of several searches
  abbrev pub frames_size : List (Frame S G) → ℕ
  frames_size [] = 0
  frames_size (frame ∷ frames) = frame_size frame + frames_size frames

  -- what is still to be stepped of one search, in the way that goes on
  abbrev pub turn_size : Turn S G → ℕ
  turn_size (turn.Into frame branch) = frame_size frame + size (state_of content branch)
  turn_size (turn.Done outcome) = 0

  module _ (program : Code) where
    -- A search whose level is being stepped: its call is in its graph, and what is left of the level
    -- is valid.
    pub record FrameIsValid (frame : Frame S G) : Type 0 where
      pub call : frame.running.call < length (content frame.running.store)
      pub left : All (λ branch. IsValid program (state_of content branch))
          (into_iter_items frame.left)

    -- The search and the branch that a step goes on with are valid; an outcome is one of a whole
    -- step.
    abbrev pub TurnIsValid : Turn S G → Type 0
    TurnIsValid (turn.Into frame branch) =
        FrameIsValid frame × IsValid program (state_of content branch)
    TurnIsValid (turn.Done outcome) = IsFalse (is_inner outcome)

    module _ (limits : Limits) where
      -- what becomes of the branch in which a search runs, where this becomes of the branch at hand
      -- of its level
      abbrev pub resumed : Frame S G → Next → Next
      resumed frame event =
          after_level limits (content frame.running.store) frame.running.root
          frame.running.goals.items frame.running.call frame.running.found.items
          (before (level_of content frame.after)
          (with_outcome event (stepped program limits (states_left frame))))

      -- what becomes of the outermost branch, where this becomes of the one at hand of the innermost
      -- search; each search runs in the branch at hand of the one before it
      abbrev pub all_resumed : List (Frame S G) → Next → Next
      all_resumed [] event = event
      all_resumed (frame ∷ frames) event = resumed frame (all_resumed frames event)

      -- what becomes of a branch, by how its step goes on
      abbrev pub turn_next : Turn S G → Next
      turn_next (turn.Into frame branch) =
          resumed frame (next program limits (state_of content branch))
      turn_next (turn.Done outcome) = next_of content outcome
