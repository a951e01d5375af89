-- Where paused searches of the code stand, however their graphs are kept.
use Rattle.std.specs.Prelude.{map}
use Rattle.cu_calculus.specs.Code.{Code}
use Rattle.cu_graph.specs.declared.store.Store.{Ghosts}
use Rattle.cu_machine.specs.Graph.{Graph}
use Rattle.cu_step.specs.Outcome.{state_of}
use Rattle.cu_search.specs.declared.paused.Paused.{Paused}
use Rattle.cu_search.specs.Lines.{Notation}
use Rattle.cu_search.specs.Standing.{Standing}

-- where a paused search of this code stands, whose listing uses these names
abbrev pub standing_of_paused : {S : Type 0} {G : Ghosts S} → (S → Graph) → Code → Notation
    → Paused S G → Standing
standing_of_paused content code notation paused = record {
  code = code;
  notation = notation;
  limits = paused.limits;
  round = paused.round;
  tally = paused.tally;
  level = map (state_of content) paused.level.items;
  ended = paused.ended;
}
