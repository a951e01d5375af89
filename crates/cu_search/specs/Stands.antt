-- Where searches of the code stand, however their graphs are kept: `content` says which nodes a
-- store has.
use Rattle.std.specs.Prelude.{map}
use Rattle.cu_graph.specs.declared.store.Store.{Ghosts}
use Rattle.cu_machine.specs.Graph.{Graph}
use Rattle.cu_names.specs.Texts.{text_of}
use Rattle.cu_step.specs.Outcome.{state_of}
use Rattle.cu_values.specs.ProgramLabels.{labels_of}
use Rattle.cu_search.specs.declared.search.Search.{Search}
use Rattle.cu_search.specs.declared.wording.Wording.{Wording}
use Rattle.cu_search.specs.Lines.{Notation}
use Rattle.cu_search.specs.Standing.{Standing}

-- the names that a listing uses, by a program, its table of names and a goal
abbrev pub notation_of : Wording → Notation
notation_of wording = record {
  labels = labels_of wording.names.now wording.kernel.now;
  variables = map (text_of wording.names.now) wording.goal.now.names.items;
}

-- where a search of the code stands
abbrev pub standing_of : {S : Type 0} {G : Ghosts S} → (S → Graph) → Search S G → Standing
standing_of content search = record {
  code = search.program.now;
  notation = notation_of search.wording;
  limits = search.limits;
  round = search.round;
  tally = search.tally;
  level = map (state_of content) search.level.items;
  ended = search.ended;
}
