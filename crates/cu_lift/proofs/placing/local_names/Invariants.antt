use Rattle.std.proofs.Common.{take}
use Rattle.cu_lift.specs.Inside.LiftedPlaces.{AreNames}
use Rattle.cu_names.specs.Texts.{Extends, text_of}
use Rattle.cu_lift.proofs.placing.local_names.Given as goal

-- the names so far
abbrev pub invariant-loop-lifted : goal.invariant-loop-lifted
invariant-loop-lifted l = record {
  table : Extends l.fn.names l.names;
  names : AreNames l.names (text_of l.fn.names l.fn.function) l.number (take l.lifted-index l.numbers) l.ids.items;
}
