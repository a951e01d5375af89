use Rattle.cu_flat.specs.Layout.{laid_out}
use Rattle.cu_machine.specs.State.{start_of}
use Rattle.cu_cmd.proofs.DepthLemmas.{in_its_round}
use Rattle.cu_cmd.proofs.depths.answers_are_listed_by_depth.Goals as goal

pub returns : goal.returns
returns c = λ held root text limits. record {
  answers_are_listed = λ names program flat goal compiles has_goal state depth reading among is.
      in_its_round (laid_out flat) limits (start_of (laid_out flat) goal.function) state depth reading
      c.answers_are_listed.ensures.depth c.answers_are_listed.ensures.place among is;
  listed_are_of_their_round = λ names program flat goal compiles has_goal.
      c.answers_stand_at_their_depth.ensures (laid_out flat) limits (start_of (laid_out flat) goal.function);
}
