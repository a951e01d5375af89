-- By induction on the rounds that are left; what is read belongs to the state that a run reaches.
use Rattle.std.proofs.Common.{◌-◌, refl, sym, ◌∙◌}
use Rattle.cu_machine.specs.Level.{level_by}
use Rattle.cu_machine.specs.Run.{reached}
use Rattle.cu_machine.proofs.Depth.{rounds_list}
use Rattle.cu_machine.proofs.Runs.{answer_read, run_reaches}
use Rattle.cu_machine.proofs.laws.answers_stand_at_their_depth.Goals as goal

pub returns : goal.returns
unfolding level_by
returns c = λ code limits start depth reading m.
    let found = rounds_list limits.rounds code limits start 0 (record { answers = 0; waits = 0 }) _ depth reading refl m in (
      found.0,
      found.1,
      found.2,
      answer_read code limits.step (reached limits.stride code limits.step found.0) reading
          (sym (run_reaches (limits.stride - 1) code limits.step found.0) ∙ found.2),
    )
