use Rattle.std.proofs.Common.{◌≡◌, [], drop, map, take}
use Rattle.cu_kernel.specs.Heads.{heads_program}
use Rattle.cu_crwl.specs.Meaning.{claim_of, step_of}
use Rattle.cu_crwl.specs.Steps.{all_follow}
use Rattle.cu_crwl.proofs.checker.Checker.steps_follow.Given as goal

abbrev pub invariant-loop-i : goal.invariant-loop-i
invariant-loop-i l =
    all_follow (heads_program l.self.heads.now) (map claim_of l.self.claims.now) (map step_of (take l.i l.steps)) (map step_of (drop l.i l.steps))
    ≡ all_follow (heads_program l.self.heads.now) (map claim_of l.self.claims.now) [] (map step_of l.steps)
