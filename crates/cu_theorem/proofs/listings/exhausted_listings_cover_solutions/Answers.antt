use Rattle.std.proofs.Common.{subst, sym}
use Rattle.cu_calculus.specs.Claims.{DerivesAt}
use Rattle.cu_calculus.specs.Program.{Program}
use Rattle.cu_flat.specs.Layout.{laid_out}
use Rattle.cu_kernel.specs.Kernel.{program_of}
use Rattle.cu_theorem.proofs.CodeLevels.{levels_of_code}
use Rattle.cu_theorem.proofs.GoalRule.{flattens_of, goal_has_rule}
use Rattle.cu_theorem.proofs.listings.exhausted_listings_cover_solutions.Goals as goal

pub returns : goal.returns
returns c = λ kernel flat goal limits can has_goal exhausted arguments v ground.
    let program = program_of kernel in
    let f = goal.function in
    let right = can.valid.program in
    let flattens = flattens_of program flat can.lowered in
    let ok = c.lowered_programs_are_valid.ensures program flat right flattens in
    let is_flat = c.lowered_programs_are_flat.ensures program flat right flattens in
    let well = c.flat_programs_have_code.ensures.well_formed flat ok is_flat in
    let same = c.flat_programs_have_code.ensures.same flat ok is_flat in
    let rule = goal_has_rule kernel flat goal can.valid flattens has_goal in
    let levels = ground.solution.levels in
    let least = ground.solution.least in
    let are = c.least_levels_stay_levels.ensures program flat levels flattens least in
    let of_code = levels_of_code program flat levels right flattens least are same in
    let truth = c.lowering_keeps_truth.ensures.derivations program flat levels f arguments v right flattens in
    let derived = subst (λ (p : Program). DerivesAt p levels f arguments v) (sym same) (truth.0 ground.solution.derives) in
    c.exhausted_listings_cover.ensures.at_level (laid_out flat) limits levels f arguments v well rule of_code exhausted
    ground.ground_arguments ground.ground_value derived
