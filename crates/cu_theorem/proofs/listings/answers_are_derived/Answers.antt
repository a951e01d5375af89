use Rattle.std.proofs.Common.{subst}
use Rattle.cu_calculus.specs.Claims.{DerivesAt}
use Rattle.cu_calculus.specs.Program.{Program}
use Rattle.cu_calculus.specs.Value.{values_of}
use Rattle.cu_flat.specs.Layout.{laid_out}
use Rattle.cu_kernel.specs.Kernel.{program_of}
use Rattle.cu_theorem.proofs.CodeLevels.{levels_of_code}
use Rattle.cu_theorem.proofs.GoalRule.{flattens_of, goal_has_rule}
use Rattle.cu_theorem.proofs.listings.answers_are_derived.Goals as goal

pub returns : goal.returns
returns c = λ kernel flat goal limits can has_goal round reading listed.
    let program = program_of kernel in
    let f = goal.function in
    let vs = values_of reading.bindings in
    let right = can.valid.program in
    let flattens = flattens_of program flat can.lowered in
    let ok = c.lowered_programs_are_valid.ensures program flat right flattens in
    let is_flat = c.lowered_programs_are_flat.ensures program flat right flattens in
    let well = c.flat_programs_have_code.ensures.well_formed flat ok is_flat in
    let same = c.flat_programs_have_code.ensures.same flat ok is_flat in
    let rule = goal_has_rule kernel flat goal can.valid flattens has_goal in
    let least = c.least_levels_exist.ensures program can.levels.0 can.levels.1 in
    let are = c.least_levels_stay_levels.ensures program flat least.0 flattens least.1 in
    let of_code = levels_of_code program flat least.0 right flattens least.1 are same in
    let found = c.listed_answers_derive.ensures.at_level (laid_out flat) limits least.0 f round reading well rule of_code listed in
    let truth = c.lowering_keeps_truth.ensures.derivations program flat least.0 f vs reading.value right flattens in
    record {
      levels = least.0;
      least = least.1;
      derives = truth.1 (subst (λ (p : Program). DerivesAt p least.0 f vs reading.value) same found);
    }
