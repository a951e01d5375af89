use Rattle.std.proofs.Common.{◌∙◌, sym}
use Rattle.std.proofs.lemmas.Result.{IfOk-weaker}
use Rattle.std.proofs.lemmas.Simd.{map-map}
use Rattle.std.specs.List.{All}
use Rattle.cu_machine.specs.Run.{run}
use Rattle.cu_machine.specs.Validity.{IsValid}
use Rattle.cu_step.specs.Outcome.{branches_of, next_of, state_of}
use Rattle.cu_search.proofs.BranchLemmas.{pairwise-all, pairwise-map}
use Rattle.cu_search.proofs.level.step_level.Goals as goal

pub returns : goal.returns
returns g c =
    let content = g.S.Store.content in
    let program = c.args.steps.now.program.now in
    let limits = c.args.steps.now.limits in
    let goes = run limits.stride program limits.step in
    record {
      next = IfOk-weaker c.round.result _ _
          (λ outcomes all.
          pairwise-map _ (next_of content) (λ branch. goes (state_of content branch)) (λ branch outcome told. told.0) c.args.level.items outcomes.items all
          ∙ sym (map-map goes (state_of content) c.args.level.items))
          c.round.ensures.outcomes;
      valid = IfOk-weaker c.round.result _ _
          (λ outcomes all.
          pairwise-all _ (λ outcome. All (λ branch. IsValid program (state_of content branch)) (branches_of outcome)) (λ branch outcome told. told.1)
          c.args.level.items outcomes.items all)
          c.round.ensures.outcomes;
      told = c.round.ensures.told;
    }
