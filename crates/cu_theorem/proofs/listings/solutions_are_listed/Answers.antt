use Rattle.cu_theorem.proofs.listings.solutions_are_listed.Goals as goal

pub returns : goal.returns
returns c = λ held root text limits. record {
  answers_are_sound = λ names program flat goal compiles has_goal.
      c.answers_are_derived.ensures program flat goal limits compiles.is_goal.can_run.lowering has_goal;
  no_more_is_complete = λ names program flat goal compiles has_goal.
      c.exhausted_listings_cover_solutions.ensures program flat goal limits compiles.is_goal.can_run.lowering has_goal;
}
