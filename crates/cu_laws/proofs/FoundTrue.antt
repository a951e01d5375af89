-- What a search for all values of a function finds is the list of a true claim.
use Rattle.std.proofs.Common.{◌≡◌, ℕ, zero, suc, ◌<◌, inl, inr, true, List, [], ◌∷◌, Option, Some, IsTrue, refl, ap, ap₂, sym, ◌∙◌, subst, slice_get, eq-eqb, ◌⊎◌, true≢false, arith}
use Rattle.std.proofs.lemmas.Bool.{and_parts, cases_eq}
use Rattle.cu_calculus.specs.declared.Head.TheVariants as head
use Rattle.cu_calculus.specs.Claims.{AreTrue, Concludes, IsExact, level_of}
use Rattle.cu_calculus.specs.Code.{Code}
use Rattle.cu_calculus.specs.FlatProgram.{program_of}
use Rattle.cu_calculus.specs.Gives.{Claim}
use Rattle.cu_calculus.specs.Order.{rises}
use Rattle.cu_calculus.specs.Shape.{are_ground, is_ground, takes}
use Rattle.cu_calculus.specs.Value as value
use Rattle.cu_calculus.specs.Value.{Value, Values, count}
use Rattle.cu_calculus.specs.WellFormed.{is_well_formed}
use Rattle.cu_calculus.proofs.ExactClaims.{exact_true, row_determined, true_exact}
use Rattle.cu_calculus.proofs.FlatFitting.{arity_kept}
use Rattle.cu_calculus.proofs.FlatValid.{program_valid}
use Rattle.cu_calculus.proofs.TrueClaims.{true_of}
use Rattle.cu_machine.specs.declared.Limits.{Limits}
use Rattle.cu_machine.specs.Among.{Among}
use Rattle.cu_machine.specs.Found.{Found, answers_before, inner_events}
use Rattle.cu_machine.specs.Level.{step_level}
use Rattle.cu_machine.specs.Next.{Answer, next}
use Rattle.cu_machine.specs.State.{call_on}
use Rattle.cu_machine.specs.Validity.{is_built}
use Rattle.cu_machine.proofs.Building.{all_get}
use Rattle.cu_machine.proofs.Depth.{among_map}
use Rattle.cu_machine.proofs.Levels.{found_built}
use Rattle.cu_laws.specs.AtLevel.{AreLevelsOf}
use Rattle.cu_laws.specs.Instance.{all_filled, filled}
use Rattle.cu_laws.specs.Promises.{AgreeWithSearches}
use Rattle.cu_laws.specs.Traced.{AreFound}
use Rattle.cu_laws.proofs.Beginnings.{conclusions_begin}
use Rattle.cu_laws.proofs.CallAnswers.{answer_concludes}
use Rattle.cu_laws.proofs.CameFrom.{all_built_ground, built_ground}
use Rattle.cu_laws.proofs.Instances.{promise_covers}
use Rattle.cu_laws.proofs.Rising.{ground_total}
use Rattle.cu_laws.proofs.SearchAnswers.{all_built_of}
use Rattle.cu_laws.proofs.SearchesKept.{search_kept}
use Rattle.cu_laws.proofs.SortedValues.{among_place, answers_from, place_among, sorted_from, sorted_rises}

-- ---- ground data are filled with themselves

mutual
  ground_filled : (substitution : ℕ → Value) (v : Value) → is_ground v ≡ true → filled substitution v ≡ v
  ground_filled substitution value.Bottom ground = refl
  ground_filled substitution (value.Variable x) ground = absurd (true≢false (sym ground))
  ground_filled substitution (value.Literal l) ground = refl
  ground_filled substitution (value.Constructed c vs) ground = ap (value.Constructed c) (all_ground_filled substitution vs ground)
  ground_filled substitution (value.Partial h vs) ground = absurd (true≢false (sym ground))

  all_ground_filled : (substitution : ℕ → Value) (vs : Values) → are_ground vs ≡ true → all_filled substitution vs ≡ vs
  all_ground_filled substitution value.NoValue ground = refl
  all_ground_filled substitution (value.MoreValues v vs) ground =
      let parts = and_parts (is_ground v) (are_ground vs) ground in
      ap₂ value.MoreValues (ground_filled substitution v parts.0) (all_ground_filled substitution vs parts.1)

module _ (program : Code) (limits : Limits) (levels : List ℕ) (well : is_well_formed program ≡ true) (are : AreLevelsOf program levels) where
  -- what searches of functions of levels below a number find is true there
  abbrev TrueBelow : ℕ → Type 0
  TrueBelow n = (claim : Claim) → level_of levels claim.function < n → Found program limits claim.function claim.arguments claim.values
      → AreTrue (program_of program) levels n (claim ∷ [])

  all_true : (n : ℕ) → TrueBelow n → (claims : List Claim) → AreFound program limits claims
      → ((k : ℕ) (claim : Claim) → slice_get claims k ≡ Some claim → level_of levels claim.function < n) → AreTrue (program_of program) levels n claims
  all_true n each claims found below =
      exact_true (program_of program) levels n claims
      (λ k claim at. true_exact (program_of program) levels n (claim ∷ []) (each claim (below k claim at) (found k claim at)) 0 claim refl)

  agrees : (n : ℕ) → TrueBelow n → (claims : List Claim) → AreTrue (program_of program) levels n claims → (k : ℕ) (claim : Claim) (values : List Value)
      → slice_get claims k ≡ Some claim → Found program limits claim.function claim.arguments values → claim.values ≡ values
  agrees n each claims are_true k claim values at found =
      let twin : Claim = record { function = claim.function; arguments = claim.arguments; values = values } in
      let row = true_exact (program_of program) levels n claims are_true k claim at in
      let other = true_exact (program_of program) levels n (twin ∷ []) (each twin row.0 found) 0 twin refl in
      row_determined (program_of program) levels claim twin row.1 other.1 refl refl

  -- each value that was found is one of the function
  found_each : (n : ℕ) → TrueBelow n → (claim : Claim) → level_of levels claim.function ≡ n → Found program limits claim.function claim.arguments claim.values → (k : ℕ) (v : Value)
      → slice_get claim.values k ≡ Some v
      → IsTrue (is_ground v) × (claims : List Claim) × AreTrue (program_of program) levels n claims × Concludes (program_of program) claims claim.function claim.arguments v
  found_each n each claim at_level found k v at =
      let f = claim.function in
      let arguments = claim.arguments in
      let events = inner_events program limits f arguments in
      let answers = answers_before events found.depth in
      let built : is_built program v ≡ true = all_get (is_built program) claim.values k v (found_built program limits f arguments claim.values well found) at in
      let m = sorted_from v answers (subst (λ (vs : List Value). Among v vs) found.collected (among_place v claim.values k at)) in
      let answered = answers_from events found.depth v m in
      let event = among_map (next program limits) (Answer answered.reading) (step_level program limits (call_on program f arguments) answered.level) answered.among in
      let by = answer_concludes program limits levels f arguments well are found.whole found.built answered.level event.0 answered.reading event.1 event.2 in (
        built_ground program v built,
        by.0,
        all_true n each by.0 by.1 (λ m row is. subst (λ (level : ℕ). level_of levels row.function < level) at_level (by.2 m row is)),
        subst (λ (u : Value). Concludes (program_of program) by.0 f arguments u) answered.value_is by.3,
      )

  -- each ground value of the function was found
  found_every : (n : ℕ) → TrueBelow n → (claim : Claim) → Found program limits claim.function claim.arguments claim.values → (claims : List Claim) (v : Value)
      → AreTrue (program_of program) levels n claims → IsTrue (is_ground v) → Concludes (program_of program) claims claim.function claim.arguments v
      → (k : ℕ) × (slice_get claim.values k ≡ Some v)
  found_every n each claim found claims v are_true ground concludes =
      let f = claim.function in
      let arguments = claim.arguments in
      let claimed = true_of (program_of program) levels n claims (program_valid program well) are_true in
      let begun = conclusions_begin program claims f arguments v well claimed (all_built_ground program arguments found.built) (ground_total v ground) concludes in
      let kept = search_kept program claims limits f arguments claim.values begun.assigned well (record { of_program = claimed; agree = agrees n each claims are_true }) found begun.promises in
      let reading = kept.0 in
      let covered = promise_covers program claims limits (call_on program f arguments) reading value.NoValue v begun refl ground kept.3 in
      let same : reading.value ≡ v = sym (ground_filled covered.substitution reading.value kept.2) ∙ covered.value_is in
      place_among v claim.values (subst (λ (u : Value). Among u claim.values) same kept.1)

  found_exact : (n : ℕ) → TrueBelow n → (claim : Claim) → level_of levels claim.function ≡ n → Found program limits claim.function claim.arguments claim.values
      → IsExact (program_of program) (AreTrue (program_of program) levels n) claim
  found_exact n each claim at_level found = record {
    known = ap (λ (o : Option ℕ). takes o (count claim.arguments)) (arity_kept program (head.Fun claim.function) ∙ found.whole)
        ∙ eq-eqb (count claim.arguments) (count claim.arguments) refl;
    of_program = all_built_of program claim.arguments found.built;
    ground = all_built_ground program claim.arguments found.built;
    ordered = ap rises found.collected ∙ sorted_rises (answers_before (inner_events program limits claim.function claim.arguments) found.depth);
    each = found_each n each claim at_level found;
    every = found_every n each claim found;
  }

  pub found_true : (n : ℕ) (claim : Claim) → level_of levels claim.function < n → Found program limits claim.function claim.arguments claim.values
      → AreTrue (program_of program) levels n (claim ∷ [])
  unfolding AreTrue
  found_true zero claim below found = let no : ⊥ = omega arith in absurd no
  found_true (suc n) claim below found = elim (cases_eq (level_of levels claim.function) n) [
    | inl last ↦ one (inl (last, found_exact n (found_true n) claim last found))
    | inr other ↦ one (inr (found_true n claim (omega arith) found))
  ]
    where
      one : ((level_of levels claim.function ≡ n) × IsExact (program_of program) (AreTrue (program_of program) levels n) claim) ⊎ AreTrue (program_of program) levels n (claim ∷ [])
          → (k : ℕ) (row : Claim) → slice_get (claim ∷ []) k ≡ Some row
          → ((level_of levels row.function ≡ n) × IsExact (program_of program) (AreTrue (program_of program) levels n) row) ⊎ AreTrue (program_of program) levels n (row ∷ [])
      one this zero row at =
          let same : claim ≡ row = cc in
          subst (λ (c : Claim). ((level_of levels c.function ≡ n) × IsExact (program_of program) (AreTrue (program_of program) levels n) c)
          ⊎ AreTrue (program_of program) levels n (c ∷ [])) same this
      one this (suc k) row at = let no : ⊥ = cc in absurd no

  -- true claims agree with what searches find
  pub true_agree : (n : ℕ) (claims : List Claim) → AreTrue (program_of program) levels n claims → AgreeWithSearches program limits claims
  true_agree n claims are_true = record {
    of_program = true_of (program_of program) levels n claims (program_valid program well) are_true;
    agree = agrees n (found_true n) claims are_true;
  }

  pub all_found_true : (n : ℕ) (claims : List Claim) → AreFound program limits claims
      → ((k : ℕ) (claim : Claim) → slice_get claims k ≡ Some claim → level_of levels claim.function < n) → AreTrue (program_of program) levels n claims
  all_found_true n claims found below = all_true n (found_true n) claims found below
