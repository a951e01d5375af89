-- An answer follows from the rules and from claims that searches for all values have found.
use Rattle.std.proofs.Common.{◌≡◌, ℕ, suc, ◌-◌, true, ◌&&◌, List, [], ◌∷◌, Option, None, Some, refl, ap, sym, ◌∙◌, subst, slice_get, is_some, option_map, true≢false}
use Rattle.std.specs.List.{list_all}
use Rattle.std.proofs.lemmas.Bool.{and_from, and_parts}
use Rattle.cu_calculus.specs.declared.FunId.{FunId}
use Rattle.cu_calculus.specs.declared.Head.TheVariants as head
use Rattle.cu_calculus.specs.Calls.{call_statement}
use Rattle.cu_calculus.specs.Claims.{Concludes}
use Rattle.cu_calculus.specs.Code as code
use Rattle.cu_calculus.specs.Code.{Code, arity_of, body_of, function_arity, is_rule}
use Rattle.cu_calculus.specs.FlatProgram.{function_in, program_of}
use Rattle.cu_calculus.specs.Gives.{Claim}
use Rattle.cu_calculus.specs.Program.{arity_in, function_of}
use Rattle.cu_calculus.specs.Proof.{is_claim_of}
use Rattle.cu_calculus.specs.Proved.{IsProved}
use Rattle.cu_calculus.specs.Shape.{are_of, is_of, takes}
use Rattle.cu_calculus.specs.Value as value
use Rattle.cu_calculus.specs.Value.{Value, Values, count, values_of}
use Rattle.cu_calculus.specs.WellFormed.{is_well_formed}
use Rattle.cu_calculus.proofs.CallStatements.{concludes_proved}
use Rattle.cu_calculus.proofs.FlatFitting.{arity_kept, function_there}
use Rattle.cu_calculus.proofs.FlatValid.{program_valid}
use Rattle.cu_machine.specs.declared.Limits.{Limits}
use Rattle.cu_machine.specs.declared.SearchLimits.{SearchLimits}
use Rattle.cu_machine.specs.Among.{Among}
use Rattle.cu_machine.specs.Found.{Found}
use Rattle.cu_machine.specs.Listing.{Answered, listing}
use Rattle.cu_machine.specs.Next.{Reading}
use Rattle.cu_machine.specs.Run.{reached, reading_at}
use Rattle.cu_machine.specs.State.{Branch, State, start_of, start_on}
use Rattle.cu_machine.specs.Validity.{IsValid, are_built, is_built}
use Rattle.cu_machine.proofs.Fuel.{all_follow}
use Rattle.cu_machine.proofs.Levels.{found_built}
use Rattle.cu_machine.proofs.Starts.{start_valid}
use Rattle.cu_laws.specs.Traced.{AreFound}
use Rattle.cu_laws.proofs.AnswersFollow.{begins, listed_at, number_of, reading_concludes}
use Rattle.cu_laws.proofs.CameFrom.{CameFrom, IsUnder, Keeps, came_itself, level_under, reached_under}
use Rattle.cu_laws.proofs.Readings.{read_off, valid_reading}

-- the goal concludes a value over claims that searches have found, of functions that pass
abbrev pub ConcludesByFinds : Code → Limits → (FunId → Type 0) → FunId → Reading → Type 0
ConcludesByFinds program limits P goal reading =
    (claims : List Claim) × AreFound program limits claims × ((k : ℕ) (claim : Claim) → slice_get claims k ≡ Some claim → P claim.function)
    × Concludes (program_of program) claims goal (values_of reading.bindings) reading.value

pub state_concludes : (program : Code) (limits : Limits) (P : FunId → Type 0) (goal : FunId) (n : ℕ) (state : State) → is_well_formed program ≡ true
    → is_rule (body_of program goal) ≡ true → function_arity program goal ≡ Some n → IsValid program state → CameFrom program limits P (start_on program goal n) state
    → ConcludesByFinds program limits P goal (reading_at state)
state_concludes program limits P goal n (Branch graph root goals search) well rule arity valid came =
    let number = number_of graph root goals in
    let carried = came.backward [] (read_off number graph) (valid_reading program [] graph root goals search number valid) in (
      carried.further,
      carried.found,
      carried.passing,
      reading_concludes program carried.further goal n graph root goals search number rule well arity valid came.roots came.goals carried.sound,
    )

pub listed_by_kept : (program : Code) (limits : SearchLimits) (P : FunId → Type 0) (Keep : State → Type 0) (goal : FunId) (depth : ℕ) (reading : Reading)
    → is_well_formed program ≡ true → is_rule (body_of program goal) ≡ true → Keeps program limits.step P Keep → Keep (start_of program goal)
    → Among (Answered depth reading) (listing program limits (start_of program goal)).lines → ConcludesByFinds program limits.step P goal reading
listed_by_kept program limits P Keep goal depth reading well rule keeps kept m =
    let start = start_of program goal in
    let begun = begins program goal well rule in
    let found = listed_at program limits goal depth reading m in
    let on : IsUnder program limits.step P Keep start start = record {
      valid = start_valid program goal well rule;
      traced = tt;
      kept = kept;
      came = came_itself program limits.step P start;
    } in
    let at_state = level_under program limits P Keep start well keeps on depth found.0 found.1 in
    let last = reached limits.stride program limits.step found.0 in
    let at_last = reached_under program limits.step P Keep start well keeps (limits.stride - 1) found.0 at_state in
    subst (λ (r : Reading). ConcludesByFinds program limits.step P goal r) (sym found.2)
    (state_concludes program limits.step P goal begun.n last well rule begun.arity at_last.valid
    (subst (λ (s : State). CameFrom program limits.step P s last) begun.start_is at_last.came))

pub listed_by_finds : (program : Code) (limits : SearchLimits) (goal : FunId) (depth : ℕ) (reading : Reading) → is_well_formed program ≡ true
    → is_rule (body_of program goal) ≡ true → Among (Answered depth reading) (listing program limits (start_of program goal)).lines
    → (claims : List Claim) × AreFound program limits.step claims × Concludes (program_of program) claims goal (values_of reading.bindings) reading.value
listed_by_finds program limits goal depth reading well rule m =
    let found = listed_by_kept program limits (λ f. Unit {0}) (λ s. Unit {0}) goal depth reading well rule
    (record { next = λ before state states valid kept same at. tt; passes = λ state kept id f args is. tt }) tt m in
    (found.0, found.1, found.3)

-- ---- claims of the program

mutual
  pub built_of : (program : Code) (v : Value) → is_built program v ≡ true → is_of (program_of program) v ≡ true
  built_of program value.Bottom built = refl
  built_of program (value.Variable x) built = refl
  built_of program (value.Literal l) built = built
  built_of program (value.Constructed c vs) built =
      let parts = and_parts (takes (arity_of program (head.Con c)) (count vs)) (are_built program vs) built in
      and_from (takes (arity_in (program_of program) (head.Con c)) (count vs)) (are_of (program_of program) vs)
      (ap (λ (o : Option ℕ). takes o (count vs)) (arity_kept program (head.Con c)) ∙ parts.0) (all_built_of program vs parts.1)
  built_of program (value.Partial h vs) built = absurd (true≢false (sym built))

  pub all_built_of : (program : Code) (vs : Values) → are_built program vs ≡ true → are_of (program_of program) vs ≡ true
  all_built_of program value.NoValue built = refl
  all_built_of program (value.MoreValues v vs) built =
      let parts = and_parts (is_built program v) (are_built program vs) built in
      and_from (is_of (program_of program) v) (are_of (program_of program) vs) (built_of program v parts.0) (all_built_of program vs parts.1)

function_known : (program : Code) (f : FunId) (n : ℕ) → function_arity program f ≡ Some n → is_some (function_of (program_of program) f) ≡ true
function_known program f n is = ap is_some (function_there program f) ∙ go (slice_get program.functions f.0) is
  where
    go : (o : Option code.Function) → (elim o [ Some function ↦ Some function.arity | None ↦ None ]) ≡ Some n → is_some (option_map (function_in program) o) ≡ true
    go None e = let no : ⊥ = cc in absurd no
    go (Some function) e = refl

found_claim_of : (program : Code) (limits : Limits) (claim : Claim) → is_well_formed program ≡ true → Found program limits claim.function claim.arguments claim.values
    → is_claim_of (program_of program) claim ≡ true
found_claim_of program limits claim well found =
    let P = program_of program in
    let known = function_known program claim.function (count claim.arguments) found.whole in
    let arguments = all_built_of program claim.arguments found.built in
    let values = all_follow (is_built program) (is_of P) claim.values (built_of program)
    (found_built program limits claim.function claim.arguments claim.values well found) in
    and_from (is_some (function_of P claim.function) && are_of P claim.arguments) (list_all (is_of P) claim.values)
    (and_from (is_some (function_of P claim.function)) (are_of P claim.arguments) known arguments) values

pub found_claims_of : (program : Code) (limits : Limits) (claims : List Claim) → is_well_formed program ≡ true → AreFound program limits claims
    → list_all (is_claim_of (program_of program)) claims ≡ true
found_claims_of program limits [] well found = refl
found_claims_of program limits (claim ∷ claims) well found =
    and_from (is_claim_of (program_of program) claim) (list_all (is_claim_of (program_of program)) claims) (found_claim_of program limits claim well (found 0 claim refl))
    (found_claims_of program limits claims well (λ k other at. found (suc k) other at))

pub listed_proved_by_finds : (program : Code) (limits : SearchLimits) (goal : FunId) (depth : ℕ) (reading : Reading) → is_well_formed program ≡ true
    → is_rule (body_of program goal) ≡ true → Among (Answered depth reading) (listing program limits (start_of program goal)).lines
    → (claims : List Claim) × AreFound program limits.step claims
    × IsProved (program_of program) claims (call_statement goal (values_of reading.bindings) reading.value)
listed_proved_by_finds program limits goal depth reading well rule m =
    let found = listed_by_finds program limits goal depth reading well rule m in (
      found.0,
      found.1,
      concludes_proved (program_of program) found.0 goal (values_of reading.bindings) reading.value (program_valid program well)
          (found_claims_of program limits.step found.0 well found.1) found.2,
    )
