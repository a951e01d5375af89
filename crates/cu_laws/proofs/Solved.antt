-- Answers that are listed have derivations over true claims; an exhausted listing covers the ground
-- solutions.
use Rattle.std.proofs.Common.{◌≡◌, ℕ, true, List, subst}
use Rattle.cu_calculus.specs.declared.FunId.{FunId}
use Rattle.cu_calculus.specs.Claims.{AreLeastLevels, Derives, DerivesAt, level_of}
use Rattle.cu_calculus.specs.Code.{Code, body_of, is_rule}
use Rattle.cu_calculus.specs.FlatProgram.{program_of}
use Rattle.cu_calculus.specs.Shape.{are_ground, is_ground}
use Rattle.cu_calculus.specs.Value.{Value, Values, values_of}
use Rattle.cu_calculus.specs.WellFormed.{is_well_formed}
use Rattle.cu_calculus.proofs.Levels.{least_levels_same}
use Rattle.cu_machine.specs.declared.SearchLimits.{SearchLimits}
use Rattle.cu_machine.specs.Among.{Among}
use Rattle.cu_machine.specs.Listing.{Answered, listing}
use Rattle.cu_machine.specs.Next.{Reading}
use Rattle.cu_machine.specs.State.{start_of}
use Rattle.cu_machine.proofs.Starts.{start_valid}
use Rattle.cu_laws.specs.AtLevel.{AreLevelsOf}
use Rattle.cu_laws.specs.Instance.{Covered, IsExhausted}
use Rattle.cu_laws.proofs.Beginnings.{goals_begin}
use Rattle.cu_laws.proofs.FoundTrue.{all_found_true, true_agree}
use Rattle.cu_laws.proofs.Instances.{promise_covers}
use Rattle.cu_laws.proofs.LevelStates.{listed_at_level}
use Rattle.cu_laws.proofs.ListingKept.{listing_kept}
use Rattle.cu_laws.proofs.Rising.{ground_total}

-- ---- listed answers

pub listed_derives : (program : Code) (limits : SearchLimits) (levels : List ℕ) (goal : FunId) (depth : ℕ) (reading : Reading) → is_well_formed program ≡ true
    → is_rule (body_of program goal) ≡ true → AreLevelsOf program levels → Among (Answered depth reading) (listing program limits (start_of program goal)).lines
    → DerivesAt (program_of program) levels goal (values_of reading.bindings) reading.value
listed_derives program limits levels goal depth reading well rule are m =
    let found = listed_at_level program limits levels goal depth reading well rule are m in
    (found.0, all_found_true program limits.step levels well are (level_of levels goal) found.0 found.1 found.2, found.3)

-- ---- exhausted listings

pub listing_covers : (program : Code) (limits : SearchLimits) (levels : List ℕ) (goal : FunId) (arguments : Values) (v : Value) → is_well_formed program ≡ true
    → is_rule (body_of program goal) ≡ true → AreLevelsOf program levels → IsExhausted (listing program limits (start_of program goal))
    → are_ground arguments ≡ true → is_ground v ≡ true → DerivesAt (program_of program) levels goal arguments v
    → Covered program (listing program limits (start_of program goal)) arguments v
listing_covers program limits levels goal arguments v well rule are ends ground_arguments ground derives =
    let claims = derives.0 in
    let start = start_of program goal in
    let agree = true_agree program limits.step levels well are (level_of levels goal) claims derives.1 in
    let solution = goals_begin program claims goal arguments v well agree.of_program ground_arguments (ground_total v ground) derives.2 in
    let kept = listing_kept program claims limits start solution.assigned well agree (start_valid program goal well rule) tt solution.promises ends in
    record {
      depth = kept.0;
      reading = kept.1;
      listed = kept.2;
      covers = promise_covers program claims limits.step start kept.1 arguments v solution ground_arguments ground kept.3;
    }

pub listing_covers_least : (program : Code) (limits : SearchLimits) (levels : List ℕ) (goal : FunId) (arguments : Values) (v : Value) → is_well_formed program ≡ true
    → is_rule (body_of program goal) ≡ true → AreLevelsOf program levels → AreLeastLevels (program_of program) levels
    → IsExhausted (listing program limits (start_of program goal))
    → are_ground arguments ≡ true → is_ground v ≡ true → Derives (program_of program) goal arguments v
    → Covered program (listing program limits (start_of program goal)) arguments v
listing_covers_least program limits levels goal arguments v well rule are least ends ground_arguments ground derives =
    listing_covers program limits levels goal arguments v well rule are ends ground_arguments ground
    (subst (λ (ns : List ℕ). DerivesAt (program_of program) ns goal arguments v) (least_levels_same (program_of program) derives.levels levels derives.least least) derives.derives)
