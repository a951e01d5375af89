-- One step of an inner level: what was answered, and the states that follow.
use Rattle.std.proofs.Common.{◌≡◌, Bool, true, false, if◌then◌else◌, List, [], ◌∷◌, ◌++◌, refl, ap, sym, ◌∙◌, map}
use Rattle.std.specs.Prelude.{flat_map}
use Rattle.std.specs.List.{list_all}
use Rattle.std.proofs.lemmas.Bool.{and_from}
use Rattle.cu_calculus.specs.Code.{Code}
use Rattle.cu_calculus.specs.Shape.{is_ground}
use Rattle.cu_calculus.specs.Value.{Value}
use Rattle.cu_machine.specs.declared.Limits.{Limits}
use Rattle.cu_machine.specs.Found.{answered_by, is_quiet}
use Rattle.cu_machine.specs.Level.{go_list}
use Rattle.cu_machine.specs.Next.{Answer, Blocked, Fails, Go, Halts, LevelEvent, Next, On, Stops, Waits, next, stepped, with_found, with_outcome}
use Rattle.cu_machine.specs.State.{State, states_of}

-- what became of a level whose search goes on
pub record GoesOn (events : List Next) (values : List Value) (states : List State) : Type 0 where
  pub answered : values ≡ flat_map answered_by events
  pub follow : states ≡ flat_map go_list events
  pub quiet : list_all is_quiet events ≡ true

on_is : (values others : List Value) (states more : List State) → On values states ≡ On others more → (values ≡ others) × (states ≡ more)
on_is values others states more same =
    let first : values ≡ others = cc in
    let second : states ≡ more = cc in
    (first, second)

goes_on_with : (event : Next) (inner : LevelEvent) (events : List Next) (values : List Value) (states : List State)
    → ((vs : List Value) (ss : List State) → inner ≡ On vs ss → GoesOn events vs ss) → with_outcome event inner ≡ On values states → GoesOn (event ∷ events) values states
goes_on_with (Stops stop) inner events values states rest is = let no : ⊥ = cc in absurd no
goes_on_with (Waits names) inner events values states rest is = let no : ⊥ = cc in absurd no
goes_on_with Fails inner events values states rest is =
    let others = rest values states is in record { answered = others.answered; follow = others.follow; quiet = others.quiet }
goes_on_with (Go prefix) (On vs ss) events values states rest is =
    let same = on_is vs values (prefix ++ ss) states is in
    let others = rest vs ss refl in
    record {
      answered = sym same.0 ∙ others.answered;
      follow = sym same.1 ∙ ap (λ (xs : List State). prefix ++ xs) others.follow;
      quiet = others.quiet;
    }
goes_on_with (Go prefix) Blocked events values states rest is = let no : ⊥ = cc in absurd no
goes_on_with (Go prefix) (Halts stop) events values states rest is = let no : ⊥ = cc in absurd no
goes_on_with (Answer reading) inner events values states rest is = by (is_ground reading.value) refl inner rest is
  where
    by : (b : Bool) → is_ground reading.value ≡ b → (what : LevelEvent) → ((vs : List Value) (ss : List State) → what ≡ On vs ss → GoesOn events vs ss)
        → (if b then with_found reading.value what else Blocked) ≡ On values states → GoesOn (Answer reading ∷ events) values states
    by false open_one what more e = let no : ⊥ = cc in absurd no
    by true ground Blocked more e = let no : ⊥ = cc in absurd no
    by true ground (Halts stop) more e = let no : ⊥ = cc in absurd no
    by true ground (On vs ss) more e =
        let same = on_is (reading.value ∷ vs) values ss states e in
        let others = more vs ss refl in
        record {
          answered = sym same.0 ∙ ap (λ (xs : List Value). reading.value ∷ xs) others.answered;
          follow = sym same.1 ∙ others.follow;
          quiet = and_from (is_ground reading.value) (list_all is_quiet events) ground others.quiet;
        }

pub stepped_on : (program : Code) (limits : Limits) (level : List State) (values : List Value) (states : List State) → stepped program limits (states_of level) ≡ On values states
    → GoesOn (map (next program limits) level) values states
unfolding stepped
stepped_on program limits [] values states is =
    let same = on_is [] values [] states is in record { answered = sym same.0; follow = sym same.1; quiet = refl }
stepped_on program limits (state ∷ level) values states is =
    goes_on_with (next program limits state) (stepped program limits (states_of level)) (map (next program limits) level) values states
    (λ vs ss same. stepped_on program limits level vs ss same) is
