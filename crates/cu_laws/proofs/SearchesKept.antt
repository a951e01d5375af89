-- A search for all values of a function finds what its start promises.
use Rattle.std.proofs.Common.{◌≡◌, ℕ, zero, suc, ◌<◌, inl, inr, true, List, [], ◌∷◌, Option, refl, sym, subst, eq-eqb, arith}
use Rattle.std.specs.Prelude.{flat_map}
use Rattle.std.specs.declared.cmp.Ordering.{Ordering}
use Rattle.std.specs.declared.cmp.Ordering.TheVariants.{Equal, Greater, Less}
use Rattle.std.specs.List.{list_all}
use Rattle.cu_calculus.specs.declared.FunId.{FunId}
use Rattle.cu_calculus.specs.Code.{Code, function_arity}
use Rattle.cu_calculus.specs.Gives.{Claim}
use Rattle.cu_calculus.specs.Order.{value_order}
use Rattle.cu_calculus.specs.Shape.{is_ground, takes}
use Rattle.cu_calculus.specs.Value.{Value, Values, count}
use Rattle.cu_calculus.specs.WellFormed.{is_well_formed}
use Rattle.cu_calculus.proofs.ValueOrder.{order_same}
use Rattle.cu_machine.specs.declared.Limits.{Limits}
use Rattle.cu_machine.specs.Among.{Among}
use Rattle.cu_machine.specs.Found.{Found, answered_by, answers_before, inner_events, is_quiet}
use Rattle.cu_machine.specs.Level.{step_level}
use Rattle.cu_machine.specs.Next.{Answer, Fails, Go, Next, Reading, Stops, Waits, next}
use Rattle.cu_machine.specs.Sort.{inserted, inserted_by, sorted}
use Rattle.cu_machine.specs.State.{State, call_on}
use Rattle.cu_machine.specs.Validity.{IsValid}
use Rattle.cu_machine.proofs.Fuel.{all_follow, at_or_below}
use Rattle.cu_machine.proofs.RowMoves.{among_image}
use Rattle.cu_machine.proofs.Searches.{all_built_fit}
use Rattle.cu_machine.proofs.Starts.{call_on_valid}
use Rattle.cu_machine.proofs.Strides.{among_flat_at, among_after, in_prefix}
use Rattle.cu_laws.specs.Good.{Assignment}
use Rattle.cu_laws.specs.Promises.{AgreeWithSearches, AnswersPromise, KeptByAnswer, Promises, is_decided}
use Rattle.cu_laws.proofs.LevelsKept.{decided_at, steps_kept}

-- ---- what is sorted keeps every value

inserted_by_has : (order : Ordering) (v w : Value) (rest after : List Value) → (order ≡ Equal → v ≡ w) → Among v after → Among v (inserted_by order v w rest after)
inserted_by_has Less v w rest after same m = inl refl
inserted_by_has Equal v w rest after same m = inl (sym (same refl))
inserted_by_has Greater v w rest after same m = inr m

inserted_has : (v : Value) (vs : List Value) → Among v (inserted v vs)
inserted_has v [] = inl refl
inserted_has v (w ∷ rest) = inserted_by_has (value_order v w) v w rest (inserted v rest) (order_same v w) (inserted_has v rest)

inserted_by_keeps : (order : Ordering) (u v w : Value) (rest after : List Value) → (Among u rest → Among u after) → Among u (w ∷ rest) → Among u (inserted_by order v w rest after)
inserted_by_keeps Less u v w rest after more m = inr m
inserted_by_keeps Equal u v w rest after more m = m
inserted_by_keeps Greater u v w rest after more m = elim m [ inl same ↦ inl same | inr there ↦ inr (more there) ]

inserted_keeps : (u v : Value) (vs : List Value) → Among u vs → Among u (inserted v vs)
inserted_keeps u v [] m = absurd m
inserted_keeps u v (w ∷ rest) m = inserted_by_keeps (value_order v w) u v w rest (inserted v rest) (inserted_keeps u v rest) m

sorted_keeps : (u : Value) (vs : List Value) → Among u vs → Among u (sorted vs)
sorted_keeps u [] m = absurd m
sorted_keeps u (v ∷ vs) m = elim m [
  | inl same ↦ subst (λ (x : Value). Among x (inserted v (sorted vs))) same (inserted_has v (sorted vs))
  | inr there ↦ inserted_keeps u v (sorted vs) (sorted_keeps u vs there)
]

-- ---- what the levels answered

answered_before : (events : ℕ → List Next) (depth k : ℕ) (reading : Reading) → k < depth → Among (Answer reading) (events k)
    → Among reading.value (answers_before events depth)
answered_before events zero k reading less m = let no : ⊥ = omega arith in absurd no
answered_before events (suc depth) k reading less m = elim (at_or_below k depth less) [
  | inl last ↦
      among_after (answers_before events depth) (flat_map answered_by (events depth)) reading.value
      (among_flat_at answered_by reading.value (Answer reading) (events depth) (subst (λ (n : ℕ). Among (Answer reading) (events n)) last m) (inl refl))
  | inr earlier ↦ in_prefix (answers_before events depth) (flat_map answered_by (events depth)) reading.value (answered_before events depth k reading earlier m)
]

quiet_decided : (event : Next) → is_quiet event ≡ true → is_decided event ≡ true
quiet_decided (Go states) quiet = refl
quiet_decided (Answer reading) quiet = refl
quiet_decided Fails quiet = refl
quiet_decided (Waits names) quiet = quiet
quiet_decided (Stops stop) quiet = quiet

pub search_kept : (program : Code) (claims : List Claim) (limits : Limits) (f : FunId) (arguments : Values) (values : List Value) (assigned : Assignment)
    → is_well_formed program ≡ true → AgreeWithSearches program limits claims → Found program limits f arguments values
    → Promises program claims (call_on program f arguments) assigned
    → (reading : Reading) × Among reading.value values × (is_ground reading.value ≡ true)
    × AnswersPromise program limits claims (call_on program f arguments) assigned reading
search_kept program claims limits f arguments values assigned well agree found promises =
    elim (steps_kept program claims limits start assigned found.depth well agree valid tt promises decided) [
      | inl kept ↦ answered kept
      | inr kept ↦ absurd (subst (λ (states : List State). Among kept.state states) found.ended kept.among)
    ]
  where
    start : State
    start = call_on program f arguments

    events : ℕ → List Next
    events = inner_events program limits f arguments

    valid : IsValid program start
    valid =
        let whole : takes (function_arity program f) (count arguments) ≡ true =
        subst (λ (o : Option ℕ). takes o (count arguments) ≡ true) (sym found.whole) (eq-eqb (count arguments) (count arguments) refl) in
        call_on_valid program f arguments well whole (all_built_fit program arguments found.built)

    decided : (k : ℕ) → k < found.depth → list_all is_decided (events k) ≡ true
    decided k less = all_follow is_quiet is_decided (events k) quiet_decided (found.quiet k)

    answered : KeptByAnswer program limits claims (next program limits) start assigned found.depth → (reading : Reading) × Among reading.value values
        × (is_ground reading.value ≡ true) × AnswersPromise program limits claims start assigned reading
    answered kept =
        let among : Among (Answer kept.reading) (events kept.level) =
        subst (λ (e : Next). Among e (events kept.level)) kept.answers
        (among_image (next program limits) kept.state (step_level program limits start kept.level) kept.among) in
        let quiet : is_quiet (next program limits kept.state) ≡ true =
        decided_at is_quiet (next program limits) kept.state (step_level program limits start kept.level) (found.quiet kept.level) kept.among in (
          kept.reading,
          subst (λ (vs : List Value). Among kept.reading.value vs) (sym found.collected)
              (sorted_keeps kept.reading.value (answers_before events found.depth) (answered_before events found.depth kept.level kept.reading kept.earlier among)),
          subst (λ (e : Next). is_quiet e ≡ true) kept.answers quiet,
          kept.answered,
        )
