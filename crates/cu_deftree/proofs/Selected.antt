-- The right side of the alternative that a value takes is reached in the lowered case distinction.
use Rattle.std.proofs.Common.{◌≡◌, ℕ, zero, suc, ◌+◌, ◌<◌, inl, inr, Bool, true, false, not, List, [], ◌∷◌, ◌++◌, if◌then◌else◌, cond, filter, length, map, Some, slice_get, IsTrue, refl, ap, ap₂, sym, ◌∙◌, subst, arith}
use Rattle.std.specs.List.{list_any}
use Rattle.std.proofs.lemmas.Option.{some_pair_parts}
use Rattle.cu_calculus.specs.declared.ConId.{ConId}
use Rattle.cu_calculus.specs.declared.FunId.{FunId}
use Rattle.cu_calculus.specs.declared.Head.TheVariants as head
use Rattle.cu_calculus.specs.declared.Lit.{Lit}
use Rattle.cu_calculus.specs.declared.Mode.{Mode}
use Rattle.cu_calculus.specs.declared.Mode.TheVariants.{Rigid}
use Rattle.cu_calculus.specs.declared.builtin.Primitive.{Primitive}
use Rattle.cu_calculus.specs.declared.builtin.Primitive.TheVariants as prim
use Rattle.cu_calculus.specs.Builtin as builtin
use Rattle.cu_calculus.specs.Builtin.{Compares, truth_of}
use Rattle.cu_calculus.specs.Choose as choose
use Rattle.cu_calculus.specs.Choose.{ALiteral, AConstructor, Again, Chooses, Demand, Look, Specialize, Nowhere, Take, at_constructor, at_literal, demand_of, leftmost, look, look_from, specialized_look, specialized_row, not_literal, rows_from, same_type, spliced, demands_constructor, demands_literal}
use Rattle.cu_calculus.specs.Choose.{alternative_at}
use Rattle.cu_calculus.specs.Gives as gives
use Rattle.cu_calculus.specs.Gives.{Claim, Gives}
use Rattle.cu_calculus.specs.Literal.{same_literal}
use Rattle.cu_calculus.specs.Flat.{is_flat_term, met_by}
use Rattle.cu_calculus.specs.Match.{Bindings, Environment, bind_all, matched}
use Rattle.cu_calculus.specs.Program.{External, Function, Program, function_of}
use Rattle.cu_calculus.specs.Term as term
use Rattle.cu_calculus.specs.Term.{Alternatives, Pattern, Term}
use Rattle.cu_calculus.specs.Valid.{fit_alternatives, fits_pattern, holds, is_linear, variables_of}
use Rattle.cu_calculus.specs.Value as value
use Rattle.cu_calculus.specs.Value.{Value, Values, list_of}
use Rattle.cu_calculus.proofs.Answering.{literal_is}
use Rattle.cu_calculus.proofs.BelowLaws.{below_itself}
use Rattle.cu_calculus.proofs.Choosing.{literal_itself}
use Rattle.cu_calculus.proofs.Fitting.{any}
use Rattle.cu_calculus.proofs.OfProgram.{EnvOf, bind_all_of, matched_of}
use Rattle.cu_deftree.specs.Lowering as lowering
use Rattle.cu_deftree.specs.Lowering.{Cases, Distinguishes, IsOperation, goes_on, literal_case, test_of, variables}
use Rattle.cu_deftree.specs.LoweredProgram as lowered
use Rattle.cu_deftree.specs.LoweredProgram.{Flattens, FunctionLowers}
use Rattle.cu_deftree.specs.Rows.{Names, Row, name_of, names_at, rows_of, constructors_at, demand_at, demands, literals_at, siblings, specialize, specialized}
use Rattle.cu_deftree.proofs.Alternatives.{Agree, Alike, alike_filter, alike_specialized, alternative_of, alternatives_alike, alternatives_fit, goes_same, goes_too, kept_at, look_constructor_all, look_constructor_other, look_constructor_some, look_literal_all, look_literal_other, look_literal_same, looks_at, map_at, same_demand, same_type_swaps, tests_agree, variable_there}
use Rattle.cu_deftree.proofs.Converse.{Ready, after_match, goes_at, goes_literal, numbers_count, numbers_low, ready_opened}
use Rattle.cu_deftree.proofs.FlatTrees.{distinguishes_flat}
use Rattle.cu_deftree.proofs.Levels.{stands_too}
use Rattle.cu_deftree.proofs.Meets.{bound_agrees, bound_in, built_matches, fits_meets, literal_matches, matched_binds, matched_fits, others_stay}
use Rattle.cu_deftree.proofs.Occurs.{constructor_occurs, literal_occurs, sibling_occurs}
use Rattle.cu_deftree.proofs.Opening.{AllLow, At, Known, Low, SameBelow, at_place, holds_append, inner, known_at, put, spliced_put}
use Rattle.cu_deftree.proofs.Reached.{Branched, Reached, RowHolds, apart, case_reached, constructor_met, holds_specialized, known_at_position, later, leaf_reached, reached_of}
use Rattle.cu_deftree.proofs.Sound.{truth_same}
use Rattle.cu_deftree.proofs.Suits.{Opens, filter_fits, row_fits}

-- ---- what follows a look

abbrev After : Program → List Value → ℕ → Look → Type 0
After program values choice Nowhere = ⊥
After program values choice (Take taken) = taken ≡ choice
After program values choice (Again fewer) = Chooses program fewer values choice
After program values choice (Specialize fewer parts) = Chooses program fewer parts choice

after : (program : Program) (rows : List choose.Row) (values : List Value) (choice : ℕ) (found : Look) → Chooses program rows values choice
    → look program rows values ≡ found → After program values choice found
after program _ _ _ found (choose.taken rows values choice e) f = subst (λ (l : Look). After program values choice l) (sym e ∙ f) refl
after program _ _ _ found (choose.again rows fewer values choice e p) f = subst (λ (l : Look). After program values choice l) (sym e ∙ f) p
after program _ _ _ found (choose.specialized_rows rows fewer values parts choice e p) f =
    subst (λ (l : Look). After program values choice l) (sym e ∙ f) p

abbrev kept_twins : (Demand → Bool) → ℕ → List choose.Row → List choose.Row
kept_twins test k twins = filter (λ twin. test (choose.demand_at k twin)) twins

-- where an alternative is taken among rows that pass a test, some row passes it
some_passes : (program : Program) (k n : ℕ) (test : Demand → Bool) (rows : List Row) (twins : List choose.Row) (parts : List Value) (choice : ℕ)
    → Alike rows twins → Chooses program (map (specialized_row k n) (kept_twins test k twins)) parts choice
    → (i : ℕ) × (row : Row) × (slice_get rows i ≡ Some row) × (test (demand_at k row) ≡ true)
some_passes program k n test [] [] parts choice alike chosen = absurd (after program [] parts choice Nowhere chosen refl)
some_passes program k n test [] (twin ∷ twins) parts choice alike chosen = absurd alike
some_passes program k n test (row ∷ rows) [] parts choice alike chosen = absurd alike
some_passes program k n test (row ∷ rows) (twin ∷ twins) parts choice alike chosen =
    by (test (choose.demand_at k twin)) refl chosen (λ p. some_passes program k n test rows twins parts choice alike.1 p)
  where
    by : (b : Bool) → test (choose.demand_at k twin) ≡ b
        → Chooses program (map (specialized_row k n) (cond b (twin ∷ kept_twins test k twins) (kept_twins test k twins))) parts choice
        → (Chooses program (map (specialized_row k n) (kept_twins test k twins)) parts choice
        → (i : ℕ) × (r : Row) × (slice_get rows i ≡ Some r) × (test (demand_at k r) ≡ true))
        → (i : ℕ) × (r : Row) × (slice_get (row ∷ rows) i ≡ Some r) × (test (demand_at k r) ≡ true)
    by true e p rest = (0, row, refl, ap test (sym (same_demand k row twin alike.0)) ∙ e)
    by false e p rest = let found = rest p in (suc found.0, found.1, found.2, found.3)

-- ---- rows of the alternative that is taken

-- whichever row has the number of the alternative that is taken holds, and has its right side
abbrev pub HoldAt : Environment → Environment → List Value → List Row → List choose.Row → ℕ → Term → Type 0
HoldAt E env vs rows twins choice body =
    (i : ℕ) (row : Row) (twin : choose.Row) → slice_get rows i ≡ Some row → slice_get twins i ≡ Some twin → twin.choice ≡ choice
    → RowHolds E env vs row × (row.body ≡ body)

hold_kept : (E env : Environment) (vs : List Value) (test : Row → Bool) (other : choose.Row → Bool) (rows : List Row) (twins : List choose.Row)
    (choice : ℕ) (body : Term) → Agree test other → Alike rows twins → HoldAt E env vs rows twins choice body
    → HoldAt E env vs (filter test rows) (filter other twins) choice body
hold_kept E env vs test other rows twins choice body agree alike h i row twin e f number =
    let before = kept_at rows twins test other i row twin agree alike e f in h before.place row twin before.there before.twin_there number

hold_specialized : (program : Program) (positions : List ℕ) (next k position : ℕ) (new : List ℕ) (test other : Demand → Bool) (rows : List Row)
    (twins : List choose.Row) (E env inside : Environment) (vs args : List Value) (choice : ℕ) (body : Term) → slice_get positions k ≡ Some position
    → ((p : Pattern) → test (demand_of p) ≡ true → IsTrue (fits_pattern program p) → Opens (length new) p (env position) args)
    → At inside new args → SameBelow next env inside → Ready program positions next rows env vs → Alike rows twins
    → ((d : Demand) → other d ≡ test d) → HoldAt E env vs rows twins choice body
    → HoldAt E inside (put k args vs) (specialize k new test rows) (map (specialized_row k (length args)) (kept_twins other k twins)) choice body
hold_specialized program positions next k position new test other rows twins E env inside vs args choice body place opens at same ready alike agree h i row twin
    e f number =
    let passes = λ (r : Row). test (demand_at k r) in
    let passes_too = λ (one : choose.Row). other (choose.demand_at k one) in
    let one = map_at (specialized k new) (filter passes rows) i row e in
    let two = map_at (specialized_row k (length args)) (filter passes_too twins) i twin f in
    let before = kept_at rows twins passes passes_too i one.0 two.0 (tests_agree k test other agree) alike one.1 two.1 in
    let choices : two.0.choice ≡ choice = ap (λ (r : choose.Row). r.choice) (sym two.2) ∙ number in
    let holding = h before.place one.0 two.0 before.there before.twin_there choices in
    let fits = row_fits program positions next rows before.place one.0 ready.fit before.there in (
      subst (λ (r : Row). RowHolds E inside (put k args vs) r) (sym one.2)
          (holds_specialized program positions next k position new test one.0 E env inside vs args place fits ready.at before.passes opens at same holding.0),
      ap (λ (r : Row). r.body) one.2 ∙ holding.1,
    )

-- ---- where a look leads

-- the branch of what stands at a position, and that the alternative is taken among the rows that go on there
data Goes (program : Program) (b : Bool) (k : ℕ) (twins : List choose.Row) (vs : List Value) (choice : ℕ) (w : Value) (cs : List ConId)
    (ls : List Lit) : Type 0 where
  to_constructor : (c : ConId) (us : Values) (j : ℕ) → w ≡ value.Constructed c us → slice_get cs j ≡ Some c
      → Chooses program (map (specialized_row k (length (list_of us))) (kept_twins (goes_too b (demands_constructor c)) k twins)) (put k (list_of us) vs) choice
      → Goes program b k twins vs choice w cs ls
  to_literal : (l : Lit) (j : ℕ) → w ≡ value.Literal l → slice_get ls j ≡ Some l
      → Chooses program (map (specialized_row k 0) (kept_twins (goes_too b (demands_literal l)) k twins)) (put k [] vs) choice
      → Goes program b k twins vs choice w cs ls

-- what the test of a literal answers, and that the alternative is taken among the rows that are left
data Differs (program : Program) (k : ℕ) (l : Lit) (twins : List choose.Row) (vs : List Value) (choice : ℕ) (w : Value) : Type 0 where
  is_same : w ≡ value.Literal l → Chooses program (map (specialized_row k 0) (kept_twins (goes_too true (demands_literal l)) k twins)) (put k [] vs) choice
      → Differs program k l twins vs choice w
  is_other : Compares w (value.Literal l) false → Chooses program (kept_twins (not_literal l) k twins) vs choice
      → Differs program k l twins vs choice w

module _ (program : Program) (positions : List ℕ) (next k position : ℕ) (row : Row) (rows : List Row) (twin : choose.Row) (twins : List choose.Row)
    (env : Environment) (vs : List Value) (choice : ℕ) (alike : Alike (row ∷ rows) (twin ∷ twins)) (leftmost_is : leftmost row.patterns ≡ Some k)
    (place : slice_get positions k ≡ Some position) (ready : Ready program positions next (row ∷ rows) env vs)
    (chosen : Chooses program (twin ∷ twins) vs choice) where
  value_there : slice_get vs k ≡ Some (env position)
  value_there = at_place env k positions vs position place ready.at

  parts_put : (fewer : List choose.Row) (args : List Value) → Chooses program fewer (spliced k args vs) choice
      → Chooses program fewer (put k args vs) choice
  parts_put fewer args p = subst (λ (ws : List Value). Chooses program fewer ws choice) (spliced_put k args vs (env position) value_there) p

  stuck : (w : Value) → env position ≡ w → choose.look_at program k twin (twin ∷ twins) vs (Some w) ≡ Nowhere → ⊥
  stuck w is e =
      after program (twin ∷ twins) vs choice Nowhere chosen
      (looks_at program k row twin twins vs w alike.0 leftmost_is (value_there ∙ ap Some is) ∙ e)

  all_demand_goes : list_any (λ other. not (demands k other)) (row ∷ rows) ≡ false
      → Goes program false k (twin ∷ twins) vs choice (env position) (constructors_at program k (row ∷ rows)) (literals_at k (row ∷ rows))
  all_demand_goes none = by (env position) refl
    where
      by : (w : Value) → env position ≡ w
          → Goes program false k (twin ∷ twins) vs choice (env position) (constructors_at program k (row ∷ rows)) (literals_at k (row ∷ rows))
      by value.Bottom is = absurd (stuck value.Bottom is refl)
      by (value.Variable x) is = absurd (stuck (value.Variable x) is refl)
      by (value.Partial h us) is = absurd (stuck (value.Partial h us) is refl)
      by (value.Literal l) is =
          let test = goes_too false (demands_literal l) in
          let fewer = map (specialized_row k 0) (kept_twins test k (twin ∷ twins)) in
          let rest =
          after program (twin ∷ twins) vs choice (specialized_look k test (twin ∷ twins) [] vs) chosen
          (look_literal_all program k row rows twin twins vs alike leftmost_is l (value_there ∙ ap Some is) none) in
          let some = some_passes program k 0 test (row ∷ rows) (twin ∷ twins) (spliced k [] vs) choice alike rest in
          let found = literal_occurs k (row ∷ rows) l some.0 some.1 some.2 some.3 in
          to_literal l found.0 is found.1 (parts_put fewer [] rest)
      by (value.Constructed c us) is =
          let test = goes_too false (demands_constructor c) in
          let args = list_of us in
          let fewer = map (specialized_row k (length args)) (kept_twins test k (twin ∷ twins)) in
          let rest =
          after program (twin ∷ twins) vs choice (specialized_look k test (twin ∷ twins) args vs) chosen
          (look_constructor_all program k row rows twin twins vs alike leftmost_is c us (value_there ∙ ap Some is) none) in
          let some = some_passes program k (length args) test (row ∷ rows) (twin ∷ twins) (spliced k args vs) choice alike rest in
          let known =
          known_at_position program positions next k position some.1 c (row_fits program positions next (row ∷ rows) some.0 some.1 ready.fit some.2) place
          some.3 in
          let found = constructor_occurs program k (row ∷ rows) c known.0 some.0 some.1 known.1 some.2 some.3 in
          to_constructor c us found.0 is found.1 (parts_put fewer args rest)

  first_constructor_goes : (d : ConId) → list_any (λ other. not (demands k other)) (row ∷ rows) ≡ true → demand_at k row ≡ AConstructor d
      → Goes program true k (twin ∷ twins) vs choice (env position) (siblings program d) []
  first_constructor_goes d some demand = by (env position) refl
    where
      variables : choose.has_variable k (twin ∷ twins) ≡ true
      variables = variable_there k (row ∷ rows) (twin ∷ twins) alike ∙ some

      by : (w : Value) → env position ≡ w → Goes program true k (twin ∷ twins) vs choice (env position) (siblings program d) []
      by value.Bottom is = absurd (stuck value.Bottom is refl)
      by (value.Variable x) is = absurd (stuck (value.Variable x) is refl)
      by (value.Partial h us) is = absurd (stuck (value.Partial h us) is refl)
      by (value.Literal l) is =
          absurd (stuck (value.Literal l) is
          (ap₂ (λ (e : Demand) (b : Bool). at_literal k l e b (twin ∷ twins) vs) (same_demand k row twin alike.0 ∙ demand) variables))
      by (value.Constructed c us) is = by_type (same_type program c d) refl
        where
          args : List Value
          args = list_of us

          test : Demand → Bool
          test = goes_too true (demands_constructor c)

          by_type : (b : Bool) → same_type program c d ≡ b → Goes program true k (twin ∷ twins) vs choice (env position) (siblings program d) []
          by_type true e =
              let fewer = map (specialized_row k (length args)) (kept_twins test k (twin ∷ twins)) in
              let rest =
              after program (twin ∷ twins) vs choice (specialized_look k test (twin ∷ twins) args vs) chosen
              (look_constructor_some program k row rows twin twins vs alike leftmost_is c d us (value_there ∙ ap Some is) some demand e) in
              let found = sibling_occurs program d c (same_type_swaps program c d e) in
              to_constructor c us found.0 is found.1 (parts_put fewer args rest)
          by_type false e =
              absurd (stuck (value.Constructed c us) is
              (ap₂ (λ (m : Demand) (b : Bool). at_constructor program k c m b (twin ∷ twins) args vs) (same_demand k row twin alike.0 ∙ demand) variables
              ∙ ap (λ (b : Bool). if b then specialized_look k test (twin ∷ twins) args vs else Nowhere) e))

  first_literal_differs : (l : Lit) → list_any (λ other. not (demands k other)) (row ∷ rows) ≡ true → demand_at k row ≡ ALiteral l
      → Differs program k l (twin ∷ twins) vs choice (env position)
  first_literal_differs l some demand = by (env position) refl
    where
      by : (w : Value) → env position ≡ w → Differs program k l (twin ∷ twins) vs choice (env position)
      by value.Bottom is = absurd (stuck value.Bottom is refl)
      by (value.Variable x) is = absurd (stuck (value.Variable x) is refl)
      by (value.Partial h us) is = absurd (stuck (value.Partial h us) is refl)
      by (value.Constructed c us) is =
          is_other (subst (λ (w : Value). Compares w (value.Literal l) false) (sym is) (builtin.literal_second c us l))
          (after program (twin ∷ twins) vs choice (Again (kept_twins (not_literal l) k (twin ∷ twins))) chosen
          (look_constructor_other program k row rows twin twins vs alike leftmost_is c us l (value_there ∙ ap Some is) some demand))
      by (value.Literal m) is = by_literal (same_literal m l) refl
        where
          by_literal : (b : Bool) → same_literal m l ≡ b → Differs program k l (twin ∷ twins) vs choice (env position)
          by_literal true e =
              let here : env position ≡ value.Literal l = is ∙ ap value.Literal (literal_is m l e) in
              let test = goes_too true (demands_literal l) in
              let fewer = map (specialized_row k 0) (kept_twins test k (twin ∷ twins)) in
              is_same here (parts_put fewer []
              (after program (twin ∷ twins) vs choice (specialized_look k test (twin ∷ twins) [] vs) chosen
              (look_literal_same program k row rows twin twins vs alike leftmost_is l (value_there ∙ ap Some here) some demand)))
          by_literal false e =
              is_other (subst (λ (w : Value). Compares w (value.Literal l) false) (sym is) (builtin.two_literals m l false (sym e)))
              (after program (twin ∷ twins) vs choice (Again (kept_twins (not_literal l) k (twin ∷ twins))) chosen
              (look_literal_other program k row rows twin twins vs alike leftmost_is m l (value_there ∙ ap Some is) some demand e))

-- ---- the test by `==`

-- a built-in operation is the same function in the flat program
pub record Stays (flat : Program) (operation : Primitive) (f : FunId) : Type 0 where
  pub function : Function
  pub there : function_of flat f ≡ Some function
  pub body : function.body ≡ External operation

pub operation_stays : (program flat : Program) → Flattens program flat → (operation : Primitive) (f : FunId) (function : Function)
    → function_of program f ≡ Some function → function.body ≡ External operation → Stays flat operation f
operation_stays program flat flattens operation f function e b =
    let found = stands_too program.functions flat.functions f.0 function (sym flattens.each) e in
    by found.0 found.1 (flattens.functions f.0 function found.0 e found.1)
  where
    by : (low : Function) → function_of flat f ≡ Some low → FunctionLowers program function low → Stays flat operation f
    by low there (lowered.external o _ h i) = record { function = low; there = there; body = ap (λ (x : Function). x.body) i ∙ b }
    by low there (lowered.by_tree rules xs t _ h i p g) = let no : ⊥ = cc in absurd no

test_gives : (program flat : Program) (claims : List Claim) → Flattens program flat → (env : Environment) (equal : FunId) (x : ℕ) (l : Lit)
    (answer : Bool) → IsOperation program prim.Equal equal → Compares (env x) (value.Literal l) answer
    → Gives flat claims env (test_of equal x l) (truth_of program answer)
test_gives program flat claims flattens env equal x l answer is compares =
    let low = operation_stays program flat flattens prim.Equal equal is.function is.is_there is.is_built_in in
    let last = value.MoreValues (value.Literal l) value.NoValue in
    let us = value.MoreValues (env x) last in
    gives.whole env (head.Fun equal) (term.MoreTerms (term.Variable x) (term.MoreTerms (term.Literal l) term.NoTerm)) us (truth_of program answer)
    (gives.more env (term.Variable x) (term.MoreTerms (term.Literal l) term.NoTerm) (env x) last (gives.variable env x (env x) (below_itself (env x)))
    (gives.more env (term.Literal l) term.NoTerm (value.Literal l) value.NoValue (gives.literal env l) (gives.none env)))
    (gives.builtin equal low.function prim.Equal us (truth_of program answer) low.there low.body
    (builtin.equal (env x) (value.Literal l) (truth_of program answer) answer compares (truth_same program flat (sym flattens.special) answer)))

literal_reached : (program flat : Program) (claims : List Claim) → Flattens program flat → (k : ℕ) (twins : List choose.Row) (vs : List Value) (choice : ℕ)
    (env : Environment) (equal : FunId) (x : ℕ) (l : Lit) (same other : Term) (v : Value) (E : Environment) (body : Term)
    → is_flat_term (literal_case program equal x l same other) ≡ true → IsOperation program prim.Equal equal
    → Differs program k l twins vs choice (env x)
    → (env x ≡ value.Literal l → Chooses program (map (specialized_row k 0) (kept_twins (goes_too true (demands_literal l)) k twins)) (put k [] vs) choice
    → Reached program flat claims env same v E body)
    → (Chooses program (kept_twins (not_literal l) k twins) vs choice → Reached program flat claims env other v E body)
    → Reached program flat claims env (literal_case program equal x l same other) v E body
literal_reached program flat claims flattens k twins vs choice env equal x l same other v E body is_flat is (is_same here chosen) p q =
    let truth = program.special.truth in
    let falsity = program.special.falsity in
    case_reached program flat claims env Rigid (test_of equal x l)
    (term.MoreAlternatives (term.Built truth term.NoPattern) same
    (term.MoreAlternatives (term.Built falsity term.NoPattern) other term.NoAlternative)) (truth_of program true) v E body is_flat
    (test_gives program flat claims flattens env equal x l true is
    (subst (λ (w : Value). Compares w (value.Literal l) true) (sym here) (builtin.two_literals l l true (sym (literal_itself l)))))
    (record {
      place = 0;
      pattern = term.Built truth term.NoPattern;
      right = same;
      bindings = [];
      at = refl;
      matches = built_matches truth term.NoPattern value.NoValue [] refl;
      met = refl;
      reached = p here chosen;
    })
literal_reached program flat claims flattens k twins vs choice env equal x l same other v E body is_flat is (is_other compares chosen) p q =
    let truth = program.special.truth in
    let falsity = program.special.falsity in
    case_reached program flat claims env Rigid (test_of equal x l)
    (term.MoreAlternatives (term.Built truth term.NoPattern) same
    (term.MoreAlternatives (term.Built falsity term.NoPattern) other term.NoAlternative)) (truth_of program false) v E body is_flat
    (test_gives program flat claims flattens env equal x l false is compares)
    (record {
      place = 1;
      pattern = term.Built falsity term.NoPattern;
      right = other;
      bindings = [];
      at = refl;
      matches = built_matches falsity term.NoPattern value.NoValue [] refl;
      met = refl;
      reached = q chosen;
    })

-- ---- case distinctions

module _ (program flat : Program) (claims : List Claim) (flattens : Flattens program flat) (ordered : program.special.falsity.0 < program.special.truth.0) where
  mutual
    distinguishes_reached : (mode : Mode) (positions : List ℕ) (next : ℕ) (rows : List Row) (t : Term)
        → Distinguishes program mode positions next rows t → (E env : Environment) (vs : List Value) (v : Value) (twins : List choose.Row) (choice : ℕ)
        (body : Term) → Alike rows twins → HoldAt E env vs rows twins choice body → Chooses program twins vs choice → EnvOf program env
        → Ready program positions next rows env vs → Reached program flat claims env t v E body
    distinguishes_reached _ _ _ _ _ (lowering.no_alternatives mode positions next f is) E env vs v [] choice body alike h chosen known ready =
        absurd (after program [] vs choice Nowhere chosen refl)
    distinguishes_reached _ _ _ _ _ (lowering.no_alternatives mode positions next f is) E env vs v (twin ∷ twins) choice body alike h chosen known ready =
        absurd alike
    distinguishes_reached _ _ _ _ t (lowering.taken mode positions next row rows _ e p) E env vs v [] choice body alike h chosen known ready = absurd alike
    distinguishes_reached _ _ _ _ t (lowering.taken mode positions next row rows _ e p) E env vs v (twin ∷ twins) choice body alike h chosen known ready =
        let number : twin.choice ≡ choice =
        after program (twin ∷ twins) vs choice (Take twin.choice) chosen
        (ap (look_from program twin (twin ∷ twins) vs) (ap leftmost alike.0 ∙ e)) in
        let first = h 0 row twin refl refl number in
        reached_of program flat claims env t v E row.body body first.1
        (leaf_reached program flat claims next row t E env vs v e p ready.fit.0.low known first.0)
    distinguishes_reached _ _ _ _ _ (lowering.all_demand mode positions next k x row rows a e f g p) E env vs v [] choice body alike h chosen known ready =
        absurd alike
    distinguishes_reached _ _ _ _ _ (lowering.all_demand mode positions next k x row rows a e f g p) E env vs v (twin ∷ twins) choice body alike h chosen
        known ready =
        case_reached program flat claims env mode (term.Variable x) a (env x) v E body
        (distinguishes_flat program (apart program flat claims ordered) mode positions next (row ∷ rows) (term.Case mode (term.Variable x) a)
        (lowering.all_demand mode positions next k x row rows a e f g p)) (gives.variable env x (env x) (below_itself (env x)))
        (cases_reached mode false positions next k (row ∷ rows) (constructors_at program k (row ∷ rows)) (literals_at k (row ∷ rows)) a p E x env vs v
        (twin ∷ twins) choice body f alike h known ready
        (all_demand_goes program positions next k x row rows twin twins env vs choice alike e f ready chosen g))
    distinguishes_reached _ _ _ _ _ (lowering.first_constructor mode positions next k x c row rows a e f g d p) E env vs v [] choice body alike h chosen known
        ready = absurd alike
    distinguishes_reached _ _ _ _ _ (lowering.first_constructor mode positions next k x c row rows a e f g d p) E env vs v (twin ∷ twins) choice body alike h
        chosen known ready =
        case_reached program flat claims env mode (term.Variable x) a (env x) v E body
        (distinguishes_flat program (apart program flat claims ordered) mode positions next (row ∷ rows) (term.Case mode (term.Variable x) a)
        (lowering.first_constructor mode positions next k x c row rows a e f g d p)) (gives.variable env x (env x) (below_itself (env x)))
        (cases_reached mode true positions next k (row ∷ rows) (siblings program c) [] a p E x env vs v (twin ∷ twins) choice body f alike h known ready
        (first_constructor_goes program positions next k x row rows twin twins env vs choice alike e f ready chosen c g d))
    distinguishes_reached _ _ _ _ _ (lowering.first_literal mode positions next k x equal l row rows a b e f g d is p q) E env vs v [] choice body alike h
        chosen known ready = absurd alike
    distinguishes_reached _ _ _ _ _ (lowering.first_literal mode positions next k x equal l row rows a b e f g d is p q) E env vs v (twin ∷ twins) choice body
        alike h chosen known ready =
        let test = goes_on true (demands_literal l) in
        let test_too = goes_too true (demands_literal l) in
        let agree = tests_agree k test test_too (goes_same true (demands_literal l)) in
        let others = λ (one : Row). not_literal l (demand_at k one) in
        let others_too = λ (one : choose.Row). not_literal l (choose.demand_at k one) in
        let agree_others = tests_agree k (not_literal l) (not_literal l) (λ y. refl) in
        literal_reached program flat claims flattens k (twin ∷ twins) vs choice env equal x l a b v E body
        (distinguishes_flat program (apart program flat claims ordered) mode positions next (row ∷ rows) (literal_case program equal x l a b)
        (lowering.first_literal mode positions next k x equal l row rows a b e f g d is p q)) is
        (first_literal_differs program positions next k x row rows twin twins env vs choice alike e f ready chosen l g d)
        (λ here taken.
        distinguishes_reached mode (spliced k [] positions) next (specialize k [] test (row ∷ rows)) a p E env (put k [] vs) v
        (map (specialized_row k 0) (kept_twins test_too k (twin ∷ twins))) choice body
        (alike_specialized k 0 [] (filter (λ one. test (demand_at k one)) (row ∷ rows)) (kept_twins test_too k (twin ∷ twins)) refl
        (alike_filter (λ one. test (demand_at k one)) (λ one. test_too (choose.demand_at k one)) (row ∷ rows) (twin ∷ twins) agree alike))
        (hold_specialized program positions next k x [] test test_too (row ∷ rows) (twin ∷ twins) E env env vs [] choice body f
        (λ y w fit. goes_literal program claims ordered true l (env x) y here w) tt (λ y low. refl) ready alike (goes_same true (demands_literal l)) h)
        taken known
        (ready_opened program positions next next k x [] test (row ∷ rows) env env vs [] (omega arith) tt f
        (λ y w fit. (goes_literal program claims ordered true l (value.Literal l) y refl w).many) tt (λ y low. refl) ready))
        (λ taken.
        distinguishes_reached mode positions next (filter others (row ∷ rows)) b q E env vs v (filter others_too (twin ∷ twins)) choice body
        (alike_filter others others_too (row ∷ rows) (twin ∷ twins) agree_others alike)
        (hold_kept E env vs others others_too (row ∷ rows) (twin ∷ twins) choice body agree_others alike h) taken known
        (record { at = ready.at; low = ready.low; fit = filter_fits program positions next others (row ∷ rows) ready.fit }))

    cases_reached : (mode : Mode) (b : Bool) (positions : List ℕ) (next k : ℕ) (rows : List Row) (cs : List ConId) (ls : List Lit) (a : Alternatives)
        → Cases program mode b positions next k rows cs ls a → (E : Environment) (position : ℕ) (env : Environment) (vs : List Value) (v : Value)
        (twins : List choose.Row) (choice : ℕ) (body : Term) → slice_get positions k ≡ Some position → Alike rows twins
        → HoldAt E env vs rows twins choice body → EnvOf program env → Ready program positions next rows env vs
        → Goes program b k twins vs choice (env position) cs ls → Branched program flat claims env a (env position) v E body
    cases_reached _ _ _ _ _ _ _ _ _ (lowering.no_case mode b positions next k rows) E position env vs v twins choice body place alike h known ready
        (to_constructor c us j is at chosen) = let no : ⊥ = cc in absurd no
    cases_reached _ _ _ _ _ _ _ _ _ (lowering.no_case mode b positions next k rows) E position env vs v twins choice body place alike h known ready
        (to_literal l j is at chosen) = let no : ⊥ = cc in absurd no
    cases_reached _ _ _ _ _ _ _ _ _ (lowering.constructor_case mode b positions next k n xs rows c cs ls s a count is p rest) E position env vs v twins
        choice body place alike h known ready (to_constructor d us zero w at chosen) =
        let same : c ≡ d = cc in
        let many : length xs ≡ n = ap length is ∙ numbers_count next n in
        let met = constructor_met program n xs c d us (env position) same count many w (known position) in
        let inside = bind_all env met.0 in
        let after_it = after_match env next n xs c (env position) met.0 is met.1 in
        let args = list_of after_it.us in
        let as_many : length xs ≡ length args = many ∙ sym after_it.many in
        let low = subst (λ (zs : List ℕ). AllLow (next + n) zs) (sym is) (numbers_low next (next + n) n (omega arith)) in
        let test = goes_on b (demands_constructor c) in
        let test_too = goes_too b (demands_constructor c) in
        let agree = tests_agree k test test_too (goes_same b (demands_constructor c)) in
        let both : value.Constructed d us ≡ value.Constructed c after_it.us = sym w ∙ after_it.is in
        let arguments : us ≡ after_it.us = cc in
        let taken : Chooses program (map (specialized_row k (length args)) (kept_twins test_too k twins)) (put k args vs) choice =
        subst (λ (ws : Values). Chooses program (map (specialized_row k (length (list_of ws))) (kept_twins test_too k twins)) (put k (list_of ws) vs) choice)
        arguments
        (subst (λ (e : ConId). Chooses program (map (specialized_row k (length (list_of us))) (kept_twins (goes_too b (demands_constructor e)) k twins))
        (put k (list_of us) vs) choice) (sym same) chosen) in
        record {
          place = 0;
          pattern = term.Built c (variables xs);
          right = s;
          bindings = met.0;
          at = refl;
          matches = met.1;
          met = met.2;
          reached = distinguishes_reached mode (spliced k xs positions) (next + n) (specialize k xs test rows) s p E inside (put k args vs) v
              (map (specialized_row k (length args)) (kept_twins test_too k twins)) choice body
              (alike_specialized k (length args) xs (filter (λ one. test (demand_at k one)) rows) (kept_twins test_too k twins) as_many
              (alike_filter (λ one. test (demand_at k one)) (λ one. test_too (choose.demand_at k one)) rows twins agree alike))
              (hold_specialized program positions next k position xs test test_too rows twins E env inside vs args choice body place
              (λ r g f. goes_at program claims ordered b c xs (env position) after_it.us r n many count after_it.is after_it.many g f) after_it.at
              after_it.same ready alike (goes_same b (demands_constructor c)) h) taken
              (bind_all_of program env met.0 known (matched_of program (term.Built c (variables xs)) (env position) met.0 met.1 (known position)))
              (ready_opened program positions next (next + n) k position xs test rows env inside vs args (omega arith) low place
              (λ r g f.
              (goes_at program claims ordered b c xs (value.Constructed c after_it.us) after_it.us r n many count refl after_it.many g f).many
              ∙ sym as_many) after_it.at after_it.same ready);
        }
    cases_reached _ _ _ _ _ _ _ _ _ (lowering.constructor_case mode b positions next k n xs rows c cs ls s a count is p rest) E position env vs v twins
        choice body place alike h known ready (to_constructor d us (suc j) w at chosen) =
        later program flat claims env (term.Built c (variables xs)) s a (env position) v E body
        (cases_reached mode b positions next k rows cs ls a rest E position env vs v twins choice body place alike h known ready
        (to_constructor d us j w at chosen))
    cases_reached _ _ _ _ _ _ _ _ _ (lowering.constructor_case mode b positions next k n xs rows c cs ls s a count is p rest) E position env vs v twins
        choice body place alike h known ready (to_literal l j w at chosen) =
        later program flat claims env (term.Built c (variables xs)) s a (env position) v E body
        (cases_reached mode b positions next k rows cs ls a rest E position env vs v twins choice body place alike h known ready
        (to_literal l j w at chosen))
    cases_reached _ _ _ _ _ _ _ _ _ (lowering.literal_of_case mode b positions next k rows l ls s a p rest) E position env vs v twins choice body place
        alike h known ready (to_constructor d us j w at chosen) = let no : ⊥ = cc in absurd no
    cases_reached _ _ _ _ _ _ _ _ _ (lowering.literal_of_case mode b positions next k rows l ls s a p rest) E position env vs v twins choice body place
        alike h known ready (to_literal m zero w at chosen) =
        let same : l ≡ m = cc in
        let here : env position ≡ value.Literal l = w ∙ ap value.Literal (sym same) in
        let test = goes_on b (demands_literal l) in
        let test_too = goes_too b (demands_literal l) in
        let agree = tests_agree k test test_too (goes_same b (demands_literal l)) in
        let taken : Chooses program (map (specialized_row k 0) (kept_twins test_too k twins)) (put k [] vs) choice =
        subst (λ (e : Lit). Chooses program (map (specialized_row k 0) (kept_twins (goes_too b (demands_literal e)) k twins)) (put k [] vs) choice) (sym same)
        chosen in
        record {
          place = 0;
          pattern = term.Exactly l;
          right = s;
          bindings = [];
          at = refl;
          matches = ap (matched (term.Exactly l)) here ∙ literal_matches l;
          met = ap met_by here;
          reached = distinguishes_reached mode (spliced k [] positions) next (specialize k [] test rows) s p E env (put k [] vs) v
              (map (specialized_row k 0) (kept_twins test_too k twins)) choice body
              (alike_specialized k 0 [] (filter (λ one. test (demand_at k one)) rows) (kept_twins test_too k twins) refl
              (alike_filter (λ one. test (demand_at k one)) (λ one. test_too (choose.demand_at k one)) rows twins agree alike))
              (hold_specialized program positions next k position [] test test_too rows twins E env env vs [] choice body place
              (λ r g f. goes_literal program claims ordered b l (env position) r here g) tt (λ x low. refl) ready alike
              (goes_same b (demands_literal l)) h) taken known
              (ready_opened program positions next next k position [] test rows env env vs [] (omega arith) tt place
              (λ r g f. (goes_literal program claims ordered b l (value.Literal l) r refl g).many) tt (λ x low. refl) ready);
        }
    cases_reached _ _ _ _ _ _ _ _ _ (lowering.literal_of_case mode b positions next k rows l ls s a p rest) E position env vs v twins choice body place
        alike h known ready (to_literal m (suc j) w at chosen) =
        later program flat claims env (term.Exactly l) s a (env position) v E body
        (cases_reached mode b positions next k rows [] ls a rest E position env vs v twins choice body place alike h known ready
        (to_literal m j w at chosen))

  -- the row of the alternative that is taken holds
  alternatives_hold : (names : Names) (position : ℕ) (alternatives : Alternatives) → IsTrue (fit_alternatives program any alternatives)
      → (high env : Environment) → ((x : ℕ) → high x ≡ env (name_of names x)) → (choice : ℕ) (p : Pattern) (body : Term) (bindings : Bindings)
      → alternative_at alternatives choice ≡ Some (p, body) → matched p (env position) ≡ Some bindings
      → HoldAt (bind_all high bindings) env (env position ∷ []) (rows_of names position alternatives) (rows_from 0 alternatives) choice body
  alternatives_hold names position alternatives fits high env same choice p body bindings at m i row twin e f number =
      let found = alternative_of program names position 0 alternatives i row twin fits e f in
      let place : i ≡ choice = let counted = found.choice in omega (arith, counted, number) in
      let both : alternative_at alternatives choice ≡ Some (found.p, found.t) =
      subst (λ (n : ℕ). alternative_at alternatives n ≡ Some (found.p, found.t)) place found.there in
      let pair = some_pair_parts found.p p found.t body (sym both ∙ at) in
      let linear : IsTrue (is_linear (variables_of p)) = subst (λ (q : Pattern). IsTrue (is_linear (variables_of q))) pair.0 found.linear in
      let whole : row ≡ record { patterns = p ∷ []; names = names_at position p ++ names; body = body } =
      found.is ∙ ap₂ (λ (q : Pattern) (t : Term). let r : Row = record { patterns = q ∷ []; names = names_at position q ++ names; body = t } in r) pair.0 pair.1 in
      let binds : bound_in bindings ≡ variables_of p = matched_binds p (env position) bindings m in
      let inside = bind_all high bindings in
      let fit = matched_fits inside p (env position) bindings m (bound_agrees high bindings (ap is_linear binds ∙ linear)) in (
        subst (λ (r : Row). RowHolds inside env (env position ∷ []) r) (sym whole)
            (record {
              meets = (fits_meets (Some inside) p (env position) fit, tt);
              named = λ x h.
                  named_in names position p bindings x same binds
                  (known_at inside env position p (env position) names x fit refl (holds_append x (inner p) [] h).0);
            }),
        ap (λ (r : Row). r.body) whole,
      )
    where
      named_in : (ns : Names) (place : ℕ) (q : Pattern) (b : Bindings) (x : ℕ) → ((y : ℕ) → high y ≡ env (name_of ns y))
          → bound_in b ≡ variables_of q → Known (bind_all high b) env (names_at place q ++ ns) ns x (variables_of q)
          → bind_all high b x ≡ env (name_of (names_at place q ++ ns) x)
      named_in ns place q b x equal binds (inl known) = known
      named_in ns place q b x equal binds (inr new) =
          others_stay high b x (ap (holds x) binds ∙ new.1) ∙ equal x ∙ ap env (sym new.0)

  pub alternative_reached : (mode : Mode) (names : Names) (position next : ℕ) (alternatives : Alternatives) (t : Term)
      → Distinguishes program mode (position ∷ []) next (rows_of names position alternatives) t → position < next → Low next names
      → IsTrue (fit_alternatives program any alternatives) → (high env : Environment) → ((x : ℕ) → high x ≡ env (name_of names x))
      → EnvOf program env → (choice : ℕ) (p : Pattern) (body : Term) (bindings : Bindings) (v : Value)
      → alternative_at alternatives choice ≡ Some (p, body) → matched p (env position) ≡ Some bindings
      → Chooses program (rows_from 0 alternatives) (env position ∷ []) choice
      → Reached program flat claims env t v (bind_all high bindings) body
  alternative_reached mode names position next alternatives t d here low fits high env same known choice p body bindings v at m chosen =
      distinguishes_reached mode (position ∷ []) next (rows_of names position alternatives) t d (bind_all high bindings) env (env position ∷ []) v
      (rows_from 0 alternatives) choice body (alternatives_alike names position 0 alternatives)
      (alternatives_hold names position alternatives fits high env same choice p body bindings at m) chosen known
      (record { at = (refl, tt); low = (here, tt); fit = alternatives_fit program names position next alternatives here low fits })
