-- An answer is read off a state that comes from the start, so the goal has it as its value.
use Rattle.std.proofs.Common.{◌≡◌, ℕ, suc, ◌+◌, ◌-◌, inl, inr, true, List, [], ◌∷◌, ◌++◌, Option, None, Some, IsTrue, refl, ap, ap₂, sym, ◌∙◌, subst, length, eq-eqb, true≢false, arith, length-append, get_or-append-add}
use Rattle.std.specs.Prelude.{slice_index_or}
use Rattle.cu_calculus.specs.declared.ExprId.{ExprId}
use Rattle.cu_calculus.specs.declared.FunId.{FunId}
use Rattle.cu_calculus.specs.declared.Head.TheVariants as head
use Rattle.cu_calculus.specs.Below.{Below}
use Rattle.cu_calculus.specs.Calls.{call_statement}
use Rattle.cu_calculus.specs.Claims.{Concludes, arguments_env, variables_from}
use Rattle.cu_calculus.specs.Code as code
use Rattle.cu_calculus.specs.Code.{Code, body_of, function_arity, is_rule}
use Rattle.cu_calculus.specs.FlatProgram.{program_of}
use Rattle.cu_calculus.specs.Gives as gives
use Rattle.cu_calculus.specs.Gives.{AllGive, Applied, Claim, Gives}
use Rattle.cu_calculus.specs.Match.{Environment}
use Rattle.cu_calculus.specs.Program.{Program, arity_in}
use Rattle.cu_calculus.specs.Proved.{IsProved}
use Rattle.cu_calculus.specs.Shape.{are_of, takes}
use Rattle.cu_calculus.specs.Term as term
use Rattle.cu_calculus.specs.Value as value
use Rattle.cu_calculus.specs.Value.{Value, Values, count, list_of, values_of}
use Rattle.cu_calculus.specs.WellFormed.{is_well_formed}
use Rattle.cu_calculus.proofs.BelowLaws.{below_itself, below_trans}
use Rattle.cu_calculus.proofs.CallStatements.{concludes_proved}
use Rattle.cu_calculus.proofs.FlatFitting.{arity_kept}
use Rattle.cu_calculus.proofs.FlatValid.{program_valid}
use Rattle.cu_calculus.proofs.Weaken.{at_bottom, weaken}
use Rattle.cu_machine.specs.declared.Kind.TheVariants as kind
use Rattle.cu_machine.specs.declared.SearchLimits.{SearchLimits}
use Rattle.cu_machine.specs.Among.{Among}
use Rattle.cu_machine.specs.Build.{kind_of_call}
use Rattle.cu_machine.specs.Graph.{Graph, Node, node_at, stuck}
use Rattle.cu_machine.specs.Level.{level, level_by}
use Rattle.cu_machine.specs.Listing.{Answered, listing}
use Rattle.cu_machine.specs.Next.{Reading}
use Rattle.cu_machine.specs.Run.{reached, reading_at}
use Rattle.cu_machine.specs.Sets.{IsWithoutSets, code_is_without_sets, without}
use Rattle.cu_machine.specs.Spell.{ordinal, variables_of_all}
use Rattle.cu_machine.specs.State.{Branch, Idle, Search, State, free_nodes, graph_of, numbers, start_of, start_on}
use Rattle.cu_machine.specs.Steps.{node}
use Rattle.cu_machine.specs.Next.{spelled_all}
use Rattle.cu_machine.specs.Validity.{IsValid}
use Rattle.cu_machine.proofs.Depth.{rounds_list}
use Rattle.cu_machine.proofs.Runs.{answer_read, run_reaches}
use Rattle.cu_machine.proofs.Starts.{start_valid, start_without}
use Rattle.cu_laws.specs.Good.{Assignment, AtMost, Good, MayHave, NoValue}
use Rattle.cu_laws.proofs.Binding.{length_free, length_numbers}
use Rattle.cu_laws.proofs.CallRow.{rule_fits}
use Rattle.cu_laws.proofs.Changed.{Sound}
use Rattle.cu_laws.proofs.Follows.{ComesFrom, IsOn, comes_from_itself, level_on, reached_on_way}
use Rattle.cu_laws.proofs.Heads.{all_of, count_at, values_at}
use Rattle.cu_laws.proofs.Readings.{goals_total, read_off, valid_reading}
use Rattle.cu_laws.proofs.Rising.{all_total_above, values_rise}
use Rattle.cu_laws.proofs.Truth.{under_bottom}

-- ---- calls on values

-- variables one after another have the values of an environment
variables_give : (program : Program) (claims : List Claim) (env : Environment) (x : ℕ) (vs : Values)
    → ((k : ℕ) → env (x + k) ≡ slice_index_or (list_of vs) k value.Bottom) → AllGive program claims env (variables_from x (count vs)) vs
variables_give program claims env x value.NoValue each = gives.none env
variables_give program claims env x (value.MoreValues v vs) each =
    let more : suc (count vs) ≡ count vs + 1 = omega arith in
    let first : x + 0 ≡ x = omega arith in
    let at_x : env x ≡ v = sym (ap env first) ∙ each 0 in
    subst (λ (n : ℕ). AllGive program claims env (variables_from x n) (value.MoreValues v vs)) more
    (gives.more env (term.Variable x) (variables_from (x + 1) (count vs)) v vs
    (gives.variable env x v (subst (λ (u : Value). Below v u) (sym at_x) (below_itself v)))
    (variables_give program claims env (x + 1) vs (λ k. ap env (shift k) ∙ each (suc k))))
  where
    shift : (k : ℕ) → (x + 1) + k ≡ x + suc k
    shift k = omega arith

-- what a function gives on values, or less, it concludes
pub applied_concludes : (program : Program) (claims : List Claim) (f : FunId) (vs : Values) (v : Value) → takes (arity_in program (head.Fun f)) (count vs) ≡ true
    → IsTrue (are_of program vs) → AtMost (Applied program claims (head.Fun f) vs) v → Concludes program claims f vs v
applied_concludes program claims f vs v whole known most = (whole, known, by most)
  where
    by : AtMost (Applied program claims (head.Fun f) vs) v → Gives program claims (arguments_env vs) (term.Whole (head.Fun f) (variables_from 0 (count vs))) v
    by (inl none) = at_bottom program claims (arguments_env vs) _ v none
    by (inr found) =
        let env = arguments_env vs in
        let ts = variables_from 0 (count vs) in
        let given = gives.whole env (head.Fun f) ts vs found.0 (variables_give program claims env 0 vs (λ k. ap env (from_zero k))) found.1 in
        weaken program claims env env (term.Whole (head.Fun f) ts) found.0 v given (λ x. below_itself (env x)) found.2
      where
        from_zero : (k : ℕ) → 0 + k ≡ k
        from_zero k = omega arith

-- ---- the start

record RuleThere (o : Option code.Body) : Type 0 where
  params : List ℕ
  body : ExprId
  is : o ≡ Some (code.Rule params body)

rule_there : (o : Option code.Body) → is_rule o ≡ true → RuleThere o
rule_there None rule = absurd (true≢false (sym rule))
rule_there (Some (code.External operation)) rule = absurd (true≢false (sym rule))
rule_there (Some (code.Rule params body)) rule = record { params = params; body = body; is = refl }

-- the goal's call in the start state
start_node : (program : Code) (goal : FunId) (n : ℕ) → node_at (graph_of (start_on program goal n)) n ≡ node (kind_of_call goal (body_of program goal)) (numbers 0 n)
start_node program goal n =
    let call = node (kind_of_call goal (body_of program goal)) (numbers 0 n) in
    let place : length (free_nodes n) + 0 ≡ n = omega (arith, length_free n) in
    ap (λ (x : ℕ). node_at (free_nodes n ++ call ∷ []) x) (sym place) ∙ get_or-append-add (free_nodes n) (call ∷ []) 0 stuck

-- a good assignment of the start state: the goal concludes what it gives the root, and less
start_concludes : (program : Code) (claims : List Claim) (goal : FunId) (n : ℕ) (assigned : Assignment) (vs : Values) (v : Value) → is_rule (body_of program goal) ≡ true
    → is_well_formed program ≡ true → function_arity program goal ≡ Some n → Good program claims (graph_of (start_on program goal n)) assigned
    → vs ≡ values_at assigned (numbers 0 n) → Below v (assigned n) → Concludes (program_of program) claims goal vs v
start_concludes program claims goal n assigned vs v rule well arity good vs_are low =
    let P = program_of program in
    let args = numbers 0 n in
    let there = rule_there (body_of program goal) rule in
    let long = length-append (free_nodes n) (node (kind_of_call goal (body_of program goal)) args ∷ []) in
    let free = length_free n in
    let call : node_at (graph_of (start_on program goal n)) n ≡ node (kind.Call goal) args =
    start_node program goal n ∙ ap (λ (o : Option code.Body). node (kind_of_call goal o) args) there.is in
    let may : AtMost (Applied P claims (head.Fun goal) (values_at assigned args)) (assigned n) =
    subst (λ (m : Node). MayHave NoValue program claims assigned m.kind m.args (assigned n)) call (good.each n (omega arith)) in
    let whole : takes (arity_in P (head.Fun goal)) (count vs) ≡ true =
    ap₂ takes (arity_kept program (head.Fun goal) ∙ arity) (ap count vs_are ∙ count_at assigned args ∙ length_numbers 0 n) ∙ eq-eqb n n refl in
    let known : IsTrue (are_of P vs) = subst (λ (us : Values). IsTrue (are_of P us)) (sym vs_are) (all_of P assigned args good.of_program) in
    applied_concludes P claims goal vs v whole known
    (subst (λ (us : Values). AtMost (Applied P claims (head.Fun goal) us) v) (sym vs_are) (lower may))
  where
    lower : AtMost (Applied (program_of program) claims (head.Fun goal) (values_at assigned (numbers 0 n))) (assigned n)
        → AtMost (Applied (program_of program) claims (head.Fun goal) (values_at assigned (numbers 0 n))) v
    lower (inl none) = inl (under_bottom v (subst (λ (x : Value). Below v x) none low))
    lower (inr found) = inr (found.0, found.1, below_trans v (assigned n) found.0 low found.2)

-- ---- answers

abbrev pub number_of : Graph → ℕ → List ℕ → ℕ → ℕ
number_of graph root goals = ordinal (variables_of_all (spelled_all graph root goals))

-- What is read off a state, carried back to the start: the goal concludes it.
pub reading_concludes : (program : Code) (claims : List Claim) (goal : FunId) (n : ℕ) (graph : Graph) (root : ℕ) (goals : List ℕ) (search : Search) (number : ℕ → ℕ)
    → is_rule (body_of program goal) ≡ true → is_well_formed program ≡ true → function_arity program goal ≡ Some n → IsValid program (Branch graph root goals search)
    → root ≡ n → goals ≡ numbers 0 n → Sound program claims (graph_of (start_on program goal n)) (read_off number graph)
    → Concludes (program_of program) claims goal (values_at (read_off number graph) goals) (read_off number graph root)
reading_concludes program claims goal n graph root goals search number rule well arity valid root_is goals_are found =
    let assigned = read_off number graph in
    let earlier = found.0 in
    let total = goals_total program graph root goals search number valid in
    let same : values_at assigned goals ≡ values_at earlier goals =
    all_total_above (values_at assigned goals) (values_at earlier goals) (values_rise assigned earlier goals found.2) total in
    let low : Below (assigned root) (earlier n) = subst (λ (x : ℕ). Below (assigned root) (earlier x)) root_is (found.2 root) in
    start_concludes program claims goal n earlier (values_at assigned goals) (assigned root) rule well arity found.1 (same ∙ ap (values_at earlier) goals_are) low

-- the start state by the number of the goal's parameters
pub record Begins (program : Code) (goal : FunId) : Type 0 where
  pub n : ℕ
  pub arity : function_arity program goal ≡ Some n
  pub start_is : start_of program goal ≡ start_on program goal n

pub begins : (program : Code) (goal : FunId) → is_well_formed program ≡ true → is_rule (body_of program goal) ≡ true → Begins program goal
begins program goal well rule =
    let there = rule_there (body_of program goal) rule in
    let fits = rule_fits program goal there.params there.body well there.is in
    let arity : function_arity program goal ≡ Some fits.function.arity = ap (λ (o : Option code.Function). elim o [ Some function ↦ Some function.arity | None ↦ None ]) fits.at in
    record {
      n = fits.function.arity;
      arity = arity;
      start_is = ap (λ (o : Option ℕ). start_on program goal (elim o [ Some k ↦ k | None ↦ 0 ])) arity;
    }

-- ---- programs without set functions

pub answer_follows : (program : Code) (limits : SearchLimits) (goal : FunId) (depth : ℕ) (state : State) (reading : Reading) → is_well_formed program ≡ true
    → code_is_without_sets program ≡ true → is_rule (body_of program goal) ≡ true → Among state (level program limits (start_of program goal) depth)
    → reading ≡ reading_at (reached limits.stride program limits.step state) → Concludes (program_of program) [] goal (values_of reading.bindings) reading.value
answer_follows program limits goal depth state reading well plain rule m read_is =
    let start = start_of program goal in
    let begun = begins program goal well rule in
    let on : IsOn program [] start start = record {
      valid = start_valid program goal well rule;
      plain = start_without program goal rule;
      comes = comes_from_itself program [] start;
    } in
    let at_state = level_on program [] limits start well plain on depth state m in
    let last = reached limits.stride program limits.step state in
    let at_last = reached_on_way program [] limits.step start well plain (limits.stride - 1) state at_state in
    subst (λ (r : Reading). Concludes (program_of program) [] goal (values_of r.bindings) r.value) (sym read_is)
    (by last at_last.plain at_last.valid begun.n (subst (λ (s : State). ComesFrom program [] s last) begun.start_is at_last.comes) begun.arity)
  where
    by : (s : State) → IsWithoutSets s → IsValid program s → (n : ℕ) → ComesFrom program [] (start_on program goal n) s → function_arity program goal ≡ Some n
        → Concludes (program_of program) [] goal (values_of (reading_at s).bindings) (reading_at s).value
    by _ (without graph root goals all) valid n comes arity =
        let number = number_of graph root goals in
        reading_concludes program [] goal n graph root goals Idle number rule well arity valid comes.roots comes.goals
        (comes.backward (read_off number graph) (valid_reading program [] graph root goals Idle number valid))

-- a listed answer is read off a state of its level
pub listed_at : (program : Code) (limits : SearchLimits) (goal : FunId) (depth : ℕ) (reading : Reading)
    → Among (Answered depth reading) (listing program limits (start_of program goal)).lines
    → (state : State) × Among state (level program limits (start_of program goal) depth) × (reading ≡ reading_at (reached limits.stride program limits.step state))
unfolding level_by
listed_at program limits goal depth reading m =
    let found = rounds_list limits.rounds program limits (start_of program goal) 0 (record { answers = 0; waits = 0 }) _ depth reading refl m in (
      found.0,
      found.1,
      answer_read program limits.step (reached limits.stride program limits.step found.0) reading
          (sym (run_reaches (limits.stride - 1) program limits.step found.0) ∙ found.2),
    )

pub listed_concludes : (program : Code) (limits : SearchLimits) (goal : FunId) (depth : ℕ) (reading : Reading) → is_well_formed program ≡ true
    → code_is_without_sets program ≡ true → is_rule (body_of program goal) ≡ true
    → Among (Answered depth reading) (listing program limits (start_of program goal)).lines
    → Concludes (program_of program) [] goal (values_of reading.bindings) reading.value
listed_concludes program limits goal depth reading well plain rule m =
    let found = listed_at program limits goal depth reading m in
    answer_follows program limits goal depth found.0 reading well plain rule found.1 found.2

pub listed_proved : (program : Code) (limits : SearchLimits) (goal : FunId) (depth : ℕ) (reading : Reading) → is_well_formed program ≡ true
    → code_is_without_sets program ≡ true → is_rule (body_of program goal) ≡ true
    → Among (Answered depth reading) (listing program limits (start_of program goal)).lines
    → IsProved (program_of program) [] (call_statement goal (values_of reading.bindings) reading.value)
listed_proved program limits goal depth reading well plain rule m =
    concludes_proved (program_of program) [] goal (values_of reading.bindings) reading.value (program_valid program well) refl
    (listed_concludes program limits goal depth reading well plain rule m)
