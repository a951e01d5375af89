-- From a derivation to a loose assignment of the state in which a search begins.
use Rattle.std.proofs.Common.{◌≡◌, ◌≢◌, ℕ, zero, suc, ◌+◌, ◌<◌, inl, inr, true, List, [], ◌∷◌, ◌++◌, Option, None, Some, IsTrue, refl, ap, ap₂, sym, ◌∙◌, subst, length, true≢false, arith, length-append}
use Rattle.std.specs.List.{list_all}
use Rattle.std.specs.Prelude.{slice_index_or}
use Rattle.std.proofs.lemmas.Bool.{and_from, and_parts}
use Rattle.cu_calculus.specs.declared.FunId.{FunId}
use Rattle.cu_calculus.specs.declared.Head.TheVariants as head
use Rattle.cu_calculus.specs.Below as below
use Rattle.cu_calculus.specs.Below.{AllBelow, Below}
use Rattle.cu_calculus.specs.Claims.{Concludes, arguments_env, variables_from}
use Rattle.cu_calculus.specs.Code.{Code, body_of, function_arity}
use Rattle.cu_calculus.specs.FlatProgram.{program_of}
use Rattle.cu_calculus.specs.Gives.{AllGive, Applied, Claim}
use Rattle.cu_calculus.specs.Match.{Environment}
use Rattle.cu_calculus.specs.Program.{Program, arity_in}
use Rattle.cu_calculus.specs.Proof.{is_claim_of}
use Rattle.cu_calculus.specs.Shape.{are_data, are_ground, are_of, is_data, is_ground, is_of, is_total, is_total_data, takes}
use Rattle.cu_calculus.specs.Term as term
use Rattle.cu_calculus.specs.Term.{Terms}
use Rattle.cu_calculus.specs.Value as value
use Rattle.cu_calculus.specs.Value.{Value, Values, count, list_of}
use Rattle.cu_calculus.specs.WellFormed.{is_well_formed}
use Rattle.cu_calculus.proofs.CallStatements.{concludes_of}
use Rattle.cu_calculus.proofs.FlatFitting.{arity_kept}
use Rattle.cu_calculus.proofs.FlatValid.{program_valid}
use Rattle.cu_machine.specs.declared.Kind.TheVariants as kind
use Rattle.cu_machine.specs.Build.{kind_of_call, place_of, pushed}
use Rattle.cu_machine.specs.Graph.{Graph, Node, alone, node_at}
use Rattle.cu_machine.specs.Spell.{push_value, push_values}
use Rattle.cu_machine.specs.State.{Branch, Idle, State, call_on, free_nodes, numbers, start_of, start_on}
use Rattle.cu_laws.specs.Good.{Assignment, MayHave, NoValue, RisesTo}
use Rattle.cu_laws.specs.Solution.{HasSolution}
use Rattle.cu_laws.proofs.Built.{AllMay}
use Rattle.cu_laws.proofs.Binding.{length_free}
use Rattle.cu_laws.proofs.CameFrom.{takes_is}
use Rattle.cu_laws.proofs.Extended.{AllOf, Past, Pushed, all_may_join, all_may_rise, bottom_whole, nothing_pushed, pushed_both, whole_may}
use Rattle.cu_laws.proofs.Heads.{made_may, values_at}
use Rattle.cu_laws.proofs.Inversion.{variable_gives}
use Rattle.cu_laws.proofs.LooseNodes.{loosened}
use Rattle.cu_laws.proofs.Raising.{other_place, raise, raise_of, raise_rises, rises_trans, same_place}
use Rattle.cu_laws.proofs.Rising.{applied_rises, ground_total, may_rise}
use Rattle.cu_laws.proofs.TermForms.{more_form, none_form, whole_form}

-- ---- variables one after another

-- what they give is below what they stand for
variables_below : (program : Program) (claims : List Claim) (env : Environment) (x : ℕ) (vs us : Values) → ((k : ℕ) → env (x + k) ≡ slice_index_or (list_of vs) k value.Bottom)
    → AllGive program claims env (variables_from x (count vs)) us → AllBelow us vs
variables_below program claims env x value.NoValue us each given =
    subst (λ (ws : Values). AllBelow ws value.NoValue) (sym (none_form program claims env term.NoTerm us given refl)) below.none
variables_below program claims env x (value.MoreValues v vs) us each given =
    let one_more : count vs + 1 ≡ suc (count vs) = omega arith in
    let form = more_form program claims env (variables_from x (count vs + 1)) us given (term.Variable x) (variables_from (x + 1) (count vs)) (ap (variables_from x) one_more) in
    let first : x + 0 ≡ x = omega arith in
    let at_x : env x ≡ v = sym (ap env first) ∙ each 0 in
    subst (λ (ws : Values). AllBelow ws (value.MoreValues v vs)) (sym form.is)
    (below.more form.first v form.others vs
    (subst (λ (w : Value). Below form.first w) at_x (variable_gives program claims env (term.Variable x) form.first form.of_first x refl))
    (variables_below program claims env (x + 1) vs form.others (λ k. ap env (shift k) ∙ each (suc k)) form.of_others))
  where
    shift : (k : ℕ) → (x + 1) + k ≡ x + suc k
    shift k = omega arith

mutual
  ground_data : (v : Value) → is_ground v ≡ true → is_data v ≡ true
  ground_data value.Bottom ground = refl
  ground_data (value.Variable x) ground = refl
  ground_data (value.Literal l) ground = refl
  ground_data (value.Constructed c vs) ground = all_ground_data vs ground
  ground_data (value.Partial h vs) ground = ground

  all_ground_data : (vs : Values) → are_ground vs ≡ true → are_data vs ≡ true
  all_ground_data value.NoValue ground = refl
  all_ground_data (value.MoreValues v vs) ground =
      let parts = and_parts (is_ground v) (are_ground vs) ground in and_from (is_data v) (are_data vs) (ground_data v parts.0) (all_ground_data vs parts.1)

numbers_same : (high low : Assignment) (from n : ℕ) → ((x : ℕ) → x < from + n → high x ≡ low x) → values_at high (numbers from n) ≡ values_at low (numbers from n)
numbers_same high low from zero same = refl
numbers_same high low from (suc n) same =
    ap₂ value.MoreValues (same from (omega arith)) (numbers_same high low (from + 1) n (λ x below. same x (omega arith)))

module _ (program : Code) (claims : List Claim) where
  -- ---- one node more

  push_one : (assigned : Assignment) (next : ℕ) (nodes : List Node) (n : Node) (v : Value) → IsTrue (is_of (program_of program) v)
      → (first : Pushed program claims assigned next nodes) → MayHave NoValue program claims first.higher n.kind n.args v
      → (last : Pushed program claims assigned next (nodes ++ n ∷ [])) × (last.higher (next + length nodes) ≡ v)
      × ((x : ℕ) → x < next + length nodes → last.higher x ≡ first.higher x)
  push_one assigned next nodes n v of_v first may =
      let low = first.higher in
      let place = next + length nodes in
      let high = raise low place v in
      let up : RisesTo low high = raise_rises low place v (subst (λ (x : Value). Below x v) (sym (first.past place (omega arith))) (below.bottom v)) in
      let all : (id : ℕ) → IsTrue (is_of (program_of program) (high id)) = raise_of (program_of program) low place v of_v first.of_program in
      let others : (x : ℕ) → x ≢ place → high x ≡ low x = λ x other. other_place low place x v other in
      let at_place : high place ≡ v = same_place low place v in
      let long = length-append nodes (n ∷ []) in (
        record {
          higher = high;
          of_program = all;
          rises = rises_trans assigned low high first.rises up;
          same = λ x below. others x (λ is. let no : ⊥ = omega arith in no) ∙ first.same x below;
          past = λ x above. others x (λ is. let no : ⊥ = omega arith in no) ∙ first.past x (omega arith);
          may = all_may_join program claims high all next nodes (n ∷ [])
              (all_may_rise program claims low high first.of_program all next nodes up (λ x below. others x (λ is. let no : ⊥ = omega arith in no)) first.may)
              (subst (λ (x : Value). MayHave NoValue program claims high n.kind n.args x) (sym at_place) (may_rise NoValue program claims low high n.kind n.args v up may), tt);
        },
        at_place,
        λ x below. others x (λ is. let no : ⊥ = omega arith in no),
      )

  -- ---- ground data, cell by cell

  record PushedValue (assigned : Assignment) (next : ℕ) (v : Value) : Type 0 where
    pushes : Pushed program claims assigned next (pushed (push_value next v))
    inside : place_of next (push_value next v) < next + length (pushed (push_value next v))
    there : pushes.higher (place_of next (push_value next v)) ≡ v

  record PushedValues (assigned : Assignment) (next : ℕ) (vs : Values) : Type 0 where
    pushes : Pushed program claims assigned next (push_values next vs).nodes
    there : values_at pushes.higher (push_values next vs).ids ≡ vs

  mutual
    unfolding pushed_both

    push_ground : (assigned : Assignment) (next : ℕ) (v : Value) → AllOf program claims assigned → Past program claims assigned next → is_ground v ≡ true
        → is_of (program_of program) v ≡ true → PushedValue assigned next v
    push_ground assigned next value.Bottom all past ground of_v = absurd (true≢false (sym ground))
    push_ground assigned next (value.Variable x) all past ground of_v = absurd (true≢false (sym ground))
    push_ground assigned next (value.Literal l) all past ground of_v =
        let one = push_one assigned next [] (alone (kind.Lit l)) (value.Literal l) of_v (nothing_pushed program claims assigned next all past)
        (made_may program claims assigned (kind.Lit l) [] (value.Literal l) refl) in
        record { pushes = one.0; inside = omega arith; there = one.1 }
    push_ground assigned next (value.Constructed c vs) all past ground of_v =
        let parts = push_values next vs in
        let n : Node = record { kind = kind.Cons c; args = parts.ids } in
        let inner = push_all assigned next vs all past ground (and_parts (takes (arity_in (program_of program) (head.Con c)) (count vs)) (are_of (program_of program) vs) of_v).1 in
        let one = push_one assigned next parts.nodes n (value.Constructed c vs) of_v inner.pushes
        (made_may program claims inner.pushes.higher (kind.Cons c) parts.ids (value.Constructed c vs) (ap (λ (us : Values). Some (value.Constructed c us)) inner.there)) in
        let long = length-append parts.nodes (n ∷ []) in
        record { pushes = one.0; inside = omega arith; there = one.1 }
    push_ground assigned next (value.Partial h vs) all past ground of_v = absurd (true≢false (sym ground))

    push_all : (assigned : Assignment) (next : ℕ) (vs : Values) → AllOf program claims assigned → Past program claims assigned next → are_ground vs ≡ true
        → are_of (program_of program) vs ≡ true → PushedValues assigned next vs
    push_all assigned next value.NoValue all past ground of_vs = record { pushes = nothing_pushed program claims assigned next all past; there = refl }
    push_all assigned next (value.MoreValues v vs) all past ground of_vs =
        let grounds = and_parts (is_ground v) (are_ground vs) ground in
        let parts = and_parts (is_of (program_of program) v) (are_of (program_of program) vs) of_vs in
        let one = push_value next v in
        let later = next + length (pushed one) in
        let first = push_ground assigned next v all past grounds.0 parts.0 in
        let rest = push_all first.pushes.higher later vs first.pushes.of_program first.pushes.past grounds.1 parts.1 in
        record {
          pushes = pushed_both program claims assigned next (pushed one) (push_values later vs).nodes first.pushes rest.pushes;
          there = ap₂ value.MoreValues (rest.pushes.same (place_of next one) first.inside ∙ first.there) rest.there;
        }

  -- ---- free variables

  record PushedFree (assigned : Assignment) (next n : ℕ) (vs : Values) : Type 0 where
    pushes : Pushed program claims assigned next (free_nodes n)
    there : values_at pushes.higher (numbers next n) ≡ vs

  push_free : (assigned : Assignment) (next n : ℕ) (vs : Values) → n ≡ count vs → AllOf program claims assigned → Past program claims assigned next → are_ground vs ≡ true
      → are_of (program_of program) vs ≡ true → PushedFree assigned next n vs
  unfolding pushed_both
  push_free assigned next zero value.NoValue e all past ground of_vs = record { pushes = nothing_pushed program claims assigned next all past; there = refl }
  push_free assigned next zero (value.MoreValues v vs) e all past ground of_vs = let no : ⊥ = omega arith in absurd no
  push_free assigned next (suc n) value.NoValue e all past ground of_vs = let no : ⊥ = omega arith in absurd no
  push_free assigned next (suc n) (value.MoreValues v vs) e all past ground of_vs =
      let grounds = and_parts (is_ground v) (are_ground vs) ground in
      let parts = and_parts (is_of (program_of program) v) (are_of (program_of program) vs) of_vs in
      let total : IsTrue (is_total_data v) = and_from (is_total v) (is_data v) (ground_total v grounds.0) (ground_data v grounds.0) in
      let first = push_one assigned next [] (alone kind.Free) v parts.0 (nothing_pushed program claims assigned next all past) total in
      let low = first.0.higher in
      let rest = push_free low (next + 1) n vs (omega arith) first.0.of_program first.0.past grounds.1 parts.1 in
      let place : next + 0 ≡ next = omega arith in
      record {
        pushes = pushed_both program claims assigned next (alone kind.Free ∷ []) (free_nodes n) first.0 rest.pushes;
        there = ap₂ value.MoreValues (rest.pushes.same next (omega arith) ∙ ap low (sym place) ∙ first.1) rest.there;
      }

  -- ---- graphs of new nodes alone

  abbrev nothing : Assignment
  nothing x = value.Bottom

  may_at : (assigned : Assignment) (all : (id : ℕ) → IsTrue (is_of (program_of program) (assigned id))) (place : ℕ) (nodes : List Node) (k : ℕ)
      → AllMay program claims assigned all place nodes → k < length nodes
      → MayHave NoValue program claims assigned (node_at nodes k).kind (node_at nodes k).args (assigned (place + k))
  may_at assigned all place [] k may below = let no : ⊥ = omega arith in absurd no
  may_at assigned all place (n ∷ nodes) zero may below =
      let same : place ≡ place + 0 = omega arith in subst (λ (x : ℕ). MayHave NoValue program claims assigned n.kind n.args (assigned x)) same may.0
  may_at assigned all place (n ∷ nodes) (suc k) may below =
      let same : suc place + k ≡ place + suc k = omega arith in
      subst (λ (x : ℕ). MayHave NoValue program claims assigned (node_at nodes k).kind (node_at nodes k).args (assigned x)) same
      (may_at assigned all (suc place) nodes k may.1 (omega arith))

  solved : (graph : Graph) (root : ℕ) (goals : List ℕ) (arguments : Values) (v : Value) (pushes : Pushed program claims nothing 0 graph)
      → values_at pushes.higher goals ≡ arguments → pushes.higher root ≡ v → is_total v ≡ true → HasSolution program claims (Branch graph root goals Idle) arguments v
  solved graph root goals arguments v pushes arguments_are value_is total = record {
    assigned = pushes.higher;
    promises = record {
      loose = record {
        of_program = pushes.of_program;
        each = λ x below.
            let same : 0 + x ≡ x = omega arith in
            loosened program claims pushes.higher (node_at graph x).kind (node_at graph x).args (pushes.higher x)
            (subst (λ (y : ℕ). MayHave NoValue program claims pushes.higher (node_at graph x).kind (node_at graph x).args (pushes.higher y)) same
            (may_at pushes.higher pushes.of_program 0 graph x pushes.may below));
      };
      past = λ x above. pushes.past x (omega arith);
      total = ap is_total value_is ∙ total;
    };
    arguments_are = arguments_are;
    value_is = value_is;
  }

  -- ---- calls

  -- the call's node may have what the function concludes
  call_may : (high : Assignment) (f : FunId) (ids : List ℕ) (arguments : Values) (v : Value) → values_at high ids ≡ arguments
      → Concludes (program_of program) claims f arguments v → MayHave NoValue program claims high (kind_of_call f (body_of program f)) ids v
  call_may high f ids arguments v same concludes =
      let P = program_of program in
      let env = arguments_env arguments in
      let ts = variables_from 0 (count arguments) in
      let form = whole_form P claims env (term.Whole (head.Fun f) ts) v concludes.2 (head.Fun f) ts refl in
      let low = variables_below P claims env 0 arguments form.values (λ k. ap env (from_zero k)) form.given in
      elim form.whole [
        | inl none ↦
            subst (λ (x : Value). MayHave NoValue program claims high (kind_of_call f (body_of program f)) ids x) (sym none) (bottom_whole program claims high (head.Fun f) ids)
        | inr app ↦
            let more = applied_rises P claims (head.Fun f) form.values arguments v app low in
            whole_may program claims high (head.Fun f) ids v more.0 (subst (λ (us : Values). Applied P claims (head.Fun f) us more.0) (sym same) more.1) more.2
      ]
    where
      from_zero : (k : ℕ) → 0 + k ≡ k
      from_zero k = omega arith

  module _ (well : is_well_formed program ≡ true) (claimed : IsTrue (list_all (is_claim_of (program_of program)) claims)) where
    pub call_begins : (f : FunId) (arguments : Values) (v : Value) → are_ground arguments ≡ true → is_total v ≡ true → Concludes (program_of program) claims f arguments v
        → HasSolution program claims (call_on program f arguments) value.NoValue v
    call_begins f arguments v ground total concludes =
        let parts = push_values 0 arguments in
        let call : Node = record { kind = kind_of_call f (body_of program f); args = parts.ids } in
        let of_v = concludes_of (program_of program) claims f arguments v (program_valid program well) claimed concludes in
        let inner = push_all nothing 0 arguments (λ x. refl) (λ x above. refl) ground concludes.1 in
        let one = push_one nothing 0 parts.nodes call v of_v inner.pushes (call_may inner.pushes.higher f parts.ids arguments v inner.there concludes) in
        let place : 0 + length parts.nodes ≡ length parts.nodes = omega arith in
        solved (parts.nodes ++ call ∷ []) (length parts.nodes) [] value.NoValue v one.0 refl (ap one.0.higher (sym place) ∙ one.1) total

    on_variables : (goal : FunId) (arguments : Values) (v : Value) → are_ground arguments ≡ true → is_total v ≡ true → Concludes (program_of program) claims goal arguments v
        → HasSolution program claims (start_on program goal (count arguments)) arguments v
    on_variables goal arguments v ground total concludes =
        let n = count arguments in
        let call : Node = record { kind = kind_of_call goal (body_of program goal); args = numbers 0 n } in
        let of_v = concludes_of (program_of program) claims goal arguments v (program_valid program well) claimed concludes in
        let inner = push_free nothing 0 n arguments refl (λ x. refl) (λ x above. refl) ground concludes.1 in
        let one = push_one nothing 0 (free_nodes n) call v of_v inner.pushes (call_may inner.pushes.higher goal (numbers 0 n) arguments v inner.there concludes) in
        let free = length_free n in
        let place : 0 + length (free_nodes n) ≡ n = omega arith in
        solved (free_nodes n ++ call ∷ []) n (numbers 0 n) arguments v one.0
        (numbers_same one.0.higher inner.pushes.higher 0 n (λ x below. one.2 x (omega arith)) ∙ inner.there) (ap one.0.higher (sym place) ∙ one.1) total

    pub goal_begins : (goal : FunId) (arguments : Values) (v : Value) → are_ground arguments ≡ true → is_total v ≡ true → Concludes (program_of program) claims goal arguments v
        → HasSolution program claims (start_of program goal) arguments v
    goal_begins goal arguments v ground total concludes =
        let arity : function_arity program goal ≡ Some (count arguments) =
        takes_is (function_arity program goal) (count arguments)
        (ap (λ (o : Option ℕ). takes o (count arguments)) (sym (arity_kept program (head.Fun goal))) ∙ concludes.0) in
        let start : start_of program goal ≡ start_on program goal (count arguments) =
        ap (λ (o : Option ℕ). start_on program goal (elim o [ Some k ↦ k | None ↦ 0 ])) arity in
        subst (λ (s : State). HasSolution program claims s arguments v) (sym start) (on_variables goal arguments v ground total concludes)

pub conclusions_begin : (program : Code) (claims : List Claim) (f : FunId) (arguments : Values) (v : Value) → is_well_formed program ≡ true
    → IsTrue (list_all (is_claim_of (program_of program)) claims) → are_ground arguments ≡ true → is_total v ≡ true → Concludes (program_of program) claims f arguments v
    → HasSolution program claims (call_on program f arguments) value.NoValue v
conclusions_begin program claims f arguments v well claimed ground total concludes = call_begins program claims well claimed f arguments v ground total concludes

pub goals_begin : (program : Code) (claims : List Claim) (goal : FunId) (arguments : Values) (v : Value) → is_well_formed program ≡ true
    → IsTrue (list_all (is_claim_of (program_of program)) claims) → are_ground arguments ≡ true → is_total v ≡ true → Concludes (program_of program) claims goal arguments v
    → HasSolution program claims (start_of program goal) arguments v
goals_begin program claims goal arguments v well claimed ground total concludes = goal_begins program claims well claimed goal arguments v ground total concludes
