-- An answer covers what its state promises: the values of the free variables make an instance of
-- what is read off.
use Rattle.std.proofs.Common.{◌≡◌, ℕ, zero, suc, ◌+◌, Bool, true, false, ◌&&◌, ◌||◌, if◌then◌else◌, List, [], ◌∷◌, ◌++◌, refl, ap, ap₂, sym, ◌∙◌, subst, length, map, nat_eq, eqb-true, eq-eqb, Option, true≢false, arith}
use Rattle.std.proofs.lemmas.Bool.{and_from, and_parts}
use Rattle.cu_calculus.specs.declared.ConId.{ConId}
use Rattle.cu_calculus.specs.declared.Head.TheVariants as head
use Rattle.cu_calculus.specs.declared.Lit.TheVariants.{Char}
use Rattle.cu_calculus.specs.Code.{Code, arity_of}
use Rattle.cu_calculus.specs.FlatProgram.{program_of}
use Rattle.cu_calculus.specs.Gives.{Claim}
use Rattle.cu_calculus.specs.Program.{arity_in}
use Rattle.cu_calculus.specs.Shape.{are_ground, are_of, are_total, is_ground, is_of, is_total, takes}
use Rattle.cu_calculus.specs.Value as value
use Rattle.cu_calculus.specs.Value.{Value, Values, count, values_of}
use Rattle.cu_calculus.proofs.FlatFitting.{arity_kept}
use Rattle.cu_machine.specs.declared.Kind.{Kind}
use Rattle.cu_machine.specs.declared.Kind.TheVariants as kind
use Rattle.cu_machine.specs.declared.Limits.{Limits}
use Rattle.cu_machine.specs.Graph.{Graph, head_at, head_of}
use Rattle.cu_machine.specs.Need.{At, Dead, Done, Extent, Need, Throughout, Wait, before, first, is_head, need_all, need_at, need_within, rest_at}
use Rattle.cu_machine.specs.Next.{Answer, Reading, is_above, next, next_by, read, searched, spelled_all, stepped}
use Rattle.cu_machine.specs.Places.{holds, joined}
use Rattle.cu_machine.specs.Rewrite.{move}
use Rattle.cu_machine.specs.Spell.{all_renumbered, all_variables_in, ordinal, renumbered, spelled, spelled_at, spelled_within, variables_in, variables_of_all}
use Rattle.cu_machine.specs.State.{Branch, graph_of, Idle, Running, Search, State}
use Rattle.cu_machine.specs.Steps.{node}
use Rattle.cu_machine.specs.Validity.{IsValid, are_built, is_built}
use Rattle.cu_machine.proofs.DoneLaws.{head_of_done, then_first, then_second}
use Rattle.cu_machine.proofs.FirstLaws.{holds_joined}
use Rattle.cu_machine.proofs.Runs.{answer_if, answer_read, no_answer_moved, no_answer_search}
use Rattle.cu_laws.specs.Good.{Assignment, Loose}
use Rattle.cu_laws.specs.Instance.{IsInstance, all_filled, filled}
use Rattle.cu_laws.specs.Promises.{AnswersPromise, goals_of, root_of}
use Rattle.cu_laws.specs.Solution.{HasSolution}
use Rattle.cu_laws.proofs.Heads.{values_at}
use Rattle.cu_laws.proofs.LooseNodes.{head_above, head_most}
use Rattle.cu_laws.proofs.Readings.{goals_total, values_renumbered}
use Rattle.cu_laws.proofs.Rising.{ground_total, total_above}

-- ---- numbers of variables

-- ground data for what has none
abbrev pub default : Value
default = value.Literal (Char 0)

-- what a function gives the places in a list, by their numbers
abbrev numbered : (ℕ → Value) → List ℕ → ℕ → Value
numbered f [] n = default
numbered f (y ∷ ys) zero = default
numbered f (y ∷ ys) (suc zero) = f y
numbered f (y ∷ ys) (suc (suc n)) = numbered f ys (suc n)

record Numbered (f : ℕ → Value) (ys : List ℕ) (x : ℕ) : Type 0 where
  k : ℕ
  number_is : ordinal ys x ≡ suc k
  value_is : numbered f ys (suc k) ≡ f x

number_of_held : (f : ℕ → Value) (ys : List ℕ) (x : ℕ) → holds ys x ≡ true → Numbered f ys x
number_of_held f [] x held = absurd (true≢false (sym held))
number_of_held f (y ∷ ys) x held = by (nat_eq x y) refl held (number_of_held f ys x)
  where
    by : (b : Bool) → nat_eq x y ≡ b → (b || holds ys x) ≡ true → (holds ys x ≡ true → Numbered f ys x) → Numbered f (y ∷ ys) x
    by true same there after = record {
      k = 0;
      number_is = ap (λ (b : Bool). if b then 1 else elim (ordinal ys x) [ zero ↦ 0 | suc k ↦ suc k + 1 ]) same;
      value_is = ap f (sym (eqb-true x y same));
    }
    by false other there after =
        let rest = after there in
        record {
          k = suc rest.k;
          number_is = ap (λ (b : Bool). if b then 1 else elim (ordinal ys x) [ zero ↦ 0 | suc k ↦ suc k + 1 ]) other
              ∙ ap (λ (n : ℕ). elim n as (λ m. ℕ) [ zero ↦ 0 | suc k ↦ suc k + 1 ]) rest.number_is
              ∙ omega arith;
          value_is = rest.value_is;
        }

numbered_ordinal : (f : ℕ → Value) (ys : List ℕ) (x : ℕ) → holds ys x ≡ true → numbered f ys (ordinal ys x) ≡ f x
numbered_ordinal f ys x held = let found = number_of_held f ys x held in ap (numbered f ys) found.number_is ∙ found.value_is

-- what passes a test of data, or the ground data that stands for what doesn't
abbrev tested : (Value → Bool) → Value → Value
tested test v = if test v then v else default

numbered_built : (program : Code) (f : ℕ → Value) (ys : List ℕ) (n : ℕ) → ((x : ℕ) → is_built program (f x) ≡ true) → is_built program (numbered f ys n) ≡ true
numbered_built program f [] n each = refl
numbered_built program f (y ∷ ys) zero each = refl
numbered_built program f (y ∷ ys) (suc zero) each = each y
numbered_built program f (y ∷ ys) (suc (suc n)) each = numbered_built program f ys (suc n) each

tested_built : (program : Code) (v : Value) → is_built program (tested (is_built program) v) ≡ true
tested_built program v = by (is_built program v) refl
  where
    by : (b : Bool) → is_built program v ≡ b → is_built program (if b then v else default) ≡ true
    by true built = built
    by false other = refl

tested_same : (test : Value → Bool) (v : Value) → test v ≡ true → tested test v ≡ v
tested_same test v passes = ap (λ (b : Bool). if b then v else default) passes

-- ---- variables of values

-- each place in the one list is in the other
abbrev HeldBy : List ℕ → List ℕ → Type 0
HeldBy xs ys = (x : ℕ) → holds xs x ≡ true → holds ys x ≡ true

or_true : (b : Bool) → (b || true) ≡ true
or_true true = refl
or_true false = refl

held_first : (xs ys zs : List ℕ) → HeldBy (joined xs ys) zs → HeldBy xs zs
held_first xs ys zs each x held = each x (holds_joined xs ys x ∙ ap (λ (b : Bool). b || holds ys x) held)

held_second : (xs ys zs : List ℕ) → HeldBy (joined xs ys) zs → HeldBy ys zs
held_second xs ys zs each x held = each x (holds_joined xs ys x ∙ ap (λ (b : Bool). holds xs x || b) held ∙ or_true (holds xs x))

held_alone : (x : ℕ) → holds (x ∷ []) x ≡ true
held_alone x = ap (λ (b : Bool). b || false) (eq-eqb x x refl)

-- a value whose variables are numbered, and the values of the places for these numbers, are the
-- value with these for the places
module _ (program : Code) (number : ℕ → ℕ) (f substitution : ℕ → Value) (vars : List ℕ)
    (agree : (x : ℕ) → holds vars x ≡ true → is_built program (f x) ≡ true → substitution (number x) ≡ f x) where
  mutual
    filled_same : (v : Value) → HeldBy (variables_in v) vars → is_built program (filled f v) ≡ true → filled substitution (renumbered number v) ≡ filled f v
    filled_same value.Bottom held built = absurd (true≢false (sym built))
    filled_same (value.Variable x) held built = agree x (held x (held_alone x)) built
    filled_same (value.Literal l) held built = refl
    filled_same (value.Constructed c vs) held built =
        ap (value.Constructed c)
        (all_filled_same vs held (and_parts (takes (arity_of program (head.Con c)) (count (all_filled f vs))) (are_built program (all_filled f vs)) built).1)
    filled_same (value.Partial h vs) held built = absurd (true≢false (sym built))

    all_filled_same : (vs : Values) → HeldBy (all_variables_in vs) vars → are_built program (all_filled f vs) ≡ true
        → all_filled substitution (all_renumbered number vs) ≡ all_filled f vs
    all_filled_same value.NoValue held built = refl
    all_filled_same (value.MoreValues v vs) held built =
        let parts = and_parts (is_built program (filled f v)) (are_built program (all_filled f vs)) built in
        ap₂ value.MoreValues (filled_same v (held_first (variables_in v) (all_variables_in vs) vars held) parts.0)
        (all_filled_same vs (held_second (variables_in v) (all_variables_in vs) vars held) parts.1)

mutual
  total_renumbered : (number : ℕ → ℕ) (v : Value) → is_total (renumbered number v) ≡ is_total v
  total_renumbered number value.Bottom = refl
  total_renumbered number (value.Variable x) = refl
  total_renumbered number (value.Literal l) = refl
  total_renumbered number (value.Constructed c vs) = all_total_renumbered number vs
  total_renumbered number (value.Partial h vs) = all_total_renumbered number vs

  all_total_renumbered : (number : ℕ → ℕ) (vs : Values) → are_total (all_renumbered number vs) ≡ are_total vs
  all_total_renumbered number value.NoValue = refl
  all_total_renumbered number (value.MoreValues v vs) = ap₂ (λ (a b : Bool). a && b) (total_renumbered number v) (all_total_renumbered number vs)

-- ground data of the program's values are built
mutual
  pub built_from : (program : Code) (v : Value) → is_ground v ≡ true → is_of (program_of program) v ≡ true → is_built program v ≡ true
  built_from program value.Bottom ground of_program = ground
  built_from program (value.Variable x) ground of_program = ground
  built_from program (value.Literal l) ground of_program = of_program
  built_from program (value.Constructed c vs) ground of_program =
      let parts = and_parts (takes (arity_in (program_of program) (head.Con c)) (count vs)) (are_of (program_of program) vs) of_program in
      and_from (takes (arity_of program (head.Con c)) (count vs)) (are_built program vs)
      (ap (λ (o : Option ℕ). takes o (count vs)) (sym (arity_kept program (head.Con c))) ∙ parts.0) (all_built_from program vs ground parts.1)
  built_from program (value.Partial h vs) ground of_program = ground

  pub all_built_from : (program : Code) (vs : Values) → are_ground vs ≡ true → are_of (program_of program) vs ≡ true → are_built program vs ≡ true
  all_built_from program value.NoValue ground of_program = refl
  all_built_from program (value.MoreValues v vs) ground of_program =
      let grounds = and_parts (is_ground v) (are_ground vs) ground in
      let parts = and_parts (is_of (program_of program) v) (are_of (program_of program) vs) of_program in
      and_from (is_built program v) (are_built program vs) (built_from program v grounds.0 parts.0) (all_built_from program vs grounds.1 parts.1)

-- ---- what needs nothing spells a total value

both_done : (a b : Need) → before a b ≡ Done → (a ≡ Done) × (b ≡ Done)
both_done Done b same = (refl, same)
both_done Dead b same = let no : ⊥ = cc in absurd no
both_done (At id) b same = let no : ⊥ = cc in absurd no
both_done (Wait ids) Done same = let no : ⊥ = cc in absurd no
both_done (Wait ids) Dead same = let no : ⊥ = cc in absurd no
both_done (Wait ids) (Wait others) same = let no : ⊥ = cc in absurd no
both_done (Wait ids) (At id) same = let no : ⊥ = cc in absurd no

args_total : (needs : ℕ → Need) (part : ℕ → Value) (args : List ℕ) → ((x : ℕ) → needs x ≡ Done → is_total (part x) ≡ true) → first (map needs args) ≡ Done
    → are_total (values_of (map part args)) ≡ true
args_total needs part [] each done = refl
args_total needs part (arg ∷ args) each done =
    let both = both_done (needs arg) (first (map needs args)) done in
    and_from (is_total (part arg)) (are_total (values_of (map part args))) (each arg both.0) (args_total needs part args each both.1)

head_total : (needs : Extent → ℕ → Need) (part : ℕ → Value) (id : ℕ) (k : Kind) (args : List ℕ) → ((x : ℕ) → needs Throughout x ≡ Done → is_total (part x) ≡ true)
    → is_head k ≡ true → rest_at needs Throughout k args ≡ Done → is_total (spelled_at part id k args) ≡ true
head_total needs part id (kind.Cons c) args each heads done = args_total (needs Throughout) part args each done
head_total needs part id (kind.Part h) args each heads done = args_total (needs Throughout) part args each done
head_total needs part id (kind.Lit l) args each heads done = refl
head_total needs part id kind.Free args each heads done = refl
head_total needs part id _ args each heads done = absurd (true≢false (sym heads))

done_total : (depth : ℕ) (truth : ConId) (graph : Graph) (x : ℕ) → need_within depth truth graph Throughout x ≡ Done → is_total (spelled_within depth graph x) ≡ true
unfolding need_within spelled_within
done_total zero truth graph x done = let no : ⊥ = cc in absurd no
done_total (suc depth) truth graph x done =
    let needs = need_within depth truth graph in
    let outer = need_at truth graph needs (head_of graph x) (head_at graph x).kind (head_at graph x).args in
    let rest = rest_at needs Throughout (head_at graph x).kind (head_at graph x).args in
    head_total needs (spelled_within depth graph) (head_of graph x) (head_at graph x).kind (head_at graph x).args (done_total depth truth graph)
    (head_of_done truth graph needs (head_of graph x) (head_at graph x).kind (head_at graph x).args (then_first outer rest done)) (then_second outer rest done)

-- ---- answers need nothing

done_by : (program : Code) (limits : Limits) (graph : Graph) (root : ℕ) (goals : List ℕ) (what : Need) (r : Reading)
    → next_by program limits graph root goals what ≡ Answer r → what ≡ Done
done_by program limits graph root goals Done r same = refl
done_by program limits graph root goals Dead r same = let no : ⊥ = cc in absurd no
done_by program limits graph root goals (Wait ids) r same = let no : ⊥ = cc in absurd no
done_by program limits graph root goals (At id) r same = absurd (no_answer_moved program limits root goals graph id (move program graph id) r same)

answered_done : (program : Code) (limits : Limits) (graph : Graph) (root : ℕ) (goals : List ℕ) (search : Search) (r : Reading)
    → next program limits (Branch graph root goals search) ≡ Answer r → need_all program.special.truth graph root ≡ Done
unfolding next
answered_done program limits graph root goals Idle r same =
    done_by program limits graph root goals (need_all program.special.truth graph root) r
    (answer_if (is_above limits (length graph)) limits (next_by program limits graph root goals (need_all program.special.truth graph root)) r same)
answered_done program limits graph root goals (Running id found level) r same =
    absurd (no_answer_search program limits graph root goals id found level (stepped program limits level) r
    (answer_if (is_above limits (length graph)) limits (searched program limits graph root goals id found level (stepped program limits level)) r same))

-- ---- what a loose assignment gives places that spell total values

module _ (program : Code) (claims : List Claim) (graph : Graph) (assigned : Assignment) (loose : Loose program claims graph assigned) where
  args_filled : (part : ℕ → Value) (args : List ℕ) → ((x : ℕ) → is_total (part x) ≡ true → is_total (assigned x) ≡ true → filled assigned (part x) ≡ assigned x)
      → are_total (values_of (map part args)) ≡ true → are_total (values_at assigned args) ≡ true → all_filled assigned (values_of (map part args)) ≡ values_at assigned args
  args_filled part [] each total known = refl
  args_filled part (arg ∷ args) each total known =
      let totals = and_parts (is_total (part arg)) (are_total (values_of (map part args))) total in
      let parts = and_parts (is_total (assigned arg)) (are_total (values_at assigned args)) known in
      ap₂ value.MoreValues (each arg totals.0 parts.0) (args_filled part args each totals.1 parts.1)

  head_filled : (part : ℕ → Value) (x : ℕ) (k : Kind) (args : List ℕ)
      → ((y : ℕ) → is_total (part y) ≡ true → is_total (assigned y) ≡ true → filled assigned (part y) ≡ assigned y) → head_at graph x ≡ node k args
      → is_total (spelled_at part (head_of graph x) k args) ≡ true → is_total (assigned x) ≡ true → filled assigned (spelled_at part (head_of graph x) k args) ≡ assigned x
  head_filled part x (kind.Cons c) args each head_is total known =
      let most = value.Constructed c (values_at assigned args) in
      let same : assigned x ≡ most = total_above (assigned x) most (head_most program claims graph assigned x (kind.Cons c) args most loose head_is refl) known in
      ap (value.Constructed c) (args_filled part args each total (ap is_total (sym same) ∙ known)) ∙ sym same
  head_filled part x (kind.Part h) args each head_is total known =
      let most = value.Partial h (values_at assigned args) in
      let same : assigned x ≡ most = total_above (assigned x) most (head_most program claims graph assigned x (kind.Part h) args most loose head_is refl) known in
      ap (value.Partial h) (args_filled part args each total (ap is_total (sym same) ∙ known)) ∙ sym same
  head_filled part x (kind.Lit l) args each head_is total known =
      sym (total_above (assigned x) (value.Literal l) (head_most program claims graph assigned x (kind.Lit l) args (value.Literal l) loose head_is refl) known)
  head_filled part x kind.Free args each head_is total known =
      sym (total_above (assigned x) (assigned (head_of graph x)) (head_above program claims graph assigned loose (length graph) x) known)
  head_filled part x _ args each head_is total known = absurd (true≢false (sym total))

  filled_within : (depth x : ℕ) → is_total (spelled_within depth graph x) ≡ true → is_total (assigned x) ≡ true → filled assigned (spelled_within depth graph x) ≡ assigned x
  unfolding spelled_within
  filled_within zero x total known = absurd (true≢false (sym total))
  filled_within (suc depth) x total known =
      head_filled (spelled_within depth graph) x (head_at graph x).kind (head_at graph x).args (filled_within depth) refl total known

  -- ---- instances

  module _ (number : ℕ → ℕ) (substitution : ℕ → Value) (vars : List ℕ)
      (agree : (x : ℕ) → holds vars x ≡ true → is_built program (assigned x) ≡ true → substitution (number x) ≡ assigned x) where
    place_same : (x : ℕ) → HeldBy (variables_in (spelled graph x)) vars → is_total (spelled graph x) ≡ true → is_ground (assigned x) ≡ true
        → filled substitution (renumbered number (spelled graph x)) ≡ assigned x
    place_same x held total ground =
        let fills = filled_within (length graph) x total (ground_total (assigned x) ground) in
        let built : is_built program (filled assigned (spelled graph x)) ≡ true = ap (is_built program) fills ∙ built_from program (assigned x) ground (loose.of_program x) in
        filled_same program number assigned substitution vars agree (spelled graph x) held built ∙ fills

    places_same : (places others : List ℕ) → HeldBy (variables_of_all (map (spelled graph) (places ++ others))) vars
        → are_total (values_of (map (spelled graph) places)) ≡ true → are_ground (values_at assigned places) ≡ true
        → (all_filled substitution (values_of (map (λ place. renumbered number (spelled graph place)) places)) ≡ values_at assigned places)
        × HeldBy (variables_of_all (map (spelled graph) others)) vars
    places_same [] others held total ground = (refl, held)
    places_same (place ∷ places) others held total ground =
        let first_vars = variables_in (spelled graph place) in
        let more_vars = variables_of_all (map (spelled graph) (places ++ others)) in
        let totals = and_parts (is_total (spelled graph place)) (are_total (values_of (map (spelled graph) places))) total in
        let grounds = and_parts (is_ground (assigned place)) (are_ground (values_at assigned places)) ground in
        let rest = places_same places others (held_second first_vars more_vars vars held) totals.1 grounds.1 in
        (ap₂ value.MoreValues (place_same place (held_first first_vars more_vars vars held) totals.0 grounds.0) rest.0, rest.1)

loose_covered : (program : Code) (claims : List Claim) (graph : Graph) (root : ℕ) (goals : List ℕ) (search : Search) (assigned : Assignment)
    → IsValid program (Branch graph root goals search) → need_all program.special.truth graph root ≡ Done → Loose program claims graph assigned
    → are_ground (values_at assigned goals) ≡ true → is_ground (assigned root) ≡ true → IsInstance program (read graph root goals) (values_at assigned goals) (assigned root)
loose_covered program claims graph root goals search assigned valid done loose grounds ground =
    let vars = variables_of_all (spelled_all graph root goals) in
    let number = ordinal vars in
    let given : ℕ → Value = λ x. tested (is_built program) (assigned x) in
    let substitution = numbered given vars in
    let agree : (x : ℕ) → holds vars x ≡ true → is_built program (assigned x) ≡ true → substitution (number x) ≡ assigned x =
    λ x held built. numbered_ordinal given vars x held ∙ tested_same (is_built program) (assigned x) built in
    let all = places_same program claims graph assigned loose number substitution vars agree goals (root ∷ []) (λ x held. held)
    (sym (all_total_renumbered number (values_of (map (spelled graph) goals))) ∙ ap are_total (values_renumbered number (spelled graph) goals)
    ∙ goals_total program graph root goals search number valid) grounds in
    let total : is_total (spelled graph root) ≡ true = done_total (length graph) program.special.truth graph root done in
    record {
      substitution = substitution;
      ground = λ n. numbered_built program given vars n (λ x. tested_built program (assigned x));
      bindings_are = all.0;
      value_is = place_same program claims graph assigned loose number substitution vars agree root (held_first (variables_in (spelled graph root)) [] vars all.1) total ground;
    }

pub answer_covers : (program : Code) (claims : List Claim) (limits : Limits) (state : State) (reading : Reading) (assigned : Assignment) → IsValid program state
    → next program limits state ≡ Answer reading → Loose program claims (graph_of state) assigned → are_ground (values_at assigned (goals_of state)) ≡ true
    → is_ground (assigned (root_of state)) ≡ true → IsInstance program reading (values_at assigned (goals_of state)) (assigned (root_of state))
answer_covers program claims limits (Branch graph root goals search) reading assigned valid same loose grounds ground =
    subst (λ (r : Reading). IsInstance program r (values_at assigned goals) (assigned root)) (sym (answer_read program limits (Branch graph root goals search) reading same))
    (loose_covered program claims graph root goals search assigned valid (answered_done program limits graph root goals search reading same) loose grounds ground)

-- an answer that keeps the promise by which a state has a solution covers that solution
pub promise_covers : (program : Code) (claims : List Claim) (limits : Limits) (start : State) (reading : Reading) (arguments : Values) (v : Value)
    → (solution : HasSolution program claims start arguments v) → are_ground arguments ≡ true → is_ground v ≡ true
    → AnswersPromise program limits claims start solution.assigned reading → IsInstance program reading arguments v
promise_covers program claims limits start reading arguments v solution grounds ground answer =
    let later = answer.keeps.later in
    let arguments_are : values_at later (goals_of answer.state) ≡ arguments = ap values_of answer.keeps.goals ∙ solution.arguments_are in
    let value_is : later (root_of answer.state) ≡ v = answer.keeps.root ∙ solution.value_is in
    let covered = answer_covers program claims limits answer.state reading later answer.valid answer.answers answer.keeps.promises.loose (ap are_ground arguments_are ∙ grounds)
    (ap is_ground value_is ∙ ground) in
    record {
      substitution = covered.substitution;
      ground = covered.ground;
      bindings_are = covered.bindings_are ∙ arguments_are;
      value_is = covered.value_is ∙ value_is;
    }
