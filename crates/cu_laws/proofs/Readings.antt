-- What is read off a graph is a good assignment of it.
use Rattle.std.proofs.Common.{◌≡◌, ℕ, zero, suc, ◌<◌, inl, true, false, List, [], ◌∷◌, Some, IsTrue, refl, ap, sym, ◌∙◌, subst, length, map, nat_lt, true≢false, ltb-true}
use Rattle.std.proofs.lemmas.Bool.{and_from, and_parts}
use Rattle.cu_calculus.specs.Below.{Below}
use Rattle.cu_calculus.specs.Code.{Code}
use Rattle.cu_calculus.specs.FlatProgram.{program_of}
use Rattle.cu_calculus.specs.Gives.{Claim}
use Rattle.cu_calculus.specs.Shape.{are_total, is_of, is_total, is_total_data}
use Rattle.cu_calculus.specs.Value as value
use Rattle.cu_calculus.specs.Value.{Value, Values, count, values_of}
use Rattle.cu_calculus.proofs.BelowLaws.{below_itself}
use Rattle.cu_machine.specs.declared.Kind.{Kind}
use Rattle.cu_machine.specs.declared.Kind.TheVariants as kind
use Rattle.cu_machine.specs.Graph.{Graph, Node, followed, head_at, head_of, node_at}
use Rattle.cu_machine.specs.Spell.{all_renumbered, renumbered, spelled, spelled_at, spelled_within}
use Rattle.cu_machine.specs.State.{Branch, Search}
use Rattle.cu_machine.specs.Steps.{node}
use Rattle.cu_machine.specs.Validity.{AllPlain, ArgumentsThere, IsAcyclic, IsValid, NodesFit, Plain, are_places, has_arguments, is_plain, more, none, plain}
use Rattle.cu_machine.proofs.Tables.{head_table, spelled_table}
use Rattle.cu_laws.specs.Good.{Assignment, Good, MayHave, NoValue}
use Rattle.cu_laws.proofs.Heads.{made_may, made_of, values_at}
use Rattle.cu_laws.proofs.Raising.{there_unless_stuck}

-- the value that a node spells, with its variables numbered
abbrev pub read_off : (ℕ → ℕ) → Graph → Assignment
read_off number graph id = renumbered number (spelled graph id)

pub values_renumbered : (number : ℕ → ℕ) (part : ℕ → Value) (args : List ℕ) → all_renumbered number (values_of (map part args)) ≡ values_of (map (λ arg. renumbered number (part arg)) args)
values_renumbered number part [] = refl
values_renumbered number part (arg ∷ args) = ap (value.MoreValues (renumbered number (part arg))) (values_renumbered number part args)

module _ (program : Code) (graph : Graph) (number : ℕ → ℕ) (fit : NodesFit program graph) where
  -- ---- values of the program

  OfProgram : (ℕ → Value) → Type 0
  OfProgram part = (id : ℕ) → IsTrue (is_of (program_of program) (renumbered number (part id)))

  spelled_of : (part : ℕ → Value) → ((id : ℕ) → IsTrue (is_of (program_of program) (renumbered number (part id)))) → (place : ℕ) (k : Kind) (args : List ℕ)
      → node_at graph place ≡ node k args → IsTrue (is_of (program_of program) (renumbered number (spelled_at part place k args)))
  spelled_of part all place (kind.Cons c) args is =
      let here = there_unless_stuck graph place (kind.Cons c) args is refl in
      let assigned : Assignment = λ arg. renumbered number (part arg) in
      subst (λ (us : Values). IsTrue (is_of (program_of program) (value.Constructed c us))) (sym (values_renumbered number part args))
      (made_of program assigned (kind.Cons c) args (value.Constructed c (values_at assigned args)) all
      (subst (λ (n : Node). has_arguments program n.kind (length n.args) ≡ true) is (fit place here)) refl)
  spelled_of part all place (kind.Part h) args is =
      let here = there_unless_stuck graph place (kind.Part h) args is refl in
      let assigned : Assignment = λ arg. renumbered number (part arg) in
      subst (λ (us : Values). IsTrue (is_of (program_of program) (value.Partial h us))) (sym (values_renumbered number part args))
      (made_of program assigned (kind.Part h) args (value.Partial h (values_at assigned args)) all
      (subst (λ (n : Node). has_arguments program n.kind (length n.args) ≡ true) is (fit place here)) refl)
  spelled_of part all place (kind.Lit l) args is =
      let here = there_unless_stuck graph place (kind.Lit l) args is refl in
      let assigned : Assignment = λ arg. renumbered number (part arg) in
      made_of program assigned (kind.Lit l) args (value.Literal l) all
      (subst (λ (n : Node). has_arguments program n.kind (length n.args) ≡ true) is (fit place here)) refl
  spelled_of part all place kind.Free args is = refl
  spelled_of part all place _ args is = refl

  within_of : (depth id : ℕ) → IsTrue (is_of (program_of program) (renumbered number (spelled_within depth graph id)))
  unfolding spelled_within
  within_of zero id = refl
  within_of (suc depth) id = spelled_of (spelled_within depth graph) (within_of depth) (head_of graph id) (head_at graph id).kind (head_at graph id).args refl

  -- ---- nodes

  module _ (claims : List Claim) (there : ArgumentsThere graph) (acyclic : IsAcyclic graph) where
    as_table : (id : ℕ) (k : Kind) (args : List ℕ) → id < length graph → node_at graph id ≡ node k args → head_of graph id ≡ id
        → spelled graph id ≡ spelled_at (spelled graph) id k args
    as_table id k args here is itself =
        spelled_table graph id there (acyclic id here) here
        ∙ ap (λ (x : ℕ). spelled_at (spelled graph) x (node_at graph x).kind (node_at graph x).args) itself
        ∙ ap (λ (n : Node). spelled_at (spelled graph) id n.kind n.args) is

    itself_unless : (id : ℕ) (k : Kind) (args : List ℕ) → id < length graph → node_at graph id ≡ node k args → followed (head_of graph) id k args ≡ id → head_of graph id ≡ id
    itself_unless id k args here is stays =
        head_table graph id there (acyclic id here) here ∙ ap (λ (n : Node). followed (head_of graph) id n.kind n.args) is ∙ stays

    -- a node of another kind spells nothing
    nothing : (id : ℕ) (k : Kind) (args : List ℕ) → id < length graph → node_at graph id ≡ node k args → followed (head_of graph) id k args ≡ id
        → spelled_at (spelled graph) id k args ≡ value.Bottom → read_off number graph id ≡ value.Bottom
    nothing id k args here is stays bottom = ap (renumbered number) (as_table id k args here is (itself_unless id k args here is stays) ∙ bottom)

    first_there : (target : ℕ) (args : List ℕ) → are_places (length graph) (target ∷ args) ≡ true → target < length graph
    first_there target args all = ltb-true target (length graph) (and_parts (nat_lt target (length graph)) (are_places (length graph) args) all).0

    reads : (id : ℕ) (k : Kind) (args : List ℕ) → id < length graph → node_at graph id ≡ node k args
        → MayHave NoValue program claims (read_off number graph) k args (read_off number graph id)
    reads id (kind.Cons c) args here is =
        let same = as_table id (kind.Cons c) args here is (itself_unless id (kind.Cons c) args here is refl) in
        let whole : read_off number graph id ≡ value.Constructed c (values_at (read_off number graph) args) =
        ap (renumbered number) same ∙ ap (value.Constructed c) (values_renumbered number (spelled graph) args) in
        made_may program claims (read_off number graph) (kind.Cons c) args (read_off number graph id) (ap Some (sym whole))
    reads id (kind.Lit l) args here is =
        let same = as_table id (kind.Lit l) args here is (itself_unless id (kind.Lit l) args here is refl) in
        made_may program claims (read_off number graph) (kind.Lit l) args (read_off number graph id) (ap Some (sym (ap (renumbered number) same)))
    reads id (kind.Part h) args here is =
        let same = as_table id (kind.Part h) args here is (itself_unless id (kind.Part h) args here is refl) in
        let whole : read_off number graph id ≡ value.Partial h (values_at (read_off number graph) args) =
        ap (renumbered number) same ∙ ap (value.Partial h) (values_renumbered number (spelled graph) args) in
        made_may program claims (read_off number graph) (kind.Part h) args (read_off number graph id) (ap Some (sym whole))
    reads id kind.Free args here is =
        let same = as_table id kind.Free args here is (itself_unless id kind.Free args here is refl) in
        subst (λ (v : Value). IsTrue (is_total_data v)) (sym (ap (renumbered number) same)) refl
    reads id kind.Ind (target ∷ args) here is =
        let places : are_places (length graph) (target ∷ args) ≡ true = subst (λ (n : Node). are_places (length graph) n.args ≡ true) is (there id here) in
        let below_target = first_there target args places in
        let leads : head_of graph id ≡ head_of graph target =
        head_table graph id there (acyclic id here) here ∙ ap (λ (n : Node). followed (head_of graph) id n.kind n.args) is in
        let same : spelled graph id ≡ spelled graph target =
        spelled_table graph id there (acyclic id here) here
        ∙ ap (λ (x : ℕ). spelled_at (spelled graph) x (node_at graph x).kind (node_at graph x).args) leads
        ∙ sym (spelled_table graph target there (acyclic target below_target) below_target) in
        subst (λ (v : Value). Below v (read_off number graph target)) (sym (ap (renumbered number) same)) (below_itself (read_off number graph target))
    reads id kind.Ind [] here is = inl (nothing id kind.Ind [] here is refl refl)
    reads id (kind.Call f) args here is = inl (nothing id (kind.Call f) args here is refl refl)
    reads id (kind.Prim operation) args here is = inl (nothing id (kind.Prim operation) args here is refl refl)
    reads id kind.Apply args here is = inl (nothing id kind.Apply args here is refl refl)
    reads id (kind.Case mode e) args here is = inl (nothing id (kind.Case mode e) args here is refl refl)
    reads id kind.Or args here is = inl (nothing id kind.Or args here is refl refl)
    reads id (kind.SetCall f) args here is = inl (nothing id (kind.SetCall f) args here is refl refl)
    reads id kind.Fail args here is = nothing id kind.Fail args here is refl refl
    reads id kind.Stuck args here is = nothing id kind.Stuck args here is refl refl

    pub reading_good : Good program claims graph (read_off number graph)
    reading_good = record {
      of_program = within_of (length graph);
      each = λ id below. reads id (node_at graph id).kind (node_at graph id).args below refl;
    }

    -- ---- total values

    -- a node from which only data are reached, where what its arguments spell is total
    total_at : (id : ℕ) (k : Kind) (args : List ℕ) → id < length graph → node_at graph id ≡ node k args → is_plain k ≡ true
        → are_total (values_at (read_off number graph) args) ≡ true → is_total (read_off number graph id) ≡ true
    total_at id (kind.Cons c) args here is data_only total =
        let same = as_table id (kind.Cons c) args here is (itself_unless id (kind.Cons c) args here is refl) in
        let whole : read_off number graph id ≡ value.Constructed c (values_at (read_off number graph) args) =
        ap (renumbered number) same ∙ ap (value.Constructed c) (values_renumbered number (spelled graph) args) in
        ap is_total whole ∙ total
    total_at id (kind.Lit l) args here is data_only total =
        ap (λ (v : Value). is_total (renumbered number v)) (as_table id (kind.Lit l) args here is (itself_unless id (kind.Lit l) args here is refl))
    total_at id kind.Free args here is data_only total =
        ap (λ (v : Value). is_total (renumbered number v)) (as_table id kind.Free args here is (itself_unless id kind.Free args here is refl))
    total_at id kind.Ind (target ∷ args) here is data_only total =
        let places : are_places (length graph) (target ∷ args) ≡ true = subst (λ (n : Node). are_places (length graph) n.args ≡ true) is (there id here) in
        let below_target = first_there target args places in
        let leads : head_of graph id ≡ head_of graph target =
        head_table graph id there (acyclic id here) here ∙ ap (λ (n : Node). followed (head_of graph) id n.kind n.args) is in
        let same : spelled graph id ≡ spelled graph target =
        spelled_table graph id there (acyclic id here) here
        ∙ ap (λ (x : ℕ). spelled_at (spelled graph) x (node_at graph x).kind (node_at graph x).args) leads
        ∙ sym (spelled_table graph target there (acyclic target below_target) below_target) in
        ap (λ (v : Value). is_total (renumbered number v)) same
        ∙ (and_parts (is_total (read_off number graph target)) (are_total (values_at (read_off number graph) args)) total).0
    total_at id kind.Ind [] here is data_only total = absurd (true≢false (sym (sym (only_one is) ∙ fit id here)))
      where
        only_one : node_at graph id ≡ node kind.Ind [] → has_arguments program (node_at graph id).kind (length (node_at graph id).args) ≡ false
        only_one e = ap (λ (n : Node). has_arguments program n.kind (length n.args)) e
    total_at id _ args here is data_only total = absurd (true≢false (sym data_only))

    mutual
      pub plain_total : (id : ℕ) → Plain graph id → id < length graph → is_total (read_off number graph id) ≡ true
      plain_total _ (plain id data_only args) here =
          total_at id (node_at graph id).kind (node_at graph id).args here refl data_only (all_plain_total (node_at graph id).args args (there id here))

      pub all_plain_total : (ids : List ℕ) → AllPlain graph ids → are_places (length graph) ids ≡ true → are_total (values_at (read_off number graph) ids) ≡ true
      all_plain_total _ none places = refl
      all_plain_total _ (more id ids first rest) places =
          let parts = and_parts (nat_lt id (length graph)) (are_places (length graph) ids) places in
          and_from (is_total (read_off number graph id)) (are_total (values_at (read_off number graph) ids))
          (plain_total id first (ltb-true id (length graph) parts.0)) (all_plain_total ids rest parts.1)

-- ---- valid states

pub valid_reading : (program : Code) (claims : List Claim) (graph : Graph) (root : ℕ) (goals : List ℕ) (search : Search) (number : ℕ → ℕ)
    → IsValid program (Branch graph root goals search) → Good program claims graph (read_off number graph)
unfolding IsValid
valid_reading program claims graph root goals search number valid =
    reading_good program graph number valid.0.nodes claims valid.0.arguments valid.0.acyclic

pub goals_total : (program : Code) (graph : Graph) (root : ℕ) (goals : List ℕ) (search : Search) (number : ℕ → ℕ)
    → IsValid program (Branch graph root goals search) → are_total (values_at (read_off number graph) goals) ≡ true
unfolding IsValid
goals_total program graph root goals search number valid =
    all_plain_total program graph number valid.0.nodes [] valid.0.arguments valid.0.acyclic goals valid.0.goals_plain valid.0.goals_there
