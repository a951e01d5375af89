-- Where searches for all values of a function begin.
use Rattle.std.proofs.Common.{◌≡◌, ℕ, suc, ◌+◌, ◌<◌, Bool, true, false, not, List, [], ◌∷◌, ◌++◌, Option, None, Some, if◌then◌else◌, length, map, drop, get_or, nat_lt, refl, ap, sym, ◌∙◌, subst, arith, append-nil, length-append}
use Rattle.std.proofs.lemmas.Bool.{lt-ltb, ltb-true}
use Rattle.std.proofs.lemmas.List.{append_assoc}
use Rattle.std.proofs.Math.Seq.{drop-cons}
use Rattle.cu_calculus.specs.declared.FunId.{FunId}
use Rattle.cu_calculus.specs.Code.{Code, body_of}
use Rattle.cu_calculus.specs.Shape.{are_data}
use Rattle.cu_calculus.specs.Value as value
use Rattle.cu_calculus.specs.Value.{Value, Values, count, values_of}
use Rattle.cu_machine.specs.declared.Kind.{Kind}
use Rattle.cu_machine.specs.declared.Kind.TheVariants as kind
use Rattle.cu_machine.specs.declared.Limits.{Limits}
use Rattle.cu_machine.specs.Build.{Built, BuiltParts, build_node, kind_of_call, place_of, pushed}
use Rattle.cu_machine.specs.Graph.{Graph, node_at}
use Rattle.cu_machine.specs.Next as next_def
use Rattle.cu_machine.specs.Next.{Go, Next, begun, is_above, is_too_large, moved, read, spelled_all, too_large}
use Rattle.cu_machine.specs.Rewrite.{Collect, Move, move, rewrite_step, set_call_step, stuck_step}
use Rattle.cu_machine.specs.Spell.{all_cells, all_renumbered, cells, cells_of_all, ordinal, push_value, push_values, renumbered, spelled, variables_of_all}
use Rattle.cu_machine.specs.State.{Branch, Idle, MoreStates, NoState, Running, State, call_on, graph_of, states_of}
use Rattle.cu_step.specs.declared.occurs.Sought.TheVariants as sought
use Rattle.cu_step.specs.Inside.Occurring.{are_reached}
use Rattle.cu_step.proofs.Occurrences.{any_part}

-- ---- reading the arguments

both_read : (b : Bool) (x y : next_def.Reading) (f : next_def.Reading → List Value) (vs ws : List Value) → Some x ≡ (if b then None else Some y) → vs ≡ f x → f y ≡ ws
    → Some vs ≡ (if b then None else Some ws)
both_read true x y f vs ws is same reads = let no : ⊥ = cc in absurd no
both_read false x y f vs ws is same reads = let e : x ≡ y = cc in ap Some (same ∙ (ap f e ∙ reads))

read_maps : (number : ℕ → ℕ) (graph : Graph) (others : List ℕ) (last : ℕ)
    → map (λ arg. renumbered number (spelled graph arg)) others ++ renumbered number (spelled graph last) ∷ [] ≡ map (renumbered number) (map (spelled graph) (others ++ last ∷ []))
read_maps number graph [] last = refl
read_maps number graph (arg ∷ others) last = ap (λ (vs : List Value). renumbered number (spelled graph arg) ∷ vs) (read_maps number graph others last)

module _ (graph : Graph) (limit : ℕ) where
  -- what the values of arguments are to be
  abbrev pub values_read : List ℕ → Option (List Value)
  values_read args =
      if nat_lt limit (cells_of_all (map (spelled graph) args)) then None
      else Some (map (renumbered (ordinal (variables_of_all (map (spelled graph) args)))) (map (spelled graph) args))

  pub some_read : (args others : List ℕ) (last : ℕ) (reading : next_def.Reading) (values : List Value) → args ≡ others ++ last ∷ []
      → Some reading ≡ (if nat_lt limit (cells_of_all (spelled_all graph last others)) then None else Some (read graph last others))
      → values ≡ reading.bindings ++ reading.value ∷ [] → Some values ≡ values_read args
  some_read args others last reading values is some all =
      subst (λ (xs : List ℕ). Some values ≡ values_read xs) (sym is)
      (both_read (nat_lt limit (cells_of_all (map (spelled graph) (others ++ last ∷ [])))) reading (read graph last others) (λ r. r.bindings ++ r.value ∷ []) values _ some all
      (read_maps (ordinal (variables_of_all (spelled_all graph last others))) graph others last))

-- ---- nodes of values

count_whole : (k : Kind) (parts : BuiltParts) (n : ℕ) → length parts.nodes ≡ n → length (parts.nodes ++ record { kind = k; args = parts.ids } ∷ []) ≡ n + 1
count_whole k parts n counts = length-append parts.nodes (record { kind = k; args = parts.ids } ∷ []) ∙ ap (λ (n : ℕ). n + 1) counts

mutual
  pub count_nodes : (v : Value) (next : ℕ) → length (pushed (push_value next v)) ≡ cells v
  count_nodes value.Bottom next = refl
  count_nodes (value.Variable x) next = refl
  count_nodes (value.Literal l) next = refl
  count_nodes (value.Constructed c vs) next = count_whole (kind.Cons c) (push_values next vs) (all_cells vs) (count_all_nodes vs next)
  count_nodes (value.Partial h vs) next = count_whole (kind.Part h) (push_values next vs) (all_cells vs) (count_all_nodes vs next)

  pub count_all_nodes : (vs : Values) (next : ℕ) → length (push_values next vs).nodes ≡ all_cells vs
  count_all_nodes value.NoValue next = refl
  count_all_nodes (value.MoreValues v vs) next =
      let one = count_nodes v next in
      let others = count_all_nodes vs (next + length (pushed (push_value next v))) in
      let both = length-append (pushed (push_value next v)) (push_values (next + length (pushed (push_value next v))) vs).nodes in
      omega arith

before_others : ℕ → Built → BuiltParts → BuiltParts
before_others next one others = record { nodes = pushed one ++ others.nodes; ids = place_of next one ∷ others.ids }

-- numbers of variables aren't seen in nodes
mutual
  unfolding before_others

  pub renumbered_push : (number : ℕ → ℕ) (v : Value) (next : ℕ) → push_value next (renumbered number v) ≡ push_value next v
  renumbered_push number value.Bottom next = refl
  renumbered_push number (value.Variable x) next = refl
  renumbered_push number (value.Literal l) next = refl
  renumbered_push number (value.Constructed c vs) next =
      ap (λ (parts : BuiltParts). build_node (kind.Cons c) parts) (all_renumbered_push number vs next)
  renumbered_push number (value.Partial h vs) next =
      ap (λ (parts : BuiltParts). build_node (kind.Part h) parts) (all_renumbered_push number vs next)

  pub all_renumbered_push : (number : ℕ → ℕ) (vs : Values) (next : ℕ) → push_values next (all_renumbered number vs) ≡ push_values next vs
  all_renumbered_push number value.NoValue next = refl
  all_renumbered_push number (value.MoreValues v vs) next =
      ap (λ (one : Built). before_others next one (push_values (next + length (pushed one)) (all_renumbered number vs))) (renumbered_push number v next)
      ∙ ap (before_others next (push_value next v)) (all_renumbered_push number vs (next + length (pushed (push_value next v))))

renumbered_values : (number : ℕ → ℕ) (vs : List Value) → values_of (map (renumbered number) vs) ≡ all_renumbered number (values_of vs)
renumbered_values number [] = refl
renumbered_values number (v ∷ vs) = ap (value.MoreValues (renumbered number v)) (renumbered_values number vs)

call_over : Code → FunId → BuiltParts → State
call_over program f parts = Branch (parts.nodes ++ record { kind = kind_of_call f (body_of program f); args = parts.ids } ∷ []) (length parts.nodes) [] Idle

pub renumbered_call : (program : Code) (f : FunId) (number : ℕ → ℕ) (vs : List Value)
    → call_on program f (values_of (map (renumbered number) vs)) ≡ call_on program f (values_of vs)
unfolding call_over
renumbered_call program f number vs =
    ap (λ (us : Values). call_on program f us) (renumbered_values number vs)
    ∙ ap (call_over program f) (all_renumbered_push number (values_of vs) 0)

all_cells_of : (vs : List Value) → all_cells (values_of vs) ≡ cells_of_all vs
all_cells_of [] = refl
all_cells_of (v ∷ vs) = ap (λ (n : ℕ). cells v + n) (all_cells_of vs)

-- arguments that have too many cells make the call too large
pub large_call : (program : Code) (limits : Limits) (f : FunId) (vs : List Value) → nat_lt limits.nodes (cells_of_all vs) ≡ true
    → is_too_large limits (call_on program f (values_of vs)) ≡ true
large_call program limits f vs large =
    let parts = push_values 0 (values_of vs) in
    let above = ltb-true limits.nodes (cells_of_all vs) large in
    let nodes = count_all_nodes (values_of vs) 0 in
    let all = all_cells_of vs in
    let whole = length-append parts.nodes (record { kind = kind_of_call f (body_of program f); args = parts.ids } ∷ []) in
    lt-ltb limits.nodes (length (parts.nodes ++ record { kind = kind_of_call f (body_of program f); args = parts.ids } ∷ [])) (omega arith)

-- ---- pushing the arguments

-- what was pushed, and what is left, are the whole
pub record Pushes (graph : Graph) (ids : List ℕ) (left : List Value) (all : List Value) : Type 0 where
  pub nodes : graph ++ (push_values (length graph) (values_of left)).nodes ≡ (push_values 0 (values_of all)).nodes
  pub places : ids ++ (push_values (length graph) (values_of left)).ids ≡ (push_values 0 (values_of all)).ids

pub pushes_none : (graph : Graph) (ids : List ℕ) (all : List Value) → graph ≡ [] → ids ≡ [] → Pushes graph ids all all
pushes_none graph ids all nothing none = record { nodes = rw nothing refl; places = rw (nothing, none) refl }

pub pushes_one : (graph after : Graph) (ids more : List ℕ) (v : Value) (id : ℕ) (left rest all : List Value) → left ≡ v ∷ rest
    → after ≡ graph ++ pushed (push_value (length graph) v) → id ≡ place_of (length graph) (push_value (length graph) v) → more ≡ ids ++ id ∷ []
    → Pushes graph ids left all → Pushes after more rest all
pushes_one graph after ids more v id left rest all is now at added before =
    let one = push_value (length graph) v in
    let next : length after ≡ length graph + length (pushed one) = ap length now ∙ length-append graph (pushed one) in
    let others = push_values (length graph + length (pushed one)) (values_of rest) in
    let was : Pushes graph ids (v ∷ rest) all = subst (λ (vs : List Value). Pushes graph ids vs all) is before in
    record {
      nodes = ap (λ (n : ℕ). after ++ (push_values n (values_of rest)).nodes) next
          ∙ ap (λ (g : Graph). g ++ others.nodes) now
          ∙ append_assoc graph (pushed one) others.nodes
          ∙ was.nodes;
      places = ap (λ (n : ℕ). more ++ (push_values n (values_of rest)).ids) next
          ∙ ap (λ (xs : List ℕ). xs ++ others.ids) (added ∙ ap (λ (i : ℕ). ids ++ i ∷ []) at)
          ∙ append_assoc ids (place_of (length graph) one ∷ []) others.ids
          ∙ was.places;
    }

pub pushes_all : (program : Code) (f : FunId) (graph after : Graph) (ids : List ℕ) (left all : List Value) (k : Kind) (root : ℕ) (args goals : List ℕ) → left ≡ []
    → Pushes graph ids left all → k ≡ kind_of_call f (body_of program f) → args ≡ ids → after ≡ graph ++ record { kind = k; args = args } ∷ [] → root ≡ length graph
    → goals ≡ [] → Branch after root goals Idle ≡ call_on program f (values_of all)
pushes_all program f graph after ids left all k root args goals none pushes kinds own now at nothing =
    let was : Pushes graph ids [] all = subst (λ (vs : List Value). Pushes graph ids vs all) none pushes in
    let nodes : graph ≡ (push_values 0 (values_of all)).nodes = sym (append-nil graph) ∙ was.nodes in
    let places : ids ≡ (push_values 0 (values_of all)).ids = sym (append-nil ids) ∙ was.places in
    rw (now, at, nothing, kinds, own, nodes, places) refl

-- the next of the values that are left
pub drop_next : {A : Type 0} (xs : List A) (i : ℕ) (x : A) → i < length xs → x ≡ get_or xs i x → drop i xs ≡ x ∷ drop (i + 1) xs
drop_next xs i x below is =
    let next : suc i ≡ i + 1 = omega arith in
    drop-cons xs i x below ∙ ap (λ y. y ∷ drop (suc i) xs) (sym is) ∙ ap (λ (n : ℕ). x ∷ drop n xs) next

-- ---- the search

-- the state in which a search begins
pub begun_state : {B : Type 0} (f : B → State) (graph : Graph) (root : ℕ) (goals : List ℕ) (id : ℕ) (found : List Value) (prefix level : List B) (inner : B) (state : State)
    → found ≡ [] → prefix ≡ [] → level ≡ prefix ++ inner ∷ [] → state ≡ Branch graph root goals (Running id found (states_of (map f level)))
    → state ≡ Branch graph root goals (Running id [] (MoreStates (f inner) NoState))
begun_state f graph root goals id found prefix level inner state none nothing alone_there is =
    is ∙ ap (λ (vs : List Value). Branch graph root goals (Running id vs (states_of (map f level)))) none
    ∙ ap (λ bs. Branch graph root goals (Running id [] (states_of (map f bs)))) (alone_there ∙ ap (λ bs. bs ++ inner ∷ []) nothing)

pub move_set : (program : Code) (graph : Graph) (id : ℕ) (f : FunId) (args : List ℕ) → (node_at graph id).kind ≡ kind.SetCall f → args ≡ (node_at graph id).args
    → move program graph id ≡ set_call_step graph id f (values_of (map (spelled graph) args))
move_set program graph id f args is own =
    ap (λ (k : Kind). rewrite_step program graph id k (node_at graph id).args) is
    ∙ ap (λ (xs : List ℕ). set_call_step graph id f (values_of (map (spelled graph) xs))) (sym own)

not_true : (b : Bool) → not b ≡ true → b ≡ false
not_true true so = sym so
not_true false so = refl

not_false : (b : Bool) → not b ≡ false → b ≡ true
not_false true so = refl
not_false false so = sym so

pub part_sticks : (graph : Graph) (id : ℕ) (f : FunId) (args : List ℕ) → are_reached graph sought.Part args ≡ true
    → set_call_step graph id f (values_of (map (spelled graph) args)) ≡ stuck_step graph id
part_sticks graph id f args part =
    let data_not : are_data (values_of (map (spelled graph) args)) ≡ false = not_true (are_data (values_of (map (spelled graph) args))) (any_part (spelled graph) args ∙ part) in
    ap (λ (b : Bool). if b then Collect f (values_of (map (spelled graph) args)) else stuck_step graph id) data_not

pub part_collects : (graph : Graph) (id : ℕ) (f : FunId) (args : List ℕ) → are_reached graph sought.Part args ≡ false
    → set_call_step graph id f (values_of (map (spelled graph) args)) ≡ Collect f (values_of (map (spelled graph) args))
part_collects graph id f args none =
    let all_data : are_data (values_of (map (spelled graph) args)) ≡ true = not_false (are_data (values_of (map (spelled graph) args))) (any_part (spelled graph) args ∙ none) in
    ap (λ (b : Bool). if b then Collect f (values_of (map (spelled graph) args)) else stuck_step graph id) all_data

module _ (program : Code) (limits : Limits) (graph : Graph) (root : ℕ) (goals : List ℕ) (id : ℕ) (f : FunId) (args : List ℕ)
    (set_call : (node_at graph id).kind ≡ kind.SetCall f) (own : args ≡ (node_at graph id).args) where
  abbrev whole : State
  whole = call_on program f (values_of (map (spelled graph) args))

  begins : are_reached graph sought.Part args ≡ false → moved program limits root goals graph id (move program graph id) ≡ begun limits graph root goals id whole
  begins none = ap (λ (what : Move). moved program limits root goals graph id what) (move_set program graph id f args set_call own ∙ part_collects graph id f args none)

  pub sticks_there : (event : Next) (what : Move) → are_reached graph sought.Part args ≡ true → what ≡ stuck_step graph id
      → event ≡ moved program limits root goals graph id what → event ≡ moved program limits root goals graph id (move program graph id)
  sticks_there event what part is follows =
      follows ∙ ap (λ (what : Move). moved program limits root goals graph id what)
      (is ∙ sym (part_sticks graph id f args part) ∙ sym (move_set program graph id f args set_call own))

  begun_by : (b : Bool) (inner : State) → is_too_large limits inner ≡ b
      → begun limits graph root goals id inner ≡ (if b then too_large limits else Go (Branch graph root goals (Running id [] (MoreStates inner NoState)) ∷ []))
  begun_by b inner is = ap (λ (b : Bool). if b then too_large limits else Go (Branch graph root goals (Running id [] (MoreStates inner NoState)) ∷ [])) is

  pub large_arguments : (event : Next) (values : List Value) → are_reached graph sought.Part args ≡ false
      → None ≡ (if nat_lt limits.nodes (cells_of_all (map (spelled graph) args)) then None else Some values) → event ≡ too_large limits
      → event ≡ moved program limits root goals graph id (move program graph id)
  large_arguments event values none large is =
      is ∙ sym (begins none ∙ begun_by true whole (large_call program limits f (map (spelled graph) args)
      (none_means (nat_lt limits.nodes (cells_of_all (map (spelled graph) args))) values large)))
    where
      none_means : (b : Bool) (values : List Value) → None ≡ (if b then None else Some values) → b ≡ true
      none_means true values is = refl
      none_means false values is = let no : ⊥ = cc in absurd no

  pub read_call : (number : ℕ → ℕ) (values : List Value) (b : Bool) → Some values ≡ (if b then None else Some (map (renumbered number) (map (spelled graph) args)))
      → call_on program f (values_of values) ≡ whole
  read_call number values true is = let no : ⊥ = cc in absurd no
  read_call number values false is =
      let same : values ≡ map (renumbered number) (map (spelled graph) args) = cc in
      ap (λ (vs : List Value). call_on program f (values_of vs)) same ∙ renumbered_call program f number (map (spelled graph) args)

  pub large_inner : (event : Next) (inner : State) → are_reached graph sought.Part args ≡ false → inner ≡ whole → is_above limits (length (graph_of inner)) ≡ true
      → event ≡ too_large limits → event ≡ moved program limits root goals graph id (move program graph id)
  large_inner event inner none same large is =
      is ∙ sym (begins none ∙ begun_by true whole (ap (λ (s : State). is_too_large limits s) (sym same) ∙ large))

  pub search_begins : (event : Next) (inner : State) → are_reached graph sought.Part args ≡ false → inner ≡ whole → is_above limits (length (graph_of inner)) ≡ false
      → event ≡ Go (Branch graph root goals (Running id [] (MoreStates inner NoState)) ∷ []) → event ≡ moved program limits root goals graph id (move program graph id)
  search_begins event inner none same small is =
      is ∙ ap (λ (s : State). Go (Branch graph root goals (Running id [] (MoreStates s NoState)) ∷ [])) same
      ∙ sym (begins none ∙ begun_by false whole (ap (λ (s : State). is_too_large limits s) (sym same) ∙ small))
