-- Every row of the step table leaves other nodes as they are, but for variables that it binds.
use Rattle.std.proofs.Common.{◌≡◌, ◌≢◌, ℕ, zero, suc, ◌+◌, ◌<◌, Bool, true, false, List, [], ◌∷◌, ◌++◌, true≢false, pos, refl, ap, sym, ◌∙◌, subst, length, arith}
use Rattle.std.specs.List.{list_all, zip}
use Rattle.cu_calculus.specs.declared.ConId.{ConId}
use Rattle.cu_calculus.specs.declared.Lit.{Lit}
use Rattle.cu_calculus.specs.declared.Lit.TheVariants.{Char, Int}
use Rattle.cu_calculus.specs.declared.builtin.Primitive.TheVariants as prim
use Rattle.cu_calculus.specs.declared.builtin.Special.{Special}
use Rattle.cu_calculus.specs.Code as flat
use Rattle.cu_calculus.specs.Code.{Code, Shallow}
use Rattle.cu_calculus.specs.Literal.{same_literal}
use Rattle.cu_calculus.specs.WellFormed.{bound_by}
use Rattle.cu_machine.specs.declared.Kind.{Kind}
use Rattle.cu_machine.specs.declared.Kind.TheVariants as kind
use Rattle.cu_machine.specs.Build.{Built, Fresh, build, build_alone, kind_of_whole, written}
use Rattle.cu_machine.specs.Graph.{Graph, Node, alone, head_of, node_at, put, renaming}
use Rattle.cu_machine.specs.Rewrite.{alone_follows, bound_to, build_pairs, pairwise_step, truth_node}
use Rattle.cu_machine.specs.State.{free_nodes, numbers}
use Rattle.cu_machine.specs.Steps as row
use Rattle.cu_machine.specs.Steps.{FreeBeside, Steps, imitating, node, on_the_left, on_the_right}
use Rattle.cu_machine.specs.Validity.{is_plain}
use Rattle.cu_machine.proofs.Frames.{at_new, at_old, at_same}
use Rattle.cu_machine.proofs.Fuel.{both_true}
use Rattle.cu_machine.proofs.Moves.{free_at_place}
use Rattle.cu_machine.proofs.Rows.{plain_there, put_is_written}
use Rattle.cu_step.proofs.Bindings.{Binds, Keeps, Settled, binding_binds, binds_none, constructed, free_there, is_fixed, is_free, is_variable, kind_is, literal, renamed, settled, variable, writing_keeps}

-- ---- variables are bound

-- a variable becomes an Ind of a head without arguments, or of another variable
pub renaming_binds : (graph : Graph) (v other : ℕ) (n : Node) → is_variable graph v ≡ true → node_at graph other ≡ n → other < length graph → other ≢ v
    → ((after : Graph) → node_at after other ≡ n → Settled after other) → Binds graph (put graph v (renaming other))
renaming_binds graph v other n free is there apart stands =
    let built = build_alone (renaming other) in
    subst (λ (g : Graph). Binds graph g) (put_is_written graph v (renaming other))
    (binding_binds graph v built free
    (renamed other (at_same graph v built (free_there graph v free)) (stands (written graph v built) (at_old graph v built other there apart ∙ is))))

pub literal_binds : (graph : Graph) (v : ℕ) (l : Lit) → is_variable graph v ≡ true → Binds graph (put graph v (alone (kind.Lit l)))
literal_binds graph v l free =
    let built = build_alone (alone (kind.Lit l)) in
    subst (λ (g : Graph). Binds graph g) (put_is_written graph v (alone (kind.Lit l)))
    (binding_binds graph v built free (settled (literal l [] (at_same graph v built (free_there graph v free)))))

pub all_numbers : (p : ℕ → Bool) (from n : ℕ) → ((i : ℕ) → i < n → p (from + i) ≡ true) → list_all p (numbers from n) ≡ true
all_numbers p from zero each = refl
all_numbers p from (suc n) each =
    both_true (p from) (list_all p (numbers (from + 1) n)) (subst (λ (x : ℕ). p x ≡ true) (omega arith) (each 0 (omega arith)))
    (all_numbers p (from + 1) n (λ i below. subst (λ (x : ℕ). p x ≡ true) (omega arith) (each (i + 1) (omega arith))))

pub imitating_binds : (graph : Graph) (v : ℕ) (c : ConId) (n : ℕ) → is_variable graph v ≡ true → Binds graph (imitating graph v c n)
imitating_binds graph v c n free =
    let built : Built = record { parts = free_nodes n; top = Fresh (node (kind.Cons c) (numbers (length graph) n)) } in
    let here = free_there graph v free in
    binding_binds graph v built free
    (settled (constructed c (numbers (length graph) n) (at_same graph v built here)
    (all_numbers (is_variable (written graph v built)) (length graph) n
    (λ i below. ap (λ (m : Node). is_free m.kind) (at_new graph v built i here ∙ free_at_place n i below)))))

pub pattern_binds : (graph : Graph) (v : ℕ) (pattern : Shallow) → is_variable graph v ≡ true → Binds graph (bound_to graph v pattern)
pattern_binds graph v (flat.Exactly l) free = literal_binds graph v l free
pattern_binds graph v (flat.Built c xs) free = imitating_binds graph v c (length xs) free

pub record Beside (graph : Graph) (v other : ℕ) (k : Kind) (args : List ℕ) : Type 0 where
  pub free : is_variable graph v ≡ true
  pub is : node_at graph other ≡ node k args

pub sides : (graph : Graph) (a b v other : ℕ) (k : Kind) (args : List ℕ) → FreeBeside graph a b v other k args → Beside graph v other k args
sides graph a b v other k args (on_the_left us v_is free other_is is) = record {
  free = ap (is_variable graph) (sym v_is) ∙ ap (λ (n : Node). is_free n.kind) free;
  is = ap (node_at graph) (sym other_is) ∙ is;
}
sides graph a b v other k args (on_the_right us v_is free other_is is) = record {
  free = ap (is_variable graph) (sym v_is) ∙ ap (λ (n : Node). is_free n.kind) free;
  is = ap (node_at graph) (sym other_is) ∙ is;
}

-- another head is another node
pub bound_apart : (graph : Graph) (v other : ℕ) (k : Kind) (args : List ℕ) → Beside graph v other k args → is_free k ≡ false → other ≢ v
bound_apart graph v other k args beside bound same =
    true≢false (sym beside.free ∙ ap (is_variable graph) (sym same) ∙ kind_is graph other k args is_free beside.is ∙ bound)

-- ---- rows

module _ (code : Code) (graph after : Graph) (id : ℕ) (here : id < length graph) (redex : is_fixed (node_at graph id).kind ≡ false) where
  pub over : (bound : Graph) (built : Built) → Binds graph bound → after ≡ written bound id built → Keeps graph after id
  over bound built binds is = subst (λ (g : Graph). Keeps graph g id) (sym is) (writing_keeps graph bound id built here redex binds)

  pub putting : (bound : Graph) (n : Node) → Binds graph bound → after ≡ put bound id n → Keeps graph after id
  putting bound n binds is = over bound (build_alone n) binds (is ∙ sym (put_is_written bound id n))

  pub puts : (n : Node) → after ≡ put graph id n → Keeps graph after id
  puts n is = putting graph n (binds_none graph) is

  pub writes : (built : Built) → after ≡ written graph id built → Keeps graph after id
  writes built is = over graph built (binds_none graph) is

  pub only_one : (one : Graph) → alone_follows one ≡ alone_follows after → after ≡ one
  only_one one is = cc

  pub in_pairs : (special : Special) (each joint : Kind) (bound : Graph) (pairs : List (ℕ × ℕ)) → Binds graph bound
      → pairwise_step special each joint bound id pairs ≡ alone_follows after → Keeps graph after id
  in_pairs special each joint bound [] binds is =
      putting bound (truth_node special true) binds (only_one (put bound id (truth_node special true)) is)
  in_pairs special each joint bound (pair ∷ pairs) binds is =
      over bound (build_pairs each joint (length bound) pair pairs) binds (only_one (written bound id (build_pairs each joint (length bound) pair pairs)) is)

  pub binds_alone : (bound : Graph) → Binds graph bound → after ≡ bound → Keeps graph after id
  binds_alone bound binds is = subst (λ (g : Graph). Keeps graph g id) (sym is) (record {
    longer = binds.longer;
    same = λ x below other still. binds.same x below still;
    bound = binds.bound;
  })

  -- every row leaves other nodes as they are, but for variables that it binds
  pub row_keeps : Steps code graph id after → Keeps graph after id
  row_keeps (row.call f args params body is body_is after_is) = writes (build code (zip params args) (length graph) body) after_is
  row_keeps (row.left one two is after_is) = puts (renaming one) after_is
  row_keeps (row.right one two is after_is) = puts (renaming two) after_is
  row_keeps (row.literal_branch mode scrutinee scope branches l args branch at head_is chosen after_is) =
      writes (build code (scope ++ zip (bound_by branch.pattern) []) (length graph) branch.body) after_is
  row_keeps (row.constructor_branch mode scrutinee scope branches c args branch at head_is chosen after_is) =
      writes (build code (scope ++ zip (bound_by branch.pattern) args) (length graph) branch.body) after_is
  row_keeps (row.no_literal_branch mode scrutinee scope branches l args at head_is none after_is) = puts (alone kind.Fail) after_is
  row_keeps (row.no_constructor_branch mode scrutinee scope branches c args at head_is none after_is) = puts (alone kind.Fail) after_is
  row_keeps (row.no_partial_branch mode scrutinee scope branches h args at head_is after_is) = puts (alone kind.Fail) after_is
  row_keeps (row.narrowing scrutinee scope branches args branch at head_is among after_is) =
      binds_alone (bound_to graph (head_of graph scrutinee) branch.pattern)
      (pattern_binds graph (head_of graph scrutinee) branch.pattern (kind_is graph (head_of graph scrutinee) kind.Free args is_free head_is)) after_is
  row_keeps (row.still_partial function argument h args arity is head_is arity_is fewer after_is) =
      puts (node (kind.Part h) (args ++ argument ∷ [])) after_is
  row_keeps (row.whole function argument h args is head_is arity_is after_is) = puts (node (kind_of_whole code h) (args ++ argument ∷ [])) after_is
  row_keeps (row.not_applicable function argument is other after_is) = puts (alone kind.Fail) after_is
  row_keeps (row.number operation args m n result is kinds result_is whole after_is) = puts (alone (kind.Lit (Int result))) after_is
  row_keeps (row.test operation args m n answer is kinds answer_is after_is) = puts (truth_node code.special answer) after_is
  row_keeps (row.division_by_zero operation args m n is kinds divides by_zero after_is) = puts (alone kind.Fail) after_is
  row_keeps (row.code_point args c is kinds after_is) = puts (alone (kind.Lit (Int (pos c)))) after_is
  row_keeps (row.character args c is kinds scalar after_is) = puts (alone (kind.Lit (Char c))) after_is
  row_keeps (row.no_character args n is kinds none after_is) = puts (alone kind.Fail) after_is
  row_keeps (row.no_operands operation args is on_literals none after_is) = puts (alone kind.Fail) after_is
  row_keeps (row.compared_literals a b l m us vs is head_a head_b after_is) = puts (truth_node code.special (same_literal l m)) after_is
  row_keeps (row.compared_mixed a b is mixed after_is) = puts (truth_node code.special false) after_is
  row_keeps (row.compared_unlike a b c d us vs is head_a head_b differ after_is) = puts (truth_node code.special false) after_is
  row_keeps (row.compared_alike a b c d us vs is head_a head_b alike after_is) =
      in_pairs code.special (kind.Prim prim.Equal) (kind.Call code.special.both) graph (zip us vs) (binds_none graph) after_is
  row_keeps (row.compared_partial a b is partial after_is) = puts (alone kind.Fail) after_is
  row_keeps (row.both_true a b is both after_is) = puts (truth_node code.special true) after_is
  row_keeps (row.not_both_true a b is other after_is) = puts (alone kind.Fail) after_is
  row_keeps (row.same_variable a b us vs is head_a head_b same after_is) = puts (truth_node code.special true) after_is
  row_keeps (row.two_variables a b us vs is head_a head_b differ after_is) =
      let v = head_of graph a in
      let other = head_of graph b in
      putting (put graph v (renaming other)) (truth_node code.special true)
      (renaming_binds graph v other (node kind.Free vs) (kind_is graph v kind.Free us is_free head_a) head_b
      (free_there graph other (kind_is graph other kind.Free vs is_free head_b)) (λ same. differ (sym same)) (λ g there. variable vs there)) after_is
  row_keeps (row.bound_to_literal a b v other l args is on_sides after_is) =
      let beside = sides graph a b v other (kind.Lit l) args on_sides in
      putting (put graph v (renaming other)) (truth_node code.special true)
      (renaming_binds graph v other (node (kind.Lit l) args) beside.free beside.is (plain_there graph other (kind_is graph other (kind.Lit l) args is_plain beside.is))
      (bound_apart graph v other (kind.Lit l) args beside refl) (λ g there. literal l args there)) after_is
  row_keeps (row.bound_to_constant a b v other c is on_sides after_is) =
      let beside = sides graph a b v other (kind.Cons c) [] on_sides in
      putting (put graph v (renaming other)) (truth_node code.special true)
      (renaming_binds graph v other (node (kind.Cons c) []) beside.free beside.is (plain_there graph other (kind_is graph other (kind.Cons c) [] is_plain beside.is))
      (bound_apart graph v other (kind.Cons c) [] beside refl) (λ g there. constructed c [] there refl)) after_is
  row_keeps (row.occurs a b v other c arg args is on_sides reached after_is) = puts (alone kind.Fail) after_is
  row_keeps (row.imitation a b v other c arg args is on_sides apart after_is) =
      in_pairs code.special (kind.Prim prim.Unify) (kind.Prim prim.And) (imitating graph v c (length args + 1))
      (zip (numbers (length graph) (length args + 1)) (arg ∷ args))
      (imitating_binds graph v c (length args + 1) (sides graph a b v other (kind.Cons c) (arg ∷ args) on_sides).free) after_is
  row_keeps (row.equal_literals a b l m us vs is head_a head_b same after_is) = puts (truth_node code.special true) after_is
  row_keeps (row.unlike_literals a b l m us vs is head_a head_b differ after_is) = puts (alone kind.Fail) after_is
  row_keeps (row.decomposition a b c d us vs is head_a head_b alike after_is) =
      in_pairs code.special (kind.Prim prim.Unify) (kind.Prim prim.And) graph (zip us vs) (binds_none graph) after_is
  row_keeps (row.clash a b c d us vs is head_a head_b differ after_is) = puts (alone kind.Fail) after_is
  row_keeps (row.mixed a b is mixed after_is) = puts (alone kind.Fail) after_is
  row_keeps (row.with_partial a b is partial after_is) = puts (alone kind.Fail) after_is
  row_keeps (row.set_of_partial f args is partial after_is) = puts (alone kind.Stuck) after_is
