-- Graphs stay at their level.
use Rattle.std.proofs.Common.{◌≡◌, ℕ, zero, suc, ◌+◌, ◌<◌, ◌≤◌, Bool, true, false, ◌&&◌, List, [], ◌∷◌, ◌++◌, Option, None, Some, refl, ap, sym, ◌∙◌, subst, length, zip, slice_get, option_map, pos, true≢false, arith}
use Rattle.std.specs.List.{list_all}
use Rattle.std.proofs.lemmas.Bool.{and_parts}
use Rattle.cu_calculus.specs.declared.ExprId.{ExprId}
use Rattle.cu_calculus.specs.declared.FunId.{FunId}
use Rattle.cu_calculus.specs.declared.Head.{Head}
use Rattle.cu_calculus.specs.declared.Head.TheVariants as head
use Rattle.cu_calculus.specs.declared.Mode.{Mode}
use Rattle.cu_calculus.specs.declared.builtin.Primitive.TheVariants as prim
use Rattle.cu_calculus.specs.Claims.{Allows, Collected, Mention, Plain, all_mentions, alternative_mentions, body_mentions, head_mentions, level_of, mentions}
use Rattle.cu_calculus.specs.Code as code
use Rattle.cu_calculus.specs.Code.{Branch, Code, Expr, arity_of, body_of, expr_of}
use Rattle.cu_calculus.specs.FlatProgram.{alternatives_of, body_in, function_in, program_of, term_of, term_over, term_within, terms_of}
use Rattle.cu_calculus.specs.WellFormed.{fits, fits_expr, is_allowed, without}
use Rattle.cu_calculus.specs.Shape.{takes, takes_more}
use Rattle.cu_calculus.specs.Valid.{holds}
use Rattle.cu_calculus.specs.WellFormed.{fit_branches}
use Rattle.cu_machine.specs.declared.Kind.{Kind}
use Rattle.cu_machine.specs.declared.Kind.TheVariants as kind
use Rattle.cu_machine.specs.Build.{Built, Fresh, Scope, Shared, Top, build_expr, build_parts, build_variable, build_within, instead, kind_of_call, kind_of_whole, on_top, place_in, place_of, pushed, write, written}
use Rattle.cu_machine.specs.Graph.{Graph, Node, alone, head_of, node_at, put, renaming}
use Rattle.cu_calculus.specs.declared.ConId.{ConId}
use Rattle.cu_calculus.specs.declared.Lit.TheVariants.{Char, Int}
use Rattle.cu_calculus.specs.Literal.{same_literal}
use Rattle.cu_calculus.specs.Program.{function_of}
use Rattle.cu_calculus.specs.Term.{Alternatives}
use Rattle.cu_calculus.specs.WellFormed.{bound_by, is_well_formed}
use Rattle.cu_calculus.proofs.FlatFitting.{function_there}
use Rattle.cu_machine.specs.Rewrite.{alone_follows, bound_to, branch_for, build_pairs, joined_from_right, pair_nodes, pairwise_step, takes_constructor, takes_literal, truth_node}
use Rattle.cu_machine.specs.State.{free_nodes, numbers}
use Rattle.cu_machine.specs.Steps as row
use Rattle.cu_machine.specs.Steps.{CaseAt, Steps, imitating, node}
use Rattle.cu_laws.specs.AtLevel.{AllAllowed, AreLevelsOf, branch_mentions, named_by}
use Rattle.cu_laws.proofs.Built.{alternatives_same, body_there}
use Rattle.cu_laws.proofs.CallRow.{rule_fits}
use Rattle.cu_laws.proofs.CaseRows.{branch_at, branch_fits}
use Rattle.cu_laws.proofs.Pairs.{one_follows}

allowed_both : (levels : List ℕ) (level : ℕ) (xs ys : List Mention) → AllAllowed levels level (xs ++ ys) → AllAllowed levels level xs × AllAllowed levels level ys
allowed_both levels level [] ys all = (tt, all)
allowed_both levels level (x ∷ xs) ys all = let rest = allowed_both levels level xs ys all.1 in ((all.0, rest.0), rest.1)

-- the node of a head with all its arguments names what the head does
pub whole_allowed : (program : Code) (levels : List ℕ) (level : ℕ) (h : Head) → AllAllowed levels level (head_mentions h) → AllAllowed levels level (named_by program (kind_of_whole program h))
whole_allowed program levels level (head.Con c) all = tt
whole_allowed program levels level (head.Set f) all = all
whole_allowed program levels level (head.Fun f) all = by (body_of program f)
  where
    by : (body : Option code.Body) → AllAllowed levels level (named_by program (kind_of_call f body))
    by None = tt
    by (Some (code.Rule params body)) = all
    by (Some (code.External prim.Failed)) = tt
    by (Some (code.External operation)) = tt

module _ (program : Code) (levels : List ℕ) (level : ℕ) where
  abbrev pub NodeAllowed : Node → Type 0
  NodeAllowed n = AllAllowed levels level (named_by program n.kind)

  abbrev pub NodesAllowed : List Node → Type 0
  NodesAllowed [] = Unit {0}
  NodesAllowed (n ∷ nodes) = NodeAllowed n × NodesAllowed nodes

  abbrev pub TopAllowed : Top → Type 0
  TopAllowed (Shared id) = Unit {0}
  TopAllowed (Fresh n) = NodeAllowed n

  pub record BuiltAllowed (built : Built) : Type 0 where
    pub parts : NodesAllowed built.parts
    pub top : TopAllowed built.top

  pub nodes_both : (xs ys : List Node) → NodesAllowed xs → NodesAllowed ys → NodesAllowed (xs ++ ys)
  nodes_both [] ys one two = two
  nodes_both (x ∷ xs) ys one two = (one.0, nodes_both xs ys one.1 two)

  top_nodes : (top : Top) → TopAllowed top → NodesAllowed (on_top top)
  top_nodes (Shared id) all = tt
  top_nodes (Fresh n) all = (all, tt)

  pub pushed_allowed : (built : Built) → BuiltAllowed built → NodesAllowed (pushed built)
  pushed_allowed built all = nodes_both built.parts (on_top built.top) all.parts (top_nodes built.top all.top)

  kept_allowed : (scope : Scope) (next : ℕ) (kept : List ℕ) → NodesAllowed (build_parts (λ place x. build_variable (place_in scope x)) next kept).nodes
  kept_allowed scope next [] = tt
  kept_allowed scope next (x ∷ kept) =
      nodes_both (pushed (build_variable (place_in scope x))) (build_parts (λ place y. build_variable (place_in scope y)) (next + length (pushed (build_variable (place_in scope x)))) kept).nodes
      (variable_nodes (place_in scope x)) (kept_allowed scope (next + length (pushed (build_variable (place_in scope x)))) kept)
    where
      variable_nodes : (place : Option ℕ) → NodesAllowed (pushed (build_variable place))
      variable_nodes (Some id) = tt
      variable_nodes None = (tt, tt)

  abbrev Allowed : ℕ → Type 0
  Allowed n = (variables : List ℕ) (scope : Scope) (next : ℕ) (e : ExprId) → fits n program variables e ≡ true
      → AllAllowed levels level (mentions (term_within n program e)) → BuiltAllowed (build_within n program scope next e)

  terms_allowed : (n : ℕ) → Allowed n → (variables : List ℕ) (scope : Scope) (next : ℕ) (es : List ExprId) → list_all (fits n program variables) es ≡ true
      → AllAllowed levels level (all_mentions (terms_of (term_within n program) es)) → NodesAllowed (build_parts (build_within n program scope) next es).nodes
  terms_allowed n part variables scope next [] fit all = tt
  terms_allowed n part variables scope next (e ∷ es) fit all =
      let both = and_parts (fits n program variables e) (list_all (fits n program variables) es) fit in
      let halves = allowed_both levels level (mentions (term_within n program e)) (all_mentions (terms_of (term_within n program) es)) all in
      let one = build_within n program scope next e in
      nodes_both (pushed one) (build_parts (build_within n program scope) (next + length (pushed one)) es).nodes (pushed_allowed one (part variables scope next e both.0 halves.0))
      (terms_allowed n part variables scope (next + length (pushed one)) es both.1 halves.1)

  two_allowed : (n : ℕ) → Allowed n → (variables : List ℕ) (scope : Scope) (next : ℕ) (a b : ExprId) → fits n program variables a ≡ true → fits n program variables b ≡ true
      → AllAllowed levels level (mentions (term_within n program a) ++ mentions (term_within n program b))
      → NodesAllowed (build_parts (build_within n program scope) next (a ∷ b ∷ [])).nodes
  two_allowed n part variables scope next a b fit_a fit_b all =
      let halves = allowed_both levels level (mentions (term_within n program a)) (mentions (term_within n program b)) all in
      let one = build_within n program scope next a in
      let later = next + length (pushed one) in
      let two = build_within n program scope later b in
      nodes_both (pushed one) (pushed two ++ []) (pushed_allowed one (part variables scope next a fit_a halves.0))
      (nodes_both (pushed two) [] (pushed_allowed two (part variables scope later b fit_b halves.1)) tt)

  expr_allowed : (n : ℕ) → Allowed n → (variables : List ℕ) (scope : Scope) (next : ℕ) (e : ExprId) (o : Option Expr) → n ≤ length program.expressions
      → fits_expr (fits n program) program variables o ≡ true → expr_of program e ≡ o → AllAllowed levels level (mentions (term_over (term_within n program) o))
      → BuiltAllowed (build_expr (build_within n program) program scope next e o)
  expr_allowed n part variables scope next e None low fit is all = absurd (true≢false (sym fit))
  expr_allowed n part variables scope next e (Some (code.Variable x)) low fit is all = by (place_in scope x)
    where
      by : (place : Option ℕ) → BuiltAllowed (build_variable place)
      by (Some id) = record { parts = tt; top = tt }
      by None = record { parts = tt; top = tt }
  expr_allowed n part variables scope next e (Some (code.Literal l)) low fit is all = record { parts = tt; top = tt }
  expr_allowed n part variables scope next e (Some (code.Whole h es)) low fit is all =
      let halves = allowed_both levels level (head_mentions h) (all_mentions (terms_of (term_within n program) es)) all in
      record {
        parts = terms_allowed n part variables scope next es (and_parts (is_allowed program h && takes (arity_of program h) (length es)) (list_all (fits n program variables) es) fit).1 halves.1;
        top = whole_allowed program levels level h halves.0;
      }
  expr_allowed n part variables scope next e (Some (code.Part h es)) low fit is all =
      let halves = allowed_both levels level (head_mentions h) (all_mentions (terms_of (term_within n program) es)) all in
      record {
        parts = terms_allowed n part variables scope next es (and_parts (is_allowed program h && takes_more (arity_of program h) (length es)) (list_all (fits n program variables) es) fit).1 halves.1;
        top = halves.0;
      }
  expr_allowed n part variables scope next e (Some (code.Apply function argument)) low fit is all =
      let both = and_parts (fits n program variables function) (fits n program variables argument) fit in
      record { parts = two_allowed n part variables scope next function argument both.0 both.1 all; top = tt }
  expr_allowed n part variables scope next e (Some (code.Let x bound body)) low fit is all =
      let both = and_parts (fits n program (without x variables) bound) (fits n program (variables ++ x ∷ []) body) fit in
      let halves = allowed_both levels level (mentions (term_within n program bound)) (mentions (term_within n program body)) all in
      let first = build_within n program scope next bound in
      let one = part (without x variables) scope next bound both.0 halves.0 in
      let two = part (variables ++ x ∷ []) (scope ++ (x, place_of next first) ∷ []) (next + length (pushed first)) body both.1 halves.1 in
      record { parts = nodes_both (pushed first) _ (pushed_allowed first one) two.parts; top = two.top }
  expr_allowed n part variables scope next e (Some (code.Free x body)) low fit is all =
      let inner = part (variables ++ x ∷ []) (scope ++ (x, next) ∷ []) (next + 1) body fit all in
      record { parts = nodes_both (alone kind.Free ∷ []) _ (tt, tt) inner.parts; top = inner.top }
  expr_allowed n part variables scope next e (Some (code.Or left right)) low fit is all =
      let both = and_parts (fits n program variables left) (fits n program variables right) fit in
      record { parts = two_allowed n part variables scope next left right both.0 both.1 all; top = tt }
  expr_allowed n part variables scope next e (Some (code.Case mode kept s branches)) low fit is all =
      let there = list_all (λ x. holds x variables) kept in
      let fit_s = (and_parts there (fits n program variables s) (and_parts (there && fits n program variables s) (fit_branches (fits n program) program kept branches) fit).0).1 in
      let halves = allowed_both levels level (mentions (term_within n program s)) (alternative_mentions (alternatives_of (term_within n program) branches)) all in
      let first = build_within n program scope next s in
      record {
        parts = nodes_both (pushed first) (build_parts (λ place x. build_variable (place_in scope x)) (next + length (pushed first)) kept).nodes
            (pushed_allowed first (part variables scope next s fit_s halves.0)) (kept_allowed scope (next + length (pushed first)) kept);
        top = subst (λ (o : Option Expr). AllAllowed levels level (branch_mentions program o)) (sym is)
            (subst (λ (a : Alternatives). AllAllowed levels level (alternative_mentions a)) (alternatives_same program n variables mode kept s branches low fit) halves.1);
      }

  pub built_allowed : (n : ℕ) → n ≤ length program.expressions → Allowed n
  unfolding build_within term_within
  built_allowed zero low variables scope next e fit all = absurd (true≢false (sym fit))
  built_allowed (suc n) low variables scope next e fit all =
      expr_allowed n (built_allowed n (omega arith)) variables scope next e (expr_of program e) (omega arith) fit refl all

  -- ---- graphs

  pub set_allowed : (graph : Graph) (id : ℕ) (n : Node) → NodesAllowed graph → NodeAllowed n → NodesAllowed (put graph id n)
  set_allowed [] id n all new = tt
  set_allowed (m ∷ graph) zero n all new = (new, all.1)
  set_allowed (m ∷ graph) (suc id) n all new = (all.0, set_allowed graph id n all.1 new)

  pub allowed_at : (graph : Graph) (id : ℕ) → NodesAllowed graph → NodeAllowed (node_at graph id)
  allowed_at [] id all = tt
  allowed_at (m ∷ graph) zero all = all.0
  allowed_at (m ∷ graph) (suc id) all = allowed_at graph id all.1

  pub allowed_from : (graph : Graph) → ((id : ℕ) → id < length graph → NodeAllowed (node_at graph id)) → NodesAllowed graph
  allowed_from [] each = tt
  allowed_from (m ∷ graph) each = (each 0 (omega arith), allowed_from graph (λ id below. each (suc id) (omega arith)))

  pub written_allowed : (graph : Graph) (id : ℕ) (built : Built) → NodesAllowed graph → BuiltAllowed built → NodesAllowed (written graph id built)
  written_allowed graph id built all new = set_allowed (graph ++ built.parts) id (instead built.top) (nodes_both graph built.parts all new.parts) (top_node built.top new.top)
    where
      top_node : (top : Top) → TopAllowed top → NodeAllowed (instead top)
      top_node (Shared other) is = tt
      top_node (Fresh n) is = is

  pub free_allowed : (n : ℕ) → NodesAllowed (free_nodes n)
  free_allowed zero = tt
  free_allowed (suc n) = (tt, free_allowed n)

  -- ---- pairs

  pair_nodes_allowed : (each : Kind) (pairs : List (ℕ × ℕ)) → AllAllowed levels level (named_by program each) → NodesAllowed (pair_nodes each pairs)
  pair_nodes_allowed each [] one = tt
  pair_nodes_allowed each ((a, b) ∷ pairs) one = (one, pair_nodes_allowed each pairs one)

  joined_allowed : (joint : Kind) (next id more : ℕ) → AllAllowed levels level (named_by program joint) → BuiltAllowed (joined_from_right joint next id more)
  joined_allowed joint next id zero one = record { parts = tt; top = tt }
  joined_allowed joint next id (suc more) one =
      record { parts = pushed_allowed (joined_from_right joint next (id + 1) more) (joined_allowed joint next (id + 1) more one); top = one }

  pub pairs_allowed : (each joint : Kind) (next : ℕ) (pair : ℕ × ℕ) (pairs : List (ℕ × ℕ)) → AllAllowed levels level (named_by program each)
      → AllAllowed levels level (named_by program joint) → BuiltAllowed (build_pairs each joint next pair pairs)
  pairs_allowed each joint next (a, b) [] one two = record { parts = tt; top = one }
  pairs_allowed each joint next pair (other ∷ pairs) one two =
      let nodes = pair_nodes each (pair ∷ other ∷ pairs) in
      let inner = joined_allowed joint (next + length nodes) next (length pairs + 1) two in
      record { parts = nodes_both nodes _ (pair_nodes_allowed each (pair ∷ other ∷ pairs) one) inner.parts; top = inner.top }

  pub in_pairs_allowed : (each joint : Kind) (graph after : Graph) (id : ℕ) (pairs : List (ℕ × ℕ)) → AllAllowed levels level (named_by program each)
      → AllAllowed levels level (named_by program joint) → NodesAllowed graph → pairwise_step program.special each joint graph id pairs ≡ alone_follows after → NodesAllowed after
  in_pairs_allowed each joint graph after id [] one two all is =
      subst NodesAllowed (sym (one_follows (put graph id (truth_node program.special true)) after is)) (set_allowed graph id (truth_node program.special true) all tt)
  in_pairs_allowed each joint graph after id (pair ∷ pairs) one two all is =
      let built = build_pairs each joint (length graph) pair pairs in
      subst NodesAllowed (sym (one_follows (written graph id built) after is)) (written_allowed graph id built all (pairs_allowed each joint (length graph) pair pairs one two))

  truth_allowed : (answer : Bool) → NodeAllowed (truth_node program.special answer)
  truth_allowed true = tt
  truth_allowed false = tt

  -- a free variable bound to a constructor
  pub imitating_allowed : (graph : Graph) (v : ℕ) (c : ConId) (n : ℕ) → NodesAllowed graph → NodesAllowed (imitating graph v c n)
  imitating_allowed graph v c n all = set_allowed (graph ++ free_nodes n) v (node (kind.Cons c) (numbers (length graph) n)) (nodes_both graph (free_nodes n) all (free_allowed n)) tt

  bound_allowed : (graph : Graph) (v : ℕ) (p : code.Shallow) → NodesAllowed graph → NodesAllowed (bound_to graph v p)
  bound_allowed graph v (code.Exactly l) all = set_allowed graph v (alone (kind.Lit l)) all tt
  bound_allowed graph v (code.Built c xs) all = imitating_allowed graph v c (length xs) all

  -- ---- functions and branches

  allows_more : (low : ℕ) (mention : Mention) → low ≤ level → Allows levels low mention → Allows levels level mention
  allows_more low (Plain f) up may = omega arith
  allows_more low (Collected f) up may = omega arith

  all_from : (ms : List Mention) → ((k : ℕ) (mention : Mention) → slice_get ms k ≡ Some mention → Allows levels level mention) → AllAllowed levels level ms
  all_from [] each = tt
  all_from (m ∷ ms) each = (each 0 m refl, all_from ms (λ k mention at. each (suc k) mention at))

  alternatives_at : (branches : List Branch) (k : ℕ) (branch : Branch) → slice_get branches k ≡ Some branch
      → AllAllowed levels level (alternative_mentions (alternatives_of (term_of program) branches)) → AllAllowed levels level (mentions (term_of program branch.body))
  alternatives_at [] k branch at all = let no : ⊥ = cc in absurd no
  alternatives_at (first ∷ branches) zero branch at all =
      let same : first ≡ branch = cc in
      subst (λ (b : Branch). AllAllowed levels level (mentions (term_of program b.body))) same
      (allowed_both levels level (mentions (term_of program first.body)) (alternative_mentions (alternatives_of (term_of program) branches)) all).0
  alternatives_at (first ∷ branches) (suc k) branch at all =
      alternatives_at branches k branch at
      (allowed_both levels level (mentions (term_of program first.body)) (alternative_mentions (alternatives_of (term_of program) branches)) all).1

  module _ (well : is_well_formed program ≡ true) (are : AreLevelsOf program levels) where
    body_allowed : (f : FunId) (params : List ℕ) (body : ExprId) → body_of program f ≡ Some (code.Rule params body) → level_of levels f ≤ level
        → AllAllowed levels level (mentions (term_of program body))
    body_allowed f params body is low =
        let found = body_there program f (code.Rule params body) is in
        let there : function_of (program_of program) f ≡ Some (function_in program found.0) =
        function_there program f ∙ ap (λ (o : Option code.Function). option_map (function_in program) o) found.1 in
        let all : AllAllowed levels level (body_mentions (body_in program found.0.body)) =
        all_from (body_mentions (body_in program found.0.body)) (λ k mention at.
        allows_more (level_of levels f) mention low (are.are_levels.allowed f.0 k (function_in program found.0) mention there at)) in
        (allowed_both levels level (mentions (term_of program body)) [] (subst (λ (b : code.Body). AllAllowed levels level (body_mentions (body_in program b))) found.2 all)).0

    taken_allowed : (graph : Graph) (id : ℕ) (mode : Mode) (scrutinee : ℕ) (scope inside : Scope) (branches : List Branch) (test : code.Shallow → Bool) (branch : Branch)
        → CaseAt program graph id mode scrutinee scope branches → branch_for test branches ≡ Some branch → NodesAllowed graph
        → NodesAllowed (write program inside graph id branch.body)
    taken_allowed graph id mode scrutinee scope inside branches test branch at chosen all =
        let found = branch_at test branches branch chosen in
        let fitting = branch_fits program at.number mode at.kept at.inner branches found.place branch well at.code_is found.is in
        let named : AllAllowed levels level (named_by program (kind.Case mode at.number)) =
        subst (λ (n : Node). NodeAllowed n) at.node_is (allowed_at graph id all) in
        let arms : AllAllowed levels level (alternative_mentions (alternatives_of (term_of program) branches)) =
        subst (λ (o : Option Expr). AllAllowed levels level (branch_mentions program o)) at.code_is named in
        let bound : length program.expressions ≤ length program.expressions = omega arith in
        written_allowed graph id (build_within (length program.expressions) program inside (length graph) branch.body) all
        (built_allowed (length program.expressions) bound (at.kept ++ bound_by branch.pattern) inside (length graph) branch.body fitting.body
        (alternatives_at branches found.place branch found.is arms))

    -- ---- rows

    by_put : (graph after : Graph) (id : ℕ) (n : Node) → NodesAllowed graph → NodeAllowed n → after ≡ put graph id n → NodesAllowed after
    by_put graph after id n all new is = subst NodesAllowed (sym is) (set_allowed graph id n all new)

    pub row_allowed : (graph after : Graph) (id : ℕ) → NodesAllowed graph → Steps program graph id after → NodesAllowed after
    row_allowed graph after id all (row.call f args params body at body_is is) =
        let named : AllAllowed levels level (named_by program (kind.Call f)) = subst (λ (n : Node). NodeAllowed n) at (allowed_at graph id all) in
        let fits = rule_fits program f params body well body_is in
        let bound : length program.expressions ≤ length program.expressions = omega arith in
        subst NodesAllowed (sym is)
        (written_allowed graph id (build_within (length program.expressions) program (zip params args) (length graph) body) all
        (built_allowed (length program.expressions) bound params (zip params args) (length graph) body fits.body_fits (body_allowed f params body body_is named.0)))
    row_allowed graph after id all (row.left one two at is) = by_put graph after id (renaming one) all tt is
    row_allowed graph after id all (row.right one two at is) = by_put graph after id (renaming two) all tt is
    row_allowed graph after id all (row.literal_branch mode scrutinee scope branches l args branch at head_is chosen is) =
        subst NodesAllowed (sym is) (taken_allowed graph id mode scrutinee scope (scope ++ zip (bound_by branch.pattern) []) branches (takes_literal l) branch at chosen all)
    row_allowed graph after id all (row.constructor_branch mode scrutinee scope branches c args branch at head_is chosen is) =
        subst NodesAllowed (sym is) (taken_allowed graph id mode scrutinee scope (scope ++ zip (bound_by branch.pattern) args) branches (takes_constructor c) branch at chosen all)
    row_allowed graph after id all (row.no_literal_branch mode scrutinee scope branches l args at head_is none is) = by_put graph after id (alone kind.Fail) all tt is
    row_allowed graph after id all (row.no_constructor_branch mode scrutinee scope branches c args at head_is none is) = by_put graph after id (alone kind.Fail) all tt is
    row_allowed graph after id all (row.no_partial_branch mode scrutinee scope branches h args at head_is is) = by_put graph after id (alone kind.Fail) all tt is
    row_allowed graph after id all (row.narrowing scrutinee scope branches args branch at head_is among is) =
        subst NodesAllowed (sym is) (bound_allowed graph (head_of graph scrutinee) branch.pattern all)
    row_allowed graph after id all (row.still_partial function argument h args arity at head_is arity_is fewer is) =
        let named : AllAllowed levels level (head_mentions h) = subst (λ (n : Node). NodeAllowed n) head_is (allowed_at graph (head_of graph function) all) in
        by_put graph after id (node (kind.Part h) (args ++ argument ∷ [])) all named is
    row_allowed graph after id all (row.whole function argument h args at head_is arity_is is) =
        let named : AllAllowed levels level (head_mentions h) = subst (λ (n : Node). NodeAllowed n) head_is (allowed_at graph (head_of graph function) all) in
        by_put graph after id (node (kind_of_whole program h) (args ++ argument ∷ [])) all (whole_allowed program levels level h named) is
    row_allowed graph after id all (row.not_applicable function argument at other is) = by_put graph after id (alone kind.Fail) all tt is
    row_allowed graph after id all (row.number operation args m n result at kinds result_is whole is) = by_put graph after id (alone (kind.Lit (Int result))) all tt is
    row_allowed graph after id all (row.test operation args m n answer at kinds answer_is is) = by_put graph after id (truth_node program.special answer) all (truth_allowed answer) is
    row_allowed graph after id all (row.division_by_zero operation args m n at kinds divides zero_is is) = by_put graph after id (alone kind.Fail) all tt is
    row_allowed graph after id all (row.code_point args c at kinds is) = by_put graph after id (alone (kind.Lit (Int (pos c)))) all tt is
    row_allowed graph after id all (row.character args c at kinds scalar is) = by_put graph after id (alone (kind.Lit (Char c))) all tt is
    row_allowed graph after id all (row.no_character args n at kinds none is) = by_put graph after id (alone kind.Fail) all tt is
    row_allowed graph after id all (row.no_operands operation args at on_literals none is) = by_put graph after id (alone kind.Fail) all tt is
    row_allowed graph after id all (row.compared_literals a b l m us vs at head_a head_b is) =
        by_put graph after id (truth_node program.special (same_literal l m)) all (truth_allowed (same_literal l m)) is
    row_allowed graph after id all (row.compared_mixed a b at mixed is) = by_put graph after id (truth_node program.special false) all tt is
    row_allowed graph after id all (row.compared_unlike a b c d us vs at head_a head_b differ is) = by_put graph after id (truth_node program.special false) all tt is
    row_allowed graph after id all (row.compared_alike a b c d us vs at head_a head_b alike is) =
        let low : level_of levels program.special.both ≤ level = let none_higher = are.conjunction in omega arith in
        in_pairs_allowed (kind.Prim prim.Equal) (kind.Call program.special.both) graph after id (zip us vs) tt (low, tt) all is
    row_allowed graph after id all (row.compared_partial a b at partial is) = by_put graph after id (alone kind.Fail) all tt is
    row_allowed graph after id all (row.both_true a b at both is) = by_put graph after id (truth_node program.special true) all tt is
    row_allowed graph after id all (row.not_both_true a b at other is) = by_put graph after id (alone kind.Fail) all tt is
    row_allowed graph after id all (row.same_variable a b us vs at head_a head_b same is) = by_put graph after id (truth_node program.special true) all tt is
    row_allowed graph after id all (row.two_variables a b us vs at head_a head_b differ is) =
        by_put (put graph (head_of graph a) (renaming (head_of graph b))) after id (truth_node program.special true)
        (set_allowed graph (head_of graph a) (renaming (head_of graph b)) all tt) tt is
    row_allowed graph after id all (row.bound_to_literal a b v other l args at sides is) =
        by_put (put graph v (renaming other)) after id (truth_node program.special true) (set_allowed graph v (renaming other) all tt) tt is
    row_allowed graph after id all (row.bound_to_constant a b v other c at sides is) =
        by_put (put graph v (renaming other)) after id (truth_node program.special true) (set_allowed graph v (renaming other) all tt) tt is
    row_allowed graph after id all (row.occurs a b v other c arg args at sides reached is) = by_put graph after id (alone kind.Fail) all tt is
    row_allowed graph after id all (row.imitation a b v other c arg args at sides apart is) =
        in_pairs_allowed (kind.Prim prim.Unify) (kind.Prim prim.And) (imitating graph v c (length args + 1)) after id
        (zip (numbers (length graph) (length args + 1)) (arg ∷ args)) tt tt (imitating_allowed graph v c (length args + 1) all) is
    row_allowed graph after id all (row.equal_literals a b l m us vs at head_a head_b same is) = by_put graph after id (truth_node program.special true) all tt is
    row_allowed graph after id all (row.unlike_literals a b l m us vs at head_a head_b differ is) = by_put graph after id (alone kind.Fail) all tt is
    row_allowed graph after id all (row.decomposition a b c d us vs at head_a head_b alike is) =
        in_pairs_allowed (kind.Prim prim.Unify) (kind.Prim prim.And) graph after id (zip us vs) tt tt all is
    row_allowed graph after id all (row.clash a b c d us vs at head_a head_b differ is) = by_put graph after id (alone kind.Fail) all tt is
    row_allowed graph after id all (row.mixed a b at mixed is) = by_put graph after id (alone kind.Fail) all tt is
    row_allowed graph after id all (row.with_partial a b at partial is) = by_put graph after id (alone kind.Fail) all tt is
    row_allowed graph after id all (row.set_of_partial f args at partial is) = by_put graph after id (alone kind.Stuck) all tt is
