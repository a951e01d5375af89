-- What is wrong with the functions of a module, or with a goal: each fault with its place in the
-- text.
use Rattle.std.specs.Prelude.{ℕ, Bool, true, false, not, ◌&&◌, List, [], ◌∷◌, ◌++◌, Option, None, Some, drop, length, map, nat_eq, nat_le, if◌then◌else◌}
use Rattle.std.specs.List.{filter, flat_map}
use Rattle.cu_calculus.specs.declared.Head.TheVariants as global
use Rattle.cu_fixity.specs.Grouping.{Applied, Between, Leaf, Tree}
use Rattle.cu_fixity.specs.Operators.{Minus, Named, Operator, expression_items, fixity_with, pattern_items}
use Rattle.cu_kernel.specs.declared.local.LocalHead.TheVariants as head
use Rattle.cu_lex.specs.Located.{Position}
use Rattle.cu_syntax.specs.Syntax as syntax
use Rattle.cu_syntax.specs.Syntax.{Expression, Goal, Name, Pattern, PatternRest, Patterns, expression_position}
use Rattle.cu_uses.specs.Binders.{repeated, variables}
use Rattle.cu_translation.specs.Around.{Around, Callable, Names, Referent, SetFunction, fixity_at, name_alone, referent}
use Rattle.cu_translation.specs.Dependencies.{Definition, definitions, is_recursive}
use Rattle.cu_translation.specs.Functions.{around_goal, around_group, goal_nodes, group_nodes}
use Rattle.cu_translation.specs.GroupedTree.{grouped_tree}
use Rattle.cu_translation.specs.LocalNames.{At, Binder, Scope}
use Rattle.cu_translation.specs.Rules.{Group, Rule, one_pattern, pattern_count, rules_of}
use Rattle.cu_translation.specs.Sites.{Bound, Function, Matched, Node, Operation, Site, Use}
use Rattle.cu_translation.specs.FaultOrder.{Arity, Fault, FixityClash, NonLinear, RecursiveLocal, SetName, TooLong, at_name, fault}

-- ---- clashes

abbrev pub has_tree : {T : Type 0} → Option T → Bool
has_tree None = false
has_tree (Some t) = true

-- the fault that operators have no grouped tree, unless there is one
abbrev pub clash_unless : {T : Type 0} → Position → Option T → List Fault
clash_unless at None = fault FixityClash at ∷ []
clash_unless at (Some t) = []

abbrev mutual
  -- the clashes of constructor operators in a pattern, which are those of top level
  pub pattern_clashes : Names → Pattern → List Fault
  pattern_clashes names (syntax.PatternVariable x) = []
  pattern_clashes names (syntax.As x p) = pattern_clashes names p
  pattern_clashes names (syntax.Wildcard at) = []
  pattern_clashes names (syntax.PatternLiteral at found) = []
  pattern_clashes names (syntax.Constructed at c ps) = all_clashes names ps
  pattern_clashes names (syntax.PatternTuple at ps) = all_clashes names ps
  pattern_clashes names (syntax.PatternList at ps) = all_clashes names ps
  pattern_clashes names (syntax.PatternOperators at first rest) =
      clash_unless at (grouped_tree (fixity_with names.fixity)
      (pattern_items (syntax.PatternOperators at first rest))) ++
      (pattern_clashes names first ++ clashes_after names rest)

  pub all_clashes : Names → Patterns → List Fault
  all_clashes names syntax.NoPattern = []
  all_clashes names (syntax.MorePatterns p ps) = pattern_clashes names p ++ all_clashes names ps

  pub clashes_after : Names → PatternRest → List Fault
  clashes_after names syntax.NoConstructor = []
  clashes_after names (syntax.ThenConstructor c p rest) =
      pattern_clashes names p ++ clashes_after names rest

-- the grouped tree of an expression with operators, where it stands
abbrev pub tree_of : Names → Scope → Expression → Option (Tree Expression Operator)
tree_of names scope e = grouped_tree (fixity_with (fixity_at names scope)) (expression_items e)

abbrev pub clashes_at : Names → Scope → Site → List Fault
clashes_at names scope (Operation e) = clash_unless (expression_position e) (tree_of names scope e)
clashes_at names scope (Matched ps) = all_clashes names ps
clashes_at names scope (Bound p right) = pattern_clashes names p
clashes_at names scope _ = []

abbrev pub clashes_of : Names → Node → List Fault
clashes_of names n = clashes_at names n.spot.scope n.site

-- ---- numbers of patterns

abbrev pub takes : Option Referent → ℕ → Bool
takes (Some (Callable h arity)) n = nat_eq arity n
takes _ n = true

abbrev pub arity_unless : Bool → Name → List Fault
arity_unless true c = []
arity_unless false c = at_name Arity c ∷ []

abbrev pub constructor_fault : Names → Name → ℕ → List Fault
constructor_fault names c n = arity_unless (takes (Some (names.value c)) n) c

abbrev mutual
  pub constructor_faults : Names → Pattern → List Fault
  constructor_faults names (syntax.PatternVariable x) = []
  constructor_faults names (syntax.As x p) = constructor_faults names p
  constructor_faults names (syntax.Wildcard at) = []
  constructor_faults names (syntax.PatternLiteral at found) = []
  constructor_faults names (syntax.Constructed at c ps) =
      constructor_fault names c (pattern_count ps) ++ all_constructor_faults names ps
  constructor_faults names (syntax.PatternTuple at ps) = all_constructor_faults names ps
  constructor_faults names (syntax.PatternList at ps) = all_constructor_faults names ps
  constructor_faults names (syntax.PatternOperators at first rest) =
      constructor_faults names first ++ operator_faults names rest

  pub all_constructor_faults : Names → Patterns → List Fault
  all_constructor_faults names syntax.NoPattern = []
  all_constructor_faults names (syntax.MorePatterns p ps) =
      constructor_faults names p ++ all_constructor_faults names ps

  -- the faults of constructor operators, each of which is a constructor on the two patterns beside
  -- it
  pub operator_faults : Names → PatternRest → List Fault
  operator_faults names syntax.NoConstructor = []
  operator_faults names (syntax.ThenConstructor c p rest) =
      constructor_fault names c 2 ++ (constructor_faults names p ++ operator_faults names rest)

abbrev pub differs_from : Rule → Rule → Bool
differs_from first r = not (nat_eq (pattern_count r.parameters) (pattern_count first.parameters))

abbrev pub first_rule : List Rule → List Fault
first_rule [] = []
first_rule (r ∷ rules) = fault Arity r.at ∷ []

-- the first rule of a function that has another number of patterns than the function's first one
abbrev pub rule_faults : Group → List Fault
rule_faults g = first_rule (filter (differs_from g.first) g.others)

-- the most rules of a function
abbrev pub most_rules : ℕ
most_rules = 4096

abbrev pub too_long : List Rule → List Fault
too_long [] = []
too_long (r ∷ rules) = fault TooLong r.at ∷ []

abbrev pub length_faults : Group → List Fault
length_faults g = too_long (drop most_rules (rules_of g))

-- ---- names of set functions

-- Whether the arguments of the name of the set functions of functions of n parameters are right:
-- the first is the name of such a function of top level, and at most n others follow it.
abbrev pub is_set_call : ℕ → List (Option Referent) → Bool
is_set_call n (Some (Callable (head.Global (global.Fun f)) arity) ∷ others) =
    nat_eq arity n && nat_le (length others) n
is_set_call n _ = false

abbrev pub set_name_unless : Bool → Name → List Fault
set_name_unless true name = []
set_name_unless false name = at_name SetName name ∷ []

abbrev pub use_faults : Referent → Name → List (Option Referent) → List Fault
use_faults (SetFunction n) name arguments = set_name_unless (is_set_call n arguments) name
use_faults _ name arguments = []

-- what the tree of an operand refers to, if it is a name and nothing else
abbrev pub leaf_name : Around → Scope → Tree Expression Operator → Option Referent
leaf_name around scope (Leaf e) = name_alone around scope e
leaf_name around scope _ = None

abbrev pub operation_faults : Around → Scope → Operator → List (Option Referent) → List Fault
operation_faults around scope (Minus at) arguments = []
operation_faults around scope (Named name) arguments =
    use_faults (referent around scope name) name arguments

-- the faults of the names of set functions among the operators of a grouped tree
abbrev pub tree_faults : Around → Scope → Tree Expression Operator → List Fault
tree_faults around scope (Leaf e) = []
tree_faults around scope (Applied o t) = tree_faults around scope t
tree_faults around scope (Between l o r) =
    operation_faults around scope o (leaf_name around scope l ∷ leaf_name around scope r ∷ []) ++
    (tree_faults around scope l ++ tree_faults around scope r)

abbrev pub faults_in_tree : Around → Scope → Option (Tree Expression Operator) → List Fault
faults_in_tree around scope None = []
faults_in_tree around scope (Some t) = tree_faults around scope t

-- ---- all of these

abbrev pub pattern_faults : Names → Patterns → List Fault
pattern_faults names ps =
    all_constructor_faults names ps ++ map (at_name NonLinear) (repeated [] (variables ps))

abbrev pub faults_at : Around → Scope → Site → List Fault
faults_at around scope (Use name arguments) =
    use_faults (referent around scope name) name (map (name_alone around scope) arguments)
faults_at around scope (Operation e) = faults_in_tree around scope (tree_of around.names scope e)
faults_at around scope (Matched ps) = pattern_faults around.names ps
faults_at around scope (Function block g) = rule_faults g ++ length_faults g
faults_at around scope (Bound p right) = pattern_faults around.names (one_pattern p)
faults_at around scope _ = []

abbrev pub faults_of : Around → Node → List Fault
faults_of around n = faults_at around n.spot.scope n.site

-- the fault of a variable that depends on itself, at its declaration; the whole value of a pattern
-- is never told
abbrev pub recursive_at : List Node → Binder → List Fault
recursive_at nodes (At p) = if is_recursive nodes (At p) then fault RecursiveLocal p ∷ [] else []
recursive_at nodes _ = []

abbrev pub recursive_fault : List Node → Definition → List Fault
recursive_fault nodes d = recursive_at nodes d.variable

abbrev pub node_faults : Around → List Node → List Fault
node_faults around nodes =
    flat_map (faults_of around) nodes ++ flat_map (recursive_fault nodes) (definitions nodes)

-- ---- functions and goals

abbrev pub group_clashes : Names → Group → List Fault
group_clashes names g = flat_map (clashes_of names) (group_nodes g)

abbrev pub group_faults : Names → Group → List Fault
group_faults names g =
    rule_faults g ++ (length_faults g ++ node_faults (around_group names g) (group_nodes g))

abbrev pub goal_clashes : Names → Goal → List Fault
goal_clashes names goal = flat_map (clashes_of names) (goal_nodes goal)

abbrev pub goal_faults : Names → Goal → List Fault
goal_faults names goal = node_faults (around_goal names goal) (goal_nodes goal)
