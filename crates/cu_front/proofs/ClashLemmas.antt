-- Clashes are faults of operators, and no other fault is.
use Rattle.std.proofs.Common.{◌≡◌, ℕ, Bool, true, false, List, [], ◌∷◌, ◌++◌, Option, None, Some, drop, filter, flat_map, map, if◌then◌else◌, refl}
use Rattle.cu_fixity.specs.Grouping.{Applied, Between, Leaf, Tree}
use Rattle.cu_fixity.specs.Operators.{Minus, Named, Operator, fixity_with, pattern_items}
use Rattle.cu_lex.specs.Located.{Position}
use Rattle.cu_syntax.specs.Syntax as syntax
use Rattle.cu_syntax.specs.Syntax.{Expression, Name, Pattern, PatternRest, Patterns, expression_position}
use Rattle.cu_uses.specs.Binders.{repeated, variables}
use Rattle.cu_translation.specs.Around.{Around, Callable, Names, Nothing, Referent, SetFunction, Variable, name_alone, referent}
use Rattle.cu_translation.specs.Dependencies.{Definition, definitions, is_recursive}
use Rattle.cu_translation.specs.FaultOrder.{Fault, fault, FixityClash, NonLinear, RecursiveLocal, Wrong, at_name, earlier, first_fault, is_before}
use Rattle.cu_translation.specs.Faults.{all_clashes, all_constructor_faults, arity_unless, clash_unless, clashes_at, clashes_after, clashes_of, constructor_fault, constructor_faults, differs_from, faults_at, faults_in_tree, faults_of, first_rule, group_clashes, group_faults, is_set_call, leaf_name, length_faults, most_rules, node_faults, operation_faults, operator_faults, pattern_clashes, pattern_faults, recursive_at, recursive_fault, rule_faults, set_name_unless, takes, too_long, tree_faults, tree_of, use_faults}
use Rattle.cu_translation.specs.Functions.{around_group, group_nodes}
use Rattle.cu_translation.specs.GroupedTree.{grouped_tree}
use Rattle.cu_translation.specs.LocalNames.{At, Binder, Otherwise, Scope, Selected, Whole}
use Rattle.cu_translation.specs.Rules.{Group, Rule, one_pattern, pattern_count, rules_of}
use Rattle.cu_translation.specs.Sites.{Bound, Defined, Free, Function, Generated, Lambda, Matched, Node, Operation, Site, Use}

abbrev pub is_clash : Wrong → Bool
is_clash FixityClash = true
is_clash _ = false

-- Each fault is a clash, or none is.
abbrev pub Are : Bool → List Fault → Type 0
Are clash [] = Unit {0}
Are clash (f ∷ fs) = (is_clash f.wrong ≡ clash) × Are clash fs

-- ---- lists

both : (clash : Bool) (xs ys : List Fault) → Are clash xs → Are clash ys → Are clash (xs ++ ys)
both clash [] ys first second = second
both clash (f ∷ xs) ys first second = (first.0, both clash xs ys first.1 second)

pub each : {X : Type 0} (clash : Bool) (found : X → List Fault) → ((x : X) → Are clash (found x)) → (xs : List X)
    → Are clash (flat_map found xs)
each clash found are [] = tt
each clash found are (x ∷ xs) = both clash (found x) (flat_map found xs) (are x) (each clash found are xs)

mapped : {X : Type 0} (clash : Bool) (found : X → Fault) → ((x : X) → is_clash (found x).wrong ≡ clash) → (xs : List X)
    → Are clash (map found xs)
mapped clash found are [] = tt
mapped clash found are (x ∷ xs) = (are x, mapped clash found are xs)

-- ---- clashes

unless : {T : Type 0} (at : Position) (found : Option T) → Are true (clash_unless at found)
unless at None = (refl, tt)
unless at (Some t) = tt

mutual
  pattern : (names : Names) (p : Pattern) → Are true (pattern_clashes names p)
  pattern names (syntax.PatternVariable x) = tt
  pattern names (syntax.As x p) = pattern names p
  pattern names (syntax.Wildcard at) = tt
  pattern names (syntax.PatternLiteral at found) = tt
  pattern names (syntax.Constructed at c ps) = patterns names ps
  pattern names (syntax.PatternTuple at ps) = patterns names ps
  pattern names (syntax.PatternList at ps) = patterns names ps
  pattern names (syntax.PatternOperators at first rest) =
      let tree = grouped_tree (fixity_with names.fixity) (pattern_items (syntax.PatternOperators at first rest)) in
      both true (clash_unless at tree) (pattern_clashes names first ++ clashes_after names rest) (unless at tree)
      (both true (pattern_clashes names first) (clashes_after names rest) (pattern names first) (patterns_after names rest))

  patterns : (names : Names) (ps : Patterns) → Are true (all_clashes names ps)
  patterns names syntax.NoPattern = tt
  patterns names (syntax.MorePatterns p ps) =
      both true (pattern_clashes names p) (all_clashes names ps) (pattern names p) (patterns names ps)

  patterns_after : (names : Names) (rest : PatternRest) → Are true (clashes_after names rest)
  patterns_after names syntax.NoConstructor = tt
  patterns_after names (syntax.ThenConstructor c p rest) =
      both true (pattern_clashes names p) (clashes_after names rest) (pattern names p) (patterns_after names rest)

clashes_there : (names : Names) (scope : Scope) (site : Site) → Are true (clashes_at names scope site)
clashes_there names scope (Use name arguments) = tt
clashes_there names scope (Operation e) = unless (expression_position e) (tree_of names scope e)
clashes_there names scope (Matched ps) = patterns names ps
clashes_there names scope (Lambda at ps e) = tt
clashes_there names scope (Generated at p qs e) = tt
clashes_there names scope (Function block g) = tt
clashes_there names scope (Defined x right) = tt
clashes_there names scope (Bound p right) = pattern names p
clashes_there names scope (Free xs) = tt

pub all_are_clashes : (names : Names) (g : Group) → Are true (group_clashes names g)
all_are_clashes names g = each true (clashes_of names) (λ (n : Node). clashes_there names n.spot.scope n.site) (group_nodes g)

-- ---- other faults

arity : (right : Bool) (c : Name) → Are false (arity_unless right c)
arity true c = tt
arity false c = (refl, tt)

constructor : (names : Names) (c : Name) (n : ℕ) → Are false (constructor_fault names c n)
constructor names c n = arity (takes (Some (names.value c)) n) c

mutual
  constructors : (names : Names) (p : Pattern) → Are false (constructor_faults names p)
  constructors names (syntax.PatternVariable x) = tt
  constructors names (syntax.As x p) = constructors names p
  constructors names (syntax.Wildcard at) = tt
  constructors names (syntax.PatternLiteral at found) = tt
  constructors names (syntax.Constructed at c ps) =
      both false (constructor_fault names c (pattern_count ps)) (all_constructor_faults names ps)
      (constructor names c (pattern_count ps)) (all_constructors names ps)
  constructors names (syntax.PatternTuple at ps) = all_constructors names ps
  constructors names (syntax.PatternList at ps) = all_constructors names ps
  constructors names (syntax.PatternOperators at first rest) =
      both false (constructor_faults names first) (operator_faults names rest) (constructors names first) (operators names rest)

  all_constructors : (names : Names) (ps : Patterns) → Are false (all_constructor_faults names ps)
  all_constructors names syntax.NoPattern = tt
  all_constructors names (syntax.MorePatterns p ps) =
      both false (constructor_faults names p) (all_constructor_faults names ps) (constructors names p) (all_constructors names ps)

  operators : (names : Names) (rest : PatternRest) → Are false (operator_faults names rest)
  operators names syntax.NoConstructor = tt
  operators names (syntax.ThenConstructor c p rest) =
      both false (constructor_fault names c 2) (constructor_faults names p ++ operator_faults names rest) (constructor names c 2)
      (both false (constructor_faults names p) (operator_faults names rest) (constructors names p) (operators names rest))

first : (rules : List Rule) → Are false (first_rule rules)
first [] = tt
first (r ∷ rules) = (refl, tt)

rules : (g : Group) → Are false (rule_faults g)
rules g = first (filter (differs_from g.first) g.others)

long : (rules : List Rule) → Are false (too_long rules)
long [] = tt
long (r ∷ rules) = (refl, tt)

lengths : (g : Group) → Are false (length_faults g)
lengths g = long (drop most_rules (rules_of g))

set_name : (right : Bool) (name : Name) → Are false (set_name_unless right name)
set_name true name = tt
set_name false name = (refl, tt)

uses : (r : Referent) (name : Name) (arguments : List (Option Referent)) → Are false (use_faults r name arguments)
uses (Variable x) name arguments = tt
uses (Callable h n) name arguments = tt
uses (SetFunction n) name arguments = set_name (is_set_call n arguments) name
uses Nothing name arguments = tt

operation : (around : Around) (scope : Scope) (o : Operator) (arguments : List (Option Referent))
    → Are false (operation_faults around scope o arguments)
operation around scope (Minus at) arguments = tt
operation around scope (Named name) arguments = uses (referent around scope name) name arguments

tree : (around : Around) (scope : Scope) (t : Tree Expression Operator) → Are false (tree_faults around scope t)
tree around scope (Leaf e) = tt
tree around scope (Applied o t) = tree around scope t
tree around scope (Between l o r) =
    let operands = leaf_name around scope l ∷ leaf_name around scope r ∷ [] in
    both false (operation_faults around scope o operands) (tree_faults around scope l ++ tree_faults around scope r)
    (operation around scope o operands)
    (both false (tree_faults around scope l) (tree_faults around scope r) (tree around scope l) (tree around scope r))

in_tree : (around : Around) (scope : Scope) (found : Option (Tree Expression Operator)) → Are false (faults_in_tree around scope found)
in_tree around scope None = tt
in_tree around scope (Some t) = tree around scope t

in_patterns : (names : Names) (ps : Patterns) → Are false (pattern_faults names ps)
in_patterns names ps =
    both false (all_constructor_faults names ps) (map (at_name NonLinear) (repeated [] (variables ps))) (all_constructors names ps)
    (mapped false (at_name NonLinear) (λ x. refl) (repeated [] (variables ps)))

faults_there : (around : Around) (scope : Scope) (site : Site) → Are false (faults_at around scope site)
faults_there around scope (Use name arguments) = uses (referent around scope name) name (map (name_alone around scope) arguments)
faults_there around scope (Operation e) = in_tree around scope (tree_of around.names scope e)
faults_there around scope (Matched ps) = in_patterns around.names ps
faults_there around scope (Lambda at ps e) = tt
faults_there around scope (Generated at p qs e) = tt
faults_there around scope (Function block g) = both false (rule_faults g) (length_faults g) (rules g) (lengths g)
faults_there around scope (Defined x right) = tt
faults_there around scope (Bound p right) = in_patterns around.names (one_pattern p)
faults_there around scope (Free xs) = tt

chosen : (recursive : Bool) (at : Position) → Are false (if recursive then fault RecursiveLocal at ∷ [] else [])
chosen true at = (refl, tt)
chosen false at = tt

recursive : (nodes : List Node) (b : Binder) → Are false (recursive_at nodes b)
recursive nodes (At p) = chosen (is_recursive nodes (At p)) p
recursive nodes (Whole p) = tt
recursive nodes (Otherwise p) = tt
recursive nodes (Selected p q) = tt

nodes : (around : Around) (ns : List Node) → Are false (node_faults around ns)
nodes around ns =
    both false (flat_map (faults_of around) ns) (flat_map (recursive_fault ns) (definitions ns))
    (each false (faults_of around) (λ (n : Node). faults_there around n.spot.scope n.site) ns)
    (each false (recursive_fault ns) (λ (d : Definition). recursive ns d.variable) (definitions ns))

pub none_is_a_clash : (names : Names) (g : Group) → Are false (group_faults names g)
none_is_a_clash names g =
    let around = around_group names g in
    both false (rule_faults g) (length_faults g ++ node_faults around (group_nodes g)) (rules g)
    (both false (length_faults g) (node_faults around (group_nodes g)) (lengths g) (nodes around (group_nodes g)))

-- ---- the first

-- what holds of the fault that is told
abbrev pub Is : Bool → Option Fault → Type 0
Is clash None = Unit {0}
Is clash (Some f) = is_clash f.wrong ≡ clash

earlier_is : (clash before : Bool) (f g : Fault) → is_clash f.wrong ≡ clash → is_clash g.wrong ≡ clash
    → is_clash (if before then g else f).wrong ≡ clash
earlier_is clash true f g first second = second
earlier_is clash false f g first second = first

with_others : (clash : Bool) (f : Fault) (told : Option Fault) → is_clash f.wrong ≡ clash → Is clash told
    → is_clash (earlier f told).wrong ≡ clash
with_others clash f None is others = is
with_others clash f (Some g) is others = earlier_is clash (is_before g f) f g is others

pub first_is : (clash : Bool) (found : List Fault) → Are clash found → Is clash (first_fault found)
first_is clash [] are = tt
first_is clash (f ∷ fs) are = with_others clash f (first_fault fs) are.0 (first_is clash fs are.1)
