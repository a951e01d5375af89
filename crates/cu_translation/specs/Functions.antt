-- The top-level functions of modules, and the function of a goal.
use Rattle.std.specs.Prelude.{ℕ, List, [], ◌∷◌, ◌++◌, map, length, codes}
use Rattle.cu_calculus.specs.Valid.{external_arity}
use Rattle.cu_kernel.specs.LocalKernel.{External, LocalRule, Rules, TopFunction}
use Rattle.cu_syntax.specs.Syntax.{Goal, Name}
use Rattle.cu_translation.specs.Around.{Around, Names, Numbers}
use Rattle.cu_translation.specs.Dependencies.{depends}
use Rattle.cu_translation.specs.Externals as externals
use Rattle.cu_translation.specs.LocalFunctions.{local_functions, rule_of}
use Rattle.cu_translation.specs.LocalNames.{Binder, Scope, variable_entries}
use Rattle.cu_translation.specs.ModuleNames.{id_of}
use Rattle.cu_translation.specs.Numbering.{all_binders, all_functions, at_name, binder_number, function_number}
use Rattle.cu_translation.specs.PatternTable.{patterns_of}
use Rattle.cu_translation.specs.Rules.{Group, pattern_count, rules_of}
use Rattle.cu_translation.specs.Sites.{Node, nodes_on, rules_nodes}
use Rattle.cu_translation.specs.Table.{term}
use Rattle.cu_calculus.specs.Term as calculus

-- the numbers inside a function that has these nodes: its variables are numbered first, and after
-- them those of `last`
abbrev pub numbers_in : List Node → List Binder → Numbers
numbers_in nodes last = record {
  variable = binder_number (all_binders nodes ++ last);
  function = function_number (all_functions nodes);
  depends = depends nodes;
}

abbrev pub around_in : Names → List Node → List Binder → Around
around_in names nodes last = record { names = names; numbers = numbers_in nodes last }

-- ---- functions of modules

abbrev pub group_nodes : Group → List Node
group_nodes g = rules_nodes (rules_of g)

abbrev pub around_group : Names → Group → Around
around_group names g = around_in names (group_nodes g) []

-- a top-level function, by its rules
abbrev pub top_function : List (List ℕ) → Names → Group → TopFunction
top_function table names g = record {
  name = id_of table g.first.name.text;
  arity = pattern_count g.first.parameters;
  body = Rules (map (rule_of (around_group names g) []) (rules_of g));
  locals = local_functions (around_group names g) (group_nodes g);
}

-- an operation that is built in
abbrev pub external_function : List (List ℕ) → externals.External → TopFunction
external_function table e = record {
  name = id_of table e.name;
  arity = external_arity e.operation;
  body = External e.operation;
  locals = [];
}

-- ---- goals: a function whose parameters are the goal's variables, declared after all others

abbrev pub goal_scope : Goal → Scope
goal_scope goal = variable_entries goal.free

abbrev pub goal_nodes : Goal → List Node
goal_nodes goal = nodes_on [] (record { functions = []; scope = goal_scope goal }) goal.expression

abbrev pub around_goal : Names → Goal → Around
around_goal names goal = around_in names (goal_nodes goal) (map at_name goal.free)

abbrev pub goal_parameter : Around → Name → calculus.Pattern
goal_parameter around x = calculus.Any (around.numbers.variable (at_name x))

abbrev pub goal_rule : Names → Goal → LocalRule
goal_rule names goal = record {
  params = patterns_of (map (goal_parameter (around_goal names goal)) goal.free);
  body = term (around_goal names goal) (goal_scope goal) goal.expression;
}

-- the name of the module for which a goal's text stands
abbrev pub goal_name : List ℕ
goal_name = codes "goal"

abbrev pub goal_function : List (List ℕ) → Names → Goal → TopFunction
goal_function table names goal = record {
  name = id_of table goal_name;
  arity = length goal.free;
  body = Rules (goal_rule names goal ∷ []);
  locals = local_functions (around_goal names goal) (goal_nodes goal);
}
