-- The part of a program that a module is translated to, and the part of a goal.
use Rattle.std.specs.Prelude.{ℕ, false, List, [], ◌∷◌, ◌++◌, Option, None, Some, codes, length, map, option_map, take, if◌then◌else◌}
use Rattle.std.specs.List.{flat_map}
use Rattle.cu_calculus.specs.declared.ConId.{ConId}
use Rattle.cu_calculus.specs.declared.FunId.{FunId}
use Rattle.cu_calculus.specs.declared.Head.TheVariants as global
use Rattle.cu_calculus.specs.declared.builtin.Special.{Special}
use Rattle.cu_kernel.specs.Kernel as kernel
use Rattle.cu_kernel.specs.LocalKernel.{LocalKernel}
use Rattle.cu_kernel.specs.declared.declarations.Operator.{Operator}
use Rattle.cu_kernel.specs.declared.declarations.Side as kernel_side
use Rattle.cu_kernel.specs.declared.declarations.Side.TheVariants as to
use Rattle.cu_kernel.specs.declared.local.LocalHead.TheVariants as head
use Rattle.cu_kernel.specs.declared.local_program.Counts.{Counts}
use Rattle.cu_lex.specs.Located.{first_position}
use Rattle.cu_syntax.specs.declared.items.Side.{Side}
use Rattle.cu_syntax.specs.declared.items.Side.TheVariants as side
use Rattle.cu_syntax.specs.Syntax as syntax
use Rattle.cu_syntax.specs.Syntax.{ConstructorDeclaration, Goal, Item, Name, TypeTerm, expression_position}
use Rattle.cu_uses.specs.Binders.{is_among, texts}
use Rattle.cu_entities.specs.Entities.{Values}
use Rattle.cu_modules.specs.Means.{interfaces_before}
use Rattle.cu_modules.specs.BuiltInEntities.{prelude_name, set_functions_name}
use Rattle.cu_modules.specs.Scopes.{Named, exported, imports_of}
use Rattle.cu_translation.specs.Around.{Callable, Names, Referent, place_at}
use Rattle.cu_translation.specs.Externals.{External, external_type, externals}
use Rattle.cu_translation.specs.Functions.{external_function, goal_function, goal_name, top_function}
use Rattle.cu_translation.specs.LocalFunctions.{or_else, signature_in}
use Rattle.cu_translation.specs.ModuleNames.{fixities_in, id_of, module_at, names_in, value_of}
use Rattle.cu_translation.specs.ModuleNames as fixities
use Rattle.cu_translation.specs.Numbered.{all_constructors, all_functions, all_synonyms, all_types, groups_in, only_in_prelude}
use Rattle.cu_translation.specs.Rules.{Group}
use Rattle.cu_translation.specs.Terms.{constructor_of}
use Rattle.cu_translation.specs.TypeTable.{signature_type}
use Rattle.cu_translation.specs.ModuleTypes.{Reading, is_public, synonyms_by, types_in}

-- ---- functions

abbrev pub signature_by : List ℕ → Item → Option TypeTerm
signature_by name (syntax.DeclarationItem d) = signature_in name d
signature_by name _ = None

-- the type that a signature among items declares for a name, if there is one
abbrev pub signature_of : List ℕ → List Item → Option TypeTerm
signature_of name [] = None
signature_of name (i ∷ items) = or_else (signature_by name i) (signature_of name items)

abbrev pub function_mark : Reading → Group → kernel.Mark
function_mark reading g = record {
  «module» = reading.number;
  public = is_public reading Values g.first.name.text;
  declared =
      option_map (signature_type reading.names)
      (signature_of g.first.name.text reading.m.syntax.items);
  captured = 0;
  place = place_at reading.names g.first.at;
}

-- What is known of an operation that is built in. Its place is the first of a text.
abbrev pub external_mark : Reading → External → kernel.Mark
external_mark reading e = record {
  «module» = reading.number;
  public = is_public reading Values e.name;
  declared = Some (external_type reading.names e.operation);
  captured = 0;
  place = place_at reading.names first_position;
}

-- ---- the module

abbrev pub grouped_to : Side → kernel_side.Side
grouped_to side.Left = to.Left
grouped_to side.Right = to.Right
grouped_to side.Neither = to.Neither

abbrev pub operator : List (List ℕ) → fixities.Declared → Operator
operator table d = record {
  name = id_of table d.operator;
  side = grouped_to d.fixity.side;
  level = d.fixity.level;
}

-- texts without those that stand earlier in the list, or among `seen`
abbrev pub each_once : List (List ℕ) → List (List ℕ) → List (List ℕ)
each_once seen [] = []
each_once seen (x ∷ xs) = if is_among seen x then each_once seen xs else x ∷ each_once (x ∷ seen) xs

-- the modules that a module imports, each once, in the order of the text
abbrev pub imports_in : Named → List (List ℕ)
imports_in m = each_once [] (map (λ (i : syntax.Import). i.name.text) (imports_of m))

abbrev pub module_info : Reading → kernel.Module
module_info reading = record {
  name = id_of reading.table reading.m.name;
  imports = map (id_of reading.table) (imports_in reading.m);
  operators = map (operator reading.table) (fixities_in reading.m);
}

-- ---- numbers

-- how many entities of each kind, and how many modules, there are in modules
abbrev pub counts : List Named → Counts
counts modules = record {
  types = length (all_types modules);
  constructors = length (all_constructors modules);
  functions = length (all_functions modules);
  synonyms = length (all_synonyms modules);
  modules = length modules;
}

abbrev pub function_in : Referent → FunId
function_in (Callable (head.Global (global.Fun f)) arity) = f
function_in _ = record { 0 = 0 }

abbrev pub constructor_alone : Referent → Option ConId
constructor_alone (Callable (head.Global (global.Con c)) arity) = Some c
constructor_alone _ = None

-- the built-in entities of these modules; the constructor of the values of set functions is there
-- where the module SetFunctions is
abbrev pub special : List Named → Special
special modules = record {
  falsity = constructor_of (value_of modules prelude_name (codes "False"));
  truth = constructor_of (value_of modules prelude_name (codes "True"));
  nil = constructor_of (value_of modules prelude_name (codes "[]"));
  cons = constructor_of (value_of modules prelude_name (codes ":"));
  both = function_in (value_of modules prelude_name (codes "&&"));
  values = constructor_alone (value_of modules set_functions_name (codes "Values"));
}

-- ---- parts

abbrev pub reading : List (List ℕ) → List Named → ℕ → Reading
reading table modules number = record {
  table = table;
  names = names_in table modules number;
  number = number;
  m = module_at modules number;
  exports = exported (interfaces_before modules number) (module_at modules number);
}

abbrev pub part_of : List Named → Reading → LocalKernel
part_of modules r = record {
  start = counts (take r.number modules);
  types = types_in r;
  functions =
      only_in_prelude r.m.name (map (external_function r.table) externals) ++
      map (top_function r.table r.names) (groups_in r.m);
  synonyms = flat_map (synonyms_by r) r.m.syntax.items;
  modules = module_info r ∷ [];
  marks =
      only_in_prelude r.m.name (map (external_mark r) externals) ++
      map (function_mark r) (groups_in r.m);
  goal = None;
  special = special modules;
}

-- the part of the module of a number among others, under a table of names
abbrev pub module_part : List (List ℕ) → List Named → ℕ → LocalKernel
module_part table modules number = part_of modules (reading table modules number)

-- what names refer to in a goal: what they refer to in its module, but the places are of the goal
abbrev pub goal_names : List (List ℕ) → List Named → ℕ → Names
goal_names table modules root =
    record (names_in table modules root) { owner = id_of table goal_name }

abbrev pub goal_mark : Names → ℕ → Goal → kernel.Mark
goal_mark names root goal = record {
  «module» = root;
  public = false;
  declared = None;
  captured = 0;
  place = place_at names (expression_position goal.expression);
}

-- the part of a goal in the module of a number: a function that stands after all others
abbrev pub goal_part : List (List ℕ) → List Named → ℕ → Goal → LocalKernel
goal_part table modules root goal = record {
  start = counts modules;
  types = [];
  functions = goal_function table (goal_names table modules root) goal ∷ [];
  synonyms = [];
  modules = [];
  marks = goal_mark (goal_names table modules root) root goal ∷ [];
  goal = Some (record {
    function = record { 0 = length (all_functions modules) };
    names = map (id_of table) (texts goal.free);
  });
  special = special modules;
}
