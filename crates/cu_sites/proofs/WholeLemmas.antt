-- That the dependencies are those of the text.
use Rattle.std.proofs.Common.{◌≡◌, ◌∙◌, ◌↔◌, ℕ, suc, true, List, [], ◌++◌, Option, Some, Result, Ok, Err, IfOk, length, map, sym, ap, subst}
use Rattle.std.specs.Option.{option_to_list}
use Rattle.cu_lex.specs.Located.{Position}
use Rattle.cu_translation.specs.Dependencies.{Captures, Definition, DependsOn, captures, definitions, is_recursive, used_by}
use Rattle.cu_translation.specs.LocalNames.{Binder, LocalVariable}
use Rattle.cu_translation.specs.Numbering.{binder_number}
use Rattle.cu_translation.specs.Sites.{Node}
use Rattle.cu_sites.proofs.MemberLemmas.{Among, here, in_flat_map, in_left, in_map, in_right, there}
use Rattle.cu_sites.specs.declared.captures.Graph.{Graph}
use Rattle.cu_sites.specs.declared.dependencies.Dependencies.{Dependencies}
use Rattle.cu_sites.specs.declared.relations.Relation.{Relation}
use Rattle.cu_sites.specs.Depending.{AreDependencies, is_defined, is_in, row}
use Rattle.cu_sites.specs.Meaning.{innermost}
use Rattle.cu_sites.specs.Numbered.{HasNumbers, binders_meaning}
use Rattle.cu_sites.specs.Inside.Capturing.{CapturedIn, IsCaptured, IsGraph}
use Rattle.cu_sites.specs.Inside.Needing.{IsNeeded, NeededIn, defined_variables, function_around, functions_around, used_variables, variable_in, variables_in, variables_of, variables_used}
use Rattle.cu_sites.specs.Inside.Relating.{Reaches}
use Rattle.cu_sites.specs.Inside.Using.{Usage, usage_of}
use Rattle.cu_sites.proofs.GraphLemmas.{IsCounted, captures_related, related_captures, related_variable}
use Rattle.cu_sites.proofs.NeedLemmas.{IsDefined, TellsCaptured, needed_exactly, needed_variable, recursive_walked}

-- the variables and the functions that are counted
abbrev pub all_variables : List Node → List Binder
all_variables nodes = used_variables (map usage_of nodes) ++ defined_variables (definitions nodes)

abbrev pub all_around : List Node → List Position
all_around nodes = functions_around (map usage_of nodes)

one_function : (f : Position) (o : Option Position) → o ≡ Some f → Among f (option_to_list o)
one_function f o e = subst (λ (x : Option Position). Among f (option_to_list x)) (sym e) (here [])

pub all_counted : (nodes : List Node) → IsCounted nodes (all_variables nodes) (all_around nodes)
all_counted nodes = record {
  variables = λ n b among used.
      in_left b (used_variables (map usage_of nodes)) (defined_variables (definitions nodes))
      (in_flat_map variables_used b (usage_of n) (map usage_of nodes) (in_map usage_of n nodes among)
      (in_flat_map variable_in b (LocalVariable b) (used_by n) used (here [])));
  around = λ n f among inside.
      in_flat_map function_around f (usage_of n) (map usage_of nodes) (in_map usage_of n nodes among)
      (one_function f (innermost n.spot.functions) inside);
}

pub all_defined : (nodes : List Node) → IsDefined nodes (all_variables nodes)
all_defined nodes = record {
  variables = λ d among.
      in_right d.variable (used_variables (map usage_of nodes)) (defined_variables (definitions nodes))
      (in_flat_map variables_of d.variable d (definitions nodes) among (here (variables_in d.used)));
  used = λ d b among used.
      in_right b (used_variables (map usage_of nodes)) (defined_variables (definitions nodes))
      (in_flat_map variables_of b d (definitions nodes) among
      (there d.variable (variables_in d.used) (in_flat_map variable_in b (LocalVariable b) d.used used (here []))));
}

pub captured_in : {E : Type 0} (binders : List Binder) (functions : List Position) (usages : List Usage) (g : Graph) (r : Result Relation E) → IsGraph binders functions usages g
    → IfOk r (IsCaptured (suc (length functions)) g) → IfOk r (CapturedIn binders functions usages)
captured_in binders functions usages g (Ok c) is captured = record { graph = g; is_graph = is; captured = captured }
captured_in binders functions usages g (Err e) is captured = tt

pub needed_in : {E : Type 0} (binders : List Binder) (functions : List Position) (usages : List Usage) (ds : List Definition) (c : Relation) (r : Result Relation E)
    → CapturedIn binders functions usages c → IfOk r (IsNeeded binders functions c ds) → IfOk r (NeededIn binders functions usages ds)
needed_in binders functions usages ds c (Ok needs) captured needed = record { captured = c; captured_in = captured; needed = needed }
needed_in binders functions usages ds c (Err e) captured needed = tt

pub dependencies_are : (nodes : List Node) (d : Dependencies) (g : Graph) (c : Relation) → HasNumbers (all_variables nodes) (all_around nodes) d.numbers
    → IsGraph (all_variables nodes) (all_around nodes) (map usage_of nodes) g → IsCaptured (suc (length (all_around nodes))) g c
    → IsNeeded (all_variables nodes) (all_around nodes) c (definitions nodes) d.needs → binders_meaning d.variables.items ≡ map is_defined (definitions nodes)
    → ((b : Binder) (f : Position) → (captures nodes f b ≡ true) ↔ Captures nodes b f) → AreDependencies nodes d
dependencies_are nodes d g c numbers graph captured needed variables least = record {
  binders = all_variables nodes;
  functions = all_around nodes;
  numbers = numbers;
  variables_are = variables;
  exact = needed_exactly nodes (all_variables nodes) (all_around nodes) c told d.needs (all_defined nodes) needed least;
  between = needed_variable nodes (all_variables nodes) (all_around nodes) c told d.needs (all_defined nodes) needed least;
}
  where
    told : TellsCaptured nodes (all_variables nodes) (all_around nodes) c
    told = record {
      sound = related_captures nodes (all_variables nodes) (all_around nodes) g graph (all_counted nodes) c captured;
      all = captures_related nodes (all_variables nodes) (all_around nodes) g graph (all_counted nodes) c captured;
      variables = related_variable nodes (all_variables nodes) (all_around nodes) g graph (all_counted nodes) c captured;
    }

pub recursive_by : (nodes : List Node) (d : Dependencies) (x : Binder) (n : ℕ) (found seeds : List ℕ) → (are : AreDependencies nodes d)
    → n ≡ binder_number are.binders x → seeds ≡ row d.needs n → ((k : ℕ) → (is_in found k ≡ true) ↔ Reaches d.needs seeds [] k)
    → ((y : Binder) → (is_recursive nodes y ≡ true) ↔ DependsOn nodes y y) → is_in found n ≡ is_recursive nodes x
recursive_by nodes d x n found seeds are e at is recursive =
    ap (λ k. is_in found k) e
    ∙ recursive_walked nodes are.binders d.needs are.exact are.between recursive x found
    (subst (λ (xs : List ℕ). (k : ℕ) → (is_in found k ≡ true) ↔ Reaches d.needs xs [] k) (at ∙ ap (row d.needs) e) is)
