-- Which variables the definitions of local variables need, by numbers.
use Rattle.std.specs.Prelude.{suc, List, [], ◌∷◌, length, map}
use Rattle.std.specs.List.{flat_map}
use Rattle.std.specs.Option.{option_to_list}
use Rattle.cu_lex.specs.Located.{Position}
use Rattle.cu_translation.specs.Dependencies.{Definition}
use Rattle.cu_translation.specs.LocalNames.{Binder, Local, LocalFunction, LocalVariable}
use Rattle.cu_translation.specs.Numbering.{binder_number, function_number}
use Rattle.cu_sites.specs.Depending.{row}
use Rattle.cu_sites.specs.declared.relations.Relation.{Relation}
use Rattle.cu_sites.specs.Inside.Capturing.{CapturedIn}
use Rattle.cu_sites.specs.Inside.Relating.{Holds, Pair, pair}
use Rattle.cu_sites.specs.Inside.Using.{Usage}

-- ---- what is counted

abbrev pub variable_in : Local → List Binder
variable_in (LocalVariable b) = b ∷ []
variable_in (LocalFunction at count) = []

abbrev pub variables_in : List Local → List Binder
variables_in used = flat_map variable_in used

abbrev pub variables_used : Usage → List Binder
variables_used u = variables_in u.used

abbrev pub used_variables : List Usage → List Binder
used_variables us = flat_map variables_used us

abbrev pub variables_of : Definition → List Binder
variables_of d = d.variable ∷ variables_in d.used

abbrev pub defined_variables : List Definition → List Binder
defined_variables ds = flat_map variables_of ds

abbrev pub function_around : Usage → List Position
function_around u = option_to_list u.function

abbrev pub functions_around : List Usage → List Position
functions_around us = flat_map function_around us

-- ---- what is needed

abbrev pub need_pairs : List Binder → List Position → Relation → Binder → Local → List Pair
need_pairs binders functions captured x (LocalVariable b) =
    pair (binder_number binders x) (binder_number binders b) ∷ []
need_pairs binders functions captured x (LocalFunction at count) =
    map (pair (binder_number binders x)) (row captured (function_number functions at))

abbrev pub definition_pairs : List Binder → List Position → Relation → Definition → List Pair
definition_pairs binders functions captured d =
    flat_map (need_pairs binders functions captured d.variable) d.used

-- A relation has, by numbers, the variables that these definitions need.
abbrev pub IsNeeded : List Binder → List Position → Relation → List Definition → Relation → Type 0
IsNeeded binders functions captured ds needs =
    Holds (suc (length binders)) (flat_map (definition_pairs binders functions captured) ds) needs

-- A relation has, by numbers, the variables that these definitions need where this is what stands
-- in a text.
pub record NeededIn (binders : List Binder) (functions : List Position) (usages : List Usage)
    (ds : List Definition) (needs : Relation) : Type 0 where
  pub captured : Relation
  pub captured_in : CapturedIn binders functions usages captured
  pub needed : IsNeeded binders functions captured ds needs
