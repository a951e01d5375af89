-- The entities that modules declare, by their kinds.
use Rattle.std.specs.Prelude.{ℕ, List, [], ◌++◌}
use Rattle.cu_modules.specs.Scopes.{Named}
use Rattle.cu_toplevel.specs.Listings.{IsListing}
use Rattle.cu_toplevel.specs.declared.declarations.Declarations.{Declarations}
use Rattle.cu_translation.specs.Numbered.{Declared, all_constructors, all_functions, all_synonyms, all_types, constructors_in, functions_in, synonyms_in, types_in}

pub record Lists : Type 0 where
  pub types : List Declared
  pub constructors : List Declared
  pub synonyms : List Declared
  pub functions : List Declared

abbrev pub no_lists : Lists
no_lists = record { types = []; constructors = []; synonyms = []; functions = [] }

-- the entities of these lists, and after them what one more module declares
abbrev pub and_module : Named → Lists → Lists
and_module m l = record {
  types = l.types ++ types_in m;
  constructors = l.constructors ++ constructors_in m;
  synonyms = l.synonyms ++ synonyms_in m;
  functions = l.functions ++ functions_in m;
}

-- the entities that modules declare, by their kinds
abbrev pub all_lists : List Named → Lists
all_lists modules = record {
  types = all_types modules;
  constructors = all_constructors modules;
  synonyms = all_synonyms modules;
  functions = all_functions modules;
}

-- The entities of each kind that the code has are those of these lists.
pub record AreListed (names : List (List ℕ)) (l : Lists) (d : Declarations) : Type 0 where
  pub types : IsListing names l.types d.types
  pub constructors : IsListing names l.constructors d.constructors
  pub synonyms : IsListing names l.synonyms d.synonyms
  pub functions : IsListing names l.functions d.functions
