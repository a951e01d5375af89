-- The entities of lists, and after them those of a part of a module.
use Rattle.std.specs.Prelude.{ℕ, List, ◌++◌, map}
use Rattle.std.specs.List.{flat_map}
use Rattle.cu_modules.specs.Scopes.{Named}
use Rattle.cu_syntax.specs.Syntax.{ConstructorDeclaration, Item}
use Rattle.cu_toplevel.specs.Declarations.{Lists}
use Rattle.cu_translation.specs.Externals.{externals}
use Rattle.cu_translation.specs.Numbered.{constructor, constructors_by, external, first_constructors, first_types, function, groups_in, only_in_prelude, synonyms_by, types_by}

-- the entities of these lists, and after them what a module has without a declaration
abbrev pub and_given : List ℕ → Lists → Lists
and_given owner l = record {
  types = l.types ++ only_in_prelude owner first_types;
  constructors = l.constructors ++ only_in_prelude owner first_constructors;
  synonyms = l.synonyms;
  functions = l.functions ++ only_in_prelude owner (map external externals);
}

abbrev pub and_constructors : List ℕ → List ConstructorDeclaration → Lists → Lists
and_constructors owner cs l = record {
  types = l.types;
  constructors = l.constructors ++ map (constructor owner) cs;
  synonyms = l.synonyms;
  functions = l.functions;
}

-- the entities of these lists, and after them what an item declares, but no functions
abbrev pub and_item : List ℕ → Item → Lists → Lists
and_item owner i l = record {
  types = l.types ++ types_by owner i;
  constructors = l.constructors ++ constructors_by owner i;
  synonyms = l.synonyms ++ synonyms_by owner i;
  functions = l.functions;
}

abbrev pub and_items : List ℕ → List Item → Lists → Lists
and_items owner items l = record {
  types = l.types ++ flat_map (types_by owner) items;
  constructors = l.constructors ++ flat_map (constructors_by owner) items;
  synonyms = l.synonyms ++ flat_map (synonyms_by owner) items;
  functions = l.functions;
}

abbrev pub and_functions : Named → Lists → Lists
and_functions m l = record {
  types = l.types;
  constructors = l.constructors;
  synonyms = l.synonyms;
  functions = l.functions ++ map (function m.name) (groups_in m);
}
