-- Data types and synonyms by the parts of their declarations.
use Rattle.std.specs.Prelude.{List, length, map}
use Rattle.cu_entities.specs.Entities.{Types}
use Rattle.cu_kernel.specs.Kernel.{DataType, Synonym}
use Rattle.cu_syntax.specs.Syntax.{ConstructorDeclaration, Name, TypeTerm}
use Rattle.cu_translation.specs.ModuleNames.{id_of}
use Rattle.cu_translation.specs.ModuleTypes.{Reading, data_type, declared_constructor, is_public}
use Rattle.cu_translation.specs.TypeTable.{type_of}
use Rattle.cu_uses.specs.Binders.{texts}

abbrev pub declared_type : Reading → Name → List Name → List ConstructorDeclaration → DataType
declared_type r name parameters cs =
    data_type r name.text (length parameters) (map (declared_constructor r parameters) cs)

abbrev pub declared_synonym : Reading → Name → List Name → TypeTerm → Synonym
declared_synonym r name parameters t = record {
  name = id_of r.table name.text;
  «module» = r.number;
  public = is_public r Types name.text;
  arity = length parameters;
  body = type_of r.names (texts parameters) t;
}
