-- The entities of a module: those that it declares, and those that it has without a declaration.
use Rattle.std.specs.Prelude.{ℕ, List, [], ◌∷◌, ◌++◌, map}
use Rattle.std.specs.List.{flat_map}
use Rattle.cu_entities.specs.Entities.{Constructor, DataType, Entity, Function, Synonym}
use Rattle.cu_syntax.specs.Syntax as syntax
use Rattle.cu_syntax.specs.Syntax.{ConstructorDeclaration, Item}
use Rattle.cu_modules.specs.BuiltInEntities.{built_in_entities, entity}

-- the entities of the constructors that are declared with a type
abbrev pub constructors_declared : List ℕ → List ℕ → List ConstructorDeclaration → List Entity
constructors_declared owner t constructors =
    map (λ (c : ConstructorDeclaration). entity owner (Constructor t) c.name.text) constructors

-- the entities that an item declares
abbrev pub declared_by : List ℕ → Item → List Entity
declared_by owner (syntax.Data at name parameters constructors) =
    entity owner DataType name.text ∷ constructors_declared owner name.text constructors
declared_by owner (syntax.Synonym at name parameters meant) = entity owner Synonym name.text ∷ []
declared_by owner (syntax.DeclarationItem (syntax.FunctionRule at name parameters right)) =
    entity owner Function name.text ∷ []
declared_by owner _ = []

-- the entities of a module of these items: those without a declaration, and those that its items
-- declare
abbrev pub own : List ℕ → List Item → List Entity
own owner items = built_in_entities owner ++ flat_map (declared_by owner) items
