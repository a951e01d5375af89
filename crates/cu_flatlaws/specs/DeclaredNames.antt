-- The names of a kernel program that its text can have.
use Rattle.std.specs.Prelude.{List, ◌∷◌, ◌++◌, map}
use Rattle.std.specs.List.{flat_map}
use Rattle.cu_kernel.specs.Kernel.{Constructor, DataType, Function, Kernel, Module, Synonym}
use Rattle.cu_kernel.specs.declared.declarations.Operator.{Operator}
use Rattle.cu_names.specs.declared.names.NameId.{NameId}

-- a module's name, those of its imports, and those of its operators
abbrev pub module_names : Module → List NameId
module_names m = m.name ∷ (m.imports ++ map (λ (o : Operator). o.name) m.operators)

-- a data type's name, and those of its constructors
abbrev pub type_names : DataType → List NameId
type_names t = t.name ∷ map (λ (c : Constructor). c.name) t.constructors

-- the names of modules and of all that they declare
abbrev pub declared_names : Kernel → List NameId
declared_names kernel =
    flat_map module_names kernel.modules
    ++ (flat_map type_names kernel.types
    ++ (map (λ (f : Function). f.name) kernel.functions
    ++ map (λ (s : Synonym). s.name) kernel.synonyms))
