-- The notation of FlatCurry's text (Hanus and others): quoted names, lists, and what a lowered
-- program's entities are called. Texts are lists of bytes, in UTF-8.
use Rattle.std.specs.Prelude.{ℕ, Bool, true, false, List, [], ◌∷◌, ◌++◌, Option, None, Some, codes, if◌then◌else◌, nat_eq, slice_get}
use Rattle.std.specs.List.{flat_map}
use Rattle.cu_calculus.specs.Program as calculus
use Rattle.cu_calculus.specs.declared.ConId.{ConId}
use Rattle.cu_calculus.specs.declared.FunId.{FunId}
use Rattle.cu_kernel.specs.Kernel as kernel
use Rattle.cu_kernel.specs.Kernel.{DataType, Kernel, Mark, Module, Placed, Synonym, constructor_at}
use Rattle.cu_kernel.specs.TypeExpr.{TypeExpr}
use Rattle.cu_kernel.specs.declared.type_term.TypeName.{TypeName}
use Rattle.cu_kernel.specs.declared.type_term.TypeName.TheVariants as named
use Rattle.cu_names.specs.Texts.{text_of}
use Rattle.cu_names.specs.declared.names.NameId.{NameId}

-- ---- names

-- a byte in a quoted text: a backslash stands twice
abbrev pub escaped_byte : ℕ → List ℕ
escaped_byte b = if nat_eq b 92 then 92 ∷ 92 ∷ [] else b ∷ []

-- a text in quotes, in which a backslash stands twice
abbrev pub quoted : List ℕ → List ℕ
quoted text = codes "\"" ++ (flat_map escaped_byte text ++ codes "\"")

-- an entity: the name of the module that declares it, and its own name
pub record Entity : Type 0 where
  pub owner : List ℕ
  pub name : List ℕ

-- an entity as a pair of quoted names, as `("M","f")`
abbrev pub entity_text : Entity → List ℕ
entity_text e = codes "(" ++ (quoted e.owner ++ (codes "," ++ (quoted e.name ++ codes ")")))

-- ---- lists

-- further elements of a list, each after a comma, as `,b,c`
abbrev pub further : List (List ℕ) → List ℕ
further [] = []
further (x ∷ xs) = codes "," ++ (x ++ further xs)

-- the elements of a list with commas between them, as `a,b,c`
abbrev pub separated : List (List ℕ) → List ℕ
separated [] = []
separated (x ∷ xs) = x ++ further xs

-- the elements of a list that are left, where one stands before them or where none does
abbrev pub elements : Bool → List (List ℕ) → List ℕ
elements true = further
elements false = separated

-- the comma before an element, where one stands before it
abbrev pub comma_text : Bool → List ℕ
comma_text true = codes ","
comma_text false = []

-- a list in square brackets, as `[a,b,c]`
abbrev pub list_text : List (List ℕ) → List ℕ
list_text xs = codes "[" ++ (separated xs ++ codes "]")

-- A term in parentheses. A term with arguments has them where it is an argument itself, but not as
-- an element of a list.
abbrev pub in_parentheses : List ℕ → List ℕ
in_parentheses text = codes "(" ++ (text ++ codes ")")

-- ---- a program's entities

-- a lowered program: the texts of its names, what it declares, the types of its functions, and its
-- flat functions
pub record Lowered : Type 0 where
  pub names : List (List ℕ)
  pub kernel : Kernel
  pub interface : List TypeExpr
  pub flat : calculus.Program

-- the name of a module, and no byte where there is none
abbrev pub module_label : List (List ℕ) → Option Module → List ℕ
module_label names None = []
module_label names (Some m) = text_of names m.name

-- the name of the module with an index among the program's modules
abbrev pub module_name : Lowered → ℕ → List ℕ
module_name program m = module_label program.names (slice_get program.kernel.modules m)

-- the entity of the module with an index, by its name
abbrev pub entity_of : Lowered → ℕ → NameId → Entity
entity_of program m name =
    record { owner = module_name program m; name = text_of program.names name }

-- what stands for an entity that the program hasn't got
abbrev pub no_entity : Entity
no_entity = record { owner = []; name = [] }

-- the entity of a data type
abbrev pub data_type_entity : Lowered → Option DataType → Entity
data_type_entity program None = no_entity
data_type_entity program (Some t) = entity_of program t.module t.name

-- the entity of a synonym
abbrev pub synonym_entity : Lowered → Option Synonym → Entity
synonym_entity program None = no_entity
synonym_entity program (Some s) = entity_of program s.module s.name

-- the entity of the data type or the synonym that a name in a type stands for
abbrev pub type_entity : Lowered → TypeName → Entity
type_entity program (named.Data t) = data_type_entity program (slice_get program.kernel.types t.0)
type_entity program (named.Synonym s) =
    synonym_entity program (slice_get program.kernel.synonyms s.0)

-- the entity of a constructor of a type, which is of its type's module
abbrev pub constructor_entity_of : Lowered → NameId → Option DataType → Entity
constructor_entity_of program name None = no_entity
constructor_entity_of program name (Some t) = entity_of program t.module name

-- the entity of a constructor with its type's index
abbrev pub placed_entity : Lowered → Option Placed → Entity
placed_entity program None = no_entity
placed_entity program (Some p) =
    constructor_entity_of program p.constructor.name (slice_get program.kernel.types p.of_type)

-- the entity of the constructor with a number
abbrev pub constructor_entity : Lowered → ConId → Entity
constructor_entity program c = placed_entity program (constructor_at program.kernel.types c)

-- the entity of a function, by its mark
abbrev pub function_entity_of : Lowered → Option kernel.Function → Option Mark → Entity
function_entity_of program (Some f) (Some mark) = entity_of program mark.module f.name
function_entity_of program _ _ = no_entity

-- the entity of the function with a number
abbrev pub function_entity : Lowered → FunId → Entity
function_entity program f =
    function_entity_of program (slice_get program.kernel.functions f.0)
    (slice_get program.kernel.marks f.0)
