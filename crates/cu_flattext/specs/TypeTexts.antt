-- The texts of types, and the lines of data types and synonyms. Synonyms are expanded in the types
-- of a constructor's fields and of functions.
use Rattle.std.specs.Prelude.{ℕ, zero, suc, ◌+◌, Bool, true, false, ◌&&◌, ◌||◌, not, List, [], ◌∷◌, ◌++◌, Option, None, Some, codes, decimal, if◌then◌else◌, length, map, nat_eq, slice_get, slice_index_or}
use Rattle.cu_kernel.specs.Kernel.{Constructor, DataType, Synonym}
use Rattle.cu_kernel.specs.TypeExpr as type
use Rattle.cu_kernel.specs.TypeExpr.{TypeExpr, TypeExprs}
use Rattle.cu_kernel.specs.declared.type_term.SynonymId.{SynonymId}
use Rattle.cu_kernel.specs.declared.type_term.TypeName.TheVariants as named
use Rattle.cu_types.specs.Equations.{breadth}
use Rattle.cu_flattext.specs.Naming.{Entity, Lowered, entity_of, entity_text, in_parentheses, list_text, type_entity}

-- ---- synonyms that lead to themselves

-- whether some synonym in a type passes a test
abbrev mutual
  pub some_synonym : (SynonymId → Bool) → TypeExpr → Bool
  some_synonym test (type.Variable x) = false
  some_synonym test (type.Arrow a b) = some_synonym test a || some_synonym test b
  some_synonym test (type.Named (named.Data t) ts) = some_synonym_in test ts
  some_synonym test (type.Named (named.Synonym s) ts) = test s || some_synonym_in test ts

  -- whether some synonym in one of several types passes a test
  pub some_synonym_in : (SynonymId → Bool) → TypeExprs → Bool
  some_synonym_in test type.NoType = false
  some_synonym_in test (type.MoreTypes t ts) = some_synonym test t || some_synonym_in test ts

-- whether some synonym in the type that a synonym stands for passes a test
abbrev pub some_in_body : (SynonymId → Bool) → Option Synonym → Bool
some_in_body test None = false
some_in_body test (Some s) = some_synonym test s.body

-- whether a synonym is the one that is sought, or passes a test
abbrev pub is_or_passes : SynonymId → (SynonymId → Bool) → SynonymId → Bool
is_or_passes goal test s = nat_eq s.0 goal.0 || test s

-- Whether a synonym leads to `goal` within n steps. A step goes from a synonym to those in the type
-- that it stands for.
unfoldable pub leads_within : ℕ → List Synonym → SynonymId → SynonymId → Bool
leads_within zero synonyms goal s = false
leads_within (suc n) synonyms goal s =
    some_in_body (is_or_passes goal (leads_within n synonyms goal)) (slice_get synonyms s.0)

-- Whether a synonym stands on a cycle of synonyms. A cycle without repeats has no more steps than
-- there are synonyms.
unfoldable pub leads_to_itself : List Synonym → SynonymId → Bool
leads_to_itself synonyms s = leads_within (length synonyms) synonyms s s

-- ---- types

-- the text of a type with arguments of these texts
abbrev pub constructed_text : Entity → List (List ℕ) → List ℕ
constructed_text e arguments =
    codes "TCons " ++ (entity_text e ++ (codes " " ++ list_text arguments))

-- the texts of synonyms on arguments of these texts
abbrev pub Synonyms : Type 0
Synonyms = SynonymId → List (List ℕ) → List ℕ

-- the text of a type whose variables have these texts, where `synonyms` gives those of synonyms
abbrev mutual
  pub type_text : Lowered → Synonyms → List (List ℕ) → TypeExpr → List ℕ
  type_text program synonyms variables (type.Variable x) = slice_index_or variables x []
  type_text program synonyms variables (type.Arrow a b) =
      codes "FuncType " ++ (in_parentheses (type_text program synonyms variables a)
      ++ (codes " " ++ in_parentheses (type_text program synonyms variables b)))
  type_text program synonyms variables (type.Named (named.Data t) ts) =
      constructed_text (type_entity program (named.Data t))
      (type_texts program synonyms variables ts)
  type_text program synonyms variables (type.Named (named.Synonym s) ts) =
      synonyms s (type_texts program synonyms variables ts)

  -- the texts of several types whose variables have these texts
  pub type_texts : Lowered → Synonyms → List (List ℕ) → TypeExprs → List (List ℕ)
  type_texts program synonyms variables type.NoType = []
  type_texts program synonyms variables (type.MoreTypes t ts) =
      type_text program synonyms variables t ∷ type_texts program synonyms variables ts

-- the text of a synonym as it is written, without expansion
abbrev pub as_written : Lowered → Synonyms
as_written program s arguments = constructed_text (type_entity program (named.Synonym s)) arguments

-- Whether a synonym is expanded on so many arguments: it doesn't lead to itself, and has as many
-- parameters. One that leads to a cycle on which it doesn't stand is expanded, and the synonyms of
-- the cycle in it are not.
abbrev pub is_expanded : List Synonym → SynonymId → ℕ → Option Synonym → Bool
is_expanded synonyms s count None = false
is_expanded synonyms s count (Some synonym) =
    nat_eq count synonym.arity && not (leads_to_itself synonyms s)

-- the text of the type that a synonym stands for; `inner` gives the texts of synonyms in it
abbrev pub body_text : Lowered → Synonyms → List (List ℕ) → Option Synonym → List ℕ
body_text program inner arguments None = []
body_text program inner arguments (Some s) = type_text program inner arguments s.body

-- the text of a synonym: it is expanded where that is possible, and else stays as it is written;
-- `inner` gives the texts of synonyms in it
abbrev pub expanded_once : Lowered → Synonyms → Synonyms
expanded_once program inner s arguments =
    let found = slice_get program.kernel.synonyms s.0 in
    if is_expanded program.kernel.synonyms s (length arguments) found
    then body_text program inner arguments found
    else as_written program s arguments

-- The texts of synonyms where at most n of them are expanded inside one another. No expanded
-- synonym is inside itself, so as many as there are suffice.
abbrev pub expanded_within : ℕ → Lowered → Synonyms
expanded_within zero program = as_written program
expanded_within (suc n) program = expanded_once program (expanded_within n program)

-- the texts of synonyms, each expanded where that is possible
abbrev pub expanded : Lowered → Synonyms
expanded program = expanded_within (length program.kernel.synonyms) program

-- ---- declarations

-- so many numbers, from one on
abbrev pub numbers_from : ℕ → ℕ → List (List ℕ)
numbers_from n zero = []
numbers_from n (suc count) = decimal n ∷ numbers_from (n + 1) count

-- the parameters of a type, which have the numbers from 0 on
abbrev pub parameters_text : ℕ → List ℕ
parameters_text arity = list_text (numbers_from 0 arity)

-- the text of the type variable with a number
abbrev pub type_variable_text : List ℕ → List ℕ
type_variable_text number = codes "TVar " ++ number

-- the texts of so many type variables
abbrev pub type_variables : ℕ → List (List ℕ)
type_variables arity = map type_variable_text (numbers_from 0 arity)

-- the text of a type with so many type variables, in which synonyms stand as they are written
abbrev pub written_type_text : Lowered → ℕ → TypeExpr → List ℕ
written_type_text program count t = type_text program (as_written program) (type_variables count) t

-- whether an entity is public
abbrev pub visibility_text : Bool → List ℕ
visibility_text true = codes "Public"
visibility_text false = codes "Private"

-- the text of a constructor of a type with so many parameters
abbrev pub constructor_text : Lowered → ℕ → ℕ → Constructor → List ℕ
constructor_text program m arity c =
    codes "Cons " ++ (entity_text (entity_of program m c.name)
    ++ (codes " " ++ (decimal (length c.fields)
    ++ (codes " " ++ (visibility_text c.public ++ (codes " "
    ++ list_text (map (type_text program (expanded program) (type_variables arity)) c.fields)))))))

-- the line of a data type
abbrev pub data_type_text : Lowered → DataType → List ℕ
data_type_text program t =
    codes "Type " ++ (entity_text (entity_of program t.module t.name)
    ++ (codes " " ++ (visibility_text t.public
    ++ (codes " " ++ (parameters_text t.arity ++ (codes " "
    ++ list_text (map (constructor_text program t.module t.arity) t.constructors)))))))

-- The line of a synonym. The synonyms in the type that it stands for stay as they are written.
abbrev pub synonym_text : Lowered → Synonym → List ℕ
synonym_text program s =
    codes "TypeSyn " ++ (entity_text (entity_of program s.module s.name)
    ++ (codes " " ++ (visibility_text s.public
    ++ (codes " " ++ (parameters_text s.arity ++ (codes " "
    ++ in_parentheses (written_type_text program s.arity s.body)))))))

-- ---- types of functions

-- The text of the type of a function. It was inferred, so that the synonyms in it are expanded, and
-- its variables are numbered from 0.
abbrev pub inferred_type_text : Lowered → TypeExpr → List ℕ
inferred_type_text program t = written_type_text program (breadth t) t
