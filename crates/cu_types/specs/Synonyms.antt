-- Type synonyms, and types in which they are expanded.
use Rattle.std.specs.Prelude.{ℕ, zero, suc, Bool, true, false, ◌&&◌, ◌||◌, List, Option, None, Some, IsTrue, length, nat_eq, slice_get, slice_index_or}
use Rattle.std.specs.List.{list_all}
use Rattle.cu_kernel.specs.Kernel.{Constructor, DataType, Kernel, Synonym}
use Rattle.cu_kernel.specs.TypeExpr as type
use Rattle.cu_kernel.specs.TypeExpr.{TypeExpr, TypeExprs}
use Rattle.cu_kernel.specs.declared.type_term.TypeName.TheVariants as name
use Rattle.cu_kernel.specs.declared.type_term.TypeName.{TypeName}
use Rattle.cu_types.specs.Types.{Substitution, apply, listed}

-- the substitution that puts a type in place of each parameter
abbrev pub for_parameters : List TypeExpr → Substitution
for_parameters ts x = slice_index_or ts x (type.Variable x)

-- the type of a name on arguments, where it is told what the synonyms stand for
abbrev named : (ℕ → TypeExpr) → TypeName → TypeExprs → TypeExpr
named body (name.Data t) ts = type.Named (name.Data t) ts
named body (name.Synonym s) ts = apply (for_parameters (listed ts)) (body s.0)

-- a type in which synonyms are expanded, where it is told what they stand for
abbrev mutual
  pub expanded_by : (ℕ → TypeExpr) → TypeExpr → TypeExpr
  expanded_by body (type.Variable x) = type.Variable x
  expanded_by body (type.Arrow a b) = type.Arrow (expanded_by body a) (expanded_by body b)
  expanded_by body (type.Named n ts) = named body n (all_expanded_by body ts)

  pub all_expanded_by : (ℕ → TypeExpr) → TypeExprs → TypeExprs
  all_expanded_by body type.NoType = type.NoType
  all_expanded_by body (type.MoreTypes t ts) =
      type.MoreTypes (expanded_by body t) (all_expanded_by body ts)

-- the type on the right of a synonym, as it is declared
abbrev declared_body : Option Synonym → TypeExpr
declared_body None = type.Variable 0
declared_body (Some s) = s.body

abbrev pub body_of : Kernel → ℕ → TypeExpr
body_of kernel s = declared_body (slice_get kernel.synonyms s)

-- What each synonym stands for, where they are named by one another at most so deep.
abbrev pub bodies : Kernel → ℕ → ℕ → TypeExpr
bodies kernel zero s = type.Variable 0
bodies kernel (suc depth) s = expanded_by (bodies kernel depth) (body_of kernel s)

-- a type of the program with synonyms expanded: where none leads to itself they are nested at most
-- as deep as there are synonyms
unfoldable pub expanded : Kernel → TypeExpr → TypeExpr
expanded kernel t = expanded_by (bodies kernel (length kernel.synonyms)) t

-- ---- types that are declared rightly

abbrev is_synonym : ℕ → TypeName → Bool
is_synonym s (name.Data t) = false
is_synonym s (name.Synonym r) = nat_eq r.0 s

-- whether a type names this synonym
abbrev mutual
  pub names_synonym : ℕ → TypeExpr → Bool
  names_synonym s (type.Variable x) = false
  names_synonym s (type.Arrow a b) = names_synonym s a || names_synonym s b
  names_synonym s (type.Named n ts) = is_synonym s n || some_name_synonym s ts

  pub some_name_synonym : ℕ → TypeExprs → Bool
  some_name_synonym s type.NoType = false
  some_name_synonym s (type.MoreTypes t ts) = names_synonym s t || some_name_synonym s ts

-- a synonym leads to another by the names in what it stands for, in one step or more
pub data LeadsTo (kernel : Kernel) : ℕ → ℕ → Type 0 where
  at_once : (r s : ℕ) → IsTrue (names_synonym s (body_of kernel r)) → LeadsTo kernel r s
  further : (r q s : ℕ) → IsTrue (names_synonym q (body_of kernel r)) → LeadsTo kernel q s
      → LeadsTo kernel r s

-- whether a data type takes so many arguments, if the program has it
abbrev data_arity : Option DataType → ℕ → Bool
data_arity None count = false
data_arity (Some t) count = nat_eq count t.arity

-- whether a synonym takes so many arguments, if the program has it
abbrev synonym_arity : Option Synonym → ℕ → Bool
synonym_arity None count = false
synonym_arity (Some s) count = nat_eq count s.arity

-- whether the data type or the synonym of a name takes so many arguments, if the program has it
abbrev pub takes_arguments : Kernel → TypeName → ℕ → Bool
takes_arguments kernel (name.Data t) count = data_arity (slice_get kernel.types t.0) count
takes_arguments kernel (name.Synonym s) count = synonym_arity (slice_get kernel.synonyms s.0) count

-- whether each type name in a type has as many arguments as it takes
abbrev mutual
  pub is_applied : Kernel → TypeExpr → Bool
  is_applied kernel (type.Variable x) = true
  is_applied kernel (type.Arrow a b) = is_applied kernel a && is_applied kernel b
  is_applied kernel (type.Named n ts) =
      takes_arguments kernel n (length (listed ts)) && are_applied kernel ts

  pub are_applied : Kernel → TypeExprs → Bool
  are_applied kernel type.NoType = true
  are_applied kernel (type.MoreTypes t ts) = is_applied kernel t && are_applied kernel ts

abbrev has_applied_fields : Kernel → Constructor → Bool
has_applied_fields kernel c = list_all (is_applied kernel) c.fields

abbrev has_applied_constructors : Kernel → DataType → Bool
has_applied_constructors kernel t = list_all (has_applied_fields kernel) t.constructors

abbrev has_applied_signature : Kernel → Option TypeExpr → Bool
has_applied_signature kernel None = true
has_applied_signature kernel (Some t) = is_applied kernel t

-- Each type name in the program has as many arguments as it takes, and no synonym leads to itself.
pub record DeclaresTypes (kernel : Kernel) : Type 0 where
  pub fields : IsTrue (list_all (has_applied_constructors kernel) kernel.types)
  pub synonyms : IsTrue (list_all (λ s. is_applied kernel s.body) kernel.synonyms)
  pub signatures : IsTrue
      (list_all (λ mark. has_applied_signature kernel mark.declared) kernel.marks)
  pub acyclic : (s : ℕ) → LeadsTo kernel s s → ⊥
