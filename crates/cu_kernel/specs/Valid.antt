-- Valid kernel programs: the program of the calculus is valid, its types begin with those that
-- every program begins with, each function has its mark, and what is declared beside the rules
-- names modules, types and functions of the program.
use Rattle.std.specs.Prelude.{ℕ, Bool, true, false, ◌&&◌, List, [], ◌∷◌, Option, None, Some, IsTrue, length, nat_eq, nat_le, nat_lt, slice_get}
use Rattle.std.specs.List.{list_all}
use Rattle.cu_calculus.specs.Program as calculus
use Rattle.cu_calculus.specs.Valid as calculus_valid
use Rattle.cu_kernel.specs.FirstTypes.{has_first_types}
use Rattle.cu_kernel.specs.Kernel.{Constructor, DataType, Function, Goal, Kernel, Mark, Synonym, program_of}
use Rattle.cu_kernel.specs.TypeExpr as type
use Rattle.cu_kernel.specs.TypeExpr.{TypeExpr, TypeExprs}
use Rattle.cu_kernel.specs.declared.type_term.TypeName.TheVariants as name
use Rattle.cu_kernel.specs.declared.type_term.TypeName.{TypeName}

-- whether a named type or synonym is one of the program's
abbrev pub is_type_name : Kernel → TypeName → Bool
is_type_name kernel (name.Data t) = nat_lt t.0 (length kernel.types)
is_type_name kernel (name.Synonym s) = nat_lt s.0 (length kernel.synonyms)

-- whether the names in a type are the program's, and its variables pass a test
abbrev mutual
  pub fits_type : Kernel → (ℕ → Bool) → TypeExpr → Bool
  fits_type kernel may (type.Variable x) = may x
  fits_type kernel may (type.Arrow a b) = fits_type kernel may a && fits_type kernel may b
  fits_type kernel may (type.Named n ts) = is_type_name kernel n && fit_types kernel may ts

  -- whether the names in several types are the program's, and their variables pass a test
  pub fit_types : Kernel → (ℕ → Bool) → TypeExprs → Bool
  fit_types kernel may type.NoType = true
  fit_types kernel may (type.MoreTypes t ts) = fits_type kernel may t && fit_types kernel may ts

-- whether a type variable is a parameter of a declaration with so many parameters
abbrev pub is_parameter : ℕ → ℕ → Bool
is_parameter arity x = nat_lt x arity

-- whether the program has the module of a number
abbrev pub is_module : Kernel → ℕ → Bool
is_module kernel m = nat_lt m (length kernel.modules)

-- whether the types of a constructor's arguments name types of the program, and have only
-- parameters for variables
abbrev pub fits_constructor : Kernel → ℕ → Constructor → Bool
fits_constructor kernel arity c = list_all (fits_type kernel (is_parameter arity)) c.fields

-- whether a data type is of a module of the program, and its constructors fit
abbrev pub fits_data_type : Kernel → DataType → Bool
fits_data_type kernel t = is_module kernel t.module
    && list_all (fits_constructor kernel t.arity) t.constructors

-- whether a synonym is of a module of the program, and the type that it stands for fits
abbrev pub fits_synonym : Kernel → Synonym → Bool
fits_synonym kernel s = is_module kernel s.module && fits_type kernel (is_parameter s.arity) s.body

-- whether the type that a function declares, if any, names types of the program; it may have any
-- type variables
abbrev pub fits_signature : Kernel → Option TypeExpr → Bool
fits_signature kernel None = true
fits_signature kernel (Some t) = fits_type kernel (λ x. true) t

-- whether a mark is of a module of the program, counts no more captured variables than the function
-- has parameters, and has a declared type that fits, if any
abbrev pub fits_mark : Kernel → Mark → Function → Bool
fits_mark kernel mark function =
    is_module kernel mark.module && nat_le mark.captured function.arity
    && fits_signature kernel mark.declared

-- whether each function has its mark, and the mark fits it
abbrev pub fit_marks : Kernel → List Mark → List Function → Bool
fit_marks kernel [] [] = true
fit_marks kernel (m ∷ ms) (f ∷ fs) = fits_mark kernel m f && fit_marks kernel ms fs
fit_marks kernel (m ∷ ms) [] = false
fit_marks kernel [] (f ∷ fs) = false

-- whether a body is made of rules
abbrev pub has_rules : calculus.Body → Bool
has_rules (calculus.Rules rules) = true
has_rules (calculus.External operation) = false

-- whether a goal's function is there, has rules, and has n parameters
abbrev pub takes_names : ℕ → Option Function → Bool
takes_names count None = false
takes_names count (Some f) = nat_eq f.arity count && has_rules f.body

-- whether a goal's function, where there is a goal, is there with rules and a parameter for each
-- name
abbrev pub fits_goal : Kernel → Option Goal → Bool
fits_goal kernel None = true
fits_goal kernel (Some g) = takes_names (length g.names) (slice_get kernel.functions g.function.0)

-- The kernel program is valid: the program of the calculus is, its types begin with those that
-- every program begins with, what is declared beside the rules fits, and the built-in entities are
-- there.
pub record IsValid (kernel : Kernel) : Type 0 where
  pub program : calculus_valid.IsValid (program_of kernel)
  pub first_types : IsTrue (has_first_types kernel.special kernel.types)
  pub types : IsTrue (list_all (fits_data_type kernel) kernel.types)
  pub synonyms : IsTrue (list_all (fits_synonym kernel) kernel.synonyms)
  pub marks : IsTrue (fit_marks kernel kernel.marks kernel.functions)
  pub goal : IsTrue (fits_goal kernel kernel.goal)
