-- What the modules of the samples are translated to: SetFunctions, and the module M after it.
use Rattle.std.specs.Prelude.{ℕ, true, [], ◌∷◌, None, Some}
use Rattle.cu_calculus.specs.Term.{Any}
use Rattle.cu_calculus.specs.declared.ConId.{ConId}
use Rattle.cu_calculus.specs.declared.builtin.Special.{Special}
use Rattle.cu_kernel.specs.Kernel.{DataType, Mark}
use Rattle.cu_kernel.specs.LocalKernel.{LocalKernel, Rules, TopFunction}
use Rattle.cu_kernel.specs.TypeExpr.{MoreTypes, Named, NoType, TypeExpr, Variable}
use Rattle.cu_kernel.specs.declared.type_term.TypeName.TheVariants.{Data}
use Rattle.cu_names.specs.declared.names.NameId.{NameId}
use Rattle.cu_translation.specs.Worked.{clause, int}

abbrev pub name_id : ℕ → NameId
name_id n = record { 0 = n }

abbrev pub constructor_id : ℕ → ConId
constructor_id n = record { 0 = n }

-- `[a]`, where a is the first parameter
abbrev pub list_of_first : TypeExpr
list_of_first = Named (Data (record { 0 = 0 })) (MoreTypes (Variable 0) NoType)

-- `data Values a = Values [a]`
abbrev pub values_type : DataType
values_type = record {
  name = name_id 2;
  «module» = 1;
  arity = 1;
  public = true;
  constructors = record { name = name_id 2; public = true; fields = list_of_first ∷ [] } ∷ [];
}

-- the built-in entities: False and True, `[]` and `:`, `&&`, and the constructor of the values of
-- set functions
abbrev pub special : Special
special = record {
  falsity = constructor_id 17;
  truth = constructor_id 18;
  nil = constructor_id 0;
  cons = constructor_id 1;
  both = record { 0 = 15 };
  values = Some (constructor_id 19);
}

-- the part of SetFunctions, after a Prelude of 19 types, of which 18 are built in, with 19
-- constructors and 19 functions
abbrev pub set_functions_part : LocalKernel
set_functions_part = record {
  start = record { types = 19; constructors = 19; functions = 19; synonyms = 0; modules = 1 };
  types = values_type ∷ [];
  functions = [];
  synonyms = [];
  modules = record { name = name_id 3; imports = name_id 4 ∷ []; operators = [] } ∷ [];
  marks = [];
  goal = None;
  special = special;
}

-- the function k of one parameter
abbrev pub k_function : TopFunction
k_function = record {
  name = name_id 6;
  arity = 1;
  body = Rules (clause (Any 0 ∷ []) (int 0) ∷ []);
  locals = [];
}

abbrev pub k_mark : Mark
k_mark = record {
  «module» = 2;
  public = true;
  declared = None;
  captured = 0;
  place = record { «module» = name_id 5; line = 1; column = 1 };
}

abbrev pub own_part : LocalKernel
own_part = record {
  start = record { types = 20; constructors = 20; functions = 19; synonyms = 0; modules = 2 };
  types = [];
  functions = k_function ∷ [];
  synonyms = [];
  modules = record { name = name_id 5; imports = name_id 4 ∷ name_id 3 ∷ []; operators = [] } ∷ [];
  marks = k_mark ∷ [];
  goal = None;
  special = special;
}
