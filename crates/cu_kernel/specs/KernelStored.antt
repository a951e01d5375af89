-- How kernel programs are told apart: by their parts.
use Rattle.std.specs.Prelude.{ℕ, Bool, List, Option, refl}
use Rattle.std.specs.Coded.{Coded, code_by, coded_ℕ, coded_bool, coded_list, coded_option, coded×}
use Rattle.cu_calculus.specs.Program as calculus
use Rattle.cu_calculus.specs.contracts.FunId.{the_row as function_id}
use Rattle.cu_calculus.specs.contracts.builtin.Special.{the_row as special}
use Rattle.cu_calculus.specs.declared.FunId.{FunId}
use Rattle.cu_calculus.specs.declared.builtin.Special.{Special}
use Rattle.cu_names.specs.contracts.names.NameId.{the_row as name}
use Rattle.cu_names.specs.contracts.place.Place.{the_row as place}
use Rattle.cu_names.specs.declared.names.NameId.{NameId}
use Rattle.cu_names.specs.declared.place.Place.{Place}
use Rattle.cu_kernel.specs.Kernel.{Constructor, DataType, Function, Goal, Kernel, Mark, Module, Synonym}
use Rattle.cu_kernel.specs.TermStored.{body_code}
use Rattle.cu_kernel.specs.TypeExpr.{TypeExpr}
use Rattle.cu_kernel.specs.TypeStored.{type_code}
use Rattle.cu_kernel.specs.contracts.declarations.Operator.{the_row as operator}
use Rattle.cu_kernel.specs.declared.declarations.Operator.{Operator}

abbrev pub constructor_code : Coded Constructor
constructor_code =
    code_by (NameId × (Bool × List TypeExpr))
    (coded× name.coded (coded× coded_bool (coded_list type_code)))
    (λ c. (c.name, (c.public, c.fields)))
    (λ t. record { name = t.0; public = t.1.0; fields = t.1.1 }) (λ _. refl)

abbrev pub data_type_code : Coded DataType
data_type_code =
    code_by (NameId × (ℕ × (ℕ × (Bool × List Constructor))))
    (coded× name.coded
    (coded× coded_ℕ (coded× coded_ℕ (coded× coded_bool (coded_list constructor_code)))))
    (λ d. (d.name, (d.module, (d.arity, (d.public, d.constructors)))))
    (λ t. record {
      name = t.0;
      «module» = t.1.0;
      arity = t.1.1.0;
      public = t.1.1.1.0;
      constructors = t.1.1.1.1;
    }) (λ _. refl)

abbrev pub function_code : Coded Function
function_code =
    code_by (NameId × (ℕ × calculus.Body)) (coded× name.coded (coded× coded_ℕ body_code))
    (λ f. (f.name, (f.arity, f.body)))
    (λ t. record { name = t.0; arity = t.1.0; body = t.1.1 }) (λ _. refl)

abbrev pub synonym_code : Coded Synonym
synonym_code =
    code_by (NameId × (ℕ × (Bool × (ℕ × TypeExpr))))
    (coded× name.coded (coded× coded_ℕ (coded× coded_bool (coded× coded_ℕ type_code))))
    (λ s. (s.name, (s.module, (s.public, (s.arity, s.body)))))
    (λ t. record {
      name = t.0;
      «module» = t.1.0;
      public = t.1.1.0;
      arity = t.1.1.1.0;
      body = t.1.1.1.1;
    }) (λ _. refl)

abbrev pub module_code : Coded Module
module_code =
    code_by (NameId × (List NameId × List Operator))
    (coded× name.coded (coded× (coded_list name.coded) (coded_list operator.coded)))
    (λ m. (m.name, (m.imports, m.operators)))
    (λ t. record { name = t.0; imports = t.1.0; operators = t.1.1 }) (λ _. refl)

abbrev pub mark_code : Coded Mark
mark_code =
    code_by (ℕ × (Bool × (Option TypeExpr × (ℕ × Place))))
    (coded× coded_ℕ
    (coded× coded_bool (coded× (coded_option type_code) (coded× coded_ℕ place.coded))))
    (λ m. (m.module, (m.public, (m.declared, (m.captured, m.place)))))
    (λ t. record {
      «module» = t.0;
      public = t.1.0;
      declared = t.1.1.0;
      captured = t.1.1.1.0;
      place = t.1.1.1.1;
    }) (λ _. refl)

abbrev pub goal_code : Coded Goal
goal_code =
    code_by (FunId × List NameId) (coded× function_id.coded (coded_list name.coded))
    (λ g. (g.function, g.names))
    (λ t. record { function = t.0; names = t.1 }) (λ _. refl)

abbrev pub kernel_code : Coded Kernel
kernel_code =
    code_by (List DataType
    × (List Function × (List Synonym × (List Module × (List Mark × (Option Goal × Special))))))
    (coded× (coded_list data_type_code)
    (coded× (coded_list function_code) (coded× (coded_list synonym_code)
    (coded× (coded_list module_code)
    (coded× (coded_list mark_code) (coded× (coded_option goal_code) special.coded))))))
    (λ k. (k.types, (k.functions, (k.synonyms, (k.modules, (k.marks, (k.goal, k.special)))))))
    (λ t. record {
      types = t.0;
      functions = t.1.0;
      synonyms = t.1.1.0;
      modules = t.1.1.1.0;
      marks = t.1.1.1.1.0;
      goal = t.1.1.1.1.1.0;
      special = t.1.1.1.1.1.1;
    }) (λ _. refl)
