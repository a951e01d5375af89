-- The module that `print` writes, as a module of FlatCurry (Hanus and others).
use Rattle.std.specs.Prelude.{ℕ, ◌+◌, Bool, List, [], ◌∷◌, ◌++◌, codes, filter, if◌then◌else◌, length, map, nat_eq, slice_get}
use Rattle.cu_calculus.specs.Program as calculus
use Rattle.cu_calculus.specs.Valid.{all_variables}
use Rattle.cu_calculus.specs.declared.FunId.{FunId}
use Rattle.cu_flatlaws.specs.PrintedExpressions.{printed_expression}
use Rattle.cu_flatlaws.specs.PrintedTypes.{entity, numbers_from, printed_data_type, printed_synonym, written_type}
use Rattle.cu_flatread.specs.Modules as m
use Rattle.cu_flatread.specs.Modules.{Declaration, Function, FunctionRule, Module, Operator}
use Rattle.cu_flatread.specs.Notation.{Entity}
use Rattle.cu_flattext.specs.ExpressionTexts.{all_numbered, no_numbers}
use Rattle.cu_flattext.specs.Naming.{Lowered, entity_of, function_entity, module_name}
use Rattle.cu_flattext.specs.Text.{declared_types, imports_of, operators_of}
use Rattle.cu_kernel.specs.Kernel.{DataType, Mark, Synonym}
use Rattle.cu_kernel.specs.declared.declarations.Operator as declared
use Rattle.cu_names.specs.Texts.{text_of}
use Rattle.cu_types.specs.Inference.{type_in}

-- ---- functions

-- the name under which a function is built in, as `M.f`
abbrev pub built_in_name : Entity → List ℕ
built_in_name e = e.owner ++ (codes "." ++ e.name)

-- The rule of a flat function, over parameters with the numbers from 1 on, or the name under which
-- the function is built in. A flat function has one rule.
abbrev pub printed_rule : Lowered → Entity → calculus.Body → FunctionRule
printed_rule program e (calculus.External operation) = m.External (built_in_name e)
printed_rule program e (calculus.Rules (rule ∷ [])) =
    let parameters = all_variables rule.params in
    m.Rule (numbers_from 1 (length parameters))
    (printed_expression program (1 + length parameters)
    (all_numbered parameters 1 no_numbers) rule.body)
printed_rule program e (calculus.Rules _) = m.External []

-- a function of the flat program, with the type that was inferred for it
abbrev pub printed_function : Lowered → FunId → Bool → calculus.Function → Function
printed_function program id public f =
    let e = entity (function_entity program id) in
    record {
      entity = e;
      arity = f.arity;
      public = public;
      of_type = written_type program (type_in program.interface id);
      rule = printed_rule program e f.body;
    }

-- those functions from the index k on that are of the module with the index `home`, by their marks
abbrev pub printed_functions : Lowered → ℕ → ℕ → List calculus.Function → List Mark → List Function
printed_functions program home k (f ∷ fs) (mark ∷ marks) =
    let others = printed_functions program home (k + 1) fs marks in
    if nat_eq mark.module home
    then printed_function program (record { 0 = k }) mark.public f ∷ others
    else others
printed_functions program home k _ _ = []

-- ---- types

-- the data types of the module with an index, and its synonyms after them
abbrev pub printed_declarations : Lowered → ℕ → List Declaration
printed_declarations program home =
    map (printed_data_type program)
    (filter (λ (t : DataType). nat_eq t.module home) (declared_types program.kernel))
    ++ map (printed_synonym program)
    (filter (λ (s : Synonym). nat_eq s.module home) program.kernel.synonyms)

-- ---- modules

abbrev pub printed_operator : Lowered → ℕ → declared.Operator → Operator
printed_operator program home o =
    record { entity = entity (entity_of program home o.name); side = o.side; level = o.level }

-- the module with an index among the program's modules
abbrev pub printed : Lowered → ℕ → Module
printed program home =
    let found = slice_get program.kernel.modules home in
    record {
      name = module_name program home;
      imports = map (text_of program.names) (imports_of found);
      types = printed_declarations program home;
      functions =
          printed_functions program home 0 program.flat.functions program.kernel.marks;
      operators = map (printed_operator program home) (operators_of found);
    }
