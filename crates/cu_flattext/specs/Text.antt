-- The text of a module in FlatCurry (Hanus and others): its imports, types, functions and
-- operators.
use Rattle.std.specs.Prelude.{ℕ, ◌+◌, Bool, List, [], ◌∷◌, ◌++◌, Option, None, Some, codes, decimal, drop, filter, if◌then◌else◌, length, map, nat_eq, slice_get}
use Rattle.cu_calculus.specs.Code.{Code}
use Rattle.cu_calculus.specs.FlatProgram as flat
use Rattle.cu_calculus.specs.Program as calculus
use Rattle.cu_calculus.specs.Valid.{all_variables}
use Rattle.cu_calculus.specs.declared.FunId.{FunId}
use Rattle.cu_kernel.specs.FirstTypes.{first_outlines}
use Rattle.cu_kernel.specs.Kernel.{DataType, Kernel, Mark, Module, Synonym}
use Rattle.cu_kernel.specs.TypeExpr.{TypeExpr}
use Rattle.cu_kernel.specs.declared.declarations.Operator.{Operator}
use Rattle.cu_kernel.specs.declared.declarations.Side.{Side}
use Rattle.cu_kernel.specs.declared.declarations.Side.TheVariants as to
use Rattle.cu_names.specs.Texts.{text_of}
use Rattle.cu_names.specs.declared.names.NameId.{NameId}
use Rattle.cu_types.specs.Inference.{type_in}
use Rattle.cu_flattext.specs.ExpressionTexts.{all_numbered, expression_text, no_numbers}
use Rattle.cu_flattext.specs.Naming.{Entity, Lowered, entity_of, entity_text, function_entity, in_parentheses, list_text, module_name, quoted}
use Rattle.cu_flattext.specs.TypeTexts.{data_type_text, inferred_type_text, numbers_from, synonym_text, visibility_text}

-- ---- functions

-- what stands for the rule of a function that is built in: `External "M.f"`
abbrev pub external_text : Entity → List ℕ
external_text e = codes "External " ++ quoted (e.owner ++ (codes "." ++ e.name))

-- The rule of a flat function, over parameters with the numbers from 1 on, or what stands for it
-- where the function is built in.
abbrev pub rule_text : Lowered → Entity → calculus.Body → List ℕ
rule_text program e (calculus.External operation) = external_text e
rule_text program e (calculus.Rules (rule ∷ [])) =
    let parameters = all_variables rule.params in
    codes "Rule " ++ (list_text (numbers_from 1 (length parameters)) ++ (codes " "
    ++ in_parentheses (expression_text program (1 + length parameters)
    (all_numbered parameters 1 no_numbers) rule.body)))
rule_text program e (calculus.Rules _) = []

-- The line of a function, with the type that was inferred for it.
abbrev pub function_text : Lowered → FunId → Bool → calculus.Function → List ℕ
function_text program id public f =
    let e = function_entity program id in
    codes "Func "
    ++ (entity_text e ++ (codes " " ++ (decimal f.arity ++ (codes " " ++ (visibility_text public
    ++ (codes " " ++ (in_parentheses (inferred_type_text program (type_in program.interface id))
    ++ (codes " " ++ in_parentheses (rule_text program e f.body)))))))))

-- the lines of those functions from the index k on that are a module's, by their marks
abbrev pub function_texts : Lowered → ℕ → ℕ → List calculus.Function → List Mark → List (List ℕ)
function_texts program m k (f ∷ fs) (mark ∷ marks) =
    let others = function_texts program m (k + 1) fs marks in
    if nat_eq mark.module m
    then function_text program (record { 0 = k }) mark.public f ∷ others
    else others
function_texts program m k _ _ = []

-- ---- types

-- The data types that have lines. Those that every program begins with are built in and have none.
abbrev pub declared_types : Kernel → List DataType
declared_types kernel = drop (length first_outlines) kernel.types

-- the lines of those of these data types that are a module's
abbrev pub data_type_texts : Lowered → ℕ → List DataType → List (List ℕ)
data_type_texts program m ts =
    map (data_type_text program) (filter (λ (t : DataType). nat_eq t.module m) ts)

-- the lines of those of these synonyms that are a module's
abbrev pub synonym_texts : Lowered → ℕ → List Synonym → List (List ℕ)
synonym_texts program m ss =
    map (synonym_text program) (filter (λ (s : Synonym). nat_eq s.module m) ss)

-- the lines of the data types of a module, and of its synonyms after them
abbrev pub type_texts : Lowered → ℕ → List (List ℕ)
type_texts program m =
    data_type_texts program m (declared_types program.kernel)
    ++ synonym_texts program m program.kernel.synonyms

-- ---- operators

-- on which side an operator associates
abbrev pub side_text : Side → List ℕ
side_text to.Left = codes "InfixlOp"
side_text to.Right = codes "InfixrOp"
side_text to.Neither = codes "InfixOp"

-- the line of an operator
abbrev pub operator_text : Lowered → ℕ → Operator → List ℕ
operator_text program m o =
    codes "Op " ++ (entity_text (entity_of program m o.name)
    ++ (codes " " ++ (side_text o.side ++ (codes " " ++ decimal o.level))))

-- ---- modules

-- a text on a new line
abbrev pub on_a_line : List ℕ → List ℕ
on_a_line text = codes "\n" ++ text

-- a list whose elements stand on lines of their own
abbrev pub lines_text : List (List ℕ) → List ℕ
lines_text texts = list_text (map on_a_line texts)

-- an imported module
abbrev pub import_text : Lowered → NameId → List ℕ
import_text program name = quoted (text_of program.names name)

-- the names of the modules that a module imports
abbrev pub imports_of : Option Module → List NameId
imports_of None = []
imports_of (Some m) = m.imports

-- the operators of a module
abbrev pub operators_of : Option Module → List Operator
operators_of None = []
operators_of (Some m) = m.operators

-- the text of the module with an index among the program's modules
abbrev pub module_text : Lowered → ℕ → List ℕ
module_text program m =
    let found = slice_get program.kernel.modules m in
    codes "Prog " ++ (quoted (module_name program m)
    ++ (codes " " ++ (list_text (map (import_text program) (imports_of found))
    ++ (codes " " ++ (lines_text (type_texts program m)
    ++ (codes " "
    ++ (lines_text (function_texts program m 0 program.flat.functions program.kernel.marks)
    ++ (codes " " ++ (lines_text (map (operator_text program m) (operators_of found))
    ++ codes "\n")))))))))

-- the index of the first module of a name, or how many modules there are
abbrev pub place_of : NameId → List Module → ℕ
place_of name [] = 0
place_of name (m ∷ ms) = if nat_eq m.name.0 name.0 then 0 else 1 + place_of name ms

-- the lowered program of a kernel program, by its names, the types of its functions, and its flat
-- code
abbrev pub lowered : List (List ℕ) → Kernel → List TypeExpr → Code → Lowered
lowered names kernel interface code =
    record { names = names; kernel = kernel; interface = interface; flat = flat.program_of code }

-- the text of the module of a name
abbrev pub text_of_module : Lowered → NameId → List ℕ
text_of_module program name = module_text program (place_of name program.kernel.modules)
