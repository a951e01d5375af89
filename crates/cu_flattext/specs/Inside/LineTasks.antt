-- The parts of a module's text that are left while it is written, and the texts that they come to.
use Rattle.std.specs.Prelude.{ℕ, ◌+◌, Bool, false, List, [], ◌∷◌, ◌++◌, Option, None, Some, codes, drop, length, map, reverse, slice_get}
use Rattle.cu_calculus.specs.Code.{Code}
use Rattle.cu_calculus.specs.FlatProgram.{term_of}
use Rattle.cu_calculus.specs.Program as calculus
use Rattle.cu_calculus.specs.declared.ExprId.{ExprId}
use Rattle.cu_calculus.specs.declared.FunId.{FunId}
use Rattle.cu_calculus.specs.declared.Head.TheVariants as head
use Rattle.cu_flattext.specs.ExpressionTexts.{all_numbered, arity, expression_text, no_numbers}
use Rattle.cu_kernel.specs.KernelOf.{constructor_meaning, synonym_meaning, type_meaning}
use Rattle.cu_flattext.specs.Inside.InferredTasks.{inferred_left}
use Rattle.cu_flattext.specs.Inside.Stands.{lowered_of}
use Rattle.cu_flattext.specs.Inside.Tasks.{left_of}
use Rattle.cu_flattext.specs.Inside.TypeTasks.{types_left}
use Rattle.cu_flattext.specs.Naming.{Lowered, elements, function_entity, in_parentheses, list_text}
use Rattle.cu_flattext.specs.Text.{data_type_texts, function_text, function_texts, import_text, imports_of, on_a_line, operator_text, operators_of, rule_text, synonym_texts, type_texts}
use Rattle.cu_flattext.specs.TypeTexts.{constructor_text, numbers_from}
use Rattle.cu_flattext.specs.declared.line.Line.{Line}
use Rattle.cu_flattext.specs.declared.line.Line.TheVariants as line
use Rattle.cu_flattext.specs.declared.line.Work.{Work}
use Rattle.cu_flattext.specs.declared.line.Work.TheVariants as work
use Rattle.cu_flattext.specs.declared.module_text.ModuleText.{ModuleText}
use Rattle.cu_flattext.specs.declared.writer.Writer.{Writer}

-- the text of the expression of a rule with these parameters
abbrev pub rule_expression : Lowered → Code → List ℕ → ExprId → List ℕ
rule_expression program code parameters e =
    expression_text program (1 + length parameters) (all_numbered parameters 1 no_numbers)
    (term_of code e)

-- the body of a function, and none with a rule where there is no such function
abbrev pub body_found : Option calculus.Function → calculus.Body
body_found None = calculus.Rules []
body_found (Some f) = f.body

-- the body of the function with a number, and none with a rule where there is no such function
abbrev pub body_at : Lowered → FunId → calculus.Body
body_at program f = body_found (slice_get program.flat.functions f.0)

-- the text of a function's rule
abbrev pub body_text : Lowered → FunId → List ℕ
body_text program f = rule_text program (function_entity program f) (body_at program f)

-- the line of a function
abbrev pub function_at : Lowered → FunId → Bool → List ℕ
function_at program f public =
    function_text program f public
    (record { arity = arity program (head.Fun f); body = body_at program f })

-- the text of a rule with these parameters
abbrev pub rule_over : Lowered → Code → List ℕ → ExprId → List ℕ
rule_over program code parameters e =
    codes "Rule " ++ (list_text (numbers_from 1 (length parameters)) ++ (codes " "
    ++ in_parentheses (rule_expression program code parameters e)))

-- the lines of a module's functions from an index on
abbrev pub function_lines : Lowered → ℕ → ℕ → List (List ℕ)
function_lines program m k =
    map on_a_line (function_texts program m k (drop k program.flat.functions)
    (drop k program.kernel.marks))

-- the text of a part of a module
abbrev pub line_part : Lowered → ℕ → Line → List ℕ
line_part program m (line.Text text) = text.now
line_part program m (line.Imports imports follows) =
    elements follows (map (import_text program) imports.now)
line_part program m (line.DataTypes ts follows) =
    elements follows
    (map on_a_line (data_type_texts program m (map type_meaning ts.now)
    ++ synonym_texts program m program.kernel.synonyms))
line_part program m (line.Synonyms ss follows) =
    elements follows (map on_a_line (synonym_texts program m (map synonym_meaning ss.now)))
line_part program m (line.Constructors cs arity follows) =
    elements follows (map (constructor_text program m arity) (map constructor_meaning cs.now))
line_part program m (line.Functions k follows) = elements follows (function_lines program m k)
line_part program m (line.Body f) = body_text program f
line_part program m (line.Operators os follows) =
    elements follows (map on_a_line (map (operator_text program m) os.now))

-- the text of several parts, the first part first
abbrev pub line_parts : Lowered → ℕ → List Line → List ℕ
line_parts program m [] = []
line_parts program m (l ∷ ls) = line_part program m l ++ line_parts program m ls

-- the text of a module from its imports on
abbrev pub module_lines : Lowered → ℕ → List ℕ
module_lines program m =
    let found = slice_get program.kernel.modules m in
    elements false (map (import_text program) (imports_of found))
    ++ (codes "] [" ++ (elements false (map on_a_line (type_texts program m))
    ++ (codes "] [" ++ (elements false (function_lines program m 0)
    ++ (codes "] ["
    ++ (elements false (map on_a_line (map (operator_text program m) (operators_of found)))
    ++ (codes "]\n" ++ [])))))))

-- the text of the parts that are left
abbrev pub lines_left : ModuleText → List ℕ
lines_left s = line_parts (lowered_of s.wording) s.module (reverse s.lines.items)

-- the text of the parts that are left, with one part before them
abbrev pub lines_left_with : Line → ModuleText → List ℕ
lines_left_with l s = line_part (lowered_of s.wording) s.module l ++ lines_left s

-- a text, and then that of the parts that are left
abbrev pub lines_left_after : List ℕ → ModuleText → List ℕ
lines_left_after text s = text ++ lines_left s

-- the text of what is to be written before the next part
abbrev pub work_left : Work → List ℕ
work_left work.Nothing = []
work_left (work.Types types) = types_left types
work_left (work.Inferred inferred) = inferred_left inferred
work_left (work.Expressions expressions) = left_of expressions

-- the text of what is to be written before the next part, and of the parts that are left
abbrev pub left_after : Work → ModuleText → List ℕ
left_after w s = work_left w ++ lines_left s

-- the text of all that is left
abbrev pub all_left : Writer → List ℕ
all_left w =
    left_of w.expressions ++ (types_left w.types
    ++ (inferred_left w.inferred ++ lines_left w.lines))
