-- The text of a module is that of what is printed.
use Rattle.std.proofs.Common.{◌≡◌, ℕ, zero, suc, ◌+◌, ◌-◌, ◌^◌, ◌≤◌, ◌<◌, Bool, true, false, ◌&&◌, List, [], ◌∷◌, ◌++◌, Option, None, Some, IsTrue, codes, cond, decimal, drop, filter, if◌then◌else◌, length, map, nat_eq, slice_get, option_map, unwrap_or, refl, sym, ap, ap₂, ◌∙◌, arith, ltb-true}
use Rattle.std.proofs.lemmas.Bool.{and_parts}
use Rattle.std.proofs.lemmas.List.{map-append}
use Rattle.std.specs.List.{list_all}
use Rattle.cu_calculus.proofs.Lists.{passed_at}
use Rattle.cu_calculus.specs.Flat.{are_variables, is_flat_body, is_flat_term}
use Rattle.cu_calculus.specs.Program as calculus
use Rattle.cu_calculus.specs.Program.{Body, Rule, constructor_of, function_of}
use Rattle.cu_calculus.specs.Valid as valid
use Rattle.cu_calculus.specs.Valid.{all_variables, fits_body, fits_function, is_arity, is_linear}
use Rattle.cu_calculus.specs.declared.FunId.{FunId}
use Rattle.cu_calculus.specs.declared.Head.{Head}
use Rattle.cu_calculus.specs.declared.Head.TheVariants as head
use Rattle.cu_flatlaws.proofs.ExpressionTextLemmas.{AreFew, expression_agrees}
use Rattle.cu_flatlaws.proofs.Lengths.{map_twice}
use Rattle.cu_flatlaws.proofs.NumberTexts.{numbers_agree}
use Rattle.cu_flatlaws.proofs.TypeTextLemmas.{data_type_agrees, inferred_type_agrees, synonym_agrees}
use Rattle.cu_flatlaws.specs.Printed.{printed, printed_declarations, printed_function, printed_functions, printed_operator, printed_rule}
use Rattle.cu_flatlaws.specs.PrintedTypes.{entity, printed_data_type, printed_synonym}
use Rattle.cu_flatlaws.specs.Readable.{IsPrintable, TextsAgree}
use Rattle.cu_flatread.specs.Modules.{Function}
use Rattle.cu_flatread.specs.Notation.{entity_text, in_parentheses, lines_text, list_text, quoted, visibility_text}
use Rattle.cu_flatread.specs.Text.{declaration_text, function_text, module_text, operator_text, rule_text}
use Rattle.cu_flattext.specs.ExpressionTexts.{all_numbered, arity, no_numbers}
use Rattle.cu_flattext.specs.Naming as naming
use Rattle.cu_flattext.specs.Naming.{Lowered, function_entity, module_name}
use Rattle.cu_flattext.specs.Text as texts
use Rattle.cu_flattext.specs.Text.{declared_types, imports_of, operators_of, place_of}
use Rattle.cu_flattext.specs.TypeTexts.{data_type_text, synonym_text}
use Rattle.cu_kernel.specs.FirstTypes.{first_outlines}
use Rattle.cu_kernel.specs.Kernel.{DataType, Mark, Synonym}
use Rattle.cu_kernel.specs.Valid.{IsValid, fits_data_type, fits_synonym}
use Rattle.cu_names.specs.Texts.{text_of}
use Rattle.cu_types.specs.Inference.{type_in}

-- ---- arities

function_arity : (found : Option calculus.Function)
    → ((f : calculus.Function) → found ≡ Some f → IsTrue (is_arity f.arity))
    → unwrap_or (option_map (λ (f : calculus.Function). f.arity) found) 0 < 2 ^ 32
function_arity None fits = omega arith
function_arity (Some f) fits = omega (arith, ltb-true f.arity (2 ^ 32 - 1) (fits f refl))

constructor_arity : (found : Option calculus.Constructor)
    → ((c : calculus.Constructor) → found ≡ Some c → IsTrue (is_arity c.arity))
    → unwrap_or (option_map (λ (c : calculus.Constructor). c.arity) found) 0 < 2 ^ 32
constructor_arity None fits = omega arith
constructor_arity (Some c) fits = omega (arith, ltb-true c.arity (2 ^ 32 - 1) (fits c refl))

function_is_few : (program : calculus.Program) → valid.IsValid program → (f : FunId) (function : calculus.Function)
    → function_of program f ≡ Some function → IsTrue (is_arity function.arity)
function_is_few program is_valid f function found =
    (and_parts (is_arity function.arity) (fits_body program function.arity function.body)
    (passed_at (fits_function program) program.functions f.0 function is_valid.functions found)).0

-- no head of a valid program takes very many arguments
pub arity_small : (program : Lowered) → valid.IsValid program.flat → (h : Head) → arity program h < 2 ^ 32
arity_small program is_valid (head.Fun f) =
    function_arity (function_of program.flat f) (function_is_few program.flat is_valid f)
arity_small program is_valid (head.Con c) =
    constructor_arity (constructor_of program.flat c)
    (λ (d : calculus.Constructor) (found : constructor_of program.flat c ≡ Some d).
    passed_at (λ (e : calculus.Constructor). is_arity e.arity) program.flat.constructors c.0 d is_valid.constructors found)
arity_small program is_valid (head.Set f) =
    function_arity (function_of program.flat f) (function_is_few program.flat is_valid f)

pub are_few : (program : Lowered) → valid.IsValid program.flat → AreFew program
are_few program is_valid h = omega (arith, arity_small program is_valid h)

-- ---- functions

-- whether the body of a function is flat
abbrev pub is_flat_function : calculus.Function → Bool
is_flat_function f = is_flat_body f.body

rule_agrees : (program : Lowered) (e : naming.Entity) (body : Body) → AreFew program → IsTrue (is_flat_body body)
    → texts.rule_text program e body ≡ rule_text (printed_rule program (entity e) body)
rule_agrees program e (calculus.External operation) few flat = refl
rule_agrees program e (calculus.Rules []) few flat = let no : ⊥ = cc in absurd no
rule_agrees program e (calculus.Rules (rule ∷ [])) few flat =
    let parameters = all_variables rule.params in
    let front = and_parts (are_variables rule.params && is_linear (all_variables rule.params)) (is_flat_term rule.body) flat in
    ap₂ (λ (numbers : List (List ℕ)) (body : List ℕ). codes "Rule " ++ (list_text numbers ++ (codes " " ++ in_parentheses body)))
    (numbers_agree 1 (length parameters))
    (expression_agrees program (1 + length parameters) (all_numbered parameters 1 no_numbers) rule.body few front.1)
rule_agrees program e (calculus.Rules (rule ∷ other ∷ rules)) few flat = let no : ⊥ = cc in absurd no

function_agrees : (program : Lowered) (id : FunId) (public : Bool) (f : calculus.Function) → AreFew program
    → IsTrue (is_flat_body f.body)
    → texts.function_text program id public f ≡ function_text (printed_function program id public f)
function_agrees program id public f few flat =
    let e = function_entity program id in
    ap₂ (λ (t rule : List ℕ). codes "Func " ++ (entity_text (entity e) ++ (codes " " ++ (decimal f.arity ++ (codes " "
    ++ (visibility_text public ++ (codes " " ++ (in_parentheses t ++ (codes " " ++ in_parentheses rule)))))))))
    (inferred_type_agrees program (type_in program.interface id)) (rule_agrees program e f.body few flat)

kept_or_not : (test : Bool) (x : List ℕ) (f : Function) (xs : List (List ℕ)) (fs : List Function)
    → x ≡ function_text f → xs ≡ map function_text fs
    → (if test then x ∷ xs else xs) ≡ map function_text (if test then f ∷ fs else fs)
kept_or_not true x f xs fs first others = ap₂ (λ (y : List ℕ) (ys : List (List ℕ)). y ∷ ys) first others
kept_or_not false x f xs fs first others = others

functions_agree : (program : Lowered) (home k : ℕ) (fs : List calculus.Function) (marks : List Mark) → AreFew program
    → IsTrue (list_all is_flat_function fs)
    → texts.function_texts program home k fs marks
    ≡ map function_text (printed_functions program home k fs marks)
functions_agree program home k [] marks few flat = refl
functions_agree program home k (f ∷ fs) [] few flat = refl
functions_agree program home k (f ∷ fs) (mark ∷ marks) few flat =
    let both = and_parts (is_flat_function f) (list_all is_flat_function fs) flat in
    kept_or_not (nat_eq mark.module home) (texts.function_text program (record { 0 = k }) mark.public f)
    (printed_function program (record { 0 = k }) mark.public f)
    (texts.function_texts program home (k + 1) fs marks) (printed_functions program home (k + 1) fs marks)
    (function_agrees program (record { 0 = k }) mark.public f few both.0)
    (functions_agree program home (k + 1) fs marks few both.1)

-- ---- types

kept_agrees : {A : Type 0} (test : Bool) (f g : A → List ℕ) (x : A) (xs : List A) → f x ≡ g x → map f xs ≡ map g xs
    → map f (cond test (x ∷ xs) xs) ≡ map g (cond test (x ∷ xs) xs)
kept_agrees true f g x xs first others = ap₂ (λ (y : List ℕ) (ys : List (List ℕ)). y ∷ ys) first others
kept_agrees false f g x xs first others = others

-- the texts of those elements that pass a test, where all elements pass another one
filtered_agree : {A : Type 0} (test passes : A → Bool) (f g : A → List ℕ)
    → ((x : A) → IsTrue (passes x) → f x ≡ g x) → (xs : List A) → IsTrue (list_all passes xs)
    → map f (filter test xs) ≡ map g (filter test xs)
filtered_agree test passes f g same [] pass = refl
filtered_agree test passes f g same (x ∷ xs) pass =
    let both = and_parts (passes x) (list_all passes xs) pass in
    kept_agrees (test x) f g x (filter test xs) (same x both.0) (filtered_agree test passes f g same xs both.1)

all_dropped : {A : Type 0} (test : A → Bool) (n : ℕ) (xs : List A) → IsTrue (list_all test xs)
    → IsTrue (list_all test (drop n xs))
all_dropped test zero xs all = all
all_dropped test (suc n) [] all = all
all_dropped test (suc n) (x ∷ xs) all = all_dropped test n xs (and_parts (test x) (list_all test xs) all).1

declarations_agree : (program : Lowered) (home : ℕ) → IsValid program.kernel
    → texts.type_texts program home ≡ map declaration_text (printed_declarations program home)
declarations_agree program home is_valid =
    let of_home : DataType → Bool = λ (t : DataType). nat_eq t.module home in
    let is_homes : Synonym → Bool = λ (s : Synonym). nat_eq s.module home in
    let kept = filter of_home (declared_types program.kernel) in
    let others = filter is_homes program.kernel.synonyms in
    let data_types : map (data_type_text program) kept ≡ map declaration_text (map (printed_data_type program) kept) =
    filtered_agree of_home (fits_data_type program.kernel) (data_type_text program)
    (λ (t : DataType). declaration_text (printed_data_type program t))
    (λ (t : DataType) (fits : IsTrue (fits_data_type program.kernel t)). data_type_agrees program t is_valid fits)
    (declared_types program.kernel)
    (all_dropped (fits_data_type program.kernel) (length first_outlines) program.kernel.types is_valid.types)
    ∙ map_twice declaration_text (printed_data_type program) kept in
    let synonyms : map (synonym_text program) others ≡ map declaration_text (map (printed_synonym program) others) =
    filtered_agree is_homes (fits_synonym program.kernel) (synonym_text program)
    (λ (s : Synonym). declaration_text (printed_synonym program s))
    (λ (s : Synonym) (fits : IsTrue (fits_synonym program.kernel s)). synonym_agrees program s fits)
    program.kernel.synonyms is_valid.synonyms
    ∙ map_twice declaration_text (printed_synonym program) others in
    ap₂ (λ (xs ys : List (List ℕ)). xs ++ ys) data_types synonyms
    ∙ sym (map-append declaration_text (map (printed_data_type program) kept) (map (printed_synonym program) others))

-- ---- modules

-- a module of these parts
abbrev whole_text : List ℕ → List (List ℕ) → List (List ℕ) → List (List ℕ) → List (List ℕ) → List ℕ
whole_text name imports types functions operators =
    codes "Prog " ++ (quoted name ++ (codes " " ++ (list_text imports ++ (codes " " ++ (lines_text types
    ++ (codes " " ++ (lines_text functions ++ (codes " " ++ (lines_text operators ++ codes "\n")))))))))

parts_agree : (name : List ℕ) (imports types functions operators : List (List ℕ))
    (imports' types' functions' operators' : List (List ℕ)) → imports ≡ imports' → types ≡ types'
    → functions ≡ functions' → operators ≡ operators'
    → whole_text name imports types functions operators ≡ whole_text name imports' types' functions' operators'
parts_agree name imports types functions operators imports' types' functions' operators' i t f o =
    ap (λ (x : List (List ℕ)). whole_text name x types functions operators) i
    ∙ ap (λ (x : List (List ℕ)). whole_text name imports' x functions operators) t
    ∙ ap (λ (x : List (List ℕ)). whole_text name imports' types' x operators) f
    ∙ ap (λ (x : List (List ℕ)). whole_text name imports' types' functions' x) o

pub module_agrees : (program : Lowered) (home : ℕ) → IsPrintable program
    → texts.module_text program home ≡ module_text (printed program home)
module_agrees program home printable =
    let found = slice_get program.kernel.modules home in
    let few : AreFew program = are_few program printable.valid in
    parts_agree (module_name program home)
    (map (texts.import_text program) (imports_of found)) (texts.type_texts program home)
    (texts.function_texts program home 0 program.flat.functions program.kernel.marks)
    (map (texts.operator_text program home) (operators_of found))
    (map quoted (map (text_of program.names) (imports_of found)))
    (map declaration_text (printed_declarations program home))
    (map function_text (printed_functions program home 0 program.flat.functions program.kernel.marks))
    (map operator_text (map (printed_operator program home) (operators_of found)))
    (map_twice quoted (text_of program.names) (imports_of found))
    (declarations_agree program home printable.kernel)
    (functions_agree program home 0 program.flat.functions program.kernel.marks few printable.flat)
    (map_twice operator_text (printed_operator program home) (operators_of found))

pub texts_agree : TextsAgree
texts_agree program name printable = module_agrees program (place_of name program.kernel.modules) printable
