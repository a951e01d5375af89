-- What is printed has names and numbers that are read, where its text is short and nothing is nested
-- too deep.
use Rattle.std.proofs.Common.{◌≡◌, ℕ, zero, suc, ◌+◌, ◌-◌, ◌≤◌, ◌<◌, ◌^◌, Bool, true, false, ◌&&◌, List, [], ◌∷◌, ◌++◌, All, IsTrue, codes, decimal, filter, get_or, if◌then◌else◌, length, map, nat_eq, slice_get, refl, ap, subst, ◌∙◌, arith, ltb-true}
use Rattle.std.proofs.lemmas.Bool.{and_parts}
use Rattle.std.proofs.lemmas.List.Elements.{All-append, All-cons, All-drop, All-filter, All-map, All-nil}
use Rattle.std.proofs.lemmas.List.Recursion.{max_bounds}
use Rattle.std.proofs.lemmas.List.Sums.{AllPass-from_list_all}
use Rattle.std.specs.List.{list_all}
use Rattle.cu_calculus.specs.Flat.{are_variables, is_flat_body, is_flat_term}
use Rattle.cu_calculus.specs.Program as calculus
use Rattle.cu_calculus.specs.Program.{Body}
use Rattle.cu_calculus.specs.Valid.{all_variables, fit_patterns, fits_body, fits_function, fits_rule, fits_term, holds, is_arity, is_linear, pattern_count}
use Rattle.cu_calculus.specs.declared.FunId.{FunId}
use Rattle.cu_flatlaws.proofs.Bindings.{bindings_short}
use Rattle.cu_flatlaws.proofs.ExpressionTextLemmas.{AreFew, expression_agrees}
use Rattle.cu_flatlaws.proofs.GoodExpressions.{AreArities, all_numbered_before, expression_good, less_read, numbers_good}
use Rattle.cu_flatlaws.proofs.GoodNames.{AreNames, Each, built_in_named, each_at, each_mapped, entity_named, function_named, imports_named, module_named, names_of_program, operators_named}
use Rattle.cu_flatlaws.proofs.GoodTypes.{AreNumbers, fields_good, good_type, good_types, written_type_good}
use Rattle.cu_flatlaws.proofs.Lengths.{at_most, in_back, in_both, in_brackets, in_front, line_element, list_element, list_long, one_more_in_brackets}
use Rattle.cu_flatlaws.proofs.ModuleTextLemmas.{are_few, arity_small, is_flat_function}
use Rattle.cu_flatlaws.proofs.TypeNumbers.{each_is_numbered, is_numbered_below, variables_short}
use Rattle.cu_flatlaws.proofs.TypeVariables.{Below, parameters_below}
use Rattle.cu_flatlaws.specs.DeclaredNames.{type_names}
use Rattle.cu_flatlaws.specs.Nesting.{constructor_nesting, declaration_nesting, function_nesting, greatest, nesting, rule_nesting}
use Rattle.cu_flatlaws.specs.Printed.{printed, printed_declarations, printed_function, printed_functions, printed_operator, printed_rule}
use Rattle.cu_flatlaws.specs.PrintedExpressions.{printed_expression}
use Rattle.cu_flatlaws.specs.PrintedTypes.{entity, field_types, numbers_from, printed_constructor, printed_data_type, printed_synonym, written_type}
use Rattle.cu_flatlaws.specs.Readable.{HasLevel, HasLevels, HasName, IsInRange, IsNumbered, IsPrintable}
use Rattle.cu_flatread.specs.FlatText.{IsConstructor, IsDeclaration, IsEntity, IsFunction, IsModule, IsName, IsOperator, IsRule, most_nested}
use Rattle.cu_flatread.specs.Modules as m
use Rattle.cu_flatread.specs.Modules.{Declaration, Function}
use Rattle.cu_flatread.specs.Notation.{Entity, entity_text, in_parentheses, lines_text, list_text, quoted, visibility_text}
use Rattle.cu_flatread.specs.Text.{constructor_text, declaration_text, expression_text, function_text, module_text, numbers_text, operator_text, rule_text, type_text, type_texts}
use Rattle.cu_flattext.specs.ExpressionTexts as texts
use Rattle.cu_flattext.specs.ExpressionTexts.{all_numbered, bindings, no_numbers}
use Rattle.cu_flattext.specs.Naming.{Lowered, entity_of, function_entity}
use Rattle.cu_flattext.specs.Text.{declared_types, imports_of, operators_of}
use Rattle.cu_kernel.specs.FirstTypes.{first_outlines}
use Rattle.cu_kernel.specs.Kernel as kernel
use Rattle.cu_kernel.specs.Kernel.{DataType, Mark, Module, Synonym}
use Rattle.cu_kernel.specs.TypeExpr.{TypeExpr}
use Rattle.cu_kernel.specs.Valid.{IsValid, fits_constructor, fits_data_type, fits_synonym, fits_type, is_module, is_parameter}
use Rattle.cu_kernel.specs.declared.declarations.Operator as declared
use Rattle.cu_names.specs.Texts.{text_of}
use Rattle.cu_types.specs.Inference.{type_in}
use Rattle.cu_types.specs.Numbered.{variables_in}

-- a text of so few bytes that a slice holds it
abbrev Short : List ℕ → Type 0
Short text = length text < 2 ^ 64

numbers_count : (n count : ℕ) → length (map decimal (numbers_from n count)) ≡ count
numbers_count n zero = refl
numbers_count n (suc count) = ap suc (numbers_count (n + 1) count)

numbers_long : (n count : ℕ) → count ≤ length (numbers_text (numbers_from n count))
numbers_long n count = omega (arith, list_long (map decimal (numbers_from n count)), numbers_count n count)

-- so many numbers are read, where a text is as long as there are
numbers_below : (count : ℕ) (text : List ℕ) → count ≤ length text → Short text → AreNumbers count
numbers_below count text long short x below = omega (arith, long, short, below)

-- each element is good where its text is short and it isn't nested too deep
abbrev AllAreGood : {A : Type 0} → (A → Type 0) → (A → List ℕ) → (A → ℕ) → List A → Type 0
AllAreGood {A} P text depth xs = All (λ (x : A). Short (text x) → depth x ≤ most_nested → P x) xs

each_listed : {A : Type 0} (P : A → Type 0) (text : A → List ℕ) (depth : A → ℕ) (xs : List A)
    → AllAreGood P text depth xs → Short (list_text (map text xs)) → greatest depth xs ≤ most_nested → All P xs
each_listed P text depth xs good short nested k d below =
    good k d below
    (less_read (length (text (get_or xs k d))) (length (list_text (map text xs))) (list_element text xs k d below) short)
    (at_most (depth (get_or xs k d)) (greatest depth xs) most_nested (max_bounds (greatest depth) depth refl (λ _ _. refl) xs k d below) nested)

each_on_line : {A : Type 0} (P : A → Type 0) (text : A → List ℕ) (depth : A → ℕ) (xs : List A)
    → AllAreGood P text depth xs → Short (lines_text (map text xs)) → greatest depth xs ≤ most_nested → All P xs
each_on_line P text depth xs good short nested k d below =
    good k d below
    (less_read (length (text (get_or xs k d))) (length (lines_text (map text xs))) (line_element text xs k d below) short)
    (at_most (depth (get_or xs k d)) (greatest depth xs) most_nested (max_bounds (greatest depth) depth refl (λ _ _. refl) xs k d below) nested)

-- ---- constructors

fields_count : (program : Lowered) (ts : List TypeExpr) → length (type_texts (field_types program ts)) ≡ length ts
fields_count program [] = refl
fields_count program (t ∷ ts) = ap suc (fields_count program ts)

fields_long : (program : Lowered) (home : ℕ) (c : kernel.Constructor)
    → length c.fields ≤ length (constructor_text (printed_constructor program home c))
fields_long program home c =
    let n = length c.fields in
    let fields = list_text (type_texts (field_types program c.fields)) in
    let listed : n ≤ length fields =
    omega (arith, list_long (type_texts (field_types program c.fields)), fields_count program c.fields) in
    let visible = visibility_text c.public ++ (codes " " ++ fields) in
    let counted = decimal n ++ (codes " " ++ visible) in
    let name = entity_text (entity (entity_of program home c.name)) in
    in_back n (codes "Cons ") (name ++ (codes " " ++ counted)) (in_back n name (codes " " ++ counted)
    (in_back n (codes " ") counted (in_back n (decimal n) (codes " " ++ visible) (in_back n (codes " ") visible
    (in_back n (visibility_text c.public) (codes " " ++ fields) (in_back n (codes " ") fields listed))))))

-- a constructor is good where its text is short and it isn't nested too deep
abbrev GoodConstructor : m.Constructor → Type 0
GoodConstructor c = Short (constructor_text c) → constructor_nesting c ≤ most_nested → IsConstructor c

constructor_good : (program : Lowered) (home arity : ℕ) (c : kernel.Constructor) → AreNames program
    → IsValid program.kernel → AreNumbers arity → HasName program.names c.name
    → IsTrue (fits_constructor program.kernel arity c)
    → Short (constructor_text (printed_constructor program home c))
    → constructor_nesting (printed_constructor program home c) ≤ most_nested
    → IsConstructor (printed_constructor program home c)
constructor_good program home arity c names is_valid small named fits short nested = (
  entity_named program home c.name names named,
  less_read (length c.fields) (length (constructor_text (printed_constructor program home c))) (fields_long program home c) short,
  good_types most_nested (field_types program c.fields) (fields_good program arity c.fields names is_valid small fits) nested,
)

constructors_good : (program : Lowered) (home arity : ℕ) (cs : List kernel.Constructor) → AreNames program
    → IsValid program.kernel → AreNumbers arity
    → Each (HasName program.names) (map (λ (c : kernel.Constructor). c.name) cs)
    → IsTrue (list_all (fits_constructor program.kernel arity) cs)
    → AllAreGood IsConstructor constructor_text constructor_nesting (map (printed_constructor program home) cs)
constructors_good program home arity cs names is_valid small named fits =
    All-map GoodConstructor
    (printed_constructor program home) cs
    (λ k d below. constructor_good program home arity (get_or cs k d) names is_valid small
    (each_at (λ (c : kernel.Constructor). HasName program.names c.name) cs k d
    (each_mapped (HasName program.names) (λ (c : kernel.Constructor). c.name) cs named) below)
    (AllPass-from_list_all (fits_constructor program.kernel arity) cs fits k d below))

-- ---- declarations

-- how long what a declaration has after its word is
held : (n : ℕ) (e : Entity) (public : Bool) (word rest : List ℕ) → n ≤ length rest
    → n ≤ length (word ++ (entity_text e ++ (codes " " ++ (visibility_text public ++ (codes " " ++ rest)))))
held n e public word rest long =
    let visible = visibility_text public ++ (codes " " ++ rest) in
    in_back n word (entity_text e ++ (codes " " ++ visible)) (in_back n (entity_text e) (codes " " ++ visible)
    (in_back n (codes " ") visible (in_back n (visibility_text public) (codes " " ++ rest)
    (in_back n (codes " ") rest long))))

data_type_good : (program : Lowered) (t : DataType) → AreNames program → IsValid program.kernel
    → Each (HasName program.names) (type_names t)
    → IsTrue (fits_data_type program.kernel t) → Short (declaration_text (printed_data_type program t))
    → declaration_nesting (printed_data_type program t) ≤ most_nested → IsDeclaration (printed_data_type program t)
data_type_good program t names is_valid named fits short nested =
    let e = entity (entity_of program t.module t.name) in
    let numbers = numbers_text (numbers_from 0 t.arity) in
    let cs = map (printed_constructor program t.module) t.constructors in
    let listed = list_text (map constructor_text cs) in
    let rest = numbers ++ (codes " " ++ listed) in
    let long : t.arity ≤ length (declaration_text (printed_data_type program t)) =
    held t.arity e t.public (codes "Type ") rest
    (in_front t.arity numbers (codes " " ++ listed) (numbers_long 0 t.arity)) in
    let lists : length listed ≤ length (declaration_text (printed_data_type program t)) =
    held (length listed) e t.public (codes "Type ") rest
    (in_back (length listed) numbers (codes " " ++ listed) (in_back (length listed) (codes " ") listed (omega arith))) in
    let small = numbers_below t.arity (declaration_text (printed_data_type program t)) long short in
    let fit = and_parts (is_module program.kernel t.module) (list_all (fits_constructor program.kernel t.arity) t.constructors) fits in (
      entity_named program t.module t.name names named.0,
      numbers_good t.arity 0 t.arity small (omega arith),
      each_listed IsConstructor constructor_text constructor_nesting cs
          (constructors_good program t.module t.arity t.constructors names is_valid small named.1 fit.1)
          (less_read (length listed) (length (declaration_text (printed_data_type program t))) lists short) nested,
    )

synonym_good : (program : Lowered) (s : Synonym) → AreNames program → HasName program.names s.name
    → IsTrue (fits_synonym program.kernel s) → Short (declaration_text (printed_synonym program s))
    → declaration_nesting (printed_synonym program s) ≤ most_nested → IsDeclaration (printed_synonym program s)
synonym_good program s names named fits short nested =
    let e = entity (entity_of program s.module s.name) in
    let numbers = numbers_text (numbers_from 0 s.arity) in
    let body = in_parentheses (type_text (written_type program s.body)) in
    let long : s.arity ≤ length (declaration_text (printed_synonym program s)) =
    held s.arity e s.public (codes "TypeSyn ") (numbers ++ (codes " " ++ body))
    (in_front s.arity numbers (codes " " ++ body) (numbers_long 0 s.arity)) in
    let small = numbers_below s.arity (declaration_text (printed_synonym program s)) long short in
    let fit = and_parts (is_module program.kernel s.module) (fits_type program.kernel (is_parameter s.arity) s.body) fits in (
      entity_named program s.module s.name names named,
      numbers_good s.arity 0 s.arity small (omega arith),
      good_type most_nested (written_type program s.body)
          (written_type_good program s.arity s.body names small (parameters_below program.kernel s.arity s.body fit.1)) nested,
    )

-- a declaration is good where its text is short and it isn't nested too deep
abbrev GoodDeclaration : Declaration → Type 0
GoodDeclaration d = Short (declaration_text d) → declaration_nesting d ≤ most_nested → IsDeclaration d

declarations_good : (program : Lowered) (home : ℕ) → AreNames program → IsValid program.kernel
    → AllAreGood IsDeclaration declaration_text declaration_nesting (printed_declarations program home)
declarations_good program home names is_valid =
    let of_home : DataType → Bool = λ (t : DataType). nat_eq t.module home in
    let is_homes : Synonym → Bool = λ (s : Synonym). nat_eq s.module home in
    let types = program.kernel.types in
    let synonyms = program.kernel.synonyms in
    All-append GoodDeclaration (map (printed_data_type program) (filter of_home (declared_types program.kernel)))
    (map (printed_synonym program) (filter is_homes synonyms))
    (All-map GoodDeclaration (printed_data_type program) (filter of_home (declared_types program.kernel))
    (All-filter of_home (λ (t : DataType). GoodDeclaration (printed_data_type program t)) (declared_types program.kernel)
    (All-drop (λ (t : DataType). GoodDeclaration (printed_data_type program t)) (length first_outlines) types
    (λ k d below. data_type_good program (get_or types k d) names is_valid
    (each_at (λ (t : DataType). Each (HasName program.names) (type_names t)) types k d names.types below)
    (AllPass-from_list_all (fits_data_type program.kernel) types is_valid.types k d below)))))
    (All-map GoodDeclaration (printed_synonym program) (filter is_homes synonyms)
    (All-filter is_homes (λ (s : Synonym). GoodDeclaration (printed_synonym program s)) synonyms
    (λ k d below. synonym_good program (get_or synonyms k d) names
    (each_at (λ (s : Synonym). HasName program.names s.name) synonyms k d names.synonyms below)
    (AllPass-from_list_all (fits_synonym program.kernel) synonyms is_valid.synonyms k d below))))

-- ---- functions

rule_long : (program : Lowered) (e : Entity) (rule : calculus.Rule) → AreFew program → IsTrue (is_flat_term rule.body)
    → 1 + length (all_variables rule.params) + bindings rule.body
    ≤ length (rule_text (printed_rule program e (calculus.Rules (rule ∷ []))))
rule_long program e rule few flat =
    let parameters = all_variables rule.params in
    let count = length parameters in
    let next = 1 + count in
    let numbers = all_numbered parameters 1 no_numbers in
    let body = expression_text (printed_expression program next numbers rule.body) in
    let bound : bindings rule.body ≤ length body =
    subst (λ (text : List ℕ). bindings rule.body ≤ length text) (expression_agrees program next numbers rule.body few flat)
    (bindings_short program next numbers rule.body flat) in
    let inner : count + bindings rule.body ≤ length (numbers_text (numbers_from 1 count) ++ (codes " " ++ in_parentheses body)) =
    in_both count (bindings rule.body) (numbers_text (numbers_from 1 count)) (codes " " ++ in_parentheses body)
    (numbers_long 1 count) (in_back (bindings rule.body) (codes " ") (in_parentheses body)
    (in_brackets (bindings rule.body) body bound)) in
    omega (arith, inner)

rule_good : (program : Lowered) (e : Entity) (arity : ℕ) (body : Body) → IsEntity e → AreNames program → AreArities program
    → AreFew program → IsTrue (is_flat_body body) → IsTrue (fits_body program.flat arity body)
    → Short (rule_text (printed_rule program e body)) → rule_nesting (printed_rule program e body) ≤ most_nested
    → IsRule (printed_rule program e body)
rule_good program e arity (calculus.External operation) is names arities few flat fits short nested = built_in_named e is
rule_good program e arity (calculus.Rules []) is names arities few flat fits short nested = let no : ⊥ = cc in absurd no
rule_good program e arity (calculus.Rules (rule ∷ [])) is names arities few flat fits short nested =
    let parameters = all_variables rule.params in
    let count = length parameters in
    let top = 1 + count + bindings rule.body in
    let front = and_parts (are_variables rule.params && is_linear parameters) (is_flat_term rule.body) flat in
    let may : ℕ → Bool = λ (x : ℕ). holds x parameters in
    let one = and_parts (fits_rule program.flat arity rule) true fits in
    let fit = and_parts (nat_eq (pattern_count rule.params) arity && fit_patterns program.flat rule.params && is_linear parameters)
    (fits_term program.flat may rule.body) one.0 in
    let small : AreNumbers top =
    numbers_below top (rule_text (printed_rule program e (calculus.Rules (rule ∷ []))))
    (rule_long program e rule few front.1) short in (
      numbers_good top 1 count small (omega arith),
      expression_good program names arities top small most_nested (1 + count) (all_numbered parameters 1 no_numbers) may rule.body
          front.1 fit.1 (all_numbered_before top parameters 1 no_numbers (omega arith) (λ x. omega arith)) (omega arith) nested,
    )
rule_good program e arity (calculus.Rules (rule ∷ other ∷ rules)) is names arities few flat fits short nested =
    let no : ⊥ = cc in absurd no

function_good : (program : Lowered) (id : FunId) (public : Bool) (f : calculus.Function) → AreNames program
    → AreArities program → AreFew program → All IsNumbered program.interface → IsTrue (is_flat_function f)
    → IsTrue (fits_function program.flat f) → Short (function_text (printed_function program id public f))
    → function_nesting (printed_function program id public f) ≤ most_nested → IsFunction (printed_function program id public f)
function_good program id public f names arities few types flat fits short nested =
    let e = entity (function_entity program id) in
    let t = type_in program.interface id in
    let rule = printed_rule program e f.body in
    let fit = and_parts (is_arity f.arity) (fits_body program.flat f.arity f.body) fits in
    let is = function_named program id names in
    let written = type_text (written_type program t) in
    let end = in_parentheses written ++ (codes " " ++ in_parentheses (rule_text rule)) in
    let visible = visibility_text public ++ (codes " " ++ end) in
    let counted = decimal f.arity ++ (codes " " ++ visible) in
    let text = function_text (printed_function program id public f) in
    let long : (n : ℕ) → n ≤ length end → n ≤ length text =
    λ n part. in_back n (codes "Func ") (entity_text e ++ (codes " " ++ counted))
    (in_back n (entity_text e) (codes " " ++ counted) (in_back n (codes " ") counted
    (in_back n (decimal f.arity) (codes " " ++ visible) (in_back n (codes " ") visible
    (in_back n (visibility_text public) (codes " " ++ end) (in_back n (codes " ") end part)))))) in
    let rule_within : length (rule_text rule) ≤ length text =
    long (length (rule_text rule))
    (in_back (length (rule_text rule)) (in_parentheses written) (codes " " ++ in_parentheses (rule_text rule))
    (in_back (length (rule_text rule)) (codes " ") (in_parentheses (rule_text rule))
    (in_brackets (length (rule_text rule)) (rule_text rule) (omega arith)))) in
    let count = suc (length (variables_in t)) in
    let bracketed : count ≤ length (in_parentheses written) =
    one_more_in_brackets (length (variables_in t)) written (variables_short program t) in
    let type_within : count ≤ length text =
    long count (in_front count (in_parentheses written) (codes " " ++ in_parentheses (rule_text rule)) bracketed) in
    let below : Below count t = is_numbered_below t (each_is_numbered program.interface id.0 types) in (
      is,
      omega (arith, ltb-true f.arity (2 ^ 32 - 1) fit.0),
      good_type most_nested (written_type program t)
          (written_type_good program count t names (numbers_below count text type_within short) below)
          (omega (arith, nested)),
      rule_good program e f.arity f.body is names arities few flat fit.1
          (less_read (length (rule_text rule)) (length text) rule_within short) (omega (arith, nested)),
    )

abbrev GoodFunction : Function → Type 0
GoodFunction f = Short (function_text f) → function_nesting f ≤ most_nested → IsFunction f

kept_good : (test : Bool) (f : Function) (fs : List Function) → GoodFunction f → All GoodFunction fs
    → All GoodFunction (if test then f ∷ fs else fs)
kept_good true f fs good others = All-cons GoodFunction f fs good others
kept_good false f fs good others = others

functions_good : (program : Lowered) (home k : ℕ) (fs : List calculus.Function) (marks : List Mark) → AreNames program
    → AreArities program → AreFew program → All IsNumbered program.interface → IsTrue (list_all is_flat_function fs)
    → IsTrue (list_all (fits_function program.flat) fs)
    → All GoodFunction (printed_functions program home k fs marks)
functions_good program home k [] marks names arities few types flat fits = All-nil GoodFunction
functions_good program home k (f ∷ fs) [] names arities few types flat fits = All-nil GoodFunction
functions_good program home k (f ∷ fs) (mark ∷ marks) names arities few types flat fits =
    let flats = and_parts (is_flat_function f) (list_all is_flat_function fs) flat in
    let fit = and_parts (fits_function program.flat f) (list_all (fits_function program.flat) fs) fits in
    let id : FunId = record { 0 = k } in
    kept_good (nat_eq mark.module home) (printed_function program id mark.public f)
    (printed_functions program home (k + 1) fs marks)
    (function_good program id mark.public f names arities few types flats.0 fit.0)
    (functions_good program home (k + 1) fs marks names arities few types flats.1 fit.1)

-- ---- modules

levels_of_found : (ms : List Module) (k : ℕ) → All HasLevels ms → All HasLevel (operators_of (slice_get ms k))
levels_of_found [] k all = All-nil HasLevel
levels_of_found (found ∷ ms) zero all = all 0 found (omega arith)
levels_of_found (found ∷ ms) (suc k) all =
    levels_of_found ms k (λ (i : ℕ) (d : Module) (below : i < length ms). all (suc i) d (omega (arith, below)))

operators_good : (program : Lowered) (home : ℕ) (os : List declared.Operator) → AreNames program
    → Each (λ (o : declared.Operator). HasName program.names o.name) os → All HasLevel os
    → All IsOperator (map (printed_operator program home) os)
operators_good program home os names named levels =
    All-map IsOperator (printed_operator program home) os
    (λ k d below. (
      entity_named program home (get_or os k d).name names
          (each_at (λ (o : declared.Operator). HasName program.names o.name) os k d named below),
      levels k d below,
    ))

pub module_good : (program : Lowered) (home : ℕ) → IsPrintable program → IsInRange program
    → Short (module_text (printed program home)) → nesting (printed program home) ≤ most_nested
    → IsModule (printed program home)
module_good program home printable in_range short nested =
    let flat = printed program home in
    let found = slice_get program.kernel.modules home in
    let names = names_of_program program in_range.names in
    let arities : AreArities program =
    λ h. less_read (texts.arity program h) (2 ^ 32) (omega (arith, arity_small program printable.valid h)) (omega arith) in
    let few = are_few program printable.valid in
    let types = lines_text (map declaration_text flat.types) in
    let functions = lines_text (map function_text flat.functions) in
    let end = lines_text (map operator_text flat.operators) ++ codes "\n" in
    let after_types = functions ++ (codes " " ++ end) in
    let imports = list_text (map quoted flat.imports) in
    let after_imports = types ++ (codes " " ++ after_types) in
    let named : (n : ℕ) → n ≤ length after_imports → n ≤ length (module_text flat) =
    λ n long. in_back n (codes "Prog ") (quoted flat.name ++ (codes " " ++ (imports ++ (codes " " ++ after_imports))))
    (in_back n (quoted flat.name) (codes " " ++ (imports ++ (codes " " ++ after_imports)))
    (in_back n (codes " ") (imports ++ (codes " " ++ after_imports)) (in_back n imports (codes " " ++ after_imports)
    (in_back n (codes " ") after_imports long)))) in
    let types_short : Short types =
    less_read (length types) (length (module_text flat))
    (named (length types) (in_front (length types) types (codes " " ++ after_types) (omega arith))) short in
    let functions_short : Short functions =
    less_read (length functions) (length (module_text flat))
    (named (length functions) (in_back (length functions) types (codes " " ++ after_types)
    (in_back (length functions) (codes " ") after_types
    (in_front (length functions) functions (codes " " ++ end) (omega arith))))) short in (
      module_named program home names,
      All-map IsName (text_of program.names) (imports_of found) (λ k d below. each_at (HasName program.names) (imports_of found) k d
          (imports_named program home found names refl) below),
      each_on_line IsDeclaration declaration_text declaration_nesting flat.types
          (declarations_good program home names printable.kernel) types_short (omega (arith, nested)),
      each_on_line IsFunction function_text function_nesting flat.functions
          (functions_good program home 0 program.flat.functions program.kernel.marks names arities few in_range.types printable.flat
          printable.valid.functions) functions_short (omega (arith, nested)),
      operators_good program home (operators_of found) names (operators_named program home found names refl)
          (levels_of_found program.kernel.modules home in_range.levels),
    )
