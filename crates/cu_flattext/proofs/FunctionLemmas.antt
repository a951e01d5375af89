-- The functions of a module, from an index on.
use Rattle.std.proofs.Common.{◌≡◌, ℕ, zero, suc, ◌+◌, ◌<◌, ◌≤◌, List, [], ◌∷◌, ◌++◌, Bool, true, false, Option, None, Some, append_assoc, codes, drop, length, map, refl, reverse, sym, ap, ◌∙◌, arith}
use Rattle.std.proofs.lemmas.Option.{slice_get-map, slice_get_past}
use Rattle.std.specs.Fmt.{decimal}
use Rattle.std.specs.List.{slice_get}
use Rattle.std.specs.Option.{option_map, unwrap_or}
use Rattle.std.specs.Prelude.{if◌then◌else◌, nat_eq}
use Rattle.cu_calculus.specs.Code as code
use Rattle.cu_calculus.specs.Code.{Code, body_of}
use Rattle.cu_calculus.specs.FlatProgram.{body_in, function_in}
use Rattle.cu_calculus.specs.Program as calculus
use Rattle.cu_calculus.specs.declared.FunId.{FunId}
use Rattle.cu_calculus.specs.declared.Head.TheVariants as head
use Rattle.cu_kernel.specs.Kernel.{Mark}
use Rattle.cu_types.specs.Inference.{type_in}
use Rattle.cu_flattext.specs.ExpressionTexts.{arity}
use Rattle.cu_flattext.specs.Inside.LineTasks.{body_found, body_text, function_at, function_lines, line_part, line_parts}
use Rattle.cu_flattext.specs.Naming.{Entity, Lowered, entity_text, function_entity}
use Rattle.cu_flattext.specs.Text.{function_text, function_texts, on_a_line, rule_text}
use Rattle.cu_flattext.specs.TypeTexts.{inferred_type_text, visibility_text}
use Rattle.cu_flattext.specs.declared.line.Line.{Line}
use Rattle.cu_flattext.specs.declared.line.Line.TheVariants as line
use Rattle.cu_flattext.proofs.CircleLemmas.{mapped_length}
use Rattle.cu_flattext.proofs.ElementLemmas.{line_pushed}

dropped : {A : Type 0} → (xs : List A) (k : ℕ) (x : A) → slice_get xs k ≡ Some x → drop k xs ≡ x ∷ drop (k + 1) xs
dropped [] k x is = let none : ⊥ = cc in absurd none
dropped (y ∷ ys) zero x is = let e : y ≡ x = cc in ap (λ z. z ∷ ys) e
dropped (y ∷ ys) (suc k) x is =
    let e : suc k + 1 ≡ suc (k + 1) = omega arith in
    dropped ys k x is ∙ ap (λ n. x ∷ drop n (y ∷ ys)) (sym e)

past : {A : Type 0} → (xs : List A) (k : ℕ) → slice_get xs k ≡ None → drop k xs ≡ []
past [] zero is = refl
past [] (suc k) is = refl
past (x ∷ xs) zero is = let none : ⊥ = cc in absurd none
past (x ∷ xs) (suc k) is = past xs k is

there : {A : Type 0} → (xs : List A) (k : ℕ) → k < length xs → (x : A) × (slice_get xs k ≡ Some x)
there [] k less = absurd (omega arith)
there (x ∷ xs) zero less = (x, refl)
there (x ∷ xs) (suc k) less = there xs k (omega arith)

-- a function as its arity and its body are looked up
looked_up : (program : Lowered) (k : ℕ) (public : Bool) (f : calculus.Function) → slice_get program.flat.functions k ≡ Some f
    → function_at program (record { 0 = k }) public ≡ function_text program (record { 0 = k }) public f
looked_up program k public f is =
    ap (λ (o : Option calculus.Function). function_text program (record { 0 = k }) public
    (record { arity = unwrap_or (option_map (λ (g : calculus.Function). g.arity) o) 0; body = body_found o })) is

by_test : (b : Bool) (text : List ℕ) (others : List (List ℕ))
    → map on_a_line (if b then text ∷ others else others) ≡ (if b then on_a_line text ∷ map on_a_line others else map on_a_line others)
by_test true text others = refl
by_test false text others = refl

-- one more function, with its mark
lines_more : (program : Lowered) (m k : ℕ) (f : calculus.Function) (mark : Mark)
    → slice_get program.flat.functions k ≡ Some f → slice_get program.kernel.marks k ≡ Some mark
    → function_lines program m k
    ≡ (if nat_eq mark.module m
    then on_a_line (function_at program (record { 0 = k }) mark.public) ∷ function_lines program m (k + 1)
    else function_lines program m (k + 1))
lines_more program m k f mark is marked =
    ap (λ (fs : List calculus.Function). map on_a_line (function_texts program m k fs (drop k program.kernel.marks)))
    (dropped program.flat.functions k f is)
    ∙ ap (λ (marks : List Mark). map on_a_line (function_texts program m k (f ∷ drop (k + 1) program.flat.functions) marks))
    (dropped program.kernel.marks k mark marked)
    ∙ by_test (nat_eq mark.module m) (function_text program (record { 0 = k }) mark.public f)
    (function_texts program m (k + 1) (drop (k + 1) program.flat.functions) (drop (k + 1) program.kernel.marks))
    ∙ ap (λ (text : List ℕ). if nat_eq mark.module m then on_a_line text ∷ function_lines program m (k + 1) else function_lines program m (k + 1))
    (sym (looked_up program k mark.public f is))

without_marks : (program : Lowered) (m k : ℕ) (fs : List calculus.Function) → function_texts program m k fs [] ≡ []
without_marks program m k [] = refl
without_marks program m k (f ∷ fs) = refl

-- no more function, or no more mark
pub no_function : (program : Lowered) (m k : ℕ) → length program.flat.functions ≤ k → function_lines program m k ≡ []
no_function program m k few =
    ap (λ (fs : List calculus.Function). map on_a_line (function_texts program m k fs (drop k program.kernel.marks)))
    (past program.flat.functions k (slice_get_past program.flat.functions k few))

pub no_mark : (program : Lowered) (m k : ℕ) → slice_get program.kernel.marks k ≡ None → function_lines program m k ≡ []
no_mark program m k is =
    ap (λ (marks : List Mark). map on_a_line (function_texts program m k (drop k program.flat.functions) marks)) (past program.kernel.marks k is)
    ∙ ap (map on_a_line) (without_marks program m k (drop k program.flat.functions))

-- one more function of the module
pub own_function : (program : Lowered) (m k : ℕ) (mark : Mark) → k < length program.flat.functions
    → slice_get program.kernel.marks k ≡ Some mark → nat_eq mark.module m ≡ true
    → function_lines program m k
    ≡ on_a_line (function_at program (record { 0 = k }) mark.public) ∷ function_lines program m (k + 1)
own_function program m k mark less marked own =
    let w = there program.flat.functions k less in
    lines_more program m k w.0 mark w.1 marked
    ∙ ap (λ b. if b then on_a_line (function_at program (record { 0 = k }) mark.public) ∷ function_lines program m (k + 1)
    else function_lines program m (k + 1)) own

-- a function of another module
pub other_function : (program : Lowered) (m k : ℕ) (mark : Mark) → k < length program.flat.functions
    → slice_get program.kernel.marks k ≡ Some mark → nat_eq mark.module m ≡ false
    → function_lines program m k ≡ function_lines program m (k + 1)
other_function program m k mark less marked other =
    let w = there program.flat.functions k less in
    lines_more program m k w.0 mark w.1 marked
    ∙ ap (λ b. if b then on_a_line (function_at program (record { 0 = k }) mark.public) ∷ function_lines program m (k + 1)
    else function_lines program m (k + 1)) other

-- as many functions as in the code
pub has_function : (c : Code) (n k : ℕ) → n ≡ length c.functions → k < n → k < length (map (function_in c) c.functions)
has_function c n k is less = let count = mapped_length (function_in c) c.functions in omega arith

pub lacks_function : (c : Code) (n k : ℕ) → n ≡ length c.functions → n ≤ k → length (map (function_in c) c.functions) ≤ k
lacks_function c n k is few = let count = mapped_length (function_in c) c.functions in omega arith

-- ---- what a function does

function_found : (c : Code) (k : ℕ) (body : code.Body) (found : Option code.Function) → slice_get c.functions k ≡ found
    → Some body ≡ body_of c (record { 0 = k }) → (n : ℕ) × (slice_get c.functions k ≡ Some (record { arity = n; body = body }))
function_found c k body None at is =
    let e : Some body ≡ None = is ∙ ap (λ (o : Option code.Function). elim o [ Some f ↦ Some f.body | None ↦ None ]) at in
    let none : ⊥ = cc in absurd none
function_found c k body (Some f) at is =
    let e : Some body ≡ Some f.body = is ∙ ap (λ (o : Option code.Function). elim o [ Some f ↦ Some f.body | None ↦ None ]) at in
    let same : f.body ≡ body = cc in
    (f.arity, at ∙ ap (λ (b : code.Body). Some (record { arity = f.arity; body = b })) same)

pub body_there : (c : Code) (k : ℕ) (body : code.Body) → Some body ≡ body_of c (record { 0 = k })
    → body_in c body ≡ body_found (slice_get (map (function_in c) c.functions) k)
body_there c k body is =
    let w = function_found c k body (slice_get c.functions k) refl is in
    let flat : slice_get (map (function_in c) c.functions) k ≡ Some (function_in c (record { arity = w.0; body = body })) =
    slice_get-map (function_in c) c.functions k ∙ ap (option_map (function_in c)) w.1 in
    sym (ap body_found flat)

no_function_there : (found : Option code.Function)
    → ◌≡◌ {A = Option code.Body} None (elim found [ Some f ↦ Some f.body | None ↦ None ]) → found ≡ None
no_function_there None is = refl
no_function_there (Some f) is = let none : ⊥ = cc in absurd none

pub no_body : (c : Code) (program : Lowered) (e : Entity) (k : ℕ) → None ≡ body_of c (record { 0 = k })
    → rule_text program e (body_found (slice_get (map (function_in c) c.functions) k)) ≡ []
no_body c program e k is =
    let none : slice_get c.functions k ≡ None = no_function_there (slice_get c.functions k) is in
    let flat : slice_get (map (function_in c) c.functions) k ≡ None =
    slice_get-map (function_in c) c.functions k ∙ ap (option_map (function_in c)) none in
    ap (λ (o : Option calculus.Function). rule_text program e (body_found o)) flat

-- ---- the line of a function

-- the line in the parts in which it is written
pub line_read : (program : Lowered) (f : FunId) (public : Bool)
    → codes "\nFunc " ++ (entity_text (function_entity program f) ++ (codes " " ++ (decimal (arity program (head.Fun f)) ++ (codes " "
    ++ (visibility_text public ++ (codes " (" ++ (inferred_type_text program (type_in program.interface f)
    ++ (codes ") (" ++ (body_text program f ++ codes ")")))))))))
    ≡ on_a_line (function_at program f public)
line_read program f public =
    ap (λ (text : List ℕ). codes "\nFunc " ++ (entity_text (function_entity program f) ++ (codes " "
    ++ (decimal (arity program (head.Fun f)) ++ (codes " " ++ (visibility_text public ++ (codes " (" ++ text)))))))
    (sym (append_assoc (inferred_type_text program (type_in program.interface f)) (codes ")") (codes " (" ++ (body_text program f ++ codes ")"))))

-- what is left after the type of a function
pub lines_after_type : (program : Lowered) (m : ℕ) (old first second third : List Line) (closes opens : Line) (f : FunId)
    → line_part program m closes ≡ codes ")" → line_part program m opens ≡ codes ") (" → first ≡ old ++ closes ∷ []
    → second ≡ first ++ line.Body f ∷ [] → third ≡ second ++ opens ∷ []
    → line_parts program m (reverse third) ≡ (codes ") (" ++ (body_text program f ++ codes ")")) ++ line_parts program m (reverse old)
lines_after_type program m old first second third closes opens f closing opening e g h =
    let rest = line_parts program m (reverse old) in
    let body = body_text program f in
    line_pushed program m second third opens h
    ∙ ap (λ (text : List ℕ). text ++ line_parts program m (reverse second)) opening
    ∙ ap (λ (text : List ℕ). codes ") (" ++ text)
    (line_pushed program m first second (line.Body f) g
    ∙ ap (λ (text : List ℕ). body ++ text) (line_pushed program m old first closes e ∙ ap (λ (text : List ℕ). text ++ rest) closing)
    ∙ sym (append_assoc body (codes ")") rest))
