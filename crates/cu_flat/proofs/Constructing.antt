-- Functions and constructors that are written in order: what was written, and what is left.
use Rattle.std.proofs.Common.{◌≡◌, ℕ, ◌+◌, ◌-◌, ◌^◌, ◌<◌, Bool, ◌&&◌, List, [], ◌∷◌, ◌++◌, IsTrue, drop, get_or, length, map, refl, ap, sym, subst, ◌∙◌, append-nil, append_assoc, arith}
use Rattle.std.specs.List.{list_all}
use Rattle.std.proofs.lemmas.Bool.{and_parts, ltb-true}
use Rattle.std.proofs.lemmas.List.{length-map}
use Rattle.std.proofs.lemmas.List.Folds.{list_all-append}
use Rattle.cu_calculus.specs.declared.ExprId.{ExprId}
use Rattle.cu_calculus.specs.declared.builtin.Special.{Special}
use Rattle.cu_calculus.specs.Code as code
use Rattle.cu_calculus.specs.Code.{Code, Expr}
use Rattle.cu_calculus.specs.Flat.{are_variables, is_flat, is_flat_body, is_flat_term}
use Rattle.cu_calculus.specs.FlatProgram as flat_program
use Rattle.cu_calculus.specs.Program as calculus
use Rattle.cu_calculus.specs.Program.{Body, Function, Program, Rule}
use Rattle.cu_calculus.specs.Valid.{IsValid, all_variables, is_arity, is_linear}
use Rattle.cu_calculus.specs.WellFormed.{is_well_formed}
use Rattle.cu_kernel.proofs.Loops.{left}
use Rattle.cu_kernel.specs.Kernel as kernel
use Rattle.cu_kernel.specs.Kernel.{Kernel, constructors_from, constructors_of, plain_function, program_of}
use Rattle.cu_kernel.specs.KernelOf.{constructor_meaning, type_meaning}
use Rattle.cu_kernel.specs.TypesOf.{type_of}
use Rattle.cu_kernel.specs.declared.declarations.Constructor.{Constructor}
use Rattle.cu_kernel.specs.declared.declarations.DataType.{DataType}
use Rattle.cu_flat.specs.Inside.Laid.{AreFunctionsLaid, IsBodyLaid, IsLaid}
use Rattle.cu_flat.specs.Layout.{body_at, body_layout, body_size, expressions_from, functions_from, laid_out, layout, place}
use Rattle.cu_flat.proofs.LaidProgram.{laid-same, laid-well_formed}
use Rattle.cu_flat.proofs.Laying.{next-begins}
use Rattle.cu_flat.proofs.Lengths.{length-body}

-- ---- constructors

abbrev pub fit_arities : List calculus.Constructor → Bool
fit_arities cs = list_all (λ c. is_arity c.arity) cs

-- the next constructor of a type
pub next-constructor : (n : ℕ) (cs : List Constructor) (i : ℕ) (c : Constructor) → i < length cs → c ≡ get_or cs i c
    → IsTrue (fit_arities (constructors_of n (map constructor_meaning (drop i cs))))
    → (length c.fields.items < 2 ^ 32) × IsTrue (fit_arities (constructors_of n (map constructor_meaning (drop (i + 1) cs))))
next-constructor n cs i c below is h =
    let others = constructors_of n (map constructor_meaning (drop (i + 1) cs)) in
    let parts = and_parts (is_arity (length (map type_of c.fields.items))) (fit_arities others)
    (subst (λ (ds : List Constructor). IsTrue (fit_arities (constructors_of n (map constructor_meaning ds)))) (left cs i c below is) h) in
    let small = ltb-true (length (map type_of c.fields.items)) (2 ^ 32 - 1) parts.0 in
    (omega (arith, small, length-map c.fields.items type_of), parts.1)

-- the next type
pub next-type : (ts : List DataType) (i : ℕ) (t : DataType) → i < length ts → t ≡ get_or ts i t
    → IsTrue (fit_arities (constructors_from i (map type_meaning (drop i ts))))
    → IsTrue (fit_arities (constructors_of i (map constructor_meaning t.constructors.items)))
    × IsTrue (fit_arities (constructors_from (i + 1) (map type_meaning (drop (i + 1) ts))))
next-type ts i t below is h =
    let mine = constructors_of i (map constructor_meaning t.constructors.items) in
    let others = constructors_from (i + 1) (map type_meaning (drop (i + 1) ts)) in
    and_parts (fit_arities mine) (fit_arities others)
    (sym (list_all-append (λ c. is_arity c.arity) mine others)
    ∙ subst (λ (us : List DataType). IsTrue (fit_arities (constructors_from i (map type_meaning us)))) (left ts i t below is) h)

-- ---- functions

-- a rule over its parameters, which are variables
pub rule-laid : (rule : Rule) (old new : List Expr) (params used : List ℕ) (e : ExprId) → params ≡ all_variables rule.params
    → IsLaid params rule.body old new e used → IsBodyLaid (calculus.Rules (rule ∷ [])) old new (code.Rule params e)
rule-laid rule old new params used e is laid = record {
  body_of = two params (all_variables rule.params) e (place (length old) rule.body) is laid.place;
  written = laid.written ∙ ap (λ xs. old ++ layout (length old) xs rule.body) is;
}
  where
    two : (xs ys : List ℕ) (a b : ExprId) → xs ≡ ys → a ≡ b → code.Rule xs a ≡ code.Rule ys b
    two xs ys a b p q = rw (p, q) refl

-- the parts of a rule of a flat program
pub rule-flat : (rule : Rule) → IsTrue (is_flat_body (calculus.Rules (rule ∷ []))) → IsTrue (are_variables rule.params) × IsTrue (is_flat_term rule.body)
rule-flat rule h =
    let parts = and_parts (are_variables rule.params && is_linear (all_variables rule.params)) (is_flat_term rule.body) h in
    ((and_parts (are_variables rule.params) (is_linear (all_variables rule.params)) parts.0).0, parts.1)

-- What was laid out of some functions, and those that are left: they are flat, and all together
-- come to what all come to.
pub record FunctionsLeft (fs rest : List Function) (old new : List Expr) (made : List code.Function) : Type 0 where
  pub flat : IsTrue (list_all (λ f. is_flat_body f.body) rest)
  pub all : made ++ functions_from (length new) rest ≡ functions_from (length old) fs
  pub written : new ++ expressions_from (length new) rest ≡ old ++ expressions_from (length old) fs

pub FunctionsLeft-start : (fs : List Function) (old : List Expr) → IsTrue (list_all (λ f. is_flat_body f.body) fs) → FunctionsLeft fs fs old old []
FunctionsLeft-start fs old plain = record { flat = plain; all = refl; written = refl }

pub FunctionsLeft-flat : (fs rest : List Function) (f : Function) (others : List Function) (old new : List Expr) (made : List code.Function)
    → rest ≡ f ∷ others → FunctionsLeft fs rest old new made → IsTrue (is_flat_body f.body)
FunctionsLeft-flat fs rest f others old new made is left =
    (and_parts (is_flat_body f.body) (list_all (λ g. is_flat_body g.body) others)
    (subst (λ (r : List Function). IsTrue (list_all (λ g. is_flat_body g.body) r)) is left.flat)).0

pub FunctionsLeft-more : (fs rest : List Function) (f : Function) (others : List Function) (old new newer : List Expr) (made more : List code.Function)
    (body : code.Body) → rest ≡ f ∷ others → FunctionsLeft fs rest old new made → IsBodyLaid f.body new newer body
    → more ≡ made ++ record { arity = f.arity; body = body } ∷ [] → FunctionsLeft fs others old newer more
FunctionsLeft-more fs rest f others old new newer made more body is left laid is_more =
    let n = length new in
    let xs = body_layout n f.body in
    let next : length newer ≡ n + body_size f.body = next-begins new newer xs (body_size f.body) laid.written (length-body n f.body) in
    record {
      flat = (and_parts (is_flat_body f.body) (list_all (λ g. is_flat_body g.body) others)
          (subst (λ (r : List Function). IsTrue (list_all (λ g. is_flat_body g.body) r)) is left.flat)).1;
      all = ap (λ (gs : List code.Function). gs ++ functions_from (length newer) others) is_more
          ∙ append_assoc made (record { arity = f.arity; body = body } ∷ []) (functions_from (length newer) others)
          ∙ ap (λ (b : code.Body). made ++ record { arity = f.arity; body = b } ∷ functions_from (length newer) others) laid.body_of
          ∙ ap (λ k. made ++ record { arity = f.arity; body = body_at n f.body } ∷ functions_from k others) next
          ∙ sym (ap (λ r. made ++ functions_from n r) is) ∙ left.all;
      written = ap (λ (es : List Expr). es ++ expressions_from (length newer) others) laid.written
          ∙ append_assoc new xs (expressions_from (length newer) others)
          ∙ ap (λ k. new ++ (xs ++ expressions_from k others)) next
          ∙ sym (ap (λ r. new ++ expressions_from n r) is) ∙ left.written;
    }

pub FunctionsLeft-all : (fs rest : List Function) (old new : List Expr) (made : List code.Function) → rest ≡ []
    → FunctionsLeft fs rest old new made → AreFunctionsLaid fs old new made
FunctionsLeft-all fs rest old new made is left = record {
  functions = sym (append-nil made) ∙ sym (ap (λ r. made ++ functions_from (length new) r) is) ∙ left.all;
  written = sym (append-nil new) ∙ sym (ap (λ r. new ++ expressions_from (length new) r) is) ∙ left.written;
}

-- ---- programs

-- what was written for the parts of a program is its code
pub program-laid : (parts : Kernel) (fs : List kernel.Function) (types : List kernel.DataType) (functions : List code.Function)
    (constructors : List calculus.Constructor) (special : Special) (old new : List Expr)
    → fs ≡ parts.functions → old ≡ [] → AreFunctionsLaid (map plain_function fs) old new functions
    → types ≡ parts.types → constructors ≡ constructors_from 0 types → special ≡ parts.special
    → ◌≡◌ {A = Code} (record { functions = functions; constructors = constructors; special = special; expressions = new }) (laid_out (program_of parts))
unfolding program_of
program-laid parts fs types functions constructors special old new is_functions is_old laid is_types is_constructors is_special =
    let there : AreFunctionsLaid (map plain_function parts.functions) [] new functions =
    subst (λ (gs : List kernel.Function). AreFunctionsLaid (map plain_function gs) [] new functions) is_functions
    (subst (λ (es : List Expr). AreFunctionsLaid (map plain_function fs) es new functions) is_old laid) in
    rw (there.functions, is_constructors, is_types, is_special, there.written) refl

-- the code of a valid flat program is well-formed, and is the code of that program
pub laid-fits : (program : Program) (code : Code) → code ≡ laid_out program → IsValid program → IsTrue (is_flat program) → IsTrue (is_well_formed code)
laid-fits program code is valid flat = subst (λ (c : Code). IsTrue (is_well_formed c)) (sym is) (laid-well_formed program valid flat)

pub laid-program : (program : Program) (code : Code) → code ≡ laid_out program → IsValid program → IsTrue (is_flat program)
    → flat_program.program_of code ≡ program
laid-program program code is valid flat = ap flat_program.program_of is ∙ laid-same program valid flat
