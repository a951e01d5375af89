-- The code of a valid flat program is well-formed, and is that program's.
use Rattle.std.proofs.Common.{◌≡◌, ◌≢◌, ℕ, zero, suc, ◌+◌, ◌≤◌, Bool, true, not, ◌&&◌, List, [], ◌∷◌, Option, None, Some, IsTrue, length, map, nat_eq, nat_lt, slice_get, option_map, refl, ap, sym, subst, ◌∙◌, arith}
use Rattle.std.specs.List.{list_all}
use Rattle.std.proofs.lemmas.Bool.{and_from, and_parts, eq-eqb, lt-ltb, ne_eqb, true≢false}
use Rattle.cu_calculus.specs.declared.ConId.{ConId}
use Rattle.cu_calculus.specs.declared.ExprId.{ExprId}
use Rattle.cu_calculus.specs.declared.Head.{Head}
use Rattle.cu_calculus.specs.declared.Head.TheVariants as head
use Rattle.cu_calculus.specs.declared.Mode.TheVariants.{Flex}
use Rattle.cu_calculus.specs.Code as code
use Rattle.cu_calculus.specs.Code.{Branch, Code, Expr, arity_of, body_of, expr_of}
use Rattle.cu_calculus.specs.Flat.{are_variables, is_flat, is_flat_body, is_flat_term}
use Rattle.cu_calculus.specs.FlatProgram.{body_in, function_in, program_of}
use Rattle.cu_calculus.specs.Program as calculus
use Rattle.cu_calculus.specs.Program.{Body, Function, Program, Rule, arity_in, function_of}
use Rattle.cu_calculus.specs.Shape.{takes}
use Rattle.cu_calculus.specs.Term as term
use Rattle.cu_calculus.specs.Term.{Alternatives, Patterns, Term}
use Rattle.cu_calculus.specs.Valid as valid
use Rattle.cu_calculus.specs.Valid.{HasSpecial, IsConjunction, IsValid, all_variables, by_case, by_rules, external_arity, fit_patterns, fits_term, holds, is_arity, is_linear, pattern_count}
use Rattle.cu_calculus.specs.WellFormed.{conjoins, conjoins_cases, fits, fits_body, fits_case, fits_function, has_special, is_constant, is_variable, is_well_formed, same_pattern}
use Rattle.cu_calculus.proofs.FlatFitting.{arity_kept, nat_eq_comm}
use Rattle.cu_calculus.proofs.Lists.{all_append, passed_at}
use Rattle.cu_flat.specs.Layout.{body_at, body_layout, body_size, branches, expressions_from, functions_from, kept_of, laid_out, layout, place, size}
use Rattle.cu_flat.proofs.LaidTerms.{HasHeads, laid-term, length-variables, variables-all_any}
use Rattle.cu_flat.proofs.Lengths.{Stands, Stands-all, Stands-left, Stands-right, length-body, length-layout}
use Rattle.cu_flat.proofs.Scopes.{uses-may}

-- ---- functions

one-rule : (params : Patterns) (body : Term) (rule : Rule) → params ≡ rule.params → body ≡ rule.body
    → calculus.Rules (record { params = params; body = body } ∷ []) ≡ calculus.Rules (rule ∷ [])
one-rule params body rule p q = rw (p, q) refl

same-function : (arity : ℕ) (body : Body) (f : Function) → arity ≡ f.arity → body ≡ f.body
    → ◌≡◌ {A = Function} (record { arity = arity; body = body }) f
same-function arity body f p q = rw (p, q) refl

next-function : (f g : Function) (fs gs : List Function) → f ≡ g → fs ≡ gs → f ∷ fs ≡ g ∷ gs
next-function f g fs gs p q = rw (p, q) refl

module _ (program : Code) (of : Program) (heads : HasHeads program of) where
  record BodyLaid (n arity : ℕ) (body : Body) : Type 0 where
    fitting : IsTrue (fits_body program arity (body_at n body))
    same : body_in program (body_at n body) ≡ body
    cases : IsTrue (list_all (fits_case program) (body_layout n body))

  laid-rule : (n arity : ℕ) (rule : Rule) → IsTrue (valid.fits_rule of arity rule)
      → IsTrue (are_variables rule.params && is_linear (all_variables rule.params) && is_flat_term rule.body)
      → Stands program.expressions n (layout n (all_variables rule.params) rule.body) → BodyLaid n arity (calculus.Rules (rule ∷ []))
  laid-rule n arity rule fit plain stands =
      let params = all_variables rule.params in
      let may : ℕ → Bool = λ x. holds x params in
      let depth = length program.expressions in
      let count = nat_eq (pattern_count rule.params) arity in
      let prefix = count && fit_patterns of rule.params && is_linear params in
      let parts = and_parts prefix (fits_term of may rule.body) fit in
      let counted = (and_parts count (fit_patterns of rule.params) (and_parts (count && fit_patterns of rule.params) (is_linear params) parts.0).0).0 in
      let plains = and_parts (are_variables rule.params && is_linear params) (is_flat_term rule.body) plain in
      let variables = and_parts (are_variables rule.params) (is_linear params) plains.0 in
      let term = laid-term program of heads may params n rule.body plains.1 parts.1 variables.1
      (λ y h. uses-may of may rule.body y parts.1 h) stands in
      let deep : size rule.body ≤ depth = omega (arith, stands.inside, length-layout n params rule.body) in
      let as_many : IsTrue (nat_eq (length params) arity) = rw (length-variables rule.params variables.0) counted in
      record {
        fitting = and_from (nat_eq (length params) arity && is_linear params) (fits depth program params (place n rule.body))
            (and_from (nat_eq (length params) arity) (is_linear params) as_many variables.1) (term.fitting depth params deep (λ y h. uses-may of may rule.body y parts.1 h));
        same = one-rule _ _ rule (variables-all_any rule.params variables.0) (term.same depth deep);
        cases = term.cases;
      }

  laid-body : (n arity : ℕ) (body : Body) → IsTrue (valid.fits_body of arity body) → IsTrue (is_flat_body body)
      → Stands program.expressions n (body_layout n body) → BodyLaid n arity body
  laid-body n arity (calculus.External operation) fit plain stands = record {
    fitting = nat_eq_comm (external_arity operation) arity ∙ fit;
    same = refl;
    cases = refl;
  }
  laid-body n arity (calculus.Rules (rule ∷ [])) fit plain stands =
      laid-rule n arity rule (and_parts (valid.fits_rule of arity rule) true fit).0 plain stands
  laid-body n arity (calculus.Rules []) fit plain stands = absurd (true≢false (sym plain))
  laid-body n arity (calculus.Rules (rule ∷ other ∷ rules)) fit plain stands = absurd (true≢false (sym plain))

  record FunctionsLaid (n : ℕ) (fs : List Function) : Type 0 where
    pub fitting : IsTrue (list_all (fits_function program) (functions_from n fs))
    pub same : map (function_in program) (functions_from n fs) ≡ fs
    pub cases : IsTrue (list_all (fits_case program) (expressions_from n fs))

  laid-functions : (n : ℕ) (fs : List Function) → IsTrue (list_all (valid.fits_function of) fs)
      → IsTrue (list_all (λ function. is_flat_body function.body) fs) → Stands program.expressions n (expressions_from n fs) → FunctionsLaid n fs
  laid-functions n [] fit plain stands = record { fitting = refl; same = refl; cases = refl }
  laid-functions n (f ∷ fs) fit plain stands =
      let m = n + body_size f.body in
      let xs = body_layout n f.body in
      let ys = expressions_from m fs in
      let fits_all = and_parts (valid.fits_function of f) (list_all (valid.fits_function of) fs) fit in
      let fits_one = and_parts (is_arity f.arity) (valid.fits_body of f.arity f.body) fits_all.0 in
      let plains = and_parts (is_flat_body f.body) (list_all (λ function. is_flat_body function.body) fs) plain in
      let body = laid-body n f.arity f.body fits_one.1 plains.0 (Stands-left program.expressions n xs ys stands) in
      let others = laid-functions m fs fits_all.1 plains.1 (Stands-right program.expressions n (body_size f.body) xs ys stands (length-body n f.body)) in
      let here : code.Function = record { arity = f.arity; body = body_at n f.body } in
      record {
        fitting = and_from (fits_function program here) (list_all (fits_function program) (functions_from m fs))
            (and_from (is_arity f.arity) (fits_body program f.arity (body_at n f.body)) fits_one.0 body.fitting) others.fitting;
        same = next-function _ f _ fs (same-function f.arity _ f refl body.same) others.same;
        cases = all_append (fits_case program) xs ys body.cases others.cases;
      }

-- ---- heads

arity-get : (n : ℕ) (fs : List Function) (k : ℕ)
    → ◌≡◌ {A = Option ℕ} (elim (slice_get (functions_from n fs) k) [ Some function ↦ Some function.arity | None ↦ None ])
    (option_map (λ function. function.arity) (slice_get fs k))
arity-get n [] k = refl
arity-get n (f ∷ fs) zero = refl
arity-get n (f ∷ fs) (suc k) = arity-get (n + body_size f.body) fs k

laid-heads : (of : Program) → HasHeads (laid_out of) of
laid-heads of = record { arities = arities; sets = refl }
  where
    arities : (h : Head) → arity_of (laid_out of) h ≡ arity_in of h
    arities (head.Fun f) = arity-get 0 of.functions f.0
    arities (head.Con c) = sym (arity_kept (laid_out of) (head.Con c))
    arities (head.Set f) = arity-get 0 of.functions f.0

-- ---- the conjunction

-- a function, and where its body's expressions stand
record Found (es : List Expr) (functions : List code.Function) (k : ℕ) (f : Function) : Type 0 where
  start : ℕ
  there : slice_get functions k ≡ Some (record { arity = f.arity; body = body_at start f.body })
  stands : Stands es start (body_layout start f.body)

find-function : (es : List Expr) (n : ℕ) (fs : List Function) (k : ℕ) (f : Function) → slice_get fs k ≡ Some f
    → Stands es n (expressions_from n fs) → Found es (functions_from n fs) k f
find-function es n [] k f is stands = let no : ⊥ = cc in absurd no
find-function es n (g ∷ fs) zero f is stands =
    let same : g ≡ f = cc in
    subst (λ (h : Function). Found es (functions_from n (g ∷ fs)) 0 h) same
    (record {
      start = n;
      there = refl;
      stands = Stands-left es n (body_layout n g.body) (expressions_from (n + body_size g.body) fs) stands;
    })
find-function es n (g ∷ fs) (suc k) f is stands =
    let m = n + body_size g.body in
    let found = find-function es m fs k f is
    (Stands-right es n (body_size g.body) (body_layout n g.body) (expressions_from m fs) stands (length-body n g.body)) in
    record { start = found.start; there = found.there; stands = found.stands }

five : (a b c d e : Bool) → IsTrue a → IsTrue b → IsTrue c → IsTrue d → IsTrue e → IsTrue (a && b && c && d && e)
five a b c d e p q r s t = rw (p, q, r, s, t) refl

-- the case distinction of `&&`, by its expressions
cases-there : (program : Code) (x y : ℕ) (kept : List ℕ) (a b c : ExprId)
    → expr_of program a ≡ Some (code.Variable x) → expr_of program b ≡ Some (code.Whole (head.Con program.special.falsity) [])
    → expr_of program c ≡ Some (code.Variable y)
    → IsTrue (conjoins_cases program x y (Some (code.Case Flex kept a
    (record { pattern = code.Built program.special.falsity []; body = b } ∷ record { pattern = code.Built program.special.truth []; body = c } ∷ []))))
cases-there program x y kept a b c is_a is_b is_c =
    let falsity = program.special.falsity in
    let truth = program.special.truth in
    five (is_variable x (expr_of program a)) (same_pattern (code.Built falsity []) (code.Built falsity [])) (is_constant falsity (expr_of program b))
    (same_pattern (code.Built truth []) (code.Built truth [])) (is_variable y (expr_of program c))
    (ap (is_variable x) is_a ∙ eq-eqb x x refl) (eq-eqb falsity.0 falsity.0 refl) (ap (is_constant falsity) is_b ∙ eq-eqb falsity.0 falsity.0 refl)
    (eq-eqb truth.0 truth.0 refl) (ap (is_variable y) is_c ∙ eq-eqb y y refl)

-- the rule of `&&` in a flat program
abbrev conjunction_rows : Code → ℕ → Alternatives
conjunction_rows program y =
    term.MoreAlternatives (term.Built program.special.falsity term.NoPattern) (term.Whole (head.Con program.special.falsity) term.NoTerm)
    (term.MoreAlternatives (term.Built program.special.truth term.NoPattern) (term.Variable y) term.NoAlternative)

abbrev conjunction_rule : Code → ℕ → ℕ → Rule
conjunction_rule program x y = record {
  params = term.MorePatterns (term.Any x) (term.MorePatterns (term.Any y) term.NoPattern);
  body = term.Case Flex (term.Variable x) (conjunction_rows program y);
}

rule-conjoins : (program : Code) (n x y : ℕ) → x ≢ y → Stands program.expressions n (body_layout n (calculus.Rules (conjunction_rule program x y ∷ [])))
    → IsTrue (conjoins program (Some (body_at n (calculus.Rules (conjunction_rule program x y ∷ [])))))
rule-conjoins program n x y other stands =
    let es = program.expressions in
    let e = place n (conjunction_rule program x y).body in
    let kept = kept_of (x ∷ y ∷ []) (conjunction_rows program y) in
    let case = code.Case Flex kept (record { 0 = n + 0 }) (branches (n + 1) (conjunction_rows program y)) in
    let first : expr_of program (record { 0 = n + 0 }) ≡ Some (code.Variable x) = stands.at 0 (code.Variable x) refl in
    let second : expr_of program (record { 0 = n + 1 + 0 }) ≡ Some (code.Whole (head.Con program.special.falsity) []) =
    ap (slice_get es) (omega arith) ∙ stands.at 1 (code.Whole (head.Con program.special.falsity) []) refl in
    let third : expr_of program (record { 0 = n + 1 + 1 + 0 }) ≡ Some (code.Variable y) =
    ap (slice_get es) (omega arith) ∙ stands.at 2 (code.Variable y) refl in
    and_from (not (nat_eq x y)) (conjoins_cases program x y (expr_of program e)) (ap not (ne_eqb x y other))
    (ap (conjoins_cases program x y) (stands.at 3 case refl) ∙ cases-there program x y kept (record { 0 = n + 0 }) (record { 0 = n + 1 + 0 })
    (record { 0 = n + 1 + 1 + 0 }) first second third)

body-conjoins : (program : Code) (n : ℕ) (body : Body) → IsConjunction program.special body → IsTrue (is_flat_body body)
    → Stands program.expressions n (body_layout n body) → IsTrue (conjoins program (Some (body_at n body)))
body-conjoins program n _ (by_rules body x y is) plain stands = absurd (true≢false (sym (sym (ap is_flat_body is) ∙ plain)))
body-conjoins program n _ (by_case body x y other is) plain stands =
    subst (λ (b : Body). IsTrue (conjoins program (Some (body_at n b)))) (sym is)
    (rule-conjoins program n x y other (subst (λ (b : Body). Stands program.expressions n (body_layout n b)) is stands))

-- ---- the built-in entities

values-there : (program : Code) (of : Program) → HasHeads program of → (o : Option ConId) → ((c : ConId) → o ≡ Some c → arity_in of (head.Con c) ≡ Some 1)
    → elim o [ Some c ↦ takes (arity_of program (head.Con c)) 1 | None ↦ true ] ≡ true
values-there program of heads None h = refl
values-there program of heads (Some c) h = ap (λ o. takes o 1) (heads.arities (head.Con c) ∙ h c refl)

eight : (a b c d e f g h : Bool) → IsTrue a → IsTrue b → IsTrue c → IsTrue d → IsTrue e → IsTrue f → IsTrue g → IsTrue h
    → IsTrue (a && b && c && d && e && f && g && h)
eight a b c d e f g h p q r s t u v w = rw (p, q, r, s, t, u, v, w) refl

special-there : (of : Program) → IsValid of → IsTrue (is_flat of) → IsTrue (has_special (laid_out of))
special-there of sound plain =
    let program = laid_out of in
    let heads = laid-heads of in
    let special = of.special in
    let s = sound.special in
    let con : ConId → ℕ → Bool = λ c n. takes (arity_of program (head.Con c)) n in
    let known : (c : ConId) (n : ℕ) → arity_in of (head.Con c) ≡ Some n → IsTrue (con c n) =
    λ c n is. ap (λ o. takes o n) (heads.arities (head.Con c) ∙ is) ∙ eq-eqb n n refl in
    let function = s.both.0 in
    let found = find-function program.expressions 0 of.functions special.both.0 function s.both.1 (Stands-all program.expressions) in
    let flat : IsTrue (is_flat_body function.body) =
    passed_at (λ f. is_flat_body f.body) of.functions special.both.0 function plain s.both.1 in
    let body : body_of program special.both ≡ Some (body_at found.start function.body) =
    ap (λ o. elim o [ Some f ↦ Some f.body | None ↦ None ]) found.there in
    eight (con special.falsity 0) (con special.truth 0) (nat_lt special.falsity.0 special.truth.0) (con special.nil 0) (con special.cons 2)
    (conjoins program (body_of program special.both)) (takes (arity_of program (head.Fun special.both)) 2)
    (elim special.values [ Some c ↦ takes (arity_of program (head.Con c)) 1 | None ↦ true ])
    (known special.falsity 0 s.falsity) (known special.truth 0 s.truth) (lt-ltb special.falsity.0 special.truth.0 s.ordered)
    (known special.nil 0 s.nil) (known special.cons 2 s.cons)
    (ap (conjoins program) body ∙ body-conjoins program found.start function.body s.both.3 flat found.stands)
    (ap (λ o. takes o 2) (heads.arities (head.Fun special.both) ∙ ap (option_map (λ f. f.arity)) s.both.1 ∙ ap Some s.both.2))
    (values-there program of heads special.values s.values)

-- ---- programs

all-laid : (of : Program) → IsValid of → IsTrue (is_flat of) → FunctionsLaid (laid_out of) of (laid-heads of) 0 of.functions
all-laid of sound plain =
    laid-functions (laid_out of) of (laid-heads of) 0 of.functions sound.functions plain (Stands-all (laid_out of).expressions)

pub laid-well_formed : (of : Program) → IsValid of → IsTrue (is_flat of) → IsTrue (is_well_formed (laid_out of))
laid-well_formed of sound plain =
    let program = laid_out of in
    let all = all-laid of sound plain in
    let constructors = list_all (λ constructor. is_arity constructor.arity) program.constructors in
    let functions = list_all (fits_function program) program.functions in
    let cases = list_all (fits_case program) program.expressions in
    and_from (constructors && functions && cases) (has_special program)
    (and_from (constructors && functions) cases (and_from constructors functions sound.constructors all.fitting) all.cases)
    (special-there of sound plain)

with-functions : (of : Program) (fs : List Function) → fs ≡ of.functions
    → ◌≡◌ {A = Program} (record { functions = fs; constructors = of.constructors; special = of.special }) of
with-functions of fs is = rw is refl

pub laid-same : (of : Program) → IsValid of → IsTrue (is_flat of) → program_of (laid_out of) ≡ of
laid-same of sound plain = with-functions of _ (all-laid of sound plain).same
