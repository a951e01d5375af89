-- A goal's function has a rule in the code of its flat program.
use Rattle.std.proofs.Common.{◌≡◌, ℕ, zero, suc, ◌+◌, true, true≢false, List, [], ◌∷◌, length, nat_eq, option_map, Option, None, Some, Result, Ok, refl, ap, sym, ◌∙◌, subst, arith, slice_get}
use Rattle.std.proofs.lemmas.Bool.{and_parts}
use Rattle.std.proofs.lemmas.Option.{slice_get-map}
use Rattle.cu_calculus.specs.Code as code
use Rattle.cu_calculus.specs.Code.{body_of, is_rule}
use Rattle.cu_calculus.specs.Program.{Body, Function, Program, Rule, Rules}
use Rattle.cu_calculus.specs.declared.FunId.{FunId}
use Rattle.cu_deftree.specs.Lowering.{variables}
use Rattle.cu_deftree.specs.LoweredProgram as lowered
use Rattle.cu_deftree.specs.LoweredProgram.{Flattens, FunctionLowers, Lowering}
use Rattle.cu_flat.specs.Layout.{body_at, body_size, functions_from, laid_out}
use Rattle.cu_kernel.specs.Kernel as kernel
use Rattle.cu_kernel.specs.Kernel.{Goal, Kernel, plain_function, program_of}
use Rattle.cu_kernel.specs.Valid.{IsValid, fits_goal, has_rules, takes_names}

flattens_at : (program flat : Program) (r : Result Program FunId) → Lowering program r → r ≡ Ok flat → Flattens program flat
flattens_at program flat _ (lowered.flat made flattens small) e =
    let same : made ≡ flat = cc in subst (λ (p : Program). Flattens program p) same flattens
flattens_at program flat _ (lowered.too_big made f function flattens there big before) e = let no : ⊥ = cc in absurd no

pub flattens_of : (program flat : Program) → Lowering program (Ok flat) → Flattens program flat
flattens_of program flat low = flattens_at program flat (Ok flat) low refl

-- ---- the goal's function

-- a function that is there, with rules
record HasRules (found : Option kernel.Function) : Type 0 where
  function : kernel.Function
  is : found ≡ Some function
  rules : has_rules function.body ≡ true

rules_there : (names : ℕ) (found : Option kernel.Function) → takes_names names found ≡ true → HasRules found
rules_there names None h = absurd (true≢false (sym h))
rules_there names (Some f) h = record { function = f; is = refl; rules = (and_parts (nat_eq f.arity names) (has_rules f.body) h).1 }

-- the function at a place of the program of the calculus
plain_at : (program : Kernel) (k : ℕ) (function : kernel.Function) → slice_get program.functions k ≡ Some function
    → slice_get (program_of program).functions k ≡ Some (plain_function function)
unfolding program_of
plain_at program k function e = slice_get-map plain_function program.functions k ∙ ap (option_map plain_function) e

-- ---- its rule

-- lists of one length have the same places
also_there : (xs ys : List Function) (k : ℕ) (x : Function) → length ys ≡ length xs → slice_get xs k ≡ Some x
    → (y : Function) × (slice_get ys k ≡ Some y)
also_there [] ys k x e there = let no : ⊥ = cc in absurd no
also_there (z ∷ xs) [] k x e there = absurd (omega arith)
also_there (z ∷ xs) (y ∷ ys) zero x e there = (y, refl)
also_there (z ∷ xs) (y ∷ ys) (suc k) x e there = also_there xs ys k x (omega arith) there

-- a function with rules gets one rule
one_rule : (program : Program) (function made : Function) → has_rules function.body ≡ true → FunctionLowers program function made
    → (rule : Rule) × (made.body ≡ Rules (rule ∷ []))
one_rule program function _ rules (lowered.external operation made e same) = absurd (true≢false (sym rules ∙ ap has_rules e))
one_rule program function _ rules (lowered.by_tree others params t made e f tree same) =
    (record { params = variables params; body = t }, ap (λ (x : Function). x.body) same)

abbrev laid : ℕ → Function → code.Function
laid n f = record { arity = f.arity; body = body_at n f.body }

-- a function of a flat program, in its code
laid_at : (n k : ℕ) (fs : List Function) (f : Function) → slice_get fs k ≡ Some f → (m : ℕ) × (slice_get (functions_from n fs) k ≡ Some (laid m f))
laid_at n k [] f e = let no : ⊥ = cc in absurd no
laid_at n zero (g ∷ fs) f e =
    let same : g ≡ f = cc in
    (n, ap (λ (h : Function). Some (laid n h)) same)
laid_at n (suc k) (g ∷ fs) f e = laid_at (n + body_size g.body) k fs f e

pub goal_has_rule : (program : Kernel) (flat : Program) (goal : Goal) → IsValid program → Flattens (program_of program) flat → program.goal ≡ Some goal
    → is_rule (body_of (laid_out flat) goal.function) ≡ true
goal_has_rule program flat goal valid flattens is =
    let k = goal.function.0 in
    let fits : fits_goal program (Some goal) ≡ true = subst (λ (g : Option Goal). fits_goal program g ≡ true) is valid.goal in
    let has = rules_there (length goal.names) (slice_get program.functions k) fits in
    let plain = plain_at program k has.function has.is in
    let made = also_there (program_of program).functions flat.functions k (plain_function has.function) flattens.each plain in
    let rule = one_rule (program_of program) (plain_function has.function) made.0 has.rules
    (flattens.functions k (plain_function has.function) made.0 plain made.1) in
    let placed = laid_at 0 k flat.functions made.0 made.1 in
    ap (λ (o : Option code.Function). is_rule (elim o [ Some function ↦ Some function.body | None ↦ None ])) placed.1
    ∙ ap (λ (b : Body). is_rule (Some (body_at placed.0 b))) rule.1
