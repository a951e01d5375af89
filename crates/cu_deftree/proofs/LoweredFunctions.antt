-- Functions, one after the other.
use Rattle.std.proofs.Common.{Bool, true, false, true≢false, Option, None, IsTrue, ◌↔◌, ◌≡◌, ◌<◌, ◌≤◌, ◌+◌, ◌∷◌, ◌++◌, [], List, ℕ, ◌⊎◌, inl, inr, arith, ap, ap₂, sym, ◌∙◌, refl, subst, length, map, suc, zero}
use Rattle.std.specs.Prelude.{◌≢◌, IsErrAnd, Result, Some, Err, Ok, slice_get}
use Rattle.std.proofs.lemmas.List.{length-append, length-map, map-append}
use Rattle.std.specs.Option.{is_some}
use Rattle.std.proofs.lemmas.Bool.{cases_order}
use Rattle.std.proofs.lemmas.Option.{slice_get_within}
use Rattle.cu_calculus.specs.Program as calculus
use Rattle.cu_calculus.specs.Program.{External, Rules}
use Rattle.cu_calculus.specs.Term.{Term}
use Rattle.cu_calculus.specs.declared.FunId.{FunId}
use Rattle.cu_calculus.specs.declared.builtin.Primitive.{Primitive}
use Rattle.cu_calculus.specs.declared.builtin.Primitive.TheVariants as prim
use Rattle.cu_calculus.specs.Valid as valid
use Rattle.cu_calculus.proofs.Lists.{get_map}
use Rattle.cu_deftree.specs.Inside.Functions.{AreLowered, IsFirstTooBig, IsFound, IsLowered, IsOnlyRule, IsTooBig, LowersFunction, LowersRules, RulesTree}
use Rattle.cu_deftree.specs.Inside.RowsOf.{all_rows}
use Rattle.cu_deftree.specs.Inside.Tasks.{Within}
use Rattle.cu_deftree.specs.declared.rows.Row as code
use Rattle.cu_deftree.specs.declared.tasks.Stop.{Stop}
use Rattle.cu_deftree.specs.declared.tasks.Stop.TheVariants as stop
use Rattle.cu_deftree.specs.Lowering.{HasOperations, IsOperation, Tree, variables}
use Rattle.cu_deftree.specs.LoweredProgram.{Flattens, FunctionLowers, Lowering, body_size, most_expressions, size}
use Rattle.cu_deftree.specs.LoweredProgram as lowered
use Rattle.cu_deftree.specs.Rows.{Row, numbers, row_of_rule}
use Rattle.cu_deftree.proofs.Lowerable.{flat_exists}
use Rattle.cu_deftree.proofs.OneTree.{function_one}
use Rattle.cu_kernel.specs.declared.term.Body as stored_body
use Rattle.cu_kernel.specs.declared.term.Body.TheVariants as bodies
use Rattle.cu_kernel.specs.declared.term.Function as stored
use Rattle.std.specs.declared.alloc.Global.{Global}
use Rattle.std.specs.declared.vec.Vec.{Vec}
use Rattle.cu_kernel.specs.KernelOf.{body_meaning, function_meaning, rule_meaning}
use Rattle.cu_kernel.specs.TermsOf.{patterns_of, term_of}
use Rattle.cu_kernel.specs.declared.term.Rule as stored_rule
use Rattle.cu_kernel.specs.declared.term.Term as stored_term
use Rattle.cu_kernel.specs.Kernel.{Function, plain_function}

-- ---- lists

-- what holds of each element holds of each where one more is after them
pub pushed_at : {X : Type 0} (P : ℕ → X → Type 0) (xs : List X) (x : X) → ((k : ℕ) (y : X) → slice_get xs k ≡ Some y → P k y)
    → P (length xs) x → (k : ℕ) (y : X) → slice_get (xs ++ x ∷ []) k ≡ Some y → P k y
pushed_at {X} P [] x h p zero y e = let same : x ≡ y = cc in subst (λ (z : X). P 0 z) same p
pushed_at P [] x h p (suc k) y e = let no : ⊥ = cc in absurd no
pushed_at P (z ∷ xs) x h p zero y e = h 0 y e
pushed_at P (z ∷ xs) x h p (suc k) y e = pushed_at (λ n. P (suc n)) xs x (λ n. h (suc n)) p k y e

-- what stands at a place of a list that is as long
pub at_too : {X Y : Type 0} (xs : List X) (ys : List Y) (k : ℕ) (x : X) → length xs ≡ length ys → slice_get xs k ≡ Some x
    → (y : Y) × (slice_get ys k ≡ Some y)
at_too [] ys k x e h = let no : ⊥ = cc in absurd no
at_too (z ∷ xs) [] k x e h = absurd (omega arith)
at_too (z ∷ xs) (y ∷ ys) zero x e h = (y, refl)
at_too (z ∷ xs) (y ∷ ys) (suc k) x e h = at_too xs ys k x (omega arith) h

-- what stands at a place of a list under a function
pub mapped_at : {X Y : Type 0} (f : X → Y) (xs : List X) (k : ℕ) (y : Y) → slice_get (map f xs) k ≡ Some y
    → (x : X) × (slice_get xs k ≡ Some x) × (f x ≡ y)
mapped_at f [] k y e = let no : ⊥ = cc in absurd no
mapped_at f (x ∷ xs) zero y e = let same : f x ≡ y = cc in (x, refl, same)
mapped_at f (x ∷ xs) (suc k) y e = mapped_at f xs k y e

-- a place within a list that is as long
pub at_within : {X : Type 0} (xs : List X) (k n : ℕ) → n ≡ length xs → k < n → (x : X) × (slice_get xs k ≡ Some x)
at_within [] k n e l = absurd (omega arith)
at_within (x ∷ xs) zero n e l = (x, refl)
at_within (x ∷ xs) (suc k) n e l = at_within xs k (length xs) refl (omega arith)

-- ---- the rules of one function

-- the rows that the code starts with, and their positions
pub record AreRulesRows (arity : ℕ) (rules : List calculus.Rule) (positions : List ℕ) (next : ℕ) (rows : List code.Row) : Type 0 where
  pub positions_are : positions ≡ numbers 1 arity
  pub after : next ≡ suc arity
  pub rows_are : all_rows rows ≡ map (row_of_rule (numbers 1 arity)) rules

pub start : (arity : ℕ) (rules : List calculus.Rule) (items positions : List ℕ) (next : ℕ) (made rows : List code.Row)
    → (items ≡ numbers 1 arity) × (next ≡ 1 + arity) → positions ≡ items → all_rows made ≡ map (row_of_rule positions) rules → rows ≡ made
    → AreRulesRows arity rules positions next rows
start arity rules items positions next made rows is same e equal = record {
  positions_are = same ∙ is.0;
  after = let n = is.1 in omega (arith, n);
  rows_are = ap all_rows equal ∙ e ∙ ap (λ (xs : List ℕ). map (row_of_rule xs) rules) (same ∙ is.0);
}

pub to_rules : (program : calculus.Program) (arity : ℕ) (rules : List calculus.Rule) (positions : List ℕ) (next : ℕ) (rows : List code.Row) (t : Term)
    → AreRulesRows arity rules positions next rows → Tree program positions next (all_rows rows) t → RulesTree program arity rules t
to_rules program arity rules positions next rows t are tree =
    subst (λ (rs : List Row). Tree program (numbers 1 arity) (suc arity) rs t) are.rows_are
    (subst (λ (n : ℕ). Tree program (numbers 1 arity) n (all_rows rows) t) are.after
    (subst (λ (xs : List ℕ). Tree program xs next (all_rows rows) t) are.positions_are tree))

pub from_rules : (program : calculus.Program) (arity : ℕ) (rules : List calculus.Rule) (positions : List ℕ) (next : ℕ) (rows : List code.Row) (t : Term)
    → AreRulesRows arity rules positions next rows → RulesTree program arity rules t → Tree program positions next (all_rows rows) t
from_rules program arity rules positions next rows t are tree =
    subst (λ (xs : List ℕ). Tree program xs next (all_rows rows) t) (sym are.positions_are)
    (subst (λ (n : ℕ). Tree program (numbers 1 arity) n (all_rows rows) t) (sym are.after)
    (subst (λ (rs : List Row). Tree program (numbers 1 arity) (suc arity) rs t) (sym are.rows_are) tree))

pub rules_stop : (program : calculus.Program) (arity : ℕ) (rules : List calculus.Rule) (positions : List ℕ) (next : ℕ) (rows : List code.Row) (old new : ℕ)
    (r : Result stored_rule.Rule Stop) (e : Stop) → AreRulesRows arity rules positions next rows → old ≡ most_expressions → IsErrAnd r (λ g. g ≡ e)
    → Within {A = stored_term.Term} {B = Term} term_of size (λ t. Tree program positions next (all_rows rows) t) old new (Err e)
    → LowersRules program arity rules r
rules_stop program arity rules positions next rows old new (Ok x) e are all is h = absurd is
rules_stop program arity rules positions next rows old new (Err g) e are all is h =
    subst (λ (s : Stop). LowersRules program arity rules (Err s)) (sym is) (stops e h)
  where
    stops : (s : Stop) → Within {A = stored_term.Term} {B = Term} term_of size (λ t. Tree program positions next (all_rows rows) t) old new (Err s)
        → LowersRules program arity rules (Err s)
    stops stop.TooBig k = λ t tree. subst (λ (n : ℕ). n < size t) all (k t (from_rules program arity rules positions next rows t are tree))
    stops stop.NoMemory k = tt

pub left_within : (new n old most : ℕ) → new + n ≡ old → old ≡ most → n ≤ most
left_within new n old most e f = omega (arith, e, f)

pub rules_done : (program : calculus.Program) (arity : ℕ) (rules : List calculus.Rule) (positions : List ℕ) (next : ℕ) (rows : List code.Row) (old new : ℕ)
    (rule : stored_rule.Rule) → AreRulesRows arity rules positions next rows → old ≡ most_expressions
    → patterns_of rule.params.items ≡ variables positions
    → Tree program positions next (all_rows rows) (term_of rule.body) × (new + size (term_of rule.body) ≡ old)
    → IsOnlyRule program arity rules (rule_meaning rule)
rules_done program arity rules positions next rows old new rule are all params done = record {
  params = params ∙ ap variables are.positions_are;
  tree = to_rules program arity rules positions next rows (term_of rule.body) are done.0;
  small = left_within new (size (term_of rule.body)) old most_expressions done.1 all;
}

-- ---- one function

pub by_rule : (program : calculus.Program) (function : Function) (rules : List calculus.Rule) (rule : calculus.Rule) (made : Function)
    → function.body ≡ Rules rules → IsOnlyRule program function.arity rules rule
    → made ≡ record { name = function.name; arity = function.arity; body = Rules (rule ∷ []) } → IsLowered program function made
by_rule program function rules rule made e only is =
    subst (λ (f : Function). IsLowered program function f) (sym is)
    (record {
      lowers = lowered.by_tree rules (numbers 1 function.arity) rule.body _ e refl only.tree
          (ap (λ (ps : calculus.Rule). let f : calculus.Function = record { arity = function.arity; body = Rules (ps ∷ []) } in f) (rule_is rule only.params));
      name = refl;
      small = let s = only.small in omega (arith, s);
    })
  where
    rule_is : (r : calculus.Rule) → r.params ≡ variables (numbers 1 function.arity) → r ≡ record { params = variables (numbers 1 function.arity); body = r.body }
    rule_is r same = ap (λ (ps : _). let q : calculus.Rule = record { params = ps; body = r.body } in q) same

pub by_operation : (program : calculus.Program) (function made : Function) (operation : Primitive) → function.body ≡ External operation
    → made ≡ function → IsLowered program function made
by_operation program function made operation e is =
    subst (λ (f : Function). IsLowered program function f) (sym is)
    (record { lowers = lowered.external operation _ e refl; name = refl; small = small function.body e })
  where
    small : (body : calculus.Body) → body ≡ External operation → body_size body ≤ most_expressions
    small (External o) same = omega arith
    small (Rules rules) same = let no : ⊥ = cc in absurd no

pub rules_too_big : (program : calculus.Program) (function : Function) (rules : List calculus.Rule) → function.body ≡ Rules rules
    → ((t : Term) → RulesTree program function.arity rules t → most_expressions < size t) → IsTooBig program function
rules_too_big program function rules e big one (lowered.external operation _ e' is) = let no : ⊥ = cc in absurd no
rules_too_big program function rules e big one (lowered.by_tree others xs t _ e' f p is) = by_size one is (big t there)
  where
    same : others ≡ rules
    same = cc

    there : RulesTree program function.arity rules t
    there =
        subst (λ (zs : List ℕ). Tree program zs (suc function.arity) (map (row_of_rule zs) rules) t) f
        (subst (λ (rs : List calculus.Rule). Tree program xs (suc function.arity) (map (row_of_rule xs) rs) t) same p)

    by_size : (g : calculus.Function) → g ≡ record { arity = function.arity; body = Rules (record { params = variables xs; body = t } ∷ []) }
        → most_expressions < size t → most_expressions < body_size g.body
    by_size g same below = subst (λ (h : calculus.Function). most_expressions < body_size h.body) (sym same) (omega (arith, below))

pub external_meaning : (body : stored_body.Body) (operation : Primitive) → body ≡ bodies.External operation → body_meaning body ≡ External operation
external_meaning body operation is = ap body_meaning is

abbrev pub with_body : Function → calculus.Body → Function
with_body f body = record { name = f.name; arity = f.arity; body = body }

pub external_same : (f : Function) (operation : Primitive) → f.body ≡ External operation → with_body f (External operation) ≡ f
external_same f operation e = ap (with_body f) (sym e)

pub rules_meaning : (body : stored_body.Body) (held : Vec stored_rule.Rule Global) (xs : List stored_rule.Rule) → body ≡ bodies.Rules held → xs ≡ held.items
    → body_meaning body ≡ Rules (map rule_meaning xs)
rules_meaning body held xs is same = ap body_meaning is ∙ ap (λ (rs : List stored_rule.Rule). Rules (map rule_meaning rs)) (sym same)

pub function_stop : (program : calculus.Program) (function : Function) (rules : List calculus.Rule) (r : Result stored.Function Stop) (e : Stop)
    → function.body ≡ Rules rules → IsErrAnd r (λ g. g ≡ e) → LowersRules program function.arity rules (Err e) → LowersFunction program function r
function_stop program function rules (Ok x) e body is h = absurd is
function_stop program function rules (Err g) e body is h = subst (λ (s : Stop). LowersFunction program function (Err s)) (sym is) (stops e h)
  where
    stops : (s : Stop) → LowersRules program function.arity rules (Err s) → LowersFunction program function (Err s)
    stops stop.TooBig k = rules_too_big program function rules body k
    stops stop.NoMemory k = tt

-- ---- all functions

pub none_lowered : (program : calculus.Program) (functions : List Function) → AreLowered program functions 0 []
none_lowered program functions = record { count = refl; each = λ k one e f g. let no : ⊥ = cc in absurd no }

pub one_more_lowered : (program : calculus.Program) (functions done : List Function) (n : ℕ) (function one : Function) → AreLowered program functions n done
    → slice_get functions n ≡ Some function → IsLowered program function one → AreLowered program functions (suc n) (done ++ one ∷ [])
one_more_lowered program functions done n function one before there is = record {
  count = let more = length-append done (one ∷ []) in let c = before.count in omega (arith, more, c);
  each = pushed_at (λ k one. (f : Function) → slice_get functions k ≡ Some f → IsLowered program f one) done one before.each
      (λ f e. let at : slice_get functions n ≡ Some f = subst (λ (k : ℕ). slice_get functions k ≡ Some f) before.count e in
      let same : function ≡ f = cc in subst (λ (g : Function). IsLowered program g one) same is);
}

pub next_lowered : (program : calculus.Program) (fs done made : List stored.Function) (n : ℕ) (f one : stored.Function)
    → AreLowered program (map function_meaning fs) n (map function_meaning done) → slice_get fs n ≡ Some f
    → IsLowered program (function_meaning f) (function_meaning one) → made ≡ done ++ one ∷ []
    → AreLowered program (map function_meaning fs) (n + 1) (map function_meaning made)
next_lowered program fs done made n f one before there is e =
    let next : suc n ≡ n + 1 = omega arith in
    let more = ap (λ (xs : List stored.Function). map function_meaning xs) e ∙ map-append function_meaning done (one ∷ []) in
    subst (λ (m : ℕ). AreLowered program (map function_meaning fs) m (map function_meaning made)) next
    (subst (λ (xs : List Function). AreLowered program (map function_meaning fs) (suc n) xs) (sym more)
    (one_more_lowered program (map function_meaning fs) (map function_meaning done) n (function_meaning f) (function_meaning one) before
    (get_map function_meaning fs n f there) is))

pub all_lowered : (program : calculus.Program) (fs done : List stored.Function) (n : ℕ) → n ≤ length fs → length fs ≤ n
    → AreLowered program (map function_meaning fs) n (map function_meaning done)
    → AreLowered program (map function_meaning fs) (length (map function_meaning fs)) (map function_meaning done)
all_lowered program fs done n below past are =
    let same = length-map fs function_meaning in
    let all : n ≡ length (map function_meaning fs) = omega (arith, same, below, past) in
    subst (λ (m : ℕ). AreLowered program (map function_meaning fs) m (map function_meaning done)) all are

-- ---- the outcome

pub all_flat : (program flat : calculus.Program) (functions done : List Function) → program.functions ≡ map plain_function functions
    → flat.functions ≡ map plain_function done → flat.constructors ≡ program.constructors → flat.special ≡ program.special
    → AreLowered program functions (length functions) done → Lowering program (Ok flat)
all_flat program flat functions done is to constructors special are = lowered.flat flat
    (record {
      each = let a = ap length is in let b = ap length to in let c = length-map functions plain_function in let d = length-map done plain_function in
          let e = are.count in omega (arith, a, b, c, d, e);
      functions = lowers;
      constructors = constructors;
      special = special;
    })
    small
  where
    lowers : (k : ℕ) (f g : calculus.Function) → slice_get program.functions k ≡ Some f → slice_get flat.functions k ≡ Some g
        → FunctionLowers program f g
    lowers k f g e h =
        let x = mapped_at plain_function functions k f (subst (λ (fs : List calculus.Function). slice_get fs k ≡ Some f) is e) in
        let y = mapped_at plain_function done k g (subst (λ (fs : List calculus.Function). slice_get fs k ≡ Some g) to h) in
        subst (λ (q : calculus.Function). FunctionLowers program f q) y.2
        (subst (λ (q : calculus.Function). FunctionLowers program q (plain_function y.0)) x.2 (are.each k y.0 y.1 x.0 x.1).lowers)

    small : (k : ℕ) (g : calculus.Function) → slice_get flat.functions k ≡ Some g → body_size g.body ≤ most_expressions
    small k g h =
        let y = mapped_at plain_function done k g (subst (λ (fs : List calculus.Function). slice_get fs k ≡ Some g) to h) in
        let x = at_too done functions k y.0 are.count y.1 in
        subst (λ (q : calculus.Function). body_size q.body ≤ most_expressions) y.2 (are.each k y.0 y.1 x.0 x.1).small

-- what the functions of two lists have in common, place by place, they have in common as lists
pub same_under : {A : Type 0} (g : Function → A) (xs ys : List Function) → length ys ≡ length xs
    → ((k : ℕ) (y : Function) → slice_get ys k ≡ Some y → (x : Function) → slice_get xs k ≡ Some x → g y ≡ g x) → map g ys ≡ map g xs
same_under g [] [] e h = refl
same_under g [] (y ∷ ys) e h = absurd (omega arith)
same_under g (x ∷ xs) [] e h = absurd (omega arith)
same_under {A} g (x ∷ xs) (y ∷ ys) e h =
    let first = h 0 y refl x refl in
    let rest = same_under g xs ys (omega arith) (λ k z f. h (suc k) z f) in
    ap₂ (λ (b : A) (bs : List A). b ∷ bs) first rest

flattens_at : (program flat : calculus.Program) (r : Result calculus.Program FunId) → Lowering program r → r ≡ Ok flat → Flattens program flat
flattens_at program flat _ (lowered.flat made flattens small) e =
    let same : made ≡ flat = cc in subst (λ (p : calculus.Program). Flattens program p) same flattens
flattens_at program flat _ (lowered.too_big made f function flattens there big before) e = let no : ⊥ = cc in absurd no

pub flattens_of : (program flat : calculus.Program) → Lowering program (Ok flat) → Flattens program flat
flattens_of program flat low = flattens_at program flat (Ok flat) low refl

pub first_too_big : (program : calculus.Program) (functions : List Function) (f : FunId) → program.functions ≡ map plain_function functions
    → valid.IsValid program → HasOperations program → IsFirstTooBig program functions f → Lowering program (Err f)
first_too_big program functions f is ok operations first =
    let flat = flat_exists program ok operations in
    let there : slice_get program.functions f.0 ≡ Some (plain_function first.function) =
    subst (λ (fs : List calculus.Function). slice_get fs f.0 ≡ Some (plain_function first.function)) (sym is)
    (get_map plain_function functions f.0 first.function first.there) in
    let found = at_too program.functions flat.0.functions f.0 (plain_function first.function) (sym flat.1.each) there in
    lowered.too_big flat.0 f found.0 flat.1 found.1
    (first.too_big found.0 (flat.1.functions f.0 (plain_function first.function) found.0 there found.1)) (before flat.0 flat.1)
  where
    before : (flat : calculus.Program) → Flattens program flat → (k : ℕ) (other : calculus.Function) → k < f.0 → slice_get flat.functions k ≡ Some other
        → body_size other.body ≤ most_expressions
    before flat flattens k other below e =
        let x = at_too flat.functions program.functions k other flattens.each e in
        let source = mapped_at plain_function functions k x.0 (subst (λ (fs : List calculus.Function). slice_get fs k ≡ Some x.0) is x.1) in
        let one = at_within first.before k f.0 (sym first.are_lowered.count) below in
        let low = first.are_lowered.each k one.0 one.1 source.0 source.1 in
        let same = function_one program x.0 (plain_function one.0) other
        (subst (λ (q : calculus.Function). FunctionLowers program q (plain_function one.0)) source.2 low.lowers) (flattens.functions k x.0 other x.1 e) in
        subst (λ (q : calculus.Function). body_size q.body ≤ most_expressions) same low.small

-- ---- operations

abbrev pub NotBefore : List stored.Function → Primitive → ℕ → Type 0
NotBefore fs operation i =
    (k : ℕ) (other : stored.Function) → k < i → slice_get fs k ≡ Some other → body_meaning other.body ≢ External operation

pub is_the_operation : (program : calculus.Program) (fs : List stored.Function) (operation : Primitive) (i : ℕ) (f : stored.Function)
    → program.functions ≡ map plain_function (map function_meaning fs) → slice_get fs i ≡ Some f → body_meaning f.body ≡ External operation
    → NotBefore fs operation i → IsOperation program operation (record { 0 = i })
is_the_operation program fs operation i f is e built not_before = record {
  function = plain_function (function_meaning f);
  is_there = subst (λ (gs : List calculus.Function). slice_get gs i ≡ Some (plain_function (function_meaning f))) (sym is)
      (get_map plain_function (map function_meaning fs) i (function_meaning f) (get_map function_meaning fs i f e));
  is_built_in = built;
  first = λ k other below h.
      let x = mapped_at plain_function (map function_meaning fs) k other (subst (λ (gs : List calculus.Function). slice_get gs k ≡ Some other) is h) in
      let y = mapped_at function_meaning fs k x.0 x.1 in
      λ same. not_before k y.0 below y.1 (ap (λ (g : Function). g.body) y.2 ∙ ap (λ (g : calculus.Function). g.body) x.2 ∙ same);
}

pub no_operation : (program : calculus.Program) (fs : List stored.Function) (operation : Primitive) (i : ℕ)
    → program.functions ≡ map plain_function (map function_meaning fs) → length fs ≤ i → NotBefore fs operation i
    → ((f : FunId) × IsOperation program operation f) → ⊥
no_operation program fs operation i is past not_before some =
    let at = some.1 in
    let x = mapped_at plain_function (map function_meaning fs) some.0.0 at.function
    (subst (λ (gs : List calculus.Function). slice_get gs some.0.0 ≡ Some at.function) is at.is_there) in
    let y = mapped_at function_meaning fs some.0.0 x.0 x.1 in
    let within = slice_get_within fs some.0.0 y.0 y.1 in
    not_before some.0.0 y.0 (omega (arith, within, past)) y.1
    (ap (λ (g : Function). g.body) y.2 ∙ ap (λ (g : calculus.Function). g.body) x.2 ∙ at.is_built_in)

pub not_before_next : (fs : List stored.Function) (operation : Primitive) (i : ℕ) (f : stored.Function) → slice_get fs i ≡ Some f
    → body_meaning f.body ≢ External operation → NotBefore fs operation i → NotBefore fs operation (i + 1)
not_before_next fs operation i f e differs before k other below h = by (cases_order k i)
  where
    by : (k ≡ i) ⊎ (k < i) ⊎ (i < k) → body_meaning other.body ≢ External operation
    by (inr (inl less)) = before k other less h
    by (inr (inr more)) = absurd (omega (arith, more, below))
    by (inl at) =
        let there : slice_get fs i ≡ Some other = subst (λ (n : ℕ). slice_get fs n ≡ Some other) at h in
        let same : f ≡ other = cc in
        subst (λ (g : stored.Function). body_meaning g.body ≢ External operation) same differs

-- ---- whether operations are there

found_there : (program : calculus.Program) (operation : Primitive) (found : Option FunId) → IsFound program operation found → is_some found ≡ true
    → (f : FunId) × IsOperation program operation f
found_there program operation (Some f) is e = (f, is)
found_there program operation None is e = let no : ⊥ = cc in absurd no

there_found : (program : calculus.Program) (operation : Primitive) (found : Option FunId) → IsFound program operation found
    → ((f : FunId) × IsOperation program operation f) → is_some found ≡ true
there_found program operation (Some f) is there = refl
there_found program operation None is there = absurd (is there)

pub both_there : (program : calculus.Program) (failed equal : Option FunId) (f : FunId) (b : Bool) → IsFound program prim.Failed failed
    → IsFound program prim.Equal equal → failed ≡ Some f → b ≡ is_some equal → IsTrue b ↔ HasOperations program
both_there program failed equal f b one two some is = (
  λ yes. record {
    failed = found_there program prim.Failed failed one (ap is_some some);
    equal = found_there program prim.Equal equal two (sym is ∙ yes);
  },
  λ has. is ∙ there_found program prim.Equal equal two has.equal,
)

pub none_there : (program : calculus.Program) (failed : Option FunId) → IsFound program prim.Failed failed → failed ≡ None
    → IsTrue false ↔ HasOperations program
none_there program failed found none = (λ yes. absurd (true≢false (sym yes)), λ has. sym (ap is_some none) ∙ there_found program prim.Failed failed found has.failed)
