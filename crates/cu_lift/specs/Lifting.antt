-- Lambda lifting (Johnsson, "Lambda lifting: transforming programs to recursive equations", 1985):
-- each local function becomes a function of the program, which takes the variables that it captures
-- before its own parameters, and each use of it passes them.
use Rattle.std.specs.Prelude.{◌≡◌, ℕ, ◌+◌, Bool, false, ◌&&◌, ◌||◌, List, [], ◌∷◌, ◌++◌, Some, IsTrue, codes, decimal, if◌then◌else◌, length, map, nat_eq, nat_lt, option_map, slice_get, slice_index_or}
use Rattle.std.specs.List.{list_all}
use Rattle.cu_calculus.specs.Program as calculus
use Rattle.cu_calculus.specs.Term as clean
use Rattle.cu_calculus.specs.Valid.{is_arity}
use Rattle.cu_calculus.specs.declared.Head.TheVariants as head
use Rattle.cu_calculus.specs.declared.Head.{Head}
use Rattle.cu_calculus.specs.declared.builtin.Special.{Special}
use Rattle.cu_kernel.specs.Captures.{AreCaptured}
use Rattle.cu_kernel.specs.Kernel.{Function, Goal, Kernel, Mark}
use Rattle.cu_kernel.specs.LocalKernel as kernel
use Rattle.cu_kernel.specs.LocalKernel.{LocalBody, LocalFunction, LocalKernel, LocalRule, TopFunction}
use Rattle.cu_kernel.specs.LocalTerm as local
use Rattle.cu_kernel.specs.LocalTerm.{LocalAlternatives, LocalTerm, LocalTerms}
use Rattle.cu_kernel.specs.declared.local.LocalHead.TheVariants as local_head
use Rattle.cu_kernel.specs.declared.local.LocalHead.{LocalHead}
use Rattle.cu_names.specs.Texts.{IsKnown, text_of}
use Rattle.cu_names.specs.declared.names.NameId.{NameId}
use Rattle.cu_names.specs.declared.place.Place.{Place}

-- ---- numbers

-- whether a place stands before another: by the line, and then by the column
abbrev pub stands_before : Place → Place → Bool
stands_before p q = nat_lt p.line q.line || (nat_eq p.line q.line && nat_lt p.column q.column)

-- a local function with its number among those of its top-level function
pub record Numbered : Type 0 where
  pub number : ℕ
  pub function : LocalFunction

-- put into a list in the order of places: before the first that doesn't stand before it
abbrev pub put_in : Numbered → List Numbered → List Numbered
put_in f [] = f ∷ []
put_in f (g ∷ gs) = if stands_before g.function.place f.function.place then g ∷ put_in f gs
    else f ∷ g ∷ gs

-- local functions, numbered from a number on, in the order of their places; those at one place stay
-- in the order of their numbers
abbrev pub in_order_from : ℕ → List LocalFunction → List Numbered
in_order_from n [] = []
in_order_from n (f ∷ fs) = put_in (record { number = n; function = f }) (in_order_from (n + 1) fs)

abbrev pub in_order : List LocalFunction → List Numbered
in_order locals = in_order_from 0 locals

-- how many stand before the one with a number
abbrev pub rank_in : ℕ → List Numbered → ℕ
rank_in k [] = 0
rank_in k (f ∷ fs) = if nat_eq f.number k then 0 else rank_in k fs + 1

abbrev pub rank : List LocalFunction → ℕ → ℕ
rank locals k = rank_in k (in_order locals)

-- Top-level functions keep their order, and each has its local functions after it: the numbers of
-- some from a number on.
abbrev pub top_numbers : ℕ → List TopFunction → List ℕ
top_numbers n [] = []
top_numbers n (f ∷ fs) = n ∷ top_numbers (n + 1 + length f.locals) fs

abbrev pub top_number : List TopFunction → ℕ → ℕ
top_number functions i = slice_index_or (top_numbers 0 functions) i 0

-- The local functions of one stand directly after it, in the order of their places.
abbrev pub local_number : ℕ → List LocalFunction → ℕ → ℕ
local_number number locals k = number + 1 + rank locals k

-- ---- terms

-- what becomes of the functions that the rules of one top-level function and its local functions
-- use: the numbers of top-level functions and of these local functions, and the variables that each
-- of these captures
pub record Lifting : Type 0 where
  pub top : ℕ → ℕ
  pub inner : ℕ → ℕ
  pub captured : ℕ → List ℕ

-- a head with new numbers of functions
abbrev pub moved : (ℕ → ℕ) → Head → Head
moved number (head.Fun f) = head.Fun (record { 0 = number f.0 })
moved number (head.Con c) = head.Con c
moved number (head.Set f) = head.Set (record { 0 = number f.0 })

abbrev pub lifted_head : Lifting → LocalHead → Head
lifted_head l (local_head.Global h) = moved l.top h
lifted_head l (local_head.Local k) = head.Fun (record { 0 = l.inner k })

-- the variables that a use of a head passes
abbrev pub passed : Lifting → LocalHead → List ℕ
passed l (local_head.Global h) = []
passed l (local_head.Local k) = l.captured k

-- arguments after variables
abbrev pub after_variables : List ℕ → clean.Terms → clean.Terms
after_variables [] ts = ts
after_variables (x ∷ xs) ts = clean.MoreTerms (clean.Variable x) (after_variables xs ts)

-- patterns after variables
abbrev pub after_parameters : List ℕ → clean.Patterns → clean.Patterns
after_parameters [] ps = ps
after_parameters (x ∷ xs) ps = clean.MorePatterns (clean.Any x) (after_parameters xs ps)

abbrev mutual
  pub lifted_term : Lifting → LocalTerm → clean.Term
  lifted_term l (local.Variable x) = clean.Variable x
  lifted_term l (local.Literal n) = clean.Literal n
  lifted_term l (local.Whole h ts) =
      clean.Whole (lifted_head l h) (after_variables (passed l h) (lifted_terms l ts))
  lifted_term l (local.Part h ts) =
      clean.Part (lifted_head l h) (after_variables (passed l h) (lifted_terms l ts))
  lifted_term l (local.Apply f a) = clean.Apply (lifted_term l f) (lifted_term l a)
  lifted_term l (local.Let x a b) = clean.Let x (lifted_term l a) (lifted_term l b)
  lifted_term l (local.Free x t) = clean.Free x (lifted_term l t)
  lifted_term l (local.Or a b) = clean.Or (lifted_term l a) (lifted_term l b)
  lifted_term l (local.Case mode a alternatives) =
      clean.Case mode (lifted_term l a) (lifted_alternatives l alternatives)

  pub lifted_terms : Lifting → LocalTerms → clean.Terms
  lifted_terms l local.NoTerm = clean.NoTerm
  lifted_terms l (local.MoreTerms t ts) = clean.MoreTerms (lifted_term l t) (lifted_terms l ts)

  pub lifted_alternatives : Lifting → LocalAlternatives → clean.Alternatives
  lifted_alternatives l local.NoAlternative = clean.NoAlternative
  lifted_alternatives l (local.MoreAlternatives p t alternatives) =
      clean.MoreAlternatives p (lifted_term l t) (lifted_alternatives l alternatives)

-- ---- functions

-- a rule of a function that takes these variables first
abbrev pub lifted_rule : Lifting → List ℕ → LocalRule → calculus.Rule
lifted_rule l xs rule =
    record { params = after_parameters xs rule.params; body = lifted_term l rule.body }

abbrev pub lifted_body : Lifting → LocalBody → calculus.Body
lifted_body l (kernel.Rules rules) = calculus.Rules (map (lifted_rule l []) rules)
lifted_body l (kernel.External operation) = calculus.External operation

abbrev pub lifted_top : Lifting → TopFunction → Function
lifted_top l f = record { name = f.name; arity = f.arity; body = lifted_body l f.body }

abbrev pub lifted_local : Lifting → (ℕ → NameId) → Numbered → Function
lifted_local l name f = record {
  name = name f.number;
  arity = length (l.captured f.number) + f.function.arity;
  body = calculus.Rules (map (lifted_rule l (l.captured f.number)) f.function.rules);
}

-- a top-level function and its local functions
abbrev pub lifted_group : Lifting → (ℕ → NameId) → TopFunction → List Function
lifted_group l name f = lifted_top l f ∷ map (lifted_local l name) (in_order f.locals)

-- a local function is private
abbrev pub local_mark : Mark → (ℕ → List ℕ) → Numbered → Mark
local_mark mark captured f = record {
  «module» = mark.module;
  public = false;
  declared = f.function.declared;
  captured = length (captured f.number);
  place = f.function.place;
}

abbrev pub mark_group : (ℕ → List ℕ) → Mark → TopFunction → List Mark
mark_group captured mark f = mark ∷ map (local_mark mark captured) (in_order f.locals)

-- ---- programs

-- of local function k of top-level function i, at i and then k: the variables that it captures, and
-- its new name
pub record Locals : Type 0 where
  pub captured : ℕ → ℕ → List ℕ
  pub name : ℕ → ℕ → NameId

abbrev pub lifting_of : (ℕ → ℕ) → Locals → ℕ → TopFunction → Lifting
lifting_of number locals i f = record {
  top = number;
  inner = local_number (number i) f.locals;
  captured = locals.captured i;
}

-- the functions that come of top-level functions from a number on
abbrev pub functions_from : (ℕ → ℕ) → Locals → ℕ → List TopFunction → List Function
functions_from number locals i [] = []
functions_from number locals i (f ∷ fs) =
    lifted_group (lifting_of number locals i f) (locals.name i) f
    ++ functions_from number locals (i + 1) fs

abbrev pub marks_from : Locals → ℕ → List Mark → List TopFunction → List Mark
marks_from locals i (m ∷ ms) (f ∷ fs) =
    mark_group (locals.captured i) m f ++ marks_from locals (i + 1) ms fs
marks_from locals i _ _ = []

abbrev pub lifted_goal : (ℕ → ℕ) → Goal → Goal
lifted_goal number goal =
    record { function = record { 0 = number goal.function.0 }; names = goal.names }

abbrev pub lifted_special : (ℕ → ℕ) → Special → Special
lifted_special number special = record {
  falsity = special.falsity;
  truth = special.truth;
  nil = special.nil;
  cons = special.cons;
  both = record { 0 = number special.both.0 };
  values = special.values;
}

unfoldable pub lifted : Locals → LocalKernel → Kernel
lifted locals program = record {
  types = program.types;
  functions = functions_from (top_number program.functions) locals 0 program.functions;
  synonyms = program.synonyms;
  modules = program.modules;
  marks = marks_from locals 0 program.marks program.functions;
  goal = option_map (lifted_goal (top_number program.functions)) program.goal;
  special = lifted_special (top_number program.functions) program.special;
}

-- `f#1`, `f#2`, ..: the top-level function's name and the local function's place in the order
abbrev pub local_name : List ℕ → ℕ → List ℕ
local_name text rank = text ++ (codes "#" ++ decimal (rank + 1))

-- A program is what another becomes by lifting, where the names have the texts of a table.
pub record Lifts (texts : List (List ℕ)) (program : LocalKernel) (result : Kernel) : Type 0 where
  pub locals : Locals
  -- the least sets of captured variables, in the order of their declaration
  pub captured : (i k : ℕ) (f : TopFunction) (g : LocalFunction)
      → slice_get program.functions i ≡ Some f → slice_get f.locals k ≡ Some g
      → AreCaptured f.locals k (locals.captured i k)
  pub named : (i k : ℕ) (f : TopFunction) (g : LocalFunction)
      → slice_get program.functions i ≡ Some f → slice_get f.locals k ≡ Some g
      → text_of texts (locals.name i k) ≡ local_name (text_of texts f.name) (rank f.locals k)
  pub whole : result ≡ lifted locals program

-- numbers of parameters that a graph can hold: what a function captures comes on top of its own
abbrev pub HaveArities : Kernel → Type 0
HaveArities program = IsTrue (list_all (λ f. is_arity f.arity) program.functions)

-- the names of the top-level functions have texts
abbrev pub AreNamed : List (List ℕ) → LocalKernel → Type 0
AreNamed texts program = (i : ℕ) (f : TopFunction) → slice_get program.functions i ≡ Some f
    → IsKnown texts f.name
