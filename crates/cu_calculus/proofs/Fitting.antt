-- Terms that fit a program still fit when their variables may be any, and so do the parts of a
-- program that is valid.
use Rattle.std.proofs.Common.{◌≡◌, ℕ, zero, suc, Bool, true, false, not, ◌&&◌, ◌||◌, List, Some, IsTrue, nat_eq, slice_get, refl, subst}
use Rattle.std.specs.List.{list_all}
use Rattle.std.proofs.lemmas.Bool.{and_from, and_parts}
use Rattle.std.proofs.lemmas.Option.{some_pair_parts}
use Rattle.cu_calculus.specs.declared.FunId.{FunId}
use Rattle.cu_calculus.specs.Choose.{alternative_at}
use Rattle.cu_calculus.specs.Program.{Body, Function, Program, Rule, Rules, arity_in, function_of}
use Rattle.cu_calculus.specs.Shape.{is_allowed, takes, takes_more}
use Rattle.cu_calculus.specs.Term as term
use Rattle.cu_calculus.specs.Term.{Alternatives, Pattern, Term, Terms}
use Rattle.cu_calculus.specs.Valid.{IsValid, all_variables, also, also_all, but, fit_alternatives, fit_patterns, fit_terms, fits_body, fits_function, fits_pattern, fits_rule, fits_term, holds, is_arity, is_linear, pattern_count, term_count, variables_of}
use Rattle.cu_calculus.proofs.Lists.{passed_at}

-- what variables may be is at most what others may be
abbrev pub Wider : (ℕ → Bool) → (ℕ → Bool) → Type 0
Wider may wide = (x : ℕ) → IsTrue (may x) → IsTrue (wide x)

and_wider : (b m w : Bool) → (IsTrue m → IsTrue w) → IsTrue (b && m) → IsTrue (b && w)
and_wider true m w h k = h k
and_wider false m w h k = k

pub or_wider : (b m w : Bool) → (IsTrue m → IsTrue w) → IsTrue (b || m) → IsTrue (b || w)
or_wider true m w h k = k
or_wider false m w h k = h k

pub both_wider : (a b c d : Bool) → (IsTrue a → IsTrue c) → (IsTrue b → IsTrue d) → IsTrue (a && b) → IsTrue (c && d)
both_wider a b c d h k e = let parts = and_parts a b e in and_from c d (h parts.0) (k parts.1)

mutual
  pub fits_wider : (program : Program) (may wide : ℕ → Bool) (t : Term) → Wider may wide → IsTrue (fits_term program may t)
      → IsTrue (fits_term program wide t)
  fits_wider program may wide (term.Variable x) w h = w x h
  fits_wider program may wide (term.Literal l) w h = h
  fits_wider program may wide (term.Whole k ts) w h =
      and_wider (is_allowed program k && takes (arity_in program k) (term_count ts)) (fit_terms program may ts) (fit_terms program wide ts)
      (fit_wider program may wide ts w) h
  fits_wider program may wide (term.Part k ts) w h =
      and_wider (is_allowed program k && takes_more (arity_in program k) (term_count ts)) (fit_terms program may ts) (fit_terms program wide ts)
      (fit_wider program may wide ts w) h
  fits_wider program may wide (term.Apply f a) w h =
      both_wider (fits_term program may f) (fits_term program may a) (fits_term program wide f) (fits_term program wide a)
      (fits_wider program may wide f w) (fits_wider program may wide a w) h
  fits_wider program may wide (term.Let x a b) w h =
      both_wider (fits_term program (but x may) a) (fits_term program (also x may) b) (fits_term program (but x wide) a)
      (fits_term program (also x wide) b)
      (fits_wider program (but x may) (but x wide) a (λ y. and_wider (not (nat_eq x y)) (may y) (wide y) (w y)))
      (fits_wider program (also x may) (also x wide) b (λ y. or_wider (nat_eq x y) (may y) (wide y) (w y))) h
  fits_wider program may wide (term.Free x t) w h =
      fits_wider program (also x may) (also x wide) t (λ y. or_wider (nat_eq x y) (may y) (wide y) (w y)) h
  fits_wider program may wide (term.Or a b) w h =
      both_wider (fits_term program may a) (fits_term program may b) (fits_term program wide a) (fits_term program wide b)
      (fits_wider program may wide a w) (fits_wider program may wide b w) h
  fits_wider program may wide (term.Case mode a alternatives) w h =
      both_wider (fits_term program may a) (fit_alternatives program may alternatives) (fits_term program wide a)
      (fit_alternatives program wide alternatives) (fits_wider program may wide a w) (alternatives_wider program may wide alternatives w) h

  pub fit_wider : (program : Program) (may wide : ℕ → Bool) (ts : Terms) → Wider may wide → IsTrue (fit_terms program may ts)
      → IsTrue (fit_terms program wide ts)
  fit_wider program may wide term.NoTerm w h = h
  fit_wider program may wide (term.MoreTerms t ts) w h =
      both_wider (fits_term program may t) (fit_terms program may ts) (fits_term program wide t) (fit_terms program wide ts)
      (fits_wider program may wide t w) (fit_wider program may wide ts w) h

  pub alternatives_wider : (program : Program) (may wide : ℕ → Bool) (alternatives : Alternatives) → Wider may wide
      → IsTrue (fit_alternatives program may alternatives) → IsTrue (fit_alternatives program wide alternatives)
  alternatives_wider program may wide term.NoAlternative w h = h
  alternatives_wider program may wide (term.MoreAlternatives p t alternatives) w h =
      let head = fits_pattern program p && is_linear (variables_of p) in
      both_wider (head && fits_term program (also_all (variables_of p) may) t) (fit_alternatives program may alternatives)
      (head && fits_term program (also_all (variables_of p) wide) t) (fit_alternatives program wide alternatives)
      (and_wider head (fits_term program (also_all (variables_of p) may) t) (fits_term program (also_all (variables_of p) wide) t)
      (fits_wider program (also_all (variables_of p) may) (also_all (variables_of p) wide) t
      (λ y. or_wider (holds y (variables_of p)) (may y) (wide y) (w y))))
      (alternatives_wider program may wide alternatives w) h

-- any variable
abbrev pub any : ℕ → Bool
any x = true

pub fits_any : (program : Program) (may : ℕ → Bool) (t : Term) → IsTrue (fits_term program may t) → IsTrue (fits_term program any t)
fits_any program may t h = fits_wider program may any t (λ x k. refl) h

-- the parts of a term that fits
pub fits_bound : (program : Program) (x : ℕ) (a b : Term) → IsTrue (fits_term program any (term.Let x a b))
    → IsTrue (fits_term program any a) × IsTrue (fits_term program any b)
fits_bound program x a b h =
    let parts = and_parts (fits_term program (but x any) a) (fits_term program (also x any) b) h in
    (fits_any program (but x any) a parts.0, fits_any program (also x any) b parts.1)

-- the term of an alternative that fits
pub fits_alternative : (program : Program) (alternatives : Alternatives) (k : ℕ) (p : Pattern) (t : Term)
    → IsTrue (fit_alternatives program any alternatives) → alternative_at alternatives k ≡ Some (p, t) → IsTrue (fits_term program any t)
fits_alternative program term.NoAlternative k p t h e = let no : ⊥ = cc in absurd no
fits_alternative program (term.MoreAlternatives q s alternatives) zero p t h e =
    let same : s ≡ t = (some_pair_parts q p s t e).1 in
    let head = fits_pattern program q && is_linear (variables_of q) in
    let first = and_parts (head && fits_term program (also_all (variables_of q) any) s) (fit_alternatives program any alternatives) h in
    let fits = and_parts head (fits_term program (also_all (variables_of q) any) s) first.0 in
    subst (λ (x : Term). IsTrue (fits_term program any x)) same (fits_any program (also_all (variables_of q) any) s fits.1)
fits_alternative program (term.MoreAlternatives q s alternatives) (suc k) p t h e =
    let head = fits_pattern program q && is_linear (variables_of q) in
    let parts = and_parts (head && fits_term program (also_all (variables_of q) any) s) (fit_alternatives program any alternatives) h in
    fits_alternative program alternatives k p t parts.1 e

-- the body of a rule of a valid program
pub fits_rule_body : (program : Program) (f : FunId) (function : Function) (rules : List Rule) (k : ℕ) (rule : Rule) → IsValid program
    → function_of program f ≡ Some function → function.body ≡ Rules rules → slice_get rules k ≡ Some rule
    → IsTrue (fits_term program any rule.body)
fits_rule_body program f function rules k rule valid e b r =
    let fits : IsTrue (fits_function program function) = passed_at (fits_function program) program.functions f.0 function valid.functions e in
    let body : IsTrue (fits_body program function.arity function.body) =
    (and_parts (is_arity function.arity) (fits_body program function.arity function.body) fits).1 in
    let each : IsTrue (list_all (fits_rule program function.arity) rules) =
    subst (λ (x : Body). IsTrue (fits_body program function.arity x)) b body in
    let one : IsTrue (fits_rule program function.arity rule) = passed_at (fits_rule program function.arity) rules k rule each r in
    let head = nat_eq (pattern_count rule.params) function.arity && fit_patterns program rule.params && is_linear (all_variables rule.params) in
    fits_any program (λ x. holds x (all_variables rule.params)) rule.body
    (and_parts head (fits_term program (λ x. holds x (all_variables rule.params)) rule.body) one).1
