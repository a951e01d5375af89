-- What a valid program mentions are functions of it.
use Rattle.std.proofs.Common.{◌≡◌, ℕ, zero, suc, ◌<◌, Bool, true, false, ◌&&◌, List, [], ◌∷◌, ◌++◌, flat_map, length, Option, None, Some, option_map, slice_get, IsTrue, refl, ap, sym, ◌∙◌, subst, arith}
use Rattle.std.proofs.lemmas.Bool.{and_parts}
use Rattle.std.proofs.lemmas.List.{length-map}
use Rattle.std.specs.List.{list_all}
use Rattle.std.specs.declared.alloc.Global.{Global}
use Rattle.std.specs.declared.vec.Vec.{Vec}
use Rattle.cu_calculus.proofs.Lists.{get_map, passed_at}
use Rattle.cu_calculus.specs.Claims as claims
use Rattle.cu_calculus.specs.Claims.{Collected, Plain, all_mentions, alternative_mentions, body_mentions, head_mentions, mentions}
use Rattle.cu_calculus.specs.Program.{Body, External, Function, Program, Rule, Rules, arity_in}
use Rattle.cu_calculus.specs.Shape.{is_allowed, takes, takes_more}
use Rattle.cu_calculus.specs.Term as term
use Rattle.cu_calculus.specs.Term.{Alternatives, Term, Terms}
use Rattle.cu_calculus.specs.Valid.{IsValid, all_variables, also, also_all, but, fit_alternatives, fit_patterns, fit_terms, fits_body, fits_function, fits_pattern, fits_rule, fits_term, holds, is_arity, is_linear, pattern_count, term_count, variables_of}
use Rattle.cu_calculus.specs.declared.FunId.{FunId}
use Rattle.cu_calculus.specs.declared.Head.TheVariants as head
use Rattle.cu_calculus.specs.declared.Head.{Head}
use Rattle.cu_cycles.proofs.Places.{mapped_at, within}
use Rattle.cu_cycles.specs.Graph.{Edge, IsWhole}
use Rattle.cu_lift.proofs.Edges.{as_many_targets, edge_mention}
use Rattle.cu_lift.specs.Inside.MentionsOf.{MentionRows, graph_of, mention_by, mention_meaning, mention_meanings, rows_of, targets_in}
use Rattle.cu_lift.specs.declared.mentions.Mention.{Mention}

abbrev pub named : claims.Mention → FunId
named (Plain f) = f
named (Collected f) = f

abbrev pub AllIn : ℕ → List claims.Mention → Type 0
AllIn n [] = Unit {0}
AllIn n (m ∷ ms) = ((named m).0 < n) × AllIn n ms

in_append : (n : ℕ) (xs ys : List claims.Mention) → AllIn n xs → AllIn n ys → AllIn n (xs ++ ys)
in_append n [] ys h k = k
in_append n (x ∷ xs) ys h k = (h.0, in_append n xs ys h.1 k)

pub in_at : (n : ℕ) (ms : List claims.Mention) (k : ℕ) (m : claims.Mention) → AllIn n ms → slice_get ms k ≡ Some m → (named m).0 < n
in_at n [] k m h e = let no : ⊥ = cc in absurd no
in_at n (x ∷ ms) zero m h e = let same : x ≡ m = cc in subst (λ (y : claims.Mention). (named y).0 < n) same h.0
in_at n (x ∷ ms) (suc k) m h e = in_at n ms k m h.1 e

module _ (program : Program) where
  abbrev size : ℕ
  size = length program.functions

  taken_in : (f count : ℕ) (found : Option Function) → slice_get program.functions f ≡ found
      → IsTrue (takes (option_map (λ (function : Function). function.arity) found) count) → f < size
  taken_in f count None e h = let no : ⊥ = cc in absurd no
  taken_in f count (Some function) e h = within program.functions f function e

  more_in : (f count : ℕ) (found : Option Function) → slice_get program.functions f ≡ found
      → IsTrue (takes_more (option_map (λ (function : Function). function.arity) found) count) → f < size
  more_in f count None e h = let no : ⊥ = cc in absurd no
  more_in f count (Some function) e h = within program.functions f function e

  whole_in : (h : Head) (count : ℕ) → IsTrue (takes (arity_in program h) count) → AllIn size (head_mentions h)
  whole_in (head.Fun f) count h = (taken_in f.0 count (slice_get program.functions f.0) refl h, tt)
  whole_in (head.Con c) count h = tt
  whole_in (head.Set f) count h = (taken_in f.0 count (slice_get program.functions f.0) refl h, tt)

  part_in : (h : Head) (count : ℕ) → IsTrue (takes_more (arity_in program h) count) → AllIn size (head_mentions h)
  part_in (head.Fun f) count h = (more_in f.0 count (slice_get program.functions f.0) refl h, tt)
  part_in (head.Con c) count h = tt
  part_in (head.Set f) count h = (more_in f.0 count (slice_get program.functions f.0) refl h, tt)

  mutual
    term_in : (may : ℕ → Bool) (t : Term) → IsTrue (fits_term program may t) → AllIn size (mentions t)
    term_in may (term.Variable x) h = tt
    term_in may (term.Literal l) h = tt
    term_in may (term.Whole k ts) h =
        let parts = and_parts (is_allowed program k && takes (arity_in program k) (term_count ts)) (fit_terms program may ts) h in
        in_append size (head_mentions k) (all_mentions ts)
        (whole_in k (term_count ts) (and_parts (is_allowed program k) (takes (arity_in program k) (term_count ts)) parts.0).1)
        (terms_in may ts parts.1)
    term_in may (term.Part k ts) h =
        let parts = and_parts (is_allowed program k && takes_more (arity_in program k) (term_count ts)) (fit_terms program may ts) h in
        in_append size (head_mentions k) (all_mentions ts)
        (part_in k (term_count ts) (and_parts (is_allowed program k) (takes_more (arity_in program k) (term_count ts)) parts.0).1)
        (terms_in may ts parts.1)
    term_in may (term.Apply f a) h =
        let parts = and_parts (fits_term program may f) (fits_term program may a) h in
        in_append size (mentions f) (mentions a) (term_in may f parts.0) (term_in may a parts.1)
    term_in may (term.Let x a b) h =
        let parts = and_parts (fits_term program (but x may) a) (fits_term program (also x may) b) h in
        in_append size (mentions a) (mentions b) (term_in (but x may) a parts.0) (term_in (also x may) b parts.1)
    term_in may (term.Free x t) h = term_in (also x may) t h
    term_in may (term.Or a b) h =
        let parts = and_parts (fits_term program may a) (fits_term program may b) h in
        in_append size (mentions a) (mentions b) (term_in may a parts.0) (term_in may b parts.1)
    term_in may (term.Case mode a alternatives) h =
        let parts = and_parts (fits_term program may a) (fit_alternatives program may alternatives) h in
        in_append size (mentions a) (alternative_mentions alternatives) (term_in may a parts.0) (alternatives_in may alternatives parts.1)

    terms_in : (may : ℕ → Bool) (ts : Terms) → IsTrue (fit_terms program may ts) → AllIn size (all_mentions ts)
    terms_in may term.NoTerm h = tt
    terms_in may (term.MoreTerms t ts) h =
        let parts = and_parts (fits_term program may t) (fit_terms program may ts) h in
        in_append size (mentions t) (all_mentions ts) (term_in may t parts.0) (terms_in may ts parts.1)

    alternatives_in : (may : ℕ → Bool) (alternatives : Alternatives) → IsTrue (fit_alternatives program may alternatives)
        → AllIn size (alternative_mentions alternatives)
    alternatives_in may term.NoAlternative h = tt
    alternatives_in may (term.MoreAlternatives p t alternatives) h =
        let parts = and_parts (fits_pattern program p && is_linear (variables_of p) && fits_term program (also_all (variables_of p) may) t)
        (fit_alternatives program may alternatives) h in
        let first = and_parts (fits_pattern program p && is_linear (variables_of p)) (fits_term program (also_all (variables_of p) may) t) parts.0 in
        in_append size (mentions t) (alternative_mentions alternatives) (term_in (also_all (variables_of p) may) t first.1)
        (alternatives_in may alternatives parts.1)

  rules_in : (arity : ℕ) (rules : List Rule) → IsTrue (list_all (fits_rule program arity) rules)
      → AllIn size (flat_map (λ (rule : Rule). mentions rule.body) rules)
  rules_in arity [] h = tt
  rules_in arity (rule ∷ rules) h =
      let parts = and_parts (fits_rule program arity rule) (list_all (fits_rule program arity) rules) h in
      let may : ℕ → Bool = λ x. holds x (all_variables rule.params) in
      let fits = and_parts
      (Rattle.std.specs.Prelude.nat_eq (pattern_count rule.params) arity && fit_patterns program rule.params && is_linear (all_variables rule.params))
      (fits_term program may rule.body) parts.0 in
      in_append size (mentions rule.body) (flat_map (λ (r : Rule). mentions r.body) rules) (term_in may rule.body fits.1)
      (rules_in arity rules parts.1)

  body_in : (arity : ℕ) (body : Body) → IsTrue (fits_body program arity body) → AllIn size (body_mentions body)
  body_in arity (Rules rules) h = rules_in arity rules h
  body_in arity (External operation) h = tt

  pub function_in : (k : ℕ) (function : Function) → IsValid program → slice_get program.functions k ≡ Some function
      → AllIn size (body_mentions function.body)
  function_in k function valid e =
      let fits = passed_at (fits_function program) program.functions k function valid.functions e in
      body_in function.arity function.body (and_parts (is_arity function.arity) (fits_body program function.arity function.body) fits).1

  row_function : (rows : MentionRows) (u : ℕ) (row : Vec Mention Global) → rows_of rows ≡ graph_of program → slice_get rows u ≡ Some row
      → (function : Function) × (slice_get program.functions u ≡ Some function) × (body_mentions function.body ≡ mention_meanings row.items)
  row_function rows u row same e =
      mapped_at (λ (function : Function). body_mentions function.body) program.functions u (mention_meanings row.items)
      (subst (λ (x : List (List claims.Mention)). slice_get x u ≡ Some (mention_meanings row.items)) same
      (get_map (λ (r : Vec Mention Global). mention_meanings r.items) rows u row e))

  names_it : (b : Bool) (f : FunId) → named (mention_by b f) ≡ f
  names_it true f = refl
  names_it false f = refl

  pub rows_length : (rows : MentionRows) → rows_of rows ≡ graph_of program → length rows ≡ size
  rows_length rows same =
      sym (length-map rows (λ (r : Vec Mention Global). mention_meanings r.items)) ∙ ap length same
      ∙ length-map program.functions (λ (function : Function). body_mentions function.body)

  pub targets_length : (rows : MentionRows) → rows_of rows ≡ graph_of program → length (targets_in rows) ≡ size
  targets_length rows same = as_many_targets rows ∙ rows_length rows same

  pub rows_whole : (rows : MentionRows) → IsValid program → rows_of rows ≡ graph_of program → IsWhole (targets_in rows)
  rows_whole rows valid same = record { within = ends }
    where
      ends : (u v : ℕ) → Edge (targets_in rows) u v → v < length (targets_in rows)
      ends u v edge =
          let m = edge_mention rows u v edge in
          let at = row_function rows u m.1.row same m.1.is_row in
          let all = subst (λ (x : List claims.Mention). AllIn size x) at.2 (function_in u at.0 valid at.1) in
          let low = in_at size (mention_meanings m.1.row.items) m.1.place (mention_meaning m.0) all
          (get_map mention_meaning m.1.row.items m.1.place m.0 m.1.is_there) in
          let name : named (mention_meaning m.0) ≡ m.0.function = names_it m.0.collected m.0.function in
          let low_too : m.0.function.0 < size = subst (λ (f : FunId). f.0 < size) name low in
          let there : m.0.function.0 ≡ v = m.2 in
          let as_many = targets_length rows same in
          omega arith
