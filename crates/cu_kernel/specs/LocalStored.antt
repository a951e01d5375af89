-- How programs before lifting are told apart: a term by a tree of numbers of its own, all else by
-- its parts.
use Rattle.std.specs.Prelude.{◌≡◌, ℕ, List, Option, refl}
use Rattle.std.specs.Coded.{Coded, code_by, coded_ℕ, coded_list, coded_option, coded×, coded⊎}
use Rattle.std.proofs.Common.{◌⊎◌, inl, inr}
use base.Stored.{Gv, gcons, gnil, gnum}
use Rattle.cu_calculus.specs.Term as calculus
use Rattle.cu_calculus.specs.contracts.Lit.{the_row as literal}
use Rattle.cu_calculus.specs.contracts.Mode.{the_row as mode}
use Rattle.cu_calculus.specs.contracts.builtin.Primitive.{the_row as primitive}
use Rattle.cu_calculus.specs.contracts.builtin.Special.{the_row as special}
use Rattle.cu_calculus.specs.declared.builtin.Primitive.{Primitive}
use Rattle.cu_calculus.specs.declared.builtin.Special.{Special}
use Rattle.cu_names.specs.contracts.names.NameId.{the_row as name}
use Rattle.cu_names.specs.contracts.place.Place.{the_row as place}
use Rattle.cu_names.specs.declared.names.NameId.{NameId}
use Rattle.cu_names.specs.declared.place.Place.{Place}
use Rattle.cu_kernel.specs.Kernel.{DataType, Goal, Mark, Module, Synonym}
use Rattle.cu_kernel.specs.KernelStored.{data_type_code, goal_code, mark_code, module_code, synonym_code}
use Rattle.cu_kernel.specs.LocalKernel.{LocalBody, LocalFunction, LocalKernel, LocalRule, TopFunction}
use Rattle.cu_kernel.specs.LocalKernel as kernel
use Rattle.cu_kernel.specs.LocalTerm as local
use Rattle.cu_kernel.specs.TermStored.{pattern_tree, patterns_code, same_pattern}
use Rattle.cu_kernel.specs.TypeExpr.{TypeExpr}
use Rattle.cu_kernel.specs.TypeStored.{type_code}
use Rattle.cu_kernel.specs.contracts.local.LocalHead.{the_row as local_head}
use Rattle.cu_kernel.specs.contracts.local_program.Counts.{the_row as counts}
use Rattle.cu_kernel.specs.declared.local_program.Counts.{Counts}

abbrev mutual
  pub local_tree : local.LocalTerm → Gv
  local_tree (local.Variable x) = gcons (gnum 0) (gnum x)
  local_tree (local.Literal l) = gcons (gnum 1) (literal.coded.code l)
  local_tree (local.Whole h ts) = gcons (gnum 2) (gcons (local_head.coded.code h) (local_trees ts))
  local_tree (local.Part h ts) = gcons (gnum 3) (gcons (local_head.coded.code h) (local_trees ts))
  local_tree (local.Apply f a) = gcons (gnum 4) (gcons (local_tree f) (local_tree a))
  local_tree (local.Let x a b) =
      gcons (gnum 5) (gcons (gnum x) (gcons (local_tree a) (local_tree b)))
  local_tree (local.Free x t) = gcons (gnum 6) (gcons (gnum x) (local_tree t))
  local_tree (local.Or a b) = gcons (gnum 7) (gcons (local_tree a) (local_tree b))
  local_tree (local.Case m t rows) =
      gcons (gnum 8) (gcons (mode.coded.code m)
      (gcons (local_tree t) (local_alternative_trees rows)))

  pub local_trees : local.LocalTerms → Gv
  local_trees local.NoTerm = gnil
  local_trees (local.MoreTerms t ts) = gcons (local_tree t) (local_trees ts)

  pub local_alternative_trees : local.LocalAlternatives → Gv
  local_alternative_trees local.NoAlternative = gnil
  local_alternative_trees (local.MoreAlternatives p t rows) =
      gcons (gcons (pattern_tree p) (local_tree t)) (local_alternative_trees rows)

mutual
  pub same_local_term : (s t : local.LocalTerm) → local_tree s ≡ local_tree t → s ≡ t
  same_local_term (local.Variable x) (local.Variable y) e = cc
  same_local_term (local.Literal l) (local.Literal m) e = let same : l ≡ m =
      literal.coded.inj l m (cc) in cc
  same_local_term (local.Whole h ss) (local.Whole k ts) e =
      let first : h ≡ k = local_head.coded.inj h k (cc) in
      let rest : ss ≡ ts = same_local_terms ss ts (cc) in cc
  same_local_term (local.Part h ss) (local.Part k ts) e =
      let first : h ≡ k = local_head.coded.inj h k (cc) in
      let rest : ss ≡ ts = same_local_terms ss ts (cc) in cc
  same_local_term (local.Apply f a) (local.Apply g b) e =
      let first : f ≡ g = same_local_term f g (cc) in
      let rest : a ≡ b = same_local_term a b (cc) in cc
  same_local_term (local.Let x a b) (local.Let y c d) e =
      let first : a ≡ c = same_local_term a c (cc) in
      let rest : b ≡ d = same_local_term b d (cc) in cc
  same_local_term (local.Free x s) (local.Free y t) e = let rest : s ≡ t =
      same_local_term s t (cc) in cc
  same_local_term (local.Or a b) (local.Or c d) e =
      let first : a ≡ c = same_local_term a c (cc) in
      let rest : b ≡ d = same_local_term b d (cc) in cc
  same_local_term (local.Case m s rows) (local.Case n t others) e =
      let first : m ≡ n = mode.coded.inj m n (cc) in
      let second : s ≡ t = same_local_term s t (cc) in
      let rest : rows ≡ others = same_local_alternatives rows others (cc) in cc
  same_local_term _ _ e = let no : ⊥ = cc in absurd no

  pub same_local_terms : (ss ts : local.LocalTerms) → local_trees ss ≡ local_trees ts → ss ≡ ts
  same_local_terms local.NoTerm local.NoTerm e = cc
  same_local_terms (local.MoreTerms s ss) (local.MoreTerms t ts) e =
      let first : s ≡ t = same_local_term s t (cc) in
      let rest : ss ≡ ts = same_local_terms ss ts (cc) in cc
  same_local_terms _ _ e = let no : ⊥ = cc in absurd no

  pub same_local_alternatives : (rows others : local.LocalAlternatives)
      → local_alternative_trees rows ≡ local_alternative_trees others → rows ≡ others
  same_local_alternatives local.NoAlternative local.NoAlternative e = cc
  same_local_alternatives (local.MoreAlternatives p s rows) (local.MoreAlternatives q t others) e =
      let first : p ≡ q = same_pattern p q (cc) in let second : s ≡ t = same_local_term s t (cc) in
      let rest : rows ≡ others = same_local_alternatives rows others (cc) in cc
  same_local_alternatives _ _ e = let no : ⊥ = cc in absurd no

abbrev pub local_term_code : Coded local.LocalTerm
local_term_code = record { code = local_tree; inj = same_local_term }

abbrev pub local_rule_code : Coded LocalRule
local_rule_code =
    code_by (calculus.Patterns × local.LocalTerm) (coded× patterns_code local_term_code)
    (λ r. (r.params, r.body))
    (λ r. record { params = r.0; body = r.1 }) (λ _. refl)

abbrev pub local_body_parts : LocalBody → List LocalRule ⊎ Primitive
local_body_parts (kernel.Rules rules) = inl rules
local_body_parts (kernel.External operation) = inr operation

abbrev pub local_body_of_parts : List LocalRule ⊎ Primitive → LocalBody
local_body_of_parts (inl rules) = kernel.Rules rules
local_body_of_parts (inr operation) = kernel.External operation

pub local_body_parts_restored : (b : LocalBody) → local_body_of_parts (local_body_parts b) ≡ b
local_body_parts_restored (kernel.Rules rules) = refl
local_body_parts_restored (kernel.External operation) = refl

abbrev pub local_body_code : Coded LocalBody
local_body_code =
    code_by (List LocalRule ⊎ Primitive)
    (coded⊎ (coded_list local_rule_code) primitive.coded) local_body_parts local_body_of_parts
    local_body_parts_restored

abbrev pub local_function_code : Coded LocalFunction
local_function_code =
    code_by (Place × (Option TypeExpr × (ℕ × List LocalRule)))
    (coded× place.coded (coded× (coded_option type_code)
    (coded× coded_ℕ (coded_list local_rule_code))))
    (λ f. (f.place, (f.declared, (f.arity, f.rules))))
    (λ t. record { place = t.0; declared = t.1.0; arity = t.1.1.0; rules = t.1.1.1 }) (λ _. refl)

abbrev pub top_function_code : Coded TopFunction
top_function_code =
    code_by (NameId × (ℕ × (LocalBody × List LocalFunction)))
    (coded× name.coded (coded× coded_ℕ (coded× local_body_code (coded_list local_function_code))))
    (λ f. (f.name, (f.arity, (f.body, f.locals))))
    (λ t. record { name = t.0; arity = t.1.0; body = t.1.1.0; locals = t.1.1.1 }) (λ _. refl)

abbrev pub local_kernel_code : Coded LocalKernel
local_kernel_code =
    code_by (Counts
    × (List DataType
    × (List TopFunction
    × (List Synonym × (List Module × (List Mark × (Option Goal × Special)))))))
    (coded× counts.coded (coded× (coded_list data_type_code) (coded× (coded_list top_function_code)
    (coded× (coded_list synonym_code)
    (coded× (coded_list module_code) (coded× (coded_list mark_code)
    (coded× (coded_option goal_code) special.coded)))))))
    (λ k. (
      k.start,
      (k.types, (k.functions, (k.synonyms, (k.modules, (k.marks, (k.goal, k.special)))))),
    ))
    (λ t. record {
      start = t.0;
      types = t.1.0;
      functions = t.1.1.0;
      synonyms = t.1.1.1.0;
      modules = t.1.1.1.1.0;
      marks = t.1.1.1.1.1.0;
      goal = t.1.1.1.1.1.1.0;
      special = t.1.1.1.1.1.1.1;
    }) (λ _. refl)
