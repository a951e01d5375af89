-- How patterns, terms and bodies are told apart: each has a tree of numbers of its own.
use Rattle.std.specs.Prelude.{◌≡◌, List, refl}
use Rattle.std.specs.Coded.{Coded, code_by, coded_list, coded×, coded⊎}
use Rattle.std.proofs.Common.{◌⊎◌, inl, inr}
use base.Stored.{Gv, gcons, gnil, gnum}
use Rattle.cu_calculus.specs.Program as program
use Rattle.cu_calculus.specs.Term as clean
use Rattle.cu_calculus.specs.contracts.ConId.{the_row as constructor}
use Rattle.cu_calculus.specs.contracts.Head.{the_row as head}
use Rattle.cu_calculus.specs.contracts.Lit.{the_row as literal}
use Rattle.cu_calculus.specs.contracts.Mode.{the_row as mode}
use Rattle.cu_calculus.specs.contracts.builtin.Primitive.{the_row as primitive}
use Rattle.cu_calculus.specs.declared.builtin.Primitive.{Primitive}

abbrev mutual
  pub pattern_tree : clean.Pattern → Gv
  pattern_tree (clean.Any x) = gcons (gnum 0) (gnum x)
  pattern_tree (clean.Exactly l) = gcons (gnum 1) (literal.coded.code l)
  pattern_tree (clean.Built c ps) =
      gcons (gnum 2) (gcons (constructor.coded.code c) (pattern_trees ps))
  pattern_tree (clean.Named x p) = gcons (gnum 3) (gcons (gnum x) (pattern_tree p))

  pub pattern_trees : clean.Patterns → Gv
  pattern_trees clean.NoPattern = gnil
  pattern_trees (clean.MorePatterns p ps) = gcons (pattern_tree p) (pattern_trees ps)

mutual
  pub same_pattern : (p q : clean.Pattern) → pattern_tree p ≡ pattern_tree q → p ≡ q
  same_pattern (clean.Any x) (clean.Any y) e = cc
  same_pattern (clean.Exactly l) (clean.Exactly m) e = let same : l ≡ m =
      literal.coded.inj l m (cc) in cc
  same_pattern (clean.Built c ps) (clean.Built d qs) e =
      let first : c ≡ d = constructor.coded.inj c d (cc) in
      let rest : ps ≡ qs = same_patterns ps qs (cc) in cc
  same_pattern (clean.Named x p) (clean.Named y q) e = let rest : p ≡ q =
      same_pattern p q (cc) in cc
  same_pattern _ _ e = let no : ⊥ = cc in absurd no

  pub same_patterns : (ps qs : clean.Patterns) → pattern_trees ps ≡ pattern_trees qs → ps ≡ qs
  same_patterns clean.NoPattern clean.NoPattern e = cc
  same_patterns (clean.MorePatterns p ps) (clean.MorePatterns q qs) e =
      let first : p ≡ q = same_pattern p q (cc) in
      let rest : ps ≡ qs = same_patterns ps qs (cc) in cc
  same_patterns _ _ e = let no : ⊥ = cc in absurd no

abbrev mutual
  pub term_tree : clean.Term → Gv
  term_tree (clean.Variable x) = gcons (gnum 0) (gnum x)
  term_tree (clean.Literal l) = gcons (gnum 1) (literal.coded.code l)
  term_tree (clean.Whole h ts) = gcons (gnum 2) (gcons (head.coded.code h) (term_trees ts))
  term_tree (clean.Part h ts) = gcons (gnum 3) (gcons (head.coded.code h) (term_trees ts))
  term_tree (clean.Apply f a) = gcons (gnum 4) (gcons (term_tree f) (term_tree a))
  term_tree (clean.Let x a b) = gcons (gnum 5) (gcons (gnum x) (gcons (term_tree a) (term_tree b)))
  term_tree (clean.Free x t) = gcons (gnum 6) (gcons (gnum x) (term_tree t))
  term_tree (clean.Or a b) = gcons (gnum 7) (gcons (term_tree a) (term_tree b))
  term_tree (clean.Case m t rows) =
      gcons (gnum 8) (gcons (mode.coded.code m) (gcons (term_tree t) (alternative_trees rows)))

  pub term_trees : clean.Terms → Gv
  term_trees clean.NoTerm = gnil
  term_trees (clean.MoreTerms t ts) = gcons (term_tree t) (term_trees ts)

  pub alternative_trees : clean.Alternatives → Gv
  alternative_trees clean.NoAlternative = gnil
  alternative_trees (clean.MoreAlternatives p t rows) =
      gcons (gcons (pattern_tree p) (term_tree t)) (alternative_trees rows)

mutual
  pub same_term : (s t : clean.Term) → term_tree s ≡ term_tree t → s ≡ t
  same_term (clean.Variable x) (clean.Variable y) e = cc
  same_term (clean.Literal l) (clean.Literal m) e = let same : l ≡ m =
      literal.coded.inj l m (cc) in cc
  same_term (clean.Whole h ss) (clean.Whole k ts) e =
      let first : h ≡ k = head.coded.inj h k (cc) in
      let rest : ss ≡ ts = same_terms ss ts (cc) in cc
  same_term (clean.Part h ss) (clean.Part k ts) e =
      let first : h ≡ k = head.coded.inj h k (cc) in
      let rest : ss ≡ ts = same_terms ss ts (cc) in cc
  same_term (clean.Apply f a) (clean.Apply g b) e =
      let first : f ≡ g = same_term f g (cc) in let rest : a ≡ b = same_term a b (cc) in cc
  same_term (clean.Let x a b) (clean.Let y c d) e =
      let first : a ≡ c = same_term a c (cc) in let rest : b ≡ d = same_term b d (cc) in cc
  same_term (clean.Free x s) (clean.Free y t) e = let rest : s ≡ t = same_term s t (cc) in cc
  same_term (clean.Or a b) (clean.Or c d) e =
      let first : a ≡ c = same_term a c (cc) in let rest : b ≡ d = same_term b d (cc) in cc
  same_term (clean.Case m s rows) (clean.Case n t others) e =
      let first : m ≡ n = mode.coded.inj m n (cc) in let second : s ≡ t = same_term s t (cc) in
      let rest : rows ≡ others = same_alternatives rows others (cc) in cc
  same_term _ _ e = let no : ⊥ = cc in absurd no

  pub same_terms : (ss ts : clean.Terms) → term_trees ss ≡ term_trees ts → ss ≡ ts
  same_terms clean.NoTerm clean.NoTerm e = cc
  same_terms (clean.MoreTerms s ss) (clean.MoreTerms t ts) e =
      let first : s ≡ t = same_term s t (cc) in let rest : ss ≡ ts = same_terms ss ts (cc) in cc
  same_terms _ _ e = let no : ⊥ = cc in absurd no

  pub same_alternatives : (rows others : clean.Alternatives)
      → alternative_trees rows ≡ alternative_trees others → rows ≡ others
  same_alternatives clean.NoAlternative clean.NoAlternative e = cc
  same_alternatives (clean.MoreAlternatives p s rows) (clean.MoreAlternatives q t others) e =
      let first : p ≡ q = same_pattern p q (cc) in let second : s ≡ t = same_term s t (cc) in
      let rest : rows ≡ others = same_alternatives rows others (cc) in cc
  same_alternatives _ _ e = let no : ⊥ = cc in absurd no

abbrev pub patterns_code : Coded clean.Patterns
patterns_code = record { code = pattern_trees; inj = same_patterns }

abbrev pub term_code : Coded clean.Term
term_code = record { code = term_tree; inj = same_term }

abbrev pub rule_code : Coded program.Rule
rule_code =
    code_by (clean.Patterns × clean.Term) (coded× patterns_code term_code) (λ r. (r.params, r.body))
    (λ r. record { params = r.0; body = r.1 }) (λ _. refl)

abbrev pub body_parts : program.Body → List program.Rule ⊎ Primitive
body_parts (program.Rules rules) = inl rules
body_parts (program.External operation) = inr operation

abbrev pub body_of_parts : List program.Rule ⊎ Primitive → program.Body
body_of_parts (inl rules) = program.Rules rules
body_of_parts (inr operation) = program.External operation

pub body_parts_restored : (b : program.Body) → body_of_parts (body_parts b) ≡ b
body_parts_restored (program.Rules rules) = refl
body_parts_restored (program.External operation) = refl

abbrev pub body_code : Coded program.Body
body_code = code_by (List program.Rule ⊎ Primitive)
    (coded⊎ (coded_list rule_code) primitive.coded) body_parts body_of_parts body_parts_restored
