-- Equations depend on the types of those functions alone that rules mention.
use Rattle.std.proofs.Common.{◌≡◌, ℕ, ◌+◌, List, [], ◌∷◌, ◌++◌, flat_map, length, refl, ap, ◌∙◌}
use Rattle.cu_calculus.specs.Claims.{Collected, Mention, Plain, all_mentions, alternative_mentions, body_mentions, head_mentions, mentions}
use Rattle.cu_calculus.specs.Program as calculus
use Rattle.cu_calculus.specs.Program.{Body, Rule}
use Rattle.cu_calculus.specs.Term as term
use Rattle.cu_calculus.specs.Term.{Alternatives, Pattern, Patterns, Term, Terms}
use Rattle.cu_calculus.specs.Valid.{all_variables, pattern_count, term_count, variables_of}
use Rattle.cu_calculus.specs.declared.FunId.{FunId}
use Rattle.cu_calculus.specs.declared.Head.TheVariants as head
use Rattle.cu_calculus.specs.declared.Head.{Head}
use Rattle.cu_kernel.specs.Kernel.{Kernel}
use Rattle.cu_kernel.specs.TypeExpr.{TypeExpr}
use Rattle.cu_types.specs.Equations.{Asked, Assumptions, Environment, Member, Scheme, alternatives_ask, bind, bind_from, body_asks, call_asks, head_asks, members_ask, pattern_asks, patterns_ask, result, rule_asks, rules_ask, scheme_asks, set_asks, signature_asks, taking, term_asks, terms_ask}

-- what is known of heads, with other types of functions
abbrev pub with_functions : Assumptions → (FunId → Scheme) → Assumptions
with_functions a functions = record { function = functions; constructor = a.constructor; arity = a.arity; values = a.values }

-- two tables have the same types of the functions that are mentioned
abbrev pub MentionSame : (FunId → Scheme) → (FunId → Scheme) → Mention → Type 0
MentionSame φ ψ (Plain f) = φ f ≡ ψ f
MentionSame φ ψ (Collected f) = φ f ≡ ψ f

abbrev pub AllSame : (FunId → Scheme) → (FunId → Scheme) → List Mention → Type 0
AllSame φ ψ [] = Unit {0}
AllSame φ ψ (m ∷ ms) = MentionSame φ ψ m × AllSame φ ψ ms

same_parts : (φ ψ : FunId → Scheme) (ms ns : List Mention) → AllSame φ ψ (ms ++ ns) → AllSame φ ψ ms × AllSame φ ψ ns
same_parts φ ψ [] ns all = (tt, all)
same_parts φ ψ (m ∷ ms) ns all =
    let rest = same_parts φ ψ ms ns all.1 in
    ((all.0, rest.0), rest.1)

-- ---- heads

head_same : (a : Assumptions) (φ ψ : FunId → Scheme) (h : Head) (t : TypeExpr) (asked : Asked) → AllSame φ ψ (head_mentions h)
    → head_asks (with_functions a φ) h t asked ≡ head_asks (with_functions a ψ) h t asked
head_same a φ ψ (head.Fun f) t asked all = ap (λ (s : Scheme). scheme_asks s t asked) all.0
head_same a φ ψ (head.Con c) t asked all = refl
head_same a φ ψ (head.Set f) t asked all =
    ap (λ (s : Scheme). set_asks (with_functions a (λ g. s)) f t asked) all.0

call_same : (a : Assumptions) (φ ψ : FunId → Scheme) (h : Head) (first count t : ℕ) (asked : Asked) → AllSame φ ψ (head_mentions h)
    → call_asks (with_functions a φ) h first count t asked ≡ call_asks (with_functions a ψ) h first count t asked
call_same a φ ψ h first count t asked all = head_same a φ ψ h _ asked all

-- ---- patterns

mutual
  pattern_same : (a : Assumptions) (φ ψ : FunId → Scheme) (env : Environment) (t : ℕ) (p : Pattern) (asked : Asked)
      → pattern_asks (with_functions a φ) env t p asked ≡ pattern_asks (with_functions a ψ) env t p asked
  pattern_same a φ ψ env t (term.Any x) asked = refl
  pattern_same a φ ψ env t (term.Exactly l) asked = refl
  pattern_same a φ ψ env t (term.Built c ps) asked =
      patterns_same a φ ψ env asked.next ps
      (call_asks (with_functions a φ) (head.Con c) asked.next (pattern_count ps) t (taking (pattern_count ps) asked))
  pattern_same a φ ψ env t (term.Named x p) asked =
      pattern_same a φ ψ env t p (pattern_asks (with_functions a φ) env t (term.Any x) asked)

  patterns_same : (a : Assumptions) (φ ψ : FunId → Scheme) (env : Environment) (first : ℕ) (ps : Patterns) (asked : Asked)
      → patterns_ask (with_functions a φ) env first ps asked ≡ patterns_ask (with_functions a ψ) env first ps asked
  patterns_same a φ ψ env first term.NoPattern asked = refl
  patterns_same a φ ψ env first (term.MorePatterns p ps) asked =
      patterns_same a φ ψ env (first + 1) ps (pattern_asks (with_functions a φ) env first p asked)
      ∙ ap (patterns_ask (with_functions a ψ) env (first + 1) ps) (pattern_same a φ ψ env first p asked)

-- ---- terms

mutual
  term_same : (a : Assumptions) (φ ψ : FunId → Scheme) (env : Environment) (t : ℕ) (u : Term) (asked : Asked) → AllSame φ ψ (mentions u)
      → term_asks (with_functions a φ) env t u asked ≡ term_asks (with_functions a ψ) env t u asked
  term_same a φ ψ env t (term.Variable x) asked all = refl
  term_same a φ ψ env t (term.Literal l) asked all = refl
  term_same a φ ψ env t (term.Whole h ts) asked all =
      let parts = same_parts φ ψ (head_mentions h) (all_mentions ts) all in
      terms_same a φ ψ env asked.next ts
      (call_asks (with_functions a φ) h asked.next (term_count ts) t (taking (term_count ts) asked)) parts.1
      ∙ ap (terms_ask (with_functions a ψ) env asked.next ts)
      (call_same a φ ψ h asked.next (term_count ts) t (taking (term_count ts) asked) parts.0)
  term_same a φ ψ env t (term.Part h ts) asked all =
      let parts = same_parts φ ψ (head_mentions h) (all_mentions ts) all in
      terms_same a φ ψ env asked.next ts
      (call_asks (with_functions a φ) h asked.next (term_count ts) t (taking (term_count ts) asked)) parts.1
      ∙ ap (terms_ask (with_functions a ψ) env asked.next ts)
      (call_same a φ ψ h asked.next (term_count ts) t (taking (term_count ts) asked) parts.0)
  term_same a φ ψ env t (term.Apply f u) asked all =
      let parts = same_parts φ ψ (mentions f) (mentions u) all in
      term_same a φ ψ env asked.next u _ parts.1
      ∙ ap (term_asks (with_functions a ψ) env asked.next u) (term_same a φ ψ env (asked.next + 1) f _ parts.0)
  term_same a φ ψ env t (term.Let x v u) asked all =
      let parts = same_parts φ ψ (mentions v) (mentions u) all in
      term_same a φ ψ (bind env x asked.next) t u (term_asks (with_functions a φ) env asked.next v (taking 1 asked)) parts.1
      ∙ ap (term_asks (with_functions a ψ) (bind env x asked.next) t u) (term_same a φ ψ env asked.next v (taking 1 asked) parts.0)
  term_same a φ ψ env t (term.Free x u) asked all = term_same a φ ψ (bind env x asked.next) t u (taking 1 asked) all
  term_same a φ ψ env t (term.Or u v) asked all =
      let parts = same_parts φ ψ (mentions u) (mentions v) all in
      term_same a φ ψ env t v (term_asks (with_functions a φ) env t u asked) parts.1
      ∙ ap (term_asks (with_functions a ψ) env t v) (term_same a φ ψ env t u asked parts.0)
  term_same a φ ψ env t (term.Case mode u alternatives) asked all =
      let parts = same_parts φ ψ (mentions u) (alternative_mentions alternatives) all in
      alternatives_same a φ ψ env asked.next t alternatives (term_asks (with_functions a φ) env asked.next u (taking 1 asked)) parts.1
      ∙ ap (alternatives_ask (with_functions a ψ) env asked.next t alternatives) (term_same a φ ψ env asked.next u (taking 1 asked) parts.0)

  terms_same : (a : Assumptions) (φ ψ : FunId → Scheme) (env : Environment) (first : ℕ) (ts : Terms) (asked : Asked) → AllSame φ ψ (all_mentions ts)
      → terms_ask (with_functions a φ) env first ts asked ≡ terms_ask (with_functions a ψ) env first ts asked
  terms_same a φ ψ env first term.NoTerm asked all = refl
  terms_same a φ ψ env first (term.MoreTerms u ts) asked all =
      let parts = same_parts φ ψ (mentions u) (all_mentions ts) all in
      terms_same a φ ψ env (first + 1) ts (term_asks (with_functions a φ) env first u asked) parts.1
      ∙ ap (terms_ask (with_functions a ψ) env (first + 1) ts) (term_same a φ ψ env first u asked parts.0)

  alternatives_same : (a : Assumptions) (φ ψ : FunId → Scheme) (env : Environment) (s t : ℕ) (alternatives : Alternatives) (asked : Asked)
      → AllSame φ ψ (alternative_mentions alternatives)
      → alternatives_ask (with_functions a φ) env s t alternatives asked ≡ alternatives_ask (with_functions a ψ) env s t alternatives asked
  alternatives_same a φ ψ env s t term.NoAlternative asked all = refl
  alternatives_same a φ ψ env s t (term.MoreAlternatives p u alternatives) asked all =
      let parts = same_parts φ ψ (mentions u) (alternative_mentions alternatives) all in
      let inner : Environment = bind_from env asked.next (variables_of p) in
      let taken : Asked = taking (length (variables_of p)) asked in
      alternatives_same a φ ψ env s t alternatives
      (term_asks (with_functions a φ) inner t u (pattern_asks (with_functions a φ) inner s p taken)) parts.1
      ∙ ap (alternatives_ask (with_functions a ψ) env s t alternatives)
      (term_same a φ ψ inner t u (pattern_asks (with_functions a φ) inner s p taken) parts.0
      ∙ ap (term_asks (with_functions a ψ) inner t u) (pattern_same a φ ψ inner s p taken))

-- ---- functions

rule_same : (a : Assumptions) (φ ψ : FunId → Scheme) (m : Member) (rule : Rule) (asked : Asked) → AllSame φ ψ (mentions rule.body)
    → rule_asks (with_functions a φ) m rule asked ≡ rule_asks (with_functions a ψ) m rule asked
rule_same a φ ψ m rule asked all =
    let env : Environment = bind_from (λ x. 0) asked.next (all_variables rule.params) in
    let taken : Asked = taking (length (all_variables rule.params)) asked in
    term_same a φ ψ env (result m) rule.body (patterns_ask (with_functions a φ) env m.first rule.params taken) all
    ∙ ap (term_asks (with_functions a ψ) env (result m) rule.body) (patterns_same a φ ψ env m.first rule.params taken)

rules_same : (a : Assumptions) (φ ψ : FunId → Scheme) (m : Member) (rules : List Rule) (asked : Asked)
    → AllSame φ ψ (flat_map (λ rule. mentions rule.body) rules)
    → rules_ask (with_functions a φ) m rules asked ≡ rules_ask (with_functions a ψ) m rules asked
rules_same a φ ψ m [] asked all = refl
rules_same a φ ψ m (rule ∷ rules) asked all =
    let parts = same_parts φ ψ (mentions rule.body) (flat_map (λ rule. mentions rule.body) rules) all in
    rules_same a φ ψ m rules (rule_asks (with_functions a φ) m rule asked) parts.1
    ∙ ap (rules_ask (with_functions a ψ) m rules) (rule_same a φ ψ m rule asked parts.0)

body_same : (kernel : Kernel) (a : Assumptions) (φ ψ : FunId → Scheme) (m : Member) (body : Body) (asked : Asked) → AllSame φ ψ (body_mentions body)
    → body_asks kernel (with_functions a φ) m body asked ≡ body_asks kernel (with_functions a ψ) m body asked
body_same kernel a φ ψ m (calculus.Rules rules) asked all = rules_same a φ ψ m rules asked all
body_same kernel a φ ψ m (calculus.External operation) asked all = refl

-- the same of all functions of a group
abbrev pub GroupSame : (FunId → Scheme) → (FunId → Scheme) → List Member → Type 0
GroupSame φ ψ [] = Unit {0}
GroupSame φ ψ (m ∷ ms) = AllSame φ ψ (body_mentions m.body) × GroupSame φ ψ ms

pub members_same : (kernel : Kernel) (a : Assumptions) (φ ψ : FunId → Scheme) (ms : List Member) (asked : Asked) → GroupSame φ ψ ms
    → members_ask kernel (with_functions a φ) ms asked ≡ members_ask kernel (with_functions a ψ) ms asked
members_same kernel a φ ψ [] asked all = refl
members_same kernel a φ ψ (m ∷ ms) asked all =
    members_same kernel a φ ψ ms (body_asks kernel (with_functions a φ) m m.body (signature_asks m m.declared asked)) all.1
    ∙ ap (members_ask kernel (with_functions a ψ) ms) (body_same kernel a φ ψ m m.body (signature_asks m m.declared asked) all.0)
