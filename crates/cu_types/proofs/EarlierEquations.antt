-- Equations that were asked for stay among those that are asked for later.
use Rattle.std.proofs.Common.{◌≡◌, ℕ, zero, suc, ◌+◌, List, [], ◌∷◌, Option, None, Some, drop, length, slice_get, subst}
use Rattle.cu_calculus.specs.Program as calculus
use Rattle.cu_calculus.specs.Program.{Body, Rule}
use Rattle.cu_calculus.specs.Term as term
use Rattle.cu_calculus.specs.Term.{Alternatives, Pattern, Patterns, Term, Terms}
use Rattle.cu_calculus.specs.Valid.{all_variables, pattern_count, term_count, variables_of}
use Rattle.cu_calculus.specs.declared.Head.TheVariants as head
use Rattle.cu_calculus.specs.declared.Head.{Head}
use Rattle.cu_kernel.specs.Kernel.{Kernel}
use Rattle.cu_kernel.specs.TypeExpr as type
use Rattle.cu_kernel.specs.TypeExpr.{TypeExpr}
use Rattle.cu_lift.proofs.Elements.{in_prefix, in_last}
use Rattle.cu_lift.specs.Groups.{IsIn}
use Rattle.cu_types.specs.BuiltInTypes.{arrows, external_type, literal_type, variables_from}
use Rattle.cu_types.specs.Equations as asked
use Rattle.cu_types.specs.Equations.{Asked, Assumptions, Environment, Member, Scheme, alternatives_ask, asking, bind, bind_from, body_asks, call_asks, first_declared, head_asks, instance, member_type, members_ask, parameters, pattern_asks, patterns_ask, renamed, result, rule_asks, rules_ask, scheme_asks, set_asks, signature_asks, taking, term_asks, terms_ask}
use Rattle.cu_types.specs.Unification.{Equation}

module _ (e : Equation) where
  asking_stays : (s t : TypeExpr) (a : Asked) → IsIn a.equations e → IsIn (asking s t a).equations e
  asking_stays s t a there = in_prefix e a.equations (record { left = s; right = t } ∷ []) there

  scheme_stays : (s : Scheme) (t : TypeExpr) (a : Asked) → IsIn a.equations e → IsIn (scheme_asks s t a).equations e
  scheme_stays s t a there = asking_stays (instance a.next s) t a there

  head_stays : (x : Assumptions) (h : Head) (t : TypeExpr) (a : Asked) → IsIn a.equations e → IsIn (head_asks x h t a).equations e
  head_stays x (head.Fun f) t a there = scheme_stays (x.function f) t a there
  head_stays x (head.Con c) t a there = scheme_stays (asked.Polymorphic [] (x.constructor c)) t a there
  head_stays x (head.Set f) t a there =
      let arguments : List TypeExpr = variables_from a.next (x.arity f) in
      let value : TypeExpr = type.Variable (a.next + x.arity f) in
      let taken : Asked = taking (x.arity f + 1) a in
      scheme_stays (x.function f) (arrows arguments value) (asking (arrows arguments (x.values value)) t taken)
      (asking_stays (arrows arguments (x.values value)) t taken there)

  call_stays : (x : Assumptions) (h : Head) (first count t : ℕ) (a : Asked) → IsIn a.equations e
      → IsIn (call_asks x h first count t a).equations e
  call_stays x h first count t a there = head_stays x h (arrows (variables_from first count) (type.Variable t)) a there

  mutual
    pattern_stays : (x : Assumptions) (env : Environment) (t : ℕ) (p : Pattern) (a : Asked) → IsIn a.equations e
        → IsIn (pattern_asks x env t p a).equations e
    pattern_stays x env t (term.Any y) a there = asking_stays (type.Variable (env y)) (type.Variable t) a there
    pattern_stays x env t (term.Exactly l) a there = asking_stays (literal_type l) (type.Variable t) a there
    pattern_stays x env t (term.Built c ps) a there =
        patterns_stay x env a.next ps (call_asks x (head.Con c) a.next (pattern_count ps) t (taking (pattern_count ps) a))
        (call_stays x (head.Con c) a.next (pattern_count ps) t (taking (pattern_count ps) a) there)
    pattern_stays x env t (term.Named y p) a there =
        pattern_stays x env t p (asking (type.Variable (env y)) (type.Variable t) a)
        (asking_stays (type.Variable (env y)) (type.Variable t) a there)

    patterns_stay : (x : Assumptions) (env : Environment) (first : ℕ) (ps : Patterns) (a : Asked) → IsIn a.equations e
        → IsIn (patterns_ask x env first ps a).equations e
    patterns_stay x env first term.NoPattern a there = there
    patterns_stay x env first (term.MorePatterns p ps) a there =
        patterns_stay x env (first + 1) ps (pattern_asks x env first p a) (pattern_stays x env first p a there)

  mutual
    term_stays : (x : Assumptions) (env : Environment) (t : ℕ) (u : Term) (a : Asked) → IsIn a.equations e
        → IsIn (term_asks x env t u a).equations e
    term_stays x env t (term.Variable y) a there = asking_stays (type.Variable (env y)) (type.Variable t) a there
    term_stays x env t (term.Literal l) a there = asking_stays (literal_type l) (type.Variable t) a there
    term_stays x env t (term.Whole h ts) a there =
        terms_stay x env a.next ts (call_asks x h a.next (term_count ts) t (taking (term_count ts) a))
        (call_stays x h a.next (term_count ts) t (taking (term_count ts) a) there)
    term_stays x env t (term.Part h ts) a there =
        terms_stay x env a.next ts (call_asks x h a.next (term_count ts) t (taking (term_count ts) a))
        (call_stays x h a.next (term_count ts) t (taking (term_count ts) a) there)
    term_stays x env t (term.Apply f u) a there =
        let left : TypeExpr = type.Arrow (type.Variable a.next) (type.Variable t) in
        let right : TypeExpr = type.Variable (a.next + 1) in
        let one : Asked = asking left right (taking 2 a) in
        term_stays x env a.next u (term_asks x env (a.next + 1) f one)
        (term_stays x env (a.next + 1) f one (asking_stays left right (taking 2 a) there))
    term_stays x env t (term.Let y v u) a there =
        term_stays x (bind env y a.next) t u (term_asks x env a.next v (taking 1 a)) (term_stays x env a.next v (taking 1 a) there)
    term_stays x env t (term.Free y u) a there = term_stays x (bind env y a.next) t u (taking 1 a) there
    term_stays x env t (term.Or u v) a there = term_stays x env t v (term_asks x env t u a) (term_stays x env t u a there)
    term_stays x env t (term.Case mode u alternatives) a there =
        alternatives_stay x env a.next t alternatives (term_asks x env a.next u (taking 1 a)) (term_stays x env a.next u (taking 1 a) there)

    terms_stay : (x : Assumptions) (env : Environment) (first : ℕ) (ts : Terms) (a : Asked) → IsIn a.equations e
        → IsIn (terms_ask x env first ts a).equations e
    terms_stay x env first term.NoTerm a there = there
    terms_stay x env first (term.MoreTerms u ts) a there =
        terms_stay x env (first + 1) ts (term_asks x env first u a) (term_stays x env first u a there)

    alternatives_stay : (x : Assumptions) (env : Environment) (s t : ℕ) (alternatives : Alternatives) (a : Asked) → IsIn a.equations e
        → IsIn (alternatives_ask x env s t alternatives a).equations e
    alternatives_stay x env s t term.NoAlternative a there = there
    alternatives_stay x env s t (term.MoreAlternatives p u alternatives) a there =
        let inner : Environment = bind_from env a.next (variables_of p) in
        let taken : Asked = taking (length (variables_of p)) a in
        alternatives_stay x env s t alternatives (term_asks x inner t u (pattern_asks x inner s p taken))
        (term_stays x inner t u (pattern_asks x inner s p taken) (pattern_stays x inner s p taken there))

  rule_stays : (x : Assumptions) (m : Member) (rule : Rule) (a : Asked) → IsIn a.equations e → IsIn (rule_asks x m rule a).equations e
  rule_stays x m rule a there =
      let env : Environment = bind_from (λ y. 0) a.next (all_variables rule.params) in
      let taken : Asked = taking (length (all_variables rule.params)) a in
      term_stays x env (result m) rule.body (patterns_ask x env m.first rule.params taken)
      (patterns_stay x env m.first rule.params taken there)

  rules_stay : (x : Assumptions) (m : Member) (rules : List Rule) (a : Asked) → IsIn a.equations e → IsIn (rules_ask x m rules a).equations e
  rules_stay x m [] a there = there
  rules_stay x m (rule ∷ rules) a there = rules_stay x m rules (rule_asks x m rule a) (rule_stays x m rule a there)

  body_stays : (p : Kernel) (x : Assumptions) (m : Member) (body : Body) (a : Asked) → IsIn a.equations e
      → IsIn (body_asks p x m body a).equations e
  body_stays p x m (calculus.Rules rules) a there = rules_stay x m rules a there
  body_stays p x m (calculus.External operation) a there =
      scheme_stays (asked.Polymorphic [] (external_type p operation)) (member_type m) a there

  signature_stays : (m : Member) (declared : Option TypeExpr) (a : Asked) → IsIn a.equations e
      → IsIn (signature_asks m declared a).equations e
  signature_stays m None a there = there
  signature_stays m (Some t) a there =
      asking_stays (arrows (drop m.captured (parameters m)) (type.Variable (result m))) (renamed (first_declared m) t) a there

  members_stay : (p : Kernel) (x : Assumptions) (ms : List Member) (a : Asked) → IsIn a.equations e
      → IsIn (members_ask p x ms a).equations e
  members_stay p x [] a there = there
  members_stay p x (m ∷ ms) a there =
      members_stay p x ms (body_asks p x m m.body (signature_asks m m.declared a))
      (body_stays p x m m.body (signature_asks m m.declared a) (signature_stays m m.declared a there))

-- that a function has its declared type
abbrev pub signature_of : Member → TypeExpr → Equation
signature_of m t = record {
  left = arrows (drop m.captured (parameters m)) (type.Variable (result m));
  right = renamed (first_declared m) t;
}

signature_asked : (m : Member) (t : TypeExpr) (declared : Option TypeExpr) (a : Asked) → declared ≡ Some t
    → IsIn (signature_asks m declared a).equations (signature_of m t)
signature_asked m t None a is = let no : ⊥ = cc in absurd no
signature_asked m t (Some u) a is =
    let same : u ≡ t = cc in
    subst (λ (v : TypeExpr). IsIn (signature_asks m (Some u) a).equations (signature_of m v)) same
    (in_last (signature_of m u) a.equations)

-- the declared type of a function of a group is asked for
pub signature_there : (p : Kernel) (x : Assumptions) (ms : List Member) (a : Asked) (k : ℕ) (m : Member) (t : TypeExpr)
    → slice_get ms k ≡ Some m → m.declared ≡ Some t → IsIn (members_ask p x ms a).equations (signature_of m t)
signature_there p x [] a k m t at is = let no : ⊥ = cc in absurd no
signature_there p x (n ∷ ms) a zero m t at is =
    let same : m ≡ n = cc in
    members_stay (signature_of m t) p x ms (body_asks p x n n.body (signature_asks n n.declared a))
    (body_stays (signature_of m t) p x n n.body (signature_asks n n.declared a)
    (subst (λ (c : Member). IsIn (signature_asks c c.declared a).equations (signature_of m t)) same (signature_asked m t m.declared a is)))
signature_there p x (n ∷ ms) a (suc k) m t at is =
    signature_there p x ms (body_asks p x n n.body (signature_asks n n.declared a)) k m t at is
