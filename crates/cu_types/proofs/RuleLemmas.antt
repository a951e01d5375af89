-- Reading equations off rules.
use Rattle.std.proofs.Common.{◌≡◌, ℕ, zero, suc, ◌+◌, ◌-◌, ◌<◌, ◌≤◌, List, [], ◌∷◌, None, Some, drop, get_or, length, map, min, reverse, slice_get, refl, sym, ap, ◌∙◌, subst, arith}
use Rattle.std.proofs.lemmas.List.{drop_more}
use Rattle.std.proofs.lemmas.Option.{slice_get_past}
use Rattle.std.specs.declared.alloc.Global.{Global}
use Rattle.std.specs.declared.vec.Vec.{Vec}
use Rattle.cu_calculus.proofs.Lists.{get_map}
use Rattle.cu_calculus.specs.Program as calculus
use Rattle.cu_calculus.specs.Term as clean
use Rattle.cu_calculus.specs.Valid.{all_variables}
use Rattle.cu_calculus.specs.declared.FunId.{FunId}
use Rattle.cu_calculus.specs.declared.builtin.Primitive.{Primitive}
use Rattle.cu_kernel.specs.Kernel as kernel
use Rattle.cu_kernel.specs.Kernel.{Kernel}
use Rattle.cu_kernel.specs.KernelOf.{body_meaning, function_meaning, rule_meaning}
use Rattle.cu_kernel.specs.TypeExpr as type
use Rattle.cu_kernel.specs.TypeExpr.{TypeExpr}
use Rattle.cu_kernel.specs.declared.term.Body.{Body}
use Rattle.cu_kernel.specs.declared.term.Body.TheVariants as body
use Rattle.cu_kernel.specs.declared.term.Function.{Function}
use Rattle.cu_kernel.specs.declared.term.Rule.{Rule}
use Rattle.cu_types.proofs.AskingLemmas.{added_stands, adds_then, asked_both}
use Rattle.cu_types.proofs.WalkLemmas.{with_asking}
use Rattle.cu_types.specs.BuiltInTypes.{arrows, external_type, variables_from}
use Rattle.cu_types.specs.Equations as asked_of
use Rattle.cu_types.specs.Equations.{Asked, Assumptions, Environment, Scheme, asking, bind_from, function_body, patterns_ask, renamed, scheme_asks, taking, term_asks}
use Rattle.cu_types.specs.Inside.Asking.{Adds, Asks, IsAsking, StandsAt}
use Rattle.cu_types.specs.Inside.Knowing.{assumptions_by}
use Rattle.cu_types.specs.Inside.Members.{body_between, declared_asks, function_asks, group_asks, member_asks, rule_between, rules_between}
use Rattle.cu_types.specs.Inside.Reading.{IsReader, shapes}
use Rattle.cu_types.specs.Inside.Variables.{environment, undone}
use Rattle.cu_types.specs.Inside.Walking.{IsWalking, Walks, heads, scope}
use Rattle.cu_types.specs.Table.{at, trees}
use Rattle.cu_types.specs.declared.asking.Asking.{Asking}
use Rattle.cu_types.specs.declared.known.Member.{Member}
use Rattle.cu_types.specs.declared.known.Signing.{Signing}
use Rattle.cu_types.specs.declared.variables.Binding.{Binding}
use Rattle.cu_types.specs.declared.variables.Variables.{Variables}
use Rattle.cu_types.specs.declared.walk.Walk.{Walk}

-- ---- walks

-- nothing is read off
pub walks_none : (a : Walk) → IsReader a.asking.reader → Walks a a (λ asked. asked)
walks_none a reader = record {
  reader = reader;
  asked = λ asked is. is;
  heads = refl;
  scope = refl;
}

pub asks_walks : (a : Walk) (b : Asking) (change : Asked → Asked) → Asks a.asking b change → Walks a (with_asking a b) change
asks_walks a b change asks = record {
  reader = asks.reader;
  asked = asks.asked;
  heads = refl;
  scope = refl;
}

pub walking_starts : (a : Walk) (whole : Asked → Asked) → IsReader a.asking.reader → IsWalking a a whole whole
walking_starts a whole reader = record {
  reader = reader;
  going = λ asked is. (asked, is, refl);
  heads = refl;
  scope = refl;
}

pub walking_more : (a b c : Walk) (rest one left whole : Asked → Asked) → IsWalking a b rest whole → Walks b c one
    → ((asked : Asked) → left (one asked) ≡ rest asked) → IsWalking a c left whole
walking_more a b c rest one left whole walking walks same = record {
  reader = walks.reader;
  going = λ asked is.
      let found = walking.going asked is in
      (one found.0, walks.asked found.0 found.1, same found.0 ∙ found.2);
  heads = walks.heads ∙ walking.heads;
  scope = walks.scope ∙ walking.scope;
}

pub walking_ends : (a b : Walk) (rest whole : Asked → Asked) → IsWalking a b rest whole → ((asked : Asked) → rest asked ≡ asked) → Walks a b whole
walking_ends a b rest whole walking none = record {
  reader = walking.reader;
  asked = λ asked is.
      let found = walking.going asked is in
      subst (IsAsking b.asking) (sym (none found.0) ∙ found.2) found.1;
  heads = walking.heads;
  scope = walking.scope;
}

pub past_end : {X : Type 0} (xs : List X) (i : ℕ) → length xs ≤ i → drop i xs ≡ []
past_end [] zero past = refl
past_end [] (suc i) past = refl
past_end (x ∷ xs) zero past = absurd (omega arith)
past_end (x ∷ xs) (suc i) past = past_end xs i (omega arith)

-- ---- rules

pub rule_walks : (a : Walk) (taken : Asking) (bound : Variables) (b c : Walk) (after : Variables) (xs : List ℕ) (bs : List Binding)
    (ps : clean.Patterns) (u : clean.Term) (first right next count : ℕ) → xs ≡ all_variables ps → count ≡ length xs → next ≡ a.asking.next
    → Asks a.asking taken (taking count) → environment bound ≡ bind_from (scope a) next xs → undone (reverse bs) (environment bound) ≡ scope a
    → Walks (record { alloc = a.alloc; signing = a.signing; variables = bound; asking = taken }) b (patterns_ask (heads a) (environment bound) first ps)
    → Walks b c (term_asks (heads b) (scope b) right u) → environment after ≡ undone (reverse bs) (scope c)
    → Walks a (record { alloc = c.alloc; signing = c.signing; variables = after; asking = c.asking })
    (rule_between (heads a) (scope a) first right (record { params = ps; body = u }))
rule_walks a taken bound b c after xs bs ps u first right next count is counted at_first takes binds undoes one two again = record {
  reader = two.reader;
  asked = λ asked was.
      let n : next ≡ asked.next = at_first ∙ was.next in
      let base : Asked = patterns_ask (heads a) (environment bound) first ps (taking count asked) in
      let same_heads : heads b ≡ heads a = ap assumptions_by one.heads in
      let inner : environment bound ≡ bind_from (scope a) asked.next (all_variables ps) =
      binds ∙ ap (λ m. bind_from (scope a) m xs) n ∙ ap (bind_from (scope a) asked.next) is in
      subst (IsAsking c.asking)
      (ap (λ (h : Assumptions). term_asks h (scope b) right u base) same_heads
      ∙ ap (λ (e : Environment). term_asks (heads a) e right u base) one.scope
      ∙ ap (λ (e : Environment). term_asks (heads a) e right u (patterns_ask (heads a) e first ps (taking count asked))) inner
      ∙ ap (λ m. term_asks (heads a) (bind_from (scope a) asked.next (all_variables ps)) right u
      (patterns_ask (heads a) (bind_from (scope a) asked.next (all_variables ps)) first ps (taking m asked))) (counted ∙ ap length is))
      (two.asked base (one.asked (taking count asked) (takes.asked asked was)));
  heads = two.heads ∙ one.heads;
  scope = again ∙ ap (undone (reverse bs)) (two.scope ∙ one.scope) ∙ undoes;
}

-- one more rule
pub rules_step : (a b c : Walk) (whole : Asked → Asked) (rules : List Rule) (i first right : ℕ) (item : Rule) → i < length rules
    → item ≡ get_or rules i item
    → IsWalking a b (rules_between (heads a) (scope a) first right (map rule_meaning (drop i rules))) whole
    → Walks b c (rule_between (heads b) (scope b) first right (rule_meaning item))
    → IsWalking a c (rules_between (heads a) (scope a) first right (map rule_meaning (drop (i + 1) rules))) whole
rules_step a b c whole rules i first right item inside is walking walks =
    let left : Asked → Asked = rules_between (heads a) (scope a) first right (map rule_meaning (drop (i + 1) rules)) in
    walking_more a b c (rules_between (heads a) (scope a) first right (map rule_meaning (drop i rules)))
    (rule_between (heads b) (scope b) first right (rule_meaning item)) left whole walking walks
    (λ asked.
    ap (λ (h : Assumptions). left (rule_between h (scope b) first right (rule_meaning item) asked)) (ap assumptions_by walking.heads)
    ∙ ap (λ (e : Environment). left (rule_between (heads a) e first right (rule_meaning item) asked)) walking.scope
    ∙ ap (λ (r : Rule). left (rule_between (heads a) (scope a) first right (rule_meaning r) asked)) is
    ∙ sym (ap (λ (rs : List Rule). rules_between (heads a) (scope a) first right (map rule_meaning rs) asked) (drop_more rules i item inside)))

pub rules_end : (a b : Walk) (whole : Asked → Asked) (rules : List Rule) (i first right : ℕ) → length rules ≤ i
    → IsWalking a b (rules_between (heads a) (scope a) first right (map rule_meaning (drop i rules))) whole → Walks a b whole
rules_end a b whole rules i first right past walking =
    walking_ends a b (rules_between (heads a) (scope a) first right (map rule_meaning (drop i rules))) whole walking
    (λ asked. ap (λ (rs : List Rule). rules_between (heads a) (scope a) first right (map rule_meaning rs) asked) (past_end rules i past))

pub body_rules : (a b : Walk) (p : Kernel) (first arity right : ℕ) (rules : Vec Rule Global) (now : List Rule) (whole : Body) → right ≡ first + arity
    → now ≡ rules.items → whole ≡ body.Rules rules → Walks a b (rules_between (heads a) (scope a) first right (map rule_meaning now))
    → Walks a b (body_between p (heads a) (scope a) first arity (body_meaning whole))
body_rules a b p first arity right rules now whole at_right same is walks =
    subst (λ (w : Body). Walks a b (body_between p (heads a) (scope a) first arity (body_meaning w))) (sym is)
    (subst (λ (rs : List Rule). Walks a b (rules_between (heads a) (scope a) first (first + arity) (map rule_meaning rs))) same
    (subst (λ (n : ℕ). Walks a b (rules_between (heads a) (scope a) first n (map rule_meaning now))) at_right walks))

-- a built-in operation
pub external_walks : (a : Walk) (b c d : Asking) (p : Kernel) (first arity right place whole : ℕ) (shared : TypeExpr) (operation : Primitive)
    → right ≡ first + arity → shared ≡ external_type p operation → Adds a.asking b (type.Variable right) place
    → Adds b c (arrows (variables_from first arity) (at (trees (shapes b.reader)) place)) whole
    → ((u : TypeExpr) → StandsAt c whole u → Asks c d (scheme_asks (asked_of.Polymorphic [] shared) u))
    → Walks a (with_asking a d) (body_between p (heads a) (scope a) first arity (calculus.External operation))
external_walks a b c d p first arity right place whole shared operation at_right is one two asks =
    let t : TypeExpr = arrows (variables_from first arity) (type.Variable (first + arity)) in
    let stands : StandsAt c whole t =
    subst (StandsAt c whole) (ap (arrows (variables_from first arity)) (one.reads.value ∙ ap (λ n. type.Variable n) at_right))
    (added_stands b c (arrows (variables_from first arity) (at (trees (shapes b.reader)) place)) whole two) in
    let last : Asks c d (scheme_asks (asked_of.Polymorphic [] (external_type p operation)) t) =
    subst (λ (s : TypeExpr). Asks c d (scheme_asks (asked_of.Polymorphic [] s) t)) is (asks t stands) in
    record {
      reader = last.reader;
      asked = λ asked was. last.asked asked (two.asked asked (one.asked asked was));
      heads = refl;
      scope = refl;
    }

-- ---- declared types

-- type variables after the first ones
variables_dropped : (n x count : ℕ) → drop n (variables_from x count) ≡ variables_from (x + min n count) (count - min n count)
variables_dropped zero x count =
    let none : x + min 0 count ≡ x = omega arith in
    let all : count - min 0 count ≡ count = omega arith in
    sym (ap (λ y. variables_from y (count - min 0 count)) none ∙ ap (variables_from x) all)
variables_dropped (suc n) x zero =
    let all : 0 - min (suc n) 0 ≡ 0 = omega arith in
    sym (ap (variables_from (x + min (suc n) 0)) all)
variables_dropped (suc n) x (suc count) =
    let next : x + 1 + min n count ≡ x + min (suc n) (suc count) = omega arith in
    let left : count - min n count ≡ suc count - min (suc n) (suc count) = omega arith in
    variables_dropped n (x + 1) count ∙ ap (λ y. variables_from y (count - min n count)) next
    ∙ ap (variables_from (x + min (suc n) (suc count))) left

pub declared_walks : (a : Walk) (b c d e : Asking) (x arity captured right own skipped first place left made : ℕ) (t : TypeExpr)
    → right ≡ x + arity → own ≡ right + 1 → skipped ≡ min captured arity → first ≡ x + skipped → Adds a.asking b (type.Variable right) place
    → Adds b c (arrows (variables_from first (arity - skipped)) (at (trees (shapes b.reader)) place)) left → Adds c d (renamed own t) made
    → ((s u : TypeExpr) → IsReader d.reader → StandsAt d left s → StandsAt d made u → Asks d e (asking s u))
    → Walks a (with_asking a e) (asking (arrows (drop captured (variables_from x arity)) (type.Variable (x + arity))) (renamed (x + arity + 1) t))
declared_walks a b c d e x arity captured right own skipped first place left made t at_right at_own at_skipped at_first one two three asks =
    let vs : List TypeExpr = variables_from first (arity - skipped) in
    let same : vs ≡ drop captured (variables_from x arity) =
    ap (λ y. variables_from y (arity - skipped)) at_first
    ∙ ap (λ n. variables_from (x + n) (arity - n)) at_skipped ∙ sym (variables_dropped captured x arity) in
    let own_is : own ≡ x + arity + 1 = at_own ∙ ap (λ n. n + 1) at_right in
    let both : Asks a.asking e (asking (arrows vs (type.Variable right)) (renamed own t)) =
    asked_both a.asking c d e (arrows vs (type.Variable right)) (renamed own t) left made
    (adds_then a.asking b c (type.Variable right) (arrows vs (at (trees (shapes b.reader)) place)) (arrows vs (type.Variable right)) place left one
    (ap (arrows vs) one.reads.value) two)
    three asks in
    asks_walks a e _
    (subst (λ (ts : List TypeExpr). Asks a.asking e (asking (arrows ts (type.Variable (x + arity))) (renamed (x + arity + 1) t))) same
    (subst (λ n. Asks a.asking e (asking (arrows vs (type.Variable n)) (renamed (x + arity + 1) t))) at_right
    (subst (λ n. Asks a.asking e (asking (arrows vs (type.Variable right)) (renamed n t))) own_is both)))

-- ---- functions of a group

pub member_walks : (a b c : Walk) (m : Member) (whole : calculus.Body) → Walks a b (declared_asks m m.declared)
    → Walks b c (body_between b.signing.program.now (heads b) (scope b) m.first m.arity whole)
    → Walks a c (member_asks a.signing.program.now (heads a) (scope a) whole m)
member_walks a b c m whole one two = record {
  reader = two.reader;
  asked = λ asked was.
      let base : Asked = declared_asks m m.declared asked in
      subst (IsAsking c.asking)
      (ap (λ (s : Signing). body_between s.program.now (assumptions_by s) (scope b) m.first m.arity whole base) one.heads
      ∙ ap (λ (e : Environment). body_between a.signing.program.now (heads a) e m.first m.arity whole base) one.scope)
      (two.asked base (one.asked asked was));
  heads = two.heads ∙ one.heads;
  scope = two.scope ∙ one.scope;
}

pub found_body : (fs : List Function) (ks : List kernel.Function) (k : ℕ) (f : Function) → map function_meaning fs ≡ ks → slice_get fs k ≡ Some f
    → body_meaning f.body ≡ function_body (slice_get ks k)
found_body fs ks k f same is =
    sym (ap (λ (xs : List kernel.Function). function_body (slice_get xs k)) (sym same) ∙ ap function_body (get_map function_meaning fs k f is))

none_mapped : (fs : List Function) (k : ℕ) → slice_get fs k ≡ None → slice_get (map function_meaning fs) k ≡ None
none_mapped [] k is = refl
none_mapped (f ∷ fs) zero is = let no : ⊥ = cc in absurd no
none_mapped (f ∷ fs) (suc k) is = none_mapped fs k is

pub no_body : (fs : List Function) (ks : List kernel.Function) (k : ℕ) → map function_meaning fs ≡ ks → length fs ≤ k
    → function_body (slice_get ks k) ≡ calculus.Rules []
no_body fs ks k same past =
    ap (λ (xs : List kernel.Function). function_body (slice_get xs k)) (sym same)
    ∙ ap function_body (none_mapped fs k (slice_get_past fs k past))

-- what a function without rules asks for
pub no_rules_walk : (a b : Walk) (p : Kernel) (m : Member) (whole : calculus.Body) → whole ≡ calculus.Rules [] → Walks a b (declared_asks m m.declared)
    → Walks a b (member_asks p (heads a) (scope a) whole m)
no_rules_walk a b p m whole is walks =
    subst (λ (w : calculus.Body). Walks a b (member_asks p (heads a) (scope a) w m)) (sym is)
    (record { reader = walks.reader; asked = walks.asked; heads = walks.heads; scope = walks.scope })

-- one more function
pub group_step : (a b c : Walk) (whole : Asked → Asked) (fs : List FunId) (i : ℕ) (d : FunId) → i < length fs
    → IsWalking a b (group_asks a.signing.program.now (heads a) (scope a) a.signing.known.now (drop i fs)) whole
    → Walks b c (function_asks b.signing.program.now (heads b) (scope b) b.signing.known.now (get_or fs i d))
    → IsWalking a c (group_asks a.signing.program.now (heads a) (scope a) a.signing.known.now (drop (i + 1) fs)) whole
group_step a b c whole fs i d inside walking walks =
    let left : Asked → Asked = group_asks a.signing.program.now (heads a) (scope a) a.signing.known.now (drop (i + 1) fs) in
    walking_more a b c (group_asks a.signing.program.now (heads a) (scope a) a.signing.known.now (drop i fs))
    (function_asks b.signing.program.now (heads b) (scope b) b.signing.known.now (get_or fs i d)) left whole walking walks
    (λ asked.
    ap (λ (s : Signing). left (function_asks s.program.now (assumptions_by s) (scope b) s.known.now (get_or fs i d) asked)) walking.heads
    ∙ ap (λ (e : Environment). left (function_asks a.signing.program.now (heads a) e a.signing.known.now (get_or fs i d) asked)) walking.scope
    ∙ sym (ap (λ (gs : List FunId). group_asks a.signing.program.now (heads a) (scope a) a.signing.known.now gs asked) (drop_more fs i d inside)))

pub group_end : (a b : Walk) (whole : Asked → Asked) (fs : List FunId) (i : ℕ) → length fs ≤ i
    → IsWalking a b (group_asks a.signing.program.now (heads a) (scope a) a.signing.known.now (drop i fs)) whole → Walks a b whole
group_end a b whole fs i past walking =
    walking_ends a b (group_asks a.signing.program.now (heads a) (scope a) a.signing.known.now (drop i fs)) whole walking
    (λ asked. ap (λ (gs : List FunId). group_asks a.signing.program.now (heads a) (scope a) a.signing.known.now gs asked) (past_end fs i past))
