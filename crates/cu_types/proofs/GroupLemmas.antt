-- The functions of a group: how they become members, what is known of heads then, and the equations that are asked for.
use Rattle.std.proofs.Common.{◌≡◌, ◌≢◌, ℕ, zero, suc, ◌+◌, ◌<◌, ◌≤◌, inl, inr, Bool, true, false, IsTrue, if◌then◌else◌, List, [], ◌∷◌, Option, None, Some, drop, get_or, length, map, nat_eq, nat_lt, set, slice_get, slice_index_or, refl, sym, ap, ◌∙◌, subst, arith}
use Rattle.std.proofs.Math.ListN.{length-set}
use Rattle.std.proofs.lemmas.Bool.{and_parts, cases_eq, eq-eqb, ne_eqb}
use Rattle.std.proofs.lemmas.List.{drop_more}
use Rattle.std.specs.List.{list_all}
use mathlib.Core.Path.{fun_ext}
use Rattle.cu_calculus.specs.Program as calculus
use Rattle.cu_calculus.specs.Program.{Body}
use Rattle.cu_calculus.specs.declared.ConId.{ConId}
use Rattle.cu_calculus.specs.declared.FunId.{FunId}
use Rattle.cu_kernel.specs.Captures.{are_rising}
use Rattle.cu_kernel.specs.Kernel.{Kernel}
use Rattle.cu_kernel.specs.TypeExpr as type
use Rattle.cu_kernel.specs.TypeExpr.{TypeExpr}
use Rattle.cu_lift.proofs.Leaders.{less_from}
use Rattle.cu_cycles.proofs.Places.{set_elsewhere, set_there, there}
use Rattle.cu_lift.specs.Groups.{numbers}
use Rattle.cu_types.specs.BuiltInTypes.{constructor_type, values}
use Rattle.cu_types.specs.Equations as asked
use Rattle.cu_types.specs.Equations.{Asked, Assumptions, Scheme, assumptions_of, body_asks, equations, function_body, members, members_ask, members_from, rules_ask, scheme_by, scheme_in, signature_asks}
use Rattle.cu_types.specs.Inside.Grouping.{AreWithin, HasNoMembers, end_from, entered, known_assumptions, left, left_with, numbers_of, plain_member}
use Rattle.cu_types.specs.Inside.Knowing.{AreMembers, IsMember, kept_type, member_of, member_scheme, scheme_known, values_at}
use Rattle.cu_types.specs.Inside.Members.{body_between, declared_asks, function_asks, group_asks, known_asks, rules_between}
use Rattle.cu_types.specs.Table.{at}
use Rattle.cu_types.specs.Types.{Substitution}
use Rattle.cu_types.specs.declared.known.Known.{Known}
use Rattle.cu_types.specs.declared.known.Known.TheVariants as known
use Rattle.cu_types.specs.declared.known.Member.{Member}

-- ---- functions become members

-- no function of a list is this one
abbrev pub Lacks : ℕ → List FunId → Type 0
Lacks k [] = Unit {0}
Lacks k (f ∷ fs) = (k ≢ f.0) × Lacks k fs

pub entered_elsewhere : (p : Kernel) (first : ℕ) (fs : List FunId) (ks : List Known) (k : ℕ) → Lacks k fs
    → slice_get (entered p first fs ks) k ≡ slice_get ks k
entered_elsewhere p first [] ks k lacks = refl
entered_elsewhere p first (f ∷ fs) ks k lacks =
    let m : asked.Member = asked.member p first f in
    entered_elsewhere p (asked.end_of m) fs (set ks f.0 (known.Member (plain_member m))) k lacks.1
    ∙ set_elsewhere ks f.0 k (known.Member (plain_member m)) lacks.0

pub entered_length : (p : Kernel) (first : ℕ) (fs : List FunId) (ks : List Known) → length (entered p first fs ks) ≡ length ks
entered_length p first [] ks = refl
entered_length p first (f ∷ fs) ks =
    let m : asked.Member = asked.member p first f in
    entered_length p (asked.end_of m) fs (set ks f.0 (known.Member (plain_member m))) ∙ length-set ks f.0 (known.Member (plain_member m))

-- numbers that rise lack those below them
pub lacks_below : (k : ℕ) (fs : List FunId) → IsTrue (list_all (nat_lt k) (numbers fs)) → Lacks k fs
lacks_below k [] all = tt
lacks_below k (f ∷ fs) all =
    let parts = and_parts (nat_lt k f.0) (list_all (nat_lt k) (numbers fs)) all in
    let less : k < f.0 = less_from k f.0 parts.0 in
    ((λ e. absurd (omega (arith, less, e))), lacks_below k fs parts.1)

pub are_members : (p : Kernel) (first : ℕ) (fs : List FunId) (ks : List Known) → IsTrue (are_rising (numbers fs)) → AreWithin fs (length ks)
    → AreMembers p (entered p first fs ks) fs (members_from p first fs)
are_members p first [] ks rising within = tt
are_members p first (f ∷ fs) ks rising within =
    let m : asked.Member = asked.member p first f in
    let now : List Known = set ks f.0 (known.Member (plain_member m)) in
    let parts = and_parts (list_all (nat_lt f.0) (numbers fs)) (are_rising (numbers fs)) rising in
    let old = there ks f.0 (within 0 f refl) in
    let is : slice_get (entered p (asked.end_of m) fs now) f.0 ≡ Some (known.Member (plain_member m)) =
    entered_elsewhere p (asked.end_of m) fs now f.0 (lacks_below f.0 fs parts.0)
    ∙ set_there ks f.0 (known.Member (plain_member m)) old.0 old.1 in (
      subst (λ (k : Option Known). IsMember p k f m) (sym is) refl,
      are_members p (asked.end_of m) fs now parts.1
          (λ k g e. subst (λ (n : ℕ). g.0 < n) (sym (length-set ks f.0 (known.Member (plain_member m)))) (within (suc k) g e)),
    )

-- ---- equations

rules_meant : (a : Assumptions) (m : asked.Member) (rules : List calculus.Rule) (b : Asked)
    → rules_between a (λ x. 0) m.first (m.first + m.arity) rules b ≡ rules_ask a m rules b
rules_meant a m [] b = refl
rules_meant a m (rule ∷ rules) b = rules_meant a m rules (asked.rule_asks a m rule b)

body_meant : (p : Kernel) (a : Assumptions) (m : asked.Member) (body : Body) (b : Asked)
    → body_between p a (λ x. 0) m.first m.arity body b ≡ body_asks p a m body b
body_meant p a m (calculus.Rules rules) b = rules_meant a m rules b
body_meant p a m (calculus.External operation) b = refl

declared_meant : (p : Kernel) (f : FunId) (c : Member) (d : Option TypeExpr) (b : Asked)
    → declared_asks c d b ≡ signature_asks (member_of p f c) d b
declared_meant p f c None b = refl
declared_meant p f c (Some t) b = refl

known_meant : (p : Kernel) (a : Assumptions) (o : Option Known) (f : FunId) (m : asked.Member) (b : Asked) → IsMember p o f m
    → known_asks p a (λ x. 0) (function_body (slice_get p.functions f.0)) o b ≡ body_asks p a m m.body (signature_asks m m.declared b)
known_meant p a None f m b is = absurd is
known_meant p a (Some known.Nothing) f m b is = absurd is
known_meant p a (Some (known.Typed t)) f m b is = absurd is
known_meant p a (Some (known.Member c)) f m b is =
    let body : Body = function_body (slice_get p.functions f.0) in
    subst (λ (n : asked.Member). known_asks p a (λ x. 0) body (Some (known.Member c)) b ≡ body_asks p a n n.body (signature_asks n n.declared b)) is
    (body_meant p a (member_of p f c) body (declared_asks c c.declared b)
    ∙ ap (body_asks p a (member_of p f c) body) (declared_meant p f c c.declared b))

group_meant : (p : Kernel) (a : Assumptions) (ks : List Known) (fs : List FunId) (ms : List asked.Member) (b : Asked) → AreMembers p ks fs ms
    → group_asks p a (λ x. 0) ks fs b ≡ members_ask p a ms b
group_meant p a ks [] [] b all = refl
group_meant p a ks [] (m ∷ ms) b all = absurd all
group_meant p a ks (f ∷ fs) [] b all = absurd all
group_meant p a ks (f ∷ fs) (m ∷ ms) b all =
    group_meant p a ks fs ms (function_asks p a (λ x. 0) ks f b) all.1
    ∙ ap (members_ask p a ms) (known_meant p a (slice_get ks f.0) f m b all.0)

-- ---- what is known of heads

by_declared : (p : Kernel) (f : FunId) (c : Member) (d : Option TypeExpr) → member_scheme c d ≡ scheme_by (member_of p f c) d
by_declared p f c None = refl
by_declared p f c (Some t) = refl

member_is : (p : Kernel) (o : Option Known) (f : FunId) (m : asked.Member) → IsMember p o f m
    → (scheme_known o ≡ scheme_by m m.declared) × (m.function.0 ≡ f.0)
member_is p None f m is = absurd is
member_is p (Some known.Nothing) f m is = absurd is
member_is p (Some (known.Typed t)) f m is = absurd is
member_is p (Some (known.Member c)) f m is = (
  subst (λ (n : asked.Member). member_scheme c c.declared ≡ scheme_by n n.declared) is (by_declared p f c c.declared),
  sym (ap (λ (n : asked.Member). n.function.0) is),
)

chosen : (b : Bool) (x y : Scheme) → b ≡ true → (if b then x else y) ≡ x
chosen true x y is = refl
chosen false x y is = let no : ⊥ = cc in absurd no

passed_by : (b : Bool) (x y : Scheme) → b ≡ false → (if b then x else y) ≡ y
passed_by true x y is = let no : ⊥ = cc in absurd no
passed_by false x y is = refl

scheme_found : (p : Kernel) (ks : List Known) (fs : List FunId) (ms : List asked.Member) (o : Scheme) (f : FunId) → AreMembers p ks fs ms
    → (Lacks f.0 fs → scheme_known (slice_get ks f.0) ≡ o) → scheme_known (slice_get ks f.0) ≡ scheme_in ms o f
scheme_found p ks [] [] o f all other = other tt
scheme_found p ks [] (m ∷ ms) o f all other = absurd all
scheme_found p ks (g ∷ fs) [] o f all other = absurd all
scheme_found p ks (g ∷ fs) (m ∷ ms) o f all other =
    let is = member_is p (slice_get ks g.0) g m all.0 in
    elim (cases_eq m.function.0 f.0) [
      | inl same ↦
          let at_f : g.0 ≡ f.0 = sym is.1 ∙ same in
          subst (λ (n : ℕ). scheme_known (slice_get ks n) ≡ scheme_by m m.declared) at_f is.0
          ∙ sym (chosen (nat_eq m.function.0 f.0) (scheme_by m m.declared) (scheme_in ms o f) (eq-eqb m.function.0 f.0 same))
      | inr apart ↦
          scheme_found p ks fs ms o f all.1 (λ lacks. other ((λ e. apart (is.1 ∙ sym e)), lacks))
          ∙ sym (passed_by (nat_eq m.function.0 f.0) (scheme_by m m.declared) (scheme_in ms o f) (ne_eqb m.function.0 f.0 apart))
    ]

kept_scheme : (ks : List Known) (k : ℕ) → HasNoMembers ks
    → scheme_known (slice_get ks k) ≡ asked.Polymorphic [] (slice_index_or (map kept_type ks) k (type.Variable 0))
kept_scheme [] k none = refl
kept_scheme (known.Nothing ∷ ks) zero none = refl
kept_scheme (known.Typed t ∷ ks) zero none = refl
kept_scheme (known.Member m ∷ ks) zero none = absurd (none 0 m refl)
kept_scheme (x ∷ ks) (suc k) none = kept_scheme ks k (λ n m e. none (suc n) m e)

made : Kernel → (FunId → Scheme) → (ConId → TypeExpr) → (TypeExpr → TypeExpr) → Assumptions
made p φ κ ω = record { function = φ; constructor = κ; arity = λ f. asked.arity_of (slice_get p.functions f.0); values = ω }

assumptions_same : (p : Kernel) (constructors : List TypeExpr) (before : List Known) (fs : List FunId) (place : Option ℕ)
    → IsTrue (are_rising (numbers fs)) → AreWithin fs (length before) → HasNoMembers before
    → ((c : ConId) → at constructors c.0 ≡ constructor_type p c) → values_at place ≡ values p
    → known_assumptions p constructors (entered p 0 fs before) place ≡ assumptions_of p (map kept_type before) (members_from p 0 fs)
unfolding made
assumptions_same p constructors before fs place rising within none made_types values_are =
    let ks : List Known = entered p 0 fs before in
    let ms : List asked.Member = members_from p 0 fs in
    let φ : FunId → Scheme = λ f. scheme_known (slice_get ks f.0) in
    let ψ : FunId → Scheme = λ f. scheme_in ms (asked.Polymorphic [] (slice_index_or (map kept_type before) f.0 (type.Variable 0))) f in
    let functions : φ ≡ ψ =
    fun_ext (λ f. scheme_found p ks fs ms (asked.Polymorphic [] (slice_index_or (map kept_type before) f.0 (type.Variable 0))) f
    (are_members p 0 fs before rising within)
    (λ lacks. ap scheme_known (entered_elsewhere p 0 fs before f.0 lacks) ∙ kept_scheme before f.0 none)) in
    let κ : ConId → TypeExpr = λ c. slice_index_or constructors c.0 (type.Variable 0) in
    let constructed : κ ≡ constructor_type p = fun_ext made_types in
    ap (λ (x : FunId → Scheme). made p x κ (values_at place)) functions
    ∙ ap (λ (x : ConId → TypeExpr). made p ψ x (values_at place)) constructed
    ∙ ap (made p ψ (constructor_type p)) values_are

ends_meant : (p : Kernel) (first : ℕ) (fs : List FunId) → end_from p first fs ≡ asked.end_of_all first (members_from p first fs)
ends_meant p first [] = refl
ends_meant p first (f ∷ fs) = ends_meant p (asked.end_of (asked.member p first f)) fs

-- the equations that are asked for are those of the group
pub equations_meant : (p : Kernel) (constructors : List TypeExpr) (before : List Known) (fs : List FunId) (place : Option ℕ)
    → IsTrue (are_rising (numbers fs)) → AreWithin fs (length before) → HasNoMembers before
    → ((c : ConId) → at constructors c.0 ≡ constructor_type p c) → values_at place ≡ values p
    → (group_asks p (known_assumptions p constructors (entered p 0 fs before) place) (λ x. 0) (entered p 0 fs before) fs
    (record { next = end_from p 0 fs; equations = [] })).equations ≡ equations p (map kept_type before) fs
unfolding equations members
equations_meant p constructors before fs place rising within none made_types values_are =
    let ks : List Known = entered p 0 fs before in
    let ms : List asked.Member = members_from p 0 fs in
    let a : Assumptions = known_assumptions p constructors ks place in
    let start : ℕ → Asked = λ n. record { next = n; equations = [] } in
    ap (λ (b : Asked). b.equations)
    (group_meant p a ks fs ms (start (end_from p 0 fs)) (are_members p 0 fs before rising within)
    ∙ ap (λ (x : Assumptions). members_ask p x ms (start (end_from p 0 fs)))
    (assumptions_same p constructors before fs place rising within none made_types values_are)
    ∙ ap (λ (n : ℕ). members_ask p (assumptions_of p (map kept_type before) ms) ms (start n)) (ends_meant p 0 fs))

pub members_are : (p : Kernel) (fs : List FunId) (before : List Known) → IsTrue (are_rising (numbers fs)) → AreWithin fs (length before)
    → AreMembers p (entered p 0 fs before) fs (members p fs)
unfolding members
members_are p fs before rising within = are_members p 0 fs before rising within

-- ---- loops

pub end_is : (m : Member) (n : asked.Member) (end : ℕ) → m ≡ plain_member n → end ≡ m.first + m.arity + 1 + asked.declared_breadth m.declared
    → end ≡ asked.end_of n
end_is m n end is at_end = at_end ∙ ap (λ (c : Member). c.first + c.arity + 1 + asked.declared_breadth c.declared) is

pub entered_step : (p : Kernel) (next end : ℕ) (fs : List FunId) (i : ℕ) (d : FunId) (ks : List Known) (m : Member) (whole : List Known)
    → i < length fs → m ≡ plain_member (asked.member p next (get_or fs i d))
    → end ≡ m.first + m.arity + 1 + asked.declared_breadth m.declared → entered p next (drop i fs) ks ≡ whole
    → entered p end (drop (i + 1) fs) (set ks (get_or fs i d).0 (known.Member m)) ≡ whole
entered_step p next end fs i d ks m whole inside is at_end before =
    let f : FunId = get_or fs i d in
    let n : asked.Member = asked.member p next f in
    ap (λ (e : ℕ). entered p e (drop (i + 1) fs) (set ks f.0 (known.Member m))) (end_is m n end is at_end)
    ∙ ap (λ (c : Member). entered p (asked.end_of n) (drop (i + 1) fs) (set ks f.0 (known.Member c))) is
    ∙ sym (ap (λ (gs : List FunId). entered p next gs ks) (drop_more fs i d inside)) ∙ before

pub end_step : (p : Kernel) (next end : ℕ) (fs : List FunId) (i : ℕ) (d : FunId) (m : Member) (whole : ℕ)
    → i < length fs → m ≡ plain_member (asked.member p next (get_or fs i d))
    → end ≡ m.first + m.arity + 1 + asked.declared_breadth m.declared → end_from p next (drop i fs) ≡ whole
    → end_from p end (drop (i + 1) fs) ≡ whole
end_step p next end fs i d m whole inside is at_end before =
    let n : asked.Member = asked.member p next (get_or fs i d) in
    ap (λ (e : ℕ). end_from p e (drop (i + 1) fs)) (end_is m n end is at_end)
    ∙ sym (ap (λ (gs : List FunId). end_from p next gs) (drop_more fs i d inside)) ∙ before

past_end : (fs : List FunId) (i : ℕ) → length fs ≤ i → drop i fs ≡ []
past_end [] zero past = refl
past_end [] (suc i) past = refl
past_end (x ∷ xs) zero past = absurd (omega arith)
past_end (x ∷ xs) (suc i) past = past_end xs i (omega arith)

pub entered_end : (p : Kernel) (next : ℕ) (fs : List FunId) (i : ℕ) (ks whole : List Known) → length fs ≤ i
    → entered p next (drop i fs) ks ≡ whole → ks ≡ whole
entered_end p next fs i ks whole past before = sym (ap (λ (gs : List FunId). entered p next gs ks) (past_end fs i past)) ∙ before

pub end_end : (p : Kernel) (next : ℕ) (fs : List FunId) (i whole : ℕ) → length fs ≤ i → end_from p next (drop i fs) ≡ whole → next ≡ whole
end_end p next fs i whole past before = sym (ap (λ (gs : List FunId). end_from p next gs) (past_end fs i past)) ∙ before

pub left_step : (σ τ : Substitution) (fs : List FunId) (i : ℕ) (d : FunId) (ks now whole : List Known) → i < length fs
    → ((x : ℕ) → τ x ≡ σ x) → now ≡ left_with τ (get_or fs i d) (numbers_of (slice_get ks (get_or fs i d).0)) ks
    → left σ (drop i fs) ks ≡ whole → left σ (drop (i + 1) fs) now ≡ whole
left_step σ τ fs i d ks now whole inside same is before =
    let f : FunId = get_or fs i d in
    ap (left σ (drop (i + 1) fs)) is
    ∙ ap (λ (ρ : Substitution). left σ (drop (i + 1) fs) (left_with ρ f (numbers_of (slice_get ks f.0)) ks)) (fun_ext same)
    ∙ sym (ap (λ (gs : List FunId). left σ gs ks) (drop_more fs i d inside)) ∙ before

pub left_end : (σ : Substitution) (fs : List FunId) (i : ℕ) (ks whole : List Known) → length fs ≤ i → left σ (drop i fs) ks ≡ whole → ks ≡ whole
left_end σ fs i ks whole past before = sym (ap (λ (gs : List FunId). left σ gs ks) (past_end fs i past)) ∙ before
