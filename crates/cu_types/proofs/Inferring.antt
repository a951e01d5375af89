-- The types of groups, one after another.
use Rattle.std.proofs.Common.{◌≡◌, ◌≢◌, ℕ, zero, suc, ◌+◌, ◌<◌, ◌≤◌, ◌⊎◌, inl, inr, Bool, IsTrue, if◌then◌else◌, List, [], ◌∷◌, Option, None, Some, length, map, nat_lt, replicate, drop, get_or, slice_get, slice_index_or, take, refl, sym, ap, ◌∙◌, subst, arith}
use Rattle.std.proofs.Math.ListN.{length-set}
use Rattle.std.proofs.lemmas.Bool.{and_parts, cases_eq, eq-eqb, ne_eqb}
use Rattle.std.proofs.lemmas.List.{drop_more, length-replicate}
use Rattle.std.proofs.lemmas.Option.{slice_get_read}
use Rattle.std.specs.List.{list_all}
use Rattle.std.specs.declared.alloc.Global.{Global}
use Rattle.std.specs.declared.vec.Vec.{Vec}
use Rattle.cu_calculus.proofs.Lists.{get_map}
use Rattle.cu_calculus.specs.Claims.{Collected, Mention, Plain, body_mentions}
use Rattle.cu_calculus.specs.Program as calculus
use Rattle.cu_calculus.specs.Program.{Body}
use Rattle.cu_calculus.specs.declared.FunId.{FunId}
use Rattle.cu_kernel.specs.Captures.{are_rising}
use Rattle.cu_kernel.specs.Kernel as kernel
use Rattle.cu_kernel.specs.Kernel.{Kernel, plain_function, program_of}
use Rattle.cu_kernel.specs.KernelOf.{function_meaning}
use Rattle.cu_kernel.specs.TypeExpr as type
use Rattle.cu_kernel.specs.TypeExpr.{TypeExpr}
use Rattle.cu_kernel.specs.declared.term.Function.{Function}
use Rattle.cu_lift.proofs.Bridges.{function_at}
use Rattle.cu_lift.proofs.Elements.{first_or_rest, in_first, in_rest}
use Rattle.cu_lift.proofs.GroupLaws.{same_group}
use Rattle.cu_cycles.proofs.Places.{set_elsewhere, set_there, take_less, within}
use Rattle.cu_lift.specs.Groups.{AreGroups, IsGroup, IsIn, IsPlaced, numbers}
use Rattle.cu_lift.specs.Walks.{Has, Mentions}
use Rattle.cu_lift.specs.Groups.{lists_of}
use Rattle.cu_types.proofs.GroupLemmas.{Lacks, entered_elsewhere, entered_length, lacks_below, members_are}
use Rattle.cu_types.proofs.SameEquations.{AllSame, GroupSame, MentionSame, members_same}
use Rattle.cu_types.specs.Equations as asked
use Rattle.cu_types.specs.Equations.{Asked, Assumptions, Member, Scheme, assumptions_of, equations, function_body, member_type, members, members_ask, members_from, scheme_by, scheme_in}
use Rattle.cu_types.specs.Inference.{BreaksSignature, ComesTo, HasPrincipalTypes, IsTyped, PrincipallyTyped, type_in}
use Rattle.cu_types.specs.Inside.Grouping.{AreWithin, HasNoMembers, IsKnown, IsLeft, Outcomes, entered, left, left_with, numbers_of, own_type}
use Rattle.cu_types.specs.Inside.Inferring.{Ended, Fails, Stepped}
use Rattle.cu_types.specs.Meaning.{Clashes}
use Rattle.cu_types.specs.TypeFaults.{IsTypeFault}
use Rattle.cu_types.specs.Inside.Knowing.{AreMembers, IsMember, kept_type, member_of}
use Rattle.cu_types.specs.Numbered.{numbered}
use Rattle.cu_types.specs.Types.{Substitution, apply}
use Rattle.cu_types.specs.Unification.{IsMostGeneral}
use Rattle.cu_types.specs.declared.group.Outcome.{Outcome}
use Rattle.cu_types.specs.declared.group.Outcome.TheVariants as outcome
use Rattle.cu_types.specs.declared.inference.TypeFault.{TypeFault}
use Rattle.cu_types.specs.declared.inference.TypeFault.TheVariants as fault
use Rattle.cu_types.specs.declared.unification.Clash.{Clash}
use Rattle.cu_types.specs.declared.known.Known.{Known}
use Rattle.cu_types.specs.declared.known.Known.TheVariants as known
use Rattle.cu_types.specs.declared.known.Numbers.{Numbers}

-- ---- functions that a group has, or lacks

pub in_or_lacks : (g : FunId) (fs : List FunId) → IsIn fs g ⊎ Lacks g.0 fs
in_or_lacks g [] = inr tt
in_or_lacks g (f ∷ fs) = elim (cases_eq g.0 f.0) [
  | inl same ↦ inl (subst (λ (h : FunId). IsIn (f ∷ fs) h) (ap function_at (sym same)) (in_first f fs))
  | inr other ↦ elim (in_or_lacks g fs) [ inl there ↦ inl (in_rest g f fs there) | inr lacks ↦ inr (other, lacks) ]
]

pub lacks_in : (g : FunId) (fs : List FunId) → IsIn fs g → Lacks g.0 fs → ⊥
lacks_in g [] (k, e) lacks = let no : ⊥ = cc in no
lacks_in g (f ∷ fs) there lacks = elim (first_or_rest g f fs there) [
  | inl same ↦ lacks.0 (ap (λ (h : FunId). h.0) (sym same))
  | inr rest ↦ lacks_in g fs rest lacks.1
]

-- ---- equations depend on what rules mention

all_same_of : (φ ψ : FunId → Scheme) (ms : List Mention) → ((k : ℕ) (m : Mention) → slice_get ms k ≡ Some m → MentionSame φ ψ m) → AllSame φ ψ ms
all_same_of φ ψ [] same = tt
all_same_of φ ψ (m ∷ ms) same = (same 0 m refl, all_same_of φ ψ ms (λ k n e. same (suc k) n e))

-- the mentions of a function
mention_same : (program : calculus.Program) (φ ψ : FunId → Scheme) (f : FunId) (m : Mention) → Has program f m
    → ((g : FunId) → Mentions program f g → φ g ≡ ψ g) → MentionSame φ ψ m
mention_same program φ ψ f (Plain g) has same = same g (inl has)
mention_same program φ ψ f (Collected g) has same = same g (inr has)

body_has : (p : Kernel) (f : FunId) (o : Option kernel.Function) (k : ℕ) (m : Mention) → slice_get p.functions f.0 ≡ o
    → slice_get (body_mentions (function_body o)) k ≡ Some m → Has (program_of p) f m
unfolding program_of
body_has p f None k m is there = let no : ⊥ = cc in absurd no
body_has p f (Some function) k m is there = record {
  function = plain_function function;
  is_function = get_map plain_function p.functions f.0 function is;
  place = k;
  is_there = there;
}

group_same_of : (p : Kernel) (φ ψ : FunId → Scheme) (first : ℕ) (fs : List FunId)
    → ((f g : FunId) → IsIn fs f → Mentions (program_of p) f g → φ g ≡ ψ g) → GroupSame φ ψ (members_from p first fs)
group_same_of p φ ψ first [] same = tt
group_same_of p φ ψ first (f ∷ fs) same = (
  all_same_of φ ψ (body_mentions (function_body (slice_get p.functions f.0)))
      (λ k m e. mention_same (program_of p) φ ψ f m (body_has p f (slice_get p.functions f.0) k m refl e) (λ g h. same f g (in_first f fs) h)),
  group_same_of p φ ψ (asked.end_of (asked.member p first f)) fs (λ h g at mentions. same h g (in_rest h f fs at) mentions),
)

-- a function of the group has its type there
in_group_same : (p : Kernel) (first : ℕ) (fs : List FunId) (s t : Scheme) (g : FunId) → IsIn fs g
    → scheme_in (members_from p first fs) s g ≡ scheme_in (members_from p first fs) t g
in_group_same p first [] s t g (k, e) = let no : ⊥ = cc in absurd no
in_group_same p first (f ∷ fs) s t g there =
    let m : Member = asked.member p first f in
    let rest : List Member = members_from p (asked.end_of m) fs in
    let by : Bool → Scheme → Scheme = λ b o. if b then scheme_by m m.declared else scheme_in rest o g in
    elim (cases_eq f.0 g.0) [
      | inl same ↦ ap (λ (b : Bool). by b s) (eq-eqb f.0 g.0 same) ∙ sym (ap (λ (b : Bool). by b t) (eq-eqb f.0 g.0 same))
      | inr other ↦
          let inside : IsIn fs g =
          elim (first_or_rest g f fs there) [ inl first ↦ absurd (other (ap (λ (h : FunId). h.0) first)) | inr later ↦ later ] in
          ap (λ (b : Bool). by b s) (ne_eqb f.0 g.0 other)
          ∙ in_group_same p (asked.end_of m) fs s t g inside
          ∙ sym (ap (λ (b : Bool). by b t) (ne_eqb f.0 g.0 other))
    ]

abbrev pub functions_by : Kernel → List TypeExpr → List FunId → FunId → Scheme
functions_by p i fs g = scheme_in (members_from p 0 fs) (asked.Polymorphic [] (type_in i g)) g

pub equations_same : (p : Kernel) (i j : List TypeExpr) (fs : List FunId)
    → ((f g : FunId) → IsIn fs f → Mentions (program_of p) f g → IsIn fs g ⊎ (type_in i g ≡ type_in j g))
    → equations p i fs ≡ equations p j fs
unfolding equations members
equations_same p i j fs same =
    let ms : List Member = members_from p 0 fs in
    let a : Assumptions = assumptions_of p i ms in
    let start : Asked = record { next = asked.end_of_all 0 ms; equations = [] } in
    let one : (f g : FunId) → IsIn fs f → Mentions (program_of p) f g → functions_by p i fs g ≡ functions_by p j fs g =
    λ f g at mentions. elim (same f g at mentions) [
      | inl inside ↦ in_group_same p 0 fs (asked.Polymorphic [] (type_in i g)) (asked.Polymorphic [] (type_in j g)) g inside
      | inr e ↦ ap (λ (t : TypeExpr). scheme_in ms (asked.Polymorphic [] t) g) e
    ] in
    ap (λ (b : Asked). b.equations)
    (members_same p a (functions_by p i fs) (functions_by p j fs) ms start (group_same_of p (functions_by p i fs) (functions_by p j fs) 0 fs one))

-- ---- what is known after a group

left_with_elsewhere : (σ : Substitution) (f : FunId) (o : Option Numbers) (ks : List Known) (k : ℕ) → k ≢ f.0
    → slice_get (left_with σ f o ks) k ≡ slice_get ks k
left_with_elsewhere σ f None ks k other = refl
left_with_elsewhere σ f (Some n) ks k other = set_elsewhere ks f.0 k (known.Typed (numbered (apply σ (own_type n)))) other

pub left_elsewhere : (σ : Substitution) (fs : List FunId) (ks : List Known) (k : ℕ) → Lacks k fs → slice_get (left σ fs ks) k ≡ slice_get ks k
left_elsewhere σ [] ks k lacks = refl
left_elsewhere σ (f ∷ fs) ks k lacks =
    left_elsewhere σ fs (left_with σ f (numbers_of (slice_get ks f.0)) ks) k lacks.1
    ∙ left_with_elsewhere σ f (numbers_of (slice_get ks f.0)) ks k lacks.0

left_with_length : (σ : Substitution) (f : FunId) (o : Option Numbers) (ks : List Known) → length (left_with σ f o ks) ≡ length ks
left_with_length σ f None ks = refl
left_with_length σ f (Some n) ks = length-set ks f.0 (known.Typed (numbered (apply σ (own_type n))))

pub left_length : (σ : Substitution) (fs : List FunId) (ks : List Known) → length (left σ fs ks) ≡ length ks
left_length σ [] ks = refl
left_length σ (f ∷ fs) ks =
    left_length σ fs (left_with σ f (numbers_of (slice_get ks f.0)) ks) ∙ left_with_length σ f (numbers_of (slice_get ks f.0)) ks

-- a member gets its type
member_left : (p : Kernel) (σ : Substitution) (f : FunId) (m : Member) (o : Option Known) (ks : List Known) → slice_get ks f.0 ≡ o → IsMember p o f m
    → slice_get (left_with σ f (numbers_of o) ks) f.0 ≡ Some (known.Typed (numbered (apply σ (member_type m))))
member_left p σ f m None ks at is = absurd is
member_left p σ f m (Some known.Nothing) ks at is = absurd is
member_left p σ f m (Some (known.Typed t)) ks at is = absurd is
member_left p σ f m (Some (known.Member c)) ks at is =
    set_there ks f.0 (known.Typed (numbered (apply σ (member_type (member_of p f c))))) (known.Member c) at
    ∙ ap (λ (n : Member). Some (known.Typed (numbered (apply σ (member_type n))))) is

function_is : (p : Kernel) (f : FunId) (m : Member) (o : Option Known) → IsMember p o f m → m.function ≡ f
function_is p f m None is = absurd is
function_is p f m (Some known.Nothing) is = absurd is
function_is p f m (Some (known.Typed t)) is = absurd is
function_is p f m (Some (known.Member c)) is = sym (ap (λ (n : Member). n.function) is)

members_elsewhere : (p : Kernel) (ks now : List Known) (fs : List FunId) (ms : List Member) (x : ℕ) → Lacks x fs
    → ((k : ℕ) → k ≢ x → slice_get now k ≡ slice_get ks k) → AreMembers p ks fs ms → AreMembers p now fs ms
members_elsewhere p ks now [] [] x lacks same all = tt
members_elsewhere p ks now [] (m ∷ ms) x lacks same all = absurd all
members_elsewhere p ks now (f ∷ fs) [] x lacks same all = absurd all
members_elsewhere p ks now (f ∷ fs) (m ∷ ms) x lacks same all = (
  subst (λ (o : Option Known). IsMember p o f m) (sym (same f.0 (λ e. lacks.0 (sym e)))) all.0,
  members_elsewhere p ks now fs ms x lacks.1 same all.1,
)

left_types : (p : Kernel) (σ : Substitution) (ks : List Known) (fs : List FunId) (ms : List Member) → AreMembers p ks fs ms
    → IsTrue (are_rising (numbers fs)) → (k : ℕ) (m : Member) → slice_get ms k ≡ Some m
    → slice_get (left σ fs ks) m.function.0 ≡ Some (known.Typed (numbered (apply σ (member_type m))))
left_types p σ ks [] [] all rising k m at = let no : ⊥ = cc in absurd no
left_types p σ ks [] (n ∷ ms) all rising k m at = absurd all
left_types p σ ks (f ∷ fs) [] all rising k m at = absurd all
left_types p σ ks (f ∷ fs) (n ∷ ms) all rising zero m at =
    let parts = and_parts (list_all (nat_lt f.0) (numbers fs)) (are_rising (numbers fs)) rising in
    let now : List Known = left_with σ f (numbers_of (slice_get ks f.0)) ks in
    let same : n ≡ m = cc in
    subst (λ (x : Member). slice_get (left σ fs now) x.function.0 ≡ Some (known.Typed (numbered (apply σ (member_type x))))) same
    (ap (λ (g : FunId). slice_get (left σ fs now) g.0) (function_is p f n (slice_get ks f.0) all.0)
    ∙ left_elsewhere σ fs now f.0 (lacks_below f.0 fs parts.0) ∙ member_left p σ f n (slice_get ks f.0) ks refl all.0)
left_types p σ ks (f ∷ fs) (n ∷ ms) all rising (suc k) m at =
    let parts = and_parts (list_all (nat_lt f.0) (numbers fs)) (are_rising (numbers fs)) rising in
    let now : List Known = left_with σ f (numbers_of (slice_get ks f.0)) ks in
    left_types p σ now fs ms
    (members_elsewhere p ks now fs ms f.0 (lacks_below f.0 fs parts.0)
    (λ i other. left_with_elsewhere σ f (numbers_of (slice_get ks f.0)) ks i other) all.1)
    parts.1 k m at

-- the type that is kept of a function
abbrev kept_of : Option Known → TypeExpr
kept_of None = type.Variable 0
kept_of (Some k) = kept_type k

kept_in : (ks : List Known) (k : ℕ) → slice_index_or (map kept_type ks) k (type.Variable 0) ≡ kept_of (slice_get ks k)
kept_in [] k = refl
kept_in (x ∷ ks) zero = refl
kept_in (x ∷ ks) (suc k) = kept_in ks k

known_elsewhere : (p : Kernel) (before after : List Known) (fs : List FunId) (k : ℕ) → IsLeft p before after fs → Lacks k fs
    → slice_get after k ≡ slice_get before k
known_elsewhere p before after fs k leaves lacks =
    ap (λ (ks : List Known). slice_get ks k) leaves.is ∙ left_elsewhere leaves.solution fs (entered p 0 fs before) k lacks
    ∙ entered_elsewhere p 0 fs before k lacks

pub types_elsewhere : (p : Kernel) (before after : List Known) (fs : List FunId) (g : FunId) → IsLeft p before after fs → Lacks g.0 fs
    → type_in (map kept_type before) g ≡ type_in (map kept_type after) g
types_elsewhere p before after fs g leaves lacks =
    kept_in before g.0 ∙ sym (ap kept_of (known_elsewhere p before after fs g.0 leaves lacks)) ∙ sym (kept_in after g.0)

types_there : (p : Kernel) (before after : List Known) (fs : List FunId) (leaves : IsLeft p before after fs) → IsTrue (are_rising (numbers fs))
    → AreWithin fs (length before) → (k : ℕ) (m : Member) → slice_get (members p fs) k ≡ Some m
    → slice_get after m.function.0 ≡ Some (known.Typed (numbered (apply leaves.solution (member_type m))))
types_there p before after fs leaves rising within k m at =
    ap (λ (ks : List Known). slice_get ks m.function.0) leaves.is
    ∙ left_types p leaves.solution (entered p 0 fs before) fs (members p fs) (members_are p fs before rising within) rising k m at

pub principal_now : (p : Kernel) (before after : List Known) (fs : List FunId) → IsLeft p before after fs → IsTrue (are_rising (numbers fs))
    → AreWithin fs (length before) → HasPrincipalTypes p (map kept_type after) fs
principal_now p before after fs leaves rising within = record {
  solution = leaves.solution;
  general = subst (IsMostGeneral leaves.solution)
      (equations_same p (map kept_type before) (map kept_type after) fs
      (λ f g at mentions. elim (in_or_lacks g fs) [ inl inside ↦ inl inside | inr lacks ↦ inr (types_elsewhere p before after fs g leaves lacks) ]))
      leaves.general;
  keeps = leaves.keeps;
  types = λ k m at. kept_in after m.function.0 ∙ ap kept_of (types_there p before after fs leaves rising within k m at);
}

-- ---- members are functions of their group

members_in : (p : Kernel) (first : ℕ) (fs : List FunId) (k : ℕ) (m : Member) → slice_get (members_from p first fs) k ≡ Some m → IsIn fs m.function
members_in p first [] k m at = let no : ⊥ = cc in absurd no
members_in p first (f ∷ fs) zero m at =
    let same : asked.member p first f ≡ m = cc in
    subst (λ (x : Member). IsIn (f ∷ fs) x.function) same (in_first f fs)
members_in p first (f ∷ fs) (suc k) m at = in_rest m.function f fs (members_in p (asked.end_of (asked.member p first f)) fs k m at)

member_in : (p : Kernel) (fs : List FunId) (k : ℕ) (m : Member) → slice_get (members p fs) k ≡ Some m → IsIn fs m.function
unfolding members
member_in p fs k m at = members_in p 0 fs k m at

pub principal_kept : (p : Kernel) (before after : List Known) (fs other : List FunId) → IsLeft p before after fs
    → ((f : FunId) → IsIn other f → Lacks f.0 fs)
    → ((f g : FunId) → IsIn other f → Mentions (program_of p) f g → IsIn other g ⊎ Lacks g.0 fs)
    → HasPrincipalTypes p (map kept_type before) other → HasPrincipalTypes p (map kept_type after) other
principal_kept p before after fs other leaves apart mentioned has = record {
  solution = has.solution;
  general = subst (IsMostGeneral has.solution)
      (equations_same p (map kept_type before) (map kept_type after) other
      (λ f g at mentions. elim (mentioned f g at mentions) [
        | inl inside ↦ inl inside
        | inr lacks ↦ inr (types_elsewhere p before after fs g leaves lacks)
      ]))
      has.general;
  keeps = has.keeps;
  types = λ k m at. sym (types_elsewhere p before after fs m.function leaves (apart m.function (member_in p other k m at))) ∙ has.types k m at;
}

-- ---- groups one after another

pub groups_apart : (p : Kernel) (groups : List (List FunId)) (j k : ℕ) (other fs : List FunId) (f : FunId) → AreGroups (program_of p) groups
    → slice_get groups j ≡ Some other → slice_get groups k ≡ Some fs → j < k → IsIn other f → Lacks f.0 fs
groups_apart p groups j k other fs f are at_j at_k less there = elim (in_or_lacks f fs) [
  | inr lacks ↦ lacks
  | inl inside ↦
      let same : other ≡ fs = same_group (program_of p) other fs (are.each j other at_j) (are.each k fs at_k) f there inside in
      let one : j ≡ k = are.once j k fs (at_j ∙ ap Some same) at_k in
      absurd (omega (arith, less, one))
]

plain_length : (fs : List kernel.Function) → length (map plain_function fs) ≡ length fs
plain_length [] = refl
plain_length (f ∷ fs) = let rest = plain_length fs in omega (arith, rest)

pub functions_length : (p : Kernel) → length (program_of p).functions ≡ length p.functions
unfolding program_of
functions_length p = plain_length p.functions

pub group_within : (p : Kernel) (fs : List FunId) (n : ℕ) → IsGroup (program_of p) fs → n ≡ length p.functions → AreWithin fs n
group_within p fs n group sized = λ k f at.
    let inside : f.0 < length (program_of p).functions = ((group.exact f f (k, at)).0 (k, at)).0 in
    let long = functions_length p in
    omega (arith, inside, long, sized)

-- the member of a function of the group
member_from : (p : Kernel) (first : ℕ) (fs : List FunId) (f : FunId) → IsIn fs f
    → (k : ℕ) × (m : Member) × (slice_get (members_from p first fs) k ≡ Some m) × (m.function ≡ f)
member_from p first [] f (k, e) = let no : ⊥ = cc in absurd no
member_from p first (g ∷ fs) f there = elim (first_or_rest f g fs there) [
  | inl same ↦ (0, asked.member p first g, refl, same)
  | inr rest ↦
      let found = member_from p (asked.end_of (asked.member p first g)) fs f rest in
      (suc found.0, found.1, found.2, found.3)
]

pub member_at : (p : Kernel) (fs : List FunId) (f : FunId) → IsIn fs f
    → (k : ℕ) × (m : Member) × (slice_get (members p fs) k ≡ Some m) × (m.function ≡ f)
unfolding members
member_at p fs f there = member_from p 0 fs f there

none_after : (p : Kernel) (before after : List Known) (fs : List FunId) → IsLeft p before after fs → IsTrue (are_rising (numbers fs))
    → AreWithin fs (length before) → HasNoMembers before → HasNoMembers after
none_after p before after fs leaves rising within none = λ k c at. elim (in_or_lacks (function_at k) fs) [
  | inr lacks ↦ none k c (sym (known_elsewhere p before after fs k leaves lacks) ∙ at)
  | inl inside ↦
      let found = member_at p fs (function_at k) inside in
      let is : slice_get after k ≡ Some (known.Typed (numbered (apply leaves.solution (member_type found.1)))) =
      ap (λ (f : FunId). slice_get after f.0) (sym found.3) ∙ types_there p before after fs leaves rising within found.0 found.1 found.2 in
      let no : ⊥ = cc in
      no
]

-- what was placed before a group is in none of its functions
placed_apart : (p : Kernel) (groups : List (List FunId)) (k i : ℕ) (fs : List FunId) (g : FunId) → AreGroups (program_of p) groups
    → slice_get groups i ≡ Some fs → k < i → IsPlaced (take k groups) g → Lacks g.0 fs
placed_apart p groups k i fs g are at below placed =
    let place = placed.1.0 in
    let there = take_less groups k place placed.0 placed.1.1 in
    groups_apart p groups place i placed.0 fs g are there.1 at (let less = there.0 in omega (arith, less, below)) placed.2

pub known_next : (p : Kernel) (groups : List (List FunId)) (i : ℕ) (before after : List Known) (fs : List FunId) → AreGroups (program_of p) groups
    → slice_get groups i ≡ Some fs → IsKnown p groups i before → IsLeft p before after fs → IsKnown p groups (i + 1) after
known_next p groups i before after fs are at known_before leaves =
    let group : IsGroup (program_of p) fs = are.each i fs at in
    let inside : AreWithin fs (length before) = group_within p fs (length before) group known_before.sized in
    record {
      sized = ap length leaves.is ∙ left_length leaves.solution fs (entered p 0 fs before) ∙ entered_length p 0 fs before ∙ known_before.sized;
      none = none_after p before after fs leaves group.rising inside known_before.none;
      typed = λ k other less at_k. elim (cases_eq k i) [
        | inl same ↦
            let is : fs ≡ other = (let e : Some fs ≡ Some other = sym at ∙ ap (slice_get groups) (sym same) ∙ at_k in cc) in
            subst (λ (g : List FunId). HasPrincipalTypes p (map kept_type after) g) is
            (principal_now p before after fs leaves group.rising inside)
        | inr apart ↦
            let below : k < i = omega (arith, less, apart) in
            principal_kept p before after fs other leaves (λ f there. groups_apart p groups k i other fs f are at_k at below there)
            (λ f g there mentions. elim (are.ready k other at_k f g there mentions) [
              | inl inside ↦ inl inside
              | inr placed ↦ inr (placed_apart p groups k i fs g are at below placed)
            ])
            (known_before.typed k other below at_k)
      ];
    }

-- ---- the end

pub typed_of : (p : Kernel) (interface : List TypeExpr) (fs : List FunId) → HasPrincipalTypes p interface fs → IsTyped p interface fs
typed_of p interface fs has = record { solution = has.solution; solves = has.general.solves; keeps = has.keeps; types = has.types }

kept_length : (ks : List Known) → length (map kept_type ks) ≡ length ks
kept_length [] = refl
kept_length (k ∷ ks) = let rest = kept_length ks in omega (arith, rest)

-- each group has its place
group_placed : (p : Kernel) (groups : List (List FunId)) (fs : List FunId) → AreGroups (program_of p) groups → IsGroup (program_of p) fs
    → IsIn groups fs
group_placed p groups fs are group =
    let f = group.some.0 in
    let there = group.some.1 in
    let placed = are.every f ((group.exact f f there).0 there).0 in
    let same : placed.0 ≡ fs =
    same_group (program_of p) placed.0 fs (are.each placed.1.0 placed.0 placed.1.1) group f placed.2 there in
    (placed.1.0, placed.1.1 ∙ ap Some same)

pub principal_all : (p : Kernel) (groups : List (List FunId)) (i : ℕ) (ks : List Known) → AreGroups (program_of p) groups → length groups ≤ i
    → IsKnown p groups i ks → PrincipallyTyped p (map kept_type ks)
principal_all p groups i ks are all is =
    let each : (fs : List FunId) → IsGroup (program_of p) fs → HasPrincipalTypes p (map kept_type ks) fs =
    λ fs group.
    let place = group_placed p groups fs are group in
    let inside : place.0 < length groups = within groups place.0 fs place.1 in
    is.typed place.0 fs (omega (arith, inside, all)) place.1 in
    record {
      typed = record {
        each = kept_length ks ∙ is.sized;
        groups = λ fs group. typed_of p (map kept_type ks) fs (each fs group);
      };
      general = each;
    }

-- ---- steps

nothing_none : (n : ℕ) → HasNoMembers (replicate n known.Nothing)
nothing_none zero k m at = let no : ⊥ = cc in no
nothing_none (suc n) zero m at = let no : ⊥ = cc in no
nothing_none (suc n) (suc k) m at = nothing_none n k m at

pub known_first : (p : Kernel) (groups : List (List FunId)) (ks : List Known) → ks ≡ replicate (length p.functions) known.Nothing
    → IsKnown p groups 0 ks
known_first p groups ks is = record {
  sized = ap length is ∙ length-replicate (length p.functions) known.Nothing;
  none = subst HasNoMembers (sym is) (nothing_none (length p.functions));
  typed = λ k other less at. absurd (let no : k < 0 = less in omega (arith, no));
}

pub step_typed : (p : Kernel) (before after : List Known) (fs : List FunId) (o : Outcome) → o ≡ outcome.Typed → Outcomes p before after fs o
    → Stepped p before after fs None
step_typed p before after fs o is comes = subst (Outcomes p before after fs) is comes

pub step_clash : (p : Kernel) (before after : List Known) (fs : List FunId) (d : FunId) (o : Outcome) (c : Clash) → o ≡ outcome.Clash c
    → 0 < length fs → Outcomes p before after fs o → Stepped p before after fs (Some (fault.TypeClash (get_or fs 0 d) c))
step_clash p before after fs d o c is some comes = (drop 1 fs, drop_more fs 0 d some, subst (Outcomes p before after fs) is comes)

pub step_broken : (p : Kernel) (before after : List Known) (fs : List FunId) (d : FunId) (o : Outcome) → o ≡ outcome.Broken
    → 0 < length fs → Outcomes p before after fs o → Stepped p before after fs (Some (fault.Signature (get_or fs 0 d)))
step_broken p before after fs d o is some comes = (drop 1 fs, drop_more fs 0 d some, subst (Outcomes p before after fs) is comes)

comes_to : (p : Kernel) (groups : List (List FunId)) (i : ℕ) (before : List Known) (fs : List FunId) → AreGroups (program_of p) groups
    → slice_get groups i ≡ Some fs → IsKnown p groups i before → ComesTo p (map kept_type before) fs
comes_to p groups i before fs are at is = record { groups = groups; are_groups = are; place = i; is_next = at; before = is.typed }

pub fault_told : (p : Kernel) (groups : List (List FunId)) (i : ℕ) (before : List Known) (fs : List FunId) (f : TypeFault)
    → AreGroups (program_of p) groups → slice_get groups i ≡ Some fs → IsKnown p groups i before → Fails p before fs f → IsTypeFault p f
fault_told p groups i before fs (fault.TypeClash f c) are at is fails = record {
  interface = map kept_type before;
  others = fails.0;
  comes_to = subst (ComesTo p (map kept_type before)) fails.1 (comes_to p groups i before fs are at is);
  clash = subst (λ (g : List FunId). Clashes (equations p (map kept_type before) g) c) fails.1 fails.2;
}
fault_told p groups i before fs (fault.Signature f) are at is fails = record {
  interface = map kept_type before;
  others = fails.0;
  comes_to = subst (ComesTo p (map kept_type before)) fails.1 (comes_to p groups i before fs are at is);
  breaks = subst (BreaksSignature p (map kept_type before)) fails.1 fails.2;
}
fault_told p groups i before fs fault.GoalFunctional are at is fails = absurd fails
fault_told p groups i before fs fault.NoMemory are at is fails = absurd fails

-- a group has a function
pub group_some : (p : Kernel) (fs : List FunId) → IsGroup (program_of p) fs → 0 < length fs
group_some p fs group =
    let inside : group.some.1.0 < length fs = within fs group.some.1.0 group.some.0 group.some.1.1 in
    omega (arith, inside)

-- the functions of a row
pub row_at : (rows : List (Vec FunId Global)) (i : ℕ) (row : Vec FunId Global) → i < length rows → row ≡ get_or rows i row
    → slice_get (lists_of rows) i ≡ Some row.items
row_at rows i row inside is = get_map (λ (r : Vec FunId Global). r.items) rows i row (slice_get_read rows (length rows) i row refl inside is)

-- what comes of a group where this was found
abbrev pub Found : Kernel → List Known → List Known → List FunId → Option TypeFault → Type 0
Found p before after fs found = HasNoMembers before → IsTrue (are_rising (numbers fs)) → Stepped p before after fs found

pub next_after : (p : Kernel) (groups : List (List FunId)) (i : ℕ) (before after : List Known) (fs gs : List FunId) (found : Option TypeFault)
    → AreGroups (program_of p) groups → slice_get groups i ≡ Some fs → gs ≡ fs → found ≡ None → IsKnown p groups i before
    → Found p before after gs found → IsKnown p groups (i + 1) after
next_after p groups i before after fs gs found are at same none is comes =
    let stepped : Found p before after fs None =
    subst (Found p before after fs) none (subst (λ (hs : List FunId). Found p before after hs found) same comes) in
    known_next p groups i before after fs are at is (stepped is.none (are.each i fs at).rising)

pub fault_after : (p : Kernel) (groups : List (List FunId)) (i : ℕ) (before after : List Known) (fs gs : List FunId) (found : Option TypeFault)
    (f : TypeFault) → AreGroups (program_of p) groups → slice_get groups i ≡ Some fs → gs ≡ fs → found ≡ Some f → IsKnown p groups i before
    → Found p before after gs found → IsTypeFault p f
fault_after p groups i before after fs gs found f are at same some is comes =
    let stepped : Found p before after fs (Some f) =
    subst (Found p before after fs) some (subst (λ (hs : List FunId). Found p before after hs found) same comes) in
    fault_told p groups i before fs f are at is (stepped is.none (are.each i fs at).rising)

rows_length : (rows : List (Vec FunId Global)) → length (lists_of rows) ≡ length rows
rows_length [] = refl
rows_length (row ∷ rows) = let rest = rows_length rows in omega (arith, rest)

-- no group is left
pub ended : (p : Kernel) (rows : List (Vec FunId Global)) (i : ℕ) (ks : List Known) → length rows ≤ i → IsKnown p (lists_of rows) i ks
    → IsKnown p (lists_of rows) (length (lists_of rows)) ks
ended p rows i ks past is =
    let sized = rows_length rows in
    record {
      sized = is.sized;
      none = is.none;
      typed = λ k other less at. is.typed k other (omega (arith, less, sized, past)) at;
    }

pub all_typed : (p : Kernel) (rows : List (Vec FunId Global)) (ks : List Known) (found : Option TypeFault) (types : List TypeExpr)
    → AreGroups (program_of p) (lists_of rows) → found ≡ None → Ended p (lists_of rows) ks found → types ≡ map kept_type ks
    → PrincipallyTyped p types
all_typed p rows ks found types are none ends is =
    let known_all : IsKnown p (lists_of rows) (length (lists_of rows)) ks = subst (Ended p (lists_of rows) ks) none ends in
    subst (PrincipallyTyped p) (sym is)
    (principal_all p (lists_of rows) (length (lists_of rows)) ks are (omega arith) known_all)

pub fault_of : (p : Kernel) (rows : List (Vec FunId Global)) (ks : List Known) (found : Option TypeFault) (f : TypeFault)
    → found ≡ Some f → Ended p (lists_of rows) ks found → IsTypeFault p f
fault_of p rows ks found f some ends = subst (Ended p (lists_of rows) ks) some ends

counted : (fs : List Function) → length (map function_meaning fs) ≡ length fs
counted [] = refl
counted (f ∷ fs) = let rest = counted fs in omega (arith, rest)

pub functions_count : (fs : List Function) (ks : List kernel.Function) → map function_meaning fs ≡ ks → length fs ≡ length ks
functions_count fs ks is = sym (counted fs) ∙ ap length is
