-- What becomes of a group: its members, its equations, and what comes of their solution.
use Rattle.std.proofs.Common.{Result, Ok, Err, IfOk, ◌≡◌, ℕ, zero, suc, ◌<◌, IsTrue, List, [], ◌∷◌, Option, None, Some, length, map, option_map, set, slice_get, refl, sym, ap, ◌∙◌, subst, arith}
use Rattle.cu_calculus.proofs.Lists.{get_map}
use Rattle.std.specs.declared.alloc.AllocError.{AllocError}
use Rattle.cu_calculus.specs.declared.ConId.{ConId}
use Rattle.cu_calculus.specs.declared.FunId.{FunId}
use Rattle.cu_kernel.specs.Captures.{are_rising}
use Rattle.cu_kernel.specs.Kernel as kernel
use Rattle.cu_kernel.specs.Kernel.{Kernel}
use Rattle.cu_kernel.specs.KernelOf.{mark_meaning}
use Rattle.cu_kernel.specs.TypeExpr.{TypeExpr}
use Rattle.cu_kernel.specs.TypesOf.{type_of}
use Rattle.cu_kernel.specs.declared.declarations.Mark.{Mark}
use Rattle.cu_kernel.specs.declared.type_term.TypeTerm.{TypeTerm}
use Rattle.cu_lift.specs.Groups.{numbers}
use Rattle.cu_types.proofs.GroupLemmas.{equations_meant, members_are}
use Rattle.cu_types.proofs.RigidLemmas.{keeps_general}
use Rattle.cu_types.specs.BuiltInTypes.{constructor_type, values}
use Rattle.cu_types.specs.Equations as asked
use Rattle.cu_types.specs.Equations.{Asked, Environment, equations, members}
use Rattle.cu_types.specs.Inside.Asking.{IsAsking}
use Rattle.cu_types.specs.Inside.Grouping.{AreWithin, HasNoMembers, Outcomes, Settled, Stays, end_from, entered, known_assumptions, left, left_with, numbers_of, own_type, plain_member}
use Rattle.cu_types.specs.Inside.Knowing.{AreMembers, kept_type, values_at}
use Rattle.cu_types.specs.Inside.Members.{group_asks}
use Rattle.cu_types.specs.Inside.Walking.{Walks, heads, scope}
use Rattle.cu_types.specs.Meaning.{HasPlaces, types_of_subst}
use Rattle.cu_types.specs.Numbered.{numbered}
use Rattle.cu_types.specs.Synonyms.{bodies, expanded, expanded_by}
use Rattle.cu_types.specs.Table.{IsTable, Shape, at, trees}
use Rattle.cu_types.specs.Types.{Substitution, apply}
use Rattle.cu_types.specs.Unification.{Equation, IsMostGeneral}
use Rattle.cu_types.specs.declared.group.Outcome.{Outcome}
use Rattle.cu_types.specs.declared.group.Outcome.TheVariants as outcome
use Rattle.cu_types.specs.declared.known.Known.{Known}
use Rattle.cu_types.specs.declared.known.Known.TheVariants as known
use Rattle.cu_types.specs.declared.known.Member.{Member}
use Rattle.cu_types.specs.declared.known.Numbers.{Numbers}
use Rattle.cu_types.specs.declared.unification.Subst.{Subst}
use Rattle.cu_types.specs.declared.walk.Walk.{Walk}

-- ---- members

member_with : ℕ → ℕ → Option TypeExpr → ℕ → Member
member_with arity captured declared first = record { arity = arity; captured = captured; declared = declared; first = first }

pub member_made : (p : Kernel) (first : ℕ) (f : FunId) (arity captured : ℕ) (declared : Option TypeExpr)
    → arity ≡ asked.arity_of (slice_get p.functions f.0) → captured ≡ asked.captured_by (slice_get p.marks f.0)
    → declared ≡ asked.declared_by p (slice_get p.marks f.0)
    → record { arity = arity; captured = captured; declared = declared; first = first } ≡ plain_member (asked.member p first f)
unfolding member_with
member_made p first f arity captured declared one two three =
    ap (λ (n : ℕ). member_with n captured declared first) one
    ∙ ap (λ (n : ℕ). member_with (asked.arity_of (slice_get p.functions f.0)) n declared first) two
    ∙ ap (λ (d : Option TypeExpr). member_with (asked.arity_of (slice_get p.functions f.0)) (asked.captured_by (slice_get p.marks f.0)) d first) three

pub found_mark : (ms : List Mark) (ks : List kernel.Mark) (k : ℕ) (m : Mark) → map mark_meaning ms ≡ ks → slice_get ms k ≡ Some m
    → slice_get ks k ≡ Some (mark_meaning m)
found_mark ms ks k m same is = ap (λ (xs : List kernel.Mark). slice_get xs k) (sym same) ∙ get_map mark_meaning ms k m is

none_mapped : (ms : List Mark) (k : ℕ) → slice_get ms k ≡ None → slice_get (map mark_meaning ms) k ≡ None
none_mapped [] k is = refl
none_mapped (m ∷ ms) zero is = let no : ⊥ = cc in absurd no
none_mapped (m ∷ ms) (suc k) is = none_mapped ms k is

pub no_mark : (ms : List Mark) (ks : List kernel.Mark) (k : ℕ) → map mark_meaning ms ≡ ks → slice_get ms k ≡ None → slice_get ks k ≡ None
no_mark ms ks k same is = ap (λ (xs : List kernel.Mark). slice_get xs k) (sym same) ∙ none_mapped ms k is

-- ---- equations

pub asked_all : (a b : Walk) (fs : List FunId) (start : Asked)
    → Walks a b (group_asks a.signing.program.now (heads a) (scope a) a.signing.known.now fs) → scope a ≡ (λ x. 0) → IsAsking a.asking start
    → IsAsking b.asking (group_asks a.signing.program.now (heads a) (λ x. 0) a.signing.known.now fs start)
asked_all a b fs start walks is was =
    subst (λ (e : Environment). IsAsking b.asking (group_asks a.signing.program.now (heads a) e a.signing.known.now fs start)) is
    (walks.asked start was)

-- ---- outcomes

outcome_of : (p : Kernel) (before now after : List Known) (fs : List FunId) (σ : Substitution) (o : Outcome) → now ≡ entered p 0 fs before
    → IsMostGeneral σ (equations p (map kept_type before) fs) → Settled (members p fs) σ fs now after o → Outcomes p before after fs o
outcome_of p before now after fs σ outcome.Typed is most settled = record {
  solution = σ;
  general = most;
  keeps = settled.0;
  is = settled.1 ∙ ap (left σ fs) is;
}
outcome_of p before now after fs σ (outcome.Clash c) is most settled = absurd settled
outcome_of p before now after fs σ outcome.Broken is most settled = record {
  solution = σ;
  solves = most.solves;
  none = λ τ solves keeps. settled (keeps_general σ τ (equations p (map kept_type before) fs) (members p fs) most solves keeps);
}

pub settled_so : (p : Kernel) (before now after : List Known) (fs : List FunId) (σ : Substitution) (es : List Equation) (o : Outcome)
    → now ≡ entered p 0 fs before → es ≡ equations p (map kept_type before) fs → IsMostGeneral σ es
    → IsTrue (are_rising (numbers fs)) → AreWithin fs (length before)
    → (AreMembers p now fs (members p fs) → Settled (members p fs) σ fs now after o) → Outcomes p before after fs o
settled_so p before now after fs σ es o is meant general rising within settled =
    let are : AreMembers p now fs (members p fs) =
    subst (λ (ks : List Known). AreMembers p ks fs (members p fs)) (sym is) (members_are p fs before rising within) in
    let most : IsMostGeneral σ (equations p (map kept_type before) fs) = subst (IsMostGeneral σ) meant general in
    outcome_of p before now after fs σ o is most (settled are)

-- ---- declared types

pub declared_made : (p : Kernel) (synonyms : List TypeExpr) (declared : Option TypeTerm) (term : TypeTerm) (shared opened own : TypeExpr)
    → declared ≡ Some term → at synonyms ≡ bodies p (length p.synonyms) → shared ≡ expanded_by (at synonyms) (type_of term) → opened ≡ shared
    → own ≡ numbered opened → Some own ≡ option_map (λ t. numbered (expanded p t)) (option_map type_of declared)
unfolding expanded
declared_made p synonyms declared term shared opened own is bodies_are one two three =
    ap Some (three ∙ ap numbered (two ∙ one ∙ ap (λ (body : ℕ → TypeExpr). expanded_by body (type_of term)) bodies_are))
    ∙ sym (ap (λ (d : Option TypeTerm). option_map (λ t. numbered (expanded p t)) (option_map type_of d)) is)

pub none_declared : (p : Kernel) (declared : Option TypeTerm) → declared ≡ None
    → None ≡ option_map (λ t. numbered (expanded p t)) (option_map type_of declared)
none_declared p declared is = sym (ap (λ (d : Option TypeTerm). option_map (λ t. numbered (expanded p t)) (option_map type_of d)) is)

-- ---- types that functions have

pub stays_none : (s : Subst) → IsTable (types_of_subst s) → HasPlaces s → Stays s s
stays_none s table places = record { table = table; places = places; same = λ x. refl }

pub stays_both : (a b c : Subst) → Stays a b → Stays b c → Stays a c
stays_both a b c one two = record { table = two.table; places = two.places; same = λ x. two.same x ∙ one.same x }

pub numbers_within : (ks : List Known) (k : ℕ) (n : Numbers) → numbers_of (slice_get ks k) ≡ Some n → k < length ks
numbers_within [] k n is = let no : ⊥ = cc in absurd no
numbers_within (x ∷ ks) zero n is = omega arith
numbers_within (x ∷ ks) (suc k) n is = let less = numbers_within ks k n is in omega (arith, less)

pub left_one : (σ : Substitution) (f : FunId) (ks : List Known) (n : Numbers) (place : ℕ) (ss types : List Shape) (shared : TypeExpr)
    → numbers_of (slice_get ks f.0) ≡ Some n → types ≡ ss → at (trees ss) place ≡ apply σ (own_type n)
    → shared ≡ numbered (at (trees types) place)
    → set ks f.0 (known.Typed shared) ≡ left_with σ f (numbers_of (slice_get ks f.0)) ks
left_one σ f ks n place ss types shared is same value one =
    ap (λ (t : TypeExpr). set ks f.0 (known.Typed t))
    (one ∙ ap (λ (xs : List Shape). numbered (at (trees xs) place)) same ∙ ap numbered value)
    ∙ sym (ap (λ (o : Option Numbers). left_with σ f o ks) is)

-- ---- groups

pub asked_meant : (p : Kernel) (constructors : List TypeExpr) (before now : List Known) (fs : List FunId) (place : Option ℕ) (next : ℕ)
    → now ≡ entered p 0 fs before → next ≡ end_from p 0 fs → IsTrue (are_rising (numbers fs)) → AreWithin fs (length before) → HasNoMembers before
    → ((c : ConId) → at constructors c.0 ≡ constructor_type p c) → values_at place ≡ values p
    → (group_asks p (known_assumptions p constructors now place) (λ x. 0) now fs (record { next = next; equations = [] })).equations
    ≡ equations p (map kept_type before) fs
asked_meant p constructors before now fs place next is at_next rising within none made_types values_are =
    let asked_by : List Known → ℕ → List Equation =
    λ ks n. (group_asks p (known_assumptions p constructors ks place) (λ x. 0) ks fs (record { next = n; equations = [] })).equations in
    ap (λ (ks : List Known). asked_by ks next) is ∙ ap (asked_by (entered p 0 fs before)) at_next
    ∙ equations_meant p constructors before fs place rising within none made_types values_are

pub settled_all : (p : Kernel) (before now after : List Known) (fs : List FunId) (σ : Substitution) (es : List Equation)
    (r : Result Outcome AllocError) → now ≡ entered p 0 fs before
    → (HasNoMembers before → IsTrue (are_rising (numbers fs)) → es ≡ equations p (map kept_type before) fs) → IsMostGeneral σ es
    → AreWithin fs (length before)
    → IfOk r (λ o. (k : Kernel) → AreMembers k now fs (members k fs) → Settled (members k fs) σ fs now after o)
    → IfOk r (λ o. HasNoMembers before → IsTrue (are_rising (numbers fs)) → Outcomes p before after fs o)
settled_all p before now after fs σ es (Ok o) is meant general within settled = λ none rising.
    settled_so p before now after fs σ es o is (meant none rising) general rising within (settled p)
settled_all p before now after fs σ es (Err e) is meant general within settled = tt
