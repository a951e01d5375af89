-- Where a node is low enough, one visit more gives the same.
use Rattle.std.proofs.Common.{◌≡◌, ℕ, zero, suc, ◌+◌, ◌-◌, ◌<◌, ◌≤◌, Bool, true, ◌||◌, List, [], ◌∷◌, refl, ap, ap₂, sym, ◌∙◌, length, map, arith, zero-add, suc-add}
use Rattle.std.specs.List.{list_all, list_any}
use Rattle.cu_calculus.specs.declared.ConId.{ConId}
use Rattle.cu_calculus.specs.declared.builtin.Primitive.{Primitive}
use Rattle.cu_calculus.specs.declared.builtin.Primitive.TheVariants as prim
use Rattle.cu_calculus.specs.Value as value
use Rattle.cu_calculus.specs.Value.{Value, values_of}
use Rattle.cu_machine.specs.declared.Kind.{Kind}
use Rattle.cu_machine.specs.declared.Kind.TheVariants as kind
use Rattle.cu_machine.specs.Graph.{Graph, followed, head_at, head_of, head_within, node_at}
use Rattle.cu_machine.specs.Need.{Extent, Outermost, Throughout, Need, At, all_free, first, free_at, free_of, free_within, need_at, need_within, operands, rest_at, side, strict, unless_done, unless_free, unless_rigid, unless_true, waiting}
use Rattle.cu_machine.specs.Places.{joined}
use Rattle.cu_machine.specs.Rewrite.{occurs_at, occurs_within}
use Rattle.cu_machine.specs.Spell.{spelled_at, spelled_within}
use Rattle.cu_machine.specs.Validity.{ArgumentsThere, Founded}
use Rattle.cu_machine.proofs.Fuel.{is_low, left_true, low_enough, lower, lower_by, right_true}

pub never_low : {A : Type 0} (graph : Graph) (id : ℕ) → is_low 0 graph id ≡ true → A
unfolding is_low
never_low graph id low = let no : ⊥ = cc in absurd no

-- ---- heads

pub followed_agrees : (p : ℕ → Bool) (f g : ℕ → ℕ) (id : ℕ) (k : Kind) (args : List ℕ) → ((x : ℕ) → p x ≡ true → f x ≡ g x)
    → list_all p args ≡ true → followed f id k args ≡ followed g id k args
followed_agrees p f g id kind.Ind (other ∷ args) same low = same other (left_true (p other) (list_all p args) low)
followed_agrees p f g id kind.Ind [] same low = refl
followed_agrees p f g id _ args same low = refl

pub followed_keeps : (p q : ℕ → Bool) (f : ℕ → ℕ) (id : ℕ) (k : Kind) (args : List ℕ) → p id ≡ true → ((x : ℕ) → q x ≡ true → p (f x) ≡ true)
    → list_all q args ≡ true → p (followed f id k args) ≡ true
followed_keeps p q f id kind.Ind (other ∷ args) here keeps low = keeps other (left_true (q other) (list_all q args) low)
followed_keeps p q f id kind.Ind [] here keeps low = here
followed_keeps p q f id _ args here keeps low = here

pub head_once : (n : ℕ) (graph : Graph) (id : ℕ) → is_low n graph id ≡ true → head_within n graph id ≡ head_within (suc n) graph id
unfolding is_low head_within
head_once zero graph id low = let no : ⊥ = cc in absurd no
head_once (suc n) graph id low =
    followed_agrees (is_low n graph) (head_within n graph) (head_within (suc n) graph) id (node_at graph id).kind (node_at graph id).args
    (head_once n graph) low

-- a node's head is as low as the node
pub head_low : (visits n : ℕ) (graph : Graph) (id : ℕ) → is_low (suc n) graph id ≡ true → is_low (suc n) graph (head_within visits graph id) ≡ true
unfolding is_low head_within
head_low zero n graph id low = low
head_low (suc visits) n graph id low =
    followed_keeps (is_low (suc n) graph) (is_low n graph) (head_within visits graph) id (node_at graph id).kind (node_at graph id).args low
    (λ x below. head_low visits n graph x (lower n graph x below)) low

-- the arguments of a node's head are as low as the node, but for one
pub arguments_low : (n : ℕ) (graph : Graph) (id : ℕ) → is_low (suc n) graph id ≡ true → list_all (is_low n graph) (head_at graph id).args ≡ true
unfolding is_low
arguments_low n graph id low = head_low (length graph) n graph id low

-- ---- needs

pub map_agrees : {A : Type 0} (p : ℕ → Bool) (f g : ℕ → A) (xs : List ℕ) → ((x : ℕ) → p x ≡ true → f x ≡ g x) → list_all p xs ≡ true → map f xs ≡ map g xs
map_agrees p f g [] same low = refl
map_agrees p f g (x ∷ xs) same low =
    ap₂ (λ y ys. y ∷ ys) (same x (left_true (p x) (list_all p xs) low)) (map_agrees p f g xs same (right_true (p x) (list_all p xs) low))

-- two ways of telling needs agree on what passes a test
abbrev Agree : (ℕ → Bool) → (Extent → ℕ → Need) → (Extent → ℕ → Need) → Type 0
Agree p part other = (extent : Extent) (x : ℕ) → p x ≡ true → part extent x ≡ other extent x

pub strict_agrees : (p : ℕ → Bool) (part other : Extent → ℕ → Need) (graph : Graph) → Agree p part other → (x : ℕ) → p x ≡ true
    → strict graph part x ≡ strict graph other x
strict_agrees p part other graph same x low = ap (λ n. unless_done n (unless_free (head_of graph x) (head_at graph x).kind)) (same Outermost x low)

pub side_agrees : (p : ℕ → Bool) (part other : Extent → ℕ → Need) (truth : ConId) (graph : Graph) (id : ℕ) → Agree p part other → (x : ℕ) → p x ≡ true
    → side truth graph part id x ≡ side truth graph other id x
side_agrees p part other truth graph id same x low =
    ap (λ n. unless_done n (unless_true truth id (head_of graph x) (head_at graph x).kind)) (same Outermost x low)

pub operands_agree : (p : ℕ → Bool) (part other : Extent → ℕ → Need) (truth : ConId) (graph : Graph) (id : ℕ) (operation : Primitive) (args : List ℕ)
    → Agree p part other → list_all p args ≡ true → operands truth graph part id operation args ≡ operands truth graph other id operation args
operands_agree p part other truth graph id prim.Unify args same low = ap first (map_agrees p (part Outermost) (other Outermost) args (same Outermost) low)
operands_agree p part other truth graph id prim.And args same low =
    ap first (map_agrees p (side truth graph part id) (side truth graph other id) args (side_agrees p part other truth graph id same) low)
operands_agree p part other truth graph id _ args same low =
    ap first (map_agrees p (strict graph part) (strict graph other) args (strict_agrees p part other graph same) low)

pub need_agrees : (p : ℕ → Bool) (part other : Extent → ℕ → Need) (truth : ConId) (graph : Graph) (id : ℕ) (k : Kind) (args : List ℕ)
    → Agree p part other → list_all p args ≡ true → need_at truth graph part id k args ≡ need_at truth graph other id k args
need_agrees p part other truth graph id (kind.Prim operation) args same low =
    ap (λ n. unless_done n (At id)) (operands_agree p part other truth graph id operation args same low)
need_agrees p part other truth graph id kind.Apply (function ∷ args) same low =
    ap (λ n. unless_done n (At id)) (strict_agrees p part other graph same function (left_true (p function) (list_all p args) low))
need_agrees p part other truth graph id (kind.Case mode code) (scrutinee ∷ values) same low =
    ap (λ n. unless_done n (unless_done (unless_rigid mode (head_of graph scrutinee) (head_at graph scrutinee).kind) (At id)))
    (same Outermost scrutinee (left_true (p scrutinee) (list_all p values) low))
need_agrees p part other truth graph id (kind.SetCall f) args same low =
    ap (λ needs. unless_done (first needs) (unless_done (waiting (free_of graph args)) (At id)))
    (map_agrees p (part Throughout) (other Throughout) args (same Throughout) low)
need_agrees p part other truth graph id _ args same low = refl

pub rest_agrees : (p : ℕ → Bool) (part other : Extent → ℕ → Need) (extent : Extent) (k : Kind) (args : List ℕ)
    → Agree p part other → list_all p args ≡ true → rest_at part extent k args ≡ rest_at other extent k args
rest_agrees p part other Throughout (kind.Cons c) args same low = ap first (map_agrees p (part Throughout) (other Throughout) args (same Throughout) low)
rest_agrees p part other Throughout (kind.Part h) args same low = ap first (map_agrees p (part Throughout) (other Throughout) args (same Throughout) low)
rest_agrees p part other _ _ args same low = refl

pub need_once : (n : ℕ) (truth : ConId) (graph : Graph) (extent : Extent) (id : ℕ) → is_low n graph id ≡ true
    → need_within n truth graph extent id ≡ need_within (suc n) truth graph extent id
unfolding need_within
need_once zero truth graph extent id low = never_low graph id low
need_once (suc n) truth graph extent id low =
    let args = arguments_low n graph id low in
    let same : Agree (is_low n graph) (need_within n truth graph) (need_within (suc n) truth graph) = λ e x below. need_once n truth graph e x below in
    ap₂ unless_done
    (need_agrees (is_low n graph) (need_within n truth graph) (need_within (suc n) truth graph) truth graph (head_of graph id) (head_at graph id).kind (head_at graph id).args same args)
    (rest_agrees (is_low n graph) (need_within n truth graph) (need_within (suc n) truth graph) extent (head_at graph id).kind (head_at graph id).args same args)

-- ---- free variables

pub all_free_agree : (p : ℕ → Bool) (part other : ℕ → List ℕ) (args : List ℕ) → ((x : ℕ) → p x ≡ true → part x ≡ other x)
    → list_all p args ≡ true → all_free part args ≡ all_free other args
all_free_agree p part other [] same low = refl
all_free_agree p part other (x ∷ xs) same low =
    ap₂ joined (same x (left_true (p x) (list_all p xs) low)) (all_free_agree p part other xs same (right_true (p x) (list_all p xs) low))

pub free_agrees : (p : ℕ → Bool) (part other : ℕ → List ℕ) (id : ℕ) (k : Kind) (args : List ℕ) → ((x : ℕ) → p x ≡ true → part x ≡ other x)
    → list_all p args ≡ true → free_at part id k args ≡ free_at other id k args
free_agrees p part other id (kind.Cons c) args same low = all_free_agree p part other args same low
free_agrees p part other id (kind.Part h) args same low = all_free_agree p part other args same low
free_agrees p part other id _ args same low = refl

pub free_once : (n : ℕ) (graph : Graph) (id : ℕ) → is_low n graph id ≡ true → free_within n graph id ≡ free_within (suc n) graph id
unfolding free_within
free_once zero graph id low = never_low graph id low
free_once (suc n) graph id low =
    free_agrees (is_low n graph) (free_within n graph) (free_within (suc n) graph) (head_of graph id) (head_at graph id).kind (head_at graph id).args
    (free_once n graph) (arguments_low n graph id low)

-- ---- values

pub spelled_agrees : (p : ℕ → Bool) (part other : ℕ → Value) (id : ℕ) (k : Kind) (args : List ℕ) → ((x : ℕ) → p x ≡ true → part x ≡ other x)
    → list_all p args ≡ true → spelled_at part id k args ≡ spelled_at other id k args
spelled_agrees p part other id (kind.Cons c) args same low = ap (λ vs. value.Constructed c (values_of vs)) (map_agrees p part other args same low)
spelled_agrees p part other id (kind.Part h) args same low = ap (λ vs. value.Partial h (values_of vs)) (map_agrees p part other args same low)
spelled_agrees p part other id _ args same low = refl

pub spelled_once : (n : ℕ) (graph : Graph) (id : ℕ) → is_low n graph id ≡ true → spelled_within n graph id ≡ spelled_within (suc n) graph id
unfolding spelled_within
spelled_once zero graph id low = never_low graph id low
spelled_once (suc n) graph id low =
    spelled_agrees (is_low n graph) (spelled_within n graph) (spelled_within (suc n) graph) (head_of graph id) (head_at graph id).kind (head_at graph id).args
    (spelled_once n graph) (arguments_low n graph id low)

-- ---- occurrences

pub any_agrees : (p : ℕ → Bool) (part other : ℕ → Bool) (args : List ℕ) → ((x : ℕ) → p x ≡ true → part x ≡ other x)
    → list_all p args ≡ true → list_any part args ≡ list_any other args
any_agrees p part other [] same low = refl
any_agrees p part other (x ∷ xs) same low =
    ap₂ (λ a b. a || b) (same x (left_true (p x) (list_all p xs) low)) (any_agrees p part other xs same (right_true (p x) (list_all p xs) low))

pub occurs_agrees : (p : ℕ → Bool) (part other : ℕ → Bool) (v id : ℕ) (k : Kind) (args : List ℕ) → ((x : ℕ) → p x ≡ true → part x ≡ other x)
    → list_all p args ≡ true → occurs_at part v id k args ≡ occurs_at other v id k args
occurs_agrees p part other v id (kind.Cons c) args same low = any_agrees p part other args same low
occurs_agrees p part other v id _ args same low = refl

pub occurs_once : (n : ℕ) (graph : Graph) (v id : ℕ) → is_low n graph id ≡ true → occurs_within n graph v id ≡ occurs_within (suc n) graph v id
unfolding occurs_within
occurs_once zero graph v id low = never_low graph id low
occurs_once (suc n) graph v id low =
    occurs_agrees (is_low n graph) (occurs_within n graph v) (occurs_within (suc n) graph v) v (head_of graph id) (head_at graph id).kind (head_at graph id).args
    (occurs_once n graph v) (arguments_low n graph id low)

-- ---- as many visits as there are nodes

pub same_by : {A : Type 0} (f : ℕ → A) (n : ℕ) → ((k : ℕ) → f (k + n) ≡ f (suc (k + n))) → (k : ℕ) → f (k + n) ≡ f n
same_by f n once zero = ap f (zero-add n)
same_by f n once (suc k) = ap f (suc-add k n) ∙ sym (once k) ∙ same_by f n once k

-- what one visit more leaves as it is, so do many
pub same_later : {A : Type 0} (f : ℕ → A) (graph : Graph) (id visits : ℕ) → ArgumentsThere graph → Founded graph id → id < length graph
    → ((n : ℕ) → is_low n graph id ≡ true → f n ≡ f (suc n)) → length graph ≤ visits → f visits ≡ f (length graph)
same_later f graph id visits there found below once enough =
    let low = low_enough graph id there found below in
    let all : f (visits - length graph + length graph) ≡ f (length graph) =
    same_by f (length graph) (λ k. once (k + length graph) (lower_by k (length graph) graph id low)) (visits - length graph) in
    let same : visits ≡ visits - length graph + length graph = omega arith in
    ap f same ∙ all
