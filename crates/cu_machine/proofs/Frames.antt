-- Graphs whose nodes fit, have their arguments there and have no cycle stay so when nodes are
-- pushed and one is replaced, where the new ones reach only what is below the replaced one, or what
-- was pushed before them.
use Rattle.std.proofs.Common.{◌≡◌, ◌≢◌, ℕ, zero, suc, ◌+◌, ◌-◌, ◌<◌, ◌≤◌, ◌⊎◌, inl, inr, Bool, true, false, not, ◌&&◌, ◌||◌, List, [], ◌∷◌, ◌++◌, IsTrue, refl, ap, sym, true≢false, ◌∙◌, subst, length, nat_lt, nat_le, get_or, arith, ltb-true, lt-ltb, leb-true, le-leb, length-append, length-set, get_or-set_same, get_or-set_other, get_or-append-add, append-nil}
use Rattle.std.specs.List.{list_all}
use Rattle.std.proofs.lemmas.Bool.{cases_lt}
use Rattle.std.proofs.lemmas.List.{get_or_append_left}
use Rattle.cu_calculus.specs.Code.{Code}
use Rattle.cu_machine.specs.declared.Kind.{Kind}
use Rattle.cu_machine.specs.Build.{Built, Fresh, Shared, Top, instead, on_top, place_of, pushed, top_id, written}
use Rattle.cu_machine.specs.Graph.{Graph, Node, node_at, stuck}
use Rattle.cu_machine.specs.Sets.{is_set_kind}
use Rattle.cu_machine.specs.Validity.{AllFounded, ArgumentsThere, Founded, IsAcyclic, NodesFit, are_places, founded, has_arguments, more, none}
use Rattle.cu_machine.proofs.Fuel.{all_follow, both_true, left_true, right_true}

-- ---- nodes that may be pushed

-- What may stand in a graph: nodes of the program, with set functions or without, whose arguments
-- are below the node that is replaced, or were pushed from the place `first` on.
pub record Frame : Type 0 where
  pub program : Code
  pub sets : Bool
  pub below : ℕ → Bool
  pub first : ℕ

abbrev pub passes : Bool → Kind → Bool
passes sets k = sets || not (is_set_kind k)

-- a place that a node at another one may have as its argument
abbrev pub is_there : Frame → ℕ → ℕ → Bool
is_there f place x = f.below x || (nat_le f.first x && nat_lt x place)

pub record Good (f : Frame) (place : ℕ) (node : Node) : Type 0 where
  pub whole : IsTrue (has_arguments f.program node.kind (length node.args))
  pub passing : IsTrue (passes f.sets node.kind)
  pub there : IsTrue (list_all (is_there f place) node.args)

abbrev pub AllGood : Frame → ℕ → List Node → Type 0
AllGood f place [] = Unit {0}
AllGood f place (node ∷ nodes) = Good f place node × AllGood f (suc place) nodes

abbrev pub TopGood : Frame → ℕ → Top → Type 0
TopGood f place (Shared id) = IsTrue (is_there f place id)
TopGood f place (Fresh node) = Good f place node

pub record GoodBuilt (f : Frame) (next : ℕ) (built : Built) : Type 0 where
  pub parts : AllGood f next built.parts
  pub top : TopGood f (next + length built.parts) built.top

-- ---- places

pub or_right : (a b : Bool) → b ≡ true → (a || b) ≡ true
or_right true b h = refl
or_right false b h = h

pub either : (a b : Bool) → (a || b) ≡ true → (a ≡ true) ⊎ (b ≡ true)
either true b h = inl refl
either false b h = inr h

pub there_later : (f : Frame) (y z x : ℕ) → y ≤ z → is_there f y x ≡ true → is_there f z x ≡ true
there_later f y z x later there = go (f.below x) there
  where
    go : (b : Bool) → (b || (nat_le f.first x && nat_lt x y)) ≡ true → (b || (nat_le f.first x && nat_lt x z)) ≡ true
    go true h = refl
    go false h =
        let low : x < y = ltb-true x y (right_true (nat_le f.first x) (nat_lt x y) h) in
        both_true (nat_le f.first x) (nat_lt x z) (left_true (nat_le f.first x) (nat_lt x y) h) (lt-ltb x z (omega arith))

pub there_new : (f : Frame) (place x : ℕ) → f.first ≤ x → x < place → is_there f place x ≡ true
there_new f place x from to =
    or_right (f.below x) (nat_le f.first x && nat_lt x place) (both_true (nat_le f.first x) (nat_lt x place) (le-leb f.first x from) (lt-ltb x place to))

pub there_below : (f : Frame) (place x : ℕ) → f.below x ≡ true → is_there f place x ≡ true
there_below f place x low = rw low refl

pub all_there_later : (f : Frame) (y z : ℕ) (xs : List ℕ) → y ≤ z → list_all (is_there f y) xs ≡ true → list_all (is_there f z) xs ≡ true
all_there_later f y z xs later there = all_follow (is_there f y) (is_there f z) xs (λ x. there_later f y z x later) there

pub all_there_below : (f : Frame) (place : ℕ) (xs : List ℕ) → list_all f.below xs ≡ true → list_all (is_there f place) xs ≡ true
all_there_below f place xs low = all_follow f.below (is_there f place) xs (there_below f place) low

-- ---- lists of nodes

pub good_append : (f : Frame) (place : ℕ) (xs ys : List Node) → AllGood f place xs → AllGood f (place + length xs) ys → AllGood f place (xs ++ ys)
good_append f place [] ys here rest = subst (λ (n : ℕ). AllGood f n ys) (omega arith) rest
good_append f place (x ∷ xs) ys here rest = (here.0, good_append f (suc place) xs ys here.1 (subst (λ (n : ℕ). AllGood f n ys) (omega arith) rest))

pub good_at : (f : Frame) (place : ℕ) (nodes : List Node) (i : ℕ) → AllGood f place nodes → i < length nodes → Good f (place + i) (get_or nodes i stuck)
good_at f place [] i all below = let no : ⊥ = omega arith in absurd no
good_at f place (node ∷ nodes) zero all below = subst (λ (n : ℕ). Good f n node) (omega arith) all.0
good_at f place (node ∷ nodes) (suc i) all below =
    subst (λ (n : ℕ). Good f n (get_or nodes i stuck)) (omega arith) (good_at f (suc place) nodes i all.1 (omega arith))

pub pushed_good : (f : Frame) (next : ℕ) (built : Built) → GoodBuilt f next built → AllGood f next (pushed built)
pushed_good f next built good = good_append f next built.parts (on_top built.top) good.parts (go built.top good.top)
  where
    go : (top : Top) → TopGood f (next + length built.parts) top → AllGood f (next + length built.parts) (on_top top)
    go (Shared id) h = tt
    go (Fresh node) h = (h, tt)

-- the place of what was built may be named by what comes after it
pub place_there : (f : Frame) (next : ℕ) (built : Built) → f.first ≤ next → GoodBuilt f next built
    → is_there f (next + length (pushed built)) (place_of next built) ≡ true
place_there f next built from good = go built.top good.top
  where
    go : (top : Top) → TopGood f (next + length built.parts) top
        → is_there f (next + length (built.parts ++ on_top top)) (top_id (next + length built.parts) top) ≡ true
    go (Shared id) h = rw (append-nil built.parts) h
    go (Fresh node) h =
        there_new f (next + length (built.parts ++ node ∷ [])) (next + length built.parts) (omega arith) (rw (length-append built.parts (node ∷ [])) (omega arith))

-- ---- graphs

pub record Fine (program : Code) (sets : Bool) (graph : Graph) : Type 0 where
  pub nodes : NodesFit program graph
  pub arguments : ArgumentsThere graph
  pub acyclic : IsAcyclic graph
  pub passing : (id : ℕ) → id < length graph → IsTrue (passes sets (node_at graph id).kind)

-- what is below has its arguments below
abbrev pub Closed : (ℕ → Bool) → Graph → Type 0
Closed p graph = (x : ℕ) → p x ≡ true → (x < length graph) × (list_all p (node_at graph x).args ≡ true)

pub length_written : (graph : Graph) (id : ℕ) (built : Built) → length (written graph id built) ≡ length graph + length built.parts
length_written graph id built = length-set (graph ++ built.parts) id (instead built.top) ∙ length-append graph built.parts

pub at_same : (graph : Graph) (id : ℕ) (built : Built) → id < length graph → node_at (written graph id built) id ≡ instead built.top
at_same graph id built here =
    get_or-set_same (graph ++ built.parts) id (instead built.top) stuck (rw (length-append graph built.parts) (omega arith))

pub at_old : (graph : Graph) (id : ℕ) (built : Built) (x : ℕ) → x < length graph → x ≢ id → node_at (written graph id built) x ≡ node_at graph x
at_old graph id built x below other =
    get_or-set_other (graph ++ built.parts) id x (instead built.top) stuck other ∙ get_or_append_left graph built.parts stuck x below

pub at_new : (graph : Graph) (id : ℕ) (built : Built) (i : ℕ) → id < length graph
    → node_at (written graph id built) (length graph + i) ≡ get_or built.parts i stuck
at_new graph id built i here =
    get_or-set_other (graph ++ built.parts) id (length graph + i) (instead built.top) stuck (λ same. let no : ⊥ = omega arith in no)
    ∙ get_or-append-add graph built.parts i stuck

pub instead_good : (f : Frame) (place : ℕ) (top : Top) → TopGood f place top → Good f place (instead top)
instead_good f place (Shared id) there = record { whole = refl; passing = or_right f.sets true refl; there = both_true (is_there f place id) true there refl }
instead_good f place (Fresh node) good = good

-- each place of the new graph is the replaced one, an old one, or a new one
pub data Where (graph : Graph) (id count x : ℕ) : Type 0 where
  is_replaced : x ≡ id → Where graph id count x
  is_old : x < length graph → x ≢ id → Where graph id count x
  is_new : (i : ℕ) → i < count → x ≡ length graph + i → Where graph id count x

pub same_or_other : (x y : ℕ) → (x ≡ y) ⊎ (x ≢ y)
same_or_other x y = elim (cases_lt x y) [
  | inl before ↦ inr (λ same. let no : ⊥ = omega arith in no)
  | inr from ↦ elim (cases_lt y x) [
    | inl after ↦ inr (λ same. let no : ⊥ = omega arith in no)
    | inr to ↦ inl (omega arith)
  ]
]

pub where_is : (graph : Graph) (id count x : ℕ) → x < length graph + count → Where graph id count x
where_is graph id count x below = elim (cases_lt x (length graph)) [
  | inl less ↦ elim (same_or_other x id) [ inl same ↦ is_replaced same | inr other ↦ is_old less other ]
  | inr from ↦ is_new (x - length graph) (omega arith) (omega arith)
]

-- what old nodes have, and those that may be pushed, every node of the new graph has
pub each_written : (f : Frame) (graph : Graph) (id : ℕ) (built : Built) (P : Node → Type 0) → id < length graph → GoodBuilt f (length graph) built
    → ((x : ℕ) → x < length graph → P (node_at graph x))
    → ((place : ℕ) (node : Node) → place ≤ length graph + length built.parts → Good f place node → P node)
    → (x : ℕ) → x < length (written graph id built) → P (node_at (written graph id built) x)
each_written f graph id built P here good olds news x below =
    go (where_is graph id (length built.parts) x (subst (λ (n : ℕ). x < n) (length_written graph id built) below))
  where
    go : Where graph id (length built.parts) x → P (node_at (written graph id built) x)
    go (is_replaced same) =
        subst (λ (y : ℕ). P (node_at (written graph id built) y)) (sym same)
        (subst P (sym (at_same graph id built here))
        (news (length graph + length built.parts) (instead built.top) (omega arith) (instead_good f (length graph + length built.parts) built.top good.top)))
    go (is_old less other) = subst P (sym (at_old graph id built x less other)) (olds x less)
    go (is_new i within same) =
        subst (λ (y : ℕ). P (node_at (written graph id built) y)) (sym same)
        (subst P (sym (at_new graph id built i here))
        (news (length graph + i) (get_or built.parts i stuck) (omega arith) (good_at f (length graph) built.parts i good.parts within)))

-- a place that may be named is one of the graph's, or a new one before
pub there_is : (f : Frame) (graph : Graph) (place x : ℕ) → f.first ≡ length graph → Closed f.below graph → is_there f place x ≡ true
    → (f.below x ≡ true) ⊎ ((length graph ≤ x) × (x < place))
there_is f graph place x starts closed there = elim (either (f.below x) (nat_le f.first x && nat_lt x place) there) [
  | inl low ↦ inl low
  | inr new ↦
      let from : f.first ≤ x = leb-true f.first x (left_true (nat_le f.first x) (nat_lt x place) new) in
      let to : x < place = ltb-true x place (right_true (nat_le f.first x) (nat_lt x place) new) in
      inr (omega arith, to)
]

pub there_within : (f : Frame) (graph : Graph) (place n x : ℕ) → f.first ≡ length graph → Closed f.below graph → length graph ≤ n → place ≤ n
    → is_there f place x ≡ true → nat_lt x n ≡ true
there_within f graph place n x starts closed above to there = elim (there_is f graph place x starts closed there) [
  | inl low ↦ let within = (closed x low).0 in lt-ltb x n (omega arith)
  | inr new ↦ let less = new.1 in lt-ltb x n (omega arith)
]

-- ---- no cycles

pub all_founded : (p : ℕ → Bool) (graph : Graph) (ids : List ℕ) → ((x : ℕ) → p x ≡ true → Founded graph x) → list_all p ids ≡ true → AllFounded graph ids
all_founded p graph [] each all = none
all_founded p graph (id ∷ ids) each all =
    more id ids (each id (left_true (p id) (list_all p ids) all)) (all_founded p graph ids each (right_true (p id) (list_all p ids) all))

pub founded_as : (graph : Graph) (x : ℕ) (node : Node) → node_at graph x ≡ node → AllFounded graph node.args → Founded graph x
founded_as graph x node same all = founded x (subst (λ (n : Node). AllFounded graph n.args) (sym same) all)

pub apart_from : (p : ℕ → Bool) (x id : ℕ) → p x ≡ true → p id ≡ false → x ≢ id
apart_from p x id low high = λ same. let no : ⊥ = true≢false (sym low ∙ ap p same ∙ high) in no

-- what is below stays founded
mutual
  pub below_founded : (p : ℕ → Bool) (graph : Graph) (id : ℕ) (built : Built) (x : ℕ) → Closed p graph → p id ≡ false → Founded graph x → p x ≡ true
      → Founded (written graph id built) x
  below_founded p graph id built x closed apart (founded node all) low =
      founded_as (written graph id built) x (node_at graph x) (at_old graph id built x (closed x low).0 (apart_from p x id low apart))
      (all_below_founded p graph id built (node_at graph x).args closed apart all (closed x low).1)

  pub all_below_founded : (p : ℕ → Bool) (graph : Graph) (id : ℕ) (built : Built) (ids : List ℕ) → Closed p graph → p id ≡ false → AllFounded graph ids
      → list_all p ids ≡ true → AllFounded (written graph id built) ids
  all_below_founded p graph id built [] closed apart none low = none
  all_below_founded p graph id built (x ∷ xs) closed apart (more first rest one others) low =
      more x xs (below_founded p graph id built x closed apart one (left_true (p x) (list_all p xs) low))
      (all_below_founded p graph id built xs closed apart others (right_true (p x) (list_all p xs) low))

pub or_replaced : (graph : Graph) (id : ℕ) (built : Built) (x : ℕ) → Founded (written graph id built) id → x < length graph
    → AllFounded (written graph id built) (node_at graph x).args → Founded (written graph id built) x
or_replaced graph id built x replaced below all = elim (same_or_other x id) [
  | inl same ↦ subst (λ (y : ℕ). Founded (written graph id built) y) (sym same) replaced
  | inr other ↦ founded_as (written graph id built) x (node_at graph x) (at_old graph id built x below other) all
]

-- if no path from the replaced node is endless, none from another node is
mutual
  pub others_founded : (graph : Graph) (id : ℕ) (built : Built) (x : ℕ) → ArgumentsThere graph → Founded (written graph id built) id → Founded graph x
      → x < length graph → Founded (written graph id built) x
  others_founded graph id built x there replaced (founded node all) below =
      or_replaced graph id built x replaced below
      (all_others_founded graph id built (node_at graph x).args there replaced all (there x below))

  pub all_others_founded : (graph : Graph) (id : ℕ) (built : Built) (ids : List ℕ) → ArgumentsThere graph → Founded (written graph id built) id
      → AllFounded graph ids → IsTrue (are_places (length graph) ids) → AllFounded (written graph id built) ids
  all_others_founded graph id built [] there replaced none below = none
  all_others_founded graph id built (x ∷ xs) there replaced (more first rest one others) below =
      more x xs
      (others_founded graph id built x there replaced one (ltb-true x (length graph) (left_true (nat_lt x (length graph)) (are_places (length graph) xs) below)))
      (all_others_founded graph id built xs there replaced others (right_true (nat_lt x (length graph)) (are_places (length graph) xs) below))

-- the new ones are founded, from the first on
pub news_founded : (f : Frame) (graph : Graph) (id : ℕ) (built : Built) → f.first ≡ length graph → IsAcyclic graph → id < length graph
    → Closed f.below graph → f.below id ≡ false → AllGood f (length graph) built.parts
    → (k : ℕ) → k ≤ length built.parts → (x : ℕ) → is_there f (length graph + k) x ≡ true → Founded (written graph id built) x
news_founded f graph id built starts acyclic here closed apart good zero within x there = elim (there_is f graph (length graph + 0) x starts closed there) [
  | inl low ↦ below_founded f.below graph id built x closed apart (acyclic x (closed x low).0) low
  | inr new ↦ let no : ⊥ = omega (arith, new.0, new.1) in absurd no
]
news_founded f graph id built starts acyclic here closed apart good (suc k) within x there = elim (there_is f graph (length graph + suc k) x starts closed there) [
  | inl low ↦ below_founded f.below graph id built x closed apart (acyclic x (closed x low).0) low
  | inr new ↦ elim (cases_lt x (length graph + k)) [
    | inl less ↦ news_founded f graph id built starts acyclic here closed apart good k (omega arith) x (there_new f (length graph + k) x (omega (arith, new.0)) less)
    | inr last ↦
        let same : x ≡ length graph + k = omega (arith, new.1) in
        let this = good_at f (length graph) built.parts k good (omega arith) in
        founded_as (written graph id built) x (get_or built.parts k stuck)
        (ap (node_at (written graph id built)) same ∙ at_new graph id built k here)
        (all_founded (is_there f (length graph + k)) (written graph id built) (get_or built.parts k stuck).args
        (news_founded f graph id built starts acyclic here closed apart good k (omega arith)) this.there)
  ]
]

pub written_acyclic : (f : Frame) (graph : Graph) (id : ℕ) (built : Built) → f.first ≡ length graph → Fine f.program f.sets graph → id < length graph
    → Closed f.below graph → f.below id ≡ false → GoodBuilt f (length graph) built → IsAcyclic (written graph id built)
written_acyclic f graph id built starts fine here closed apart good x below =
    go (where_is graph id (length built.parts) x (subst (λ (n : ℕ). x < n) (length_written graph id built) below))
  where
    news : (y : ℕ) → is_there f (length graph + length built.parts) y ≡ true → Founded (written graph id built) y
    news = news_founded f graph id built starts fine.acyclic here closed apart good.parts (length built.parts) (omega arith)

    there : Founded (written graph id built) id
    there =
        founded_as (written graph id built) id (instead built.top) (at_same graph id built here)
        (all_founded (is_there f (length graph + length built.parts)) (written graph id built) (instead built.top).args news
        (instead_good f (length graph + length built.parts) built.top good.top).there)

    go : Where graph id (length built.parts) x → Founded (written graph id built) x
    go (is_replaced same) = subst (λ (y : ℕ). Founded (written graph id built) y) (sym same) there
    go (is_old less other) = others_founded graph id built x fine.arguments there (fine.acyclic x less) less
    go (is_new i within same) = news x (there_new f (length graph + length built.parts) x (omega arith) (omega arith))

pub written_fine : (f : Frame) (graph : Graph) (id : ℕ) (built : Built) → f.first ≡ length graph → Fine f.program f.sets graph → id < length graph
    → Closed f.below graph → f.below id ≡ false → GoodBuilt f (length graph) built → Fine f.program f.sets (written graph id built)
written_fine f graph id built starts fine here closed apart good = record {
  nodes =
      each_written f graph id built (λ node. IsTrue (has_arguments f.program node.kind (length node.args))) here good fine.nodes (λ place node within this. this.whole);
  arguments =
      each_written f graph id built (λ node. IsTrue (are_places (length (written graph id built)) node.args)) here good
      (λ x below. all_follow (λ y. nat_lt y (length graph)) (λ y. nat_lt y (length (written graph id built))) (node_at graph x).args
      (λ y less. let less : y < length graph = ltb-true y (length graph) less in lt-ltb y (length (written graph id built)) (omega (arith, length_written graph id built)))
      (fine.arguments x below))
      (λ place node within this. all_follow (is_there f place) (λ y. nat_lt y (length (written graph id built))) node.args
      (λ y there. there_within f graph place (length (written graph id built)) y starts closed (omega (arith, length_written graph id built)) (omega (arith, length_written graph id built)) there)
      this.there);
  acyclic = written_acyclic f graph id built starts fine here closed apart good;
  passing = each_written f graph id built (λ node. IsTrue (passes f.sets node.kind)) here good fine.passing (λ place node within this. this.passing);
}
