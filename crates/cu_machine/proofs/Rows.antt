-- What a row needs so that the graphs that it gives are fine.
use Rattle.std.proofs.Common.{◌≡◌, ℕ, zero, suc, ◌+◌, ◌<◌, ◌≤◌, inl, inr, Bool, true, false, ◌&&◌, List, [], ◌∷◌, Option, None, Some, refl, ap, sym, ◌∙◌, subst, true≢false, length, nat_lt, arith, ltb-true, append-nil}
use Rattle.std.specs.List.{list_all}
use Rattle.std.proofs.lemmas.Bool.{cases_lt}
use Rattle.std.proofs.lemmas.List.{get_or_past}
use Rattle.cu_calculus.specs.declared.FunId.{FunId}
use Rattle.cu_calculus.specs.declared.Head.TheVariants as head
use Rattle.cu_calculus.specs.Code as code
use Rattle.cu_calculus.specs.Code.{Body, Code, arity_of, body_of, function_arity, is_rule}
use Rattle.cu_calculus.specs.Literal.{is_literal}
use Rattle.cu_calculus.specs.Shape.{takes, takes_more}
use Rattle.cu_calculus.specs.Value as value
use Rattle.cu_calculus.specs.Value.{Value, Values, count}
use Rattle.cu_calculus.specs.WellFormed.{conjoins, has_special, is_allowed}
use Rattle.cu_machine.specs.declared.Kind.{Kind}
use Rattle.cu_machine.specs.declared.Kind.TheVariants as kind
use Rattle.cu_machine.specs.Build.{Built, build_alone, written}
use Rattle.cu_machine.specs.Graph.{Graph, Node, alone, head_within, node_at, put, stuck}
use Rattle.cu_machine.specs.Rewrite.{Become, Collect, Move, Overflows, replacement_step, truth_step}
use Rattle.cu_machine.specs.Validity.{AllPlain, ArgumentsThere, Founded, Plain, has_arguments, is_call, is_plain, more, none, plain}
use Rattle.cu_machine.proofs.Building.{CodeGood, special_there}
use Rattle.cu_machine.proofs.Frames.{Closed, Fine, Frame, GoodBuilt, all_there_below, at_old, length_written, or_right, passes, same_or_other, written_fine}
use Rattle.cu_machine.proofs.Fuel.{all_follow, both_true, is_low, left_true, low_enough, lower, right_true}
use Rattle.cu_machine.proofs.Visits.{followed_keeps, never_low}

-- ---- what is below a node

pub record Beneath (graph : Graph) (id : ℕ) (p : ℕ → Bool) : Type 0 where
  pub closed : Closed p graph
  pub apart : p id ≡ false
  pub args : list_all p (node_at graph id).args ≡ true

abbrev FirstLow : Graph → ℕ → Type 0
FirstLow graph id = (m : ℕ) × (is_low m graph id ≡ false) × (is_low (suc m) graph id ≡ true)

pub first_low_at : (graph : Graph) (id n : ℕ) (b : Bool) → is_low n graph id ≡ b → is_low (suc n) graph id ≡ true → (is_low n graph id ≡ true → FirstLow graph id)
    → FirstLow graph id
first_low_at graph id n true is low before = before is
first_low_at graph id n false is low before = (n, is, low)

pub first_low : (graph : Graph) (id n : ℕ) → is_low n graph id ≡ true → FirstLow graph id
first_low graph id zero low = never_low graph id low
first_low graph id (suc n) low = first_low_at graph id n (is_low n graph id) refl low (first_low graph id n)

pub all_lower : (m : ℕ) (graph : Graph) (xs : List ℕ) → list_all (is_low m graph) xs ≡ true → list_all (is_low (suc m) graph) xs ≡ true
all_lower m graph xs low = all_follow (is_low m graph) (is_low (suc m) graph) xs (lower m graph) low

pub low_args : (m : ℕ) (graph : Graph) (x : ℕ) → is_low m graph x ≡ true → list_all (is_low m graph) (node_at graph x).args ≡ true
unfolding is_low
low_args zero graph x low = never_low graph x low
low_args (suc m) graph x low = all_lower m graph (node_at graph x).args low

pub both_all : {A : Type 0} (p q : A → Bool) (xs : List A) → list_all p xs ≡ true → list_all q xs ≡ true → list_all (λ x. p x && q x) xs ≡ true
both_all p q [] a b = refl
both_all p q (x ∷ xs) a b =
    both_true (p x && q x) (list_all (λ y. p y && q y) xs)
    (both_true (p x) (q x) (left_true (p x) (list_all p xs) a) (left_true (q x) (list_all q xs) b))
    (both_all p q xs (right_true (p x) (list_all p xs) a) (right_true (q x) (list_all q xs) b))

pub no_and : (a b : Bool) → b ≡ false → (a && b) ≡ false
no_and true b high = high
no_and false b high = refl

-- below a node of a graph without cycles there is a set of nodes without it
pub beneath : (graph : Graph) (id : ℕ) → ArgumentsThere graph → Founded graph id → id < length graph → (p : ℕ → Bool) × Beneath graph id p
unfolding is_low
beneath graph id there found below =
    let low = first_low graph id (length graph) (low_enough graph id there found below) in
    let within = λ (x : ℕ). nat_lt x (length graph) in (
      λ x. within x && is_low low.0 graph x,
      record {
        closed = λ x here.
            let less : x < length graph = ltb-true x (length graph) (left_true (within x) (is_low low.0 graph x) here) in (
              less,
              both_all within (is_low low.0 graph) (node_at graph x).args (there x less)
                  (low_args low.0 graph x (right_true (within x) (is_low low.0 graph x) here)),
            );
        apart = no_and (within id) (is_low low.0 graph id) low.1;
        args = both_all within (is_low low.0 graph) (node_at graph id).args (there id below) low.2;
      },
    )

pub head_closed : (p : ℕ → Bool) (graph : Graph) (visits x : ℕ) → Closed p graph → p x ≡ true → p (head_within visits graph x) ≡ true
unfolding head_within
head_closed p graph zero x closed here = here
head_closed p graph (suc visits) x closed here =
    followed_keeps p p (head_within visits graph) x (node_at graph x).kind (node_at graph x).args here (λ y low. head_closed p graph visits y closed low) (closed x here).1

-- ---- goal variables

pub plain_there : (graph : Graph) (x : ℕ) → is_plain (node_at graph x).kind ≡ true → x < length graph
plain_there graph x is = elim (cases_lt x (length graph)) [
  | inl less ↦ less
  | inr past ↦
      let no : ⊥ = true≢false (sym is ∙ ap (λ (n : Node). is_plain n.kind) (get_or_past graph x stuck past)) in absurd no
]

pub plain_as : (graph : Graph) (x : ℕ) (node : Node) → node_at graph x ≡ node → is_plain node.kind ≡ true → AllPlain graph node.args → Plain graph x
plain_as graph x node same is all =
    plain x (subst (λ (n : Node). is_plain n.kind ≡ true) (sym same) is) (subst (λ (n : Node). AllPlain graph n.args) (sym same) all)

-- what the replaced node is, where it is a plain one
abbrev pub PlainAt : Graph → ℕ → Built → Type 0
PlainAt graph id built = is_plain (node_at graph id).kind ≡ true → Plain (written graph id built) id

pub plain_or_replaced : (graph : Graph) (id : ℕ) (built : Built) (x : ℕ) → PlainAt graph id built → is_plain (node_at graph x).kind ≡ true
    → AllPlain (written graph id built) (node_at graph x).args → Plain (written graph id built) x
plain_or_replaced graph id built x there is all = elim (same_or_other x id) [
  | inl same ↦ subst (λ (y : ℕ). Plain (written graph id built) y) (sym same) (there (subst (λ (y : ℕ). is_plain (node_at graph y).kind ≡ true) same is))
  | inr other ↦ plain_as (written graph id built) x (node_at graph x) (at_old graph id built x (plain_there graph x is) other) is all
]

mutual
  pub plain_written : (graph : Graph) (id : ℕ) (built : Built) (x : ℕ) → PlainAt graph id built → Plain graph x → Plain (written graph id built) x
  plain_written graph id built x there (plain node is all) =
      plain_or_replaced graph id built x there is (all_plain_written graph id built (node_at graph x).args there all)

  pub all_plain_written : (graph : Graph) (id : ℕ) (built : Built) (xs : List ℕ) → PlainAt graph id built → AllPlain graph xs → AllPlain (written graph id built) xs
  all_plain_written graph id built [] there none = none
  all_plain_written graph id built (x ∷ xs) there (more first rest one others) =
      more x xs (plain_written graph id built x there one) (all_plain_written graph id built xs there others)

-- ---- graphs that rows give

pub record GraphGood (program : Code) (sets : Bool) (goals : List ℕ) (n : ℕ) (graph : Graph) : Type 0 where
  pub fine : Fine program sets graph
  pub plain : AllPlain graph goals
  pub longer : n ≤ length graph

abbrev pub AllGraphsGood : Code → Bool → List ℕ → ℕ → List Graph → Type 0
AllGraphsGood program sets goals n [] = Unit {0}
AllGraphsGood program sets goals n (graph ∷ graphs) = GraphGood program sets goals n graph × AllGraphsGood program sets goals n graphs

-- a value whose nodes are the program's, but for partial applications
abbrev mutual
  pub fits_value : Code → Value → Bool
  fits_value program value.Bottom = true
  fits_value program (value.Variable x) = true
  fits_value program (value.Literal l) = is_literal l
  fits_value program (value.Constructed c vs) = takes (arity_of program (head.Con c)) (count vs) && fit_values program vs
  fits_value program (value.Partial h vs) = (is_allowed program h && takes_more (arity_of program h) (count vs)) && fit_values program vs

  pub fit_values : Code → Values → Bool
  fit_values program value.NoValue = true
  fit_values program (value.MoreValues v vs) = fits_value program v && fit_values program vs

pub record CollectGood (program : Code) (sets : Bool) (f : FunId) (arguments : Values) : Type 0 where
  pub sets_there : sets ≡ true
  pub whole : takes (function_arity program f) (count arguments) ≡ true
  pub fit : fit_values program arguments ≡ true

abbrev pub MoveGood : Code → Bool → List ℕ → ℕ → Move → Type 0
MoveGood program sets goals n (Become graphs) = AllGraphsGood program sets goals n graphs
MoveGood program sets goals n (Overflows operation a b) = Unit {0}
MoveGood program sets goals n (Collect f arguments) = CollectGood program sets f arguments

-- ---- what is rewritten

-- a place in a graph, at which no goal variable's value stands, with what is below it
pub record Base (program : Code) (sets : Bool) (graph : Graph) (goals : List ℕ) (n id : ℕ) (p : ℕ → Bool) : Type 0 where
  pub code : CodeGood program sets
  pub fine : Fine program sets graph
  pub plain : AllPlain graph goals
  pub longer : n ≤ length graph
  pub here : id < length graph
  pub unplain : is_plain (node_at graph id).kind ≡ false
  pub closed : Closed p graph
  pub apart : p id ≡ false

abbrev pub frame_of : Code → Bool → Graph → (ℕ → Bool) → Frame
frame_of program sets graph p = record { program = program; sets = sets; below = p; first = length graph }

pub graph_good : (f : Frame) (graph : Graph) (goals : List ℕ) (n at : ℕ) (built : Built) → f.first ≡ length graph → Fine f.program f.sets graph → AllPlain graph goals
    → n ≤ length graph → at < length graph → Closed f.below graph → f.below at ≡ false → GoodBuilt f (length graph) built → PlainAt graph at built
    → GraphGood f.program f.sets goals n (written graph at built)
graph_good f graph goals n at built starts fine goals_plain longer here closed apart good replaced = record {
  fine = written_fine f graph at built starts fine here closed apart good;
  plain = all_plain_written graph at built goals replaced goals_plain;
  longer = omega (arith, length_written graph at built);
}

pub written_good : (program : Code) (sets : Bool) (graph : Graph) (goals : List ℕ) (n id : ℕ) (p : ℕ → Bool) (built : Built) → Base program sets graph goals n id p
    → GoodBuilt (frame_of program sets graph p) (length graph) built → GraphGood program sets goals n (written graph id built)
written_good program sets graph goals n id p built base good =
    graph_good (frame_of program sets graph p) graph goals n id built refl base.fine base.plain base.longer base.here base.closed base.apart good
    (λ is. let no : ⊥ = true≢false (sym is ∙ base.unplain) in absurd no)

pub put_is_written : (graph : Graph) (id : ℕ) (node : Node) → written graph id (build_alone node) ≡ put graph id node
put_is_written graph id node = ap (λ (g : Graph). put g id node) (append-nil graph)

-- a node over nodes below
pub put_good : (program : Code) (sets : Bool) (graph : Graph) (goals : List ℕ) (n id : ℕ) (p : ℕ → Bool) (node : Node) → Base program sets graph goals n id p
    → has_arguments program node.kind (length node.args) ≡ true → passes sets node.kind ≡ true → list_all p node.args ≡ true
    → GraphGood program sets goals n (put graph id node)
put_good program sets graph goals n id p node base whole passing low =
    subst (λ (g : Graph). GraphGood program sets goals n g) (put_is_written graph id node)
    (written_good program sets graph goals n id p (build_alone node) base
    (record { parts = tt; top = record { whole = whole; passing = passing; there = all_there_below (frame_of program sets graph p) (length graph + 0) node.args low } }))

pub puts_good : (program : Code) (sets : Bool) (graph : Graph) (goals : List ℕ) (n id : ℕ) (p : ℕ → Bool) (node : Node) → Base program sets graph goals n id p
    → has_arguments program node.kind (length node.args) ≡ true → passes sets node.kind ≡ true → list_all p node.args ≡ true
    → MoveGood program sets goals n (replacement_step graph id node)
puts_good program sets graph goals n id p node base whole passing low = (put_good program sets graph goals n id p node base whole passing low, tt)

-- ---- built-in entities

pub record SpecialGood (program : Code) : Type 0 where
  pub falsity : takes (arity_of program (head.Con program.special.falsity)) 0 ≡ true
  pub truth : takes (arity_of program (head.Con program.special.truth)) 0 ≡ true
  pub nil : takes (arity_of program (head.Con program.special.nil)) 0 ≡ true
  pub cons : takes (arity_of program (head.Con program.special.cons)) 2 ≡ true
  pub both : is_call (arity_of program (head.Fun program.special.both)) (body_of program program.special.both) 2 ≡ true
  pub values : elim program.special.values [ Some c ↦ takes (arity_of program (head.Con c)) 1 | None ↦ true ] ≡ true

pub rule_call : (arity : Option ℕ) (body : Option Body) (n : ℕ) → is_rule body ≡ true → takes arity n ≡ true → is_call arity body n ≡ true
rule_call arity (Some (code.Rule params e)) n rule whole = whole
rule_call arity (Some (code.External operation)) n rule whole = let no : ⊥ = true≢false (sym rule) in absurd no
rule_call arity None n rule whole = let no : ⊥ = true≢false (sym rule) in absurd no

pub conjoins_by_rule : (program : Code) (body : Option Body) → conjoins program body ≡ true → is_rule body ≡ true
conjoins_by_rule program (Some (code.Rule params e)) is = refl
conjoins_by_rule program (Some (code.External operation)) is = is
conjoins_by_rule program None is = is

pub special_good : (program : Code) → has_special program ≡ true → SpecialGood program
special_good program special =
    let a = takes (arity_of program (head.Con program.special.falsity)) 0 in
    let b = takes (arity_of program (head.Con program.special.truth)) 0 in
    let c = nat_lt program.special.falsity.0 program.special.truth.0 in
    let d = takes (arity_of program (head.Con program.special.nil)) 0 in
    let e = takes (arity_of program (head.Con program.special.cons)) 2 in
    let f = conjoins program (body_of program program.special.both) in
    let g = takes (arity_of program (head.Fun program.special.both)) 2 in
    let h : Bool = elim program.special.values [ Some c ↦ takes (arity_of program (head.Con c)) 1 | None ↦ true ] in
    let to_g : (a && b && c && d && e && f && g) ≡ true = left_true (a && b && c && d && e && f && g) h special in
    let to_f : (a && b && c && d && e && f) ≡ true = left_true (a && b && c && d && e && f) g to_g in
    let to_e : (a && b && c && d && e) ≡ true = left_true (a && b && c && d && e) f to_f in
    let to_d : (a && b && c && d) ≡ true = left_true (a && b && c && d) e to_e in
    let to_b : (a && b) ≡ true = left_true (a && b) c (left_true (a && b && c) d to_d) in
    record {
      falsity = left_true a b to_b;
      truth = right_true a b to_b;
      nil = right_true (a && b && c) d to_d;
      cons = right_true (a && b && c && d) e to_e;
      both = rule_call (arity_of program (head.Fun program.special.both)) (body_of program program.special.both) 2
          (conjoins_by_rule program (body_of program program.special.both) (right_true (a && b && c && d && e) f to_f))
          (right_true (a && b && c && d && e && f) g to_g);
      values = right_true (a && b && c && d && e && f && g) h special;
    }

pub code_special : (program : Code) (sets : Bool) → CodeGood program sets → SpecialGood program
code_special program sets good = special_good program (special_there program good.well_formed)

-- ---- nodes without arguments

module _ (program : Code) (sets : Bool) (graph : Graph) (goals : List ℕ) (n id : ℕ) (p : ℕ → Bool) (base : Base program sets graph goals n id p) where
  pub leaf_good : (k : Kind) → has_arguments program k 0 ≡ true → passes sets k ≡ true → MoveGood program sets goals n (replacement_step graph id (alone k))
  leaf_good k whole passing = puts_good program sets graph goals n id p (alone k) base whole passing refl

  pub fails_good : MoveGood program sets goals n (replacement_step graph id (alone kind.Fail))
  fails_good = leaf_good kind.Fail refl (or_right sets true refl)

  pub sticks_good : MoveGood program sets goals n (replacement_step graph id (alone kind.Stuck))
  sticks_good = leaf_good kind.Stuck refl (or_right sets true refl)

  pub tells_good : (answer : Bool) → MoveGood program sets goals n (truth_step program.special graph id answer)
  tells_good true = leaf_good (kind.Cons program.special.truth) (code_special program sets base.code).truth (or_right sets true refl)
  tells_good false = leaf_good (kind.Cons program.special.falsity) (code_special program sets base.code).falsity (or_right sets true refl)
