-- What is needed has a value: by induction over what the strategy walks.
use Rattle.std.proofs.Common.{◌≡◌, ◌≢◌, ℕ, zero, suc, inl, inr, Bool, true, false, if◌then◌else◌, List, [], ◌∷◌, refl, ap, sym, ◌∙◌, subst, length, map, None, Some, ◌&&◌, true≢false}
use Rattle.std.specs.List.{list_all}
use Rattle.std.proofs.lemmas.Bool.{and_from, and_parts, cases_lt}
use Rattle.std.proofs.lemmas.List.{get_or_past}
use Rattle.cu_calculus.specs.declared.ConId.{ConId}
use Rattle.cu_calculus.specs.declared.Head.TheVariants as head
use Rattle.cu_calculus.specs.declared.Lit.{Lit}
use Rattle.cu_calculus.specs.declared.Lit.TheVariants.{Int}
use Rattle.cu_calculus.specs.declared.Mode.{Mode}
use Rattle.cu_calculus.specs.declared.Mode.TheVariants.{Flex, Rigid}
use Rattle.cu_calculus.specs.declared.builtin.Primitive.{Primitive}
use Rattle.cu_calculus.specs.declared.builtin.Primitive.TheVariants as prim
use Rattle.cu_calculus.specs.Below as below
use Rattle.cu_calculus.specs.Below.{Below}
use Rattle.cu_calculus.specs.Builtin as builtin
use Rattle.cu_calculus.specs.Builtin.{Answers, on_literals, truth_of}
use Rattle.cu_calculus.specs.Code.{Code}
use Rattle.cu_calculus.specs.FlatProgram.{program_of}
use Rattle.cu_calculus.specs.Gives.{Claim}
use Rattle.cu_calculus.specs.Match.{same_constructor}
use Rattle.cu_calculus.specs.Program.{Program}
use Rattle.cu_calculus.specs.Shape.{is_total}
use Rattle.cu_calculus.specs.Value as value
use Rattle.cu_calculus.specs.Value.{Value, Values}
use Rattle.cu_calculus.proofs.Comparing.{same_itself}
use Rattle.cu_machine.specs.declared.Kind.{Kind}
use Rattle.cu_machine.specs.declared.Kind.TheVariants as kind
use Rattle.cu_machine.specs.Graph.{Graph, Node, head_at, head_of, node_at, stuck}
use Rattle.cu_machine.specs.Need.{At, Dead, Done, Extent, Need, Outermost, Throughout, Wait, before, first, free_of, is_head, need_all, need_at, need_within, operands, rest_at, side, strict, unless_done, unless_free, unless_rigid, unless_true, waiting}
use Rattle.cu_machine.specs.Steps.{node}
use Rattle.cu_machine.proofs.NeedPlaces.{first_done}
use Rattle.cu_machine.proofs.DoneLaws.{then_second, within_is_head}
use Rattle.cu_laws.specs.Good.{Assignment, Loose, MayHave, Worth}
use Rattle.cu_laws.proofs.Heads.{constructed_is, values_at}
use Rattle.cu_laws.proofs.Known.{answers_known, applied_known, distinguished_known, is_known, known_above, known_args, known_is_not_bottom, set_ground, total_args, total_known, worth_of}
use Rattle.cu_laws.proofs.LooseNodes.{AnyValue, head_above, head_most}
use Rattle.cu_laws.proofs.Rising.{all_ground_total, total_above}

-- as much of a value as is needed
abbrev enough : Extent → Value → Bool
enough Outermost v = is_known v
enough Throughout v = is_total v

enough_known : (extent : Extent) (v : Value) → enough extent v ≡ true → is_known v ≡ true
enough_known Outermost v is = is
enough_known Throughout v is = total_known v is

enough_above : (extent : Extent) (u v : Value) → Below u v → enough extent u ≡ true → enough extent v ≡ true
enough_above Outermost u v low is = known_above u v low is
enough_above Throughout u v low is = ap is_total (sym (total_above u v low is)) ∙ is

-- ---- conjunctions

-- a node is True, and a value is
abbrev pub is_truth : ConId → Kind → Bool
is_truth truth (kind.Cons c) = same_constructor c truth
is_truth truth _ = false

abbrev is_truth_value : ConId → Value → Bool
is_truth_value truth (value.Constructed c vs) = same_constructor c truth
is_truth_value truth _ = false

-- the sides of a conjunction are True where it is rewritten
abbrev pub is_settled : ConId → Graph → Kind → List ℕ → Bool
is_settled truth graph (kind.Prim prim.And) args = list_all (λ x. is_truth truth (head_at graph x).kind) args
is_settled truth graph _ args = true

conjunction_none : (program : Program) (ls : List Lit) → on_literals program prim.And ls ≡ None
conjunction_none program (Int m ∷ Int n ∷ []) = refl
conjunction_none program _ = refl

truths_known : (program : Code) (assigned : Assignment) (args : List ℕ) (us : Values) (v : Value) (operation : Primitive) → Answers (program_of program) operation us v
    → operation ≡ prim.And → us ≡ values_at assigned args → list_all (λ x. is_truth_value program.special.truth (assigned x)) args ≡ true
truths_known program assigned args us v _ (builtin.conjoined a b _ f g e) op is = go args is
  where
    truth : ConId
    truth = program.special.truth

    one : (x : Value) → x ≡ truth_of (program_of program) true → is_truth_value truth x ≡ true
    one x same = ap (is_truth_value truth) same ∙ same_itself truth

    go : (args : List ℕ) → value.MoreValues a (value.MoreValues b value.NoValue) ≡ values_at assigned args
        → list_all (λ x. is_truth_value truth (assigned x)) args ≡ true
    go [] same = let no : ⊥ = cc in absurd no
    go (x ∷ []) same = let no : ⊥ = cc in absurd no
    go (x ∷ y ∷ []) same =
        let first : a ≡ assigned x = cc in
        let second : b ≡ assigned y = cc in
        and_from (is_truth_value truth (assigned x)) (is_truth_value truth (assigned y) && true) (one (assigned x) (sym first ∙ f))
        (and_from (is_truth_value truth (assigned y)) true (one (assigned y) (sym second ∙ g)) refl)
    go (x ∷ y ∷ z ∷ more) same = let no : ⊥ = cc in absurd no
truths_known program assigned args us v operation (builtin.of_literals _ ls _ _ e f) op is =
    let some : on_literals (program_of program) prim.And ls ≡ Some v = subst (λ (o : Primitive). on_literals (program_of program) o ls ≡ Some v) op f in
    let none = conjunction_none (program_of program) ls in
    let no : ⊥ = cc in
    absurd no
truths_known program assigned args us v _ (builtin.equal a b _ answer c e) op is = let no : ⊥ = cc in absurd no
truths_known program assigned args us v _ (builtin.unified a b _ same total e) op is = let no : ⊥ = cc in absurd no

truth_value_known : (truth : ConId) (v : Value) → is_truth_value truth v ≡ true → is_known v ≡ true
truth_value_known truth value.Bottom is = is
truth_value_known truth (value.Variable x) is = refl
truth_value_known truth (value.Literal l) is = refl
truth_value_known truth (value.Constructed c vs) is = refl
truth_value_known truth (value.Partial h vs) is = refl

-- what is above True is True, and nothing else
truth_above : (truth : ConId) (u v : Value) → Below u v → is_truth_value truth u ≡ true → is_truth_value truth v ≡ true
truth_above truth _ v (below.bottom _) is = absurd (true≢false (sym is))
truth_above truth _ _ (below.variable x) is = is
truth_above truth _ _ (below.literal l) is = is
truth_above truth _ _ (below.constructed c us vs p) is = is
truth_above truth _ _ (below.partial h us vs p) is = is

if_done : (id : ℕ) (b : Bool) → (if b then Done else At id) ≡ Done → b ≡ true
if_done id true same = refl
if_done id false same = let no : ⊥ = cc in absurd no

true_done : (truth : ConId) (id other : ℕ) (k : Kind) → unless_true truth id other k ≡ Done → is_truth truth k ≡ true
true_done truth id other (kind.Cons c) same = if_done id (same_constructor c truth) same
true_done truth id other kind.Free same = let no : ⊥ = cc in absurd no
true_done truth id other _ same = let no : ⊥ = cc in absurd no

-- ---- needs

module _ (program : Code) (graph : Graph) (assigned : Assignment) where
  -- what is to be rewritten is known and settled, and nothing is dead
  abbrev pub Honest : Need → Type 0
  Honest Done = Unit {0}
  Honest Dead = ⊥
  Honest (Wait ids) = Unit {0}
  Honest (At id) = (is_known (assigned id) ≡ true) × (is_settled program.special.truth graph (node_at graph id).kind (node_at graph id).args ≡ true)

  honest_before : (a b : Need) → Honest a → Honest b → Honest (before a b)
  honest_before (At id) b p q = p
  honest_before Dead b p q = absurd p
  honest_before Done b p q = q
  honest_before (Wait ids) Done p q = tt
  honest_before (Wait ids) Dead p q = q
  honest_before (Wait ids) (Wait others) p q = tt
  honest_before (Wait ids) (At id) p q = q

  honest_first : (p : ℕ → Bool) (f : ℕ → Need) (xs : List ℕ) → ((x : ℕ) → p x ≡ true → Honest (f x)) → list_all p xs ≡ true → Honest (first (map f xs))
  honest_first p f [] each all = tt
  honest_first p f (x ∷ xs) each all =
      let parts = and_parts (p x) (list_all p xs) all in
      honest_before (f x) (first (map f xs)) (each x parts.0) (honest_first p f xs each parts.1)

  honest_unless : (a b : Need) → Honest a → (a ≡ Done → Honest b) → Honest (unless_done a b)
  honest_unless Done b p q = q refl
  honest_unless Dead b p q = absurd p
  honest_unless (Wait ids) b p q = tt
  honest_unless (At id) b p q = p

  honest_free : (id : ℕ) (k : Kind) → Honest (unless_free id k)
  honest_free id kind.Free = tt
  honest_free id _ = tt

  honest_rigid : (mode : Mode) (id : ℕ) (k : Kind) → Honest (unless_rigid mode id k)
  honest_rigid Rigid id k = honest_free id k
  honest_rigid Flex id k = tt

  honest_waiting : (ids : List ℕ) → Honest (waiting ids)
  honest_waiting [] = tt
  honest_waiting (id ∷ ids) = tt

  module _ (claims : List Claim) (loose : Loose program claims graph assigned) where
    abbrev truth : ConId
    truth = program.special.truth

    -- a side that has True has a head that is True, or a free one
    honest_true : (id x : ℕ) → is_truth_value truth (assigned x) ≡ true → (k : Kind) (args : List ℕ) → head_at graph x ≡ node k args → is_head k ≡ true
        → Honest (unless_true truth id (head_of graph x) k)
    honest_true id x is (kind.Cons c) args head_is head =
        let up = head_most program claims graph assigned x (kind.Cons c) args (value.Constructed c (values_at assigned args)) loose head_is refl in
        let same : same_constructor c truth ≡ true = truth_above truth (assigned x) (value.Constructed c (values_at assigned args)) up is in
        subst (λ (b : Bool). Honest (if b then Done else At id)) (sym same) tt
    honest_true id x is (kind.Lit l) args head_is head =
        let up = head_most program claims graph assigned x (kind.Lit l) args (value.Literal l) loose head_is refl in
        absurd (true≢false (sym (truth_above truth (assigned x) (value.Literal l) up is)))
    honest_true id x is (kind.Part h) args head_is head =
        let up = head_most program claims graph assigned x (kind.Part h) args (value.Partial h (values_at assigned args)) loose head_is refl in
        absurd (true≢false (sym (truth_above truth (assigned x) (value.Partial h (values_at assigned args)) up is)))
    honest_true id x is kind.Free args head_is head = tt
    honest_true id x is _ args head_is head = absurd (true≢false (sym head))

    module _ (part : Extent → ℕ → Need) (each : (extent : Extent) (x : ℕ) → enough extent (assigned x) ≡ true → Honest (part extent x))
        (done : (x : ℕ) → part Outermost x ≡ Done → is_head (head_at graph x).kind ≡ true) where
      honest_strict : (x : ℕ) → is_known (assigned x) ≡ true → Honest (strict graph part x)
      honest_strict x known =
          honest_unless (part Outermost x) (unless_free (head_of graph x) (head_at graph x).kind) (each Outermost x known)
          (λ there. honest_free (head_of graph x) (head_at graph x).kind)

      honest_side : (id x : ℕ) → is_truth_value truth (assigned x) ≡ true → Honest (side truth graph part id x)
      honest_side id x is =
          honest_unless (part Outermost x) (unless_true truth id (head_of graph x) (head_at graph x).kind) (each Outermost x (truth_value_known truth (assigned x) is))
          (λ there. honest_true id x is (head_at graph x).kind (head_at graph x).args refl (done x there))

      side_done : (id x : ℕ) → side truth graph part id x ≡ Done → is_truth truth (head_at graph x).kind ≡ true
      side_done id x same =
          true_done truth id (head_of graph x) (head_at graph x).kind (then_second (part Outermost x) (unless_true truth id (head_of graph x) (head_at graph x).kind) same)

      honest_operands : (id : ℕ) (operation : Primitive) (args : List ℕ) (w : Value) → Answers (program_of program) operation (values_at assigned args) w
          → Honest (operands truth graph part id operation args)
      honest_operands id prim.Unify args w answers =
          honest_first (λ x. is_known (assigned x)) (part Outermost) args (each Outermost)
          (known_args assigned args (answers_known (program_of program) prim.Unify (values_at assigned args) w answers))
      honest_operands id prim.And args w answers =
          honest_first (λ x. is_truth_value truth (assigned x)) (side truth graph part id) args (honest_side id)
          (truths_known program assigned args (values_at assigned args) w prim.And answers refl refl)
      honest_operands id operation args w answers =
          honest_first (λ x. is_known (assigned x)) (strict graph part) args honest_strict
          (known_args assigned args (answers_known (program_of program) operation (values_at assigned args) w answers))

      -- what is told of the operands, where nothing is left to do
      operands_settled : (id : ℕ) (operation : Primitive) (args : List ℕ) → operands truth graph part id operation args ≡ Done
          → is_settled truth graph (kind.Prim operation) args ≡ true
      operands_settled id prim.And args same = first_done (λ x. is_truth truth (head_at graph x).kind) (side truth graph part id) args (side_done id) same
      operands_settled id _ args same = refl

      -- the node itself, where it is settled
      honest_here : (id : ℕ) (k : Kind) (args : List ℕ) → node_at graph id ≡ node k args → is_known (assigned id) ≡ true → is_settled truth graph k args ≡ true
          → Honest (At id)
      honest_here id k args is known settled = (known, subst (λ (n : Node). is_settled truth graph n.kind n.args ≡ true) (sym is) settled)

      honest_table : (id : ℕ) (k : Kind) (args : List ℕ) → node_at graph id ≡ node k args → is_known (assigned id) ≡ true
          → MayHave AnyValue program claims assigned k args (assigned id) → Honest (need_at truth graph part id k args)
      honest_table id (kind.Call f) args is known may = honest_here id (kind.Call f) args is known refl
      honest_table id kind.Or args is known may = honest_here id kind.Or args is known refl
      honest_table id (kind.Prim operation) args is known may =
          let found = worth_of (Worth program claims (kind.Prim operation) (map assigned args)) (assigned id) known may in
          honest_unless (operands truth graph part id operation args) (At id) (honest_operands id operation args found.0 found.1)
          (λ there. honest_here id (kind.Prim operation) args is known (operands_settled id operation args there))
      honest_table id kind.Apply (function ∷ argument ∷ []) is known may =
          let found = worth_of (Worth program claims kind.Apply (assigned function ∷ assigned argument ∷ [])) (assigned id) known may in
          honest_unless (strict graph part function) (At id)
          (honest_strict function (applied_known (program_of program) claims (assigned function) (assigned argument) found.0 found.1))
          (λ there. honest_here id kind.Apply (function ∷ argument ∷ []) is known refl)
      honest_table id kind.Apply (function ∷ []) is known may =
          absurd (worth_of (Worth program claims kind.Apply (assigned function ∷ [])) (assigned id) known may).1
      honest_table id kind.Apply (function ∷ a ∷ b ∷ more) is known may =
          absurd (worth_of (Worth program claims kind.Apply (map assigned (function ∷ a ∷ b ∷ more))) (assigned id) known may).1
      honest_table id (kind.Case mode e) (scrutinee ∷ values) is known may =
          let found = worth_of (Worth program claims (kind.Case mode e) (map assigned (scrutinee ∷ values))) (assigned id) known may in
          let of_scrutinee = distinguished_known program claims (record { 0 = e }) (assigned scrutinee) (map assigned values) found.0 found.1 in
          let kept = unless_rigid mode (head_of graph scrutinee) (head_at graph scrutinee).kind in
          honest_unless (part Outermost scrutinee) (unless_done kept (At id)) (each Outermost scrutinee of_scrutinee)
          (λ there. honest_unless kept (At id) (honest_rigid mode (head_of graph scrutinee) (head_at graph scrutinee).kind)
          (λ bound. honest_here id (kind.Case mode e) (scrutinee ∷ values) is known refl))
      honest_table id (kind.SetCall f) args is known may =
          let found = worth_of (Worth program claims (kind.SetCall f) (map assigned args)) (assigned id) known may in
          let total = all_ground_total (values_at assigned args) (set_ground (program_of program) claims (head.Set f) (values_at assigned args) found.0 found.1 f refl) in
          honest_unless (first (map (part Throughout) args)) (unless_done (waiting (free_of graph args)) (At id))
          (honest_first (λ x. is_total (assigned x)) (part Throughout) args (each Throughout) (total_args assigned args total))
          (λ there. honest_unless (waiting (free_of graph args)) (At id) (honest_waiting (free_of graph args))
          (λ bound. honest_here id (kind.SetCall f) args is known refl))
      honest_table id kind.Fail args is known may = absurd (known_is_not_bottom (assigned id) known may)
      honest_table id _ args is known may = tt

      honest_rest : (extent : Extent) (k : Kind) (args : List ℕ) (v : Value) → enough extent v ≡ true → MayHave AnyValue program claims assigned k args v
          → Honest (rest_at part extent k args)
      honest_rest Throughout (kind.Cons c) args v total may =
          let us = values_at assigned args in
          let found = worth_of (Worth program claims (kind.Cons c) (map assigned args)) v (total_known v total) may in
          let is : v ≡ value.Constructed c us = total_above v found.0 found.2 total ∙ constructed_is (program_of program) claims (head.Con c) us found.0 found.1 c refl in
          honest_first (λ x. is_total (assigned x)) (part Throughout) args (each Throughout) (total_args assigned args (ap is_total (sym is) ∙ total))
      honest_rest Throughout (kind.Part h) args v total may =
          let us = values_at assigned args in
          let found = worth_of (Worth program claims (kind.Part h) (map assigned args)) v (total_known v total) may in
          let is : v ≡ value.Partial h us = total_above v found.0 found.2 total ∙ found.1 in
          honest_first (λ x. is_total (assigned x)) (part Throughout) args (each Throughout) (total_args assigned args (ap is_total (sym is) ∙ total))
      honest_rest _ _ args v is may = tt

    pub honest : (depth : ℕ) (extent : Extent) (x : ℕ) → enough extent (assigned x) ≡ true → Honest (need_within depth truth graph extent x)
    unfolding need_within
    honest zero extent x is = tt
    honest (suc depth) extent x is =
        let part = need_within depth truth graph in
        let done = λ (y : ℕ) (there : part Outermost y ≡ Done). within_is_head depth truth graph y there in
        let place = head_of graph x in
        let n = head_at graph x in
        let up : Below (assigned x) (assigned place) = head_above program claims graph assigned loose (length graph) x in
        let whole : enough extent (assigned place) ≡ true = enough_above extent (assigned x) (assigned place) up is in
        elim (cases_lt place (length graph)) [
          | inl there ↦
              honest_unless (need_at truth graph part place n.kind n.args) (rest_at part extent n.kind n.args)
              (honest_table part (honest depth) done place n.kind n.args refl (enough_known extent (assigned place) whole) (loose.each place there))
              (λ there_is. honest_rest part (honest depth) done extent n.kind n.args (assigned place) whole (loose.each place there))
          | inr past ↦
              subst (λ (m : Node). Honest (unless_done (need_at truth graph part place m.kind m.args) (rest_at part extent m.kind m.args)))
              (sym (get_or_past graph place stuck past)) tt
        ]

-- what is to be rewritten is known, and settled
pub needed_honest : (program : Code) (claims : List Claim) (graph : Graph) (root id : ℕ) (assigned : Assignment) → Loose program claims graph assigned
    → is_total (assigned root) ≡ true → need_all program.special.truth graph root ≡ At id → Honest program graph assigned (At id)
needed_honest program claims graph root id assigned loose total needed =
    subst (λ (n : Need). Honest program graph assigned n) needed (honest program graph assigned claims loose (length graph) Throughout root total)

pub needed_known : (program : Code) (claims : List Claim) (graph : Graph) (root id : ℕ) (assigned : Assignment) → Loose program claims graph assigned
    → is_total (assigned root) ≡ true → need_all program.special.truth graph root ≡ At id → assigned id ≢ value.Bottom
needed_known program claims graph root id assigned loose total needed =
    known_is_not_bottom (assigned id) (needed_honest program claims graph root id assigned loose total needed).0

pub dead_never : (program : Code) (claims : List Claim) (graph : Graph) (root : ℕ) (assigned : Assignment) → Loose program claims graph assigned
    → is_total (assigned root) ≡ true → need_all program.special.truth graph root ≡ Dead → ⊥
dead_never program claims graph root assigned loose total needed =
    subst (λ (n : Need). Honest program graph assigned n) needed (honest program graph assigned claims loose (length graph) Throughout root total)
