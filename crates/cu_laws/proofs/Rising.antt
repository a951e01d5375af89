-- What the rows of the calculus give rises with the values of the parts.
use Rattle.std.proofs.Common.{◌≡◌, ℕ, inl, inr, Bool, true, false, List, [], ◌∷◌, IsTrue, refl, ap, ap₂, sym, ◌∙◌, subst, map, zip, true≢false}
use Rattle.std.proofs.lemmas.Bool.{and_from, and_parts}
use Rattle.cu_calculus.specs.declared.Head.{Head}
use Rattle.cu_calculus.specs.declared.Head.TheVariants as head
use Rattle.cu_calculus.specs.declared.Lit.{Lit}
use Rattle.cu_calculus.specs.declared.ExprId.{ExprId}
use Rattle.cu_calculus.specs.declared.builtin.Primitive.{Primitive}
use Rattle.cu_calculus.specs.declared.builtin.Primitive.TheVariants as prim
use Rattle.cu_calculus.specs.Below as below
use Rattle.cu_calculus.specs.Below.{AllBelow, Below, BindingsBelow}
use Rattle.cu_calculus.specs.Builtin as builtin
use Rattle.cu_calculus.specs.Builtin.{AllCompare, Answers, Compares, literals, truth_of}
use Rattle.cu_calculus.specs.Code.{Code}
use Rattle.cu_calculus.specs.FlatProgram.{program_of}
use Rattle.cu_calculus.specs.Gives as gives
use Rattle.cu_calculus.specs.Gives.{Applied, AppliedTo, Claim, Gives}
use Rattle.cu_calculus.specs.Match.{bind_all, empty}
use Rattle.cu_calculus.specs.Program.{Program, arity_in}
use Rattle.cu_calculus.specs.Shape.{are_ground, are_total, is_data, is_ground, is_total, is_total_data, takes, takes_more}
use Rattle.cu_calculus.specs.Value as value
use Rattle.cu_calculus.specs.Value.{Value, Values, and_then, count, values_of}
use Rattle.cu_calculus.proofs.BelowLaws.{below_itself, below_trans}
use Rattle.cu_calculus.proofs.Choices.{ListBelow, chooses_one_rises}
use Rattle.cu_calculus.proofs.Matches.{all_matched_rises, bind_all_rises, matched_rises}
use Rattle.cu_calculus.proofs.Weaken.{same_count, weaken}
use Rattle.cu_machine.specs.declared.Kind.{Kind}
use Rattle.cu_machine.specs.declared.Kind.TheVariants as kind
use Rattle.cu_laws.specs.Good.{Assignment, AtMost, Distinguished, MayHave, RisesTo}

-- ---- values above others

-- what is above a value and others is a value and others
pub record HighMore (us vs : Values) (u : Value) : Type 0 where
  pub first : Value
  pub others : Values
  pub is : vs ≡ value.MoreValues first others
  pub above_first : Below u first
  pub above_others : AllBelow us others

pub above_more : (ws vs : Values) → AllBelow ws vs → (u : Value) (us : Values) → ws ≡ value.MoreValues u us → HighMore us vs u
above_more _ _ below.none u us e = let no : ⊥ = cc in absurd no
above_more _ _ (below.more w v ws vs p ps) u us e =
    let first : w ≡ u = cc in
    let others : ws ≡ us = cc in
    record {
      first = v;
      others = vs;
      is = refl;
      above_first = subst (λ (x : Value). Below x v) first p;
      above_others = subst (λ (x : Values). AllBelow x vs) others ps;
    }

pub above_none : (us vs : Values) → AllBelow us vs → us ≡ value.NoValue → vs ≡ value.NoValue
above_none _ _ below.none e = refl
above_none _ _ (below.more u v us vs p ps) e = let no : ⊥ = cc in absurd no

-- what is above a total value is that value
mutual
  pub total_above : (u v : Value) → Below u v → is_total u ≡ true → u ≡ v
  total_above _ _ (below.bottom v) total = let no : ⊥ = true≢false (sym total) in absurd no
  total_above _ _ (below.variable x) total = refl
  total_above _ _ (below.literal l) total = refl
  total_above _ _ (below.constructed c us vs p) total = ap (value.Constructed c) (all_total_above us vs p total)
  total_above _ _ (below.partial h us vs p) total = ap (value.Partial h) (all_total_above us vs p total)

  pub all_total_above : (us vs : Values) → AllBelow us vs → are_total us ≡ true → us ≡ vs
  all_total_above _ _ below.none total = refl
  all_total_above _ _ (below.more u v us vs p ps) total =
      let parts = and_parts (is_total u) (are_total us) total in
      ap₂ value.MoreValues (total_above u v p parts.0) (all_total_above us vs ps parts.1)

-- ground data are total
mutual
  pub ground_total : (v : Value) → is_ground v ≡ true → is_total v ≡ true
  ground_total value.Bottom ground = ground
  ground_total (value.Variable x) ground = refl
  ground_total (value.Literal l) ground = refl
  ground_total (value.Constructed c vs) ground = all_ground_total vs ground
  ground_total (value.Partial h vs) ground = let no : ⊥ = true≢false (sym ground) in absurd no

  pub all_ground_total : (vs : Values) → are_ground vs ≡ true → are_total vs ≡ true
  all_ground_total value.NoValue ground = refl
  all_ground_total (value.MoreValues v vs) ground =
      let parts = and_parts (is_ground v) (are_ground vs) ground in
      and_from (is_total v) (are_total vs) (ground_total v parts.0) (all_ground_total vs parts.1)

-- ---- built-in operations

mutual
  pub compares_rise : (u v x y : Value) (answer : Bool) → Compares u v answer → Below u x → Below v y → Compares x y answer
  compares_rise _ _ _ _ answer (builtin.two_literals l m _ e) (below.literal _) (below.literal _) = builtin.two_literals l m answer e
  compares_rise _ _ _ _ _ (builtin.literal_first l c vs) (below.literal _) (below.constructed _ _ ys q) = builtin.literal_first l c ys
  compares_rise _ _ _ _ _ (builtin.literal_second c us l) (below.constructed _ _ xs p) (below.literal _) = builtin.literal_second c xs l
  compares_rise _ _ _ _ _ (builtin.different c d us vs e) (below.constructed _ _ xs p) (below.constructed _ _ ys q) = builtin.different c d xs ys e
  compares_rise _ _ _ _ answer (builtin.alike c us vs _ inner) (below.constructed _ _ xs p) (below.constructed _ _ ys q) =
      builtin.alike c xs ys answer (all_compare_rise us vs xs ys answer inner p q)

  pub all_compare_rise : (us vs xs ys : Values) (answer : Bool) → AllCompare us vs answer → AllBelow us xs → AllBelow vs ys → AllCompare xs ys answer
  all_compare_rise _ _ _ _ _ builtin.none below.none below.none = builtin.none
  all_compare_rise _ _ _ _ _ (builtin.first_differs u v us vs c) (below.more _ x _ xs p ps) (below.more _ y _ ys q qs) =
      builtin.first_differs x y xs ys (compares_rise u v x y false c p q)
  all_compare_rise _ _ _ _ answer (builtin.first_alike u v us vs _ c cs) (below.more _ x _ xs p ps) (below.more _ y _ ys q qs) =
      builtin.first_alike x y xs ys answer (compares_rise u v x y true c p q) (all_compare_rise us vs xs ys answer cs ps qs)

pub literals_above : (ls : List Lit) (vs : Values) → AllBelow (literals ls) vs → vs ≡ literals ls
literals_above [] vs p = above_none value.NoValue vs p refl
literals_above (l ∷ ls) vs p =
    let high = above_more (literals (l ∷ ls)) vs p (value.Literal l) (literals ls) refl in
    let first : value.Literal l ≡ high.first = total_above (value.Literal l) high.first high.above_first refl in
    high.is ∙ ap₂ value.MoreValues (sym first) (literals_above ls high.others high.above_others)

pub truth_total : (program : Program) (b : Bool) → is_total (truth_of program b) ≡ true
truth_total program true = refl
truth_total program false = refl

-- two values above two others
pub record Pair (us : Values) (a b : Value) : Type 0 where
  pub one : Value
  pub two : Value
  pub is : us ≡ value.MoreValues one (value.MoreValues two value.NoValue)
  pub above_one : Below a one
  pub above_two : Below b two

pub above_pair : (a b : Value) (vs : Values) → AllBelow (value.MoreValues a (value.MoreValues b value.NoValue)) vs → Pair vs a b
above_pair a b vs p =
    let first = above_more _ vs p a (value.MoreValues b value.NoValue) refl in
    let second = above_more _ first.others first.above_others b value.NoValue refl in
    let none : second.others ≡ value.NoValue = above_none value.NoValue second.others second.above_others refl in
    record {
      one = first.first;
      two = second.first;
      is = first.is ∙ ap (value.MoreValues first.first) (second.is ∙ ap (value.MoreValues second.first) none);
      above_one = first.above_first;
      above_two = second.above_first;
    }

pub answers_rise : (program : Program) (operation : Primitive) (us vs : Values) (v : Value) → Answers program operation us v → AllBelow us vs
    → Answers program operation vs v
answers_rise program operation us vs v (builtin.of_literals _ ls _ _ e f) p =
    let same : vs ≡ literals ls = literals_above ls vs (subst (λ (x : Values). AllBelow x vs) e p) in
    builtin.of_literals operation ls vs v same f
answers_rise program _ _ vs v (builtin.equal a b _ answer c e) p =
    let high = above_pair a b vs p in
    subst (λ (x : Values). Answers program prim.Equal x v) (sym high.is)
    (builtin.equal high.one high.two v answer (compares_rise a b high.one high.two answer c high.above_one high.above_two) e)
answers_rise program _ _ vs v (builtin.unified a b _ same total e) p =
    let high = above_pair a b vs p in
    let all = (and_parts (is_total a) (is_data a) total).0 in
    let one : a ≡ high.one = total_above a high.one high.above_one all in
    let two : b ≡ high.two = total_above b high.two high.above_two (subst (λ (x : Value). is_total x ≡ true) same all) in
    subst (λ (x : Values). Answers program prim.Unify x v) (sym high.is)
    (builtin.unified high.one high.two v (sym one ∙ same ∙ two) (subst (λ (x : Value). is_total_data x ≡ true) one total) e)
answers_rise program _ _ vs v (builtin.conjoined a b _ f g e) p =
    let high = above_pair a b vs p in
    let one : a ≡ high.one = total_above a high.one high.above_one (ap is_total f ∙ truth_total program true) in
    let two : b ≡ high.two = total_above b high.two high.above_two (ap is_total g ∙ truth_total program true) in
    subst (λ (x : Values). Answers program prim.And x v) (sym high.is) (builtin.conjoined high.one high.two v (sym one ∙ f) (sym two ∙ g) e)

-- ---- heads

-- something like it, which is no lower
abbrev pub Higher : (Value → Type 0) → Value → Type 0
Higher IsWorth v = (w : Value) × IsWorth w × Below v w

pub applied_rises : (program : Program) (claims : List Claim) (h : Head) (us vs : Values) (v : Value) → Applied program claims h us v → AllBelow us vs
    → Higher (Applied program claims h vs) v
applied_rises program claims _ _ vs _ (gives.constructed c us) p = (value.Constructed c vs, gives.constructed c vs, below.constructed c us vs p)
applied_rises program claims _ us vs v (gives.by_rule f function rules k rule bindings _ _ e b r m given) p =
    let found = all_matched_rises rule.params us vs bindings p m in
    let body = weaken program claims (bind_all empty bindings) (bind_all empty found.high) rule.body v v given
    (bind_all_rises empty empty bindings found.high (λ x. below_itself value.Bottom) found.above) (below_itself v) in
    (v, gives.by_rule f function rules k rule found.high vs v e b r found.is body, below_itself v)
applied_rises program claims _ us vs v (gives.builtin f function operation _ _ e b answers) p =
    (v, gives.builtin f function operation vs v e b (answers_rise program operation us vs v answers p), below_itself v)
applied_rises program claims _ us vs v (gives.collect f claim k c _ _ ground e f' a s low) p =
    let same : us ≡ vs = all_total_above us vs p (all_ground_total us ground) in
    (v, subst (λ (x : Values). Applied program claims (head.Set f) x v) same (gives.collect f claim k c us v ground e f' a s low), below_itself v)

-- ---- functional values

pub and_then_rises : (us vs : Values) (u v : Value) → AllBelow us vs → Below u v → AllBelow (and_then us u) (and_then vs v)
and_then_rises _ _ u v below.none p = below.more u v value.NoValue value.NoValue p below.none
and_then_rises _ _ u v (below.more x y us vs q qs) p = below.more x y (and_then us u) (and_then vs v) q (and_then_rises us vs u v qs p)

-- what is above a partial application is one of the same head
pub above_partial : (u v : Value) → Below u v → (h : Head) (us : Values) → u ≡ value.Partial h us → (vs : Values) × (v ≡ value.Partial h vs) × AllBelow us vs
above_partial _ _ (below.bottom v) h us e = let no : ⊥ = cc in absurd no
above_partial _ _ (below.variable x) h us e = let no : ⊥ = cc in absurd no
above_partial _ _ (below.literal l) h us e = let no : ⊥ = cc in absurd no
above_partial _ _ (below.constructed c ws xs p) h us e = let no : ⊥ = cc in absurd no
above_partial _ _ (below.partial k ws xs p) h us e =
    let heads : k ≡ h = cc in
    let arguments : ws ≡ us = cc in
    (xs, ap (λ (g : Head). value.Partial g xs) heads, subst (λ (x : Values). AllBelow x xs) arguments p)

pub applied_to_rises : (program : Program) (claims : List Claim) (w u x y v : Value) → AppliedTo program claims w u v → Below w x → Below u y
    → Higher (AppliedTo program claims x y) v
applied_to_rises program claims _ u x y _ (gives.extended h us more _ m fewer) p q =
    let high = above_partial (value.Partial h us) x p h us refl in
    let all = and_then high.0 y in
    let up : AllBelow more all = subst (λ (z : Values). AllBelow z all) (sym m) (and_then_rises us high.0 u y high.2 q) in
    let less : IsTrue (takes_more (arity_in program h) (count all)) = subst (λ (n : ℕ). IsTrue (takes_more (arity_in program h) n)) (same_count more all up) fewer in (
      value.Partial h all,
      subst (λ (z : Value). AppliedTo program claims z y (value.Partial h all)) (sym high.1) (gives.extended h high.0 all y refl less),
      below.partial h more all up,
    )
applied_to_rises program claims _ u x y v (gives.completed h us all _ _ m as_many app) p q =
    let high = above_partial (value.Partial h us) x p h us refl in
    let more = and_then high.0 y in
    let up : AllBelow all more = subst (λ (z : Values). AllBelow z more) (sym m) (and_then_rises us high.0 u y high.2 q) in
    let enough : IsTrue (takes (arity_in program h) (count more)) = subst (λ (n : ℕ). IsTrue (takes (arity_in program h) n)) (same_count all more up) as_many in
    let found = applied_rises program claims h all more v app up in (
      found.0,
      subst (λ (z : Value). AppliedTo program claims z y found.0) (sym high.1) (gives.completed h high.0 more y found.0 refl enough found.1),
      found.2,
    )

-- ---- case distinctions

pub zip_rises : (xs : List ℕ) (us vs : List Value) → ListBelow us vs → BindingsBelow (zip xs us) (zip xs vs)
zip_rises [] us vs p = tt
zip_rises (x ∷ xs) [] [] p = tt
zip_rises (x ∷ xs) [] (v ∷ vs) p = absurd p
zip_rises (x ∷ xs) (u ∷ us) [] p = absurd p
zip_rises (x ∷ xs) (u ∷ us) (v ∷ vs) p = (refl, p.0, zip_rises xs us vs p.1)

pub distinguished_rises : (program : Code) (claims : List Claim) (e : ExprId) (u x : Value) (us xs : List Value) (v : Value)
    → Distinguished program claims e u us v → Below u x → ListBelow us xs → Distinguished program claims e x xs v
distinguished_rises program claims e u x us xs v d p ps =
    let flat = program_of program in
    let found = matched_rises d.selects.pattern u x d.bindings p d.selects.matches in
    let low = bind_all empty (zip d.kept us) in
    let high = bind_all empty (zip d.kept xs) in
    record {
      mode = d.mode;
      kept = d.kept;
      scrutinee = d.scrutinee;
      branches = d.branches;
      code_is = d.code_is;
      term = d.term;
      bindings = found.high;
      selects = record {
        choice = d.selects.choice;
        pattern = d.selects.pattern;
        chooses = chooses_one_rises flat _ u x d.selects.choice p d.selects.chooses;
        at = d.selects.at;
        matches = found.is;
      };
      gives = weaken flat claims (bind_all low d.bindings) (bind_all high found.high) d.term v v d.gives
          (bind_all_rises low high d.bindings found.high
          (bind_all_rises empty empty (zip d.kept us) (zip d.kept xs) (λ y. below_itself value.Bottom) (zip_rises d.kept us xs ps)) found.above)
          (below_itself v);
    }

-- ---- nodes

pub list_rises : (low high : Assignment) (args : List ℕ) → RisesTo low high → ListBelow (map low args) (map high args)
list_rises low high [] up = tt
list_rises low high (arg ∷ args) up = (up arg, list_rises low high args up)

pub values_rise : (low high : Assignment) (args : List ℕ) → RisesTo low high → AllBelow (values_of (map low args)) (values_of (map high args))
values_rise low high [] up = below.none
values_rise low high (arg ∷ args) up = below.more (low arg) (high arg) _ _ (up arg) (values_rise low high args up)

pub at_most_rises : (IsLow IsHigh : Value → Type 0) (v : Value) → AtMost IsLow v → ((w : Value) → IsLow w → Higher IsHigh w) → AtMost IsHigh v
at_most_rises IsLow IsHigh v (inl none) up = inl none
at_most_rises IsLow IsHigh v (inr found) up =
    let more = up found.0 found.1 in inr (more.0, more.1, below_trans v found.0 more.0 found.2 more.2)

pub may_rise : (of_stuck : Value → Type 0) (program : Code) (claims : List Claim) (low high : Assignment) (k : Kind) (args : List ℕ) (v : Value)
    → RisesTo low high → MayHave of_stuck program claims low k args v → MayHave of_stuck program claims high k args v
may_rise of_stuck program claims low high (kind.Cons c) args v up may =
    at_most_rises _ _ v may (λ w given. applied_rises (program_of program) claims (head.Con c) _ _ w given (values_rise low high args up))
may_rise of_stuck program claims low high (kind.Part h) args v up may =
    at_most_rises _ _ v may (λ w given. (
      value.Partial h (values_of (map high args)),
      refl,
      subst (λ (x : Value). Below x (value.Partial h (values_of (map high args)))) (sym given) (below.partial h _ _ (values_rise low high args up)),
    ))
may_rise of_stuck program claims low high (kind.Call f) args v up may =
    at_most_rises _ _ v may (λ w given. applied_rises (program_of program) claims (head.Fun f) _ _ w given (values_rise low high args up))
may_rise of_stuck program claims low high (kind.SetCall f) args v up may =
    at_most_rises _ _ v may (λ w given. applied_rises (program_of program) claims (head.Set f) _ _ w given (values_rise low high args up))
may_rise of_stuck program claims low high (kind.Prim operation) args v up may =
    at_most_rises _ _ v may (λ w given. (w, answers_rise (program_of program) operation _ _ w given (values_rise low high args up), below_itself w))
may_rise of_stuck program claims low high kind.Apply (function ∷ argument ∷ []) v up may =
    at_most_rises _ _ v may (λ w given. applied_to_rises (program_of program) claims _ _ _ _ w given (up function) (up argument))
may_rise of_stuck program claims low high (kind.Case mode e) (scrutinee ∷ kept) v up may =
    at_most_rises _ _ v may (λ w given. (w, distinguished_rises program claims _ _ _ _ _ w given (up scrutinee) (list_rises low high kept up), below_itself w))
may_rise of_stuck program claims low high kind.Or (left ∷ right ∷ []) v up may =
    at_most_rises _ _ v may (λ w given. elim given [
      | inl one ↦ (high left, inl refl, subst (λ (x : Value). Below x (high left)) (sym one) (up left))
      | inr two ↦ (high right, inr refl, subst (λ (x : Value). Below x (high right)) (sym two) (up right))
    ])
may_rise of_stuck program claims low high kind.Ind (target ∷ args) v up may = below_trans v (low target) (high target) may (up target)
may_rise of_stuck program claims low high _ args v up may = may
