-- Types that are built round others, along the classes that use them.
use Rattle.std.proofs.Common.{◌≡◌, ◌≢◌, ℕ, zero, suc, ◌<◌, ◌≤◌, inl, inr, Bool, cond, List, [], ◌∷◌, ◌++◌, Some, length, map, option_map, reverse, get_or, slice_get, refl, sym, ap, ◌∙◌, subst, arith, length-append, append_assoc}
use Rattle.std.proofs.lemmas.Bool.{cases_eq, eq-eqb, ne_eqb}
use Rattle.std.proofs.lemmas.Option.{slice_get-get_or, slice_get-map, slice_get_within}
use Rattle.cu_kernel.specs.TypeExpr as type
use Rattle.cu_kernel.specs.TypeExpr.{TypeExpr, TypeExprs}
use Rattle.cu_kernel.specs.TypesOf.{type_list}
use Rattle.cu_types.proofs.ClosingLemmas.{arguments_at, one_head, there}
use Rattle.cu_types.proofs.Joins.{place_within}
use Rattle.cu_types.proofs.TableLemmas.{mapped_length, mapped_twice, trees-append, trees_fit}
use Rattle.cu_types.proofs.Steps.{reverse_popped}
use Rattle.cu_types.proofs.Walks.{table_pushed}
use Rattle.cu_types.specs.Inside.Closing.{AreEqual}
use Rattle.cu_types.specs.Inside.Cycles.{AreSound, IsUnfolding, Unfolds, put_in, size, sizes, wrapped}
use Rattle.cu_types.specs.Inside.Ordering.{AreWithin, IsCyclic, class_of}
use Rattle.cu_types.specs.Table as shape
use Rattle.cu_types.specs.Table.{IsFull, IsTable, MayStand, Shape, at, built, places, shape_of, tree_over, trees}
use Rattle.cu_types.specs.declared.node.Node.{Node}
use Rattle.cu_types.specs.Types.{Substitution, apply, apply_all, arguments}
use Rattle.cu_types.specs.Unification as made
use Rattle.cu_types.specs.Unification.{AllMadeEqual, Equation, MadeEqual}
use Rattle.cu_types.specs.declared.node.TypeHead.{TypeHead}
use Rattle.cu_types.specs.declared.node.TypeHead.TheVariants as head
use Rattle.cu_types.specs.declared.order.Task.{Task}
use Rattle.cu_types.specs.declared.order.Task.TheVariants as task

size_positive : (t : TypeExpr) → 0 < size t
size_positive (type.Variable x) = omega arith
size_positive (type.Arrow a b) = omega arith
size_positive (type.Named name ts) = omega arith

part_of_sizes : (σ : Substitution) (ts : List TypeExpr) (k : ℕ) (t : TypeExpr) → slice_get ts k ≡ Some t
    → size (apply σ t) ≤ sizes (apply_all σ (type_list ts))
part_of_sizes σ [] k t is = let no : ⊥ = cc in absurd no
part_of_sizes σ (u ∷ ts) zero t is =
    let e : u ≡ t = cc in let f : size (apply σ u) ≡ size (apply σ t) = ap (λ (x : TypeExpr). size (apply σ x)) e in omega arith
part_of_sizes σ (u ∷ ts) (suc k) t is = let rest = part_of_sizes σ ts k t is in omega arith

-- an argument is smaller than the type, after each substitution
pub part_smaller : (σ : Substitution) (h : TypeHead) (ts : List TypeExpr) (k : ℕ) (t : TypeExpr) → IsFull h (length ts)
    → slice_get ts k ≡ Some t → size (apply σ t) < size (apply σ (built h ts))
part_smaller σ (head.Named name) ts k t full is = let rest = part_of_sizes σ ts k t is in omega arith
part_smaller σ head.Arrow (a ∷ b ∷ []) zero t full is =
    let e : a ≡ t = cc in let f : size (apply σ a) ≡ size (apply σ t) = ap (λ (x : TypeExpr). size (apply σ x)) e in omega arith
part_smaller σ head.Arrow (a ∷ b ∷ []) (suc zero) t full is =
    let e : b ≡ t = cc in let f : size (apply σ b) ≡ size (apply σ t) = ap (λ (x : TypeExpr). size (apply σ x)) e in omega arith
part_smaller σ head.Arrow (a ∷ b ∷ []) (suc (suc k)) t full is = let no : ⊥ = cc in absurd no
part_smaller σ head.Arrow [] k t full is = absurd (omega arith)
part_smaller σ head.Arrow (a ∷ []) k t full is = absurd (omega arith)
part_smaller σ head.Arrow (a ∷ b ∷ c ∷ ts) k t full is = absurd (omega arith)

all_made : (equations : List Equation) (f g : ℕ → TypeExpr) (ps : List ℕ)
    → ((k a : ℕ) → slice_get ps k ≡ Some a → MadeEqual equations (f a) (g a)) → AllMadeEqual equations (map f ps) (map g ps)
all_made equations f g [] all = made.none
all_made equations f g (p ∷ ps) all =
    made.more (f p) (g p) (map f ps) (map g ps) (all 0 p refl) (all_made equations f g ps (λ k a e. all (suc k) a e))

put_here : (classes : List ℕ) (used place a : ℕ) → class_of classes a ≡ used → put_in classes used place a ≡ place
put_here classes used place a e = ap (λ (b : Bool). cond b place a) (eq-eqb (class_of classes a) used e)

put_there : (classes : List ℕ) (used place a : ℕ) → class_of classes a ≢ used → put_in classes used place a ≡ a
put_there classes used place a n = ap (λ (b : Bool). cond b place a) (ne_eqb (class_of classes a) used n)

mapped_among : (f : ℕ → ℕ) (P : ℕ → Type 0) (ps : List ℕ) → ((k a : ℕ) → slice_get ps k ≡ Some a → P (f a))
    → (b k : ℕ) → slice_get (map f ps) k ≡ Some b → P b
mapped_among f P [] all b k is = let no : ⊥ = cc in absurd no
mapped_among f P (p ∷ ps) all b zero is = let e : f p ≡ b = cc in subst P e (all 0 p refl)
mapped_among f P (p ∷ ps) all b (suc k) is = mapped_among f P ps (λ j a e. all (suc j) a e) b k is

-- where it is put
at_put : (classes : List ℕ) (used place a : ℕ) (P : ℕ → Type 0) → (class_of classes a ≡ used → P place)
    → (class_of classes a ≢ used → P a) → P (put_in classes used place a)
at_put classes used place a P here other = elim (cases_eq (class_of classes a) used) [
  | inl e ↦ subst P (sym (put_here classes used place a e)) (here e)
  | inr n ↦ subst P (sym (put_there classes used place a n)) (other n)
]

pub kept_tree : (ss now more : List Shape) (k : ℕ) → now ≡ ss ++ more → k < length ss → at (trees now) k ≡ at (trees ss) k
kept_tree ss now more k is within = ap (λ (xs : List Shape). at (trees xs) k) is ∙ trees-append ss more k within

pub kept_shape : (ss more : List Shape) (k : ℕ) (s : Shape) → slice_get ss k ≡ Some s → slice_get (ss ++ more) k ≡ Some s
kept_shape [] more k s is = let no : ⊥ = cc in absurd no
kept_shape (x ∷ ss) more zero s is = is
kept_shape (x ∷ ss) more (suc k) s is = kept_shape ss more k s is

equal_kept : (equations : List Equation) (ss now more : List Shape) (i j : ℕ) → now ≡ ss ++ more → i < length ss → j < length ss
    → AreEqual equations (trees ss) i j → AreEqual equations (trees now) i j
equal_kept equations ss now more i j is i_in j_in equal =
    subst (λ (t : TypeExpr). MadeEqual equations t (at (trees now) j)) (sym (kept_tree ss now more i is i_in))
    (subst (λ (t : TypeExpr). MadeEqual equations (at (trees ss) i) t) (sym (kept_tree ss now more j is j_in)) equal)

pub shape_at_end : (now : List Shape) (t : Shape) → slice_get (now ++ t ∷ []) (length now) ≡ Some t
shape_at_end [] t = refl
shape_at_end (x ∷ now) t = shape_at_end now t

shape_in : (ss now more : List Shape) (k : ℕ) (s : Shape) → now ≡ ss ++ more → slice_get ss k ≡ Some s → slice_get now k ≡ Some s
shape_in ss now more k s is at_k = ap (λ (xs : List Shape). slice_get xs k) is ∙ kept_shape ss more k s at_k

-- a type was built round another
pub record IsWrapped (ss : List Shape) (classes : List ℕ) (first : ℕ) (after : List Shape) (user place : ℕ) : Type 0 where
  pub more : List Shape
  pub extends : after ≡ ss ++ more
  pub table : IsTable after
  pub within : place < length after
  pub equal : (equations : List Equation) → AreSound equations ss classes → AreEqual equations (trees after) place user
  pub larger : (σ : Substitution) → size (apply σ (at (trees after) first)) < size (apply σ (at (trees after) place))

pub longer : (ss now more : List Shape) → now ≡ ss ++ more → length ss ≤ length now
longer ss now more is =
    let e : length now ≡ length (ss ++ more) = ap length is in let f = length-append ss more in omega arith

-- an argument, and what is put in its place
put_equal : (equations : List Equation) (ss : List Shape) (classes : List ℕ) (now after last more : List Shape) (used place b : ℕ)
    → after ≡ now ++ last → after ≡ ss ++ more → b < length ss → used < length ss → place < length now → length ss ≤ length now
    → AreSound equations ss classes → AreEqual equations (trees now) place used
    → AreEqual equations (trees after) (put_in classes used place b) b
put_equal equations ss classes now after last more used place b is extends b_in used_in place_in long sound equal =
    at_put classes used place b (λ x. AreEqual equations (trees after) x b)
    (λ e. made.transitive (at (trees after) place) (at (trees after) used) (at (trees after) b)
    (equal_kept equations now after last place used is place_in (omega arith) equal)
    (made.symmetric (at (trees after) b) (at (trees after) used)
    (equal_kept equations ss after more b used extends b_in used_in (subst (AreEqual equations (trees ss) b) e (sound b b_in)))))
    (λ n. made.reflexive (at (trees after) b))

wrapped_applied : (ss : List Shape) (classes : List ℕ) (first : ℕ) (now after : List Shape) (tasks : List Task) (used place user k a : ℕ)
    (h : TypeHead) (ps : List ℕ) → IsTable ss → AreWithin ss classes → first < length ss
    → slice_get ss user ≡ Some (shape.Applied h ps) → slice_get ps k ≡ Some a → class_of classes a ≡ used
    → after ≡ now ++ wrapped classes used place (shape.Applied h ps) ∷ []
    → IsUnfolding ss classes first now tasks used place → IsWrapped ss classes first after user (length now)
wrapped_applied ss classes first now after tasks used place user k a h ps table inside first_in at_user at_k uses is u =
    let user_in : user < length ss = slice_get_within ss user (shape.Applied h ps) at_user in
    let long : length ss ≤ length now = longer ss now u.more u.extends in
    let extends : after ≡ ss ++ (u.more ++ wrapped classes used place (shape.Applied h ps) ∷ []) =
    is ∙ ap (λ (xs : List Shape). xs ++ wrapped classes used place (shape.Applied h ps) ∷ []) u.extends
    ∙ append_assoc ss u.more (wrapped classes used place (shape.Applied h ps) ∷ []) in
    let longest : length after ≡ length (now ++ wrapped classes used place (shape.Applied h ps) ∷ []) = ap length is in
    let grown = length-append now (wrapped classes used place (shape.Applied h ps) ∷ []) in
    let may_user = table.stand user (shape.Applied h ps) at_user in
    let may : MayStand (length now) (wrapped classes used place (shape.Applied h ps)) = (
      subst (IsFull h) (sym (mapped_length (put_in classes used place) ps)) may_user.0,
      mapped_among (put_in classes used place) (λ b. b < length now) ps
          (λ j b e. at_put classes used place b (λ x. x < length now) (λ here. u.within)
          (λ n. let below : b < user = may_user.1 b j e in omega arith)),
    ) in
    let table_after : IsTable after =
    subst IsTable (sym is) (table_pushed now (wrapped classes used place (shape.Applied h ps)) u.table may) in
    let at_new : slice_get after (length now) ≡ Some (shape.Applied h (map (put_in classes used place) ps)) =
    ap (λ (xs : List Shape). slice_get xs (length now)) is ∙ shape_at_end now (wrapped classes used place (shape.Applied h ps)) in
    let at_old : slice_get after user ≡ Some (shape.Applied h ps) =
    shape_in ss after (u.more ++ wrapped classes used place (shape.Applied h ps) ∷ []) user (shape.Applied h ps) extends at_user in
    let new_arguments : arguments (at (trees after) (length now)) ≡ map (at (trees after)) (map (put_in classes used place) ps) =
    arguments_at after (length now) h (map (put_in classes used place) ps) table_after at_new in
    let old_arguments : arguments (at (trees after) user) ≡ map (at (trees after)) ps = arguments_at after user h ps table_after at_old in
    record {
      more = u.more ++ wrapped classes used place (shape.Applied h ps) ∷ [];
      extends = extends;
      table = table_after;
      within = omega arith;
      equal = λ equations sound.
          made.whole (at (trees after) (length now)) (at (trees after) user)
          (one_head after (length now) user h h (map (put_in classes used place) ps) ps table_after at_new at_old refl
          (mapped_length (put_in classes used place) ps))
          (subst (λ (xs : List TypeExpr). AllMadeEqual equations xs (arguments (at (trees after) user)))
          (sym (new_arguments ∙ mapped_twice (at (trees after)) (put_in classes used place) ps))
          (subst (AllMadeEqual equations (map (λ b. at (trees after) (put_in classes used place b)) ps)) (sym old_arguments)
          (all_made equations (λ b. at (trees after) (put_in classes used place b)) (at (trees after)) ps
          (λ j b e. put_equal equations ss classes now after (wrapped classes used place (shape.Applied h ps) ∷ [])
          (u.more ++ wrapped classes used place (shape.Applied h ps) ∷ []) used place b is extends
          (place_within ss user (shape.Applied h ps) j b table at_user e) u.used_within u.within long sound (u.equal equations sound)))));
      larger = λ σ.
          let it : slice_get (map (at (trees after)) (map (put_in classes used place) ps)) k ≡ Some (at (trees after) place) =
          there (trees after) (map (put_in classes used place) ps) k (put_in classes used place a)
          (slice_get-map (put_in classes used place) ps k ∙ ap (option_map (put_in classes used place)) at_k)
          ∙ ap (λ (b : ℕ). Some (at (trees after) b)) (put_here classes used place a uses) in
          let full : IsFull h (length (map (at (trees after)) (map (put_in classes used place) ps))) =
          subst (IsFull h) (sym (mapped_length (at (trees after)) (map (put_in classes used place) ps)
          ∙ mapped_length (put_in classes used place) ps)) may_user.0 in
          let smaller : size (apply σ (at (trees after) place))
          < size (apply σ (built h (map (at (trees after)) (map (put_in classes used place) ps)))) =
          part_smaller σ h (map (at (trees after)) (map (put_in classes used place) ps)) k (at (trees after) place) full it in
          let new : at (trees after) (length now) ≡ built h (map (at (trees after)) (map (put_in classes used place) ps)) =
          trees_fit after (length now) (shape.Applied h (map (put_in classes used place) ps)) table_after at_new in
          let same_new : size (apply σ (at (trees after) (length now)))
          ≡ size (apply σ (built h (map (at (trees after)) (map (put_in classes used place) ps)))) =
          ap (λ (t : TypeExpr). size (apply σ t)) new in
          let same_place : size (apply σ (at (trees after) place)) ≡ size (apply σ (at (trees now) place)) =
          ap (λ (t : TypeExpr). size (apply σ t))
          (kept_tree now after (wrapped classes used place (shape.Applied h ps) ∷ []) place is u.within) in
          let same_first : size (apply σ (at (trees after) first)) ≡ size (apply σ (at (trees now) first)) =
          ap (λ (t : TypeExpr). size (apply σ t))
          (kept_tree now after (wrapped classes used place (shape.Applied h ps) ∷ []) first is (omega arith)) in
          let before : size (apply σ (at (trees now) first)) ≤ size (apply σ (at (trees now) place)) = u.larger σ in
          omega arith;
    }

-- the class that is left uses the one so far
pub wrapped_step : (ss : List Shape) (classes : List ℕ) (first : ℕ) (now after : List Shape) (tasks : List Task) (used place user : ℕ)
    (s : Shape) → IsTable ss → AreWithin ss classes → first < length ss → slice_get ss user ≡ Some s
    → after ≡ now ++ wrapped classes used place s ∷ []
    → IsUnfolding ss classes first now (task.Leave user ∷ tasks) used place → IsWrapped ss classes first after user (length now)
wrapped_step ss classes first now after tasks used place user (shape.Variable x) table inside first_in at_user is u =
    let e : Some u.under.shape ≡ Some (shape.Variable x) = sym u.under.has ∙ at_user in
    let same : u.under.shape ≡ shape.Variable x = cc in
    let stands : slice_get [] u.under.place ≡ Some u.under.argument =
    subst (λ (s : Shape). slice_get (places s) u.under.place ≡ Some u.under.argument) same u.under.stands in
    let no : ⊥ = cc in absurd no
wrapped_step ss classes first now after tasks used place user (shape.Applied h ps) table inside first_in at_user is u =
    let e : Some u.under.shape ≡ Some (shape.Applied h ps) = sym u.under.has ∙ at_user in
    let same : u.under.shape ≡ shape.Applied h ps = cc in
    wrapped_applied ss classes first now after (task.Leave user ∷ tasks) used place user u.under.place u.under.argument h ps table inside first_in
    at_user (subst (λ (s : Shape). slice_get (places s) u.under.place ≡ Some u.under.argument) same u.under.stands) u.under.is is u

-- the first type's class is reached
pub wrapped_last : (ss : List Shape) (classes : List ℕ) (first : ℕ) (after : List Shape) (user place : ℕ) → AreWithin ss classes
    → first < length ss → user ≡ class_of classes first → IsWrapped ss classes first after user place
    → Unfolds ss classes first after place
wrapped_last ss classes first after user place inside first_in is w = record {
  more = w.more;
  extends = w.extends;
  table = w.table;
  within = w.within;
  equal = λ equations sound.
      made.transitive (at (trees after) first) (at (trees after) user) (at (trees after) place)
      (subst (AreEqual equations (trees after) first) (sym is)
      (equal_kept equations ss after w.more first (class_of classes first) w.extends first_in (inside.within first first_in) (sound first first_in)))
      (made.symmetric (at (trees after) place) (at (trees after) user) (w.equal equations sound));
  larger = w.larger;
}

-- another class is reached
pub wrapped_next : (ss : List Shape) (classes : List ℕ) (first : ℕ) (now after : List Shape) (tasks : List Task) (used was user place : ℕ)
    → (user ≡ class_of classes first → ⊥) → IsUnfolding ss classes first now (task.Leave user ∷ tasks) used was
    → IsWrapped ss classes first after user place → IsUnfolding ss classes first after tasks user place
wrapped_next ss classes first now after tasks used was user place other u w = record {
  more = w.more;
  extends = w.extends;
  table = w.table;
  within = w.within;
  used_within = u.linked.0;
  leaves = elim u.leaves [ inl e ↦ absurd (other e) | inr leaves ↦ leaves ];
  linked = u.linked.2;
  under = u.linked.1;
  equal = w.equal;
  larger = λ σ. let it : size (apply σ (at (trees after) first)) < size (apply σ (at (trees after) place)) = w.larger σ in omega arith;
}

-- a place that is still to be entered is passed by
pub unfolding_passes : (ss : List Shape) (classes : List ℕ) (first : ℕ) (now : List Shape) (tasks : List Task) (used place i : ℕ)
    → IsUnfolding ss classes first now (task.Enter i ∷ tasks) used place → IsUnfolding ss classes first now tasks used place
unfolding_passes ss classes first now tasks used place i u = record {
  more = u.more;
  extends = u.extends;
  table = u.table;
  within = u.within;
  used_within = u.used_within;
  leaves = u.leaves;
  linked = u.linked.2;
  under = u.under;
  equal = u.equal;
  larger = u.larger;
}

pub no_more : (ss : List Shape) → ss ≡ ss ++ []
no_more [] = refl
no_more (s ∷ ss) = ap (λ (xs : List Shape). s ∷ xs) (no_more ss)

pub unfolding_starts : (ss : List Shape) (classes : List ℕ) (first : ℕ) (tasks : List Task) → IsTable ss → AreWithin ss classes
    → IsCyclic ss classes tasks first → IsUnfolding ss classes first ss tasks (class_of classes first) first
unfolding_starts ss classes first tasks table inside cyclic = record {
  more = [];
  extends = no_more ss;
  table = table;
  within = cyclic.within;
  used_within = inside.within first cyclic.within;
  leaves = cyclic.leaves;
  linked = cyclic.linked;
  under = cyclic.under;
  equal = λ equations sound. sound first cyclic.within;
  larger = λ σ. omega arith;
}

pub shape_before : (ss more : List Shape) (k : ℕ) (s : Shape) → slice_get (ss ++ more) k ≡ Some s → k < length ss → slice_get ss k ≡ Some s
shape_before [] more k s is within = absurd (omega arith)
shape_before (x ∷ ss) more zero s is within = is
shape_before (x ∷ ss) more (suc k) s is within = shape_before ss more k s is (omega arith)

shapes_append : (xs : List Node) (m : Node) → map shape_of (xs ++ m ∷ []) ≡ map shape_of xs ++ shape_of m ∷ []
shapes_append [] m = refl
shapes_append (x ∷ xs) m = ap (λ (ss : List Shape). shape_of x ∷ ss) (shapes_append xs m)

pub pushed_shapes : (xs ys : List Node) (m : Node) (t : Shape) → ys ≡ xs ++ m ∷ [] → shape_of m ≡ t
    → map shape_of ys ≡ map shape_of xs ++ t ∷ []
pushed_shapes xs ys m t is it = ap (map shape_of) is ∙ shapes_append xs m ∙ ap (λ (s : Shape). map shape_of xs ++ s ∷ []) it

-- the arguments of a class that is left
pub user_arguments : (ss : List Shape) (classes : List ℕ) (first : ℕ) (now : List Shape) (tasks : List Task) (used place user k a : ℕ)
    (s : Shape) → IsTable ss → AreWithin ss classes → IsUnfolding ss classes first now (task.Leave user ∷ tasks) used place
    → slice_get now user ≡ Some s → slice_get (places s) k ≡ Some a → a < length classes
user_arguments ss classes first now tasks used place user k a s table inside u at_user e =
    let at_ss : slice_get ss user ≡ Some s =
    shape_before ss u.more user s (ap (λ (xs : List Shape). slice_get xs user) (sym u.extends) ∙ at_user) u.linked.0 in
    let it : a < length ss = place_within ss user s k a table at_ss e in
    let sized : length classes ≡ length ss = inside.sized in
    omega arith

pub built_round : (ss : List Shape) (classes : List ℕ) (first : ℕ) (now after : List Node) (tasks : List Task)
    (used was user place : ℕ) → IsTable ss → AreWithin ss classes → first < length ss
    → IsUnfolding ss classes first (map shape_of now) (task.Leave user ∷ tasks) used was → place ≡ length now
    → ((s : Shape) → slice_get (map shape_of now) user ≡ Some s
    → map shape_of after ≡ map shape_of now ++ wrapped classes used was s ∷ [])
    → IsWrapped ss classes first (map shape_of after) user place
built_round ss classes first now after tasks used was user place table inside first_in u is pushed =
    let at_user : slice_get ss user ≡ Some (get_or ss user (shape.Variable 0)) = slice_get-get_or ss user (shape.Variable 0) u.linked.0 in
    subst (IsWrapped ss classes first (map shape_of after) user) (mapped_length shape_of now ∙ sym is)
    (wrapped_step ss classes first (map shape_of now) (map shape_of after) tasks used was user (get_or ss user (shape.Variable 0)) table inside
    first_in at_user
    (pushed (get_or ss user (shape.Variable 0))
    (shape_in ss (map shape_of now) u.more user (get_or ss user (shape.Variable 0)) u.extends at_user)) u)

-- the task that is taken
pub unfolding_popped : (ss : List Shape) (classes : List ℕ) (first : ℕ) (now : List Shape) (xs ys : List Task) (t : Task) (used place user : ℕ)
    → xs ≡ ys ++ t ∷ [] → t ≡ task.Leave user → IsUnfolding ss classes first now (reverse xs) used place
    → IsUnfolding ss classes first now (task.Leave user ∷ reverse ys) used place
unfolding_popped ss classes first now xs ys t used place user is leave u =
    subst (λ (ts : List Task). IsUnfolding ss classes first now ts used place)
    (reverse_popped xs ys t is ∙ ap (λ (v : Task). v ∷ reverse ys) leave) u

pub same_some : (s t : Shape) → Some s ≡ Some t → s ≡ t
same_some s t e = cc
