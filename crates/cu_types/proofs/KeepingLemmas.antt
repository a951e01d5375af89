-- Whether a substitution keeps to the declared types of a group, member by member.
use Rattle.std.proofs.Common.{◌≡◌, ℕ, zero, suc, ◌+◌, ◌-◌, ◌<◌, ◌≤◌, Bool, true, false, not, ◌||◌, cond, List, [], ◌∷◌, ◌++◌, Option, None, Some, length, map, drop, take, get_or, nat_eq, slice_get, slice_index_or, refl, sym, ap, ◌∙◌, subst, arith, append_assoc}
use Rattle.std.specs.List.{list_any}
use Rattle.std.proofs.Math.Seq.{drop-cons}
use Rattle.std.proofs.lemmas.Bool.{eqb-true}
use Rattle.std.proofs.lemmas.List.{map_more}
use Rattle.cu_calculus.specs.Valid.{holds}
use Rattle.cu_calculus.specs.declared.FunId.{FunId}
use Rattle.cu_kernel.specs.Kernel.{Kernel}
use Rattle.cu_kernel.specs.TypeExpr as type
use Rattle.cu_kernel.specs.TypeExpr.{TypeExpr}
use Rattle.cu_kernel.specs.TypesOf.{type_list}
use Rattle.cu_types.proofs.Adding.{node_shape, node_within}
use Rattle.cu_types.proofs.TableLemmas.{mapped_length, trees-length, trees_fit}
use Rattle.cu_types.specs.Equations.{Member, breadth}
use Rattle.cu_types.specs.Inside.Keeping.{IsPending, Told, among, became, prefixed, go_on, joined, joined_if, meets, numbers_from, shape_meets, shape_variable, some_meets, variable_of, with_declared, with_first, with_member, with_members}
use Rattle.cu_types.specs.Inside.Knowing.{AreMembers, IsMember, member_of}
use Rattle.cu_types.specs.Meaning.{HasPlaces, place_in, subst_of, type_at, types_of_subst}
use Rattle.cu_types.specs.Numbered.{variables_in, variables_in_all}
use Rattle.cu_types.specs.Table as shape
use Rattle.cu_types.specs.Table.{IsFull, IsTable, MayStand, Shape, at, built, shape_of, tree_over, trees}
use Rattle.cu_types.specs.Types.{Substitution}
use Rattle.cu_types.specs.declared.known.Known.{Known}
use Rattle.cu_types.specs.declared.known.Known.TheVariants as kind
use Rattle.cu_types.specs.declared.known.Member as code
use Rattle.cu_types.specs.declared.node.Node.{Node}
use Rattle.cu_types.specs.declared.node.TypeHead.{TypeHead}
use Rattle.cu_types.specs.declared.node.TypeHead.TheVariants as head
use Rattle.cu_types.specs.declared.unification.Subst.{Subst}

-- a variable of a table

built_variable : (h : TypeHead) (ts : List TypeExpr) → IsFull h (length ts) → variable_of (built h ts) ≡ None
built_variable (head.Named name) ts full = refl
built_variable head.Arrow (a ∷ b ∷ []) full = refl
built_variable head.Arrow [] full = absurd (omega arith)
built_variable head.Arrow (a ∷ []) full = absurd (omega arith)
built_variable head.Arrow (a ∷ b ∷ c ∷ ts) full = absurd (omega arith)

tree_variable : (n : ℕ) (s : Shape) (f : ℕ → TypeExpr) → MayStand n s → variable_of (tree_over f s) ≡ shape_variable s
tree_variable n (shape.Variable x) f may = refl
tree_variable n (shape.Applied h ps) f may =
    built_variable h (map f ps) (subst (IsFull h) (sym (mapped_length f ps)) may.0)

-- what a variable became that has a place
pub placed_variable : (s : Subst) (x p : ℕ) (node : Node) (found : Option ℕ) → IsTable (types_of_subst s) → HasPlaces s
    → place_in s x ≡ Some p → node ≡ get_or s.types.items p node → found ≡ shape_variable (shape_of node)
    → found ≡ variable_of (subst_of s x)
placed_variable s x p node found table places is at_p told =
    let within : p < length (types_of_subst s) = places x p is in
    let sized = mapped_length shape_of s.types.items in
    let there : slice_get (types_of_subst s) p ≡ Some (shape_of node) = node_shape s.types.items p node (omega arith) at_p in
    told
    ∙ sym (tree_variable p (shape_of node) (at (trees (types_of_subst s))) (table.stand p (shape_of node) there))
    ∙ ap variable_of (sym (trees_fit (types_of_subst s) p (shape_of node) table there))
    ∙ sym (ap (λ (o : Option ℕ). variable_of (type_at (types_of_subst s) x o)) is)

-- and of one that has none
pub own_variable : (s : Subst) (x : ℕ) → place_in s x ≡ None → Some x ≡ variable_of (subst_of s x)
own_variable s x is = sym (ap (λ (o : Option ℕ). variable_of (type_at (types_of_subst s) x o)) is)

-- numbers one after another, one more

pub next_number : (first i count : ℕ) → i < count → numbers_from (first + i) (count - i) ≡ (first + i) ∷ numbers_from (first + (i + 1)) (count - (i + 1))
next_number first i count lt =
    let e : count - i ≡ suc (count - (i + 1)) = omega arith in
    let f : first + i + 1 ≡ first + (i + 1) = omega arith in
    ap (numbers_from (first + i)) e
    ∙ ap (λ (x : ℕ). (first + i) ∷ numbers_from x (count - (i + 1))) f

pub no_number : (first i count : ℕ) → count ≤ i → numbers_from (first + i) (count - i) ≡ []
no_number first i count few = let e : count - i ≡ 0 = omega arith in ap (numbers_from (first + i)) e

pub all_numbers : (first count : ℕ) → numbers_from (first + 0) (count - 0) ≡ numbers_from first count
all_numbers first count =
    let e : first + 0 ≡ first = omega arith in
    let f : count - 0 ≡ count = omega arith in
    ap (λ (x : ℕ). numbers_from x (count - 0)) e ∙ ap (numbers_from first) f

-- variables that became variables

after_none : (o : Option (List ℕ)) → prefixed [] o ≡ o
after_none None = refl
after_none (Some ys) = refl

after_more : (ys : List ℕ) (y : ℕ) (o : Option (List ℕ)) → prefixed ys (with_first (Some y) o) ≡ prefixed (ys ++ y ∷ []) o
after_more ys y None = refl
after_more ys y (Some zs) = ap Some (sym (append_assoc ys (y ∷ []) zs))

nothing_after : (xs : List ℕ) → xs ++ [] ≡ xs
nothing_after [] = refl
nothing_after (x ∷ xs) = ap (λ (ys : List ℕ). x ∷ ys) (nothing_after xs)

pub became_start : (σ : Substitution) (first count : ℕ) (found : List ℕ) → found ≡ []
    → prefixed found (became σ (numbers_from (first + 0) (count - 0))) ≡ became σ (numbers_from first count)
became_start σ first count found none =
    ap (λ (ys : List ℕ). prefixed ys (became σ (numbers_from (first + 0) (count - 0)))) none
    ∙ after_none (became σ (numbers_from (first + 0) (count - 0)))
    ∙ ap (became σ) (all_numbers first count)

pub became_more : (σ : Substitution) (first count i x y : ℕ) (found after : List ℕ) (whole : Option (List ℕ)) → i < count
    → x ≡ first + i → Some y ≡ variable_of (σ x) → after ≡ found ++ y ∷ []
    → prefixed found (became σ (numbers_from (first + i) (count - i))) ≡ whole
    → prefixed after (became σ (numbers_from (first + (i + 1)) (count - (i + 1)))) ≡ whole
became_more σ first count i x y found after whole lt here is pushed before =
    let rest : Option (List ℕ) = became σ (numbers_from (first + (i + 1)) (count - (i + 1))) in
    let one : Some y ≡ variable_of (σ (first + i)) = is ∙ ap (λ (z : ℕ). variable_of (σ z)) here in
    ap (λ (ys : List ℕ). prefixed ys (became σ (numbers_from (first + (i + 1)) (count - (i + 1))))) pushed
    ∙ sym (after_more found y (became σ (numbers_from (first + (i + 1)) (count - (i + 1)))))
    ∙ ap (λ (o : Option ℕ). prefixed found (with_first o (became σ (numbers_from (first + (i + 1)) (count - (i + 1)))))) one
    ∙ sym (ap (λ (xs : List ℕ). prefixed found (became σ xs)) (next_number first i count lt))
    ∙ before

pub became_none : (σ : Substitution) (first count i x : ℕ) (found : List ℕ) (whole : Option (List ℕ)) → i < count
    → x ≡ first + i → None ≡ variable_of (σ x)
    → prefixed found (became σ (numbers_from (first + i) (count - i))) ≡ whole → None ≡ whole
became_none σ first count i x found whole lt here is before =
    let one : None ≡ variable_of (σ (first + i)) = is ∙ ap (λ (z : ℕ). variable_of (σ z)) here in
    ap (λ (o : Option ℕ). prefixed found (with_first o (became σ (numbers_from (first + (i + 1)) (count - (i + 1)))))) one
    ∙ sym (ap (λ (xs : List ℕ). prefixed found (became σ xs)) (next_number first i count lt))
    ∙ before

pub became_end : (σ : Substitution) (first count i : ℕ) (found : List ℕ) (whole : Option (List ℕ)) → count ≤ i
    → prefixed found (became σ (numbers_from (first + i) (count - i))) ≡ whole → Some found ≡ whole
became_end σ first count i found whole few before =
    ap Some (sym (nothing_after found))
    ∙ sym (ap (λ (xs : List ℕ). prefixed found (became σ xs)) (no_number first i count few))
    ∙ before

-- numbers that are new

pub joined_old : (ks : List ℕ) (y : ℕ) (ys : List ℕ) → holds y ks ≡ true → joined ks (y ∷ ys) ≡ None
joined_old ks y ys old = ap (λ (b : Bool). cond b None (joined (ks ++ y ∷ []) ys)) old

pub joined_new : (ks ls : List ℕ) (y : ℕ) (ys : List ℕ) → holds y ks ≡ false → ls ≡ ks ++ y ∷ [] → joined ks (y ∷ ys) ≡ joined ls ys
joined_new ks ls y ys new is =
    ap (λ (b : Bool). cond b None (joined (ks ++ y ∷ []) ys)) new ∙ ap (λ (zs : List ℕ). joined zs ys) (sym is)

new_not : (b : Bool) → not b ≡ true → b ≡ false
new_not false e = refl
new_not true e = let no : ⊥ = cc in absurd no

old_not : (b : Bool) → not b ≡ false → b ≡ true
old_not true e = refl
old_not false e = let no : ⊥ = cc in absurd no

inserted : (b : Bool) (ks : List ℕ) (y : ℕ) → b ≡ false → cond b ks (ks ++ y ∷ []) ≡ ks ++ y ∷ []
inserted b ks y e = ap (λ (c : Bool). cond c ks (ks ++ y ∷ [])) e

at_index : (xs : List ℕ) (i y : ℕ) → i < length xs → y ≡ get_or xs i 0 → drop i xs ≡ y ∷ drop (i + 1) xs
at_index xs i y lt is =
    let e : suc i ≡ i + 1 = omega arith in
    drop-cons xs i 0 lt ∙ ap (λ (z : ℕ). z ∷ drop (suc i) xs) (sym is) ∙ ap (λ (n : ℕ). y ∷ drop n xs) e

nothing_dropped : (xs : List ℕ) → drop 0 xs ≡ xs
nothing_dropped [] = refl
nothing_dropped (x ∷ xs) = refl

all_dropped : (n : ℕ) (xs : List ℕ) → length xs ≤ n → drop n xs ≡ []
all_dropped zero [] few = refl
all_dropped zero (x ∷ xs) few = absurd (omega arith)
all_dropped (suc n) [] few = refl
all_dropped (suc n) (x ∷ xs) few = all_dropped n xs (omega arith)

pub joined_start : (ks xs : List ℕ) → joined ks (drop 0 xs) ≡ joined ks xs
joined_start ks xs = ap (joined ks) (nothing_dropped xs)

pub joined_more : (ks ls xs : List ℕ) (i y : ℕ) (new : Bool) (whole : Option (List ℕ)) → i < length xs → y ≡ get_or xs i 0
    → new ≡ not (holds y ks) → new ≡ true → ls ≡ cond (holds y ks) ks (ks ++ y ∷ []) → joined ks (drop i xs) ≡ whole
    → joined ls (drop (i + 1) xs) ≡ whole
joined_more ks ls xs i y new whole lt is told so keys before =
    let fresh : holds y ks ≡ false = new_not (holds y ks) (sym told ∙ so) in
    sym (joined_new ks ls y (drop (i + 1) xs) fresh (keys ∙ inserted (holds y ks) ks y fresh))
    ∙ sym (ap (joined ks) (at_index xs i y lt is)) ∙ before

pub joined_none : (ks xs : List ℕ) (i y : ℕ) (new : Bool) (whole : Option (List ℕ)) → i < length xs → y ≡ get_or xs i 0
    → new ≡ not (holds y ks) → new ≡ false → joined ks (drop i xs) ≡ whole → whole ≡ None
joined_none ks xs i y new whole lt is told not_so before =
    sym before ∙ ap (joined ks) (at_index xs i y lt is) ∙ joined_old ks y (drop (i + 1) xs) (old_not (holds y ks) (sym told ∙ not_so))

pub joined_end : (ks xs : List ℕ) (i : ℕ) (whole : Option (List ℕ)) → length xs ≤ i → joined ks (drop i xs) ≡ whole → whole ≡ Some ks
joined_end ks xs i whole few before = sym before ∙ ap (joined ks) (all_dropped i xs few)

-- some of a list

or_false : (b : Bool) → (b || false) ≡ b
or_false true = refl
or_false false = refl

or_then : (a whole b c : Bool) → whole ≡ (b || c) → (a || whole) ≡ ((a || b) || c)
or_then true whole b c e = refl
or_then false whole b c e = e

any_both : {A : Type 0} (p : A → Bool) (xs ys : List A) → list_any p (xs ++ ys) ≡ (list_any p xs || list_any p ys)
any_both p [] ys = refl
any_both p (x ∷ xs) ys = or_then (p x) (list_any p (xs ++ ys)) (list_any p xs) (list_any p ys) (any_both p xs ys)

any_same : (f g : ℕ → Bool) (ps : List ℕ) → ((a k : ℕ) → slice_get ps k ≡ Some a → f a ≡ g a) → list_any f ps ≡ list_any g ps
any_same f g [] same = refl
any_same f g (p ∷ ps) same =
    ap (λ (b : Bool). b || list_any f ps) (same p 0 refl) ∙ ap (λ (b : Bool). g p || b) (any_same f g ps (λ a k e. same a (suc k) e))

pub any_none : (xs : List ℕ) → list_any (λ x. false) xs ≡ false
any_none [] = refl
any_none (x ∷ xs) = any_none xs

-- one of the places

pub found_here : (f : ℕ → Bool) (xs : List ℕ) (i x : ℕ) (whole : Bool) → i < length xs → x ≡ get_or xs i 0 → f x ≡ true
    → list_any f (drop i xs) ≡ whole → true ≡ whole
found_here f xs i x whole lt is so before =
    sym (ap (λ (b : Bool). b || list_any f (drop (i + 1) xs)) so) ∙ sym (ap (list_any f) (at_index xs i x lt is)) ∙ before

pub found_later : (f : ℕ → Bool) (xs : List ℕ) (i x : ℕ) (whole : Bool) → i < length xs → x ≡ get_or xs i 0 → f x ≡ false
    → list_any f (drop i xs) ≡ whole → list_any f (drop (i + 1) xs) ≡ whole
found_later f xs i x whole lt is not_so before =
    sym (ap (λ (b : Bool). b || list_any f (drop (i + 1) xs)) not_so) ∙ sym (ap (list_any f) (at_index xs i x lt is)) ∙ before

pub found_start : (f : ℕ → Bool) (xs : List ℕ) → list_any f (drop 0 xs) ≡ list_any f xs
found_start f xs = ap (list_any f) (nothing_dropped xs)

pub found_none : (f : ℕ → Bool) (xs : List ℕ) (i : ℕ) (whole : Bool) → length xs ≤ i → list_any f (drop i xs) ≡ whole → false ≡ whole
found_none f xs i whole few before = sym (ap (list_any f) (all_dropped i xs few)) ∙ before

-- variables in types of a table

arguments_meet : (ys : List ℕ) (tree : ℕ → TypeExpr) (ps : List ℕ)
    → list_any (among ys) (variables_in_all (type_list (map tree ps))) ≡ list_any (λ p. meets ys (tree p)) ps
arguments_meet ys tree [] = refl
arguments_meet ys tree (p ∷ ps) =
    any_both (among ys) (variables_in (tree p)) (variables_in_all (type_list (map tree ps)))
    ∙ ap (λ (b : Bool). meets ys (tree p) || b) (arguments_meet ys tree ps)

applied_meets : (ys : List ℕ) (tree : ℕ → TypeExpr) (h : TypeHead) (ps : List ℕ) → IsFull h (length ps)
    → meets ys (tree_over tree (shape.Applied h ps)) ≡ list_any (λ p. meets ys (tree p)) ps
applied_meets ys tree (head.Named name) ps full = arguments_meet ys tree ps
applied_meets ys tree head.Arrow (a ∷ b ∷ []) full =
    any_both (among ys) (variables_in (tree a)) (variables_in (tree b))
    ∙ ap (λ (c : Bool). meets ys (tree a) || c) (sym (or_false (meets ys (tree b))))
applied_meets ys tree head.Arrow [] full = absurd (omega arith)
applied_meets ys tree head.Arrow (a ∷ []) full = absurd (omega arith)
applied_meets ys tree head.Arrow (a ∷ b ∷ c ∷ ps) full = absurd (omega arith)

shape_is : (n : ℕ) (ys : List ℕ) (tree : ℕ → TypeExpr) (f : ℕ → Bool) (s : Shape) → MayStand n s
    → ((a : ℕ) → a < n → f a ≡ meets ys (tree a)) → shape_meets f ys s ≡ meets ys (tree_over tree s)
shape_is n ys tree f (shape.Variable x) may same = sym (or_false (among ys x))
shape_is n ys tree f (shape.Applied h ps) may same =
    any_same f (λ p. meets ys (tree p)) ps (λ a k e. same a (may.1 a k e)) ∙ sym (applied_meets ys tree h ps may.0)

pub variable_meets : (ys : List ℕ) (x : ℕ) → among ys x ≡ meets ys (type.Variable x)
variable_meets ys x = sym (or_false (among ys x))

mapped_index : (g : TypeExpr → Bool) (ts : List TypeExpr) (i a : ℕ) → a < i → a < length ts
    → slice_index_or (map g (take i ts)) a false ≡ g (at ts a)
mapped_index g ts zero a lt within = absurd (omega arith)
mapped_index g [] (suc i) a lt within = absurd (omega arith)
mapped_index g (t ∷ ts) (suc i) zero lt within = refl
mapped_index g (t ∷ ts) (suc i) (suc a) lt within = mapped_index g ts i a (omega arith) (omega arith)

mapped_count : (g : TypeExpr → Bool) (ts : List TypeExpr) (i : ℕ) → i ≤ length ts → length (map g (take i ts)) ≡ i
mapped_count g [] zero few = refl
mapped_count g (t ∷ ts) zero few = refl
mapped_count g [] (suc i) few = absurd (omega arith)
mapped_count g (t ∷ ts) (suc i) few = ap suc (mapped_count g ts i (omega arith))

pub meeting_may : (ys : List ℕ) (nodes : List Node) (i : ℕ) (x : Node) (sliced bs : List Bool) → IsTable (map shape_of nodes)
    → i < length nodes → x ≡ get_or nodes i x → sliced ≡ bs → bs ≡ map (meets ys) (take i (trees (map shape_of nodes)))
    → MayStand (length sliced) (shape_of x)
meeting_may ys nodes i x sliced bs table within is same e =
    let sized = node_within nodes i within in
    let count : length sliced ≡ i = ap length (same ∙ e) ∙ mapped_count (meets ys) (trees (map shape_of nodes)) i (omega arith) in
    subst (λ (n : ℕ). MayStand n (shape_of x)) (sym count) (table.stand i (shape_of x) (node_shape nodes i x within is))

pub meeting_more : (ys : List ℕ) (nodes : List Node) (i : ℕ) (x : Node) (sliced bs cs : List Bool) (met : Bool) → IsTable (map shape_of nodes)
    → i < length nodes → x ≡ get_or nodes i x → sliced ≡ bs → bs ≡ map (meets ys) (take i (trees (map shape_of nodes)))
    → met ≡ shape_meets (λ a. slice_index_or sliced a false) ys (shape_of x) → cs ≡ bs ++ met ∷ []
    → cs ≡ map (meets ys) (take (i + 1) (trees (map shape_of nodes)))
meeting_more ys nodes i x sliced bs cs met table within is same before told pushed =
    let sized = node_within nodes i within in
    let T : List TypeExpr = trees (map shape_of nodes) in
    let one : met ≡ meets ys (at T i) =
    told ∙ ap (λ (xs : List Bool). shape_meets (λ a. slice_index_or xs a false) ys (shape_of x)) (same ∙ before)
    ∙ shape_is i ys (at T) (λ a. slice_index_or (map (meets ys) (take i T)) a false) (shape_of x)
    (table.stand i (shape_of x) (node_shape nodes i x within is))
    (λ a lt. mapped_index (meets ys) T i a lt (omega arith))
    ∙ ap (meets ys) (sym (trees_fit (map shape_of nodes) i (shape_of x) table (node_shape nodes i x within is))) in
    pushed ∙ ap (λ (xs : List Bool). xs ++ met ∷ []) before
    ∙ ap (λ (b : Bool). map (meets ys) (take i T) ++ b ∷ []) one
    ∙ sym (map_more (meets ys) T i (type.Variable 0) sized)

taken_all : (n : ℕ) (ts : List TypeExpr) → length ts ≤ n → take n ts ≡ ts
taken_all zero [] few = refl
taken_all zero (t ∷ ts) few = absurd (omega arith)
taken_all (suc n) [] few = refl
taken_all (suc n) (t ∷ ts) few = ap (λ (us : List TypeExpr). t ∷ us) (taken_all n ts (omega arith))

nothing_taken : (g : TypeExpr → Bool) (ts : List TypeExpr) → map g (take 0 ts) ≡ []
nothing_taken g [] = refl
nothing_taken g (t ∷ ts) = refl

pub meeting_start : (ys : List ℕ) (nodes : List Node) (bs : List Bool) → bs ≡ [] → bs ≡ map (meets ys) (take 0 (trees (map shape_of nodes)))
meeting_start ys nodes bs none = none ∙ sym (nothing_taken (meets ys) (trees (map shape_of nodes)))

pub meeting_end : (ys : List ℕ) (nodes : List Node) (i : ℕ) (bs : List Bool) → length nodes ≤ i
    → bs ≡ map (meets ys) (take i (trees (map shape_of nodes))) → bs ≡ map (meets ys) (trees (map shape_of nodes))
meeting_end ys nodes i bs few before =
    let a = trees-length (map shape_of nodes) in let b = mapped_length shape_of nodes in
    before ∙ ap (map (meets ys)) (taken_all i (trees (map shape_of nodes)) (omega arith))

index_mapped : (g : TypeExpr → Bool) (ts : List TypeExpr) (k : ℕ) → k < length ts → slice_index_or (map g ts) k false ≡ g (at ts k)
index_mapped g [] k lt = absurd (omega arith)
index_mapped g (t ∷ ts) zero lt = refl
index_mapped g (t ∷ ts) (suc k) lt = index_mapped g ts k (omega arith)

-- what is known of a variable's place
pub placed_within : (s : Subst) (x p : ℕ) (g : TypeExpr → Bool) (found : List Bool) → HasPlaces s → place_in s x ≡ Some p
    → found ≡ map g (trees (types_of_subst s)) → p < length found
placed_within s x p g found places is e =
    let within : p < length (types_of_subst s) = places x p is in
    let a = trees-length (types_of_subst s) in
    let b = mapped_length g (trees (types_of_subst s)) in
    let c : length found ≡ length (map g (trees (types_of_subst s))) = ap length e in
    omega arith

pub placed_meets : (s : Subst) (x p : ℕ) (ys : List ℕ) (found : List Bool) (b : Bool) → HasPlaces s → place_in s x ≡ Some p
    → found ≡ map (meets ys) (trees (types_of_subst s)) → b ≡ slice_index_or found p false → b ≡ meets ys (subst_of s x)
placed_meets s x p ys found b places is e told =
    let within : p < length (types_of_subst s) = places x p is in
    let a = trees-length (types_of_subst s) in
    told ∙ ap (λ (bs : List Bool). slice_index_or bs p false) e
    ∙ index_mapped (meets ys) (trees (types_of_subst s)) p (omega arith)
    ∙ sym (ap (λ (o : Option ℕ). meets ys (type_at (types_of_subst s) x o)) is)

pub own_meets : (s : Subst) (x : ℕ) (ys : List ℕ) (b : Bool) → place_in s x ≡ None → b ≡ among ys x → b ≡ meets ys (subst_of s x)
own_meets s x ys b is told =
    told ∙ variable_meets ys x ∙ sym (ap (λ (o : Option ℕ). meets ys (type_at (types_of_subst s) x o)) is)

-- a range of variables

pub range_start : (σ : Substitution) (ys : List ℕ) (first count : ℕ)
    → some_meets σ ys (numbers_from (first + 0) (count - 0)) ≡ some_meets σ ys (numbers_from first count)
range_start σ ys first count = ap (some_meets σ ys) (all_numbers first count)

pub range_here : (σ : Substitution) (ys : List ℕ) (first count i x : ℕ) (b whole : Bool) → i < count → x ≡ first + i
    → b ≡ meets ys (σ x) → b ≡ true → some_meets σ ys (numbers_from (first + i) (count - i)) ≡ whole → true ≡ whole
range_here σ ys first count i x b whole lt here told so before =
    let one : meets ys (σ (first + i)) ≡ true = sym (ap (λ (z : ℕ). meets ys (σ z)) here) ∙ sym told ∙ so in
    sym (ap (λ (c : Bool). c || some_meets σ ys (numbers_from (first + (i + 1)) (count - (i + 1)))) one)
    ∙ sym (ap (some_meets σ ys) (next_number first i count lt)) ∙ before

pub range_later : (σ : Substitution) (ys : List ℕ) (first count i x : ℕ) (b whole : Bool) → i < count → x ≡ first + i
    → b ≡ meets ys (σ x) → b ≡ false → some_meets σ ys (numbers_from (first + i) (count - i)) ≡ whole
    → some_meets σ ys (numbers_from (first + (i + 1)) (count - (i + 1))) ≡ whole
range_later σ ys first count i x b whole lt here told not_so before =
    let one : meets ys (σ (first + i)) ≡ false = sym (ap (λ (z : ℕ). meets ys (σ z)) here) ∙ sym told ∙ not_so in
    sym (ap (λ (c : Bool). c || some_meets σ ys (numbers_from (first + (i + 1)) (count - (i + 1)))) one)
    ∙ sym (ap (some_meets σ ys) (next_number first i count lt)) ∙ before

pub range_none : (σ : Substitution) (ys : List ℕ) (first count i : ℕ) (whole : Bool) → count ≤ i
    → some_meets σ ys (numbers_from (first + i) (count - i)) ≡ whole → false ≡ whole
range_none σ ys first count i whole few before = sym (ap (some_meets σ ys) (no_number first i count few)) ∙ before

-- where there is no variable, or nothing that was captured
nothing_meets : (t : TypeExpr) → meets [] t ≡ false
nothing_meets t = any_none (variables_in t)

none_meets : (σ : Substitution) (xs : List ℕ) → some_meets σ [] xs ≡ false
none_meets σ [] = refl
none_meets σ (x ∷ xs) = ap (λ (b : Bool). b || some_meets σ [] xs) (nothing_meets (σ x)) ∙ none_meets σ xs

pub empty_meets : (σ : Substitution) (ys xs : List ℕ) (empty : Bool) → empty ≡ nat_eq (length ys) 0 → empty ≡ true → false ≡ some_meets σ ys xs
empty_meets σ [] xs empty is so = sym (none_meets σ xs)
empty_meets σ (y ∷ ys) xs empty is so =
    let none : length (y ∷ ys) ≡ 0 = eqb-true (length (y ∷ ys)) 0 (sym is ∙ so) in absurd (omega arith)

-- ---- the members of a group

pending_first : (kernel : Kernel) (known : List Known) (σ : Substitution) (ks : List ℕ) (f : FunId) (fs : List FunId)
    (whole : Option (List ℕ)) (rest : List Member) → AreMembers kernel known (f ∷ fs) rest → with_members σ ks rest ≡ whole
    → (m : Member) × (ms : List Member) × IsMember kernel (slice_get known f.0) f m × AreMembers kernel known fs ms
    × (go_on (λ ls. with_members σ ls ms) (with_member σ ks m) ≡ whole)
pending_first kernel known σ ks f fs whole [] are same = absurd are
pending_first kernel known σ ks f fs whole (m ∷ ms) are same = (m, ms, are.0, are.1, same)

nothing_pending : (kernel : Kernel) (known : List Known) (σ : Substitution) (ks : List ℕ) (whole : Option (List ℕ)) (rest : List Member)
    → AreMembers kernel known [] rest → with_members σ ks rest ≡ whole → whole ≡ Some ks
nothing_pending kernel known σ ks whole [] are same = sym same
nothing_pending kernel known σ ks whole (m ∷ ms) are same = absurd are

next_function : (fs : List FunId) (i : ℕ) (f d : FunId) → i < length fs → f ≡ get_or fs i d → drop i fs ≡ f ∷ drop (i + 1) fs
next_function fs i f d lt is =
    let e : suc i ≡ i + 1 = omega arith in
    drop-cons fs i d lt ∙ ap (λ (g : FunId). g ∷ drop (suc i) fs) (sym is) ∙ ap (λ (n : ℕ). f ∷ drop n fs) e

no_functions : (n : ℕ) (fs : List FunId) → length fs ≤ n → drop n fs ≡ []
no_functions zero [] few = refl
no_functions zero (f ∷ fs) few = absurd (omega arith)
no_functions (suc n) [] few = refl
no_functions (suc n) (f ∷ fs) few = no_functions n fs (omega arith)

all_functions : (fs : List FunId) → drop 0 fs ≡ fs
all_functions [] = refl
all_functions (f ∷ fs) = refl

pub pending_start : (kernel : Kernel) (known : List Known) (σ : Substitution) (ks : List ℕ) (fs : List FunId) (ms : List Member) → ks ≡ []
    → AreMembers kernel known fs ms → IsPending kernel known σ ks (drop 0 fs) (with_members σ [] ms)
pending_start kernel known σ ks fs ms none are = record {
  rest = ms;
  are = subst (λ (gs : List FunId). AreMembers kernel known gs ms) (sym (all_functions fs)) are;
  same = ap (λ (ls : List ℕ). with_members σ ls ms) none;
}

pub pending_more : (kernel : Kernel) (known : List Known) (σ : Substitution) (ks ls : List ℕ) (fs : List FunId) (i : ℕ) (f d : FunId)
    (kept : Bool) (whole : Option (List ℕ)) → i < length fs → f ≡ get_or fs i d
    → ((m : Member) → IsMember kernel (slice_get known f.0) f m → Told kept ls (with_member σ ks m)) → kept ≡ true
    → IsPending kernel known σ ks (drop i fs) whole → IsPending kernel known σ ls (drop (i + 1) fs) whole
pending_more kernel known σ ks ls fs i f d kept whole lt is told so pending =
    let w = pending_first kernel known σ ks f (drop (i + 1) fs) whole pending.rest
    (subst (λ (gs : List FunId). AreMembers kernel known gs pending.rest) (next_function fs i f d lt is) pending.are) pending.same in
    let one : with_member σ ks w.0 ≡ Some ls = subst (λ (b : Bool). Told b ls (with_member σ ks w.0)) so (told w.0 w.2) in
    record {
      rest = w.1;
      are = w.3;
      same = sym (ap (go_on (λ zs. with_members σ zs w.1)) one) ∙ w.4;
    }

pub pending_none : (kernel : Kernel) (known : List Known) (σ : Substitution) (ks ls : List ℕ) (fs : List FunId) (i : ℕ) (f d : FunId)
    (kept : Bool) (whole : Option (List ℕ)) → i < length fs → f ≡ get_or fs i d
    → ((m : Member) → IsMember kernel (slice_get known f.0) f m → Told kept ls (with_member σ ks m)) → kept ≡ false
    → IsPending kernel known σ ks (drop i fs) whole → whole ≡ None
pending_none kernel known σ ks ls fs i f d kept whole lt is told not_so pending =
    let w = pending_first kernel known σ ks f (drop (i + 1) fs) whole pending.rest
    (subst (λ (gs : List FunId). AreMembers kernel known gs pending.rest) (next_function fs i f d lt is) pending.are) pending.same in
    let one : with_member σ ks w.0 ≡ None = subst (λ (b : Bool). Told b ls (with_member σ ks w.0)) not_so (told w.0 w.2) in
    sym w.4 ∙ ap (go_on (λ zs. with_members σ zs w.1)) one

pub pending_end : (kernel : Kernel) (known : List Known) (σ : Substitution) (ks : List ℕ) (fs : List FunId) (i : ℕ) (whole : Option (List ℕ))
    → length fs ≤ i → IsPending kernel known σ ks (drop i fs) whole → whole ≡ Some ks
pending_end kernel known σ ks fs i whole few pending =
    nothing_pending kernel known σ ks whole pending.rest
    (subst (λ (gs : List FunId). AreMembers kernel known gs pending.rest) (no_functions i fs few) pending.are) pending.same

-- one function of the group

pub no_member : (kernel : Kernel) (k : Option Known) (f : FunId) (m : Member) → k ≡ None → IsMember kernel k f m → ⊥
no_member kernel k f m is of_group = subst (λ (o : Option Known). IsMember kernel o f m) is of_group

pub not_nothing : (kernel : Kernel) (k : Option Known) (f : FunId) (m : Member) → k ≡ Some kind.Nothing → IsMember kernel k f m → ⊥
not_nothing kernel k f m is of_group = subst (λ (o : Option Known). IsMember kernel o f m) is of_group

pub not_typed : (kernel : Kernel) (k : Option Known) (f : FunId) (m : Member) (t : TypeExpr) → k ≡ Some (kind.Typed t)
    → IsMember kernel k f m → ⊥
not_typed kernel k f m t is of_group = subst (λ (o : Option Known). IsMember kernel o f m) is of_group

pub member_told : (kernel : Kernel) (k : Option Known) (f : FunId) (c : code.Member) (m : Member) (σ : Substitution) (ks ls : List ℕ)
    (kept : Bool) → k ≡ Some (kind.Member c) → IsMember kernel k f m
    → Told kept ls (with_declared σ ks c.first c.arity c.captured c.declared) → Told kept ls (with_member σ ks m)
member_told kernel k f c m σ ks ls kept is of_group told =
    let same : member_of kernel f c ≡ m = subst (λ (o : Option Known). IsMember kernel o f m) is of_group in
    subst (λ (n : Member). Told kept ls (with_member σ ks n)) same told

-- a declared type

pub type_became : (σ : Substitution) (ks : List ℕ) (first arity captured x count : ℕ) (t : TypeExpr) (o : Option (List ℕ))
    → x ≡ first + arity + 1 → count ≡ breadth t → o ≡ became σ (numbers_from x count)
    → with_declared σ ks first arity captured (Some t) ≡ joined_if σ ks first captured o
type_became σ ks first arity captured x count t o here counted is =
    ap (joined_if σ ks first captured)
    (sym (ap (λ (y : ℕ). became σ (numbers_from y (breadth t))) here)
    ∙ sym (ap (λ (n : ℕ). became σ (numbers_from x n)) counted) ∙ sym is)

pub joined_met : (σ : Substitution) (ks : List ℕ) (first captured : ℕ) (ys : List ℕ) (met : Bool)
    → met ≡ some_meets σ ys (numbers_from first captured) → met ≡ true → joined_if σ ks first captured (Some ys) ≡ None
joined_met σ ks first captured ys met told so = ap (λ (b : Bool). cond b None (joined ks ys)) (sym told ∙ so)

pub joined_told : (σ : Substitution) (ks ls : List ℕ) (first captured : ℕ) (ys : List ℕ) (met kept : Bool)
    → met ≡ some_meets σ ys (numbers_from first captured) → met ≡ false → Told kept ls (joined ks ys)
    → Told kept ls (joined_if σ ks first captured (Some ys))
joined_told σ ks ls first captured ys met kept told not_so joins =
    subst (Told kept ls) (sym (ap (λ (b : Bool). cond b None (joined ks ys)) (sym told ∙ not_so))) joins
