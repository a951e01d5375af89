-- Types that are added to the table of a solution.
use Rattle.std.proofs.Common.{◌≡◌, ℕ, zero, suc, ◌+◌, ◌-◌, ◌<◌, ◌≤◌, List, [], ◌∷◌, ◌++◌, Option, None, Some, length, map, slice_get, refl, sym, ap, ◌∙◌, subst, arith, append_assoc}
use mathlib.Core.Path.{fun_ext}
use Rattle.std.specs.declared.alloc.Global.{Global}
use Rattle.std.specs.declared.vec.Vec.{Vec}
use Rattle.cu_kernel.specs.TypeExpr as type
use Rattle.cu_kernel.specs.TypeExpr.{TypeExpr}
use Rattle.cu_types.proofs.ReadTypes.{reads_pushed}
use Rattle.cu_types.proofs.Unfolding.{kept_tree, longer, no_more}
use Rattle.cu_types.proofs.Walks.{table_pushed}
use Rattle.cu_types.specs.BuiltInTypes.{arrows, variables_from}
use Rattle.cu_types.specs.Inside.Growing.{Grows}
use Rattle.cu_types.specs.Inside.Reading.{Reads}
use Rattle.cu_types.specs.Meaning.{HasPlaces, place_in, subst_of, type_at, types_of_subst}
use Rattle.cu_types.specs.Table as shape
use Rattle.cu_types.specs.Table.{IsTable, MayStand, Shape, at, built, shape_of, tree_over, trees}
use Rattle.cu_types.specs.Types.{Substitution, apply}
use Rattle.cu_types.specs.declared.node.Node.{Node}
use Rattle.cu_types.specs.declared.node.TypeHead.TheVariants as head
use Rattle.cu_types.specs.declared.unification.Subst.{Subst}

-- a variable's type in a table that grew
type_at_kept : (ss now more : List Shape) (x : ℕ) (o : Option ℕ) → now ≡ ss ++ more → ((p : ℕ) → o ≡ Some p → p < length ss)
    → type_at now x o ≡ type_at ss x o
type_at_kept ss now more x None is within = refl
type_at_kept ss now more x (Some p) is within = kept_tree ss now more p is (within p refl)

-- one more type
pub grows_pushed : (before : Subst) (types : Vec Node Global) (s : Shape) (place : ℕ) → IsTable (types_of_subst before)
    → HasPlaces before → MayStand (length (types_of_subst before)) s → map shape_of types.items ≡ types_of_subst before ++ s ∷ []
    → place ≡ length (types_of_subst before)
    → Grows before (record { variables = before.variables; places = before.places; types = types })
    (tree_over (at (trees (types_of_subst before))) s) place
grows_pushed before types s place table places may is here =
    let ss : List Shape = types_of_subst before in
    let now : List Shape = map shape_of types.items in
    let reads : Reads ss now (tree_over (at (trees ss)) s) place = reads_pushed ss now s (tree_over (at (trees ss)) s) place is here refl in
    let long : length ss ≤ length now = longer ss now (s ∷ []) is in
    record {
      table = subst IsTable (sym is) (table_pushed ss s table may);
      places = λ x p e. let inside : p < length ss = places x p e in omega arith;
      more = s ∷ [];
      extends = is;
      same = λ x. type_at_kept ss now (s ∷ []) x (place_in before x) is (λ p e. places x p e);
      within = reads.within;
      value = reads.value;
    }

-- nothing is added
pub grows_none : (s : Subst) (place : ℕ) → IsTable (types_of_subst s) → HasPlaces s → place < length (types_of_subst s)
    → Grows s s (at (trees (types_of_subst s)) place) place
grows_none s place table places within = record {
  table = table;
  places = places;
  more = [];
  extends = no_more (types_of_subst s);
  same = λ x. refl;
  within = within;
  value = refl;
}

-- a variable that has a type
pub grows_known : (s : Subst) (x p : ℕ) → IsTable (types_of_subst s) → HasPlaces s → place_in s x ≡ Some p
    → Grows s s (subst_of s x) p
grows_known s x p table places is = record {
  table = table;
  places = places;
  more = [];
  extends = no_more (types_of_subst s);
  same = λ y. refl;
  within = places x p is;
  value = sym (ap (type_at (types_of_subst s) x) is);
}

-- a variable that stands for itself
pub grows_unknown : (a b : Subst) (x p : ℕ) → place_in a x ≡ None → Grows a b (type.Variable x) p → Grows a b (subst_of a x) p
grows_unknown a b x p is grows =
    subst (λ (t : TypeExpr). Grows a b t p) (sym (ap (type_at (types_of_subst a) x) is)) grows

-- one addition after another
pub grows_then : (a b c : Subst) (t u : TypeExpr) (l r : ℕ) → Grows a b t l → Grows b c u r → Grows a c u r
grows_then a b c t u l r first second = record {
  table = second.table;
  places = second.places;
  more = first.more ++ second.more;
  extends = second.extends ∙ ap (λ (xs : List Shape). xs ++ second.more) first.extends
      ∙ append_assoc (types_of_subst a) first.more second.more;
  same = λ x. second.same x ∙ first.same x;
  within = second.within;
  value = second.value;
}

pub grows_as : (a b : Subst) (t u : TypeExpr) (r : ℕ) → t ≡ u → Grows a b t r → Grows a b u r
grows_as a b t u r same grows = subst (λ (v : TypeExpr). Grows a b v r) same grows

-- what stood before stands there still
pub grown_within : (a b : Subst) (t : TypeExpr) (l k : ℕ) → Grows a b t l → k < length (types_of_subst a) → k < length (types_of_subst b)
grown_within a b t l k grows within =
    let long : length (types_of_subst a) ≤ length (types_of_subst b) = longer (types_of_subst a) (types_of_subst b) grows.more grows.extends in
    omega arith

grown_value : (a b : Subst) (t : TypeExpr) (l k : ℕ) → Grows a b t l → k < length (types_of_subst a)
    → at (trees (types_of_subst b)) k ≡ at (trees (types_of_subst a)) k
grown_value a b t l k grows within = kept_tree (types_of_subst a) (types_of_subst b) grows.more k grows.extends within

-- a function type
two_within : (n left right a k : ℕ) → left < n → right < n → slice_get (left ∷ right ∷ []) k ≡ Some a → a < n
two_within n left right a zero l r e = let same : left ≡ a = cc in omega (arith, same, l)
two_within n left right a (suc zero) l r e = let same : right ≡ a = cc in omega (arith, same, r)
two_within n left right a (suc (suc k)) l r e = let no : ⊥ = cc in absurd no

pub arrow_may : (n left right : ℕ) (items : List ℕ) → items ≡ left ∷ right ∷ [] → left < n → right < n
    → MayStand n (shape.Applied head.Arrow items)
arrow_may n left right items is l r =
    subst (λ (ps : List ℕ). MayStand n (shape.Applied head.Arrow ps)) (sym is) (refl, (λ a k e. two_within n left right a k l r e))

pub arrow_tree : (f : ℕ → TypeExpr) (left right : ℕ) (items : List ℕ) → items ≡ left ∷ right ∷ []
    → tree_over f (shape.Applied head.Arrow items) ≡ type.Arrow (f left) (f right)
arrow_tree f left right items is = ap (λ (ps : List ℕ). built head.Arrow (map f ps)) is

pub grows_taking : (a b c : Subst) (t : TypeExpr) (l k r : ℕ) → Grows a b t l → k < length (types_of_subst a)
    → Grows b c (type.Arrow (at (trees (types_of_subst b)) l) (at (trees (types_of_subst b)) k)) r
    → Grows a c (type.Arrow t (at (trees (types_of_subst a)) k)) r
grows_taking a b c t l k r first within second =
    grows_as a c (type.Arrow (at (trees (types_of_subst b)) l) (at (trees (types_of_subst b)) k))
    (type.Arrow t (at (trees (types_of_subst a)) k)) r
    (ap (λ (u : TypeExpr). type.Arrow u (at (trees (types_of_subst b)) k)) first.value
    ∙ ap (type.Arrow t) (grown_value a b t l k first within))
    (grows_then a b c t (type.Arrow (at (trees (types_of_subst b)) l) (at (trees (types_of_subst b)) k)) l r first second)

-- functions of the types of variables, one after another
abbrev taken : Substitution → ℕ → ℕ → TypeExpr → TypeExpr
taken σ first count base = arrows (map (apply σ) (variables_from first count)) base

more_taken : (σ : Substitution) (first left before count : ℕ) (base : TypeExpr) → left ≡ before + 1 → left ≤ count
    → type.Arrow (σ (first + before)) (taken σ (first + left) (count - left) base) ≡ taken σ (first + before) (count - before) base
more_taken σ first left before count base is few =
    let next : first + left ≡ first + before + 1 = omega arith in
    let more : count - before ≡ suc (count - left) = omega arith in
    ap (λ (x : ℕ). type.Arrow (σ (first + before)) (taken σ x (count - left) base)) next
    ∙ sym (ap (λ (n : ℕ). taken σ (first + before) n base) more)

pub taken_start : (a : Subst) (first count place : ℕ) → IsTable (types_of_subst a) → HasPlaces a → place < length (types_of_subst a)
    → Grows a a (arrows (map (apply (subst_of a)) (variables_from (first + count) (count - count))) (at (trees (types_of_subst a)) place)) place
taken_start a first count place table places within =
    let none : count - count ≡ 0 = omega arith in
    subst (λ (n : ℕ). Grows a a (taken (subst_of a) (first + count) n (at (trees (types_of_subst a)) place)) place) (sym none)
    (grows_none a place table places within)

pub taken_step : (a b c : Subst) (first left before count : ℕ) (base : TypeExpr) (whole r : ℕ) → left ≡ before + 1 → left ≤ count
    → Grows a b (arrows (map (apply (subst_of a)) (variables_from (first + left) (count - left))) base) whole
    → Grows b c (type.Arrow (subst_of b (first + before)) (at (trees (types_of_subst b)) whole)) r
    → Grows a c (arrows (map (apply (subst_of a)) (variables_from (first + before) (count - before))) base) r
taken_step a b c first left before count base whole r is few done more =
    grows_as a c (type.Arrow (subst_of b (first + before)) (at (trees (types_of_subst b)) whole))
    (taken (subst_of a) (first + before) (count - before) base) r
    (ap (λ (u : TypeExpr). type.Arrow u (at (trees (types_of_subst b)) whole)) (done.same (first + before))
    ∙ ap (type.Arrow (subst_of a (first + before))) done.value
    ∙ more_taken (subst_of a) first left before count base is few)
    (grows_then a b c (taken (subst_of a) (first + left) (count - left) base)
    (type.Arrow (subst_of b (first + before)) (at (trees (types_of_subst b)) whole)) whole r done more)

pub taken_end : (a b : Subst) (first left count whole : ℕ) (base : TypeExpr) → left ≡ 0
    → Grows a b (arrows (map (apply (subst_of a)) (variables_from (first + left) (count - left))) base) whole
    → Grows a b (arrows (map (apply (subst_of a)) (variables_from first count)) base) whole
taken_end a b first left count whole base is done =
    let here : first + left ≡ first = omega arith in
    let all : count - left ≡ count = omega arith in
    subst (λ (x : ℕ). Grows a b (taken (subst_of a) x count base) whole) here
    (subst (λ (n : ℕ). Grows a b (taken (subst_of a) (first + left) n base) whole) all done)

-- a substitution of functions
pub applied_arrows : (σ : Substitution) (ts : List TypeExpr) (t : TypeExpr) → apply σ (arrows ts t) ≡ arrows (map (apply σ) ts) (apply σ t)
applied_arrows σ [] t = refl
applied_arrows σ (u ∷ ts) t = ap (type.Arrow (apply σ u)) (applied_arrows σ ts t)

pub function_grows : (a b c : Subst) (first arity last l r : ℕ) → last ≡ first + arity → Grows a b (subst_of a last) l
    → Grows b c (arrows (map (apply (subst_of b)) (variables_from first arity)) (at (trees (types_of_subst b)) l)) r
    → Grows a c (apply (subst_of a) (arrows (variables_from first arity) (type.Variable (first + arity)))) r
function_grows a b c first arity last l r is result done =
    let one : subst_of b ≡ subst_of a = fun_ext result.same in
    grows_as a c (arrows (map (apply (subst_of b)) (variables_from first arity)) (at (trees (types_of_subst b)) l))
    (apply (subst_of a) (arrows (variables_from first arity) (type.Variable (first + arity)))) r
    (ap (λ (σ : Substitution). taken σ first arity (at (trees (types_of_subst b)) l)) one
    ∙ ap (taken (subst_of a) first arity) (result.value ∙ ap (subst_of a) is)
    ∙ sym (applied_arrows (subst_of a) (variables_from first arity) (type.Variable (first + arity))))
    (grows_then a b c (subst_of a last) (arrows (map (apply (subst_of b)) (variables_from first arity)) (at (trees (types_of_subst b)) l))
    l r result done)
