-- How many type variables instances of types take, shape by shape.
use Rattle.std.proofs.Common.{◌≡◌, ℕ, zero, suc, ◌+◌, ◌<◌, ◌≤◌, List, [], ◌∷◌, ◌++◌, Some, length, map, max, take, get_or, slice_get, slice_index, refl, sym, ap, ◌∙◌, subst, arith}
use Rattle.std.proofs.lemmas.List.{map_more}
use Rattle.cu_kernel.specs.TypeExpr as type
use Rattle.cu_kernel.specs.TypeExpr.{TypeExpr, TypeExprs}
use Rattle.cu_kernel.specs.TypesOf.{type_list}
use Rattle.cu_types.proofs.Adding.{node_shape, node_within}
use Rattle.cu_types.proofs.TableLemmas.{mapped_length, trees-length, trees_fit}
use Rattle.cu_types.specs.Equations.{above, above_all, breadth}
use Rattle.cu_types.specs.Inside.Breadths.{shape_breadth, widest}
use Rattle.cu_types.specs.Numbered.{variables_in, variables_in_all}
use Rattle.cu_types.specs.Table as shape
use Rattle.cu_types.specs.Table.{IsFull, IsTable, MayStand, Shape, at, shape_of, tree_over, trees}
use Rattle.cu_types.specs.declared.node.Node.{Node}
use Rattle.cu_types.specs.declared.node.TypeHead.{TypeHead}
use Rattle.cu_types.specs.declared.node.TypeHead.TheVariants as head

pub above_most : (x bound : ℕ) → above x bound ≡ max (x + 1) bound
above_most x zero = omega arith
above_most zero (suc bound) = omega arith
above_most (suc x) (suc bound) = let rest = above_most x bound in omega arith

above_both : (xs ys : List ℕ) → above_all (xs ++ ys) ≡ max (above_all xs) (above_all ys)
above_both [] ys = omega arith
above_both (x ∷ xs) ys =
    let rest = above_both xs ys in
    let whole = above_most x (above_all (xs ++ ys)) in
    let first = above_most x (above_all xs) in
    omega (arith, rest, whole, first)

arguments_breadth : (tree : ℕ → TypeExpr) (ps : List ℕ)
    → above_all (variables_in_all (type_list (map tree ps))) ≡ widest (λ p. breadth (tree p)) ps
arguments_breadth tree [] = refl
arguments_breadth tree (p ∷ ps) =
    let rest = arguments_breadth tree ps in
    let both = above_both (variables_in (tree p)) (variables_in_all (type_list (map tree ps))) in
    both ∙ ap (max (breadth (tree p))) rest

applied_breadth : (tree : ℕ → TypeExpr) (h : TypeHead) (ps : List ℕ) → IsFull h (length ps)
    → breadth (tree_over tree (shape.Applied h ps)) ≡ widest (λ p. breadth (tree p)) ps
applied_breadth tree (head.Named name) ps full = arguments_breadth tree ps
applied_breadth tree head.Arrow (a ∷ b ∷ []) full =
    let both = above_both (variables_in (tree a)) (variables_in (tree b)) in
    let last : breadth (tree b) ≡ max (breadth (tree b)) 0 = omega arith in
    both ∙ ap (max (breadth (tree a))) last
applied_breadth tree head.Arrow [] full = absurd (omega arith)
applied_breadth tree head.Arrow (a ∷ []) full = absurd (omega arith)
applied_breadth tree head.Arrow (a ∷ b ∷ c ∷ ps) full = absurd (omega arith)

widest_same : (f g : ℕ → ℕ) (ps : List ℕ) → ((a k : ℕ) → slice_get ps k ≡ Some a → f a ≡ g a) → widest f ps ≡ widest g ps
widest_same f g [] same = refl
widest_same f g (p ∷ ps) same =
    ap (λ n. max n (widest f ps)) (same p 0 refl) ∙ ap (max (g p)) (widest_same f g ps (λ a k e. same a (suc k) e))

shape_is : (n : ℕ) (tree : ℕ → TypeExpr) (f : ℕ → ℕ) (s : Shape) → MayStand n s → ((a : ℕ) → a < n → f a ≡ breadth (tree a))
    → shape_breadth f s ≡ breadth (tree_over tree s)
shape_is n tree f (shape.Variable x) may same = refl
shape_is n tree f (shape.Applied h ps) may same =
    widest_same f (λ p. breadth (tree p)) ps (λ a k e. same a (may.1 a k e)) ∙ sym (applied_breadth tree h ps may.0)

mapped_index : (g : TypeExpr → ℕ) (ts : List TypeExpr) (i a : ℕ) → a < i → a < length ts → slice_index (map g (take i ts)) a ≡ g (at ts a)
mapped_index g ts zero a lt within = absurd (omega arith)
mapped_index g [] (suc i) a lt within = absurd (omega arith)
mapped_index g (t ∷ ts) (suc i) zero lt within = refl
mapped_index g (t ∷ ts) (suc i) (suc a) lt within = mapped_index g ts i a (omega arith) (omega arith)

mapped_count : (g : TypeExpr → ℕ) (ts : List TypeExpr) (i : ℕ) → i ≤ length ts → length (map g (take i ts)) ≡ i
mapped_count g [] zero few = refl
mapped_count g (t ∷ ts) zero few = refl
mapped_count g [] (suc i) few = absurd (omega arith)
mapped_count g (t ∷ ts) (suc i) few = ap suc (mapped_count g ts i (omega arith))

-- the breadths so far are as many as the nodes so far
pub breadths_may : (nodes : List Node) (i : ℕ) (x : Node) (bs : List ℕ) → IsTable (map shape_of nodes) → i < length nodes
    → x ≡ get_or nodes i x → bs ≡ map breadth (take i (trees (map shape_of nodes))) → MayStand (length bs) (shape_of x)
breadths_may nodes i x bs table within is e =
    let sized = node_within nodes i within in
    let count : length bs ≡ i = ap length e ∙ mapped_count breadth (trees (map shape_of nodes)) i (omega arith) in
    subst (λ (n : ℕ). MayStand n (shape_of x)) (sym count) (table.stand i (shape_of x) (node_shape nodes i x within is))

pub arguments_below : (n : ℕ) (s : Shape) → MayStand n s → (k a : ℕ) → slice_get (shape.places s) k ≡ Some a → a < n
arguments_below n (shape.Variable x) may k a e = let no : ⊥ = cc in absurd no
arguments_below n (shape.Applied h ps) may k a e = may.1 a k e

-- one more breadth
pub breadth_more : (nodes : List Node) (i : ℕ) (x : Node) (sliced bs cs : List ℕ) (count : ℕ) → IsTable (map shape_of nodes)
    → i < length nodes → x ≡ get_or nodes i x → sliced ≡ bs → bs ≡ map breadth (take i (trees (map shape_of nodes)))
    → count ≡ shape_breadth (slice_index sliced) (shape_of x) → cs ≡ bs ++ count ∷ []
    → cs ≡ map breadth (take (i + 1) (trees (map shape_of nodes)))
breadth_more nodes i x sliced bs cs count table within is same before counted pushed =
    let sized = node_within nodes i within in
    let T : List TypeExpr = trees (map shape_of nodes) in
    let one : count ≡ breadth (at T i) =
    counted ∙ ap (λ (xs : List ℕ). shape_breadth (slice_index xs) (shape_of x)) (same ∙ before)
    ∙ shape_is i (at T) (slice_index (map breadth (take i T))) (shape_of x) (table.stand i (shape_of x) (node_shape nodes i x within is))
    (λ a lt. mapped_index breadth T i a lt (omega arith))
    ∙ ap breadth (sym (trees_fit (map shape_of nodes) i (shape_of x) table (node_shape nodes i x within is))) in
    pushed ∙ ap (λ (xs : List ℕ). xs ++ count ∷ []) before
    ∙ ap (λ (n : ℕ). map breadth (take i T) ++ n ∷ []) one
    ∙ sym (map_more breadth T i (type.Variable 0) sized)

all_mapped : (g : TypeExpr → ℕ) (n : ℕ) (ts : List TypeExpr) → length ts ≤ n → map g (take n ts) ≡ map g ts
all_mapped g zero [] few = refl
all_mapped g zero (t ∷ ts) few = absurd (omega arith)
all_mapped g (suc n) [] few = refl
all_mapped g (suc n) (t ∷ ts) few = ap (λ (us : List ℕ). g t ∷ us) (all_mapped g n ts (omega arith))

index_mapped : (g : TypeExpr → ℕ) (ts : List TypeExpr) (k : ℕ) → k < length ts → slice_index (map g ts) k ≡ g (at ts k)
index_mapped g [] k lt = absurd (omega arith)
index_mapped g (t ∷ ts) zero lt = refl
index_mapped g (t ∷ ts) (suc k) lt = index_mapped g ts k (omega arith)

pub breadths_sized : (nodes : List Node) (n : ℕ) (bs : List ℕ) → length nodes ≤ n → bs ≡ map breadth (take n (trees (map shape_of nodes)))
    → length bs ≡ length (map shape_of nodes)
breadths_sized nodes n bs few is =
    let a = trees-length (map shape_of nodes) in let b = mapped_length shape_of nodes in
    ap length is ∙ ap length (all_mapped breadth n (trees (map shape_of nodes)) (omega arith)) ∙ mapped_length breadth (trees (map shape_of nodes)) ∙ a

-- the one that is asked for
pub breadth_found : (nodes : List Node) (n : ℕ) (bs : List ℕ) (k : ℕ) (t : TypeExpr) → length nodes ≤ n
    → bs ≡ map breadth (take n (trees (map shape_of nodes))) → k < length (map shape_of nodes) → at (trees (map shape_of nodes)) k ≡ t
    → slice_index bs k ≡ breadth t
breadth_found nodes n bs k t few is within value =
    let a = trees-length (map shape_of nodes) in let b = mapped_length shape_of nodes in
    ap (λ (xs : List ℕ). slice_index xs k) (is ∙ all_mapped breadth n (trees (map shape_of nodes)) (omega arith))
    ∙ index_mapped breadth (trees (map shape_of nodes)) k (omega arith) ∙ ap breadth value
