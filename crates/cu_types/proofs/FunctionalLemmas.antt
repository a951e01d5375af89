-- Whether function types stand in the types of a table.
use Rattle.std.proofs.Common.{◌≡◌, ℕ, zero, suc, ◌+◌, ◌<◌, ◌≤◌, Bool, true, false, ◌||◌, List, [], ◌∷◌, ◌++◌, Option, Some, drop, length, map, take, get_or, slice_get, slice_index_or, refl, sym, ap, ◌∙◌, subst, arith}
use Rattle.std.proofs.lemmas.List.{drop_more, map_more}
use Rattle.std.specs.List.{list_any}
use Rattle.std.specs.declared.alloc.Global.{Global}
use Rattle.std.specs.declared.vec.Vec.{Vec}
use Rattle.cu_kernel.specs.Kernel.{Goal}
use Rattle.cu_kernel.specs.TypeExpr as type
use Rattle.cu_kernel.specs.TypeExpr.{TypeExpr, TypeExprs}
use Rattle.cu_kernel.specs.TypesOf.{type_list}
use Rattle.cu_kernel.specs.declared.type_term.TypeName.{TypeName}
use Rattle.cu_types.proofs.KnownLemmas.{past_default}
use Rattle.cu_types.proofs.RuleLemmas.{past_end}
use Rattle.cu_types.proofs.Adding.{node_shape, node_within}
use Rattle.cu_types.proofs.TableLemmas.{mapped_length, trees-length, trees_fit}
use Rattle.cu_types.specs.Inference.{holds_function, is_functional, some_hold_function, takes_function}
use Rattle.cu_types.specs.Inside.Inferring.{pair_top, shape_holds, top_of}
use Rattle.cu_types.specs.Table as shape
use Rattle.cu_types.specs.Table.{IsFull, IsTable, MayStand, Shape, at, shape_of, tree_over, trees}
use Rattle.cu_types.specs.declared.functional.Top.TheVariants as top
use Rattle.cu_types.specs.declared.node.Node.{Node}
use Rattle.cu_types.specs.declared.node.Node.TheVariants as node
use Rattle.cu_types.specs.declared.node.TypeHead.{TypeHead}
use Rattle.cu_types.specs.declared.node.TypeHead.TheVariants as head

holds_listed : (tree : ℕ → TypeExpr) (ps : List ℕ) → some_hold_function (type_list (map tree ps)) ≡ list_any (λ p. holds_function (tree p)) ps
holds_listed tree [] = refl
holds_listed tree (p ∷ ps) = ap (λ (b : Bool). holds_function (tree p) || b) (holds_listed tree ps)

applied_holds : (tree : ℕ → TypeExpr) (h : TypeHead) (ps : List ℕ) → IsFull h (length ps)
    → holds_function (tree_over tree (shape.Applied h ps)) ≡ shape_holds (λ p. holds_function (tree p)) (shape.Applied h ps)
applied_holds tree (head.Named name) ps full = holds_listed tree ps
applied_holds tree head.Arrow (a ∷ b ∷ []) full = refl
applied_holds tree head.Arrow [] full = absurd (omega arith)
applied_holds tree head.Arrow (a ∷ []) full = absurd (omega arith)
applied_holds tree head.Arrow (a ∷ b ∷ c ∷ ps) full = absurd (omega arith)

any_same : (f g : ℕ → Bool) (ps : List ℕ) → ((a k : ℕ) → slice_get ps k ≡ Some a → f a ≡ g a) → list_any f ps ≡ list_any g ps
any_same f g [] same = refl
any_same f g (p ∷ ps) same =
    ap (λ (b : Bool). b || list_any f ps) (same p 0 refl)
    ∙ ap (λ (b : Bool). g p || b) (any_same f g ps (λ a k e. same a (suc k) e))

shape_is : (n : ℕ) (tree : ℕ → TypeExpr) (f : ℕ → Bool) (s : Shape) → MayStand n s → ((a : ℕ) → a < n → f a ≡ holds_function (tree a))
    → shape_holds f s ≡ holds_function (tree_over tree s)
shape_is n tree f (shape.Variable x) may same = refl
shape_is n tree f (shape.Applied (head.Named name) ps) may same =
    any_same f (λ p. holds_function (tree p)) ps (λ a k e. same a (may.1 a k e)) ∙ sym (applied_holds tree (head.Named name) ps may.0)
shape_is n tree f (shape.Applied head.Arrow ps) may same = sym (applied_holds tree head.Arrow ps may.0)

mapped_index : (ts : List TypeExpr) (i a : ℕ) → a < i → a < length ts
    → slice_index_or (map holds_function (take i ts)) a false ≡ holds_function (at ts a)
mapped_index ts zero a lt within = absurd (omega arith)
mapped_index [] (suc i) a lt within = absurd (omega arith)
mapped_index (t ∷ ts) (suc i) zero lt within = refl
mapped_index (t ∷ ts) (suc i) (suc a) lt within = mapped_index ts i a (omega arith) (omega arith)

mapped_count : (ts : List TypeExpr) (i : ℕ) → i ≤ length ts → length (map holds_function (take i ts)) ≡ i
mapped_count [] zero few = refl
mapped_count (t ∷ ts) zero few = refl
mapped_count [] (suc i) few = absurd (omega arith)
mapped_count (t ∷ ts) (suc i) few = ap suc (mapped_count ts i (omega arith))

-- the shape of a node, by its head
pub named_holds : (f : ℕ → Bool) (x : Node) (h : TypeHead) (ps : Vec ℕ Global) (name : TypeName) → x ≡ node.Applied h ps → h ≡ head.Named name
    → list_any f ps.items ≡ shape_holds f (shape_of x)
named_holds f x h ps name is at_head =
    sym (ap (λ (y : Node). shape_holds f (shape_of y)) is ∙ ap (λ (g : TypeHead). shape_holds f (shape.Applied g ps.items)) at_head)

pub arrow_holds : (f : ℕ → Bool) (x : Node) (h : TypeHead) (ps : Vec ℕ Global) → x ≡ node.Applied h ps → h ≡ head.Arrow
    → true ≡ shape_holds f (shape_of x)
arrow_holds f x h ps is at_head =
    sym (ap (λ (y : Node). shape_holds f (shape_of y)) is ∙ ap (λ (g : TypeHead). shape_holds f (shape.Applied g ps.items)) at_head)

pub named_top : (x : Node) (h : TypeHead) (ps : Vec ℕ Global) (name : TypeName) → x ≡ node.Applied h ps → h ≡ head.Named name
    → top.Other ≡ top_of (shape_of x)
named_top x h ps name is at_head =
    sym (ap (λ (y : Node). top_of (shape_of y)) is ∙ ap (λ (g : TypeHead). top_of (shape.Applied g ps.items)) at_head)

pub arrow_top : (x : Node) (h : TypeHead) (ps : Vec ℕ Global) → x ≡ node.Applied h ps → h ≡ head.Arrow → pair_top ps.items ≡ top_of (shape_of x)
arrow_top x h ps is at_head =
    sym (ap (λ (y : Node). top_of (shape_of y)) is ∙ ap (λ (g : TypeHead). top_of (shape.Applied g ps.items)) at_head)

-- as many are known as nodes so far
pub holds_may : (nodes : List Node) (i : ℕ) (x : Node) (bs : List Bool) → IsTable (map shape_of nodes) → i < length nodes
    → x ≡ get_or nodes i x → bs ≡ map holds_function (take i (trees (map shape_of nodes))) → MayStand (length bs) (shape_of x)
holds_may nodes i x bs table within is e =
    let sized = node_within nodes i within in
    let count : length bs ≡ i = ap length e ∙ mapped_count (trees (map shape_of nodes)) i (omega arith) in
    subst (λ (n : ℕ). MayStand n (shape_of x)) (sym count) (table.stand i (shape_of x) (node_shape nodes i x within is))

-- one more node
pub holds_more : (nodes : List Node) (i : ℕ) (x : Node) (sliced bs cs : List Bool) (own : Bool) → IsTable (map shape_of nodes)
    → i < length nodes → x ≡ get_or nodes i x → sliced ≡ bs → bs ≡ map holds_function (take i (trees (map shape_of nodes)))
    → own ≡ shape_holds (λ a. slice_index_or sliced a false) (shape_of x) → cs ≡ bs ++ own ∷ []
    → cs ≡ map holds_function (take (i + 1) (trees (map shape_of nodes)))
holds_more nodes i x sliced bs cs own table within is same before counted pushed =
    let sized = node_within nodes i within in
    let T : List TypeExpr = trees (map shape_of nodes) in
    let one : own ≡ holds_function (at T i) =
    counted ∙ ap (λ (xs : List Bool). shape_holds (λ a. slice_index_or xs a false) (shape_of x)) (same ∙ before)
    ∙ shape_is i (at T) (λ a. slice_index_or (map holds_function (take i T)) a false) (shape_of x)
    (table.stand i (shape_of x) (node_shape nodes i x within is)) (λ a lt. mapped_index T i a lt (omega arith))
    ∙ ap holds_function (sym (trees_fit (map shape_of nodes) i (shape_of x) table (node_shape nodes i x within is))) in
    pushed ∙ ap (λ (xs : List Bool). xs ++ own ∷ []) before
    ∙ ap (λ (b : Bool). map holds_function (take i T) ++ b ∷ []) one
    ∙ sym (map_more holds_function T i (type.Variable 0) sized)

all_mapped : (n : ℕ) (ts : List TypeExpr) → length ts ≤ n → map holds_function (take n ts) ≡ map holds_function ts
all_mapped zero [] few = refl
all_mapped zero (t ∷ ts) few = absurd (omega arith)
all_mapped (suc n) [] few = refl
all_mapped (suc n) (t ∷ ts) few = ap (λ (us : List Bool). holds_function t ∷ us) (all_mapped n ts (omega arith))

pub holds_all : (nodes : List Node) (n : ℕ) (bs : List Bool) → length nodes ≤ n
    → bs ≡ map holds_function (take n (trees (map shape_of nodes))) → bs ≡ map holds_function (trees (map shape_of nodes))
holds_all nodes n bs few is =
    let a = trees-length (map shape_of nodes) in let b = mapped_length shape_of nodes in
    is ∙ all_mapped n (trees (map shape_of nodes)) (omega arith)

pub holds_sized : (nodes : List Node) (bs : List Bool) → bs ≡ map holds_function (trees (map shape_of nodes)) → length bs ≡ length nodes
holds_sized nodes bs is =
    ap length is ∙ mapped_length holds_function (trees (map shape_of nodes)) ∙ trees-length (map shape_of nodes) ∙ mapped_length shape_of nodes

-- ---- down the functions

index_mapped : (ts : List TypeExpr) (k : ℕ) → k < length ts → slice_index_or (map holds_function ts) k false ≡ holds_function (at ts k)
index_mapped [] k lt = absurd (omega arith)
index_mapped (t ∷ ts) zero lt = refl
index_mapped (t ∷ ts) (suc k) lt = index_mapped ts k (omega arith)

pub held_at : (nodes : List Node) (bs : List Bool) (k : ℕ) → bs ≡ map holds_function (trees (map shape_of nodes)) → k < length nodes
    → slice_index_or bs k false ≡ holds_function (at (trees (map shape_of nodes)) k)
held_at nodes bs k is within =
    let a = trees-length (map shape_of nodes) in let b = mapped_length shape_of nodes in
    ap (λ (xs : List Bool). slice_index_or xs k false) is ∙ index_mapped (trees (map shape_of nodes)) k (omega arith)

-- a function type of a table
pub record IsArrowAt (nodes : List Node) (place left right : ℕ) : Type 0 where
  pub left_within : left < length nodes
  pub right_within : right < length nodes
  pub value : at (trees (map shape_of nodes)) place ≡ type.Arrow (at (trees (map shape_of nodes)) left) (at (trees (map shape_of nodes)) right)

arrow_shape : (T : List TypeExpr) (n : ℕ) (s : Shape) (left right : ℕ) → MayStand n s → top_of s ≡ top.Arrow left right
    → (left < n) × (right < n) × (tree_over (at T) s ≡ type.Arrow (at T left) (at T right))
arrow_shape T n (shape.Variable x) left right may is = let no : ⊥ = cc in absurd no
arrow_shape T n (shape.Applied (head.Named name) ps) left right may is = let no : ⊥ = cc in absurd no
arrow_shape T n (shape.Applied head.Arrow []) left right may is = let no : ⊥ = cc in absurd no
arrow_shape T n (shape.Applied head.Arrow (a ∷ [])) left right may is = let no : ⊥ = cc in absurd no
arrow_shape T n (shape.Applied head.Arrow (a ∷ b ∷ c ∷ ps)) left right may is = let no : ⊥ = cc in absurd no
arrow_shape T n (shape.Applied head.Arrow (a ∷ b ∷ [])) left right may is =
    let one : a ≡ left = cc in
    let two : b ≡ right = cc in (
      subst (λ (x : ℕ). x < n) one (may.1 a 0 refl),
      subst (λ (x : ℕ). x < n) two (may.1 b 1 refl),
      ap (λ (x : ℕ). type.Arrow (at T x) (at T b)) one ∙ ap (λ (x : ℕ). type.Arrow (at T left) (at T x)) two,
    )

pub arrow_at : (nodes : List Node) (place left right : ℕ) (x : Node) → IsTable (map shape_of nodes) → place < length nodes
    → x ≡ get_or nodes place x → top.Arrow left right ≡ top_of (shape_of x) → IsArrowAt nodes place left right
arrow_at nodes place left right x table within is at_top =
    let found = node_shape nodes place x within is in
    let parts = arrow_shape (trees (map shape_of nodes)) place (shape_of x) left right (table.stand place (shape_of x) found) (sym at_top) in
    let l : left < place = parts.0 in
    let r : right < place = parts.1 in
    record {
      left_within = omega (arith, l, within);
      right_within = omega (arith, r, within);
      value = trees_fit (map shape_of nodes) place (shape_of x) table found ∙ parts.2;
    }

other_shape : (T : List TypeExpr) (n count : ℕ) (s : Shape) → MayStand n s → top_of s ≡ top.Other
    → takes_function (suc count) (tree_over (at T) s) ≡ false
other_shape T n count (shape.Variable x) may is = refl
other_shape T n count (shape.Applied (head.Named name) ps) may is = refl
other_shape T n count (shape.Applied head.Arrow []) may is = absurd (let no = may.0 in omega arith)
other_shape T n count (shape.Applied head.Arrow (a ∷ [])) may is = absurd (let no = may.0 in omega arith)
other_shape T n count (shape.Applied head.Arrow (a ∷ b ∷ c ∷ ps)) may is = absurd (let no = may.0 in omega arith)
other_shape T n count (shape.Applied head.Arrow (a ∷ b ∷ [])) may is = let no : ⊥ = cc in absurd no

pub other_at : (nodes : List Node) (place count : ℕ) (x : Node) → IsTable (map shape_of nodes) → place < length nodes
    → x ≡ get_or nodes place x → top.Other ≡ top_of (shape_of x)
    → takes_function (suc count) (at (trees (map shape_of nodes)) place) ≡ false
other_at nodes place count x table within is at_top =
    let found = node_shape nodes place x within is in
    ap (takes_function (suc count)) (trees_fit (map shape_of nodes) place (shape_of x) table found)
    ∙ other_shape (trees (map shape_of nodes)) place count (shape_of x) (table.stand place (shape_of x) found) (sym at_top)

-- a goal of which no type is known
pub takes_none : (count x : ℕ) → takes_function count (type.Variable x) ≡ false
takes_none zero x = refl
takes_none (suc count) x = refl

pub takes_down : (nodes : List Node) (bs : List Bool) (place left right count : ℕ) (b : Bool) → IsArrowAt nodes place left right
    → bs ≡ map holds_function (trees (map shape_of nodes)) → b ≡ slice_index_or bs left false → b ≡ false
    → takes_function (suc count) (at (trees (map shape_of nodes)) place) ≡ takes_function count (at (trees (map shape_of nodes)) right)
takes_down nodes bs place left right count b arrow is index no' =
    ap (takes_function (suc count)) arrow.value
    ∙ ap (λ (x : Bool). x || takes_function count (at (trees (map shape_of nodes)) right))
    (sym (held_at nodes bs left is arrow.left_within) ∙ sym index ∙ no')

pub takes_here : (nodes : List Node) (bs : List Bool) (place left right count : ℕ) (b : Bool) → IsArrowAt nodes place left right
    → bs ≡ map holds_function (trees (map shape_of nodes)) → b ≡ slice_index_or bs left false → b ≡ true
    → takes_function (suc count) (at (trees (map shape_of nodes)) place) ≡ true
takes_here nodes bs place left right count b arrow is index yes' =
    ap (takes_function (suc count)) arrow.value
    ∙ ap (λ (x : Bool). x || takes_function count (at (trees (map shape_of nodes)) right))
    (sym (held_at nodes bs left is arrow.left_within) ∙ sym index ∙ yes')

pub functional_none : (interface : List TypeExpr) (o : Option Goal) (g : Goal) → o ≡ Some g → length interface ≤ g.function.0
    → false ≡ is_functional interface o
functional_none interface o g is past =
    sym (ap (is_functional interface) is
    ∙ ap (takes_function (length g.names)) (past_default interface g.function.0 (type.Variable 0) past) ∙ takes_none (length g.names) 0)

-- ---- places one after another

pub any_more : (f : ℕ → Bool) (ps : List ℕ) (i : ℕ) (whole : Bool) → i < length ps → f (get_or ps i 0) ≡ false → list_any f (drop i ps) ≡ whole
    → list_any f (drop (i + 1) ps) ≡ whole
any_more f ps i whole inside no' before =
    sym (ap (list_any f) (drop_more ps i 0 inside) ∙ ap (λ (b : Bool). b || list_any f (drop (i + 1) ps)) no') ∙ before

pub any_now : (f : ℕ → Bool) (ps : List ℕ) (i : ℕ) (whole : Bool) → i < length ps → f (get_or ps i 0) ≡ true → list_any f (drop i ps) ≡ whole
    → true ≡ whole
any_now f ps i whole inside yes' before =
    sym (ap (list_any f) (drop_more ps i 0 inside) ∙ ap (λ (b : Bool). b || list_any f (drop (i + 1) ps)) yes') ∙ before

pub any_none : (f : ℕ → Bool) (ps : List ℕ) (i : ℕ) → length ps ≤ i → list_any f (drop i ps) ≡ list_any f ps → false ≡ list_any f ps
any_none f ps i past before = sym (ap (list_any f) (past_end ps i past)) ∙ before

-- ---- one step down a function type

pub takes_step : (nodes : List Node) (bs : List Bool) (place left right before count : ℕ) (whole : Bool) → IsArrowAt nodes place left right
    → bs ≡ map holds_function (trees (map shape_of nodes)) → before ≡ suc count → slice_index_or bs left false ≡ false
    → takes_function before (at (trees (map shape_of nodes)) place) ≡ whole → takes_function count (at (trees (map shape_of nodes)) right) ≡ whole
takes_step nodes bs place left right before count whole arrow is more no' same =
    sym (takes_down nodes bs place left right count (slice_index_or bs left false) arrow is refl no')
    ∙ sym (ap (λ (n : ℕ). takes_function n (at (trees (map shape_of nodes)) place)) more) ∙ same

pub takes_yes : (nodes : List Node) (bs : List Bool) (place left right before count : ℕ) (whole : Bool) → IsArrowAt nodes place left right
    → bs ≡ map holds_function (trees (map shape_of nodes)) → before ≡ suc count → slice_index_or bs left false ≡ true
    → takes_function before (at (trees (map shape_of nodes)) place) ≡ whole → true ≡ whole
takes_yes nodes bs place left right before count whole arrow is more yes' same =
    sym (takes_here nodes bs place left right count (slice_index_or bs left false) arrow is refl yes')
    ∙ sym (ap (λ (n : ℕ). takes_function n (at (trees (map shape_of nodes)) place)) more) ∙ same

pub takes_no : (nodes : List Node) (place before count : ℕ) (x : Node) (whole : Bool) → IsTable (map shape_of nodes) → place < length nodes
    → x ≡ get_or nodes place x → top.Other ≡ top_of (shape_of x) → before ≡ suc count
    → takes_function before (at (trees (map shape_of nodes)) place) ≡ whole → false ≡ whole
takes_no nodes place before count x whole table within is at_top more same =
    sym (other_at nodes place count x table within is at_top)
    ∙ sym (ap (λ (n : ℕ). takes_function n (at (trees (map shape_of nodes)) place)) more) ∙ same

-- no parameter is left
pub takes_end : (nodes : List Node) (bs : List Bool) (place left : ℕ) (whole : Bool) → bs ≡ map holds_function (trees (map shape_of nodes))
    → place < length nodes → left ≡ 0 → takes_function left (at (trees (map shape_of nodes)) place) ≡ whole
    → slice_index_or bs place false ≡ whole
takes_end nodes bs place left whole is within none same =
    held_at nodes bs place is within ∙ sym (ap (λ (n : ℕ). takes_function n (at (trees (map shape_of nodes)) place)) none) ∙ same
