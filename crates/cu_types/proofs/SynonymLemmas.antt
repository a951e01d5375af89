-- Types in which synonyms are expanded, in a table, and what synonyms stand for, round by round.
use Rattle.std.proofs.Common.{◌≡◌, ℕ, zero, suc, ◌+◌, ◌-◌, ◌<◌, ◌≤◌, List, [], ◌∷◌, ◌++◌, Some, length, map, take, get_or, slice_get, slice_index, slice_index_or, refl, sym, ap, ◌∙◌, subst, arith}
use Rattle.std.proofs.lemmas.List.{map_more}
use Rattle.std.proofs.lemmas.Option.{slice_get-get_or}
use Rattle.std.specs.declared.alloc.Global.{Global}
use Rattle.std.specs.declared.vec.Vec.{Vec}
use mathlib.Core.Path.{fun_ext}
use Rattle.cu_kernel.specs.Kernel.{Kernel, Synonym}
use Rattle.cu_kernel.specs.KernelOf.{synonym_meaning}
use Rattle.cu_kernel.specs.TypeExpr as type
use Rattle.cu_kernel.specs.TypeExpr.{TypeExpr}
use Rattle.cu_kernel.specs.TypesOf.{type_list}
use Rattle.cu_kernel.specs.declared.declarations.Synonym as code
use Rattle.cu_kernel.specs.declared.type_term.SynonymId.{SynonymId}
use Rattle.cu_kernel.specs.declared.type_term.TypeId.{TypeId}
use Rattle.cu_kernel.specs.declared.type_term.TypeName.{TypeName}
use Rattle.cu_kernel.specs.declared.type_term.TypeName.TheVariants as name
use Rattle.cu_types.proofs.Adding.{all_read_more, node_known, node_may, node_types, none_read}
use Rattle.cu_types.proofs.TableLemmas.{listed_again, map_same, mapped_length, mapped_twice, trees-length}
use Rattle.cu_types.specs.Inside.Expanding.{HasArguments, IsVariable, head_expanded, name_expanded, shape_expanded}
use Rattle.cu_types.specs.Inside.Reading.{AllRead, Reads}
use Rattle.cu_types.specs.Synonyms.{all_expanded_by, bodies, body_of, expanded_by, for_parameters}
use Rattle.cu_types.specs.Table as shape
use Rattle.cu_types.specs.Table.{IsFull, IsTable, MayStand, Shape, at, built, shape_of, tree_over, trees}
use Rattle.cu_types.specs.Types.{apply, listed}
use Rattle.cu_types.specs.declared.node.Node.{Node}
use Rattle.cu_types.specs.declared.node.Node.TheVariants as node
use Rattle.cu_types.specs.declared.node.TypeHead.{TypeHead}
use Rattle.cu_types.specs.declared.node.TypeHead.TheVariants as head

-- expanding a shape

all_expanded : (body : ℕ → TypeExpr) (ts : List TypeExpr)
    → all_expanded_by body (type_list ts) ≡ type_list (map (expanded_by body) ts)
all_expanded body [] = refl
all_expanded body (t ∷ ts) = ap (type.MoreTypes (expanded_by body t)) (all_expanded body ts)

name_built : (body : ℕ → TypeExpr) (n : TypeName) (ts : List TypeExpr)
    → expanded_by body (type.Named n (type_list ts)) ≡ name_expanded body n (map (expanded_by body) ts)
name_built body (name.Data t) ts = ap (type.Named (name.Data t)) (all_expanded body ts)
name_built body (name.Synonym s) ts =
    ap (λ (us : List TypeExpr). apply (for_parameters us) (body s.0))
    (ap listed (all_expanded body ts) ∙ listed_again (map (expanded_by body) ts))

head_built : (body : ℕ → TypeExpr) (h : TypeHead) (ts : List TypeExpr) → IsFull h (length ts)
    → expanded_by body (built h ts) ≡ head_expanded body h (map (expanded_by body) ts)
head_built body (head.Named n) ts full = name_built body n ts
head_built body head.Arrow (a ∷ b ∷ []) full = refl
head_built body head.Arrow [] full = absurd (omega arith)
head_built body head.Arrow (a ∷ []) full = absurd (omega arith)
head_built body head.Arrow (a ∷ b ∷ c ∷ ts) full = absurd (omega arith)

shape_built : (body : ℕ → TypeExpr) (n : ℕ) (s : Shape) (tree found : ℕ → TypeExpr) → MayStand n s
    → ((a : ℕ) → a < n → found a ≡ expanded_by body (tree a))
    → shape_expanded body found s ≡ expanded_by body (tree_over tree s)
shape_built body n (shape.Variable x) tree found may are = refl
shape_built body n (shape.Applied h ps) tree found may are =
    ap (head_expanded body h)
    (map_same found (λ a. expanded_by body (tree a)) ps (λ a k e. are a (may.1 a k e))
    ∙ sym (mapped_twice (expanded_by body) tree ps))
    ∙ sym (head_built body h (map tree ps) (subst (IsFull h) (sym (mapped_length tree ps)) may.0))

mapped_within : (places arguments : List ℕ) (n : ℕ) → ((k a : ℕ) → slice_get arguments k ≡ Some a → a < length places)
    → ((k p : ℕ) → slice_get places k ≡ Some p → p < n) → (k a : ℕ)
    → slice_get (map (λ b. slice_index places b) arguments) k ≡ Some a → a < n
mapped_within places [] n below within k a e = let none : ⊥ = cc in absurd none
mapped_within places (b ∷ bs) n below within zero a e =
    let same : slice_index places b ≡ a = cc in
    subst (λ (p : ℕ). p < n) same (within b (slice_index places b) (slice_get-get_or places b 0 (below 0 b refl)))
mapped_within places (b ∷ bs) n below within (suc k) a e =
    mapped_within places bs n (λ j c f. below (suc j) c f) within k a e

-- one more type of a table was expanded
pub expanded_more : (before mid after : List Shape) (nodes : List Node) (body : ℕ → TypeExpr) (i : ℕ) (x : Node) (ps qs : List ℕ)
    (place : ℕ) → IsTable (map shape_of nodes) → i < length nodes → x ≡ slice_index_or nodes i x → qs ≡ ps ++ place ∷ []
    → AllRead before mid (map (expanded_by body) (take i (trees (map shape_of nodes)))) ps
    → Reads mid after (shape_expanded body (λ a. at (trees mid) (slice_index ps a)) (shape_of x)) place
    → AllRead before after (map (expanded_by body) (take (i + 1) (trees (map shape_of nodes)))) qs
expanded_more before mid after nodes body i x ps qs place table within is pushed all one =
    all_read_more before mid after (map (expanded_by body) (take i (trees (map shape_of nodes))))
    (map (expanded_by body) (take (i + 1) (trees (map shape_of nodes))))
    (expanded_by body (tree_over (at (trees (map shape_of nodes))) (shape_of x))) ps qs place
    (node_types nodes (expanded_by body) i x table within is) pushed all
    (subst (λ (t : TypeExpr). Reads mid after t place)
    (shape_built body (length ps) (shape_of x) (at (trees (map shape_of nodes))) (λ a. at (trees mid) (slice_index ps a))
    (node_may nodes (at (trees mid)) (expanded_by body) ps i x table within is all.values)
    (node_known nodes (at (trees mid)) (expanded_by body) ps i within all.values))
    one)

-- arguments at places that are known

pub found_within : (places arguments found : List ℕ) (n : ℕ)
    → ((k a : ℕ) → slice_get arguments k ≡ Some a → a < length places)
    → ((k p : ℕ) → slice_get places k ≡ Some p → p < n) → found ≡ map (λ a. slice_index places a) arguments
    → (k a : ℕ) → slice_get found k ≡ Some a → a < n
found_within places arguments found n below within is k a e =
    mapped_within places arguments n below within k a (ap (λ (xs : List ℕ). slice_get xs k) (sym is) ∙ e)

pub found_full : (h : TypeHead) (places arguments found : List ℕ) → IsFull h (length arguments)
    → found ≡ map (λ a. slice_index places a) arguments → IsFull h (length found)
found_full h places arguments found full is =
    subst (IsFull h) (sym (ap length is ∙ mapped_length (λ a. slice_index places a) arguments)) full

-- what a node asks of its arguments
pub node_arguments : (n : ℕ) (x : Node) (h : TypeHead) (items : Vec ℕ Global) (arguments : List ℕ) → MayStand n (shape_of x)
    → x ≡ node.Applied h items → arguments ≡ items.items
    → IsFull h (length arguments) × ((k a : ℕ) → slice_get arguments k ≡ Some a → a < n)
node_arguments n x h items arguments may is same =
    let there : MayStand n (shape.Applied h items.items) = subst (λ (y : Node). MayStand n (shape_of y)) is may in
    subst (λ (qs : List ℕ). IsFull h (length qs) × ((k a : ℕ) → slice_get qs k ≡ Some a → a < n)) (sym same)
    (there.0, (λ k a e. there.1 a k e))

pub node_expanded : (body : ℕ → TypeExpr) (x : Node) (h : TypeHead) (items : Vec ℕ Global) (f : ℕ → TypeExpr)
    (places arguments found : List ℕ) → x ≡ node.Applied h items → arguments ≡ items.items
    → found ≡ map (λ a. slice_index places a) arguments
    → head_expanded body h (map f found) ≡ shape_expanded body (λ a. f (slice_index places a)) (shape_of x)
node_expanded body x h items f places arguments found is same found_is =
    ap (λ (ps : List ℕ). head_expanded body h (map f ps)) found_is
    ∙ ap (head_expanded body h) (mapped_twice f (λ a. slice_index places a) arguments)
    ∙ ap (λ (ps : List ℕ). head_expanded body h (map (λ a. f (slice_index places a)) ps)) same
    ∙ sym (ap (λ (y : Node). shape_expanded body (λ a. f (slice_index places a)) (shape_of y)) is)

pub variable_expanded : (body : ℕ → TypeExpr) (x : Node) (v : ℕ) (f : ℕ → TypeExpr) → x ≡ node.Variable v
    → type.Variable v ≡ shape_expanded body f (shape_of x)
variable_expanded body x v f is = sym (ap (λ (y : Node). shape_expanded body f (shape_of y)) is)

-- heads and names

pub arrow_expanded : (body : ℕ → TypeExpr) (h : TypeHead) (ts : List TypeExpr) → h ≡ head.Arrow
    → built h ts ≡ head_expanded body h ts
arrow_expanded body h ts is = subst (λ (g : TypeHead). built g ts ≡ head_expanded body g ts) (sym is) refl

pub named_expanded : (body : ℕ → TypeExpr) (h : TypeHead) (n : TypeName) (ts : List TypeExpr) → h ≡ head.Named n
    → name_expanded body n ts ≡ head_expanded body h ts
named_expanded body h n ts is = sym (ap (λ (g : TypeHead). head_expanded body g ts) is)

pub data_expanded : (body : ℕ → TypeExpr) (n : TypeName) (t : TypeId) (ts : List TypeExpr) → n ≡ name.Data t
    → built (head.Named n) ts ≡ name_expanded body n ts
data_expanded body n t ts is = subst (λ (m : TypeName). built (head.Named m) ts ≡ name_expanded body m ts) (sym is) refl

pub synonym_expanded : (body : ℕ → TypeExpr) (n : TypeName) (s : SynonymId) (ts : List TypeExpr) → n ≡ name.Synonym s
    → apply (for_parameters ts) (body s.0) ≡ name_expanded body n ts
synonym_expanded body n s ts is = sym (ap (λ (m : TypeName). name_expanded body m ts) is)

-- where nothing was expanded yet
nothing_taken : (F : TypeExpr → TypeExpr) (ts : List TypeExpr) → map F (take 0 ts) ≡ []
nothing_taken F [] = refl
nothing_taken F (t ∷ ts) = refl

pub none_expanded : (ss : List Shape) (nodes : List Node) (body : ℕ → TypeExpr) (ps : List ℕ) → ps ≡ []
    → AllRead ss ss (map (expanded_by body) (take 0 (trees (map shape_of nodes)))) ps
none_expanded ss nodes body ps is =
    subst (AllRead ss ss (map (expanded_by body) (take 0 (trees (map shape_of nodes))))) (sym is)
    (subst (λ (us : List TypeExpr). AllRead ss ss us []) (sym (nothing_taken (expanded_by body) (trees (map shape_of nodes)))) (none_read ss))

pub all_read_count : (before after ss : List Shape) (g : TypeExpr → TypeExpr) (ps : List ℕ)
    → AllRead before after (map g (trees ss)) ps → length ps ≡ length ss
all_read_count before after ss g ps all =
    sym (mapped_length (at (trees after)) ps) ∙ ap length all.values ∙ mapped_length g (trees ss) ∙ trees-length ss

-- lists that are the same place by place

pub same_more : {A B : Type 0} (f : A → B) (xs ys : List A) (i : ℕ) (x y : A) → length xs ≡ length ys → i < length xs
    → x ≡ get_or xs i x → y ≡ get_or ys i y → f x ≡ f y → map f (take i xs) ≡ map f (take i ys)
    → map f (take (i + 1) xs) ≡ map f (take (i + 1) ys)
same_more {B = B} f xs ys i x y long within left right same before =
    map_more f xs i x within
    ∙ ap (λ (us : List B). us ++ f (get_or xs i x) ∷ []) before
    ∙ ap (λ (z : B). map f (take i ys) ++ z ∷ []) (ap f (sym left) ∙ same ∙ ap f right)
    ∙ sym (map_more f ys i y (omega arith))

pub taken_all : {A : Type 0} (n : ℕ) (xs : List A) → length xs ≤ n → take n xs ≡ xs
taken_all zero [] few = refl
taken_all zero (x ∷ xs) few = absurd (omega arith)
taken_all (suc n) [] few = refl
taken_all {A = A} (suc n) (x ∷ xs) few = ap (λ (ys : List A). x ∷ ys) (taken_all n xs (omega arith))

pub same_all : {A B : Type 0} (f : A → B) (xs ys : List A) (i : ℕ) → length xs ≡ length ys → length xs ≤ i
    → map f (take i xs) ≡ map f (take i ys) → map f xs ≡ map f ys
same_all f xs ys i long few same =
    sym (ap (map f) (taken_all i xs few)) ∙ same ∙ ap (map f) (taken_all i ys (omega arith))

pub mapped_itself : {A : Type 0} (xs : List A) → map (λ x. x) xs ≡ xs
mapped_itself [] = refl
mapped_itself {A = A} (x ∷ xs) = ap (λ (ys : List A). x ∷ ys) (mapped_itself xs)

-- the shape of a node

pub same_variable : (s : Shape) (x : Node) (v : ℕ) → x ≡ node.Variable v → IsVariable s v → s ≡ shape_of x
same_variable (shape.Variable y) x v is same = ap shape.Variable same ∙ sym (ap shape_of is)
same_variable (shape.Applied h ps) x v is same = absurd same

pub same_applied : (s : Shape) (x : Node) (h : TypeHead) (items : Vec ℕ Global) (arguments : List ℕ) → x ≡ node.Applied h items
    → arguments ≡ items.items → HasArguments s h arguments → s ≡ shape_of x
same_applied (shape.Variable y) x h items arguments is same has = absurd has
same_applied (shape.Applied g ps) x h items arguments is same has =
    ap (λ (k : TypeHead). shape.Applied k ps) has.0 ∙ ap (shape.Applied h) (has.1 ∙ same) ∙ sym (ap shape_of is)

-- rounds

nothing_at : (s : ℕ) → at [] s ≡ type.Variable 0
nothing_at s = refl

pub bodies_start : (kernel : Kernel) → at [] ≡ bodies kernel 0
bodies_start kernel = fun_ext (λ s. nothing_at s)

body_at : (kernel : Kernel) (F : TypeExpr → TypeExpr) (declared : List code.Synonym) (s : ℕ)
    → F (type.Variable 0) ≡ type.Variable 0
    → at (map (λ x. F (synonym_meaning x).body) declared) s
    ≡ F (body_of (record kernel { synonyms = map synonym_meaning declared }) s)
body_at kernel F [] s none = sym none
body_at kernel F (x ∷ declared) zero none = refl
body_at kernel F (x ∷ declared) (suc s) none = body_at kernel F declared s none

-- one round more
pub bodies_next : (kernel : Kernel) (depth : ℕ) (declared : List code.Synonym) (types next : List TypeExpr)
    → map synonym_meaning declared ≡ kernel.synonyms → at types ≡ bodies kernel depth
    → next ≡ map (λ x. expanded_by (at types) (synonym_meaning x).body) declared
    → at next ≡ bodies kernel (depth + 1)
bodies_next kernel depth declared types next are before is =
    let e : suc depth ≡ depth + 1 = omega arith in
    let each : at next ≡ bodies kernel (suc depth) = fun_ext (λ s.
    ap (λ (ts : List TypeExpr). at ts s) is
    ∙ body_at kernel (expanded_by (at types)) declared s refl
    ∙ ap (λ (ss : List Synonym). expanded_by (at types) (body_of (record kernel { synonyms = ss }) s)) are
    ∙ ap (λ (body : ℕ → TypeExpr). expanded_by body (body_of kernel s)) before) in
    each ∙ ap (bodies kernel) e

-- what doesn't change stays
bodies_stay : (kernel : Kernel) (depth : ℕ) → bodies kernel (suc depth) ≡ bodies kernel depth → (k n : ℕ) → n ≡ k + depth
    → bodies kernel n ≡ bodies kernel depth
bodies_stay kernel depth same zero n is = let e : n ≡ depth = omega arith in ap (bodies kernel) e
bodies_stay kernel depth same (suc k) n is =
    let e : n ≡ suc (k + depth) = omega arith in
    let next : (ℕ → TypeExpr) → ℕ → TypeExpr = λ body s. expanded_by body (body_of kernel s) in
    ap (bodies kernel) e
    ∙ ap next (bodies_stay kernel depth same k (k + depth) refl)
    ∙ same

pub bodies_found : (kernel : Kernel) (depth n : ℕ) (declared : List code.Synonym) (types next : List TypeExpr)
    → map synonym_meaning declared ≡ kernel.synonyms → at types ≡ bodies kernel depth
    → next ≡ map (λ x. expanded_by (at types) (synonym_meaning x).body) declared → types ≡ next → depth ≤ n
    → at next ≡ bodies kernel n
bodies_found kernel depth n declared types next are before is same below =
    let now : at next ≡ bodies kernel depth = ap at (sym same) ∙ before in
    let e : depth + 1 ≡ suc depth = omega arith in
    let more : at next ≡ bodies kernel (suc depth) = bodies_next kernel depth declared types next are before is ∙ ap (bodies kernel) e in
    let long : n ≡ (n - depth) + depth = omega arith in
    now ∙ sym (bodies_stay kernel depth (sym more ∙ now) (n - depth) n long)
