-- Adding the types of another table, in which each variable is replaced.
use Rattle.std.proofs.Common.{◌≡◌, ℕ, zero, suc, ◌+◌, ◌<◌, ◌≤◌, List, [], ◌∷◌, ◌++◌, None, Some, length, map, take, get_or, slice_get, slice_index, slice_index_or, option_map, refl, sym, ap, ◌∙◌, subst, arith, append_assoc}
use Rattle.std.proofs.lemmas.List.{map_more}
use Rattle.std.proofs.lemmas.Option.{get_or_from_slice_get, slice_get-get_or, slice_get-map}
use mathlib.Core.Path.{fun_ext}
use Rattle.std.specs.declared.alloc.Global.{Global}
use Rattle.std.specs.declared.vec.Vec.{Vec}
use Rattle.cu_kernel.specs.TypeExpr as type
use Rattle.cu_kernel.specs.TypeExpr.{TypeExpr}
use Rattle.cu_types.proofs.ReadingSteps.{kept_types, pushed_member}
use Rattle.cu_types.proofs.TableLemmas.{map_same, mapped_length, mapped_twice, trees-length, trees_fit}
use Rattle.cu_types.proofs.Unfolding.{longer, no_more}
use Rattle.cu_types.proofs.Walks.{applied_built}
use Rattle.cu_types.specs.Inside.Reading.{AllRead, Reads}
use Rattle.cu_types.specs.Inside.Replacing.{Stands, replaced_by}
use Rattle.cu_types.specs.Synonyms.{for_parameters}
use Rattle.cu_types.specs.Table as shape
use Rattle.cu_types.specs.Table.{IsFull, IsTable, MayStand, Shape, at, built, shape_of, tree_over, trees}
use Rattle.cu_types.specs.Types.{Substitution, apply}
use Rattle.cu_types.specs.declared.node.Node.{Node}
use Rattle.cu_types.specs.declared.node.Node.TheVariants as node
use Rattle.cu_types.specs.declared.node.TypeHead.{TypeHead}
use Rattle.cu_types.specs.declared.replacing.Replacing.{Replacing}
use Rattle.cu_types.specs.declared.replacing.Replacing.TheVariants as by

-- a table that grew
replaced_kept : (ss after more : List Shape) (r : Replacing) → after ≡ ss ++ more → Stands ss r → (x : ℕ)
    → replaced_by after r x ≡ replaced_by ss r x
replaced_kept ss after more (by.Shift next) is stands x = refl
replaced_kept ss after more (by.Parameters places) is stands x =
    ap (λ (ts : List TypeExpr). for_parameters ts x) (kept_types ss after more places.now is stands)

pub replaced_same : (ss after more : List Shape) (r : Replacing) → after ≡ ss ++ more → Stands ss r
    → replaced_by after r ≡ replaced_by ss r
replaced_same ss after more r is stands = fun_ext (replaced_kept ss after more r is stands)

pub stands_kept : (ss after more : List Shape) (r : Replacing) → after ≡ ss ++ more → Stands ss r → Stands after r
stands_kept ss after more (by.Shift next) is stands = tt
stands_kept ss after more (by.Parameters places) is stands =
    λ k p e. let long : length ss ≤ length after = longer ss after more is in let here : p < length ss = stands k p e in omega arith

-- a list of places has a type for a variable, or none

parameter_at : (f : ℕ → TypeExpr) (places : List ℕ) (x p : ℕ) (d : TypeExpr) → slice_get places x ≡ Some p
    → slice_index_or (map f places) x d ≡ f p
parameter_at f places x p d is =
    get_or_from_slice_get (map f places) x (f p) d (slice_get-map f places x ∙ ap (option_map f) is)

parameter_none : (f : ℕ → TypeExpr) (places : List ℕ) (x : ℕ) (d : TypeExpr) → slice_get places x ≡ None
    → slice_index_or (map f places) x d ≡ d
parameter_none f [] x d is = refl
parameter_none f (q ∷ places) zero d is = let no : ⊥ = cc in absurd no
parameter_none f (q ∷ places) (suc x) d is = parameter_none f places x d is

pub parameter_read : (ss : List Shape) (places : List ℕ) (x p : ℕ) → slice_get places x ≡ Some p
    → ((k q : ℕ) → slice_get places k ≡ Some q → q < length ss)
    → Reads ss ss (for_parameters (map (at (trees ss)) places) x) p
parameter_read ss places x p is within = record {
  more = [];
  extends = no_more ss;
  within = within x p is;
  value = sym (parameter_at (at (trees ss)) places x p (type.Variable x) is);
}

pub parameter_itself : (ss after : List Shape) (places : List ℕ) (x p : ℕ) → slice_get places x ≡ None
    → Reads ss after (type.Variable x) p → Reads ss after (for_parameters (map (at (trees ss)) places) x) p
parameter_itself ss after places x p is read =
    subst (λ (t : TypeExpr). Reads ss after t p) (sym (parameter_none (at (trees ss)) places x (type.Variable x) is)) read

-- arguments whose places are known

pub found_types : (ss : List Shape) (places arguments : List ℕ) (f : TypeExpr → TypeExpr) (tree : ℕ → TypeExpr) (n : ℕ)
    → ((a k : ℕ) → slice_get arguments k ≡ Some a → a < n)
    → ((a : ℕ) → a < n → at (trees ss) (slice_index places a) ≡ f (tree a))
    → map (at (trees ss)) (map (λ a. slice_index places a) arguments) ≡ map f (map tree arguments)
found_types ss places arguments f tree n below are =
    mapped_twice (at (trees ss)) (λ a. slice_index places a) arguments
    ∙ map_same (λ a. at (trees ss) (slice_index places a)) (λ a. f (tree a)) arguments (λ a k e. are a (below a k e))
    ∙ sym (mapped_twice f tree arguments)

pub applied_read : (ss after : List Shape) (σ : Substitution) (places found arguments : List ℕ) (tree : ℕ → TypeExpr) (h : TypeHead) (place : ℕ)
    → MayStand (length places) (shape.Applied h arguments) → found ≡ map (λ a. slice_index places a) arguments
    → ((a : ℕ) → a < length places → at (trees ss) (slice_index places a) ≡ apply σ (tree a))
    → Reads ss after (built h (map (at (trees ss)) found)) place
    → Reads ss after (apply σ (tree_over tree (shape.Applied h arguments))) place
applied_read ss after σ places found arguments tree h place may is are read =
    let full : IsFull h (length (map tree arguments)) = subst (IsFull h) (sym (mapped_length tree arguments)) may.0 in
    subst (λ (t : TypeExpr). Reads ss after t place)
    (ap (λ (ps : List ℕ). built h (map (at (trees ss)) ps)) is
    ∙ ap (built h) (found_types ss places arguments (apply σ) tree (length places) may.1 are)
    ∙ sym (applied_built σ h (map tree arguments) full))
    read

-- what a list of types says of each place

pub read_at : (f : ℕ → TypeExpr) (g : TypeExpr → TypeExpr) (ps : List ℕ) (ts : List TypeExpr) (a : ℕ) → map f ps ≡ map g ts
    → a < length ps → f (slice_index ps a) ≡ g (at ts a)
read_at f g [] ts a e lt = absurd (omega arith)
read_at f g (p ∷ ps) [] a e lt = let no : ⊥ = cc in absurd no
read_at f g (p ∷ ps) (t ∷ ts) zero e lt = let first : f p ≡ g t = cc in first
read_at f g (p ∷ ps) (t ∷ ts) (suc a) e lt =
    let rest : map f ps ≡ map g ts = cc in read_at f g ps ts a rest (omega arith)

taken_at : (i : ℕ) (ts : List TypeExpr) (a : ℕ) → a < i → at (take i ts) a ≡ at ts a
taken_at zero ts a lt = absurd (omega arith)
taken_at (suc i) [] a lt = refl
taken_at (suc i) (t ∷ ts) zero lt = refl
taken_at (suc i) (t ∷ ts) (suc a) lt = taken_at i ts a (omega arith)

taken_count : (i : ℕ) (ts : List TypeExpr) → i ≤ length ts → length (take i ts) ≡ i
taken_count zero [] lt = refl
taken_count zero (t ∷ ts) lt = refl
taken_count (suc i) [] lt = absurd (omega arith)
taken_count (suc i) (t ∷ ts) lt = ap suc (taken_count i ts (omega arith))

-- so many types were read
pub read_count : (f : ℕ → TypeExpr) (g : TypeExpr → TypeExpr) (ps : List ℕ) (ts : List TypeExpr) (i : ℕ) → i ≤ length ts
    → map f ps ≡ map g (take i ts) → length ps ≡ i
read_count f g ps ts i few e =
    sym (mapped_length f ps) ∙ ap length e ∙ mapped_length g (take i ts) ∙ taken_count i ts few

-- one node of a table
pub node_shape : (nodes : List Node) (i : ℕ) (x : Node) → i < length nodes → x ≡ get_or nodes i x
    → slice_get (map shape_of nodes) i ≡ Some (shape_of x)
node_shape nodes i x within is =
    slice_get-map shape_of nodes i ∙ ap (option_map shape_of) (slice_get-get_or nodes i x within ∙ ap Some (sym is))

pub node_within : (nodes : List Node) (i : ℕ) → i < length nodes → i < length (trees (map shape_of nodes))
node_within nodes i within =
    let a = trees-length (map shape_of nodes) in let b = mapped_length shape_of nodes in omega arith

-- what add_node asks of the places so far
pub node_may : (nodes : List Node) (f : ℕ → TypeExpr) (g : TypeExpr → TypeExpr) (ps : List ℕ) (i : ℕ) (x : Node)
    → IsTable (map shape_of nodes) → i < length nodes → x ≡ get_or nodes i x
    → map f ps ≡ map g (take i (trees (map shape_of nodes))) → MayStand (length ps) (shape_of x)
node_may nodes f g ps i x table within is e =
    let sized = node_within nodes i within in
    let count : length ps ≡ i = read_count f g ps (trees (map shape_of nodes)) i (omega arith) e in
    subst (λ (n : ℕ). MayStand n (shape_of x)) (sym count) (table.stand i (shape_of x) (node_shape nodes i x within is))

-- and what the types there are
pub node_known : (nodes : List Node) (f : ℕ → TypeExpr) (g : TypeExpr → TypeExpr) (ps : List ℕ) (i : ℕ) → i < length nodes
    → map f ps ≡ map g (take i (trees (map shape_of nodes))) → (a : ℕ) → a < length ps
    → f (slice_index ps a) ≡ g (at (trees (map shape_of nodes)) a)
node_known nodes f g ps i within e a lt =
    let sized = node_within nodes i within in
    let count : length ps ≡ i = read_count f g ps (trees (map shape_of nodes)) i (omega arith) e in
    read_at f g ps (take i (trees (map shape_of nodes))) a e lt
    ∙ ap g (taken_at i (trees (map shape_of nodes)) a (omega arith))

-- the types up to one more node
pub node_types : (nodes : List Node) (g : TypeExpr → TypeExpr) (i : ℕ) (x : Node) → IsTable (map shape_of nodes) → i < length nodes
    → x ≡ get_or nodes i x
    → map g (take (i + 1) (trees (map shape_of nodes)))
    ≡ map g (take i (trees (map shape_of nodes))) ++ g (tree_over (at (trees (map shape_of nodes))) (shape_of x)) ∷ []
node_types nodes g i x table within is =
    map_more g (trees (map shape_of nodes)) i (type.Variable 0) (node_within nodes i within)
    ∙ ap (λ (t : TypeExpr). map g (take i (trees (map shape_of nodes))) ++ g t ∷ [])
    (trees_fit (map shape_of nodes) i (shape_of x) table (node_shape nodes i x within is))

map_pushed : (f : ℕ → TypeExpr) (xs : List ℕ) (y : ℕ) → map f (xs ++ y ∷ []) ≡ map f xs ++ f y ∷ []
map_pushed f [] y = refl
map_pushed f (x ∷ xs) y = ap (λ (ys : List TypeExpr). f x ∷ ys) (map_pushed f xs y)

-- one more type was read
pub all_read_more : (before mid after : List Shape) (ts us : List TypeExpr) (t : TypeExpr) (ps qs : List ℕ) (place : ℕ)
    → us ≡ ts ++ t ∷ [] → qs ≡ ps ++ place ∷ [] → AllRead before mid ts ps → Reads mid after t place → AllRead before after us qs
all_read_more before mid after ts us t ps qs place is pushed all one = record {
  more = all.more ++ one.more;
  extends = one.extends ∙ ap (λ (xs : List Shape). xs ++ one.more) all.extends ∙ append_assoc before all.more one.more;
  within = λ k a e. pushed_member ps place 0 k a (λ b. b < length after)
      (λ j b f. let long : length mid ≤ length after = longer mid after one.more one.extends in
      let here : b < length mid = all.within j b f in omega arith) one.within
      (ap (λ (xs : List ℕ). slice_get xs k) (sym pushed) ∙ e);
  values =
      ap (map (at (trees after))) pushed
      ∙ map_pushed (at (trees after)) ps place
      ∙ ap (λ (xs : List TypeExpr). xs ++ at (trees after) place ∷ []) (kept_types mid after one.more ps one.extends (λ k a e. all.within k a e) ∙ all.values)
      ∙ ap (λ (u : TypeExpr). ts ++ u ∷ []) one.value ∙ sym is;
}

-- nothing was read yet
pub none_read : (ss : List Shape) → AllRead ss ss [] []
none_read ss = record {
  more = [];
  extends = no_more ss;
  within = λ k a e. (let no : ⊥ = cc in absurd no);
  values = refl;
}

all_taken : (n : ℕ) (ts : List TypeExpr) → length ts ≤ n → take n ts ≡ ts
all_taken zero [] few = refl
all_taken zero (t ∷ ts) few = absurd (omega arith)
all_taken (suc n) [] few = refl
all_taken (suc n) (t ∷ ts) few = ap (λ (us : List TypeExpr). t ∷ us) (all_taken n ts (omega arith))

pub nodes_taken : (nodes : List Node) (n : ℕ) → length nodes ≤ n → take n (trees (map shape_of nodes)) ≡ trees (map shape_of nodes)
nodes_taken nodes n few =
    let a = trees-length (map shape_of nodes) in let b = mapped_length shape_of nodes in
    all_taken n (trees (map shape_of nodes)) (omega arith)

-- one of the types that were read
pub read_one : (before after : List Shape) (ss : List Shape) (g : TypeExpr → TypeExpr) (ps : List ℕ) (k p : ℕ) (t : TypeExpr)
    → AllRead before after (map g (trees ss)) ps → k < length ss → p ≡ slice_index ps k → at (trees ss) k ≡ t
    → Reads before after (g t) p
read_one before after ss g ps k p t all within is it =
    let sized : length ps ≡ length ss =
    sym (mapped_length (at (trees after)) ps) ∙ ap length all.values ∙ mapped_length g (trees ss) ∙ trees-length ss in
    let inside : k < length ps = omega arith in
    record {
      more = all.more;
      extends = all.extends;
      within = subst (λ (q : ℕ). q < length after) (sym is) (all.within k (get_or ps k 0) (slice_get-get_or ps k 0 inside));
      value = ap (at (trees after)) is ∙ read_at (at (trees after)) g ps (trees ss) k all.values inside ∙ ap g it;
    }

-- the places of arguments that were found

pub node_applied : (n : ℕ) (x : Node) (h : TypeHead) (arguments : Vec ℕ Global) → x ≡ node.Applied h arguments → MayStand n (shape_of x)
    → MayStand n (shape.Applied h arguments.items)
node_applied n x h arguments is may = subst (λ (y : Node). MayStand n (shape_of y)) is may

pub full_found : (h : TypeHead) (f : ℕ → ℕ) (found sliced arguments : List ℕ) → found ≡ map f sliced → sliced ≡ arguments
    → IsFull h (length arguments) → IsFull h (length found)
full_found h f found sliced arguments is same full =
    subst (IsFull h) (sym (ap length is ∙ mapped_length f sliced ∙ ap length same)) full

found_among : (f : ℕ → ℕ) (m : ℕ) (qs : List ℕ) (k p : ℕ) → ((j a : ℕ) → slice_get qs j ≡ Some a → f a < m)
    → slice_get (map f qs) k ≡ Some p → p < m
found_among f m [] k p all e = let no : ⊥ = cc in absurd no
found_among f m (q ∷ qs) zero p all e = let same : f q ≡ p = cc in subst (λ (n : ℕ). n < m) same (all 0 q refl)
found_among f m (q ∷ qs) (suc k) p all e = found_among f m qs k p (λ j a g. all (suc j) a g) e

pub found_within : (m : ℕ) (places found sliced arguments : List ℕ) → found ≡ map (λ a. slice_index places a) sliced → sliced ≡ arguments
    → ((a k : ℕ) → slice_get arguments k ≡ Some a → a < length places)
    → ((k p : ℕ) → slice_get places k ≡ Some p → p < m) → (k p : ℕ) → slice_get found k ≡ Some p → p < m
found_within m places found sliced arguments is same below within k p e =
    found_among (λ a. slice_index places a) m arguments k p
    (λ j a g. within a (get_or places a 0) (slice_get-get_or places a 0 (below a j g)))
    (ap (λ (xs : List ℕ). slice_get xs k) (sym (is ∙ ap (map (λ a. slice_index places a)) same)) ∙ e)

-- nothing of a table was added yet
pub start_read : (ss : List Shape) (g : TypeExpr → TypeExpr) (ts : List TypeExpr) (ps : List ℕ) → ps ≡ []
    → AllRead ss ss (map g (take 0 ts)) ps
start_read ss g [] ps is = subst (AllRead ss ss []) (sym is) (none_read ss)
start_read ss g (t ∷ ts) ps is = subst (AllRead ss ss []) (sym is) (none_read ss)

-- one more of its types was added
pub added_node : (before mid after : List Shape) (r : Replacing) (nodes : List Node) (i : ℕ) (x : Node) (ps qs sliced : List ℕ) (place : ℕ)
    → IsTable (map shape_of nodes) → i < length nodes → x ≡ get_or nodes i x → Stands before r → sliced ≡ ps → qs ≡ ps ++ place ∷ []
    → AllRead before mid (map (apply (replaced_by before r)) (take i (trees (map shape_of nodes)))) ps
    → ((tree : ℕ → TypeExpr) → ((a : ℕ) → a < length sliced → at (trees mid) (slice_index sliced a) ≡ apply (replaced_by mid r) (tree a))
    → Reads mid after (apply (replaced_by mid r) (tree_over tree (shape_of x))) place)
    → AllRead before after (map (apply (replaced_by before r)) (take (i + 1) (trees (map shape_of nodes)))) qs
added_node before mid after r nodes i x ps qs sliced place table within is stands same pushed all reads =
    let σ : Substitution = replaced_by before r in
    let one : replaced_by mid r ≡ σ = replaced_same before mid all.more r all.extends stands in
    let known : (a : ℕ) → a < length sliced → at (trees mid) (slice_index sliced a) ≡ apply (replaced_by mid r) (at (trees (map shape_of nodes)) a) =
    λ a lt. ap (λ (xs : List ℕ). at (trees mid) (slice_index xs a)) same
    ∙ node_known nodes (at (trees mid)) (apply σ) ps i within all.values a (subst (λ (xs : List ℕ). a < length xs) same lt)
    ∙ ap (λ (τ : Substitution). apply τ (at (trees (map shape_of nodes)) a)) (sym one) in
    let read : Reads mid after (apply σ (tree_over (at (trees (map shape_of nodes))) (shape_of x))) place =
    subst (λ (τ : Substitution). Reads mid after (apply τ (tree_over (at (trees (map shape_of nodes))) (shape_of x))) place) one
    (reads (at (trees (map shape_of nodes))) known) in
    all_read_more before mid after (map (apply σ) (take i (trees (map shape_of nodes)))) (map (apply σ) (take (i + 1) (trees (map shape_of nodes))))
    (apply σ (tree_over (at (trees (map shape_of nodes))) (shape_of x))) ps qs place (node_types nodes (apply σ) i x table within is) pushed all read

-- all of them were added
pub all_added : (before after : List Shape) (g : TypeExpr → TypeExpr) (nodes : List Node) (n : ℕ) (ps : List ℕ) → length nodes ≤ n
    → AllRead before after (map g (take n (trees (map shape_of nodes)))) ps → AllRead before after (map g (trees (map shape_of nodes))) ps
all_added before after g nodes n ps few all =
    subst (λ (ts : List TypeExpr). AllRead before after (map g ts) ps) (nodes_taken nodes n few) all

pub read_sized : (before after ss : List Shape) (g : TypeExpr → TypeExpr) (ps : List ℕ) → AllRead before after (map g (trees ss)) ps
    → length ps ≡ length ss
read_sized before after ss g ps all =
    sym (mapped_length (at (trees after)) ps) ∙ ap length all.values ∙ mapped_length g (trees ss) ∙ trees-length ss
