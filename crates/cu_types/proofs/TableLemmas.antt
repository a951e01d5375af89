-- Tables: each type is that of its shape over the whole table, and a push changes no type before it.
use Rattle.std.proofs.Common.{◌≡◌, ℕ, zero, suc, ◌+◌, ◌<◌, List, [], ◌∷◌, ◌++◌, Option, None, Some, length, map, slice_get, slice_index, refl, sym, ap, ◌∙◌, subst, arith, length-append}
use Rattle.std.proofs.lemmas.List.{get_or_append_left, get_or_push}
use Rattle.std.proofs.lemmas.Option.{get_or_from_slice_get, slice_get_within}
use Rattle.std.specs.Option.{option_and_then}
use Rattle.cu_kernel.specs.TypeExpr as type
use Rattle.cu_kernel.specs.TypeExpr.{TypeExpr, TypeExprs}
use Rattle.cu_kernel.specs.TypesOf.{type_list}
use Rattle.cu_types.specs.Table as shape
use Rattle.cu_types.specs.Table.{IsFull, IsTable, MayStand, Shape, at, built, places, tree_over, trees, trees_after}
use Rattle.cu_types.specs.Types.{arguments, head_of, listed}
use Rattle.cu_types.specs.declared.node.TypeHead.{TypeHead}
use Rattle.cu_types.specs.declared.node.TypeHead.TheVariants as head

pub listed_again : (ts : List TypeExpr) → listed (type_list ts) ≡ ts
listed_again [] = refl
listed_again (t ∷ ts) = ap (λ (xs : List TypeExpr). t ∷ xs) (listed_again ts)

pub built_arguments : (h : TypeHead) (ts : List TypeExpr) → IsFull h (length ts) → arguments (built h ts) ≡ ts
built_arguments (head.Named name) ts full = listed_again ts
built_arguments head.Arrow (a ∷ b ∷ []) full = refl
built_arguments head.Arrow [] full = absurd (omega arith)
built_arguments head.Arrow (a ∷ []) full = absurd (omega arith)
built_arguments head.Arrow (a ∷ b ∷ c ∷ ts) full = absurd (omega arith)

pub built_head : (h : TypeHead) (ts : List TypeExpr) → IsFull h (length ts) → head_of (built h ts) ≡ Some h
built_head (head.Named name) ts full = refl
built_head head.Arrow (a ∷ b ∷ []) full = refl
built_head head.Arrow [] full = absurd (omega arith)
built_head head.Arrow (a ∷ []) full = absurd (omega arith)
built_head head.Arrow (a ∷ b ∷ c ∷ ts) full = absurd (omega arith)

pub mapped_length : {A B : Type 0} (f : A → B) (xs : List A) → length (map f xs) ≡ length xs
mapped_length f [] = refl
mapped_length f (x ∷ xs) = ap suc (mapped_length f xs)

pub mapped_twice : {A B C : Type 0} (g : B → C) (f : A → B) (xs : List A) → map g (map f xs) ≡ map (λ a. g (f a)) xs
mapped_twice g f [] = refl
mapped_twice {C = C} g f (x ∷ xs) = ap (λ (ys : List C). g (f x) ∷ ys) (mapped_twice g f xs)

pub map_same : {B : Type 0} (f g : ℕ → B) (ps : List ℕ) → ((a k : ℕ) → slice_get ps k ≡ Some a → f a ≡ g a) → map f ps ≡ map g ps
map_same f g [] same = refl
map_same f g (p ∷ ps) same =
    let first : f p ≡ g p = same p 0 refl in
    let rest : map f ps ≡ map g ps = map_same f g ps (λ a k e. same a (suc k) e) in
    cc

-- what a shape stands for depends on what stands before it
pub tree_over_same : (n : ℕ) (s : Shape) (f g : ℕ → TypeExpr) → MayStand n s → ((a : ℕ) → a < n → f a ≡ g a)
    → tree_over f s ≡ tree_over g s
tree_over_same n (shape.Variable x) f g may same = refl
tree_over_same n (shape.Applied h ps) f g may same = ap (built h) (map_same f g ps (λ a k e. same a (may.1 a k e)))

trees_after-append : (before : List TypeExpr) (xs ys : List Shape)
    → trees_after before (xs ++ ys) ≡ trees_after (trees_after before xs) ys
trees_after-append before [] ys = refl
trees_after-append before (x ∷ xs) ys = trees_after-append (before ++ tree_over (at before) x ∷ []) xs ys

trees_after-length : (before : List TypeExpr) (xs : List Shape) → length (trees_after before xs) ≡ length before + length xs
trees_after-length before [] = omega arith
trees_after-length before (x ∷ xs) =
    let rest = trees_after-length (before ++ tree_over (at before) x ∷ []) xs in
    let grown = length-append before (tree_over (at before) x ∷ []) in omega arith

trees_after-kept : (before : List TypeExpr) (xs : List Shape) (i : ℕ) → i < length before
    → at (trees_after before xs) i ≡ at before i
trees_after-kept before [] i within = refl
trees_after-kept before (x ∷ xs) i within =
    let grown = length-append before (tree_over (at before) x ∷ []) in
    trees_after-kept (before ++ tree_over (at before) x ∷ []) xs i (omega arith)
    ∙ get_or_append_left before (tree_over (at before) x ∷ []) (type.Variable 0) i within

pub trees-length : (ss : List Shape) → length (trees ss) ≡ length ss
unfolding trees
trees-length ss = let e = trees_after-length [] ss in omega arith

pub trees-push : (ss : List Shape) (s : Shape) → trees (ss ++ s ∷ []) ≡ trees ss ++ tree_over (at (trees ss)) s ∷ []
unfolding trees
trees-push ss s = trees_after-append [] ss (s ∷ [])

-- a later type changes none before it
pub trees-append : (xs ys : List Shape) (i : ℕ) → i < length xs → at (trees (xs ++ ys)) i ≡ at (trees xs) i
unfolding trees
trees-append xs ys i within =
    let sized = trees_after-length [] xs in
    ap (λ (ts : List TypeExpr). at ts i) (trees_after-append [] xs ys) ∙ trees_after-kept (trees_after [] xs) ys i (omega arith)

trees_after_fit : (before : List TypeExpr) (ss : List Shape)
    → ((i : ℕ) (s : Shape) → slice_get ss i ≡ Some s → MayStand (length before + i) s) → (i : ℕ) (s : Shape)
    → slice_get ss i ≡ Some s → at (trees_after before ss) (length before + i) ≡ tree_over (at (trees_after before ss)) s
trees_after_fit before [] may i s is = let no : ⊥ = cc in absurd no
trees_after_fit before (x ∷ ss) may zero s is =
    let e : x ≡ s = cc in
    let n : length before + 0 ≡ length before = omega arith in
    let grown = length-append before (tree_over (at before) x ∷ []) in
    let here : at (trees_after (before ++ tree_over (at before) x ∷ []) ss) (length before) ≡ at (before ++ tree_over (at before) x ∷ []) (length before) =
    trees_after-kept (before ++ tree_over (at before) x ∷ []) ss (length before) (omega arith) in
    let it : at (before ++ tree_over (at before) x ∷ []) (length before) ≡ tree_over (at before) x =
    get_or_push before (tree_over (at before) x) (type.Variable 0) (length before) refl in
    let same : tree_over (at before) x ≡ tree_over (at (trees_after (before ++ tree_over (at before) x ∷ []) ss)) x =
    tree_over_same (length before) x (at before) (at (trees_after (before ++ tree_over (at before) x ∷ []) ss))
    (subst (λ (k : ℕ). MayStand k x) n (may 0 x refl))
    (λ a lt. sym (trees_after-kept (before ++ tree_over (at before) x ∷ []) ss a (omega arith)
    ∙ get_or_append_left before (tree_over (at before) x ∷ []) (type.Variable 0) a lt)) in
    ap (at (trees_after (before ++ tree_over (at before) x ∷ []) ss)) n ∙ here ∙ it ∙ same
    ∙ ap (tree_over (at (trees_after (before ++ tree_over (at before) x ∷ []) ss))) e
trees_after_fit before (x ∷ ss) may (suc i) s is =
    let grown = length-append before (tree_over (at before) x ∷ []) in
    let n : (j : ℕ) → length before + suc j ≡ length (before ++ tree_over (at before) x ∷ []) + j = λ j. omega arith in
    ap (at (trees_after (before ++ tree_over (at before) x ∷ []) ss)) (n i)
    ∙ trees_after_fit (before ++ tree_over (at before) x ∷ []) ss
    (λ j u e. subst (λ (k : ℕ). MayStand k u) (n j) (may (suc j) u e)) i s is

-- each type of a table is that of its shape over the table
pub trees_fit : (ss : List Shape) (i : ℕ) (s : Shape) → IsTable ss → slice_get ss i ≡ Some s
    → at (trees ss) i ≡ tree_over (at (trees ss)) s
unfolding trees
trees_fit ss i s table is =
    let n : (j : ℕ) → j ≡ 0 + j = λ j. omega arith in
    ap (at (trees_after [] ss)) (n i)
    ∙ trees_after_fit [] ss (λ j u e. subst (λ (k : ℕ). MayStand k u) (n j) (table.stand j u e)) i s is

-- a place that a list of places gives is one of theirs
pub place_within : (found : List ℕ) (o : Option ℕ) (p n m : ℕ) → length found ≡ n → ((k : ℕ) → k < n → slice_index found k < m)
    → option_and_then (slice_get found) o ≡ Some p → p < m
place_within found None p n m sized within is = let no : None ≡ Some p = is in let never : ⊥ = cc in absurd never
place_within found (Some k) p n m sized within is =
    let inside : k < length found = slice_get_within found k p is in
    let there : k < n = omega (arith, sized, inside) in
    let same = get_or_from_slice_get found k p 0 is in
    subst (λ (j : ℕ). j < m) same (within k there)
