-- Lists of views over parts of trees, and results with a view in them.
use Rattle.std.specs.Prelude.{◌≡◌, ℕ, ◌+◌, List, [], ◌∷◌, ◌++◌, IfOk, Result, Ok, Err, drop, length, map, refl, slice_index_or, take}
use Rattle.std.specs.List.{All}
use Rattle.std.proofs.Common.{ap, ap₂, append-nil, arith, subst, sym, ◌∙◌}
use Rattle.std.proofs.lemmas.List.{nil_from_length}
use Rattle.std.proofs.lemmas.List.Elements.{All-cons, All-head, All-nil, All-tail}
use Rattle.cu_peg.specs.Parse.{MoreTrees, NoTree, Parts}
use Rattle.cu_syntax.specs.declared.subtree.Subtree.{Subtree}
use Rattle.cu_syntax.specs.declared.symbol.Symbol.{Symbol}
use Rattle.cu_syntax.specs.Reading.{Tree, Trees}
use Rattle.cu_syntax.specs.SubtreeMeaning.{tree_of}
use Rattle.cu_syntax.specs.Subtrees.{trees_from}

pub nothing_left : {X : Type 0} (xs : List X) (n : ℕ) → n ≡ 0 → n ≡ length xs → xs ≡ []
nothing_left xs n z e = nil_from_length xs (sym e ∙ z)

pub one_left : {X : Type 0} (xs ys : List X) (x : X) (n m : ℕ) → xs ≡ x ∷ ys → m + 1 ≡ n → n ≡ length xs → m ≡ length ys
one_left xs ys x n m is less counted = omega (arith, ap length is)

-- the first of some
pub removed_first : {X : Type 0} (xs later : List X) (x : X) → (xs ≡ [] → ⊥) → x ≡ slice_index_or xs 0 x → later ≡ take 0 xs ++ drop (0 + 1) xs → xs ≡ x ∷ later
removed_first [] later x some v r = absurd (some refl)
removed_first (y ∷ xs) later x some v r = ap₂ (λ z zs. z ∷ zs) (sym v) (sym r)

pub all_done : {X Y : Type 0} (f : X → Y) (done : List X) (left whole parts : List Y) → map f done ++ left ≡ whole → left ≡ [] → whole ≡ parts → map f done ≡ parts
all_done f done left whole parts e none p = sym (append-nil (map f done)) ∙ ap (λ ys. map f done ++ ys) (sym none) ∙ e ∙ p

through : {X Y : Type 0} (f : X → Y) (P : Y → Type 0) (xs : List X) → All P (map f xs) → All (λ x. P (f x)) xs
through f P [] h = All-nil (λ x. P (f x))
through f P (x ∷ xs) h = All-cons (λ x. P (f x)) x xs (All-head P (f x) (map f xs) h) (through f P xs (All-tail P (f x) (map f xs) h))

pub view_symbols : {X : Type 0} (tree : X → Subtree) (s : Symbol) (xs : List X) (parts : List Subtree) → map tree xs ≡ parts → All (λ part. part.symbol ≡ s) parts
    → All (λ x. (tree x).symbol ≡ s) xs
view_symbols tree s xs parts e h = through tree (λ part. part.symbol ≡ s) xs (subst (All (λ part. part.symbol ≡ s)) (sym e) h)

map_map : {X Y Z : Type 0} (f : X → Y) (g : Y → Z) (xs : List X) → map g (map f xs) ≡ map (λ x. g (f x)) xs
map_map f g [] = refl
map_map f g (x ∷ xs) = ap (λ ys. g (f x) ∷ ys) (map_map f g xs)

pub view_trees : {X : Type 0} (tree : X → Subtree) (names : List (List ℕ)) (xs : List X) (parts : List Subtree) (whole : Tree) → map tree xs ≡ parts
    → whole ≡ Parts (trees_from (map (tree_of names) parts)) → whole ≡ Parts (trees_from (map (λ x. tree_of names (tree x)) xs))
view_trees tree names xs parts whole e h = h ∙ ap (λ ts. Parts (trees_from ts)) (ap (map (tree_of names)) (sym e) ∙ map_map tree (tree_of names) xs)

-- what is inside a result
pub ok_as : {X Y E : Type 0} (f : X → Y) (r : Result X E) (y z : Y) → IfOk r (λ x. f x ≡ y) → y ≡ z → IfOk r (λ x. f x ≡ z)
ok_as f (Ok x) y z h e = h ∙ e
ok_as f (Err error) y z h e = tt

-- What is read from a list of trees, one after another

abbrev pub folded : {X R : Type 0} → (X → R → R) → List X → R → R
folded f [] rest = rest
folded f (x ∷ xs) rest = f x (folded f xs rest)

pub folded_push : {X R : Type 0} (f : X → R → R) (xs : List X) (x : X) (rest : R) → folded f (xs ++ x ∷ []) rest ≡ folded f xs (f x rest)
folded_push f [] x rest = refl
folded_push f (y ∷ xs) x rest = ap (f y) (folded_push f xs x rest)

-- What was found and what is left are the whole.
abbrev pub Reads : {X R : Type 0} → (X → R → R) → (Trees → R) → List (List ℕ) → R → List X → List Subtree → Type 0
Reads f g names whole done left = whole ≡ folded f done (g (trees_from (map (tree_of names) left)))

pub reads_first : {X R : Type 0} (f : X → R → R) (g : Trees → R) (h : Tree → R) (names : List (List ℕ)) (tree : Tree) (done : List X) (left parts : List Subtree)
    → ((trees : Trees) → h (Parts trees) ≡ g trees) → done ≡ [] → left ≡ parts → tree ≡ Parts (trees_from (map (tree_of names) parts)) → Reads f g names (h tree) done left
reads_first f g h names tree done left parts same d l t =
    ap h t ∙ same (trees_from (map (tree_of names) parts)) ∙ ap (λ xs. g (trees_from (map (tree_of names) xs))) (sym l)
    ∙ ap (λ xs. folded f xs (g (trees_from (map (tree_of names) left)))) (sym d)

pub reads_one : {X R : Type 0} (f : X → R → R) (g : Trees → R) (names : List (List ℕ)) (whole : R) (done after : List X) (left later : List Subtree) (part : Subtree) (x : X)
    → Reads f g names whole done left → left ≡ part ∷ later → ((rest : Trees) → g (MoreTrees (tree_of names part) rest) ≡ f x (g rest)) → after ≡ done ++ x ∷ []
    → Reads f g names whole after later
reads_one f g names whole done after left later part x e l one a =
    e ∙ ap (λ xs. folded f done (g (trees_from (map (tree_of names) xs)))) l ∙ ap (folded f done) (one (trees_from (map (tree_of names) later)))
    ∙ sym (folded_push f done x (g (trees_from (map (tree_of names) later)))) ∙ ap (λ xs. folded f xs (g (trees_from (map (tree_of names) later)))) (sym a)

-- a tree that says nothing
pub reads_none : {X R : Type 0} (f : X → R → R) (g : Trees → R) (names : List (List ℕ)) (whole : R) (done : List X) (left later : List Subtree) (part : Subtree)
    → Reads f g names whole done left → left ≡ part ∷ later → ((rest : Trees) → g (MoreTrees (tree_of names part) rest) ≡ g rest) → Reads f g names whole done later
reads_none f g names whole done left later part e l none =
    e ∙ ap (λ xs. folded f done (g (trees_from (map (tree_of names) xs)))) l ∙ ap (folded f done) (none (trees_from (map (tree_of names) later)))

pub reads_all : {X R : Type 0} (f : X → R → R) (g : Trees → R) (names : List (List ℕ)) (whole : R) (done : List X) (left : List Subtree) → Reads f g names whole done left → left ≡ []
    → whole ≡ folded f done (g NoTree)
reads_all f g names whole done left e none = e ∙ ap (λ xs. folded f done (g (trees_from (map (tree_of names) xs)))) none

-- what is true of all that is left

pub all_here : {X : Type 0} (P : X → Type 0) (xs left : List X) (x : X) → xs ≡ x ∷ left → All P xs → P x
all_here P xs left x e h = All-head P x left (subst (All P) e h)

pub all_later : {X : Type 0} (P : X → Type 0) (xs left : List X) (x : X) → xs ≡ x ∷ left → All P xs → All P left
all_later P xs left x e h = All-tail P x left (subst (All P) e h)

pub all_left : {X : Type 0} (P : X → Type 0) (xs ys : List X) → xs ≡ ys → All P ys → All P xs
all_left P xs ys e h = subst (All P) (sym e) h

-- equal arguments

pub ap₃ : {A B C D : Type 0} (f : A → B → C → D) {a a' : A} {b b' : B} {c c' : C} → a ≡ a' → b ≡ b' → c ≡ c' → f a b c ≡ f a' b' c'
ap₃ f {a} {a'} {b} {b'} {c} {c'} p q r = ap₂ (λ x y. f x y c) p q ∙ ap (f a' b') r

pub ap₄ : {A B C D E : Type 0} (f : A → B → C → D → E) {a a' : A} {b b' : B} {c c' : C} {d d' : D} → a ≡ a' → b ≡ b' → c ≡ c' → d ≡ d' → f a b c d ≡ f a' b' c' d'
ap₄ f {a} {a'} {b} {b'} {c} {c'} {d} {d'} p q r s = ap₂ (λ x y. f x y c d) p q ∙ ap₂ (f a' b') r s
