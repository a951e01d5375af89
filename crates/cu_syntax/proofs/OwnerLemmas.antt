-- What is read from tokens of a module is of the module.
use Rattle.std.specs.Prelude.{◌≡◌, ℕ, ◌+◌, IfSome, List, [], ◌∷◌, ◌++◌, None, Option, Some, drop, map, refl, slice_index_or, take}
use Rattle.std.specs.List.{All}
use Rattle.std.proofs.Common.{subst, sym}
use Rattle.std.proofs.lemmas.List.Elements.{All-append, All-cons, All-drop, All-head, All-nil, All-pop, All-tail}
use Rattle.cu_lex.specs.declared.token.Name as spelled
use Rattle.cu_lex.specs.declared.token.Token.{Token}
use Rattle.cu_lex.specs.Reading.{HasKind, HasName, IsTokenOf}
use Rattle.cu_names.specs.declared.names.NameId.{NameId}
use Rattle.cu_syntax.specs.declared.subtree.Subtree.{Subtree}
use Rattle.cu_syntax.specs.Owners.{IsOf, ModuleNameIsOf, NameIsOf}

pub name_of_token : (owner : NameId) (names : List (List ℕ)) (token : Token) (name : spelled.Name) → IsTokenOf owner names token → (HasKind names token.kind → HasName names name)
    → NameIsOf owner names (record { text = name.text; qualifier = name.qualifier; base = name.base; place = token.place })
name_of_token owner names token name owned known =
    let parts = known owned.known in
    record { place = owned.owned; text = parts.0; qualifier = parts.1; base = parts.2 }

pub module_name_of_token : (owner : NameId) (names : List (List ℕ)) (token : Token) (name : spelled.Name) → IsTokenOf owner names token → (HasKind names token.kind → HasName names name)
    → ModuleNameIsOf owner names (record { text = name.text; place = token.place })
module_name_of_token owner names token name owned known = record { place = owned.owned; text = (known owned.known).0 }

-- All of a list

through : {X : Type 0} (tree : X → Subtree) (P : Subtree → Type 0) (xs : List X) → All P (map tree xs) → All (λ x. P (tree x)) xs
through tree P [] h = All-nil (λ x. P (tree x))
through tree P (x ∷ xs) h = All-cons (λ x. P (tree x)) x xs (All-head P (tree x) (map tree xs) h) (through tree P xs (All-tail P (tree x) (map tree xs) h))

-- views over the parts that are repeated
pub views_are : {X : Type 0} (tree : X → Subtree) (owner : NameId) (names : List (List ℕ)) (xs : List X) (parts : List Subtree) → map tree xs ≡ parts → All (IsOf owner names) parts
    → All (λ x. IsOf owner names (tree x)) xs
views_are tree owner names xs parts e h = through tree (IsOf owner names) xs (subst (All (IsOf owner names)) (sym e) h)

-- nothing yet
pub none_yet : {X : Type 0} (P : X → Type 0) (xs : List X) → xs ≡ [] → All P xs
none_yet P xs e = subst (All P) (sym e) (All-nil P)

-- one more at the end
pub one_more : {X : Type 0} (P : X → Type 0) (xs after : List X) (x : X) → after ≡ xs ++ x ∷ [] → All P xs → P x → All P after
one_more P xs after x e h p = subst (All P) (sym e) (All-append P xs (x ∷ []) h (All-cons P x [] p (All-nil P)))

-- the part that is next, and those after it

pub parts_here : (owner : NameId) (names : List (List ℕ)) (left later : List Subtree) (part : Subtree) → left ≡ part ∷ later → All (IsOf owner names) left → IsOf owner names part
parts_here owner names left later part e h = All-head (IsOf owner names) part later (subst (All (IsOf owner names)) e h)

pub parts_later : (owner : NameId) (names : List (List ℕ)) (left later : List Subtree) (part : Subtree) → left ≡ part ∷ later → All (IsOf owner names) left → All (IsOf owner names) later
parts_later owner names left later part e h = All-tail (IsOf owner names) part later (subst (All (IsOf owner names)) e h)

-- a view over a part
pub same_part : (owner : NameId) (names : List (List ℕ)) (part view : Subtree) → view ≡ part → IsOf owner names part → IsOf owner names view
same_part owner names part view e h = subst (IsOf owner names) (sym e) h

-- the last of a list, and those before it
pub all_popped : {X : Type 0} (P : X → Type 0) (xs before : List X) (x : X) → xs ≡ before ++ x ∷ [] → All P xs → All P before × P x
all_popped P xs before x e h = All-pop P xs before (Some x) e h

-- the first of a list, and those after it
pub all_removed : {X : Type 0} (P : X → Type 0) (xs later : List X) (x : X) → (xs ≡ [] → ⊥) → x ≡ slice_index_or xs 0 x → later ≡ take 0 xs ++ drop (0 + 1) xs → All P xs
    → P x × All P later
all_removed P [] later x some value rest h = absurd (some refl)
all_removed P (y ∷ xs) later x some value rest h = (subst P (sym value) (All-head P y xs h), subst (All P) (sym rest) (All-tail P y xs h))

pub two : {X : Type 0} (P : X → Type 0) (xs : List X) (x y : X) → xs ≡ x ∷ y ∷ [] → P x → P y → All P xs
two P xs x y e p q = subst (All P) (sym e) (All-cons P x (y ∷ []) p (All-cons P y [] q (All-nil P)))

-- a list after another
pub all_joined : {X : Type 0} (P : X → Type 0) (xs ys taken whole : List X) → whole ≡ xs ++ taken → taken ≡ ys → All P xs → All P ys → All P whole
all_joined P xs ys taken whole e t h k = subst (All P) (sym e) (All-append P xs taken h (subst (All P) (sym t) k))

-- what isn't there
pub not_there : {X : Type 0} (P : X → Type 0) (found : Option X) → found ≡ None → IfSome found P
not_there {X = X} P found e = subst (λ (o : Option X). IfSome o P) (sym e) tt

pub same_found : {X : Type 0} (P : X → Type 0) (found whole : Option X) → found ≡ whole → IfSome whole P → IfSome found P
same_found {X = X} P found whole e h = subst (λ (o : Option X). IfSome o P) (sym e) h

-- what stands after a place
pub all_after : {X : Type 0} (P : X → Type 0) (xs later : List X) (n : ℕ) → later ≡ drop n xs → All P xs → All P later
all_after P xs later n e h = subst (All P) (sym e) (All-drop P n xs h)
