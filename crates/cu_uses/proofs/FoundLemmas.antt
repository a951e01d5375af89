-- What walks over patterns and types find.
use Rattle.std.proofs.Common.{◌≡◌, ◌∙◌, ◌<◌, ◌≤◌, ◌+◌, ◌⊎◌, inl, inr, ℕ, ℤ, List, [], ◌∷◌, ◌++◌, Result, Ok, Err, OnOk, length, drop, get_or, map, refl, sym, ap, ap₂, subst, add-one}
use Rattle.std.proofs.Math.Seq.{drop-cons}
use Rattle.std.proofs.lemmas.List.{append-nil, append_assoc, drop_all, map-append}
use Rattle.std.proofs.lemmas.List.Elements.{All-get_or, All-push}
use Rattle.std.specs.List.{All}
use Rattle.cu_names.specs.declared.names.NameId.{NameId}
use Rattle.cu_names.specs.declared.place.Place.{Place}
use Rattle.cu_syntax.specs.declared.name.Literal.{Literal}
use Rattle.cu_syntax.specs.declared.name.Name as code
use Rattle.cu_syntax.specs.declared.patterns.ConstructorItem.{ConstructorItem}
use Rattle.cu_syntax.specs.declared.patterns.Pattern.{Pattern}
use Rattle.cu_syntax.specs.declared.patterns.PatternNode.{PatternNode}
use Rattle.cu_syntax.specs.declared.patterns.PatternNode.TheVariants as pattern
use Rattle.cu_syntax.specs.declared.types.TypeNode.{TypeNode}
use Rattle.cu_syntax.specs.declared.types.TypeNode.TheVariants as type_term
use Rattle.cu_syntax.specs.declared.types.TypeTerm.{TypeTerm}
use Rattle.cu_syntax.specs.Names.{name_meaning}
use Rattle.cu_syntax.specs.Owners.{NameIsOf}
use Rattle.cu_syntax.specs.Patterns.{pattern_meaning, pattern_node}
use Rattle.cu_syntax.specs.Syntax as syntax
use Rattle.cu_syntax.specs.Types.{function_type, type_meaning, type_node, types_meaning}
use Rattle.cu_uses.specs.declared.found.Found.{Found}
use Rattle.cu_uses.specs.Binders.{all_type_constructors, all_type_variables, pattern_constructors, pattern_variables, type_constructors, type_variables}
use Rattle.cu_uses.specs.Gathered.{Adds, Finds, operands_bind, operands_build, pattern_binds, pattern_builds, patterns_bind, patterns_build, type_binds, type_builds, types_bind, types_build}

-- ---- results

pub on_ok : {A E P Q : Type 0} (r : Result A E) → (P → Q) → OnOk r P → OnOk r Q
on_ok (Ok a) f p = f p
on_ok (Err e) f p = tt

-- ---- lists that a loop walks over

pub prefix : {X Y : Type 0} (F : List X → List Y) (f : X → List Y) → ((x : X) (xs : List X) → F (x ∷ xs) ≡ f x ++ F xs) → (xs : List X) (i : ℕ) (x : X) → x ≡ get_or xs i x → i < length xs
    → f x ++ F (drop (i + 1) xs) ≡ F (drop i xs)
prefix F f cons xs i x is within =
    sym (ap F (drop-cons xs i x within ∙ ap₂ (λ y n. y ∷ drop n xs) (sym is) (sym (add-one i))) ∙ cons x (drop (i + 1) xs))

pub nothing_left : {X Y : Type 0} (F : List X → List Y) → F [] ≡ [] → (xs : List X) (i : ℕ) → length xs ≤ i → F (drop i xs) ≡ []
nothing_left F empty xs i past = ap F (drop_all i xs past) ∙ empty

-- ---- names that were added

pub adds_none : (owner : NameId) (names : List (List ℕ)) (a : List code.Name) → Adds owner names a [] a
adds_none owner names a = record { adds = sym (append-nil (map (name_meaning names) a)); owned = λ of. of }

pub adds_one : (owner : NameId) (names : List (List ℕ)) (a b : List code.Name) (x : code.Name) → NameIsOf owner names x → b ≡ a ++ x ∷ [] → Adds owner names a (name_meaning names x ∷ []) b
adds_one owner names a b x is pushed = record {
  adds = ap (map (name_meaning names)) pushed ∙ map-append (name_meaning names) a (x ∷ []);
  owned = λ of. subst (All (NameIsOf owner names)) (sym pushed) (All-push (NameIsOf owner names) a x of is);
}

pub adds_both : {owner : NameId} {names : List (List ℕ)} {a b c : List code.Name} {xs ys : List syntax.Name} → Adds owner names a xs b → Adds owner names b ys c → Adds owner names a (xs ++ ys) c
adds_both {names = names} {a = a} {xs = xs} {ys = ys} one two = record {
  adds = two.adds ∙ ap (λ zs. zs ++ ys) one.adds ∙ append_assoc (map (name_meaning names) a) xs ys;
  owned = λ of. two.owned (one.owned of);
}

pub finds_none : (owner : NameId) (names : List (List ℕ)) (a : Found) → Finds owner names a [] [] a
finds_none owner names a = record { variables = adds_none owner names a.variables.items; constructors = adds_none owner names a.constructors.items }

pub finds_both : {owner : NameId} {names : List (List ℕ)} {a b c : Found} {xs us ys vs : List syntax.Name} → Finds owner names a xs us b → Finds owner names b ys vs c
    → Finds owner names a (xs ++ ys) (us ++ vs) c
finds_both one two = record { variables = adds_both one.variables two.variables; constructors = adds_both one.constructors two.constructors }

-- one round of a loop
finds_prefix : {X : Type 0} (P : X → Type 0) (F G : List X → List syntax.Name) (f g : X → List syntax.Name)
    → ((x : X) (xs : List X) → F (x ∷ xs) ≡ f x ++ F xs) → ((x : X) (xs : List X) → G (x ∷ xs) ≡ g x ++ G xs)
    → (owner : NameId) (names : List (List ℕ)) (xs : List X) (i : ℕ) (x : X) (a b c : Found) → x ≡ get_or xs i x → i < length xs → All P xs
    → (P x → Finds owner names a (f x) (g x) b) → Finds owner names b (F (drop (i + 1) xs)) (G (drop (i + 1) xs)) c → Finds owner names a (F (drop i xs)) (G (drop i xs)) c
finds_prefix P F G f g consF consG owner names xs i x a b c is within all here suffix =
    subst (λ ys. Finds owner names a ys (G (drop i xs)) c) (prefix F f consF xs i x is within)
    (subst (λ ys. Finds owner names a (f x ++ F (drop (i + 1) xs)) ys c) (prefix G g consG xs i x is within)
    (finds_both (here (subst P (sym is) (All-get_or P xs i x within all))) suffix))

finds_end : {X : Type 0} (F G : List X → List syntax.Name) → F [] ≡ [] → G [] ≡ [] → (owner : NameId) (names : List (List ℕ)) (xs : List X) (i : ℕ) (a : Found) → length xs ≤ i
    → Finds owner names a (F (drop i xs)) (G (drop i xs)) a
finds_end F G emptyF emptyG owner names xs i a past =
    subst (λ ys. Finds owner names a ys (G (drop i xs)) a) (sym (nothing_left F emptyF xs i past))
    (subst (λ ys. Finds owner names a [] ys a) (sym (nothing_left G emptyG xs i past)) (finds_none owner names a))

-- ---- patterns

abbrev node_binds : List (List ℕ) → PatternNode → List syntax.Name
node_binds names (pattern.Variable x) = name_meaning names x ∷ []
node_binds names (pattern.Alias x p) = name_meaning names x ∷ pattern_binds names p
node_binds names (pattern.Constructed at c ps) = patterns_bind names ps.items
node_binds names (pattern.Tuple at ps) = patterns_bind names ps.items
node_binds names (pattern.List at ps) = patterns_bind names ps.items
node_binds names (pattern.Operators items) = pattern_binds names items.first ++ operands_bind names items.rest.items
node_binds names _ = []

abbrev node_builds : List (List ℕ) → PatternNode → List syntax.Name
node_builds names (pattern.Alias x p) = pattern_builds names p
node_builds names (pattern.Constructed at c ps) = name_meaning names c ∷ patterns_build names ps.items
node_builds names (pattern.Tuple at ps) = patterns_build names ps.items
node_builds names (pattern.List at ps) = patterns_build names ps.items
node_builds names (pattern.Operators items) = pattern_builds names items.first ++ operands_build names items.rest.items
node_builds names _ = []

bound_in : (names : List (List ℕ)) (n : PatternNode) → node_binds names n ≡ pattern_variables (pattern_node names n)
unfolding pattern_binds patterns_bind operands_bind
bound_in names (pattern.Variable x) = refl
bound_in names (pattern.Alias x p) = refl
bound_in names (pattern.Wildcard at) = refl
bound_in names (pattern.Literal at found) = refl
bound_in names (pattern.Negative at n) = refl
bound_in names (pattern.Constructed at c ps) = refl
bound_in names (pattern.Tuple at ps) = refl
bound_in names (pattern.List at ps) = refl
bound_in names (pattern.Operators items) = refl

built_in : (names : List (List ℕ)) (n : PatternNode) → node_builds names n ≡ pattern_constructors (pattern_node names n)
unfolding pattern_builds patterns_build operands_build
built_in names (pattern.Variable x) = refl
built_in names (pattern.Alias x p) = refl
built_in names (pattern.Wildcard at) = refl
built_in names (pattern.Literal at found) = refl
built_in names (pattern.Negative at n) = refl
built_in names (pattern.Constructed at c ps) = refl
built_in names (pattern.Tuple at ps) = refl
built_in names (pattern.List at ps) = refl
built_in names (pattern.Operators items) = refl

node_bound : (names : List (List ℕ)) (p : Pattern) (n : PatternNode) → pattern_node names n ≡ pattern_meaning names p → node_binds names n ≡ pattern_binds names p
unfolding pattern_binds
node_bound names p n meaning = bound_in names n ∙ ap pattern_variables meaning

node_built : (names : List (List ℕ)) (p : Pattern) (n : PatternNode) → pattern_node names n ≡ pattern_meaning names p → node_builds names n ≡ pattern_builds names p
unfolding pattern_builds
node_built names p n meaning = built_in names n ∙ ap pattern_constructors meaning

-- what a pattern is found to have, by what it is
pub pattern_found : (owner : NameId) (names : List (List ℕ)) (p : Pattern) (v n : PatternNode) (a b : Found) → pattern_node names v ≡ pattern_meaning names p → v ≡ n
    → Finds owner names a (node_binds names n) (node_builds names n) b → Finds owner names a (pattern_binds names p) (pattern_builds names p) b
pattern_found owner names p v n a b meaning is found =
    let meant = ap (pattern_node names) (sym is) ∙ meaning in
    subst (λ xs. Finds owner names a xs (pattern_builds names p) b) (node_bound names p n meant)
    (subst (λ xs. Finds owner names a (node_binds names n) xs b) (node_built names p n meant) found)

-- a pattern without names
pub pattern_bare : (owner : NameId) (names : List (List ℕ)) (p : Pattern) (v : PatternNode) (a : Found) → pattern_node names v ≡ pattern_meaning names p
    → ((at : Place) × (v ≡ pattern.Wildcard at)) ⊎ (((at : Place) × (found : Literal) × (v ≡ pattern.Literal at found)) ⊎ ((at : Place) × (n : ℤ) × (v ≡ pattern.Negative at n)))
    → Finds owner names a (pattern_binds names p) (pattern_builds names p) a
pattern_bare owner names p v a meaning (inl (at, is)) = pattern_found owner names p v (pattern.Wildcard at) a a meaning is (finds_none owner names a)
pattern_bare owner names p v a meaning (inr (inl (at, found, is))) = pattern_found owner names p v (pattern.Literal at found) a a meaning is (finds_none owner names a)
pattern_bare owner names p v a meaning (inr (inr (at, n, is))) = pattern_found owner names p v (pattern.Negative at n) a a meaning is (finds_none owner names a)

patterns_bind_cons : (names : List (List ℕ)) (p : Pattern) (ps : List Pattern) → patterns_bind names (p ∷ ps) ≡ pattern_binds names p ++ patterns_bind names ps
unfolding patterns_bind pattern_binds
patterns_bind_cons names p ps = refl

patterns_build_cons : (names : List (List ℕ)) (p : Pattern) (ps : List Pattern) → patterns_build names (p ∷ ps) ≡ pattern_builds names p ++ patterns_build names ps
unfolding patterns_build pattern_builds
patterns_build_cons names p ps = refl

patterns_bind_nil : (names : List (List ℕ)) → patterns_bind names [] ≡ []
unfolding patterns_bind
patterns_bind_nil names = refl

patterns_build_nil : (names : List (List ℕ)) → patterns_build names [] ≡ []
unfolding patterns_build
patterns_build_nil names = refl

pub patterns_prefix : (P : Pattern → Type 0) (owner : NameId) (names : List (List ℕ)) (xs : List Pattern) (i : ℕ) (x : Pattern) (a b c : Found) → x ≡ get_or xs i x → i < length xs → All P xs
    → (P x → Finds owner names a (pattern_binds names x) (pattern_builds names x) b) → Finds owner names b (patterns_bind names (drop (i + 1) xs)) (patterns_build names (drop (i + 1) xs)) c
    → Finds owner names a (patterns_bind names (drop i xs)) (patterns_build names (drop i xs)) c
patterns_prefix P owner names =
    finds_prefix P (patterns_bind names) (patterns_build names) (pattern_binds names) (pattern_builds names) (patterns_bind_cons names) (patterns_build_cons names) owner names

pub patterns_end : (owner : NameId) (names : List (List ℕ)) (xs : List Pattern) (i : ℕ) (a : Found) → length xs ≤ i → Finds owner names a (patterns_bind names (drop i xs)) (patterns_build names (drop i xs)) a
patterns_end owner names = finds_end (patterns_bind names) (patterns_build names) (patterns_bind_nil names) (patterns_build_nil names) owner names

abbrev operand_binds : List (List ℕ) → ConstructorItem → List syntax.Name
operand_binds names item = pattern_binds names item.operand

abbrev operand_builds : List (List ℕ) → ConstructorItem → List syntax.Name
operand_builds names item = name_meaning names item.operator ∷ pattern_builds names item.operand

operands_bind_cons : (names : List (List ℕ)) (p : ConstructorItem) (ps : List ConstructorItem) → operands_bind names (p ∷ ps) ≡ operand_binds names p ++ operands_bind names ps
unfolding operands_bind pattern_binds
operands_bind_cons names p ps = refl

operands_build_cons : (names : List (List ℕ)) (p : ConstructorItem) (ps : List ConstructorItem) → operands_build names (p ∷ ps) ≡ operand_builds names p ++ operands_build names ps
unfolding operands_build pattern_builds
operands_build_cons names p ps = refl

operands_bind_nil : (names : List (List ℕ)) → operands_bind names [] ≡ []
unfolding operands_bind
operands_bind_nil names = refl

operands_build_nil : (names : List (List ℕ)) → operands_build names [] ≡ []
unfolding operands_build
operands_build_nil names = refl

pub operands_prefix : (P : ConstructorItem → Type 0) (owner : NameId) (names : List (List ℕ)) (xs : List ConstructorItem) (i : ℕ) (x : ConstructorItem) (a b c : Found) → x ≡ get_or xs i x → i < length xs → All P xs
    → (P x → Finds owner names a (operand_binds names x) (operand_builds names x) b) → Finds owner names b (operands_bind names (drop (i + 1) xs)) (operands_build names (drop (i + 1) xs)) c
    → Finds owner names a (operands_bind names (drop i xs)) (operands_build names (drop i xs)) c
operands_prefix P owner names =
    finds_prefix P (operands_bind names) (operands_build names) (operand_binds names) (operand_builds names) (operands_bind_cons names) (operands_build_cons names) owner names

pub operands_end : (owner : NameId) (names : List (List ℕ)) (xs : List ConstructorItem) (i : ℕ) (a : Found) → length xs ≤ i → Finds owner names a (operands_bind names (drop i xs)) (operands_build names (drop i xs)) a
operands_end owner names = finds_end (operands_bind names) (operands_build names) (operands_bind_nil names) (operands_build_nil names) owner names

-- ---- types

abbrev type_node_binds : List (List ℕ) → TypeNode → List syntax.Name
type_node_binds names (type_term.Variable x) = name_meaning names x ∷ []
type_node_binds names (type_term.Named t ts) = types_bind names ts.items
type_node_binds names (type_term.Function s ts t) = type_binds names s ++ (types_bind names ts.items ++ type_binds names t)
type_node_binds names (type_term.Tuple at ts) = types_bind names ts.items
type_node_binds names (type_term.List at t) = type_binds names t

abbrev type_node_builds : List (List ℕ) → TypeNode → List syntax.Name
type_node_builds names (type_term.Variable x) = []
type_node_builds names (type_term.Named t ts) = name_meaning names t ∷ types_build names ts.items
type_node_builds names (type_term.Function s ts t) = type_builds names s ++ (types_build names ts.items ++ type_builds names t)
type_node_builds names (type_term.Tuple at ts) = types_build names ts.items
type_node_builds names (type_term.List at t) = type_builds names t

parameters_bind : (names : List (List ℕ)) (ts : List TypeTerm) (r : syntax.TypeTerm) → all_type_variables (types_meaning names ts) ++ type_variables r ≡ type_variables (function_type names ts r)
parameters_bind names [] r = refl
parameters_bind names (t ∷ ts) r =
    append_assoc (type_variables (type_meaning names t)) (all_type_variables (types_meaning names ts)) (type_variables r)
    ∙ ap (λ xs. type_variables (type_meaning names t) ++ xs) (parameters_bind names ts r)

parameters_build : (names : List (List ℕ)) (ts : List TypeTerm) (r : syntax.TypeTerm) → all_type_constructors (types_meaning names ts) ++ type_constructors r ≡ type_constructors (function_type names ts r)
parameters_build names [] r = refl
parameters_build names (t ∷ ts) r =
    append_assoc (type_constructors (type_meaning names t)) (all_type_constructors (types_meaning names ts)) (type_constructors r)
    ∙ ap (λ xs. type_constructors (type_meaning names t) ++ xs) (parameters_build names ts r)

type_bound_in : (names : List (List ℕ)) (n : TypeNode) → type_node_binds names n ≡ type_variables (type_node names n)
unfolding type_binds types_bind
type_bound_in names (type_term.Variable x) = refl
type_bound_in names (type_term.Named t ts) = refl
type_bound_in names (type_term.Function s ts t) = ap (λ xs. type_variables (type_meaning names s) ++ xs) (parameters_bind names ts.items (type_meaning names t))
type_bound_in names (type_term.Tuple at ts) = refl
type_bound_in names (type_term.List at t) = refl

type_built_in : (names : List (List ℕ)) (n : TypeNode) → type_node_builds names n ≡ type_constructors (type_node names n)
unfolding type_builds types_build
type_built_in names (type_term.Variable x) = refl
type_built_in names (type_term.Named t ts) = refl
type_built_in names (type_term.Function s ts t) = ap (λ xs. type_constructors (type_meaning names s) ++ xs) (parameters_build names ts.items (type_meaning names t))
type_built_in names (type_term.Tuple at ts) = refl
type_built_in names (type_term.List at t) = refl

type_bound : (names : List (List ℕ)) (t : TypeTerm) (n : TypeNode) → type_node names n ≡ type_meaning names t → type_node_binds names n ≡ type_binds names t
unfolding type_binds
type_bound names t n meaning = type_bound_in names n ∙ ap type_variables meaning

type_built : (names : List (List ℕ)) (t : TypeTerm) (n : TypeNode) → type_node names n ≡ type_meaning names t → type_node_builds names n ≡ type_builds names t
unfolding type_builds
type_built names t n meaning = type_built_in names n ∙ ap type_constructors meaning

pub type_found : (owner : NameId) (names : List (List ℕ)) (t : TypeTerm) (v n : TypeNode) (a b : Found) → type_node names v ≡ type_meaning names t → v ≡ n
    → Finds owner names a (type_node_binds names n) (type_node_builds names n) b → Finds owner names a (type_binds names t) (type_builds names t) b
type_found owner names t v n a b meaning is found =
    let meant = ap (type_node names) (sym is) ∙ meaning in
    subst (λ xs. Finds owner names a xs (type_builds names t) b) (type_bound names t n meant)
    (subst (λ xs. Finds owner names a (type_node_binds names n) xs b) (type_built names t n meant) found)

types_bind_cons : (names : List (List ℕ)) (t : TypeTerm) (ts : List TypeTerm) → types_bind names (t ∷ ts) ≡ type_binds names t ++ types_bind names ts
unfolding types_bind type_binds
types_bind_cons names t ts = refl

types_build_cons : (names : List (List ℕ)) (t : TypeTerm) (ts : List TypeTerm) → types_build names (t ∷ ts) ≡ type_builds names t ++ types_build names ts
unfolding types_build type_builds
types_build_cons names t ts = refl

types_bind_nil : (names : List (List ℕ)) → types_bind names [] ≡ []
unfolding types_bind
types_bind_nil names = refl

types_build_nil : (names : List (List ℕ)) → types_build names [] ≡ []
unfolding types_build
types_build_nil names = refl

pub types_prefix : (P : TypeTerm → Type 0) (owner : NameId) (names : List (List ℕ)) (xs : List TypeTerm) (i : ℕ) (x : TypeTerm) (a b c : Found) → x ≡ get_or xs i x → i < length xs → All P xs
    → (P x → Finds owner names a (type_binds names x) (type_builds names x) b) → Finds owner names b (types_bind names (drop (i + 1) xs)) (types_build names (drop (i + 1) xs)) c
    → Finds owner names a (types_bind names (drop i xs)) (types_build names (drop i xs)) c
types_prefix P owner names =
    finds_prefix P (types_bind names) (types_build names) (type_binds names) (type_builds names) (types_bind_cons names) (types_build_cons names) owner names

pub types_end : (owner : NameId) (names : List (List ℕ)) (xs : List TypeTerm) (i : ℕ) (a : Found) → length xs ≤ i → Finds owner names a (types_bind names (drop i xs)) (types_build names (drop i xs)) a
types_end owner names = finds_end (types_bind names) (types_build names) (types_bind_nil names) (types_build_nil names) owner names
