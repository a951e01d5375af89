-- What walks over patterns find.
use Rattle.std.proofs.Common.{◌≡◌, ◌∙◌, ◌<◌, ◌≤◌, ◌+◌, ℕ, List, [], ◌∷◌, ◌++◌, length, drop, get_or, refl, sym, ap, subst}
use Rattle.std.proofs.lemmas.List.{append-nil, append_assoc, map-append}
use Rattle.std.proofs.lemmas.List.Elements.{All-get_or}
use Rattle.std.specs.List.{All}
use Rattle.cu_lex.specs.Located as located
use Rattle.cu_lex.specs.Reading.{position_of}
use Rattle.cu_names.specs.declared.place.Place.{Place}
use Rattle.cu_syntax.specs.declared.name.Name as code
use Rattle.cu_syntax.specs.declared.patterns.ConstructorItem.{ConstructorItem}
use Rattle.cu_syntax.specs.declared.patterns.Pattern.{Pattern}
use Rattle.cu_syntax.specs.declared.patterns.PatternNode.{PatternNode}
use Rattle.cu_syntax.specs.declared.patterns.PatternNode.TheVariants as pattern
use Rattle.cu_syntax.specs.Names.{name_meaning}
use Rattle.cu_syntax.specs.Owners.{NameIsOf}
use Rattle.cu_syntax.specs.Patterns.{pattern_meaning, pattern_node}
use Rattle.cu_syntax.specs.Syntax.{Name}
use Rattle.cu_translation.specs.declared.position.Position.{Position}
use Rattle.cu_translation.specs.Meaning.{position_meaning}
use Rattle.cu_translation.specs.Numbering.{declared_places}
use Rattle.cu_uses.specs.Binders.{pattern_variables}
use Rattle.cu_uses.specs.Gathered.{Adds, operands_bind, pattern_binds, patterns_bind}
use Rattle.cu_uses.proofs.FoundLemmas.{adds_both, adds_none, adds_one, prefix, nothing_left}
use Rattle.cu_locals.specs.declared.declared.Declared.{Declared}
use Rattle.cu_locals.specs.Text.{Text}
use Rattle.cu_locals.specs.Places.{Finds, operands_place, pattern_places, patterns_place, positions_meaning}

-- one more place
place_added : (a b : List Position) (p : Position) (at : located.Position) → b ≡ a ++ p ∷ [] → position_meaning p ≡ at → positions_meaning b ≡ positions_meaning a ++ at ∷ []
place_added a b p at pushed is =
    ap positions_meaning pushed ∙ map-append position_meaning a (p ∷ []) ∙ ap (λ q. positions_meaning a ++ q ∷ []) is

pub finds_none : (t : Text) (a : Declared) → Finds t a [] [] a
finds_none t a = record { names = adds_none t.owner t.names a.names.items; places_are = sym (append-nil (positions_meaning a.places.items)) }

pub finds_both : {t : Text} {a b c : Declared} {xs ys : List Name} {ps qs : List located.Position} → Finds t a xs ps b → Finds t b ys qs c → Finds t a (xs ++ ys) (ps ++ qs) c
finds_both {a = a} {ps = ps} {qs = qs} one two = record {
  names = adds_both one.names two.names;
  places_are = two.places_are ∙ ap (λ zs. zs ++ qs) one.places_are ∙ append_assoc (positions_meaning a.places.items) ps qs;
}

pub finds_variable : (t : Text) (a b : Declared) (x : code.Name) (p : Position) → NameIsOf t.owner t.names x → b.names.items ≡ a.names.items ++ x ∷ [] → b.places.items ≡ a.places.items ++ p ∷ []
    → position_meaning p ≡ position_of x.place → Finds t a (name_meaning t.names x ∷ []) (position_of x.place ∷ []) b
finds_variable t a b x p of names places is = record {
  names = adds_one t.owner t.names a.names.items b.names.items x of names;
  places_are = place_added a.places.items b.places.items p (position_of x.place) places is;
}

pub finds_wildcard : (t : Text) (a b : Declared) (at : Place) (p : Position) → b.names.items ≡ a.names.items → b.places.items ≡ a.places.items ++ p ∷ []
    → position_meaning p ≡ position_of at → Finds t a [] (position_of at ∷ []) b
finds_wildcard t a b at p names places is = record {
  names = subst (λ xs. Adds t.owner t.names a.names.items [] xs) (sym names) (adds_none t.owner t.names a.names.items);
  places_are = place_added a.places.items b.places.items p (position_of at) places is;
}

-- one round of a loop
finds_prefix : {X : Type 0} (P : X → Type 0) (F : List X → List Name) (G : List X → List located.Position) (f : X → List Name) (g : X → List located.Position)
    → ((x : X) (xs : List X) → F (x ∷ xs) ≡ f x ++ F xs) → ((x : X) (xs : List X) → G (x ∷ xs) ≡ g x ++ G xs)
    → (t : Text) (xs : List X) (i : ℕ) (x : X) (a b c : Declared) → x ≡ get_or xs i x → i < length xs → All P xs
    → (P x → Finds t a (f x) (g x) b) → Finds t b (F (drop (i + 1) xs)) (G (drop (i + 1) xs)) c → Finds t a (F (drop i xs)) (G (drop i xs)) c
finds_prefix P F G f g consF consG t xs i x a b c is within all here suffix =
    subst (λ ys. Finds t a ys (G (drop i xs)) c) (prefix F f consF xs i x is within)
    (subst (λ ys. Finds t a (f x ++ F (drop (i + 1) xs)) ys c) (prefix G g consG xs i x is within)
    (finds_both (here (subst P (sym is) (All-get_or P xs i x within all))) suffix))

finds_end : {X : Type 0} (F : List X → List Name) (G : List X → List located.Position) → F [] ≡ [] → G [] ≡ [] → (t : Text) (xs : List X) (i : ℕ) (a : Declared) → length xs ≤ i
    → Finds t a (F (drop i xs)) (G (drop i xs)) a
finds_end F G emptyF emptyG t xs i a past =
    subst (λ ys. Finds t a ys (G (drop i xs)) a) (sym (nothing_left F emptyF xs i past))
    (subst (λ ys. Finds t a [] ys a) (sym (nothing_left G emptyG xs i past)) (finds_none t a))

-- ---- patterns

abbrev node_binds : List (List ℕ) → PatternNode → List Name
node_binds names (pattern.Variable x) = name_meaning names x ∷ []
node_binds names (pattern.Alias x p) = name_meaning names x ∷ pattern_binds names p
node_binds names (pattern.Constructed at c ps) = patterns_bind names ps.items
node_binds names (pattern.Tuple at ps) = patterns_bind names ps.items
node_binds names (pattern.List at ps) = patterns_bind names ps.items
node_binds names (pattern.Operators items) = pattern_binds names items.first ++ operands_bind names items.rest.items
node_binds names _ = []

abbrev node_places : List (List ℕ) → PatternNode → List located.Position
node_places names (pattern.Variable x) = position_of x.place ∷ []
node_places names (pattern.Alias x p) = position_of x.place ∷ pattern_places names p
node_places names (pattern.Wildcard at) = position_of at ∷ []
node_places names (pattern.Constructed at c ps) = patterns_place names ps.items
node_places names (pattern.Tuple at ps) = patterns_place names ps.items
node_places names (pattern.List at ps) = patterns_place names ps.items
node_places names (pattern.Operators items) = pattern_places names items.first ++ operands_place names items.rest.items
node_places names _ = []

bound_in : (names : List (List ℕ)) (n : PatternNode) → node_binds names n ≡ pattern_variables (pattern_node names n)
unfolding pattern_binds patterns_bind operands_bind
bound_in names (pattern.Variable x) = refl
bound_in names (pattern.Alias x p) = refl
bound_in names (pattern.Wildcard at) = refl
bound_in names (pattern.Literal at found) = refl
bound_in names (pattern.Negative at n) = refl
bound_in names (pattern.Constructed at c ps) = refl
bound_in names (pattern.Tuple at ps) = refl
bound_in names (pattern.List at ps) = refl
bound_in names (pattern.Operators items) = refl

placed_in : (names : List (List ℕ)) (n : PatternNode) → node_places names n ≡ declared_places (pattern_node names n)
unfolding pattern_places patterns_place operands_place
placed_in names (pattern.Variable x) = refl
placed_in names (pattern.Alias x p) = refl
placed_in names (pattern.Wildcard at) = refl
placed_in names (pattern.Literal at found) = refl
placed_in names (pattern.Negative at n) = refl
placed_in names (pattern.Constructed at c ps) = refl
placed_in names (pattern.Tuple at ps) = refl
placed_in names (pattern.List at ps) = refl
placed_in names (pattern.Operators items) = refl

node_bound : (names : List (List ℕ)) (p : Pattern) (n : PatternNode) → pattern_node names n ≡ pattern_meaning names p → node_binds names n ≡ pattern_binds names p
unfolding pattern_binds
node_bound names p n meaning = bound_in names n ∙ ap pattern_variables meaning

node_placed : (names : List (List ℕ)) (p : Pattern) (n : PatternNode) → pattern_node names n ≡ pattern_meaning names p → node_places names n ≡ pattern_places names p
unfolding pattern_places
node_placed names p n meaning = placed_in names n ∙ ap declared_places meaning

-- what a pattern is found to declare, by what it is
pub pattern_found : (t : Text) (p : Pattern) (v n : PatternNode) (a b : Declared) → pattern_node t.names v ≡ pattern_meaning t.names p → v ≡ n
    → Finds t a (node_binds t.names n) (node_places t.names n) b → Finds t a (pattern_binds t.names p) (pattern_places t.names p) b
pattern_found t p v n a b meaning is found =
    let meant = ap (pattern_node t.names) (sym is) ∙ meaning in
    subst (λ xs. Finds t a xs (pattern_places t.names p) b) (node_bound t.names p n meant)
    (subst (λ xs. Finds t a (node_binds t.names n) xs b) (node_placed t.names p n meant) found)

patterns_bind_cons : (names : List (List ℕ)) (p : Pattern) (ps : List Pattern) → patterns_bind names (p ∷ ps) ≡ pattern_binds names p ++ patterns_bind names ps
unfolding patterns_bind pattern_binds
patterns_bind_cons names p ps = refl

patterns_place_cons : (names : List (List ℕ)) (p : Pattern) (ps : List Pattern) → patterns_place names (p ∷ ps) ≡ pattern_places names p ++ patterns_place names ps
unfolding patterns_place pattern_places
patterns_place_cons names p ps = refl

patterns_bind_nil : (names : List (List ℕ)) → patterns_bind names [] ≡ []
unfolding patterns_bind
patterns_bind_nil names = refl

patterns_place_nil : (names : List (List ℕ)) → patterns_place names [] ≡ []
unfolding patterns_place
patterns_place_nil names = refl

pub patterns_prefix : (P : Pattern → Type 0) (t : Text) (xs : List Pattern) (i : ℕ) (x : Pattern) (a b c : Declared) → x ≡ get_or xs i x → i < length xs → All P xs
    → (P x → Finds t a (pattern_binds t.names x) (pattern_places t.names x) b) → Finds t b (patterns_bind t.names (drop (i + 1) xs)) (patterns_place t.names (drop (i + 1) xs)) c
    → Finds t a (patterns_bind t.names (drop i xs)) (patterns_place t.names (drop i xs)) c
patterns_prefix P t =
    finds_prefix P (patterns_bind t.names) (patterns_place t.names) (pattern_binds t.names) (pattern_places t.names) (patterns_bind_cons t.names) (patterns_place_cons t.names) t

pub patterns_end : (t : Text) (xs : List Pattern) (i : ℕ) (a : Declared) → length xs ≤ i → Finds t a (patterns_bind t.names (drop i xs)) (patterns_place t.names (drop i xs)) a
patterns_end t = finds_end (patterns_bind t.names) (patterns_place t.names) (patterns_bind_nil t.names) (patterns_place_nil t.names) t

abbrev operand_binds : List (List ℕ) → ConstructorItem → List Name
operand_binds names item = pattern_binds names item.operand

abbrev operand_places : List (List ℕ) → ConstructorItem → List located.Position
operand_places names item = pattern_places names item.operand

operands_bind_cons : (names : List (List ℕ)) (p : ConstructorItem) (ps : List ConstructorItem) → operands_bind names (p ∷ ps) ≡ operand_binds names p ++ operands_bind names ps
unfolding operands_bind pattern_binds
operands_bind_cons names p ps = refl

operands_place_cons : (names : List (List ℕ)) (p : ConstructorItem) (ps : List ConstructorItem) → operands_place names (p ∷ ps) ≡ operand_places names p ++ operands_place names ps
unfolding operands_place pattern_places
operands_place_cons names p ps = refl

operands_bind_nil : (names : List (List ℕ)) → operands_bind names [] ≡ []
unfolding operands_bind
operands_bind_nil names = refl

operands_place_nil : (names : List (List ℕ)) → operands_place names [] ≡ []
unfolding operands_place
operands_place_nil names = refl

pub operands_prefix : (P : ConstructorItem → Type 0) (t : Text) (xs : List ConstructorItem) (i : ℕ) (x : ConstructorItem) (a b c : Declared) → x ≡ get_or xs i x → i < length xs → All P xs
    → (P x → Finds t a (operand_binds t.names x) (operand_places t.names x) b) → Finds t b (operands_bind t.names (drop (i + 1) xs)) (operands_place t.names (drop (i + 1) xs)) c
    → Finds t a (operands_bind t.names (drop i xs)) (operands_place t.names (drop i xs)) c
operands_prefix P t =
    finds_prefix P (operands_bind t.names) (operands_place t.names) (operand_binds t.names) (operand_places t.names) (operands_bind_cons t.names) (operands_place_cons t.names) t

pub operands_end : (t : Text) (xs : List ConstructorItem) (i : ℕ) (a : Declared) → length xs ≤ i → Finds t a (operands_bind t.names (drop i xs)) (operands_place t.names (drop i xs)) a
operands_end t = finds_end (operands_bind t.names) (operands_place t.names) (operands_bind_nil t.names) (operands_place_nil t.names) t

-- ---- what was found where nothing was before

pub names_found : (t : Text) (a b : Declared) (binds : List Name) (places : List located.Position) → a.names.items ≡ [] → Finds t a binds places b → Adds t.owner t.names [] binds b.names.items
names_found t a b binds places none found = subst (λ xs. Adds t.owner t.names xs binds b.names.items) none found.names

pub places_found : (t : Text) (a b : Declared) (binds : List Name) (places : List located.Position) → a.places.items ≡ [] → Finds t a binds places b → positions_meaning b.places.items ≡ places
places_found t a b binds places none found = found.places_are ∙ ap (λ xs. positions_meaning xs ++ places) none
