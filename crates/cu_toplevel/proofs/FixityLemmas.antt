-- Tables of fixities, with one declaration or one module more.
use Rattle.std.proofs.Common.{◌≡◌, ◌∙◌, ◌+◌, ◌<◌, cond, ℕ, Bool, true, false, List, [], ◌∷◌, ◌++◌, Option, None, Some, refl, sym, ap, subst, append-nil, append_assoc, get_or, length, map, take}
use Rattle.std.proofs.lemmas.Bool.{both_ways}
use Rattle.std.proofs.lemmas.List.{flat_map_more, map-append, map_more}
use Rattle.std.specs.List.{All, find, flat_map}
use Rattle.std.specs.Option.{option_map, unwrap_or}
use Rattle.std.specs.Prelude.{is_some, nat_eq}
use Rattle.std.specs.Str.{bytes_eq}
use Rattle.cu_fixity.specs.declared.fixity.Fixity.{Fixity}
use Rattle.cu_modules.specs.Scopes.{Named}
use Rattle.std.specs.declared.alloc.Global.{Global}
use Rattle.std.specs.declared.vec.Vec.{Vec}
use Rattle.cu_names.specs.declared.names.NameId.{NameId}
use Rattle.cu_names.specs.declared.place.Place.{Place}
use Rattle.cu_syntax.specs.Answer.{item_meaning}
use Rattle.cu_syntax.specs.declared.items.ItemNode.{ItemNode}
use Rattle.cu_syntax.specs.declared.items.ItemNode.TheVariants as node
use Rattle.cu_syntax.specs.declared.items.Side.{Side}
use Rattle.cu_syntax.specs.declared.name.Name as code
use Rattle.cu_syntax.specs.declared.text.Item as texts
use Rattle.cu_syntax.specs.Items.{item_node}
use Rattle.cu_syntax.specs.Names.{name_meaning}
use Rattle.cu_syntax.specs.Owners.{NameIsOf}
use Rattle.cu_syntax.specs.Syntax.{Item, Name}
use Rattle.cu_names.specs.Texts.{AllDiffer, IsKnown, text_of}
use Rattle.cu_toplevel.specs.declared.fixities.ModuleFixities.{ModuleFixities}
use Rattle.cu_toplevel.specs.FixityTables.{Declares, GivesFixities, GivesModules, first_declared, fixity_there, is_declared, is_named}
use Rattle.cu_translation.specs.ModuleNames.{Declared, declaration, fixities_by, fixities_in, fixity_declared}
use Rattle.cu_toplevel.proofs.NameLemmas.{same_id, same_name}

abbrev or_this : {A : Type 0} → Option A → Option A → Option A
or_this None other = other
or_this (Some x) other = Some x

find_more : {A : Type 0} (p : A → Bool) (xs : List A) (x : A) → find p (xs ++ x ∷ []) ≡ or_this (find p xs) (cond (p x) (Some x) None)
find_more p [] x = refl
find_more p (y ∷ xs) x = by (find_more p xs x) (p y)
  where
    by : find p (xs ++ x ∷ []) ≡ or_this (find p xs) (cond (p x) (Some x) None)
        → (b : Bool) → cond b (Some y) (find p (xs ++ x ∷ [])) ≡ or_this (cond b (Some y) (find p xs)) (cond (p x) (Some x) None)
    by more true = refl
    by more false = more

-- ---- the declarations of a module

abbrev pub entry : List ℕ → Fixity → Declared
entry operator fixity = record { operator = operator; fixity = fixity }

row : (f : Option Declared) (d : Declared) (h : Bool) (o : Option Fixity) → o ≡ option_map (λ (d : Declared). d.fixity) f
    → cond h (Some (unwrap_or o d.fixity)) o ≡ option_map (λ (d : Declared). d.fixity) (or_this f (cond h (Some d) None))
row None d true o is = ap (λ o. Some (unwrap_or o d.fixity)) is
row None d false o is = is
row (Some g) d true o is = ap (λ o. Some (unwrap_or o d.fixity)) is
row (Some g) d false o is = is

pub fixity_more : (names : List (List ℕ)) (ds : List Declared) (operator : NameId) (fixity found : Fixity) (old new : NameId → Option Fixity)
    → AllDiffer names → IsKnown names operator → GivesFixities names ds old → found ≡ unwrap_or (old operator) fixity
    → ((id : NameId) → new id ≡ cond (nat_eq operator.0 id.0) (Some found) (old id))
    → GivesFixities names (ds ++ entry (text_of names operator) fixity ∷ []) new
fixity_more names ds operator fixity found old new differ known gives is updates = record { each = each }
  where
    d : Declared
    d = entry (text_of names operator) fixity

    at : (id : NameId) (h : Bool) → nat_eq operator.0 id.0 ≡ h → cond h (Some found) (old id) ≡ cond h (Some (unwrap_or (old id) fixity)) (old id)
    at id true here = ap Some (is ∙ ap (λ (k : NameId). unwrap_or (old k) fixity) (same_id operator id here))
    at id false here = refl

    each : (id : NameId) → IsKnown names id → new id ≡ first_declared (text_of names id) (ds ++ d ∷ [])
    each id has =
        updates id ∙ at id (nat_eq operator.0 id.0) refl
        ∙ row (find (is_declared (text_of names id)) ds) d (nat_eq operator.0 id.0) (old id) (gives.each id has)
        ∙ ap (λ h. option_map (λ (d : Declared). d.fixity) (or_this (find (is_declared (text_of names id)) ds) (cond h (Some d) None))) (same_name names operator id differ known has)
        ∙ ap (option_map (λ (d : Declared). d.fixity)) (sym (find_more (is_declared (text_of names id)) ds d))

-- ---- modules

-- a module whose name another has before
kept_find : (names : List (List ℕ)) (modules : List Named) (m : Named) (name : NameId) (found : NameId → Option ModuleFixities) → AllDiffer names → IsKnown names name → m.name ≡ text_of names name
    → GivesModules names modules found → is_some (found name) ≡ true → (owner : NameId) → IsKnown names owner
    → find (is_named (text_of names owner)) modules ≡ find (is_named (text_of names owner)) (modules ++ m ∷ [])
kept_find names modules m name found differ known is gives there owner has =
    by (find (is_named (text_of names owner)) modules) refl (is_named (text_of names owner) m) refl ∙ sym (find_more (is_named (text_of names owner)) modules m)
  where
    by : (f : Option Named) → find (is_named (text_of names owner)) modules ≡ f → (h : Bool) → is_named (text_of names owner) m ≡ h → f ≡ or_this f (cond h (Some m) None)
    by (Some n) at h here = refl
    by None at false here = refl
    by None at true here =
        let same : name ≡ owner = same_id name owner (same_name names name owner differ known has ∙ ap (λ t. bytes_eq t (text_of names owner)) (sym is) ∙ here) in
        let none : is_some (found name) ≡ false = ap (λ (o : NameId). is_some (found o)) same ∙ gives.there owner has ∙ ap (λ (f : Option Named). is_some f) at in
        absurd (both_ways (is_some (found name)) none there)

pub module_kept : (names : List (List ℕ)) (modules : List Named) (m : Named) (name : NameId) (found : NameId → Option ModuleFixities) → AllDiffer names → IsKnown names name → m.name ≡ text_of names name
    → GivesModules names modules found → is_some (found name) ≡ true → GivesModules names (modules ++ m ∷ []) found
module_kept names modules m name found differ known is gives there = record {
  there = λ owner has. gives.there owner has ∙ ap (λ (f : Option Named). is_some f) (kept_find names modules m name found differ known is gives there owner has);
  each = λ owner id has has_id.
      gives.each owner id has has_id ∙ ap (fixity_declared (text_of names id)) (kept_find names modules m name found differ known is gives there owner has);
}

pub module_more : (names : List (List ℕ)) (modules : List Named) (m : Named) (name : NameId) (f : ModuleFixities) (old new : NameId → Option ModuleFixities)
    → AllDiffer names → IsKnown names name → m.name ≡ text_of names name → GivesModules names modules old → is_some (old name) ≡ false → Declares names (fixities_in m) f
    → ((id : NameId) → new id ≡ cond (nat_eq name.0 id.0) (Some f) (old id)) → GivesModules names (modules ++ m ∷ []) new
module_more names modules m name f old new differ known is gives lacks declares updates = record { there = there; each = each }
  where
    here_is : (owner : NameId) → IsKnown names owner → nat_eq name.0 owner.0 ≡ is_named (text_of names owner) m
    here_is owner has = same_name names name owner differ known has ∙ ap (λ t. bytes_eq t (text_of names owner)) (sym is)

    lacks_at : (owner : NameId) → IsKnown names owner → nat_eq name.0 owner.0 ≡ true → is_some (find (is_named (text_of names owner)) modules) ≡ false
    lacks_at owner has here = sym (gives.there owner has) ∙ ap (λ (o : NameId). is_some (old o)) (sym (same_id name owner here)) ∙ lacks

    there_by : (owner : NameId) → IsKnown names owner → (h : Bool) → nat_eq name.0 owner.0 ≡ h → (g : Option Named) → find (is_named (text_of names owner)) modules ≡ g
        → is_some (cond h (Some f) (old owner)) ≡ is_some (or_this g (cond h (Some m) None))
    there_by owner has true here (Some n) at = refl
    there_by owner has true here None at = refl
    there_by owner has false here (Some n) at = gives.there owner has ∙ ap (λ (f : Option Named). is_some f) at
    there_by owner has false here None at = gives.there owner has ∙ ap (λ (f : Option Named). is_some f) at

    there : (owner : NameId) → IsKnown names owner → is_some (new owner) ≡ is_some (find (is_named (text_of names owner)) (modules ++ m ∷ []))
    there owner has =
        ap (λ (o : Option ModuleFixities). is_some o) (updates owner)
        ∙ there_by owner has (nat_eq name.0 owner.0) refl (find (is_named (text_of names owner)) modules) refl
        ∙ ap (λ h. is_some (or_this (find (is_named (text_of names owner)) modules) (cond h (Some m) None))) (here_is owner has)
        ∙ ap (λ (f : Option Named). is_some f) (sym (find_more (is_named (text_of names owner)) modules m))

    each_by : (owner id : NameId) → IsKnown names owner → IsKnown names id → (h : Bool) → nat_eq name.0 owner.0 ≡ h → (g : Option Named) → find (is_named (text_of names owner)) modules ≡ g
        → fixity_there (cond h (Some f) (old owner)) id ≡ fixity_declared (text_of names id) (or_this g (cond h (Some m) None))
    each_by owner id has has_id true here (Some n) at =
        absurd (both_ways (is_some (find (is_named (text_of names owner)) modules)) (lacks_at owner has here) (ap (λ (f : Option Named). is_some f) at))
    each_by owner id has has_id true here None at = declares.gives.each id has_id
    each_by owner id has has_id false here (Some n) at = gives.each owner id has has_id ∙ ap (fixity_declared (text_of names id)) at
    each_by owner id has has_id false here None at = gives.each owner id has has_id ∙ ap (fixity_declared (text_of names id)) at

    each : (owner id : NameId) → IsKnown names owner → IsKnown names id
        → fixity_there (new owner) id ≡ fixity_declared (text_of names id) (find (is_named (text_of names owner)) (modules ++ m ∷ []))
    each owner id has has_id =
        ap (λ (o : Option ModuleFixities). fixity_there o id) (updates owner)
        ∙ each_by owner id has has_id (nat_eq name.0 owner.0) refl (find (is_named (text_of names owner)) modules) refl
        ∙ ap (λ h. fixity_declared (text_of names id) (or_this (find (is_named (text_of names owner)) modules) (cond h (Some m) None))) (here_is owner has)
        ∙ ap (fixity_declared (text_of names id)) (sym (find_more (is_named (text_of names owner)) modules m))

-- ---- one item, and all items

pub operator_more : (owner : NameId) (names : List (List ℕ)) (before : List Declared) (side : Side) (level : ℕ) (operators : List code.Name) (i : ℕ) (d : code.Name) (old new : ModuleFixities)
    → i < length operators → All (NameIsOf owner names) operators
    → ((all : List Declared) → IsKnown names (get_or operators i d).text → Declares names all old
    → Declares names (all ++ entry (text_of names (get_or operators i d).text) (record { side = side; level = level }) ∷ []) new)
    → Declares names (before ++ map (declaration side level) (map (name_meaning names) (take i operators))) old
    → Declares names (before ++ map (declaration side level) (map (name_meaning names) (take (i + 1) operators))) new
operator_more owner names before side level operators i d old new within owned adds has =
    let f : Name → Declared = declaration side level in
    let x = get_or operators i d in
    let done = map f (map (name_meaning names) (take i operators)) in
    let e = entry (text_of names x.text) (record { side = side; level = level }) in
    let more : map f (map (name_meaning names) (take (i + 1) operators)) ≡ done ++ e ∷ [] =
    ap (map f) (map_more (name_meaning names) operators i d within) ∙ map-append f (map (name_meaning names) (take i operators)) (name_meaning names x ∷ []) in
    subst (λ (ds : List Declared). Declares names ds new) (append_assoc before done (e ∷ []) ∙ ap (λ ds. before ++ ds) (sym more)) (adds (before ++ done) (owned i d within).text has)

pub no_operator : (names : List (List ℕ)) (before : List Declared) (f : ModuleFixities) → Declares names before f → Declares names (before ++ []) f
no_operator names before f has = subst (λ (ds : List Declared). Declares names ds f) (sym (append-nil before)) has

pub other_fixities : (names : List (List ℕ)) (item : Item) (n : ItemNode) → item_node names n ≡ item
    → ((at : Place) (side : Side) (level : ℕ) (operators : Vec code.Name Global) → n ≡ node.Fixity at side level operators → ⊥)
    → [] ≡ fixities_by item
other_fixities names item (node.Import i) is not_fixity = ap fixities_by is
other_fixities names item (node.Fixity at side level operators) is not_fixity = absurd (not_fixity at side level operators refl)
other_fixities names item (node.Data at name ps cs) is not_fixity = ap fixities_by is
other_fixities names item (node.Synonym at name ps t) is not_fixity = ap fixities_by is
other_fixities names item (node.Declaration d) is not_fixity = ap fixities_by is

pub items_more : (names : List (List ℕ)) (items : List texts.Item) (i : ℕ) (item : texts.Item) (new : ModuleFixities) → i < length items → item ≡ get_or items i item
    → Declares names (flat_map fixities_by (map (item_meaning names) (take i items)) ++ fixities_by (item_meaning names item)) new
    → Declares names (flat_map fixities_by (map (item_meaning names) (take (i + 1) items))) new
items_more names items i item new within here has =
    let done = map (item_meaning names) (take i items) in
    subst (λ (ds : List Declared). Declares names ds new)
    (flat_map_more fixities_by [] done (item_meaning names item)
    ∙ ap (flat_map fixities_by) (sym (map_more (item_meaning names) items i item within ∙ ap (λ x. done ++ item_meaning names x ∷ []) (sym here)))) has
