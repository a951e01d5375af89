-- Tables of signatures, with one more after others.
use Rattle.std.proofs.Common.{◌≡◌, ◌∙◌, ◌+◌, ◌<◌, cond, ℕ, Bool, true, false, ◌||◌, List, [], ◌∷◌, ◌++◌, Option, None, Some, refl, sym, ap, subst, get_or, length, map, take, if◌then◌else◌}
use Rattle.std.proofs.lemmas.List.{map_more}
use Rattle.std.proofs.lemmas.List.Folds.{list_any-append}
use Rattle.std.specs.List.{list_any}
use Rattle.std.specs.Option.{option_map, unwrap_or}
use Rattle.std.specs.Prelude.{IfSome, nat_eq}
use Rattle.std.specs.Str.{bytes_eq}
use Rattle.std.specs.declared.alloc.Global.{Global}
use Rattle.std.specs.declared.vec.Vec.{Vec}
use Rattle.cu_names.specs.declared.names.NameId.{NameId}
use Rattle.cu_names.specs.declared.place.Place.{Place}
use Rattle.cu_names.specs.Texts.{AllDiffer, IsKnown, text_of}
use Rattle.cu_syntax.specs.Answer.{item_meaning}
use Rattle.cu_syntax.specs.Declarations.{declaration_node}
use Rattle.cu_syntax.specs.declared.declarations.DeclarationNode.{DeclarationNode}
use Rattle.cu_syntax.specs.declared.declarations.DeclarationNode.TheVariants as declarations
use Rattle.cu_syntax.specs.declared.declarations.Declaration as declaration_code
use Rattle.cu_syntax.specs.declared.items.ItemNode.{ItemNode}
use Rattle.cu_syntax.specs.declared.items.ItemNode.TheVariants as node
use Rattle.cu_syntax.specs.declared.name.Name as name_code
use Rattle.cu_syntax.specs.declared.text.Item as texts
use Rattle.cu_syntax.specs.declared.types.TypeTerm as code
use Rattle.cu_syntax.specs.Items.{item_node}
use Rattle.cu_syntax.specs.Names.{name_meaning}
use Rattle.cu_syntax.specs.Owners.{TypeIsOf}
use Rattle.cu_syntax.specs.Syntax.{Declaration, Item, Name, TypeTerm}
use Rattle.cu_syntax.specs.Types.{type_meaning}
use Rattle.cu_toplevel.specs.declared.signature_table.Signatures.{Signatures}
use Rattle.cu_toplevel.specs.Inside.SignatureTables.{AreSignatures, GivesSignatures, and_one, and_several}
use Rattle.cu_translation.specs.LocalFunctions.{or_else, signature_in}
use Rattle.cu_translation.specs.Parts.{signature_by, signature_of}
use Rattle.cu_toplevel.proofs.NameLemmas.{same_id, same_name}

-- ---- what is told

pub or_none : (a : Option TypeTerm) → a ≡ or_else a None
or_none None = refl
or_none (Some t) = refl

or_either : (a : Option TypeTerm) (t : TypeTerm) (p q : Bool) → or_else (or_else a (if p then Some t else None)) (if q then Some t else None) ≡ or_else a (if p || q then Some t else None)
or_either (Some s) t p q = refl
or_either None t true q = refl
or_either None t false q = refl

or_regrouped : (a b c : Option TypeTerm) → or_else (or_else a b) c ≡ or_else a (or_else b c)
or_regrouped None b c = refl
or_regrouped (Some t) b c = refl

pub gives_same : (owner : NameId) (names : List (List ℕ)) (told other : List ℕ → Option TypeTerm) (found : NameId → Option code.TypeTerm) → ((text : List ℕ) → told text ≡ other text)
    → GivesSignatures owner names told found → GivesSignatures owner names other found
gives_same owner names told other found same gives = record { each = λ id known. gives.each id known ∙ same (text_of names id); owned = gives.owned }

pub are_same : (owner : NameId) (names : List (List ℕ)) (told other : List ℕ → Option TypeTerm) (s : Signatures) → ((text : List ℕ) → told text ≡ other text)
    → AreSignatures owner names told s → AreSignatures owner names other s
are_same owner names told other s same has = record { gives = gives_same owner names told other _ same has.gives }

-- ---- one name more

pub one_more : (owner : NameId) (names : List (List ℕ)) (told : List ℕ → Option TypeTerm) (function : NameId) (declared first : code.TypeTerm) (old new : NameId → Option code.TypeTerm)
    → AllDiffer names → IsKnown names function → TypeIsOf owner names declared → GivesSignatures owner names told old → first ≡ unwrap_or (old function) declared
    → ((id : NameId) → new id ≡ cond (nat_eq function.0 id.0) (Some first) (old id)) → GivesSignatures owner names (and_one (text_of names function) (type_meaning names declared) told) new
one_more owner names told function declared first old new differ known own gives is updates = record { each = each; owned = owned }
  where
    t : TypeTerm
    t = type_meaning names declared

    at : (id : NameId) (h : Bool) → nat_eq function.0 id.0 ≡ h → cond h (Some first) (old id) ≡ cond h (Some (unwrap_or (old id) declared)) (old id)
    at id true here = ap Some (is ∙ ap (λ (k : NameId). unwrap_or (old k) declared) (same_id function id here))
    at id false here = refl

    new_at : (id : NameId) → new id ≡ cond (nat_eq function.0 id.0) (Some (unwrap_or (old id) declared)) (old id)
    new_at id = updates id ∙ at id (nat_eq function.0 id.0) refl

    row : (o : Option code.TypeTerm) (s : Option TypeTerm) (h : Bool) → option_map (type_meaning names) o ≡ s
        → option_map (type_meaning names) (cond h (Some (unwrap_or o declared)) o) ≡ or_else s (if h then Some t else None)
    row None s true is = ap (λ s. or_else s (Some t)) is
    row None s false is = ap (λ s. or_else s None) is
    row (Some d) s true is = ap (λ s. or_else s (Some t)) is
    row (Some d) s false is = ap (λ s. or_else s None) is

    each : (id : NameId) → IsKnown names id → option_map (type_meaning names) (new id) ≡ and_one (text_of names function) t told (text_of names id)
    each id has =
        ap (option_map (type_meaning names)) (new_at id) ∙ row (old id) (told (text_of names id)) (nat_eq function.0 id.0) (gives.each id has)
        ∙ ap (λ h. or_else (told (text_of names id)) (if h then Some t else None)) (same_name names function id differ known has)

    owned_by : (o : Option code.TypeTerm) (h : Bool) → IfSome o (TypeIsOf owner names) → IfSome (cond h (Some (unwrap_or o declared)) o) (TypeIsOf owner names)
    owned_by None true has = own
    owned_by None false has = has
    owned_by (Some d) true has = has
    owned_by (Some d) false has = has

    owned : (id : NameId) → IsKnown names id → IfSome (new id) (TypeIsOf owner names)
    owned id has = subst (λ (o : Option code.TypeTerm). IfSome o (TypeIsOf owner names)) (sym (new_at id)) (owned_by (old id) (nat_eq function.0 id.0) (gives.owned id has))

-- ---- several names

pub no_name : (owner : NameId) (names : List (List ℕ)) (t : TypeTerm) (told : List ℕ → Option TypeTerm) (s : Signatures) → AreSignatures owner names told s
    → AreSignatures owner names (and_several [] t told) s
no_name owner names t told s has = are_same owner names told (and_several [] t told) s (λ text. or_none (told text)) has

pub name_more : (owner : NameId) (names : List (List ℕ)) (t : TypeTerm) (told : List ℕ → Option TypeTerm) (xs : List name_code.Name) (i : ℕ) (d : name_code.Name) (s : Signatures) → i < length xs
    → AreSignatures owner names (and_one (text_of names (get_or xs i d).text) t (and_several (map (name_meaning names) (take i xs)) t told)) s
    → AreSignatures owner names (and_several (map (name_meaning names) (take (i + 1) xs)) t told) s
name_more owner names t told xs i d s within has =
    are_same owner names (and_one (text_of names (get_or xs i d).text) t (and_several done t told)) (and_several (map (name_meaning names) (take (i + 1) xs)) t told) s same has
  where
    done : List Name
    done = map (name_meaning names) (take i xs)

    x : Name
    x = name_meaning names (get_or xs i d)

    same : (text : List ℕ) → and_one x.text t (and_several done t told) text ≡ and_several (map (name_meaning names) (take (i + 1) xs)) t told text
    same text =
        let test : Name → Bool = λ x. bytes_eq x.text text in
        or_either (told text) t (list_any test done) (bytes_eq x.text text)
        ∙ ap (λ h. or_else (told text) (if h then Some t else None))
        (last (list_any test done) (bytes_eq x.text text) ∙ sym (list_any-append test done (x ∷ [])) ∙ ap (list_any test) (sym (map_more (name_meaning names) xs i d within)))
      where
        last : (p q : Bool) → p || q ≡ p || (q || false)
        last true q = refl
        last false true = refl
        last false false = refl

-- ---- declarations and items that are no signatures

pub other_declaration : (names : List (List ℕ)) (d : Declaration) (n : DeclarationNode) (text : List ℕ) → declaration_node names n ≡ d
    → ((at : Place) (functions : Vec name_code.Name Global) (t : code.TypeTerm) → n ≡ declarations.Signature at functions t → ⊥) → None ≡ signature_in text d
other_declaration names d (declarations.FreeVariables at xs) text is never = ap (signature_in text) is
other_declaration names d (declarations.Signature at xs t) text is never = absurd (never at xs t refl)
other_declaration names d (declarations.FunctionRule at x ps right) text is never = ap (signature_in text) is
other_declaration names d (declarations.PatternBinding at p right) text is never = ap (signature_in text) is

pub other_item : (names : List (List ℕ)) (i : Item) (n : ItemNode) (text : List ℕ) → item_node names n ≡ i → ((d : declaration_code.Declaration) → n ≡ node.Declaration d → ⊥) → None ≡ signature_by text i
other_item names i (node.Import found) text is never = ap (signature_by text) is
other_item names i (node.Fixity at side level xs) text is never = ap (signature_by text) is
other_item names i (node.Data at x ps cs) text is never = ap (signature_by text) is
other_item names i (node.Synonym at x ps t) text is never = ap (signature_by text) is
other_item names i (node.Declaration d) text is never = absurd (never d refl)

pub nothing_more : (owner : NameId) (names : List (List ℕ)) (told more : List ℕ → Option TypeTerm) (s : Signatures) → ((text : List ℕ) → None ≡ more text) → AreSignatures owner names told s
    → AreSignatures owner names (λ text. or_else (told text) (more text)) s
nothing_more owner names told more s none has =
    are_same owner names told (λ text. or_else (told text) (more text)) s (λ text. or_none (told text) ∙ ap (or_else (told text)) (none text)) has

-- ---- all items

signature_after : (text : List ℕ) (done : List Item) (i : Item) → or_else (signature_of text done) (signature_by text i) ≡ signature_of text (done ++ i ∷ [])
signature_after text [] i = or_none (signature_by text i)
signature_after text (x ∷ done) i = or_regrouped (signature_by text x) (signature_of text done) (signature_by text i) ∙ ap (or_else (signature_by text x)) (signature_after text done i)

pub item_more : (owner : NameId) (names : List (List ℕ)) (items : List texts.Item) (i : ℕ) (item : texts.Item) (s : Signatures) → i < length items → item ≡ get_or items i item
    → AreSignatures owner names (λ text. or_else (signature_of text (map (item_meaning names) (take i items))) (signature_by text (item_meaning names item))) s
    → AreSignatures owner names (λ text. signature_of text (map (item_meaning names) (take (i + 1) items))) s
item_more owner names items i item s within here has =
    let done = map (item_meaning names) (take i items) in
    are_same owner names (λ text. or_else (signature_of text done) (signature_by text (item_meaning names item))) (λ text. signature_of text (map (item_meaning names) (take (i + 1) items))) s
    (λ text. signature_after text done (item_meaning names item)
    ∙ ap (signature_of text) (sym (map_more (item_meaning names) items i item within ∙ ap (λ x. done ++ item_meaning names x ∷ []) (sym here)))) has
