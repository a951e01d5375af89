-- Names that are looked up by their numbers, and by their texts.
use Rattle.std.proofs.Common.{◌≡◌, ◌∙◌, ℕ, Bool, true, false, List, [], ◌∷◌, ◌++◌, Option, None, Some, refl, sym, ap, subst, if◌then◌else◌}
use Rattle.std.proofs.lemmas.List.{map-append}
use Rattle.std.proofs.lemmas.List.Elements.{All-append, All-head, All-tail}
use Rattle.std.specs.List.{All}
use Rattle.std.specs.Option.{option_map}
use Rattle.std.specs.Prelude.{is_none, nat_eq}
use Rattle.std.specs.Str.{bytes_eq}
use Rattle.cu_entities.proofs.NameLemmas.{same_name}
use Rattle.cu_names.specs.Texts.{AllDiffer, IsKnown, text_of}
use Rattle.cu_names.specs.declared.names.NameId.{NameId}
use Rattle.cu_syntax.specs.Names.{name_meaning}
use Rattle.cu_syntax.specs.declared.name.Name as code
use denote.Ref.{Bor}
use Rattle.cu_locals.specs.Entries.{AreEntries}
use Rattle.cu_locals.specs.Text.{text}
use Rattle.cu_forms.specs.Scopes.{EntryIsKnown, Sees, entries_in, entries_in-Inside, entries_in-Outermost, meaning_in}
use Rattle.cu_forms.specs.declared.scope.Scope.TheVariants as scope
use Rattle.cu_translation.specs.declared.local_names.Local.{Local}
use Rattle.cu_forms.specs.declared.scope.Scope.{Scope}
use Rattle.cu_translation.specs.declared.local_names.Entry.{Entry}
use Rattle.cu_translation.specs.LocalNames as definitions
use Rattle.cu_translation.specs.LocalNames.{entry_called, local_named}
use Rattle.cu_translation.specs.Meaning.{Setting, entries_meaning, entry_meaning, local_meaning}

meant_first : (names : List (List ℕ)) (e : Entry) (entries : List Entry) (text : NameId) (b : Bool)
    → nat_eq e.text.0 text.0 ≡ b → bytes_eq (text_of names e.text) (text_of names text) ≡ b
    → option_map local_meaning (meaning_in text entries) ≡ entry_called (text_of names text) (entries_meaning names entries)
    → option_map local_meaning (meaning_in text (e ∷ entries)) ≡ entry_called (text_of names text) (entries_meaning names (e ∷ entries))
meant_first names e entries text true by_number by_text rest = rw (by_number, by_text) refl
meant_first names e entries text false by_number by_text rest = rw (by_number, by_text) rest

meant : (names : List (List ℕ)) (entries : List Entry) (text : NameId) → AllDiffer names → IsKnown names text → All (EntryIsKnown names) entries
    → option_map local_meaning (meaning_in text entries) ≡ entry_called (text_of names text) (entries_meaning names entries)
meant names [] text differ known all = refl
meant names (e ∷ entries) text differ known all =
    meant_first names e entries text (nat_eq e.text.0 text.0) refl
    (sym (same_name names e.text text differ (All-head (EntryIsKnown names) e entries all) known))
    (meant names entries text differ known (All-tail (EntryIsKnown names) e entries all))

pub meant_locally : (w : Setting) (local : definitions.Scope) (s : Scope) (text : NameId) → Sees w local s → IsKnown w.names text
    → option_map local_meaning (meaning_in text (entries_in s)) ≡ entry_called (text_of w.names text) local
meant_locally w local s text sees known =
    meant w.names (entries_in s) text sees.differ known sees.known ∙ ap (entry_called (text_of w.names text)) sees.entries

pub qualified : (names : List (List ℕ)) (local : definitions.Scope) (name : code.Name) (q : NameId) → name.qualifier ≡ Some q
    → None ≡ local_named local (name_meaning names name)
qualified names local name q e =
    ap (λ (o : Option NameId). if is_none (option_map (text_of names) o) then entry_called (text_of names name.text) local else None) (sym e)

pub unqualified : (names : List (List ℕ)) (local : definitions.Scope) (name : code.Name) → name.qualifier ≡ None
    → entry_called (text_of names name.text) local ≡ local_named local (name_meaning names name)
unqualified names local name e =
    ap (λ (o : Option NameId). if is_none (option_map (text_of names) o) then entry_called (text_of names name.text) local else None) (sym e)

-- what an inner scope means, and else the one around it
found_first : (text : NameId) (e : Entry) (xs ys : List Entry) (l : Local) (b : Bool) → nat_eq e.text.0 text.0 ≡ b
    → Some l ≡ (if b then Some e.means else meaning_in text xs)
    → (Some l ≡ meaning_in text xs → Some l ≡ meaning_in text (xs ++ ys)) → Some l ≡ (if b then Some e.means else meaning_in text (xs ++ ys))
found_first text e xs ys l true by is rest = is
found_first text e xs ys l false by is rest = rest is

found_in_prefix : (text : NameId) (xs ys : List Entry) (l : Local) → Some l ≡ meaning_in text xs → Some l ≡ meaning_in text (xs ++ ys)
found_in_prefix text [] ys l e = let no : ⊥ = cc in absurd no
found_in_prefix text (x ∷ xs) ys l e = found_first text x xs ys l (nat_eq x.text.0 text.0) refl e (found_in_prefix text xs ys l)

missing_first : (text : NameId) (e : Entry) (xs ys : List Entry) (b : Bool) → None ≡ (if b then Some e.means else meaning_in text xs)
    → (None ≡ meaning_in text xs → meaning_in text (xs ++ ys) ≡ meaning_in text ys) → (if b then Some e.means else meaning_in text (xs ++ ys)) ≡ meaning_in text ys
missing_first text e xs ys true is rest = let no : ⊥ = cc in absurd no
missing_first text e xs ys false is rest = rest is

missing_in_prefix : (text : NameId) (xs ys : List Entry) → None ≡ meaning_in text xs → meaning_in text (xs ++ ys) ≡ meaning_in text ys
missing_in_prefix text [] ys e = refl
missing_in_prefix text (x ∷ xs) ys e = missing_first text x xs ys (nat_eq x.text.0 text.0) e (missing_in_prefix text xs ys)

pub found_outermost : (text : NameId) (s : Scope) (entries : Bor (List Entry)) → s ≡ scope.Outermost entries → meaning_in text entries.now ≡ meaning_in text (entries_in s)
found_outermost text s entries is = ap (meaning_in text) (sym (ap entries_in is ∙ entries_in-Outermost entries))

pub found_inside : (text : NameId) (s : Scope) (entries : Bor (List Entry)) (around : Bor Scope) (l : Local) → s ≡ scope.Inside entries around
    → Some l ≡ meaning_in text entries.now → Some l ≡ meaning_in text (entries_in s)
found_inside text s entries around l is e =
    found_in_prefix text entries.now (entries_in around.now) l e ∙ ap (meaning_in text) (sym (ap entries_in is ∙ entries_in-Inside entries around))

pub missing_inside : (text : NameId) (s : Scope) (entries : Bor (List Entry)) (around : Bor Scope) (r : Option Local) → s ≡ scope.Inside entries around
    → None ≡ meaning_in text entries.now → r ≡ meaning_in text (entries_in around.now) → r ≡ meaning_in text (entries_in s)
missing_inside text s entries around r is e found =
    found ∙ sym (missing_in_prefix text entries.now (entries_in around.now) e) ∙ ap (meaning_in text) (sym (ap entries_in is ∙ entries_in-Inside entries around))

-- one more level of names
pub sees_inside : (w : Setting) (local more : definitions.Scope) (around inner : Scope) (entries : List Entry) → Sees w local around
    → All (EntryIsKnown w.names) entries → entries_meaning w.names entries ≡ more → entries_in inner ≡ entries ++ entries_in around
    → Sees w (more ++ local) inner
sees_inside w local more around inner entries sees known meant is = record {
  differ = sees.differ;
  known = subst (All (EntryIsKnown w.names)) (sym is) (All-append (EntryIsKnown w.names) entries (entries_in around) known sees.known);
  entries = ap (entries_meaning w.names) is ∙ map-append (entry_meaning w.names) entries (entries_in around)
      ∙ ap (λ xs. xs ++ entries_meaning w.names (entries_in around)) meant ∙ ap (λ xs. more ++ xs) sees.entries;
}

-- the same, of names that patterns or blocks declare
pub sees_entries : (w : Setting) (local more : definitions.Scope) (around inner : Scope) (entries : List Entry) (sees : Sees w local around)
    → AreEntries (text w.owner w.names sees.differ) more entries → entries_in inner ≡ entries ++ entries_in around → Sees w (more ++ local) inner
sees_entries w local more around inner entries sees are is = sees_inside w local more around inner entries sees are.known are.meaning is
