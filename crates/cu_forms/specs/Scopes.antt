-- What a scope of the code stands for.
use Rattle.std.specs.Prelude.{◌≡◌, ℕ, List, [], ◌∷◌, ◌++◌, Option, None, Some, if◌then◌else◌, nat_eq}
use Rattle.std.specs.List.{All}
use Rattle.std.proofs.Common.{sym, ap, ◌∙◌}
use denote.Ref.{Bor}
use Rattle.cu_names.specs.Texts.{AllDiffer, IsKnown}
use Rattle.cu_names.specs.declared.names.NameId.{NameId}
use Rattle.cu_forms.specs.declared.scope.Scope.TheFolds.{fold-Scope, fold-roll-Scope}
use Rattle.cu_forms.specs.declared.scope.Scope.TheOpen as layer
use Rattle.cu_forms.specs.declared.scope.Scope.TheOpen.{Scope-F}
use Rattle.cu_forms.specs.declared.scope.Scope.TheVariants as scope
use Rattle.cu_forms.specs.declared.scope.Scope.{Scope}
use Rattle.cu_translation.specs.declared.local_names.Entry.{Entry}
use Rattle.cu_translation.specs.declared.local_names.Local.{Local}
use Rattle.cu_translation.specs.LocalNames as definitions
use Rattle.cu_translation.specs.Meaning.{Setting, entries_meaning}

abbrev entries_of : Scope-F (List Entry) → List Entry
entries_of (layer.Outermost entries) = entries.now
entries_of (layer.Inside entries around) = entries.now ++ around.now

-- the local names of a scope, inner ones first
pub entries_in : Scope → List Entry
entries_in = fold-Scope (List Entry) entries_of

pub entries_in-Outermost : (entries : Bor (List Entry))
    → entries_in (scope.Outermost entries) ≡ entries.now
unfolding entries_in
entries_in-Outermost entries =
    ap entries_in (sym (scope.rolls-Outermost entries))
    ∙ fold-roll-Scope (List Entry) entries_of (layer.Outermost entries)

pub entries_in-Inside : (entries : Bor (List Entry)) (around : Bor Scope)
    → entries_in (scope.Inside entries around) ≡ entries.now ++ entries_in around.now
unfolding entries_in
entries_in-Inside entries around =
    ap entries_in (sym (scope.rolls-Inside entries around))
    ∙ fold-roll-Scope (List Entry) entries_of (layer.Inside entries around)

pub ruleset scope_variants = (entries_in-Outermost, entries_in-Inside)

-- the local name that a text means among these, if it is that of one of them
abbrev pub meaning_in : NameId → List Entry → Option Local
meaning_in text [] = None
meaning_in text (e ∷ entries) =
    if nat_eq e.text.0 text.0 then Some e.means else meaning_in text entries

-- A table has the text of a local name.
abbrev pub EntryIsKnown : List (List ℕ) → Entry → Type 0
EntryIsKnown names e = IsKnown names e.text

-- The code's scope has these local names, under a table in which each text stands once.
pub record Sees (w : Setting) (local : definitions.Scope) (s : Scope) : Type 0 where
  pub differ : AllDiffer w.names
  pub known : All (EntryIsKnown w.names) (entries_in s)
  pub entries : entries_meaning w.names (entries_in s) ≡ local
