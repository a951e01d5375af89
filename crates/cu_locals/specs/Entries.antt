-- What blocks bring into scope.
use Rattle.std.specs.Prelude.{◌≡◌, ℕ, List, [], ◌∷◌, ◌++◌, Option, if◌then◌else◌}
use Rattle.std.specs.List.{All}
use Rattle.cu_lex.specs.Reading.{position_of}
use Rattle.cu_names.specs.Texts.{IsKnown}
use Rattle.cu_names.specs.declared.place.Place.{Place}
use Rattle.cu_syntax.specs.declared.declarations.Declaration.{Declaration}
use Rattle.cu_syntax.specs.declared.name.Name as code
use Rattle.cu_syntax.specs.declared.patterns.Pattern.{Pattern}
use Rattle.cu_syntax.specs.Declarations.{declarations_meaning}
use Rattle.cu_syntax.specs.Names.{name_meaning}
use Rattle.cu_syntax.specs.Patterns.{patterns_meaning}
use Rattle.cu_syntax.specs.Syntax as syntax
use Rattle.cu_translation.specs.declared.local_names.Entry as entries
use Rattle.cu_translation.specs.LocalNames as local
use Rattle.cu_translation.specs.LocalNames.{Entry, Scope, declaration_entries, rule_entry}
use Rattle.cu_translation.specs.Meaning.{entries_meaning, entry_meaning}
use Rattle.cu_translation.specs.Rules.{Begun, begun_in, goes_on}
use Rattle.cu_locals.specs.declared.entries.Block.{Block}
use Rattle.cu_locals.specs.Text.{Text}
use Rattle.cu_locals.specs.BegunFound.{BegunIsKnown, IsBefore, begun_meaning}

abbrev pub EntryIsKnown : Text → entries.Entry → Type 0
EntryIsKnown t e = IsKnown t.names e.text

pub record IsEntryOf (t : Text) (e : Entry) (found : entries.Entry) : Type 0 where
  pub meaning : entry_meaning t.names found ≡ e
  pub known : EntryIsKnown t found

pub record AreEntries (t : Text) (scope : Scope) (found : List entries.Entry) : Type 0 where
  pub meaning : entries_meaning t.names found ≡ scope
  pub known : All (EntryIsKnown t) found

unfoldable pub rule_brings : List (List ℕ) → Place → code.Name → List Pattern → Entry
rule_brings names place name ps =
    rule_entry (position_of place) (name_meaning names name) (patterns_meaning names ps)

unfoldable pub block_brings : List (List ℕ) → List Declaration → Scope
block_brings names ds = local.block_entries (declarations_meaning names ds)

pub record BlockIsKnown (t : Text) (b : Block) : Type 0 where
  pub begun : BegunIsKnown t b.begun

-- what a rule declares, where it is the first of its name
abbrev pub rule_enters : Text → Option Begun → Place → code.Name → List Pattern → Scope
rule_enters t b place name ps =
    if goes_on b (name_meaning t.names name) then [] else rule_brings t.names place name ps ∷ []

-- The names that declarations bring into scope grew by these, and this is now the function whose
-- rules may go on.
pub record Brings (t : Text) (before : Block) (scope : Scope) (next : Option Begun)
    (after : Block) : Type 0 where
  pub added : List entries.Entry
  pub entries_are : after.entries.items ≡ before.entries.items ++ added
  pub are : AreEntries t scope added
  pub begun : IsBefore t next after.begun

-- The names that declarations bring into scope grew by those of one more declaration.
abbrev pub Declares : Text → Block → syntax.Declaration → Block → Type 0
Declares t before d after =
    Brings t before (declaration_entries (begun_meaning t before.begun) d)
    (begun_in (begun_meaning t before.begun) d) after
