-- What a scope of the code tells, and what it stands for.
use Rattle.std.specs.Prelude.{◌≡◌, ℕ, Bool, false, ◌||◌, List, [], nat_eq}
use Rattle.std.specs.List.{list_any}
use Rattle.std.proofs.Common.{sym, ap, ◌∙◌}
use denote.Ref.{Bor}
use Rattle.cu_entities.specs.Bindings.{Binding}
use Rattle.cu_entities.specs.NameTables.{Tells}
use Rattle.cu_entities.specs.declared.name_table.NameTable.{NameTable}
use Rattle.cu_names.specs.Texts.{AllDiffer, IsKnown, text_of}
use Rattle.cu_names.specs.declared.names.NameId.{NameId}
use Rattle.cu_syntax.specs.declared.name.Name.{Name}
use Rattle.cu_uses.specs.declared.scope.Scope.TheFolds.{fold-Scope, fold-roll-Scope}
use Rattle.cu_uses.specs.declared.scope.Scope.TheOpen as layer
use Rattle.cu_uses.specs.declared.scope.Scope.TheOpen.{Scope-F}
use Rattle.cu_uses.specs.declared.scope.Scope.TheVariants as scope
use Rattle.cu_uses.specs.declared.scope.Scope.{Scope}
use Rattle.cu_uses.specs.Binders.{is_among}
use Rattle.cu_syntax.specs.Syntax as syntax
use Rattle.cu_entities.specs.Entities.{Values}
use Rattle.cu_uses.specs.declared.first_fault.FirstFault.{FirstFault}
use Rattle.cu_uses.specs.Demands.{Demand, used}
use Rattle.cu_uses.specs.Gathered.{Adds}
use Rattle.cu_uses.specs.Inside.Worlds.{Told, World}

abbrev pub has_text : NameId → Name → Bool
has_text text name = nat_eq name.text.0 text.0

-- whether one of these names has a text, or the test holds of the text
abbrev pub or_among : List Name → (NameId → Bool) → NameId → Bool
or_among names around text = list_any (has_text text) names || around text

abbrev local_in : Scope-F (NameId → Bool) → NameId → Bool
local_in (layer.Top table) = λ text. false
local_in (layer.Inside names around) = or_among names.now around.now

pub is_local : Scope → NameId → Bool
is_local = fold-Scope (NameId → Bool) local_in

abbrev table_of : Scope-F NameTable → NameTable
table_of (layer.Top table) = table.now
table_of (layer.Inside names around) = around.now

pub table_in : Scope → NameTable
table_in = fold-Scope NameTable table_of

pub local-Top : (table : Bor NameTable) → is_local (scope.Top table) ≡ (λ text. false)
unfolding is_local
local-Top table = ap is_local (sym (scope.rolls-Top table)) ∙ fold-roll-Scope (NameId
    → Bool) local_in (layer.Top table)

pub local-Inside : (names : Bor (List Name)) (around : Bor Scope)
    → is_local (scope.Inside names around) ≡ or_among names.now (is_local around.now)
unfolding is_local
local-Inside names around =
    ap is_local (sym (scope.rolls-Inside names around)) ∙ fold-roll-Scope (NameId
    → Bool) local_in (layer.Inside names around)

pub table-Top : (table : Bor NameTable) → table_in (scope.Top table) ≡ table.now
unfolding table_in
table-Top table = ap table_in (sym (scope.rolls-Top table)) ∙ fold-roll-Scope NameTable table_of
    (layer.Top table)

pub table-Inside : (names : Bor (List Name)) (around : Bor Scope)
    → table_in (scope.Inside names around) ≡ table_in around.now
unfolding table_in
table-Inside names around =
    ap table_in (sym (scope.rolls-Inside names around)) ∙ fold-roll-Scope NameTable table_of
    (layer.Inside names around)

pub ruleset local_variants = (local-Top, local-Inside)

pub ruleset table_variants = (table-Top, table-Inside)

-- A scope of the code is one with these local variables, in this world.
pub record Sees (w : World) (local : List (List ℕ)) (s : Scope) : Type 0 where
  pub differ : AllDiffer w.names
  pub tells : Tells w.names w.bindings (table_in s)
  pub sees : (id : NameId) → IsKnown w.names id
      → is_local s id ≡ is_among local (text_of w.names id)

-- Patterns bind these variables, which were found, and what is wrong with the uses of their
-- constructors was told.
pub record Opens (w : World) (before : FirstFault) (binds builds : List syntax.Name)
    (found : List Name) (after : FirstFault) : Type 0 where
  pub variables : Adds w.owner w.names [] binds found
  pub told : Told w before (used Values builds) after

-- A qualifier or a pattern binds these variables, which were found, and what is wrong with these
-- demands was told.
pub record Brings (w : World) (before : FirstFault) (binds : List syntax.Name)
    (demands : List Demand) (found : List Name) (after : FirstFault) : Type 0 where
  pub variables : Adds w.owner w.names [] binds found
  pub told : Told w before demands after
