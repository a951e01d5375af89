-- Variables and local functions that are found and counted.
use Rattle.std.specs.Prelude.{◌≡◌, ℕ, List, ◌∷◌, ◌++◌, map}
use Rattle.std.specs.List.{flat_map, position_or_len}
use Rattle.cu_lex.specs.Located as located
use Rattle.cu_locals.specs.Places.{positions_meaning}
use Rattle.cu_syntax.specs.Syntax.{Name, Pattern, pattern_position}
use Rattle.cu_translation.specs.declared.local_names.Binder as code
use Rattle.cu_translation.specs.declared.position.Position.{Position}
use Rattle.cu_translation.specs.LocalNames.{Binder, Whole}
use Rattle.cu_translation.specs.Numbering.{at_name, selected}
use Rattle.cu_uses.specs.Binders.{pattern_variables}
use Rattle.cu_sites.specs.Numbered.{binders_meaning, same_binder, same_position}

-- A list of variables of the code grew by these.
pub record Counts (before : List code.Binder) (added : List Binder) (after : List code.Binder)
    : Type 0 where
  pub counts : binders_meaning after ≡ binders_meaning before ++ added

-- A list of places of the code grew by these.
pub record Lists (before : List Position) (added : List located.Position) (after : List Position)
    : Type 0 where
  pub lists : positions_meaning after ≡ positions_meaning before ++ added

abbrev pub bound_binders : Pattern → List Binder
bound_binders p =
    Whole (pattern_position p) ∷ map at_name (pattern_variables p) ++
    flat_map (selected p) (pattern_variables p)

abbrev pub name_places : List Name → List located.Position
name_places names = map (λ (x : Name). x.at) names

-- ---- tables

abbrev pub binder_at : List code.Binder → code.Binder → ℕ
binder_at keys b = position_or_len (same_binder b) keys

abbrev pub place_at : List Position → Position → ℕ
place_at keys p = position_or_len (same_position p) keys
