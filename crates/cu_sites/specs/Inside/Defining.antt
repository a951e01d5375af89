-- The definitions of local variables, as they are found.
use Rattle.std.specs.Prelude.{◌≡◌, ℕ, Bool, List, ◌++◌, map, nat_eq}
use Rattle.std.specs.List.{filter, flat_map}
use Rattle.cu_syntax.specs.Syntax.{Pattern, pattern_position}
use Rattle.cu_uses.specs.Binders.{pattern_variables}
use Rattle.cu_translation.specs.declared.local_names.Binder as code
use Rattle.cu_translation.specs.Dependencies.{Definition, is_bound_outside, selected}
use Rattle.cu_translation.specs.LocalNames.{Binder, Local, Whole}
use Rattle.cu_translation.specs.Meaning.{binder_meaning}
use Rattle.cu_sites.specs.Numbered.{IsBinderTable, binders_meaning}
use Rattle.cu_sites.specs.declared.definitions.Definition as found
use Rattle.cu_sites.specs.declared.numbers.BinderTable.{BinderTable}
use Rattle.cu_sites.specs.Inside.Using.{Usage, locals_meaning}

abbrev pub definition_meaning : found.Definition → Definition
definition_meaning d =
    record { variable = binder_meaning d.variable; used = locals_meaning d.used.items }

abbrev pub definitions_meaning : List found.Definition → List Definition
definitions_meaning ds = map definition_meaning ds

-- A list of definitions of the code grew by these.
pub record Defines (before : List found.Definition) (added : List Definition)
    (after : List found.Definition) : Type 0 where
  pub defines : definitions_meaning after ≡ definitions_meaning before ++ added

abbrev pub declared_in : Usage → List Binder
declared_in u = u.declared

abbrev pub used_in_one : Usage → List Local
used_in_one u = u.used

abbrev pub has_depth : ℕ → Usage → Bool
has_depth depth u = nat_eq u.depth depth

-- what is used at this depth by some of these nodes and declared by none of them
abbrev pub used_among : ℕ → List Usage → List Local
used_among depth us =
    filter (is_bound_outside (flat_map declared_in us))
    (flat_map used_in_one (filter (has_depth depth) us))

-- A table has counted all that these nodes declare.
pub record DeclaresAll (us : List Usage) (table : BinderTable) : Type 0 where
  pub keys : List code.Binder
  pub counted : IsBinderTable keys table
  pub keys_are : binders_meaning keys ≡ flat_map declared_in us

abbrev pub selections : Pattern → List Definition
selections p = map (selected (Whole (pattern_position p))) (pattern_variables p)
