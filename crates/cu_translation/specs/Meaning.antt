-- What the types of the code stand for.
use Rattle.std.specs.Prelude.{ℕ, List, codes, map}
use Rattle.cu_lex.specs.Located as located
use Rattle.cu_names.specs.declared.names.NameId.{NameId}
use Rattle.cu_names.specs.Texts.{text_of}
use Rattle.cu_translation.specs.declared.local_names.Binder as code
use Rattle.cu_translation.specs.declared.local_names.Binder.TheVariants as binder
use Rattle.cu_translation.specs.declared.local_names.Entry as entries
use Rattle.cu_translation.specs.declared.local_names.Local as locals
use Rattle.cu_translation.specs.declared.local_names.Local.TheVariants as local
use Rattle.cu_translation.specs.declared.position.Position.{Position}
use Rattle.cu_translation.specs.declared.referents.BuiltIn.{BuiltIn}
use Rattle.cu_translation.specs.declared.referents.BuiltIn.TheVariants as built_in
use Rattle.cu_translation.specs.declared.referents.Referent as referents
use Rattle.cu_translation.specs.declared.referents.Referent.TheVariants as referent
use Rattle.cu_translation.specs.Around.{Around, Callable, Nothing, Referent, SetFunction, Variable, tuple_name}
use Rattle.cu_translation.specs.LocalNames.{At, Binder, Entry, Local, LocalFunction, LocalVariable, Otherwise, Scope, Selected, Whole, entry}

-- the module of a text, a table of names, and what is known of the names around the text
pub record Setting : Type 0 where
  pub owner : NameId
  pub names : List (List ℕ)
  pub around : Around

abbrev pub position_meaning : Position → located.Position
position_meaning p = record { line = p.line; column = p.column }

abbrev pub binder_meaning : code.Binder → Binder
binder_meaning (binder.At p) = At (position_meaning p)
binder_meaning (binder.Whole p) = Whole (position_meaning p)
binder_meaning (binder.Otherwise p) = Otherwise (position_meaning p)
binder_meaning (binder.Selected p q) = Selected (position_meaning p) (position_meaning q)

abbrev pub local_meaning : locals.Local → Local
local_meaning (local.Variable b) = LocalVariable (binder_meaning b)
local_meaning (local.Function p count) = LocalFunction (position_meaning p) count

abbrev pub entry_meaning : List (List ℕ) → entries.Entry → Entry
entry_meaning names e = entry (text_of names e.text) (local_meaning e.means)

abbrev pub entries_meaning : List (List ℕ) → List entries.Entry → Scope
entries_meaning names es = map (entry_meaning names) es

abbrev pub referent_meaning : referents.Referent → Referent
referent_meaning (referent.Variable x) = Variable x
referent_meaning (referent.Callable h count) = Callable h count
referent_meaning (referent.SetFunction count) = SetFunction count
referent_meaning referent.Nothing = Nothing

-- the name in the Prelude of what the translation names
abbrev pub built_in_text : BuiltIn → List ℕ
built_in_text built_in.True = codes "True"
built_in_text built_in.False = codes "False"
built_in_text built_in.Nil = codes "[]"
built_in_text built_in.Cons = codes ":"
built_in_text (built_in.Tuple n) = tuple_name n
built_in_text built_in.Negate = codes "negate"
built_in_text built_in.Flip = codes "flip"
built_in_text built_in.EnumFrom = codes "enumFrom"
built_in_text built_in.EnumFromTo = codes "enumFromTo"
built_in_text built_in.EnumFromThen = codes "enumFromThen"
built_in_text built_in.EnumFromThenTo = codes "enumFromThenTo"
built_in_text built_in.ConcatMap = codes "concatMap"
built_in_text built_in.Failed = codes "failed"
