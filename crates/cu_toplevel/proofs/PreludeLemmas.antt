-- The operations that are built in, of the Prelude alone.
use Rattle.std.proofs.Common.{◌≡◌, ◌∙◌, ℕ, true, false, List, [], sym, ap, if◌then◌else◌}
use Rattle.std.specs.Str.{bytes_eq}
use Rattle.cu_modules.specs.BuiltInEntities.{prelude_name}
use Rattle.cu_toplevel.specs.declared.reading.Reading as code
use Rattle.cu_toplevel.specs.Readings.{IsReading}
use Rattle.cu_translation.specs.ModuleTypes.{Reading}
use Rattle.cu_translation.specs.Numbered.{only_in_prelude}

pub in_prelude : {A : Type 0} (owner : List ℕ) (xs : List A) → bytes_eq owner prelude_name ≡ true → xs ≡ only_in_prelude owner xs
in_prelude owner xs is = sym (ap (λ h. if h then xs else []) is)

pub elsewhere : {A : Type 0} (owner : List ℕ) (xs : List A) → bytes_eq owner prelude_name ≡ false → [] ≡ only_in_prelude owner xs
elsewhere owner xs is = sym (ap (λ h. if h then xs else []) is)

-- the table of a reading is that in which the code looks names up
pub same_table : (names : List (List ℕ)) (r : Reading) (c : code.Reading) → IsReading names r c → c.top.names.now ≡ r.table
same_table names r c is = is.top.table ∙ sym is.table
