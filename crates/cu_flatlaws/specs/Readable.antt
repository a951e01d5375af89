-- What `print` wrote is read again: the text of a module is that of the module that is printed, and
-- where nothing is nested too deep it is read, as this module alone.
use Rattle.std.specs.Prelude.{◌≡◌, ℕ, ◌^◌, ◌<◌, ◌≤◌, List, All, IsTrue, length}
use Rattle.cu_calculus.specs.Flat.{is_flat}
use Rattle.cu_calculus.specs.Valid as calculus
use Rattle.cu_flatlaws.specs.DeclaredNames.{declared_names}
use Rattle.cu_flatlaws.specs.Nesting.{nesting}
use Rattle.cu_flatlaws.specs.Printed.{printed}
use Rattle.cu_flatread.specs.FlatText.{FlatText, IsName, most_nested}
use Rattle.cu_flatread.specs.Faults.{IsFault}
use Rattle.cu_flatread.specs.Modules.{Module}
use Rattle.cu_flatread.specs.Text.{module_text}
use Rattle.cu_flattext.specs.Naming.{Lowered}
use Rattle.cu_flattext.specs.Text.{place_of, text_of_module}
use Rattle.cu_kernel.specs.Kernel as kernel
use Rattle.cu_kernel.specs.TypeExpr.{TypeExpr}
use Rattle.cu_kernel.specs.Valid as kernel_valid
use Rattle.cu_kernel.specs.declared.declarations.Operator.{Operator}
use Rattle.cu_names.specs.Texts.{text_of}
use Rattle.cu_names.specs.declared.names.NameId.{NameId}
use Rattle.cu_types.specs.Numbered.{numbered}

-- the module that is printed for a name
abbrev pub printed_module : Lowered → NameId → Module
printed_module program name = printed program (place_of name program.kernel.modules)

-- ---- conditions

-- What every lowered program promises: its kernel program and its flat program are valid, and the
-- latter is flat.
pub record IsPrintable (program : Lowered) : Type 0 where
  pub kernel : kernel_valid.IsValid program.kernel
  pub valid : calculus.IsValid program.flat
  pub flat : IsTrue (is_flat program.flat)

-- an inferred type, whose variables are numbered from 0 in the order in which they come first
abbrev pub IsNumbered : TypeExpr → Type 0
IsNumbered t = (u : TypeExpr) × (t ≡ numbered u)

-- a precedence that 32 bits hold
abbrev pub HasLevel : Operator → Type 0
HasLevel o = o.level < 2 ^ 32

abbrev pub HasLevels : kernel.Module → Type 0
HasLevels m = All HasLevel m.operators

-- a name whose text is UTF-8 without a quote
abbrev pub HasName : List (List ℕ) → NameId → Type 0
HasName names id = IsName (text_of names id)

-- What is declared has names that are UTF-8 without a quote, types are numbered as inference numbers
-- them, and precedences fit.
pub record IsInRange (program : Lowered) : Type 0 where
  pub names : All (HasName program.names) (declared_names program.kernel)
  pub types : All IsNumbered program.interface
  pub levels : All HasLevels program.kernel.modules

-- The text that is printed for a name is one that is read: a slice holds it, and its types and
-- expressions aren't nested too deep.
pub record IsReadable (program : Lowered) (name : NameId) : Type 0 where
  pub printable : IsPrintable program
  pub in_range : IsInRange program
  pub short : length (text_of_module program name) < 2 ^ 64
  pub nested : nesting (printed_module program name) ≤ most_nested

-- ---- laws

-- The text that is printed for a name is that of the module that is printed for it.
abbrev pub TextsAgree : Type 0
TextsAgree =
    (program : Lowered) (name : NameId) → IsPrintable program
    → text_of_module program name ≡ module_text (printed_module program name)

-- What was printed is read again.
abbrev pub PrintedIsText : Type 0
PrintedIsText =
    (program : Lowered) (name : NameId) → IsReadable program name
    → FlatText (text_of_module program name) (printed_module program name)

-- What was printed is read as the module that was printed alone.
abbrev pub PrintedIsOne : Type 0
PrintedIsOne =
    (program : Lowered) (name : NameId) (flat : Module) → IsReadable program name
    → FlatText (text_of_module program name) flat → flat ≡ printed_module program name

-- No fault is found in what was printed.
abbrev pub PrintedIsFaultless : Type 0
PrintedIsFaultless =
    (program : Lowered) (name : NameId) (offset : ℕ) → IsReadable program name
    → IsFault (text_of_module program name) offset → ⊥
