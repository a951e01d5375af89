-- Modules as they are translated, under a table of names.
use Rattle.std.specs.Prelude.{◌≡◌, ℕ, List}
use Rattle.cu_modules.specs.Known.{AreEntities}
use Rattle.cu_modules.specs.Ordering.{module_of}
use Rattle.cu_modules.specs.Reading.{HasModule}
use Rattle.cu_toplevel.specs.declared.reading.Reading as code
use Rattle.cu_toplevel.specs.Surrounding.{TellsNames}
use Rattle.cu_translation.specs.ModuleTypes.{Reading}

-- The code's `Reading` stands for this one, under its table of names.
pub record IsReading (names : List (List ℕ)) (meant : Reading) (r : code.Reading) : Type 0 where
  pub table : meant.table ≡ names
  pub top : TellsNames names meant.names r.top
  pub number : meant.number ≡ r.number
  pub owner : meant.names.owner ≡ r.«module».now.name
  pub has : HasModule names r.«module».now
  pub is : meant.m ≡ module_of names r.«module».now
  pub exports : AreEntities names meant.exports r.exports.now
