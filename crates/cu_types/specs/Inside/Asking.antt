-- Equations that are read off rules, as pairs of places in a table of types.
use Rattle.std.specs.Prelude.{◌≡◌, ℕ, ◌<◌, length}
use Rattle.cu_kernel.specs.TypeExpr.{TypeExpr}
use Rattle.cu_types.specs.Equations.{Asked}
use Rattle.cu_types.specs.Inside.Reading.{IsReader, Reads, Stand, shapes}
use Rattle.cu_types.specs.Table.{at, trees}
use Rattle.cu_types.specs.declared.asking.Asking.{Asking}

-- the pairs stand for the equations that are asked for, and the next type variable is the same
pub record IsAsking (a : Asking) (asked : Asked) : Type 0 where
  pub next : a.next ≡ asked.next
  pub stand : Stand (shapes a.reader) a.pairs.items asked.equations

-- this type stands at this place of the table
pub record StandsAt (a : Asking) (place : ℕ) (t : TypeExpr) : Type 0 where
  pub within : place < length (shapes a.reader)
  pub value : at (trees (shapes a.reader)) place ≡ t

-- a type was added to the table, at this place, and all else stands as it did
pub record Adds (before after : Asking) (t : TypeExpr) (place : ℕ) : Type 0 where
  pub reader : IsReader after.reader
  pub reads : Reads (shapes before.reader) (shapes after.reader) t place
  pub asked : (asked : Asked) → IsAsking before asked → IsAsking after asked

-- the equations were asked for that `change` asks for
pub record Asks (before after : Asking) (change : Asked → Asked) : Type 0 where
  pub reader : IsReader after.reader
  pub asked : (asked : Asked) → IsAsking before asked → IsAsking after (change asked)
