-- The rows of a graph that is kept as vectors.
use Rattle.std.proofs.Common.{◌≡◌, ℕ, ◌<◌, List, Some, get_or, length, slice_get, refl, arith}
use Rattle.std.proofs.lemmas.List.{length-map}
use Rattle.std.proofs.lemmas.Option.{slice_get_read}
use Rattle.std.specs.declared.alloc.Global.{Global}
use Rattle.std.specs.declared.vec.Vec.{Vec}
use Rattle.cu_cycles.proofs.Places.{get_map}
use Rattle.cu_cycles.specs.Graph.{rows_in}

pub as_many : (rows : List (Vec ℕ Global)) → length (rows_in rows) ≡ length rows
as_many rows = length-map rows (λ (row : Vec ℕ Global). row.items)

pub row_at : (rows : List (Vec ℕ Global)) (u : ℕ) (row : Vec ℕ Global) → slice_get rows u ≡ Some row → slice_get (rows_in rows) u ≡ Some row.items
row_at rows u row at = get_map (λ (r : Vec ℕ Global). r.items) rows u row at

-- the row that is read there
pub row_read : (rows : List (Vec ℕ Global)) (u : ℕ) (row : Vec ℕ Global) → u < length (rows_in rows) → row ≡ get_or rows u row
    → slice_get (rows_in rows) u ≡ Some row.items
row_read rows u row low is =
    let many : length (rows_in rows) ≡ length rows = as_many rows in
    row_at rows u row (slice_get_read rows (length rows) u row refl (omega arith) is)
