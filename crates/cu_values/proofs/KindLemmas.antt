-- A value is total, data or ground where all its cells are.
use Rattle.std.specs.Prelude.{◌≡◌, refl}
use Rattle.std.specs.List.{list_all}
use Rattle.std.proofs.lemmas.List.Folds.{list_all-append}
use Rattle.cu_calculus.specs.Shape.{are_data, are_ground, are_total, is_data, is_ground, is_total}
use Rattle.cu_calculus.specs.Value as value
use Rattle.cu_calculus.specs.Value.{Value, Values}
use Rattle.cu_values.specs.Inside.CellKinds.{is_data_cell, is_ground_cell, is_known_cell}
use Rattle.cu_values.specs.Cells.{spell, spell_all}

mutual
  pub cells_total : (v : Value) → list_all is_known_cell (spell v) ≡ is_total v
  cells_total value.Bottom = refl
  cells_total (value.Variable x) = refl
  cells_total (value.Literal l) = refl
  cells_total (value.Constructed c vs) = all_cells_total vs
  cells_total (value.Partial h vs) = all_cells_total vs

  pub all_cells_total : (vs : Values) → list_all is_known_cell (spell_all vs) ≡ are_total vs
  all_cells_total value.NoValue = refl
  all_cells_total (value.MoreValues v vs) =
      rw (list_all-append is_known_cell (spell v) (spell_all vs), cells_total v, all_cells_total vs) refl

mutual
  pub cells_data : (v : Value) → list_all is_data_cell (spell v) ≡ is_data v
  cells_data value.Bottom = refl
  cells_data (value.Variable x) = refl
  cells_data (value.Literal l) = refl
  cells_data (value.Constructed c vs) = all_cells_data vs
  cells_data (value.Partial h vs) = refl

  pub all_cells_data : (vs : Values) → list_all is_data_cell (spell_all vs) ≡ are_data vs
  all_cells_data value.NoValue = refl
  all_cells_data (value.MoreValues v vs) =
      rw (list_all-append is_data_cell (spell v) (spell_all vs), cells_data v, all_cells_data vs) refl

mutual
  pub cells_ground : (v : Value) → list_all is_ground_cell (spell v) ≡ is_ground v
  cells_ground value.Bottom = refl
  cells_ground (value.Variable x) = refl
  cells_ground (value.Literal l) = refl
  cells_ground (value.Constructed c vs) = all_cells_ground vs
  cells_ground (value.Partial h vs) = refl

  pub all_cells_ground : (vs : Values) → list_all is_ground_cell (spell_all vs) ≡ are_ground vs
  all_cells_ground value.NoValue = refl
  all_cells_ground (value.MoreValues v vs) =
      rw (list_all-append is_ground_cell (spell v) (spell_all vs), cells_ground v, all_cells_ground vs) refl
