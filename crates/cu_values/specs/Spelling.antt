-- Reading gives back the value that was spelled, so that cells spell at most one value.
use Rattle.std.specs.Prelude.{◌≡◌, List, [], ◌++◌, refl}
use Rattle.std.specs.Coded.{Coded, code_by, coded_list}
use Rattle.std.proofs.Common.{add-one, append_assoc, append-nil}
use Rattle.cu_calculus.specs.Value as value
use Rattle.cu_calculus.specs.Value.{Value, Values, count}
use Rattle.cu_values.specs.contracts.cell.Cell as cell_contract
use Rattle.cu_values.specs.declared.cell.Cell.{Cell}
use Rattle.cu_values.specs.Cells.{suffix, prefix, read, read_all, spell, spell_all}

-- several values, and then others
abbrev pub join : Values → Values → Values
join value.NoValue ws = ws
join (value.MoreValues v vs) ws = value.MoreValues v (join vs ws)

pub prefix-join : (vs ws : Values) → prefix (count vs) (join vs ws) ≡ vs
prefix-join value.NoValue ws = refl
prefix-join (value.MoreValues v vs) ws = rw (add-one, prefix-join vs ws) refl

pub suffix-join : (vs ws : Values) → suffix (count vs) (join vs ws) ≡ ws
suffix-join value.NoValue ws = refl
suffix-join (value.MoreValues v vs) ws = rw (add-one, suffix-join vs ws) refl

mutual
  pub read_all-spell : (v : Value) (cells : List Cell)
      → read_all (spell v ++ cells) ≡ value.MoreValues v (read_all cells)
  read_all-spell value.Bottom cells = refl
  read_all-spell (value.Variable x) cells = refl
  read_all-spell (value.Literal l) cells = refl
  read_all-spell (value.Constructed c vs) cells =
      rw (
        read_all-spell_all vs cells,
        prefix-join vs (read_all cells),
        suffix-join vs (read_all cells),
      ) refl
  read_all-spell (value.Partial h vs) cells =
      rw (
        read_all-spell_all vs cells,
        prefix-join vs (read_all cells),
        suffix-join vs (read_all cells),
      ) refl

  pub read_all-spell_all : (vs : Values) (cells : List Cell)
      → read_all (spell_all vs ++ cells) ≡ join vs (read_all cells)
  read_all-spell_all value.NoValue cells = refl
  read_all-spell_all (value.MoreValues v vs) cells =
      rw (
        append_assoc (spell v) (spell_all vs) cells,
        read_all-spell v (spell_all vs ++ cells),
        read_all-spell_all vs cells,
      ) refl

pub read-spell : (v : Value) → read (spell v) ≡ v
read-spell v = rw (← append-nil (spell v), read_all-spell v []) refl

-- the code by which values are told apart: their cells
abbrev pub value_code : Coded Value
value_code = code_by (List Cell) (coded_list cell_contract.the_row.coded) spell read read-spell
