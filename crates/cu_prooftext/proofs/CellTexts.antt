-- The text of a value is that of its cells.
use Rattle.std.proofs.Common.{◌≡◌, ℕ, List, [], ◌∷◌, refl, ap, ◌∙◌, append_assoc, append-nil}
use Rattle.std.proofs.lemmas.Grind.{flat_map-append}
use Rattle.std.specs.List.{flat_map}
use Rattle.cu_calculus.specs.Value as value
use Rattle.cu_calculus.specs.Value.{Value, Values, list_of, values_of}
use Rattle.cu_values.specs.Cells.{spell, spell_all}
use Rattle.cu_values.specs.declared.cell.Cell.TheVariants as cell
use Rattle.cu_prooftext.specs.Inside.Cells.{cell_after, cell_text, cells_text}
use Rattle.cu_prooftext.specs.Text.{literal_text, value_text, values_after}

mutual
  -- the cells of a value, separated by spaces, are its text
  pub cells_of_value : (v : Value) → cells_text (spell v) ≡ value_text v
  cells_of_value value.Bottom = refl
  cells_of_value (value.Variable x) = append-nil (cell_text (cell.LVar x))
  cells_of_value (value.Literal l) = append-nil (literal_text l)
  cells_of_value (value.Constructed c vs) =
      simp (append_assoc, values_of_cells vs)
  cells_of_value (value.Partial h vs) =
      simp (append_assoc, values_of_cells vs)

  -- the cells of a value, each after a space, are its text after a space
  pub value_of_cells : (v : Value) → flat_map cell_after (spell v) ≡ 32 ∷ value_text v
  value_of_cells value.Bottom = refl
  value_of_cells (value.Variable x) = ap (λ (s : List ℕ). 32 ∷ s) (append-nil (cell_text (cell.LVar x)))
  value_of_cells (value.Literal l) = ap (λ (s : List ℕ). 32 ∷ s) (append-nil (literal_text l))
  value_of_cells (value.Constructed c vs) =
      simp (append_assoc, values_of_cells vs)
  value_of_cells (value.Partial h vs) =
      simp (append_assoc, values_of_cells vs)

  -- the cells of values, each after a space, are their texts, each after a space
  pub values_of_cells : (vs : Values) → flat_map cell_after (spell_all vs) ≡ values_after vs
  values_of_cells value.NoValue = refl
  values_of_cells (value.MoreValues v vs) =
      flat_map-append cell_after (spell v) (spell_all vs)
      ∙ rw (value_of_cells v, values_of_cells vs) refl

-- values are listed again as they were
pub listed_again : (vs : List Value) → list_of (values_of vs) ≡ vs
listed_again [] = refl
listed_again (v ∷ vs) = ap (λ (ws : List Value). v ∷ ws) (listed_again vs)
