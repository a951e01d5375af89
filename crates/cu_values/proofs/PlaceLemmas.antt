-- The cell with an index among cells that spell values.
use Rattle.std.specs.Prelude.{◌≡◌, ℕ, zero, suc, ◌+◌, ◌<◌, List, [], ◌∷◌, length, refl}
use Rattle.std.proofs.Common.{add-one, ap, drop, drop-cons, get_or, sym, subst, ◌∙◌}
use Rattle.cu_calculus.specs.declared.Lit.{Lit}
use Rattle.cu_calculus.specs.Value as value
use Rattle.cu_calculus.specs.Value.{Value, Values, count}
use Rattle.cu_values.specs.declared.cell.Cell.{Cell}
use Rattle.cu_values.specs.declared.cell.Cell.TheVariants as cell
use Rattle.cu_values.specs.Cells.{suffix, prefix, put, read_all, IsSpelled}
use Rattle.cu_values.proofs.CellLemmas.{after, join-prefix-suffix, After}
use Rattle.cu_values.specs.Spelling.{join}

pub record Here (cells : List Cell) (at : ℕ) (c : Cell) : Type 0 where
  pub within : at < length cells
  pub read : read_all (drop at cells) ≡ put c (read_all (drop (at + 1) cells))
  pub after : After c (drop (at + 1) cells)

pub here : (cells : List Cell) (at : ℕ) (c : Cell) → at < length cells → get_or cells at cell.Bottom ≡ c → IsSpelled (drop at cells) → Here cells at c
here cells at c within is spelled =
    let cut : drop at cells ≡ c ∷ drop (at + 1) cells =
    rw (add-one at) (subst (λ (x : Cell). drop at cells ≡ x ∷ drop (suc at) cells) is (drop-cons cells at cell.Bottom within)) in
    record {
      within = within;
      read = ap read_all cut;
      after = after c (drop (at + 1) cells) (subst (λ (x : List Cell). IsSpelled x) cut spelled);
    }

-- the cells after the first are spelled too
pub spelled_drop : (cells : List Cell) (i : ℕ) → IsSpelled cells → IsSpelled (drop i cells)
spelled_drop cells zero h = h
spelled_drop [] (suc i) h = refl
spelled_drop (c ∷ cs) (suc i) h = spelled_drop cs i (after c cs h).others

-- the values that a head takes stand before the others
pub taken : (n : ℕ) (us vs : Values) → prefix n us ≡ vs → us ≡ join vs (suffix n us)
taken n us vs e = sym (join-prefix-suffix n us) ∙ ap (λ (x : Values). join x (suffix n us)) e

-- a literal's cell
pub literal_cell : (c : Cell) (us : Values) (l : Lit) (vs : Values) → put c us ≡ value.MoreValues (value.Literal l) vs → (c ≡ cell.Lit l) × (us ≡ vs)
literal_cell cell.Bottom us l vs e = let no : ⊥ = cc in absurd no
literal_cell (cell.LVar x) us l vs e = let no : ⊥ = cc in absurd no
literal_cell (cell.Lit m) us l vs e = (cc, cc)
literal_cell (cell.Con k n) us l vs e = let no : ⊥ = cc in absurd no
literal_cell (cell.Part h n) us l vs e = let no : ⊥ = cc in absurd no
