-- How the table of ends keeps the places that are finished: of each place those rows alone whose
-- end isn't the usual one.
use Rattle.std.specs.Prelude.{◌≡◌, ℕ, suc, ◌-◌, ◌≤◌, ◌⊎◌, ◌==◌, Bool, List, [], ◌∷◌, ◌++◌, Option, None, Some, if◌then◌else◌, drop, length, map, take, slice_index_or, MatchOption}
use Rattle.std.specs.List.{range_with_len}
use Rattle.cu_peg.specs.Inside.Closure.{marked}
use Rattle.cu_peg.specs.declared.table.End.{End}
use Rattle.cu_peg.specs.declared.places.Entry.{Entry}
use Rattle.cu_peg.specs.Inside.Ends.{alone}

-- What contracts see of a table of ends: how many rows each place has, and the ends of the rows at
-- each place.
pub record TableView : Type 0 where
  pub width : ℕ
  pub columns : List (List (Option End))

-- the end that an entry keeps
abbrev pub unpacked : Entry → Option End
unpacked e = if e.nodes == 0 then None else Some (record { left = e.left; nodes = e.nodes })

-- the usual end of a row, which isn't kept: a row that always matches takes nothing, and another
-- doesn't match
abbrev pub usual : List Bool → ℕ → ℕ → Option End
usual certain left r = if marked certain r then Some (alone left) else None

-- the end of a row by the entries of a place
abbrev pub cell : List Bool → ℕ → List Entry → ℕ → Option End
cell certain left [] r = usual certain left r
cell certain left (e ∷ es) r = if e.row == r then unpacked e else cell certain left es r

-- the ends of all rows by the entries of a place
abbrev pub column : List Bool → ℕ → List Entry → List (Option End)
column certain left es = map (cell certain left es) (range_with_len 0 (length certain))

-- the entries between two of them
abbrev pub span : List Entry → ℕ → ℕ → List Entry
span entries a b = take (b - a) (drop a entries)

-- the columns of places that begin at these entries, the first of which has so many tokens left
abbrev pub columns : List Bool → List Entry → List ℕ → ℕ → List (List (Option End))
columns certain entries [] left = []
columns certain entries (a ∷ []) left = column certain left (drop a entries) ∷ []
columns certain entries (a ∷ b ∷ begins) left =
    column certain left (span entries a b) ∷ columns certain entries (b ∷ begins) (suc left)

-- the entries of the place of a number
abbrev pub span_at : List Entry → List ℕ → ℕ → List Entry
span_at entries begins k =
    span entries (slice_index_or begins k 0) (slice_index_or begins (suc k) (length entries))

-- Places begin one after another among the entries, up to the number of entries.
abbrev pub Rising : List ℕ → ℕ → Type 0
Rising [] n = Unit {0}
Rising (a ∷ []) n = a ≤ n
Rising (a ∷ b ∷ begins) n = (a ≤ b) × Rising (b ∷ begins) n

-- The end of a row at a place is kept: it is the usual one, and no entry was added, or one entry
-- was added for it.
abbrev pub KeepsOne : List Bool → ℕ → ℕ → Option End → List Entry → List Entry → Type 0
KeepsOne certain left r end old new =
    ((new ≡ old) × (end ≡ usual certain left r))
    ⊎ ((e : Entry) × (new ≡ old ++ e ∷ []) × (e.row ≡ r) × (unpacked e ≡ end))

-- After the entries of other places, entries were added that keep the ends of all rows at one more
-- place.
pub record Packs (certain : List Bool) (ends : List (Option End)) (left : ℕ)
    (old entries : List Entry) : Type 0 where
  pub kept : List Entry
  pub joined : entries ≡ old ++ kept
  pub same : column certain left kept ≡ ends

-- What a table of ends keeps: its places rise, and where no place is being filled, none is
-- finished.
pub record IsTable (certain : List Bool) (entries : List Entry) (begins : List ℕ)
    (filled : Option (List (Option End))) : Type 0 where
  pub rising : Rising begins (length entries)
  pub wide : MatchOption filled (begins ≡ []) (λ column. length column ≡ length certain)
