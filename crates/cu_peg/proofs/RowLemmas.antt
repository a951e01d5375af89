-- What a row of the table does, by its expression.
use Rattle.std.proofs.Common.{◌≡◌, ℕ, zero, suc, ◌<◌, Bool, List, [], ◌∷◌, Some, length, refl, subst}
use Rattle.std.specs.Prelude.{slice_get}
use Rattle.cu_peg.specs.declared.class.Class.{Class}
use Rattle.cu_peg.specs.declared.row.Row.{Row}
use Rattle.cu_peg.specs.declared.row.Row.TheVariants as row
use Rattle.cu_peg.specs.Matches as m
use Rattle.cu_peg.specs.Matches.{Fails, Matches, RowFails, RowMatches}
use Rattle.cu_peg.specs.Parse.{ParseTree, ParseTrees, Parts, Chosen, NoTree, MoreTrees, only}
use Rattle.cu_peg.proofs.Takes.{Takes, some, none}

-- rows whose trees have parts
pub data HasParts : Row → Type 0 where
  sequence : (ps : List ℕ) → HasParts (row.Sequence ps)
  many : (p : ℕ) → HasParts (row.Many p)
  at_least_one : (p : ℕ) → HasParts (row.AtLeastOne p)
  separated : (p s : ℕ) → HasParts (row.SeparatedBy p s)

module _ {T : Type 0} (rows : List Row) (has : Class → T → Bool) where
  pub of_row : (r : ℕ) (e : Row) (text rest : List T) (tree : ParseTree T) → slice_get rows r ≡ Some e → Matches rows has r text rest tree
      → RowMatches rows has e text rest tree
  of_row r e text rest tree is (m.matches _ f _ _ _ same d) =
      let equal : f ≡ e = cc in subst (λ (g : Row). RowMatches rows has g text rest tree) equal d

  pub fails_of_row : (r : ℕ) (e : Row) (text : List T) → slice_get rows r ≡ Some e → Fails rows has r text → RowFails rows has e text
  fails_of_row r e text is (m.fails _ f _ same d) = let equal : f ≡ e = cc in subst (λ (g : Row). RowFails rows has g text) equal d

  -- the parts of a tree
  pub parts_of : (e : Row) (text rest : List T) (tree : ParseTree T) → HasParts e → RowMatches rows has e text rest tree
      → (trees : ParseTrees T) × (RowMatches rows has e text rest (Parts trees)) × (tree ≡ Parts trees)
  parts_of _ _ _ _ (sequence _) (m.empty text) = (NoTree, m.empty text, refl)
  parts_of _ _ _ _ (sequence _) (m.sequence p ps text after rest tree trees d ds) = (MoreTrees tree trees, m.sequence p ps text after rest tree trees d ds, refl)
  parts_of _ _ _ _ (many _) (m.no_more p text f) = (NoTree, m.no_more p text f, refl)
  parts_of _ _ _ _ (many _) (m.one_more p text after rest tree trees d ds) = (MoreTrees tree trees, m.one_more p text after rest tree trees d ds, refl)
  parts_of _ _ _ _ (at_least_one _) (m.at_least_one p text after rest tree trees d ds) = (MoreTrees tree trees, m.at_least_one p text after rest tree trees d ds, refl)
  parts_of _ _ _ _ (separated _ _) (m.last p s text rest tree d f) = (only tree, m.last p s text rest tree d f, refl)
  parts_of _ _ _ _ (separated _ _) (m.separated p s text after suffix rest tree separator trees d e ds) =
      (MoreTrees tree trees, m.separated p s text after suffix rest tree separator trees d e ds, refl)

  -- the alternative of a tree
  pub chosen_of : (ps : List ℕ) (text rest : List T) (tree : ParseTree T) → RowMatches rows has (row.Choice ps) text rest tree
      → (n : ℕ) × (t : ParseTree T) × (RowMatches rows has (row.Choice ps) text rest (Chosen n t)) × (tree ≡ Chosen n t)
  chosen_of _ _ _ _ (m.first p ps text rest tree d) = (zero, tree, m.first p ps text rest tree d, refl)
  chosen_of _ _ _ _ (m.later p ps text rest n tree f d) = (suc n, tree, m.later p ps text rest n tree f d, refl)

  -- what is repeated once at least is repeated
  pub as_many : (p : ℕ) (text rest : List T) (trees : ParseTrees T) → RowMatches rows has (row.AtLeastOne p) text rest (Parts trees)
      → RowMatches rows has (row.Many p) text rest (Parts trees)
  as_many p text rest _ (m.at_least_one _ _ after _ tree trees d ds) = m.one_more p text after rest tree trees d ds

  pub no_more_of : (p : ℕ) (text : List T) → RowFails rows has (row.AtLeastOne p) text → RowMatches rows has (row.Many p) text text (Parts NoTree)
  no_more_of p text (m.not_even_one _ _ f) = m.no_more p text f

  -- a separator with no part after it
  pub no_part_after : (p s : ℕ) (text suffix : List T) (separator : ParseTree T) → Matches rows has s text suffix separator
      → RowFails rows has (row.SeparatedBy p s) suffix → RowFails rows has (row.Sequence (s ∷ p ∷ [])) text
  no_part_after p s text suffix separator d (m.no_part _ _ _ f) = m.rest_fails s (p ∷ []) text suffix separator d (m.part_fails p [] suffix f)

  pub many_never_fails : (p : ℕ) (text : List T) → RowFails rows has (row.Many p) text → ⊥
  many_never_fails p text f = elim f [ ]

-- something was taken
pub taken : {T N : Type 0} (text rest : List T) → (N → ⊥) → Takes text rest N → length rest < length text
taken text rest never (some h) = h
taken text rest never (none e n) = absurd (never n)
