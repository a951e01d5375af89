-- Cells whose labels are those of a type spell one, and it has the texts of that type.
use Rattle.std.proofs.Common.{◌≡◌, ℕ, List, [], ◌∷◌, ◌++◌, map, refl, sym, ap, subst, ◌∙◌, append_assoc, append-nil}
use Rattle.std.specs.List.{AllByRecursion}
use Rattle.cu_flatread.specs.Cells.{IsOneType, IsTypeList, read_type, read_types, spell_type, spell_types}
use Rattle.cu_flatread.specs.Inside.TypeTasks.{HasCell, Label, label, labels, list_labels}
use Rattle.cu_flatread.specs.Meaning.{HasType, HasTypes, entity_of, type_of, types_of}
use Rattle.cu_flatread.specs.Modules as m
use Rattle.cu_flatread.specs.Modules.{TypeExpression, TypeExpressions}
use Rattle.cu_flatread.specs.Notation.{Entity}
use Rattle.cu_flatread.specs.Spelling.{read-spell_type, read-spell_types}
use Rattle.cu_flatread.specs.declared.cells.FlatEntity.{FlatEntity}
use Rattle.cu_flatread.specs.declared.cells.TypeCell.{TypeCell}
use Rattle.cu_flatread.specs.declared.cells.TypeCell.TheVariants as type

-- cells begin with those of a type, and others follow
pub record SpellsType (names : List (List ℕ)) (t : TypeExpression Entity) (cells : List TypeCell)
    (more : List Label) : Type 0 where
  pub tree : TypeExpression FlatEntity
  pub others : List TypeCell
  pub spelled : cells ≡ spell_type tree ++ others
  pub rest : map (label names) others ≡ more
  pub is : type_of names tree ≡ t
  pub has : HasType names tree
  pub others_have : AllByRecursion (HasCell names) others

-- the same of several types
pub record SpellsTypes (names : List (List ℕ)) (ts : TypeExpressions Entity)
    (cells : List TypeCell) (more : List Label) : Type 0 where
  pub trees : TypeExpressions FlatEntity
  pub others : List TypeCell
  pub spelled : cells ≡ spell_types trees ++ others
  pub rest : map (label names) others ≡ more
  pub is : types_of names trees ≡ ts
  pub has : HasTypes names trees
  pub others_have : AllByRecursion (HasCell names) others

mutual
  pub type_spelled : (names : List (List ℕ)) (t : TypeExpression Entity) (cells : List TypeCell)
      (more : List Label) → map (label names) cells ≡ labels t ++ more
      → AllByRecursion (HasCell names) cells → SpellsType names t cells more
  type_spelled names (m.Variable x) (type.Variable y ∷ cells) more e has =
      let number : y ≡ x = cc in
      let rest : map (label names) cells ≡ more = cc in
      record {
        tree = m.Variable y;
        others = cells;
        spelled = refl;
        rest = rest;
        is = (λ i. m.Variable (number i));
        has = tt;
        others_have = has.1;
      }
  type_spelled names (m.Variable x) cells more e has = let no : ⊥ = cc in absurd no
  type_spelled names (m.Arrow a b) (type.Arrow ∷ cells) more e has =
      let parts : map (label names) cells ≡ (labels a ++ labels b) ++ more = cc in
      let p =
      type_spelled names a cells (labels b ++ more)
      (parts ∙ append_assoc (labels a) (labels b) more) has.1 in
      let q = type_spelled names b p.others more p.rest p.others_have in
      record {
        tree = m.Arrow p.tree q.tree;
        others = q.others;
        spelled =
            ap (λ cs. type.Arrow ∷ cs)
            (p.spelled ∙ ap (λ cs. spell_type p.tree ++ cs) q.spelled
            ∙ sym (append_assoc (spell_type p.tree) (spell_type q.tree) q.others));
        rest = q.rest;
        is = (λ i. m.Arrow (p.is i) (q.is i));
        has = (p.has, q.has);
        others_have = q.others_have;
      }
  type_spelled names (m.Arrow a b) cells more e has = let no : ⊥ = cc in absurd no
  type_spelled names (m.Named x ts) (type.Named y ∷ cells) more e has =
      let entity : entity_of names y ≡ x = cc in
      let parts : map (label names) cells ≡ list_labels ts ++ more = cc in
      let p = types_spelled names ts cells more parts has.1 in
      record {
        tree = m.Named y p.trees;
        others = p.others;
        spelled = ap (λ cs. type.Named y ∷ cs) p.spelled;
        rest = p.rest;
        is = (λ i. m.Named (entity i) (p.is i));
        has = (has.0, p.has);
        others_have = p.others_have;
      }
  type_spelled names (m.Named x ts) cells more e has = let no : ⊥ = cc in absurd no

  pub types_spelled : (names : List (List ℕ)) (ts : TypeExpressions Entity)
      (cells : List TypeCell) (more : List Label)
      → map (label names) cells ≡ list_labels ts ++ more
      → AllByRecursion (HasCell names) cells → SpellsTypes names ts cells more
  types_spelled names m.NoType (type.End ∷ cells) more e has =
      let rest : map (label names) cells ≡ more = cc in
      record {
        trees = m.NoType;
        others = cells;
        spelled = refl;
        rest = rest;
        is = refl;
        has = tt;
        others_have = has.1;
      }
  types_spelled names m.NoType cells more e has = let no : ⊥ = cc in absurd no
  types_spelled names (m.MoreTypes t ts) (type.More ∷ cells) more e has =
      let parts : map (label names) cells ≡ (labels t ++ list_labels ts) ++ more = cc in
      let p =
      type_spelled names t cells (list_labels ts ++ more)
      (parts ∙ append_assoc (labels t) (list_labels ts) more) has.1 in
      let q = types_spelled names ts p.others more p.rest p.others_have in
      record {
        trees = m.MoreTypes p.tree q.trees;
        others = q.others;
        spelled =
            ap (λ cs. type.More ∷ cs)
            (p.spelled ∙ ap (λ cs. spell_type p.tree ++ cs) q.spelled
            ∙ sym (append_assoc (spell_type p.tree) (spell_types q.trees) q.others));
        rest = q.rest;
        is = (λ i. m.MoreTypes (p.is i) (q.is i));
        has = (p.has, q.has);
        others_have = q.others_have;
      }
  types_spelled names (m.MoreTypes t ts) cells more e has = let no : ⊥ = cc in absurd no

no_label : (names : List (List ℕ)) (cells : List TypeCell) → map (label names) cells ≡ []
    → cells ≡ []
no_label names [] e = refl
no_label names (cell ∷ cells) e = let no : ⊥ = cc in absurd no

-- the cells of one type
pub record OneType (names : List (List ℕ)) (t : TypeExpression Entity) (cells : List TypeCell)
    : Type 0 where
  pub one : IsOneType cells
  pub is : type_of names (read_type cells) ≡ t
  pub has : HasType names (read_type cells)

pub one_type : (names : List (List ℕ)) (t : TypeExpression Entity) (cells : List TypeCell)
    → map (label names) cells ≡ labels t → AllByRecursion (HasCell names) cells
    → OneType names t cells
one_type names t cells e has =
    let p = type_spelled names t cells [] (e ∙ sym (append-nil (labels t))) has in
    let all : cells ≡ spell_type p.tree =
    p.spelled ∙ ap (λ cs. spell_type p.tree ++ cs) (no_label names p.others p.rest)
    ∙ append-nil (spell_type p.tree) in
    let tree : read_type cells ≡ p.tree = ap read_type all ∙ read-spell_type p.tree in
    record {
      one = ap spell_type tree ∙ sym all;
      is = ap (type_of names) tree ∙ p.is;
      has = subst (HasType names) (sym tree) p.has;
    }

-- the cells of a list of types
pub record TypeList (names : List (List ℕ)) (ts : TypeExpressions Entity) (cells : List TypeCell)
    : Type 0 where
  pub list : IsTypeList cells
  pub is : types_of names (read_types cells) ≡ ts
  pub has : HasTypes names (read_types cells)

pub type_list : (names : List (List ℕ)) (ts : TypeExpressions Entity) (cells : List TypeCell)
    → map (label names) cells ≡ list_labels ts → AllByRecursion (HasCell names) cells
    → TypeList names ts cells
type_list names ts cells e has =
    let p = types_spelled names ts cells [] (e ∙ sym (append-nil (list_labels ts))) has in
    let all : cells ≡ spell_types p.trees =
    p.spelled ∙ ap (λ cs. spell_types p.trees ++ cs) (no_label names p.others p.rest)
    ∙ append-nil (spell_types p.trees) in
    let trees : read_types cells ≡ p.trees = ap read_types all ∙ read-spell_types p.trees in
    record {
      list = ap spell_types trees ∙ sym all;
      is = ap (types_of names) trees ∙ p.is;
      has = subst (HasTypes names) (sym trees) p.has;
    }
