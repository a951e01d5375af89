-- Cells whose labels are those of an expression spell one, and it has the texts of that expression.
use Rattle.std.proofs.Common.{◌≡◌, ℕ, List, [], ◌∷◌, ◌++◌, map, refl, sym, ap, subst, ◌∙◌, append_assoc, append-nil}
use Rattle.std.specs.List.{AllByRecursion}
use Rattle.cu_flatread.specs.Cells.{IsOneExpression, read_expression, spell_branches, spell_expression, spell_expressions, spell_pattern, spell_variables}
use Rattle.cu_flatread.specs.Inside.ExpressionTasks.{HasCell, Label, branch_labels, label, labels, list_labels, pattern_labels, variable_labels}
use Rattle.cu_flatread.specs.Meaning.{HasBranches, HasExpression, HasExpressions, HasPattern, branches_of, entity_of, expression_of, expressions_of, pattern_of}
use Rattle.cu_flatread.specs.Modules as m
use Rattle.cu_flatread.specs.Modules.{Branches, Expression, Expressions, Pattern}
use Rattle.cu_flatread.specs.Notation.{Entity}
use Rattle.cu_flatread.specs.Spelling.{read-spell_expression}
use Rattle.cu_flatread.specs.declared.cells.ExpressionCell.{ExpressionCell}
use Rattle.cu_flatread.specs.declared.cells.ExpressionCell.TheVariants as expression

-- cells begin with those of something, and others follow
pub record Spells {A B : Type 0} (names : List (List ℕ)) (spell : A → List ExpressionCell)
    (of : A → B) (Has : A → Type 0) (x : B) (cells : List ExpressionCell) (more : List Label)
    : Type 0 where
  pub tree : A
  pub others : List ExpressionCell
  pub spelled : cells ≡ spell tree ++ others
  pub rest : map (label names) others ≡ more
  pub is : of tree ≡ x
  pub has : Has tree
  pub others_have : AllByRecursion (HasCell names) others

abbrev SpellsNumbers : List (List ℕ) → List ℕ → List ExpressionCell → List Label → Type 0
SpellsNumbers names xs cells more =
    Spells names spell_variables (λ (ys : List ℕ). ys) (λ ys. Unit {0}) xs cells more

abbrev SpellsPattern : List (List ℕ) → Pattern Entity → List ExpressionCell → List Label → Type 0
SpellsPattern names p cells more =
    Spells names spell_pattern (pattern_of names) (HasPattern names) p cells more

abbrev SpellsExpression : List (List ℕ) → Expression Entity → List ExpressionCell → List Label
    → Type 0
SpellsExpression names t cells more =
    Spells names spell_expression (expression_of names) (HasExpression names) t cells more

abbrev SpellsExpressions : List (List ℕ) → Expressions Entity → List ExpressionCell → List Label
    → Type 0
SpellsExpressions names ts cells more =
    Spells names spell_expressions (expressions_of names) (HasExpressions names) ts cells more

abbrev SpellsBranches : List (List ℕ) → Branches Entity → List ExpressionCell → List Label → Type 0
SpellsBranches names bs cells more =
    Spells names spell_branches (branches_of names) (HasBranches names) bs cells more

pub numbers_spelled : (names : List (List ℕ)) (xs : List ℕ) (cells : List ExpressionCell)
    (more : List Label) → map (label names) cells ≡ variable_labels xs ++ more
    → AllByRecursion (HasCell names) cells → SpellsNumbers names xs cells more
numbers_spelled names [] (expression.EndOfVariables ∷ cells) more same has =
    let rest : map (label names) cells ≡ more = cc in
    record { tree = []; others = cells; spelled = refl; rest = rest; is = refl; has = tt; others_have = has.1 }
numbers_spelled names [] cells more same has = let no : ⊥ = cc in absurd no
numbers_spelled names (x ∷ xs) (expression.Bound x2 ∷ cells) more same has =
    let x_is : x2 ≡ x = cc in
    let parts : map (label names) cells ≡ variable_labels xs ++ more = cc in
    let s0 = numbers_spelled names xs cells more parts has.1 in
    record { tree = (x2 ∷ s0.tree); others = s0.others; spelled = ap (λ cs. expression.Bound x2 ∷ cs) s0.spelled; rest = s0.rest; is = (λ i. (x_is i) ∷ (s0.is i)); has = tt; others_have = s0.others_have }
numbers_spelled names (x ∷ xs) cells more same has = let no : ⊥ = cc in absurd no

pub pattern_spelled : (names : List (List ℕ)) (p : Pattern Entity) (cells : List ExpressionCell)
    (more : List Label) → map (label names) cells ≡ pattern_labels p ++ more
    → AllByRecursion (HasCell names) cells → SpellsPattern names p cells more
pattern_spelled names (m.Built e xs) (expression.Pattern e2 ∷ cells) more same has =
    let e_is : entity_of names e2 ≡ e = cc in
    let parts : map (label names) cells ≡ variable_labels xs ++ more = cc in
    let s0 = numbers_spelled names xs cells more parts has.1 in
    record { tree = (m.Built e2 s0.tree); others = s0.others; spelled = ap (λ cs. expression.Pattern e2 ∷ cs) s0.spelled; rest = s0.rest; is = (λ i. m.Built (e_is i) (s0.is i)); has = has.0; others_have = s0.others_have }
pattern_spelled names (m.Built e xs) cells more same has = let no : ⊥ = cc in absurd no
pattern_spelled names (m.Exactly l) (expression.LPattern l2 ∷ cells) more same has =
    let l_is : l2 ≡ l = cc in
    let rest : map (label names) cells ≡ more = cc in
    record { tree = (m.Exactly l2); others = cells; spelled = refl; rest = rest; is = (λ i. m.Exactly (l_is i)); has = tt; others_have = has.1 }
pattern_spelled names (m.Exactly l) cells more same has = let no : ⊥ = cc in absurd no

mutual
  pub expression_spelled : (names : List (List ℕ)) (t : Expression Entity) (cells : List ExpressionCell)
      (more : List Label) → map (label names) cells ≡ labels t ++ more
      → AllByRecursion (HasCell names) cells → SpellsExpression names t cells more
  expression_spelled names (m.Var x) (expression.Var x2 ∷ cells) more same has =
      let x_is : x2 ≡ x = cc in
      let rest : map (label names) cells ≡ more = cc in
      record { tree = (m.Var x2); others = cells; spelled = refl; rest = rest; is = (λ i. m.Var (x_is i)); has = tt; others_have = has.1 }
  expression_spelled names (m.Var x) cells more same has = let no : ⊥ = cc in absurd no
  expression_spelled names (m.Literal l) (expression.Literal l2 ∷ cells) more same has =
      let l_is : l2 ≡ l = cc in
      let rest : map (label names) cells ≡ more = cc in
      record { tree = (m.Literal l2); others = cells; spelled = refl; rest = rest; is = (λ i. m.Literal (l_is i)); has = tt; others_have = has.1 }
  expression_spelled names (m.Literal l) cells more same has = let no : ⊥ = cc in absurd no
  expression_spelled names (m.Comb k e ts) (expression.Comb k2 e2 ∷ cells) more same has =
      let k_is : k2 ≡ k = cc in
      let e_is : entity_of names e2 ≡ e = cc in
      let parts : map (label names) cells ≡ list_labels ts ++ more = cc in
      let s0 = expressions_spelled names ts cells more parts has.1 in
      record { tree = (m.Comb k2 e2 s0.tree); others = s0.others; spelled = ap (λ cs. expression.Comb k2 e2 ∷ cs) s0.spelled; rest = s0.rest; is = (λ i. m.Comb (k_is i) (e_is i) (s0.is i)); has = (has.0, s0.has); others_have = s0.others_have }
  expression_spelled names (m.Comb k e ts) cells more same has = let no : ⊥ = cc in absurd no
  expression_spelled names (m.Let x a b) (expression.Let x2 ∷ cells) more same has =
      let x_is : x2 ≡ x = cc in
      let parts : map (label names) cells ≡ (labels a ++ labels b) ++ more = cc in
      let s0 = expression_spelled names a cells (labels b ++ more) (parts ∙ append_assoc (labels a) (labels b) more) has.1 in
      let s1 = expression_spelled names b s0.others more s0.rest s0.others_have in
      record { tree = (m.Let x2 s0.tree s1.tree); others = s1.others; spelled = ap (λ cs. expression.Let x2 ∷ cs) (s0.spelled ∙ ap (λ cs. spell_expression s0.tree ++ cs) s1.spelled ∙ sym (append_assoc (spell_expression s0.tree) (spell_expression s1.tree) s1.others)); rest = s1.rest; is = (λ i. m.Let (x_is i) (s0.is i) (s1.is i)); has = (s0.has, s1.has); others_have = s1.others_have }
  expression_spelled names (m.Let x a b) cells more same has = let no : ⊥ = cc in absurd no
  expression_spelled names (m.Free x a) (expression.Free x2 ∷ cells) more same has =
      let x_is : x2 ≡ x = cc in
      let parts : map (label names) cells ≡ labels a ++ more = cc in
      let s0 = expression_spelled names a cells more parts has.1 in
      record { tree = (m.Free x2 s0.tree); others = s0.others; spelled = ap (λ cs. expression.Free x2 ∷ cs) s0.spelled; rest = s0.rest; is = (λ i. m.Free (x_is i) (s0.is i)); has = s0.has; others_have = s0.others_have }
  expression_spelled names (m.Free x a) cells more same has = let no : ⊥ = cc in absurd no
  expression_spelled names (m.Or a b) (expression.Or ∷ cells) more same has =
      let parts : map (label names) cells ≡ (labels a ++ labels b) ++ more = cc in
      let s0 = expression_spelled names a cells (labels b ++ more) (parts ∙ append_assoc (labels a) (labels b) more) has.1 in
      let s1 = expression_spelled names b s0.others more s0.rest s0.others_have in
      record { tree = (m.Or s0.tree s1.tree); others = s1.others; spelled = ap (λ cs. expression.Or ∷ cs) (s0.spelled ∙ ap (λ cs. spell_expression s0.tree ++ cs) s1.spelled ∙ sym (append_assoc (spell_expression s0.tree) (spell_expression s1.tree) s1.others)); rest = s1.rest; is = (λ i. m.Or (s0.is i) (s1.is i)); has = (s0.has, s1.has); others_have = s1.others_have }
  expression_spelled names (m.Or a b) cells more same has = let no : ⊥ = cc in absurd no
  expression_spelled names (m.Case mode a bs) (expression.Case mode2 ∷ cells) more same has =
      let mode_is : mode2 ≡ mode = cc in
      let parts : map (label names) cells ≡ (labels a ++ branch_labels bs) ++ more = cc in
      let s0 = expression_spelled names a cells (branch_labels bs ++ more) (parts ∙ append_assoc (labels a) (branch_labels bs) more) has.1 in
      let s1 = branches_spelled names bs s0.others more s0.rest s0.others_have in
      record { tree = (m.Case mode2 s0.tree s1.tree); others = s1.others; spelled = ap (λ cs. expression.Case mode2 ∷ cs) (s0.spelled ∙ ap (λ cs. spell_expression s0.tree ++ cs) s1.spelled ∙ sym (append_assoc (spell_expression s0.tree) (spell_branches s1.tree) s1.others)); rest = s1.rest; is = (λ i. m.Case (mode_is i) (s0.is i) (s1.is i)); has = (s0.has, s1.has); others_have = s1.others_have }
  expression_spelled names (m.Case mode a bs) cells more same has = let no : ⊥ = cc in absurd no

  pub expressions_spelled : (names : List (List ℕ)) (ts : Expressions Entity) (cells : List ExpressionCell)
      (more : List Label) → map (label names) cells ≡ list_labels ts ++ more
      → AllByRecursion (HasCell names) cells → SpellsExpressions names ts cells more
  expressions_spelled names m.NoExpression (expression.End ∷ cells) more same has =
      let rest : map (label names) cells ≡ more = cc in
      record { tree = m.NoExpression; others = cells; spelled = refl; rest = rest; is = refl; has = tt; others_have = has.1 }
  expressions_spelled names m.NoExpression cells more same has = let no : ⊥ = cc in absurd no
  expressions_spelled names (m.MoreExpressions t ts) (expression.More ∷ cells) more same has =
      let parts : map (label names) cells ≡ (labels t ++ list_labels ts) ++ more = cc in
      let s0 = expression_spelled names t cells (list_labels ts ++ more) (parts ∙ append_assoc (labels t) (list_labels ts) more) has.1 in
      let s1 = expressions_spelled names ts s0.others more s0.rest s0.others_have in
      record { tree = (m.MoreExpressions s0.tree s1.tree); others = s1.others; spelled = ap (λ cs. expression.More ∷ cs) (s0.spelled ∙ ap (λ cs. spell_expression s0.tree ++ cs) s1.spelled ∙ sym (append_assoc (spell_expression s0.tree) (spell_expressions s1.tree) s1.others)); rest = s1.rest; is = (λ i. m.MoreExpressions (s0.is i) (s1.is i)); has = (s0.has, s1.has); others_have = s1.others_have }
  expressions_spelled names (m.MoreExpressions t ts) cells more same has = let no : ⊥ = cc in absurd no

  pub branches_spelled : (names : List (List ℕ)) (bs : Branches Entity) (cells : List ExpressionCell)
      (more : List Label) → map (label names) cells ≡ branch_labels bs ++ more
      → AllByRecursion (HasCell names) cells → SpellsBranches names bs cells more
  branches_spelled names m.NoBranch (expression.EndOfBranches ∷ cells) more same has =
      let rest : map (label names) cells ≡ more = cc in
      record { tree = m.NoBranch; others = cells; spelled = refl; rest = rest; is = refl; has = tt; others_have = has.1 }
  branches_spelled names m.NoBranch cells more same has = let no : ⊥ = cc in absurd no
  branches_spelled names (m.MoreBranches p t bs) (expression.Branch ∷ cells) more same has =
      let parts : map (label names) cells ≡ (pattern_labels p ++ (labels t ++ branch_labels bs)) ++ more = cc in
      let s0 = pattern_spelled names p cells ((labels t ++ branch_labels bs) ++ more) (parts ∙ append_assoc (pattern_labels p) (labels t ++ branch_labels bs) more) has.1 in
      let s1 = expression_spelled names t s0.others (branch_labels bs ++ more) (s0.rest ∙ append_assoc (labels t) (branch_labels bs) more) s0.others_have in
      let s2 = branches_spelled names bs s1.others more s1.rest s1.others_have in
      record { tree = (m.MoreBranches s0.tree s1.tree s2.tree); others = s2.others; spelled = ap (λ cs. expression.Branch ∷ cs) (s0.spelled ∙ ap (λ cs. spell_pattern s0.tree ++ cs) (s1.spelled ∙ ap (λ cs. spell_expression s1.tree ++ cs) s2.spelled ∙ sym (append_assoc (spell_expression s1.tree) (spell_branches s2.tree) s2.others)) ∙ sym (append_assoc (spell_pattern s0.tree) (spell_expression s1.tree ++ (spell_branches s2.tree)) s2.others)); rest = s2.rest; is = (λ i. m.MoreBranches (s0.is i) (s1.is i) (s2.is i)); has = (s0.has, s1.has, s2.has); others_have = s2.others_have }
  branches_spelled names (m.MoreBranches p t bs) cells more same has = let no : ⊥ = cc in absurd no

no_label : (names : List (List ℕ)) (cells : List ExpressionCell) → map (label names) cells ≡ []
    → cells ≡ []
no_label names [] e = refl
no_label names (cell ∷ cells) e = let no : ⊥ = cc in absurd no

-- the cells of one expression
pub record OneExpression (names : List (List ℕ)) (t : Expression Entity)
    (cells : List ExpressionCell) : Type 0 where
  pub one : IsOneExpression cells
  pub is : expression_of names (read_expression cells) ≡ t
  pub has : HasExpression names (read_expression cells)

pub one_expression : (names : List (List ℕ)) (t : Expression Entity) (cells : List ExpressionCell)
    → map (label names) cells ≡ labels t → AllByRecursion (HasCell names) cells
    → OneExpression names t cells
one_expression names t cells e has =
    let p = expression_spelled names t cells [] (e ∙ sym (append-nil (labels t))) has in
    let all : cells ≡ spell_expression p.tree =
    p.spelled ∙ ap (λ cs. spell_expression p.tree ++ cs) (no_label names p.others p.rest)
    ∙ append-nil (spell_expression p.tree) in
    let tree : read_expression cells ≡ p.tree =
    ap read_expression all ∙ read-spell_expression p.tree in
    record {
      one = ap spell_expression tree ∙ sym all;
      is = ap (expression_of names) tree ∙ p.is;
      has = subst (HasExpression names) (sym tree) p.has;
    }
