-- Trees of texts, read off their nodes from the right end.
use Rattle.std.specs.Prelude.{◌≡◌, ℕ, zero, suc, ◌+◌, ◌-◌, ◌≤◌, ◌⊎◌, List, [], ◌∷◌, ◌++◌, refl}
use Rattle.std.proofs.Common.{arith, ap, sym, ◌∙◌, append_assoc, append-nil, inl, inr}
use base.Stored.{coded_unit}
use Rattle.std.specs.Coded.{Coded, code_by, coded×, coded⊎, coded_list, coded_ℕ}
use Rattle.cu_peg.specs.declared.node.Form.{Form}
use Rattle.cu_peg.specs.declared.node.Form.TheVariants as form
use Rattle.cu_peg.specs.declared.node.Node.{Node}
use Rattle.cu_peg.specs.Parse.{ParseTree, ParseTrees, Leaf, Parts, Chosen, NoTree, MoreTrees, size, sizes, spelled, spelled_all}

-- the first trees that have this many nodes together (none are left where the nodes spell trees)
abbrev pub prefix : ℕ → ParseTrees ℕ → ParseTrees ℕ
prefix zero trees = NoTree
prefix (suc n) NoTree = NoTree
prefix (suc n) (MoreTrees tree trees) = MoreTrees tree (prefix (suc n - size tree) trees)

-- the trees after the first ones that have this many nodes together
abbrev pub suffix : ℕ → ParseTrees ℕ → ParseTrees ℕ
suffix zero trees = trees
suffix (suc n) NoTree = NoTree
suffix (suc n) (MoreTrees tree trees) = suffix (suc n - size tree) trees

-- a list of trees whose first is made the n-th alternative of a choice
abbrev pub choose : ℕ → ParseTrees ℕ → ParseTrees ℕ
choose n NoTree = NoTree
choose n (MoreTrees tree trees) = MoreTrees (Chosen n tree) trees

-- the trees that a node and the trees after it make
abbrev pub put : Form → ℕ → ParseTrees ℕ → ParseTrees ℕ
put (form.Leaf n) count trees = MoreTrees (Leaf n) trees
put form.Parts count trees = MoreTrees (Parts (prefix (count - 1) trees)) (suffix (count - 1) trees)
put (form.Chosen n) count trees = choose n trees

abbrev pub read_all : List Node → ParseTrees ℕ
read_all [] = NoTree
read_all (node ∷ nodes) = put node.form node.size (read_all nodes)

abbrev pub first_of : ParseTrees ℕ → ParseTree ℕ
first_of NoTree = Parts NoTree
first_of (MoreTrees tree trees) = tree

abbrev pub read : List Node → ParseTree ℕ
read nodes = first_of (read_all nodes)

-- ---- reading the nodes that a tree spells gives the tree, as storing trees as nodes needs

-- the trees of one list and then those of another
abbrev join : ParseTrees ℕ → ParseTrees ℕ → ParseTrees ℕ
join NoTree others = others
join (MoreTrees tree trees) others = MoreTrees tree (join trees others)

pub size-positive : (tree : ParseTree ℕ) → 1 ≤ size tree
size-positive (Leaf n) = omega arith
size-positive (Parts trees) = omega arith
size-positive (Chosen n tree) = omega arith

prefix-join : (trees others : ParseTrees ℕ) (n : ℕ) → n ≡ sizes trees
    → prefix n (join trees others) ≡ trees
prefix-join NoTree others n e = rw e refl
prefix-join (MoreTrees tree trees) others zero e = absurd (omega (arith, size-positive tree))
prefix-join (MoreTrees tree trees) others (suc n) e =
    ap (MoreTrees tree) (prefix-join trees others (suc n - size tree) (omega arith))

suffix-join : (trees others : ParseTrees ℕ) (n : ℕ) → n ≡ sizes trees
    → suffix n (join trees others) ≡ others
suffix-join NoTree others n e = rw e refl
suffix-join (MoreTrees tree trees) others zero e = absurd (omega (arith, size-positive tree))
suffix-join (MoreTrees tree trees) others (suc n) e =
    suffix-join trees others (suc n - size tree) (omega arith)

mutual
  -- reading what a tree spells gives the tree
  pub read_all-spelled : (tree : ParseTree ℕ) (nodes : List Node)
      → read_all (spelled tree ++ nodes) ≡ MoreTrees tree (read_all nodes)
  read_all-spelled (Leaf n) nodes = refl
  read_all-spelled (Parts trees) nodes =
      let rest = read_all nodes in
      let long : sizes trees ≡ (1 + sizes trees) - 1 = omega arith in
      rw (
        read_all-spelled_all trees nodes,
        ← long,
        prefix-join trees rest (sizes trees) refl,
        suffix-join trees rest (sizes trees) refl,
      ) refl
  read_all-spelled (Chosen n tree) nodes = rw (read_all-spelled tree nodes) refl

  pub read_all-spelled_all : (trees : ParseTrees ℕ) (nodes : List Node)
      → read_all (spelled_all trees ++ nodes) ≡ join trees (read_all nodes)
  read_all-spelled_all NoTree nodes = refl
  read_all-spelled_all (MoreTrees tree trees) nodes =
      rw (
        append_assoc,
        read_all-spelled tree (spelled_all trees ++ nodes),
        read_all-spelled_all trees nodes,
      ) refl

pub read-spelled : (tree : ParseTree ℕ) → read (spelled tree) ≡ tree
read-spelled tree = ap read (sym (append-nil (spelled tree))) ∙ ap first_of
    (read_all-spelled tree [])

-- how trees are stored
abbrev form_to : Form → ℕ ⊎ (Unit {0} ⊎ ℕ)
form_to (form.Leaf n) = inl n
form_to form.Parts = inr (inl tt)
form_to (form.Chosen n) = inr (inr n)

abbrev form_from : ℕ ⊎ (Unit {0} ⊎ ℕ) → Form
form_from (inl n) = form.Leaf n
form_from (inr (inl _)) = form.Parts
form_from (inr (inr n)) = form.Chosen n

pub form_from-to : (f : Form) → form_from (form_to f) ≡ f
form_from-to (form.Leaf n) = refl
form_from-to form.Parts = refl
form_from-to (form.Chosen n) = refl

abbrev form_code : Coded Form
form_code =
    code_by (ℕ ⊎ (Unit {0} ⊎ ℕ)) (coded⊎ coded_ℕ (coded⊎ coded_unit coded_ℕ)) form_to form_from
    form_from-to

abbrev node_code : Coded Node
node_code = code_by (Form × ℕ) (coded× form_code coded_ℕ) (λ n. (n.form, n.size))
    (λ p. record { form = p.0; size = p.1 }) (λ _. refl)

abbrev pub tree_code : Coded (ParseTree ℕ)
tree_code = code_by (List Node) (coded_list node_code) spelled read read-spelled
