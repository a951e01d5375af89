-- Lists of nodes that spell trees, part by part.
use Rattle.std.specs.Prelude.{◌≡◌, ◌≤◌, ℕ, zero, suc, ◌+◌, List, [], ◌++◌, drop, length, refl, slice_index_or, take}
use Rattle.std.proofs.Common.{ap, ap₂, append-nil, arith, length-append, subst, sym, ◌∙◌}
use Rattle.std.proofs.Math.Seq.{drop-append_seam, take-append_seam}
use Rattle.cu_peg.specs.declared.node.Form.{Form}
use Rattle.cu_peg.specs.declared.node.Form.TheVariants as form
use Rattle.cu_peg.specs.declared.node.Node.{Node}
use Rattle.cu_peg.specs.Parse.{ParseTree, ParseTrees, Leaf, Parts, Chosen, NoTree, MoreTrees, size, sizes, spelled, spelled_all}
use Rattle.cu_peg.specs.Spelling.{first_of, read, read-spelled, read_all, read_all-spelled, size-positive}
use Rattle.cu_syntax.specs.Subtrees.{others_of, parts_in}

mutual
  pub length-spelled : (tree : ParseTree ℕ) → length (spelled tree) ≡ size tree
  length-spelled (Leaf n) = refl
  length-spelled (Parts trees) = omega (arith, length-spelled_all trees)
  length-spelled (Chosen n tree) = omega (arith, length-spelled tree)

  pub length-spelled_all : (trees : ParseTrees ℕ) → length (spelled_all trees) ≡ sizes trees
  length-spelled_all NoTree = refl
  length-spelled_all (MoreTrees tree trees) = omega (arith, length-append (spelled tree) (spelled_all trees), length-spelled tree, length-spelled_all trees)

-- what the first node of a tree is
abbrev pub form_of : ParseTree ℕ → Form
form_of (Leaf n) = form.Leaf n
form_of (Parts trees) = form.Parts
form_of (Chosen n tree) = form.Chosen n

first_form : (tree : ParseTree ℕ) (nodes others : List Node) (d : Node) → nodes ≡ spelled tree ++ others → (slice_index_or nodes 0 d).form ≡ form_of tree
first_form (Leaf n) nodes others d e = rw e refl
first_form (Parts trees) nodes others d e = rw e refl
first_form (Chosen n tree) nodes others d e = rw e refl

first_size : (tree : ParseTree ℕ) (nodes others : List Node) (d : Node) → nodes ≡ spelled tree ++ others → (slice_index_or nodes 0 d).size ≡ size tree
first_size (Leaf n) nodes others d e = rw e refl
first_size (Parts trees) nodes others d e = rw e refl
first_size (Chosen n tree) nodes others d e = rw e refl

-- Nodes are those of a tree and some others.
pub record Begin (nodes : List Node) (tree : ParseTree ℕ) (others : List Node) : Type 0 where
  pub first : (d : Node) → (slice_index_or nodes 0 d).form ≡ form_of tree
  pub number : (d : Node) → (slice_index_or nodes 0 d).size ≡ size tree
  pub prefix : take (size tree) nodes ≡ spelled tree
  pub suffix : drop (size tree) nodes ≡ others
  pub long : size tree ≤ length nodes
  pub some : 1 ≤ size tree

pub begin : (nodes : List Node) (tree : ParseTree ℕ) (others : List Node) → nodes ≡ spelled tree ++ others → Begin nodes tree others
begin nodes tree others e = record {
  first = λ d. first_form tree nodes others d e;
  number = λ d. first_size tree nodes others d e;
  prefix = ap₂ (λ n xs. take n xs) (sym (length-spelled tree)) e ∙ take-append_seam (spelled tree) others;
  suffix = ap₂ (λ n xs. drop n xs) (sym (length-spelled tree)) e ∙ drop-append_seam (spelled tree) others;
  long = omega (arith, ap (λ (xs : List Node). length xs) e, length-append (spelled tree) others, length-spelled tree);
  some = size-positive tree;
}

-- nodes that spell one tree
pub whole : (nodes : List Node) → spelled (read nodes) ≡ nodes → nodes ≡ spelled (read nodes) ++ []
whole nodes e = sym e ∙ sym (append-nil (spelled (read nodes)))

pub reads : (nodes : List Node) (tree : ParseTree ℕ) → nodes ≡ spelled tree → read nodes ≡ tree
reads nodes tree e = ap read e ∙ read-spelled tree

pub spells : (nodes : List Node) (tree : ParseTree ℕ) → nodes ≡ spelled tree → spelled (read nodes) ≡ nodes
spells nodes tree e = ap spelled (reads nodes tree e) ∙ sym e

pub reads_all : (trees : ParseTrees ℕ) → read_all (spelled_all trees) ≡ trees
reads_all NoTree = refl
reads_all (MoreTrees tree trees) = read_all-spelled tree (spelled_all trees) ∙ ap (MoreTrees tree) (reads_all trees)

-- the trees after so many
abbrev pub after_trees : ℕ → ParseTrees ℕ → ParseTrees ℕ
after_trees zero trees = trees
after_trees (suc n) NoTree = NoTree
after_trees (suc n) (MoreTrees tree trees) = after_trees n trees

pub next_after : (n : ℕ) (trees others : ParseTrees ℕ) (tree : ParseTree ℕ) → after_trees n trees ≡ MoreTrees tree others → after_trees (suc n) trees ≡ others
next_after zero trees others tree e = rw e refl
next_after (suc n) NoTree others tree e = absurd cc
next_after (suc n) (MoreTrees first trees) others tree e = next_after n trees others tree e

pub one_after : (n : ℕ) (trees others : ParseTrees ℕ) (tree : ParseTree ℕ) → after_trees n trees ≡ MoreTrees tree others → after_trees (n + 1) trees ≡ others
one_after n trees others tree e = let next : n + 1 ≡ suc n = omega arith in rw next (next_after n trees others tree e)

pub size_after : (n : ℕ) (trees others : ParseTrees ℕ) (tree : ParseTree ℕ) → after_trees n trees ≡ MoreTrees tree others → size tree ≤ sizes trees
size_after zero NoTree others tree e = absurd cc
size_after zero (MoreTrees first trees) others tree e =
    let same : first ≡ tree = cc in
    omega (arith, ap size same)
size_after (suc n) NoTree others tree e = absurd cc
size_after (suc n) (MoreTrees first trees) others tree e = omega (arith, size_after n trees others tree e)

pub some_parts : (trees : ParseTrees ℕ) → spelled_all trees ≡ [] → trees ≡ NoTree
some_parts NoTree e = refl
some_parts (MoreTrees (Leaf n) trees) e = absurd cc
some_parts (MoreTrees (Parts parts) trees) e = absurd cc
some_parts (MoreTrees (Chosen n tree) trees) e = absurd cc

-- the first of some trees
pub record Cut (nodes : List Node) (tree : ParseTree ℕ) (others : ParseTrees ℕ) : Type 0 where
  pub is : read_all nodes ≡ MoreTrees tree others
  pub begins : Begin nodes tree (spelled_all others)

pub cut : (nodes : List Node) (trees : ParseTrees ℕ) → read_all nodes ≡ trees → ¬ (nodes ≡ []) → spelled_all (read_all nodes) ≡ nodes
    → Cut nodes (first_of (read_all nodes)) (others_of (read_all nodes))
cut nodes NoTree r some e = absurd (some (sym e ∙ ap spelled_all r))
cut nodes (MoreTrees tree trees) r some e =
    subst (λ (all : ParseTrees ℕ). Cut nodes (first_of all) (others_of all)) (sym r)
    (record { is = r; begins = begin nodes tree (spelled_all trees) (sym e ∙ ap spelled_all r) })

pub sizes_in : (tree : ParseTree ℕ) → sizes (parts_in tree) + 1 ≤ size tree
sizes_in (Leaf n) = omega arith
sizes_in (Parts trees) = omega arith
sizes_in (Chosen n tree) = omega (arith, size-positive tree)
