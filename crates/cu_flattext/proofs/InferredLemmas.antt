-- Types of tables, and what is written of them.
use Rattle.std.proofs.Common.{◌≡◌, ℕ, List, [], ◌∷◌, ◌++◌, None, Some, length, map, get_or, reverse, refl, sym, ap, ◌∙◌, arith, append_assoc}
use Rattle.std.proofs.Math.Logic.{∥∥₁_elim}
use Rattle.std.proofs.lemmas.List.{append-nil}
use Rattle.std.proofs.lemmas.Option.{get_or_from_slice_get, slice_get-map, slice_get_past}
use Rattle.std.specs.Coded.{Coded-set, coded_list, coded_ℕ}
use Rattle.std.specs.List.{slice_get}
use Rattle.std.specs.Option.{option_map}
use Rattle.cu_calculus.specs.declared.FunId.{FunId}
use Rattle.cu_kernel.specs.TypeExpr as type
use Rattle.cu_kernel.specs.TypeExpr.{TypeExpr}
use Rattle.cu_kernel.specs.TypesOf.{type_list}
use Rattle.cu_kernel.specs.declared.type_term.TypeName.{TypeName}
use Rattle.cu_kernel.specs.declared.type_term.TypeName.TheVariants as named
use Rattle.cu_types.proofs.TableLemmas.{mapped_length, trees-length, trees_fit}
use Rattle.cu_types.specs.Equations.{breadth}
use Rattle.cu_types.specs.Inference.{type_in}
use Rattle.cu_types.specs.Table.{at, built, shape_of, tree_over, trees}
use Rattle.cu_types.specs.declared.node.Node.{Node}
use Rattle.cu_types.specs.declared.node.TypeHead.TheVariants as head
use Rattle.cu_flattext.specs.Inside.InferredTasks.{inferred_parts, text_there, type_at}
use Rattle.cu_flattext.specs.Naming.{Lowered, type_entity}
use Rattle.cu_flattext.specs.TypeTexts.{as_written, constructed_text, inferred_type_text, type_texts, type_variables, written_type_text}
use Rattle.cu_flattext.specs.declared.inferred.InferredTask.{InferredTask}
use Rattle.cu_flattext.specs.declared.inferred.InferredTask.TheVariants as task
use Rattle.cu_flattext.specs.declared.type_table.TypeTable.{TypeTable}
use Rattle.cu_flattext.proofs.ScopeLemmas.{none_past, past}

-- ---- interfaces

pub type_known : (interface : List TypeExpr) (f : FunId) (t : TypeExpr) → Some t ≡ slice_get interface f.0 → t ≡ type_in interface f
type_known interface f t is = sym (get_or_from_slice_get interface f.0 t (type.Variable 0) (sym is))

pub type_unknown : (interface : List TypeExpr) (f : FunId) → None ≡ slice_get interface f.0 → type.Variable 0 ≡ type_in interface f
type_unknown interface f is = sym (past interface f.0 (type.Variable 0) (sym is))

-- ---- places of tables

no_type : (types : List Node) (place : ℕ) → slice_get types place ≡ None → at (trees (map shape_of types)) place ≡ type.Variable 0
no_type types place is =
    let few = none_past types place is in
    let a = trees-length (map shape_of types) in
    let b = mapped_length shape_of types in
    past (trees (map shape_of types)) place (type.Variable 0) (slice_get_past (trees (map shape_of types)) place (omega arith))

-- where a table has no type, a type variable is written
pub text_of_none : (program : Lowered) (count : ℕ) (table : TypeTable) (place : ℕ) → None ≡ slice_get table.types.now place
    → get_or (type_variables count) 0 [] ≡ text_there program count table place
text_of_none program count table place is =
    ap (written_type_text program count) (sym (no_type table.types.now place (sym is)))

-- the type at a place is that of its shape
pub text_of_node : (program : Lowered) (count : ℕ) (table : TypeTable) (place : ℕ) (node : Node) → Some node ≡ slice_get table.types.now place
    → written_type_text program count (tree_over (type_at table) (shape_of node)) ≡ text_there program count table place
text_of_node program count table place node is =
    let shapes = map shape_of table.types.now in
    let there : slice_get shapes place ≡ Some (shape_of node) =
    slice_get-map shape_of table.types.now place ∙ ap (option_map shape_of) (sym is) in
    ∥∥₁_elim table.is_table (Coded-set (coded_list coded_ℕ) _ _)
    (λ made. ap (written_type_text program count) (sym (trees_fit shapes place (shape_of node) made there)))

-- ---- heads

arguments_read : (program : Lowered) (count : ℕ) (f : ℕ → TypeExpr) (ps : List ℕ)
    → type_texts program (as_written program) (type_variables count) (type_list (map f ps)) ≡ map (λ p. written_type_text program count (f p)) ps
arguments_read program count f [] = refl
arguments_read program count f (p ∷ ps) =
    ap (λ (texts : List (List ℕ)). written_type_text program count (f p) ∷ texts) (arguments_read program count f ps)

-- a name on the types at these places
pub named_read : (program : Lowered) (count : ℕ) (table : TypeTable) (name : TypeName) (ps : List ℕ)
    → constructed_text (type_entity program name) (map (text_there program count table) ps)
    ≡ written_type_text program count (built (head.Named name) (map (type_at table) ps))
named_read program count table (named.Data t) ps =
    ap (constructed_text (type_entity program (named.Data t))) (sym (arguments_read program count (type_at table) ps))
named_read program count table (named.Synonym s) ps =
    ap (constructed_text (type_entity program (named.Synonym s))) (sym (arguments_read program count (type_at table) ps))

pub two_items : (xs : List ℕ) → length xs ≡ 2 → get_or xs 0 0 ∷ get_or xs 1 0 ∷ [] ≡ xs
two_items [] two = absurd (omega arith)
two_items (x ∷ []) two = absurd (omega arith)
two_items (x ∷ y ∷ []) two = refl
two_items (x ∷ y ∷ z ∷ xs) two = absurd (omega arith)

-- the functions from one type to another take two arguments
pub not_two : (f : ℕ → TypeExpr) (ps : List ℕ) → (length ps ≡ 2 → ⊥) → type.Variable 0 ≡ built head.Arrow (map f ps)
not_two f [] other = refl
not_two f (a ∷ []) other = refl
not_two f (a ∷ b ∷ []) other = absurd (other refl)
not_two f (a ∷ b ∷ c ∷ ps) other = refl

-- ---- tasks

-- the type at a place is left to be written
pub inferred_made : (program : Lowered) (count place : ℕ) (table : TypeTable) (types : List Node) (t : TypeExpr) (none tasks : List InferredTask)
    → count ≡ breadth t → table.types.now ≡ types → at (trees (map shape_of types)) place ≡ t → none ≡ []
    → tasks ≡ none ++ task.Type place ∷ [] → inferred_parts program count table (reverse tasks) ≡ inferred_type_text program t
inferred_made program count place table types t none tasks counted same is no_task pushed =
    ap (λ (ts : List InferredTask). inferred_parts program count table (reverse ts))
    (pushed ∙ ap (λ (ts : List InferredTask). ts ++ task.Type place ∷ []) no_task)
    ∙ append-nil (text_there program count table place)
    ∙ ap (λ (nodes : List Node). written_type_text program count (at (trees (map shape_of nodes)) place)) same
    ∙ ap (written_type_text program count) is
    ∙ ap (λ n. written_type_text program n t) counted

-- a type variable is left to be written
pub unknown_made : (program : Lowered) (table : TypeTable) (none tasks : List InferredTask) → table.types.now ≡ [] → none ≡ []
    → tasks ≡ none ++ task.Type 0 ∷ [] → inferred_parts program 1 table (reverse tasks) ≡ inferred_type_text program (type.Variable 0)
unknown_made program table none tasks empty no_task pushed =
    inferred_made program 1 0 table [] (type.Variable 0) none tasks refl empty (no_type [] 0 refl) no_task pushed

-- a text was written before what is left
pub text_written : (old new text other left : List ℕ) → new ≡ old ++ text → text ≡ other → new ++ left ≡ old ++ (other ++ left)
text_written old new text other left is same =
    ap (λ (xs : List ℕ). xs ++ left) is ∙ append_assoc old text left ∙ ap (λ (xs : List ℕ). old ++ (xs ++ left)) same
