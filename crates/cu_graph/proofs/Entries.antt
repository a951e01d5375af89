-- Nodes in flat arrays, which grow.
use Rattle.std.proofs.Common.{◌≡◌, ℕ, suc, List, [], ◌∷◌, ◌++◌, set, get_or, Result, Ok, Err, OnErr, refl, ap, sym, subst, ◌∙◌, arith}
use Rattle.std.proofs.lemmas.List.{map_push, map-set}
use Rattle.std.proofs.lemmas.List.Elements.{All-push}
use Rattle.cu_machine.specs.declared.Kind.{Kind}
use Rattle.cu_machine.specs.Graph.{Node}
use Rattle.cu_graph.specs.declared.node_vec.Entry.{Entry}
use Rattle.cu_graph.specs.FlatArrays.{node_of, nodes_of, IsWithin, AreWithin}
use Rattle.cu_graph.specs.Inside.Packing.{IsEntryOf, KeepsNodes}

-- what holds at any rate holds after an error
pub after_error : {X E : Type 0} {P : Type 0} (result : Result X E) → P → OnErr result P
after_error (Ok x) p = tt
after_error (Err e) p = p

after : (wide : List Kind) (args : List ℕ) (entry : Entry) (entries : List Entry) → AreWithin wide args (entry ∷ entries) → AreWithin wide args entries
after wide args entry entries within = λ k d below. within (suc k) d (omega arith)

pub nodes_kept : (old new : List Kind) (args now : List ℕ) (entries : List Entry) → KeepsNodes old args new now → AreWithin old args entries
    → nodes_of new now entries ≡ nodes_of old args entries
nodes_kept old new args now [] keeps within = refl
nodes_kept old new args now (entry ∷ entries) keeps within =
    let head : IsEntryOf new now entry (node_of old args entry) = keeps entry (within 0 entry (omega arith)) in
    ap (λ nodes. nodes_of new now (entry ∷ []) ++ nodes) (nodes_kept old new args now entries keeps (after old args entry entries within))
    ∙ ap (λ node. node ∷ nodes_of old args entries) head.same

all_within : (old new : List Kind) (args now : List ℕ) (entries : List Entry) → KeepsNodes old args new now → AreWithin old args entries
    → AreWithin new now entries
all_within old new args now entries keeps within = λ k d below. (keeps (get_or entries k d) (within k d below)).within

pub kept : (old new : List Kind) (args now : List ℕ) (entries : List Entry) (nodes : List Node) → KeepsNodes old args new now → AreWithin old args entries
    → nodes_of old args entries ≡ nodes → nodes_of new now entries ≡ nodes
kept old new args now entries nodes keeps within is = nodes_kept old new args now entries keeps within ∙ is

pub within_pushed : (old new : List Kind) (args now : List ℕ) (entries longer : List Entry) (entry : Entry) (node : Node)
    → KeepsNodes old args new now → AreWithin old args entries → IsEntryOf new now entry node → longer ≡ entries ++ entry ∷ []
    → AreWithin new now longer
within_pushed old new args now entries longer entry node keeps within is pushed =
    subst (AreWithin new now) (sym pushed)
    (All-push (IsWithin new now) entries entry (all_within old new args now entries keeps within) is.within)

pub pushed_node : (old new : List Kind) (args now : List ℕ) (entries longer : List Entry) (entry : Entry) (nodes : List Node) (node : Node)
    → KeepsNodes old args new now → AreWithin old args entries → IsEntryOf new now entry node → longer ≡ entries ++ entry ∷ []
    → nodes_of old args entries ≡ nodes → nodes_of new now longer ≡ nodes ++ node ∷ []
pushed_node old new args now entries longer entry nodes node keeps within is pushed shown =
    ap (nodes_of new now) pushed ∙ map_push (node_of new now) entries entry
    ∙ ap (λ prefix. prefix ++ node_of new now entry ∷ []) (kept old new args now entries nodes keeps within shown)
    ∙ ap (λ last. nodes ++ last ∷ []) is.same

pub set_node : (old new : List Kind) (args now : List ℕ) (entries : List Entry) (place : ℕ) (entry : Entry) (nodes : List Node) (node : Node)
    → KeepsNodes old args new now → AreWithin old args entries → IsEntryOf new now entry node → nodes_of old args entries ≡ nodes
    → nodes_of new now (set entries place entry) ≡ set nodes place node
set_node old new args now entries place entry nodes node keeps within is shown =
    map-set (node_of new now) entries place entry
    ∙ ap (λ prefix. set prefix place (node_of new now entry)) (kept old new args now entries nodes keeps within shown)
    ∙ ap (set nodes place) is.same
