-- A set function's call that has a value has data for its arguments, so it isn't stuck on them.
use Rattle.std.proofs.Common.{◌≡◌, ℕ, zero, suc, true, false, List, [], ◌∷◌, refl, ap, sym, ◌∙◌, map, length, true≢false}
use Rattle.std.proofs.lemmas.Bool.{and_from, and_parts}
use Rattle.cu_calculus.specs.declared.FunId.{FunId}
use Rattle.cu_calculus.specs.declared.Head.TheVariants as head
use Rattle.cu_calculus.specs.Code.{Code}
use Rattle.cu_calculus.specs.FlatProgram.{program_of}
use Rattle.cu_calculus.specs.Gives.{Claim}
use Rattle.cu_calculus.specs.Shape.{are_data, are_ground, is_data, is_ground}
use Rattle.cu_calculus.specs.Value as value
use Rattle.cu_calculus.specs.Value.{Value, values_of}
use Rattle.cu_machine.specs.declared.Kind.{Kind}
use Rattle.cu_machine.specs.declared.Kind.TheVariants as kind
use Rattle.cu_machine.specs.Graph.{Graph, head_at, head_of, node_at}
use Rattle.cu_machine.specs.Spell.{spelled, spelled_at, spelled_within}
use Rattle.cu_machine.specs.Steps.{node}
use Rattle.cu_laws.specs.Good.{Assignment, Loose, Worth}
use Rattle.cu_laws.proofs.Heads.{values_at}
use Rattle.cu_laws.proofs.Known.{is_known, set_ground, worth_of}
use Rattle.cu_laws.proofs.LooseNodes.{head_most, loose_at}
use Rattle.cu_laws.proofs.Rising.{ground_total, total_above}

all_data : (assigned : Assignment) (part : ℕ → Value) (args : List ℕ) → ((x : ℕ) → is_ground (assigned x) ≡ true → is_data (part x) ≡ true)
    → are_ground (values_at assigned args) ≡ true → are_data (values_of (map part args)) ≡ true
all_data assigned part [] each ground = refl
all_data assigned part (arg ∷ args) each ground =
    let parts = and_parts (is_ground (assigned arg)) (are_ground (values_at assigned args)) ground in
    and_from (is_data (part arg)) (are_data (values_of (map part args))) (each arg parts.0) (all_data assigned part args each parts.1)

module _ (program : Code) (claims : List Claim) (graph : Graph) (assigned : Assignment) (loose : Loose program claims graph assigned) where
  data_at : (part : ℕ → Value) → ((y : ℕ) → is_ground (assigned y) ≡ true → is_data (part y) ≡ true) → (x : ℕ) → is_ground (assigned x) ≡ true
      → (k : Kind) (args : List ℕ) → head_at graph x ≡ node k args → is_data (spelled_at part (head_of graph x) k args) ≡ true
  data_at part each x ground (kind.Cons c) args head_is =
      let u = value.Constructed c (values_at assigned args) in
      let same : assigned x ≡ u =
      total_above (assigned x) u (head_most program claims graph assigned x (kind.Cons c) args u loose head_is refl) (ground_total (assigned x) ground) in
      all_data assigned part args each (sym (ap is_ground same) ∙ ground)
  data_at part each x ground (kind.Part h) args head_is =
      let u = value.Partial h (values_at assigned args) in
      let same : assigned x ≡ u =
      total_above (assigned x) u (head_most program claims graph assigned x (kind.Part h) args u loose head_is refl) (ground_total (assigned x) ground) in
      absurd (true≢false (sym ground ∙ ap is_ground same))
  data_at part each x ground _ args head_is = refl

  -- what has ground data for a value spells data
  spelled_data : (depth x : ℕ) → is_ground (assigned x) ≡ true → is_data (spelled_within depth graph x) ≡ true
  unfolding spelled_within
  spelled_data zero x ground = refl
  spelled_data (suc depth) x ground =
      data_at (spelled_within depth graph) (spelled_data depth) x ground (head_at graph x).kind (head_at graph x).args refl

  pub never_without_data : (id : ℕ) (f : FunId) (args : List ℕ) → is_known (assigned id) ≡ true → node_at graph id ≡ node (kind.SetCall f) args
      → are_data (values_of (map (spelled graph) args)) ≡ false → ⊥
  never_without_data id f args known is other =
      let found = worth_of (Worth program claims (kind.SetCall f) (map assigned args)) (assigned id) known
      (loose_at program claims graph assigned id (kind.SetCall f) args loose is refl) in
      let ground = set_ground (program_of program) claims (head.Set f) (values_at assigned args) found.0 found.1 f refl in
      true≢false (sym (all_data assigned (spelled graph) args (spelled_data (length graph)) ground) ∙ other)
