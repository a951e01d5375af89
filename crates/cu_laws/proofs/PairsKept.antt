-- What equations of constructors have, the equations of their arguments give that are joined in
-- their place.
use Rattle.std.proofs.Common.{◌≡◌, ◌≢◌, ℕ, suc, ◌+◌, ◌<◌, inr, true, List, [], ◌∷◌, IsTrue, refl, ap, sym, ◌∙◌, subst, length, zip, arith, length-append}
use Rattle.std.proofs.lemmas.Bool.{and_from, and_parts}
use Rattle.cu_calculus.specs.declared.builtin.Primitive.TheVariants as prim
use Rattle.cu_calculus.specs.declared.Head.TheVariants as head
use Rattle.cu_calculus.specs.Below.{Below}
use Rattle.cu_calculus.specs.Builtin as builtin
use Rattle.cu_calculus.specs.Builtin.{truth_of}
use Rattle.cu_calculus.specs.Code.{Code}
use Rattle.cu_calculus.specs.FlatProgram.{program_of}
use Rattle.cu_calculus.specs.Gives.{Claim}
use Rattle.cu_calculus.specs.Program.{arity_in}
use Rattle.cu_calculus.specs.Shape.{are_data, are_total, is_data, is_of, is_total, takes}
use Rattle.cu_calculus.specs.Value.{Value, count}
use Rattle.cu_calculus.specs.WellFormed.{is_well_formed}
use Rattle.cu_calculus.proofs.BelowLaws.{below_itself, below_trans}
use Rattle.cu_machine.specs.declared.Kind.{Kind}
use Rattle.cu_machine.specs.declared.Kind.TheVariants as kind
use Rattle.cu_machine.specs.Build.{Fresh, instead, place_of, written}
use Rattle.cu_machine.specs.Graph.{Graph, alone, put}
use Rattle.cu_machine.specs.Rewrite.{alone_follows, build_pairs, joined_from_right, pair_nodes, pairwise_step, truth_node}
use Rattle.cu_machine.specs.Steps.{node}
use Rattle.cu_laws.specs.Continues.{NothingPast}
use Rattle.cu_laws.specs.Extends.{Extends}
use Rattle.cu_laws.specs.Good.{Assignment, Loose, MayHave, NoValue, RisesTo}
use Rattle.cu_laws.proofs.AnswerKept.{constant_may}
use Rattle.cu_laws.proofs.Changed.{changed_by_writing}
use Rattle.cu_laws.proofs.Continuing.{Kept, continues_by, kept_by_put}
use Rattle.cu_laws.proofs.Extended.{AllOf, Extended, Past, Pushed, all_may_join, all_may_rise, push_top, pushed_both, written_by}
use Rattle.cu_laws.proofs.Falling.{may_fall}
use Rattle.cu_laws.proofs.Heads.{count_at, values_at}
use Rattle.cu_laws.proofs.LiteralRows.{truth_is_node, truth_kind}
use Rattle.cu_laws.proofs.LooseNodes.{loosened}
use Rattle.cu_laws.proofs.Pairs.{firsts, one_follows, seconds, zip_firsts, zip_seconds}
use Rattle.cu_laws.proofs.Raising.{rises_itself, rises_trans}
use Rattle.cu_laws.proofs.Rising.{may_rise, total_above}
use Rattle.cu_laws.proofs.Truth.{special_of}

-- ---- chains

-- Values of nodes over pairs, and what the nodes that join them have from the right.
pub data Chain (program : Code) (claims : List Claim) (each joint : Kind) (assigned : Assignment) : ℕ → ℕ → List (ℕ × ℕ) → List Value → Value → Type 0 where
  last : (a b : ℕ) (w v : Value) → MayHave NoValue program claims assigned each (a ∷ b ∷ []) w → IsTrue (is_of (program_of program) w) → Below v w
      → Chain program claims each joint assigned a b [] (w ∷ []) v
  more : (a b c d : ℕ) (pairs : List (ℕ × ℕ)) (w s v : Value) (ws : List Value) → MayHave NoValue program claims assigned each (a ∷ b ∷ []) w
      → IsTrue (is_of (program_of program) w) → IsTrue (is_of (program_of program) s) → Chain program claims each joint assigned c d pairs ws s
      → ((high : Assignment) (i j : ℕ) → Below w (high i) → Below s (high j) → MayHave NoValue program claims high joint (i ∷ j ∷ []) v)
      → Chain program claims each joint assigned a b ((c, d) ∷ pairs) (w ∷ ws) v

-- places one after another have at least these values
abbrev Hold : Assignment → ℕ → List Value → Type 0
Hold assigned place [] = Unit {0}
Hold assigned place (w ∷ ws) = Below w (assigned place) × Hold assigned (suc place) ws

module _ (program : Code) (claims : List Claim) (each joint : Kind) where
  chain_rises : (low high : Assignment) (a b : ℕ) (pairs : List (ℕ × ℕ)) (ws : List Value) (v : Value) → RisesTo low high
      → Chain program claims each joint low a b pairs ws v → Chain program claims each joint high a b pairs ws v
  chain_rises low high _ _ _ _ _ up (last a b w v may of under) = last a b w v (may_rise NoValue program claims low high each (a ∷ b ∷ []) w up may) of under
  chain_rises low high _ _ _ _ _ up (more a b c d pairs w s v ws may of of_s rest joins) =
      more a b c d pairs w s v ws (may_rise NoValue program claims low high each (a ∷ b ∷ []) w up may) of of_s (chain_rises low high c d pairs ws s up rest) joins

  record PushedPairs (assigned : Assignment) (next : ℕ) (pairs : List (ℕ × ℕ)) (ws : List Value) : Type 0 where
    pushes : Pushed program claims assigned next (pair_nodes each pairs)
    there : Hold pushes.higher next ws

  one_pushed : (assigned : Assignment) (next a b : ℕ) (w : Value) → MayHave NoValue program claims assigned each (a ∷ b ∷ []) w → IsTrue (is_of (program_of program) w)
      → AllOf program claims assigned → Past program claims assigned next → PushedPairs assigned next ((a, b) ∷ []) (w ∷ [])
  one_pushed assigned next a b w may of all past =
      let top = push_top program claims assigned next [] (Fresh (node each (a ∷ b ∷ []))) w of (record {
        higher = assigned;
        of_program = all;
        rises = rises_itself assigned;
        same = λ x below. refl;
        past = λ x above. past x (omega arith);
        may = tt;
        top = may;
      }) in
      let here : next + 0 ≡ next = omega arith in
      record { pushes = top.pushes; there = (subst (λ (x : ℕ). Below w (top.pushes.higher x)) here top.there, tt) }

  pairs_pushed : (assigned : Assignment) (next a b : ℕ) (pairs : List (ℕ × ℕ)) (ws : List Value) (v : Value) → Chain program claims each joint assigned a b pairs ws v
      → AllOf program claims assigned → Past program claims assigned next → PushedPairs assigned next ((a, b) ∷ pairs) ws
  unfolding pushed_both
  pairs_pushed assigned next _ _ _ _ _ (last a b w v may of under) all past = one_pushed assigned next a b w may of all past
  pairs_pushed assigned next _ _ _ (w ∷ ws) _ (more a b c d pairs _ s v _ may of of_s rest joins) all past =
      let first = one_pushed assigned next a b w may of all past in
      let low = first.pushes.higher in
      let others = pairs_pushed low (next + 1) c d pairs ws s (chain_rises assigned low c d pairs ws s first.pushes.rises rest) first.pushes.of_program first.pushes.past in
      let high = others.pushes.higher in
      let later : next + 1 ≡ suc next = omega arith in
      record {
        pushes = pushed_both program claims assigned next (node each (a ∷ b ∷ []) ∷ []) (pair_nodes each ((c, d) ∷ pairs)) first.pushes others.pushes;
        there = (below_trans w (low next) (high next) first.there.0 (others.pushes.rises next), subst (λ (x : ℕ). Hold high x ws) later others.there);
      }

  joined_has : (low : Assignment) (next place a b : ℕ) (pairs : List (ℕ × ℕ)) (ws : List Value) (v : Value) → Chain program claims each joint low a b pairs ws v
      → Hold low place ws → AllOf program claims low → Past program claims low next → Extended program claims low next (joined_from_right joint next place (length pairs)) v
  joined_has low next place _ _ _ _ _ (last a b w v may of under) hold all past = record {
    higher = low;
    of_program = all;
    rises = rises_itself low;
    same = λ x below. refl;
    past = λ x above. past x (omega arith);
    may = tt;
    top = below_trans v w (low place) under hold.0;
  }
  joined_has low next place _ _ _ _ _ (more a b c d pairs w s v ws may of of_s chain joins) hold all past =
      let rest = joined_from_right joint next (place + 1) (length pairs) in
      let later : suc place ≡ place + 1 = omega arith in
      let inner = joined_has low next (place + 1) c d pairs ws s chain (subst (λ (x : ℕ). Hold low x ws) later hold.1) all past in
      let top = push_top program claims low next rest.parts rest.top s of_s inner in
      let high = top.pushes.higher in
      record {
        higher = high;
        of_program = top.pushes.of_program;
        rises = top.pushes.rises;
        same = top.pushes.same;
        past = top.pushes.past;
        may = top.pushes.may;
        top = joins high place (place_of next rest) (below_trans w (low place) (high place) hold.0 (top.pushes.rises place)) top.there;
      }

  pairs_have : (assigned : Assignment) (next a b : ℕ) (pairs : List (ℕ × ℕ)) (ws : List Value) (v : Value) → each ≢ kind.Free
      → Chain program claims each joint assigned a b pairs ws v → AllOf program claims assigned → Past program claims assigned next
      → Extended program claims assigned next (build_pairs each joint next (a, b) pairs) v
  pairs_have assigned next _ _ _ _ _ other (last a b w v may of under) all past = record {
    higher = assigned;
    of_program = all;
    rises = rises_itself assigned;
    same = λ x below. refl;
    past = λ x above. past x (omega arith);
    may = tt;
    top = may_fall program claims assigned each (a ∷ b ∷ []) w v other may under;
  }
  pairs_have assigned next _ _ _ _ _ other (more a b c d pairs w s v ws may of of_s rest joins) all past =
      let all_pairs = (a, b) ∷ (c, d) ∷ pairs in
      let chain = more a b c d pairs w s v ws may of of_s rest joins in
      let nodes = pair_nodes each all_pairs in
      let later = next + length nodes in
      let first = pairs_pushed assigned next a b ((c, d) ∷ pairs) (w ∷ ws) v chain all past in
      let low = first.pushes.higher in
      let as_many : suc (length pairs) ≡ length pairs + 1 = omega arith in
      let e = subst (λ (n : ℕ). Extended program claims low later (joined_from_right joint later next n) v) as_many
      (joined_has low later next a b ((c, d) ∷ pairs) (w ∷ ws) v (chain_rises assigned low a b ((c, d) ∷ pairs) (w ∷ ws) v first.pushes.rises chain) first.there
      first.pushes.of_program first.pushes.past) in
      let built = joined_from_right joint later next (length pairs + 1) in
      record {
        higher = e.higher;
        of_program = e.of_program;
        rises = rises_trans assigned low e.higher first.pushes.rises e.rises;
        same = λ x below. e.same x (omega arith) ∙ first.pushes.same x below;
        past = λ x above. let long = length-append nodes built.parts in e.past x (omega arith);
        may = all_may_join program claims e.higher e.of_program next nodes built.parts
            (all_may_rise program claims low e.higher first.pushes.of_program e.of_program next nodes e.rises e.same first.pushes.may) e.may;
        top = e.top;
      }

  -- the pairs of arguments, written over a node
  pub pairs_kept : (graph after : Graph) (id a b : ℕ) (pairs : List (ℕ × ℕ)) (ws : List Value) (assigned : Assignment) → each ≢ kind.Free
      → Chain program claims each joint assigned a b pairs ws (assigned id) → Loose program claims graph assigned → NothingPast graph assigned → id < length graph
      → after ≡ written graph id (build_pairs each joint (length graph) (a, b) pairs) → Kept program claims graph after assigned
  pairs_kept graph after id a b pairs ws assigned other chain loose past here after_is =
      let built = build_pairs each joint (length graph) (a, b) pairs in
      let found = written_by program claims graph id built assigned here
      (pairs_have assigned (length graph) a b pairs ws (assigned id) other chain loose.of_program past) in (
        found.0,
        continues_by program claims graph after id (instead built.top) assigned found.0 (changed_by_writing graph id after built here after_is) loose past
            (subst (λ (g : Graph). Extends program claims graph id g assigned found.0) (sym after_is) found.1),
      )

-- ---- equations

-- an equation whose sides have one value, which is total data, is True
equation_true : (program : Code) (claims : List Claim) (assigned : Assignment) (a b : ℕ) → assigned a ≡ assigned b → is_total (assigned a) ≡ true → is_data (assigned a) ≡ true
    → MayHave NoValue program claims assigned (kind.Prim prim.Unify) (a ∷ b ∷ []) (truth_of (program_of program) true)
equation_true program claims assigned a b equal whole plain =
    let truth = truth_of (program_of program) true in
    inr (truth, builtin.unified (assigned a) (assigned b) truth equal (and_from (is_total (assigned a)) (is_data (assigned a)) whole plain) refl, below_itself truth)

-- a conjunction of two sides that are True is True
conjunction_true : (program : Code) (claims : List Claim) (v : Value) → Below v (truth_of (program_of program) true) → (high : Assignment) (i j : ℕ)
    → Below (truth_of (program_of program) true) (high i) → Below (truth_of (program_of program) true) (high j)
    → MayHave NoValue program claims high (kind.Prim prim.And) (i ∷ j ∷ []) v
conjunction_true program claims v low high i j up_i up_j =
    let truth = truth_of (program_of program) true in
    inr (truth, builtin.conjoined (high i) (high j) truth (sym (total_above truth (high i) up_i refl)) (sym (total_above truth (high j) up_j refl)) refl, low)

-- both sides of each pair have one value, which is total data: each equation and all that joins
-- them is True
equations_chain : (program : Code) (claims : List Claim) (assigned : Assignment) (a b : ℕ) (pairs : List (ℕ × ℕ)) (v : Value)
    → is_of (program_of program) (truth_of (program_of program) true) ≡ true
    → values_at assigned (a ∷ firsts pairs) ≡ values_at assigned (b ∷ seconds pairs) → are_total (values_at assigned (a ∷ firsts pairs)) ≡ true
    → are_data (values_at assigned (a ∷ firsts pairs)) ≡ true → Below v (truth_of (program_of program) true)
    → (ws : List Value) × Chain program claims (kind.Prim prim.Unify) (kind.Prim prim.And) assigned a b pairs ws v
equations_chain program claims assigned a b [] v of is whole plain low =
    let truth = truth_of (program_of program) true in
    let first : assigned a ≡ assigned b = cc in
    let left = and_parts (is_total (assigned a)) true whole in
    let right = and_parts (is_data (assigned a)) true plain in
    (truth ∷ [], last a b truth v (equation_true program claims assigned a b first left.0 right.0) of low)
equations_chain program claims assigned a b ((c, d) ∷ pairs) v of is whole plain low =
    let truth = truth_of (program_of program) true in
    let first : assigned a ≡ assigned b = cc in
    let others : values_at assigned (c ∷ firsts pairs) ≡ values_at assigned (d ∷ seconds pairs) = cc in
    let left = and_parts (is_total (assigned a)) (are_total (values_at assigned (c ∷ firsts pairs))) whole in
    let right = and_parts (is_data (assigned a)) (are_data (values_at assigned (c ∷ firsts pairs))) plain in
    let rest = equations_chain program claims assigned c d pairs truth of others left.1 right.1 (below_itself truth) in
    (truth ∷ rest.0, more a b c d pairs truth truth v rest.0 (equation_true program claims assigned a b first left.0 right.0) of of rest.1 (conjunction_true program claims v low))

pub truth_of_program : (program : Code) → is_well_formed program ≡ true → is_of (program_of program) (truth_of (program_of program) true) ≡ true
truth_of_program program well =
    let P = program_of program in
    and_from (takes (arity_in P (head.Con program.special.truth)) 0) true (ap (λ o. takes o 0) (special_of program well).truth) refl

-- equations of places that have the same values in pairs
pub equations_kept : (program : Code) (claims : List Claim) (graph after : Graph) (id : ℕ) (us vs : List ℕ) (assigned : Assignment) → is_well_formed program ≡ true
    → Loose program claims graph assigned → NothingPast graph assigned → id < length graph → Below (assigned id) (truth_of (program_of program) true)
    → values_at assigned us ≡ values_at assigned vs → are_total (values_at assigned us) ≡ true → are_data (values_at assigned us) ≡ true
    → pairwise_step program.special (kind.Prim prim.Unify) (kind.Prim prim.And) graph id (zip us vs) ≡ alone_follows after → Kept program claims graph after assigned
equations_kept program claims graph after id us vs assigned well loose past here low same total all_data = go us vs same total all_data
  where
    go : (us vs : List ℕ) → values_at assigned us ≡ values_at assigned vs → are_total (values_at assigned us) ≡ true → are_data (values_at assigned us) ≡ true
        → pairwise_step program.special (kind.Prim prim.Unify) (kind.Prim prim.And) graph id (zip us vs) ≡ alone_follows after → Kept program claims graph after assigned
    go [] [] is whole plain follows =
        let after_is = one_follows (put graph id (truth_node program.special true)) after follows in
        kept_by_put program claims graph after id (alone (truth_kind program true)) assigned here (after_is ∙ ap (put graph id) (truth_is_node program true)) loose past
        (loosened program claims assigned (truth_kind program true) [] (assigned id)
        (constant_may program claims assigned (truth_kind program true) (assigned id) (truth_of (program_of program) true) refl low))
    go [] (v ∷ vs) is whole plain follows = let no : ⊥ = cc in absurd no
    go (u ∷ us) [] is whole plain follows = let no : ⊥ = cc in absurd no
    go (u ∷ us) (v ∷ vs) is whole plain follows =
        let others : values_at assigned us ≡ values_at assigned vs = cc in
        let as_many : length us ≡ length vs = sym (count_at assigned us) ∙ ap count others ∙ count_at assigned vs in
        let pairs = zip us vs in
        let left : us ≡ firsts pairs = sym (zip_firsts us vs as_many) in
        let right : vs ≡ seconds pairs = sym (zip_seconds us vs as_many) in
        let by_pairs : values_at assigned (u ∷ firsts pairs) ≡ values_at assigned (v ∷ seconds pairs) =
        subst (λ (xs : List ℕ). values_at assigned (u ∷ xs) ≡ values_at assigned (v ∷ seconds pairs)) left
        (subst (λ (ys : List ℕ). values_at assigned (u ∷ us) ≡ values_at assigned (v ∷ ys)) right is) in
        let total_pairs = subst (λ (xs : List ℕ). are_total (values_at assigned (u ∷ xs)) ≡ true) left whole in
        let data_pairs = subst (λ (xs : List ℕ). are_data (values_at assigned (u ∷ xs)) ≡ true) left plain in
        let chain = equations_chain program claims assigned u v pairs (assigned id) (truth_of_program program well) by_pairs total_pairs data_pairs low in
        let built = build_pairs (kind.Prim prim.Unify) (kind.Prim prim.And) (length graph) (u, v) pairs in
        pairs_kept program claims (kind.Prim prim.Unify) (kind.Prim prim.And) graph after id u v pairs chain.0 assigned (λ e. let no : ⊥ = cc in no) chain.1 loose past here
        (one_follows (written graph id built) after follows)
