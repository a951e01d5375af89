-- Whether frames may be kept is a fact that holds in one way at most, so that it is known wherever
-- it is known to be true.
use Rattle.std.proofs.Common.{◌≡◌, ℕ, zero, suc, ◌-◌, ◌<◌, ◌≤◌, false, List, [], ◌∷◌, ◌++◌, Option, None, Some, refl, ap, sym, ◌∙◌, subst, length, take, get_or, arith}
use Rattle.std.proofs.Math.Logic.{∥∥₁_elim, ∥∥₁_map}
use Rattle.std.proofs.Props.{props}
use Rattle.std.specs.List.{All}
use Rattle.cu_calculus.specs.declared.ConId.{ConId}
use Rattle.cu_machine.specs.Graph.{Graph, head_of, node_at}
use Rattle.cu_machine.specs.Need.{Done}
use Rattle.cu_step.specs.declared.need.Ask.{Ask}
use Rattle.cu_step.specs.declared.need.Ask.TheVariants as ask
use Rattle.cu_step.specs.declared.need.Frame.{Frame}
use Rattle.cu_step.specs.declared.need.KeptWalk.{KeptWalk}
use Rattle.cu_step.specs.declared.need.Look.TheVariants as look
use Rattle.cu_step.specs.Inside.Kept.{IsKept, Leads, MayGoOn}
use Rattle.cu_step.specs.Inside.Walk.{asked, looked, looked_at}

-- the argument at which a frame stands
abbrev argument_of : Graph → Frame → ℕ
argument_of graph frame = get_or (looked_at graph frame.node) (frame.next - 1) 0

-- ---- the arguments that were looked at

split_next : (n : ℕ) (xs earlier : List ℕ) (x : ℕ) → n < length xs → take (suc n) xs ≡ earlier ++ x ∷ [] → (earlier ≡ take n xs) × (get_or xs n 0 ≡ x)
split_next n [] earlier x within is = let no : ⊥ = omega arith in absurd no
split_next zero (z ∷ xs) [] x within is = (refl, cc)
split_next zero (z ∷ xs) (y ∷ []) x within is = let no : ⊥ = cc in absurd no
split_next zero (z ∷ xs) (y ∷ w ∷ earlier) x within is = let no : ⊥ = cc in absurd no
split_next (suc n) (z ∷ []) earlier x within is = let no : ⊥ = omega arith in absurd no
split_next (suc n) (z ∷ w ∷ xs) [] x within is = let no : ⊥ = cc in absurd no
split_next (suc n) (z ∷ w ∷ xs) (y ∷ earlier) x within is =
    let heads : z ≡ y = cc in
    let tails : take (suc n) (w ∷ xs) ≡ earlier ++ x ∷ [] = cc in
    let rest = split_next n (w ∷ xs) earlier x (omega arith) tails in
    (ap (λ (ys : List ℕ). y ∷ ys) rest.0 ∙ ap (λ (h : ℕ). h ∷ take n (w ∷ xs)) (sym heads), rest.1)

split_take : (n : ℕ) (xs earlier : List ℕ) (x : ℕ) → n ≤ length xs → take n xs ≡ earlier ++ x ∷ []
    → (0 < n) × (earlier ≡ take (n - 1) xs) × (get_or xs (n - 1) 0 ≡ x)
split_take zero xs [] x within is = let no : ⊥ = cc in absurd no
split_take zero xs (y ∷ earlier) x within is = let no : ⊥ = cc in absurd no
split_take (suc n) xs earlier x within is =
    let less : suc n - 1 ≡ n = omega arith in
    let split = split_next n xs earlier x (omega arith) is in
    let some : 0 < suc n = omega arith in
    (some, split.0 ∙ ap (λ k. take k xs) (sym less), ap (λ k. get_or xs k 0) less ∙ split.1)

joined_next : (n : ℕ) (xs : List ℕ) → n < length xs → take (suc n) xs ≡ take n xs ++ get_or xs n 0 ∷ []
joined_next n [] within = let no : ⊥ = omega arith in absurd no
joined_next zero (x ∷ xs) within = refl
joined_next (suc n) (x ∷ xs) within = ap (λ (ys : List ℕ). x ∷ ys) (joined_next n xs (omega arith))

joined_take : (n : ℕ) (xs : List ℕ) → 0 < n → n ≤ length xs → take n xs ≡ take (n - 1) xs ++ get_or xs (n - 1) 0 ∷ []
joined_take zero xs some within = let no : ⊥ = omega arith in absurd no
joined_take (suc n) xs some within =
    let less : suc n - 1 ≡ n = omega arith in
    joined_next n xs (omega arith) ∙ ap (λ k. take k xs ++ get_or xs k 0 ∷ []) (sym less)

-- ---- one proof at most

-- that frames may be kept, with the arguments at which they stand told by the frames themselves
unfoldable Known : ConId → Graph → ℕ → Ask → ℕ → List Frame → ℕ → Type 0
Known truth graph by a start [] id = head_of graph start ≡ head_of graph id
Known truth graph by a start (frame ∷ frames) id =
    (head_of graph start ≡ frame.node)
    × (looked truth by a frame.node (node_at graph frame.node).kind (node_at graph frame.node).args ≡ look.Node frame.node frame.ask)
    × (frame.node < length graph) × (frame.next ≤ length (looked_at graph frame.node)) × (frame.waits ≡ false) × (0 < frame.next)
    × All (λ other. asked truth graph frame.ask frame.node other ≡ Done) (take (frame.next - 1) (looked_at graph frame.node))
    × Known truth graph frame.node frame.ask (argument_of graph frame) frames id

known_prop : (truth : ConId) (graph : Graph) (by : ℕ) (a : Ask) (start : ℕ) (frames : List Frame) (id : ℕ) → IsProp (Known truth graph by a start frames id)
unfolding Known
known_prop truth graph by a start [] id = hlevel props
known_prop truth graph by a start (frame ∷ frames) id =
    let rest = known_prop truth graph frame.node frame.ask (argument_of graph frame) frames id in hlevel (props, rest)

known_of : (truth : ConId) (graph : Graph) (by : ℕ) (a : Ask) (start : ℕ) (frames : List Frame) (id : ℕ) → Leads truth graph by a start frames id
    → Known truth graph by a start frames id
unfolding Known Leads
known_of truth graph by a start [] id leads = leads
known_of truth graph by a start (frame ∷ frames) id leads =
    let looks = leads.0 in
    let stands = leads.2 in
    let split = split_take frame.next (looked_at graph frame.node) stands.earlier leads.1 stands.next stands.splits in (
      looks.head,
      looks.look,
      stands.there,
      stands.next,
      stands.waits,
      split.0,
      subst (λ (xs : List ℕ). All (λ other. asked truth graph frame.ask frame.node other ≡ Done) xs) split.1 stands.known,
      known_of truth graph frame.node frame.ask (argument_of graph frame) frames id
          (subst (λ (x : ℕ). Leads truth graph frame.node frame.ask x frames id) (sym split.2) leads.3),
    )

of_known : (truth : ConId) (graph : Graph) (by : ℕ) (a : Ask) (start : ℕ) (frames : List Frame) (id : ℕ) → Known truth graph by a start frames id
    → Leads truth graph by a start frames id
unfolding Known Leads
of_known truth graph by a start [] id known = known
of_known truth graph by a start (frame ∷ frames) id known = (
  record { head = known.0; look = known.1 },
  argument_of graph frame,
  record {
    there = known.2;
    next = known.3;
    waits = known.4;
    earlier = take (frame.next - 1) (looked_at graph frame.node);
    splits = joined_take frame.next (looked_at graph frame.node) known.5 known.3;
    known = known.6;
  },
  of_known truth graph frame.node frame.ask (argument_of graph frame) frames id known.7,
)

-- ---- what is known to be true is known

pub kept_known : (truth : ConId) (graph : Graph) (root : ℕ) (frames : List Frame) (id : ℕ) → ∥ IsKept truth graph root frames id ∥₁ → IsKept truth graph root frames id
kept_known truth graph root frames id kept =
    of_known truth graph root ask.All root frames id
    (∥∥₁_elim kept (known_prop truth graph root ask.All root frames id) (known_of truth graph root ask.All root frames id))

pub may_known : (graph : Graph) (root : ℕ) (walk : Option KeptWalk) → ∥ MayGoOn graph root walk ∥₁ → MayGoOn graph root walk
may_known graph root None may = tt
may_known graph root (Some walk) may = (
  ∥∥₁_elim may (hlevel props) (λ m. m.0),
  kept_known walk.truth graph root walk.frames.items walk.place (∥∥₁_map may (λ m. m.1)),
)
