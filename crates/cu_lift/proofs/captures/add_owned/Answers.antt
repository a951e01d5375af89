use Rattle.std.proofs.Common.{◌<◌, ◌≤◌, ◌+◌, ◌∙◌, ℕ, List, Some, ap, length, refl, sym, take, subst, arith}
use Rattle.std.proofs.lemmas.Option.{slice_get-get_or}
use Rattle.std.specs.BTreeSet.{BTreeSet}
use Rattle.cu_lift.proofs.Elements.{none_in}
use Rattle.cu_lift.proofs.Noting.{added, owned_added, owned_bound, owned_other, take_whole}
use Rattle.cu_lift.specs.Groups.{IsIn}
use Rattle.cu_lift.specs.declared.captures.Part.TheVariants.{Uses}
use Rattle.cu_lift.specs.declared.captures.Part.{Part}
use Rattle.cu_lift.proofs.captures.add_owned.Goals.{then-not-binds+in_ok-insert, else-not-binds}
use Rattle.cu_lift.proofs.captures.add_owned.Goals as goal

pub loop-part-init : goal.loop-part-init
loop-part-init c = (λ x h. h, λ x h free. absurd (none_in (Uses x) h))

pub loop-part-preserved : goal.loop-part-preserved
loop-part-preserved c =
    let ps = c.args.parts.now in
    let i = c.loop-part.part-index in
    let low : i < length ps = omega arith in
    let binds = c.args.local.now.binds.keys in
    let at = slice_get-get_or ps i _ low ∙ ap Some c.in-Uses.is in
    elim c.if-not-binds.branch [
      | then-not-binds+in_ok-insert w ↦
          let put = added c.args.variables.now.keys c.loop-part.variables.keys w.insert.new.self.keys c.in-Uses.x w.in_ok-insert.ensures.keys c.loop-part.invariant.0 in
          subst (λ (v : BTreeSet ℕ). ((x : ℕ) → IsIn c.args.variables.now.keys x → IsIn v.keys x)
          × ((x : ℕ) → IsIn (take (i + 1) ps) (Uses x) → (IsIn binds x → ⊥) → IsIn v.keys x)) (sym w.variables-is)
          (put.0, owned_added ps i (Uses c.in-Uses.x) c.in-Uses.x binds c.loop-part.variables.keys w.insert.new.self.keys at refl c.loop-part.invariant.1 put.1 put.2)
      | else-not-binds w ↦
          subst (λ (v : BTreeSet ℕ). ((x : ℕ) → IsIn c.args.variables.now.keys x → IsIn v.keys x)
          × ((x : ℕ) → IsIn (take (i + 1) ps) (Uses x) → (IsIn binds x → ⊥) → IsIn v.keys x)) (sym w.variables-is) (
            c.loop-part.invariant.0,
            owned_bound ps i (Uses c.in-Uses.x) c.in-Uses.x binds c.loop-part.variables.keys at refl (c.binds.ensures.holds w.if-not-binds.false) c.loop-part.invariant.1,
          )
    ]

pub loop-part-preserved-in_default : goal.loop-part-preserved-in_default
loop-part-preserved-in_default c =
    let ps = c.args.parts.now in
    let i = c.loop-part.part-index in
    let low : i < length ps = omega arith in (
      c.loop-part.invariant.0,
      owned_other ps i _ c.args.local.now.binds.keys c.loop-part.variables.keys (slice_get-get_or ps i _ low) c.in_default.not-Uses c.loop-part.invariant.1,
    )

pub returns : goal.returns
returns c =
    let ps = c.args.parts.now in
    let end : length ps ≤ c.loop-part.part-index = omega arith in
    let all = subst (λ (xs : List Part). (x : ℕ) → IsIn xs (Uses x) → (IsIn c.args.local.now.binds.keys x → ⊥) → IsIn c.loop-part.variables.keys x)
    (take_whole ps c.loop-part.part-index end) c.loop-part.invariant.1 in
    record { keeps = c.loop-part.invariant.0; owned = λ x owns. all x ((c.requires.uses x).0 owns.0) owns.1 }
