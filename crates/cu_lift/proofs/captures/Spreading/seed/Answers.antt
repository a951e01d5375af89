use Rattle.std.proofs.Common.{◌<◌, ◌≤◌, ◌+◌, [], length, refl, sym, subst, arith}
use Rattle.std.proofs.lemmas.Option.{slice_get_read}
use Rattle.cu_lift.proofs.Spreads.{seeds_all, seeds_next, seeds_skip}
use Rattle.cu_lift.specs.Inside.Capturing.{AreSeeded, Spreads}
use Rattle.cu_lift.specs.declared.captures.Spreading.{Spreading}
use Rattle.cu_lift.proofs.captures.Spreading.seed.Goals.{then-owns+in_ok-meet, else-owns}
use Rattle.cu_lift.proofs.captures.Spreading.seed.Goals as goal

pub loop-function-init : goal.loop-function-init
loop-function-init c = (c.requires, λ k l less e owns. absurd (omega arith))

pub meet-requires : goal.meet-requires
meet-requires c =
    let low : c.loop-function.function < length c.args.locals.now = omega arith in
    let size = c.loop-function.invariant.0.sized in
    omega arith

pub loop-function-preserved : goal.loop-function-preserved
loop-function-preserved c =
    let locals = c.args.locals.now in
    let n = c.loop-function.function in
    let low : n < length locals = omega arith in
    let l = c.index-locals-function.result in
    let at = slice_get_read locals (length locals) n l refl low c.index-locals-function.is in
    elim c.if-owns.branch [
      | then-owns+in_ok-meet w ↦
          subst (λ (s : Spreading). Spreads locals c.args.x [] s × AreSeeded locals c.args.x (n + 1) s) (sym w.self-is)
          (seeds_next locals c.args.x n l c.loop-function.self w.meet.new.self at (c.owns.ensures.holds w.if-owns.true) c.loop-function.invariant.0
          c.loop-function.invariant.1 w.in_ok-meet.ensures)
      | else-owns w ↦
          subst (λ (s : Spreading). Spreads locals c.args.x [] s × AreSeeded locals c.args.x (n + 1) s) (sym w.self-is) (
            c.loop-function.invariant.0,
            seeds_skip locals c.args.x n l c.loop-function.self at (c.owns.ensures.fails w.if-owns.false) c.loop-function.invariant.1,
          )
    ]

pub returns : goal.returns
returns c =
    let end : length c.args.locals.now ≤ c.loop-function.function = omega arith in record {
      spreads = c.loop-function.invariant.0;
      seeded = seeds_all c.args.locals.now c.args.x c.loop-function.function c.loop-function.self end c.loop-function.invariant.1;
    }
