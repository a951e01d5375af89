use Rattle.std.proofs.Common.{◌≡◌, All, true, false, Ok, map, pred, sym, ap, subst, ◌∙◌, arith}
use Rattle.std.proofs.lemmas.List.Elements.{All-push}
use Rattle.cu_flatread.proofs.KeptLemmas.{extends_again, functions_kept, functions_has}
use Rattle.cu_flatread.proofs.ListLemmas.{more_false, named_step}
use Rattle.cu_flatread.proofs.LoopLemmas.{list_bad, list_stops}
use Rattle.cu_flatread.specs.Inside.Declarations.{function_at}
use Rattle.cu_flatread.specs.Inside.Words.{goes_on}
use Rattle.cu_flatread.specs.Meaning.{HasFunction, function_of}
use Rattle.cu_flatread.proofs.functions.functions_after.Goals as goal

pub returns-in_err-goes_on-clause-gives : goal.returns-in_err-goes_on-clause-gives
returns-in_err-goes_on-clause-gives c =
    let inv = c.loop-functions.invariant in
    list_stops (λ xs. map (function_of c.loop-functions.names) xs.items) function_at inv.0
    c.loop-functions.cursor.rest.now c.goes_on.new.self.rest.now c.goes_on.new.self.rest.now
    (map (function_of c.loop-functions.names) c.loop-functions.functions.items) _
    c.from_residual-in_err-goes_on.result c.in_err-goes_on.field-0.0
    c.from_residual-in_err-goes_on.ensures.1 c.in_err-goes_on.ensures.gives inv.1 inv.2

pub returns-in_err-next-clause-gives : goal.returns-in_err-next-clause-gives
returns-in_err-next-clause-gives c =
    let inv = c.loop-functions.invariant in
    let comma : goes_on c.loop-functions.cursor.rest.now ≡ Ok (true, c.goes_on.new.self.rest.now) =
    c.in_ok-goes_on.ensures.gives
    ∙ ap (λ more. Ok (more, c.goes_on.new.self.rest.now)) c.if-branch.true in
    list_bad (λ xs. map (function_of c.function.new.names) xs.items) (function_of c.function.new.names) function_at inv.0
    c.loop-functions.cursor.rest.now c.goes_on.new.self.rest.now c.function.new.cursor.rest.now
    c.function.new.cursor.rest.now (map (function_of c.loop-functions.names) c.loop-functions.functions.items) _
    c.from_residual-in_err-next.result c.in_err-next.field-0.0
    c.from_residual-in_err-next.ensures.1 comma c.in_err-next.ensures.gives inv.1 inv.2

pub loop-functions-preserved : goal.loop-functions-preserved
loop-functions-preserved c =
    let inv = c.loop-functions.invariant in
    let comma : goes_on c.loop-functions.cursor.rest.now ≡ Ok (true, c.goes_on.new.self.rest.now) =
    c.in_ok-goes_on.ensures.gives
    ∙ ap (λ more. Ok (more, c.goes_on.new.self.rest.now)) c.if-branch.true in
    let before = c.loop-functions.names in
    let now = c.function.new.names in
    let items = c.loop-functions.functions.items in
    let more = c.in_ok-next.ensures.names in (
      pred inv.0,
      omega (arith, inv.1, c.in_ok-goes_on.ensures.shorter, c.in_ok-next.ensures.shorter),
      named_step (function_of before) (function_of now) items c.push.new.self.items c.in_ok-next.next function_at inv.0
          c.loop-functions.cursor.rest.now c.goes_on.new.self.rest.now c.function.new.cursor.rest.now _
          c.in_ok-push.ensures.items (functions_kept before now items more inv.4) comma
          c.in_ok-next.ensures.gives inv.1 inv.2,
      omega (arith, inv.3, c.in_ok-goes_on.ensures.shorter, c.in_ok-next.ensures.shorter),
      subst (All (HasFunction now)) (sym c.in_ok-push.ensures.items)
          (All-push (HasFunction now) items c.in_ok-next.next (functions_has before now items more inv.4)
          c.in_ok-next.ensures.known),
      extends_again _ before now inv.5 more,
    )

pub returns-clause-gives : goal.returns-clause-gives
returns-clause-gives c =
    let inv = c.loop-functions.invariant in
    let end : goes_on c.loop-functions.cursor.rest.now ≡ Ok (false, c.goes_on.new.self.rest.now) =
    c.in_ok-goes_on.ensures.gives
    ∙ ap (λ more. Ok (more, c.goes_on.new.self.rest.now)) c.if-branch.false in
    sym inv.2
    ∙ more_false function_at inv.0 c.loop-functions.cursor.rest.now c.goes_on.new.self.rest.now
    (map (function_of c.loop-functions.names) c.loop-functions.functions.items) end inv.1
