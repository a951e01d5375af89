use Rattle.std.proofs.Common.{◌++◌, ◌∷◌, [], refl, subst, sym}
use Rattle.cu_lift.proofs.Noting.{notes_binder, notes_call, notes_use}
use Rattle.cu_lift.specs.Inside.Capturing.{IsLocal}
use Rattle.cu_lift.specs.declared.captures.Local.{Local}
use Rattle.cu_lift.specs.declared.captures.Part.{Part}
use Rattle.cu_lift.proofs.captures.Local.note.Goals as goal

pub returns-in_ok-insert-in-Uses : goal.returns-in_ok-insert-in-Uses
returns-in_ok-insert-in-Uses c ps h =
    let s = c.args.self.now in
    let new : Local = record { uses = c.insert.new.self; binds = s.binds; calls = s.calls } in
    subst (λ (p : Part). IsLocal (ps ++ p ∷ []) new) (sym c.in-Uses.is)
    (notes_use ps c.in-Uses.x s new c.in_ok-insert-in-Uses.ensures.keys refl refl h)

pub returns-in_ok-push-in-Calls : goal.returns-in_ok-push-in-Calls
returns-in_ok-push-in-Calls c ps h =
    let s = c.args.self.now in
    let new : Local = record { uses = s.uses; binds = s.binds; calls = c.push.new.self } in
    subst (λ (p : Part). IsLocal (ps ++ p ∷ []) new) (sym c.in-Calls.is)
    (notes_call ps c.in-Calls.function s new refl refl c.in_ok-push-in-Calls.ensures.items h)

pub returns-in_ok-insert-in-Binds : goal.returns-in_ok-insert-in-Binds
returns-in_ok-insert-in-Binds c ps h =
    let s = c.args.self.now in
    let new : Local = record { uses = s.uses; binds = c.insert-in-Binds.new.self; calls = s.calls } in
    subst (λ (p : Part). IsLocal (ps ++ p ∷ []) new) (sym c.in-Binds.is)
    (notes_binder ps c.in-Binds.x s new refl c.in_ok-insert-in-Binds.ensures.keys refl h)
