use Rattle.std.proofs.Common.{ℕ, List, ◌++◌, ap, arith, sym, ◌∙◌}
use Rattle.cu_flattext.specs.Inside.Stands.{lowered_of}
use Rattle.cu_flattext.specs.Inside.TypeTasks.{settings_of, types_left}
use Rattle.cu_flattext.proofs.ScopeLemmas.{argument_read, no_scope_before, no_such_argument, type_pushed}
use Rattle.cu_flattext.proofs.types.Types.argument.Goals as goal

pub returns-then-outer-place : goal.returns-then-outer-place
returns-then-outer-place c =
    let self = c.args.self.now in
    let program = lowered_of self.wording in
    ap (λ (t : List ℕ). t ++ types_left self)
    (sym (no_scope_before program (settings_of program self.scopes.items) c.args.ts.now c.args.outer c.args.place c.args.x c.if-outer-place.true))

pub returns-in_ok-push-in-Some : goal.returns-in_ok-push-in-Some
returns-in_ok-push-in-Some c =
    let self = c.args.self.now in
    let program = lowered_of self.wording in
    type_pushed program self.scopes.items self.tasks.items c.push.new.self.items c.in-Some.t c.args.outer c.in_ok-push-in-Some.ensures.items
    ∙ ap (λ (t : List ℕ). t ++ types_left self)
    (sym (argument_read program self.scopes.items c.args.ts.now c.args.outer c.args.place c.args.x c.in-Some.t.now
    (omega (arith, c.if-outer-place.false)) c.requires (sym c.in-Some.ensures)))

pub returns-in-None : goal.returns-in-None
returns-in-None c =
    let self = c.args.self.now in
    let program = lowered_of self.wording in
    ap (λ (t : List ℕ). t ++ types_left self)
    (sym (no_such_argument program (settings_of program self.scopes.items) c.args.ts.now c.args.outer c.args.place c.args.x (sym c.in-None.ensures)))
