use Rattle.std.proofs.Common.{◌∙◌, refl, sym, ap, subst, Err, length, reverse}
use Rattle.std.specs.Vec.Iter.{into_iter_items}
use Rattle.cu_names.proofs.Growth.{extends-trans}
use Rattle.cu_syntax.proofs.ViewLemmas.{nothing_left}
use Rattle.std.specs.Prelude.{IfSome}
use Rattle.cu_io.specs.Holdings.{Holdings}
use Rattle.cu_modules.specs.declared.fault.OrderFault.{OrderFault}
use Rattle.cu_modules.specs.declared.visits.Frame.{Frame}
use Rattle.cu_modules.specs.declared.visits.Progress.{Progress}
use Rattle.cu_modules.specs.Ordering.{Tells, modules_of, texts_of}
use Rattle.cu_modules.specs.Inside.Progress.{IsFound}
use Rattle.cu_modules.specs.Walk.{Visits}
use Rattle.cu_names.specs.Texts.{text_of}
use Rattle.cu_syntax.specs.Answer.{module_meaning}
use Rattle.cu_modules.proofs.VisitLemmas.{done_visit, falls_inside, falls_outside, with_fault}
use Rattle.cu_modules.proofs.WalkLemmas.{all_came, first_frame, going_first, going_inside, going_outside, going_refused, ids_of, import_known, imports_known, last_frame, one_longer, root_there, root_visited, two_frames, two_longer}
use Rattle.cu_modules.proofs.visits.visit.Goals as goal

pub returns-then-is_done-clause-visited : goal.returns-then-is_done-clause-visited
returns-then-is_done-clause-visited g c =
    let names = c.args.names.now in
    done_visit names c.args.progress.now c.args.name (g.L.Library.holdings c.args.lib.now) c.args.dir.now (sym (c.is_done.ensures names c.requires.stands.differ c.requires.stands.done_known c.requires.known) ∙ c.if-is_done.true)

pub begin-requires-clause-not_done : goal.begin-requires-clause-not_done
begin-requires-clause-not_done g c =
    let names = c.args.names.now in
    sym (c.is_done.ensures names c.requires.stands.differ c.requires.stands.done_known c.requires.known) ∙ c.if-is_done.false

pub returns-in_err-begin-clause-refused : goal.returns-in_err-begin-clause-refused
returns-in_err-begin-clause-refused g c =
    let names = c.args.names.now in
    let new = c.begin.new.names in
    let p = c.args.progress.now in
    let name = c.args.name in
    let o = g.L.Library.holdings c.args.lib.now in
    with_fault o (λ (held : Holdings) (fault : OrderFault). Tells new (λ refusal. Visits (held.module_at c.args.dir.now) (texts_of names p.path.items) (modules_of names p.done.items) (text_of names name) (Err refusal)) fault) c.from_residual.result c.in_err-begin.field-0.0
    c.from_residual.ensures.1 c.in_err-begin.ensures.refused

pub frames-init : goal.frames-init
frames-init g c =
    let told = c.in_ok-begin.ensures in
    let f = c.in_ok-begin.field-0 in (
      going_first told.names c.args.progress.now c.begin.new.progress f (reverse c.push.new.self.items) c.args.name (g.L.Library.holdings c.args.lib.now) c.args.dir.now
          (first_frame c.push.new.self.items c.new-frames.result.items f c.new-frames.ensures.items c.in_ok-push.ensures.items) c.requires.stands c.requires.known told.new told.enters told.found,
      told.same,
      told.count,
    )

pub begin-requires-in-Some-clause-known : goal.begin-requires-in-Some-clause-known
begin-requires-in-Some-clause-known g c =
    let names = c.frames.names in
    let p = c.args.progress.now in
    let now = c.frames.progress in
    let o = g.L.Library.holdings c.args.lib.now in
    let dir = c.args.dir.now in
    let f = c.in-Some.frame in
    let rest = c.pop.new.self.items in
    let going = c.frames.invariant.0 in
    let is = last_frame c.frames.frames.items rest f c.in-Some.ensures.items in
    let known = imports_known p now f (reverse rest) (reverse c.frames.frames.items) c.args.name o dir is going in
    let sought = c.in-Some-first_new.ensures names going.stands.differ going.stands.done_known known in
    import_known p now f (reverse rest) (reverse c.frames.frames.items) c.args.name c.in-Some-first_new.import (into_iter_items c.first_new.new.left) o dir is going sought.0

pub begin-requires-in-Some-clause-not_done : goal.begin-requires-in-Some-clause-not_done
begin-requires-in-Some-clause-not_done g c =
    let names = c.frames.names in
    let p = c.args.progress.now in
    let now = c.frames.progress in
    let o = g.L.Library.holdings c.args.lib.now in
    let dir = c.args.dir.now in
    let f = c.in-Some.frame in
    let rest = c.pop.new.self.items in
    let going = c.frames.invariant.0 in
    let is = last_frame c.frames.frames.items rest f c.in-Some.ensures.items in
    let known = imports_known p now f (reverse rest) (reverse c.frames.frames.items) c.args.name o dir is going in
    let sought = c.in-Some-first_new.ensures names going.stands.differ going.stands.done_known known in
    sought.1

pub returns-in_err-entered-clause-refused : goal.returns-in_err-entered-clause-refused
returns-in_err-entered-clause-refused g c =
    let names = c.frames.names in
    let p = c.args.progress.now in
    let now = c.frames.progress in
    let o = g.L.Library.holdings c.args.lib.now in
    let dir = c.args.dir.now in
    let f = c.in-Some.frame in
    let rest = c.pop.new.self.items in
    let going = c.frames.invariant.0 in
    let is = last_frame c.frames.frames.items rest f c.in-Some.ensures.items in
    let known = imports_known p now f (reverse rest) (reverse c.frames.frames.items) c.args.name o dir is going in
    let sought = c.in-Some-first_new.ensures names going.stands.differ going.stands.done_known known in
    let new = c.begin-in-Some.new.names in
    let id = c.in-Some-first_new.import in
    let fault = c.in_err-entered.field-0.0 in
    let told = subst (λ o. IfSome o (λ (held : Holdings). Tells new (λ refusal. Visits (held.module_at dir) (texts_of names now.path.items) (modules_of names now.done.items) (text_of names id) (Err refusal)) fault)) c.frames.invariant.1 c.in_err-entered.ensures.refused in
    with_fault o (λ (held : Holdings) (fault : OrderFault). Tells new (λ refusal. Visits (held.module_at dir) (texts_of c.args.names.now p.path.items) (modules_of c.args.names.now p.done.items) (text_of c.args.names.now c.args.name) (Err refusal)) fault) c.from_residual-in_err-entered.result fault
    c.from_residual-in_err-entered.ensures.1
    (going_refused new p now f (reverse rest) (reverse c.frames.frames.items) c.args.name id (into_iter_items c.first_new.new.left) o dir fault c.requires.stands is going sought.0 told)

pub frames-preserved-in_default-first_new : goal.frames-preserved-in_default-first_new
frames-preserved-in_default-first_new g c =
    let names = c.frames.names in
    let p = c.args.progress.now in
    let now = c.frames.progress in
    let o = g.L.Library.holdings c.args.lib.now in
    let dir = c.args.dir.now in
    let f = c.in-Some.frame in
    let rest = c.pop.new.self.items in
    let going = c.frames.invariant.0 in
    let is = last_frame c.frames.frames.items rest f c.in-Some.ensures.items in
    let known = imports_known p now f (reverse rest) (reverse c.frames.frames.items) c.args.name o dir is going in
    let left = c.in_default-first_new.ensures names going.stands.differ going.stands.done_known known in
    let after : Progress = record { prelude = now.prelude; path = c.pop-in_default-first_new.new.self; done = c.push-in_default-first_new.new.self; fetched = now.fetched } in (
      going_outside p now after f (reverse rest) (reverse c.frames.frames.items) c.args.name now.path.len o dir c.requires.stands is going left refl (sym now.path.ok.0) c.pop-in_default-first_new.ensures.rest c.in_ok-push-2.ensures.items refl,
      c.frames.invariant.1,
      c.frames.invariant.2,
    )

pub frames-preserved : goal.frames-preserved
frames-preserved g c =
    let names = c.frames.names in
    let p = c.args.progress.now in
    let now = c.frames.progress in
    let o = g.L.Library.holdings c.args.lib.now in
    let dir = c.args.dir.now in
    let f = c.in-Some.frame in
    let rest = c.pop.new.self.items in
    let going = c.frames.invariant.0 in
    let is = last_frame c.frames.frames.items rest f c.in-Some.ensures.items in
    let known = imports_known p now f (reverse rest) (reverse c.frames.frames.items) c.args.name o dir is going in
    let sought = c.in-Some-first_new.ensures names going.stands.differ going.stands.done_known known in
    let told = c.in_ok-entered.ensures in
    let found = subst (λ o. IfSome o (λ (held : Holdings). IsFound (held.module_at dir) now.fetched (text_of names c.in-Some-first_new.import) (module_meaning c.begin-in-Some.new.names c.in_ok-entered.entered.«module».syntax))) c.frames.invariant.1 told.found in (
      going_inside told.names p now c.begin-in-Some.new.progress f c.in_ok-entered.entered (reverse rest) (reverse c.frames.frames.items) (reverse c.push-in-Some-2.new.self.items) c.first_new.new.left c.args.name c.in-Some-first_new.import o dir
          c.requires.stands is (two_frames c.push-in-Some-2.new.self.items c.push-in-Some.new.self.items rest (record { «module» = f.«module»; left = c.first_new.new.left }) c.in_ok-entered.entered c.in_ok-push-3.ensures.items c.in_ok-push-4.ensures.items)
          going sought.0 told.new told.enters found,
      told.same ∙ c.frames.invariant.1,
      told.count ∙ c.frames.invariant.2,
    )

pub frames-smaller-in_default-first_new : goal.frames-smaller-in_default-first_new
frames-smaller-in_default-first_new g c =
    let names = c.frames.names in
    let p = c.args.progress.now in
    let now = c.frames.progress in
    let o = g.L.Library.holdings c.args.lib.now in
    let dir = c.args.dir.now in
    let f = c.in-Some.frame in
    let rest = c.pop.new.self.items in
    let going = c.frames.invariant.0 in
    let is = last_frame c.frames.frames.items rest f c.in-Some.ensures.items in
    let known = imports_known p now f (reverse rest) (reverse c.frames.frames.items) c.args.name o dir is going in
    let left = c.in_default-first_new.ensures names going.stands.differ going.stands.done_known known in
    let after : Progress = record { prelude = now.prelude; path = c.pop-in_default-first_new.new.self; done = c.push-in_default-first_new.new.self; fetched = now.fetched } in
    let out = going_outside p now after f (reverse rest) (reverse c.frames.frames.items) c.args.name now.path.len o dir c.requires.stands is going left refl (sym now.path.ok.0) c.pop-in_default-first_new.ensures.rest c.in_ok-push-2.ensures.items refl in
    falls_outside now.path.items c.pop-in_default-first_new.new.self.items (ids_of p.path.items (reverse rest)) f.«module».name now.done.items c.push-in_default-first_new.new.self.items f.«module» (length c.frames.frames.items) (length rest)
    (going.path ∙ ap (ids_of p.path.items) is) out.path c.in_ok-push-2.ensures.items (one_longer c.frames.frames.items rest f c.in-Some.ensures.items)

pub frames-smaller : goal.frames-smaller
frames-smaller g c =
    let now = c.frames.progress in
    let rest = c.pop.new.self.items in
    let f = c.in-Some.frame in
    let inner = c.in_ok-entered.entered in
    let kept : Frame = record { «module» = f.«module»; left = c.first_new.new.left } in
    let first = one_longer c.frames.frames.items rest f c.in-Some.ensures.items in
    let last = two_longer c.push-in-Some-2.new.self.items c.push-in-Some.new.self.items rest kept inner c.in_ok-push-3.ensures.items c.in_ok-push-4.ensures.items in
    falls_inside c.begin-in-Some.new.names now c.begin-in-Some.new.progress c.in-Some-first_new.import inner.«module» (into_iter_items inner.left) (length rest) (length c.frames.frames.items) (length c.push-in-Some-2.new.self.items) first last c.in_ok-entered.ensures.enters

pub returns-clause-came : goal.returns-clause-came
returns-clause-came g c =
    let frames = c.frames.frames.items in
    let none = ap reverse (nothing_left frames c.frames.frames.len c.in_default.ensures.cases.0 c.frames.frames.ok.0) in
    all_came c.args.progress.now c.frames.progress (reverse frames) c.args.name (g.L.Library.holdings c.args.lib.now) c.args.dir.now none c.frames.invariant.0

pub returns-clause-there : goal.returns-clause-there
returns-clause-there g c =
    let frames = c.frames.frames.items in
    let none = ap reverse (nothing_left frames c.frames.frames.len c.in_default.ensures.cases.0 c.frames.frames.ok.0) in
    root_there c.args.progress.now c.frames.progress (reverse frames) c.args.name (g.L.Library.holdings c.args.lib.now) c.args.dir.now none c.frames.invariant.0

pub returns-clause-visited : goal.returns-clause-visited
returns-clause-visited g c =
    let frames = c.frames.frames.items in
    let none = ap reverse (nothing_left frames c.frames.frames.len c.in_default.ensures.cases.0 c.frames.frames.ok.0) in
    root_visited c.args.progress.now c.frames.progress (reverse frames) c.args.name (g.L.Library.holdings c.args.lib.now) c.args.dir.now none c.frames.invariant.0

pub returns-in_err-entered-clause-names : goal.returns-in_err-entered-clause-names
returns-in_err-entered-clause-names g c = extends-trans c.frames.invariant.0.extends c.in_err-entered.ensures.names

pub returns-in_err-push-3-clause-names : goal.returns-in_err-push-3-clause-names
returns-in_err-push-3-clause-names g c = extends-trans c.frames.invariant.0.extends c.in_ok-entered.ensures.names

pub returns-in_err-push-4-clause-names : goal.returns-in_err-push-4-clause-names
returns-in_err-push-4-clause-names g c = extends-trans c.frames.invariant.0.extends c.in_ok-entered.ensures.names
