use Rattle.std.proofs.Common.{rules, ◌≡◌, ◌<◌, ℕ, List, Some, get_or, length, slice_get, refl, subst, arith}
use Rattle.std.proofs.lemmas.Option.{slice_get_read}
use Rattle.cu_cycles.proofs.Changes.{forget_closed, forget_open, pending_within, reach_pending, same_work}
use Rattle.cu_cycles.specs.Graph.{rows_in}
use Rattle.cu_cycles.specs.declared.components.Place.{Place}
use Rattle.cu_cycles.specs.declared.components.Place.TheVariants.{Closed, New, Open}
use Rattle.cu_cycles.proofs.components.Search.advance.Goals as goal

read : (places : List Place) (w : ℕ) (x p : Place) → w < length places → x ≡ get_or places w x → x ≡ p → slice_get places w ≡ Some p
read places w x p low is e = subst (λ (y : Place). slice_get places w ≡ Some y) e (slice_get_read places (length places) w x refl low is)

pub index-requires : goal.index-requires
index-requires c =
    let s = c.args.self.now in
    let size : Rattle.std.specs.Vec.vec_len s.places ≡ length s.places.items = search rules in
    let low =
    pending_within (rows_in c.args.graph.now) s.places.items s.path.items s.pending.items s.parts.items s.closed c.args.part c.in-Some.target c.requires.whole
    c.requires.good c.requires.last c.in-Some.ensures.some.0 c.in-Some.ensures.some.1 in
    omega arith

pub enter-requires : goal.enter-requires
enter-requires c =
    let s = c.args.self.now in
    let low =
    pending_within (rows_in c.args.graph.now) s.places.items s.path.items s.pending.items s.parts.items s.closed c.args.part c.in-Some.target c.requires.whole
    c.requires.good c.requires.last c.in-Some.ensures.some.0 c.in-Some.ensures.some.1 in
    record {
      good = c.requires.good;
      is_new = read s.places.items c.in-Some.target c.index.result.now New low c.index.ensures c.in-New.is;
      reached =
          reach_pending (rows_in c.args.graph.now) s.places.items s.path.items s.pending.items s.parts.items s.closed c.args.part c.in-Some.target
          c.requires.good c.requires.last c.in-Some.ensures.some.0 c.in-Some.ensures.some.1;
    }

pub returns-in-Open-clause-good : goal.returns-in-Open-clause-good
returns-in-Open-clause-good c =
    let s = c.args.self.now in
    let low =
    pending_within (rows_in c.args.graph.now) s.places.items s.path.items s.pending.items s.parts.items s.closed c.args.part c.in-Some.target c.requires.whole
    c.requires.good c.requires.last c.in-Some.ensures.some.0 c.in-Some.ensures.some.1 in
    c.follow.ensures.good (rows_in c.args.graph.now)
    (forget_open (rows_in c.args.graph.now) s c.join.new.self c.args.part c.in-Some.target c.in-Open.at c.requires.good c.requires.last
    c.in-Some.ensures.some.0 c.in-Some.ensures.some.1
    (read s.places.items c.in-Some.target c.index.result.now (Open c.in-Open.at) low c.index.ensures c.in-Open.is) c.join.ensures.only
    c.join.ensures.joined c.join.ensures.before)

pub returns-in-Open-clause-falls : goal.returns-in-Open-clause-falls
returns-in-Open-clause-falls c =
    let s = c.args.self.now in
    let low =
    pending_within (rows_in c.args.graph.now) s.places.items s.path.items s.pending.items s.parts.items s.closed c.args.part c.in-Some.target c.requires.whole
    c.requires.good c.requires.last c.in-Some.ensures.some.0 c.in-Some.ensures.some.1 in
    let one_less =
    c.follow.ensures.falls (rows_in c.args.graph.now)
    (forget_open (rows_in c.args.graph.now) s c.join.new.self c.args.part c.in-Some.target c.in-Open.at c.requires.good c.requires.last
    c.in-Some.ensures.some.0 c.in-Some.ensures.some.1
    (read s.places.items c.in-Some.target c.index.result.now (Open c.in-Open.at) low c.index.ensures c.in-Open.is) c.join.ensures.only
    c.join.ensures.joined c.join.ensures.before) in
    let no_more = same_work (rows_in c.args.graph.now) s c.join.new.self c.join.ensures.only in
    omega arith

pub returns-in-Closed-clause-good : goal.returns-in-Closed-clause-good
returns-in-Closed-clause-good c =
    let s = c.args.self.now in
    let low =
    pending_within (rows_in c.args.graph.now) s.places.items s.path.items s.pending.items s.parts.items s.closed c.args.part c.in-Some.target c.requires.whole
    c.requires.good c.requires.last c.in-Some.ensures.some.0 c.in-Some.ensures.some.1 in
    c.follow-in-Closed.ensures.good (rows_in c.args.graph.now)
    (forget_closed (rows_in c.args.graph.now) s c.args.part c.in-Some.target c.in-Closed.field-0 c.requires.good c.requires.last
    c.in-Some.ensures.some.0 c.in-Some.ensures.some.1
    (read s.places.items c.in-Some.target c.index.result.now (Closed c.in-Closed.field-0) low c.index.ensures c.in-Closed.is))

pub returns-in-Closed-clause-falls : goal.returns-in-Closed-clause-falls
returns-in-Closed-clause-falls c =
    let s = c.args.self.now in
    let low =
    pending_within (rows_in c.args.graph.now) s.places.items s.path.items s.pending.items s.parts.items s.closed c.args.part c.in-Some.target c.requires.whole
    c.requires.good c.requires.last c.in-Some.ensures.some.0 c.in-Some.ensures.some.1 in
    let one_less =
    c.follow-in-Closed.ensures.falls (rows_in c.args.graph.now)
    (forget_closed (rows_in c.args.graph.now) s c.args.part c.in-Some.target c.in-Closed.field-0 c.requires.good c.requires.last
    c.in-Some.ensures.some.0 c.in-Some.ensures.some.1
    (read s.places.items c.in-Some.target c.index.result.now (Closed c.in-Closed.field-0) low c.index.ensures c.in-Closed.is)) in
    omega arith
