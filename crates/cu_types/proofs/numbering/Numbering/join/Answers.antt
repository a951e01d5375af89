use Rattle.std.proofs.Common.{◌≡◌, ◌-◌, length, sym, refl, subst, arith}
use Rattle.cu_types.proofs.NumberingLemmas.{joined, last_count, last_within}
use Rattle.cu_types.proofs.numbering.Numbering.join.Goals as goal
use Rattle.cu_types.specs.Inside.Reading.{shapes}
use Rattle.cu_types.specs.Table.{IsFull}

pub apply-requires-clause-full : goal.apply-requires-clause-full
apply-requires-clause-full c =
    let here : c.len.result - c.args.count ≡ length c.args.self.now.places.items - c.args.count =
    omega (arith, c.len.ensures, c.args.self.now.places.ok.0) in
    subst (IsFull c.args.head)
    (sym (last_count c.args.self.now.places.items c.in_ok-found.found.items c.args.count (c.len.result - c.args.count) c.requires.count here
    c.in_ok-found.ensures.tail))
    c.requires.full

pub apply-requires-clause-within : goal.apply-requires-clause-within
apply-requires-clause-within c =
    last_within c.args.self.now.places.items c.in_ok-found.found.items (c.len.result - c.args.count) (length (shapes c.args.self.now.made))
    c.in_ok-found.ensures.tail c.requires.within

pub returns : goal.returns
returns c =
    let here : c.len.result - c.args.count ≡ length c.args.self.now.places.items - c.args.count =
    omega (arith, c.len.ensures, c.args.self.now.places.ok.0) in
    joined c.args.self.now
    (record { variables = c.args.self.now.variables; made = c.apply.new.self; known = c.insert.new.self; places = c.push.new.self })
    c.args.place c.args.head c.args.count (c.len.result - c.args.count) c.in_ok-found.found.items c.split_off.new.self.items
    c.in_ok-made.made here c.in_ok-found.ensures.tail c.in_ok-found.ensures.items c.in_ok-made.ensures.reader c.in_ok-made.ensures.read
    c.in_ok-push.ensures.items c.in_ok-insert.ensures.updates.0 refl
