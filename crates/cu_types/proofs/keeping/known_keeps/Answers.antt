use Rattle.std.proofs.Common.{Option, length, refl, slice_get, subst}
use Rattle.std.proofs.lemmas.Option.{slice_get_past, slice_get_read}
use Rattle.cu_types.proofs.KeepingLemmas.{no_member}
use Rattle.cu_types.proofs.keeping.known_keeps.Goals as goal
use Rattle.cu_types.specs.Inside.Knowing.{IsMember}
use Rattle.cu_types.specs.declared.known.Known.{Known}

pub keeps-requires-clause-table : goal.keeps-requires-clause-table
keeps-requires-clause-table c = c.requires.table

pub keeps-requires-clause-places : goal.keeps-requires-clause-places
keeps-requires-clause-places c = c.requires.places

pub returns-in_ok-kept-in-Some : goal.returns-in_ok-kept-in-Some
returns-in_ok-kept-in-Some c = λ kernel m of_group.
    let found = c.in-Some.ensures.lookup in
    let ks = c.args.known.now in
    c.in_ok-kept-in-Some.ensures kernel c.args.f m
    (subst (λ (k : Option Known). IsMember kernel k c.args.f m)
    (slice_get_read ks (length ks) c.args.f.0 c.in-Some.function.now refl found.3.0 found.1) of_group)

pub returns-in-None : goal.returns-in-None
returns-in-None c = λ kernel m of_group.
    absurd (no_member kernel (slice_get c.args.known.now c.args.f.0) c.args.f m
    (slice_get_past c.args.known.now c.args.f.0 c.in-None.ensures.lookup.3) of_group)
