use Rattle.std.proofs.Common.{Option, length, refl, sym, ap, ◌∙◌}
use Rattle.std.proofs.lemmas.Option.{slice_get_past, slice_get_read}
use Rattle.cu_types.specs.Inside.Grouping.{numbers_of}
use Rattle.cu_types.specs.declared.known.Known.{Known}
use Rattle.cu_types.proofs.known.numbers_at.Goals as goal

pub returns-in-Some : goal.returns-in-Some
returns-in-Some c =
    let found = c.in-Some.ensures.lookup in
    let ks = c.args.known.now in
    c.numbers.ensures ∙ sym (ap (λ (k : Option Known). numbers_of k)
    (slice_get_read ks (length ks) c.args.f.0 c.in-Some.own.now refl found.3.0 found.1))

pub returns-in-None : goal.returns-in-None
returns-in-None c =
    sym (ap (λ (k : Option Known). numbers_of k) (slice_get_past c.args.known.now c.args.f.0 c.in-None.ensures.lookup.3))
