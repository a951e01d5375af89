use Rattle.std.proofs.Common.{◌≡◌, ◌<◌, ◌≤◌, false, get_or, length, arith, subst, sym}
use Rattle.std.proofs.lemmas.List.Elements.{All-get_or}
use Rattle.cu_declared.specs.Inside.Synonyms.{SynonymIsOf}
use Rattle.cu_declared.proofs.ArityLemmas.{get_or_any}
use Rattle.cu_declared.proofs.SynonymLemmas.{flags_end, flags_prefix}
use Rattle.cu_declared.proofs.synonyms.tell_all_flagged.Goals as goal

pub loop-number-preserved : goal.loop-number-preserved
loop-number-preserved c w after all rest =
    let same : length c.args.flags.now ≡ length c.args.synonyms.now = c.requires in
    let low : c.loop-number.number < length c.args.synonyms.now = c.loop-number-test.true in
    let flagged : c.loop-number.number < length c.args.flags.now = omega arith in
    let of = subst (SynonymIsOf w.owner w.names) (sym c.index-synonyms-number.is) (All-get_or (SynonymIsOf w.owner w.names) c.args.synonyms.now c.loop-number.number c.index-synonyms-number.result low all) in
    c.loop-number.invariant w after all
    (flags_prefix w c.args.flags.now c.args.synonyms.now c.loop-number.number c.index-synonyms-number.result (get_or c.args.flags.now c.loop-number.number false) c.loop-number.first c.tell_flagged.new.first after
    c.index-synonyms-number.is low (get_or_any c.args.flags.now c.loop-number.number false (get_or c.args.flags.now c.loop-number.number false) flagged) flagged (c.tell_flagged.ensures w of) rest)

pub returns : goal.returns
returns c w all =
    let same : length c.args.flags.now ≡ length c.args.synonyms.now = c.requires in
    let past : length c.args.synonyms.now ≤ c.loop-number.number = c.loop-number-test.false in
    c.loop-number.invariant w c.loop-number.first all (flags_end w c.args.flags.now c.args.synonyms.now c.loop-number.number c.loop-number.first (omega arith))
