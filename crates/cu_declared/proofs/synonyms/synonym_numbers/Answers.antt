use Rattle.std.proofs.Common.{[], get_or}
use Rattle.std.proofs.lemmas.List.Elements.{All-get_or}
use Rattle.cu_declared.specs.Inside.Synonyms.{SynonymIsOf}
use Rattle.cu_declared.proofs.ArityLemmas.{get_or_any}
use Rattle.cu_declared.proofs.SynonymLemmas.{numbers_end, numbers_prefix}
use Rattle.cu_declared.proofs.synonyms.synonym_numbers.Goals as goal

pub loop-number-init : goal.loop-number-init
loop-number-init c owner names after differ known all gains = gains.gains [] (c.new-numbers.ensures names)

pub loop-number-preserved : goal.loop-number-preserved
loop-number-preserved c owner names after differ known all rest =
    let xs = c.args.synonyms.now in
    let x = get_or xs c.loop-number.number c.index-synonyms-number.result in
    let of = All-get_or (SynonymIsOf owner names) xs c.loop-number.number c.index-synonyms-number.result c.loop-number-test.true all in
    c.loop-number.invariant owner names after differ known all
    (numbers_prefix names c.args.owner xs c.loop-number.number x c.loop-number.numbers c.add.new.self after
    (get_or_any xs c.loop-number.number c.index-synonyms-number.result x c.loop-number-test.true) c.loop-number-test.true
    (c.in_ok-add.ensures names differ known of.name) rest)

pub returns : goal.returns
returns c owner names differ known all =
    c.loop-number.invariant owner names c.loop-number.numbers differ known all (numbers_end names c.args.owner c.args.synonyms.now c.loop-number.number c.loop-number.numbers c.loop-number-test.false)
