use Rattle.std.proofs.Common.{◌∙◌, ◌++◌, ◌∷◌, ap}
use Rattle.std.specs.Option.{option_map}
use Rattle.cu_names.proofs.Growth.{extends-trans}
use Rattle.cu_lex.specs.Located.{characters}
use Rattle.cu_lex.specs.Inside.Scanning.{left}
use Rattle.cu_lex.proofs.SpellingLemmas.{after-parts, ends, grown, kept, plain-parts, plain-spelled, qualified-spelled, word-bytes}
use Rattle.cu_lex.proofs.lexer.spelling.Goals as goal

pub text_to-whole-requires : goal.text_to-whole-requires
text_to-whole-requires c = ends (left c.args.start) c.args.found c.requires

pub returns-in-None-clause-ok : goal.returns-in-None-clause-ok
returns-in-None-clause-ok c = λ n.
    let parts = plain-parts (left c.args.start) c.args.found n c.in-None.is in
    plain-spelled c.intern.new.self c.in_ok-text.text c.text_to-whole.result.now (characters n.word.prefix) c.special.result (option_map characters n.outer) c.in_ok-text.ensures.id c.special.ensures
    (c.text_to-whole.ensures n.word.prefix parts.0 ∙ word-bytes (left c.args.found.base) c.args.found.word.kind (left c.args.found.word.end) n.word) (ap (option_map characters) parts.1)

pub returns-in_err-base-clause-names : goal.returns-in_err-base-clause-names
returns-in_err-base-clause-names c =
    extends-trans (grown c.args.names.now c.intern.new.self c.text_to-whole.result.now c.in_ok-text.ensures.names)
    (extends-trans (grown c.intern.new.self c.intern-2.new.self c.text_to.result.now c.in_ok-qualifier.ensures.names) (kept c.intern-2.new.self c.intern-3.new.self c.in_err-base.ensures.err))

pub returns-clause-ok : goal.returns-clause-ok
returns-clause-ok c = λ n.
    let b = after-parts (left c.args.start) c.args.found n c.in-Some.dot c.in-Some.is in
    qualified-spelled c.intern.new.self c.intern-2.new.self c.intern-3.new.self c.in_ok-text.text c.in_ok-qualifier.qualifier c.in_ok-base.base
    c.text_to-whole.result.now c.text_to.result.now c.text_to-2.result.now (characters b.outer) (characters n.word.prefix) (option_map characters n.outer)
    (grown c.intern.new.self c.intern-2.new.self c.text_to.result.now c.in_ok-qualifier.ensures.names) (grown c.intern-2.new.self c.intern-3.new.self c.text_to-2.result.now c.in_ok-base.ensures.names)
    c.in_ok-text.ensures.id c.in_ok-qualifier.ensures.id c.in_ok-base.ensures.id
    (c.text_to-whole.ensures (b.outer ++ b.point ∷ n.word.prefix) b.all ∙ b.all_bytes) (c.text_to.ensures b.outer b.whole ∙ b.outer_bytes)
    (c.text_to-2.ensures n.word.prefix n.word.whole ∙ word-bytes (left c.args.found.base) c.args.found.word.kind (left c.args.found.word.end) n.word) (ap (option_map characters) b.is)

pub returns-clause-names : goal.returns-clause-names
returns-clause-names c =
    extends-trans (grown c.args.names.now c.intern.new.self c.text_to-whole.result.now c.in_ok-text.ensures.names)
    (extends-trans (grown c.intern.new.self c.intern-2.new.self c.text_to.result.now c.in_ok-qualifier.ensures.names) (grown c.intern-2.new.self c.intern-3.new.self c.text_to-2.result.now c.in_ok-base.ensures.names))
