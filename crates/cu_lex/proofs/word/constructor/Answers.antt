use Rattle.std.proofs.Common.{refl}
use Rattle.cu_lex.specs.Inside.Scanning.{left, con_id_kind}
use Rattle.cu_lex.specs.Words.{is_name_character}
use Rattle.cu_lex.proofs.WordLemmas.{word-at, is-con-id, capital-first}
use Rattle.cu_lex.proofs.word.constructor.Goals as goal

pub returns-clause-word : goal.returns-clause-word
returns-clause-word c =
    word-at is_name_character (left c.args.start) (left c.skip.result) con_id_kind refl c.skip.ensures (capital-first (left c.args.start) c.requires) (is-con-id (left c.args.start) c.requires)
