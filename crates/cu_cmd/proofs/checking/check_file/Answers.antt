use Rattle.std.proofs.Common.{refl}
use Rattle.cu_words.specs.Words.{check_of}
use Rattle.cu_cmd.specs.Checking.{missing, missing_file_line}
use Rattle.cu_cmd.proofs.CheckLemmas.{absent_cause, absent_ends, file_refusal_whole, text_cause, text_ends}
use Rattle.cu_cmd.proofs.checking.check_file.Goals as goal

pub returns-in-Text-clause-ends : goal.returns-in-Text-clause-ends
returns-in-Text-clause-ends g c =
    text_ends c.check_text.result (check_of c.args.check) (g.L.Library.holdings c.args.library.now) c.args.names.now c.args.loaded.now c.in_ok-bytes.field-0 c.in-Text.bytes
    c.deref.result.now _ _ c.in-Text.is c.deref.ensures.value c.in_ok-bytes.ensures.told c.check_text.ensures.ends

pub returns-in-Text-clause-cause : goal.returns-in-Text-clause-cause
returns-in-Text-clause-cause g c = text_cause c.check_text.result c.in_ok-bytes.field-0 c.in-Text.bytes _ _ _ _ c.in-Text.is c.in_ok-bytes.ensures.count c.check_text.ensures.cause

pub returns-in-Text-clause-whole : goal.returns-in-Text-clause-whole
returns-in-Text-clause-whole g c = c.check_text.ensures.whole (check_of c.args.check)

pub returns-in-Absent-clause-ends : goal.returns-in-Absent-clause-ends
returns-in-Absent-clause-ends g c =
    absent_ends c.refuse_path.result (check_of c.args.check) (g.L.Library.holdings c.args.library.now) c.args.names.now c.args.loaded.now c.in_ok-bytes.field-0 _ _
    c.in-Absent.is c.in_ok-bytes.ensures.told c.refuse_path.ensures.status c.refuse_path.ensures.whole c.refuse_path.ensures.prefix

pub returns-in-Absent-clause-cause : goal.returns-in-Absent-clause-cause
returns-in-Absent-clause-cause g c = absent_cause c.refuse_path.result c.in_ok-bytes.field-0 _ _ _ _ c.in-Absent.is c.in_ok-bytes.ensures.count c.refuse_path.ensures.cause

pub returns-in-Absent-clause-whole : goal.returns-in-Absent-clause-whole
returns-in-Absent-clause-whole g c =
    file_refusal_whole c.refuse_path.result (check_of c.args.check) (missing_file_line c.args.check.path.now) _ _ _ _ (missing refl) c.refuse_path.ensures.status
    c.refuse_path.ensures.whole c.refuse_path.ensures.cause
