use Rattle.std.proofs.Common.{sym}
use Rattle.cu_words.specs.Words.{Checking, check_of}
use Rattle.cu_cmd.proofs.CheckLemmas.{later_cause, loaded_ends, modules_refusal_ends_as}
use Rattle.cu_cmd.proofs.ReportLemmas.{refusal_ends_whole}
use Rattle.cu_cmd.proofs.checking.check.Goals as goal

pub returns-in-Ok-clause-ends : goal.returns-in-Ok-clause-ends
returns-in-Ok-clause-ends g c =
    loaded_ends c.check_file.result (check_of c.args.check) (g.L.Library.holdings c.args.library.now) (g.L.Library.holdings c.load.new.library) _ c.in-Ok.loaded _ _
    c.in-Ok.ensures.same c.in-Ok.ensures.loaded c.check_file.ensures.ends

pub returns-in-Ok-clause-cause : goal.returns-in-Ok-clause-cause
returns-in-Ok-clause-cause g c = later_cause c.check_file.result _ _ _ _ c.in-Ok.ensures.count c.check_file.ensures.cause

pub returns-in-Err-Refused-clause-ends : goal.returns-in-Err-Refused-clause-ends
returns-in-Err-Refused-clause-ends g c =
    modules_refusal_ends_as c.refuse.result (check_of c.args.check) (g.L.Library.holdings c.args.library.now) _ c.in-Err-Refused.field-0 c.in-Err-Refused.refusal _ _ _
    c.in-Err-Refused.field-0-is (sym c.in-Err-Refused.refusal-is) c.in-Err-Refused.ensures.refused c.refuse.ensures.status c.refuse.ensures.whole c.refuse.ensures.prefix

pub returns-in-Err-Refused-clause-whole : goal.returns-in-Err-Refused-clause-whole
returns-in-Err-Refused-clause-whole g c =
    refusal_ends_whole c.refuse.result (Checking (check_of c.args.check)) _ _ _ _ _ c.refuse.ensures.status c.refuse.ensures.whole c.refuse.ensures.cause
