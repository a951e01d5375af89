use Rattle.cu_words.proofs.RequestLemmas.{after_read, after_unread}
use Rattle.cu_words.proofs.requests.after.Goals as goal

pub returns-clause-found : goal.returns-clause-found
returns-clause-found c =
    after_read c.args.beginning.now c.as_bytes.result.now c.args.text.now c.strip_prefix.result c.as_bytes.ensures.value c.strip_prefix.ensures.cases

pub returns-clause-missing : goal.returns-clause-missing
returns-clause-missing c =
    after_unread c.args.beginning.now c.as_bytes.result.now c.args.text.now c.strip_prefix.result c.as_bytes.ensures.value c.strip_prefix.ensures.cases
