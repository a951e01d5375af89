use Rattle.std.proofs.Common.{◌∙◌, sym, ap}
use Rattle.cu_layout.specs.Inside.Entries.{is_names, stack_of}
use Rattle.cu_layout.specs.Rules.{block_tokens}
use Rattle.cu_layout.proofs.NamesLemmas.{only_names-begun_of}
use Rattle.cu_layout.proofs.layout.only_names.Goals as goal

pub returns-in-None : goal.returns-in-None
returns-in-None c = ap is_names c.in-None.ensures.begun ∙ sym (only_names-begun_of (block_tokens (stack_of c.args.stack.now)))

pub returns-in-Some : goal.returns-in-Some
returns-in-Some c = c.is_names.ensures ∙ ap is_names c.in-Some.ensures.begun ∙ sym (only_names-begun_of (block_tokens (stack_of c.args.stack.now)))
