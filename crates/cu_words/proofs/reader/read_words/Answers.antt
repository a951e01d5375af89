use denote.Enum.Bare.{sameb}
use Rattle.std.proofs.Common.{◌≡◌, ◌∙◌, ap, sym, true, false, inl, inr}
use Rattle.clap.specs.Words.{is_simple_and_free}
use Rattle.clap.specs.contracts.error.kind.ErrorKind.{the_type}
use Rattle.clap.specs.declared.error.kind.ErrorKind.TheVariants.{OutOfMemory}
use Rattle.cu_words.proofs.ReaderLemmas.{at_fault, if_none_weaker, if_some_weaker, is_known, reads, unread}
use Rattle.cu_words.proofs.reader.read_words.Goals as goal

pub returns-in-Ok-clause-read : goal.returns-in-Ok-clause-read
returns-in-Ok-clause-read c =
    if_some_weaker c.read_command.result _ _ (λ solve asks. reads _ _ c.in-Ok.matches c.in_ok-command_line.ensures c.in-Ok.ensures.matches c.in-Ok.ensures.kinds _ asks) c.read_command.ensures.read

pub returns-in-Ok-clause-refused : goal.returns-in-Ok-clause-refused
returns-in-Ok-clause-refused c =
    if_none_weaker c.read_command.result _ _ (unread _ _ c.in-Ok.matches c.in_ok-command_line.ensures c.in-Ok.ensures.matches) c.read_command.ensures.refused

pub returns-clause-refused : goal.returns-clause-refused
returns-clause-refused c =
    let simple = ap is_simple_and_free c.in_ok-command_line.ensures ∙ is_known in
    elim (c.in-Err.ensures.kinds simple) [
      | inl memory ↦ λ command.
          let same : c.eq.result ≡ true = c.eq.ensures ∙ ap (λ kind. sameb the_type kind OutOfMemory) (c.kind.ensures ∙ memory) in
          let both : true ≡ false = sym same ∙ c.if-eq.false in
          let never : ⊥ = cc in
          absurd never
      | inr among ↦ at_fault _ _ _ c.in_ok-command_line.ensures among
    ]
