use Rattle.std.proofs.Common.{◌∙◌, ap, ap₂, true}
use Rattle.std.proofs.lemmas.Result.{IfOk-weaker}
use Rattle.clap.specs.Simple.{app_of_fields, on_top, with_subcommand}
use Rattle.cu_words.proofs.command.command_line.Goals as goal

pub returns : goal.returns
returns c =
    let unnamed = ap app_of_fields c.no_binary_name.ensures ∙ ap (on_top (λ s. record s { no_binary_name = true })) c.new.ensures.app in
    let no_flag = ap app_of_fields c.disable_help_flag.ensures ∙ ap (on_top (λ s. record s { disable_help_flag = true })) unnamed in
    let no_help = ap app_of_fields c.disable_help_subcommand.ensures ∙ ap (on_top (λ s. record s { disable_help_subcommand = true })) no_flag in
    let no_version = ap app_of_fields c.disable_version_flag.ensures ∙ ap (on_top (λ s. record s { disable_version_flag = true })) no_help in
    let asked = ap app_of_fields c.subcommand_required.ensures ∙ ap (on_top (λ s. record s { subcommand_required = true })) no_version in
    let with_solve = c.in_ok-subcommand.ensures.shape c.in_ok-solve.ensures.local ∙ ap₂ with_subcommand asked c.in_ok-solve.ensures.shape in
    let with_compile = c.in_ok-subcommand-2.ensures.shape c.in_ok-compile.ensures.local ∙ ap₂ with_subcommand with_solve c.in_ok-compile.ensures.shape in
    let with_trial = c.in_ok-subcommand-3.ensures.shape c.in_ok-trial.ensures.local ∙ ap₂ with_subcommand with_compile c.in_ok-trial.ensures.shape in
    let with_check = c.in_ok-subcommand-4.ensures.shape c.in_ok-check.ensures.local ∙ ap₂ with_subcommand with_trial c.in_ok-check.ensures.shape in
    IfOk-weaker c.subcommand-5.result _ _ (λ made adds. adds.shape c.session_command.ensures.local ∙ ap₂ with_subcommand with_check c.session_command.ensures.shape) c.subcommand-5.ensures
