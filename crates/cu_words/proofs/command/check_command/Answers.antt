use Rattle.std.proofs.Common.{◌∙◌, ap, codes, [], IfOk}
use Rattle.std.proofs.lemmas.Result.{IfOk-weaker}
use Rattle.clap.specs.Simple.{App, new_rule}
use Rattle.clap.specs.Walk.{rule_of}
use Rattle.cu_words.specs.Command.{check_rules, option, or, required}
use Rattle.cu_words.proofs.CommandLemmas.{Made, more}
use Rattle.cu_words.proofs.command.check_command.Goals as goal

-- the command with each argument added in turn
all : (c : goal.After-arg-3) → IfOk c.arg-3.result (Made (codes "check") check_rules)
all c =
    let none : Made (codes "check") [] c.new.result = record { app = c.new.ensures.app; local = c.new.ensures.local } in
    let module_added = more (required (new_rule (codes "MODULE"))) c.required.result none
    (ap rule_of c.required.ensures ∙ ap required c.new-2.ensures.rule) (ap (λ a. a.global) c.required.ensures ∙ c.new-2.ensures.optional.1) c.in_ok-arg.ensures in
    let file_added = more (required (new_rule (codes "FILE"))) c.required-2.result module_added
    (ap rule_of c.required-2.ensures ∙ ap required c.new-3.ensures.rule) (ap (λ a. a.global) c.required-2.ensures ∙ c.new-3.ensures.optional.1) c.in_ok-arg-2.ensures in
    IfOk-weaker c.arg-3.result _ _ (λ made adds. more (or (option (codes "dir")) (codes ".")) c.default_value.result file_added
    (ap rule_of c.default_value.ensures ∙ ap (λ r. or r (codes ".")) c.option.ensures.rule) (ap (λ a. a.global) c.default_value.ensures ∙ c.option.ensures.local) adds) c.arg-3.ensures

pub returns-clause-shape : goal.returns-clause-shape
returns-clause-shape c = IfOk-weaker c.arg-3.result _ _ (λ made is. ap (λ (app : App). app.top) is.app) (all c)

pub returns-clause-local : goal.returns-clause-local
returns-clause-local c = IfOk-weaker c.arg-3.result _ _ (λ made is. is.local) (all c)
