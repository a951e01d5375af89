use Rattle.std.proofs.Common.{◌∙◌, ap, codes, [], IfOk}
use Rattle.std.proofs.lemmas.Result.{IfOk-weaker}
use Rattle.clap.specs.Simple.{App, new_rule}
use Rattle.clap.specs.Walk.{rule_of}
use Rattle.cu_words.specs.Command.{option, or, required, trial_rules}
use Rattle.cu_words.proofs.CommandLemmas.{Made, more}
use Rattle.cu_words.proofs.command.trial_command.Goals as goal

-- the command with each argument added in turn
all : (c : goal.After-arg-4) → IfOk c.arg-4.result (Made (codes "trial") trial_rules)
all c =
    let none : Made (codes "trial") [] c.new.result = record { app = c.new.ensures.app; local = c.new.ensures.local } in
    let depth_added = more (required (new_rule (codes "N"))) c.required.result none
    (ap rule_of c.required.ensures ∙ ap required c.new-2.ensures.rule) (ap (λ a. a.global) c.required.ensures ∙ c.new-2.ensures.optional.1) c.in_ok-arg.ensures in
    let workers_added = more (option (codes "workers")) c.option.result depth_added c.option.ensures.rule c.option.ensures.local c.in_ok-arg-2.ensures in
    let width_added = more (or (option (codes "width")) (codes "65536")) c.default_value.result workers_added
    (ap rule_of c.default_value.ensures ∙ ap (λ r. or r (codes "65536")) c.option-2.ensures.rule) (ap (λ a. a.global) c.default_value.ensures ∙ c.option-2.ensures.local) c.in_ok-arg-3.ensures in
    IfOk-weaker c.arg-4.result _ _ (λ made adds. more (or (option (codes "stride")) (codes "1")) c.default_value-2.result width_added
    (ap rule_of c.default_value-2.ensures ∙ ap (λ r. or r (codes "1")) c.option-3.ensures.rule) (ap (λ a. a.global) c.default_value-2.ensures ∙ c.option-3.ensures.local) adds) c.arg-4.ensures

pub returns-clause-shape : goal.returns-clause-shape
returns-clause-shape c = IfOk-weaker c.arg-4.result _ _ (λ made is. ap (λ (app : App). app.top) is.app) (all c)

pub returns-clause-local : goal.returns-clause-local
returns-clause-local c = IfOk-weaker c.arg-4.result _ _ (λ made is. is.local) (all c)
