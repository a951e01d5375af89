use Rattle.std.proofs.Common.{◌∙◌, ap, codes, [], IfOk}
use Rattle.std.proofs.lemmas.Result.{IfOk-weaker}
use Rattle.clap.specs.Simple.{App, new_rule}
use Rattle.clap.specs.Walk.{rule_of}
use Rattle.cu_words.specs.Command.{option, or, required, solve_rules}
use Rattle.cu_words.proofs.CommandLemmas.{Made, more}
use Rattle.cu_words.proofs.command.solve_command.Goals as goal

-- the command with each argument added in turn
all : (c : goal.After-arg-9) → IfOk c.arg-9.result (Made (codes "solve") solve_rules)
all c =
    let none : Made (codes "solve") [] c.new.result = record { app = c.new.ensures.app; local = c.new.ensures.local } in
    let module_added = more (required (new_rule (codes "MODULE"))) c.required.result none
    (ap rule_of c.required.ensures ∙ ap required c.new-2.ensures.rule) (ap (λ a. a.global) c.required.ensures ∙ c.new-2.ensures.optional.1) c.in_ok-arg.ensures in
    let goal_added = more (required (option (codes "goal"))) c.required-2.result module_added
    (ap rule_of c.required-2.ensures ∙ ap required c.option.ensures.rule) (ap (λ a. a.global) c.required-2.ensures ∙ c.option.ensures.local) c.in_ok-arg-2.ensures in
    let dir_added = more (or (option (codes "dir")) (codes ".")) c.default_value.result goal_added
    (ap rule_of c.default_value.ensures ∙ ap (λ r. or r (codes ".")) c.option-2.ensures.rule) (ap (λ a. a.global) c.default_value.ensures ∙ c.option-2.ensures.local) c.in_ok-arg-3.ensures in
    let workers_added = more (option (codes "workers")) c.option-3.result dir_added c.option-3.ensures.rule c.option-3.ensures.local c.in_ok-arg-4.ensures in
    let rounds_added = more (or (option (codes "rounds")) (codes "100000")) c.default_value-2.result workers_added
    (ap rule_of c.default_value-2.ensures ∙ ap (λ r. or r (codes "100000")) c.option-4.ensures.rule) (ap (λ a. a.global) c.default_value-2.ensures ∙ c.option-4.ensures.local) c.in_ok-arg-5.ensures in
    let answers_added = more (option (codes "answers")) c.option-5.result rounds_added c.option-5.ensures.rule c.option-5.ensures.local c.in_ok-arg-6.ensures in
    let nodes_added = more (or (option (codes "nodes")) (codes "1000000")) c.default_value-3.result answers_added
    (ap rule_of c.default_value-3.ensures ∙ ap (λ r. or r (codes "1000000")) c.option-6.ensures.rule) (ap (λ a. a.global) c.default_value-3.ensures ∙ c.option-6.ensures.local) c.in_ok-arg-7.ensures in
    let width_added = more (or (option (codes "width")) (codes "65536")) c.default_value-4.result nodes_added
    (ap rule_of c.default_value-4.ensures ∙ ap (λ r. or r (codes "65536")) c.option-7.ensures.rule) (ap (λ a. a.global) c.default_value-4.ensures ∙ c.option-7.ensures.local) c.in_ok-arg-8.ensures in
    IfOk-weaker c.arg-9.result _ _ (λ made adds. more (or (option (codes "stride")) (codes "1")) c.default_value-5.result width_added
    (ap rule_of c.default_value-5.ensures ∙ ap (λ r. or r (codes "1")) c.option-8.ensures.rule) (ap (λ a. a.global) c.default_value-5.ensures ∙ c.option-8.ensures.local) adds) c.arg-9.ensures

pub returns-clause-shape : goal.returns-clause-shape
returns-clause-shape c = IfOk-weaker c.arg-9.result _ _ (λ made is. ap (λ (app : App). app.top) is.app) (all c)

pub returns-clause-local : goal.returns-clause-local
returns-clause-local c = IfOk-weaker c.arg-9.result _ _ (λ made is. is.local) (all c)
