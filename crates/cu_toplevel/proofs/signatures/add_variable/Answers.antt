use Rattle.std.proofs.Common.{◌∙◌, ap}
use Rattle.std.specs.List.{list_any}
use Rattle.std.specs.Prelude.{nat_eq}
use Rattle.cu_syntax.specs.declared.name.Name.{Name}
use Rattle.cu_toplevel.proofs.SignatureLemmas.{among_is, new_name, there_already}
use Rattle.cu_toplevel.proofs.signatures.add_variable.Goals as goal

pub returns-then-has_text : goal.returns-then-has_text
returns-then-has_text c = λ owner table differ own.
    let id = c.args.name.text in
    there_already owner table c.args.variables.now.items c.args.name c.has_text.result c.if-has_text.true
    (λ all. c.has_text.ensures ∙ ap (list_any (λ (name : Name). nat_eq name.text.0 id.0)) c.as_slice.ensures.value ∙ among_is owner table c.args.variables.now.items id differ own.text all)

pub returns : goal.returns
returns c = λ owner table differ own.
    let id = c.args.name.text in
    new_name owner table c.args.variables.now.items c.push.new.self.items c.args.name c.has_text.result c.if-has_text.false c.in_ok-push.ensures.items own
    (λ all. c.has_text.ensures ∙ ap (list_any (λ (name : Name). nat_eq name.text.0 id.0)) c.as_slice.ensures.value ∙ among_is owner table c.args.variables.now.items id differ own.text all)
