use Rattle.std.proofs.Common.{◌≡◌, ◌∙◌, [], ap, length, refl}
use Rattle.std.proofs.lemmas.List.Elements.{All-nil}
use Rattle.cu_kernel.specs.LocalKernel.{Rules}
use Rattle.cu_locals.specs.Entries.{AreEntries, EntryIsKnown}
use Rattle.cu_toplevel.proofs.ReadingLemmas.{number_known}
use Rattle.cu_translation.specs.Functions.{around_group}
use Rattle.cu_desugar.specs.Inside.Texts.{function_in, nodes_in}
use Rattle.cu_desugar.proofs.FunctionLemmas.{counted, scope_seen}
use Rattle.cu_desugar.proofs.functions.top_function.Goals as goal

pub returns : goal.returns
returns c t names top is =
    let a = around_group names (function_in t c.args.text.now) in
    let first = c.args.text.now.group.first in
    let around = c.around-around.ensures t names top is in
    let none : AreEntries t [] [] = record { meaning = refl; known = All-nil (EntryIsKnown t) } in
    let sees = scope_seen t a [] [] [] c.outermost-scope.result none refl c.outermost-scope.ensures in
    let named = number_known t.names first.name.text t.differ is.owned.first.name.text in
    let size : c.len.result ≡ length first.parameters.items = c.len.ensures ∙ first.parameters.ok.0 in
    let many = c.in_ok-arity.ensures ∙ size ∙ counted t.names first.parameters.items in
    let ruled = ap Rules (c.in_ok-rules.ensures t a [] around sees is.owned) in
    let locals = c.in_ok-locals.ensures t a (nodes_in t c.args.text.now) around is.stands in
    λ j. record { name = named j; arity = many j; body = ruled j; locals = locals j }
