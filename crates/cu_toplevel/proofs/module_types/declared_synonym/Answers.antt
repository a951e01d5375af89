use Rattle.std.proofs.Common.{◌∙◌, map, sym}
use Rattle.std.proofs.lemmas.List.{length-map}
use Rattle.cu_kernel.specs.TypesOf.{type_of}
use Rattle.cu_names.specs.Texts.{text_of}
use Rattle.cu_syntax.specs.Names.{name_meaning}
use Rattle.cu_syntax.specs.Types.{type_meaning}
use Rattle.cu_toplevel.proofs.ModuleTypeLemmas.{synonym_is}
use Rattle.cu_toplevel.proofs.ReadingLemmas.{number_known, under_table}
use Rattle.cu_toplevel.proofs.module_types.declared_synonym.Goals as goal

pub returns : goal.returns
returns c = λ owner names r has own parameters is.
    let id = c.args.name.text in
    let text = text_of names id in
    let known = number_known names id has.top.entities.differ own.text in
    synonym_is r c.args.reading.now.number id (name_meaning names c.args.name) (map (name_meaning names) c.args.parameters.now) (type_meaning names c.args.t) c.in_ok-arity.arity c.is_public.result (type_of c.in_ok-body.body)
    (under_table names r id text has.table known) has.number (c.is_public.ensures names r text has known)
    (c.in_ok-arity.ensures ∙ sym (length-map c.args.parameters.now (name_meaning names))) (c.in_ok-body.ensures owner names r.names has.top parameters is)
