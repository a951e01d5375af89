use Rattle.std.proofs.Common.{◌∙◌, ℕ, List, Option, ap, sym}
use Rattle.std.specs.Option.{option_map}
use Rattle.cu_names.specs.Texts.{text_of}
use Rattle.cu_syntax.specs.Syntax.{TypeTerm}
use Rattle.cu_translation.specs.Parts.{signature_of}
use Rattle.cu_translation.specs.TypeTable.{signature_type}
use Rattle.cu_toplevel.proofs.NameLemmas.{stands}
use Rattle.cu_toplevel.proofs.TopLemmas.{id_is}
use Rattle.cu_toplevel.proofs.function_marks.function_mark.Goals as goal

pub returns : goal.returns
returns c = λ names r is own signed.
    let h = c.args.head in
    let owner = c.args.reading.now.module.now.name in
    let text = text_of names h.name in
    let number = sym is.number in
    let public = c.is_public.ensures names r text is (sym (id_is names h.name text is.top.entities.differ (stands names h.name own.name))) in
    let told : List ℕ → Option TypeTerm = λ text. signature_of text r.m.syntax.items in
    let declared = c.in_ok-declared.ensures owner names r.names is.top (c.find.ensures.owned owner names told own.name signed)
    ∙ ap (option_map (signature_type r.names)) (c.find.ensures.meaning owner names told own.name signed) in
    let place = own.place ∙ sym is.owner in
    λ j. record {
      «module» = number j;
      public = public j;
      declared = declared j;
      captured = 0;
      place = record { «module» = place j; line = h.place.line; column = h.place.column };
    }
