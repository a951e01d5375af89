use Rattle.std.proofs.Common.{◌∙◌, Some, ap, sym}
use Rattle.cu_translation.specs.ModuleNames.{id_of}
use Rattle.cu_toplevel.proofs.externals.mark.Goals as goal

pub returns : goal.returns
returns c = λ names r is.
    let text = c.args.text.now in
    let number = sym is.number in
    let name = c.number_of-name.ensures text c.named.ensures ∙ ap (λ table. id_of table text) is.top.table in
    let public = c.is_public.ensures names r text is name in
    let declared = c.in_ok-declared.ensures names r.names is.top in
    let owner = c.owner.ensures names r.names is.top in
    λ j. record {
      «module» = number j;
      public = public j;
      declared = Some (declared j);
      captured = 0;
      place = record { «module» = owner j; line = 1; column = 1 };
    }
