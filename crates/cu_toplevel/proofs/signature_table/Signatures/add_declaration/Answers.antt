use Rattle.std.proofs.Common.{◌∙◌, ap, map, subst, sym}
use Rattle.std.specs.List.{All}
use Rattle.std.specs.Prelude.{OnOk}
use Rattle.cu_syntax.specs.Declarations.{declaration_meaning, declaration_node}
use Rattle.cu_syntax.specs.Names.{name_meaning}
use Rattle.cu_syntax.specs.Owners.{DeclarationNodeIsOf, NameIsOf}
use Rattle.cu_syntax.specs.Syntax.{Declaration}
use Rattle.cu_syntax.specs.Types.{type_meaning}
use Rattle.cu_toplevel.specs.Inside.SignatureTables.{AreSignatures, and_several}
use Rattle.cu_translation.specs.LocalFunctions.{or_else, signature_in}
use Rattle.cu_toplevel.proofs.SignatureTableLemmas.{nothing_more, other_declaration}
use Rattle.cu_toplevel.proofs.signature_table.Signatures.add_declaration.Goals as goal

pub returns-in-Signature : goal.returns-in-Signature
returns-in-Signature c = λ owner names told differ owned has.
    let own = subst (DeclarationNodeIsOf owner names) c.in-Signature.is (c.in_ok-functions.ensures.owned owner names owned) in
    let all = subst (All (NameIsOf owner names)) (sym c.as_slice.ensures.value) own.1 in
    subst (λ (d : Declaration). OnOk c.add_all.result (AreSignatures owner names (λ text. or_else (told text) (signature_in text d)) c.add_all.new.self))
    (sym (ap (declaration_node names) c.in-Signature.is) ∙ c.in_ok-functions.ensures.meaning names)
    (subst (λ functions. OnOk c.add_all.result (AreSignatures owner names (and_several (map (name_meaning names) functions) (type_meaning names c.in-Signature.declared) told) c.add_all.new.self))
    c.as_slice.ensures.value (c.add_all.ensures owner names told differ all own.2 has))

pub returns : goal.returns
returns c = λ owner names told differ owned has.
    let d = declaration_meaning names c.args.declaration in
    nothing_more owner names told (λ text. signature_in text d) c.args.self.now
    (λ text. other_declaration names d c.in_ok-functions.field-0 text (c.in_ok-functions.ensures.meaning names) c.in_default.not-Signature) has
