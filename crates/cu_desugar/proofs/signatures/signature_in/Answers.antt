use Rattle.std.proofs.Common.{◌∙◌, ap, map, subst, sym}
use Rattle.std.specs.List.{list_any}
use Rattle.std.specs.Str.{bytes_eq}
use Rattle.cu_names.specs.Texts.{text_of}
use Rattle.cu_syntax.specs.Declarations.{declaration_meaning, declaration_node}
use Rattle.cu_syntax.specs.Names.{name_meaning}
use Rattle.cu_syntax.specs.Owners.{DeclarationNodeIsOf}
use Rattle.cu_syntax.specs.Syntax.{Name}
use Rattle.cu_syntax.specs.Types.{type_meaning}
use Rattle.cu_translation.specs.LocalFunctions.{signature_in}
use Rattle.cu_desugar.proofs.SignatureLemmas.{among, found_here, has_text, not_here}
use Rattle.cu_desugar.proofs.signatures.signature_in.Goals as goal

pub returns-then-has_text : goal.returns-then-has_text
returns-then-has_text c t known of =
    let own = subst (DeclarationNodeIsOf t.owner t.names) c.in-Signature.is (c.in_ok-names.ensures.owned t.owner t.names of) in
    let text = text_of t.names c.args.name in
    let xs = c.in-Signature.names.items in
    let here = list_any (λ (x : Name). bytes_eq x.text text) (map (name_meaning t.names) xs) in
    found_here t c.has_text.result here c.in-Signature.declared (signature_in text (declaration_meaning t.names c.args.d)) c.if-has_text.true
    (c.has_text.ensures ∙ ap (has_text c.args.name) c.as_slice.ensures.value ∙ among t c.args.name xs known own.1) own.2
    (ap (signature_in text) (sym (ap (declaration_node t.names) c.in-Signature.is) ∙ c.in_ok-names.ensures.meaning t.names))

pub returns-else-has_text : goal.returns-else-has_text
returns-else-has_text c t known of =
    let own = subst (DeclarationNodeIsOf t.owner t.names) c.in-Signature.is (c.in_ok-names.ensures.owned t.owner t.names of) in
    let text = text_of t.names c.args.name in
    let xs = c.in-Signature.names.items in
    let here = list_any (λ (x : Name). bytes_eq x.text text) (map (name_meaning t.names) xs) in
    not_here t c.has_text.result here (type_meaning t.names c.in-Signature.declared) (signature_in text (declaration_meaning t.names c.args.d)) c.if-has_text.false
    (c.has_text.ensures ∙ ap (has_text c.args.name) c.as_slice.ensures.value ∙ among t c.args.name xs known own.1)
    (ap (signature_in text) (sym (ap (declaration_node t.names) c.in-Signature.is) ∙ c.in_ok-names.ensures.meaning t.names))
