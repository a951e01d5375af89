use Rattle.std.proofs.Common.{◌∙◌, refl, subst, sym}
use Rattle.std.proofs.lemmas.List.Elements.{All-get_or}
use Rattle.cu_names.specs.Texts.{text_of}
use Rattle.cu_syntax.specs.Declarations.{declaration_meaning, declarations_meaning}
use Rattle.cu_syntax.specs.Owners.{DeclarationIsOf}
use Rattle.cu_syntax.specs.declared.declarations.Declaration.{Declaration}
use Rattle.cu_translation.specs.LocalFunctions.{signature_in, signature_of}
use Rattle.cu_desugar.specs.Inside.Signatures.{IsSignature}
use Rattle.cu_desugar.proofs.SignatureLemmas.{found_in, not_in, not_in_block}
use Rattle.cu_desugar.proofs.signatures.signature.Goals as goal

pub loop-d-init : goal.loop-d-init
loop-d-init c t known all = refl

pub returns-then-is_some : goal.returns-then-is_some
returns-then-is_some c t known all =
    let ds = c.args.block.now in
    let i = c.loop-d.d-index in
    let d = c.d-item.result in
    let P = DeclarationIsOf t.owner t.names in
    let text = text_of t.names c.args.name in
    let of = subst P (sym c.d-item.is) (All-get_or P ds i d c.loop-d-test.true all) in
    found_in t text ds i d c.in_ok-found.found (signature_of text (declarations_meaning t.names ds)) c.loop-d-test.true (sym c.is_some.ensures ∙ c.if-is_some.true)
    (subst (λ (x : Declaration). IsSignature t (signature_in text (declaration_meaning t.names x)) c.in_ok-found.found) c.d-item.is (c.in_ok-found.ensures t known of))
    (c.loop-d.invariant t known all)

pub loop-d-preserved : goal.loop-d-preserved
loop-d-preserved c t known all =
    let ds = c.args.block.now in
    let i = c.loop-d.d-index in
    let d = c.d-item.result in
    let P = DeclarationIsOf t.owner t.names in
    let text = text_of t.names c.args.name in
    let of = subst P (sym c.d-item.is) (All-get_or P ds i d c.loop-d-test.true all) in
    not_in t text ds i d c.in_ok-found.found (signature_of text (declarations_meaning t.names ds)) c.loop-d-test.true (sym c.is_some.ensures ∙ c.if-is_some.false)
    (subst (λ (x : Declaration). IsSignature t (signature_in text (declaration_meaning t.names x)) c.in_ok-found.found) c.d-item.is (c.in_ok-found.ensures t known of))
    (c.loop-d.invariant t known all)

pub returns : goal.returns
returns c t known all =
    let ds = c.args.block.now in
    let text = text_of t.names c.args.name in
    not_in_block t text ds c.loop-d.d-index (signature_of text (declarations_meaning t.names ds)) c.loop-d-test.false (c.loop-d.invariant t known all)
