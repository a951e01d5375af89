use Rattle.std.proofs.Common.{◌≡◌, ◌∙◌, sym, ap, Some}
use Rattle.std.specs.Option.{option_map}
use Rattle.cu_lex.specs.Inside.Items.{capped, item_scan}
use Rattle.cu_lex.specs.Inside.Scanning.{later, left}
use Rattle.cu_lex.proofs.LiteralLemmas.{char-value, char-fault, same-char}
use Rattle.cu_lex.proofs.literal.char_literal.Goals as goal

pub returns-in-Some-from_u32 : goal.returns-in-Some-from_u32
returns-in-Some-from_u32 c =
    let found : Some (Some c.in-Some-code.code, left c.in-Some.item.end) ≡ option_map capped (item_scan 39 (later (left c.args.start))) =
    ap (λ code. Some (code, left c.in-Some.item.end)) (sym c.in-Some-code.is) ∙ c.in-Some.ensures ∙ ap (λ t. option_map capped (item_scan 39 t)) c.after-inside.ensures.left in
    char-value (later (left c.args.start)) (left c.in-Some.item.end) (left c.after.result) c.in-Some-code.code c.in-Some-from_u32.c found c.in-Some-from_u32.ensures.value.0 c.in-Some-from_u32.ensures.value.1
    (sym c.peek.ensures ∙ same-char c.peek.result 39 c.ne.result c.ne.ensures c.if-ne.false) c.after.ensures.left

pub returns-in-None : goal.returns-in-None
returns-in-None c =
    let found : Some (Some c.in-Some-code.code, left c.in-Some.item.end) ≡ option_map capped (item_scan 39 (later (left c.args.start))) =
    ap (λ code. Some (code, left c.in-Some.item.end)) (sym c.in-Some-code.is) ∙ c.in-Some.ensures ∙ ap (λ t. option_map capped (item_scan 39 t)) c.after-inside.ensures.left in
    char-fault (later (left c.args.start)) (left c.in-Some.item.end) (left c.after-inside.result) c.in-Some-code.code found c.in-None.ensures.value
    (sym c.peek.ensures ∙ same-char c.peek.result 39 c.ne.result c.ne.ensures c.if-ne.false) c.after-inside.ensures.left
