use Rattle.std.proofs.Common.{◌∙◌, ap, map, rules}
use Rattle.std.proofs.lemmas.Int.{to_z-of_z}
use mir.Syntax.{w128}
use mir.Val.{SFits}
use Rattle.cu_translation.specs.PatternTable.{character_pattern}
use Rattle.cu_forms.specs.Inside.PatternParts.{list_form, number_form}
use Rattle.cu_forms.proofs.CallLemmas.{if_ok}
use Rattle.cu_forms.proofs.PatternLemmas.{character_form_is, number_form_is, string_form_is}
use Rattle.cu_forms.proofs.pattern_parts.literal_pattern.Goals as goal

pub returns-in-Int : goal.returns-in-Int
returns-in-Int g c w tells =
    let in_range : SFits w128 c.in-Int.value = search rules in
    c.number_pattern.ensures ∙ ap number_form (to_z-of_z w128 c.in-Int.value in_range) ∙ number_form_is w.around.names c.args.found c.in-Int.value c.in-Int.is

pub returns-in-Char : goal.returns-in-Char
returns-in-Char g c w tells = character_form_is w.around.names c.args.found c.in-Char.character c.in-Char.is

pub returns-in_ok-character_patterns-in-String : goal.returns-in_ok-character_patterns-in-String
returns-in_ok-character_patterns-in-String g c w tells =
    if_ok c.list_pattern.result
    (λ t e. e ∙ ap (list_form w.around.names) (c.in_ok-character_patterns-in-String.ensures ∙ ap (map character_pattern) c.as_slice.ensures)
    ∙ string_form_is w.around.names c.args.found c.in-String.text c.in-String.is)
    (c.list_pattern.ensures w tells)
