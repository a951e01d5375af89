use Rattle.std.proofs.Common.{◌∙◌, ap, map, rules}
use Rattle.std.proofs.lemmas.Int.{to_z-of_z}
use mir.Syntax.{w128}
use mir.Val.{SFits}
use Rattle.cu_translation.specs.Terms.{character}
use Rattle.cu_forms.specs.Inside.Lists.{list_term, number_term}
use Rattle.cu_forms.proofs.CallLemmas.{if_ok}
use Rattle.cu_forms.proofs.ListLemmas.{character_is, number_is, string_is}
use Rattle.cu_forms.proofs.lists.literal.Goals as goal

pub returns-in-Int : goal.returns-in-Int
returns-in-Int g c w tells =
    let in_range : SFits w128 c.in-Int.value = search rules in
    c.number.ensures ∙ ap number_term (to_z-of_z w128 c.in-Int.value in_range) ∙ number_is w.around.names c.args.found c.in-Int.value c.in-Int.is

pub returns-in-Char : goal.returns-in-Char
returns-in-Char g c w tells = character_is w.around.names c.args.found c.in-Char.character c.in-Char.is

pub returns-in_ok-characters-in-String : goal.returns-in_ok-characters-in-String
returns-in_ok-characters-in-String g c w tells =
    if_ok c.list.result
    (λ t e. e ∙ ap (list_term w.around.names) (c.in_ok-characters-in-String.ensures ∙ ap (map character) c.as_slice.ensures)
    ∙ string_is w.around.names c.args.found c.in-String.text c.in-String.is)
    (c.list.ensures w tells)
