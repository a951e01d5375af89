use Rattle.std.proofs.Common.{◌≡◌, ◌∙◌, ap, arith, length, sym}
use Rattle.cu_kernel.specs.TermsOf.{pattern_of}
use Rattle.cu_forms.specs.Inside.PatternParts.{first_pattern}
use Rattle.cu_forms.proofs.PatternLemmas.{nothing_on_stack, top_of}
use Rattle.cu_forms.proofs.pattern_parts.top.Goals as goal

pub returns-in-Some : goal.returns-in-Some
returns-in-Some c = ap first_pattern (sym (top_of pattern_of c.pop.new.self.items c.args.stack.items c.in-Some.whole c.in-Some.ensures.items))

pub returns : goal.returns
returns c =
    let empty : length c.args.stack.items ≡ 0 = omega (arith, c.in-None.ensures.cases.0) in
    c.no_pattern.ensures ∙ nothing_on_stack c.args.stack.items empty
