use Rattle.std.proofs.Common.{◌≡◌, ◌∙◌, ◌<◌, Option, arith, rules, List, ap, ap₂, length, map, sym, subst}
use Rattle.std.specs.declared.alloc.Global.{Global}
use Rattle.std.specs.declared.vec.Vec.{Vec}
use Rattle.cu_fixity.specs.declared.part.Part.{Part}
use Rattle.cu_syntax.specs.declared.patterns.Pattern.{Pattern}
use Rattle.std.proofs.lemmas.Int.{to_z-of_z}
use Rattle.std.proofs.lemmas.List.{length-map}
use Rattle.std.proofs.lemmas.List.Elements.{All-get_or}
use Rattle.std.specs.List.{All}
use Rattle.std.specs.Prelude.{IfSome, neg_ℤ}
use mir.Syntax.{w128}
use mir.Val.{SFits}
use denote.Param.Weighed.{most}
use Rattle.cu_calculus.specs.Term as calculus
use Rattle.cu_fixity.specs.Owners.{PartIsOf, part_size}
use Rattle.cu_kernel.specs.TermsOf.{pattern_of, pattern_of-Alias, pattern_of-Var}
use Rattle.cu_syntax.proofs.Elements.{largest}
use Rattle.cu_syntax.specs.Names.{name_meaning}
use Rattle.cu_syntax.specs.declared.patterns.PatternNode.TheVariants as node
use Rattle.cu_syntax.specs.Owners.{PatternIsOf, PatternNodeIsOf}
use Rattle.cu_syntax.specs.Smaller.{pat_items_size, pattern_size}
use Rattle.cu_translation.specs.Around.{tuple_name}
use Rattle.cu_translation.specs.Terms.{constructor_of}
use Rattle.cu_forms.specs.Forms.{binders_meaning, pattern_form}
use Rattle.cu_forms.specs.Inside.PatternParts.{item_meaning, list_form, number_form, operators_form, part_item, placed_pattern}
use Rattle.cu_forms.proofs.CallLemmas.{if_ok, pushed_all, pushed_one}
use Rattle.cu_forms.proofs.PatternLemmas.{built_on, formed}
use Rattle.cu_forms.proofs.pattern_forms.+patterns.Goals as goal

pub patterns-pattern-requires : goal.patterns-pattern-requires
patterns-pattern-requires g t c = λ κs e. (search (rules, largest pattern_size c.args.ps.now c.loop-p.p-index, c.loop-p-test.true), search (rules, e))

pub patterns-loop-p-preserved : goal.patterns-loop-p-preserved
patterns-loop-p-preserved g t c w tells all =
    let P = PatternIsOf w.owner w.names in
    let f = pattern_form w (binders_meaning c.args.binders) in
    let i = c.loop-p.p-index in
    let x = c.p-item.result in
    let of = subst P (sym c.p-item.is) (All-get_or P c.args.ps.now i x c.loop-p-test.true all) in
    pushed_one pattern_of f c.args.ps.now i x c.loop-p.found.items c.push.new.self.items c.in_ok-pattern.field-0 (map f c.args.ps.now) c.loop-p-test.true
    c.in_ok-push.ensures.items (c.in_ok-pattern.ensures w tells of ∙ ap f c.p-item.is) (c.loop-p.invariant w tells all)

pub patterns-returns : goal.patterns-returns
patterns-returns g t c w tells all =
    pushed_all pattern_of (pattern_form w (binders_meaning c.args.binders)) c.args.ps.now c.loop-p.p-index c.loop-p.found.items
    (map (pattern_form w (binders_meaning c.args.binders)) c.args.ps.now) c.loop-p-test.false (c.loop-p.invariant w tells all)

pub parts-part-requires : goal.parts-part-requires
parts-part-requires g t c = λ κs e. (search (rules, largest (part_size pattern_size) c.args.ordered.now c.loop-one.one-index, c.loop-one-test.true), search (rules, e))

pub parts-loop-one-preserved : goal.parts-loop-one-preserved
parts-loop-one-preserved g t c w tells all =
    let P = PartIsOf PatternIsOf w.owner w.names in
    let f = part_item w (binders_meaning c.args.binders) in
    let i = c.loop-one.one-index in
    let x = c.one-item.result in
    let of = subst P (sym c.one-item.is) (All-get_or P c.args.ordered.now i x c.loop-one-test.true all) in
    pushed_one item_meaning f c.args.ordered.now i x c.loop-one.found.items c.push.new.self.items c.in_ok-part.field-0 (map f c.args.ordered.now) c.loop-one-test.true
    c.in_ok-push.ensures.items (c.in_ok-part.ensures w tells of ∙ ap f c.one-item.is) (c.loop-one.invariant w tells all)

pub parts-returns : goal.parts-returns
parts-returns g t c w tells all =
    pushed_all item_meaning (part_item w (binders_meaning c.args.binders)) c.args.ordered.now c.loop-one.one-index c.loop-one.found.items
    (map (part_item w (binders_meaning c.args.binders)) c.args.ordered.now) c.loop-one-test.false (c.loop-one.invariant w tells all)

pub operators-parts-requires : goal.operators-parts-requires
operators-parts-requires g t c =
    let n = pat_items_size c.args.items.now in
    let some = subst (λ (o : Option (Vec (Part Pattern) Global)). IfSome o (λ parts. most (part_size pattern_size) parts.items < n)) c.in-Some.is c.in_ok-ordered.ensures.smaller in
    let small : most (part_size pattern_size) c.as_slice.result.now < n = subst (λ (xs : List (Part Pattern)). most (part_size pattern_size) xs < n) (sym c.as_slice.ensures.value) some in
    λ κs e. (search (rules, small), search (rules, e))

pub operators-returns-in_ok-found-in-Some : goal.operators-returns-in_ok-found-in-Some
operators-returns-in_ok-found-in-Some g t c w tells of =
    let b = binders_meaning c.args.binders in
    let P = PartIsOf PatternIsOf w.owner w.names in
    let owned = subst (λ (o : Option (Vec (Part Pattern) Global)). IfSome o (λ parts. All P parts.items)) c.in-Some.is (c.in_ok-ordered.ensures.owned w.owner w.names of) in
    let all = subst (All P) (sym c.as_slice.ensures.value) owned in
    let some = subst (λ (o : Option (Vec (Part Pattern) Global)). IfSome o (λ parts. placed_pattern (map (part_item w b) parts.items) ≡ operators_form w b c.args.items.now)) c.in-Some.is
    (c.in_ok-ordered.ensures.some w b tells of) in
    if_ok c.grouped_pattern.result
    (λ q e. e ∙ ap placed_pattern (c.in_ok-found-in-Some.ensures w tells all ∙ ap (map (part_item w b)) c.as_slice.ensures.value) ∙ some)
    c.grouped_pattern.ensures

pub pattern-returns-in-Variable : goal.pattern-returns-in-Variable
pattern-returns-in-Variable g t c w tells is =
    let b = binders_meaning c.args.binders in
    pattern_of-Var c.variable.result ∙ ap calculus.Any (c.variable.ensures w tells)
    ∙ formed w b c.args.p c.in_ok-name.field-0 (node.Variable c.in-Variable.name) (c.in_ok-name.ensures.meaning w.names) c.in-Variable.is

pub pattern-returns-in_ok-boxed-in-Alias : goal.pattern-returns-in_ok-boxed-in-Alias
pattern-returns-in_ok-boxed-in-Alias g t c w tells is =
    let b = binders_meaning c.args.binders in
    let of = subst (PatternNodeIsOf w.owner w.names) c.in-Alias.is (c.in_ok-name.ensures.owned w.owner w.names is) in
    pattern_of-Alias c.variable-in-Alias.result c.in_ok-boxed-in-Alias.boxed
    ∙ ap₂ calculus.Named (c.variable-in-Alias.ensures w tells) (ap pattern_of c.in_ok-boxed-in-Alias.ensures.ok ∙ c.in_ok-whole-in-Alias.ensures w tells of.1)
    ∙ formed w b c.args.p c.in_ok-name.field-0 (node.Alias c.in-Alias.name c.in-Alias.inner) (c.in_ok-name.ensures.meaning w.names) c.in-Alias.is

pub pattern-returns-in-Wildcard : goal.pattern-returns-in-Wildcard
pattern-returns-in-Wildcard g t c w tells is =
    let b = binders_meaning c.args.binders in
    pattern_of-Var c.variable-in-Wildcard.result ∙ ap calculus.Any (c.variable-in-Wildcard.ensures w tells)
    ∙ formed w b c.args.p c.in_ok-name.field-0 (node.Wildcard c.in-Wildcard.place) (c.in_ok-name.ensures.meaning w.names) c.in-Wildcard.is

pub pattern-returns-in-Literal : goal.pattern-returns-in-Literal
pattern-returns-in-Literal g t c w tells is =
    let b = binders_meaning c.args.binders in
    if_ok c.literal_pattern.result
    (λ q e. e ∙ formed w b c.args.p c.in_ok-name.field-0 (node.Literal c.in-Literal.field-0 c.in-Literal.found) (c.in_ok-name.ensures.meaning w.names) c.in-Literal.is)
    (c.literal_pattern.ensures w tells)

pub pattern-returns-in-Negative : goal.pattern-returns-in-Negative
pattern-returns-in-Negative g t c w tells is =
    let b = binders_meaning c.args.binders in
    let given : SFits w128 c.in-Negative.value = search rules in
    if_ok c.negative.result
    (λ q e. e ∙ ap (λ n. number_form (neg_ℤ n)) (to_z-of_z w128 c.in-Negative.value given)
    ∙ formed w b c.args.p c.in_ok-name.field-0 (node.Negative c.in-Negative.field-0 c.in-Negative.value) (c.in_ok-name.ensures.meaning w.names) c.in-Negative.is)
    c.negative.ensures

pub pattern-returns-in_ok-inner-in-Constructed : goal.pattern-returns-in_ok-inner-in-Constructed
pattern-returns-in_ok-inner-in-Constructed g t c w tells is =
    let b = binders_meaning c.args.binders in
    let of = subst (PatternNodeIsOf w.owner w.names) c.in-Constructed.is (c.in_ok-name.ensures.owned w.owner w.names is) in
    let all = subst (All (PatternIsOf w.owner w.names)) (sym c.as_slice.ensures.value) of.2 in
    built_on c.constructor_of.result c.in_ok-inner-in-Constructed.inner (w.around.names.value (name_meaning w.names c.in-Constructed.name)) (map (pattern_form w b) c.in-Constructed.arguments.items)
    (c.constructor_of.ensures ∙ ap constructor_of (c.value.ensures w tells of.1)) (c.in_ok-inner-in-Constructed.ensures w tells all ∙ ap (map (pattern_form w b)) c.as_slice.ensures.value)
    ∙ formed w b c.args.p c.in_ok-name.field-0 (node.Constructed c.in-Constructed.field-0 c.in-Constructed.name c.in-Constructed.arguments) (c.in_ok-name.ensures.meaning w.names) c.in-Constructed.is

pub pattern-returns-in_ok-inner-in-Tuple : goal.pattern-returns-in_ok-inner-in-Tuple
pattern-returns-in_ok-inner-in-Tuple g t c w tells is =
    let b = binders_meaning c.args.binders in
    let f = pattern_form w b in
    let of = subst (PatternNodeIsOf w.owner w.names) c.in-Tuple.is (c.in_ok-name.ensures.owned w.owner w.names is) in
    let all = subst (All (PatternIsOf w.owner w.names)) (sym c.as_slice-in-Tuple.ensures.value) of.1 in
    let same = c.in_ok-inner-in-Tuple.ensures w tells all ∙ ap (map f) c.as_slice-in-Tuple.ensures.value in
    let lengths : length c.in_ok-inner-in-Tuple.inner.items ≡ length c.in-Tuple.components.items =
    sym (length-map c.in_ok-inner-in-Tuple.inner.items pattern_of) ∙ ap length same ∙ length-map c.in-Tuple.components.items f in
    let size : c.len.result ≡ length c.in-Tuple.components.items = omega (arith, c.len.ensures, lengths) in
    built_on c.constructor_of-in-Tuple.result c.in_ok-inner-in-Tuple.inner (w.around.names.prelude (tuple_name (length c.in-Tuple.components.items))) (map f c.in-Tuple.components.items)
    (c.constructor_of-in-Tuple.ensures ∙ ap constructor_of (c.prelude.ensures w tells ∙ ap (λ n. w.around.names.prelude (tuple_name n)) size)) same
    ∙ formed w b c.args.p c.in_ok-name.field-0 (node.Tuple c.in-Tuple.field-0 c.in-Tuple.components) (c.in_ok-name.ensures.meaning w.names) c.in-Tuple.is

pub pattern-returns-in_ok-inner-in-List : goal.pattern-returns-in_ok-inner-in-List
pattern-returns-in_ok-inner-in-List g t c w tells is =
    let b = binders_meaning c.args.binders in
    let f = pattern_form w b in
    let of = subst (PatternNodeIsOf w.owner w.names) c.in-List.is (c.in_ok-name.ensures.owned w.owner w.names is) in
    let all = subst (All (PatternIsOf w.owner w.names)) (sym c.as_slice-in-List.ensures.value) of.1 in
    let same = c.in_ok-inner-in-List.ensures w tells all ∙ ap (map f) c.as_slice-in-List.ensures.value in
    if_ok c.list_pattern.result
    (λ q e. e ∙ ap (list_form w.around.names) same ∙ formed w b c.args.p c.in_ok-name.field-0 (node.List c.in-List.field-0 c.in-List.elements) (c.in_ok-name.ensures.meaning w.names) c.in-List.is)
    (c.list_pattern.ensures w tells)

pub pattern-returns-in-Operators : goal.pattern-returns-in-Operators
pattern-returns-in-Operators g t c w tells is =
    let b = binders_meaning c.args.binders in
    let of = subst (PatternNodeIsOf w.owner w.names) c.in-Operators.is (c.in_ok-name.ensures.owned w.owner w.names is) in
    if_ok c.operators.result
    (λ q e. e ∙ formed w b c.args.p c.in_ok-name.field-0 (node.Operators c.in-Operators.items) (c.in_ok-name.ensures.meaning w.names) c.in-Operators.is)
    (c.operators.ensures w tells of)
