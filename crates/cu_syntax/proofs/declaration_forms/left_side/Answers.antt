-- Parentheses put the parameters after them off, until what is inside has been read.
use Rattle.std.proofs.Common.{rules, ◌≡◌, [], ap, arith, refl, subst, sym, true, ◌∙◌}
use Rattle.std.specs.List.{All}
use Rattle.std.proofs.lemmas.List.Elements.{All-nil, All-pop, All-push}
use Rattle.std.proofs.lemmas.List.{nil_from_length}
use denote.Enum.Bare.{sameb, same_true}
use Rattle.cu_syntax.specs.contracts.symbol.Symbol as symbols
use Rattle.cu_syntax.specs.declared.subtree.Subtree.{Subtree}
use Rattle.cu_syntax.specs.declared.symbol.Symbol.TheVariants as symbol
use Rattle.cu_syntax.specs.Declarations.{left_meaning}
use Rattle.cu_syntax.specs.Forms.{is_left_side}
use Rattle.cu_syntax.specs.Reading.{left_as, left_choice}
use Rattle.cu_syntax.specs.SubtreeMeaning.{tree_of}
use Rattle.cu_syntax.specs.Owners.{IsOf}
use Rattle.cu_syntax.proofs.DeclarationLemmas.{has_part, left_bare, left_begun, left_choices, left_done, left_inside, left_outside, left_taken}
use Rattle.cu_syntax.proofs.ShapeLemmas.{never}
use Rattle.cu_syntax.proofs.OwnerLemmas.{all_popped, none_yet, one_more}
use Rattle.cu_syntax.proofs.declaration_forms.left_side.Goals as goal

abbrev HasArguments : Subtree → Type 0
HasArguments part = part.symbol ≡ symbol.PatArguments

pub chosen-inner-requires : goal.chosen-inner-requires
chosen-inner-requires c = left_choices c.args.tree.symbol c.requires

pub loop-inner-init : goal.loop-inner-init
loop-inner-init c =
    let inner = c.chosen-inner.result in
    record {
      left = (left_taken c.args.tree.symbol (tree_of [] c.args.tree) inner.symbol (tree_of [] inner) c.requires (c.args.tree.fits []) (c.chosen-inner.ensures.tree [])).is_left;
      arguments = subst (All HasArguments) (sym c.new-further.ensures.items) (All-nil HasArguments);
      further = λ owner names of. none_yet (IsOf owner names) c.new-further.result.items c.new-further.ensures.items;
      owned = λ owner names of. c.chosen-inner.ensures.owned owner names of;
      whole = λ names.
          let tree = tree_of names c.args.tree in
          left_begun names c.new-further.result.items (left_as inner.symbol (tree_of names inner)) (left_choice c.args.tree.symbol tree) c.new-further.ensures.items
          (left_taken c.args.tree.symbol tree inner.symbol (tree_of names inner) c.requires (c.args.tree.fits names) (c.chosen-inner.ensures.tree names)).same;
    }

pub part-requires : goal.part-requires
part-requires c = has_part c.loop-inner.inner.symbol symbol.ParenthesizedLhs 3 symbol.PatArguments (same_true symbols.the_type tt c.loop-inner.inner.symbol symbol.ParenthesizedLhs c.loop-inner-test.true) refl

pub loop-inner-preserved : goal.loop-inner-preserved
loop-inner-preserved c =
    let at = c.loop-inner in
    let outer = at.inner in
    let first = c.part-in-loop-inner.result in
    let inner = c.chosen-inner-in-loop-inner.result in
    let is = same_true symbols.the_type tt outer.symbol symbol.ParenthesizedLhs c.loop-inner-test.true in
    let side : is_left_side first.symbol ≡ true = ap is_left_side c.part-in-loop-inner.ensures.symbol in
    record {
      left = (left_taken first.symbol (tree_of [] first) inner.symbol (tree_of [] inner) side (first.fits []) (c.chosen-inner-in-loop-inner.ensures.tree [])).is_left;
      arguments = subst (All HasArguments) (sym c.in_ok-push.ensures.items) (All-push HasArguments at.further.items c.part.result at.invariant.arguments c.part.ensures.symbol);
      further = λ owner names of.
          one_more (IsOf owner names) at.further.items c.push.new.self.items c.part.result c.in_ok-push.ensures.items (at.invariant.further owner names of)
          (c.part.ensures.owned owner names (at.invariant.owned owner names of));
      owned = λ owner names of. c.chosen-inner-in-loop-inner.ensures.owned owner names (c.part-in-loop-inner.ensures.owned owner names (at.invariant.owned owner names of));
      whole = λ names.
          left_inside names outer.symbol first.symbol (tree_of names outer) (tree_of names first) (tree_of names inner) inner.symbol c.part.result at.further.items c.push.new.self.items
          (left_choice c.args.tree.symbol (tree_of names c.args.tree)) is (outer.fits names) (c.part.ensures.tree names) (c.part-in-loop-inner.ensures.tree names) c.part-in-loop-inner.ensures.symbol
          (left_taken first.symbol (tree_of names first) inner.symbol (tree_of names inner) side (first.fits names) (c.chosen-inner-in-loop-inner.ensures.tree names)).same c.in_ok-push.ensures.items
          (at.invariant.whole names);
    }

pub bare_left_side-requires : goal.bare_left_side-requires
bare_left_side-requires c =
    let at = c.loop-inner in
    left_bare at.inner.symbol (λ same. never (sym c.loop-inner-test.false ∙ ap (λ s. sameb symbols.the_type s symbol.ParenthesizedLhs) same)) at.invariant.left

pub loop-arguments-preserved : goal.loop-arguments-preserved
loop-arguments-preserved c =
    let at = c.loop-arguments in
    let split = All-pop HasArguments at.further.items c.pop.new.self.items c.pop.result c.pop.ensures.items at.invariant.arguments in
    record {
      arguments = split.0;
      further = λ owner names of.
          (all_popped (IsOf owner names) at.further.items c.pop.new.self.items c.in-Some.arguments c.in-Some.ensures.items (at.invariant.further owner names of)).0;
      owned = λ owner names of.
          c.in_ok-left-2.ensures.owned owner names (at.invariant.owned owner names of)
          (c.in_ok-all.ensures.owned owner names (all_popped (IsOf owner names) at.further.items c.pop.new.self.items c.in-Some.arguments c.in-Some.ensures.items (at.invariant.further owner names of)).1);
      whole = λ names.
          left_outside names c.in-Some.arguments c.pop.new.self.items at.further.items c.in_ok-all.field-0.items (left_meaning names at.left) (left_meaning names c.in_ok-left-2.left)
          (left_choice c.args.tree.symbol (tree_of names c.args.tree)) c.in-Some.ensures.items (c.in_ok-all.ensures.trees names) c.in_ok-all.ensures.symbols (c.in_ok-left-2.ensures.meaning names)
          (at.invariant.whole names);
    }

pub returns-clause-meaning : goal.returns-clause-meaning
returns-clause-meaning c = λ names.
    let at = c.loop-arguments in
    left_done names at.further.items (left_meaning names at.left) (left_choice c.args.tree.symbol (tree_of names c.args.tree))
    (nil_from_length at.further.items (omega (arith, at.further.ok.0, c.in_default.ensures.cases.0))) (at.invariant.whole names)

pub loop-arguments-init : goal.loop-arguments-init
loop-arguments-init c = record {
  arguments = c.loop-inner.invariant.arguments;
  further = c.loop-inner.invariant.further;
  owned = λ owner names of. c.in_ok-left.ensures.owned owner names (c.loop-inner.invariant.owned owner names of);
  whole = search rules;
}

pub returns-clause-owned : goal.returns-clause-owned
returns-clause-owned c = λ owner names of. c.loop-arguments.invariant.owned owner names of
