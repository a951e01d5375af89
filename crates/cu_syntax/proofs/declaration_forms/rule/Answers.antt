-- A rule says what its left-hand side and its right-hand side say.
use Rattle.std.proofs.Common.{IfOk, ◌≡◌, ap, subst, sym, ◌∙◌}
use Rattle.cu_lex.specs.Reading.{position_of}
use Rattle.cu_syntax.specs.declared.declaration_forms.Left.{Left}
use Rattle.cu_syntax.specs.declared.declarations.DeclarationNode.{DeclarationNode}
use Rattle.cu_syntax.specs.declared.patterns.PatternNode.{PatternNode}
use Rattle.cu_syntax.specs.Declarations.{declaration_node, left_meaning, right_meaning}
use Rattle.cu_syntax.specs.Names.{name_meaning}
use Rattle.cu_syntax.specs.Patterns.{pattern_meaning, pattern_node, patterns_meaning}
use Rattle.cu_syntax.specs.Reading.{OfPattern, declaration_as, rule_of}
use Rattle.cu_syntax.specs.SubtreeMeaning.{tree_of}
use Rattle.cu_syntax.specs.Syntax as syntax
use Rattle.cu_syntax.specs.Owners.{DeclarationNodeIsOf, LeftIsOf, PatternIsOf, PatternNodeIsOf}
use Rattle.cu_syntax.proofs.DeclarationLemmas.{binding_rule, rule_has_token, rule_is, rule_part, variable_rule}
use Rattle.cu_syntax.proofs.OwnerLemmas.{none_yet}
use Rattle.cu_syntax.proofs.declaration_forms.rule.Goals as goal
use Rattle.cu_syntax.proofs.declaration_forms.rule.Goals.{in-Variable, in_default}

pub part-requires : goal.part-requires
part-requires c = rule_part c.args.tree.symbol c.requires.symbol

pub place-requires : goal.place-requires
place-requires c = rule_has_token c.args.tree.symbol c.requires.symbol

pub returns-in-Function-clause-meaning : goal.returns-in-Function-clause-meaning
returns-in-Function-clause-meaning c = λ names.
    let at = position_of c.place.result in
    let right = c.right-right.result in
    rule_is names c.args.tree.symbol c.args.left.symbol (tree_of names c.args.tree) (tree_of names c.args.left) (tree_of names c.part.result) at (left_meaning names c.in_ok-function.field-0)
    right (syntax.FunctionRule at (name_meaning names c.in-Function.function) (patterns_meaning names c.in-Function.parameters.items) (right_meaning names right)) c.requires.symbol
    (c.args.tree.fits names) (c.requires.first names) c.requires.same (c.place.ensures.position names) (c.in_ok-function.ensures.meaning names) c.right-right.ensures.body (c.part.ensures.tree names)
    (c.right-right.ensures.tree names) (ap (λ (l : Left). rule_of at (left_meaning names l) (right_meaning names right)) (sym c.in-Function.is))

pub returns-after-branch-4-clause-meaning : goal.returns-after-branch-4-clause-meaning
returns-after-branch-4-clause-meaning c = λ names.
    let s = c.args.tree.symbol in
    let tree = tree_of names c.args.tree in
    let right = c.right-right.result in
    let pattern = pattern_meaning names c.in-Pattern.pattern in
    let found : left_meaning names c.in_ok-function.field-0 ≡ OfPattern pattern = ap (λ (l : Left). left_meaning names l) c.in-Pattern.is in
    let says = λ (node : DeclarationNode). declaration_node names node ≡ declaration_as s tree in
    elim c.match-branch-4.branch [
      | in-Variable w ↦
          let at = position_of w.place-in-Variable.result in
          let name = name_meaning names w.in-Variable.x in
          let variable : syntax.PatternVariable name ≡ pattern =
          ap (λ (n : PatternNode). pattern_node names n) (sym w.in-Variable.is) ∙ c.in_ok-x-in-Pattern.ensures.meaning names in
          subst (λ r. IfOk r says) (sym w.result-is)
          (rule_is names s c.args.left.symbol tree (tree_of names c.args.left) (tree_of names c.part.result) at (left_meaning names c.in_ok-function.field-0) right
          (syntax.FunctionRule at name (patterns_meaning names w.new.result.items) (right_meaning names right)) c.requires.symbol (c.args.tree.fits names) (c.requires.first names)
          c.requires.same (w.place-in-Variable.ensures.position names) (c.in_ok-function.ensures.meaning names) c.right-right.ensures.body (c.part.ensures.tree names) (c.right-right.ensures.tree names)
          (variable_rule names at name pattern w.new.result.items (right_meaning names right) variable w.new.ensures.items ∙ ap (λ l. rule_of at l (right_meaning names right)) (sym found)))
      | in_default w ↦
          let at = position_of w.place-in_default.result in
          subst (λ r. IfOk r says) (sym w.result-is)
          (rule_is names s c.args.left.symbol tree (tree_of names c.args.left) (tree_of names c.part.result) at (left_meaning names c.in_ok-function.field-0) right
          (syntax.PatternBinding at pattern (right_meaning names right)) c.requires.symbol (c.args.tree.fits names) (c.requires.first names) c.requires.same
          (w.place-in_default.ensures.position names) (c.in_ok-function.ensures.meaning names) c.right-right.ensures.body (c.part.ensures.tree names) (c.right-right.ensures.tree names)
          (binding_rule names c.in_ok-x-in-Pattern.field-0 at pattern (right_meaning names right) (c.in_ok-x-in-Pattern.ensures.meaning names) w.in_default.not-Variable
          ∙ ap (λ l. rule_of at l (right_meaning names right)) (sym found)))
    ]

pub returns-in-Function-clause-owned : goal.returns-in-Function-clause-owned
returns-in-Function-clause-owned c = λ owner names whole. λ left.
    let parts = subst (LeftIsOf owner names) c.in-Function.is (c.in_ok-function.ensures.owned owner names left) in
    (c.place.ensures.owned owner names whole, parts.0, parts.1, c.right-right.ensures.owned owner names (c.part.ensures.owned owner names whole))

pub returns-after-branch-4-clause-owned : goal.returns-after-branch-4-clause-owned
returns-after-branch-4-clause-owned c = λ owner names whole. λ left.
    let right = c.right-right.ensures.owned owner names (c.part.ensures.owned owner names whole) in
    let pattern = subst (LeftIsOf owner names) c.in-Pattern.is (c.in_ok-function.ensures.owned owner names left) in
    let node = c.in_ok-x-in-Pattern.ensures.owned owner names pattern in
    elim c.match-branch-4.branch [
      | in-Variable w ↦
          subst (λ r. IfOk r (DeclarationNodeIsOf owner names)) (sym w.result-is) (
            w.place-in-Variable.ensures.owned owner names whole,
            subst (PatternNodeIsOf owner names) w.in-Variable.is node,
            none_yet (PatternIsOf owner names) w.new.result.items w.new.ensures.items,
            right,
          )
      | in_default w ↦
          subst (λ r. IfOk r (DeclarationNodeIsOf owner names)) (sym w.result-is) (w.place-in_default.ensures.owned owner names whole, pattern, right)
    ]
