use Rattle.std.proofs.Common.{rules, ◌+◌, ◌∷◌, [], List, arith, ap, ap₂, sym, ◌∙◌, refl, length, map, drop}
use Rattle.cu_calculus.specs.Term as clean
use Rattle.cu_deftree.specs.declared.tasks.Manner.TheVariants as manner
use Rattle.cu_deftree.specs.declared.patterns.Choice.{Choice}
use Rattle.cu_deftree.specs.Inside.NamesOf.{names_of}
use Rattle.cu_deftree.specs.Inside.RowsOf.{all_rows, demands_choice}
use Rattle.cu_deftree.specs.Inside.Tasks.{BranchLowers, TermLowers, both_of, both_size, branch_of, branch_pattern, branch_size, branches_of, terms_in, total}
use Rattle.cu_deftree.specs.LoweredProgram.{size}
use Rattle.cu_deftree.specs.Inside.Ready.{program_in}
use Rattle.cu_deftree.proofs.Nodes.{apply_in, apply_is, case_is, free_is, let_is, literal_done, or_in, or_is, part_in, part_is, variable_done, whole_in, whole_is, as_term, free_in, let_in, part_written, whole_written}
use Rattle.cu_deftree.proofs.Passing.{begun_with, finished, gone_on, gone_wrong, node_exit, node_ok, one_spent, passed_on, spent_exit, through}
use Rattle.cu_deftree.proofs.TaskSteps.{both_done, first_stops, in_terms, second_stops}
use Rattle.std.proofs.Common.{get_or, take, ◌-◌}
use Rattle.std.proofs.lemmas.Bool.{true≢false}
use Rattle.std.specs.Prelude.{true, false}
use Rattle.cu_deftree.specs.Lowering.{goes_on, literal_case}
use Rattle.cu_calculus.specs.Choose.{demands_literal}
use Rattle.cu_deftree.specs.Inside.Tasks.{mode_of}
use Rattle.cu_deftree.proofs.GroupSteps.{are_at}
use Rattle.cu_deftree.proofs.RowSteps.{some_rows}
use Rattle.cu_deftree.proofs.TreeExits.{no_rows, failing_tree, failing_cases, cases_less, variable_case_in, term_case_in, case_written, literal_in, other_literals_less, all_case_in, body_lighter, demanding_less, demands_first, first_case_in, left_at, mixed_first, never_nothing, opened_common, opened_first, opened_lighter, opened_mixed, others_less, overlap_in, rest_is, rest_lighter, some_mixed, split_first, tree_case_in, as_case_out, branch_in, first_in, get_at, is_free, rule_in, some_free, split_in}
use Rattle.cu_deftree.proofs.TreeNodes.{branch_one, case_node}
use Rattle.std.proofs.lemmas.List.{at_drop_all, map-append}
use Rattle.cu_deftree.proofs.NameLaws.{left}
use Rattle.cu_deftree.proofs.OneTree.{lowers_one}
use Rattle.cu_deftree.proofs.Weights.{term_weight}
use Rattle.cu_kernel.specs.declared.term.Term.{Term}
use Rattle.cu_kernel.specs.TermsOf.{alternatives_of, term_of, term_of-Apply, term_of-Free, term_of-Let, term_of-Or}
use Rattle.cu_matrix.specs.Meaning.{demand_meaning}
use Rattle.cu_deftree.proofs.trees.Lowerer.+lowering.Goals as goal

pub binding-returns-in_err-spend : goal.binding-returns-in_err-spend
binding-returns-in_err-spend t c =
    spent_exit term_of c.args.left.now c.spend.new.left c.spend.new.left c.from_residual.result c.in_err-spend.field-0.0
    (let_in (program_in c.args.self.now) c.args.scope.now c.args.definition.now.variable c.in-Some.next (term_of c.args.definition.now.value.now) (term_of c.args.definition.now.body.now) (omega (arith, c.in-Some.ensures))) c.from_residual.ensures.1 c.in_err-spend.ensures

pub binding-two-requires : goal.binding-two-requires
binding-two-requires t c =
    (search rules, search rules)

pub binding-returns-in_err-both : goal.binding-returns-in_err-both
binding-returns-in_err-both t c =
    node_exit term_of both_of c.args.left.now c.spend.new.left c.two.new.left c.two.new.left c.from_residual-in_err-both.result c.in_err-both.field-0.0
    (let_in (program_in c.args.self.now) c.args.scope.now c.args.definition.now.variable c.in-Some.next (term_of c.args.definition.now.value.now) (term_of c.args.definition.now.body.now) (omega (arith, c.in-Some.ensures))) c.in_ok-spend.ensures c.from_residual-in_err-both.ensures.1 c.in_err-both.ensures

pub binding-returns : goal.binding-returns
binding-returns t c =
    node_ok term_of both_of c.args.left.now c.spend.new.left c.two.new.left c.in_ok-both.both _
    (let_in (program_in c.args.self.now) c.args.scope.now c.args.definition.now.variable c.in-Some.next (term_of c.args.definition.now.value.now) (term_of c.args.definition.now.body.now) (omega (arith, c.in-Some.ensures))) c.in_ok-spend.ensures (term_of-Let c.args.scope.now.next c.in_ok-both.both.0 c.in_ok-both.both.1) c.in_ok-both.ensures

pub branch-open-requires : goal.branch-open-requires
branch-open-requires t c =
    record { within = c.requires.within; indices = c.requires.indices }

pub branch-returns-in_err-opened : goal.branch-returns-in_err-opened
branch-returns-in_err-opened t c =
    search rules

pub branch-returns-in_err-pattern : goal.branch-returns-in_err-pattern
branch-returns-in_err-pattern t c =
    search rules

pub branch-lower-requires : goal.branch-lower-requires
branch-lower-requires t c =
    (let l = opened_lighter c.args.branching.now.column.matrix.now.rows.now c.as_slice-3.result.now c.in_ok-opened.opened.rows.items c.args.branching.now.column.position c.in_ok-opened.opened.arguments.items (goes_on c.args.branching.now.has_variables (demands_choice c.args.choice)) c.requires.opened c.as_slice-3.ensures.value c.in_ok-opened.ensures.rows in omega (arith, l, c.decreases), search rules)

pub branch-returns-in_err-body : goal.branch-returns-in_err-body
branch-returns-in_err-body t c =
    node_exit branch_of term_of c.args.left.now c.args.left.now c.lower.new.left c.lower.new.left c.from_residual-in_err-body.result c.in_err-body.field-0.0
    (branch_in (program_in c.args.self.now) c.args.branching.now.manner c.args.branching.now.has_variables c.args.branching.now.column.matrix.now c.args.branching.now.column.position c.args.choice c.in_ok-opened.opened.arguments.items c.as_slice-2.result.now c.in_ok-opened.opened.positions.items c.in_ok-opened.opened.next c.in_ok-opened.opened.rows.items c.as_slice-3.result.now
    c.in_ok-opened.ensures.arguments c.in_ok-opened.ensures.positions c.as_slice-2.ensures.value c.in_ok-opened.ensures.next c.in_ok-opened.ensures.rows c.as_slice-3.ensures.value) (omega arith) c.from_residual-in_err-body.ensures.1 c.in_err-body.ensures

pub branch-returns : goal.branch-returns
branch-returns t c =
    node_ok branch_of term_of c.args.left.now c.args.left.now c.lower.new.left c.in_ok-body.body (c.in_ok-pattern.pattern, c.in_ok-body.body)
    (branch_in (program_in c.args.self.now) c.args.branching.now.manner c.args.branching.now.has_variables c.args.branching.now.column.matrix.now c.args.branching.now.column.position c.args.choice c.in_ok-opened.opened.arguments.items c.as_slice-2.result.now c.in_ok-opened.opened.positions.items c.in_ok-opened.opened.next c.in_ok-opened.opened.rows.items c.as_slice-3.result.now
    c.in_ok-opened.ensures.arguments c.in_ok-opened.ensures.positions c.as_slice-2.ensures.value c.in_ok-opened.ensures.next c.in_ok-opened.ensures.rows c.as_slice-3.ensures.value) (omega arith) (ap (λ (p : clean.Pattern). (p, term_of c.in_ok-body.body)) (c.in_ok-pattern.ensures ∙ ap (branch_pattern c.args.choice) (c.as_slice.ensures.value ∙ c.in_ok-opened.ensures.arguments))) c.in_ok-body.ensures

pub branches-loop-choice-init : goal.branches-loop-choice-init
branches-loop-choice-init t c =
    begun_with (BranchLowers (program_in c.args.self.now) c.args.branching.now.manner c.args.branching.now.has_variables c.args.branching.now.column.matrix.now c.args.branching.now.column.position) branch_size c.args.choices.now _ c.args.left.now (ap (map branch_of) c.new-all.ensures.items)

pub branches-offset_bounds-choices-choice-index : goal.branches-offset_bounds-choices-choice-index
branches-offset_bounds-choices-choice-index t c =
    search rules

pub branches-returns-in_err-groups : goal.branches-returns-in_err-groups
branches-returns-in_err-groups t c =
    search rules

pub branches-branch-self-requires : goal.branches-branch-self-requires
branches-branch-self-requires t c =
    (search rules, (c.requires.ready, (c.requires.opened, (c.requires.within, λ _. are_at c.in_ok-groups.groups c.args.branching.now.column.position _ c.of-indices.result.now (all_rows c.args.branching.now.column.matrix.now.rows.now) c.in_ok-groups.ensures c.of-indices.ensures))))

pub branches-returns-in_err-one : goal.branches-returns-in_err-one
branches-returns-in_err-one t c =
    passed_on branches_of (total branch_size) _ c.args.left.now c.branch-self.new.left c.from_residual-in_err-one.result c.in_err-one.field-0.0 c.from_residual-in_err-one.ensures.1
    (gone_wrong branches_of branch_of (BranchLowers (program_in c.args.self.now) c.args.branching.now.manner c.args.branching.now.has_variables c.args.branching.now.column.matrix.now c.args.branching.now.column.position) branch_size c.args.choices.now (drop c.loop-choice.choice-index c.args.choices.now) (drop (c.loop-choice.choice-index + 1) c.args.choices.now) _ (branches_of c.loop-choice.all) c.loop-choice.left c.branch-self.new.left c.branch-self.new.left c.args.left.now c.in_err-one.field-0.0
    (left_at c.args.choices.now c.loop-choice.choice-index _ c.loop-choice-test.true) c.loop-choice.invariant c.in_err-one.ensures)

pub branches-returns-in_err-push : goal.branches-returns-in_err-push
branches-returns-in_err-push t c =
    search rules

pub branches-loop-choice-smaller : goal.branches-loop-choice-smaller
branches-loop-choice-smaller t c =
    search rules

pub branches-loop-choice-preserved : goal.branches-loop-choice-preserved
branches-loop-choice-preserved t c =
    gone_on (BranchLowers (program_in c.args.self.now) c.args.branching.now.manner c.args.branching.now.has_variables c.args.branching.now.column.matrix.now c.args.branching.now.column.position) branch_size c.args.choices.now (drop c.loop-choice.choice-index c.args.choices.now) (drop (c.loop-choice.choice-index + 1) c.args.choices.now) _ (branch_of c.in_ok-one.one) (branches_of c.loop-choice.all) (branches_of c.push.new.self) c.loop-choice.left c.branch-self.new.left c.args.left.now
    (left_at c.args.choices.now c.loop-choice.choice-index _ c.loop-choice-test.true) c.in_ok-one.ensures.0 (λ z q. branch_one (program_in c.args.self.now) c.args.branching.now.manner c.args.branching.now.has_variables c.args.branching.now.column.matrix.now c.args.branching.now.column.position _ (branch_of c.in_ok-one.one) z c.in_ok-one.ensures.0 q) c.in_ok-one.ensures.1
    (ap (map branch_of) c.in_ok-push.ensures.items ∙ map-append branch_of c.loop-choice.all.items (c.in_ok-one.one ∷ [])) c.loop-choice.invariant

pub branches-returns : goal.branches-returns
branches-returns t c =
    finished branches_of (BranchLowers (program_in c.args.self.now) c.args.branching.now.manner c.args.branching.now.has_variables c.args.branching.now.column.matrix.now c.args.branching.now.column.position) branch_size c.args.choices.now (drop c.loop-choice.choice-index c.args.choices.now) (branches_of c.loop-choice.all) c.loop-choice.left c.args.left.now c.loop-choice.all
    (at_drop_all (λ (ys : List Choice). ys) c.args.choices.now c.loop-choice.choice-index c.loop-choice-test.false) refl c.loop-choice.invariant

pub by_first-bounds-matrix-0 : goal.by_first-bounds-matrix-0
by_first-bounds-matrix-0 t c =
    some_mixed c.args.position c.args.matrix.now.rows.now c.requires.mixed

pub by_first-unreachable-requires : goal.by_first-unreachable-requires
by_first-unreachable-requires t c =
    absurd (never_nothing c.args.matrix.now.rows.now c.index-matrix-0.result (get_or c.args.matrix.now.rows.now 0 c.index-matrix-0.result) c.args.position refl c.requires.mixed (sym c.demand_at.ensures ∙ ap demand_meaning c.in-Nothing.is))

pub by_first-unreachable-unreachable : goal.by_first-unreachable-unreachable
by_first-unreachable-unreachable t c =
    never_nothing c.args.matrix.now.rows.now c.index-matrix-0.result (get_or c.args.matrix.now.rows.now 0 c.index-matrix-0.result) c.args.position refl c.requires.mixed (sym c.demand_at.ensures ∙ ap demand_meaning c.in-Nothing.is)

pub by_first-returns-in_err-choices-in-Constructor : goal.by_first-returns-in_err-choices-in-Constructor
by_first-returns-in_err-choices-in-Constructor t c =
    search rules

pub by_first-case_at-requires : goal.by_first-case_at-requires
by_first-case_at-requires t c =
    (search rules, (c.requires.ready, opened_mixed c.args.position (all_rows c.args.matrix.now.rows.now) c.requires.mixed))

pub by_first-literal_test-requires : goal.by_first-literal_test-requires
by_first-literal_test-requires t c =
    (search rules, (c.requires.ready, (c.requires.mixed, demands_first c.args.matrix.now.rows.now c.index-matrix-0.result (get_or c.args.matrix.now.rows.now 0 c.index-matrix-0.result) c.args.position _ (some_mixed c.args.position c.args.matrix.now.rows.now c.requires.mixed) refl (sym c.in-Literal.ensures))))

pub by_first-returns-in_ok-choices-in-Constructor : goal.by_first-returns-in_ok-choices-in-Constructor
by_first-returns-in_ok-choices-in-Constructor t c =
    as_case_out (program_in c.args.self.now) (manner.Alternatives c.args.mode) true c.args.matrix.now c.args.position _ c.as_slice.result.now c.args.left.now c.case_at.new.left c.case_at.result
    (first_case_in (program_in c.args.self.now) c.args.mode c.args.matrix.now c.args.position c.in-Constructor.constructor c.index-matrix-0.result (get_or c.args.matrix.now.rows.now 0 c.index-matrix-0.result) refl c.requires.mixed (sym c.in-Constructor.ensures)) (c.as_slice.ensures.value ∙ c.in_ok-choices-in-Constructor.ensures) c.case_at.ensures

pub by_first-returns-in-Literal : goal.by_first-returns-in-Literal
by_first-returns-in-Literal t c =
    c.literal_test.ensures

pub case-returns-in_err-rows : goal.case-returns-in_err-rows
case-returns-in_err-rows t c =
    search rules

pub case-slice_bounds-matrix-end : goal.case-slice_bounds-matrix-end
case-slice_bounds-matrix-end t c =
    search rules

pub case-lower-requires : goal.case-lower-requires
case-lower-requires t c =
    (let l = cases_less c.in_ok-rows.rows.items c.as_slice.result.now (names_of c.args.scope.now.names.now) c.name-position.result (alternatives_of c.args.distinction.now.alternatives.now) c.as_slice.ensures.value c.in_ok-rows.ensures in omega (arith, l, c.decreases), search rules)

pub case-case_on_term-requires : goal.case-case_on_term-requires
case-case_on_term-requires t c =
    (search rules, (c.requires, c.in_default.ensures))

pub case-returns : goal.case-returns
case-returns t c =
    through term_of c.args.left.now c.lower.new.left c.lower.result
    (variable_case_in (program_in c.args.self.now) c.args.scope.now c.args.distinction.now.mode c.in-Some.x c.name-position.result (term_of c.args.distinction.now.scrutinee.now) (alternatives_of c.args.distinction.now.alternatives.now) c.in_ok-rows.rows.items c.as_slice.result.now c.in-Some.ensures c.name-position.ensures c.in_ok-rows.ensures c.as_slice.ensures.value) c.lower.ensures

pub case-returns-in_default : goal.case-returns-in_default
case-returns-in_default t c =
    c.case_on_term.ensures

pub case_at-offset_bounds-matrix-position : goal.case_at-offset_bounds-matrix-position
case_at-offset_bounds-matrix-position t c =
    search rules

pub case_at-bounds-matrix-position : goal.case_at-bounds-matrix-position
case_at-bounds-matrix-position t c =
    search rules

pub case_at-returns-in_err-spend : goal.case_at-returns-in_err-spend
case_at-returns-in_err-spend t c =
    spent_exit term_of c.args.left.now c.spend.new.left c.spend.new.left c.from_residual.result c.in_err-spend.field-0.0
    (case_node (program_in c.args.self.now) c.args.branching.now.manner c.args.branching.now.has_variables c.args.branching.now.column.matrix.now c.args.branching.now.column.position c.args.choices.now (get_or c.args.branching.now.column.matrix.now.positions.now c.args.branching.now.column.position 0) (get_at c.args.branching.now.column.matrix.now.positions.now c.args.branching.now.column.position c.if-position-matrix.false)) c.from_residual.ensures.1 c.in_err-spend.ensures

pub case_at-branches-requires : goal.case_at-branches-requires
case_at-branches-requires t c =
    (search rules, search rules)

pub case_at-returns-in_err-branches : goal.case_at-returns-in_err-branches
case_at-returns-in_err-branches t c =
    node_exit term_of branches_of c.args.left.now c.spend.new.left c.branches.new.left c.branches.new.left c.from_residual-in_err-branches.result c.in_err-branches.field-0.0
    (case_node (program_in c.args.self.now) c.args.branching.now.manner c.args.branching.now.has_variables c.args.branching.now.column.matrix.now c.args.branching.now.column.position c.args.choices.now (get_or c.args.branching.now.column.matrix.now.positions.now c.args.branching.now.column.position 0) (get_at c.args.branching.now.column.matrix.now.positions.now c.args.branching.now.column.position c.if-position-matrix.false)) c.in_ok-spend.ensures c.from_residual-in_err-branches.ensures.1 c.in_err-branches.ensures

pub case_at-returns-in_err-scrutinee : goal.case_at-returns-in_err-scrutinee
case_at-returns-in_err-scrutinee t c =
    search rules

pub case_at-returns : goal.case_at-returns
case_at-returns t c =
    node_ok term_of branches_of c.args.left.now c.spend.new.left c.branches.new.left c.in_ok-branches.branches _
    (case_node (program_in c.args.self.now) c.args.branching.now.manner c.args.branching.now.has_variables c.args.branching.now.column.matrix.now c.args.branching.now.column.position c.args.choices.now (get_or c.args.branching.now.column.matrix.now.positions.now c.args.branching.now.column.position 0) (get_at c.args.branching.now.column.matrix.now.positions.now c.args.branching.now.column.position c.if-position-matrix.false)) c.in_ok-spend.ensures (case_written c.mode.result (mode_of c.args.branching.now.manner) c.in_ok-scrutinee.scrutinee c.in_ok-branches.branches (get_or c.args.branching.now.column.matrix.now.positions.now c.args.branching.now.column.position 0) c.mode.ensures c.in_ok-scrutinee.ensures.ok) c.in_ok-branches.ensures

pub case_on_term-returns-in_err-rows : goal.case_on_term-returns-in_err-rows
case_on_term-returns-in_err-rows t c =
    search rules

pub case_on_term-slice_bounds-matrix-end : goal.case_on_term-slice_bounds-matrix-end
case_on_term-slice_bounds-matrix-end t c =
    search rules

pub case_on_term-returns-in_err-spend : goal.case_on_term-returns-in_err-spend
case_on_term-returns-in_err-spend t c =
    spent_exit term_of c.args.left.now c.spend.new.left c.spend.new.left c.from_residual-in_err-spend.result c.in_err-spend.field-0.0
    (term_case_in (program_in c.args.self.now) c.args.scope.now c.args.distinction.now.mode c.in-Some.next (term_of c.args.distinction.now.scrutinee.now) (alternatives_of c.args.distinction.now.alternatives.now) c.in_ok-rows.rows.items c.as_slice.result.now c.requires.other (omega (arith, c.in-Some.ensures)) c.in_ok-rows.ensures c.as_slice.ensures.value) c.from_residual-in_err-spend.ensures.1 c.in_err-spend.ensures

pub case_on_term-two-requires : goal.case_on_term-two-requires
case_on_term-two-requires t c =
    (let l = cases_less c.in_ok-rows.rows.items c.as_slice.result.now (names_of c.args.scope.now.names.now) c.args.scope.now.next (alternatives_of c.args.distinction.now.alternatives.now) c.as_slice.ensures.value c.in_ok-rows.ensures in omega (arith, l, c.decreases), search rules)

pub case_on_term-returns-in_err-both : goal.case_on_term-returns-in_err-both
case_on_term-returns-in_err-both t c =
    node_exit term_of both_of c.args.left.now c.spend.new.left c.two.new.left c.two.new.left c.from_residual-in_err-both.result c.in_err-both.field-0.0
    (term_case_in (program_in c.args.self.now) c.args.scope.now c.args.distinction.now.mode c.in-Some.next (term_of c.args.distinction.now.scrutinee.now) (alternatives_of c.args.distinction.now.alternatives.now) c.in_ok-rows.rows.items c.as_slice.result.now c.requires.other (omega (arith, c.in-Some.ensures)) c.in_ok-rows.ensures c.as_slice.ensures.value) c.in_ok-spend.ensures c.from_residual-in_err-both.ensures.1 c.in_err-both.ensures

pub case_on_term-returns : goal.case_on_term-returns
case_on_term-returns t c =
    node_ok term_of both_of c.args.left.now c.spend.new.left c.two.new.left c.in_ok-both.both _
    (term_case_in (program_in c.args.self.now) c.args.scope.now c.args.distinction.now.mode c.in-Some.next (term_of c.args.distinction.now.scrutinee.now) (alternatives_of c.args.distinction.now.alternatives.now) c.in_ok-rows.rows.items c.as_slice.result.now c.requires.other (omega (arith, c.in-Some.ensures)) c.in_ok-rows.ensures c.as_slice.ensures.value) c.in_ok-spend.ensures (term_of-Let c.args.scope.now.next c.in_ok-both.both.0 c.in_ok-both.both.1) c.in_ok-both.ensures

pub distinction-returns-then-is_empty : goal.distinction-returns-then-is_empty
distinction-returns-then-is_empty t c =
    through term_of c.args.left.now c.failure.new.left c.failure.result
    (failing_cases (program_in c.args.self.now) c.args.mode c.args.matrix.now.positions.now c.args.matrix.now.next (all_rows c.args.matrix.now.rows.now) c.args.self.now.failed (no_rows c.args.matrix.now.rows.now c.if-is_empty.ensures) c.requires.failed) c.failure.ensures

pub distinction-bounds-rows-0 : goal.distinction-bounds-rows-0
distinction-bounds-rows-0 t c =
    search rules

pub distinction-first_right_side-requires : goal.distinction-first_right_side-requires
distinction-first_right_side-requires t c =
    (search rules, (c.requires, is_free c.args.matrix.now.rows.now c.index-rows-0.result (get_or c.args.matrix.now.rows.now 0 c.index-rows-0.result) c.as_slice.result.now (some_rows (length c.args.matrix.now.rows.now) c.if-is_empty.ensures) refl c.as_slice.ensures.value (sym c.leftmost.ensures ∙ c.in_default.is)))

pub distinction-returns-in_default : goal.distinction-returns-in_default
distinction-returns-in_default t c =
    c.first_right_side.ensures

pub distinction-by_first-requires : goal.distinction-by_first-requires
distinction-by_first-requires t c =
    (search rules, (c.requires, mixed_first c.args.matrix.now.rows.now c.index-rows-0.result (get_or c.args.matrix.now.rows.now 0 c.index-rows-0.result) c.as_slice.result.now c.in-Some.position (some_rows (length c.args.matrix.now.rows.now) c.if-is_empty.ensures) refl c.as_slice.ensures.value (sym c.in-Some.ensures) (sym c.some_is_free.ensures ∙ c.if-some_is_free.true)))

pub distinction-returns-then-some_is_free : goal.distinction-returns-then-some_is_free
distinction-returns-then-some_is_free t c =
    c.by_first.ensures

pub distinction-returns-in_err-choices : goal.distinction-returns-in_err-choices
distinction-returns-in_err-choices t c =
    search rules

pub distinction-case_at-requires : goal.distinction-case_at-requires
distinction-case_at-requires t c =
    (search rules, (c.requires, opened_first c.args.matrix.now.rows.now c.index-rows-0.result (get_or c.args.matrix.now.rows.now 0 c.index-rows-0.result) c.as_slice.result.now c.in-Some.position (some_rows (length c.args.matrix.now.rows.now) c.if-is_empty.ensures) refl c.as_slice.ensures.value (sym c.in-Some.ensures)))

pub distinction-returns : goal.distinction-returns
distinction-returns t c =
    as_case_out (program_in c.args.self.now) (manner.Alternatives c.args.mode) false c.args.matrix.now c.in-Some.position _ c.as_slice-2.result.now c.args.left.now c.case_at.new.left c.case_at.result
    (all_case_in (program_in c.args.self.now) c.args.mode c.args.matrix.now c.in-Some.position c.index-rows-0.result (get_or c.args.matrix.now.rows.now 0 c.index-rows-0.result) c.as_slice.result.now (some_rows (length c.args.matrix.now.rows.now) c.if-is_empty.ensures) refl c.as_slice.ensures.value (sym c.in-Some.ensures) (sym c.some_is_free.ensures ∙ c.if-some_is_free.false)) (c.as_slice-2.ensures.value ∙ c.in_ok-choices.ensures) c.case_at.ensures

pub first_right_side-bounds-matrix-0 : goal.first_right_side-bounds-matrix-0
first_right_side-bounds-matrix-0 t c =
    some_free c.args.matrix.now.rows.now c.requires.free

pub first_right_side-lower-requires : goal.first_right_side-lower-requires
first_right_side-lower-requires t c =
    (let l = body_lighter c.args.matrix.now.rows.now c.index-matrix-0.result (get_or c.args.matrix.now.rows.now 0 c.index-matrix-0.result) (some_free c.args.matrix.now.rows.now c.requires.free) refl in omega (arith, l, c.decreases), search rules)

pub first_right_side-returns : goal.first_right_side-returns
first_right_side-returns t c =
    through term_of c.args.left.now c.lower.new.left c.lower.result
    (first_in (program_in c.args.self.now) c.args.mode c.args.matrix.now.positions.now c.args.matrix.now.next c.args.matrix.now.rows.now c.index-matrix-0.result (get_or c.args.matrix.now.rows.now 0 c.index-matrix-0.result) c.as_slice.result refl c.as_slice.ensures.value c.requires.free) c.lower.ensures

pub free-returns-in_err-spend : goal.free-returns-in_err-spend
free-returns-in_err-spend t c =
    spent_exit term_of c.args.left.now c.spend.new.left c.spend.new.left c.from_residual.result c.in_err-spend.field-0.0
    (free_in (program_in c.args.self.now) c.args.scope.now c.args.x c.in-Some.next (term_of c.args.body.now) (omega (arith, c.in-Some.ensures))) c.from_residual.ensures.1 c.in_err-spend.ensures

pub free-lower-requires : goal.free-lower-requires
free-lower-requires t c =
    (search rules, search rules)

pub free-returns-in_err-one : goal.free-returns-in_err-one
free-returns-in_err-one t c =
    node_exit term_of term_of c.args.left.now c.spend.new.left c.lower.new.left c.lower.new.left c.from_residual-in_err-one.result c.in_err-one.field-0.0
    (free_in (program_in c.args.self.now) c.args.scope.now c.args.x c.in-Some.next (term_of c.args.body.now) (omega (arith, c.in-Some.ensures))) c.in_ok-spend.ensures c.from_residual-in_err-one.ensures.1 c.in_err-one.ensures

pub free-returns-in_err-one-2 : goal.free-returns-in_err-one-2
free-returns-in_err-one-2 t c =
    search rules

pub free-returns : goal.free-returns
free-returns t c =
    node_ok term_of term_of c.args.left.now c.spend.new.left c.lower.new.left c.in_ok-one.one _
    (free_in (program_in c.args.self.now) c.args.scope.now c.args.x c.in-Some.next (term_of c.args.body.now) (omega (arith, c.in-Some.ensures))) c.in_ok-spend.ensures (term_of-Free c.args.scope.now.next c.in_ok-one-2.one ∙ ap (λ (u : Term). clean.Free c.args.scope.now.next (term_of u)) c.in_ok-one-2.ensures.ok) c.in_ok-one.ensures

pub literal_test-offset_bounds-matrix-position : goal.literal_test-offset_bounds-matrix-position
literal_test-offset_bounds-matrix-position t c =
    search rules

pub literal_test-bounds-matrix-position : goal.literal_test-bounds-matrix-position
literal_test-bounds-matrix-position t c =
    search rules

pub literal_test-open-requires : goal.literal_test-open-requires
literal_test-open-requires t c =
    record { within = search rules; indices = λ e. absurd (true≢false e) }

pub literal_test-returns-in_err-opened : goal.literal_test-returns-in_err-opened
literal_test-returns-in_err-opened t c =
    search rules

pub literal_test-returns-in_err-others : goal.literal_test-returns-in_err-others
literal_test-returns-in_err-others t c =
    search rules

pub literal_test-returns-in_err-spend : goal.literal_test-returns-in_err-spend
literal_test-returns-in_err-spend t c =
    spent_exit term_of c.args.left.now c.spend.new.left c.spend.new.left c.from_residual-in_err-spend.result c.in_err-spend.field-0.0
    (literal_in (program_in c.args.self.now) c.args.mode c.args.column.now.matrix.now.positions.now c.as_slice.result.now c.in_ok-opened.opened.positions.items c.in_ok-opened.opened.arguments.items c.args.column.now.matrix.now.next c.in_ok-opened.opened.next c.args.column.now.position (get_or c.args.column.now.matrix.now.positions.now c.args.column.now.position 0) c.args.self.now.equal c.args.literal (all_rows c.args.column.now.matrix.now.rows.now) c.in_ok-opened.opened.rows.items c.as_slice-2.result.now c.in_ok-others.others.items c.as_slice-3.result.now
    c.requires.mixed c.requires.literal (get_at c.args.column.now.matrix.now.positions.now c.args.column.now.position c.if-position-matrix.false) c.requires.ready.equal c.in_ok-opened.ensures.arguments c.in_ok-opened.ensures.positions c.as_slice.ensures.value c.in_ok-opened.ensures.next c.in_ok-opened.ensures.rows c.as_slice-2.ensures.value c.in_ok-others.ensures c.as_slice-3.ensures.value) c.from_residual-in_err-spend.ensures.1 c.in_err-spend.ensures

pub literal_test-two-requires : goal.literal_test-two-requires
literal_test-two-requires t c =
    (let l = opened_lighter c.args.column.now.matrix.now.rows.now c.as_slice-2.result.now c.in_ok-opened.opened.rows.items c.args.column.now.position c.in_ok-opened.opened.arguments.items (goes_on true (demands_literal c.args.literal)) (opened_mixed c.args.column.now.position (all_rows c.args.column.now.matrix.now.rows.now) c.requires.mixed) c.as_slice-2.ensures.value c.in_ok-opened.ensures.rows in let m = other_literals_less (all_rows c.args.column.now.matrix.now.rows.now) c.as_slice-3.result.now c.in_ok-others.others.items c.args.column.now.position c.args.literal c.requires.literal c.as_slice-3.ensures.value c.in_ok-others.ensures in omega (arith, l, m, c.decreases), search rules)

pub literal_test-returns-in_err-both : goal.literal_test-returns-in_err-both
literal_test-returns-in_err-both t c =
    node_exit term_of both_of c.args.left.now c.spend.new.left c.two.new.left c.two.new.left c.from_residual-in_err-both.result c.in_err-both.field-0.0
    (literal_in (program_in c.args.self.now) c.args.mode c.args.column.now.matrix.now.positions.now c.as_slice.result.now c.in_ok-opened.opened.positions.items c.in_ok-opened.opened.arguments.items c.args.column.now.matrix.now.next c.in_ok-opened.opened.next c.args.column.now.position (get_or c.args.column.now.matrix.now.positions.now c.args.column.now.position 0) c.args.self.now.equal c.args.literal (all_rows c.args.column.now.matrix.now.rows.now) c.in_ok-opened.opened.rows.items c.as_slice-2.result.now c.in_ok-others.others.items c.as_slice-3.result.now
    c.requires.mixed c.requires.literal (get_at c.args.column.now.matrix.now.positions.now c.args.column.now.position c.if-position-matrix.false) c.requires.ready.equal c.in_ok-opened.ensures.arguments c.in_ok-opened.ensures.positions c.as_slice.ensures.value c.in_ok-opened.ensures.next c.in_ok-opened.ensures.rows c.as_slice-2.ensures.value c.in_ok-others.ensures c.as_slice-3.ensures.value) c.in_ok-spend.ensures c.from_residual-in_err-both.ensures.1 c.in_err-both.ensures

pub literal_test-returns-in_err-test : goal.literal_test-returns-in_err-test
literal_test-returns-in_err-test t c =
    search rules

pub literal_test-returns : goal.literal_test-returns
literal_test-returns t c =
    node_ok term_of both_of c.args.left.now c.spend.new.left c.two.new.left c.in_ok-both.both c.in_ok-test.test
    (literal_in (program_in c.args.self.now) c.args.mode c.args.column.now.matrix.now.positions.now c.as_slice.result.now c.in_ok-opened.opened.positions.items c.in_ok-opened.opened.arguments.items c.args.column.now.matrix.now.next c.in_ok-opened.opened.next c.args.column.now.position (get_or c.args.column.now.matrix.now.positions.now c.args.column.now.position 0) c.args.self.now.equal c.args.literal (all_rows c.args.column.now.matrix.now.rows.now) c.in_ok-opened.opened.rows.items c.as_slice-2.result.now c.in_ok-others.others.items c.as_slice-3.result.now
    c.requires.mixed c.requires.literal (get_at c.args.column.now.matrix.now.positions.now c.args.column.now.position c.if-position-matrix.false) c.requires.ready.equal c.in_ok-opened.ensures.arguments c.in_ok-opened.ensures.positions c.as_slice.ensures.value c.in_ok-opened.ensures.next c.in_ok-opened.ensures.rows c.as_slice-2.ensures.value c.in_ok-others.ensures c.as_slice-3.ensures.value) c.in_ok-spend.ensures (c.in_ok-test.ensures ∙ ap₂ (λ (a b : Term). literal_case (program_in c.args.self.now) c.args.self.now.equal (get_or c.args.column.now.matrix.now.positions.now c.args.column.now.position 0) c.args.literal (term_of a) (term_of b)) c.into_inner-same.ensures c.into_inner-other.ensures) c.in_ok-both.ensures

pub lower-term-requires : goal.lower-term-requires
lower-term-requires t c =
    (search rules, search rules)

pub lower-tree-requires : goal.lower-tree-requires
lower-tree-requires t c =
    (search rules, search rules)

pub lower-distinction-requires : goal.lower-distinction-requires
lower-distinction-requires t c =
    (search rules, search rules)

pub lower-returns-in-Term : goal.lower-returns-in-Term
lower-returns-in-Term t c =
    search rules

pub lower-returns-in-Rows-Rules-default : goal.lower-returns-in-Rows-Rules-default
lower-returns-in-Rows-Rules-default t c =
    search rules

pub lower-returns-in-Rows-Alternatives-default : goal.lower-returns-in-Rows-Alternatives-default
lower-returns-in-Rows-Alternatives-default t c =
    search rules

pub overlap-bounds-rows-0 : goal.overlap-bounds-rows-0
overlap-bounds-rows-0 t c =
    some_free c.args.matrix.now.rows.now c.requires.free

pub overlap-lower-requires : goal.overlap-lower-requires
overlap-lower-requires t c =
    (let l = body_lighter c.args.matrix.now.rows.now c.index-rows-0.result c.index-rows-0.result (some_free c.args.matrix.now.rows.now c.requires.free) c.index-rows-0.is in omega (arith, l, c.decreases), search rules)

pub overlap-returns-then-rows-eq1 : goal.overlap-returns-then-rows-eq1
overlap-returns-then-rows-eq1 t c =
    through term_of c.args.left.now c.lower.new.left c.lower.result
    (rule_in (program_in c.args.self.now) c.args.matrix.now.positions.now c.args.matrix.now.next c.args.matrix.now.rows.now c.index-rows-0.result c.index-rows-0.result c.as_slice.result c.index-rows-0.is c.as_slice.ensures.value c.requires.free c.if-rows-eq1.true) c.lower.ensures

pub overlap-slice_bounds-rest-count : goal.overlap-slice_bounds-rest-count
overlap-slice_bounds-rest-count t c =
    some_free c.args.matrix.now.rows.now c.requires.free

pub overlap-slice_bounds-rest-start : goal.overlap-slice_bounds-rest-start
overlap-slice_bounds-rest-start t c =
    some_free c.args.matrix.now.rows.now c.requires.free

pub overlap-slice_bounds-rest-end : goal.overlap-slice_bounds-rest-end
overlap-slice_bounds-rest-end t c =
    search rules

pub overlap-returns-in_err-spend : goal.overlap-returns-in_err-spend
overlap-returns-in_err-spend t c =
    spent_exit term_of c.args.left.now c.spend.new.left c.spend.new.left c.from_residual.result c.in_err-spend.field-0.0
    (overlap_in (program_in c.args.self.now) c.args.matrix.now.positions.now c.args.matrix.now.next c.args.matrix.now.rows.now (take (length c.args.matrix.now.rows.now - 1) (drop 1 c.args.matrix.now.rows.now)) c.index-rows-0.result c.index-rows-0.result c.as_slice.result c.index-rows-0.is c.as_slice.ensures.value c.requires.free c.if-rows-eq1.false (rest_is c.args.matrix.now.rows.now)) c.from_residual.ensures.1 c.in_err-spend.ensures

pub overlap-two-requires : goal.overlap-two-requires
overlap-two-requires t c =
    (let l = body_lighter c.args.matrix.now.rows.now c.index-rows-0.result c.index-rows-0.result (some_free c.args.matrix.now.rows.now c.requires.free) c.index-rows-0.is in let m = rest_lighter c.args.matrix.now.rows.now (take (length c.args.matrix.now.rows.now - 1) (drop 1 c.args.matrix.now.rows.now)) (some_free c.args.matrix.now.rows.now c.requires.free) (rest_is c.args.matrix.now.rows.now) in omega (arith, l, m, c.decreases), search rules)

pub overlap-returns-in_err-both : goal.overlap-returns-in_err-both
overlap-returns-in_err-both t c =
    node_exit term_of both_of c.args.left.now c.spend.new.left c.two.new.left c.two.new.left c.from_residual-in_err-both.result c.in_err-both.field-0.0
    (overlap_in (program_in c.args.self.now) c.args.matrix.now.positions.now c.args.matrix.now.next c.args.matrix.now.rows.now (take (length c.args.matrix.now.rows.now - 1) (drop 1 c.args.matrix.now.rows.now)) c.index-rows-0.result c.index-rows-0.result c.as_slice.result c.index-rows-0.is c.as_slice.ensures.value c.requires.free c.if-rows-eq1.false (rest_is c.args.matrix.now.rows.now)) c.in_ok-spend.ensures c.from_residual-in_err-both.ensures.1 c.in_err-both.ensures

pub overlap-returns : goal.overlap-returns
overlap-returns t c =
    node_ok term_of both_of c.args.left.now c.spend.new.left c.two.new.left c.in_ok-both.both _
    (overlap_in (program_in c.args.self.now) c.args.matrix.now.positions.now c.args.matrix.now.next c.args.matrix.now.rows.now (take (length c.args.matrix.now.rows.now - 1) (drop 1 c.args.matrix.now.rows.now)) c.index-rows-0.result c.index-rows-0.result c.as_slice.result c.index-rows-0.is c.as_slice.ensures.value c.requires.free c.if-rows-eq1.false (rest_is c.args.matrix.now.rows.now)) c.in_ok-spend.ensures (term_of-Or c.in_ok-both.both.0 c.in_ok-both.both.1) c.in_ok-both.ensures

pub split-returns-in_err-demanding : goal.split-returns-in_err-demanding
split-returns-in_err-demanding t c =
    search rules

pub split-returns-in_err-others : goal.split-returns-in_err-others
split-returns-in_err-others t c =
    search rules

pub split-returns-in_err-spend : goal.split-returns-in_err-spend
split-returns-in_err-spend t c =
    spent_exit term_of c.args.left.now c.spend.new.left c.spend.new.left c.from_residual-in_err-spend.result c.in_err-spend.field-0.0
    (split_in (program_in c.args.self.now) c.args.matrix.now.positions.now c.args.matrix.now.next c.args.position (all_rows c.args.matrix.now.rows.now) c.in_ok-demanding.demanding.items c.in_ok-others.others.items c.as_slice.result.now c.as_slice-2.result.now c.requires.split c.as_slice.ensures.value c.as_slice-2.ensures.value c.in_ok-demanding.ensures c.in_ok-others.ensures) c.from_residual-in_err-spend.ensures.1 c.in_err-spend.ensures

pub split-two-requires : goal.split-two-requires
split-two-requires t c =
    (let l = demanding_less c.args.matrix.now.rows.now c.as_slice.result.now c.in_ok-demanding.demanding.items c.args.position c.requires.split c.as_slice.ensures.value c.in_ok-demanding.ensures in let m = others_less c.args.matrix.now.rows.now c.as_slice-2.result.now c.in_ok-others.others.items c.args.position c.requires.split c.as_slice-2.ensures.value c.in_ok-others.ensures in omega (arith, l, m, c.decreases), search rules)

pub split-returns-in_err-both : goal.split-returns-in_err-both
split-returns-in_err-both t c =
    node_exit term_of both_of c.args.left.now c.spend.new.left c.two.new.left c.two.new.left c.from_residual-in_err-both.result c.in_err-both.field-0.0
    (split_in (program_in c.args.self.now) c.args.matrix.now.positions.now c.args.matrix.now.next c.args.position (all_rows c.args.matrix.now.rows.now) c.in_ok-demanding.demanding.items c.in_ok-others.others.items c.as_slice.result.now c.as_slice-2.result.now c.requires.split c.as_slice.ensures.value c.as_slice-2.ensures.value c.in_ok-demanding.ensures c.in_ok-others.ensures) c.in_ok-spend.ensures c.from_residual-in_err-both.ensures.1 c.in_err-both.ensures

pub split-returns : goal.split-returns
split-returns t c =
    node_ok term_of both_of c.args.left.now c.spend.new.left c.two.new.left c.in_ok-both.both _
    (split_in (program_in c.args.self.now) c.args.matrix.now.positions.now c.args.matrix.now.next c.args.position (all_rows c.args.matrix.now.rows.now) c.in_ok-demanding.demanding.items c.in_ok-others.others.items c.as_slice.result.now c.as_slice-2.result.now c.requires.split c.as_slice.ensures.value c.as_slice-2.ensures.value c.in_ok-demanding.ensures c.in_ok-others.ensures) c.in_ok-spend.ensures (term_of-Or c.in_ok-both.both.0 c.in_ok-both.both.1) c.in_ok-both.ensures

pub term-returns-in_err-spend-in-Var : goal.term-returns-in_err-spend-in-Var
term-returns-in_err-spend-in-Var t c =
    passed_on term_of size (TermLowers (program_in c.args.self.now) c.args.scope.now (term_of c.args.term.now)) c.args.left.now c.spend.new.left c.from_residual.result c.in_err-spend-in-Var.field-0.0 c.from_residual.ensures.1
    (one_spent term_of (TermLowers (program_in c.args.self.now) c.args.scope.now (term_of c.args.term.now)) c.args.left.now c.spend.new.left c.spend.new.left c.in_err-spend-in-Var.field-0.0 c.in_err-spend-in-Var.ensures)

pub term-returns-in_err-spend-in-Lit : goal.term-returns-in_err-spend-in-Lit
term-returns-in_err-spend-in-Lit t c =
    passed_on term_of size (TermLowers (program_in c.args.self.now) c.args.scope.now (term_of c.args.term.now)) c.args.left.now c.spend-in-Lit.new.left c.from_residual-in_err-spend-in-Lit.result c.in_err-spend-in-Lit.field-0.0 c.from_residual-in_err-spend-in-Lit.ensures.1
    (one_spent term_of _ c.args.left.now c.spend-in-Lit.new.left c.spend-in-Lit.new.left c.in_err-spend-in-Lit.field-0.0 c.in_err-spend-in-Lit.ensures)

pub term-returns-in_err-spend-in-Whole : goal.term-returns-in_err-spend-in-Whole
term-returns-in_err-spend-in-Whole t c =
    passed_on term_of size (TermLowers (program_in c.args.self.now) c.args.scope.now (term_of c.args.term.now)) c.args.left.now c.spend-in-Whole.new.left c.from_residual-in_err-spend-in-Whole.result c.in_err-spend-in-Whole.field-0.0 c.from_residual-in_err-spend-in-Whole.ensures.1
    (one_spent term_of _ c.args.left.now c.spend-in-Whole.new.left c.spend-in-Whole.new.left c.in_err-spend-in-Whole.field-0.0 c.in_err-spend-in-Whole.ensures)

pub term-terms-requires : goal.term-terms-requires
term-terms-requires t c =
    (let w = ap term_weight (whole_is c.args.term.now c.in-Whole.head c.in-Whole.arguments c.deref.result.now c.in-Whole.is c.deref.ensures.value) in omega (arith, w, c.decreases), search rules)

pub term-returns-in_err-all-in-Whole : goal.term-returns-in_err-all-in-Whole
term-returns-in_err-all-in-Whole t c =
    node_exit term_of terms_in c.args.left.now c.spend-in-Whole.new.left c.terms.new.left c.terms.new.left c.from_residual-in_err-all-in-Whole.result c.in_err-all-in-Whole.field-0.0
    (whole_in (program_in c.args.self.now) c.args.scope.now c.args.term.now c.in-Whole.head c.in-Whole.arguments c.deref.result.now c.in-Whole.is c.deref.ensures.value) c.in_ok-spend-in-Whole.ensures c.from_residual-in_err-all-in-Whole.ensures.1 c.in_err-all-in-Whole.ensures

pub term-returns-in_err-spend-in-Part : goal.term-returns-in_err-spend-in-Part
term-returns-in_err-spend-in-Part t c =
    passed_on term_of size (TermLowers (program_in c.args.self.now) c.args.scope.now (term_of c.args.term.now)) c.args.left.now c.spend-in-Part.new.left c.from_residual-in_err-spend-in-Part.result c.in_err-spend-in-Part.field-0.0 c.from_residual-in_err-spend-in-Part.ensures.1
    (one_spent term_of _ c.args.left.now c.spend-in-Part.new.left c.spend-in-Part.new.left c.in_err-spend-in-Part.field-0.0 c.in_err-spend-in-Part.ensures)

pub term-terms-requires-in-Part : goal.term-terms-requires-in-Part
term-terms-requires-in-Part t c =
    (let w = ap term_weight (part_is c.args.term.now c.in-Part.head c.in-Part.arguments c.deref-in-Part.result.now c.in-Part.is c.deref-in-Part.ensures.value) in omega (arith, w, c.decreases), search rules)

pub term-returns-in_err-all-in-Part : goal.term-returns-in_err-all-in-Part
term-returns-in_err-all-in-Part t c =
    node_exit term_of terms_in c.args.left.now c.spend-in-Part.new.left c.terms-in-Part.new.left c.terms-in-Part.new.left c.from_residual-in_err-all-in-Part.result c.in_err-all-in-Part.field-0.0
    (part_in (program_in c.args.self.now) c.args.scope.now c.args.term.now c.in-Part.head c.in-Part.arguments c.deref-in-Part.result.now c.in-Part.is c.deref-in-Part.ensures.value) c.in_ok-spend-in-Part.ensures c.from_residual-in_err-all-in-Part.ensures.1 c.in_err-all-in-Part.ensures

pub term-returns-in_err-spend-in-Apply : goal.term-returns-in_err-spend-in-Apply
term-returns-in_err-spend-in-Apply t c =
    passed_on term_of size (TermLowers (program_in c.args.self.now) c.args.scope.now (term_of c.args.term.now)) c.args.left.now c.spend-in-Apply.new.left c.from_residual-in_err-spend-in-Apply.result c.in_err-spend-in-Apply.field-0.0 c.from_residual-in_err-spend-in-Apply.ensures.1
    (one_spent term_of _ c.args.left.now c.spend-in-Apply.new.left c.spend-in-Apply.new.left c.in_err-spend-in-Apply.field-0.0 c.in_err-spend-in-Apply.ensures)

pub term-two-requires : goal.term-two-requires
term-two-requires t c =
    (let w = ap term_weight (apply_is c.args.term.now c.in-Apply.function c.in-Apply.argument c.deref-in-Apply.result.now c.deref-in-Apply-2.result.now c.in-Apply.is c.deref-in-Apply.ensures c.deref-in-Apply-2.ensures) in omega (arith, w, c.decreases), search rules)

pub term-returns-in_err-both-in-Apply : goal.term-returns-in_err-both-in-Apply
term-returns-in_err-both-in-Apply t c =
    node_exit term_of both_of c.args.left.now c.spend-in-Apply.new.left c.two.new.left c.two.new.left c.from_residual-in_err-both-in-Apply.result c.in_err-both-in-Apply.field-0.0
    (apply_in (program_in c.args.self.now) c.args.scope.now c.args.term.now c.in-Apply.function c.in-Apply.argument c.deref-in-Apply.result.now c.deref-in-Apply-2.result.now c.in-Apply.is c.deref-in-Apply.ensures c.deref-in-Apply-2.ensures) c.in_ok-spend-in-Apply.ensures c.from_residual-in_err-both-in-Apply.ensures.1 c.in_err-both-in-Apply.ensures

pub term-returns-in_err-spend-in-Or : goal.term-returns-in_err-spend-in-Or
term-returns-in_err-spend-in-Or t c =
    passed_on term_of size (TermLowers (program_in c.args.self.now) c.args.scope.now (term_of c.args.term.now)) c.args.left.now c.spend-in-Or.new.left c.from_residual-in_err-spend-in-Or.result c.in_err-spend-in-Or.field-0.0 c.from_residual-in_err-spend-in-Or.ensures.1
    (one_spent term_of _ c.args.left.now c.spend-in-Or.new.left c.spend-in-Or.new.left c.in_err-spend-in-Or.field-0.0 c.in_err-spend-in-Or.ensures)

pub term-two-requires-in-Or : goal.term-two-requires-in-Or
term-two-requires-in-Or t c =
    (let w = ap term_weight (or_is c.args.term.now c.in-Or.first c.in-Or.second c.deref-in-Or.result.now c.deref-in-Or-2.result.now c.in-Or.is c.deref-in-Or.ensures c.deref-in-Or-2.ensures) in omega (arith, w, c.decreases), search rules)

pub term-returns-in_err-both-in-Or : goal.term-returns-in_err-both-in-Or
term-returns-in_err-both-in-Or t c =
    node_exit term_of both_of c.args.left.now c.spend-in-Or.new.left c.two-in-Or.new.left c.two-in-Or.new.left c.from_residual-in_err-both-in-Or.result c.in_err-both-in-Or.field-0.0
    (or_in (program_in c.args.self.now) c.args.scope.now c.args.term.now c.in-Or.first c.in-Or.second c.deref-in-Or.result.now c.deref-in-Or-2.result.now c.in-Or.is c.deref-in-Or.ensures c.deref-in-Or-2.ensures) c.in_ok-spend-in-Or.ensures c.from_residual-in_err-both-in-Or.ensures.1 c.in_err-both-in-Or.ensures

pub term-binding-requires : goal.term-binding-requires
term-binding-requires t c =
    (let w = ap term_weight (let_is c.args.term.now c.in-Let.x c.in-Let.value c.in-Let.body c.deref-in-Let.result.now c.deref-in-Let-2.result.now c.in-Let.is c.deref-in-Let.ensures c.deref-in-Let-2.ensures) in omega (arith, w, c.decreases), search rules)

pub term-free-requires : goal.term-free-requires
term-free-requires t c =
    (let w = ap term_weight (free_is c.args.term.now c.in-Free.x c.in-Free.body c.deref-in-Free.result.now c.in-Free.is c.deref-in-Free.ensures) in omega (arith, w, c.decreases), search rules)

pub term-case-requires : goal.term-case-requires
term-case-requires t c =
    (let w = ap term_weight (case_is c.args.term.now c.in-Case.mode c.in-Case.scrutinee c.in-Case.alternatives c.deref-in-Case.result.now c.deref-in-Case-2.result.now c.in-Case.is c.deref-in-Case.ensures c.deref-in-Case-2.ensures.value) in omega (arith, w, c.decreases), search rules)

pub term-returns-in_ok-spend-in-Var : goal.term-returns-in_ok-spend-in-Var
term-returns-in_ok-spend-in-Var t c =
    variable_done (program_in c.args.self.now) c.args.scope.now c.args.term.now c.in-Var.x c.name.result c.args.left.now c.spend.new.left c.in-Var.is c.name.ensures c.in_ok-spend-in-Var.ensures

pub term-returns-in_ok-spend-in-Lit : goal.term-returns-in_ok-spend-in-Lit
term-returns-in_ok-spend-in-Lit t c =
    literal_done (program_in c.args.self.now) c.args.scope.now c.args.term.now c.in-Lit.literal c.args.left.now c.spend-in-Lit.new.left c.in-Lit.is c.in_ok-spend-in-Lit.ensures

pub term-returns-in_ok-all-in-Whole : goal.term-returns-in_ok-all-in-Whole
term-returns-in_ok-all-in-Whole t c =
    node_ok term_of terms_in c.args.left.now c.spend-in-Whole.new.left c.terms.new.left c.in_ok-all-in-Whole.all _
    (whole_in (program_in c.args.self.now) c.args.scope.now c.args.term.now c.in-Whole.head c.in-Whole.arguments c.deref.result.now c.in-Whole.is c.deref.ensures.value) c.in_ok-spend-in-Whole.ensures (whole_written c.in-Whole.head c.in_ok-all-in-Whole.all) c.in_ok-all-in-Whole.ensures

pub term-returns-in_ok-all-in-Part : goal.term-returns-in_ok-all-in-Part
term-returns-in_ok-all-in-Part t c =
    node_ok term_of terms_in c.args.left.now c.spend-in-Part.new.left c.terms-in-Part.new.left c.in_ok-all-in-Part.all _
    (part_in (program_in c.args.self.now) c.args.scope.now c.args.term.now c.in-Part.head c.in-Part.arguments c.deref-in-Part.result.now c.in-Part.is c.deref-in-Part.ensures.value) c.in_ok-spend-in-Part.ensures (part_written c.in-Part.head c.in_ok-all-in-Part.all) c.in_ok-all-in-Part.ensures

pub term-returns-in_ok-both-in-Apply : goal.term-returns-in_ok-both-in-Apply
term-returns-in_ok-both-in-Apply t c =
    node_ok term_of both_of c.args.left.now c.spend-in-Apply.new.left c.two.new.left c.in_ok-both-in-Apply.both _
    (apply_in (program_in c.args.self.now) c.args.scope.now c.args.term.now c.in-Apply.function c.in-Apply.argument c.deref-in-Apply.result.now c.deref-in-Apply-2.result.now c.in-Apply.is c.deref-in-Apply.ensures c.deref-in-Apply-2.ensures) c.in_ok-spend-in-Apply.ensures (term_of-Apply c.in_ok-both-in-Apply.both.0 c.in_ok-both-in-Apply.both.1) c.in_ok-both-in-Apply.ensures

pub term-returns-in_ok-both-in-Or : goal.term-returns-in_ok-both-in-Or
term-returns-in_ok-both-in-Or t c =
    node_ok term_of both_of c.args.left.now c.spend-in-Or.new.left c.two-in-Or.new.left c.in_ok-both-in-Or.both _
    (or_in (program_in c.args.self.now) c.args.scope.now c.args.term.now c.in-Or.first c.in-Or.second c.deref-in-Or.result.now c.deref-in-Or-2.result.now c.in-Or.is c.deref-in-Or.ensures c.deref-in-Or-2.ensures) c.in_ok-spend-in-Or.ensures (term_of-Or c.in_ok-both-in-Or.both.0 c.in_ok-both-in-Or.both.1) c.in_ok-both-in-Or.ensures

pub term-returns-in-Let : goal.term-returns-in-Let
term-returns-in-Let t c =
    as_term term_of (program_in c.args.self.now) c.args.scope.now _ _ c.args.left.now c.binding.new.left c.binding.result
    (let_is c.args.term.now c.in-Let.x c.in-Let.value c.in-Let.body c.deref-in-Let.result.now c.deref-in-Let-2.result.now c.in-Let.is c.deref-in-Let.ensures c.deref-in-Let-2.ensures) c.binding.ensures

pub term-returns-in-Free : goal.term-returns-in-Free
term-returns-in-Free t c =
    as_term term_of (program_in c.args.self.now) c.args.scope.now _ _ c.args.left.now c.free.new.left c.free.result
    (free_is c.args.term.now c.in-Free.x c.in-Free.body c.deref-in-Free.result.now c.in-Free.is c.deref-in-Free.ensures) c.free.ensures

pub term-returns-in-Case : goal.term-returns-in-Case
term-returns-in-Case t c =
    as_term term_of (program_in c.args.self.now) c.args.scope.now _ _ c.args.left.now c.case.new.left c.case.result
    (case_is c.args.term.now c.in-Case.mode c.in-Case.scrutinee c.in-Case.alternatives c.deref-in-Case.result.now c.deref-in-Case-2.result.now c.in-Case.is c.deref-in-Case.ensures c.deref-in-Case-2.ensures.value) c.case.ensures

pub terms-loop-term-init : goal.terms-loop-term-init
terms-loop-term-init t c =
    begun_with (λ (t : Term) (u : clean.Term). TermLowers (program_in c.args.self.now) c.args.scope.now (term_of t) u) size c.args.terms.now _ c.args.left.now (ap (map term_of) c.new-all.ensures.items)

pub terms-offset_bounds-terms-term-index : goal.terms-offset_bounds-terms-term-index
terms-offset_bounds-terms-term-index t c =
    search rules

pub terms-lower-requires : goal.terms-lower-requires
terms-lower-requires t c =
    (let l = in_terms c.args.terms.now c.loop-term.term-index c.term-item.result c.loop-term-test.true c.term-item.is in omega (arith, l, c.decreases), search rules)

pub terms-returns-in_err-one : goal.terms-returns-in_err-one
terms-returns-in_err-one t c =
    passed_on terms_in (total size) _ c.args.left.now c.lower.new.left c.from_residual.result c.in_err-one.field-0.0 c.from_residual.ensures.1
    (gone_wrong terms_in term_of (λ (t : Term) (u : clean.Term). TermLowers (program_in c.args.self.now) c.args.scope.now (term_of t) u) size c.args.terms.now (drop c.loop-term.term-index c.args.terms.now) (drop (c.loop-term.term-index + 1) c.args.terms.now) c.term-item.result (terms_in c.loop-term.all) c.loop-term.left c.lower.new.left c.lower.new.left c.args.left.now c.in_err-one.field-0.0
    (left c.args.terms.now c.loop-term.term-index c.term-item.result c.loop-term-test.true c.term-item.is) c.loop-term.invariant c.in_err-one.ensures)

pub terms-returns-in_err-push : goal.terms-returns-in_err-push
terms-returns-in_err-push t c =
    search rules

pub terms-loop-term-smaller : goal.terms-loop-term-smaller
terms-loop-term-smaller t c =
    search rules

pub terms-loop-term-preserved : goal.terms-loop-term-preserved
terms-loop-term-preserved t c =
    gone_on (λ (t : Term) (u : clean.Term). TermLowers (program_in c.args.self.now) c.args.scope.now (term_of t) u) size c.args.terms.now (drop c.loop-term.term-index c.args.terms.now) (drop (c.loop-term.term-index + 1) c.args.terms.now) c.term-item.result (term_of c.in_ok-one.one) (terms_in c.loop-term.all) (terms_in c.push.new.self) c.loop-term.left c.lower.new.left c.args.left.now
    (left c.args.terms.now c.loop-term.term-index c.term-item.result c.loop-term-test.true c.term-item.is) c.in_ok-one.ensures.0 (λ (z : clean.Term) q. lowers_one (program_in c.args.self.now) (names_of c.args.scope.now.names.now) c.args.scope.now.next (term_of c.term-item.result) z (term_of c.in_ok-one.one) q c.in_ok-one.ensures.0) c.in_ok-one.ensures.1
    (ap (map term_of) c.in_ok-push.ensures.items ∙ map-append term_of c.loop-term.all.items (c.in_ok-one.one ∷ [])) c.loop-term.invariant

pub terms-returns : goal.terms-returns
terms-returns t c =
    finished terms_in (λ (t : Term) (u : clean.Term). TermLowers (program_in c.args.self.now) c.args.scope.now (term_of t) u) size c.args.terms.now (drop c.loop-term.term-index c.args.terms.now) (terms_in c.loop-term.all) c.loop-term.left c.args.left.now c.loop-term.all
    (at_drop_all (λ (ys : List Term). ys) c.args.terms.now c.loop-term.term-index c.loop-term-test.false) refl c.loop-term.invariant

pub tree-returns-then-is_empty : goal.tree-returns-then-is_empty
tree-returns-then-is_empty t c =
    through term_of c.args.left.now c.failure.new.left c.failure.result
    (failing_tree (program_in c.args.self.now) c.args.matrix.now.positions.now c.args.matrix.now.next (all_rows c.args.matrix.now.rows.now) c.args.self.now.failed (no_rows c.args.matrix.now.rows.now c.if-is_empty.ensures) c.requires.failed) c.failure.ensures

pub tree-bounds-rows-0 : goal.tree-bounds-rows-0
tree-bounds-rows-0 t c =
    search rules

pub tree-overlap-requires : goal.tree-overlap-requires
tree-overlap-requires t c =
    (search rules, (c.requires, is_free c.args.matrix.now.rows.now c.index-rows-0.result (get_or c.args.matrix.now.rows.now 0 c.index-rows-0.result) c.as_slice.result.now (some_rows (length c.args.matrix.now.rows.now) c.if-is_empty.ensures) refl c.as_slice.ensures.value (sym c.leftmost.ensures ∙ c.in_default.is)))

pub tree-returns-in_default : goal.tree-returns-in_default
tree-returns-in_default t c =
    c.overlap.ensures

pub tree-returns-in_err-choices-in-Some-demanded_by_all : goal.tree-returns-in_err-choices-in-Some-demanded_by_all
tree-returns-in_err-choices-in-Some-demanded_by_all t c =
    search rules

pub tree-case_at-requires : goal.tree-case_at-requires
tree-case_at-requires t c =
    (search rules, (c.requires, opened_common c.in-Some-demanded_by_all.common (all_rows c.args.matrix.now.rows.now) (sym c.in-Some-demanded_by_all.ensures)))

pub tree-split-requires : goal.tree-split-requires
tree-split-requires t c =
    (search rules, (c.requires, split_first c.args.matrix.now.rows.now c.index-rows-0.result (get_or c.args.matrix.now.rows.now 0 c.index-rows-0.result) c.as_slice.result.now c.in-Some.position (some_rows (length c.args.matrix.now.rows.now) c.if-is_empty.ensures) refl c.as_slice.ensures.value (sym c.in-Some.ensures) (sym c.in-None.ensures)))

pub tree-returns-in_ok-choices-in-Some-demanded_by_all : goal.tree-returns-in_ok-choices-in-Some-demanded_by_all
tree-returns-in_ok-choices-in-Some-demanded_by_all t c =
    as_case_out (program_in c.args.self.now) manner.Rules false c.args.matrix.now c.in-Some-demanded_by_all.common _ c.as_slice-in-Some-demanded_by_all.result.now c.args.left.now c.case_at.new.left c.case_at.result
    (tree_case_in (program_in c.args.self.now) c.args.matrix.now c.in-Some-demanded_by_all.common c.index-rows-0.result (get_or c.args.matrix.now.rows.now 0 c.index-rows-0.result) (some_rows (length c.args.matrix.now.rows.now) c.if-is_empty.ensures) refl (sym c.in-Some-demanded_by_all.ensures)) (c.as_slice-in-Some-demanded_by_all.ensures.value ∙ c.in_ok-choices-in-Some-demanded_by_all.ensures) c.case_at.ensures

pub tree-returns-in-None : goal.tree-returns-in-None
tree-returns-in-None t c =
    c.split.ensures

pub two-lower-requires : goal.two-lower-requires
two-lower-requires t c =
    (search rules, search rules)

pub two-returns-in_err-one : goal.two-returns-in_err-one
two-returns-in_err-one t c =
    passed_on both_of both_size _ c.args.left.now c.lower.new.left c.from_residual.result c.in_err-one.field-0.0 c.from_residual.ensures.1
    (first_stops (program_in c.args.self.now) c.args.first.now c.args.second.now c.args.left.now c.lower.new.left c.lower.new.left c.in_err-one.field-0.0 c.in_err-one.ensures)

pub two-lower-requires-2 : goal.two-lower-requires-2
two-lower-requires-2 t c =
    (search rules, search rules)

pub two-returns-in_err-two : goal.two-returns-in_err-two
two-returns-in_err-two t c =
    passed_on both_of both_size _ c.args.left.now c.lower-2.new.left c.from_residual-in_err-two.result c.in_err-two.field-0.0 c.from_residual-in_err-two.ensures.1
    (second_stops (program_in c.args.self.now) c.args.first.now c.args.second.now c.in_ok-one.one c.args.left.now c.lower.new.left c.lower-2.new.left c.lower-2.new.left c.in_err-two.field-0.0 c.in_ok-one.ensures c.in_err-two.ensures)

pub two-returns-in_err-one-2 : goal.two-returns-in_err-one-2
two-returns-in_err-one-2 t c =
    search rules

pub two-returns-in_err-two-2 : goal.two-returns-in_err-two-2
two-returns-in_err-two-2 t c =
    search rules

pub two-returns : goal.two-returns
two-returns t c =
    both_done (program_in c.args.self.now) c.args.first.now c.args.second.now c.in_ok-one.one c.in_ok-two.two c.in_ok-one-2.one c.in_ok-two-2.two c.args.left.now c.lower.new.left c.lower-2.new.left
    c.in_ok-one.ensures c.in_ok-two.ensures c.in_ok-one-2.ensures.ok c.in_ok-two-2.ensures.ok
