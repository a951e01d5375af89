use Rattle.std.proofs.Common.{◌+◌, ◌*◌, drop, max}
use Rattle.cu_deftree.specs.Inside.Ready.{program_in}
use Rattle.cu_deftree.specs.Inside.RowsOf.{all_rows}
use Rattle.cu_deftree.specs.Inside.Tasks.{BranchLowers, TermLowers, branch_size, branches_of, terms_in}
use Rattle.cu_deftree.specs.LoweredProgram.{size}
use Rattle.cu_deftree.proofs.Passing.{Progress}
use Rattle.cu_deftree.proofs.TaskWeights.{task_weight}
use Rattle.cu_deftree.proofs.Weights.{alternatives_weight, rows_weight, term_weight, terms_weight}
use Rattle.cu_kernel.specs.TermsOf.{alternatives_of, term_of, terms_of}
use Rattle.cu_deftree.proofs.trees.Lowerer.+lowering.Given as goal

abbrev pub decreases-lower : goal.decreases-lower
decreases-lower l = 8 * task_weight l.task.now + 5

abbrev pub decreases-two : goal.decreases-two
decreases-two l = 8 * max (task_weight l.first.now) (task_weight l.second.now) + 6

abbrev pub decreases-terms : goal.decreases-terms
decreases-terms l = 8 * terms_weight (terms_of l.terms.now) + 6

abbrev pub decreases-term : goal.decreases-term
decreases-term l = 8 * term_weight (term_of l.term.now) + 4

abbrev pub decreases-binding : goal.decreases-binding
decreases-binding l = 8 * (1 + (term_weight (term_of l.definition.now.value.now) + term_weight (term_of l.definition.now.body.now))) + 3

abbrev pub decreases-free : goal.decreases-free
decreases-free l = 8 * (1 + term_weight (term_of l.body.now)) + 3

abbrev pub decreases-case : goal.decreases-case
decreases-case l =
    8 * (1 + (term_weight (term_of l.distinction.now.scrutinee.now) + alternatives_weight (alternatives_of l.distinction.now.alternatives.now))) + 3

abbrev pub decreases-case_on_term : goal.decreases-case_on_term
decreases-case_on_term l =
    8 * (1 + (term_weight (term_of l.distinction.now.scrutinee.now) + alternatives_weight (alternatives_of l.distinction.now.alternatives.now))) + 2

abbrev pub decreases-tree : goal.decreases-tree
decreases-tree l = 8 * rows_weight (all_rows l.matrix.now.rows.now) + 4

abbrev pub decreases-overlap : goal.decreases-overlap
decreases-overlap l = 8 * rows_weight (all_rows l.matrix.now.rows.now) + 3

abbrev pub decreases-split : goal.decreases-split
decreases-split l = 8 * rows_weight (all_rows l.matrix.now.rows.now) + 3

abbrev pub decreases-distinction : goal.decreases-distinction
decreases-distinction l = 8 * rows_weight (all_rows l.matrix.now.rows.now) + 4

abbrev pub decreases-first_right_side : goal.decreases-first_right_side
decreases-first_right_side l = 8 * rows_weight (all_rows l.matrix.now.rows.now) + 3

abbrev pub decreases-by_first : goal.decreases-by_first
decreases-by_first l = 8 * rows_weight (all_rows l.matrix.now.rows.now) + 3

abbrev pub decreases-literal_test : goal.decreases-literal_test
decreases-literal_test l = 8 * rows_weight (all_rows l.column.now.matrix.now.rows.now) + 2

abbrev pub decreases-case_at : goal.decreases-case_at
decreases-case_at l = 8 * rows_weight (all_rows l.branching.now.column.matrix.now.rows.now) + 2

abbrev pub decreases-branches : goal.decreases-branches
decreases-branches l = 8 * rows_weight (all_rows l.branching.now.column.matrix.now.rows.now) + 1

abbrev pub decreases-branch : goal.decreases-branch
decreases-branch l = 8 * rows_weight (all_rows l.branching.now.column.matrix.now.rows.now)

abbrev pub invariant-branches-loop-choice : goal.invariant-branches-loop-choice
invariant-branches-loop-choice l =
    Progress (BranchLowers (program_in l.self) l.branching.manner l.branching.has_variables l.branching.column.matrix.now l.branching.column.position) branch_size l.choices
    (drop l.choice-index l.choices) (branches_of l.all) l.left l.fn.left

abbrev pub invariant-terms-loop-term : goal.invariant-terms-loop-term
invariant-terms-loop-term l =
    Progress (λ t u. TermLowers (program_in l.self) l.scope (term_of t) u) size l.terms (drop l.term-index l.terms) (terms_in l.all) l.left l.fn.left
