use Rattle.kernel_tests.proofs.kernel_functions.+choice.Given as goal

abbrev pub decreases-choice : goal.decreases-choice
decreases-choice l = l.depth
