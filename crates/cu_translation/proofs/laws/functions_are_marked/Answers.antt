use Rattle.cu_translation.proofs.Marked.{marks_are, marks_capture_nothing}
use Rattle.cu_translation.proofs.laws.functions_are_marked.Goals as goal

pub returns-clause-marks : goal.returns-clause-marks
returns-clause-marks c = marks_are

pub returns-clause-uncaptured : goal.returns-clause-uncaptured
returns-clause-uncaptured c = marks_capture_nothing
