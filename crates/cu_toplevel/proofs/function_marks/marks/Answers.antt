use Rattle.std.proofs.Common.{◌∙◌, ◌++◌, ap, map}
use Rattle.cu_translation.specs.Numbered.{groups_in}
use Rattle.cu_translation.specs.Parts.{function_mark}
use Rattle.cu_toplevel.proofs.function_marks.marks.Goals as goal

pub returns : goal.returns
returns c = λ names r is.
    c.in_ok-add_functions.ensures names r is ∙ ap (λ marks. marks ++ map (function_mark r) (groups_in r.m)) (c.in_ok-marks.ensures names r is)
