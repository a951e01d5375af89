-- The labels that the code's table of names and program stand for in a display.
use Rattle.cu_values.specs.declared.labels.ProgramNames.{ProgramNames}
use Rattle.cu_values.specs.Display.{Labels}
use Rattle.cu_values.specs.ProgramLabels.{labels_of}

-- the labels that the names of the code stand for
abbrev pub labels_meaning : ProgramNames → Labels
labels_meaning names = labels_of names.names.now names.program.now
