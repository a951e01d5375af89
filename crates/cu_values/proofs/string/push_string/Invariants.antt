-- What is written, and the text of the characters that are left, are the whole.
use Rattle.std.proofs.Common.{◌≡◌, ◌++◌, ◌<◌, ◌≤◌, ◌-◌, true, drop, length}
use Rattle.std.specs.String.{string_bytes}
use Rattle.cu_values.specs.Cells.{suffix, first, read_all, IsSpelled}
use Rattle.cu_values.specs.Display.{characters, string_text}
use Rattle.cu_values.specs.Inside.Tasks.{are_characters}
use Rattle.cu_values.proofs.StringLemmas.{string_after}
use Rattle.cu_values.proofs.string.push_string.Given as goal

abbrev pub invariant-loop-c : goal.invariant-loop-c
invariant-loop-c l = record {
  from : l.start ≤ l.at;
  within : l.at < length l.cells;
  spelled : IsSpelled (drop l.at l.cells);
  letters : are_characters (first (read_all (drop l.at l.cells))) ≡ true;
  others : suffix 1 (read_all (drop l.at l.cells)) ≡ suffix 1 (read_all (drop l.start l.cells));
  text : string_bytes l.text ++ string_after l.after_number (characters (first (read_all (drop l.at l.cells))))
      ≡ string_bytes l.initial.text ++ string_text (characters (first (read_all (drop l.start l.cells))));
}

abbrev pub decreases-loop-c : goal.decreases-loop-c
decreases-loop-c l = length l.cells - l.at
