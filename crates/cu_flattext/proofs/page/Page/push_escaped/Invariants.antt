use Rattle.std.proofs.Common.{◌≡◌, ◌++◌, drop}
use Rattle.std.specs.List.{flat_map}
use Rattle.cu_flattext.specs.Naming.{escaped_byte}
use Rattle.cu_flattext.proofs.page.Page.push_escaped.Given as goal

-- the text so far, and the bytes that are left, are the whole
abbrev pub invariant-loop-byte : goal.invariant-loop-byte
invariant-loop-byte l =
    l.self.text.items ++ flat_map escaped_byte (drop l.byte-index l.byte-items) ≡ l.fn.self.text.items ++ flat_map escaped_byte l.text
