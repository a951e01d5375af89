use Rattle.std.proofs.Common.{ℕ, List, Option, map, take}
use Rattle.std.specs.List.{All}
use Rattle.cu_names.specs.declared.names.NameId.{NameId}
use Rattle.cu_names.specs.Texts.{AllDiffer}
use Rattle.cu_syntax.specs.Names.{name_meaning}
use Rattle.cu_syntax.specs.Owners.{NameIsOf, TypeIsOf}
use Rattle.cu_syntax.specs.Syntax.{TypeTerm}
use Rattle.cu_syntax.specs.Types.{type_meaning}
use Rattle.cu_toplevel.specs.Inside.SignatureTables.{AreSignatures, and_several}
use Rattle.cu_toplevel.proofs.signature_table.Signatures.add_all.Given as goal

abbrev pub invariant-functions : goal.invariant-functions
invariant-functions l = (owner : NameId) (names : List (List ℕ)) (told : List ℕ → Option TypeTerm) → AllDiffer names → All (NameIsOf owner names) l.functions → TypeIsOf owner names l.declared
    → AreSignatures owner names told l.fn.self
    → AreSignatures owner names (and_several (map (name_meaning names) (take l.function-index l.functions)) (type_meaning names l.declared) told) l.self
