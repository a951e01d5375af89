use Rattle.cu_toplevel.proofs.declarations.Declarations.new.Goals as goal

pub returns : goal.returns
returns c = λ names. record { types = c.new.ensures names; constructors = c.new-2.ensures names; synonyms = c.new-3.ensures names; functions = c.new-4.ensures names }
