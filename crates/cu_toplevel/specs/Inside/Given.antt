-- What the code's tables of what is built in stand for.
use Rattle.std.specs.Prelude.{ℕ, List}
use Rattle.std.specs.Borrow.{Bor}
use Rattle.cu_calculus.specs.declared.builtin.Primitive.{Primitive}
use Rattle.cu_calculus.specs.Valid.{external_arity}
use Rattle.cu_translation.specs.Externals.{External, external}
use Rattle.cu_translation.specs.Numbered.{Declared, declared}

abbrev pub given_text : Bor (List ℕ) × ℕ → List ℕ
given_text g = g.0.now

abbrev pub given_meaning : List ℕ → Bor (List ℕ) × ℕ → Declared
given_meaning owner g = declared owner g.0.now g.1

abbrev pub external_text : Bor (List ℕ) × Primitive → List ℕ
external_text g = g.0.now

abbrev pub external_meaning : Bor (List ℕ) × Primitive → External
external_meaning g = external g.0.now g.1

abbrev pub operation_meaning : List ℕ → Bor (List ℕ) × Primitive → Declared
operation_meaning owner g = declared owner g.0.now (external_arity g.1)
