-- What the code answers, by the readers of the logic.
use Rattle.std.specs.Prelude.{◌≡◌, ℕ, Result, Ok, Err}
use Rattle.cu_prooftext.specs.declared.fault.Fault.{Fault}
use Rattle.cu_prooftext.specs.declared.fault.Fault.TheVariants as fault

-- A fault is that of the reader, unless memory ran out.
abbrev pub Fails : {B : Type 0} → Fault → Result B ℕ → Type 0
Fails fault.NoMemory read = Unit {0}
Fails (fault.Left n) read = read ≡ Err n

-- What is answered stands for what the reader gives, unless memory ran out.
abbrev pub Gives : {A B : Type 0} → (A → B) → Result A Fault → Result B ℕ → Type 0
Gives view (Ok x) read = read ≡ Ok (view x)
Gives view (Err e) read = Fails e read
