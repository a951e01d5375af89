-- What was printed is read again.
use Rattle.std.proofs.Common.{◌≡◌, ℕ, ◌+◌, ◌^◌, ◌<◌, List, ◌++◌, length, drop, subst, sym, take-append-drop}
use Rattle.cu_flatlaws.proofs.GoodModules.{module_good}
use Rattle.cu_flatlaws.proofs.ModuleTextLemmas.{texts_agree}
use Rattle.cu_flatlaws.specs.Readable.{PrintedIsFaultless, PrintedIsOne, PrintedIsText, printed_module}
use Rattle.cu_flatread.specs.Faults.{IsFault, IsFlatText, unfinished, wrong_byte}
use Rattle.cu_flatread.specs.FlatText.{FlatText}
use Rattle.cu_flatread.specs.Modules.{Module}
use Rattle.cu_flattext.specs.Text.{place_of, text_of_module}

pub is_text : PrintedIsText
is_text program name readable =
    let same = texts_agree program name readable.printable in
    record {
      text = same;
      is_module =
          module_good program (place_of name program.kernel.modules) readable.printable readable.in_range
          (subst (λ (text : List ℕ). length text < 2 ^ 64) same readable.short) readable.nested;
    }

pub is_one : ((bytes : List ℕ) (flat other : Module) → FlatText bytes flat → FlatText bytes other → flat ≡ other)
    → PrintedIsOne
is_one one program name flat readable read =
    one (text_of_module program name) flat (printed_module program name) read (is_text program name readable)

-- a text has no fault
no_fault : (bytes : List ℕ) (offset : ℕ) → IsFlatText bytes → IsFault bytes offset → ⊥
no_fault bytes offset read (wrong_byte n below begins wrong) =
    wrong (drop (n + 1) bytes, subst IsFlatText (sym (take-append-drop (n + 1) bytes)) read)
no_fault bytes offset read (unfinished begins wrong) = wrong read

pub is_faultless : PrintedIsFaultless
is_faultless program name offset readable =
    no_fault (text_of_module program name) offset (printed_module program name, is_text program name readable)
