use Rattle.std.proofs.Common.{sym, subst}
use Rattle.std.specs.Str.{IsUtf8}
use Rattle.cu_flatread.proofs.NameLemmas.{text_utf8}
use Rattle.cu_flatread.specs.declared.quoted.Within.TheVariants as within
use Rattle.cu_flatread.proofs.cursor.Cursor.quoted.Goals as goal

pub returns-clause-gives : goal.returns-clause-gives
returns-clause-gives c =
    absurd (c.in-Err.ensures.cases.0
    (subst IsUtf8 (sym c.as_slice.ensures.value)
    (text_utf8 within.Between c.word.new.self.rest.now c.in_ok-text.text.items
    c.text.new.self.rest.now c.in_ok-text.ensures.gives)))
