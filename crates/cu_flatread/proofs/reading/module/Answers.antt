use Rattle.cu_flatread.proofs.DoneLemmas.{module_done}
use Rattle.cu_flatread.proofs.KeptLemmas.{declarations_has, extends_again, functions_has, known_kept, texts_has}
use Rattle.cu_flatread.proofs.reading.module.Goals as goal

pub returns-clause-gives : goal.returns-clause-gives
returns-clause-gives c =
    module_done c.quoted.new.names c.imports.new.names c.declarations.new.names
    c.functions.new.names c.operators.new.names c.in_ok-name.name c.in_ok-imports.imports.items
    c.in_ok-types.types.items c.in_ok-functions.functions.items c.in_ok-operators.operators.items
    c.args.cursor.now.rest.now c.word.new.self.rest.now c.quoted.new.self.rest.now
    c.word-2.new.self.rest.now c.imports.new.cursor.rest.now c.word-3.new.self.rest.now
    c.declarations.new.cursor.rest.now c.word-4.new.self.rest.now
    c.functions.new.cursor.rest.now c.word-5.new.self.rest.now c.operators.new.cursor.rest.now
    c.word-6.new.self.rest.now c.in_ok-imports.ensures.names c.in_ok-types.ensures.names
    c.in_ok-functions.ensures.names c.in_ok-operators.ensures.names c.in_ok-name.ensures.known
    c.in_ok-imports.ensures.known c.in_ok-types.ensures.known c.in_ok-functions.ensures.known
    c.in_ok-word.ensures.gives c.in_ok-name.ensures.gives c.in_ok-word-2.ensures.gives
    c.in_ok-imports.ensures.gives c.in_ok-word-3.ensures.gives c.in_ok-types.ensures.gives
    c.in_ok-word-4.ensures.gives c.in_ok-functions.ensures.gives c.in_ok-word-5.ensures.gives
    c.in_ok-operators.ensures.gives c.in_ok-word-6.ensures.gives

pub returns-clause-known : goal.returns-clause-known
returns-clause-known c =
    let one = c.quoted.new.names in
    let two = c.imports.new.names in
    let three = c.declarations.new.names in
    let four = c.functions.new.names in
    let five = c.operators.new.names in
    let from4 = c.in_ok-operators.ensures.names in
    let from3 = extends_again three four five c.in_ok-functions.ensures.names from4 in
    let from2 = extends_again two three five c.in_ok-types.ensures.names from3 in
    let from1 = extends_again one two five c.in_ok-imports.ensures.names from2 in (
      known_kept one five c.in_ok-name.name from1 c.in_ok-name.ensures.known,
      texts_has two five c.in_ok-imports.imports.items from2 c.in_ok-imports.ensures.known,
      declarations_has three five c.in_ok-types.types.items from3 c.in_ok-types.ensures.known,
      functions_has four five c.in_ok-functions.functions.items from4
          c.in_ok-functions.ensures.known,
      c.in_ok-operators.ensures.known,
    )
