-- What a trial writes, line after line.
use Rattle.std.proofs.Common.{List, [], ◌++◌, ℕ, Option, sym, subst}
use Rattle.std.proofs.lemmas.List.{append-nil}
use Rattle.cu_search.specs.Written.{Adds, AddsPrefix}
use Rattle.cu_search.proofs.WrittenLemmas.{Continues, begins, continues, ends, prefix, part_prefix}

module _ (first second third : List ℕ) where
  abbrev pub whole_text : List ℕ
  whole_text = first ++ (second ++ (third ++ []))

  -- a prefix of the first line
  pub in_first : (a b : Option (List ℕ)) → AddsPrefix a b first → AddsPrefix a b whole_text
  in_first a b h = part_prefix a b first (second ++ (third ++ [])) h

  after_first : (a b : Option (List ℕ)) → Adds a b first → Continues a b whole_text (second ++ (third ++ []))
  after_first a b h = continues a a b whole_text first (second ++ (third ++ [])) (begins a whole_text) h

  -- the first line and a prefix of the second
  pub in_second : (a b c : Option (List ℕ)) → Adds a b first → AddsPrefix b c second → AddsPrefix a c whole_text
  in_second a b c h k =
      prefix a b c whole_text (second ++ (third ++ [])) (after_first a b h) (part_prefix b c second (third ++ []) k)

  after_second : (a b c : Option (List ℕ)) → Adds a b first → Adds b c second → Continues a c whole_text (third ++ [])
  after_second a b c h k = continues a b c whole_text second (third ++ []) (after_first a b h) k

  -- two lines and a prefix of the third
  pub in_third : (a b c d : Option (List ℕ)) → Adds a b first → Adds b c second → AddsPrefix c d third → AddsPrefix a d whole_text
  in_third a b c d h k l =
      prefix a c d whole_text (third ++ []) (after_second a b c h k) (subst (AddsPrefix c d) (sym (append-nil third)) l)

  -- all three lines
  pub all_three : (a b c d : Option (List ℕ)) → Adds a b first → Adds b c second → Adds c d third → Adds a d whole_text
  all_three a b c d h k l =
      ends a c d whole_text (third ++ []) (after_second a b c h k) (subst (Adds c d) (sym (append-nil third)) l)
