-- A block's state tells whether its tokens are names alone.
use Rattle.std.proofs.Common.{◌≡◌, sym, refl, false, List, [], ◌∷◌, fold}
use Rattle.cu_lex.specs.declared.token.Mark.TheVariants as mark
use Rattle.cu_layout.specs.declared.begun.Begun.TheVariants as begun
use Rattle.cu_layout.specs.declared.form.Form.{Form}
use Rattle.cu_layout.specs.declared.form.Form.TheVariants as form
use Rattle.cu_layout.specs.Inside.Entries.{next_state, begun_of, is_names}
use Rattle.cu_layout.specs.Forms.{only_names}

other : (tokens : List Form) → is_names (fold next_state begun.Other tokens) ≡ false
other [] = refl
other (form.Mark mark ∷ more) = other more
other (what ∷ more) = other more

pub only_names-begun_of : (tokens : List Form) → only_names tokens ≡ is_names (begun_of tokens)
only_names-begun_of [] = refl
only_names-begun_of (form.Name ∷ more) = only_names-begun_of more
only_names-begun_of (form.Mark mark.Comma ∷ more) = only_names-begun_of more
only_names-begun_of (form.Mark mark.OpenParen ∷ []) = refl
only_names-begun_of (form.Mark mark.OpenParen ∷ form.Operator ∷ []) = refl
only_names-begun_of (form.Mark mark.OpenParen ∷ form.Operator ∷ form.Mark mark.CloseParen ∷ more) = only_names-begun_of more
only_names-begun_of (form.Mark mark.OpenParen ∷ form.Operator ∷ _ ∷ more) = sym (other more)
only_names-begun_of (form.Mark mark.OpenParen ∷ form.Mark mark.Backquote ∷ []) = refl
only_names-begun_of (form.Mark mark.OpenParen ∷ form.Mark mark.Backquote ∷ form.Name ∷ []) = refl
only_names-begun_of (form.Mark mark.OpenParen ∷ form.Mark mark.Backquote ∷ form.Name ∷ form.Mark mark.Backquote ∷ []) = refl
only_names-begun_of (form.Mark mark.OpenParen ∷ form.Mark mark.Backquote ∷ form.Name ∷ form.Mark mark.Backquote ∷ form.Mark mark.CloseParen ∷ more) = only_names-begun_of more
only_names-begun_of (form.Mark mark.OpenParen ∷ form.Mark mark.Backquote ∷ form.Name ∷ form.Mark mark.Backquote ∷ _ ∷ more) = sym (other more)
only_names-begun_of (form.Mark mark.OpenParen ∷ form.Mark mark.Backquote ∷ form.Name ∷ _ ∷ more) = sym (other more)
only_names-begun_of (form.Mark mark.OpenParen ∷ form.Mark mark.Backquote ∷ _ ∷ more) = sym (other more)
only_names-begun_of (form.Mark mark.OpenParen ∷ _ ∷ more) = sym (other more)
only_names-begun_of (_ ∷ more) = sym (other more)
