-- Tokens that have no partner.
use Rattle.std.proofs.Common.{◌≡◌, ◌∙◌, false, List, [], ◌∷◌, None, Some, if◌then◌else◌, refl, sym, ap, subst, append-nil, true≢false}
use Rattle.std.specs.Option.{option_map}
use Rattle.cu_names.specs.declared.place.Place.{Place}
use Rattle.cu_lex.specs.declared.token.Keyword.TheVariants as keyword
use Rattle.cu_lex.specs.declared.token.LayoutMark.TheVariants as layout
use Rattle.cu_lex.specs.declared.token.Mark.TheVariants as mark
use Rattle.cu_lex.specs.declared.token.Token.{Token}
use Rattle.cu_layout.specs.declared.form.Form.{Form}
use Rattle.cu_layout.specs.declared.form.Form.TheVariants as form
use Rattle.cu_layout.specs.declared.form.Opening.{Opening}
use Rattle.cu_layout.specs.declared.stack.Entry.{Entry as Standing}
use Rattle.cu_layout.specs.Inside.Entries.{stack_of, Lays}
use Rattle.cu_layout.specs.Forms.{goes_on}
use Rattle.cu_layout.specs.Rules.{Stack, is_partner, marks_then, no_marks, partner_end, step_at_partner, to_partner}
use Rattle.cu_layout.specs.Rules.Entry.{Block, Brace, Open}

is_partner-none : (what : Form) (opening : Opening) → goes_on what ≡ false → is_partner what opening ≡ false
is_partner-none (form.Keyword keyword.In) opening never = absurd (true≢false never)
is_partner-none (form.Keyword keyword.Then) opening never = absurd (true≢false never)
is_partner-none (form.Keyword keyword.Else) opening never = absurd (true≢false never)
is_partner-none (form.Keyword keyword.Of) opening never = absurd (true≢false never)
is_partner-none (form.Mark mark.Comma) opening never = absurd (true≢false never)
is_partner-none (form.Mark mark.CloseParen) opening never = absurd (true≢false never)
is_partner-none (form.Mark mark.CloseSquare) opening never = absurd (true≢false never)
is_partner-none _ opening never = refl

to_partner-none : (what : Form) (stack : Stack) → goes_on what ≡ false → to_partner what stack ≡ None
to_partner-none what [] never = refl
to_partner-none what (Block n tokens ∷ below) never = ap (option_map (marks_then (layout.Close ∷ []))) (to_partner-none what below never)
to_partner-none what (Brace ∷ below) never = refl
to_partner-none what (Open opening ∷ below) never =
    ap (λ b. if b then Some (no_marks (Open opening ∷ below)) else to_partner what below) (is_partner-none what opening never) ∙ to_partner-none what below never

pub lays-nothing : (what : Form) (place : Place) (laid : List Token) (stack : List Standing) → goes_on what ≡ false → Lays place laid laid stack (partner_end what (stack_of stack))
lays-nothing what place laid stack never =
    let same = ap (step_at_partner what (stack_of stack)) (to_partner-none what (stack_of stack) never) in
    subst (Lays place laid laid stack) (sym same) (record { tokens = sym (append-nil laid); stack = refl })
