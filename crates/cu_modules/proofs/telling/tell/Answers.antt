use Rattle.cu_modules.proofs.telling.tell.Goals as goal

pub returns : goal.returns
returns c = λ owner names own.
    record { told = λ before is. c.tell.ensures owner names before (record { place = own.place; name = own.text }) is }
