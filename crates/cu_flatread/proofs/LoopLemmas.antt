-- Laws on loops over the elements of a list: what each round and each exit gives.
use Rattle.std.proofs.Common.{◌≡◌, ℕ, ◌≤◌, Bool, true, List, Result, Ok, Err, IsErrAnd, length, sym, subst, ◌∙◌}
use Rattle.cu_flatread.proofs.ListLemmas.{more_bad, more_stop}
use Rattle.cu_flatread.specs.Inside.Words.{Fails, Gives, Passes, Read, goes_on, joined, more_elements}
use Rattle.cu_flatread.specs.declared.stop.Stop.{Stop}
use Rattle.cu_flatread.specs.declared.stop.Stop.TheVariants as stop

fails_gives : {X Y : Type 0} (view : X → Y) (e : Stop) (rest : List ℕ) (read : Read Y)
    → Fails e read → Gives view (Err e) rest read
fails_gives view (stop.At left) rest read fails = fails
fails_gives view stop.NoMemory rest read fails = fails

pub gives_fails : {X Y : Type 0} (view : X → Y) (e : Stop) (rest : List ℕ) (read : Read Y)
    → Gives view (Err e) rest read → Fails e read
gives_fails view (stop.At left) rest read fails = fails
gives_fails view stop.NoMemory rest read fails = fails

-- an error that is handed on
pub handed_on : {X Y : Type 0} (view : X → Y) (result : Result X Stop) (e : Stop) (rest : List ℕ)
    (read : Read Y) → IsErrAnd result (λ s. s ≡ e) → Fails e read → Gives view result rest read
handed_on view (Ok x) e rest read is fails = absurd is
handed_on view (Err s) e rest read is fails =
    fails_gives view s rest read (subst (λ (s : Stop). Fails s read) (sym is) fails)

stop_fails : {A : Type 0} (element : List ℕ → Read A) (room : ℕ) (bytes rest : List ℕ)
    (xs : List A) (whole : Read (List A)) (e : Stop)
    → Gives {X = Bool} (λ x. x) (Err e) rest (goes_on bytes) → length bytes ≤ room
    → joined xs (more_elements element room bytes) ≡ whole → Fails e whole
stop_fails element room bytes rest xs whole (stop.At left) fails few is =
    sym is ∙ more_stop element room bytes left xs fails few
stop_fails element room bytes rest xs whole stop.NoMemory fails few is = tt

bad_fails : {A X : Type 0} (view : X → A) (element : List ℕ → Read A) (room : ℕ)
    (bytes after rest : List ℕ) (xs : List A) (whole : Read (List A)) (e : Stop)
    → goes_on bytes ≡ Ok (true, after) → Gives view (Err e) rest (element after)
    → length bytes ≤ room → joined xs (more_elements element room bytes) ≡ whole → Fails e whole
bad_fails view element room bytes after rest xs whole (stop.At left) comma fails few is =
    sym is ∙ more_bad element room bytes after left xs comma fails few
bad_fails view element room bytes after rest xs whole stop.NoMemory comma fails few is = tt

-- the exit where neither a comma nor the end of the list comes
pub list_stops : {A X : Type 0} (view : X → List A) (element : List ℕ → Read A) (room : ℕ)
    (bytes rest end : List ℕ) (xs : List A) (whole : Read (List A)) (result : Result X Stop)
    (e : Stop) → IsErrAnd result (λ s. s ≡ e)
    → Gives {X = Bool} (λ x. x) (Err e) rest (goes_on bytes) → length bytes ≤ room
    → joined xs (more_elements element room bytes) ≡ whole → Gives view result end whole
list_stops view element room bytes rest end xs whole result e is fails few so =
    handed_on view result e end whole is (stop_fails element room bytes rest xs whole e fails few so)

-- the exit where no element comes
pub list_bad : {A B X : Type 0} (view : X → List A) (one : B → A) (element : List ℕ → Read A)
    (room : ℕ) (bytes after rest end : List ℕ) (xs : List A) (whole : Read (List A))
    (result : Result X Stop) (e : Stop) → IsErrAnd result (λ s. s ≡ e)
    → goes_on bytes ≡ Ok (true, after) → Gives one (Err e) rest (element after)
    → length bytes ≤ room → joined xs (more_elements element room bytes) ≡ whole
    → Gives view result end whole
list_bad view one element room bytes after rest end xs whole result e is comma fails few so =
    handed_on view result e end whole is
    (bad_fails one element room bytes after rest xs whole e comma fails few so)

-- ---- what breaks off where something in it does

pub fails_by : {X Y Z : Type 0} (view : X → Y) (e : Stop) (rest : List ℕ) (read : Read Y)
    (whole : Read Z) → ((left : ℕ) → read ≡ Err left → whole ≡ Err left)
    → Gives view (Err e) rest read → Fails e whole
fails_by view (stop.At left) rest read whole so fails = so left fails
fails_by view stop.NoMemory rest read whole so fails = tt

pub fails_by_word : {Z : Type 0} (e : Stop) (rest : List ℕ) (read : Result (List ℕ) ℕ)
    (whole : Read Z) → ((left : ℕ) → read ≡ Err left → whole ≡ Err left)
    → Passes (Err e) rest read → Fails e whole
fails_by_word (stop.At left) rest read whole so fails = so left fails
fails_by_word stop.NoMemory rest read whole so fails = tt
