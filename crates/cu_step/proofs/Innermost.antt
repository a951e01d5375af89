-- The innermost frame, and what is outside of it.
use Rattle.std.proofs.Common.{◌≡◌, ℕ, ◌-◌, ◌<◌, ◌≤◌, true, List, [], ◌∷◌, ◌++◌, refl, ap, sym, ◌∙◌, subst, length, set, take, get_or, arith}
use Rattle.cu_step.specs.declared.need.Frame.{Frame}
use Rattle.cu_step.specs.declared.need.Walk.{Walk}
use Rattle.cu_step.specs.Inside.Walk.{Found, flagged, found, outside_of, with_frame}
use Rattle.cu_step.proofs.Frames.{flagged_last}
use Rattle.cu_step.proofs.FrameEnds.{before_last}

-- the frames outside of the last one, and the last one
last_apart : (frames : List Frame) (default : Frame) → 1 ≤ length frames → frames ≡ take (length frames - 1) frames ++ get_or frames (length frames - 1) default ∷ []
last_apart [] default some = let no : ⊥ = omega arith in absurd no
last_apart (frame ∷ []) default some = refl
last_apart (frame ∷ other ∷ frames) default some =
    ap (λ (fs : List Frame). frame ∷ fs) (last_apart (other ∷ frames) default (omega arith))
    ∙ ap (λ i. take i (frame ∷ other ∷ frames) ++ get_or (frame ∷ other ∷ frames) i default ∷ []) (sym (before_last frame other frames))

last_of : (items frames : List Frame) (default : Frame) → frames ≡ items → 1 ≤ length frames
    → items ≡ take (length items - 1) items ++ get_or frames (length frames - 1) default ∷ []
last_of items frames default same some =
    subst (λ (fs : List Frame). fs ≡ take (length fs - 1) fs ++ get_or frames (length frames - 1) default ∷ []) same (last_apart frames default some)

pub innermost_of : (walk : Walk) (frames : List Frame) (default : Frame) → frames ≡ walk.frames.items → 1 ≤ length frames
    → found walk ≡ with_frame (outside_of (found walk)) (get_or frames (length frames - 1) default)
innermost_of walk frames default same some = ap (λ (fs : List Frame). record (found walk) { frames = fs }) (last_of walk.frames.items frames default same some)

-- another frame in the place of the last one
last_put : (frames : List Frame) (frame : Frame) → 0 < length frames → set frames (length frames - 1) frame ≡ take (length frames - 1) frames ++ frame ∷ []
last_put [] frame some = let no : ⊥ = omega arith in absurd no
last_put (x ∷ []) frame some = refl
last_put (x ∷ y ∷ frames) frame some =
    ap (λ i. set (x ∷ y ∷ frames) i frame) (before_last x y frames)
    ∙ ap (λ (fs : List Frame). x ∷ fs) (last_put (y ∷ frames) frame (omega arith))
    ∙ ap (λ i. take i (x ∷ y ∷ frames) ++ frame ∷ []) (sym (before_last x y frames))

pub innermost_put : (walk : Walk) (count : ℕ) (frame : Frame) → count ≡ length walk.frames.items → 0 < length walk.frames.items
    → record (found walk) { frames = set walk.frames.items (count - 1) frame } ≡ with_frame (outside_of (found walk)) frame
innermost_put walk count frame same some =
    ap (λ (fs : List Frame). record (found walk) { frames = fs })
    (ap (λ n. set walk.frames.items (n - 1) frame) same ∙ last_put walk.frames.items frame some)

pub innermost_off : (walk : Walk) (news : List Frame) (count : ℕ) → news ≡ take (count - 1) walk.frames.items → count ≡ length walk.frames.items
    → record (found walk) { frames = news } ≡ outside_of (found walk)
innermost_off walk news count is same =
    ap (λ (fs : List Frame). record (found walk) { frames = fs }) (is ∙ ap (λ n. take (n - 1) walk.frames.items) same)

-- where there is an innermost frame, there is a frame
some_frame : (frames : List Frame) (frame : Frame) → 0 < length (frames ++ frame ∷ [])
some_frame [] frame = omega arith
some_frame (x ∷ frames) frame = omega arith

pub innermost_there : (f : Found) (frame : Frame) → f ≡ with_frame (outside_of f) frame → 0 < length f.frames
innermost_there f frame is =
    subst (λ (fs : List Frame). 0 < length fs) (sym (ap (λ (g : Found). g.frames) is)) (some_frame (take (length f.frames - 1) f.frames) frame)

-- the innermost node waits, where there is one
pub innermost_waits : (f new : Found) (frame : Frame) → f ≡ with_frame (outside_of f) frame → new ≡ with_frame (outside_of f) (record frame { waits = true })
    → new ≡ record f { frames = flagged f.frames }
innermost_waits f new frame is now =
    now
    ∙ ap (λ (fs : List Frame). record f { frames = fs })
    (sym (flagged_last (take (length f.frames - 1) f.frames) frame) ∙ ap (λ (g : Found). flagged g.frames) (sym is))

pub empty_waits : (frames : List Frame) → frames ≡ [] → frames ≡ flagged frames
unfolding flagged
empty_waits frames none = none ∙ sym (ap flagged none)
