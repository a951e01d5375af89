-- Which bytes begin a UTF-8 text.
use Rattle.std.proofs.Common.{◌≡◌, ℕ, zero, suc, ◌+◌, ◌*◌, ◌/◌, ◌%◌, ◌<◌, ◌≤◌, Bool, true, ◌||◌, ⊎_elim, List, [], ◌∷◌, ◌++◌, length, slice_get, Some, refl, sym, ap, subst, ◌∙◌, append_assoc, arith, length-append}
use Rattle.std.proofs.Math.Utf8.{encode, encodes, scalar, scalars, scalar_cases, low_scalar}
use Rattle.std.proofs.lemmas.Bool.{and_parts, lt-ltb, le-ltb, le-leb, or_right, cases_lt, or_cases}
use Rattle.std.proofs.lemmas.Str.{IsUtf8-from_is_utf8, is_utf8-from_IsUtf8, IsUtf8-append, IsUtf8-encode, IsUtf8-nil}
use Rattle.std.specs.Char.{IsScalar}
use Rattle.std.specs.List.{list_any}
use Rattle.std.specs.Str.{IsUtf8, is_utf8}
use Rattle.cu_lex.specs.Decoding.{begins_text, endings}
use Rattle.cu_lex.specs.Laws.{BeginsTexts}

any_at : {X : Type 0} (p : X → Bool) (xs : List X) (i : ℕ) (x : X) → slice_get xs i ≡ Some x → p x ≡ true → list_any p xs ≡ true
any_at p [] i x at is = cc
any_at p (y ∷ xs) zero x at is =
    let same : y ≡ x = cc in
    ap (λ b. b || list_any p xs) (ap p same ∙ is)
any_at p (y ∷ xs) (suc i) x at is = or_right (p y) (list_any p xs) (any_at p xs i x at is)

found_any : {X : Type 0} (p : X → Bool) (xs : List X) → list_any p xs ≡ true → (x : X) × (p x ≡ true)
found_any p [] is = cc
found_any p (x ∷ xs) is = ⊎_elim (λ h. (x, h)) (λ h. found_any p xs h) (or_cases (p x) (list_any p xs) is)

-- the bytes of a character, by how many there are
encode-2 : (c : ℕ) → 128 ≤ c → c < 2048 → encode c ≡ (192 + c / 64) ∷ (128 + c % 64) ∷ []
unfolding encode
encode-2 c low high = rw (le-ltb c 128 low, lt-ltb c 2048 high) refl

encode-3 : (c : ℕ) → 2048 ≤ c → c < 65536 → encode c ≡ (224 + c / 4096) ∷ (128 + (c / 64) % 64) ∷ (128 + c % 64) ∷ []
unfolding encode
encode-3 c low high =
    let low' : 128 ≤ c = omega arith in
    rw (le-ltb c 128 low', le-ltb c 2048 low, lt-ltb c 65536 high) refl

encode-4 : (c : ℕ) → 65536 ≤ c → encode c ≡ (240 + c / 262144) ∷ (128 + (c / 4096) % 64) ∷ (128 + (c / 64) % 64) ∷ (128 + c % 64) ∷ []
unfolding encode
encode-4 c low =
    let low' : 128 ≤ c = omega arith in
    let low'' : 2048 ≤ c = omega arith in
    rw (le-ltb c 128 low', le-ltb c 2048 low'', le-ltb c 65536 low) refl

encode-1 : (c : ℕ) → c < 128 → encode c ≡ c ∷ []
unfolding encode
encode-1 c high = rw (lt-ltb c 128 high) refl

-- what is to be shown: one of the endings completes the bytes
abbrev Completed : List ℕ → Type 0
Completed bytes = (i : ℕ) × (e : List ℕ) × (slice_get endings i ≡ Some e) × IsUtf8 (bytes ++ e)

-- a character whose bytes are these and an ending
completed_by : (bytes e : List ℕ) (i c : ℕ) → slice_get endings i ≡ Some e → IsScalar c → encode c ≡ bytes ++ e → Completed bytes
completed_by bytes e i c at scalar is = (i, e, at, subst IsUtf8 is (IsUtf8-encode c scalar))

-- a prefix of two bytes
complete_2 : (c b : ℕ) → c < 2048 → 128 ≤ c → b ≡ 192 + c / 64 → Completed (b ∷ [])
complete_2 c b high low is =
    let d = (c / 64) * 64 in
    let e : encode d ≡ (192 + d / 64) ∷ (128 + d % 64) ∷ [] = encode-2 d (omega arith) (omega arith) in
    let same : d / 64 ≡ c / 64 = omega arith in
    let none : d % 64 ≡ 0 = omega arith in
    completed_by (b ∷ []) (0x80 ∷ []) 1 d refl (low_scalar d (omega arith)) (e ∙ (λ j. (192 + same j) ∷ (128 + none j) ∷ []) ∙ ap (λ x. x ∷ 128 ∷ []) (sym is))

high_scalar : (d : ℕ) → 57344 ≤ d → d < 1114112 → scalar d ≡ true
high_scalar d low high =
    let low' : 55296 ≤ d = omega arith in
    rw (le-ltb d 55296 low', le-leb 57344 d low, lt-ltb d 1114112 high) refl

-- a number rounded down within the scalar values is one, where they begin and end at multiples
rounded_scalar : (c d : ℕ) → scalar c ≡ true → d ≤ c → (57344 ≤ c → 57344 ≤ d) → scalar d ≡ true
rounded_scalar c d is below above =
    ⊎_elim (λ low. low_scalar d (omega arith)) (λ high. high_scalar d (above high.0) (omega arith)) (scalar_cases c is)

-- prefixes of three bytes
complete_3 : (c b : ℕ) → scalar c ≡ true → 2048 ≤ c → c < 65536 → b ≡ 224 + c / 4096 → Completed (b ∷ [])
complete_3 c b is low high at = ⊎_elim first (later) (cases_lt (c / 4096) 1)
  where
    first : c / 4096 < 1 → Completed (b ∷ [])
    first zero_quotient =
        let none : c / 4096 ≡ 0 = omega arith in
        let same : b ≡ 224 = at ∙ ap (λ q. 224 + q) none in
        subst (λ x. Completed (x ∷ [])) (sym same) (completed_by (224 ∷ []) (0xA0 ∷ 0x80 ∷ []) 4 2048 refl (low_scalar 2048 (omega arith)) (encode-3 2048 (omega arith) (omega arith)))

    later : 1 ≤ c / 4096 → Completed (b ∷ [])
    later some_quotient =
        let d = (c / 4096) * 4096 in
        let e = encode-3 d (omega arith) (omega arith) in
        let same : d / 4096 ≡ c / 4096 = omega arith in
        let second : (d / 64) % 64 ≡ 0 = omega arith in
        let third : d % 64 ≡ 0 = omega arith in
        completed_by (b ∷ []) (0x80 ∷ 0x80 ∷ []) 2 d refl (rounded_scalar c d is (omega arith) (λ h. omega arith))
        (e ∙ (λ j. (224 + same j) ∷ (128 + second j) ∷ (128 + third j) ∷ []) ∙ ap (λ x. x ∷ 128 ∷ 128 ∷ []) (sym at))

complete_3-2 : (c b₀ b₁ : ℕ) → scalar c ≡ true → 2048 ≤ c → c < 65536 → b₀ ≡ 224 + c / 4096 → b₁ ≡ 128 + (c / 64) % 64 → Completed (b₀ ∷ b₁ ∷ [])
complete_3-2 c b₀ b₁ is low high at₀ at₁ =
    let d = (c / 64) * 64 in
    let e = encode-3 d (omega arith) (omega arith) in
    let first : d / 4096 ≡ c / 4096 = omega arith in
    let second : d / 64 ≡ c / 64 = omega arith in
    let third : d % 64 ≡ 0 = omega arith in
    completed_by (b₀ ∷ b₁ ∷ []) (0x80 ∷ []) 1 d refl (rounded_scalar c d is (omega arith) (λ h. omega arith))
    (e ∙ (λ j. (224 + first j) ∷ (128 + second j % 64) ∷ (128 + third j) ∷ []) ∙ (λ j. sym at₀ j ∷ sym at₁ j ∷ 128 ∷ []))

-- prefixes of four bytes
complete_4 : (c b : ℕ) → scalar c ≡ true → 65536 ≤ c → b ≡ 240 + c / 262144 → Completed (b ∷ [])
complete_4 c b is low at = ⊎_elim first later (cases_lt (c / 262144) 1)
  where
    first : c / 262144 < 1 → Completed (b ∷ [])
    first zero_quotient =
        let none : c / 262144 ≡ 0 = omega arith in
        let same : b ≡ 240 = at ∙ ap (λ q. 240 + q) none in
        subst (λ x. Completed (x ∷ [])) (sym same) (completed_by (240 ∷ []) (0x90 ∷ 0x80 ∷ 0x80 ∷ []) 5 65536 refl (high_scalar 65536 (omega arith) (omega arith)) (encode-4 65536 (omega arith)))

    later : 1 ≤ c / 262144 → Completed (b ∷ [])
    later some_quotient =
        let d = (c / 262144) * 262144 in
        let e = encode-4 d (omega arith) in
        let first : d / 262144 ≡ c / 262144 = omega arith in
        let second : (d / 4096) % 64 ≡ 0 = omega arith in
        let third : (d / 64) % 64 ≡ 0 = omega arith in
        let fourth : d % 64 ≡ 0 = omega arith in
        completed_by (b ∷ []) (0x80 ∷ 0x80 ∷ 0x80 ∷ []) 3 d refl (rounded_scalar c d is (omega arith) (λ h. omega arith))
        (e ∙ (λ j. (240 + first j) ∷ (128 + second j) ∷ (128 + third j) ∷ (128 + fourth j) ∷ []) ∙ ap (λ x. x ∷ 128 ∷ 128 ∷ 128 ∷ []) (sym at))

complete_4-2 : (c b₀ b₁ : ℕ) → scalar c ≡ true → 65536 ≤ c → b₀ ≡ 240 + c / 262144 → b₁ ≡ 128 + (c / 4096) % 64 → Completed (b₀ ∷ b₁ ∷ [])
complete_4-2 c b₀ b₁ is low at₀ at₁ =
    let d = (c / 4096) * 4096 in
    let e = encode-4 d (omega arith) in
    let first : d / 262144 ≡ c / 262144 = omega arith in
    let second : d / 4096 ≡ c / 4096 = omega arith in
    let third : (d / 64) % 64 ≡ 0 = omega arith in
    let fourth : d % 64 ≡ 0 = omega arith in
    completed_by (b₀ ∷ b₁ ∷ []) (0x80 ∷ 0x80 ∷ []) 2 d refl (rounded_scalar c d is (omega arith) (λ h. omega arith))
    (e ∙ (λ j. (240 + first j) ∷ (128 + second j % 64) ∷ (128 + third j) ∷ (128 + fourth j) ∷ []) ∙ (λ j. sym at₀ j ∷ sym at₁ j ∷ 128 ∷ 128 ∷ []))

complete_4-3 : (c b₀ b₁ b₂ : ℕ) → scalar c ≡ true → 65536 ≤ c → b₀ ≡ 240 + c / 262144 → b₁ ≡ 128 + (c / 4096) % 64 → b₂ ≡ 128 + (c / 64) % 64 → Completed (b₀ ∷ b₁ ∷ b₂ ∷ [])
complete_4-3 c b₀ b₁ b₂ is low at₀ at₁ at₂ =
    let d = (c / 64) * 64 in
    let e = encode-4 d (omega arith) in
    let first : d / 262144 ≡ c / 262144 = omega arith in
    let second : d / 4096 ≡ c / 4096 = omega arith in
    let third : d / 64 ≡ c / 64 = omega arith in
    let fourth : d % 64 ≡ 0 = omega arith in
    completed_by (b₀ ∷ b₁ ∷ b₂ ∷ []) (0x80 ∷ []) 1 d refl (rounded_scalar c d is (omega arith) (λ h. omega arith))
    (e ∙ (λ j. (240 + first j) ∷ (128 + second j % 64) ∷ (128 + third j % 64) ∷ (128 + fourth j) ∷ []) ∙ (λ j. sym at₀ j ∷ sym at₁ j ∷ sym at₂ j ∷ 128 ∷ []))

complete_nil : Completed []
complete_nil = (0, [], refl, IsUtf8-nil)

-- a prefix of a character's bytes that lacks some of them
complete_prefix : (c : ℕ) (bytes rest : List ℕ) → scalar c ≡ true → encode c ≡ bytes ++ rest → 0 < length rest → Completed bytes
complete_prefix c [] rest is at some = complete_nil
complete_prefix c (b₀ ∷ bytes) rest is at some = ⊎_elim below_128 (λ h. ⊎_elim (below_2048 h) (λ h. ⊎_elim (below_65536 h) from_65536 (cases_lt c 65536)) (cases_lt c 2048)) (cases_lt c 128)
  where
    below_128 : c < 128 → Completed (b₀ ∷ bytes)
    below_128 h =
        let e : c ∷ [] ≡ b₀ ∷ bytes ++ rest = sym (encode-1 c h) ∙ at in
        let sizes : 1 ≡ length (b₀ ∷ bytes ++ rest) = ap length e in
        absurd (omega (arith, length-append bytes rest))

    below_2048 : 128 ≤ c → c < 2048 → Completed (b₀ ∷ bytes)
    below_2048 low high = by bytes (sym (encode-2 c low high) ∙ at)
      where
        by : (bytes : List ℕ) → (192 + c / 64) ∷ (128 + c % 64) ∷ [] ≡ b₀ ∷ bytes ++ rest → Completed (b₀ ∷ bytes)
        by [] e =
            let first : b₀ ≡ 192 + c / 64 = cc in
            complete_2 c b₀ high low first
        by (b₁ ∷ bytes) e =
            let sizes = ap length e in
            absurd (omega (arith, length-append bytes rest))

    below_65536 : 2048 ≤ c → c < 65536 → Completed (b₀ ∷ bytes)
    below_65536 low high = by bytes (sym (encode-3 c low high) ∙ at)
      where
        by : (bytes : List ℕ) → (224 + c / 4096) ∷ (128 + (c / 64) % 64) ∷ (128 + c % 64) ∷ [] ≡ b₀ ∷ bytes ++ rest → Completed (b₀ ∷ bytes)
        by [] e =
            let first : b₀ ≡ 224 + c / 4096 = cc in
            complete_3 c b₀ is low high first
        by (b₁ ∷ []) e =
            let first : b₀ ≡ 224 + c / 4096 = cc in
            let second : b₁ ≡ 128 + (c / 64) % 64 = cc in
            complete_3-2 c b₀ b₁ is low high first second
        by (b₁ ∷ b₂ ∷ bytes) e =
            let sizes = ap length e in
            absurd (omega (arith, length-append bytes rest))

    from_65536 : 65536 ≤ c → Completed (b₀ ∷ bytes)
    from_65536 low = by bytes (sym (encode-4 c low) ∙ at)
      where
        by : (bytes : List ℕ) → (240 + c / 262144) ∷ (128 + (c / 4096) % 64) ∷ (128 + (c / 64) % 64) ∷ (128 + c % 64) ∷ [] ≡ b₀ ∷ bytes ++ rest → Completed (b₀ ∷ bytes)
        by [] e =
            let first : b₀ ≡ 240 + c / 262144 = cc in
            complete_4 c b₀ is low first
        by (b₁ ∷ []) e =
            let first : b₀ ≡ 240 + c / 262144 = cc in
            let second : b₁ ≡ 128 + (c / 4096) % 64 = cc in
            complete_4-2 c b₀ b₁ is low first second
        by (b₁ ∷ b₂ ∷ []) e =
            let first : b₀ ≡ 240 + c / 262144 = cc in
            let second : b₁ ≡ 128 + (c / 4096) % 64 = cc in
            let third : b₂ ≡ 128 + (c / 64) % 64 = cc in
            complete_4-3 c b₀ b₁ b₂ is low first second third
        by (b₁ ∷ b₂ ∷ b₃ ∷ bytes) e =
            let sizes = ap length e in
            absurd (omega (arith, length-append bytes rest))

-- two ways to split a list: one prefix goes on to the other
data Splits (prefix rest other left : List ℕ) : Type 0 where
  longer : (middle : List ℕ) → other ≡ prefix ++ middle → rest ≡ middle ++ left → Splits prefix rest other left
  shorter : (middle : List ℕ) → prefix ≡ other ++ middle → left ≡ middle ++ rest → 0 < length middle → Splits prefix rest other left

splits : (prefix rest other left : List ℕ) → prefix ++ rest ≡ other ++ left → Splits prefix rest other left
splits [] rest other left whole = longer other refl whole
splits (x ∷ prefix) rest [] left whole = shorter (x ∷ prefix) refl (sym whole) (omega arith)
splits (x ∷ prefix) rest (y ∷ other) left whole =
    let heads : y ≡ x = cc in
    let tails : prefix ++ rest ≡ other ++ left = cc in
    elim (splits prefix rest other left tails) [
      | longer middle p q ↦ longer middle (λ j. heads j ∷ p j) q
      | shorter middle p q some ↦ shorter middle (λ j. sym heads j ∷ p j) q some
    ]

complete : (cs bytes rest : List ℕ) → scalars cs ≡ true → encodes cs ≡ bytes ++ rest → Completed bytes
complete [] [] rest are whole = complete_nil
complete [] (b ∷ bytes) rest are whole = cc
complete (c ∷ cs) bytes rest are whole =
    let parts = and_parts (scalar c) (scalars cs) are in
    by parts.0 (splits (encode c) (encodes cs) bytes rest whole) (λ middle e. complete cs middle rest parts.1 e)
  where
    by : scalar c ≡ true → Splits (encode c) (encodes cs) bytes rest → ((middle : List ℕ) → encodes cs ≡ middle ++ rest → Completed middle) → Completed bytes
    by is (longer middle p q) further =
        let more = further middle q in
        (more.0, more.1, more.2, subst IsUtf8 (sym (append_assoc (encode c) middle more.1) ∙ ap (λ f. f ++ more.1) (sym p)) (IsUtf8-append (encode c) (middle ++ more.1) (IsUtf8-encode c is) more.3))
    by is (shorter middle p q some) further = complete_prefix c bytes middle is p some

-- Bytes begin a UTF-8 text where one of the endings completes them.
pub begins_texts : BeginsTexts
unfolding begins_text
begins_texts bytes = (ends, begins)
  where
    ends : list_any (λ ending. is_utf8 (bytes ++ ending)) endings ≡ true → (rest : List ℕ) × IsUtf8 (bytes ++ rest)
    ends is =
        let found = found_any (λ ending. is_utf8 (bytes ++ ending)) endings is in
        (found.0, IsUtf8-from_is_utf8 (bytes ++ found.0) found.1)

    begins : ((rest : List ℕ) × IsUtf8 (bytes ++ rest)) → list_any (λ ending. is_utf8 (bytes ++ ending)) endings ≡ true
    begins text =
        let done = complete text.1.0 bytes text.0 text.1.1.0 text.1.1.1 in
        any_at (λ ending. is_utf8 (bytes ++ ending)) endings done.0 done.1 done.2 (is_utf8-from_IsUtf8 (bytes ++ done.1) done.3)
