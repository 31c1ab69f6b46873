-- Control characters change places with those that stand for them.
use Rattle.std.proofs.Common.{◌≡◌, ℕ, ◌+◌, ◌/◌, ◌%◌, ◌<◌, ◌≤◌, Bool, true, false, ◌||◌, List, [], ◌∷◌, ◌++◌, refl, sym, ap, ◌∙◌, subst, append_assoc, arith, map, cond, eqb, ltb, encode_utf8_all}
use Rattle.std.proofs.Math.Utf8.{encode}
use Rattle.std.specs.Char.{is_ascii_digit}
use Rattle.std.specs.List.{AllByRecursion, list_any}
use Rattle.std.specs.Str.{IsUtf8, chars}
use Rattle.std.proofs.lemmas.List.{append-nil, map-append, map-id}
use Rattle.std.proofs.lemmas.Bool.Decides.{Decides-eqb, Decides-ltb}
use Rattle.std.proofs.lemmas.Bool.{ltb-false, or_parts}
use Rattle.std.proofs.lemmas.Str.{encode_ascii, encodes-append, encodes-chars}
use Rattle.msi_base.proofs.BoolLemmas.{by_test}
use Rattle.msi_base.proofs.ListLemmas.{list_any-map, list_any_same}
use Rattle.msi_exchange.specs.Characters.{is_control, is_stand_in, swapped}

at : (P : ℕ → Type 0) (c k : ℕ) → eqb c k ≡ true → P k → P c
at P c k t p = subst P (sym ((Decides-eqb c k).0 t)) p

never : {P : Type 0} → false ≡ true → P
never e = cc

-- a law of the characters that change places, and of the others, which stay
pub by_character : (P : ℕ → Type 0) → P 0 → P 21 → P 8 → P 27 → P 9 → P 16 → P 10 → P 25 → P 12 → P 24 → P 13 → P 17
    → ((c : ℕ) → swapped c ≡ c → is_control c ≡ false → P c) → (c : ℕ) → P c
by_character P p0 p21 p8 p27 p9 p16 p10 p25 p12 p24 p13 p17 other c =
    by_test (eqb c 0) (λ t. at P c 0 t p0) (λ n0.
    by_test (eqb c 21) (λ t. at P c 21 t p21) (λ n21.
    by_test (eqb c 8) (λ t. at P c 8 t p8) (λ n8.
    by_test (eqb c 27) (λ t. at P c 27 t p27) (λ n27.
    by_test (eqb c 9) (λ t. at P c 9 t p9) (λ n9.
    by_test (eqb c 16) (λ t. at P c 16 t p16) (λ n16.
    by_test (eqb c 10) (λ t. at P c 10 t p10) (λ n10.
    by_test (eqb c 25) (λ t. at P c 25 t p25) (λ n25.
    by_test (eqb c 12) (λ t. at P c 12 t p12) (λ n12.
    by_test (eqb c 24) (λ t. at P c 24 t p24) (λ n24.
    by_test (eqb c 13) (λ t. at P c 13 t p13) (λ n13.
    by_test (eqb c 17) (λ t. at P c 17 t p17) (λ n17.
    other c (rw (n0, n21, n8, n27, n9, n16, n10, n25, n12, n24, n13, n17) refl) (rw (n0, n8, n9, n10, n12, n13) refl)))))))))))))

pub swapped_twice : (c : ℕ) → swapped (swapped c) ≡ c
swapped_twice = by_character (λ c. swapped (swapped c) ≡ c) refl refl refl refl refl refl refl refl refl refl refl refl (λ c stays plain. ap swapped stays ∙ stays)

pub all_swapped_twice : (cs : List ℕ) → map swapped (map swapped cs) ≡ cs
all_swapped_twice [] = refl
all_swapped_twice (c ∷ cs) = ap (λ x. x ∷ map swapped (map swapped cs)) (swapped_twice c) ∙ ap (λ xs. c ∷ xs) (all_swapped_twice cs)

pub digit_stays : (c : ℕ) → is_ascii_digit (swapped c) ≡ is_ascii_digit c
digit_stays = by_character (λ c. is_ascii_digit (swapped c) ≡ is_ascii_digit c) refl refl refl refl refl refl refl refl refl refl refl refl (λ c stays plain. ap is_ascii_digit stays)

-- a digit is no control character, and stays
pub digit_plain : (c : ℕ) → is_ascii_digit c ≡ true → (is_control c ≡ false) × (swapped c ≡ c)
digit_plain = by_character (λ c. is_ascii_digit c ≡ true → (is_control c ≡ false) × (swapped c ≡ c)) (λ e. never e) (λ e. never e) (λ e. never e) (λ e. never e) (λ e. never e) (λ e. never e) (λ e. never e) (λ e. never e) (λ e. never e) (λ e. never e) (λ e. never e) (λ e. never e) (λ c stays plain e. (plain, stays))

-- the field of a text has control characters where the text has those that stand for them, and the other way round
pub control_of_field : (text : List ℕ) → list_any is_control (map swapped text) ≡ list_any is_stand_in text
control_of_field text = list_any-map is_control swapped text

pub stand_in_of_text : (field : List ℕ) → list_any is_stand_in (map swapped field) ≡ list_any is_control field
stand_in_of_text field = list_any-map is_stand_in swapped field ∙ list_any_same (λ c. is_stand_in (swapped c)) is_control field (λ c. ap is_control (swapped_twice c))

-- a text without characters that change places stays
stays_plain : (c : ℕ) → (is_control c || is_stand_in c) ≡ false → swapped c ≡ c
stays_plain = by_character (λ c. (is_control c || is_stand_in c) ≡ false → swapped c ≡ c) (λ e. never (sym e)) (λ e. never (sym e)) (λ e. never (sym e)) (λ e. never (sym e)) (λ e. never (sym e)) (λ e. never (sym e)) (λ e. never (sym e)) (λ e. never (sym e)) (λ e. never (sym e)) (λ e. never (sym e)) (λ e. never (sym e)) (λ e. never (sym e)) (λ c stays plain e. stays)

pub text_stays : (text : List ℕ) → list_any (λ c. is_control c || is_stand_in c) text ≡ false → map swapped text ≡ text
text_stays [] e = refl
text_stays (c ∷ cs) e =
    let parts = or_parts (is_control c || is_stand_in c) (list_any (λ c. is_control c || is_stand_in c) cs) e in
    ap (λ x. x ∷ map swapped cs) (stays_plain c parts.0) ∙ ap (λ xs. c ∷ xs) (text_stays cs parts.1)

-- a byte past ASCII stays
pub high_stays : (c : ℕ) → 128 ≤ c → swapped c ≡ c
high_stays = by_character (λ c. 128 ≤ c → swapped c ≡ c) (λ h. absurd (omega arith)) (λ h. absurd (omega arith)) (λ h. absurd (omega arith)) (λ h. absurd (omega arith)) (λ h. absurd (omega arith)) (λ h. absurd (omega arith)) (λ h. absurd (omega arith)) (λ h. absurd (omega arith)) (λ h. absurd (omega arith)) (λ h. absurd (omega arith)) (λ h. absurd (omega arith)) (λ h. absurd (omega arith)) (λ c stays plain h. stays)

pub low_stays_low : (c : ℕ) → c < 128 → swapped c < 128
low_stays_low = by_character (λ c. c < 128 → swapped c < 128) (λ h. omega arith) (λ h. omega arith) (λ h. omega arith) (λ h. omega arith) (λ h. omega arith) (λ h. omega arith) (λ h. omega arith) (λ h. omega arith) (λ h. omega arith) (λ h. omega arith) (λ h. omega arith) (λ h. omega arith) (λ c stays plain h. rw stays h)

-- ---- in UTF-8 the same bytes change places

high_bytes : (bytes : List ℕ) → AllByRecursion (λ b. 128 ≤ b) bytes → map swapped bytes ≡ bytes
high_bytes [] h = refl
high_bytes (b ∷ bs) h = ap (λ x. x ∷ map swapped bs) (high_stays b h.0) ∙ ap (λ xs. b ∷ xs) (high_bytes bs h.1)

high_encoded : (c : ℕ) → ltb c 128 ≡ false → AllByRecursion (λ b. 128 ≤ b) (encode c)
unfolding encode
high_encoded c h = by_length (ltb c 128) (ltb c 2048) (ltb c 65536) h
  where
    by_length : (one two three : Bool) → one ≡ false
        → AllByRecursion (λ b. 128 ≤ b) (cond one (c ∷ []) (cond two ((192 + c / 64) ∷ (128 + c % 64) ∷ []) (cond three ((224 + c / 4096) ∷ (128 + c / 64 % 64) ∷ (128 + c % 64) ∷ []) ((240 + c / 262144) ∷ (128 + c / 4096 % 64) ∷ (128 + c / 64 % 64) ∷ (128 + c % 64) ∷ []))))
    by_length true two three e = absurd cc
    by_length false true three e = (omega arith, (omega arith, tt))
    by_length false false true e = (omega arith, (omega arith, (omega arith, tt)))
    by_length false false false e = (omega arith, (omega arith, (omega arith, (omega arith, tt))))

encoded : (c : ℕ) → encode (swapped c) ≡ map swapped (encode c)
encoded c = by_test (ltb c 128)
    (λ t. let low = (Decides-ltb c 128).0 t in encode_ascii (swapped c) (low_stays_low c low) ∙ sym (ap (map swapped) (encode_ascii c low)))
    (λ f. let stays : swapped c ≡ c = high_stays c (not_low f) in ap encode stays ∙ sym (high_bytes (encode c) (high_encoded c f)))
  where
    not_low : ltb c 128 ≡ false → 128 ≤ c
    not_low f = ltb-false c 128 f

pub text_swapped : (cs : List ℕ) → encode_utf8_all (map swapped cs) ≡ map swapped (encode_utf8_all cs)
text_swapped [] = refl
text_swapped (c ∷ cs) =
    ap (λ front. front ++ encode_utf8_all (map swapped cs)) (encoded c)
    ∙ (ap (λ rest. map swapped (encode c) ++ rest) (text_swapped cs) ∙ sym (map-append swapped (encode c) (encode_utf8_all cs)))

-- a text of one character more
pub text_more : (cs : List ℕ) (c : ℕ) → encode_utf8_all (map swapped (cs ++ c ∷ [])) ≡ encode_utf8_all (map swapped cs) ++ encode_utf8_all (swapped c ∷ [])
text_more cs c = ap encode_utf8_all (map-append swapped cs (c ∷ [])) ∙ encodes-append (map swapped cs) (swapped c ∷ [])

pub text_step : (front text new cs : List ℕ) (c s : ℕ) → s ≡ swapped c → text ≡ front ++ encode_utf8_all (map swapped cs) → new ≡ text ++ encode s → new ≡ front ++ encode_utf8_all (map swapped (cs ++ c ∷ []))
text_step front text new cs c s is t n =
    n
    ∙ (ap (λ x. text ++ encode x) is
    ∙ (ap (λ x. x ++ encode (swapped c)) t
    ∙ (append_assoc front (encode_utf8_all (map swapped cs)) (encode (swapped c))
    ∙ ap (λ x. front ++ x) (sym (text_more cs c ∙ ap (λ x. encode_utf8_all (map swapped cs) ++ x) (append-nil (encode (swapped c))))))))

-- all characters of a text
pub text_whole : (front text plain cs : List ℕ) → IsUtf8 plain → map (λ c. c) cs ≡ chars plain → text ≡ front ++ encode_utf8_all (map swapped cs) → text ≡ front ++ map swapped plain
text_whole front text plain cs u all t =
    let same : cs ≡ chars plain = sym (map-id cs) ∙ all in
    t ∙ ap (λ x. front ++ x) (ap (λ x. encode_utf8_all (map swapped x)) same ∙ (text_swapped (chars plain) ∙ ap (map swapped) (encodes-chars plain u)))
