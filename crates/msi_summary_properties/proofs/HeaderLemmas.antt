-- The header and the pairs: what is read is spelled so, and what is spelled is read.
use Rattle.std.proofs.Common.{◌≡◌, ℕ, zero, suc, ◌^◌, ◌<◌, ◌≤◌, false, cond, ltb, eqb, List, [], ◌∷◌, ◌++◌, length, take, drop, Some, None, refl, sym, ap, subst, ◌∙◌, append_assoc, arith}
use Rattle.std.specs.List.{flat_map, AllByRecursion}
use Rattle.std.specs.Int.{w16, w32, to_le_bytes}
use Rattle.std.proofs.lemmas.Bool.{eqb-true, ne_eqb, ltb-true, lt-ltb, ltb-false, le-ltb}
use Rattle.std.proofs.lemmas.List.{take_at, drop_at, take-append-drop, length-append, length-take}
use Rattle.msi_summary_properties.specs.declared.propset.OperatingSystem.{OperatingSystem}
use Rattle.msi_summary_properties.specs.declared.propset.OperatingSystem.TheVariants as os
use Rattle.msi_summary_properties.specs.PropertyStream.{os_number, header_bytes, section_head, pair_bytes}
use Rattle.msi_base.specs.declared.errors.ErrorKind.{ErrorKind}
use Rattle.msi_base.specs.declared.errors.ErrorKind.TheVariants as kind
use Rattle.msi_base.specs.Numbers.{bytes_at, number_at}
use Rattle.msi_base.specs.Results.{FailsAs}
use Rattle.msi_summary_properties.specs.Reading.{os_with_number, Header, checked, header_at, pairs_at, section_at, set_with}
use Rattle.msi_base.proofs.ReadFieldLemmas.{IsBytes, IsBytes-drop, wide16, wide32, Takes, Takes-then, number_takes, number_again}
use Rattle.msi_base.proofs.OptionLemmas.{guard_passed, guard_held, some_is}
use Rattle.msi_summary_properties.proofs.StepLemmas.{bind_then}

pub bytes_take : (n : ℕ) (bytes piece rest : List ℕ) → IsBytes bytes → bytes_at n bytes ≡ Some (piece, rest) → Takes bytes piece rest × (length piece ≡ n)
bytes_take n bytes piece rest fits e =
    let g = guard_passed (ltb (length bytes) n) (Some (take n bytes, drop n bytes)) (piece, rest) e in
    let long : n ≤ length bytes = ltb-false _ _ g.0 in
    let both = some_is (take n bytes, drop n bytes) (piece, rest) g.1 in
    let piece-is : take n bytes ≡ piece = ap (λ (p : List ℕ × List ℕ). p.0) both in
    let rest-is : drop n bytes ≡ rest = ap (λ (p : List ℕ × List ℕ). p.1) both in
    (record { parts = rw (← piece-is, ← rest-is) (sym (take-append-drop n bytes)); rest_fits = rw (← rest-is) (IsBytes-drop n bytes fits) }, ap length (sym piece-is) ∙ omega (arith, length-take n bytes))

pub bytes_again : (n : ℕ) (piece rest : List ℕ) → length piece ≡ n → bytes_at n (piece ++ rest) ≡ Some (piece, rest)
bytes_again n piece rest len =
    let long : ltb (length (piece ++ rest)) n ≡ false = le-ltb _ _ (omega (arith, length-append piece rest)) in
    rw (long, take_at piece rest n len, drop_at piece rest n len) refl

os_found : (n : ℕ) (system : OperatingSystem) → os_with_number n ≡ Some system → n ≡ os_number system
os_found zero system e = ap os_number (some_is os.Win16 system e)
os_found (suc zero) system e = ap os_number (some_is os.Macintosh system e)
os_found (suc (suc zero)) system e = ap os_number (some_is os.Win32 system e)
os_found (suc (suc (suc n))) system e = absurd cc

os_again : (system : OperatingSystem) → os_with_number (os_number system) ≡ Some system
os_again os.Win16 = refl
os_again os.Macintosh = refl
os_again os.Win32 = refl

os_small : (system : OperatingSystem) → os_number system < 2 ^ 16
os_small os.Win16 = omega arith
os_small os.Macintosh = omega arith
os_small os.Win32 = omega arith

-- what a header says, in the bytes
abbrev pub spelled_header : Header → List ℕ
spelled_header h = header_bytes (set_with h []) h.version h.reserved h.section

pub record IsHeader (h : Header) : Type 0 where
  pub version : h.version < 2
  pub os_version : h.os_version < 2 ^ 16
  pub clsid : length h.clsid ≡ 16
  pub some : 1 ≤ h.reserved
  pub reserved : h.reserved < 2 ^ 32
  pub format : length h.format_identifier ≡ 16
  pub section : h.section < 2 ^ 32

pub record Headed (bytes : List ℕ) (h : Header) : Type 0 where
  pub others : List ℕ
  pub parts : bytes ≡ spelled_header h ++ others
  pub is : IsHeader h

checked_is : (mark : ℕ) (x h : Header) → checked mark x ≡ Some h → (mark ≡ 0xFFFE) × (x.version < 2) × (0 < x.reserved) × (x ≡ h)
checked_is mark x h e =
    let a = guard_held (eqb mark 0xFFFE) (cond (ltb x.version 2) (cond (ltb 0 x.reserved) (Some x) None) None) h e in
    let b = guard_held (ltb x.version 2) (cond (ltb 0 x.reserved) (Some x) None) h a.1 in
    let c = guard_held (ltb 0 x.reserved) (Some x) h b.1 in
    (eqb-true _ _ a.0, ltb-true _ _ b.0, ltb-true _ _ c.0, some_is x h c.1)

left_nested : (a b c d e f g h others : List ℕ) → (a ++ (b ++ (c ++ (d ++ (e ++ (f ++ (g ++ h))))))) ++ others ≡ (a ++ b ++ c ++ d ++ e ++ f ++ g ++ h) ++ others
left_nested a b c d e f g h others = simp append_assoc

spelled_parts : (bytes others : List ℕ) (mark number : ℕ) (h : Header) → mark ≡ 0xFFFE → number ≡ os_number h.os
    → bytes ≡ (to_le_bytes w16 mark ++ (to_le_bytes w16 h.version ++ (to_le_bytes w16 h.os_version ++ (to_le_bytes w16 number ++ (h.clsid ++ (to_le_bytes w32 h.reserved ++ (h.format_identifier ++ to_le_bytes w32 h.section))))))) ++ others
    → bytes ≡ spelled_header h ++ others
spelled_parts bytes others mark number h m n e =
    e ∙ left_nested (to_le_bytes w16 mark) (to_le_bytes w16 h.version) (to_le_bytes w16 h.os_version) (to_le_bytes w16 number) h.clsid (to_le_bytes w32 h.reserved) h.format_identifier (to_le_bytes w32 h.section) others
    ∙ ap (λ (x : ℕ). (to_le_bytes w16 x ++ to_le_bytes w16 h.version ++ to_le_bytes w16 h.os_version ++ to_le_bytes w16 number ++ h.clsid ++ to_le_bytes w32 h.reserved ++ h.format_identifier ++ to_le_bytes w32 h.section) ++ others) m
    ∙ ap (λ (x : ℕ). (to_le_bytes w16 0xFFFE ++ to_le_bytes w16 h.version ++ to_le_bytes w16 h.os_version ++ to_le_bytes w16 x ++ h.clsid ++ to_le_bytes w32 h.reserved ++ h.format_identifier ++ to_le_bytes w32 h.section) ++ others) n

-- what the header's fields are, from the bytes that they were read from
header_made : (bytes : List ℕ) (h : Header) (mark version os_version number : ℕ × List ℕ) (clsid : List ℕ × List ℕ) (reserved : ℕ × List ℕ) (format : List ℕ × List ℕ) (section : ℕ × List ℕ) (system : OperatingSystem)
    → IsBytes bytes → number_at w16 bytes ≡ Some mark → number_at w16 mark.1 ≡ Some version → number_at w16 version.1 ≡ Some os_version → number_at w16 os_version.1 ≡ Some number
    → bytes_at 16 number.1 ≡ Some clsid → number_at w32 clsid.1 ≡ Some reserved → bytes_at 16 reserved.1 ≡ Some format → number_at w32 format.1 ≡ Some section → os_with_number number.0 ≡ Some system
    → checked mark.0 (record { version = version.0; os_version = os_version.0; os = system; clsid = clsid.0; reserved = reserved.0; format_identifier = format.0; section = section.0 }) ≡ Some h → Headed bytes h
header_made bytes h mark version os_version number clsid reserved format section system fits a b c d i j k l s e =
    let made : Header = record { version = version.0; os_version = os_version.0; os = system; clsid = clsid.0; reserved = reserved.0; format_identifier = format.0; section = section.0 } in
    let checks = checked_is mark.0 made h e in
    let ta = number_takes w16 (2 ^ 16) wide16 bytes mark.0 mark.1 fits a in
    let tb = number_takes w16 (2 ^ 16) wide16 mark.1 version.0 version.1 ta.0.rest_fits b in
    let tc = number_takes w16 (2 ^ 16) wide16 version.1 os_version.0 os_version.1 tb.0.rest_fits c in
    let td = number_takes w16 (2 ^ 16) wide16 os_version.1 number.0 number.1 tc.0.rest_fits d in
    let ti = bytes_take 16 number.1 clsid.0 clsid.1 td.0.rest_fits i in
    let tj = number_takes w32 (2 ^ 32) wide32 clsid.1 reserved.0 reserved.1 ti.0.rest_fits j in
    let tk = bytes_take 16 reserved.1 format.0 format.1 tj.0.rest_fits k in
    let tl = number_takes w32 (2 ^ 32) wide32 format.1 section.0 section.1 tk.0.rest_fits l in
    let ekl = Takes-then reserved.1 format.0 format.1 (to_le_bytes w32 section.0) section.1 tk.0 tl.0 in
    let ejl = Takes-then clsid.1 (to_le_bytes w32 reserved.0) reserved.1 _ section.1 tj.0 ekl in
    let eil = Takes-then number.1 clsid.0 clsid.1 _ section.1 ti.0 ejl in
    let edl = Takes-then os_version.1 (to_le_bytes w16 number.0) number.1 _ section.1 td.0 eil in
    let ecl = Takes-then version.1 (to_le_bytes w16 os_version.0) os_version.1 _ section.1 tc.0 edl in
    let ebl = Takes-then mark.1 (to_le_bytes w16 version.0) version.1 _ section.1 tb.0 ecl in
    let eal = Takes-then bytes (to_le_bytes w16 mark.0) mark.1 _ section.1 ta.0 ebl in
    let whole = spelled_parts bytes section.1 mark.0 number.0 made checks.0 (os_found number.0 system s) eal.parts in
    subst (λ (x : Header). Headed bytes x) checks.3 (record { others = section.1; parts = whole; is = record { version = checks.1; os_version = tc.1; clsid = ti.1; some = checks.2; reserved = tj.1; format = tk.1; section = tl.1 } })

pub header_found : (bytes : List ℕ) (h : Header) → IsBytes bytes → header_at bytes ≡ Some h → Headed bytes h
unfolding header_at
header_found bytes h fits e =
    bind_then (number_at w16 bytes) _ h e (λ mark a e1.
    bind_then (number_at w16 mark.1) _ h e1 (λ version b e2.
    bind_then (number_at w16 version.1) _ h e2 (λ os_version c e3.
    bind_then (number_at w16 os_version.1) _ h e3 (λ number d e4.
    bind_then (bytes_at 16 number.1) _ h e4 (λ clsid i e5.
    bind_then (number_at w32 clsid.1) _ h e5 (λ reserved j e6.
    bind_then (bytes_at 16 reserved.1) _ h e6 (λ format k e7.
    bind_then (number_at w32 format.1) _ h e7 (λ section l e8.
    bind_then (os_with_number number.0) _ h e8 (λ system s e9.
    header_made bytes h mark version os_version number clsid reserved format section system fits a b c d i j k l s e9)))))))))

checked_again : (h : Header) → IsHeader h → checked 0xFFFE h ≡ Some h
checked_again h is = rw (lt-ltb h.version 2 is.version, lt-ltb 0 h.reserved is.some) refl

regroup : (a b c d e f g h others : List ℕ) → (a ++ b ++ c ++ d ++ e ++ f ++ g ++ h) ++ others ≡ a ++ (b ++ (c ++ (d ++ (e ++ (f ++ (g ++ (h ++ others)))))))
regroup a b c d e f g h others = simp append_assoc

-- what a header is that is read in these steps
pub header_of : (bytes : List ℕ) (mark version os_version number : ℕ × List ℕ) (clsid : List ℕ × List ℕ) (reserved : ℕ × List ℕ) (format : List ℕ × List ℕ) (section : ℕ × List ℕ) (system : OperatingSystem)
    → number_at w16 bytes ≡ Some mark → number_at w16 mark.1 ≡ Some version → number_at w16 version.1 ≡ Some os_version → number_at w16 os_version.1 ≡ Some number
    → bytes_at 16 number.1 ≡ Some clsid → number_at w32 clsid.1 ≡ Some reserved → bytes_at 16 reserved.1 ≡ Some format → number_at w32 format.1 ≡ Some section → os_with_number number.0 ≡ Some system
    → header_at bytes ≡ checked mark.0 (record { version = version.0; os_version = os_version.0; os = system; clsid = clsid.0; reserved = reserved.0; format_identifier = format.0; section = section.0 })
unfolding header_at
header_of bytes mark version os_version number clsid reserved format section system a b c d i j k l s = rw (a, b, c, d, i, j, k, l, s) refl

-- the refusals of a header that was read, and when there is none
pub other_mark : (e : ErrorKind) (mark : ℕ) (h : Header) → e ≡ kind.InvalidData → (mark ≡ 0xFFFE → ⊥) → FailsAs e (checked mark h)
other_mark e mark h is other = rw (is, ne_eqb mark 0xFFFE other) refl

pub other_version : (e : ErrorKind) (mark : ℕ) (h : Header) → e ≡ kind.InvalidData → mark ≡ 0xFFFE → 2 ≤ h.version → FailsAs e (checked mark h)
other_version e mark h is same later = rw (is, same, le-ltb h.version 2 later) refl

pub no_section : (e : ErrorKind) (mark : ℕ) (h : Header) → e ≡ kind.InvalidData → mark ≡ 0xFFFE → h.version < 2 → h.reserved ≡ 0 → FailsAs e (checked mark h)
no_section e mark h is same known none = rw (is, same, lt-ltb h.version 2 known, none) refl

pub passes : (mark : ℕ) (h : Header) → mark ≡ 0xFFFE → h.version < 2 → (h.reserved ≡ 0 → ⊥) → checked mark h ≡ Some h
passes mark h same known some = rw (same, lt-ltb h.version 2 known, lt-ltb 0 h.reserved (omega (arith, some))) refl

pub header_again : (h : Header) (others : List ℕ) → IsHeader h → header_at (spelled_header h ++ others) ≡ Some h
header_again h others is =
    let number = to_le_bytes w16 (os_number h.os) in
    let r7 = to_le_bytes w32 h.section ++ others in
    let r6 = h.format_identifier ++ r7 in
    let r5 = to_le_bytes w32 h.reserved ++ r6 in
    let r4 = h.clsid ++ r5 in
    let r3 = number ++ r4 in
    let r2 = to_le_bytes w16 h.os_version ++ r3 in
    let r1 = to_le_bytes w16 h.version ++ r2 in
    let grouped : spelled_header h ++ others ≡ to_le_bytes w16 0xFFFE ++ r1 = regroup (to_le_bytes w16 0xFFFE) (to_le_bytes w16 h.version) (to_le_bytes w16 h.os_version) number h.clsid (to_le_bytes w32 h.reserved) h.format_identifier (to_le_bytes w32 h.section) others in
    ap header_at grouped ∙ header_of (to_le_bytes w16 0xFFFE ++ r1) (0xFFFE, r1) (h.version, r2) (h.os_version, r3) (os_number h.os, r4) (h.clsid, r5) (h.reserved, r6) (h.format_identifier, r7) (h.section, others) h.os
    (number_again w16 (2 ^ 16) wide16 0xFFFE r1 (omega arith))
    (number_again w16 (2 ^ 16) wide16 h.version r2 (omega (arith, is.version)))
    (number_again w16 (2 ^ 16) wide16 h.os_version r3 is.os_version)
    (number_again w16 (2 ^ 16) wide16 (os_number h.os) r4 (os_small h.os))
    (bytes_again 16 h.clsid r5 is.clsid)
    (number_again w32 (2 ^ 32) wide32 h.reserved r6 is.reserved)
    (bytes_again 16 h.format_identifier r7 is.format)
    (number_again w32 (2 ^ 32) wide32 h.section others is.section)
    (os_again h.os)
    ∙ checked_again h is

-- ---- pairs

abbrev pub FitsPair : ℕ × ℕ → Type 0
FitsPair p = (p.0 < 2 ^ 32) × (p.1 < 2 ^ 32)

pub record Paired (n : ℕ) (bytes : List ℕ) (pairs : List (ℕ × ℕ)) : Type 0 where
  pub others : List ℕ
  pub parts : bytes ≡ flat_map pair_bytes pairs ++ others
  pub len : length pairs ≡ n
  pub fits : AllByRecursion FitsPair pairs

pairs_made : (n : ℕ) (bytes : List ℕ) (pairs : List (ℕ × ℕ)) (id place : ℕ × List ℕ) (others : List (ℕ × ℕ))
    → Takes bytes (to_le_bytes w32 id.0) id.1 × (id.0 < 2 ^ 32) → Takes id.1 (to_le_bytes w32 place.0) place.1 × (place.0 < 2 ^ 32)
    → Paired n place.1 others → (id.0, place.0) ∷ others ≡ pairs → Paired (suc n) bytes pairs
pairs_made n bytes pairs id place others ta tb more e =
    let made : List (ℕ × ℕ) = (id.0, place.0) ∷ others in
    let first = Takes-then bytes (to_le_bytes w32 id.0) id.1 (to_le_bytes w32 place.0) place.1 ta.0 tb.0 in
    let whole : bytes ≡ flat_map pair_bytes made ++ more.others = first.parts ∙ ap (λ (x : List ℕ). (to_le_bytes w32 id.0 ++ to_le_bytes w32 place.0) ++ x) more.parts ∙ sym (append_assoc (to_le_bytes w32 id.0 ++ to_le_bytes w32 place.0) (flat_map pair_bytes others) more.others) in
    subst (λ (x : List (ℕ × ℕ)). Paired (suc n) bytes x) e (record { others = more.others; parts = whole; len = ap suc more.len; fits = ((ta.1, tb.1), more.fits) })

pub pairs_found : (n : ℕ) (bytes : List ℕ) (pairs : List (ℕ × ℕ)) → IsBytes bytes → pairs_at n bytes ≡ Some pairs → Paired n bytes pairs
unfolding pairs_at
pairs_found zero bytes pairs fits e = subst (λ (x : List (ℕ × ℕ)). Paired 0 bytes x) (some_is [] pairs e) (record { others = bytes; parts = refl; len = refl; fits = tt })
pairs_found (suc n) bytes pairs fits e =
    bind_then (number_at w32 bytes) _ pairs e (λ id a e1.
    bind_then (number_at w32 id.1) _ pairs e1 (λ place b e2.
    bind_then (pairs_at n place.1) _ pairs e2 (λ others c e3.
    let ta = number_takes w32 (2 ^ 32) wide32 bytes id.0 id.1 fits a in
    let tb = number_takes w32 (2 ^ 32) wide32 id.1 place.0 place.1 ta.0.rest_fits b in
    pairs_made n bytes pairs id place others ta tb (pairs_found n place.1 others tb.0.rest_fits c) (some_is ((id.0, place.0) ∷ others) pairs e3))))

pub pairs_again : (pairs : List (ℕ × ℕ)) (others : List ℕ) → AllByRecursion FitsPair pairs → pairs_at (length pairs) (flat_map pair_bytes pairs ++ others) ≡ Some pairs
unfolding pairs_at
pairs_again [] others fits = refl
pairs_again (p ∷ pairs) others fits =
    let rest = flat_map pair_bytes pairs ++ others in
    let grouped : flat_map pair_bytes (p ∷ pairs) ++ others ≡ to_le_bytes w32 p.0 ++ (to_le_bytes w32 p.1 ++ rest) = append_assoc (pair_bytes p) (flat_map pair_bytes pairs) others ∙ append_assoc (to_le_bytes w32 p.0) (to_le_bytes w32 p.1) rest in
    ap (pairs_at (suc (length pairs))) grouped ∙ rw (number_again w32 (2 ^ 32) wide32 p.0 (to_le_bytes w32 p.1 ++ rest) fits.0.0, number_again w32 (2 ^ 32) wide32 p.1 rest fits.0.1, pairs_again pairs others fits.1) refl

pub record Sectioned (bytes : List ℕ) (pairs : List (ℕ × ℕ)) : Type 0 where
  pub size : ℕ
  pub others : List ℕ
  pub parts : bytes ≡ section_head size pairs ++ others
  pub size_fits : size < 2 ^ 32
  pub count_fits : length pairs < 2 ^ 32
  pub fits : AllByRecursion FitsPair pairs

section_made : (bytes : List ℕ) (pairs : List (ℕ × ℕ)) (size count : ℕ × List ℕ)
    → Takes bytes (to_le_bytes w32 size.0) size.1 × (size.0 < 2 ^ 32) → Takes size.1 (to_le_bytes w32 count.0) count.1 × (count.0 < 2 ^ 32)
    → Paired count.0 count.1 pairs → Sectioned bytes pairs
section_made bytes pairs size count ta tb c =
    let front = Takes-then bytes (to_le_bytes w32 size.0) size.1 (to_le_bytes w32 count.0) count.1 ta.0 tb.0 in
    let whole : bytes ≡ (to_le_bytes w32 size.0 ++ to_le_bytes w32 count.0 ++ flat_map pair_bytes pairs) ++ c.others = front.parts ∙ ap (λ (x : List ℕ). (to_le_bytes w32 size.0 ++ to_le_bytes w32 count.0) ++ x) c.parts ∙ sym (append_assoc (to_le_bytes w32 size.0 ++ to_le_bytes w32 count.0) (flat_map pair_bytes pairs) c.others) in
    record { size = size.0; others = c.others; parts = whole ∙ ap (λ (k : ℕ). (to_le_bytes w32 size.0 ++ to_le_bytes w32 k ++ flat_map pair_bytes pairs) ++ c.others) (sym c.len); size_fits = ta.1; count_fits = omega (arith, c.len, tb.1); fits = c.fits }

pub section_found : (bytes : List ℕ) (pairs : List (ℕ × ℕ)) → IsBytes bytes → section_at bytes ≡ Some pairs → Sectioned bytes pairs
unfolding section_at
section_found bytes pairs fits e =
    bind_then (number_at w32 bytes) _ pairs e (λ size a e1.
    bind_then (number_at w32 size.1) _ pairs e1 (λ count b e2.
    let ta = number_takes w32 (2 ^ 32) wide32 bytes size.0 size.1 fits a in
    let tb = number_takes w32 (2 ^ 32) wide32 size.1 count.0 count.1 ta.0.rest_fits b in
    section_made bytes pairs size count ta tb (pairs_found count.0 count.1 pairs tb.0.rest_fits e2)))

pub section_again : (size : ℕ) (pairs : List (ℕ × ℕ)) (others : List ℕ) → size < 2 ^ 32 → length pairs < 2 ^ 32 → AllByRecursion FitsPair pairs → section_at (section_head size pairs ++ others) ≡ Some pairs
unfolding section_at
section_again size pairs others size_fits count_fits fits =
    let rest = flat_map pair_bytes pairs ++ others in
    let grouped : section_head size pairs ++ others ≡ to_le_bytes w32 size ++ (to_le_bytes w32 (length pairs) ++ rest) = append_assoc (to_le_bytes w32 size) (to_le_bytes w32 (length pairs) ++ flat_map pair_bytes pairs) others ∙ ap (λ (x : List ℕ). to_le_bytes w32 size ++ x) (append_assoc (to_le_bytes w32 (length pairs)) (flat_map pair_bytes pairs) others) in
    ap section_at grouped ∙ rw (number_again w32 (2 ^ 32) wide32 size (to_le_bytes w32 (length pairs) ++ rest) size_fits, number_again w32 (2 ^ 32) wide32 (length pairs) rest count_fits) (pairs_again pairs others fits)
