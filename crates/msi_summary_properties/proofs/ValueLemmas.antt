-- A value that is read is spelled so, and what spells a value is read as it.
use Rattle.std.proofs.Common.{◌≡◌, ℕ, zero, suc, ◌+◌, ◌-◌, ◌^◌, ◌<◌, true, cond, ltb, eqb, List, [], ◌∷◌, ◌++◌, length, get_or, take, drop, Some, None, refl, sym, ap, subst, ◌∙◌, append_assoc, arith, inl, inr}
use Rattle.std.specs.Prelude.{option_map, ℤ}
use Rattle.std.specs.Int.{Width, w8, w16, w32, w64, to_le_bytes, cast_signed, cast_unsigned}
use Rattle.std.specs.Int.RustNames.{FitsSigned}
use Rattle.std.proofs.lemmas.Bool.{eqb-true, ltb-true, lt-ltb}
use Rattle.std.proofs.lemmas.List.{take_at, take-append-drop, length-append, length-take}
use Rattle.std.proofs.lemmas.Int.{of_z-to_z, to_z-of_z}
use Rattle.std.proofs.Math.Seq.{drop-cons}
use Rattle.std.proofs.Math.Facts.{Fits-of_z}
use mir.Val.{bits}
use borrow.Author.Gap.{read_sfits}
use Rattle.msi_base.specs.declared.codepage.CodePage.{CodePage}
use Rattle.msi_base.specs.Pages.{text_in, Reads}
use Rattle.msi_summary_properties.specs.declared.propset.PropertyValue.{PropertyValue}
use Rattle.msi_summary_properties.specs.declared.propset.PropertyValue.TheVariants.{Empty, Null, I1, I2, I4, LpStr, FileTime}
use Rattle.msi_summary_properties.specs.PropertyStream.{SpellsValue, SpellsString, FitsValue}
use Rattle.msi_base.specs.Numbers.{number_at}
use Rattle.msi_summary_properties.specs.Reading.{string_with_len, string_at, payload_at, value_at}
use Rattle.msi_base.proofs.ReadFieldLemmas.{IsBytes, IsWide, wide8, wide16, wide32, wide64, number_takes, number_again}
use Rattle.msi_base.proofs.OptionLemmas.{bind_some, map_some, guard_held, branch, given, some_is}

-- bytes of which P holds stand in front
pub record Begins (bytes : List ℕ) (P : List ℕ → Type 0) : Type 0 where
  pub spelled : List ℕ
  pub others : List ℕ
  pub parts : bytes ≡ spelled ++ others
  pub is : P spelled

-- ---- texts

-- a list around an element
around : (n : ℕ) (bytes : List ℕ) → n < length bytes → bytes ≡ take n bytes ++ (get_or bytes n 0 ∷ drop (suc n) bytes)
around n bytes lt = sym (take-append-drop n bytes) ∙ ap (λ (x : List ℕ). take n bytes ++ x) (drop-cons bytes n 0 lt)

get_at : (a : List ℕ) (x : ℕ) (b : List ℕ) → get_or (a ++ (x ∷ b)) (length a) 0 ≡ x
get_at [] x b = refl
get_at (y ∷ a) x b = get_at a x b

string_parts : (n : ℕ) (bytes rest piece others : List ℕ) → bytes ≡ to_le_bytes w32 n ++ rest → rest ≡ piece ++ (0 ∷ others) → to_le_bytes w32 30 ++ bytes ≡ (to_le_bytes w32 30 ++ to_le_bytes w32 n ++ piece ++ 0 ∷ []) ++ others
string_parts n bytes rest piece others e f = rw (e, f) (ap (λ (x : List ℕ). to_le_bytes w32 30 ++ to_le_bytes w32 n ++ x) (sym (append_assoc piece (0 ∷ []) others)))

spells_piece : (p : CodePage) (n : ℕ) (piece text : List ℕ) → Reads p piece text → n < 2 ^ 32 → n - 1 ≡ length piece → SpellsString p (to_le_bytes w32 30 ++ to_le_bytes w32 n ++ piece ++ 0 ∷ []) text
spells_piece p zero [] text reads lt e = inr (reads, refl)
spells_piece p zero (b ∷ piece) text reads lt e = absurd (omega arith)
spells_piece p (suc n) piece text reads lt e =
    let k : suc n ≡ length piece + 1 = omega arith in
    inl (piece, omega arith, reads, ap (λ (m : ℕ). to_le_bytes w32 30 ++ to_le_bytes w32 m ++ piece ++ 0 ∷ []) k)

-- what follows the type of a text
pub string_found : (p : CodePage) (bytes text : List ℕ) → IsBytes bytes → string_at p bytes ≡ Some text → Begins (to_le_bytes w32 30 ++ bytes) (λ s. SpellsString p s text)
unfolding string_at
string_found p bytes text fits e =
    let b = bind_some (number_at w32 bytes) (λ n. string_with_len p n.0 n.1) text e in
    let n = b.0.0 in
    let rest = b.0.1 in
    let t = number_takes w32 (2 ^ 32) wide32 bytes n rest fits b.1 in
    let g = guard_held (ltb (n - 1) (length rest)) (cond (eqb (get_or rest (n - 1) 0) 0) (text_in p (take (n - 1) rest)) None) text b.2 in
    let h = guard_held (eqb (get_or rest (n - 1) 0) 0) (text_in p (take (n - 1) rest)) text g.1 in
    let lt : n - 1 < length rest = ltb-true _ _ g.0 in
    let null : get_or rest (n - 1) 0 ≡ 0 = eqb-true _ _ h.0 in
    let piece = take (n - 1) rest in
    let rest_is : rest ≡ piece ++ (0 ∷ drop (suc (n - 1)) rest) = around (n - 1) rest lt ∙ ap (λ (x : ℕ). piece ++ (x ∷ drop (suc (n - 1)) rest)) null in
    let len : n - 1 ≡ length piece = omega (arith, length-take (n - 1) rest) in
    record { spelled = to_le_bytes w32 30 ++ to_le_bytes w32 n ++ piece ++ 0 ∷ []; others = drop (suc (n - 1)) rest; parts = string_parts n bytes rest piece (drop (suc (n - 1)) rest) t.0.parts rest_is; is = spells_piece p n piece text h.1 t.1 len }

piece_again : (p : CodePage) (n : ℕ) (piece others text : List ℕ) → n - 1 ≡ length piece → Reads p piece text → string_with_len p n (piece ++ (0 ∷ others)) ≡ Some text
piece_again p n piece others text e reads =
    let lt : ltb (length piece) (length (piece ++ (0 ∷ others))) ≡ true = lt-ltb _ _ (omega (arith, length-append piece (0 ∷ others))) in
    rw (e, lt, get_at piece 0 others, take_at piece (0 ∷ others) (length piece) refl) reads

numbered_again : (p : CodePage) (n : ℕ) (piece others text : List ℕ) → n < 2 ^ 32 → n - 1 ≡ length piece → Reads p piece text → string_at p (to_le_bytes w32 n ++ (piece ++ (0 ∷ others))) ≡ Some text
unfolding string_at
numbered_again p n piece others text lt e reads = rw (number_again w32 (2 ^ 32) wide32 n (piece ++ (0 ∷ others)) lt) (piece_again p n piece others text e reads)

pub record Follows (p : CodePage) (bytes text : List ℕ) : Type 0 where
  pub rest : List ℕ
  pub parts : bytes ≡ to_le_bytes w32 30 ++ rest
  pub reads : string_at p rest ≡ Some text

pub string_again : (p : CodePage) (spelled others text : List ℕ) → SpellsString p spelled text → Follows p (spelled ++ others) text
string_again p spelled others text (inl h) =
    record {
      rest = to_le_bytes w32 (length h.0 + 1) ++ (h.0 ++ (0 ∷ others));
      parts = rw h.3 (ap (λ (x : List ℕ). to_le_bytes w32 30 ++ to_le_bytes w32 (length h.0 + 1) ++ x) (append_assoc h.0 (0 ∷ []) others));
      reads = numbered_again p (length h.0 + 1) h.0 others text h.1 (omega arith) h.2;
    }
string_again p spelled others text (inr h) =
    record {
      rest = to_le_bytes w32 0 ++ (0 ∷ others);
      parts = rw h.1 refl;
      reads = numbered_again p 0 [] others text (omega arith) refl h.0;
    }

-- ---- numbers behind a type

record Counted (w : Width) (limit : ℕ) (rest : List ℕ) (f : ℕ → PropertyValue) (v : PropertyValue) : Type 0 where
  pub n : ℕ
  pub others : List ℕ
  pub below : n < limit
  pub parts : rest ≡ to_le_bytes w n ++ others
  pub is : f n ≡ v

counted : (w : Width) (limit : ℕ) (wide : IsWide w limit) (rest : List ℕ) (f : ℕ → PropertyValue) (v : PropertyValue) → IsBytes rest → option_map (λ (x : ℕ × List ℕ). f x.0) (number_at w rest) ≡ Some v → Counted w limit rest f v
counted w limit wide rest f v fits e =
    let m = map_some (number_at w rest) (λ (x : ℕ × List ℕ). f x.0) v e in
    let t = number_takes w limit wide rest m.0.0 m.0.1 fits m.1 in
    record { n = m.0.0; others = m.0.1; below = t.1; parts = t.0.parts; is = m.2 }

counted_again : (w : Width) (limit : ℕ) (wide : IsWide w limit) (n : ℕ) (others : List ℕ) (f : ℕ → PropertyValue) → n < limit → option_map (λ (x : ℕ × List ℕ). f x.0) (number_at w (to_le_bytes w n ++ others)) ≡ Some (f n)
counted_again w limit wide n others f lt = rw (number_again w limit wide n others lt) refl

IsFound : ℕ → CodePage → List ℕ → PropertyValue → Type 0
IsFound version p bytes v = Begins bytes (λ s. SpellsValue version p s v) × FitsValue v

unsigned_fits : (w : Width) (z : ℤ) → FitsSigned w z → cast_unsigned w z < 2 ^ bits w
unsigned_fits w z h = (Fits-of_z h).fits

behind : (a b c rest : List ℕ) → rest ≡ b ++ c → a ++ rest ≡ (a ++ b) ++ c
behind a b c rest e = ap (λ (x : List ℕ). a ++ x) e ∙ sym (append_assoc a b c)

-- a signed number of this width behind its type
signed_found : (w : Width) (limit : ℕ) (wide : IsWide w limit) (version : ℕ) (p : CodePage) (t : ℕ) (rest : List ℕ) (v : PropertyValue) (f : ℤ → PropertyValue) → limit ≡ 2 ^ bits w
    → ((z : ℤ) → FitsSigned w z → FitsValue (f z))
    → ((z : ℤ) → SpellsValue version p (to_le_bytes w32 t ++ to_le_bytes w (cast_unsigned w z)) (f z))
    → IsBytes rest → option_map (λ (x : ℕ × List ℕ). f (cast_signed w x.0)) (number_at w rest) ≡ Some v → IsFound version p (to_le_bytes w32 t ++ rest) v
unfolding IsFound
signed_found w limit wide version p t rest v f limit_is fit spells fits e =
    let c = counted w limit wide rest (λ n. f (cast_signed w n)) v fits e in
    let z = cast_signed w c.n in
    let back : cast_unsigned w z ≡ c.n = of_z-to_z w c.n (subst (λ (m : ℕ). c.n < m) limit_is c.below) in
    let parts : to_le_bytes w32 t ++ rest ≡ (to_le_bytes w32 t ++ to_le_bytes w (cast_unsigned w z)) ++ c.others = behind (to_le_bytes w32 t) (to_le_bytes w (cast_unsigned w z)) c.others rest (c.parts ∙ ap (λ (m : ℕ). to_le_bytes w m ++ c.others) (sym back)) in
    subst (λ (x : PropertyValue). Begins (to_le_bytes w32 t ++ rest) (λ s. SpellsValue version p s x) × FitsValue x) c.is
    (record { spelled = to_le_bytes w32 t ++ to_le_bytes w (cast_unsigned w z); others = c.others; parts = parts; is = spells z }, fit z (read_sfits w c.n))

plain_found : (version : ℕ) (p : CodePage) (t : ℕ) (rest : List ℕ) (v w : PropertyValue) → FitsValue w → SpellsValue version p (to_le_bytes w32 t) w → given w ≡ Some v → IsFound version p (to_le_bytes w32 t ++ rest) v
unfolding IsFound
plain_found version p t rest v w fit spells e =
    subst (λ (x : PropertyValue). Begins (to_le_bytes w32 t ++ rest) (λ s. SpellsValue version p s x) × FitsValue x) (some_is w v e) (record { spelled = to_le_bytes w32 t; others = rest; parts = refl; is = spells }, fit)

time_found : (version : ℕ) (p : CodePage) (rest : List ℕ) (v : PropertyValue) → IsBytes rest → option_map (λ (x : ℕ × List ℕ). FileTime x.0) (number_at w64 rest) ≡ Some v → IsFound version p (to_le_bytes w32 64 ++ rest) v
unfolding IsFound
time_found version p rest v fits e =
    let c = counted w64 (2 ^ 64) wide64 rest (λ n. FileTime n) v fits e in
    subst (λ (x : PropertyValue). Begins (to_le_bytes w32 64 ++ rest) (λ s. SpellsValue version p s x) × FitsValue x) c.is
    (record { spelled = to_le_bytes w32 64 ++ to_le_bytes w64 c.n; others = c.others; parts = ap (λ (x : List ℕ). to_le_bytes w32 64 ++ x) c.parts; is = refl }, c.below)

text_found : (version : ℕ) (p : CodePage) (rest : List ℕ) (v : PropertyValue) → IsBytes rest → option_map LpStr (string_at p rest) ≡ Some v → IsFound version p (to_le_bytes w32 30 ++ rest) v
unfolding IsFound
text_found version p rest v fits e =
    let m = map_some (string_at p rest) LpStr v e in
    let b = string_found p rest m.0 fits m.1 in
    subst (λ (x : PropertyValue). Begins (to_le_bytes w32 30 ++ rest) (λ s. SpellsValue version p s x) × FitsValue x) m.2
    (record { spelled = b.spelled; others = b.others; parts = b.parts; is = b.is }, tt)

byte_found : (version : ℕ) (p : CodePage) (rest : List ℕ) (v : PropertyValue) → IsBytes rest → cond (eqb version 1) (option_map (λ (x : ℕ × List ℕ). I1 (cast_signed w8 x.0)) (number_at w8 rest)) None ≡ Some v → IsFound version p (to_le_bytes w32 16 ++ rest) v
byte_found version p rest v fits e =
    let g = guard_held (eqb version 1) (option_map (λ (x : ℕ × List ℕ). I1 (cast_signed w8 x.0)) (number_at w8 rest)) v e in
    signed_found w8 (2 ^ 8) wide8 version p 16 rest v (λ z. I1 z) refl (λ z h. h) (λ z. (eqb-true _ _ g.0, refl)) fits g.1

payload_found : (version : ℕ) (p : CodePage) (t : ℕ) (rest : List ℕ) (v : PropertyValue) → IsBytes rest → payload_at version p t rest ≡ Some v → IsFound version p (to_le_bytes w32 t ++ rest) v
unfolding payload_at
payload_found version p t rest v fits e =
    let at = λ (k : ℕ) (h : eqb t k ≡ true) (found : IsFound version p (to_le_bytes w32 k ++ rest) v). subst (λ (x : ℕ). IsFound version p (to_le_bytes w32 x ++ rest) v) (sym (eqb-true t k h)) found in
    elim (branch (eqb t 0) _ _ v e) [
      | inl h ↦ at 0 h.0 (plain_found version p 0 rest v Empty tt refl h.1)
      | inr n0 ↦ elim (branch (eqb t 1) _ _ v n0.1) [
        | inl h ↦ at 1 h.0 (plain_found version p 1 rest v Null tt refl h.1)
        | inr n1 ↦ elim (branch (eqb t 2) _ _ v n1.1) [
          | inl h ↦ at 2 h.0 (signed_found w16 (2 ^ 16) wide16 version p 2 rest v (λ z. I2 z) refl (λ z h. h) (λ z. refl) fits h.1)
          | inr n2 ↦ elim (branch (eqb t 3) _ _ v n2.1) [
            | inl h ↦ at 3 h.0 (signed_found w32 (2 ^ 32) wide32 version p 3 rest v (λ z. I4 z) refl (λ z h. h) (λ z. refl) fits h.1)
            | inr n3 ↦ elim (branch (eqb t 16) _ _ v n3.1) [
              | inl h ↦ at 16 h.0 (byte_found version p rest v fits h.1)
              | inr n4 ↦ elim (branch (eqb t 30) _ _ v n4.1) [
                | inl h ↦ at 30 h.0 (text_found version p rest v fits h.1)
                | inr n5 ↦ (let g = guard_held (eqb t 64) _ v n5.1 in at 64 g.0 (time_found version p rest v fits g.1))
              ]
            ]
          ]
        ]
      ]
    ]

-- what is read is spelled in front, and its type holds it
pub value_found : (version : ℕ) (p : CodePage) (bytes : List ℕ) (v : PropertyValue) → IsBytes bytes → value_at version p bytes ≡ Some v → Begins bytes (λ s. SpellsValue version p s v) × FitsValue v
unfolding value_at IsFound
value_found version p bytes v fits e =
    let b = bind_some (number_at w32 bytes) (λ t. payload_at version p t.0 t.1) v e in
    let t = number_takes w32 (2 ^ 32) wide32 bytes b.0.0 b.0.1 fits b.1 in
    subst (λ (x : List ℕ). Begins x (λ s. SpellsValue version p s v) × FitsValue v) (sym t.0.parts) (payload_found version p b.0.0 b.0.1 v t.0.rest_fits b.2)

typed_again : (version : ℕ) (p : CodePage) (t : ℕ) (rest : List ℕ) → t < 2 ^ 32 → value_at version p (to_le_bytes w32 t ++ rest) ≡ payload_at version p t rest
unfolding value_at
typed_again version p t rest lt = rw (number_again w32 (2 ^ 32) wide32 t rest lt) refl

-- what is spelled in front is read
pub value_again : (version : ℕ) (p : CodePage) (spelled others : List ℕ) (v : PropertyValue) → FitsValue v → SpellsValue version p spelled v → value_at version p (spelled ++ others) ≡ Some v
unfolding payload_at
value_again version p spelled others Empty fit e = rw e (typed_again version p 0 others (omega arith))
value_again version p spelled others Null fit e = rw e (typed_again version p 1 others (omega arith))
value_again version p spelled others (I2 n) fit e = rw e (typed_again version p 2 (to_le_bytes w16 (cast_unsigned w16 n) ++ others) (omega arith) ∙ counted_again w16 (2 ^ 16) wide16 (cast_unsigned w16 n) others (λ n. I2 (cast_signed w16 n)) (unsigned_fits w16 n fit) ∙ ap (λ (z : ℤ). given (I2 z)) (to_z-of_z w16 n fit))
value_again version p spelled others (I4 n) fit e = rw e (typed_again version p 3 (to_le_bytes w32 (cast_unsigned w32 n) ++ others) (omega arith) ∙ counted_again w32 (2 ^ 32) wide32 (cast_unsigned w32 n) others (λ n. I4 (cast_signed w32 n)) (unsigned_fits w32 n fit) ∙ ap (λ (z : ℤ). given (I4 z)) (to_z-of_z w32 n fit))
value_again version p spelled others (I1 n) fit e = rw (e.0, e.1) (typed_again 1 p 16 (to_le_bytes w8 (cast_unsigned w8 n) ++ others) (omega arith) ∙ counted_again w8 (2 ^ 8) wide8 (cast_unsigned w8 n) others (λ n. I1 (cast_signed w8 n)) (unsigned_fits w8 n fit) ∙ ap (λ (z : ℤ). given (I1 z)) (to_z-of_z w8 n fit))
value_again version p spelled others (LpStr text) fit e =
    let f = string_again p spelled others text e in
    rw f.parts (typed_again version p 30 f.rest (omega arith) ∙ ap (option_map LpStr) f.reads)
value_again version p spelled others (FileTime ticks) fit e = rw e (typed_again version p 64 (to_le_bytes w64 ticks ++ others) (omega arith) ∙ counted_again w64 (2 ^ 64) wide64 ticks others (λ n. FileTime n) fit)
