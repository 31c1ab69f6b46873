-- An entry that is read is spelled so, and what spells an entry is read as it; so do entries one after the other.
use Rattle.std.proofs.Common.{◌≡◌, ℕ, ◌^◌, ◌<◌, ◌≤◌, true, false, ltb, eqb, List, [], ◌∷◌, ◌++◌, length, Some, None, refl, sym, ap, subst, ◌∙◌, append_assoc, arith, rules, inl, inr}
use Rattle.std.specs.Prelude.{◌⊎◌, ◌||◌, option_map}
use Rattle.std.specs.Int.{w16, w32, to_le_bytes}
use Rattle.std.proofs.lemmas.List.{append-nil, length-append}
use Rattle.msi_base.specs.declared.errors.ErrorKind.{ErrorKind}
use Rattle.msi_base.specs.declared.errors.ErrorKind.TheVariants as kind
use Rattle.msi_pool_places.specs.Pool.{Entry, short_entry, long_entry, SpellsEntry, SpellsEntries}
use Rattle.msi_pool_places.specs.PoolReading.{entry_with, entry_at}
use Rattle.msi_base.specs.Numbers.{number_at}
use Rattle.msi_base.specs.Results.{FailsAs}
use Rattle.msi_base.proofs.ReadFieldLemmas.{IsBytes, wide16, wide32, Takes-then, number_takes, number_again}
use Rattle.msi_base.proofs.OptionLemmas.{bind_some, map_some, branch, given, some_is, not_given}

-- bytes in front spell the entry
pub record Entered (bytes : List ℕ) (e : Entry) (rest : List ℕ) : Type 0 where
  pub piece : List ℕ
  pub parts : bytes ≡ piece ++ rest
  pub is : SpellsEntry piece e
  pub rest_fits : IsBytes rest

is_short : (len count : ℕ) → (ltb 0 len || eqb count 0) ≡ true → (0 < len) ⊎ (count ≡ 0)
is_short len count h = grind (arith, rules)

is_long : (len count : ℕ) → (ltb 0 len || eqb count 0) ≡ false → (len ≡ 0) × (0 < count)
is_long len count h = grind (arith, rules)

short_again : (len count : ℕ) → (0 < len) ⊎ (count ≡ 0) → (ltb 0 len || eqb count 0) ≡ true
short_again len count h = grind (arith, rules)

long_again : (count : ℕ) → 0 < count → (ltb 0 0 || eqb count 0) ≡ false
long_again count h = grind (arith, rules)

pub entry_found : (bytes : List ℕ) (e : Entry) (rest : List ℕ) → IsBytes bytes → entry_at bytes ≡ Some (e, rest) → Entered bytes e rest
unfolding entry_at
entry_found bytes e rest fits h =
    let a = bind_some (number_at w16 bytes) _ (e, rest) h in
    let b = bind_some (number_at w16 a.0.1) _ (e, rest) a.2 in
    let ta = number_takes w16 (2 ^ 16) wide16 bytes a.0.0 a.0.1 fits a.1 in
    let tb = number_takes w16 (2 ^ 16) wide16 a.0.1 b.0.0 b.0.1 ta.0.rest_fits b.1 in
    let tab = Takes-then bytes (to_le_bytes w16 a.0.0) a.0.1 (to_le_bytes w16 b.0.0) b.0.1 ta.0 tb.0 in
    elim (branch (ltb 0 a.0.0 || eqb b.0.0 0) (Some (entry_with a.0.0 b.0.0, b.0.1)) (option_map (λ (long : ℕ × List ℕ). (entry_with long.0 b.0.0, long.1)) (number_at w32 b.0.1)) (e, rest) b.2) [
      | inl s ↦ (let both = some_is (entry_with a.0.0 b.0.0, b.0.1) (e, rest) s.1 in
          subst (λ (p : Entry × List ℕ). Entered bytes p.0 p.1) both (record { piece = to_le_bytes w16 a.0.0 ++ to_le_bytes w16 b.0.0; parts = tab.parts; is = (tb.1, inl (is_short a.0.0 b.0.0 s.0, ta.1, refl)); rest_fits = tab.rest_fits }))
      | inr l ↦ (let m = map_some (number_at w32 b.0.1) (λ (long : ℕ × List ℕ). (entry_with long.0 b.0.0, long.1)) (e, rest) l.1 in
          let tl = number_takes w32 (2 ^ 32) wide32 b.0.1 m.0.0 m.0.1 tb.0.rest_fits m.1 in
          let tbl = Takes-then a.0.1 (to_le_bytes w16 b.0.0) b.0.1 (to_le_bytes w32 m.0.0) m.0.1 tb.0 tl.0 in
          let tabl = Takes-then bytes (to_le_bytes w16 a.0.0) a.0.1 (to_le_bytes w16 b.0.0 ++ to_le_bytes w32 m.0.0) m.0.1 ta.0 tbl in
          let long = is_long a.0.0 b.0.0 l.0 in
          let piece-is : to_le_bytes w16 a.0.0 ++ to_le_bytes w16 b.0.0 ++ to_le_bytes w32 m.0.0 ≡ long_entry (entry_with m.0.0 b.0.0) = ap (λ (x : ℕ). to_le_bytes w16 x ++ to_le_bytes w16 b.0.0 ++ to_le_bytes w32 m.0.0) long.0 in
          subst (λ (p : Entry × List ℕ). Entered bytes p.0 p.1) m.2 (record { piece = to_le_bytes w16 a.0.0 ++ to_le_bytes w16 b.0.0 ++ to_le_bytes w32 m.0.0; parts = tabl.parts; is = (tb.1, inr (long.1, tl.1, piece-is)); rest_fits = tl.0.rest_fits }))
    ]

short_read : (e : Entry) (rest : List ℕ) → e.count < 2 ^ 16 → (0 < e.len) ⊎ (e.count ≡ 0) → e.len < 2 ^ 16 → entry_at (short_entry e ++ rest) ≡ Some (e, rest)
unfolding entry_at
short_read e rest count short len =
    let grouped : short_entry e ++ rest ≡ to_le_bytes w16 e.len ++ (to_le_bytes w16 e.count ++ rest) = append_assoc (to_le_bytes w16 e.len) (to_le_bytes w16 e.count) rest in
    ap entry_at grouped ∙ rw (number_again w16 (2 ^ 16) wide16 e.len (to_le_bytes w16 e.count ++ rest) len, number_again w16 (2 ^ 16) wide16 e.count rest count, short_again e.len e.count short) refl

long_read : (e : Entry) (rest : List ℕ) → e.count < 2 ^ 16 → 0 < e.count → e.len < 2 ^ 32 → entry_at (long_entry e ++ rest) ≡ Some (e, rest)
unfolding entry_at
long_read e rest count long len =
    let r2 = to_le_bytes w32 e.len ++ rest in
    let r1 = to_le_bytes w16 e.count ++ r2 in
    let grouped : long_entry e ++ rest ≡ to_le_bytes w16 0 ++ r1 = append_assoc (to_le_bytes w16 0) (to_le_bytes w16 e.count ++ to_le_bytes w32 e.len) rest ∙ ap (λ (x : List ℕ). to_le_bytes w16 0 ++ x) (append_assoc (to_le_bytes w16 e.count) (to_le_bytes w32 e.len) rest) in
    ap entry_at grouped ∙ rw (number_again w16 (2 ^ 16) wide16 0 r1 (omega arith), number_again w16 (2 ^ 16) wide16 e.count r2 count, long_again e.count long, number_again w32 (2 ^ 32) wide32 e.len rest len) refl

pub entry_again : (piece rest : List ℕ) (e : Entry) → SpellsEntry piece e → entry_at (piece ++ rest) ≡ Some (e, rest)
entry_again piece rest e (count, inl s) = rw s.2 (short_read e rest count s.0 s.1)
entry_again piece rest e (count, inr l) = rw l.2 (long_read e rest count l.0 l.1)

entry_long : (piece : List ℕ) (e : Entry) → SpellsEntry piece e → 4 ≤ length piece
entry_long piece e (count, inl s) = rw s.2 (omega arith)
entry_long piece e (count, inr l) = rw l.2 (omega arith)

-- what is read is shorter
pub entry_shorter : (bytes : List ℕ) (e : Entry) (rest : List ℕ) → IsBytes bytes → entry_at bytes ≡ Some (e, rest) → length rest < length bytes
entry_shorter bytes e rest fits h =
    let f = entry_found bytes e rest fits h in
    rw f.parts (omega (arith, entry_long f.piece e f.is, length-append f.piece rest))

-- the entries after the first
next_entries : (bytes : List ℕ) (e : Entry) (rest : List ℕ) (es : List Entry) → 2 ≤ length bytes → entry_at bytes ≡ Some (e, rest) → SpellsEntries bytes es → (others : List Entry) × (es ≡ e ∷ others) × SpellsEntries rest others
next_entries bytes e rest [] le h spelled = absurd (omega (arith, le, spelled))
next_entries bytes e rest (f ∷ fs) le h (piece, others, parts, is, more) =
    let both : (e, rest) ≡ (f, others) = some_is (e, rest) (f, others) (sym h ∙ ap entry_at parts ∙ entry_again piece others f is) in
    let f-is : f ≡ e = ap (λ (p : Entry × List ℕ). p.0) (sym both) in
    let rest-is : others ≡ rest = ap (λ (p : Entry × List ℕ). p.1) (sym both) in
    (fs, ap (λ (x : Entry). x ∷ fs) f-is, subst (λ (x : List ℕ). SpellsEntries x fs) rest-is more)

no_entries : (bytes : List ℕ) (es : List Entry) → 2 ≤ length bytes → entry_at bytes ≡ None → SpellsEntries bytes es → ⊥
no_entries bytes [] le h spelled = absurd (omega (arith, le, spelled))
no_entries bytes (f ∷ fs) le h (piece, others, parts, is, more) =
    absurd (not_given (f, others) (sym (entry_again piece others f is) ∙ ap entry_at (sym parts) ∙ h))

last_entries : (bytes : List ℕ) (es : List Entry) → length bytes < 2 → SpellsEntries bytes es → es ≡ []
last_entries bytes [] lt spelled = refl
last_entries bytes (f ∷ fs) lt (piece, others, parts, is, more) = absurd (omega (arith, lt, ap length parts, length-append piece others, entry_long piece f is))

-- ---- entries one after the other, as a loop reads them

-- the bytes spell what the rest spells, with these entries in front
pub record IsFront (bytes : List ℕ) (front : List Entry) (rest : List ℕ) : Type 0 where
  pub into : (es : List Entry) → SpellsEntries rest es → SpellsEntries bytes (front ++ es)
  pub back : (es : List Entry) → SpellsEntries bytes es → (others : List Entry) × (es ≡ front ++ others) × SpellsEntries rest others
  pub fits : IsBytes rest

pub front_start : (bytes : List ℕ) → IsBytes bytes → IsFront bytes [] bytes
front_start bytes fits = record { into = λ es h. h; back = λ es h. (es, refl, h); fits = fits }

pub front_next : (bytes : List ℕ) (front : List Entry) (old : List ℕ) (e : Entry) (rest : List ℕ) → IsFront bytes front old → 2 ≤ length old → entry_at old ≡ Some (e, rest) → IsFront bytes (front ++ e ∷ []) rest
front_next bytes front old e rest so_far le h =
    let f = entry_found old e rest so_far.fits h in
    record {
      into = λ es spelled. subst (λ (x : List Entry). SpellsEntries bytes x) (sym (append_assoc front (e ∷ []) es)) (so_far.into (e ∷ es) (f.piece, rest, f.parts, f.is, spelled));
      back = λ es spelled. (let b = so_far.back es spelled in
          let n = next_entries old e rest b.0 le h b.2 in
          (n.0, b.1 ∙ ap (λ (x : List Entry). front ++ x) n.1 ∙ sym (append_assoc front (e ∷ []) n.0), n.2));
      fits = f.rest_fits;
    }

pub front_done : (bytes : List ℕ) (front : List Entry) (rest : List ℕ) → IsFront bytes front rest → length rest < 2 → SpellsEntries bytes front
front_done bytes front rest so_far lt = subst (λ (x : List Entry). SpellsEntries bytes x) (append-nil front) (so_far.into [] lt)

pub front_only : (bytes : List ℕ) (front : List Entry) (rest : List ℕ) (es : List Entry) → IsFront bytes front rest → length rest < 2 → SpellsEntries bytes es → es ≡ front
front_only bytes front rest es so_far lt spelled =
    let b = so_far.back es spelled in
    b.1 ∙ ap (λ (x : List Entry). front ++ x) (last_entries rest b.0 lt b.2) ∙ append-nil front

-- a fault of the next entry is one of the entries
pub front_cut : (k : ErrorKind) (bytes : List ℕ) (front : List Entry) (old : List ℕ) (es : List Entry) → IsFront bytes front old → 2 ≤ length old → FailsAs k (entry_at old) → SpellsEntries bytes es → FailsAs k (given es)
front_cut kind.AlreadyExists bytes front old es so_far le h spelled = absurd h
front_cut kind.InvalidData bytes front old es so_far le h spelled = let b = so_far.back es spelled in absurd (no_entries old b.0 le h b.2)
front_cut kind.InvalidInput bytes front old es so_far le h spelled = absurd h
front_cut kind.NotFound bytes front old es so_far le h spelled = absurd h
front_cut kind.Io bytes front old es so_far le h spelled = absurd h
front_cut kind.OutOfMemory bytes front old es so_far le h spelled = tt

pub one_list : (bytes : List ℕ) (xs ys : List Entry) → SpellsEntries bytes xs → SpellsEntries bytes ys → xs ≡ ys
one_list bytes [] [] p q = refl
one_list bytes [] (y ∷ ys) p q = sym (last_entries bytes (y ∷ ys) p q)
one_list bytes (x ∷ xs) [] p q = last_entries bytes (x ∷ xs) q p
one_list bytes (x ∷ xs) (y ∷ ys) (piece, others, parts, is, more) q =
    let read : entry_at bytes ≡ Some (x, others) = ap entry_at parts ∙ entry_again piece others x is in
    let le : 2 ≤ length bytes = omega (arith, ap length parts, length-append piece others, entry_long piece x is) in
    let n = next_entries bytes x others (y ∷ ys) le read q in
    ap (λ (es : List Entry). x ∷ es) (one_list others xs n.0 more n.2) ∙ sym n.1
