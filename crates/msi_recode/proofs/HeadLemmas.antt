-- The pool's first stream is read from its header and its entries, and holds one head.
use Rattle.std.proofs.Common.{◌≡◌, ℕ, ◌+◌, ◌-◌, ◌^◌, ◌<◌, ◌≤◌, Bool, true, false, ltb, List, ◌++◌, length, Option, Some, sym, ap, subst, ◌∙◌, arith, inl, inr, refl}
use Rattle.std.specs.Prelude.{option_map, if◌then◌else◌}
use Rattle.std.specs.Int.{w32, to_le_bytes}
use Rattle.std.proofs.lemmas.Bool.{lt-ltb, ltb-true, ltb-false, le-ltb}
use Rattle.msi_base.specs.declared.errors.ErrorKind.{ErrorKind}
use Rattle.msi_base.specs.declared.errors.ErrorKind.TheVariants as kind
use Rattle.msi_base.specs.Numbers.{number_at}
use Rattle.msi_base.specs.Results.{FailsAs}
use Rattle.msi_base.proofs.ReadFieldLemmas.{IsBytes, wide32, number_takes, number_again}
use Rattle.msi_base.proofs.OptionLemmas.{map_some, branch, given, some_is, not_given}
use Rattle.msi_pool_places.specs.Pool.{Entry, SpellsEntries}
use Rattle.msi_pool_places.proofs.ReadEntriesLemmas.{one_list}
use Rattle.msi_recode.specs.declared.page.TextPage.{TextPage}
use Rattle.msi_recode.specs.TextPages.{page_for}
use Rattle.msi_recode.specs.PoolRecoding.{PoolHead, IsHead}
use Rattle.msi_recode.specs.PoolReading.{header_in}

-- a header is the sum of an id and the bit of long references
record Headed (hint : Option TextPage) (n : ℕ) (page : TextPage) (long : Bool) : Type 0 where
  id : ℕ
  small : id < 2 ^ 31
  known : page_for hint id ≡ Some page
  sum : n ≡ id + (if long then 2 ^ 31 else 0)

header_found : (hint : Option TextPage) (n : ℕ) (page : TextPage) (long : Bool) → n < 2 ^ 32 → header_in hint n ≡ Some (page, long) → Headed hint n page long
header_found hint n page long lt h =
    elim (branch (ltb n (2 ^ 31)) (option_map (λ (p : TextPage). (p, false)) (page_for hint n)) (option_map (λ (p : TextPage). (p, true)) (page_for hint (n - 2 ^ 31))) (page, long) h) [
      | inl s ↦ (let m = map_some (page_for hint n) (λ (p : TextPage). (p, false)) (page, long) s.1 in
          subst (λ (x : TextPage × Bool). Headed hint n x.0 x.1) m.2 (record { id = n; small = ltb-true _ _ s.0; known = m.1; sum = omega arith }))
      | inr l ↦ (let m = map_some (page_for hint (n - 2 ^ 31)) (λ (p : TextPage). (p, true)) (page, long) l.1 in
          let le : 2 ^ 31 ≤ n = ltb-false _ _ l.0 in
          subst (λ (x : TextPage × Bool). Headed hint n x.0 x.1) m.2 (record { id = n - 2 ^ 31; small = omega (arith, lt, le); known = m.1; sum = omega (arith, le) }))
    ]

header_again : (hint : Option TextPage) (id : ℕ) (page : TextPage) (long : Bool) → id < 2 ^ 31 → page_for hint id ≡ Some page → header_in hint (id + (if long then 2 ^ 31 else 0)) ≡ Some (page, long)
header_again hint id page true lt known =
    let le : ltb (id + 2 ^ 31) (2 ^ 31) ≡ false = le-ltb _ _ (omega arith) in
    let back : id + 2 ^ 31 - 2 ^ 31 ≡ id = omega arith in
    rw (le, back, known) refl
header_again hint id page false lt known =
    let same : id + 0 ≡ id = omega arith in
    rw (same, lt-ltb id (2 ^ 31) lt, known) refl

header_small : (id : ℕ) (long : Bool) → id < 2 ^ 31 → id + (if long then 2 ^ 31 else 0) < 2 ^ 32
header_small id true lt = omega (arith, lt)
header_small id false lt = omega (arith, lt)

-- what is read is said
pub head_found : (hint : Option TextPage) (bytes : List ℕ) (n : ℕ) (rest : List ℕ) (page : TextPage) (long : Bool) (entries : List Entry) → IsBytes bytes → number_at w32 bytes ≡ Some (n, rest) → header_in hint n ≡ Some (page, long)
    → SpellsEntries rest entries → length entries ≤ 16777215 → IsHead hint bytes (record { page = page; long = long; entries = entries })
head_found hint bytes n rest page long entries fits read head spelled few =
    let t = number_takes w32 (2 ^ 32) wide32 bytes n rest fits read in
    let h = header_found hint n page long t.1 head in
    (h.id, rest, h.small, h.known, t.0.parts ∙ ap (λ (x : ℕ). to_le_bytes w32 x ++ rest) h.sum, spelled, few)

-- what is said is read so
record IsSaid (hint : Option TextPage) (bytes : List ℕ) (head : PoolHead) : Type 0 where
  n : ℕ
  rest : List ℕ
  read : number_at w32 bytes ≡ Some (n, rest)
  header : header_in hint n ≡ Some (head.page, head.long)
  spelled : SpellsEntries rest head.entries
  few : length head.entries ≤ 16777215

head_again : (hint : Option TextPage) (bytes : List ℕ) (head : PoolHead) → IsHead hint bytes head → IsSaid hint bytes head
head_again hint bytes head (id, others, small, known, parts, spelled, few) =
    let n = id + (if head.long then 2 ^ 31 else 0) in
    record { n = n; rest = others; read = ap (number_at w32) parts ∙ number_again w32 (2 ^ 32) wide32 n others (header_small id head.long small); header = header_again hint id head.page head.long small known; spelled = spelled; few = few }

-- the number in front and what follows are those that were read
record IsRead (hint : Option TextPage) (n : ℕ) (rest : List ℕ) (head : PoolHead) : Type 0 where
  header : header_in hint n ≡ Some (head.page, head.long)
  spelled : SpellsEntries rest head.entries
  few : length head.entries ≤ 16777215

head_read : (hint : Option TextPage) (bytes : List ℕ) (n : ℕ) (rest : List ℕ) (head : PoolHead) → number_at w32 bytes ≡ Some (n, rest) → IsHead hint bytes head → IsRead hint n rest head
head_read hint bytes n rest head read said =
    let s = head_again hint bytes head said in
    let both : (s.n, s.rest) ≡ (n, rest) = some_is (s.n, s.rest) (n, rest) (sym s.read ∙ read) in
    subst (λ (x : ℕ × List ℕ). IsRead hint x.0 x.1 head) both (record { header = s.header; spelled = s.spelled; few = s.few })

same_head : (p q : TextPage) (l m : Bool) (es fs : List Entry) → p ≡ q → l ≡ m → es ≡ fs → (let a : PoolHead = record { page = p; long = l; entries = es } in let b : PoolHead = record { page = q; long = m; entries = fs } in a ≡ b)
same_head p q l m es fs e f g = rw (e, f, g) refl

-- what is said is what was read
pub head_only : (hint : Option TextPage) (bytes : List ℕ) (n : ℕ) (rest : List ℕ) (page : TextPage) (long : Bool) (entries : List Entry) (head : PoolHead) → number_at w32 bytes ≡ Some (n, rest) → header_in hint n ≡ Some (page, long)
    → SpellsEntries rest entries → IsHead hint bytes head → head ≡ record { page = page; long = long; entries = entries }
head_only hint bytes n rest page long entries head read is spelled said =
    let r = head_read hint bytes n rest head read said in
    let both : (head.page, head.long) ≡ (page, long) = some_is (head.page, head.long) (page, long) (sym r.header ∙ is) in
    same_head head.page page head.long long head.entries entries (ap (λ (x : TextPage × Bool). x.0) both) (ap (λ (x : TextPage × Bool). x.1) both) (one_list rest head.entries entries r.spelled spelled)

-- bytes say one head
pub one_head : (hint : Option TextPage) (bytes : List ℕ) (a b : PoolHead) → IsHead hint bytes a → IsHead hint bytes b → a ≡ b
one_head hint bytes a b p q =
    let s = head_again hint bytes b q in
    head_only hint bytes s.n s.rest b.page b.long b.entries a s.read s.header s.spelled p

-- an error of the header is one of the head
pub no_header : (k : ErrorKind) (hint : Option TextPage) (bytes : List ℕ) (head : PoolHead) → FailsAs k (number_at w32 bytes) → IsHead hint bytes head → k ≡ kind.OutOfMemory
no_header kind.AlreadyExists hint bytes head h said = absurd h
no_header kind.InvalidData hint bytes head h said = let s = head_again hint bytes head said in absurd (not_given (s.n, s.rest) (sym s.read ∙ h))
no_header kind.InvalidInput hint bytes head h said = absurd h
no_header kind.NotFound hint bytes head h said = absurd h
no_header kind.Io hint bytes head h said = absurd h
no_header kind.OutOfMemory hint bytes head h said = refl

pub no_page : (k : ErrorKind) (hint : Option TextPage) (bytes : List ℕ) (n : ℕ) (rest : List ℕ) (head : PoolHead) → number_at w32 bytes ≡ Some (n, rest) → FailsAs k (header_in hint n) → IsHead hint bytes head → k ≡ kind.OutOfMemory
no_page kind.AlreadyExists hint bytes n rest head read h said = absurd h
no_page kind.InvalidData hint bytes n rest head read h said = let r = head_read hint bytes n rest head read said in absurd (not_given (head.page, head.long) (sym r.header ∙ h))
no_page kind.InvalidInput hint bytes n rest head read h said = absurd h
no_page kind.NotFound hint bytes n rest head read h said = absurd h
no_page kind.Io hint bytes n rest head read h said = absurd h
no_page kind.OutOfMemory hint bytes n rest head read h said = refl

-- so is one of the entries
pub cut_entries : (k : ErrorKind) (hint : Option TextPage) (bytes : List ℕ) (n : ℕ) (rest : List ℕ) (head : PoolHead) → number_at w32 bytes ≡ Some (n, rest) → ((es : List Entry) → SpellsEntries rest es → FailsAs k (given es)) → IsHead hint bytes head → k ≡ kind.OutOfMemory
cut_entries k hint bytes n rest head read h said = let r = head_read hint bytes n rest head read said in same k head.entries (h head.entries r.spelled)
  where
    same : (k : ErrorKind) (es : List Entry) → FailsAs k (given es) → k ≡ kind.OutOfMemory
    same kind.AlreadyExists es f = absurd f
    same kind.InvalidData es f = absurd (not_given es f)
    same kind.InvalidInput es f = absurd f
    same kind.NotFound es f = absurd f
    same kind.Io es f = absurd f
    same kind.OutOfMemory es f = refl

-- more entries than a pool may have are no head
pub too_many : (hint : Option TextPage) (bytes : List ℕ) (n : ℕ) (rest : List ℕ) (entries : List Entry) (head : PoolHead) → number_at w32 bytes ≡ Some (n, rest) → SpellsEntries rest entries → 16777215 < length entries → IsHead hint bytes head → ⊥
too_many hint bytes n rest entries head read spelled many said =
    let r = head_read hint bytes n rest head read said in
    let same : head.entries ≡ entries = one_list rest head.entries entries r.spelled spelled in
    omega (arith, many, r.few, ap length same)
