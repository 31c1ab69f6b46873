-- The pool's stream is read from its header and its entries; and two streams hold at most one pool.
use Rattle.std.proofs.Common.{◌≡◌, ℕ, ◌+◌, ◌-◌, ◌^◌, ◌<◌, ◌≤◌, Bool, true, false, ltb, List, [], ◌++◌, length, Some, refl, sym, ap, subst, ◌∙◌, arith, inl, inr}
use Rattle.std.specs.Prelude.{option_map, if◌then◌else◌}
use Rattle.std.specs.Int.{w32, to_le_bytes}
use Rattle.std.proofs.lemmas.Bool.{lt-ltb, ltb-true, ltb-false, le-ltb}
use Rattle.msi_base.specs.declared.codepage.CodePage.{CodePage}
use Rattle.msi_base.specs.declared.errors.ErrorKind.{ErrorKind}
use Rattle.msi_base.specs.declared.errors.ErrorKind.TheVariants as kind
use Rattle.msi_base.specs.Pages.{page_with_id}
use Rattle.msi_pool_places.specs.Pool.{Entry, Place, Pool, SpellsEntries, SpellsPool, SpellsTexts, PoolStream, IsPoolStream, pool_with}
use Rattle.msi_pool_places.specs.PoolReading.{header_in}
use Rattle.msi_pool.specs.PoolLaws.{OnePool, IsPoolInSteps}
use Rattle.msi_base.specs.Numbers.{number_at}
use Rattle.msi_base.specs.Results.{FailsAs}
use Rattle.msi_base.proofs.ReadFieldLemmas.{IsBytes, wide32, number_takes, number_again}
use Rattle.msi_base.proofs.OptionLemmas.{map_some, branch, given, some_is, not_given}
use Rattle.msi_pool_places.proofs.ReadEntriesLemmas.{one_list}
use Rattle.msi_pool.proofs.ReadTextsLemmas.{one_texts}

abbrev stream_with : CodePage → Bool → List Entry → PoolStream
stream_with page long entries = record { page = page; long = long; entries = entries }

-- a header is the sum of an id and the bit of long references
record Headed (n : ℕ) (page : CodePage) (long : Bool) : Type 0 where
  id : ℕ
  small : id < 2 ^ 31
  known : page_with_id id ≡ Some page
  sum : n ≡ id + (if long then 2 ^ 31 else 0)

header_found : (n : ℕ) (page : CodePage) (long : Bool) → n < 2 ^ 32 → header_in n ≡ Some (page, long) → Headed n page long
header_found n page long lt h =
    elim (branch (ltb n (2 ^ 31)) (option_map (λ (p : CodePage). (p, false)) (page_with_id n)) (option_map (λ (p : CodePage). (p, true)) (page_with_id (n - 2 ^ 31))) (page, long) h) [
      | inl s ↦ (let m = map_some (page_with_id n) (λ (p : CodePage). (p, false)) (page, long) s.1 in
          subst (λ (x : CodePage × Bool). Headed n x.0 x.1) m.2 (record { id = n; small = ltb-true _ _ s.0; known = m.1; sum = omega arith }))
      | inr l ↦ (let m = map_some (page_with_id (n - 2 ^ 31)) (λ (p : CodePage). (p, true)) (page, long) l.1 in
          let le : 2 ^ 31 ≤ n = ltb-false _ _ l.0 in
          subst (λ (x : CodePage × Bool). Headed n x.0 x.1) m.2 (record { id = n - 2 ^ 31; small = omega (arith, lt, le); known = m.1; sum = omega (arith, le) }))
    ]

header_again : (id : ℕ) (page : CodePage) (long : Bool) → id < 2 ^ 31 → page_with_id id ≡ Some page → header_in (id + (if long then 2 ^ 31 else 0)) ≡ Some (page, long)
header_again id page true lt known =
    let le : ltb (id + 2 ^ 31) (2 ^ 31) ≡ false = le-ltb _ _ (omega arith) in
    let back : id + 2 ^ 31 - 2 ^ 31 ≡ id = omega arith in
    rw (le, back, known) refl
header_again id page false lt known =
    let same : id + 0 ≡ id = omega arith in
    rw (same, lt-ltb id (2 ^ 31) lt, known) refl

header_small : (id : ℕ) (long : Bool) → id < 2 ^ 31 → id + (if long then 2 ^ 31 else 0) < 2 ^ 32
header_small id true lt = omega (arith, lt)
header_small id false lt = omega (arith, lt)

-- what is read is spelled
pub stream_found : (bytes : List ℕ) (n : ℕ) (rest : List ℕ) (page : CodePage) (long : Bool) (entries : List Entry) → IsBytes bytes → number_at w32 bytes ≡ Some (n, rest) → header_in n ≡ Some (page, long)
    → SpellsEntries rest entries → length entries ≤ 16777215 → SpellsPool bytes page long entries
stream_found bytes n rest page long entries fits read head spelled few =
    let t = number_takes w32 (2 ^ 32) wide32 bytes n rest fits read in
    let h = header_found n page long t.1 head in
    (h.id, rest, h.small, h.known, t.0.parts ∙ ap (λ (x : ℕ). to_le_bytes w32 x ++ rest) h.sum, spelled, few)

-- what is spelled is read so
pub record IsStream (bytes : List ℕ) (stream : PoolStream) : Type 0 where
  pub n : ℕ
  pub rest : List ℕ
  pub read : number_at w32 bytes ≡ Some (n, rest)
  pub header : header_in n ≡ Some (stream.page, stream.long)
  pub spelled : SpellsEntries rest stream.entries
  pub few : length stream.entries ≤ 16777215

pub stream_again : (bytes : List ℕ) (stream : PoolStream) → IsPoolStream bytes stream → IsStream bytes stream
stream_again bytes stream (id, others, small, known, parts, spelled, few) =
    let n = id + (if stream.long then 2 ^ 31 else 0) in
    record { n = n; rest = others; read = ap (number_at w32) parts ∙ number_again w32 (2 ^ 32) wide32 n others (header_small id stream.long small); header = header_again id stream.page stream.long small known; spelled = spelled; few = few }

-- the number in front and what follows are those that were read
pub record IsRead (n : ℕ) (rest : List ℕ) (stream : PoolStream) : Type 0 where
  pub header : header_in n ≡ Some (stream.page, stream.long)
  pub spelled : SpellsEntries rest stream.entries
  pub few : length stream.entries ≤ 16777215

pub stream_read : (bytes : List ℕ) (n : ℕ) (rest : List ℕ) (stream : PoolStream) → number_at w32 bytes ≡ Some (n, rest) → IsPoolStream bytes stream → IsRead n rest stream
stream_read bytes n rest stream read spelled =
    let s = stream_again bytes stream spelled in
    let both : (s.n, s.rest) ≡ (n, rest) = some_is (s.n, s.rest) (n, rest) (sym s.read ∙ read) in
    subst (λ (x : ℕ × List ℕ). IsRead x.0 x.1 stream) both (record { header = s.header; spelled = s.spelled; few = s.few })

same_stream : (p q : CodePage) (l m : Bool) (es fs : List Entry) → p ≡ q → l ≡ m → es ≡ fs → stream_with p l es ≡ stream_with q m fs
same_stream p q l m es fs e f g = rw (e, f, g) refl

-- what is spelled is what was read
pub stream_only : (bytes : List ℕ) (n : ℕ) (rest : List ℕ) (page : CodePage) (long : Bool) (entries : List Entry) (stream : PoolStream) → number_at w32 bytes ≡ Some (n, rest) → header_in n ≡ Some (page, long)
    → SpellsEntries rest entries → IsPoolStream bytes stream → stream ≡ record { page = page; long = long; entries = entries }
stream_only bytes n rest page long entries stream read head spelled is =
    let r = stream_read bytes n rest stream read is in
    let both : (stream.page, stream.long) ≡ (page, long) = some_is (stream.page, stream.long) (page, long) (sym r.header ∙ head) in
    let page-is : stream.page ≡ page = ap (λ (x : CodePage × Bool). x.0) both in
    let long-is : stream.long ≡ long = ap (λ (x : CodePage × Bool). x.1) both in
    let entries-is : stream.entries ≡ entries = one_list rest stream.entries entries r.spelled spelled in
    same_stream stream.page page stream.long long stream.entries entries page-is long-is entries-is

-- a fault of the header is one of the stream
pub no_header : (k : ErrorKind) (bytes : List ℕ) (stream : PoolStream) → FailsAs k (number_at w32 bytes) → IsPoolStream bytes stream → k ≡ kind.OutOfMemory
no_header kind.AlreadyExists bytes stream h is = absurd h
no_header kind.InvalidData bytes stream h is = let s = stream_again bytes stream is in absurd (not_given (s.n, s.rest) (sym s.read ∙ h))
no_header kind.InvalidInput bytes stream h is = absurd h
no_header kind.NotFound bytes stream h is = absurd h
no_header kind.Io bytes stream h is = absurd h
no_header kind.OutOfMemory bytes stream h is = refl

pub no_page : (k : ErrorKind) (bytes : List ℕ) (n : ℕ) (rest : List ℕ) (stream : PoolStream) → number_at w32 bytes ≡ Some (n, rest) → FailsAs k (header_in n) → IsPoolStream bytes stream → k ≡ kind.OutOfMemory
no_page kind.AlreadyExists bytes n rest stream read h is = absurd h
no_page kind.InvalidData bytes n rest stream read h is = let r = stream_read bytes n rest stream read is in absurd (not_given (stream.page, stream.long) (sym r.header ∙ h))
no_page kind.InvalidInput bytes n rest stream read h is = absurd h
no_page kind.NotFound bytes n rest stream read h is = absurd h
no_page kind.Io bytes n rest stream read h is = absurd h
no_page kind.OutOfMemory bytes n rest stream read h is = refl

-- so is a fault of the entries
pub cut_entries : (k : ErrorKind) (bytes : List ℕ) (n : ℕ) (rest : List ℕ) (stream : PoolStream) → number_at w32 bytes ≡ Some (n, rest) → ((es : List Entry) → SpellsEntries rest es → FailsAs k (given es)) → IsPoolStream bytes stream → k ≡ kind.OutOfMemory
cut_entries k bytes n rest stream read h is = let r = stream_read bytes n rest stream read is in same k stream.entries (h stream.entries r.spelled)
  where
    same : (k : ErrorKind) (es : List Entry) → FailsAs k (given es) → k ≡ kind.OutOfMemory
    same kind.AlreadyExists es f = absurd f
    same kind.InvalidData es f = absurd (not_given es f)
    same kind.InvalidInput es f = absurd f
    same kind.NotFound es f = absurd f
    same kind.Io es f = absurd f
    same kind.OutOfMemory es f = refl

-- more entries than a pool may have are no stream
pub too_many : (bytes : List ℕ) (n : ℕ) (rest : List ℕ) (entries : List Entry) (stream : PoolStream) → number_at w32 bytes ≡ Some (n, rest) → SpellsEntries rest entries → 16777215 < length entries → IsPoolStream bytes stream → ⊥
too_many bytes n rest entries stream read spelled many is =
    let r = stream_read bytes n rest stream read is in
    let same : stream.entries ≡ entries = one_list rest stream.entries entries r.spelled spelled in
    omega (arith, many, r.few, ap length same)

pub one_stream : (bytes : List ℕ) (a b : PoolStream) → IsPoolStream bytes a → IsPoolStream bytes b → a ≡ b
one_stream bytes a b p q =
    let s = stream_again bytes b q in
    stream_only bytes s.n s.rest b.page b.long b.entries a s.read s.header s.spelled p

stream_in : Pool → List Entry → PoolStream
stream_in pool entries = stream_with pool.page pool.long entries

same_pool : (p q : CodePage) (l m : Bool) (xs ys : List Place) → p ≡ q → l ≡ m → xs ≡ ys → pool_with (stream_with p l []) xs ≡ pool_with (stream_with q m []) ys
same_pool p q l m xs ys e f g = rw (e, f, g) refl

pub one_pool : OnePool
unfolding stream_in
one_pool pool_stream data_stream a b (es, p, texts) (fs, q, others) =
    let same : stream_in b fs ≡ stream_in a es = one_stream pool_stream (stream_in b fs) (stream_in a es) q p in
    let page-is : b.page ≡ a.page = ap (λ (s : PoolStream). s.page) same in
    let long-is : b.long ≡ a.long = ap (λ (s : PoolStream). s.long) same in
    let entries-is : fs ≡ es = ap (λ (s : PoolStream). s.entries) same in
    let moved : SpellsTexts a.page data_stream es b.places = subst (λ (page : CodePage). SpellsTexts page data_stream es b.places) page-is (subst (λ (x : List Entry). SpellsTexts b.page data_stream x b.places) entries-is others) in
    let places-is : a.places ≡ b.places = one_texts a.page data_stream es a.places b.places texts moved in
    same_pool a.page b.page a.long b.long a.places b.places (sym page-is) (sym long-is) places-is

pub pool_in_steps : IsPoolInSteps
unfolding stream_in
pool_in_steps pool_stream data_stream pool = (
  λ (es, p, texts). (stream_in pool es, p, refl, texts),
  λ (stream, p, same, texts). let page-is : stream.page ≡ pool.page = ap (λ (x : Pool). x.page) (sym same) in
      let long-is : stream.long ≡ pool.long = ap (λ (x : Pool). x.long) (sym same) in (
        stream.entries,
        subst (λ (page : CodePage). SpellsPool pool_stream page pool.long stream.entries) page-is (subst (λ (long : Bool). SpellsPool pool_stream stream.page long stream.entries) long-is p),
        subst (λ (page : CodePage). SpellsTexts page data_stream stream.entries pool.places) page-is texts,
      ),
)
