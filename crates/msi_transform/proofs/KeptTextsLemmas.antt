-- Texts one behind another in front of bytes.
use Rattle.std.proofs.Common.{◌≡◌, ℕ, ◌+◌, ◌-◌, ◌<◌, suc, zero, Bool, true, false, not, ◌&&◌, ◌||◌, List, [], ◌∷◌, ◌++◌, length, take, drop, None, Some, refl, sym, ap, ◌∙◌, arith}
use Rattle.std.specs.List.{flat_map}
use Rattle.std.specs.Option.{option_map_or}
use Rattle.std.specs.Prelude.{Option, bytes_eq, slice_get, nat_eq}
use Rattle.msi_pool.specs.FirstFitLaws.{text_at}
use Rattle.msi_pool.specs.Pool.{Place, Pool}
use Rattle.msi_database_storage.specs.Streams.{Streams, stream_at}
use Rattle.msi_table.proofs.GivenLemmas.{drop_given}
use Rattle.msi_transform.specs.StoredPools.{data_key}
use Rattle.msi_transform.specs.TransformFiles.{begin_with_texts, is_utf8, keeps_texts}

and_assoc : (a b c : Bool) → (a && (b && c)) ≡ ((a && b) && c)
and_assoc true b c = refl
and_assoc false b c = refl

-- bytes begin with two texts where they begin with the first, and those behind it with the second
begin_with_both : (a b xs : List ℕ) → bytes_eq (take (length (a ++ b)) xs) (a ++ b) ≡ (bytes_eq (take (length a) xs) a && bytes_eq (take (length b) (drop (length a) xs)) b)
begin_with_both [] b xs = refl
begin_with_both (x ∷ a) b [] = refl
begin_with_both (x ∷ a) b (y ∷ xs) =
    ap (λ t. nat_eq y x && t) (begin_with_both a b xs) ∙ and_assoc (nat_eq y x) (bytes_eq (take (length a) xs) a) (bytes_eq (take (length b) (drop (length a) xs)) b)

there : (places : List Place) (at : ℕ) → at < length places → (p : Place) × (slice_get places at ≡ Some p)
there [] at below = absurd (omega arith)
there (p ∷ ps) zero below = (p, refl)
there (p ∷ ps) (suc at) below = there ps at (omega arith)

-- the text of the next place
pub next_text : (places : List Place) (at number : ℕ) (text rest : List ℕ) → at < length places → number ≡ at + 1 → text ≡ text_at places number
    → begin_with_texts (drop at places) rest ≡ (bytes_eq (take (length text) rest) text && begin_with_texts (drop (at + 1) places) (drop (length text) rest))
next_text places at number text rest below is text_is =
    let found = there places at below in
    let same : number - 1 ≡ at = omega (arith, is) in
    let told : text ≡ found.0.text = text_is ∙ ap (λ n. option_map_or (λ (p : Place). p.text) (slice_get places n) []) same
    ∙ ap (λ (o : Option Place). option_map_or (λ (p : Place). p.text) o []) found.1 in
    ap (λ (ps : List Place). begin_with_texts ps rest) (drop_given places at found.0 found.1)
    ∙ begin_with_both found.0.text (flat_map (λ (p : Place). p.text) (drop (at + 1) places)) rest
    ∙ ap (λ t. bytes_eq (take (length t) rest) t && begin_with_texts (drop (at + 1) places) (drop (length t) rest)) (sym told)

-- it stands in front, or it doesn't
pub text_passed : (here : Bool) (left : List ℕ) (behind : List ℕ) (places : List Place) (all : Bool) → all ≡ (here && begin_with_texts places behind) → here ≡ true → left ≡ behind
    → all ≡ begin_with_texts places left
text_passed here left behind places all whole is left_is = whole ∙ ap (λ b. b && begin_with_texts places behind) is ∙ ap (begin_with_texts places) (sym left_is)

pub text_missing : (here later all : Bool) → all ≡ (here && later) → here ≡ false → false ≡ all
text_missing here later all whole is = sym (whole ∙ ap (λ b. b && later) is)

-- no text is left
drop_all : (places : List Place) → drop (length places) places ≡ []
drop_all [] = refl
drop_all (p ∷ ps) = drop_all ps

pub texts_passed : (places : List Place) (at : ℕ) (rest : List ℕ) (all : Bool) → all ≡ begin_with_texts (drop at places) rest → at ≡ length places → true ≡ all
texts_passed places at rest all whole is =
    sym (whole ∙ ap (λ n. begin_with_texts (drop n places) rest) is ∙ ap (λ (ps : List Place). begin_with_texts ps rest) (drop_all places))

-- THE WHOLE

or_true : (b : Bool) → (b || true) ≡ true
or_true true = refl
or_true false = refl

-- of a page in UTF-8, and where the stream of texts is missing
pub kept_where : (pool : Pool) (streams : Streams) (bytes : List ℕ) → stream_at data_key streams ≡ Some bytes → is_utf8 pool.page ≡ true
    → begin_with_texts pool.places bytes ≡ keeps_texts pool streams
kept_where pool streams bytes there utf8 = sym
    (ap (λ b. not b || option_map_or (begin_with_texts pool.places) (stream_at data_key streams) true) utf8
    ∙ ap (λ (o : Option (List ℕ)). option_map_or (begin_with_texts pool.places) o true) there)

pub kept_without : (pool : Pool) (streams : Streams) → stream_at data_key streams ≡ None → true ≡ keeps_texts pool streams
kept_without pool streams none = sym
    (ap (λ (o : Option (List ℕ)). not (is_utf8 pool.page) || option_map_or (begin_with_texts pool.places) o true) none ∙ or_true (not (is_utf8 pool.page)))
