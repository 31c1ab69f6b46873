-- Lists that a function of the position gives, one behind another.
use Rattle.std.proofs.Common.{◌≡◌, ℕ, zero, suc, ◌+◌, ◌-◌, ◌*◌, ◌/◌, ◌%◌, ◌<◌, List, [], ◌∷◌, ◌++◌, length, get_or, map, replicate, inl, inr, sym, ◌∙◌, ap, subst, arith, refl}
use Rattle.std.specs.List.{range_with_len, flat_map}
use Rattle.std.specs.Int.{to_le_bytes, w32}
use Rattle.std.proofs.lemmas.Bool.{cases_lt}
use Rattle.std.proofs.lemmas.List.{length-append, length-replicate, get_or_append_left, get_or-append_right, get_or-replicate}
use Rattle.std.proofs.lemmas.List.Concat.{flat_map-append}
use Rattle.std.proofs.lemmas.List.Edits.{fill_by_more}
use Rattle.std.proofs.Math.ListN.{set}
use Rattle.std.proofs.lemmas.List.FromFn.{fill_by_all, get_or-map-range_with_len, length-map-range_with_len, map-range_with_len_more}
use Rattle.msi_container_write.specs.Extents.{number_byte, table_byte}

-- what agrees with one function below m, and with another above it
pub map_range_append : (f g h : ℕ → ℕ) (m n : ℕ)
    → ((k : ℕ) → k < m → f k ≡ g k)
    → ((k : ℕ) → k < n → f (m + k) ≡ h k)
    → map f (range_with_len 0 (m + n)) ≡ map g (range_with_len 0 m) ++ map h (range_with_len 0 n)
map_range_append f g h m n low high =
    let xs = map g (range_with_len 0 m) in
    let ys = map h (range_with_len 0 n) in
    let few : length xs ≡ m = length-map-range_with_len g 0 m in
    let more : length ys ≡ n = length-map-range_with_len h 0 n in
    sym (fill_by_all f (xs ++ ys) (m + n) 0 (omega (arith, length-append xs ys)) (λ k l. elim (cases_lt k m) [
      | inl b ↦ get_or_append_left xs ys 0 k (omega arith) ∙ get_or-map-range_with_len g 0 m k k 0 b (omega arith) ∙ sym (low k b)
      | inr b ↦
          let there : m + (k - m) ≡ k = omega arith in
          get_or-append_right xs ys m k 0 few b ∙ get_or-map-range_with_len h 0 n (k - m) (k - m) 0 (omega arith) (omega arith) ∙ sym (high (k - m) (omega arith)) ∙ ap f there
    ]))

-- the same list by two functions
pub map_range_same : (f g : ℕ → ℕ) (m n : ℕ) → m ≡ n → ((k : ℕ) → k < n → f k ≡ g k) → map f (range_with_len 0 m) ≡ map g (range_with_len 0 n)
map_range_same f g m n long same =
    fill_by_all g (map f (range_with_len 0 m)) n 0 (length-map-range_with_len f 0 m ∙ long) (λ k l.
    get_or-map-range_with_len f 0 m k k 0 (omega arith) (omega arith) ∙ same k l)

pub replicate_is_map : (n x : ℕ) → replicate n x ≡ map (λ _. x) (range_with_len 0 n)
replicate_is_map n x = fill_by_all (λ _. x) (replicate n x) n 0 (length-replicate n x) (λ k l. get_or-replicate n k x 0 l)

-- one more number, in its bytes
pub numbers_more : (e : ℕ → ℕ) (n : ℕ)
    → flat_map (to_le_bytes w32) (map e (range_with_len 0 (n + 1))) ≡ flat_map (to_le_bytes w32) (map e (range_with_len 0 n)) ++ to_le_bytes w32 (e n)
numbers_more e n =
    ap (flat_map (to_le_bytes w32)) (map-range_with_len_more e 0 n n (omega arith))
    ∙ flat_map-append (to_le_bytes w32) (map e (range_with_len 0 n)) (e n ∷ [])

-- the bytes of numbers in a row, by position
pub bytes_of_numbers : (e : ℕ → ℕ) (n : ℕ)
    → flat_map (to_le_bytes w32) (map e (range_with_len 0 n)) ≡ map (table_byte e) (range_with_len 0 (4 * n))
bytes_of_numbers e zero = refl
bytes_of_numbers e (suc n) =
    let byte : ℕ → ℕ = table_byte e in
    let P : ℕ → Type 0 = λ m. flat_map (to_le_bytes w32) (map e (range_with_len 0 m)) ≡ map byte (range_with_len 0 (4 * m)) in
    let next : n + 1 ≡ suc n = omega arith in
    let long : 4 * n + 4 ≡ 4 * (n + 1) = omega arith in
    subst P next (
    numbers_more e n
    ∙ ap (λ bs. bs ++ to_le_bytes w32 (e n)) (bytes_of_numbers e n)
    ∙ sym (map_range_append byte byte (number_byte (e n)) (4 * n) 4 (λ k l. refl) (λ k l.
    let q : (4 * n + k) / 4 ≡ n = omega arith in
    let r : (4 * n + k) % 4 ≡ k = omega arith in
    rw (q, r) refl))
    ∙ ap (λ m. map byte (range_with_len 0 m)) long)

-- the same list from its start
pub shifted : (f : ℕ → ℕ) (a n : ℕ) → map f (range_with_len a n) ≡ map (λ k. f (a + k)) (range_with_len 0 n)
shifted f a n = fill_by_all (λ k. f (a + k)) (map f (range_with_len a n)) n 0 (length-map-range_with_len f a n) (λ k l. get_or-map-range_with_len f a n k (a + k) 0 l refl)

-- the same list by two functions, at two places
pub map_ranges_same : (f g : ℕ → ℕ) (a b n : ℕ) → ((k : ℕ) → k < n → f (a + k) ≡ g (b + k)) → map f (range_with_len a n) ≡ map g (range_with_len b n)
map_ranges_same f g a b n same = shifted f a n ∙ map_range_same (λ k. f (a + k)) (λ k. g (b + k)) n n refl same ∙ sym (shifted g b n)

-- one list behind another
pub range_more : (f : ℕ → ℕ) (a b m n : ℕ) → b ≡ a + m → map f (range_with_len a (m + n)) ≡ map f (range_with_len a m) ++ map f (range_with_len b n)
range_more f a b m n e =
    shifted f a (m + n)
    ∙ map_range_append (λ k. f (a + k)) (λ k. f (a + k)) (λ k. f (b + k)) m n (λ k l. refl) (λ k l.
    let there : a + (m + k) ≡ b + k = omega arith in
    ap f there)
    ∙ ap (λ xs. xs ++ map (λ k. f (b + k)) (range_with_len 0 n)) (sym (shifted f a m))
    ∙ ap (λ ys. map f (range_with_len a m) ++ ys) (sym (shifted f b n))

-- entries by position, as the bytes of a table from its unit m on
pub table_filled : (e : ℕ → ℕ) (m n size : ℕ) (entries bytes : List ℕ)
    → size ≡ 4 * n
    → length entries ≡ n
    → ((j : ℕ) → j < n → get_or entries j 0 ≡ e (n * m + j))
    → bytes ≡ flat_map (to_le_bytes w32) entries
    → bytes ≡ map (table_byte e) (range_with_len (size * m) size)
table_filled e m n size entries bytes size_is long is bytes_is =
    let here : ℕ → ℕ = λ j. e (n * m + j) in
    bytes_is
    ∙ ap (flat_map (to_le_bytes w32)) (fill_by_all here entries n 0 long is)
    ∙ bytes_of_numbers here n
    ∙ map_range_same (table_byte here) (λ k. table_byte e (size * m + k)) (4 * n) size (sym size_is) (λ k l.
    let place : size * m + k ≡ 4 * (n * m) + k = rw size_is (omega arith) in
    let q : (4 * (n * m) + k) / 4 ≡ n * m + k / 4 = omega arith in
    let r : (4 * (n * m) + k) % 4 ≡ k % 4 = omega arith in
    rw (place, q, r) refl)
    ∙ sym (shifted (table_byte e) (size * m) size)

-- one entry more, by its position
pub entry_more : (f : ℕ → ℕ) (entries : List ℕ) (k x : ℕ) → k < length entries → x ≡ f k
    → ((j : ℕ) → j < k → get_or entries j 0 ≡ f j)
    → (j : ℕ) → j < k + 1 → get_or (set entries k x) j 0 ≡ f j
entry_more f entries k x within is before =
    subst (λ (y : ℕ). (j : ℕ) → j < k + 1 → get_or (set entries k y) j 0 ≡ f j) (sym is) (fill_by_more f entries k 0 within before)

-- how long numbers are in bytes
pub numbers_long : (e : ℕ → ℕ) (n : ℕ) → length (flat_map (to_le_bytes w32) (map e (range_with_len 0 n))) ≡ 4 * n
numbers_long e n = ap length (bytes_of_numbers e n) ∙ length-map-range_with_len (table_byte e) 0 (4 * n)
