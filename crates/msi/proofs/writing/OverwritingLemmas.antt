-- What a device holds after an image was put over all of it, or a beginning of the image.
use Rattle.std.proofs.Common.{◌≡◌, ℕ, ◌+◌, ◌*◌, ◌≤◌, Bool, true, false, ◌||◌, List, ◌++◌, length, take, drop, Option, Some, None, Result, Ok, Err, refl, sym, ap, subst, ◌∙◌, ◌⊎◌, inl, inr}
use Rattle.std.specs.Prelude.{IfErr, IfSome, IsErr, IsErrOf, IsTrue, ◌↔◌, if◌then◌else◌, is_err, option_map}
use Rattle.std.specs.FinMap.{entries}
use Rattle.std.proofs.lemmas.Bool.{and_parts, leb-true, true≢false}
use Rattle.std.proofs.Math.Bool.{or-true}
use Rattle.std.proofs.Math.Seq.{take-length}
use Rattle.std.proofs.lemmas.List.{append-nil, drop_all, length-take-le}
use Rattle.std.proofs.lemmas.List.FromFn.{length-map-range_with_len}
use Rattle.msi_base.specs.declared.errors.ErrorKind.{ErrorKind}
use Rattle.msi_base.specs.declared.errors.ErrorKind.TheVariants.{AlreadyExists, InvalidData, InvalidInput, Io, NotFound, OutOfMemory}
use Rattle.msi_container_device.specs.Held.{Held, StandsInPart, at_start, bytes_told, from_first, with_piece}
use Rattle.msi_container_format.specs.declared.contents.Contents.{Contents}
use Rattle.msi_container_write.specs.Image.{image_byte}
use Rattle.msi_container_write.specs.Layout.{layout, mini_fat_run, parts, refuses, taken_by, total}
use Rattle.msi_container_write.proofs.placing.LayoutLemmas.{not_true}
use Rattle.msi_container_write.proofs.placing.TotalsLemmas.{total_suffices}
use Rattle.msi.specs.Flushing.{AreSoMany, Overwrites, Told, Writes, begun_over, told}

-- an image is no shorter than what it takes the place of
pub layout_covers : (c : Contents) (n : ℕ) → n ≤ length (layout c n)
layout_covers c n =
    let t : ℕ = taken_by (entries c.streams) in
    let k : ℕ = total c n in
    let room = and_parts _ _ (total_suffices t n) in
    subst (λ m. n ≤ m) (sym (length-map-range_with_len (image_byte (parts c) (mini_fat_run (entries c.streams)) k) 0 (512 * (k + 1)))) (leb-true n (512 * (k + 1)) room.1)

-- how many bytes there are, where they are told
abbrev pub told_len : Option (List ℕ) → ℕ
told_len None = 0
told_len (Some bytes) = length bytes

pub told_len_is : (old : Told) → AreSoMany (told_len old.bytes) old
told_len_is old = is_many old.bytes
  where
    is_many : (o : Option (List ℕ)) → IfSome o (λ bytes. told_len o ≡ length bytes)
    is_many None = tt
    is_many (Some bytes) = refl

-- BEFORE THE IMAGE IS KNOWN

nothing_begun : (image : List ℕ → List ℕ) (o : Option (List ℕ)) → o ≡ option_map (λ bytes. begun_over 0 (image bytes) bytes) o
nothing_begun image None = refl
nothing_begun image (Some bytes) = refl

-- a fault of the device
pub fault_early : (c : Contents) (old new : Told) (r : Result (Unit {0}) ErrorKind) → IsErr r → IfErr r (λ kind. kind ≡ Io) → new.bytes ≡ old.bytes → new.failed ≡ true → Overwrites c old r new
fault_early c old new (Ok done) is kind same failed = absurd (true≢false (sym is))
fault_early c old new (Err kind) is io same failed =
    let n : ℕ = told_len old.bytes in
    subst (λ k. Overwrites {A = Unit {0}} c old (Err k) new) (sym io) (record {
      earlier_len = n;
      are_so_many = told_len_is old;
      writes = (0, same ∙ nothing_begun (λ bytes. if refuses c n then bytes else layout c n) old.bytes, failed);
    })

-- want of memory
pub memory_early : (c : Contents) (old : Told) (r : Result (Unit {0}) ErrorKind) → IsErr r → IfErr r (λ kind. kind ≡ OutOfMemory) → Overwrites c old r old
memory_early c old (Ok done) is kind = absurd (true≢false (sym is))
memory_early c old (Err kind) is memory =
    subst (λ k. Overwrites {A = Unit {0}} c old (Err k) old) (sym memory) (record {
      earlier_len = told_len old.bytes;
      are_so_many = told_len_is old;
      writes = (refl, inr refl);
    })

-- THE IMAGE OVER ALL THAT WAS HELD

-- bytes at the first of them
starts : (held : Option Held) → option_map at_start held ≡ option_map from_first (bytes_told held)
starts None = refl
starts (Some h) = refl

start_told : (o : Option (List ℕ)) → bytes_told (option_map from_first o) ≡ o
start_told None = refl
start_told (Some bytes) = refl

whole_put : (image : List ℕ) (o : Option (List ℕ)) → IfSome o (λ bytes. length bytes ≤ length image) → bytes_told (option_map (with_piece image) (option_map from_first o)) ≡ option_map (λ _. image) o
whole_put image None short = refl
whole_put image (Some bytes) short = ap Some (ap (λ rest. image ++ rest) (drop_all (length image) bytes short) ∙ append-nil image)

begun_put : (image : List ℕ) (k : ℕ) (o : Option (List ℕ)) → k ≤ length image
    → bytes_told (option_map (with_piece (take k image)) (option_map from_first o)) ≡ option_map (λ bytes. begun_over k image bytes) o
begun_put image k None within = refl
begun_put image k (Some bytes) within = ap (λ n. Some (take k image ++ drop n bytes)) (length-take-le k image within)

-- all of it is a beginning of it
whole_begun : (image : List ℕ) (o : Option (List ℕ)) → IfSome o (λ bytes. length bytes ≤ length image) → option_map (λ bytes. begun_over (length image) image bytes) o ≡ option_map (λ _. image) o
whole_begun image None short = refl
whole_begun image (Some bytes) short =
    ap Some ((λ i. take-length image i ++ drop_all (length image) bytes short i) ∙ append-nil image)

module _ (c : Contents) (n : ℕ) (was : Option Held) (flag : Bool) (many : AreSoMany n (told was flag)) where
  abbrev image : List ℕ
  image = layout c n

  shorter : (o : Option (List ℕ)) → IfSome o (λ bytes. n ≡ length bytes) → IfSome o (λ bytes. length bytes ≤ length image)
  shorter None h = tt
  shorter (Some bytes) h = subst (λ m. m ≤ length image) h (layout_covers c n)

  short : IfSome (bytes_told was) (λ bytes. length bytes ≤ length image)
  short = shorter (bytes_told was) many

  module _ (start now : Option Held) (failed : Bool) (starts_is : start ≡ option_map at_start was) where
    from_start : start ≡ option_map from_first (bytes_told was)
    from_start = starts_is ∙ starts was

    start_same : bytes_told start ≡ bytes_told was
    start_same = ap bytes_told from_start ∙ start_told (bytes_told was)

    begun : (k : ℕ) → k ≤ length image → bytes_told now ≡ bytes_told (option_map (with_piece (take k image)) start) → bytes_told now ≡ option_map (λ bytes. begun_over k image bytes) (bytes_told was)
    begun k within put = put ∙ ap (λ (o : Option Held). bytes_told (option_map (with_piece (take k image)) o)) from_start ∙ begun_put image k (bytes_told was) within

    accepted_as : refuses c n ≡ false → (k : ℕ) → bytes_told now ≡ option_map (λ bytes. begun_over k image bytes) (bytes_told was)
        → bytes_told now ≡ option_map (λ bytes. begun_over k (if refuses c n then bytes else image) bytes) (bytes_told was)
    accepted_as accepted k is = is ∙ ap (λ b. option_map (λ bytes. begun_over k (if b then bytes else image) bytes) (bytes_told was)) (sym accepted)

    -- an image that is refused, or of which a beginning was written
    refused_as : (kind : ErrorKind) → StandsInPart image start now → (kind ≡ Io) ⊎ (now ≡ start)
        → (IsErrOf {T = Unit {0}} (Err kind) InvalidInput ↔ IsTrue (refuses c n)) → (IsErrOf {T = Unit {0}} (Err kind) Io ↔ IsTrue failed)
        → (kind ≡ InvalidInput) ⊎ (kind ≡ OutOfMemory) ⊎ (kind ≡ Io) → Writes {A = Unit {0}} c n (told was flag) (Err kind) (told now failed)
    refused_as InvalidInput part (inl io) refused fault kinds = absurd cc
    refused_as InvalidInput part (inr same) refused fault kinds = (refused.0 refl, (ap bytes_told same ∙ start_same, inl (not_true failed (λ h. let e = fault.1 h in absurd cc))))
    refused_as OutOfMemory part (inl io) refused fault kinds = absurd cc
    refused_as OutOfMemory part (inr same) refused fault kinds = (ap bytes_told same ∙ start_same, inl (not_true failed (λ h. let e = fault.1 h in absurd cc)))
    refused_as Io part untouched refused fault kinds =
        (part.count, accepted_as (not_true (refuses c n) (λ h. let e = refused.1 h in absurd cc)) part.count (begun part.count part.within part.bytes), fault.0 refl)
    refused_as AlreadyExists part untouched refused fault (inl is) = absurd cc
    refused_as AlreadyExists part untouched refused fault (inr (inl is)) = absurd cc
    refused_as AlreadyExists part untouched refused fault (inr (inr is)) = absurd cc
    refused_as InvalidData part untouched refused fault (inl is) = absurd cc
    refused_as InvalidData part untouched refused fault (inr (inl is)) = absurd cc
    refused_as InvalidData part untouched refused fault (inr (inr is)) = absurd cc
    refused_as NotFound part untouched refused fault (inl is) = absurd cc
    refused_as NotFound part untouched refused fault (inr (inl is)) = absurd cc
    refused_as NotFound part untouched refused fault (inr (inr is)) = absurd cc

    pub image_refused : (r : Result (Unit {0}) ErrorKind) (kind : ErrorKind) → r ≡ Err kind → StandsInPart image start now → (kind ≡ Io) ⊎ (now ≡ start)
        → (IsErrOf {T = Unit {0}} (Err kind) InvalidInput ↔ IsTrue (refuses c n)) → (IsErrOf {T = Unit {0}} (Err kind) Io ↔ IsTrue failed)
        → (kind ≡ InvalidInput) ⊎ (kind ≡ OutOfMemory) ⊎ (kind ≡ Io) → Overwrites c (told was flag) r (told now failed)
    image_refused r kind is part untouched refused fault kinds =
        subst (λ (a : Result (Unit {0}) ErrorKind). Overwrites c (told was flag) a (told now failed)) (sym is)
        (record { earlier_len = n; are_so_many = many; writes = refused_as kind part untouched refused fault kinds })

    -- an image that was written, and handed on or not
    module _ (left : Option Held) (last : Bool) (put : now ≡ option_map (with_piece image) start)
        (refused : IsErrOf {T = Unit {0}} {E = ErrorKind} (Ok tt) InvalidInput ↔ IsTrue (refuses c n)) (fault : IsErrOf {T = Unit {0}} {E = ErrorKind} (Ok tt) Io ↔ IsTrue failed)
        (same : bytes_told left ≡ bytes_told now) where
      accepted : refuses c n ≡ false
      accepted = not_true (refuses c n) (λ h. let e = refused.1 h in absurd cc)

      whole : bytes_told left ≡ option_map (λ _. image) (bytes_told was)
      whole = same ∙ ap bytes_told put ∙ ap (λ (o : Option Held). bytes_told (option_map (with_piece image) o)) from_start ∙ whole_put image (bytes_told was) short

      handed : (r : Result (Unit {0}) ErrorKind) → last ≡ (failed || is_err r) → IfErr r (λ kind. kind ≡ Io) → Writes c n (told was flag) r (told left last)
      handed (Ok done) last_is kind =
          (accepted, whole, last_is ∙ ap (λ b. b || false) (not_true failed (λ h. let e = fault.1 h in absurd cc)))
      handed (Err kind) last_is io =
          subst (λ k. Writes {A = Unit {0}} c n (told was flag) (Err k) (told left last)) (sym io)
          (length image, whole ∙ sym (whole_begun image (bytes_told was) short) ∙ ap (λ b. option_map (λ bytes. begun_over (length image) (if b then bytes else image) bytes) (bytes_told was)) (sym accepted), last_is ∙ or-true failed)

      pub image_handed : (r : Result (Unit {0}) ErrorKind) → last ≡ (failed || is_err r) → IfErr r (λ kind. kind ≡ Io) → Overwrites c (told was flag) r (told left last)
      image_handed r last_is kind = record { earlier_len = n; are_so_many = many; writes = handed r last_is kind }
