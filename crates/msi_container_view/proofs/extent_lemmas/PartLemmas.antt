-- What a writer has where copying extents failed: the bytes of those before, and a prefix of those of the next.
use Rattle.std.proofs.Common.{◌≡◌, ℕ, ◌+◌, ◌<◌, ◌≤◌, List, [], ◌++◌, length, take, drop, get_or, Option, Result, Ok, Err, arith, append_assoc, ap, sym, subst, ◌∙◌}
use Rattle.std.specs.Io.KnownBytes.{Appends}
use Rattle.std.specs.Prelude.{OnErr}
use Rattle.std.proofs.KnownBytes.{Appends-nil, Appends-trans}
use Rattle.std.proofs.Math.Seq.{take-append-add}
use Rattle.std.proofs.lemmas.List.{length-append, take-append-drop, take-append-le, take_more}
use Rattle.std.proofs.lemmas.List.Concat.{flat_map-append}
use Rattle.msi_base.specs.Faults.{AppendsPart}
use Rattle.msi_container_device.specs.Held.{Held}
use Rattle.msi_container_format.specs.Bytes.{bytes_at}
use Rattle.msi_container_view.specs.Extents.{Extent, bytes_of}
use Rattle.msi_container_view.specs.Reading.{IsAppended, Tells}
use Rattle.msi_container_view.proofs.extent_lemmas.ExtentLemmas.{bytes_of_more}

pub on_failed : {A E P : Type 0} (r : Result A E) → P → OnErr r P
on_failed (Ok x) p = tt
on_failed (Err e) p = p

module _ (file : List ℕ) (extents : List Extent) (i : ℕ) (d : Extent) (lt : i < length extents) where
  abbrev before : List ℕ
  before = bytes_of file (take i extents)

  abbrev piece : List ℕ
  piece = bytes_at file (get_or extents i d).start (get_or extents i d).count

  abbrev behind : List ℕ
  behind = bytes_of file (drop (i + 1) extents)

  whole : bytes_of file extents ≡ before ++ (piece ++ behind)
  whole =
      ap (bytes_of file) (sym (take-append-drop (i + 1) extents))
      ∙ flat_map-append (λ (e : Extent). bytes_at file e.start e.count) (take (i + 1) extents) (drop (i + 1) extents)
      ∙ ap (λ (l : List ℕ). l ++ behind) (ap (bytes_of file) (take_more extents i d lt) ∙ bytes_of_more file (take i extents) (get_or extents i d))
      ∙ append_assoc before piece behind

  part_of_piece : (a b c : Option (List ℕ)) (n : ℕ) → n ≤ length piece → Appends a b before → Appends b c (take n piece) → AppendsPart a c (bytes_of file extents)
  part_of_piece a b c n within given more = (
    length before + n,
    omega (arith, within, ap length whole, length-append before (piece ++ behind), length-append piece behind),
    subst (Appends a c) (sym (ap (take (length before + n)) whole ∙ take-append-add before (piece ++ behind) n ∙ ap (λ (l : List ℕ). before ++ l) (take-append-le n piece behind within)))
        (Appends-trans a b c before (take n piece) given more),
  )

  pub part_before : (a b : Option (List ℕ)) → Appends a b before → AppendsPart a b (bytes_of file extents)
  part_before a b given = part_of_piece a b b 0 (omega arith) given (Appends-nil b)

  pub part_during : (held : Option Held) (a b c : Option (List ℕ)) (old new written : List ℕ) → Tells held file → old ≡ [] → IsAppended held (get_or extents i d).start (get_or extents i d).count old new → written ≡ new
      → Appends a b before → AppendsPart b c written → AppendsPart a c (bytes_of file extents)
  part_during held a b c old new written told empty appended is given more =
      let same : written ≡ piece = is ∙ appended.behind ∙ ap (λ (l : List ℕ). l ++ appended.piece) empty ∙ appended.told file told in
      part_of_piece a b c more.0 (subst (λ (l : List ℕ). more.0 ≤ length l) same more.1) given (subst (λ (l : List ℕ). Appends b c (take more.0 l)) same more.2)
