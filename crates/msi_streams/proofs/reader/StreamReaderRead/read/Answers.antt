use Rattle.std.proofs.Common.{◌≡◌, ◌∙◌, ◌++◌, ◌+◌, ◌<◌, ap, arith, drop, length, min, subst, sym, take}
use Rattle.std.proofs.lemmas.List.{length-take, take_rest}
use Rattle.msi_streams.proofs.CursorLemmas.{none_ahead, taken_from_ahead}
use Rattle.msi_streams.specs.Cursor.{bytes_ahead}
use Rattle.msi_streams.proofs.reader.StreamReaderRead.read.Goals as goal

pub returns-clause-bytes : goal.returns-clause-bytes
returns-clause-bytes c =
    let bytes = c.self.inside.bytes.now in
    let place = c.self.inside.place in
    let n = c.min-count.result in
    let buf = c.args.buf.now in
    let piece : c.copy_from_slice.new.self ≡ take n (drop place bytes) = c.copy_from_slice.ensures.after ∙ ap (take n) (take_rest bytes place) in
    let count : n ≡ min (length buf) (length (drop place bytes)) = c.min-count.ensures ∙ ap (λ xs. min (length buf) (length xs)) (take_rest bytes place) in (
      ap bytes_ahead (sym c.self.view_is)
          ∙ taken_from_ahead bytes (drop n buf) place n (omega (arith, count, length-take n (drop place bytes)))
          ∙ ap (λ xs. take n (xs ++ drop n buf) ++ drop (place + n) bytes) (sym piece),
      λ none room. none_ahead bytes buf buf place n count none (subst (λ xs. 0 < length (xs ++ drop n buf)) piece room),
    )
