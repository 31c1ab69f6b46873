-- What a map of streams ends as, once a borrow of a stream's bytes is over.
use Rattle.std.specs.Prelude.{◌≡◌, ℕ, List, Option, OnSome}
use Rattle.std.specs.Borrow.{Fml, MutBor, LendsSo}
use Rattle.std.specs.FinMap.{insert}
use Rattle.msi_container_format.specs.Streams.{Streams}
use Rattle.msi_container_format.specs.contracts.contents.Bytes as bytes
use Rattle.msi_container_format.specs.contracts.contents.StreamMap as streams

-- the stream of this name has the bytes that were left in it, and where there is none nothing is changed
abbrev pub LendsStream : MutBor Streams → List ℕ → Option (MutBor (List ℕ)) → Fml
LendsStream s name r =
    LendsSo streams.the_row bytes.the_row s r (λ left w. OnSome r (left ≡ insert s.now name w)) (λ left. left ≡ s.now)
