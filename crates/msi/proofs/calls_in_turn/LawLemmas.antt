-- The laws of calls on streams, of flushes, and of answers.
use Rattle.std.proofs.Common.{◌≡◌, ap, ◌∙◌, inl, inr}
use Rattle.std.proofs.lemmas.Bool.{MatchBool-at_false}
use Rattle.msi_database_schema.specs.Keys.{stream_key, signature_key, signature_ex_key}
use Rattle.msi_database_storage.specs.Streams.{Streams, without_stream}
use Rattle.msi.specs.State.{names_of, parts_of}
use Rattle.msi.specs.Steps.{LeavesKept, LendsOrRefuses, outcome}
use Rattle.msi.specs.Laws.{WritesItsStream, RemovesItsStream, RemovesSignature, FlushKeepsParts, StepsAreFixed, PassingMeans, with_others}
use Rattle.msi.proofs.writing.FlushLemmas.{flush_parts}
use Rattle.msi.proofs.named_streams.OtherStreamLemmas.{others_with, others_without, stream_key_is_other}
use Rattle.msi.proofs.reading.ReadingLemmas as reading

pub writes_its_stream : WritesItsStream
writes_its_stream s name bytes h is = ap (λ (others : Streams). with_others others (parts_of s))
    (others_with (stream_key name) bytes s.kept.streams s.kept.database (stream_key_is_other (names_of s.kept.database) name is) h.database.in_order)

pub removes_its_stream : RemovesItsStream
removes_its_stream s name = ap (λ (others : Streams). with_others others (parts_of s)) (others_without (stream_key name) s.kept.streams s.kept.database)

pub removes_signature : RemovesSignature
removes_signature s = ap (λ (others : Streams). with_others others (parts_of s))
    (others_without signature_key (without_stream signature_ex_key s.kept.streams) s.kept.database
    ∙ ap (without_stream signature_key) (others_without signature_ex_key s.kept.streams s.kept.database))

pub flush_keeps_parts : FlushKeepsParts
flush_keeps_parts s streams h written = flush_parts s streams h written

pub passing_means : PassingMeans
passing_means = reading.passing_means

-- ANSWERS

pub steps_are_fixed : StepsAreFixed
steps_are_fixed n old call e answer new (inl is) = inl ((MatchBool-at_false (LendsOrRefuses old call (outcome n old call) answer new)
    ((outcome n old call ≡ (answer, new)) × LeavesKept call answer new) e is).0)
steps_are_fixed n old call e answer new (inr (inl memory)) = inr (inl memory.1, memory.2, memory.3)
steps_are_fixed n old call e answer new (inr (inr fault)) = inr (inr fault.1, fault.2, fault.3)
