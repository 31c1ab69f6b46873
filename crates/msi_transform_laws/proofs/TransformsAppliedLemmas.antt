-- Transforms that are made, applied to the old package.
use Rattle.std.proofs.Common.{◌≡◌, inl, inr, ℕ, ◌-◌, List, true, ap, ◌∙◌, arith}
use Rattle.std.specs.Prelude.{Option, Result, Ok, bytes_eq}
use Rattle.std.specs.Cmp.Lexicographic.{bytes_decides}
use Rattle.std.proofs.lemmas.Bool.{or_cases}
use Rattle.msi_base.specs.declared.errors.ErrorKind.{ErrorKind}
use Rattle.msi_base.specs.Refusals.{unless}
use Rattle.msi_base.proofs.BoolLemmas.{by_test}
use Rattle.msi_pool.specs.FirstFitLaws.{TakenPlacesHoldTheirText, GivenBackTakesOne}
use Rattle.msi_database_schema.specs.System.{columns_name, tables_name}
use Rattle.msi_database_schema.proofs.AccountLemmas.{room, room_at}
use Rattle.msi_database_storage.specs.Kept.{Kept}
use Rattle.msi_transform.specs.Transforms.{TransformDef}
use Rattle.msi_transform.specs.declared.conditions.ErrorConditions.{ErrorConditions}
use Rattle.msi_transform_rows.specs.RecordRefusals.{Refusal, nowhere, ◌>>=◌}
use Rattle.msi_transform_rows.specs.RowStreams.{has_streams}
use Rattle.msi_transform_rows.specs.TableRecords.{changes_schema}
use Rattle.msi_transform_applying.specs.Applying.{TablesChanged, changed_with, finished, pool_left, streams_agree, texts_read_back}
use Rattle.msi_transform_making.specs.Making.{Pair, columns_in_table, made}
use Rattle.msi_transform_laws.specs.ExactPackages.{IsExact, IsInOrder}
use Rattle.msi_transform_laws.specs.MadeApplied.{left_of}
use Rattle.msi_transform_laws.specs.StreamsAgree.{CanNameStreams, HasPlainLists, StreamsAgree}
use Rattle.msi_transform_laws.specs.TablesChanged.{CountsCellsOf, cells_to_change}
use Rattle.msi_transform_laws.specs.TextsLeft.{CanTakeTransform}
use Rattle.msi_transform_laws.specs.TransformsApplied.{MadeTransformsGiveNewPackage}
use Rattle.msi_transform_laws.proofs.MadeAppliedLemmas.{unrefused}
use Rattle.msi_transform_laws.proofs.OldTextsLemmas.{all_parts, beside, counts_begun}
use Rattle.msi_transform_laws.proofs.PackagesInOrderLemmas.{can_change, can_have, same_columns, streams_held}
use Rattle.msi_transform_laws.proofs.MadeStreamsLemmas.{made_streams_agree, same_columns_streams_agree}
use Rattle.msi_transform_laws.proofs.WholeRunLemmas.{all_texts_read, whole_run}

-- THE STREAMS

module _ (k : Kept) (order : IsInOrder k) where
  plain_lists : HasPlainLists k
  plain_lists name schema = elim (or_cases (bytes_eq name tables_name) (bytes_eq name columns_name) schema) [
    | inl b ↦ ap (λ (n : List ℕ). has_streams (columns_in_table k n)) ((bytes_decides name tables_name).0 b) ∙ ap has_streams order.tables_are
    | inr b ↦ ap (λ (n : List ℕ). has_streams (columns_in_table k n)) ((bytes_decides name columns_name).0 b) ∙ ap has_streams order.columns_are
  ]

module _ (takes : TakenPlacesHoldTheirText) (gives : GivenBackTakesOne) (p : Pair) (t : TransformDef) (passing : ErrorConditions) (is : made p ≡ Ok t) (exact : IsExact p.old) (order : IsInOrder p.new)
    (ready : CanTakeTransform p t passing) where
  can_name : CanNameStreams p
  can_name = record {
    texts = exact.order.texts;
    texts_too = order.texts;
    apart = (can_change p t passing is exact order ready).apart;
    lists = plain_lists p.old exact.order;
    lists_too = plain_lists p.new order;
  }

  -- the cells that neither go nor change, where no table goes: all others
  abbrev others : ℕ → ℕ
  others n = room p.old.database.pool.places n - cells_to_change p.old.database t.tables n

  counted : CountsCellsOf (cells_to_change p.old.database t.tables) others p.old.database.pool.places
  counted = record {
    counts = λ n one. omega (arith, all_parts p t is exact order n, room_at p.old.database.pool.places n one);
    from_one = omega (arith, all_parts p t is exact order 0);
  }

  agree : StreamsAgree p t passing
  agree = by_test (changes_schema t)
      (λ b. made_streams_agree takes gives p t passing (beside p t is exact order) is (can_have p t passing is exact order ready) (can_change p t passing is exact order ready) b
      (streams_held p t passing is exact order ready) ready.page (counts_begun p t is exact order) ready.room can_name)
      (λ b. same_columns_streams_agree takes gives p t passing others is (can_have p t passing is exact order ready) (same_columns p t passing is exact order ready b) b ready.page
      counted (omega (arith, ready.room)) can_name)

-- NOTHING IS REFUSED

pub made_transforms_give_new_package : TakenPlacesHoldTheirText → GivenBackTakesOne → MadeTransformsGiveNewPackage
made_transforms_give_new_package takes gives p t passing is exact order ready =
    let (told, after, ran, new, ends, counts) = whole_run takes gives p t passing is exact order ready in
    let pool = pool_left p.old.database.pool t after.pool in
    let agreed : streams_agree p.old t told after pool.long ≡ true = agree takes gives p t passing is exact order ready (changed_with told after) pool.long ran in
    let read : texts_read_back pool ≡ true = all_texts_read p t passing is ready after ends in (
      told,
      after,
      ap (λ (r : Result TablesChanged Refusal). r >>= finished p.old t) ran
          ∙ ap (λ (o : Option ErrorKind). nowhere (unless o (left_of p.old t after))) (unrefused (streams_agree p.old t told after pool.long) (texts_read_back pool) agreed read),
      new,
    )
