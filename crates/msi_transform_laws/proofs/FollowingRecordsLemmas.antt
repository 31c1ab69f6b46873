-- The records of what differs can be carried out one after the other: what they remove or change is there, and what
-- they add isn't.
use Rattle.std.proofs.Common.{◌≡◌, ◌+◌, ◌≤◌, Bool, true, false, cond, ◌&&◌, T, List, [], ◌∷◌, ◌++◌, length, refl, sym, ap, subst, ◌∙◌, arith}
use Rattle.std.specs.Prelude.{⊤, Option, Some, None, is_some, filter_map, nat_lt}
use Rattle.std.specs.Cmp.{eq_by_cmp_equiv, tied_itself}
use Rattle.std.specs.FinMap.{find, is_sorted}
use Rattle.std.specs.FinMap.Entries.{below_all, length-put}
use Rattle.std.specs.List.{AllByRecursion, cons_option}
use Rattle.std.specs.Ordering.{eq_by_cmp, is_lt}
use Rattle.msi_base.proofs.BoolLemmas.{T_parts, by_test, yes_is_no}
use Rattle.msi_base.proofs.OptionLemmas.{none_is, some_is}
use Rattle.msi_table_values.specs.declared.value.Value.{Value}
use Rattle.msi_table_values.specs.Columns.{ColumnDef}
use Rattle.msi_transform_records.specs.declared.action.Action.{Action}
use Rattle.msi_transform_records.specs.declared.action.Action.TheVariants.{Add, Remove, Change}
use Rattle.msi_transform_rows.specs.KeyOfRows.{key_cmp}
use Rattle.msi_transform_making.specs.Making.{ToldRecord, ToldRow, ToldRows, addition, can_be_marked, change_of_row, changes, changing, differences, differing, is_replaced, removal}
use Rattle.msi_transform_laws.specs.CarriedOut.{added_row, carried_out, done_by, record_done}
use Rattle.msi_transform_laws.specs.CanFollow.{CanFollow, CanFollowInTurn, DifferencesCanFollow}
use Rattle.msi_transform_laws.proofs.CarriedOutLemmas.{change_by, differences_give_new_rows, done_at, each_done, found_by, joined, keys_total, less, own_change, own_if, replaced_by, row_done, sorted, sorted_by, tell_if, tell_removed, told_if}
use Rattle.msi_transform_laws.proofs.ChangedRowsLemmas.{differing_turned}

abbrev Entry : Type 0
Entry = List Value × ToldRow

-- a record of a row that is there
abbrev IsOfRow : Action → Type 0
IsOfRow Remove = ⊤
IsOfRow (Change mask) = ⊤
IsOfRow (Add k) = ⊥

abbrev pub IsAddition : Action → Type 0
IsAddition Remove = ⊥
IsAddition (Change mask) = ⊥
IsAddition (Add k) = ⊤

follows_there : (rows : ToldRows) (r : ToldRecord) (a : Action) → IsOfRow a → is_some (find key_cmp r.key rows) ≡ true → CanFollow rows r a
follows_there rows r Remove is h = h
follows_there rows r (Change mask) is h = h
follows_there rows r (Add k) is h = absurd is

follows_absent : (rows : ToldRows) (r : ToldRecord) (a : Action) → IsAddition a → find key_cmp r.key rows ≡ None → length rows ≤ 65535 → CanFollow rows r a
follows_absent rows r Remove is h few = absurd is
follows_absent rows r (Change mask) is h few = absurd is
follows_absent rows r (Add k) is h few = (h, few)

module _ (columns : List ColumnDef) where
  pub follow_joined : (rows : ToldRows) (rs qs : List ToldRecord) → CanFollowInTurn columns rows rs → CanFollowInTurn columns (carried_out columns rows rs) qs → CanFollowInTurn columns rows (rs ++ qs)
  follow_joined rows [] qs h g = g
  follow_joined rows (r ∷ rs) qs h g = (h.0, follow_joined (record_done columns rows r) rs qs h.1 g)

  -- a record leaves rows of other keys alone
  other_stays : (q : List Value) (rows : ToldRows) (r : ToldRecord) → eq_by_cmp key_cmp q r.key ≡ false → find key_cmp q (record_done columns rows r) ≡ find key_cmp q rows
  other_stays q rows r t = found_by columns q rows r r.action ∙ ap (λ b. cond b (row_done columns r (find key_cmp q rows)) (find key_cmp q rows)) t

  module _ (tell : Entry → Option ToldRecord) (own : (e : Entry) (r : ToldRecord) → tell e ≡ Some r → r.key ≡ e.0) where
    -- what holds of the rows under the keys that are told
    abbrev Where : (Option ToldRow → Type 0) → ToldRows → Entry → Type 0
    Where P rows e = (r : ToldRecord) → tell e ≡ Some r → P (find key_cmp e.0 rows)

    still : (P : Option ToldRow → Type 0) (rows : ToldRows) (r : ToldRecord) (es : ToldRows) → T (below_all key_cmp r.key es) → AllByRecursion (Where P rows) es → AllByRecursion (Where P (record_done columns rows r)) es
    still P rows r [] below h = tt
    still P rows r (e ∷ es) below h =
        let p = T_parts (is_lt (key_cmp r.key e.0)) (below_all key_cmp r.key es) below in
        let apart : eq_by_cmp key_cmp e.0 r.key ≡ false = (eq_by_cmp_equiv keys_total).symm e.0 r.key ∙ less (key_cmp r.key e.0) p.0 in
        ((λ q is. subst P (sym (other_stays e.0 rows r apart)) (h.0 q is)), still P rows r es p.1 h.1)

    below_own : (e : Entry) (r : ToldRecord) (es : ToldRows) → tell e ≡ Some r → T (below_all key_cmp e.0 es) → T (below_all key_cmp r.key es)
    below_own e r es is below = subst (λ (k : List Value). T (below_all key_cmp k es)) (sym (own e r is)) below

    abbrev IsThere : Option ToldRow → Type 0
    IsThere o = is_some o ≡ true

    there_follow : ((e : Entry) (r : ToldRecord) → tell e ≡ Some r → IsOfRow r.action) → (es rows : ToldRows) → T (is_sorted key_cmp es)
        → AllByRecursion (Where IsThere rows) es → CanFollowInTurn columns rows (filter_map tell es)
    there_follow kind [] rows h there = tt
    there_follow kind (e ∷ es) rows h there =
        let p = T_parts (below_all key_cmp e.0 es) (is_sorted key_cmp es) h in
        elim (tell e) as (λ o. tell e ≡ o → CanFollowInTurn columns rows (cons_option o (filter_map tell es))) [
          | None ↦ λ is. there_follow kind es rows p.1 there.1
          | Some r ↦ λ is. (
            follows_there rows r r.action (kind e r is) (subst (λ (k : List Value). is_some (find key_cmp k rows) ≡ true) (sym (own e r is)) (there.0 r is)),
            there_follow kind es (record_done columns rows r) p.1 (still IsThere rows r es (below_own e r es is p.0) there.1),
          )
        ] refl

    abbrev IsAbsent : Option ToldRow → Type 0
    IsAbsent o = o ≡ None

    one_longer : (rows : ToldRows) (r : ToldRecord) (a : Action) → IsAddition a → T (is_sorted key_cmp rows) → find key_cmp r.key rows ≡ None → length (done_by columns rows r a) ≡ length rows + 1
    one_longer rows r Remove is h none = absurd is
    one_longer rows r (Change mask) is h none = absurd is
    one_longer rows r (Add k) is h none = length-put key_cmp keys_total r.key (added_row columns r) rows h ∙ ap (λ (o : Option ToldRow). cond (is_some o) (length rows) (length rows + 1)) none

    module _ (kind : (e : Entry) (r : ToldRecord) → tell e ≡ Some r → IsAddition r.action) where
      all_longer : (es rows : ToldRows) → T (is_sorted key_cmp es) → T (is_sorted key_cmp rows) → AllByRecursion (Where IsAbsent rows) es
          → length (carried_out columns rows (filter_map tell es)) ≡ length rows + length (filter_map tell es)
      all_longer [] rows h g absent = omega arith
      all_longer (e ∷ es) rows h g absent =
          let p = T_parts (below_all key_cmp e.0 es) (is_sorted key_cmp es) h in
          elim (tell e) as (λ o. tell e ≡ o → length (carried_out columns rows (cons_option o (filter_map tell es))) ≡ length rows + length (cons_option o (filter_map tell es))) [
            | None ↦ λ is. all_longer es rows p.1 g absent.1
            | Some r ↦ λ is.
                let none : find key_cmp r.key rows ≡ None = ap (λ (k : List Value). find key_cmp k rows) (own e r is) ∙ absent.0 r is in
                let one = one_longer rows r r.action (kind e r is) g none in
                let rest = all_longer es (record_done columns rows r) p.1 (sorted_by columns rows r r.action g) (still IsAbsent rows r es (below_own e r es is p.0) absent.1) in
                omega (arith, one, rest)
          ] refl

      pub absent_follow : (es rows : ToldRows) → T (is_sorted key_cmp es) → T (is_sorted key_cmp rows) → AllByRecursion (Where IsAbsent rows) es → length rows + length (filter_map tell es) ≤ 65536
          → CanFollowInTurn columns rows (filter_map tell es)
      absent_follow [] rows h g absent few = tt
      absent_follow (e ∷ es) rows h g absent few =
          let p = T_parts (below_all key_cmp e.0 es) (is_sorted key_cmp es) h in
          elim (tell e) as (λ o. tell e ≡ o → length rows + length (cons_option o (filter_map tell es)) ≤ 65536 → CanFollowInTurn columns rows (cons_option o (filter_map tell es))) [
            | None ↦ λ is few. absent_follow es rows p.1 g absent.1 few
            | Some r ↦ λ is few.
                let none : find key_cmp r.key rows ≡ None = ap (λ (k : List Value). find key_cmp k rows) (own e r is) ∙ absent.0 r is in
                let one = one_longer rows r r.action (kind e r is) g none in (
                  follows_absent rows r r.action (kind e r is) none (omega (arith, few)),
                  absent_follow es (record_done columns rows r) p.1 (sorted_by columns rows r r.action g) (still IsAbsent rows r es (below_own e r es is p.0) absent.1) (omega (arith, few, one)),
                )
          ] refl few

-- each row is found under its key
longer_found : (q : List Value) (e : Entry) (es : ToldRows) → is_some (find key_cmp q es) ≡ true → is_some (find key_cmp q (e ∷ es)) ≡ true
longer_found q e es h = by_test (eq_by_cmp key_cmp q e.0) (λ t. rw t refl) (λ t. rw t h)

abbrev FoundIn : ToldRows → Entry → Type 0
FoundIn all e = find key_cmp e.0 all ≡ Some e.1

all_as : {X : Type 0} (P Q : X → Type 0) → ((x : X) → P x → Q x) → (xs : List X) → AllByRecursion P xs → AllByRecursion Q xs
all_as P Q f [] h = tt
all_as P Q f (x ∷ xs) h = (f x h.0, all_as P Q f xs h.1)

found_behind : (e : Entry) (all es : ToldRows) → T (below_all key_cmp e.0 es) → AllByRecursion (FoundIn all) es → AllByRecursion (FoundIn (e ∷ all)) es
found_behind e all [] below h = tt
found_behind e all (f ∷ fs) below h =
    let p = T_parts (is_lt (key_cmp e.0 f.0)) (below_all key_cmp e.0 fs) below in
    let apart : eq_by_cmp key_cmp f.0 e.0 ≡ false = (eq_by_cmp_equiv keys_total).symm f.0 e.0 ∙ less (key_cmp e.0 f.0) p.0 in
    (rw apart h.0, found_behind e all fs p.1 h.1)

pub each_found : (es : ToldRows) → T (is_sorted key_cmp es) → AllByRecursion (FoundIn es) es
each_found [] h = tt
each_found (e ∷ es) h =
    let p = T_parts (below_all key_cmp e.0 es) (is_sorted key_cmp es) h in
    (rw (tied_itself keys_total e.0) refl, found_behind e es es p.0 (each_found es p.1))

-- WHAT DIFFERS

told_action : (test : Entry → Bool) (f : Entry → ToldRecord) (P : Action → Type 0) → ((e : Entry) → P (f e).action) → (e : Entry) (r : ToldRecord) → tell_if test f e ≡ Some r → P r.action
told_action test f P is e r = elim (test e) as (λ b. cond b (Some (f e)) None ≡ Some r → P r.action) [
  | true ↦ λ same. subst (λ (x : ToldRecord). P x.action) (some_is (f e) r same) (is e)
  | false ↦ λ none. none_is none
]

told_test : (test : Entry → Bool) (f : Entry → ToldRecord) (e : Entry) (r : ToldRecord) → tell_if test f e ≡ Some r → test e ≡ true
told_test test f e r = elim (test e) as (λ b. cond b (Some (f e)) None ≡ Some r → b ≡ true) [ true ↦ λ same. refl | false ↦ λ none. none_is none ]

module _ (columns : List ColumnDef) where
  changes_action : (old : Option ToldRow) (e : Entry) (r : ToldRecord) → change_by columns old e ≡ Some r → IsOfRow r.action
  changes_action None e r is = none_is is
  changes_action (Some other) e r is =
      elim (can_be_marked (differing other e.1) && nat_lt 0 (length (differing other e.1))) as (λ b. cond b (Some (changing columns (differing other e.1) e)) None ≡ Some r → IsOfRow r.action) [
        | true ↦ λ same. subst (λ (x : ToldRecord). IsOfRow x.action) (some_is (changing columns (differing other e.1) e) r same) tt
        | false ↦ λ none. none_is none
      ] is

  -- a row that is changed stays until then
  changed_stays : (q : List Value) (old : Option ToldRow) (new : ToldRow) (r : ToldRecord) → change_by columns old (q, new) ≡ Some r
      → is_some (done_at columns (tell_removed columns (Some new)) q old old) ≡ true
  changed_stays q None new r is = none_is is
  changed_stays q (Some other) new r is =
      let turned : differing new other ≡ differing other new = differing_turned new other in
      by_test (can_be_marked (differing other new))
      (λ t. rw (turned, t) refl)
      (λ t. none_is (rw t at is))

  -- a row that is added isn't there then
  added_absent : (q : List Value) (old : Option ToldRow) (new : ToldRow) → replaced_by columns old (q, new) ≡ true
      → done_at columns (change_by columns old) q (Some new) (done_at columns (tell_removed columns (Some new)) q old old) ≡ None
  added_absent q None new is = refl
  added_absent q (Some other) new is =
      let turned : differing new other ≡ differing other new = differing_turned new other in
      by_test (can_be_marked (differing other new))
      (λ t. yes_is_no false (rw t at is) refl)
      (λ t. rw (turned, t) refl)

  module _ (old new : ToldRows) (g : T (is_sorted key_cmp old)) (h : T (is_sorted key_cmp new)) where
    abbrev tell_gone : Entry → Option ToldRecord
    tell_gone = tell_if (is_replaced new) (λ e. removal e.0)

    abbrev tell_new : Entry → Option ToldRecord
    tell_new = tell_if (is_replaced old) addition

    abbrev first : ToldRows
    first = carried_out columns old (filter_map tell_gone old)

    abbrev second : ToldRows
    second = carried_out columns first (changes columns old new)

    own_gone : (e : Entry) (r : ToldRecord) → tell_gone e ≡ Some r → r.key ≡ e.0
    own_gone = own_if (is_replaced new) (λ e. removal e.0) (λ e. refl)

    own_new : (e : Entry) (r : ToldRecord) → tell_new e ≡ Some r → r.key ≡ e.0
    own_new = own_if (is_replaced old) addition (λ e. refl)

    own_changed : (e : Entry) (r : ToldRecord) → change_of_row columns old e ≡ Some r → r.key ≡ e.0
    own_changed e = own_change columns (find key_cmp e.0 old) e

    at_first : (q : List Value) → find key_cmp q first ≡ done_at columns (tell_removed columns (find key_cmp q new)) q (find key_cmp q old) (find key_cmp q old)
    at_first q = each_done columns tell_gone own_gone q old old g

    at_second : (q : List Value) → find key_cmp q second ≡ done_at columns (change_by columns (find key_cmp q old)) q (find key_cmp q new) (find key_cmp q first)
    at_second q = each_done columns (change_of_row columns old) own_changed q new first h

    gone_follow : CanFollowInTurn columns old (filter_map tell_gone old)
    gone_follow = there_follow columns tell_gone own_gone (told_action (is_replaced new) (λ e. removal e.0) IsOfRow (λ e. tt)) old old g
        (all_as (FoundIn old) (λ e. (r : ToldRecord) → tell_gone e ≡ Some r → is_some (find key_cmp e.0 old) ≡ true) (λ e found r is. ap is_some found) old (each_found old g))

    changed_there : (e : Entry) → FoundIn new e → (r : ToldRecord) → change_of_row columns old e ≡ Some r → is_some (find key_cmp e.0 first) ≡ true
    changed_there e found r is =
        ap is_some (at_first e.0 ∙ ap (λ (o : Option ToldRow). done_at columns (tell_removed columns o) e.0 (find key_cmp e.0 old) (find key_cmp e.0 old)) found)
        ∙ changed_stays e.0 (find key_cmp e.0 old) e.1 r is

    changes_follow : CanFollowInTurn columns first (changes columns old new)
    changes_follow = there_follow columns (change_of_row columns old) own_changed (λ e. changes_action (find key_cmp e.0 old) e) new first h
        (all_as (FoundIn new) (λ e. (r : ToldRecord) → change_of_row columns old e ≡ Some r → is_some (find key_cmp e.0 first) ≡ true) changed_there new (each_found new h))

    new_absent : (e : Entry) → FoundIn new e → (r : ToldRecord) → tell_new e ≡ Some r → find key_cmp e.0 second ≡ None
    new_absent e found r is =
        at_second e.0
        ∙ (λ i. done_at columns (change_by columns (find key_cmp e.0 old)) e.0 (found i) (at_first e.0 i))
        ∙ ap (λ (o : Option ToldRow). done_at columns (change_by columns (find key_cmp e.0 old)) e.0 (Some e.1) (done_at columns (tell_removed columns o) e.0 (find key_cmp e.0 old) (find key_cmp e.0 old))) found
        ∙ added_absent e.0 (find key_cmp e.0 old) e.1 (told_test (is_replaced old) addition e r is)

    all_absent : AllByRecursion (λ (e : Entry). (r : ToldRecord) → tell_new e ≡ Some r → find key_cmp e.0 second ≡ None) new
    all_absent = all_as (FoundIn new) (λ e. (r : ToldRecord) → tell_new e ≡ Some r → find key_cmp e.0 second ≡ None) new_absent new (each_found new h)

    second_sorted : T (is_sorted key_cmp second)
    second_sorted = sorted columns first (changes columns old new) (sorted columns old (filter_map tell_gone old) g)

    whole : differences columns old new ≡ (filter_map tell_gone old ++ changes columns old new) ++ filter_map tell_new new
    whole i = (told_if (is_replaced new) (λ e. removal e.0) old i ++ changes columns old new) ++ told_if (is_replaced old) addition new i

    up_to_second : carried_out columns old (filter_map tell_gone old ++ changes columns old new) ≡ second
    up_to_second = joined columns old (filter_map tell_gone old) (changes columns old new)

    parts : carried_out columns old ((filter_map tell_gone old ++ changes columns old new) ++ filter_map tell_new new) ≡ carried_out columns second (filter_map tell_new new)
    parts = joined columns old (filter_map tell_gone old ++ changes columns old new) (filter_map tell_new new)
        ∙ ap (λ (rows : ToldRows). carried_out columns rows (filter_map tell_new new)) up_to_second

    new_follow : carried_out columns old (differences columns old new) ≡ new → length new ≤ 65536 → CanFollowInTurn columns second (filter_map tell_new new)
    new_follow gives few =
        let longer = all_longer columns tell_new own_new (told_action (is_replaced old) addition IsAddition (λ e. tt)) new second h second_sorted all_absent in
        let ends : carried_out columns second (filter_map tell_new new) ≡ new = sym parts ∙ ap (carried_out columns old) (sym whole) ∙ gives in
        let many : length (carried_out columns second (filter_map tell_new new)) ≡ length new = ap (λ (l : ToldRows). length l) ends in
        absent_follow columns tell_new own_new (told_action (is_replaced old) addition IsAddition (λ e. tt)) new second h second_sorted all_absent (omega (arith, longer, many, few))

    pub all_follow : carried_out columns old (differences columns old new) ≡ new → length new ≤ 65536 → CanFollowInTurn columns old (differences columns old new)
    all_follow gives few = subst (CanFollowInTurn columns old) (sym whole)
        (follow_joined columns old (filter_map tell_gone old ++ changes columns old new) (filter_map tell_new new)
        (follow_joined columns old (filter_map tell_gone old) (changes columns old new) gone_follow changes_follow)
        (subst (λ (rows : ToldRows). CanFollowInTurn columns rows (filter_map tell_new new)) (sym up_to_second) (new_follow gives few)))

pub differences_can_follow : DifferencesCanFollow
differences_can_follow columns old new plain was is few =
    all_follow columns old new was.sorted is.sorted (differences_give_new_rows columns old new plain was is) few
