use Rattle.std.proofs.Common.{arith, ◌≡◌, ℕ, List, [], ◌++◌, length, vec_len, ◌∙◌, sym, ap, refl, length-append}
use Rattle.std.proofs.lemmas.Result.{IfOk-from_err, err_from_is_err_and}
use Rattle.msi_container_tables.specs.Claims.{CanClaim}
use Rattle.msi_container_format.specs.Container.{IsWholeChain, successor, fat_of}
use Rattle.msi_container_tables.specs.Reading.{IsStart}
use Rattle.msi_container_tables.proofs.chains.ClaimedLemmas.{claim_front, claim_back, claimed_room, few_claimed}
use Rattle.msi_container_tables.proofs.chains.RoomLemmas.{bounded_from_none, unmoved_from_none}
use Rattle.msi_container_tables.proofs.parts.PassedLemmas.{kind_passed}
use Rattle.msi_container_read.proofs.reading.read_start.Goals as goal

-- what each part of a start can claim
difat_room : (bytes : List ℕ) (limit : ℕ) (difat fat directory : List ℕ) → IsStart bytes limit difat fat directory → CanClaim limit [] difat
difat_room bytes limit difat fat directory s = claim_front limit [] difat fat (claim_front limit [] (difat ++ fat) directory s.room)

fat_room : (bytes : List ℕ) (limit : ℕ) (difat fat directory : List ℕ) → IsStart bytes limit difat fat directory → CanClaim limit difat fat
fat_room bytes limit difat fat directory s = claim_back limit [] difat fat (claim_front limit [] (difat ++ fat) directory s.room)

directory_room : (bytes : List ℕ) (limit : ℕ) (difat fat directory : List ℕ) → IsStart bytes limit difat fat directory → CanClaim limit (difat ++ fat) directory
directory_room bytes limit difat fat directory s = claim_back limit [] (difat ++ fat) directory s.room

pub returns-in_err-difat-clause-only : goal.returns-in_err-difat-clause-only
returns-in_err-difat-clause-only c = λ difat fat directory s.
    let p = err_from_is_err_and c.from_residual-in_err-difat.result c.from_residual-in_err-difat.ensures.1 in
    let can = difat_room c.args.bytes.now _ difat fat directory s in
    rw (p.1, p.2) (c.in_err-difat.ensures.only difat s.difats (rw c.requires.empty can))

pub returns-in_err-fat-clause-only : goal.returns-in_err-fat-clause-only
returns-in_err-fat-clause-only c = λ difat fat directory s.
    let p = err_from_is_err_and c.from_residual-in_err-fat.result c.from_residual-in_err-fat.ensures.1 in
    let bytes = c.args.bytes.now in
    let same : c.in_ok-difat.difat.items ≡ difat = c.in_ok-difat.ensures.only difat s.difats (rw c.requires.empty (difat_room bytes _ difat fat directory s)) in
    let used : c.read_difat.new.claims.list.items ≡ difat = c.in_ok-difat.ensures.found.1 ∙ ap (λ xs. xs ++ c.in_ok-difat.difat.items) c.requires.empty ∙ same in
    let fats : fat_of bytes c.deref.result.now ≡ fat = ap (fat_of bytes) (c.deref.ensures.value ∙ same) ∙ sym s.fats in
    let can : CanClaim (vec_len c.read_difat.new.claims.marks) c.read_difat.new.claims.list.items (fat_of bytes c.deref.result.now) =
    rw (c.in_ok-difat.ensures.limit, used, fats) (fat_room bytes _ difat fat directory s) in
    rw (p.1, p.2) (c.in_err-fat.ensures.only can)

pub new-table-requires : goal.new-table-requires
new-table-requires c =
    let after = c.read_fat.new.claims in
    let long = ap (λ (xs : List ℕ). length xs) c.in_ok-fat.ensures.found.1 ∙ length-append c.read_difat.new.claims.list.items c.in_ok-fat.fat.items in
    omega (arith, long, few_claimed after.marks after.list after.counted, c.in_ok-fat.ensures.limit, c.in_ok-difat.ensures.limit, c.requires.regular, c.deref-2.ensures.len, after.list.ok, c.in_ok-fat.fat.ok)

pub returns-in_err-directory-clause-only : goal.returns-in_err-directory-clause-only
returns-in_err-directory-clause-only c = λ difat fat directory s.
    let p = err_from_is_err_and c.from_residual-in_err-directory.result c.from_residual-in_err-directory.ensures.1 in
    let bytes = c.args.bytes.now in
    let same : c.in_ok-difat.difat.items ≡ difat = c.in_ok-difat.ensures.only difat s.difats (rw c.requires.empty (difat_room bytes _ difat fat directory s)) in
    let used : c.read_difat.new.claims.list.items ≡ difat = c.in_ok-difat.ensures.found.1 ∙ ap (λ xs. xs ++ c.in_ok-difat.difat.items) c.requires.empty ∙ same in
    let fats : c.in_ok-fat.fat.items ≡ fat = c.in_ok-fat.ensures.found.0 ∙ ap (fat_of bytes) (c.deref.ensures.value ∙ same) ∙ sym s.fats in
    let both : c.read_fat.new.claims.list.items ≡ difat ++ fat = c.in_ok-fat.ensures.found.1 ∙ ap (λ xs. xs ++ c.in_ok-fat.fat.items) used ∙ ap (λ xs. difat ++ xs) fats in
    let table : c.new-table.result.sectors.now ≡ fat = c.new-table.ensures.sectors ∙ c.deref-2.ensures.value ∙ fats in
    let chain : IsWholeChain (successor c.new-table.result.bytes.now c.new-table.result.sectors.now) c.number32-first.result directory = rw (c.new-table.ensures.bytes, table, c.number32-first.ensures) s.chain in
    let can : CanClaim (vec_len c.read_fat.new.claims.marks) c.read_fat.new.claims.list.items directory =
    rw (c.in_ok-fat.ensures.limit, c.in_ok-difat.ensures.limit, both) (directory_room bytes _ difat fat directory s) in
    rw (p.1, p.2) (c.in_err-directory.ensures.only directory chain can)

pub returns-clause-found : goal.returns-clause-found
returns-clause-found c =
    let bytes = c.args.bytes.now in
    let after = c.walk_to_end.new.claims in
    let difats = c.in_ok-difat.ensures.found in
    let fats = c.in_ok-fat.ensures.found in
    let directories = c.in_ok-directory.ensures.found in
    let used : c.read_difat.new.claims.list.items ≡ c.in_ok-difat.difat.items = difats.1 ∙ ap (λ xs. xs ++ c.in_ok-difat.difat.items) c.requires.empty in
    let whole : after.list.items ≡ c.in_ok-difat.difat.items ++ c.in_ok-fat.fat.items ++ c.in_ok-directory.directory.items =
    directories.1 ∙ ap (λ xs. xs ++ c.in_ok-directory.directory.items) (fats.1 ∙ ap (λ xs. xs ++ c.in_ok-fat.fat.items) used) in
    let limit = c.in_ok-directory.ensures.limit ∙ c.in_ok-fat.ensures.limit ∙ c.in_ok-difat.ensures.limit in (
      record {
        header = c.in_ok-check_header.ensures.ok;
        difats = difats.0;
        fats = fats.0 ∙ ap (fat_of bytes) c.deref.ensures.value;
        chain = rw (c.new-table.ensures.bytes, c.new-table.ensures.sectors, c.deref-2.ensures.value, c.number32-first.ensures) at directories.0;
        room = claimed_room after.marks _ after.list.items [] (c.in_ok-difat.difat.items ++ c.in_ok-fat.fat.items ++ c.in_ok-directory.directory.items) limit after.marked after.distinct whole;
      },
      whole,
    )

pub returns-clause-only : goal.returns-clause-only
returns-clause-only c = λ difat fat directory s.
    let bytes = c.args.bytes.now in
    let same : c.in_ok-difat.difat.items ≡ difat = c.in_ok-difat.ensures.only difat s.difats (rw c.requires.empty (difat_room bytes _ difat fat directory s)) in
    let used : c.read_difat.new.claims.list.items ≡ difat = c.in_ok-difat.ensures.found.1 ∙ ap (λ xs. xs ++ c.in_ok-difat.difat.items) c.requires.empty ∙ same in
    let fats : c.in_ok-fat.fat.items ≡ fat = c.in_ok-fat.ensures.found.0 ∙ ap (fat_of bytes) (c.deref.ensures.value ∙ same) ∙ sym s.fats in
    let both : c.read_fat.new.claims.list.items ≡ difat ++ fat = c.in_ok-fat.ensures.found.1 ∙ ap (λ xs. xs ++ c.in_ok-fat.fat.items) used ∙ ap (λ xs. difat ++ xs) fats in
    let table : c.new-table.result.sectors.now ≡ fat = c.new-table.ensures.sectors ∙ c.deref-2.ensures.value ∙ fats in
    let chain : IsWholeChain (successor c.new-table.result.bytes.now c.new-table.result.sectors.now) c.number32-first.result directory = rw (c.new-table.ensures.bytes, table, c.number32-first.ensures) s.chain in
    let can : CanClaim (vec_len c.read_fat.new.claims.marks) c.read_fat.new.claims.list.items directory =
    rw (c.in_ok-fat.ensures.limit, c.in_ok-difat.ensures.limit, both) (directory_room bytes _ difat fat directory s) in
    let directories : c.in_ok-directory.directory.items ≡ directory = c.in_ok-directory.ensures.only directory chain can in
    rw (same, fats, directories) refl

pub returns-clause-few : goal.returns-clause-few
returns-clause-few c =
    let after = c.walk_to_end.new.claims in
    let a = ap (λ (xs : List ℕ). length xs) c.in_ok-directory.ensures.found.1 ∙ length-append c.read_fat.new.claims.list.items c.in_ok-directory.directory.items in
    let b = ap (λ (xs : List ℕ). length xs) c.in_ok-fat.ensures.found.1 ∙ length-append c.read_difat.new.claims.list.items c.in_ok-fat.fat.items in
    let d = ap (λ (xs : List ℕ). length xs) c.in_ok-difat.ensures.found.1 ∙ length-append c.args.claims.now.list.items c.in_ok-difat.difat.items in
    omega (arith, a, b, d, few_claimed after.marks after.list after.counted, c.in_ok-directory.ensures.limit, c.in_ok-fat.ensures.limit, c.in_ok-difat.ensures.limit, after.list.ok, c.in_ok-directory.directory.ok, c.in_ok-fat.fat.ok, c.in_ok-difat.difat.ok)

pub read_fat-requires : goal.read_fat-requires
read_fat-requires c = rw c.deref.ensures.value c.in_ok-difat.ensures.found.0.long

pub walk_to_end-requires-clause-steps : goal.walk_to_end-requires-clause-steps
walk_to_end-requires-clause-steps c = rw (c.in_ok-fat.ensures.limit ∙ c.in_ok-difat.ensures.limit) c.requires.steps

pub walk_to_end-requires-clause-regular : goal.walk_to_end-requires-clause-regular
walk_to_end-requires-clause-regular c = rw (c.in_ok-fat.ensures.limit ∙ c.in_ok-difat.ensures.limit) c.requires.regular

pub returns-in_err-fat-clause-bounded : goal.returns-in_err-fat-clause-bounded
returns-in_err-fat-clause-bounded c = unmoved_from_none _ c.args.claims.now.list c.read_fat.new.claims.list c.requires.empty

pub returns-in_err-directory-clause-bounded : goal.returns-in_err-directory-clause-bounded
returns-in_err-directory-clause-bounded c = bounded_from_none _ _ c.args.claims.now.list c.read_fat.new.claims.list c.walk_to_end.new.claims.list c.requires.empty c.in_err-directory.ensures.steps

pub returns-in_err-directory-clause-limit : goal.returns-in_err-directory-clause-limit
returns-in_err-directory-clause-limit c = c.in_err-directory.ensures.limit ∙ c.in_ok-fat.ensures.limit ∙ c.in_ok-difat.ensures.limit

pub returns-in_err-directory-clause-grows : goal.returns-in_err-directory-clause-grows
returns-in_err-directory-clause-grows c = c.in_err-directory.ensures.grows

pub returns-clause-bounded : goal.returns-clause-bounded
returns-clause-bounded c = bounded_from_none _ _ c.args.claims.now.list c.read_fat.new.claims.list c.walk_to_end.new.claims.list c.requires.empty c.in_ok-directory.ensures.steps

pub returns-clause-exact : goal.returns-clause-exact
returns-clause-exact c = c.in_ok-directory.ensures.exact

pub returns-clause-limit : goal.returns-clause-limit
returns-clause-limit c = c.in_ok-directory.ensures.limit ∙ c.in_ok-fat.ensures.limit ∙ c.in_ok-difat.ensures.limit

pub returns-clause-grows : goal.returns-clause-grows
returns-clause-grows c = c.in_ok-directory.ensures.grows

pub returns-in_err-check_header-clause-found : goal.returns-in_err-check_header-clause-found
returns-in_err-check_header-clause-found c = IfOk-from_err c.from_residual.result _ c.from_residual.ensures.0

pub returns-in_err-check_header-clause-few : goal.returns-in_err-check_header-clause-few
returns-in_err-check_header-clause-few c = IfOk-from_err c.from_residual.result _ c.from_residual.ensures.0

pub returns-in_err-check_header-clause-exact : goal.returns-in_err-check_header-clause-exact
returns-in_err-check_header-clause-exact c = IfOk-from_err c.from_residual.result _ c.from_residual.ensures.0

pub returns-in_err-difat-clause-found : goal.returns-in_err-difat-clause-found
returns-in_err-difat-clause-found c = IfOk-from_err c.from_residual-in_err-difat.result _ c.from_residual-in_err-difat.ensures.0

pub returns-in_err-difat-clause-few : goal.returns-in_err-difat-clause-few
returns-in_err-difat-clause-few c = IfOk-from_err c.from_residual-in_err-difat.result _ c.from_residual-in_err-difat.ensures.0

pub returns-in_err-difat-clause-exact : goal.returns-in_err-difat-clause-exact
returns-in_err-difat-clause-exact c = IfOk-from_err c.from_residual-in_err-difat.result _ c.from_residual-in_err-difat.ensures.0

pub returns-in_err-difat-clause-kinds : goal.returns-in_err-difat-clause-kinds
returns-in_err-difat-clause-kinds c = kind_passed c.from_residual-in_err-difat.result c.in_err-difat.field-0.0 c.from_residual-in_err-difat.ensures.1 c.in_err-difat.ensures.kinds

pub returns-in_err-fat-clause-found : goal.returns-in_err-fat-clause-found
returns-in_err-fat-clause-found c = IfOk-from_err c.from_residual-in_err-fat.result _ c.from_residual-in_err-fat.ensures.0

pub returns-in_err-fat-clause-few : goal.returns-in_err-fat-clause-few
returns-in_err-fat-clause-few c = IfOk-from_err c.from_residual-in_err-fat.result _ c.from_residual-in_err-fat.ensures.0

pub returns-in_err-fat-clause-exact : goal.returns-in_err-fat-clause-exact
returns-in_err-fat-clause-exact c = IfOk-from_err c.from_residual-in_err-fat.result _ c.from_residual-in_err-fat.ensures.0

pub returns-in_err-fat-clause-kinds : goal.returns-in_err-fat-clause-kinds
returns-in_err-fat-clause-kinds c = kind_passed c.from_residual-in_err-fat.result c.in_err-fat.field-0.0 c.from_residual-in_err-fat.ensures.1 c.in_err-fat.ensures.kinds

pub returns-in_err-directory-clause-found : goal.returns-in_err-directory-clause-found
returns-in_err-directory-clause-found c = IfOk-from_err c.from_residual-in_err-directory.result _ c.from_residual-in_err-directory.ensures.0

pub returns-in_err-directory-clause-few : goal.returns-in_err-directory-clause-few
returns-in_err-directory-clause-few c = IfOk-from_err c.from_residual-in_err-directory.result _ c.from_residual-in_err-directory.ensures.0

pub returns-in_err-directory-clause-exact : goal.returns-in_err-directory-clause-exact
returns-in_err-directory-clause-exact c = IfOk-from_err c.from_residual-in_err-directory.result _ c.from_residual-in_err-directory.ensures.0

pub returns-in_err-directory-clause-kinds : goal.returns-in_err-directory-clause-kinds
returns-in_err-directory-clause-kinds c = kind_passed c.from_residual-in_err-directory.result c.in_err-directory.field-0.0 c.from_residual-in_err-directory.ensures.1 c.in_err-directory.ensures.kinds
