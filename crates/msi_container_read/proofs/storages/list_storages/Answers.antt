use Rattle.std.proofs.Common.{◌≡◌, ℕ, List, sym, ◌∙◌, ap}
use Rattle.std.proofs.lemmas.Result.{err_from_is_err_and}
use Rattle.msi_container_read.specs.StorageLists.{AreAllStorages, all_listed, storages_of}
use Rattle.msi_container_read.proofs.plans.StorageListLemmas.{list_viewed}
use Rattle.msi_container_read.proofs.storages.list_storages.Goals as goal

pub returns-in_err-found-clause-only : goal.returns-in_err-found-clause-only
returns-in_err-found-clause-only c = λ list (difat, directory, trees, h, all, same).
    let here : c.deref.result.now ≡ directory = c.deref.ensures.value ∙ c.in_ok-start.ensures.only difat directory h in
    let there : AreAllStorages c.args.bytes.now c.deref.result.now trees = rw here all in
    let p = err_from_is_err_and c.from_residual-in_err-found.result c.from_residual-in_err-found.ensures.1 in
    rw (p.1, p.2) (c.in_err-found.ensures.only trees there)

pub returns-clause-only : goal.returns-clause-only
returns-clause-only c = λ list (difat, directory, trees, h, all, same).
    let bytes = c.args.bytes.now in
    let seen = c.deref.result.now in
    let here : seen ≡ directory = c.deref.ensures.value ∙ c.in_ok-start.ensures.only difat directory h in
    let there : AreAllStorages bytes seen trees = rw here all in
    let made = ap (λ (q : List ℕ × List ℕ × List ℕ × List ℕ). all_listed bytes seen q.0 q.1 q.2 q.3) (c.in_ok-found.ensures.only trees there) in
    list_viewed c.list_found.result _ list c.list_found.ensures.ok c.list_found.ensures.memory (made ∙ ap (λ d. storages_of bytes d trees) here ∙ sym same)
