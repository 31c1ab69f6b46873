use Rattle.std.proofs.Common.{◌≡◌, ℕ, ◌++◌, List, length, sym, ap, subst, ◌∙◌, arith}
use Rattle.std.specs.Prelude.{OnOk}
use Rattle.msi_pool_places.specs.Pool.{place_bytes}
use Rattle.msi_pool.proofs.PoolWritingLemmas.{len_told, told_few, free_piece, entry_told}
use Rattle.msi_pool.proofs.stringpool.writing.push_place.Goals as goal

pub overflow_cast-len : goal.overflow_cast-len
overflow_cast-len c =
    let o = place_bytes c.args.page c.args.place.now in
    let is = len_told o c.place_len.result c.unwrap_or-len.result c.place_len.ensures c.unwrap_or-len.ensures in
    let few = told_few o c.requires in
    omega arith

pub push_entry-requires : goal.push_entry-requires
push_entry-requires c = λ none.
    let o = place_bytes c.args.page c.args.place.now in
    len_told o c.place_len.result c.unwrap_or-len.result c.place_len.ensures c.unwrap_or-len.ensures
    ∙ ap length (free_piece c.args.page c.args.place.now (sym c.count.ensures ∙ none))

pub returns : goal.returns
returns c =
    let o = place_bytes c.args.page c.args.place.now in
    let is = len_told o c.place_len.result c.unwrap_or-len.result c.place_len.ensures c.unwrap_or-len.ensures in
    subst (λ (x : List ℕ). OnOk c.push_entry.result (c.push_entry.new.held.items ≡ c.args.held.now.items ++ x))
    (entry_told c.args.page c.args.place.now (record { len = c.unwrap_or-len.result; count = c.count.result }) is c.count.ensures)
    c.push_entry.ensures
