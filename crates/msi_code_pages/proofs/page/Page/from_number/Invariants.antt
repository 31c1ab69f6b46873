use Rattle.std.proofs.Common.{◌≡◌, ◌==◌, drop, find}
use Rattle.msi_code_pages.specs.Page.{page_id, page_with_id}
use Rattle.msi_code_pages.proofs.page.Page.from_number.Given as goal

abbrev pub invariant-loop-page : goal.invariant-loop-page
invariant-loop-page l = find (λ p. page_id p == l.number) (drop l.page-index l.page-items) ≡ page_with_id l.number
