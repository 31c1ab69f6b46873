use Rattle.std.proofs.Common.{rules, ◌≡◌, ◌+◌, ◌-◌, ◌*◌, ◌≤◌, length, arith, refl, ◌∙◌}
use Rattle.std.proofs.lemmas.Result.{IfOk-weaker}
use Rattle.msi_container_format.specs.Container.{sector_size}
use Rattle.msi_container_view.proofs.extent_lemmas.SectorRunLemmas.{Follow, run_within, run_of_part}
use Rattle.msi_container_view.proofs.table_lemmas.LoadLemmas.{run_behind}
use Rattle.msi_container_view.proofs.table_lemmas.StandLemmas.{first_behind, behind_all_stand}
use Rattle.msi_container_view.proofs.tables.Tables.load.Goals as goal

pub loop-at-preserved : goal.loop-at-preserved
loop-at-preserved g c =
    let sectors = c.args.sectors.now in
    let at = c.loop-at.at in
    let run = c.run_len-run.result in
    let size = c.sector_size-size.result in
    let i = c.loop-at.invariant in
    let within : at + run ≤ length sectors = run_within sectors at run i.within c.run_len-run.ensures.within in
    let follow : Follow sectors c.from.result at run =
    run_of_part sectors c.from.result at (length sectors - at) run c.from.ensures c.run_len-run.ensures.within c.run_len-run.ensures.run in
    record {
      within = within;
      behind = run_behind c.args.self.now.held _ size c.args.self.now.copy c.loop-at.self-inside.copy.items c.append.new.into.items sectors c.from.result at run _ (run * size) i.told i.behind follow refl refl c.in_ok-append.ensures.ok;
      told = c.in_ok-append.ensures.bytes ∙ i.told;
      read = omega (arith, i.read, c.in_ok-append.ensures.count);
    }

pub returns-clause-stand : goal.returns-clause-stand
returns-clause-stand g c =
    let t = c.args.self.now in
    let i = c.loop-at.invariant in
    let size : c.sector_size-size.result ≡ sector_size t.copy = search rules in
    let first = first_behind t c.len.result c.sector_size-size.result c.requires.copied (search rules) size in
    let all : c.loop-at.at ≡ length c.args.sectors.now = omega arith in
    IfOk-weaker c.places_from.result _ _
    (λ places is. behind_all_stand t c.loop-at.self-inside.copy.items c.args.sectors.now places.items _ _ c.loop-at.at c.requires.copied first size i.behind all is) c.places_from.ensures.ok
