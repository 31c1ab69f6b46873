use Rattle.std.proofs.Common.{◌∙◌, ap, refl, sym}
use Rattle.std.specs.FinMap as finite
use Rattle.std.specs.FinMap.{from_entries}
use Rattle.msi_container_format.specs.Names.{name_cmp}
use Rattle.msi_container_format.proofs.NamesLemmas.{get_is_lookup}
use Rattle.msi_container_format.proofs.StreamsLemmas.{written_if_lent}
use Rattle.msi_container_format.proofs.contents.StreamMap.get_mut.Goals as goal

pub returns : goal.returns
returns c = (
  (
    refl,
    λ w. written_if_lent c.args.self.now c.self.inside.map (c.get_mut.follows.lender w) c.args.name.now w c.get_mut.result c.self.view_is c.get_mut.ensures.value (c.get_mut.follows.holds w),
    ap (λ m. from_entries {R = name_cmp} m.entries) c.get_mut.follows.holds-at-none ∙ c.self.view_is,
  ),
  record {
    left = tt;
    held =
        c.get_mut.ensures.value
        ∙ sym (get_is_lookup c.self.inside.map.entries c.args.name.now)
        ∙ ap (λ m. finite.get m c.args.name.now) c.self.view_is;
  },
)
