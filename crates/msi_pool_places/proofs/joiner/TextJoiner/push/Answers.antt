use Rattle.std.proofs.Common.{ap, length, sym, ◌∙◌}
use Rattle.std.proofs.lemmas.List.{length-append}
use Rattle.msi_pool_places.specs.TextJoining.{places_read}
use Rattle.msi_pool_places.proofs.TextJoiningLemmas.{as_counted, left_within, text_is_put}
use Rattle.msi_pool_places.proofs.joiner.TextJoiner.push.Goals as goal

pub returns-clause-joining : goal.returns-clause-joining
returns-clause-joining c =
    let old = c.args.self.now in
    let text = c.args.text.now in
    let end_is = ap length (c.as_str-end.ensures ∙ c.in_ok-push_str.ensures.ok) ∙ length-append old.whole text in
    let put = text_is_put old.whole text old.ends old.counts.items old.read (length c.as_str-end.result.now) c.in_ok-push_str.ensures.utf8 c.utf8.text end_is
    c.requires.joining.front c.requires.joining.left (left_within old c.requires.joining c.requires.left) in
    record {
      front = rw (c.in_ok-push_str.ensures.ok, c.in_ok-set.ensures.ok) put.front;
      left = rw c.in_ok-set.ensures.ok put.left;
    }

pub returns-clause-read : goal.returns-clause-read
returns-clause-read c = λ entry next.
    let old = c.args.self.now in
    let text = c.args.text.now in
    let end_is = ap length (c.as_str-end.ensures ∙ c.in_ok-push_str.ensures.ok) ∙ length-append old.whole text in
    let put = text_is_put old.whole text old.ends old.counts.items old.read (length c.as_str-end.result.now) c.in_ok-push_str.ensures.utf8 c.utf8.text end_is
    c.requires.joining.front c.requires.joining.left (left_within old c.requires.joining c.requires.left) in
    rw (c.in_ok-push_str.ensures.ok, c.in_ok-set.ensures.ok) (put.places ∙ as_counted (places_read old) text _ entry (sym put.entry ∙ next))

pub returns-clause-left : goal.returns-clause-left
returns-clause-left c =
    let old = c.args.self.now in
    let text = c.args.text.now in
    let end_is = ap length (c.as_str-end.ensures ∙ c.in_ok-push_str.ensures.ok) ∙ length-append old.whole text in
    let put = text_is_put old.whole text old.ends old.counts.items old.read (length c.as_str-end.result.now) c.in_ok-push_str.ensures.utf8 c.utf8.text end_is
    c.requires.joining.front c.requires.joining.left (left_within old c.requires.joining c.requires.left) in
    rw c.in_ok-set.ensures.ok put.entries
