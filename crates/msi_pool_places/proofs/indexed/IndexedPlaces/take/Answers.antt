use Rattle.std.proofs.Common.{ap, ◌∙◌, string_bytes}
use Rattle.msi_pool_places.proofs.IndexedFitLemmas.{fit_some, fit_none, taken_found, found_room, taken_last, last_room}
use Rattle.msi_pool_places.proofs.indexed.IndexedPlaces.take.Goals as goal

pub returns-in-None-clause-ok : goal.returns-in-None-clause-ok
returns-in-None-clause-ok c =
    let old = c.args.self.now in
    let text = string_bytes c.args.text in
    let start = ap (λ e. e.text) c.new-start.ensures ∙ c.from_string.ensures in
    let fit = fit_none text c.new-start.result.text old.places old.free old.texts c.least-free.result c.least-held.result c.lesser.result c.requires.indexed.are_free c.requires.indexed.are_open start c.least-free.ensures.least c.least-held.ensures.least c.lesser.ensures c.in-None.is in
    taken_last c.args.long old.places c.append.new.self.places text c.into_text-text.result c.append.result fit (c.into_text-text.ensures ∙ start) c.append.ensures.room c.append.ensures.at c.append.ensures.ok

pub returns-in-None-clause-kind : goal.returns-in-None-clause-kind
returns-in-None-clause-kind c =
    let old = c.args.self.now in
    let text = string_bytes c.args.text in
    let start = ap (λ e. e.text) c.new-start.ensures ∙ c.from_string.ensures in
    let fit = fit_none text c.new-start.result.text old.places old.free old.texts c.least-free.result c.least-held.result c.lesser.result c.requires.indexed.are_free c.requires.indexed.are_open start c.least-free.ensures.least c.least-held.ensures.least c.lesser.ensures c.in-None.is in
    last_room c.args.long old.places text c.append.result fit c.append.ensures.kind

pub returns-then-eq-clause-ok : goal.returns-then-eq-clause-ok
returns-then-eq-clause-ok c =
    let old = c.args.self.now in
    let text = string_bytes c.args.text in
    let start = ap (λ e. e.text) c.new-start.ensures ∙ c.from_string.ensures in
    let fit = fit_some text c.new-start.result.text old.places old.free old.texts c.least-free.result c.least-held.result c.lesser.result c.in-Some.at c.requires.indexed.are_free c.requires.indexed.are_open start c.least-free.ensures.least c.least-held.ensures.least c.lesser.ensures c.in-Some.is in
    taken_found c.args.long old.places c.raise.new.self.places text c.into_text-text.result c.in-Some.at c.raise.result fit (c.into_text-text.ensures ∙ start) c.raise.ensures.at c.raise.ensures.ok

pub returns-then-eq-clause-kind : goal.returns-then-eq-clause-kind
returns-then-eq-clause-kind c =
    let old = c.args.self.now in
    let text = string_bytes c.args.text in
    let start = ap (λ e. e.text) c.new-start.ensures ∙ c.from_string.ensures in
    let fit = fit_some text c.new-start.result.text old.places old.free old.texts c.least-free.result c.least-held.result c.lesser.result c.in-Some.at c.requires.indexed.are_free c.requires.indexed.are_open start c.least-free.ensures.least c.least-held.ensures.least c.lesser.ensures c.in-Some.is in
    found_room c.args.long old.places text c.in-Some.at c.raise.result fit c.raise.ensures.kind

pub returns-else-eq-clause-ok : goal.returns-else-eq-clause-ok
returns-else-eq-clause-ok c =
    let old = c.args.self.now in
    let text = string_bytes c.args.text in
    let start = ap (λ e. e.text) c.new-start.ensures ∙ c.from_string.ensures in
    let fit = fit_some text c.new-start.result.text old.places old.free old.texts c.least-free.result c.least-held.result c.lesser.result c.in-Some.at c.requires.indexed.are_free c.requires.indexed.are_open start c.least-free.ensures.least c.least-held.ensures.least c.lesser.ensures c.in-Some.is in
    taken_found c.args.long old.places c.fill.new.self.places text c.into_text-text.result c.in-Some.at c.fill.result fit (c.into_text-text.ensures ∙ start) c.fill.ensures.at c.fill.ensures.ok

pub returns-else-eq-clause-kind : goal.returns-else-eq-clause-kind
returns-else-eq-clause-kind c =
    let old = c.args.self.now in
    let text = string_bytes c.args.text in
    let start = ap (λ e. e.text) c.new-start.ensures ∙ c.from_string.ensures in
    let fit = fit_some text c.new-start.result.text old.places old.free old.texts c.least-free.result c.least-held.result c.lesser.result c.in-Some.at c.requires.indexed.are_free c.requires.indexed.are_open start c.least-free.ensures.least c.least-held.ensures.least c.lesser.ensures c.in-Some.is in
    found_room c.args.long old.places text c.in-Some.at c.fill.result fit c.fill.ensures.kind
