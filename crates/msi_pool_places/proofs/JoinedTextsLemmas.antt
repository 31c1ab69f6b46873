-- Texts that are joined grow, and what they are cut into stays; and what one count says of its place.
use Rattle.std.proofs.Common.{◌≡◌, ◌≢◌, ℕ, zero, suc, ◌+◌, ◌-◌, ◌≤◌, ◌<◌, ◌^◌, Bool, true, false, cond, ◌||◌, ◌&&◌, not, List, [], ◌∷◌, ◌++◌, length, get_or, set, take, drop, Some, refl, sym, ap, subst, ◌∙◌, arith}
use Rattle.std.proofs.lemmas.List.{drop-append-le, get_or_read, take-append-le, length-append, length-drop, length-set, take_all, drop_at}
use Rattle.std.proofs.lemmas.Str.{IsCharBoundary-from_drop, IsUtf8-drop, IsUtf8-append, IsCharBoundary-at_seam, IsCharBoundary-end}
use Rattle.std.specs.Str.{IsCharBoundary}
use Rattle.std.specs.Prelude.{IsUtf8, slice_get, ◌==◌}
use Rattle.msi_pool_places.specs.Pool.{CountsFit, Place, forgotten}
use Rattle.msi_pool_places.specs.Recounting.{with_count}
use Rattle.msi_pool_places.proofs.CountLemmas.{CountsFit-push}
use Rattle.msi_pool_places.specs.JoinedTexts.{AreCuts, IsAllCut, IsCut, IsJoined, IsPlaceAt, end_of, place_cut, places_cut, places_joined}
use Rattle.msi_pool_places.proofs.PlaceLoopLemmas.{got}
use Rattle.msi_pool_places.specs.declared.count.Count.{Count}
use Rattle.msi_pool_places.specs.declared.joined.JoinedTexts.{JoinedTexts}

boundary_stays : (whole more : List ℕ) (i : ℕ) → IsUtf8 whole → IsUtf8 more → IsCharBoundary whole i → IsCharBoundary (whole ++ more) i
boundary_stays whole more i u v b =
    IsCharBoundary-from_drop (whole ++ more) i (omega (arith, b.0, length-append whole more))
    (subst IsUtf8 (sym (drop-append-le i whole more b.0)) (IsUtf8-append (drop i whole) more (IsUtf8-drop whole i u b) v))

place_stays : (whole more : List ℕ) (start end : ℕ) (count : Count) → start ≤ end → end ≤ length whole → place_cut (whole ++ more) start end count ≡ place_cut whole start end count
place_stays whole more start end count le within =
    let e : drop start (whole ++ more) ≡ drop start whole ++ more = drop-append-le start whole more (omega (arith, le, within)) in
    let f : take (end - start) (drop start whole ++ more) ≡ take (end - start) (drop start whole) = take-append-le (end - start) (drop start whole) more (omega (arith, le, within, length-drop start whole)) in
    rw (e, f) refl

cuts_stay : (whole more : List ℕ) (start : ℕ) (ends : List ℕ) → IsUtf8 whole → IsUtf8 more → AreCuts whole start ends → AreCuts (whole ++ more) start ends
cuts_stay whole more start [] u v h = tt
cuts_stay whole more start (end ∷ ends) u v (h, rest) = (
  record { begins = boundary_stays whole more start u v h.begins; ends = boundary_stays whole more end u v h.ends; order = h.order },
  cuts_stay whole more end ends u v rest,
)

places_stay : (whole more : List ℕ) (start : ℕ) (ends : List ℕ) (counts : List Count) → AreCuts whole start ends → length ends ≡ length counts → places_cut (whole ++ more) start ends counts ≡ places_cut whole start ends counts
places_stay whole more start [] [] h many = refl
places_stay whole more start [] (c ∷ counts) h many = absurd (omega (arith, many))
places_stay whole more start (end ∷ ends) [] h many = refl
places_stay whole more start (end ∷ ends) (c ∷ counts) (h, rest) many = rw (place_stays whole more start end c h.order h.ends.0, places_stay whole more end ends counts rest (omega (arith, many))) refl

-- one more cut at the end
cuts_more : (whole : List ℕ) (start : ℕ) (ends : List ℕ) (end : ℕ) → AreCuts whole start ends → IsCut whole (end_of start ends) end → AreCuts whole start (ends ++ end ∷ [])
cuts_more whole start [] end h last = (last, tt)
cuts_more whole start (e ∷ ends) end h last = (h.0, cuts_more whole e ends end h.1 last)

end_more : (start : ℕ) (ends : List ℕ) (end : ℕ) → end_of start (ends ++ end ∷ []) ≡ end
end_more start [] end = refl
end_more start (e ∷ ends) end = end_more e ends end

places_more : (whole : List ℕ) (start : ℕ) (ends : List ℕ) (counts : List Count) (end : ℕ) (count : Count) → length ends ≡ length counts
    → places_cut whole start (ends ++ end ∷ []) (counts ++ count ∷ []) ≡ places_cut whole start ends counts ++ place_cut whole (end_of start ends) end count ∷ []
places_more whole start [] [] end count many = refl
places_more whole start [] (c ∷ counts) end count many = absurd (omega (arith, many))
places_more whole start (e ∷ ends) [] end count many = absurd (omega (arith, many))
places_more whole start (e ∷ ends) (c ∷ counts) end count many = ap (λ (ps : List Place). place_cut whole start e c ∷ ps) (places_more whole e ends counts end count (omega (arith, many)))

-- a text that is put behind the others is cut at its end
pub place_put : (whole more ends : List ℕ) (counts : List Count) (end : ℕ) (count : Count) → end ≡ length whole + length more → count.is_forgotten ≡ false → IsAllCut whole ends counts
    → places_cut (whole ++ more) 0 (ends ++ end ∷ []) (counts ++ count ∷ []) ≡ places_cut whole 0 ends counts ++ record { text = more; count = count.cells } ∷ []
place_put whole more ends counts end count end_is has_text h =
    let few : end - length whole ≡ length more = omega (arith, end_is) in
    let text : take (end - end_of 0 ends) (drop (end_of 0 ends) (whole ++ more)) ≡ more = rw (h.all, drop_at whole more (length whole) refl, few) (take_all (length more) more (omega arith)) in
    places_more (whole ++ more) 0 ends counts end count h.many ∙ rw (places_stay whole more 0 ends counts h.are h.many, has_text, text) refl

pub text_put : (whole more ends : List ℕ) (counts : List Count) (end : ℕ) (count : Count) → IsUtf8 whole → IsUtf8 more → end ≡ length whole + length more → count.is_forgotten ≡ false → count.cells < 2 ^ 16
    → IsAllCut whole ends counts → IsAllCut (whole ++ more) (ends ++ end ∷ []) (counts ++ count ∷ [])
text_put whole more ends counts end count u v end_is has_text few h =
    let all : end ≡ length (whole ++ more) = end_is ∙ sym (length-append whole more) in
    let last : IsCut (whole ++ more) (end_of 0 ends) end = record {
      begins = subst (λ (i : ℕ). IsCharBoundary (whole ++ more) i) (sym h.all) (IsCharBoundary-at_seam (whole ++ more) whole more refl v);
      ends = subst (λ (i : ℕ). IsCharBoundary (whole ++ more) i) (sym all) (IsCharBoundary-end (whole ++ more));
      order = omega (arith, h.all, end_is);
    } in
    record {
      are = cuts_more (whole ++ more) 0 ends end (cuts_stay whole more 0 ends u v h.are) last;
      all = end_more 0 ends end ∙ all;
      many = omega (arith, length-append ends (end ∷ []), length-append counts (count ∷ []), h.many);
      fit = subst CountsFit (sym (place_put whole more ends counts end count end_is has_text h)) (CountsFit-push (places_cut whole 0 ends counts) _ h.fit few);
    }

-- ---- one place among the others

pub length-cut : (whole : List ℕ) (start : ℕ) (ends : List ℕ) (counts : List Count) → length (places_cut whole start ends counts) ≡ length counts
length-cut whole start ends [] = refl
length-cut whole start [] (c ∷ counts) = ap suc (length-cut whole start [] counts)
length-cut whole start (e ∷ ends) (c ∷ counts) = ap suc (length-cut whole e ends counts)

-- a place, but for its count
abbrev pub place_of : List ℕ → List ℕ → ℕ → Count → Place
place_of whole ends i count = place_cut whole (end_of 0 (take i ends)) (get_or ends i 0) count

place_at : (whole : List ℕ) (start : ℕ) (ends : List ℕ) (counts : List Count) (i : ℕ) (count : Count) → i < length counts → length ends ≡ length counts → count ≡ get_or counts i count
    → slice_get (places_cut whole start ends counts) i ≡ Some (place_cut whole (end_of start (take i ends)) (get_or ends i 0) count)
place_at whole start ends [] i count lt many is = absurd (omega (arith, lt))
place_at whole start [] (c ∷ counts) i count lt many is = absurd (omega (arith, many))
place_at whole start (e ∷ ends) (c ∷ counts) zero count lt many is = ap (λ (x : Count). Some (place_cut whole start e x)) (sym is)
place_at whole start (e ∷ ends) (c ∷ counts) (suc i) count lt many is = place_at whole e ends counts i count (omega (arith, lt)) (omega (arith, many)) is

end_before : (start : ℕ) (ends : List ℕ) (i : ℕ) → i < length ends → end_of start (take (suc i) ends) ≡ get_or ends i 0
end_before start [] i lt = absurd (omega (arith, lt))
end_before start (e ∷ ends) zero lt = refl
end_before start (e ∷ ends) (suc i) lt = end_before e ends i (omega (arith, lt))

is_cut : (whole : List ℕ) (start : ℕ) (ends : List ℕ) (i : ℕ) → AreCuts whole start ends → i < length ends → IsCut whole (end_of start (take i ends)) (get_or ends i 0)
is_cut whole start [] i h lt = absurd (omega (arith, lt))
is_cut whole start (e ∷ ends) zero h lt = h.0
is_cut whole start (e ∷ ends) (suc i) h lt = is_cut whole e ends i h.1 (omega (arith, lt))

-- another count, which fits where the old one does
places_set : (whole : List ℕ) (start : ℕ) (ends : List ℕ) (counts : List Count) (i : ℕ) (new : Count) → i < length counts → length ends ≡ length counts
    → places_cut whole start ends (set counts i new) ≡ set (places_cut whole start ends counts) i (place_cut whole (end_of start (take i ends)) (get_or ends i 0) new)
places_set whole start ends [] i new lt many = absurd (omega (arith, lt))
places_set whole start [] (c ∷ counts) i new lt many = absurd (omega (arith, many))
places_set whole start (e ∷ ends) (c ∷ counts) zero new lt many = refl
places_set whole start (e ∷ ends) (c ∷ counts) (suc i) new lt many = ap (λ (ps : List Place). place_cut whole start e c ∷ ps) (places_set whole e ends counts i new (omega (arith, lt)) (omega (arith, many)))

fit_set : (whole : List ℕ) (start : ℕ) (ends : List ℕ) (counts : List Count) (i : ℕ) (old new : Count) → length ends ≡ length counts → old ≡ get_or counts i old → (old.cells < 2 ^ 16 → new.cells < 2 ^ 16)
    → CountsFit (places_cut whole start ends counts) → CountsFit (places_cut whole start ends (set counts i new))
fit_set whole start ends [] i old new many is few fit = tt
fit_set whole start [] (c ∷ counts) i old new many is few fit = absurd (omega (arith, many))
fit_set whole start (e ∷ ends) (c ∷ counts) zero old new many is few fit = (few (subst (λ (x : Count). x.cells < 2 ^ 16) (sym is) fit.0), fit.1)
fit_set whole start (e ∷ ends) (c ∷ counts) (suc i) old new many is few fit = (fit.0, fit_set whole e ends counts i old new (omega (arith, many)) is few fit.1)

-- what a count in place of another makes of the places
pub record IsPlaceSet (whole ends : List ℕ) (counts : List Count) (i : ℕ) (old new : Count) : Type 0 where
  pub joined : IsAllCut whole ends (set counts i new)
  pub was : place_of whole ends i old ≡ get_or (places_cut whole 0 ends counts) i (place_of whole ends i old)
  pub places : places_cut whole 0 ends (set counts i new) ≡ set (places_cut whole 0 ends counts) i (place_of whole ends i new)

pub place_set : (whole ends : List ℕ) (counts : List Count) (i : ℕ) (old new : Count) → i < length counts → old ≡ get_or counts i old → (old.cells < 2 ^ 16 → new.cells < 2 ^ 16) → IsAllCut whole ends counts
    → IsPlaceSet whole ends counts i old new
place_set whole ends counts i old new lt is few h = record {
  joined = record { are = h.are; all = h.all; many = h.many ∙ sym (length-set counts i new); fit = fit_set whole 0 ends counts i old new h.many is few h.fit };
  was = got (places_cut whole 0 ends counts) i (place_of whole ends i old) (place_at whole 0 ends counts i old lt h.many is);
  places = places_set whole 0 ends counts i new lt h.many;
}

-- a text that is forgotten for either of two reasons
either : (a b : Bool) (text : List ℕ) → cond (a || b) [] text ≡ cond a [] (cond b [] text)
either true b text = refl
either false b text = refl

pub cut_counted : (whole : List ℕ) (start end n : ℕ) (count : Count) → place_cut whole start end (record count { cells = n; is_forgotten = (n == 0) || count.is_forgotten }) ≡ with_count n (place_cut whole start end count)
cut_counted whole start end n count = ap (λ (text : List ℕ). record { text = text; count = n }) (either (n == 0) count.is_forgotten (take (end - start) (drop start whole)))

pub cut_forgotten : (whole : List ℕ) (start end : ℕ) (named : Bool) (count : Count)
    → place_cut whole start end (record count { is_forgotten = ((count.cells == 0) && not named) || count.is_forgotten }) ≡ forgotten named (place_cut whole start end count)
cut_forgotten whole start end named count =
    ap (λ (text : List ℕ). record { text = text; count = count.cells }) (either ((count.cells == 0) && not named) count.is_forgotten (take (end - start) (drop start whole)))

pub counted : (texts : JoinedTexts) (at : ℕ) → at < length (places_joined texts) → at < length texts.counts.items
counted texts at lt = omega (arith, lt, length-cut texts.whole 0 texts.ends texts.counts.items)

pub start_after : (texts : JoinedTexts) (at start : ℕ) → IsJoined texts → at ≢ 0 → at < length (places_joined texts) → start ≡ get_or texts.ends (at - 1) start → start ≡ end_of 0 (take at texts.ends)
start_after texts at start h later lt is =
    let next : suc (at - 1) ≡ at = omega (arith, later) in
    let inside : at - 1 < length texts.ends = omega (arith, later, counted texts at lt, h.many) in
    get_or_read texts.ends (at - 1) start inside is 0 ∙ sym (end_before 0 texts.ends (at - 1) inside) ∙ ap (λ n. end_of 0 (take n texts.ends)) next

-- the text of a place, which is empty where it was forgotten
pub text_there : (texts : JoinedTexts) (at start end : ℕ) (count : Count) → IsJoined texts → at < length (places_joined texts) → start ≡ end_of 0 (take at texts.ends)
    → end ≡ get_or texts.ends at end → count ≡ get_or texts.counts.items at count → count.is_forgotten ≡ false → IsPlaceAt texts at start end count.cells
text_there texts at start end count h lt start_is end_is is has_text =
    let whole = texts.whole in
    let inside : at < length texts.ends = omega (arith, counted texts at lt, h.many) in
    rw (start_is, get_or_read texts.ends at end inside end_is 0) (record {
      cut = is_cut whole 0 texts.ends at h.are inside;
      place = place_at whole 0 texts.ends texts.counts.items at count (counted texts at lt) h.many is ∙ rw has_text refl;
    })

pub none_there : (texts : JoinedTexts) (at start : ℕ) (count : Count) → IsJoined texts → at < length (places_joined texts) → start ≡ end_of 0 (take at texts.ends)
    → count ≡ get_or texts.counts.items at count → count.is_forgotten ≡ true → IsPlaceAt texts at start start count.cells
none_there texts at start count h lt start_is is lost =
    let whole = texts.whole in
    let none : start - start ≡ 0 = omega arith in
    let begins = subst (IsCharBoundary whole) (sym start_is) (is_cut whole 0 texts.ends at h.are (omega (arith, counted texts at lt, h.many))).begins in
    record {
      cut = record { begins = begins; ends = begins; order = omega arith };
      place = place_at whole 0 texts.ends texts.counts.items at count (counted texts at lt) h.many is ∙ rw (lost, none) refl;
    }
