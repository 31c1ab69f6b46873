-- Pieces that are written one behind another over zeros.
use Rattle.std.proofs.Common.{◌≡◌, ℕ, ◌+◌, ◌-◌, ◌*◌, ◌<◌, ◌≤◌, List, [], ◌∷◌, ◌++◌, length, get_or, take, drop, replicate, sym, ◌∙◌, ap, arith, refl}
use Rattle.std.specs.List.{flat_map}
use Rattle.std.specs.Int.{to_le_bytes, w16, w32, w64}
use Rattle.std.proofs.lemmas.List.{append-nil, append_assoc, length-append, length-take-le, take_at, take_more, take_all, drop_at, drop-drop, drop-replicate, flat_map_more}
use Rattle.msi_container_format.specs.Bytes.{bytes_at}
use Rattle.msi_container_write.specs.Layout.{Entry, name_field, entry_bytes}
use Rattle.msi_container_write.proofs.directories.EntriesLemmas.{length-units}
use Rattle.msi_container_write.proofs.sectors.UnitLemmas.{filled_up}

-- a piece over the bytes from a position on
abbrev pub Puts : ℕ → List ℕ → List ℕ → List ℕ → Type 0
Puts at piece old now = now ≡ take at old ++ piece ++ drop (at + length piece) old

-- what stands first stays, and less zeros are left
pub put_behind : (front piece old now : List ℕ) (at count rest : ℕ)
    → length front ≡ at
    → length piece + rest ≡ count
    → old ≡ front ++ replicate count 0
    → Puts at piece old now
    → now ≡ front ++ piece ++ replicate rest 0
put_behind front piece old now at count rest long room was put =
    let n = length piece in
    let zeros : List ℕ = replicate count 0 in
    let before : take at old ≡ front = ap (take at) was ∙ take_at front zeros at long in
    let left : count - n ≡ rest = omega arith in
    let behind : drop (at + n) old ≡ replicate rest 0 =
    sym (drop-drop n at old) ∙ ap (λ bs. drop n (drop at bs)) was ∙ ap (drop n) (drop_at front zeros at long) ∙ drop-replicate n count 0 ∙ ap (λ m. replicate m 0) left in
    put ∙ ap (λ bs. bs ++ piece ++ drop (at + n) old) before ∙ ap (λ bs. front ++ piece ++ bs) behind

-- one unit more of a name
pub unit_put : (name unit old now : List ℕ) (i n at : ℕ)
    → i < length name
    → 2 * length name ≤ n
    → at ≡ 2 * i
    → unit ≡ to_le_bytes w16 (get_or name i 0)
    → old ≡ flat_map (to_le_bytes w16) (take i name) ++ replicate (n - 2 * i) 0
    → Puts at unit old now
    → now ≡ flat_map (to_le_bytes w16) (take (i + 1) name) ++ replicate (n - 2 * (i + 1)) 0
unit_put name unit old now i n at l room at_is unit_is was put =
    let before = flat_map (to_le_bytes w16) (take i name) in
    let long : length before ≡ at = length-units (take i name) ∙ omega (arith, length-take-le i name) in
    let two : length unit ≡ 2 = ap length unit_is in
    let rest = n - 2 * (i + 1) in
    put_behind before unit old now at (n - 2 * i) rest long (omega arith) was put
    ∙ ap (λ bs. bs ++ replicate rest 0)
    (ap (λ u. before ++ u) unit_is
    ∙ flat_map_more (to_le_bytes w16) [] (take i name) (get_or name i 0)
    ∙ ap (flat_map (to_le_bytes w16)) (sym (take_more name i 0 l)))

-- all units of a name
pub name_put : (name field : List ℕ) (i : ℕ)
    → length name ≤ i
    → i ≤ length name
    → length name ≤ 31
    → field ≡ flat_map (to_le_bytes w16) (take i name) ++ replicate (64 - 2 * i) 0
    → field ≡ bytes_at (flat_map (to_le_bytes w16) name) 0 64
name_put name field i past within few was =
    let units = flat_map (to_le_bytes w16) name in
    let long : length units ≡ 2 * i = length-units name ∙ omega arith in
    was
    ∙ ap (λ us. flat_map (to_le_bytes w16) us ++ replicate (64 - 2 * i) 0) (take_all i name past)
    ∙ ap (λ bs. bs ++ replicate (64 - 2 * i) 0) (sym (take_all (2 * i) units (omega arith)))
    ∙ filled_up 64 (2 * i) units (omega arith)

-- the nine fields of an entry, with 20 zeros before the last two
pub fields_put : (f w k l r c i s z b0 b1 b2 b3 b4 b5 b6 b7 b8 b9 : List ℕ)
    → length f ≡ 64 → length w ≡ 2 → length k ≡ 2 → length l ≡ 4 → length r ≡ 4 → length c ≡ 4 → length i ≡ 16 → length s ≡ 4 → length z ≡ 8
    → b0 ≡ replicate 128 0
    → Puts 0 f b0 b1
    → Puts 64 w b1 b2
    → Puts 66 k b2 b3
    → Puts 68 l b3 b4
    → Puts 72 r b4 b5
    → Puts 76 c b5 b6
    → Puts 80 i b6 b7
    → Puts 116 s b7 b8
    → Puts 120 z b8 b9
    → b9 ≡ f ++ w ++ k ++ (l ++ (r ++ (c ++ []))) ++ i ++ replicate 20 0 ++ s ++ z
fields_put f w k l r c i s z b0 b1 b2 b3 b4 b5 b6 b7 b8 b9 nf nw nk nl nr nc ni ns nz p0 p1 p2 p3 p4 p5 p6 p7 p8 p9 =
    let f2 = f ++ w in
    let f3 = f2 ++ k in
    let f4 = f3 ++ l in
    let f5 = f4 ++ r in
    let f6 = f5 ++ c in
    let f7 = f6 ++ i in
    let gap : List ℕ = replicate 20 0 in
    let f8 = f7 ++ gap ++ s in
    let n2 : length f2 ≡ 66 = omega (arith, length-append f w) in
    let n3 : length f3 ≡ 68 = omega (arith, length-append f2 k) in
    let n4 : length f4 ≡ 72 = omega (arith, length-append f3 l) in
    let n5 : length f5 ≡ 76 = omega (arith, length-append f4 r) in
    let n6 : length f6 ≡ 80 = omega (arith, length-append f5 c) in
    let n7 : length f7 ≡ 96 = omega (arith, length-append f6 i) in
    let n7_gap : length (f7 ++ gap) ≡ 116 = omega (arith, length-append f7 gap) in
    let n8 : length f8 ≡ 120 = omega (arith, length-append (f7 ++ gap) s) in
    let q1 : b1 ≡ f ++ replicate 64 0 = put_behind [] f b0 b1 0 128 64 refl (omega arith) p0 p1 in
    let q2 : b2 ≡ f2 ++ replicate 62 0 = put_behind f w b1 b2 64 64 62 nf (omega arith) q1 p2 in
    let q3 : b3 ≡ f3 ++ replicate 60 0 = put_behind f2 k b2 b3 66 62 60 n2 (omega arith) q2 p3 in
    let q4 : b4 ≡ f4 ++ replicate 56 0 = put_behind f3 l b3 b4 68 60 56 n3 (omega arith) q3 p4 in
    let q5 : b5 ≡ f5 ++ replicate 52 0 = put_behind f4 r b4 b5 72 56 52 n4 (omega arith) q4 p5 in
    let q6 : b6 ≡ f6 ++ replicate 48 0 = put_behind f5 c b5 b6 76 52 48 n5 (omega arith) q5 p6 in
    let q7 : b7 ≡ f7 ++ replicate 32 0 = put_behind f6 i b6 b7 80 48 32 n6 (omega arith) q6 p7 in
    let q7_gap : b7 ≡ f7 ++ gap ++ replicate 12 0 = q7 ∙ sym (append_assoc f7 gap (replicate 12 0)) in
    let q8 : b8 ≡ f8 ++ replicate 8 0 = put_behind (f7 ++ gap) s b7 b8 116 12 8 n7_gap (omega arith) q7_gap p8 in
    let q9 : b9 ≡ f8 ++ z ++ replicate 0 0 = put_behind f8 z b8 b9 120 8 0 n8 (omega arith) q8 p9 in
    let links : f6 ≡ f3 ++ (l ++ (r ++ (c ++ []))) = simp (append_assoc, append-nil) in
    q9 ∙ append-nil (f8 ++ z) ∙ ap (λ bs. bs ++ i ++ gap ++ s ++ z) links

-- they are the entry's bytes
pub entry_put : (e : Entry) (f w k l r c i s z b0 b1 b2 b3 b4 b5 b6 b7 b8 b9 : List ℕ)
    → length e.clsid ≡ 16
    → f ≡ name_field e.name
    → w ≡ to_le_bytes w16 (2 * (length e.name + 1))
    → k ≡ e.kind ∷ 1 ∷ []
    → l ≡ to_le_bytes w32 e.left
    → r ≡ to_le_bytes w32 e.right
    → c ≡ to_le_bytes w32 e.child
    → i ≡ e.clsid
    → s ≡ to_le_bytes w32 e.start
    → z ≡ to_le_bytes w64 e.size
    → b0 ≡ replicate 128 0
    → Puts 0 f b0 b1
    → Puts 64 w b1 b2
    → Puts 66 k b2 b3
    → Puts 68 l b3 b4
    → Puts 72 r b4 b5
    → Puts 76 c b5 b6
    → Puts 80 i b6 b7
    → Puts 116 s b7 b8
    → Puts 120 z b8 b9
    → b9 ≡ entry_bytes e
entry_put e f w k l r c i s z b0 b1 b2 b3 b4 b5 b6 b7 b8 b9 long f_is w_is k_is l_is r_is c_is i_is s_is z_is p0 p1 p2 p3 p4 p5 p6 p7 p8 p9 =
    fields_put f w k l r c i s z b0 b1 b2 b3 b4 b5 b6 b7 b8 b9
    (ap length f_is) (ap length w_is) (ap length k_is) (ap length l_is) (ap length r_is) (ap length c_is) (ap length i_is ∙ long) (ap length s_is) (ap length z_is)
    p0 p1 p2 p3 p4 p5 p6 p7 p8 p9
    ∙ (λ j. f_is j ++ w_is j ++ k_is j ++ (l_is j ++ (r_is j ++ (c_is j ++ []))) ++ i_is j ++ replicate 20 0 ++ s_is j ++ z_is j)
