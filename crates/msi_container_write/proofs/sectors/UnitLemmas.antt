-- A unit that is filled with bytes, and with zeros behind them.
use Rattle.std.proofs.Common.{◌≡◌, ℕ, ◌+◌, ◌-◌, min, List, [], ◌++◌, length, get_or, take, drop, replicate, inl, inr, sym, ◌∙◌, ap, arith}
use borrow.Rule.Slice.PartMut.{put_mid}
use Rattle.std.proofs.lemmas.Bool.{cases_lt}
use Rattle.std.proofs.lemmas.List.{append-nil, length-append, length-replicate, length-take-le, length-drop, get_or_append_left, get_or-append_right, get_or-replicate, get_or-take, get_or_past, take_at, drop_all, drop-drop}
use Rattle.std.proofs.lemmas.List.FromFn.{fill_by_all}
use Rattle.msi_container_format.specs.Bytes.{bytes_at}

-- bytes cut or filled up
pub filled_up : (n c : ℕ) (bytes : List ℕ) → c ≡ min n (length bytes) → take c bytes ++ replicate (n - c) 0 ≡ bytes_at bytes 0 n
filled_up n c bytes least =
    let front : List ℕ = take c bytes in
    let zeros : List ℕ = replicate (n - c) 0 in
    let long : length front ≡ c = length-take-le c bytes (omega arith) in
    let rest : length zeros ≡ n - c = length-replicate (n - c) 0 in
    fill_by_all (λ i. get_or bytes (0 + i) 0) (front ++ zeros) n 0 (omega (arith, length-append front zeros)) (λ i l.
    let same : i ≡ 0 + i = omega arith in
    elim (cases_lt i c) [
      | inl b ↦ get_or_append_left front zeros 0 i (omega arith) ∙ get_or-take c bytes i 0 b ∙ ap (λ j. get_or bytes j 0) same
      | inr b ↦
          get_or-append_right front zeros c i 0 long b
          ∙ get_or-replicate (n - c) (i - c) 0 0 (omega arith)
          ∙ sym (get_or_past bytes (0 + i) 0 (omega arith))
    ])

-- the unit after both writes
pub unit_written : (unit bytes front zeros now : List ℕ) (c m : ℕ)
    → c ≡ min (length unit) (length bytes)
    → front ≡ take c bytes
    → now ≡ front ++ drop c unit
    → m ≡ length now - c
    → zeros ≡ replicate (length (take m (drop c now))) 0
    → put_mid c m now zeros ≡ bytes_at bytes 0 (length unit)
unit_written unit bytes front zeros now c m least front_is now_is m_is zeros_is =
    let n = length unit in
    let long : length front ≡ c = ap length front_is ∙ length-take-le c bytes (omega arith) in
    let whole : length now ≡ n = omega (arith, ap length now_is, length-append front (drop c unit), length-drop c unit) in
    let few : m ≡ n - c = omega arith in
    let cut : take c now ≡ take c bytes = ap (take c) now_is ∙ take_at front (drop c unit) c long ∙ front_is in
    let none : drop m (drop c now) ≡ [] = drop-drop m c now ∙ drop_all (c + m) now (omega arith) in
    let size : length (take m (drop c now)) ≡ n - c = length-take-le m (drop c now) (omega (arith, length-drop c now)) ∙ few in
    let zeros_as : zeros ≡ replicate (n - c) 0 = zeros_is ∙ ap (λ k. replicate k 0) size in
    rw (cut, none, append-nil zeros, zeros_as) (filled_up n c bytes least)
