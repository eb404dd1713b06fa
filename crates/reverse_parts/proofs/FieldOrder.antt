-- Fields in the opposite order: where each comes to lie, and what stays.
-- Assumes nothing.
use mathlib.Core.Path.{◌≡◌, refl, sym, ap, ap₂, ◌∙◌}
use mathlib.Core.List.{List, ◌++◌, append_assoc, append-nil}
use Prim.Native.Nat.{ℕ, zero, suc, ◌+◌, ◌-◌, ◌*◌, ◌≤◌, ◌<◌}
use native.Mathlib.Nat.{mul-zero, mul-suc, mul-le-mul_left, not-suc-le-zero, le_of_suc-le-suc}
use native.Mathlib.Omega.{arith}
use lib.ListN.{length, take, drop, length-append, length-drop}
use lib.Seq.{take_at, drop_at, take-append-le, drop-append-le, drop-drop, length-take-le, take-take}
use borrow.Author.Tests.{le-leb}
use Rattle.fields.specs.Layout.{hop_offset}
use Rattle.reverse_parts.specs.Parts.{last_first, reverse_fields, reverse_parts}
use Rattle.reverse_parts.specs.Inner.{reverse_parts_there}

module _ (size : ℕ) where
  pub last_first_first : (n : ℕ) (l : List ℕ) → last_first size (suc n) l ≡ last_first size n (drop size l) ++ take size l
  unfolding last_first
  last_first_first n l = refl

  pub last_first_last : (n : ℕ) (l : List ℕ) → last_first size (suc n) l ≡ take size (drop (size * n) l) ++ last_first size n l
  unfolding last_first
  last_first_last zero l = rw (mul-zero, append-nil)
  last_first_last (suc n) l =
      let far : size * suc n ≡ size + size * n = omega (arith, mul-suc size n) in
      ap (λ (t : List ℕ). t ++ take size l) (last_first_last n (drop size l)) ∙ rw (append_assoc, drop-drop (size * n) size l, far)

  -- only the fields' own bytes count
  pub last_first_front : (n : ℕ) (m z : List ℕ) → length m ≡ size * n → last_first size n (m ++ z) ≡ last_first size n m
  unfolding last_first
  last_first_front zero m z e = refl
  last_first_front (suc n) m z e =
      let h : size ≤ length m = omega (arith, mul-suc size n) in
      let left : length (drop size m) ≡ size * n = rw (length-drop size m) (omega (arith, mul-suc size n)) in
      rw (drop-append-le size m z h, take-append-le size m z h, last_first_front n (drop size m) z left)

  length_last_first : (n : ℕ) (l : List ℕ) → size * n ≤ length l → length (last_first size n l) ≡ size * n
  unfolding last_first
  length_last_first zero l h = sym (mul-zero size)
  length_last_first (suc n) l h =
      let b : size * n + size ≤ length l = omega (arith, mul-suc size n) in
      let left : size * n ≤ length (drop size l) = rw (length-drop size l) (omega arith) in
      rw (length-append, length_last_first n (drop size l) left, length-take-le size l (omega arith), mul-suc)

  last_field_length : (n : ℕ) (l : List ℕ) → size * suc n ≤ length l → length (take size (drop (size * n) l)) ≡ size
  last_field_length n l h = length-take-le size (drop (size * n) l) (rw (length-drop (size * n) l) (omega (arith, mul-suc size n)))

  last_first_field : (n i : ℕ) (l : List ℕ) → i < n → size * n ≤ length l
      → take size (drop (size * i) (last_first size n l)) ≡ take size (drop (size * (n - 1 - i)) l)
  last_first_field zero i l h b = absurd (not-suc-le-zero h)
  last_first_field (suc n) zero l h b =
      let e : suc n - 1 - 0 ≡ n = omega arith in
      rw (e, last_first_last n l, mul-zero) (take_at (take size (drop (size * n) l)) (last_first size n l) size (last_field_length n l b))
  last_first_field (suc n) (suc i) l h b =
      let e : suc n - 1 - suc i ≡ n - 1 - i = omega arith in
      let far : size * suc i ≡ size + size * i = omega (arith, mul-suc size i) in
      let last = take size (drop (size * n) l) in
      let skip : drop (size + size * i) (last ++ last_first size n l) ≡ drop (size * i) (last_first size n l) =
      rw (← drop-drop (size * i) size, drop_at last (last_first size n l) size (last_field_length n l b)) in
      rw (e, last_first_last n l, far, skip) (last_first_field n i l (le_of_suc-le-suc h) (omega (arith, mul-suc size n)))

  -- n fields from a place on
  module _ (at n : ℕ) (path : List ℕ) (fits : at + size * n ≤ length path) where
    front : length (take at path) ≡ at
    front = length-take-le at path (omega arith)

    inside : size * n ≤ length (drop at path)
    inside = rw (length-drop at path) (omega arith)

    middle : length (last_first size n (drop at path)) ≡ size * n
    middle = length_last_first n (drop at path) inside

    pub length_reverse_fields : length (reverse_fields at size n path) ≡ length path
    unfolding reverse_fields
    length_reverse_fields = rw (length-append, length-append, front, middle, length-drop) (omega arith)

    -- the bytes before them and behind them stay
    pub before_fields : (k : ℕ) → k ≤ at → take k (reverse_fields at size n path) ≡ take k path
    unfolding reverse_fields
    before_fields k h =
        let b : k ≤ length (take at path) = omega (arith, front) in
        rw (take-append-le k (take at path) _ b) (take-take k at path h)

    behind : drop (at + size * n) (reverse_fields at size n path) ≡ drop (at + size * n) path
    unfolding reverse_fields
    behind =
        let order = last_first size n (drop at path) in
        let size_of : length (take at path ++ order) ≡ at + size * n = length-append (take at path) order ∙ ap₂ ◌+◌ front middle in
        rw (← append_assoc (take at path) order) (drop_at (take at path ++ order) (drop (at + size * n) path) (at + size * n) size_of)

    pub behind_fields : (k : ℕ) → at + size * n ≤ k → drop k (reverse_fields at size n path) ≡ drop k path
    behind_fields k h =
        let end = at + size * n in
        let more = k - end in
        let e : end + more ≡ k = omega arith in
        rw e at (sym (drop-drop more end (reverse_fields at size n path)) ∙ ap (drop more) behind ∙ drop-drop more end path)

    -- field i is the old one with as many fields behind it as field i has before it
    pub reversed_field : (i : ℕ) → i < n
        → take size (drop (at + size * i) (reverse_fields at size n path)) ≡ take size (drop (at + size * (n - 1 - i)) path)
    unfolding reverse_fields
    reversed_field i h =
        let order = last_first size n (drop at path) in
        let far : size * i + size ≤ size * n = omega (arith, mul-suc size i, mul-le-mul_left size h) in
        let b : size * i ≤ length order = omega (arith, middle) in
        let d : size ≤ length (drop (size * i) order) = rw (length-drop (size * i) order, middle) (omega arith) in
        let rest = drop (at + size * n) path in
        let skip : drop (at + size * i) (take at path ++ (order ++ rest)) ≡ drop (size * i) order ++ rest =
        rw (← drop-drop (size * i) at, drop_at (take at path) (order ++ rest) at front) (drop-append-le (size * i) order rest b) in
        rw (skip, take-append-le size (drop (size * i) order) rest d, ← drop-drop (size * (n - 1 - i)) at path)
        (last_first_field n i (drop at path) h inside)

-- ---- all fields, where they are there

pub parts_there : (n m : ℕ) (path : List ℕ) → hop_offset n m ≤ length path → reverse_parts_there n m path ≡ reverse_parts n m path
unfolding reverse_parts_there
parts_there n m path h = simp (le-leb _ _ h)
