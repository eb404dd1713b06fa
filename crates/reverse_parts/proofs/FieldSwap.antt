-- Fields brought into the opposite order as the code does it: two fields exchanged, from both ends to the middle.
-- Assumes nothing.
use mathlib.Core.Path.{◌≡◌, refl, sym, ap, ap₂, ◌∙◌}
use mathlib.Core.List.{List, [], ◌∷◌, ◌++◌, append_assoc}
use Prim.Native.Nat.{ℕ, zero, suc, ◌+◌, ◌-◌, ◌*◌, ◌/◌, ◌≤◌, ◌<◌}
use native.Mathlib.Nat.{mul-add, mul-zero, mul-one, mul-suc, add-zero}
use native.Mathlib.Numerals.{add-one}
use native.Mathlib.Omega.{arith}
use lib.ListN.{length, get_or, set, take, drop, length-append, length-drop, take-append-drop}
use lib.Seq.{take_at, drop_at, get_or_at, set_at, take_all, drop-drop, length-take-le}
use Rattle.reverse_parts.specs.Parts.{last_first, reverse_fields}
use Rattle.reverse_parts.specs.Inner.{swap_fields}
use Rattle.reverse_parts.proofs.FieldOrder.{last_first_first, last_first_last, last_first_front}

-- ---- two fields exchanged

-- one byte more
pub swap_more : (size low high i : ℕ) (path : List ℕ) → i < size
    → swap_fields (size - (i + 1)) (low + (i + 1)) (high + (i + 1))
    (set (set path (low + i) (get_or path (high + i) 0)) (high + i) (get_or path (low + i) 0))
    ≡ swap_fields (size - i) (low + i) (high + i) path
unfolding swap_fields
swap_more size low high i path h =
    let left : size - i ≡ suc (size - (i + 1)) = omega arith in
    let p : low + (i + 1) ≡ suc (low + i) = omega arith in
    let q : high + (i + 1) ≡ suc (high + i) = omega arith in
    rw (left, p, q)

-- the first bytes of two fields
swap_heads : (a m z : List ℕ) (b d : ℕ) {low high : ℕ} → length a ≡ low → length a + suc (length m) ≡ high
    → (let path = a ++ (b ∷ (m ++ (d ∷ z))) in set (set path low (get_or path high 0)) high (get_or path low 0)) ≡ a ++ (d ∷ (m ++ (b ∷ z)))
swap_heads a m z b d {low} {high} p q =
    let far : (u : ℕ) → length (a ++ (u ∷ m)) ≡ high = λ u. length-append a (u ∷ m) ∙ q in
    let last : get_or (a ++ (b ∷ (m ++ (d ∷ z)))) high 0 ≡ d =
    rw (← append_assoc a (b ∷ m) (d ∷ z)) (get_or_at (a ++ (b ∷ m)) d z 0 high (far b)) in
    rw (last, get_or_at a b (m ++ (d ∷ z)) 0 low p, set_at a b (m ++ (d ∷ z)) d low p)
    (rw (← append_assoc a (d ∷ m) (d ∷ z), set_at (a ++ (d ∷ m)) d z b high (far d), append_assoc))

swap_apart : (a x m y z : List ℕ) {low high : ℕ} → length a ≡ low → length a + (length x + length m) ≡ high → length x ≡ length y
    → swap_fields (length x) low high (a ++ (x ++ (m ++ (y ++ z)))) ≡ a ++ (y ++ (m ++ (x ++ z)))
unfolding swap_fields
swap_apart a [] m [] z p q e = refl
swap_apart a [] m (d ∷ y) z p q e = absurd (omega arith)
swap_apart a (b ∷ x) m [] z p q e = absurd (omega arith)
swap_apart a (b ∷ x) m (d ∷ y) z {low} {high} p q e =
    let heads = swap_heads a (x ++ m) (y ++ z) b d {high = high} p (rw (length-append x m) (omega arith)) in
    let rest =
    swap_apart (a ++ (d ∷ [])) x (m ++ (b ∷ [])) y z {low = suc low} {high = suc high} (rw (length-append a (d ∷ [])) (omega arith))
    (simp length-append (omega arith))
    (omega arith) in
    ap (swap_fields (length x) (suc low) (suc high)) (simp append_assoc at heads) ∙ simp append_assoc at rest

-- as the code exchanges them, where both are there and lie apart: the parts of the path put together again
pub swap_by_parts : (size low high : ℕ) (path : List ℕ) → low + size ≤ high → high + size ≤ length path
    → (let front = take high path in
    let back = drop high path in
    (take low front ++ (take size back ++ drop size (drop low front))) ++ (take size (drop low front) ++ drop size back))
    ≡ swap_fields size low high path
swap_by_parts size low high path apart within =
    let front = take high path in
    let back = drop high path in
    let a = take low front in
    let x = take size (drop low front) in
    let m = drop size (drop low front) in
    let y = take size back in
    let z = drop size back in
    let whole : a ++ (x ++ (m ++ (y ++ z))) ≡ path =
    sym (append_assoc a x _) ∙ sym (append_assoc (a ++ x) m _)
    ∙ ap₂ ◌++◌ (append_assoc a x m ∙ ap (λ (l : List ℕ). a ++ l) (take-append-drop size (drop low front)) ∙ take-append-drop low front) (take-append-drop size back)
    ∙ take-append-drop high path in
    let front_size : length front ≡ high = length-take-le high path (omega arith) in
    let a_size : length a ≡ low = length-take-le low front (omega arith) in
    let low_left : length (drop low front) ≡ high - low = length-drop low front ∙ omega arith in
    let x_size : length x ≡ size = length-take-le size (drop low front) (omega arith) in
    let m_size : length m ≡ high - low - size = length-drop size (drop low front) ∙ omega arith in
    let y_size : length y ≡ size = length-take-le size back (rw (length-drop high path) (omega arith)) in
    let swapped = swap_apart a x m y z {high = high} a_size (omega arith) (omega arith) in
    append_assoc a (y ++ m) (x ++ z) ∙ ap (λ (l : List ℕ). a ++ l) (append_assoc y m (x ++ z))
    ∙ sym swapped ∙ ap₂ (λ (s : ℕ) (l : List ℕ). swap_fields s low high l) x_size whole

-- ---- n fields

module _ (size : ℕ) where
  last_first_ends : (n : ℕ) (x m y : List ℕ) → length x ≡ size → length m ≡ size * n → length y ≡ size
      → last_first size (suc (suc n)) (x ++ (m ++ y)) ≡ y ++ (last_first size n m ++ x)
  last_first_ends n x m y p q r =
      let h : length y ≤ size = omega arith in
      rw (last_first_first size (suc n), drop_at x (m ++ y) size p, take_at x (m ++ y) size p, last_first_last size n (m ++ y))
      (rw (drop_at m y (size * n) q, take_all size y h, last_first_front size n m y q, append_assoc))

  reverse_at : (n : ℕ) (a m z : List ℕ) {at : ℕ} → length a ≡ at → length m ≡ size * n
      → reverse_fields at size n (a ++ (m ++ z)) ≡ a ++ (last_first size n m ++ z)
  unfolding reverse_fields
  reverse_at n a m z {at} p q =
      let end : drop (at + size * n) (a ++ (m ++ z)) ≡ z =
      rw (← append_assoc a m z) (drop_at (a ++ m) z (at + size * n) (length-append a m ∙ ap₂ ◌+◌ p q)) in
      rw (end, take_at a (m ++ z) at p, drop_at a (m ++ z) at p, last_first_front size n m z q)

  -- field i and the one that is as far from the end
  pub opposite_field : (at count i : ℕ) → i < count / 2
      → at + size * (count - 1 - i) + size ≡ at + size * i + size * (count - 2 * i)
  opposite_field at count i h = go (count - 2 * i - 1) (omega arith) (omega arith)
    where
      go : (m : ℕ) → count - 1 - i ≡ i + m → count - 2 * i ≡ suc m
          → at + size * (count - 1 - i) + size ≡ at + size * i + size * (count - 2 * i)
      go m e f = rw (e, f) (omega (arith, mul-add size i m, mul-suc size m))

  pub fields_within : (at count i : ℕ) → i < count / 2 → at + size * i + size * (count - 2 * i) ≤ at + size * count
  fields_within at count i h =
      let m = count - 2 * i in
      let e : i + m + i ≡ count = omega arith in
      omega (arith, mul-add size i m, mul-add size (i + m) i, ap (λ (n : ℕ). size * n) e)

  -- the next one
  pub next_field : (at i : ℕ) → at + size * (i + 1) ≡ at + size * i + size
  next_field at i = rw add-one (omega (arith, mul-suc size i))

  -- at most one field
  pub reverse_few : (at n : ℕ) (path : List ℕ) → n ≤ 1 → reverse_fields at size n path ≡ path
  unfolding reverse_fields last_first
  reverse_few at zero path h = rw (mul-zero, add-zero) (take-append-drop at path)
  reverse_few at (suc zero) path h =
      rw (mul-one, ← drop-drop size at path, take-append-drop size (drop at path)) (take-append-drop at path)
  reverse_few at (suc (suc n)) path h = absurd (omega arith)

  -- the outermost two exchanged, the others are left
  reverse_split : (n : ℕ) (a x m y z : List ℕ) {low : ℕ} → length a ≡ low → length x ≡ size → length m ≡ size * n → length y ≡ size
      → (let path = a ++ (x ++ (m ++ (y ++ z))) in
      reverse_fields (low + size) size n (swap_fields size low (low + size + size * n) path) ≡ reverse_fields low size (suc (suc n)) path)
  reverse_split n a x m y z {low} p q r t =
      let swapped : swap_fields size low (low + size + size * n) (a ++ (x ++ (m ++ (y ++ z)))) ≡ (a ++ y) ++ (m ++ (x ++ z)) =
      ap (λ (s : ℕ). swap_fields s low (low + size + size * n) (a ++ (x ++ (m ++ (y ++ z))))) (sym q)
      ∙ swap_apart a x m y z p (omega arith) (omega arith) ∙ sym (append_assoc a y _) in
      let inner = reverse_at n (a ++ y) m (x ++ z) {at = low + size} (length-append a y ∙ ap₂ ◌+◌ p t) r in
      let outer =
      reverse_at (suc (suc n)) a (x ++ (m ++ y)) z p (simp length-append (omega (arith, mul-suc size n, mul-suc size (suc n))))
      ∙ ap (λ (l : List ℕ). a ++ (l ++ z)) (last_first_ends n x m y q r t) in
      ap (reverse_fields (low + size) size n) swapped ∙ inner ∙ append_assoc a y _ ∙ sym (simp append_assoc at outer)

  pub reverse_more : (n low high : ℕ) (path : List ℕ) → 1 < n → high + size ≡ low + size * n → high + size ≤ length path
      → reverse_fields (low + size) size (n - 2) (swap_fields size low high path) ≡ reverse_fields low size n path
  reverse_more zero low high path h e b = absurd (omega arith)
  reverse_more (suc zero) low high path h e b = absurd (omega arith)
  reverse_more (suc (suc n)) low high path h e b =
      let l1 = drop low path in
      let l2 = drop size l1 in
      let l3 = drop (size * n) l2 in
      let whole : path ≡ take low path ++ (take size l1 ++ (take (size * n) l2 ++ (take size l3 ++ drop size l3))) =
      sym (simp take-append-drop) in
      let last : high ≡ low + size + size * n = omega (arith, mul-suc size n, mul-suc size (suc n)) in
      let left : suc (suc n) - 2 ≡ n = omega arith in
      let b1 : size + (size * n + size) ≤ length l1 = rw (length-drop low path) (omega (arith, mul-suc size n, mul-suc size (suc n))) in
      let b2 : size * n + size ≤ length l2 = rw (length-drop size l1) (omega arith) in
      let b3 : size ≤ length l3 = rw (length-drop (size * n) l2) (omega arith) in
      let split =
      reverse_split n (take low path) (take size l1) (take (size * n) l2) (take size l3) (drop size l3)
      (length-take-le low path (omega arith))
      (length-take-le size l1 (omega arith))
      (length-take-le (size * n) l2 (omega arith))
      (length-take-le size l3 b3) in
      rw (left, last) (rw (sym whole) at split)
