-- The blocks of a message, as the library takes them: each is sixteen bytes from its place on.
-- Assumes nothing.
use mathlib.Core.Path.{◌≡◌, refl, sym, ap, ◌∙◌}
use mathlib.Core.List.{List, []}
use Prim.Native.Nat.{ℕ, zero, suc, ◌+◌, ◌*◌, ◌/◌, ◌≤◌, ◌<◌, min}
use native.Mathlib.Omega.{arith}
use lib.ListN.{length, get_or, take, drop}
use lib.Seq.{ext_get_or}
use Rattle.std.proofs.lemmas.List.{length-take, length-take-le, length-drop, get_or-take, get_or-drop, drop-drop}
use Rattle.std.specs.Simd.{first_chunks}
use Rattle.octets.proofs.Lists.{get_or_tabulate}
use Rattle.cmac.specs.Cmac.{block_at}

pub block_taken : (m : List ℕ) (at : ℕ) → at + 16 ≤ length m → take 16 (drop at m) ≡ block_at m at
unfolding block_at
block_taken m at h =
    let left : 16 ≤ length (drop at m) = omega (arith, length-drop at m) in
    ext_get_or 0 _ _ (length-take-le 16 (drop at m) left)
    (λ i b. let c : i < 16 = rw (length-take-le 16 (drop at m) left) at b in
    get_or-take 16 (drop at m) i 0 c ∙ get_or-drop at m i 0 ∙ sym (get_or_tabulate (λ j. get_or m (at + j) 0) 16 i c))

chunk_taken : (k i : ℕ) (m : List ℕ) → i < k → get_or (first_chunks 16 k m) i [] ≡ take 16 (drop (16 * i) m)
chunk_taken zero i m h = absurd (omega arith)
chunk_taken (suc k) zero m h = refl
chunk_taken (suc k) (suc i) m h =
    let e : 16 * suc i ≡ 16 + 16 * i = omega arith in
    chunk_taken k i (drop 16 m) (omega arith) ∙ ap (take 16) (drop-drop (16 * i) 16 m ∙ ap (λ (n : ℕ). drop n m) (sym e))

-- the blocks of a message in their turn, as far as the first `count`
pub block_in_turn : (count i : ℕ) (m : List ℕ) {blocks : List (List ℕ)} → blocks ≡ first_chunks 16 (length m / 16) m
    → length blocks ≡ length m / 16 → i < length (take count blocks) → get_or (take count blocks) i [] ≡ block_at m (16 * i)
block_in_turn count i m {blocks} e n h =
    let few : i < min count (length blocks) = rw length-take at h in
    let within : i < length m / 16 = omega arith in
    get_or-take count blocks i [] (omega arith) ∙ ap (λ (l : List (List ℕ)). get_or l i []) e ∙ chunk_taken (length m / 16) i m within
    ∙ block_taken m (16 * i) (omega arith)
