-- Laws of RFC 4493's MAC: its last block, a message of one block, and the MAC from a schedule made before.
-- Assumes nothing.
use mathlib.Core.Path.{◌≡◌, ap, ap₂, ◌∙◌}
use mathlib.Core.List.{List}
use Prim.Native.Nat.{ℕ, ◌+◌, ◌-◌, ◌*◌, ◌≤◌, ◌<◌}
use native.Mathlib.Omega.{arith}
use borrow.Author.Tests.{eq-eqb, ne_eqb}
use lib.ListN.{length, take, drop}
use Rattle.std.proofs.lemmas.List.{length-drop, take_all}
use Rattle.std.specs.Array.{IsFirstChunk}
use Rattle.aes_words.specs.Block.{xor_block}
use Rattle.aes_keys.specs.KeyExpansion.{round_keys}
use Rattle.aes.specs.ByTable.{round_table, cipher_by}
use Rattle.cmac.specs.Cmac.{doubled, subkey1, block_count, block_at, padding_at, last_block, chained, mac_with, aes_cmac}
use Rattle.aes.proofs.FastCipher.{cipher_by_table}
use Rattle.cmac.proofs.Blocks.{block_taken}

-- n blocks stand before the last: the bytes behind them are a whole block, or fewer
module _ (k1 m : List ℕ) (n : ℕ) (e : n ≡ block_count (length m) - 1) where
  behind : take (length m - 16 * n) (drop (16 * n) m) ≡ drop (16 * n) m
  behind = take_all _ (drop (16 * n) m) (omega (arith, length-drop (16 * n) m))

  pub last_complete : {block : List ℕ} → IsFirstChunk (take (length m - 16 * n) (drop (16 * n) m)) block 16 → xor_block block k1 ≡ last_block k1 m
  unfolding last_block
  last_complete {block} h =
      let enough : 16 ≤ length (drop (16 * n) m) = rw behind at h.enough in
      let there : 16 * n + 16 ≤ length m = omega (arith, length-drop (16 * n) m) in
      let taken : block ≡ block_at m (16 * n) = h.same ∙ ap (take 16) behind ∙ block_taken m (16 * n) there in
      rw (eq-eqb (block_count (length m) * 16) (length m) (omega arith), taken) (ap (λ (x : ℕ). xor_block (block_at m (16 * x)) k1) e)

  pub last_padded : length (take (length m - 16 * n) (drop (16 * n) m)) < 16 → xor_block (padding_at m (16 * n)) (doubled k1) ≡ last_block k1 m
  unfolding last_block
  last_padded h =
      let short : length (drop (16 * n) m) < 16 = rw behind at h in
      let few : length m < 16 * n + 16 = omega (arith, length-drop (16 * n) m) in
      rw (ne_eqb (block_count (length m) * 16) (length m) (λ q. omega arith))
      (ap (λ (x : ℕ). xor_block (padding_at m (16 * x)) (doubled k1)) e)

pub one_block : (e : List ℕ → List ℕ) (k1 m : List ℕ) → length m ≡ 16 → e (xor_block m k1) ≡ mac_with e k1 m
unfolding mac_with last_block block_at chained xor_block
one_block e k1 m h = rw h

-- a MAC from round keys and K1 that were made before is the key's AES-CMAC
pub cmac_from_schedule : (key m : List ℕ) {t k1 : List ℕ} {w : List (List ℕ)} → t ≡ round_table → w ≡ round_keys key
    → k1 ≡ subkey1 (cipher_by t w) → mac_with (cipher_by t w) k1 m ≡ aes_cmac key m
unfolding aes_cmac
cmac_from_schedule key m p q r =
    let e = cipher_by_table p q in
    ap₂ (λ (f : List ℕ → List ℕ) (k : List ℕ). mac_with f k m) e (r ∙ ap subkey1 e)
