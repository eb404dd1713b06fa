-- The next round key as the code makes it.
-- Assumes nothing.
use mathlib.Core.Path.{◌≡◌, refl, ap, ◌∙◌}
use mathlib.Core.List.{List, [], ◌∷◌}
use Prim.Native.Nat.{ℕ, ◌<◌}
use native.Mathlib.Omega.{arith}
use lib.Bits.{bit_xor}
use lib.ListN.{get_or}
use Rattle.aes_words.specs.Words.{word_bytes, words_bytes}
use Rattle.aes_words.proofs.WordBytes.{bytes_eq, bytes_xor_of}
use Rattle.aes_keys.specs.KeyExpansion.{rot_word, sub_word}
use Rattle.aes_keys.specs.Inner.{next_words}
use Rattle.octets.proofs.Xor.{xor_assoc}

-- the next round key, g the word that is added to the first; the code sums the old words before it adds g
pub next_words_law : (k : List ℕ) (rc g : ℕ) → rc < 256 → word_bytes g ≡ sub_word (rot_word (word_bytes (get_or k 3 0)))
    → words_bytes
    (bit_xor (get_or k 0 0) (bit_xor g rc) ∷ bit_xor (bit_xor (get_or k 1 0) (get_or k 0 0)) (bit_xor g rc)
    ∷ bit_xor (bit_xor (get_or k 2 0) (bit_xor (get_or k 1 0) (get_or k 0 0))) (bit_xor g rc)
    ∷ bit_xor (bit_xor (get_or k 3 0) (bit_xor (get_or k 2 0) (bit_xor (get_or k 1 0) (get_or k 0 0)))) (bit_xor g rc) ∷ [])
    ≡ next_words (rc ∷ 0 ∷ 0 ∷ 0 ∷ []) (words_bytes k)
unfolding next_words words_bytes
next_words_law k rc g h q =
    let w0 : ℕ = get_or k 0 0 in
    let w1 : ℕ = get_or k 1 0 in
    let w2 : ℕ = get_or k 2 0 in
    let w3 : ℕ = get_or k 3 0 in
    let x : ℕ = bit_xor g rc in
    let hr : word_bytes rc ≡ rc ∷ 0 ∷ 0 ∷ 0 ∷ [] = bytes_eq rc (omega arith) (omega arith) (omega arith) (omega arith) in
    let ha = bytes_xor_of w0 x refl (bytes_xor_of g rc q hr) in
    let hb = ap word_bytes (xor_assoc w1 w0 x) ∙ bytes_xor_of w1 (bit_xor w0 x) refl ha in
    let hc = ap word_bytes (xor_assoc w2 (bit_xor w1 w0) x) ∙ bytes_xor_of w2 (bit_xor (bit_xor w1 w0) x) refl hb in
    let hd = ap word_bytes (xor_assoc w3 (bit_xor w2 (bit_xor w1 w0)) x) ∙ bytes_xor_of w3 (bit_xor (bit_xor w2 (bit_xor w1 w0)) x) refl hc in
    λ i. ha i ∷ hb i ∷ hc i ∷ hd i ∷ []
