-- RFC 4493, AES-CMAC. A block is the list of its 16 bytes, the most significant first.
-- Assumes nothing.
use Rattle.std.specs.Prelude.{ℕ, zero, suc, ◌+◌, ◌-◌, ◌*◌, ◌/◌, ◌%◌, max, Bool, cond, List, eqb, ltb, get_or, length}
use Rattle.aes_words.specs.Block.{block, xor_block}
use Rattle.aes.specs.Cipher.{cipher}
use Rattle.aes_keys.specs.KeyExpansion.{round_keys}

-- const_Zero and const_Rb
abbrev pub const_zero : List ℕ
const_zero = block (λ i. 0)

abbrev pub const_rb : List ℕ
const_rb = block (λ i. cond (eqb i 15) 135 0)

-- the top bit of the byte after byte i, 0 after the last
abbrev pub carry_into : List ℕ → ℕ → ℕ
carry_into s i = cond (ltb i 15) (get_or s (i + 1) 0 / 128) 0

-- s << 1: `Doubling.shift-doubles` says what it is as a number
unfoldable pub shift_left : List ℕ → List ℕ
shift_left s = block (λ i. get_or s i 0 * 2 % 256 + carry_into s i)

-- section 2.3: from L to K1, and from K1 to K2
unfoldable pub doubled : List ℕ → List ℕ
doubled l = cond (ltb (get_or l 0 0) 128) (shift_left l) (xor_block (shift_left l) const_rb)

-- section 2.3, Generate_Subkey: K1, from the cipher under the key
unfoldable pub subkey1 : (List ℕ → List ℕ) → List ℕ
subkey1 encrypt = doubled (encrypt const_zero)

-- section 2.4, steps 2 and 3: n, the number of blocks of a message of len bytes
abbrev pub block_count : ℕ → ℕ
block_count len = max 1 ((len + 15) / 16)

-- section 2.4, steps 2 and 3: flag, the last block is complete
abbrev pub complete : ℕ → Bool
complete len = eqb (block_count len * 16) len

-- the 16 bytes of m from a place on
unfoldable pub block_at : List ℕ → ℕ → List ℕ
block_at m at = block (λ j. get_or m (at + j) 0)

-- byte k of m followed by 80 hex and then zeros
unfoldable pub padded_byte : List ℕ → ℕ → ℕ
padded_byte m k = cond (ltb k (length m)) (get_or m k 0) (cond (eqb k (length m)) 128 0)

-- padding of the bytes of m from a place on
unfoldable pub padding_at : List ℕ → ℕ → List ℕ
padding_at m at = block (λ j. padded_byte m (at + j))

-- section 2.4, step 4: M_last, from K1
unfoldable pub last_block : List ℕ → List ℕ → List ℕ
last_block k1 m =
    let at = 16 * (block_count (length m) - 1) in
    cond (complete (length m)) (xor_block (block_at m at) k1) (xor_block (padding_at m at) (doubled k1))

-- section 2.4, steps 5 and 6: X after n of the blocks
unfoldable pub chained : (List ℕ → List ℕ) → List ℕ → ℕ → List ℕ
chained encrypt m zero = const_zero
chained encrypt m (suc n) = encrypt (xor_block (chained encrypt m n) (block_at m (16 * n)))

-- section 2.4, steps 4 to 7: T, from the cipher under the key and K1
unfoldable pub mac_with : (List ℕ → List ℕ) → List ℕ → List ℕ → List ℕ
mac_with encrypt k1 m = encrypt (xor_block (chained encrypt m (block_count (length m) - 1)) (last_block k1 m))

-- section 2.4, AES-CMAC
unfoldable pub aes_cmac : List ℕ → List ℕ → List ℕ
aes_cmac key m = mac_with (cipher (round_keys key)) (subkey1 (cipher (round_keys key))) m
