-- FIPS 197, section 5.2: the 44 words satisfy the document's own equations, and the round keys are their groups of four.
-- Assumes nothing.
use mathlib.Core.Path.{◌≡◌, refl, sym, ap, ap₂, ◌∙◌}
use mathlib.Core.List.{List, [], ◌∷◌}
use Prim.Native.Nat.{ℕ, zero, suc, ◌+◌, ◌-◌, ◌*◌, ◌/◌, ◌%◌, ◌≤◌, ◌<◌}
use native.Mathlib.Nat.{not-suc-le-zero, le_of_suc-le-suc}
use native.Mathlib.Omega.{arith}
use borrow.Author.Tests.{eq-eqb, ne_eqb}
use lib.ListN.{get_or, length}
use Rattle.aes_sbox.specs.Field.{mul}
use Rattle.aes_keys.specs.KeyExpansion.{temp, rcon, rcon_byte, words_from, key_expansion, by_fours, round_keys}
use Rattle.aes_keys.specs.Inner.{next_words}
use Rattle.aes_words.specs.Block.{word_at, xor_word, joined}
use Rattle.aes_words.specs.Words.{block_words}
use Rattle.octets.proofs.Below.{same_below}
use Rattle.octets.proofs.Lists.{tabulate_get_or}

-- w[i] = word i of the key, for i < 4
pub key_words_lem : (key : List ℕ) → (i : ℕ) → i < 4 → get_or (key_expansion key) i [] ≡ word_at key i
unfolding key_expansion
key_words_lem key zero h = refl
key_words_lem key (suc zero) h = refl
key_words_lem key (suc (suc zero)) h = refl
key_words_lem key (suc (suc (suc zero))) h = refl
key_words_lem key (suc (suc (suc (suc i)))) h = absurd (omega arith)

abbrev four+ : ℕ → ℕ
four+ i = suc (suc (suc (suc i)))

-- an equation for word m + 4 of the words from w[i - 4] on
Next : ℕ → List (List ℕ) → ℕ → Type 0
Next i w m = get_or w (four+ m) [] ≡ xor_word (get_or w m []) (temp (i + m) (get_or w (suc (suc (suc m))) []))

next_from : (m n i : ℕ) (a b c d : List ℕ) → four+ m < n → Next i (words_from n i a b c d) m
unfolding Next
next_from m zero i a b c d h = absurd (not-suc-le-zero h)
next_from m (suc zero) i a b c d h = absurd (omega arith)
next_from m (suc (suc zero)) i a b c d h = absurd (omega arith)
next_from m (suc (suc (suc zero))) i a b c d h = absurd (omega arith)
next_from m (suc (suc (suc (suc zero)))) i a b c d h = absurd (omega arith)
next_from zero (suc (suc (suc (suc (suc n))))) i a b c d h = let e : i + 0 ≡ i = omega arith in rw e
next_from (suc m) (suc (suc (suc (suc (suc n))))) i a b c d h =
    let e : i + suc m ≡ suc i + m = omega arith in
    rw e (next_from m (suc (suc (suc (suc n)))) (suc i) b c d (xor_word a (temp i d)) (omega arith))

next_in : (w : List (List ℕ)) (i : ℕ) → Next 4 w i → get_or w (4 + i) [] ≡ xor_word (get_or w i []) (temp (4 + i) (get_or w (3 + i) []))
unfolding Next
next_in w i p =
    let e : 4 + i ≡ four+ i = omega arith in
    let f : 3 + i ≡ suc (suc (suc i)) = omega arith in
    ap (λ (x : ℕ). get_or w x []) e ∙ p ∙ ap (λ (x : ℕ). xor_word (get_or w i []) (temp (4 + i) (get_or w x []))) (sym f)

next_all : (key : List ℕ) (i : ℕ) → 4 + i < 44 → Next 4 (key_expansion key) i
unfolding key_expansion
next_all key i h = next_from i 44 4 (word_at key 0) (word_at key 1) (word_at key 2) (word_at key 3) (omega arith)

-- w[i] = w[i - 4] xor temp, for 4 ≤ i < 44
pub next_word : (key : List ℕ) (i : ℕ) → 4 + i < 44
    → get_or (key_expansion key) (4 + i) [] ≡ xor_word (get_or (key_expansion key) i []) (temp (4 + i) (get_or (key_expansion key) (3 + i) []))
next_word key i h = next_in (key_expansion key) i (next_all key i h)

-- the words of round key j
unfoldable pub key_words : List ℕ → ℕ → List (List ℕ)
key_words key zero = block_words key
key_words key (suc j) = next_words (rcon (suc j)) (key_words key j)

-- 4 j
abbrev fours : ℕ → ℕ
fours zero = 0
fours (suc j) = four+ (fours j)

fours_law : (j : ℕ) → fours j ≡ 4 * j
fours_law zero = refl
fours_law (suc j) = let e = fours_law j in omega arith

-- the words of n round keys, the first of them w
words_of : ℕ → ℕ → List (List ℕ) → List (List ℕ)
words_of n j w = words_from (fours n) (fours j) (get_or w 0 []) (get_or w 1 []) (get_or w 2 []) (get_or w 3 [])

group : (n j : ℕ) (w : List (List ℕ)) → by_fours (suc n) (words_of (suc n) j w) ≡ joined w ∷ by_fours n (words_of n (suc j) (next_words (rcon j) w))
unfolding words_of next_words
group n j w =
    let i : ℕ = fours j in
    let z : i ≡ 4 * j = fours_law j in
    let e : i / 4 ≡ j = omega arith in
    rw (eq-eqb (i % 4) 0 (omega arith), ne_eqb (suc i % 4) 0 (λ q. omega arith), ne_eqb (suc (suc i) % 4) 0 (λ q. omega arith), ne_eqb (suc (suc (suc i)) % 4) 0 (λ q. omega arith), e)

keys_from : (key : List ℕ) (n j m : ℕ) → m < n
    → get_or (by_fours n (words_of n (suc j) (key_words key j))) m [] ≡ joined (key_words key (m + j))
unfolding key_words
keys_from key zero j m h = absurd (not-suc-le-zero h)
keys_from key (suc n) j zero h =
    let e : j ≡ 0 + j = omega arith in
    ap (λ (l : List (List ℕ)). get_or l 0 []) (group n (suc j) (key_words key j)) ∙ ap (λ (x : ℕ). joined (key_words key x)) e
keys_from key (suc n) j (suc m) h =
    let e : m + suc j ≡ suc m + j = omega arith in
    ap (λ (l : List (List ℕ)). get_or l (suc m) []) (group n (suc j) (key_words key j))
    ∙ keys_from key n (suc j) m (le_of_suc-le-suc h)
    ∙ ap (λ (x : ℕ). joined (key_words key x)) e

as_words : (key : List ℕ) → round_keys key ≡ by_fours 11 (words_of 11 1 (key_words key 0))
unfolding round_keys key_expansion words_of block_words key_words
as_words key = refl

-- round key j is the words w[4 j], .., w[4 j + 3], each round key's words made from those of the one before
pub round_key : (key : List ℕ) (j : ℕ) → j < 11 → get_or (round_keys key) j [] ≡ joined (key_words key j)
round_key key j h =
    let e : j + 0 ≡ j = omega arith in
    ap (λ (l : List (List ℕ)). get_or l j []) (as_words key) ∙ keys_from key 11 0 j h ∙ ap (λ (x : ℕ). joined (key_words key x)) e

pub key_count : (key : List ℕ) → length (round_keys key) ≡ 11
unfolding round_keys
key_count key = refl

-- the first round key is the key
pub first_key : (key : List ℕ) → length key ≡ 16 → key ≡ get_or (round_keys key) 0 []
unfolding key_words block_words
first_key key h = sym (tabulate_get_or key 16 0 (sym h)) ∙ sym (round_key key 0 (omega arith))

-- the round constants as the code has them
abbrev constants : List ℕ
constants = 0 ∷ 1 ∷ 2 ∷ 4 ∷ 8 ∷ 16 ∷ 32 ∷ 64 ∷ 128 ∷ 27 ∷ 54 ∷ []

constants_law : (i : ℕ) → i < 11 → get_or constants i 0 ≡ rcon_byte i
unfolding mul
constants_law = same_below 11 (λ i. get_or constants i 0) rcon_byte refl

-- the words of the next round key, as the code makes them
pub next_key : (key : List ℕ) (i : ℕ) {k next : List (List ℕ)} → 1 ≤ i → i < 11 → k ≡ key_words key (i - 1)
    → next ≡ next_words (get_or constants i 0 ∷ 0 ∷ 0 ∷ 0 ∷ []) k → next ≡ key_words key i
unfolding key_words
next_key key i h b p q =
    let e : suc (i - 1) ≡ i = omega arith in
    q ∙ ap₂ next_words (ap (λ (x : ℕ). x ∷ 0 ∷ 0 ∷ 0 ∷ []) (constants_law i b ∙ ap rcon_byte (sym e))) p ∙ ap (key_words key) e
