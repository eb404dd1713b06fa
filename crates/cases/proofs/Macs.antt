-- The MACs that the rows of Table.antt ask for, each computed once from FIPS 197 and RFC 4493.
-- Assumes nothing.
use Prim.Native.Nat.{ℕ}
use mathlib.Core.List.{List, [], ◌∷◌}
use mathlib.Core.Path.{◌≡◌, refl, ap, ◌∙◌}
use lib.ListN.{take}
use Rattle.aes_sbox.specs.Field.{mul, inverse, affine, substitution_value, s_box, sub_byte}
use Rattle.aes_words.specs.Block.{xor_block, xor_word}
use Rattle.aes_keys.specs.KeyExpansion.{rot_word, sub_word, key_expansion, round_keys}
use Rattle.aes.specs.Cipher.{sub_bytes, shift_rows, mix_columns, round, cipher}
use Rattle.cmac.specs.Cmac.{shift_left, doubled, subkey1, block_at, last_block, chained, mac_with, aes_cmac}
use Rattle.hop_mac.specs.Mac.{mac_input, full_hop_mac, hop_mac}

-- RFC 4493's key, which is FIPS 197's of appendix A.1; the round keys there; RFC 4493's K1 of it
abbrev pub key : List ℕ
key = 0x2b ∷ 0x7e ∷ 0x15 ∷ 0x16 ∷ 0x28 ∷ 0xae ∷ 0xd2 ∷ 0xa6 ∷ 0xab ∷ 0xf7 ∷ 0x15 ∷ 0x88 ∷ 0x09 ∷ 0xcf ∷ 0x4f ∷ 0x3c ∷ []

abbrev schedule : List (List ℕ)
schedule =
    (0x2b ∷ 0x7e ∷ 0x15 ∷ 0x16 ∷ 0x28 ∷ 0xae ∷ 0xd2 ∷ 0xa6 ∷ 0xab ∷ 0xf7 ∷ 0x15 ∷ 0x88 ∷ 0x09 ∷ 0xcf ∷ 0x4f ∷ 0x3c ∷ [])
    ∷ (0xa0 ∷ 0xfa ∷ 0xfe ∷ 0x17 ∷ 0x88 ∷ 0x54 ∷ 0x2c ∷ 0xb1 ∷ 0x23 ∷ 0xa3 ∷ 0x39 ∷ 0x39 ∷ 0x2a ∷ 0x6c ∷ 0x76 ∷ 0x05 ∷ [])
    ∷ (0xf2 ∷ 0xc2 ∷ 0x95 ∷ 0xf2 ∷ 0x7a ∷ 0x96 ∷ 0xb9 ∷ 0x43 ∷ 0x59 ∷ 0x35 ∷ 0x80 ∷ 0x7a ∷ 0x73 ∷ 0x59 ∷ 0xf6 ∷ 0x7f ∷ [])
    ∷ (0x3d ∷ 0x80 ∷ 0x47 ∷ 0x7d ∷ 0x47 ∷ 0x16 ∷ 0xfe ∷ 0x3e ∷ 0x1e ∷ 0x23 ∷ 0x7e ∷ 0x44 ∷ 0x6d ∷ 0x7a ∷ 0x88 ∷ 0x3b ∷ [])
    ∷ (0xef ∷ 0x44 ∷ 0xa5 ∷ 0x41 ∷ 0xa8 ∷ 0x52 ∷ 0x5b ∷ 0x7f ∷ 0xb6 ∷ 0x71 ∷ 0x25 ∷ 0x3b ∷ 0xdb ∷ 0x0b ∷ 0xad ∷ 0x00 ∷ [])
    ∷ (0xd4 ∷ 0xd1 ∷ 0xc6 ∷ 0xf8 ∷ 0x7c ∷ 0x83 ∷ 0x9d ∷ 0x87 ∷ 0xca ∷ 0xf2 ∷ 0xb8 ∷ 0xbc ∷ 0x11 ∷ 0xf9 ∷ 0x15 ∷ 0xbc ∷ [])
    ∷ (0x6d ∷ 0x88 ∷ 0xa3 ∷ 0x7a ∷ 0x11 ∷ 0x0b ∷ 0x3e ∷ 0xfd ∷ 0xdb ∷ 0xf9 ∷ 0x86 ∷ 0x41 ∷ 0xca ∷ 0x00 ∷ 0x93 ∷ 0xfd ∷ [])
    ∷ (0x4e ∷ 0x54 ∷ 0xf7 ∷ 0x0e ∷ 0x5f ∷ 0x5f ∷ 0xc9 ∷ 0xf3 ∷ 0x84 ∷ 0xa6 ∷ 0x4f ∷ 0xb2 ∷ 0x4e ∷ 0xa6 ∷ 0xdc ∷ 0x4f ∷ [])
    ∷ (0xea ∷ 0xd2 ∷ 0x73 ∷ 0x21 ∷ 0xb5 ∷ 0x8d ∷ 0xba ∷ 0xd2 ∷ 0x31 ∷ 0x2b ∷ 0xf5 ∷ 0x60 ∷ 0x7f ∷ 0x8d ∷ 0x29 ∷ 0x2f ∷ [])
    ∷ (0xac ∷ 0x77 ∷ 0x66 ∷ 0xf3 ∷ 0x19 ∷ 0xfa ∷ 0xdc ∷ 0x21 ∷ 0x28 ∷ 0xd1 ∷ 0x29 ∷ 0x41 ∷ 0x57 ∷ 0x5c ∷ 0x00 ∷ 0x6e ∷ [])
    ∷ (0xd0 ∷ 0x14 ∷ 0xf9 ∷ 0xa8 ∷ 0xc9 ∷ 0xee ∷ 0x25 ∷ 0x89 ∷ 0xe1 ∷ 0x3f ∷ 0x0c ∷ 0xc8 ∷ 0xb6 ∷ 0x63 ∷ 0x0c ∷ 0xa6 ∷ [])
    ∷ []

abbrev k1 : List ℕ
k1 = 0xfb ∷ 0xee ∷ 0xd6 ∷ 0x18 ∷ 0x35 ∷ 0x71 ∷ 0x33 ∷ 0x66 ∷ 0x7c ∷ 0x85 ∷ 0xe0 ∷ 0x8f ∷ 0x72 ∷ 0x36 ∷ 0xa8 ∷ 0xde ∷ []

-- ---- what is computed: to unfold one of these is to unfold whatever its own line names

keys : List (List ℕ)
unfolding mul inverse affine substitution_value s_box sub_byte xor_word rot_word sub_word key_expansion round_keys
keys = round_keys key

encrypted : List ℕ → List ℕ
unfolding mul inverse affine substitution_value s_box sub_byte xor_block sub_bytes shift_rows mix_columns round cipher
encrypted block = cipher schedule block

subkey : List ℕ
unfolding encrypted shift_left doubled subkey1
subkey = subkey1 (cipher schedule)

mac : List ℕ → List ℕ
unfolding encrypted block_at last_block chained mac_with mac_input
mac m = mac_with (cipher schedule) k1 m

schedule_right : round_keys key ≡ schedule
unfolding keys
schedule_right = refl

k1_right : subkey1 (cipher schedule) ≡ k1
unfolding subkey
k1_right = refl

from_schedule : (m : List ℕ) → aes_cmac key m ≡ mac_with (cipher schedule) k1 m
unfolding aes_cmac
from_schedule m =
    ap (λ (w : List (List ℕ)). mac_with (cipher w) (subkey1 (cipher w)) m) schedule_right
    ∙ ap (λ (k : List ℕ). mac_with (cipher schedule) k m) k1_right

-- SegID, timestamp, ExpTime, ConsIngress, ConsEgress
hop_mac_lem : (seg_id timestamp exp_time cons_ingress cons_egress : ℕ)
    → hop_mac seg_id timestamp exp_time cons_ingress cons_egress key ≡ take 6 (mac_with (cipher schedule) k1 (mac_input seg_id timestamp exp_time cons_ingress cons_egress))
unfolding hop_mac full_hop_mac
hop_mac_lem seg_id timestamp exp_time cons_ingress cons_egress = ap (take 6) (from_schedule (mac_input seg_id timestamp exp_time cons_ingress cons_egress))

-- three hops in construction direction
pub mac_down_0 : hop_mac 0x1234 1000 0 0 1 key ≡ 0x4a ∷ 0x2b ∷ 0x72 ∷ 0x55 ∷ 0xb9 ∷ 0xe6 ∷ []
unfolding mac
mac_down_0 = hop_mac_lem 0x1234 1000 0 0 1

pub mac_down_1 : hop_mac 0x581f 1000 0 3 1 key ≡ 0xe7 ∷ 0x64 ∷ 0xaa ∷ 0x6d ∷ 0x19 ∷ 0x95 ∷ []
unfolding mac
mac_down_1 = hop_mac_lem 0x581f 1000 0 3 1

pub mac_down_2 : hop_mac 0xbf7b 1000 0 3 0 key ≡ 0x58 ∷ 0x01 ∷ 0x82 ∷ 0x2b ∷ 0x49 ∷ 0x2e ∷ []
unfolding mac
mac_down_2 = hop_mac_lem 0xbf7b 1000 0 3 0

-- the second hop against construction, and the same with the SegID of the other segment
pub mac_up : hop_mac 0x5678 1000 0 0 1 key ≡ 0xcd ∷ 0x58 ∷ 0xe7 ∷ 0x46 ∷ 0x99 ∷ 0x56 ∷ []
unfolding mac
mac_up = hop_mac_lem 0x5678 1000 0 0 1

pub mac_other : hop_mac 0x9abc 1000 0 0 1 key ≡ 0x78 ∷ 0xbe ∷ 0x6a ∷ 0x2a ∷ 0xd6 ∷ 0x9c ∷ []
unfolding mac
mac_other = hop_mac_lem 0x9abc 1000 0 0 1

-- the hop behind it, in construction direction
pub mac_next : hop_mac 0x9abc 1000 0 0 2 key ≡ 0x2d ∷ 0xbd ∷ 0x56 ∷ 0x96 ∷ 0x1a ∷ 0x64 ∷ []
unfolding mac
mac_next = hop_mac_lem 0x9abc 1000 0 0 2

-- two hops in construction direction: the last, behind `mac_down_0`
pub mac_last : hop_mac 0x581f 1000 0 3 0 key ≡ 0xd1 ∷ 0x46 ∷ 0x0c ∷ 0xe3 ∷ 0xb1 ∷ 0x15 ∷ []
unfolding mac
mac_last = hop_mac_lem 0x581f 1000 0 3 0
