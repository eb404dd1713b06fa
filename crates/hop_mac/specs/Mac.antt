-- 01, 'mac.rs': the hop MAC, as the Rust has it.
-- Assumes nothing.
use Rattle.std.specs.Prelude.{ℕ, List, [], ◌∷◌, ◌++◌, get_or, take}
use Rattle.std.specs.Int.Bits.{bit_xor}
use Rattle.octets.specs.Bytes.{from_be16, be16, be32}
use Rattle.cmac.specs.Cmac.{aes_cmac}

-- the MAC input of 16 bytes: 2 zero, SegID, timestamp, 1 zero, ExpTime, ConsIngress, ConsEgress, 2 zero
unfoldable pub mac_input : ℕ → ℕ → ℕ → ℕ → ℕ → List ℕ
mac_input seg_id timestamp exp_time cons_ingress cons_egress =
    (0 ∷ 0 ∷ []) ++ (be16 seg_id ++ (be32 timestamp ++ (0 ∷ exp_time ∷ (be16 cons_ingress ++ (be16 cons_egress ++ (0 ∷ 0 ∷ []))))))

-- all 16 bytes of a hop field's AES-CMAC
unfoldable pub full_hop_mac : ℕ → ℕ → ℕ → ℕ → ℕ → List ℕ → List ℕ
full_hop_mac seg_id timestamp exp_time cons_ingress cons_egress key = aes_cmac key (mac_input seg_id timestamp exp_time cons_ingress cons_egress)

-- the hop MAC is its first 6 bytes
unfoldable pub hop_mac : ℕ → ℕ → ℕ → ℕ → ℕ → List ℕ → List ℕ
hop_mac seg_id timestamp exp_time cons_ingress cons_egress key = take 6 (full_hop_mac seg_id timestamp exp_time cons_ingress cons_egress key)

-- a beta step: SegID xor the MAC's first two bytes
unfoldable pub mac_beta_step : ℕ → List ℕ → ℕ
mac_beta_step seg_id mac = bit_xor seg_id (from_be16 (get_or mac 0 0) (get_or mac 1 0))

-- beta step after beta step, over the MACs of the hops passed
unfoldable pub mac_chaining_beta : ℕ → List (List ℕ) → ℕ
mac_chaining_beta seg_id [] = seg_id
mac_chaining_beta seg_id (mac ∷ macs) = mac_chaining_beta (mac_beta_step seg_id mac) macs
