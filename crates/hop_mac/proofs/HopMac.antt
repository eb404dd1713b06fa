-- Laws of the hop MAC: from a schedule and K1 that were made before; chaining over the hops of two runs, one after the other.
-- Assumes nothing.
use mathlib.Core.Path.{◌≡◌, refl, ap}
use mathlib.Core.List.{List, [], ◌∷◌, ◌++◌}
use Prim.Native.Nat.{ℕ}
use lib.ListN.{take}
use Rattle.aes_keys.specs.KeyExpansion.{round_keys}
use Rattle.aes.specs.ByTable.{round_table, cipher_by}
use Rattle.cmac.specs.Cmac.{subkey1, mac_with}
use Rattle.cmac.proofs.CmacLaws.{cmac_from_schedule}
use Rattle.hop_mac.specs.Mac.{mac_input, full_hop_mac, hop_mac, mac_beta_step, mac_chaining_beta}

pub hop_mac_from_schedule : (seg_id timestamp exp_time cons_ingress cons_egress : ℕ) (key : List ℕ) {t k1 : List ℕ} {w : List (List ℕ)}
    → t ≡ round_table → w ≡ round_keys key → k1 ≡ subkey1 (cipher_by t w)
    → take 6 (mac_with (cipher_by t w) k1 (mac_input seg_id timestamp exp_time cons_ingress cons_egress)) ≡ hop_mac seg_id timestamp exp_time cons_ingress cons_egress key
unfolding hop_mac full_hop_mac
hop_mac_from_schedule seg_id timestamp exp_time cons_ingress cons_egress key p q r = ap (take 6) (cmac_from_schedule key _ p q r)

pub chaining_append : (seg_id : ℕ) (macs more : List (List ℕ)) → mac_chaining_beta seg_id (macs ++ more) ≡ mac_chaining_beta (mac_chaining_beta seg_id macs) more
unfolding mac_chaining_beta
chaining_append seg_id [] more = refl
chaining_append seg_id (mac ∷ macs) more = chaining_append (mac_beta_step seg_id mac) macs more
