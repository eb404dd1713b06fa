-- The hop MAC from a schedule that was made before, and question 12 asked with it.
-- Assumes nothing.
use mathlib.Core.Path.{◌≡◌, refl, sym, ◌∙◌}
use mathlib.Core.Bool.{Bool, false}
use mathlib.Core.List.{List}
use Prim.Native.Nat.{ℕ}
use lib.ListN.{take}
use Rattle.aes_keys.specs.KeyExpansion.{round_keys}
use Rattle.aes.specs.ByTable.{round_table, cipher_by}
use Rattle.cmac.specs.Cmac.{subkey1, mac_with}
use Rattle.hop_mac.specs.Mac.{mac_input, hop_mac}
use Rattle.hop_mac.proofs.HopMac.{hop_mac_from_schedule}
use Rattle.std.specs.Prelude.{Result}
use Rattle.answers.specs.declared.StandardRoutingError.{StandardRoutingError}
use Rattle.answers.specs.Questions.{first_no}
use Rattle.validator.specs.Check.{key_mac, mac_questions}
use Rattle.validator.specs.Inner.{schedule_mac}

pub schedule_law : (key : List ℕ) {t k1 : List ℕ} {w : List (List ℕ)} → t ≡ round_table → w ≡ round_keys key → k1 ≡ subkey1 (cipher_by t w)
    → schedule_mac t w k1 ≡ key_mac key
schedule_law key p q r = λ i seg_id start units ingress egress. hop_mac_from_schedule seg_id start units ingress egress key p q r i

-- 12, asked with a schedule's MAC of fields that were read
pub mac_asked : (key : List ℕ) {t k1 : List ℕ} {w : List (List ℕ)} → t ≡ round_table → w ≡ round_keys key → k1 ≡ subkey1 (cipher_by t w)
    → {ignored : Bool} → ignored ≡ false
    → {index read_index seg_id read_seg_id : ℕ} {hop read_hop info read_info : List ℕ} {answer : Result Unit StandardRoutingError}
    → answer ≡ first_no (mac_questions (schedule_mac t w k1) false read_index read_hop read_info read_seg_id)
    → read_index ≡ index → read_hop ≡ hop → read_info ≡ info → read_seg_id ≡ seg_id
    → answer ≡ first_no (mac_questions (key_mac key) ignored index hop info seg_id)
mac_asked key p q r checked e at_index at_hop at_info at_seg_id =
    e ∙ λ i. first_no (mac_questions (schedule_law key p q r i) (sym checked i) (at_index i) (at_hop i) (at_info i) (at_seg_id i))

-- the key's hop MAC from its own schedule: each variable shows in what is rewritten, so that a tactic finds them
pub hop_mac_law : (beta start units into out : ℕ) (key : List ℕ)
    → hop_mac beta start units into out key
    ≡ take 6 (mac_with (cipher_by round_table (round_keys key)) (subkey1 (cipher_by round_table (round_keys key))) (mac_input beta start units into out))
hop_mac_law beta start units into out key = sym (hop_mac_from_schedule beta start units into out key refl refl refl)
