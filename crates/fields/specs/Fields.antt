-- 01, 'types.rs, layout.rs' and 'view.rs': an info field and a hop field, read out of their bytes.
-- Assumes nothing.
use Rattle.std.specs.Prelude.{ℕ, ◌+◌, ◌*◌, ◌/◌, ◌%◌, min, Bool, cond, List, eqb, get_or}
use Rattle.octets.specs.Bytes.{tabulate, be16_at, be32_at}

-- ---- an info field, 8 bytes: flags (C lowest, then P), reserved, SegID, timestamp

unfoldable pub cons_dir : List ℕ → Bool
cons_dir info = eqb (get_or info 0 0 % 2) 1

unfoldable pub peering : List ℕ → Bool
peering info = eqb (get_or info 0 0 / 2 % 2) 1

unfoldable pub seg_id : List ℕ → ℕ
seg_id info = be16_at info 2

unfoldable pub timestamp : List ℕ → ℕ
timestamp info = be32_at info 4

-- ---- a hop field, 12 bytes: flags (ConsEgress alert lowest, then ConsIngress alert), ExpTime, ConsIngress, ConsEgress, MAC

unfoldable pub cons_egress_alert : List ℕ → Bool
cons_egress_alert hop = eqb (get_or hop 0 0 % 2) 1

unfoldable pub cons_ingress_alert : List ℕ → Bool
cons_ingress_alert hop = eqb (get_or hop 0 0 / 2 % 2) 1

unfoldable pub exp_time : List ℕ → ℕ
exp_time hop = get_or hop 1 0

unfoldable pub cons_ingress : List ℕ → ℕ
cons_ingress hop = be16_at hop 2

unfoldable pub cons_egress : List ℕ → ℕ
cons_egress hop = be16_at hop 4

unfoldable pub mac_field : List ℕ → List ℕ
mac_field hop = tabulate 6 0 (λ i. get_or hop (6 + i) 0)

-- ---- in travel direction: the first of two with C set, else the second

abbrev pub by_direction : {A : Type 0} → Bool → A → A → A
by_direction c along against = cond c along against

unfoldable pub travel_ingress : Bool → List ℕ → ℕ
travel_ingress c hop = by_direction c (cons_ingress hop) (cons_egress hop)

unfoldable pub travel_egress : Bool → List ℕ → ℕ
travel_egress c hop = by_direction c (cons_egress hop) (cons_ingress hop)

unfoldable pub travel_ingress_alert : Bool → List ℕ → Bool
travel_ingress_alert c hop = by_direction c (cons_ingress_alert hop) (cons_egress_alert hop)

unfoldable pub travel_egress_alert : Bool → List ℕ → Bool
travel_egress_alert c hop = by_direction c (cons_egress_alert hop) (cons_ingress_alert hop)

-- ---- when a hop field ends: timestamp + floor((ExpTime + 1) × 675 / 2), capped

unfoldable pub expiry : ℕ → ℕ → ℕ
expiry start units = min (start + (units + 1) * 675 / 2) 4294967295
