-- 01, 'standard/routing.rs': what the moves of the step write.
-- Assumes nothing.
use Rattle.std.specs.Prelude.{ℕ, ◌+◌, ◌-◌, ◌*◌, ◌/◌, ◌%◌, Bool, not, List, get_or, set}
use Rattle.fields.specs.Layout.{info_offset, hop_offset}
use Rattle.fields.specs.Fields.{by_direction}
use Rattle.standard_path.specs.Header.{infos}

-- the SegID of info field i
unfoldable pub set_seg_id : List ℕ → ℕ → ℕ → List ℕ
set_seg_id path i value = set (set path (info_offset i + 2) (value / 256)) (info_offset i + 3) (value % 256)

-- flags without the ConsEgress alert, and without the ConsIngress alert
abbrev pub without_egress : ℕ → ℕ
without_egress flags = flags - flags % 2

abbrev pub without_ingress : ℕ → ℕ
without_ingress flags = flags - flags / 2 % 2 * 2

-- where the flags of hop h stand
abbrev pub flags_at : List ℕ → ℕ → ℕ
flags_at path h = hop_offset (infos path) h

-- the travel-ingress alert cleared in the flags at a place
abbrev pub alert_cleared_at : List ℕ → ℕ → Bool → List ℕ
alert_cleared_at path at c = set path at (by_direction c (without_ingress (get_or path at 0)) (without_egress (get_or path at 0)))

-- the travel-ingress alert of hop h cleared, and the travel-egress alert
unfoldable pub clear_ingress_alert : List ℕ → Bool → ℕ → List ℕ
clear_ingress_alert path c h = alert_cleared_at path (flags_at path h) c

-- which alert it is turns round with the direction
abbrev pub clear_egress_alert : List ℕ → Bool → ℕ → List ℕ
clear_egress_alert path c h = clear_ingress_alert path (not c) h
