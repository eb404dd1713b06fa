-- For the contracts of inner functions: the moves, with the place where the current hop field starts and the direction of its segment lent.
-- At that place and in that direction they are the moves: proofs/Lent.antt.
-- Assumes nothing.
use Rattle.std.specs.Prelude.{ℕ, ◌+◌, Bool, true, false, not, cond, List, eqb, take, drop}
use Rattle.hop_mac.specs.Mac.{mac_beta_step}
use Rattle.fields.specs.Fields.{seg_id, mac_field}
use Rattle.standard_path.specs.Meta.{curr_inf, curr_hf, set_curr_inf, set_curr_hf}
use Rattle.edition.specs.declared.Edition.{Edition}
use Rattle.place.specs.Place.{info, crosses}
use Rattle.writes.specs.Writes.{set_seg_id, alert_cleared_at}
use Rattle.moves.specs.Moves.{takes_step}

unfoldable pub stepped_at : List ℕ → ℕ → Bool → List ℕ
stepped_at path at taken =
    cond taken (set_seg_id path (curr_inf path) (mac_beta_step (seg_id (info path)) (mac_field (take 12 (drop at path))))) path

unfoldable pub fields_at : Edition → List ℕ → ℕ → ℕ → Bool → List ℕ
fields_at edition path interface at c =
    cond (eqb interface 0) path (alert_cleared_at (stepped_at path at (takes_step edition path true c)) at c)

unfoldable pub ingress_move_at : Edition → List ℕ → ℕ → Bool → ℕ → Bool → List ℕ
ingress_move_at edition path interface change at c =
    cond change
    (set_curr_inf (set_curr_hf (fields_at edition path interface at c) (curr_hf path + 1)) (curr_inf path + 1))
    (fields_at edition path interface at c)

abbrev pub cleared_at : Edition → List ℕ → ℕ → Bool → List ℕ
cleared_at edition path at c = alert_cleared_at (stepped_at path at (takes_step edition path false c)) at (not c)

-- CurrHF set, and CurrINF where the path crosses
unfoldable pub indices_at : List ℕ → ℕ → ℕ → Bool → List ℕ
indices_at path hop segment crossing = cond crossing (set_curr_inf (set_curr_hf path hop) segment) (set_curr_hf path hop)

unfoldable pub egress_move_at : Edition → List ℕ → ℕ → Bool → List ℕ
egress_move_at edition path at c = indices_at (cleared_at edition path at c) (curr_hf path + 1) (curr_inf path + 1) (crosses edition path)
