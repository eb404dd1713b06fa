-- 01, 'Questions in order': questions 9 to 12 and 19 of a hop, and 13 to 16 of a segment change.
-- Assumes nothing.
use Rattle.std.specs.Prelude.{ℕ, ◌+◌, ◌*◌, Bool, true, false, not, ◌||◌, cond, List, [], ◌∷◌, ◌++◌, eqb, leb, Option, Some, None}
use Rattle.octets.specs.Bytes.{be16_at, be32_at}
use Rattle.hop_mac.specs.Mac.{hop_mac}
use Rattle.fields.specs.Fields.{cons_dir, timestamp, exp_time, cons_ingress, cons_egress, mac_field, travel_ingress, travel_egress, travel_ingress_alert, travel_egress_alert, expiry}
use Rattle.interface_table.specs.Table.{state_of, link_type, is_up, pair_allowed}
use Rattle.answers.specs.Questions.{Questions}
use Rattle.validator.specs.declared.StandardValidator.{StandardValidator}
use Rattle.answers.specs.declared.StandardRoutingError.{StandardRoutingError}
use Rattle.answers.specs.declared.StandardRoutingError.TheVariants.{InvalidIngressInterface, InvalidEgressInterface, FutureTimestamp, SegmentExpired, UnknownIngressInterface, UnknownEgressInterface, InvalidMacError, InvalidSegmentChange, InvalidScmpAlert}

-- the hop MAC under some key, of SegID, timestamp, ExpTime, ConsIngress and ConsEgress
abbrev pub MacFunction : Type 0
MacFunction = ℕ → ℕ → ℕ → ℕ → ℕ → List ℕ

-- the hop MAC under a key
abbrev pub key_mac : List ℕ → MacFunction
key_mac key = λ beta start units into out. hop_mac beta start units into out key

-- where the checks are made: at ingress or egress, on which interface, when, and whether MACs are ignored
abbrev pub at_ingress : ℕ → ℕ → Bool → StandardValidator
at_ingress interface time ignored = record { ingress = true; current_interface_id = interface; time = time; ignore_macs = ignored }

abbrev pub at_egress : ℕ → ℕ → Bool → StandardValidator
at_egress interface time ignored = record { ingress = false; current_interface_id = interface; time = time; ignore_macs = ignored }

-- a MAC of six bytes as a number
unfoldable pub mac_number : List ℕ → ℕ
mac_number mac = be16_at mac 0 * 4294967296 + be32_at mac 2

-- 9 asks at ingress, 19 at egress
abbrev pub interface_fits : StandardValidator → List ℕ → List ℕ → Bool
interface_fits at hop info =
    cond at.ingress
    (eqb at.current_interface_id 0 || eqb (travel_ingress (cons_dir info) hop) 0 || eqb (travel_ingress (cons_dir info) hop) at.current_interface_id)
    (eqb (travel_egress (cons_dir info) hop) at.current_interface_id)

abbrev pub wrong_interface : StandardValidator → ℕ → List ℕ → List ℕ → StandardRoutingError
wrong_interface at index hop info =
    cond at.ingress
    (InvalidIngressInterface index at.current_interface_id (travel_ingress (cons_dir info) hop) (cons_dir info))
    (InvalidEgressInterface index at.current_interface_id (travel_egress (cons_dir info) hop) (cons_dir info))

-- the MAC that the hop should have, with this SegID
abbrev pub right_mac : MacFunction → List ℕ → List ℕ → ℕ → ℕ
right_mac mac hop info seg_id = mac_number (mac seg_id (timestamp info) (exp_time hop) (cons_ingress hop) (cons_egress hop))

-- 9 to 11 at ingress, 19, 10 and 11 at egress, of the hop with this index
abbrev pub field_questions : StandardValidator → ℕ → List ℕ → List ℕ → Questions
field_questions at index hop info =
    (interface_fits at hop info, wrong_interface at index hop info)
    ∷ (leb (timestamp info) at.time, FutureTimestamp index)
    ∷ (leb at.time (expiry (timestamp info) (exp_time hop)), SegmentExpired index)
    ∷ []

-- 12: 'MAC right, or MACs ignored?'
abbrev pub mac_questions : MacFunction → Bool → ℕ → List ℕ → List ℕ → ℕ → Questions
mac_questions mac ignored index hop info seg_id = (
  ignored || eqb (right_mac mac hop info seg_id) (mac_number (mac_field hop)),
  InvalidMacError index (right_mac mac hop info seg_id) (mac_number (mac_field hop)),
)
    ∷ []

-- 9 to 12 at ingress, 19 and 10 to 12 at egress
abbrev pub hop_questions : MacFunction → StandardValidator → ℕ → List ℕ → List ℕ → ℕ → Questions
hop_questions mac at index hop info seg_id = field_questions at index hop info ++ mac_questions mac at.ignore_macs index hop info seg_id

abbrev pub is_listed : Option ℕ → Bool
is_listed (Some state) = true
is_listed None = false

abbrev pub is_up_listed : Option ℕ → Bool
is_up_listed (Some state) = is_up state
is_up_listed None = false

-- the link type of a listed interface; where one is not listed, 14, 15 or the journey check's own test of it has said no already
abbrev pub link_of : Option ℕ → ℕ
link_of (Some state) = link_type state
link_of None = 0

-- 14 to 16, of what the table has for the interface in and the interface out
abbrev pub link_questions : Option ℕ → Option ℕ → ℕ → List ℕ → List ℕ → List ℕ → List ℕ → Questions
link_questions listed_in listed_out index hop info next_hop next_info =
    (is_listed listed_in, UnknownIngressInterface index (travel_ingress (cons_dir info) hop) (cons_dir info))
    ∷ (is_listed listed_out, UnknownEgressInterface index (travel_egress (cons_dir next_info) next_hop) (cons_dir next_info))
    ∷ (pair_allowed (link_of listed_in) (link_of listed_out), InvalidSegmentChange index)
    ∷ []

-- 13 to 16, from a hop to the next segment's first
abbrev pub change_questions : List ℕ → List ℕ → ℕ → List ℕ → List ℕ → List ℕ → List ℕ → Questions
change_questions ids states index hop info next_hop next_info =
    (not (travel_egress_alert (cons_dir info) hop), InvalidScmpAlert index (cons_dir info))
    ∷ (not (travel_ingress_alert (cons_dir next_info) next_hop), InvalidScmpAlert index (cons_dir next_info))
    ∷ link_questions
    (state_of ids states (travel_ingress (cons_dir info) hop))
    (state_of ids states (travel_egress (cons_dir next_info) next_hop))
    index hop info next_hop next_info
