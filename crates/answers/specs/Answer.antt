-- 01, 'Questions in order': the number of each refusal, and the values that it carries, in 01's order; and those of an action.
-- Assumes nothing.
use Rattle.std.specs.Prelude.{ℕ, Bool, true, false, List, [], ◌∷◌, length, get_or, Result}
use Rattle.standard_path.specs.Header.{header_number}
use Rattle.answers.specs.declared.AdvanceError.{AdvanceError}
use Rattle.answers.specs.declared.AdvanceError.TheVariants.{HopOutOfBounds, InfoOutOfBounds, InvalidSegmentIndex, SingleHopSegment, SegmentEnd, MisplacedPeering}
use Rattle.answers.specs.declared.LocalAsRoutingAction.{LocalAsRoutingAction}
use Rattle.answers.specs.declared.LocalAsRoutingAction.TheVariants.{IngressSCMPHandleRequest, EgressSCMPHandleRequest, ForwardLocal}
use Rattle.answers.specs.declared.AsRoutingAction.{AsRoutingAction}
use Rattle.answers.specs.declared.AsRoutingAction.TheVariants.{Local, ForwardNextHop}
use Rattle.answers.specs.declared.IngressNextAction.{IngressNextAction}
use Rattle.answers.specs.declared.StandardRoutingError.{StandardRoutingError}
use Rattle.answers.specs.declared.StandardRoutingError.TheVariants.{UnsoundTable, HeaderFailed, AdvanceFailed, InvalidIngressInterface, InvalidEgressInterface, FutureTimestamp, SegmentExpired, UnknownIngressInterface, UnknownEgressInterface, InvalidMacError, InvalidSegmentChange, EgressInterfaceDown, InvalidScmpAlert}
use Rattle.answers.specs.declared.number.Values.{Values}

-- what the egress half and the whole step answer
abbrev pub StepAnswer : Type 0
StepAnswer = Result AsRoutingAction StandardRoutingError

-- what the ingress half answers
abbrev pub IngressAnswer : Type 0
IngressAnswer = Result IngressNextAction StandardRoutingError

abbrev pub advance_number : AdvanceError → ℕ
advance_number (HopOutOfBounds index) = 5
advance_number SingleHopSegment = 6
advance_number (InvalidSegmentIndex expected actual) = 7
advance_number (InfoOutOfBounds index) = 8
advance_number SegmentEnd = 18
advance_number MisplacedPeering = 28

abbrev pub refusal_number : StandardRoutingError → ℕ
refusal_number UnsoundTable = 1
refusal_number (HeaderFailed error) = header_number error
refusal_number (AdvanceFailed why) = advance_number why
refusal_number (InvalidIngressInterface hop expected found c) = 9
refusal_number (FutureTimestamp hop) = 10
refusal_number (SegmentExpired hop) = 11
refusal_number (InvalidMacError hop expected actual) = 12
refusal_number (InvalidScmpAlert hop c) = 13
refusal_number (UnknownIngressInterface hop interface c) = 14
refusal_number (UnknownEgressInterface hop interface c) = 15
refusal_number (InvalidSegmentChange hop) = 16
refusal_number (EgressInterfaceDown hop interface) = 17
refusal_number (InvalidEgressInterface hop expected found c) = 19

-- C as a number
abbrev pub flag : Bool → ℕ
flag true = 1
flag false = 0

abbrev pub advance_values : AdvanceError → List ℕ
advance_values (HopOutOfBounds index) = index ∷ []
advance_values SingleHopSegment = []
advance_values (InvalidSegmentIndex expected actual) = expected ∷ actual ∷ []
advance_values (InfoOutOfBounds index) = index ∷ []
advance_values SegmentEnd = []
advance_values MisplacedPeering = []

abbrev pub refusal_values : StandardRoutingError → List ℕ
refusal_values UnsoundTable = []
refusal_values (HeaderFailed error) = []
refusal_values (AdvanceFailed why) = advance_values why
refusal_values (InvalidIngressInterface hop expected found c) = hop ∷ expected ∷ found ∷ flag c ∷ []
refusal_values (FutureTimestamp hop) = hop ∷ []
refusal_values (SegmentExpired hop) = hop ∷ []
refusal_values (InvalidMacError hop expected actual) = hop ∷ expected ∷ actual ∷ []
refusal_values (InvalidScmpAlert hop c) = hop ∷ flag c ∷ []
refusal_values (UnknownIngressInterface hop interface c) = hop ∷ interface ∷ flag c ∷ []
refusal_values (UnknownEgressInterface hop interface c) = hop ∷ interface ∷ flag c ∷ []
refusal_values (InvalidSegmentChange hop) = hop ∷ []
refusal_values (EgressInterfaceDown hop interface) = hop ∷ interface ∷ []
refusal_values (InvalidEgressInterface hop expected found c) = hop ∷ expected ∷ found ∷ flag c ∷ []

-- values in four places, 0 in those behind the last
abbrev pub four_values : List ℕ → List ℕ
four_values values = get_or values 0 0 ∷ get_or values 1 0 ∷ get_or values 2 0 ∷ get_or values 3 0 ∷ []

-- how many there are, and the places
abbrev pub values_of : List ℕ → Values
values_of values = record { count = length values; places = four_values values }

-- ---- what is done with a packet: 01 has no numbers for it, here they are those from 101 on

abbrev pub local_number : LocalAsRoutingAction → ℕ
local_number ForwardLocal = 102
local_number (IngressSCMPHandleRequest interface) = 103
local_number (EgressSCMPHandleRequest interface) = 104

abbrev pub action_number : AsRoutingAction → ℕ
action_number (ForwardNextHop interface) = 101
action_number (Local action) = local_number action

abbrev pub local_values : LocalAsRoutingAction → List ℕ
local_values ForwardLocal = []
local_values (IngressSCMPHandleRequest interface) = interface ∷ []
local_values (EgressSCMPHandleRequest interface) = interface ∷ []

abbrev pub action_values : AsRoutingAction → List ℕ
action_values (ForwardNextHop interface) = interface ∷ []
action_values (Local action) = local_values action
