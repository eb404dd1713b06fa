-- 01, the cases with a letter, and more: each row computed from the definition that the call's contract cites.
-- Assumes nothing.
use Prim.Native.Nat.{ℕ}
use mathlib.Core.Bool.{Bool, true, false}
use mathlib.Core.List.{List, [], ◌∷◌, ◌++◌}
use mathlib.Core.Path.{◌≡◌, refl}
use lib.Dec.{eqb}
use lib.ListN.{replicate, drop}
use Rattle.std.specs.Prelude.{Result, Ok, Err}
use Rattle.hop_mac.specs.Mac.{mac_beta_step, mac_chaining_beta}
use Rattle.standard_path.specs.Meta.{set_curr_inf, set_curr_hf}
use Rattle.fields.specs.Fields.{cons_dir, seg_id, timestamp, cons_egress_alert, cons_ingress_alert, exp_time, cons_ingress, cons_egress, mac_field, travel_ingress, travel_egress, travel_ingress_alert, travel_egress_alert, expiry}
use Rattle.standard_path.specs.Header.{infos, hops, header_size, info_field, hop_field, header_check}
use Rattle.writes.specs.Writes.{set_seg_id, clear_ingress_alert}
use Rattle.standard_path.specs.declared.view.HeaderError.{HeaderError}
use Rattle.standard_path.specs.declared.view.HeaderError.TheVariants.{MetaTooShort, DataTooShort, TooManyHops}
use Rattle.segments.specs.Segments.{segments, segment_count}
use Rattle.reverse_parts.specs.Parts.{set_lengths, swap_lengths, toggle_cons_dir, toggle_cons_dirs, last_first, reverse_fields, reverse_parts}
use Rattle.reverse.specs.Reverse.{reverse_number, reversed, reverse_answer, bytes_left, reverse_bytes}
use Rattle.reverse.specs.declared.PathReverseError.{PathReverseError}
use Rattle.interface_table.specs.Table.{ids_ascending, states_sound, table_sound, state_of, link_type, is_up, is_among, pair_allowed}
use Rattle.questions.specs.Questions.{asks, all_yes}
use Rattle.validator.specs.Check.{mac_number, right_mac, key_mac, at_ingress}
use Rattle.answers.specs.Answer.{StepAnswer, IngressAnswer, refusal_number, refusal_values}
use Rattle.answers.specs.declared.LocalAsRoutingAction.TheVariants.{IngressSCMPHandleRequest, EgressSCMPHandleRequest, ForwardLocal}
use Rattle.answers.specs.declared.AsRoutingAction.TheVariants.{Local, ForwardNextHop}
use Rattle.answers.specs.declared.StandardRoutingError.TheVariants.{InvalidMacError}
use Rattle.edition.specs.declared.Edition.TheVariants.{First}
use Rattle.answers.specs.Outcome.{Outcome}
use Rattle.moves.specs.Moves.{stepped, ingress_move, egress_move}
use Rattle.ingress.specs.Ingress.{ingress_action, ingress}
use Rattle.egress.specs.Egress.{leaving_action, egress}
use Rattle.routing.specs.Step.{step_from, step}
use Rattle.edition.specs.Edition.{peering_form, peering_placed}
use Rattle.records.specs.Layout.{narrow}
use Rattle.records.specs.Records.{every, record_count, bytes_of, next_of, arrival_of, first_interface_of, key_of, interface_number_of, interface_state_of, chain_within}
use Rattle.record_rules.specs.Rules.{size_sound, next_sound, are_zero, zeros_sound, head_sound}
use Rattle.soundness.specs.Soundness.{is_no_station, interface_sound, station_sound, sound_of}
use Rattle.station.specs.Station.{Station, station_with}
use Rattle.itinerary.specs.Itinerary.{stations_of, stations, tables_sound, arrivals_fit, plan_fits, itinerary_fits}
use Rattle.journey_questions.specs.Lengths.{lengths_fit}
use Rattle.journey.specs.Check.{segment_passes, joint_passes, passes}
use Rattle.segment_check.specs.Segment.{each_below, macs_from, chained_seg_id, segment_fits}
use Rattle.hop_check.specs.Hop.{mac_fits, arrives_by, leaves_by, hop_fits}
use Rattle.journey_questions.specs.Questions.{questions, quiet}
use Rattle.journey.specs.Verdict.{journey_check}
use Rattle.journey_questions.specs.declared.answer.JourneyError.{JourneyError}
use Rattle.journey_questions.specs.declared.answer.Verdict.{Verdict}
use Rattle.journey_questions.specs.declared.answer.Verdict.TheVariants.{Passed, NotPassed}
use Rattle.journey.specs.Journey.{step_at, goes_on, journey, delivers, ended_well, arrives}
use Rattle.cases.proofs.Macs.{key, mac_down_0, mac_down_1, mac_down_2, mac_up, mac_other, mac_next, mac_last}

-- ---- the AS

-- 1 and 2 to children, 3 to a parent, each up
abbrev ids : List ℕ
ids = 1 ∷ 2 ∷ 3 ∷ []

abbrev states : List ℕ
states = 6 ∷ 6 ∷ 5 ∷ []

-- its step: path in, answer and path out
abbrev goes : ℕ → ℕ → Bool → List ℕ → Outcome StepAnswer
goes interface time unchecked path = step First ids states (key_mac key) interface time unchecked path

abbrev outcome : StepAnswer → List ℕ → Outcome StepAnswer
outcome answer bytes = record { answer = answer; bytes = bytes }

-- 01's number of a refusal, and its values; 0 for an action
abbrev refusal : StepAnswer → ℕ × List ℕ
refusal (Err why) = (refusal_number why, refusal_values why)
refusal (Ok action) = (0, [])

-- when a hop ends, from its info field and its hop field
abbrev ends : List ℕ → List ℕ → ℕ
ends info hop = expiry (timestamp info) (exp_time hop)

-- the MAC of hop h is right with the SegID of info field i
abbrev is_right : List ℕ → ℕ → ℕ → Bool
is_right path i h =
    eqb (right_mac (key_mac key) (hop_field path h) (info_field path i) (seg_id (info_field path i)))
    (mac_number (mac_field (hop_field path h)))

-- ---- what the rows compute: to unfold one of these is to unfold whatever its own line names

check : List ℕ → Result Unit HeaderError
unfolding asks infos hops header_size header_check
check path = header_check path

fields : List ℕ → ℕ → ℕ → List ℕ
unfolding check info_field hop_field cons_dir seg_id timestamp cons_egress_alert cons_ingress_alert exp_time cons_ingress cons_egress mac_field
fields path i h = info_field path i ++ hop_field path h

ended : List ℕ → List ℕ → ℕ
unfolding fields travel_ingress travel_egress travel_ingress_alert travel_egress_alert expiry mac_beta_step
ended info hop = ends info hop

sound : Bool
unfolding ids_ascending states_sound table_sound state_of link_type is_up is_among pair_allowed
sound = table_sound ids states

came : ℕ → ℕ → Bool → List ℕ → Outcome IngressAnswer
unfolding ended sound asks mac_number set_seg_id clear_ingress_alert set_curr_hf set_curr_inf stepped ingress_move ingress_action ingress
came interface time unchecked path = ingress First ids states (key_mac key) (at_ingress interface time unchecked) path

went : ℕ → ℕ → Bool → List ℕ → Outcome StepAnswer
unfolding came egress_move leaving_action egress step_from step
went interface time unchecked path = goes interface time unchecked path

-- ---- paths: MACs that are right under the key, each timestamp 1000, each ExpTime 0

-- three hops in construction direction, with byte 0, the SegID's two bytes, and the flags of hop 1
abbrev down : ℕ → ℕ → ℕ → ℕ → List ℕ
down first high low flags =
    first ∷ 0x00 ∷ 0x30 ∷ 0x00
    ∷ 0x01 ∷ 0x00 ∷ high ∷ low ∷ 0x00 ∷ 0x00 ∷ 0x03 ∷ 0xe8
    ∷ 0x00 ∷ 0x00 ∷ 0x00 ∷ 0x00 ∷ 0x00 ∷ 0x01 ∷ 0x4a ∷ 0x2b ∷ 0x72 ∷ 0x55 ∷ 0xb9 ∷ 0xe6
    ∷ flags ∷ 0x00 ∷ 0x00 ∷ 0x03 ∷ 0x00 ∷ 0x01 ∷ 0xe7 ∷ 0x64 ∷ 0xaa ∷ 0x6d ∷ 0x19 ∷ 0x95
    ∷ 0x00 ∷ 0x00 ∷ 0x00 ∷ 0x03 ∷ 0x00 ∷ 0x00 ∷ 0x58 ∷ 0x01 ∷ 0x82 ∷ 0x2b ∷ 0x49 ∷ 0x2e
    ∷ []

-- behind the meta word two info fields, with the two bytes of each SegID, and two hops against construction, two in it
abbrev up_down : ℕ → ℕ → ℕ → ℕ → List ℕ
up_down high low next_high next_low =
    0x00 ∷ 0x00 ∷ high ∷ low ∷ 0x00 ∷ 0x00 ∷ 0x03 ∷ 0xe8
    ∷ 0x01 ∷ 0x00 ∷ next_high ∷ next_low ∷ 0x00 ∷ 0x00 ∷ 0x03 ∷ 0xe8
    ∷ 0x00 ∷ 0x00 ∷ 0x00 ∷ 0x03 ∷ 0x00 ∷ 0x00 ∷ 0xd7 ∷ 0x6a ∷ 0x69 ∷ 0x73 ∷ 0xd3 ∷ 0xd5
    ∷ 0x00 ∷ 0x00 ∷ 0x00 ∷ 0x00 ∷ 0x00 ∷ 0x01 ∷ 0xcd ∷ 0x58 ∷ 0xe7 ∷ 0x46 ∷ 0x99 ∷ 0x56
    ∷ 0x00 ∷ 0x00 ∷ 0x00 ∷ 0x00 ∷ 0x00 ∷ 0x02 ∷ 0x2d ∷ 0xbd ∷ 0x56 ∷ 0x96 ∷ 0x1a ∷ 0x64
    ∷ 0x00 ∷ 0x00 ∷ 0x00 ∷ 0x03 ∷ 0x00 ∷ 0x00 ∷ 0x82 ∷ 0x1f ∷ 0x02 ∷ 0xe2 ∷ 0x2e ∷ 0xc3
    ∷ []

-- ---- the paths of b, c, h, i, j; of k and l, the same hops, two against construction and three in it; of the segment change

abbrev path_b : ℕ → List ℕ
path_b more = 0x00 ∷ 0x00 ∷ 0x20 ∷ 0x02 ∷ replicate more 0

abbrev path_c : ℕ → ℕ → List ℕ
path_c last more = 0x00 ∷ 0x01 ∷ 0x65 ∷ last ∷ replicate more 0

abbrev path_h : List ℕ
path_h = 0x82 ∷ 0x00 ∷ 0x20 ∷ 0x02 ∷ up_down 0x9b 0x20 0x9a 0xbc

abbrev path_i : List ℕ
path_i = 0x41 ∷ 0x00 ∷ 0x00 ∷ 0x82 ∷ up_down 0x9b 0x20 0x9a 0xbc

abbrev path_j : List ℕ
path_j =
    0x00 ∷ 0x00 ∷ 0x10 ∷ 0x00
    ∷ 0x01 ∷ 0x00 ∷ 0x12 ∷ 0x34 ∷ 0x00 ∷ 0x00 ∷ 0x03 ∷ 0xe8
    ∷ 0x00 ∷ 0x00 ∷ 0x00 ∷ 0x00 ∷ 0x00 ∷ 0x01 ∷ 0x4a ∷ 0x2b ∷ 0x72 ∷ 0x55 ∷ 0xb9 ∷ 0xe6
    ∷ []

abbrev info_of : ℕ → ℕ → ℕ → List ℕ
info_of flags high low = flags ∷ 0x00 ∷ high ∷ low ∷ 0x00 ∷ 0x00 ∷ 0x03 ∷ 0xe8 ∷ []

abbrev hop_of_lem : ℕ → ℕ → List ℕ → List ℕ
hop_of_lem into out mac = 0x00 ∷ 0x00 ∷ 0x00 ∷ into ∷ 0x00 ∷ out ∷ mac

abbrev up_0 : List ℕ
up_0 = hop_of_lem 3 0 (0xd7 ∷ 0x6a ∷ 0x69 ∷ 0x73 ∷ 0xd3 ∷ 0xd5 ∷ [])

abbrev up_1 : List ℕ
up_1 = hop_of_lem 0 1 (0xcd ∷ 0x58 ∷ 0xe7 ∷ 0x46 ∷ 0x99 ∷ 0x56 ∷ [])

abbrev down_0 : List ℕ
down_0 = hop_of_lem 0 1 (0x4a ∷ 0x2b ∷ 0x72 ∷ 0x55 ∷ 0xb9 ∷ 0xe6 ∷ [])

abbrev down_1 : List ℕ
down_1 = hop_of_lem 3 1 (0xe7 ∷ 0x64 ∷ 0xaa ∷ 0x6d ∷ 0x19 ∷ 0x95 ∷ [])

abbrev down_2 : List ℕ
down_2 = hop_of_lem 3 0 (0x58 ∷ 0x01 ∷ 0x82 ∷ 0x2b ∷ 0x49 ∷ 0x2e ∷ [])

abbrev forth : List ℕ
forth = info_of 0x00 0x9b 0x20 ++ (info_of 0x01 0x58 0x1f ++ (up_0 ++ (up_1 ++ (down_0 ++ (down_1 ++ down_2)))))

abbrev back : List ℕ
back = info_of 0x00 0x58 0x1f ++ (info_of 0x01 0x9b 0x20 ++ (down_2 ++ (down_1 ++ (down_0 ++ (up_1 ++ up_0)))))

-- 01's number of a reversal that failed; 0 for one that did not
abbrev failure : Result Unit PathReverseError → ℕ
failure (Err why) = reverse_number why
failure (Ok done) = 0

turned : List ℕ → List ℕ
unfolding check set_curr_hf set_curr_inf segments segment_count set_lengths swap_lengths toggle_cons_dir toggle_cons_dirs last_first reverse_fields reverse_parts reversed reverse_answer bytes_left reverse_bytes
turned path = reverse_bytes path

abbrev changing : ℕ → List ℕ → List ℕ
changing first rest = first ∷ 0x00 ∷ 0x20 ∷ 0x80 ∷ rest

-- ---- a journey of two stations, each with the same key

-- a station's record: its next, its arrival interface, its first interface record; and an interface's: its number and its state
abbrev station_record : ℕ → ℕ → ℕ → List ℕ
station_record next arrival interfaces = 0x00 ∷ next ∷ 0x00 ∷ arrival ∷ 0x00 ∷ interfaces ∷ 0x00 ∷ 0x00 ∷ (key ++ replicate 8 0)

abbrev interface_record : ℕ → ℕ → List ℕ
interface_record number state = 0x00 ∷ 0x00 ∷ 0x00 ∷ number ∷ state ∷ replicate 27 0

-- from an AS with a child at 1, down to one with a parent at 3, both links up
abbrev plan : List ℕ
plan =
    0x00 ∷ 0x01 ∷ (replicate 30 0
    ++ (station_record 0x02 0x00 0x03 ++ (station_record 0x00 0x03 0x04 ++ (interface_record 0x01 0x06 ++ interface_record 0x03 0x05))))

-- (2,0,0) in construction direction, with the last byte of the last MAC
abbrev two_hops : ℕ → List ℕ
two_hops last =
    0x00 ∷ 0x00 ∷ 0x20 ∷ 0x00
    ∷ 0x01 ∷ 0x00 ∷ 0x12 ∷ 0x34 ∷ 0x00 ∷ 0x00 ∷ 0x03 ∷ 0xe8
    ∷ 0x00 ∷ 0x00 ∷ 0x00 ∷ 0x00 ∷ 0x00 ∷ 0x01 ∷ 0x4a ∷ 0x2b ∷ 0x72 ∷ 0x55 ∷ 0xb9 ∷ 0xe6
    ∷ 0x00 ∷ 0x00 ∷ 0x00 ∷ 0x03 ∷ 0x00 ∷ 0x00 ∷ 0xd1 ∷ 0x46 ∷ 0x0c ∷ 0xe3 ∷ 0xb1 ∷ last
    ∷ []

-- between 1000 and 1337: whether 2 to 4 and 23 to 25 let it through; whether it arrives, read early at one station and late at the other; the check
abbrev let_through : List ℕ → Bool
let_through path = all_yes (questions First narrow plan 1000 1337 path)

abbrev gets_there : List ℕ → Bool
gets_there path = arrives (step_at First) (stations narrow plan) (1000 ∷ 1337 ∷ []) path

abbrev checked : List ℕ → Result Verdict JourneyError
checked path = journey_check First narrow plan 1000 1337 path

-- the two stations
upper : Station
upper = record { arrival = 0; key = key; ids = 1 ∷ []; states = 6 ∷ [] }

lower : Station
lower = record { arrival = 3; key = key; ids = 3 ∷ []; states = 5 ∷ [] }

planned : Bool
unfolding every record_count bytes_of next_of arrival_of first_interface_of key_of interface_number_of interface_state_of chain_within size_sound next_sound are_zero zeros_sound is_no_station interface_sound station_sound head_sound sound_of station_with stations_of tables_sound arrivals_fit plan_fits itinerary_fits
planned = itinerary_fits narrow plan 2

asked : List ℕ → Result Verdict JourneyError
unfolding came planned all_yes quiet each_below upper lower journey_check
asked path = checked path

compared : List ℕ → Bool
unfolding came each_below upper lower peering_form peering_placed mac_chaining_beta lengths_fit macs_from chained_seg_id mac_fits arrives_by leaves_by hop_fits segment_fits segment_passes joint_passes passes
compared path = passes First (upper ∷ lower ∷ []) 1000 1337 path

stations_are : stations narrow plan ≡ upper ∷ lower ∷ []
unfolding planned upper lower
stations_are = refl

-- what each does
abbrev passed_on : ℕ → List ℕ
passed_on last = 0x01 ∷ 0x00 ∷ 0x20 ∷ 0x00 ∷ 0x01 ∷ 0x00 ∷ 0x58 ∷ 0x1f ∷ drop 8 (two_hops last)

at_upper : (last : ℕ) → step_at First upper 1000 (two_hops last) ≡ outcome (Ok (ForwardNextHop 1)) (passed_on last)
unfolding went step_at upper
at_upper last = rw mac_down_0 (rw mac_down_0)

at_lower : step_at First lower 1337 (passed_on 0x15) ≡ outcome (Ok (Local ForwardLocal)) (passed_on 0x15)
unfolding went step_at lower
at_lower = rw mac_last

refused_at_lower : step_at First lower 1337 (passed_on 0x16) ≡ outcome (Err (InvalidMacError 1 0xd1460ce3b115 0xd1460ce3b116)) (passed_on 0x16)
unfolding went step_at lower
refused_at_lower = rw mac_last

-- what the check holds against them
check_passes : passes First (upper ∷ lower ∷ []) 1000 1337 (two_hops 0x15) ≡ true
unfolding compared
check_passes = rw (mac_down_0, mac_last)

check_fails : passes First (upper ∷ lower ∷ []) 1000 1337 (two_hops 0x16) ≡ false
unfolding compared
check_fails = rw (mac_down_0, mac_last)

there : gets_there (two_hops 0x15) ≡ true
unfolding goes_on journey delivers ended_well arrives
there = rw (stations_are, at_upper 0x15, at_lower)

not_there : gets_there (two_hops 0x16) ≡ false
unfolding goes_on journey delivers ended_well arrives
not_there = rw (stations_are, at_upper 0x16, refused_at_lower)

-- ---- the table: a to l, and more, so that no step passes that drops all, delivers all or never moves

pub record Table : Type 0 where
  -- (0,0,0) needs 4 bytes
  pub row_a : (header_size (replicate 4 0) ≡ 4) × (header_check (replicate 4 0) ≡ Ok tt) × (header_check (replicate 3 0) ≡ Err MetaTooShort)
  -- (2,0,2) needs 68
  pub row_b : (header_size (path_b 64) ≡ 68) × (header_check (path_b 64) ≡ Ok tt) × (header_check (path_b 63) ≡ Err DataTooShort)
  -- (22,21,21) needs 796; (22,21,22) in 808 bytes gives 4
  pub row_c : (interface time : ℕ) (unchecked : Bool)
      → (header_size (path_c 0x55 792) ≡ 796)
      × (header_check (path_c 0x55 792) ≡ Ok tt)
      × (header_check (path_c 0x55 791) ≡ Err DataTooShort)
      × (header_check (path_c 0x56 804) ≡ Err TooManyHops)
      × (refusal (goes interface time unchecked (path_c 0x56 804)).answer ≡ (4, []))
      × ((goes interface time unchecked (path_c 0x56 804)).bytes ≡ path_c 0x56 804)
  -- timestamp 1000, ExpTime 0: expiry 1337; now 1337 goes, 1338 gives 11
  pub row_d : (ends (info_field (down 0x01 0x58 0x1f 0x00) 0) (hop_field (down 0x01 0x58 0x1f 0x00) 1) ≡ 1337)
      × ((goes 3 1337 false (down 0x01 0x58 0x1f 0x00)).answer ≡ Ok (ForwardNextHop 1))
      × (refusal (goes 3 1338 false (down 0x01 0x58 0x1f 0x00)).answer ≡ (11, 1 ∷ []))
      × ((goes 3 1338 false (down 0x01 0x58 0x1f 0x00)).bytes ≡ down 0x01 0x58 0x1f 0x00)
  -- timestamp 1000, ExpTime 255: 87400
  pub row_e : (rest : List ℕ) → ends (0x01 ∷ 0x00 ∷ 0x12 ∷ 0x34 ∷ 0x00 ∷ 0x00 ∷ 0x03 ∷ 0xe8 ∷ []) (0x00 ∷ 0xff ∷ rest) ≡ 87400
  -- timestamp 4294967000, ExpTime 0: 4294967295
  pub row_f : (rest : List ℕ) → ends (0x01 ∷ 0x00 ∷ 0x12 ∷ 0x34 ∷ 0xff ∷ 0xff ∷ 0xfe ∷ 0xd8 ∷ []) (0x00 ∷ 0x00 ∷ rest) ≡ 4294967295
  -- SegID 1234 hex, MAC starting ab cd hex: b9f9
  pub row_g : (rest : List ℕ) → mac_beta_step 0x1234 (0xab ∷ 0xcd ∷ rest) ≡ 0xb9f9
  -- (2,0,2), CurrHF 2, CurrINF 2: 8 with 2
  pub row_h : (interface time : ℕ) (unchecked : Bool)
      → (is_right path_h 1 2 ≡ true)
      × (refusal (goes interface time unchecked path_h).answer ≡ (8, 2 ∷ []))
      × ((goes interface time unchecked path_h).bytes ≡ path_h)
  -- (0,2,2), CurrHF 1, CurrINF 1, wrong MAC: 8 with 2
  pub row_i : (interface time : ℕ)
      → (is_right path_i 1 1 ≡ false)
      × (refusal (goes interface time false path_i).answer ≡ (8, 2 ∷ []))
      × ((goes interface time false path_i).bytes ≡ path_i)
  -- (1,0,0), CurrHF 0: 6
  pub row_j : (interface time : ℕ) (unchecked : Bool)
      → (is_right path_j 0 0 ≡ true)
      × (refusal (goes interface time unchecked path_j).answer ≡ (6, []))
      × ((goes interface time unchecked path_j).bytes ≡ path_j)
  -- (2,3,0), CurrHF 1, CurrINF 0, reversed: (3,2,0), CurrHF 3, CurrINF 1
  pub row_k : (reverse_answer (0x01 ∷ 0x00 ∷ 0x20 ∷ 0xc0 ∷ forth) ≡ Ok tt)
      × (reverse_bytes (0x01 ∷ 0x00 ∷ 0x20 ∷ 0xc0 ∷ forth) ≡ 0x43 ∷ 0x00 ∷ 0x30 ∷ 0x80 ∷ back)
  -- (2,3,0), CurrHF 5: 21, lengths (3,2,0)
  pub row_l : (failure (reverse_answer (0x05 ∷ 0x00 ∷ 0x20 ∷ 0xc0 ∷ forth)) ≡ 21)
      × (reverse_bytes (0x05 ∷ 0x00 ∷ 0x20 ∷ 0xc0 ∷ forth) ≡ 0x05 ∷ 0x00 ∷ 0x30 ∷ 0x80 ∷ forth)
  -- a path forwarded: SegID stepped, CurrHF from 1 to 2
  pub row_forwarded : goes 3 1337 false (down 0x01 0x58 0x1f 0x00) ≡ outcome (Ok (ForwardNextHop 1)) (down 0x02 0xbf 0x7b 0x00)
  -- one delivered, unchanged
  pub row_delivered : goes 3 1337 false (down 0x02 0xbf 0x7b 0x00) ≡ outcome (Ok (Local ForwardLocal)) (down 0x02 0xbf 0x7b 0x00)
  -- a segment change gone through, from child to child: both SegIDs stepped, CurrINF from 0 to 1, CurrHF from 1 to 3
  pub row_change : goes 1 1337 false (changing 0x01 (up_down 0x9b 0x20 0x9a 0xbc))
      ≡ outcome (Ok (ForwardNextHop 2)) (changing 0x43 (up_down 0x56 0x78 0xb7 0x01))
  -- an ingress alert handled: cleared, and the packet goes no further
  pub row_ingress_alert : goes 3 1337 false (down 0x01 0x58 0x1f 0x02)
      ≡ outcome (Ok (Local (IngressSCMPHandleRequest 3))) (down 0x01 0x58 0x1f 0x00)
  -- an egress alert handled: cleared, and the path is moved as for one forwarded
  pub row_egress_alert : goes 3 1337 false (down 0x01 0x58 0x1f 0x01)
      ≡ outcome (Ok (Local (EgressSCMPHandleRequest 1))) (down 0x02 0xbf 0x7b 0x00)
  -- a journey: let through, it arrives, and the check passes it
  pub row_arrives : (let_through (two_hops 0x15) ≡ true) × (gets_there (two_hops 0x15) ≡ true) × (checked (two_hops 0x15) ≡ Ok Passed)
  -- with another last MAC: let through, it does not arrive, and the check does not pass it
  pub row_fails : (let_through (two_hops 0x16) ≡ true) × (gets_there (two_hops 0x16) ≡ false) × (checked (two_hops 0x16) ≡ Ok NotPassed)

pub table : Table
unfolding went turned asked
table = record {
  row_a = (refl, refl, refl);
  row_b = (refl, refl, refl);
  row_c = λ interface time unchecked. (refl, refl, refl, refl, refl, refl);
  row_d = (refl, rw mac_down_1 (rw mac_down_1), refl, refl);
  row_e = λ rest. refl;
  row_f = λ rest. refl;
  row_g = λ rest. refl;
  row_h = λ interface time unchecked. (rw mac_next, refl, refl);
  row_i = λ interface time. (rw mac_other, refl, refl);
  row_j = λ interface time unchecked. (rw mac_down_0, refl, refl);
  row_k = (refl, refl);
  row_l = (refl, refl);
  row_forwarded = rw mac_down_1 (rw mac_down_1);
  row_delivered = rw mac_down_2;
  row_change = rw (mac_up, mac_next) (rw mac_next);
  row_ingress_alert = rw mac_down_1;
  row_egress_alert = rw mac_down_1 (rw mac_down_1);
  row_arrives = (refl, there, rw check_passes);
  row_fails = (refl, not_there, rw check_fails);
}
