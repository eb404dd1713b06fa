-- F-6: rows computed from the definitions. MACs are ignored, so each row holds for every MAC function.
-- Assumes nothing.
use Prim.Native.Nat.{ℕ}
use mathlib.Core.Bool.{Bool, true}
use mathlib.Core.List.{List, [], ◌∷◌, ◌++◌}
use mathlib.Core.Path.{◌≡◌, refl}
use Rattle.std.specs.Prelude.{Result, Ok, Err}
use Rattle.hop_mac.specs.Mac.{mac_beta_step}
use Rattle.standard_path.specs.Meta.{set_curr_inf, set_curr_hf}
use Rattle.fields.specs.Fields.{cons_dir, peering, seg_id, timestamp, cons_egress_alert, cons_ingress_alert, exp_time, cons_ingress, cons_egress, mac_field, travel_ingress, travel_egress, travel_ingress_alert, travel_egress_alert, expiry}
use Rattle.standard_path.specs.Header.{infos, hops, header_size, info_field, hop_field}
use Rattle.writes.specs.Writes.{set_seg_id, clear_ingress_alert}
use Rattle.interface_table.specs.Table.{ids_ascending, states_sound, table_sound, state_of, link_type, is_up, is_among, pair_allowed}
use Rattle.questions.specs.Questions.{asks}
use Rattle.validator.specs.Check.{MacFunction, at_ingress, at_egress}
use Rattle.answers.specs.Answer.{StepAnswer, IngressAnswer, refusal_number, refusal_values}
use Rattle.answers.specs.declared.StandardRoutingError.{StandardRoutingError}
use Rattle.answers.specs.declared.LocalAsRoutingAction.TheVariants.{ForwardLocal}
use Rattle.answers.specs.declared.AsRoutingAction.TheVariants.{Local, ForwardNextHop}
use Rattle.answers.specs.declared.IngressNextAction.TheVariants.{ContinueEgress}
use Rattle.edition.specs.declared.Edition.{Edition}
use Rattle.edition.specs.declared.Edition.TheVariants.{First, Second}
use Rattle.answers.specs.Outcome.{Outcome}
use Rattle.edition.specs.Edition.{peering_form, peering_placed}
use Rattle.moves.specs.Moves.{stepped, ingress_move, egress_move}
use Rattle.ingress.specs.Ingress.{ingress_action, ingress}
use Rattle.egress.specs.Egress.{leaving_action, egress}
use Rattle.routing.specs.Step.{step_from, step}

abbrev ids : List ℕ
ids = 1 ∷ 2 ∷ []

-- a child and a peer, up
abbrev states : List ℕ
states = 6 ∷ 7 ∷ []

-- ---- what the rows compute

fields : List ℕ → ℕ → ℕ → List ℕ
unfolding infos hops header_size info_field hop_field cons_dir peering seg_id timestamp cons_egress_alert cons_ingress_alert exp_time cons_ingress cons_egress mac_field travel_ingress travel_egress travel_ingress_alert travel_egress_alert expiry mac_beta_step
fields path i h = info_field path i ++ hop_field path h

sound : Bool
unfolding ids_ascending states_sound table_sound state_of link_type is_up is_among pair_allowed
sound = table_sound ids states

-- the three calls on a path: interface, path
abbrev enters : MacFunction → Edition → ℕ → List ℕ → Outcome IngressAnswer
enters mac edition interface path = ingress edition ids states mac (at_ingress interface 1100 true) path

abbrev leaves : MacFunction → Edition → ℕ → List ℕ → Outcome StepAnswer
leaves mac edition interface path = egress edition ids states mac (at_egress interface 1100 true) path

abbrev goes : MacFunction → Edition → ℕ → List ℕ → Outcome StepAnswer
goes mac edition interface path = step edition ids states mac interface 1100 true path

went : MacFunction → Edition → ℕ → List ℕ → Outcome StepAnswer
unfolding fields sound asks set_seg_id clear_ingress_alert set_curr_hf set_curr_inf stepped ingress_move ingress_action ingress peering_form peering_placed egress_move leaving_action egress step_from step
went mac edition interface path = goes mac edition interface path

abbrev number : {A : Type 0} → Result A StandardRoutingError → ℕ × List ℕ
number (Err why) = (refusal_number why, refusal_values why)
number (Ok action) = (0, [])

-- ---- paths

-- an info field: flags (C 1, P 2), SegID
abbrev info : ℕ → ℕ → ℕ → List ℕ
info flags high low = flags ∷ 0x00 ∷ high ∷ low ∷ 0x00 ∷ 0x00 ∷ 0x03 ∷ 0xe8 ∷ []

-- ConsIngress 2, ConsEgress 1, a MAC that starts ab cd
abbrev hop : List ℕ
hop = 0x00 ∷ 0x3f ∷ 0x00 ∷ 0x02 ∷ 0x00 ∷ 0x01 ∷ 0xab ∷ 0xcd ∷ 0x00 ∷ 0x00 ∷ 0x00 ∷ 0x00 ∷ []

-- (1,1,0): byte 0, flags
abbrev one_one : ℕ → ℕ → ℕ → List ℕ
one_one first flags0 flags1 = first ∷ 0x00 ∷ 0x10 ∷ 0x40 ∷ (info flags0 0x12 0x34 ++ (info flags1 0x56 0x78 ++ (hop ++ hop)))

-- (2,2,0): byte 0, flags, SegIDs
abbrev two_two : ℕ → ℕ → ℕ → ℕ → ℕ → ℕ → ℕ → List ℕ
two_two first flags0 high0 low0 flags1 high1 low1 =
    first ∷ 0x00 ∷ 0x20 ∷ 0x80 ∷ (info flags0 high0 low0 ++ (info flags1 high1 low1 ++ (hop ++ (hop ++ (hop ++ hop)))))

-- (2,0,0)
abbrev two : ℕ → ℕ → List ℕ
two first flags = first ∷ 0x00 ∷ 0x20 ∷ 0x00 ∷ (info flags 0x12 0x34 ++ (hop ++ hop))

module _ (mac : MacFunction) where
  -- ---- (1,1,0) with P in both: hop 0 from local hosts is forwarded, both indices up, no SegID stepped, C clear and set

  pub row_first_clear : goes mac Second 0 (one_one 0x00 2 2) ≡ record { answer = Ok (ForwardNextHop 2); bytes = one_one 0x41 2 2 }
  unfolding went
  row_first_clear = refl

  pub row_first_set : goes mac Second 0 (one_one 0x00 3 3) ≡ record { answer = Ok (ForwardNextHop 1); bytes = one_one 0x41 3 3 }
  unfolding went
  row_first_set = refl

  -- ingress alone, from outside: no beta step, no change
  pub row_ingress_clear : enters mac Second 1 (one_one 0x00 2 2) ≡ record { answer = Ok (ContinueEgress 2); bytes = one_one 0x00 2 2 }
  unfolding went
  row_ingress_clear = refl

  pub row_ingress_set : enters mac Second 2 (one_one 0x00 3 3) ≡ record { answer = Ok (ContinueEgress 1); bytes = one_one 0x00 3 3 }
  unfolding went
  row_ingress_set = refl

  -- in the first edition it is 6
  pub row_first_edition : (number (enters mac First 1 (one_one 0x00 2 2)).answer ≡ (6, []))
      × (number (leaves mac First 2 (one_one 0x00 2 2)).answer ≡ (18, []))
  unfolding went
  row_first_edition = (refl, refl)

  -- hop 1, from outside: delivered, no beta step
  pub row_second : (goes mac Second 1 (one_one 0x41 2 2) ≡ record { answer = Ok (Local ForwardLocal); bytes = one_one 0x41 2 2 })
      × (goes mac Second 2 (one_one 0x41 3 3) ≡ record { answer = Ok (Local ForwardLocal); bytes = one_one 0x41 3 3 })
  unfolding went
  row_second = (refl, refl)

  -- egress alone at the first peering hop: 19 moves both indices all the same
  pub row_egress_19 : (number (leaves mac Second 9 (one_one 0x00 2 2)).answer ≡ (19, 0 ∷ 9 ∷ 2 ∷ 0 ∷ []))
      × ((leaves mac Second 9 (one_one 0x00 2 2)).bytes ≡ one_one 0x41 2 2)
      × ((leaves mac Second 9 (one_one 0x00 3 3)).bytes ≡ one_one 0x41 3 3)
  unfolding went
  row_egress_19 = (refl, refl, refl)

  -- egress at the last hop of the path stays 5
  pub row_egress_last : (number (leaves mac Second 2 (one_one 0x41 2 2)).answer ≡ (5, 2 ∷ []))
      × ((leaves mac Second 2 (one_one 0x41 2 2)).bytes ≡ one_one 0x41 2 2)
  unfolding went
  row_egress_last = (refl, refl)

  -- ---- (2,2,0) with P in both, C set: a beta step at hop 0, none at hops 1 and 2

  pub row_hop_0 : goes mac Second 0 (two_two 0x00 3 0x12 0x34 3 0x56 0x78)
      ≡ record { answer = Ok (ForwardNextHop 1); bytes = two_two 0x01 3 0xb9 0xf9 3 0x56 0x78 }
  unfolding went
  row_hop_0 = refl

  pub row_hop_1 : goes mac Second 2 (two_two 0x01 3 0xb9 0xf9 3 0x56 0x78)
      ≡ record { answer = Ok (ForwardNextHop 1); bytes = two_two 0x42 3 0xb9 0xf9 3 0x56 0x78 }
  unfolding went
  row_hop_1 = refl

  pub row_hop_2 : goes mac Second 2 (two_two 0x42 3 0xb9 0xf9 3 0x56 0x78)
      ≡ record { answer = Ok (ForwardNextHop 1); bytes = two_two 0x43 3 0xb9 0xf9 3 0x56 0x78 }
  unfolding went
  row_hop_2 = refl

  -- C clear: none at hops 1 and 2, a beta step at hop 3
  pub row_hop_1_clear : goes mac Second 1 (two_two 0x01 2 0x12 0x34 2 0x56 0x78)
      ≡ record { answer = Ok (ForwardNextHop 2); bytes = two_two 0x42 2 0x12 0x34 2 0x56 0x78 }
  unfolding went
  row_hop_1_clear = refl

  pub row_hop_2_clear : goes mac Second 1 (two_two 0x42 2 0x12 0x34 2 0x56 0x78)
      ≡ record { answer = Ok (ForwardNextHop 2); bytes = two_two 0x43 2 0x12 0x34 2 0x56 0x78 }
  unfolding went
  row_hop_2_clear = refl

  pub row_hop_3_clear : goes mac Second 1 (two_two 0x43 2 0x12 0x34 2 0x56 0x78)
      ≡ record { answer = Ok (Local ForwardLocal); bytes = two_two 0x43 2 0x12 0x34 2 0xfd 0xb5 }
  unfolding went
  row_hop_3_clear = refl

  -- ---- 28

  pub row_28 : (interface : ℕ)
      → (number (goes mac Second interface (two 0x00 3)).answer ≡ (28, []))
      × ((goes mac Second interface (two 0x00 3)).bytes ≡ two 0x00 3)
      × (number (leaves mac Second interface (two 0x00 3)).answer ≡ (28, []))
      × ((leaves mac Second interface (two 0x00 3)).bytes ≡ two 0x00 3)
      × ((goes mac First 0 (two 0x00 3)).answer ≡ Ok (ForwardNextHop 1))
  unfolding went
  row_28 interface = (refl, refl, refl, refl, refl)

  -- P in one of two; and behind 6 where the segment has one hop
  pub row_28_one : (interface : ℕ) → (number (goes mac Second interface (two_two 0x00 1 0x12 0x34 3 0x56 0x78)).answer ≡ (28, []))
      × (number (goes mac Second interface (one_one 0x00 1 3)).answer ≡ (6, []))
  unfolding went
  row_28_one interface = (refl, refl)
