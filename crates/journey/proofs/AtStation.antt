-- The step at a station has the laws that a journey's proof takes of it.
-- Assumes nothing.
use mathlib.Core.Path.{◌≡◌, refl, ap, sym, ◌∙◌}
use mathlib.Core.Bool.{Bool, true, false, ◌&&◌, and-false, and-true, false≢true}
use mathlib.Core.List.{List, ◌++◌}
use mathlib.Core.Logic.{◌⊎◌, inl, inr, ⊎_elim}
use Prim.Native.Nat.{ℕ, ◌+◌, ◌<◌}
use native.Mathlib.Omega.{arith}
use borrow.Author.Tests.{le-leb}
use lib.Dec.{leb}
use Rattle.std.specs.Prelude.{Option, Some, None, Ok, Err}
use Rattle.questions.proofs.Asked.{yes_append}
use Rattle.questions.specs.Questions.{all_yes}
use Rattle.octets.proofs.Bools.{both, each_of}
use Rattle.standard_path.specs.Meta.{curr_inf, curr_hf}
use Rattle.standard_path.specs.Header.{hops, info_field}
use Rattle.standard_path.proofs.Kept.{kept_self}
use Rattle.interface_table.specs.Table.{state_of, table_sound}
use Rattle.validator.specs.Check.{is_listed, is_up_listed, key_mac}
use Rattle.answers.specs.declared.StandardRoutingError.{StandardRoutingError}
use Rattle.answers.specs.declared.LocalAsRoutingAction.TheVariants.{ForwardLocal}
use Rattle.answers.specs.declared.AsRoutingAction.TheVariants.{Local, ForwardNextHop}
use Rattle.answers.specs.Answer.{StepAnswer}
use Rattle.edition.specs.declared.Edition.{Edition}
use Rattle.edition.specs.Edition.{peering_path, peering_fits, peering_questions}
use Rattle.edition.proofs.Peering.{fits_valid}
use Rattle.answers.proofs.Asked.{goes_on_lem}
use Rattle.answers.specs.Outcome.{Outcome}
use Rattle.routing.proofs.Inside.{inside_questions}
use Rattle.routing_laws.proofs.Whole.{step_asks}
use Rattle.moves.specs.Moves.{egress_move}
use Rattle.station.specs.Station.{Station}
use Rattle.hop_check.specs.Hop.{leaves_by}
use Rattle.segment_check.specs.Segment.{start_of, count_of, hop_of}
use Rattle.journey.specs.Journey.{step_at, goes_on, delivers}
use Rattle.journey.proofs.Yes.{yes_valid, through, passed_through}
use Rattle.journey.proofs.Stands.{Stands, arriving_seg_id, leaves, leaves_over}
use Rattle.journey.proofs.Hops.{Hop, Onward, inner, over, next_segment, next_place, Kind, middle, last, joint, inner_stays, over_crosses, over_peer, over_before, inside_first, start_next, next_in_header, before_end}
use Rattle.journey.proofs.Steps.{Given, Reached, before_asked, hop_tests, link_tests, leaving_tests, way_of, change_tests, entered_at, crossed_at, forwarded, inside_then, leaving_then, middle_step, last_step, joint_step, inside, quiet_here, stands_after, quiet_next, behind, stands_crossed}
use Rattle.journey.proofs.FirstStation.{first_three, eights, begun, eights_yes, first_hop}
use Rattle.journey.proofs.Stops.{stop_numbers, refused_with, first_refused, peering_refused, Or, or_through}
use Rattle.journey.proofs.Laws.{hop_good, way_good, change_good, Answered, Laws, Crossing, crossing}

up_is_listed : (listed : Option ℕ) → (is_listed listed && (is_up_listed listed && true)) ≡ is_up_listed listed
up_is_listed (Some state) = and-true _
up_is_listed None = refl

leaving_yes : (path : List ℕ) (station : Station) (t m : ℕ) (after : List ℕ)
    → all_yes (leaving_tests path station t m after) ≡ leaves_by station (info_field path t) (hop_of path t m)
unfolding all_yes leaves_by
leaving_yes path station t m after = up_is_listed (state_of station.ids station.states (way_of path t m))

refused_not_on : (why : StandardRoutingError) → goes_on (Err why) ≡ false
unfolding goes_on
refused_not_on why = refl

refused_not_delivered : (why : StandardRoutingError) → delivers (Err why) ≡ false
unfolding delivers
refused_not_delivered why = refl

-- what a test decides: where it says no, the answer is a refusal
unless : (edition : Edition) (holds : StepAnswer → Bool) (answer : StepAnswer) {test : Bool} → holds answer ≡ test
    → Or edition holds answer → test ≡ false → refused_with (stop_numbers edition) answer ≡ true
unless edition holds answer e either fails = ⊎_elim (λ held. absurd (false≢true (sym fails ∙ sym e ∙ held))) (λ refused. refused) either

-- ---- the answer, and where the path stands after it

module _ {edition : Edition} {path mid : List ℕ} {t m : ℕ} (g : Given path)
    (s : Stands edition path mid t m (arriving_seg_id edition path t m)) (h : Hop edition path t m)
    {station : Station} (r : Reached station (start_of path t + m)) (reading : ℕ) where
  -- where the next hop lies in the segment, or over the peering link
  module _ (more : Onward edition path t m) where
    abbrev entered : List ℕ
    entered = entered_at edition mid station

    abbrev onward : Outcome StepAnswer
    onward = forwarded edition path t m entered

    abbrev leaving_on : Outcome StepAnswer
    leaving_on = leaving_then path station t m entered onward

    middle_through : (holds : StepAnswer → Bool) (none : (why : StandardRoutingError) → holds (Err why) ≡ false)
        → holds (step_at edition station reading mid).answer
        ≡ (hop_good edition path station reading t m && (way_good path station t m && holds (Ok (ForwardNextHop (way_of path t m)))))
    middle_through holds none =
        ap (λ (o : Outcome StepAnswer). holds o.answer) (middle_step g s h r reading more)
        ∙ through holds none (hop_tests edition path station reading t m) entered leaving_on
        ∙ ap (λ (b : Bool). hop_good edition path station reading t m && b)
        (through holds none (leaving_tests path station t m entered) entered onward
        ∙ ap (λ (b : Bool). b && holds (Ok (ForwardNextHop (way_of path t m)))) (leaving_yes path station t m entered))

    middle_on : goes_on (step_at edition station reading mid).answer ≡ (hop_good edition path station reading t m && way_good path station t m)
    unfolding goes_on
    middle_on =
        middle_through goes_on refused_not_on ∙ ap (λ (b : Bool). hop_good edition path station reading t m && b) (and-true _)

    middle_not_delivered : delivers (step_at edition station reading mid).answer ≡ false
    unfolding delivers
    middle_not_delivered =
        middle_through delivers refused_not_delivered
        ∙ rw (and-false (way_good path station t m), and-false (hop_good edition path station reading t m))

    onward_stands : (o : Onward edition path t m)
        → Stands edition path (egress_move edition entered) (next_segment o) (next_place o)
        (arriving_seg_id edition path (next_segment o) (next_place o))
    onward_stands (inner e) =
        leaves g.room (inside g s h r reading) (stands_after g s h r reading) (quiet_here g s h r reading)
        (inner_stays edition path t m h.third e) (omega (arith, before_end path t h.third, g.few))
    onward_stands (over p z e) =
        let n = next_in_header path t h.third h.long (over_before edition path t p z) in
        let at = start_next path t n.0 in
        leaves_over g.room (inside g s h r reading) (stands_after g s h r reading) (quiet_here g s h r reading)
        (over_crosses edition path t m p z e) (over_peer edition path t m p z e) e
        (omega (arith, over_before edition path t p z, g.few)) (omega arith) n.1

    middle_left : hop_good edition path station reading t m ≡ true → way_good path station t m ≡ true
        → Stands edition path (step_at edition station reading mid).bytes (next_segment more) (next_place more)
        (arriving_seg_id edition path (next_segment more) (next_place more))
    middle_left good way =
        let e : step_at edition station reading mid ≡ onward =
        middle_step g s h r reading more ∙ passed_through (hop_tests edition path station reading t m) entered leaving_on good
        ∙ passed_through (leaving_tests path station t m entered) entered onward (leaving_yes path station t m entered ∙ way) in
        rw e (onward_stands more)

    middle_or : Or edition goes_on (step_at edition station reading mid).answer
    unfolding goes_on
    middle_or =
        rw (middle_step g s h r reading more)
        (or_through edition goes_on (hop_tests edition path station reading t m) _ _ refl
        (or_through edition goes_on (leaving_tests path station t m entered) _ onward refl (inl refl)))

    middle_answered : Answered edition path t m (middle more) station reading (step_at edition station reading mid)
    middle_answered = record {
      on = middle_on;
      delivered = middle_not_delivered;
      refused = unless edition goes_on (step_at edition station reading mid).answer middle_on middle_or;
      left = λ on.
          let tests = each_of (hop_good edition path station reading t m) _ (sym middle_on ∙ on) in
          middle_left tests.0 tests.1;
    }

  -- the last hop of the path
  module _ (e : m + 1 ≡ count_of path t) (f : start_of path t + m + 1 ≡ hops path) where
    last_through : (holds : StepAnswer → Bool) (none : (why : StandardRoutingError) → holds (Err why) ≡ false)
        → holds (step_at edition station reading mid).answer
        ≡ (hop_good edition path station reading t m && holds (Ok (Local ForwardLocal)))
    last_through holds none =
        ap (λ (o : Outcome StepAnswer). holds o.answer) (last_step g s h r reading e f)
        ∙ through holds none (hop_tests edition path station reading t m) _ _

    last_not_on : goes_on (step_at edition station reading mid).answer ≡ false
    unfolding goes_on
    last_not_on = last_through goes_on refused_not_on ∙ and-false (hop_good edition path station reading t m)

    last_delivered : delivers (step_at edition station reading mid).answer ≡ hop_good edition path station reading t m
    unfolding delivers
    last_delivered = last_through delivers refused_not_delivered ∙ and-true _

    last_or : Or edition delivers (step_at edition station reading mid).answer
    unfolding delivers
    last_or =
        rw (last_step g s h r reading e f) (or_through edition delivers (hop_tests edition path station reading t m) _ _ refl (inl refl))

    last_answered : Answered edition path t m (last e f) station reading (step_at edition station reading mid)
    last_answered = record {
      on = last_not_on;
      delivered = last_delivered;
      refused = unless edition delivers (step_at edition station reading mid).answer last_delivered last_or;
      left = λ on. absurd (false≢true (sym last_not_on ∙ on));
    }

  -- a segment change
  module _ (plain : peering_path edition path ≡ false) (e : m + 1 ≡ count_of path t) (f : start_of path t + m + 1 < hops path) where
    abbrev crossed : List ℕ
    crossed = crossed_at edition mid station

    abbrev across_on : Outcome StepAnswer
    across_on = forwarded edition path (t + 1) 0 crossed

    abbrev leaving_across : Outcome StepAnswer
    leaving_across = leaving_then path station (t + 1) 0 crossed (inside_then edition crossed across_on)

    checks_yes : all_yes (change_tests edition path station reading t m) ≡ change_good edition path station reading t m
    checks_yes =
        yes_append (hop_tests edition path station reading t m) _
        ∙ ap (λ (b : Bool). hop_good edition path station reading t m && b) (yes_append (link_tests path station t m) _)

    inside_yes : all_yes (inside_questions edition crossed) ≡ leb 2 (count_of path (t + 1))
    inside_yes =
        inside_first (stands_crossed g s h r reading plain e f) plain (behind g s h r reading plain e f).0
        (omega (arith, start_next path t (behind g s h r reading plain e f).0))

    joint_through : (holds : StepAnswer → Bool) (none : (why : StandardRoutingError) → holds (Err why) ≡ false)
        → holds (step_at edition station reading mid).answer
        ≡ (change_good edition path station reading t m &&
        (way_good path station (t + 1) 0 && (leb 2 (count_of path (t + 1)) && holds (Ok (ForwardNextHop (way_of path (t + 1) 0))))))
    joint_through holds none =
        ap (λ (o : Outcome StepAnswer). holds o.answer) (joint_step g s h r reading plain e f)
        ∙ through holds none (change_tests edition path station reading t m) crossed leaving_across
        ∙ rw (checks_yes, through holds none (leaving_tests path station (t + 1) 0 crossed) crossed (inside_then edition crossed across_on))
        (rw (leaving_yes path station (t + 1) 0 crossed, through holds none (inside_questions edition crossed) crossed across_on, inside_yes))

    joint_on : goes_on (step_at edition station reading mid).answer
        ≡ (change_good edition path station reading t m && (way_good path station (t + 1) 0 && leb 2 (count_of path (t + 1))))
    unfolding goes_on
    joint_on = joint_through goes_on refused_not_on ∙ rw (and-true (leb 2 (count_of path (t + 1))))

    joint_not_delivered : delivers (step_at edition station reading mid).answer ≡ false
    unfolding delivers
    joint_not_delivered =
        joint_through delivers refused_not_delivered
        ∙ rw (
          and-false (leb 2 (count_of path (t + 1))),
          and-false (way_good path station (t + 1) 0),
          and-false (change_good edition path station reading t m),
        )

    joint_left : Crossing edition path station reading t m
        → Stands edition path (step_at edition station reading mid).bytes (t + 1) 1 (arriving_seg_id edition path (t + 1) 1)
    joint_left c =
        let u : step_at edition station reading mid ≡ across_on =
        joint_step g s h r reading plain e f
        ∙ passed_through (change_tests edition path station reading t m) crossed leaving_across
        (checks_yes ∙ both c.here (both c.link c.there))
        ∙ passed_through (leaving_tests path station (t + 1) 0 crossed) crossed (inside_then edition crossed across_on)
        (leaving_yes path station (t + 1) 0 crossed ∙ c.way)
        ∙ passed_through (inside_questions edition crossed) crossed across_on (inside_yes ∙ le-leb _ _ c.two) in
        let b = behind g s h r reading plain e f in
        rw u
        (leaves g.room b.1 (stands_crossed g s h r reading plain e f) (quiet_next g s h r reading plain e f)
        (inner_stays edition path (t + 1) 0 (omega (arith, b.0)) c.two)
        (omega (arith, start_next path t b.0, before_end path (t + 1) (omega (arith, b.0)), g.few)))

    joint_or : Or edition goes_on (step_at edition station reading mid).answer
    unfolding goes_on
    joint_or =
        rw (joint_step g s h r reading plain e f)
        (or_through edition goes_on (change_tests edition path station reading t m) crossed leaving_across refl
        (or_through edition goes_on (leaving_tests path station (t + 1) 0 crossed) crossed (inside_then edition crossed across_on) refl
        (or_through edition goes_on (inside_questions edition crossed) crossed across_on refl (inl refl))))

    joint_answered : Answered edition path t m (joint plain e f) station reading (step_at edition station reading mid)
    joint_answered = record {
      on = joint_on;
      delivered = joint_not_delivered;
      refused = unless edition goes_on (step_at edition station reading mid).answer joint_on joint_or;
      left = λ on. joint_left (crossing edition path station reading t m (sym joint_on ∙ on));
    }

  at_hop : (k : Kind edition path t m) → Answered edition path t m k station reading (step_at edition station reading mid)
  at_hop (middle more) = middle_answered more
  at_hop (last e f) = last_answered e f
  at_hop (joint plain e f) = joint_answered plain e f

-- ---- the first station

-- a path that is not in order at its first hop ends there: with 5, 6 or 7, or else with 28
module _ (edition : Edition) (path : List ℕ) (station : Station) (reading : ℕ) (g : Given path) (hf : curr_hf path ≡ 0)
    (inf : curr_inf path ≡ 0) (sound : table_sound station.ids station.states ≡ true) where
  abbrev Stopped : Type 0
  Stopped = refused_with (stop_numbers edition) (step_at edition station reading path).answer ≡ true

  lengths_stop : all_yes (first_three edition path) ≡ false → Stopped
  unfolding step_at
  lengths_stop short =
      rw (step_asks edition station.ids station.states (key_mac station.key) station.arrival reading false path)
      (rw (before_asked station.ids station.states g (kept_self path) sound)
      (first_refused edition (first_three edition path) (eights edition path ++ peering_questions edition path) path _ refl short))

  peering_stops : all_yes (first_three edition path) ≡ true → peering_fits edition path ≡ false → Stopped
  unfolding step_at
  peering_stops begins wrong =
      rw (step_asks edition station.ids station.states (key_mac station.key) station.arrival reading false path)
      (rw (before_asked station.ids station.states g (kept_self path) sound)
      (rw (goes_on_lem (first_three edition path) (eights edition path ++ peering_questions edition path)
      (yes_valid (first_three edition path) begins)
      ∙ goes_on_lem (eights edition path) (peering_questions edition path) (eights_yes edition path hf inf (begun edition path hf inf begins)))
      (peering_refused edition path _ wrong)))

  at_first : Hop edition path 0 0 ⊎ Stopped
  at_first = go (all_yes (first_three edition path)) refl (peering_fits edition path) refl
    where
      go : (begins : Bool) → all_yes (first_three edition path) ≡ begins → (fits : Bool) → peering_fits edition path ≡ fits
          → Hop edition path 0 0 ⊎ Stopped
      go false e fits f = inr (lengths_stop e)
      go true e false f = inr (peering_stops e f)
      go true e true f = inl (first_hop edition path hf inf (begun edition path hf inf e) (fits_valid edition path f))

pub at_station : (edition : Edition) → Laws edition (step_at edition)
at_station edition = record {
  first = at_first edition;
  answered = λ g s h r reading k. at_hop g s h r reading k;
}
