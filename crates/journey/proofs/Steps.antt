-- The whole step at each kind of hop, on a path that stands there.
-- Assumes nothing.
use mathlib.Core.Path.{◌≡◌, refl, ap, sym, subst, ◌∙◌}
use mathlib.Core.Bool.{true, false}
use mathlib.Core.List.{List, [], ◌∷◌, ◌++◌}
use Prim.Native.Nat.{ℕ, zero, suc, ◌+◌, ◌-◌, ◌≤◌, ◌<◌}
use native.Mathlib.Omega.{arith}
use borrow.Author.Tests.{le-leb}
use lib.ListN.{length}
use Rattle.std.specs.Prelude.{Ok, Err}
use Rattle.questions.specs.Questions.{asks}
use Rattle.hop_mac.specs.Mac.{mac_chaining_beta}
use Rattle.standard_path.specs.Meta.{curr_inf, curr_hf, set_curr_inf, set_curr_hf}
use Rattle.fields.specs.Fields.{cons_dir, seg_id, timestamp, travel_ingress, travel_egress}
use Rattle.standard_path.specs.Header.{infos, hops, header_size, info_field, hop_field}
use Rattle.standard_path.proofs.Kept.{Kept, hops_kept, header_size_kept}
use Rattle.interface_table.specs.Table.{table_sound, state_of}
use Rattle.answers.specs.Questions.{Questions, first_no}
use Rattle.validator.specs.Check.{hop_questions, link_questions, key_mac, at_ingress}
use Rattle.answers.specs.declared.StandardRoutingError.{StandardRoutingError}
use Rattle.answers.specs.declared.LocalAsRoutingAction.TheVariants.{ForwardLocal}
use Rattle.answers.specs.declared.AsRoutingAction.TheVariants.{Local, ForwardNextHop}
use Rattle.answers.specs.Answer.{StepAnswer}
use Rattle.answers.proofs.Asked.{both_yes, none_asked, told}
use Rattle.answers.specs.Outcome.{Outcome, leaves}
use Rattle.edition.specs.declared.Edition.{Edition}
use Rattle.edition.specs.Edition.{peering_path}
use Rattle.place.specs.Place.{before, hop, info, next_hop, next_info}
use Rattle.moves.specs.Moves.{ingress_seg_id, ingress_fields, ingress_move, egress_move}
use Rattle.ingress.specs.Ingress.{alerts_at_ingress}
use Rattle.checks.specs.Checks.{ingress_questions}
use Rattle.egress.specs.Egress.{leaving_action, egress_action}
use Rattle.routing.specs.Step.{leaving_questions}
use Rattle.moves.proofs.Touched.{ingress_fields_moved}
use Rattle.routing.proofs.Inside.{inside_questions}
use Rattle.routing_laws.proofs.Whole.{step_asks}
use Rattle.station.specs.Station.{Station}
use Rattle.segment_check.specs.Segment.{start_of, count_of, hop_of, chained_seg_id, macs_from}
use Rattle.journey.specs.Journey.{step_at}
use Rattle.journey.proofs.Quiet.{Quiet, quiet_ingress, quiet_egress}
use Rattle.journey.proofs.Stands.{Stands, checked_seg_id, arriving_seg_id, delivered_seg_id, hop_here, dir_here, info_among, info_room, enters, segments_on}
use Rattle.journey.proofs.Hops.{Hop, Onward, middle, last, joint, placed, inside_onward, in_header, next_in_header, start_next, before_end}

-- what 2, 3, 4 and 25 let through
pub record Given (path : List ℕ) : Type 0 where
  pub room : header_size path ≤ length path
  pub few : hops path ≤ 64
  pub quiet : (j : ℕ) → j < hops path → Quiet (hop_field path j)

-- a station whose table is sound, reached at hop j: the first from local hosts, at hop 0; the others from outside
pub record Reached (station : Station) (j : ℕ) : Type 0 where
  pub sound : table_sound station.ids station.states ≡ true
  pub local : j ≡ 0 → station.arrival ≡ 0
  pub outside : 1 ≤ j → station.arrival ≡ 0 → ⊥

at_first : (path : List ℕ) (t m : ℕ) → t ≡ 0 → m ≡ 0 → start_of path t + m ≡ 0
at_first path zero m z e = omega arith
at_first path (suc t) m z e = absurd (omega arith)

-- 1 to 4 are answered yes all the way
pub before_asked : {path mid : List ℕ} (ids states : List ℕ) → Given path → Kept path mid → table_sound ids states ≡ true
    → first_no (before ids states mid) ≡ Ok tt
unfolding header_size
before_asked {path} ids states g kept sound =
    both_yes _ _ _ sound
    (both_yes _ _ _ (rw kept.size (le-leb 4 (length path) (omega (arith, g.room))))
    (both_yes _ _ _ (rw (header_size_kept kept, kept.size) (le-leb _ _ g.room))
    (both_yes _ _ _ (rw (hops_kept kept) (le-leb _ _ g.few)) none_asked)))

-- 9 to 12 of hop m of segment t
abbrev pub hop_tests : Edition → List ℕ → Station → ℕ → ℕ → ℕ → Questions
hop_tests edition path station reading t m =
    hop_questions (key_mac station.key) (at_ingress station.arrival reading false) (start_of path t + m) (hop_of path t m)
    (info_field path t) (checked_seg_id edition path t m)

-- 14 to 16 from hop m of segment t to the next segment's first
abbrev pub link_tests : List ℕ → Station → ℕ → ℕ → Questions
link_tests path station t m =
    link_questions (state_of station.ids station.states (travel_ingress (cons_dir (info_field path t)) (hop_of path t m)))
    (state_of station.ids station.states (travel_egress (cons_dir (info_field path (t + 1))) (hop_of path (t + 1) 0)))
    (start_of path t + m) (hop_of path t m) (info_field path t) (hop_of path (t + 1) 0) (info_field path (t + 1))

-- a question that is answered yes can be left out
without_yes : (first : Questions) (why : StandardRoutingError) (more : Questions)
    → first_no (first ++ ((true, why) ∷ more)) ≡ first_no (first ++ more)
unfolding asks
without_yes [] why more = refl
without_yes ((true, other) ∷ first) why more = without_yes first why more
without_yes ((false, other) ∷ first) why more = refl

-- 15 and 17 of the interface that hop m of segment t leaves by
abbrev pub way_of : List ℕ → ℕ → ℕ → ℕ
way_of path t m = travel_egress (cons_dir (info_field path t)) (hop_of path t m)

abbrev pub leaving_tests : List ℕ → Station → ℕ → ℕ → List ℕ → Questions
leaving_tests path station t m after =
    leaving_questions (state_of station.ids station.states (way_of path t m)) (way_of path t m) after

-- the path after ingress, and behind a segment change
abbrev pub entered_at : Edition → List ℕ → Station → List ℕ
entered_at edition mid station = ingress_fields edition mid station.arrival

abbrev pub crossed_at : Edition → List ℕ → Station → List ℕ
crossed_at edition mid station = set_curr_inf (set_curr_hf (entered_at edition mid station) (curr_hf mid + 1)) (curr_inf mid + 1)

-- on the way out from hop m of segment t: forwarded; then with what is left to ask at egress, and with 15 and 17
abbrev pub forwarded : Edition → List ℕ → ℕ → ℕ → List ℕ → Outcome StepAnswer
forwarded edition path t m left = record { answer = Ok (ForwardNextHop (way_of path t m)); bytes = egress_move edition left }

abbrev pub inside_then : Edition → List ℕ → Outcome StepAnswer → Outcome StepAnswer
inside_then edition left more = told (leaves Err left) (first_no (inside_questions edition left)) more

abbrev pub leaving_then : List ℕ → Station → ℕ → ℕ → List ℕ → Outcome StepAnswer → Outcome StepAnswer
leaving_then path station t m left more = told (leaves Err left) (first_no (leaving_tests path station t m left)) more

-- a path that stands at a hop without alerts is forwarded
goes_out : {edition : Edition} {path mid : List ℕ} {t m value : ℕ} → Stands edition path mid t m value → Quiet (hop_of path t m)
    → egress_action mid ≡ ForwardNextHop (way_of path t m)
unfolding leaving_action
goes_out {path = path} {t = t} s q = rw (hop_here s, dir_here s, quiet_egress q (cons_dir (info_field path t)))

-- all that is checked at a segment change
abbrev pub change_tests : Edition → List ℕ → Station → ℕ → ℕ → ℕ → Questions
change_tests edition path station reading t m =
    hop_tests edition path station reading t m ++ (link_tests path station t m ++ hop_tests edition path station reading (t + 1) 0)

module _ {edition : Edition} {path mid : List ℕ} {t m : ℕ} (g : Given path)
    (s : Stands edition path mid t m (arriving_seg_id edition path t m)) (h : Hop edition path t m)
    {station : Station} (r : Reached station (start_of path t + m)) (reading : ℕ) where
  pub inside : t < infos path
  inside = in_header path t h.third h.long

  abbrev after : List ℕ
  after = entered_at edition mid station

  pub quiet_here : Quiet (hop_of path t m)
  quiet_here = g.quiet (start_of path t + m) (omega (arith, before_end path t h.third, h.within))

  pub stands_after : Stands edition path after t m (checked_seg_id edition path t m)
  stands_after =
      enters g.room inside s quiet_here station.arrival (λ p z. r.local (at_first path t m (h.back p z) z))
      (λ l. r.outside (omega arith))

  before_valid : first_no (before station.ids station.states mid) ≡ Ok tt
  before_valid = before_asked station.ids station.states g s.kept r.sound

  start_here : timestamp (info mid) ≡ timestamp (info_field path t)
  start_here = rw s.inf (s.info_same t).start

  seg_here : ingress_seg_id edition mid station.arrival ≡ checked_seg_id edition path t m
  seg_here =
      sym (ingress_fields_moved mid (info_among s g.room inside) edition station.arrival (info_room s g.room inside)).seg
      ∙ ap (λ (i : ℕ). seg_id (info_field after i)) s.inf ∙ stands_after.seg

  hop_asked : hop_questions (key_mac station.key) (at_ingress station.arrival reading false) (curr_hf mid) (hop mid) (info mid)
      (ingress_seg_id edition mid station.arrival)
      ≡ hop_tests edition path station reading t m
  hop_asked = rw (seg_here, hop_here s, dir_here s, start_here, s.hf)

  no_alert : alerts_at_ingress mid station.arrival ≡ false
  no_alert = rw (hop_here s, quiet_ingress quiet_here (cons_dir (info mid)))

  -- ---- where the next hop lies in the segment, or over the peering link

  module _ (more : Onward edition path t m) where
    pub middle_step : step_at edition station reading mid
        ≡ told (leaves Err after) (first_no (hop_tests edition path station reading t m))
        (leaving_then path station t m after (forwarded edition path t m after))
    unfolding step_at ingress_move
    middle_step =
        let p = placed s h (middle more) in
        step_asks edition station.ids station.states (key_mac station.key) station.arrival reading false mid
        ∙ rw (before_valid, p.valid, p.changing, p.ending, no_alert)
        (rw (
          hop_asked,
          inside_onward stands_after h.third h.within more,
          goes_out stands_after quiet_here,
          hop_here s,
          dir_here s,
        ))

  -- ---- the last hop of the path

  pub last_step : m + 1 ≡ count_of path t → start_of path t + m + 1 ≡ hops path
      → step_at edition station reading mid
      ≡ told (leaves Err after) (first_no (hop_tests edition path station reading t m)) (record { answer = Ok (Local ForwardLocal); bytes = after })
  unfolding step_at ingress_move
  last_step e f =
      let p = placed s h (last e f) in
      step_asks edition station.ids station.states (key_mac station.key) station.arrival reading false mid
      ∙ rw (before_valid, p.valid, p.changing, p.ending, no_alert) (rw hop_asked)

  -- ---- a segment change

  module _ (plain : peering_path edition path ≡ false) (e : m + 1 ≡ count_of path t) (f : start_of path t + m + 1 < hops path) where
    abbrev crossed : List ℕ
    crossed = crossed_at edition mid station

    pub behind : (t < 2) × (t + 1 < infos path)
    behind = next_in_header path t h.third h.long (omega arith)

    next_index : curr_hf mid + 1 ≡ start_of path (t + 1) + 0
    next_index = omega (arith, s.hf, start_next path t behind.0)

    next_hop_lem : next_hop mid ≡ hop_of path (t + 1) 0
    next_hop_lem = rw (next_index, s.hop_same)

    next_info_lem : next_info mid ≡ info_field path (t + 1)
    next_info_lem = rw s.inf (s.later (t + 1) (omega arith))

    next_seg : seg_id (info_field path (t + 1)) ≡ checked_seg_id edition path (t + 1) 0
    unfolding chained_seg_id macs_from mac_chaining_beta
    next_seg = refl

    pub quiet_next : Quiet (hop_of path (t + 1) 0)
    quiet_next = g.quiet (start_of path (t + 1) + 0) (omega (arith, start_next path t behind.0))

    pub stands_crossed : Stands edition path crossed (t + 1) 0 (checked_seg_id edition path (t + 1) 0)
    stands_crossed =
        let few : curr_hf mid + 1 < 64 = omega (arith, s.hf, g.few) in
        let last : m ≡ count_of path t - 1 = omega arith in
        let done : checked_seg_id edition path t m ≡ delivered_seg_id edition path t = ap (λ (n : ℕ). checked_seg_id edition path t n) last in
        subst
        (λ (u : ℕ). Stands edition path (set_curr_inf (set_curr_hf after (curr_hf mid + 1)) u) (t + 1) 0 (checked_seg_id edition path (t + 1) 0))
        (ap (λ (u : ℕ). u + 1) (sym s.inf))
        (segments_on stands_after g.room inside (curr_hf mid + 1) (t + 1) next_index few refl behind.1 done)

    change_asked : first_no
        (ingress_questions edition station.ids station.states (key_mac station.key) (at_ingress station.arrival reading false) mid true)
        ≡ first_no (change_tests edition path station reading t m)
    change_asked =
        rw (seg_here, hop_here s, dir_here s, start_here, next_hop_lem, next_info_lem, next_index, next_seg, s.hf)
        (rw (quiet_egress quiet_here (cons_dir (info_field path t)), quiet_ingress quiet_next (cons_dir (info_field path (t + 1))))
        (without_yes (hop_tests edition path station reading t m) _ _ ∙ without_yes (hop_tests edition path station reading t m) _ _))

    pub joint_step : step_at edition station reading mid
        ≡ told (leaves Err crossed) (first_no (change_tests edition path station reading t m))
        (leaving_then path station (t + 1) 0 crossed (inside_then edition crossed (forwarded edition path (t + 1) 0 crossed)))
    unfolding step_at ingress_move
    joint_step =
        let p = placed s h (joint plain e f) in
        step_asks edition station.ids station.states (key_mac station.key) station.arrival reading false mid
        ∙ rw (before_valid, p.valid, p.changing, p.ending, no_alert)
        (rw (change_asked, goes_out stands_crossed quiet_next, next_hop_lem, next_info_lem))
