-- The step depends on the header alone, and keeps what follows it: on a complete header with more bytes behind it the answer is that of
-- the header by itself, and so are the bytes left, with the same bytes behind them.
-- Assumes nothing.
use mathlib.Core.Path.{◌≡◌, refl, ap}
use mathlib.Core.Bool.{Bool, true, false, not, cond}
use mathlib.Core.List.{List, ◌++◌}
use Prim.Native.Nat.{ℕ, ◌+◌, ◌<◌}
use lib.Dec.{eqb}
use Rattle.standard_path.specs.Meta.{curr_inf, curr_hf, set_curr_inf, set_curr_hf}
use Rattle.standard_path.specs.Header.{infos, hops}
use Rattle.standard_path.proofs.Kept.{Kept, kept_self, infos_kept, hops_kept}
use Rattle.standard_path.proofs.IndexSet.{set_hf_kept}
use Rattle.fields.specs.Fields.{cons_dir}
use Rattle.std.specs.Prelude.{Result, Ok, Err}
use Rattle.answers.specs.declared.StandardRoutingError.{StandardRoutingError}
use Rattle.answers.specs.Questions.{first_no}
use Rattle.answers.specs.Outcome.{Outcome, leaves}
use Rattle.answers.proofs.Asked.{told}
use Rattle.validator.specs.Check.{MacFunction, at_ingress}
use Rattle.validator.specs.declared.StandardValidator.{StandardValidator}
use Rattle.edition.specs.declared.Edition.{Edition}
use Rattle.place.specs.Place.{before, hop, info, next_hop, next_info, changes, is_final, crosses, ingress_place}
use Rattle.writes.specs.Writes.{clear_ingress_alert}
use Rattle.writes.proofs.SegIdSet.{seg_id_kept}
use Rattle.writes.proofs.AlertCleared.{alert_kept}
use Rattle.moves.specs.Moves.{stepped_seg_id, stepped, takes_step}
use Rattle.moves.specs.Moves.{ingress_fields, ingress_move, egress_ahead, egress_move}
use Rattle.checks.specs.Checks.{ingress_questions}
use Rattle.ingress.specs.Ingress.{alerts_at_ingress, leaving, ingress_action}
use Rattle.egress.specs.Egress.{egress_action}
use Rattle.routing.specs.Step.{step}
use Rattle.routing.proofs.Moved.{ingress_move_holds}
use Rattle.routing.proofs.Inside.{Standing, stands, next_hop_there, WentOn, inside_questions}
use Rattle.header_alone.proofs.Entered.{entered}
use Rattle.routing_laws.proofs.Whole.{step_asks, checks, leaving_checks, way_out, acted}
use Rattle.header_alone.proofs.Followed.{Whole, whole_kept, lengths_same, first_byte, info_same, hop_same, peering_path_same, before_same, changes_same, final_same, crosses_same, ingress_place_same, inside_same, seg_id_followed, alert_followed, hf_followed, inf_followed}

-- an outcome with more bytes behind those left
abbrev pub followed : {A : Type 0} → List ℕ → Outcome A → Outcome A
followed rest outcome = record { answer = outcome.answer; bytes = outcome.bytes ++ rest }

-- ---- the moves, where CurrINF and CurrHF are in the header

module _ (path rest : List ℕ) (whole : Whole path) (inside : curr_inf path < infos path) (among : curr_hf path < hops path) where
  info_here : info (path ++ rest) ≡ info path
  info_here = rw (first_byte path rest whole) (info_same path rest whole (curr_inf path) inside)

  hop_here : hop (path ++ rest) ≡ hop path
  hop_here = rw (first_byte path rest whole) (hop_same path rest whole (curr_hf path) among)

  stepped_followed : (taken : Bool) → stepped (path ++ rest) taken ≡ stepped path taken ++ rest
  unfolding stepped
  stepped_followed true = rw (info_here, hop_here, first_byte path rest whole) (seg_id_followed path rest whole (curr_inf path) _ inside)
  stepped_followed false = refl

  stepped_kept : (taken : Bool) → Kept path (stepped path taken)
  unfolding stepped
  stepped_kept true = seg_id_kept path (curr_inf path) (stepped_seg_id path)
  stepped_kept false = kept_self path

  stepped_whole : (taken : Bool) → Whole (stepped path taken)
  stepped_whole taken = whole_kept (stepped_kept taken) whole

  cleared_followed : (taken c : Bool)
      → clear_ingress_alert (stepped (path ++ rest) taken) c (curr_hf path) ≡ clear_ingress_alert (stepped path taken) c (curr_hf path) ++ rest
  cleared_followed taken c =
      rw (stepped_followed taken)
      (alert_followed (stepped path taken) rest (stepped_whole taken) c (curr_hf path) (rw (hops_kept (stepped_kept taken)) among))

  cleared_whole : (taken c : Bool) → Whole (clear_ingress_alert (stepped path taken) c (curr_hf path))
  cleared_whole taken c = whole_kept (alert_kept (stepped path taken) c (curr_hf path)) (stepped_whole taken)

  module _ (edition : Edition) where
    fields_followed : (interface : ℕ) → ingress_fields edition (path ++ rest) interface ≡ ingress_fields edition path interface ++ rest
    fields_followed interface =
        rw (info_here, first_byte path rest whole, (lengths_same path rest whole).seg0, peering_path_same path rest whole edition)
        (go (eqb interface 0) _ _)
      where
        go : (local taken c : Bool)
            → cond local (path ++ rest) (clear_ingress_alert (stepped (path ++ rest) taken) c (curr_hf path))
            ≡ cond local path (clear_ingress_alert (stepped path taken) c (curr_hf path)) ++ rest
        go true taken c = refl
        go false taken c = cleared_followed taken c

    pub ingress_move_followed : (interface : ℕ) (change : Bool)
        → ingress_move edition (path ++ rest) interface change ≡ ingress_move edition path interface change ++ rest
    unfolding ingress_move
    ingress_move_followed interface true =
        let fields = ingress_fields edition path interface in
        let kept = whole_kept (ingress_move_holds edition path inside among interface false).kept whole in
        rw (fields_followed interface, first_byte path rest whole, hf_followed fields rest kept (curr_hf path + 1))
        (inf_followed (set_curr_hf fields (curr_hf path + 1)) rest (whole_kept (set_hf_kept fields _) kept) (curr_inf path + 1))
    ingress_move_followed interface false = fields_followed interface

    ahead_followed : egress_ahead edition (path ++ rest) ≡ egress_ahead edition path ++ rest
    ahead_followed =
        rw (info_here, first_byte path rest whole, (lengths_same path rest whole).seg0, peering_path_same path rest whole edition)
        (rw (cleared_followed (takes_step edition path false (cons_dir (info path))) (not (cons_dir (info path))))
        (hf_followed _ rest (cleared_whole _ _) (curr_hf path + 1)))

    pub egress_move_followed : egress_move edition (path ++ rest) ≡ egress_move edition path ++ rest
    unfolding egress_move
    egress_move_followed =
        rw (crosses_same path rest whole edition, ahead_followed, first_byte path rest whole) (go (crosses edition path))
      where
        ahead : List ℕ
        ahead = egress_ahead edition path

        go : (cross : Bool) → cond cross (set_curr_inf (ahead ++ rest) (curr_inf path + 1)) (ahead ++ rest)
            ≡ cond cross (set_curr_inf ahead (curr_inf path + 1)) ahead ++ rest
        go true = inf_followed ahead rest (whole_kept (set_hf_kept _ _) (cleared_whole _ _)) (curr_inf path + 1)
        go false = refl

-- ---- what is asked and done, where the path stands in its header

module _ (edition : Edition) (path rest : List ℕ) (s : Standing edition path) where
  abbrev whole : Whole path
  whole = s.room

  next_info_here : changes edition path ≡ true → next_info (path ++ rest) ≡ next_info path
  next_info_here e = rw (first_byte path rest whole) (info_same path rest whole (curr_inf path + 1) (s.next e))

  next_hop_here : changes edition path ≡ true → next_hop (path ++ rest) ≡ next_hop path
  next_hop_here e = rw (first_byte path rest whole) (hop_same path rest whole (curr_hf path + 1) (next_hop_there edition path e))

  abbrev here : info (path ++ rest) ≡ info path
  here = info_here path rest whole s.inside s.among

  abbrev this : hop (path ++ rest) ≡ hop path
  this = hop_here path rest whole s.inside s.among

  checks_same : (ids states : List ℕ) (mac : MacFunction) (interface time : ℕ) (unchecked : Bool)
      → checks edition ids states mac interface time unchecked (path ++ rest) ≡ checks edition ids states mac interface time unchecked path
  checks_same ids states mac interface time unchecked = rw (changes_same path rest whole edition) (go (changes edition path) refl)
    where
      at : StandardValidator
      at = at_ingress interface time unchecked

      go : (change : Bool) → changes edition path ≡ change
          → ingress_questions edition ids states mac at (path ++ rest) change ≡ ingress_questions edition ids states mac at path change
      go true e =
          rw (
            here,
            this,
            next_info_here e,
            next_hop_here e,
            first_byte path rest whole,
            (lengths_same path rest whole).seg0,
            peering_path_same path rest whole edition,
          )
      go false e =
          rw (
            here,
            this,
            first_byte path rest whole,
            (lengths_same path rest whole).seg0,
            peering_path_same path rest whole edition,
          )

  alerts_same : (interface : ℕ) → alerts_at_ingress (path ++ rest) interface ≡ alerts_at_ingress path interface
  alerts_same interface = rw (here, this)

  way_same : leaving (path ++ rest) (changes edition (path ++ rest)) ≡ leaving path (changes edition path)
  way_same = rw (changes_same path rest whole edition) (go (changes edition path) refl)
    where
      go : (change : Bool) → changes edition path ≡ change → leaving (path ++ rest) change ≡ leaving path change
      go true e = rw (next_info_here e, next_hop_here e)
      go false e = rw (here, this)

  entered_followed : (interface : ℕ)
      → ingress_move edition (path ++ rest) interface (changes edition (path ++ rest)) ≡ ingress_move edition path interface (changes edition path) ++ rest
  entered_followed interface =
      rw (changes_same path rest whole edition)
      (ingress_move_followed path rest whole s.inside s.among edition interface (changes edition path))

-- ---- the law

module _ (edition : Edition) (ids states : List ℕ) (mac : MacFunction) (interface time : ℕ) (unchecked : Bool) (path rest : List ℕ) where
  -- the way out, on the bytes that an ingress left which went on
  way_out_followed : WentOn edition ids states mac interface time unchecked path (leaving path (changes edition path))
      → way_out edition ids states mac interface time unchecked (path ++ rest)
      ≡ followed rest (way_out edition ids states mac interface time unchecked path)
  way_out_followed w =
      let s = stands edition ids states path w.asked w.placed in
      let after = ingress_move edition path interface (changes edition path) in
      let moved = entered edition path interface s in
      let kept = (ingress_move_holds edition path s.inside s.among interface (changes edition path)).kept in
      let whole = whole_kept kept s.room in
      let inside : curr_inf after < infos after = rw (infos_kept kept) moved.inside in
      let among : curr_hf after < hops after = rw (hops_kept kept) moved.among in
      rw (way_same edition path rest s, entered_followed edition path rest s interface)
      (rw (
        info_here after rest whole inside among,
        hop_here after rest whole inside among,
        inside_same after rest whole edition,
        egress_move_followed after rest whole inside among edition,
        first_byte after rest whole,
      )
      (go (first_no (leaving_checks edition ids states mac interface time unchecked path)) (first_no (inside_questions edition after))))
    where
      after : List ℕ
      after = ingress_move edition path interface (changes edition path)

      go : (leaving inside : Result Unit StandardRoutingError)
          → told (leaves Err (after ++ rest)) leaving
          (told (leaves Err (after ++ rest)) inside (record { answer = Ok (egress_action after); bytes = egress_move edition after ++ rest }))
          ≡ followed rest
          (told (leaves Err after) leaving
          (told (leaves Err after) inside (record { answer = Ok (egress_action after); bytes = egress_move edition after })))
      go (Err why) inside = refl
      go (Ok _) (Err why) = refl
      go (Ok _) (Ok _) = refl

  pub step_followed : Whole path
      → step edition ids states mac interface time unchecked (path ++ rest) ≡ followed rest (step edition ids states mac interface time unchecked path)
  unfolding ingress_action
  step_followed complete =
      rw (
        step_asks edition ids states mac interface time unchecked (path ++ rest),
        step_asks edition ids states mac interface time unchecked path,
        before_same path rest complete ids states,
        ingress_place_same path rest complete edition,
      )
      (go (first_no (before ids states path)) refl (first_no (ingress_place edition path)) refl)
    where
      -- what is found of the longer path is what is found of the path
      acted-followed : Standing edition path → first_no (before ids states path) ≡ Ok tt → first_no (ingress_place edition path) ≡ Ok tt
          → (passed : Result Unit StandardRoutingError) {again : Result Unit StandardRoutingError} → again ≡ passed → first_no (checks edition ids states mac interface time unchecked path) ≡ passed
          → (alert : Bool) {alerted : Bool} → alerted ≡ alert → alerts_at_ingress path interface ≡ alert
          → (final : Bool) {ended : Bool} → ended ≡ final → is_final path ≡ final
          → told (leaves Err (ingress_move edition (path ++ rest) interface (changes edition (path ++ rest)))) again
          (acted edition ids states mac interface time unchecked (path ++ rest) alerted ended)
          ≡ followed rest
          (told (leaves Err (ingress_move edition path interface (changes edition path))) passed
          (acted edition ids states mac interface time unchecked path alert final))
      acted-followed s a b (Err why) p c alert q d final r e = rw (p, entered_followed edition path rest s interface)
      acted-followed s a b (Ok _) p c true q d final r e = rw (p, q, entered_followed edition path rest s interface)
      acted-followed s a b (Ok _) p c false q d true r e = rw (p, q, r, entered_followed edition path rest s interface)
      acted-followed s a b (Ok _) p c false q d false r e =
          rw (p, q, r) (way_out_followed (record { asked = a; placed = b; checked = c; going = rw (d, e) }))

      go : (first : Result Unit StandardRoutingError) → first_no (before ids states path) ≡ first → (place : Result Unit StandardRoutingError) → first_no (ingress_place edition path) ≡ place
          → told (leaves Err (path ++ rest)) first
          (told (leaves Err (path ++ rest)) place
          (told (leaves Err (ingress_move edition (path ++ rest) interface (changes edition (path ++ rest))))
          (first_no (checks edition ids states mac interface time unchecked (path ++ rest)))
          (acted edition ids states mac interface time unchecked (path ++ rest) (alerts_at_ingress (path ++ rest) interface) (is_final (path ++ rest)))))
          ≡ followed rest
          (told (leaves Err path) first
          (told (leaves Err path) place
          (told (leaves Err (ingress_move edition path interface (changes edition path)))
          (first_no (checks edition ids states mac interface time unchecked path))
          (acted edition ids states mac interface time unchecked path (alerts_at_ingress path interface) (is_final path)))))
      go (Err why) a place b = refl
      go (Ok _) a (Err why) b = refl
      go (Ok _) a (Ok _) b =
          let s = stands edition ids states path a b in
          acted-followed s a b
          _ (ap first_no (checks_same edition path rest s ids states mac interface time unchecked)) refl
          _ (alerts_same edition path rest s interface) refl
          _ (final_same path rest complete) refl
