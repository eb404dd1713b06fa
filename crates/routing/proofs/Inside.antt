-- Egress inside the whole step: once ingress went on, what it has settled is not asked again. So egress answers 7, 5 with CurrHF + 1, 18,
-- or what is done with the packet.
-- Assumes nothing.
use mathlib.Core.Path.{◌≡◌, refl, ap, sym, ◌∙◌}
use mathlib.Core.Bool.{Bool, true, false, not, ◌&&◌, ◌||◌, cond, or-true}
use mathlib.Core.List.{List, ◌∷◌}
use Prim.Native.Nat.{ℕ, ◌+◌, ◌≤◌, ◌<◌}
use native.Mathlib.Omega.{arith}
use borrow.Author.Tests.{ltb-true, leb-true, leb-false, eqb-true, lt-ltb, le-ltb, eq-eqb}
use lib.Dec.{eqb, ltb, leb}
use lib.ListN.{length}
use Rattle.std.specs.Prelude.{Result, Ok, Err}
use Rattle.questions.specs.Questions.{asks}
use Rattle.standard_path.specs.Meta.{curr_inf, curr_hf, seg0_len, seg1_len, set_curr_hf, set_curr_inf}
use Rattle.fields.specs.Fields.{cons_dir, seg_id, travel_egress}
use Rattle.standard_path.specs.Header.{infos, hops, header_size, info_field, hop_field}
use Rattle.standard_path.proofs.Kept.{infos_kept, hops_kept}
use Rattle.standard_path.proofs.IndexSet.{set_hf_hop, set_hf_info, set_inf_hop, set_inf_info, hf_after_hf, hf_after_inf, inf_after_inf, set_hf_kept}
use Rattle.answers.specs.Questions.{Questions, first_no}
use Rattle.validator.specs.Check.{MacFunction, hop_questions, change_questions, at_ingress, at_egress}
use Rattle.validator.specs.declared.StandardValidator.{StandardValidator}
use Rattle.answers.specs.declared.StandardRoutingError.{StandardRoutingError}
use Rattle.answers.specs.declared.StandardRoutingError.TheVariants.{AdvanceFailed}
use Rattle.answers.specs.declared.AdvanceError.TheVariants.{InvalidSegmentIndex}
use Rattle.answers.specs.declared.LocalAsRoutingAction.TheVariants.{IngressSCMPHandleRequest, ForwardLocal}
use Rattle.answers.specs.declared.AsRoutingAction.TheVariants.{Local}
use Rattle.answers.specs.declared.IngressNextAction.{IngressNextAction}
use Rattle.answers.specs.declared.IngressNextAction.TheVariants.{ContinueEgress, Complete}
use Rattle.answers.proofs.Asked.{first_yes, rest_yes, both_yes, none_asked, goes_on_lem, last_yes, told, asks_told}
use Rattle.edition.specs.declared.Edition.{Edition}
use Rattle.answers.specs.Outcome.{leaves}
use Rattle.interface_table.specs.Table.{state_of}
use Rattle.routing.specs.Step.{leaving_questions, step_from, step}
use Rattle.ingress.proofs.Told.{ingress_all_told}
use Rattle.egress.proofs.Told.{egress_all_told}
use Rattle.edition.specs.Edition.{peering_path, peering_questions}
use Rattle.place.specs.Place.{before, segment, ends, is_final, is_peering_hop, crosses, changes, ingress_place, way_questions, egress_place, hop, info, next_hop, next_info}
use Rattle.moves.specs.Moves.{ingress_seg_id, ingress_fields, ingress_move, egress_move}
use Rattle.checks.specs.Checks.{ingress_questions, egress_questions}
use Rattle.ingress.specs.Ingress.{alerts_at_ingress, leaving, ingress_action, ingress}
use Rattle.egress.specs.Egress.{egress_action, egress}
use Rattle.routing.proofs.Moved.{Holds, asked_alike, ingress_move_holds}
use Rattle.edition.proofs.Peering.{peering_lengths, peering_path_kept, questions_kept}
use Rattle.moves.proofs.Touched.{SameHop, same_hop, SameInfo, same_info, FieldsMoved, ingress_fields_moved}

-- ---- an ingress that went on: each of its answers was yes

pub record WentOn (edition : Edition) (ids states : List ℕ) (mac : MacFunction) (interface time : ℕ) (unchecked : Bool) (path : List ℕ)
    (out : ℕ) : Type 0 where
  pub asked : first_no (before ids states path) ≡ Ok tt
  pub placed : first_no (ingress_place edition path) ≡ Ok tt
  pub checked : first_no (ingress_questions edition ids states mac (at_ingress interface time unchecked) path (changes edition path)) ≡ Ok tt
  pub going : ingress_action path interface (changes edition path) (is_final path) ≡ ContinueEgress out

pub went_on : (edition : Edition) (ids states : List ℕ) (mac : MacFunction) (interface time : ℕ) (unchecked : Bool) (path : List ℕ) (out : ℕ)
    → (ingress edition ids states mac (at_ingress interface time unchecked) path).answer ≡ Ok (ContinueEgress out)
    → WentOn edition ids states mac interface time unchecked path out
went_on edition ids states mac interface time unchecked path out e =
    go (first_no (before ids states path)) refl (first_no (ingress_place edition path)) refl
    (first_no (ingress_questions edition ids states mac at path (changes edition path))) refl
    (ap (λ o. o.answer) (sym (ingress_all_told edition ids states mac at path)) ∙ e)
  where
    at : StandardValidator
    at = at_ingress interface time unchecked

    action : IngressNextAction
    action = ingress_action path interface (changes edition path) (is_final path)

    go : (first : Result Unit StandardRoutingError) → first_no (before ids states path) ≡ first
        → (place : Result Unit StandardRoutingError) → first_no (ingress_place edition path) ≡ place
        → (checks : Result Unit StandardRoutingError) → first_no (ingress_questions edition ids states mac at path (changes edition path)) ≡ checks
        → (told (leaves Err path) first
        (told (leaves Err path) place (record { answer = told Err checks (Ok action); bytes = ingress_move edition path interface (changes edition path) }))
        ).answer
        ≡ Ok (ContinueEgress out) → WentOn edition ids states mac interface time unchecked path out
    go (Err why) a place b checks c q = absurd cc
    go (Ok _) a (Err why) b checks c q = absurd cc
    go (Ok _) a (Ok _) b (Err why) c q = absurd cc
    go (Ok _) a (Ok _) b (Ok _) c q = record { asked = a; placed = b; checked = c; going = cc }

-- ---- a hop that ingress let pass is let pass by egress, if what is read of it stays

same_egress : {first second : List ℕ} (c : Bool) → SameHop first second → travel_egress c second ≡ travel_egress c first
unfolding travel_egress
same_egress true same = same.out
same_egress false same = same.into

module _ (mac : MacFunction) (interface time : ℕ) (unchecked : Bool) {hop1 hop2 info1 info2 : List ℕ} where
  passes_again : SameHop hop1 hop2 → SameInfo info1 info2 → (index again : ℕ) {value out : ℕ} → seg_id info2 ≡ value
      → travel_egress (cons_dir info1) hop1 ≡ out
      → first_no (hop_questions mac (at_ingress interface time unchecked) index hop1 info1 value) ≡ Ok tt
      → first_no (hop_questions mac (at_egress out time unchecked) again hop2 info2 (seg_id info2)) ≡ Ok tt
  passes_again hop_same info_same index again {value} {out} seg leaves e =
      let stamp = rest_yes _ _ _ e in
      let life = rest_yes _ _ _ stamp in
      let right = rest_yes _ _ _ life in
      let alike : hop_questions mac (at_egress out time unchecked) again hop2 info2 (seg_id info2)
      ≡ hop_questions mac (at_egress out time unchecked) again hop1 info1 value =
      rw (info_same.dir, info_same.start, same_egress (cons_dir info1) hop_same, hop_same.units, hop_same.into, hop_same.out)
      (rw (hop_same.mac, seg)) in
      ap first_no alike
      ∙ both_yes _ _ _ (eq-eqb _ _ leaves)
      (both_yes _ _ _ (first_yes _ _ _ stamp)
      (both_yes _ _ _ (first_yes _ _ _ life) (both_yes _ _ _ (first_yes _ _ _ right) none_asked)))

-- ---- where the path stands, by 1 to 8

pub record Standing (edition : Edition) (path : List ℕ) : Type 0 where
  pub room : header_size path ≤ length path
  pub few : hops path ≤ 64
  pub among : curr_hf path < hops path
  pub here : segment path ≡ curr_inf path
  pub inside : curr_inf path < infos path
  pub next : changes edition path ≡ true → curr_inf path + 1 < infos path
  pub fits : first_no (peering_questions edition path) ≡ Ok tt

pub stands : (edition : Edition) (ids states path : List ℕ) → first_no (before ids states path) ≡ Ok tt
    → first_no (ingress_place edition path) ≡ Ok tt → Standing edition path
stands edition ids states path a p =
    let sized = rest_yes _ _ _ (rest_yes _ _ _ a) in
    let other = rest_yes _ _ _ (rest_yes _ _ _ p) in
    let info = rest_yes _ _ _ other in
    let last = first_yes _ _ _ (rest_yes _ _ _ info) in
    let peering-yes = rest_yes _ _ _ (rest_yes _ _ _ info) in
    let at = eqb-true _ _ (first_yes _ _ _ other) in
    record {
      room = leb-true _ _ (first_yes _ _ _ sized);
      few = leb-true _ _ (first_yes _ _ _ (rest_yes _ _ _ sized));
      among = ltb-true _ _ (first_yes _ _ _ p);
      here = at;
      inside = ltb-true _ _ (first_yes _ _ _ info);
      next = λ e. let q : ltb (segment path + 1) (infos path) ≡ true = rw e at last in rw (sym at) (ltb-true _ _ q);
      fits = peering-yes;
    }

-- a segment change has a next hop
pub next_hop_there : (edition : Edition) (path : List ℕ) → changes edition path ≡ true → curr_hf path + 1 < hops path
next_hop_there edition path e = go (is_peering_hop edition path) (ends path) (leb (hops path) (curr_hf path + 1)) refl e
  where
    go : (peer end final : Bool) → leb (hops path) (curr_hf path + 1) ≡ final → (not peer && (end && not final)) ≡ true
        → curr_hf path + 1 < hops path
    go false true false f q = leb-false _ _ f
    go false true true f q = absurd cc
    go false false final f q = absurd cc
    go true end final f q = absurd cc

-- a hop that makes no change and is not the path's last is not its segment's last either, or it is the first peering hop
leads_on : (edition : Edition) (path : List ℕ) → is_final path ≡ false → changes edition path ≡ false
    → (crosses edition path || not (ends path)) ≡ true
unfolding hops
leads_on edition path onward stay = go (ends path) refl (peering_path edition path) refl (eqb (curr_hf path + 1) (seg0_len path))
    (eqb (curr_hf path) (seg0_len path)) refl (rw onward at stay)
  where
    go : (end : Bool) → ends path ≡ end → (peers : Bool) → peering_path edition path ≡ peers → (first second : Bool)
        → eqb (curr_hf path) (seg0_len path) ≡ second
        → (not (peers && (first || second)) && (end && true)) ≡ false → ((peers && first) || not end) ≡ true
    go false e peers p first second q stay = or-true (peers && first)
    go true e false p first second q stay = absurd cc
    go true e true p true second q stay = refl
    go true e true p false false q stay = absurd cc
    go true e true p false true q stay =
        let l = peering_lengths edition path p in
        let here = eqb-true (curr_hf path) (seg0_len path) q in
        let last : curr_hf path + 1 ≡ seg0_len path + seg1_len path = eqb-true _ _
        (rw (le-ltb (curr_hf path) (seg0_len path) (omega arith), lt-ltb (curr_hf path) (seg0_len path + seg1_len path) (omega (arith, here, l.seg1)))
        at e) in
        let far = leb-false (hops path) (curr_hf path + 1) onward in
        absurd (omega (arith, last, far, l.seg2))

-- the packet leaves by what the action says
action_leaves : (path : List ℕ) (interface : ℕ) (change final : Bool) {out : ℕ} → ingress_action path interface change final ≡ ContinueEgress out
    → leaving path change ≡ out
unfolding ingress_action
action_leaves path interface change final {out} e = go (alerts_at_ingress path interface) final e
  where
    go : (alert final : Bool)
        → cond alert (Complete (Local (IngressSCMPHandleRequest interface)))
        (cond final (Complete (Local ForwardLocal)) (ContinueEgress (leaving path change)))
        ≡ ContinueEgress out → leaving path change ≡ out
    go true final q = absurd cc
    go false true q = absurd cc
    go false false q = cc

-- and so it is not the path's last hop
action_onward : (path : List ℕ) (interface : ℕ) (change final : Bool) {out : ℕ} → ingress_action path interface change final ≡ ContinueEgress out
    → final ≡ false
unfolding ingress_action
action_onward path interface change final {out} e = go (alerts_at_ingress path interface) final e
  where
    go : (alert final : Bool)
        → cond alert (Complete (Local (IngressSCMPHandleRequest interface)))
        (cond final (Complete (Local ForwardLocal)) (ContinueEgress (leaving path change)))
        ≡ ContinueEgress out → final ≡ false
    go true final q = absurd cc
    go false true q = absurd cc
    go false false q = refl

pub infos_few : (path : List ℕ) → infos path ≤ 3
unfolding infos
infos_few path = omega arith

-- ---- the path after an ingress that went on: its indices are in the header, and its hop passes

record Ready (mac : MacFunction) (out time : ℕ) (unchecked : Bool) (path after : List ℕ) : Type 0 where
  among : curr_hf after < hops path
  inside : curr_inf after < infos path
  passes : first_no (egress_questions mac (at_egress out time unchecked) after) ≡ Ok tt

module _ (edition : Edition) (ids states : List ℕ) (mac : MacFunction) (interface time : ℕ) (unchecked : Bool) (path : List ℕ)
    (s : Standing edition path)
    (fields : FieldsMoved path (ingress_fields edition path interface) (ingress_seg_id edition path interface)) where
  abbrev at : StandardValidator
  at = at_ingress interface time unchecked

  stay_ready : {out : ℕ} → first_no (ingress_questions edition ids states mac at path false) ≡ Ok tt → leaving path false ≡ out
      → Ready mac out time unchecked path (ingress_move edition path interface false)
  unfolding ingress_move
  stay_ready checks leaves = record {
    among = rw fields.hf s.among;
    inside = rw fields.inf s.inside;
    passes = rw (fields.hf, fields.inf)
        (passes_again mac interface time unchecked fields.hop_here fields.info_here _ _ fields.seg leaves checks);
  }

  change_hf : changes edition path ≡ true → curr_hf (ingress_move edition path interface true) ≡ curr_hf path + 1
  unfolding ingress_move header_size
  change_hf changing =
      let fields-moved = ingress_fields edition path interface in
      let far = next_hop_there edition path changing in
      let some : 0 < length fields-moved = omega (arith, s.room, fields.kept.size) in
      hf_after_inf (set_curr_hf fields-moved (curr_hf path + 1)) _
      (omega (arith, some, (set_hf_kept fields-moved (curr_hf path + 1)).size))
      ∙ hf_after_hf fields-moved _ some (omega (arith, far, s.few))

  change_ready : {out : ℕ} → changes edition path ≡ true → first_no (ingress_questions edition ids states mac at path true) ≡ Ok tt
      → leaving path true ≡ out
      → Ready mac out time unchecked path (ingress_move edition path interface true)
  unfolding ingress_move header_size
  change_ready changing checks leaves =
      let fields-moved = ingress_fields edition path interface in
      let advanced = set_curr_hf fields-moved (curr_hf path + 1) in
      let after = set_curr_inf advanced (curr_inf path + 1) in
      let next = s.next changing in
      let far = next_hop_there edition path changing in
      let some : 0 < length fields-moved = omega (arith, s.room, fields.kept.size) in
      let more : 0 < length advanced = omega (arith, some, (set_hf_kept fields-moved (curr_hf path + 1)).size) in
      let hf : curr_hf after ≡ curr_hf path + 1 = change_hf changing in
      let inf : curr_inf after ≡ curr_inf path + 1 = inf_after_inf advanced _ more (omega (arith, next, infos_few path)) in
      let hop_next : hop_field after (curr_hf path + 1) ≡ next_hop path =
      set_inf_hop advanced _ _ ∙ set_hf_hop fields-moved _ _ ∙ fields.hop_other _ (λ e. omega arith) in
      let info_next : info_field after (curr_inf path + 1) ≡ next_info path =
      set_inf_info advanced _ _ ∙ set_hf_info fields-moved _ _ ∙ fields.info_other _ next (λ e. omega arith) in
      let change-asked = change_questions ids states (curr_hf path) (hop path) (info path) (next_hop path) (next_info path) in
      record {
        among = rw hf far;
        inside = rw inf next;
        passes = rw (hf, inf)
            (passes_again mac interface time unchecked (same_hop hop_next) (same_info info_next) (curr_hf path + 1) (curr_hf path + 1)
            (ap seg_id info_next) leaves
            (last_yes change-asked (hop_questions mac at (curr_hf path + 1) (next_hop path) (next_info path) (seg_id (next_info path)))
            (last_yes (hop_questions mac at (curr_hf path) (hop path) (info path) (ingress_seg_id edition path interface)) _ checks)));
      }

-- ---- the law

-- what is left to ask: 7, 5 for the next hop, 18
abbrev pub inside_questions : Edition → List ℕ → Questions
inside_questions edition path =
    (eqb (segment path) (curr_inf path), AdvanceFailed (InvalidSegmentIndex (segment path) (curr_inf path)))
    ∷ way_questions edition path

place_inside : (edition : Edition) (path : List ℕ) → curr_hf path < hops path → curr_inf path < infos path
    → first_no (peering_questions edition path) ≡ Ok tt → first_no (egress_place edition path) ≡ first_no (inside_questions edition path)
unfolding asks
place_inside edition path among inside fits =
    rw (lt-ltb _ _ among, lt-ltb _ _ inside, goes_on_lem (peering_questions edition path) (way_questions edition path) fits)

module _ (edition : Edition) (ids states : List ℕ) (mac : MacFunction) (interface time : ℕ) (unchecked : Bool) (path : List ℕ) (out : ℕ)
    (w : WentOn edition ids states mac interface time unchecked path out) where
  abbrev after : List ℕ
  after = ingress_move edition path interface (changes edition path)

  ready : Ready mac out time unchecked path after
  unfolding header_size
  ready =
      let s = stands edition ids states path w.asked w.placed in
      go s (ingress_fields_moved path s.inside edition interface (omega (arith, s.room, s.inside))) (changes edition path) refl w.checked
      (action_leaves path interface (changes edition path) (is_final path) w.going)
    where
      go : (s : Standing edition path) (fields : FieldsMoved path (ingress_fields edition path interface) (ingress_seg_id edition path interface))
          (change : Bool)
          → changes edition path ≡ change
          → first_no (ingress_questions edition ids states mac (at_ingress interface time unchecked) path change) ≡ Ok tt
          → leaving path change ≡ out
          → Ready mac out time unchecked path (ingress_move edition path interface change)
      go s fields true e = change_ready edition ids states mac interface time unchecked path s fields e
      go s fields false e = stay_ready edition ids states mac interface time unchecked path s fields

  held : Holds path after
  held =
      let s = stands edition ids states path w.asked w.placed in
      ingress_move_holds edition path s.inside s.among interface (changes edition path)

  -- CurrHF tells whether there was a segment change; without one nothing is left to ask
  not_moved : curr_hf after ≡ curr_hf path → changes edition path ≡ false
  unfolding header_size
  not_moved same = go (changes edition path) refl same
    where
      go : (change : Bool) → changes edition path ≡ change → curr_hf (ingress_move edition path interface change) ≡ curr_hf path → change ≡ false
      go true e q =
          let s = stands edition ids states path w.asked w.placed in
          let fields = ingress_fields_moved path s.inside edition interface (omega (arith, s.room, s.inside)) in
          absurd (omega (arith, change_hf edition ids states mac interface time unchecked path s fields e, q))
      go false e q = refl

  stay_free : changes edition path ≡ false → first_no (inside_questions edition after) ≡ Ok tt
  unfolding asks ingress_move header_size
  stay_free stay =
      let s = stands edition ids states path w.asked w.placed in
      let fields = ingress_fields_moved path s.inside edition interface (omega (arith, s.room, s.inside)) in
      let h = ingress_move_holds edition path s.inside s.among interface false in
      let onward = action_onward path interface (changes edition path) (is_final path) w.going in
      rw stay
      (rw (
        h.kept.seg0,
        h.kept.seg1,
        h.kept.seg2,
        hops_kept h.kept,
        peering_path_kept h.kept h.flags edition,
        fields.hf,
        fields.inf,
        eq-eqb _ _ s.here,
        onward,
        leads_on edition path onward stay,
      ))

  before_again : first_no (before ids states after) ≡ Ok tt
  before_again = both_yes _ _ _ (first_yes _ _ _ w.asked) (asked_alike held ∙ rest_yes _ _ _ w.asked)

  went_on_bytes : (ingress edition ids states mac (at_ingress interface time unchecked) path).bytes ≡ after
  went_on_bytes = rw (ingress_all_told edition ids states mac (at_ingress interface time unchecked) path, w.asked, w.placed)

  pub egress_placed : egress edition ids states mac (at_egress out time unchecked) after
      ≡ told (leaves Err after) (first_no (egress_place edition after)) (record { answer = Ok (egress_action after); bytes = egress_move edition after })
  egress_placed = rw (egress_all_told edition ids states mac (at_egress out time unchecked) after, before_again, ready.passes)

  pub egress_after : egress edition ids states mac (at_egress out time unchecked) after
      ≡ told (leaves Err after) (first_no (inside_questions edition after)) (record { answer = Ok (egress_action after); bytes = egress_move edition after })
  egress_after =
      let here : curr_hf after < hops after = rw (hops_kept held.kept) ready.among in
      let inside : curr_inf after < infos after = rw (infos_kept held.kept) ready.inside in
      let fits : first_no (peering_questions edition after) ≡ Ok tt =
      ap first_no (questions_kept held.kept held.flags edition) ∙ (stands edition ids states path w.asked w.placed).fits in
      rw (egress_placed, place_inside edition after here inside fits)

-- egress, on the bytes that an ingress left which went on: where the path stands is all that it asks, and of that what is left
module _ (edition : Edition) (ids states : List ℕ) (mac : MacFunction) (interface time : ℕ) (unchecked : Bool) (path : List ℕ) (out : ℕ)
    (e : (ingress edition ids states mac (at_ingress interface time unchecked) path).answer ≡ Ok (ContinueEgress out)) where
  abbrev left : List ℕ
  left = (ingress edition ids states mac (at_ingress interface time unchecked) path).bytes

  abbrev on : WentOn edition ids states mac interface time unchecked path out
  on = went_on edition ids states mac interface time unchecked path out e

  egress_inside_placed : egress edition ids states mac (at_egress out time unchecked) left
      ≡ told (leaves Err left) (first_no (egress_place edition left)) (record { answer = Ok (egress_action left); bytes = egress_move edition left })
  egress_inside_placed =
      rw (went_on_bytes edition ids states mac interface time unchecked path out on)
      (egress_placed edition ids states mac interface time unchecked path out on)

  pub egress_inside : egress edition ids states mac (at_egress out time unchecked) left
      ≡ told (leaves Err left) (first_no (inside_questions edition left)) (record { answer = Ok (egress_action left); bytes = egress_move edition left })
  egress_inside =
      rw (went_on_bytes edition ids states mac interface time unchecked path out on)
      (egress_after edition ids states mac interface time unchecked path out on)

  -- where CurrHF stayed, it asks nothing
  unmoved : curr_hf left ≡ curr_hf path
      → egress edition ids states mac (at_egress out time unchecked) left ≡ record { answer = Ok (egress_action left); bytes = egress_move edition left }
  unmoved same =
      let bytes = went_on_bytes edition ids states mac interface time unchecked path out on in
      let stay = not_moved edition ids states mac interface time unchecked path out on (rw bytes at same) in
      rw bytes
      (egress_after edition ids states mac interface time unchecked path out on
      ∙ rw (stay_free edition ids states mac interface time unchecked path out on stay))

  egress_inside_moved : egress edition ids states mac (at_egress out time unchecked) left
      ≡ told (leaves Err left) (cond (eqb (curr_hf left) (curr_hf path)) (Ok tt) (first_no (egress_place edition left)))
      (record { answer = Ok (egress_action left); bytes = egress_move edition left })
  egress_inside_moved = go (eqb (curr_hf left) (curr_hf path)) refl
    where
      go : (same : Bool) → eqb (curr_hf left) (curr_hf path) ≡ same
          → egress edition ids states mac (at_egress out time unchecked) left
          ≡ told (leaves Err left) (cond same (Ok tt) (first_no (egress_place edition left)))
          (record { answer = Ok (egress_action left); bytes = egress_move edition left })
      go true e = unmoved (eqb-true _ _ e)
      go false e = egress_inside_placed

  -- the whole step: 15 and 17, then egress
  pub step_goes_on : step edition ids states mac interface time unchecked path
      ≡ told (leaves Err left) (first_no (leaving_questions (state_of ids states out) out left))
      (told (leaves Err left) (cond (eqb (curr_hf left) (curr_hf path)) (Ok tt) (first_no (egress_place edition left)))
      (record { answer = Ok (egress_action left); bytes = egress_move edition left }))
  unfolding step step_from
  step_goes_on =
      rw e
      (asks_told (leaves Err left) (leaving_questions (state_of ids states out) out left)
      (egress edition ids states mac (at_egress out time unchecked) left)
      ∙ ap (told (leaves Err left) (first_no (leaving_questions (state_of ids states out) out left))) egress_inside_moved)
