-- The readings do not change the bytes that a journey leaves: where it ended, and what the station answered, tells them.
-- Assumes nothing.
use mathlib.Core.Path.{◌≡◌, refl, ap, sym, ◌∙◌}
use mathlib.Core.Bool.{Bool, true, false, not, ◌&&◌, cond}
use mathlib.Core.List.{List, [], ◌∷◌}
use Prim.Native.Nat.{ℕ, suc, ◌≤◌}
use native.Mathlib.Omega.{arith}
use lib.Dec.{eqb}
use Rattle.std.specs.Prelude.{Result, Ok, Err}
use Rattle.answers.proofs.Asked.{told}
use Rattle.octets.proofs.Bools.{first_of}
use Rattle.fields.specs.Fields.{cons_dir, travel_egress, travel_egress_alert}
use Rattle.answers.specs.Questions.{first_no}
use Rattle.answers.specs.declared.StandardRoutingError.{StandardRoutingError}
use Rattle.answers.specs.declared.LocalAsRoutingAction.TheVariants.{IngressSCMPHandleRequest, EgressSCMPHandleRequest, ForwardLocal}
use Rattle.answers.specs.declared.AsRoutingAction.TheVariants.{Local, ForwardNextHop}
use Rattle.answers.specs.Answer.{StepAnswer}
use Rattle.edition.specs.declared.Edition.{Edition}
use Rattle.answers.specs.Outcome.{Outcome, leaves}
use Rattle.place.specs.Place.{before, changes, is_final, ingress_place, hop, info}
use Rattle.moves.specs.Moves.{ingress_move, egress_move}
use Rattle.ingress.specs.Ingress.{alerts_at_ingress}
use Rattle.egress.specs.Egress.{leaving_action, egress_action}
use Rattle.validator.specs.Check.{key_mac}
use Rattle.routing.proofs.Inside.{inside_questions}
use Rattle.routing_laws.proofs.Whole.{step_asks, checks, leaving_checks}
use Rattle.station.specs.Station.{Station}
use Rattle.journey.specs.Journey.{StationStep, step_at, ended_at, goes_on, some_left, or_ends, journey}

-- an answer that egress gave, with its move done
abbrev pub left_by_egress : StepAnswer → Bool
left_by_egress (Ok (ForwardNextHop interface)) = true
left_by_egress (Ok (Local (EgressSCMPHandleRequest interface))) = true
left_by_egress (Ok (Local (IngressSCMPHandleRequest interface))) = false
left_by_egress (Ok (Local ForwardLocal)) = false
left_by_egress (Err why) = false

-- the bytes left, told by the station, the path and the answer
abbrev bytes_after : Result Unit StandardRoutingError → Result Unit StandardRoutingError → List ℕ → List ℕ → List ℕ → Bool → List ℕ
bytes_after (Ok _) (Ok _) path entered moved egressed = cond egressed moved entered
bytes_after (Ok _) (Err why) path entered moved egressed = path
bytes_after (Err why) place path entered moved egressed = path

abbrev pub left_bytes : Edition → Station → List ℕ → StepAnswer → List ℕ
left_bytes edition station path answer =
    let entered = ingress_move edition path station.arrival (changes edition path) in
    bytes_after (first_no (before station.ids station.states path)) (first_no (ingress_place edition path)) path entered
    (egress_move edition entered)
    (left_by_egress answer)

egress_action_leaves : (path : List ℕ) → left_by_egress (Ok (egress_action path)) ≡ true
unfolding leaving_action
egress_action_leaves path =
    go (travel_egress_alert (cons_dir (info path)) (hop path)) (eqb (travel_egress (cons_dir (info path)) (hop path)) 0)
  where
    go : (alert none : Bool)
        → left_by_egress
        (Ok (cond (alert && not none) (Local (EgressSCMPHandleRequest (travel_egress (cons_dir (info path)) (hop path))))
        (ForwardNextHop (travel_egress (cons_dir (info path)) (hop path)))))
        ≡ true
    go true true = refl
    go true false = refl
    go false none = refl

pub bytes_by_answer : (edition : Edition) (station : Station) (reading : ℕ) (path : List ℕ)
    → (step_at edition station reading path).bytes ≡ left_bytes edition station path (step_at edition station reading path).answer
unfolding step_at
bytes_by_answer edition station reading path =
    let ids = station.ids in
    let states = station.states in
    let mac = key_mac station.key in
    let interface = station.arrival in
    let entered = ingress_move edition path interface (changes edition path) in
    rw (step_asks edition ids states mac interface reading false path)
    (go entered (first_no (before ids states path)) (first_no (ingress_place edition path))
    (first_no (checks edition ids states mac interface reading false path)) (alerts_at_ingress path interface) (is_final path)
    (first_no (leaving_checks edition ids states mac interface reading false path)) (first_no (inside_questions edition entered)))
  where
    go : (entered : List ℕ) (first place passed : Result Unit StandardRoutingError) (alert final : Bool)
        (leaving inside : Result Unit StandardRoutingError)
        → let outcome : Outcome StepAnswer =
        told (leaves Err path) first
        (told (leaves Err path) place
        (told (leaves Err entered) passed
        (cond alert (record { answer = Ok (Local (IngressSCMPHandleRequest station.arrival)); bytes = entered })
        (cond final (record { answer = Ok (Local ForwardLocal); bytes = entered })
        (told (leaves Err entered) leaving
        (told (leaves Err entered) inside (record { answer = Ok (egress_action entered); bytes = egress_move edition entered }))))))) in
        outcome.bytes ≡ bytes_after first place path entered (egress_move edition entered) (left_by_egress outcome.answer)
    go entered (Err why) place passed alert final leaving inside = refl
    go entered (Ok _) (Err why) passed alert final leaving inside = refl
    go entered (Ok _) (Ok _) (Err why) alert final leaving inside = refl
    go entered (Ok _) (Ok _) (Ok _) true final leaving inside = refl
    go entered (Ok _) (Ok _) (Ok _) false true leaving inside = refl
    go entered (Ok _) (Ok _) (Ok _) false false (Err why) inside = refl
    go entered (Ok _) (Ok _) (Ok _) false false (Ok _) (Err why) = refl
    go entered (Ok _) (Ok _) (Ok _) false false (Ok _) (Ok _) = rw (egress_action_leaves entered)

-- ---- along a journey

on_leaves : (answer : StepAnswer) → goes_on answer ≡ true → left_by_egress answer ≡ true
unfolding goes_on
on_leaves (Ok (ForwardNextHop interface)) e = refl
on_leaves (Ok (Local action)) e = absurd cc
on_leaves (Err why) e = absurd cc

-- of a step: one answer leaves the same bytes whatever the reading, and so do two that go on
pub record ByAnswer (at : StationStep) : Type 0 where
  pub alike : (station : Station) (first second : ℕ) (path : List ℕ) → (at station first path).answer ≡ (at station second path).answer
      → (at station first path).bytes ≡ (at station second path).bytes
  pub going : (station : Station) (first second : ℕ) (path : List ℕ) → goes_on (at station first path).answer ≡ true
      → goes_on (at station second path).answer ≡ true → (at station first path).bytes ≡ (at station second path).bytes

pub by_answer : (edition : Edition) → ByAnswer (step_at edition)
by_answer edition = record {
  alike = λ station first second path e.
      bytes_by_answer edition station first path
      ∙ ap (left_bytes edition station path) e ∙ sym (bytes_by_answer edition station second path);
  going = λ station first second path a b.
      bytes_by_answer edition station first path
      ∙ rw (on_leaves (step_at edition station first path).answer a)
      (sym (bytes_by_answer edition station second path ∙ rw (on_leaves (step_at edition station second path).answer b)));
}

-- a journey ends at its first station or behind it
ends_behind : (at : StationStep) (stations : List Station) (readings : List ℕ) (k : ℕ) (path : List ℕ) {j : ℕ} {answer : StepAnswer}
    {left : List ℕ} → journey at k stations readings path ≡ ended_at j answer left → k ≤ j
unfolding journey
ends_behind at [] readings k path e = absurd cc
ends_behind at (station ∷ stations) [] k path e = absurd cc
ends_behind at (station ∷ stations) (reading ∷ readings) k path {j} {answer} {left} e =
    go (goes_on (at station reading path).answer && some_left stations)
    (λ q. ends_behind at stations readings (suc k) (at station reading path).bytes q) e
  where
    go : (on : Bool)
        → (journey at (suc k) stations readings (at station reading path).bytes ≡ ended_at j answer left → suc k ≤ j)
        → or_ends on k (at station reading path) (journey at (suc k) stations readings (at station reading path).bytes)
        ≡ ended_at j answer left → k ≤ j
    go true rest q = let l = rest q in omega arith
    go false rest q = let same : k ≡ j = cc in omega arith

answered_bytes : {at : StationStep} → ByAnswer at → (stations : List Station) (first second : List ℕ) (k : ℕ) (path : List ℕ) {j : ℕ}
    {answer : StepAnswer} {left1 left2 : List ℕ} → journey at k stations first path ≡ ended_at j answer left1
    → journey at k stations second path ≡ ended_at j answer left2 → left1 ≡ left2
unfolding journey
answered_bytes l [] first second k path e f = absurd cc
answered_bytes l (station ∷ stations) [] second k path e f = absurd cc
answered_bytes l (station ∷ stations) (reading ∷ first) [] k path e f = absurd cc
answered_bytes {at} l (station ∷ stations) (reading1 ∷ first) (reading2 ∷ second) k path {j} {answer} {left1} {left2} e f =
    go (goes_on (at station reading1 path).answer && some_left stations) refl
    (goes_on (at station reading2 path).answer && some_left stations) refl
    (λ q r. answered_bytes l stations first second (suc k) (at station reading1 path).bytes q r) e f
  where
    go : (on1 : Bool) → (goes_on (at station reading1 path).answer && some_left stations) ≡ on1
        → (on2 : Bool) → (goes_on (at station reading2 path).answer && some_left stations) ≡ on2
        → (journey at (suc k) stations first (at station reading1 path).bytes ≡ ended_at j answer left1
        → journey at (suc k) stations second (at station reading1 path).bytes ≡ ended_at j answer left2 → left1 ≡ left2)
        → or_ends on1 k (at station reading1 path) (journey at (suc k) stations first (at station reading1 path).bytes)
        ≡ ended_at j answer left1
        → or_ends on2 k (at station reading2 path) (journey at (suc k) stations second (at station reading2 path).bytes)
        ≡ ended_at j answer left2 → left1 ≡ left2
    go true a true b rest e f =
        let same = l.going station reading1 reading2 path (first_of _ (some_left stations) a) (first_of _ (some_left stations) b) in
        rest e (rw same f)
    go true a false b rest e f =
        let behind = ends_behind at stations first (suc k) (at station reading1 path).bytes e in
        let same : k ≡ j = cc in absurd (omega arith)
    go false a true b rest e f =
        let behind = ends_behind at stations second (suc k) (at station reading2 path).bytes f in
        let same : k ≡ j = cc in absurd (omega arith)
    go false a false b rest e f =
        let answers : (at station reading1 path).answer ≡ (at station reading2 path).answer = cc in
        let left_1 : (at station reading1 path).bytes ≡ left1 = cc in
        let left_2 : (at station reading2 path).bytes ≡ left2 = cc in
        sym left_1 ∙ l.alike station reading1 reading2 path answers ∙ left_2

-- two journeys over the same stations, from the same bytes, that end at one station with one answer leave the same bytes
pub same_bytes : (edition : Edition) (stations : List Station) (first second : List ℕ) (k : ℕ) (path : List ℕ) {j : ℕ} {answer : StepAnswer}
    {left1 left2 : List ℕ} → journey (step_at edition) k stations first path ≡ ended_at j answer left1
    → journey (step_at edition) k stations second path ≡ ended_at j answer left2 → left1 ≡ left2
same_bytes edition stations first second k path e f = answered_bytes (by_answer edition) stations first second k path e f
