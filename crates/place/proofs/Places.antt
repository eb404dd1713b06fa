-- What the halves cite of where a path stands.
-- Assumes nothing.
use mathlib.Core.Path.{◌≡◌, refl, sym, ◌∙◌}
use mathlib.Core.Bool.{Bool, true, false, not, ◌&&◌, ◌||◌, cond}
use mathlib.Core.List.{List, [], ◌∷◌, ◌++◌}
use Prim.Native.Nat.{ℕ, ◌+◌, ◌<◌}
use borrow.Author.Tests.{not-true, not-false, eq-eqb, lt-ltb}
use lib.Dec.{eqb, ltb}
use Rattle.std.specs.Prelude.{Option, Some, None, Ok, Err}
use Rattle.standard_path.specs.Meta.{curr_hf, curr_inf, seg0_len, seg1_len, seg2_len}
use Rattle.standard_path.specs.Header.{infos, hops, segment_of, segment_start, segment_end, segment_among, segment_index}
use Rattle.standard_path.specs.declared.view.SegmentIndex.{SegmentIndex}
use Rattle.questions.specs.Questions.{asks}
use Rattle.answers.specs.Questions.{Questions, first_no}
use Rattle.answers.proofs.Asked.{same_append, asks_told}
use Rattle.answers.specs.declared.StandardRoutingError.{StandardRoutingError}
use Rattle.edition.specs.declared.Edition.{Edition}
use Rattle.edition.specs.declared.Edition.TheVariants.{First, Second}
use Rattle.edition.specs.Edition.{peering_fits, peering_questions}
use Rattle.place.specs.Place.{crosses, place_questions, way_questions, egress_place}
use Rattle.place.specs.Inner.{onward_by, egress_place_by}

-- what is asked comes to the first no, or to what comes after the last yes
pub asked_no : {A : Type 0} (refuse : StandardRoutingError → A) (questions : Questions) (after : A) {why : StandardRoutingError}
    → first_no questions ≡ Err why → asks refuse questions after ≡ refuse why
asked_no refuse questions after e = rw (asks_told refuse questions after, e)

pub asked_yes : {A : Type 0} (refuse : StandardRoutingError → A) (questions : Questions) (after : A) → first_no questions ≡ Ok tt
    → asks refuse questions after ≡ after
asked_yes refuse questions after e = rw (asks_told refuse questions after, e)

-- questions that come to a place, and those that come to a refusal
pub placed_at : {A : Type 0} (questions : Questions) (place : A) {found : A} → asks Err questions (Ok place) ≡ Ok found
    → (first_no questions ≡ Ok tt) × (place ≡ found)
unfolding asks
placed_at [] place e = (refl, cc)
placed_at ((true, why) ∷ more) place e = placed_at more place e
placed_at ((false, why) ∷ more) place e = absurd cc

pub placed_nowhere : {A : Type 0} (questions : Questions) (place : A) {why : StandardRoutingError} → asks Err questions (Ok place) ≡ Err why
    → first_no questions ≡ Err why
unfolding asks
placed_nowhere [] place e = absurd cc
placed_nowhere ((true, other) ∷ more) place e = placed_nowhere more place e
placed_nowhere ((false, other) ∷ more) place e = cc

-- at egress, with what the edition makes of the path
pub placed_by : (edition : Edition) (path : List ℕ) {fits crossing : Bool} → fits ≡ peering_fits edition path → crossing ≡ crosses edition path
    → first_no (egress_place_by path fits crossing) ≡ first_no (egress_place edition path)
unfolding asks
placed_by edition path f x = rw (f, x) (same_append (place_questions path) (onward_by path (peering_fits edition path) (crosses edition path))
    (peering_questions edition path ++ way_questions edition path) (go edition))
  where
    go : (edition : Edition)
        → first_no (onward_by path (peering_fits edition path) (crosses edition path))
        ≡ first_no (peering_questions edition path ++ way_questions edition path)
    go First = refl
    go Second = refl

-- ---- what a segment index says of the questions

-- a hop that lies in a segment
pub record Lies (path : List ℕ) (h index : ℕ) (start end : Bool) : Type 0 where
  pub inside : ltb h (hops path) ≡ true
  pub segment : segment_of (seg0_len path) (seg1_len path) h ≡ index
  pub first : eqb h (segment_start (seg0_len path) (seg1_len path) index) ≡ start
  pub last : eqb (h + 1) (segment_end (seg0_len path) (seg1_len path) (seg2_len path) index) ≡ end

-- what the segment index is, by whether the hop is inside
abbrev found_at : List ℕ → ℕ → Bool → Option SegmentIndex
found_at path h inside =
    let index = segment_of (seg0_len path) (seg1_len path) h in
    cond inside
    (Some (record {
      index = index;
      start = eqb h (segment_start (seg0_len path) (seg1_len path) index);
      end = eqb (h + 1) (segment_end (seg0_len path) (seg1_len path) (seg2_len path) index);
    }))
    None

pub lies : (path : List ℕ) (h : ℕ) {found : SegmentIndex} → segment_index path h ≡ Some found
    → Lies path h found.index found.start found.end
unfolding segment_index segment_among hops
lies path h {found} e = go (ltb h (hops path)) refl e
  where
    go : (inside : Bool) → ltb h (hops path) ≡ inside → found_at path h inside ≡ Some found → Lies path h found.index found.start found.end
    go true i q = record { inside = i; segment = cc; first = cc; last = cc }
    go false i q = absurd cc

pub lies_nowhere : (path : List ℕ) (h : ℕ) → segment_index path h ≡ None → ltb h (hops path) ≡ false
unfolding segment_index segment_among hops
lies_nowhere path h e = go (ltb h (hops path)) refl e
  where
    go : (inside : Bool) → ltb h (hops path) ≡ inside → found_at path h inside ≡ None → ltb h (hops path) ≡ false
    go true i q = absurd cc
    go false i q = i

-- where the current hop lies, by what the segment index answered
pub here : (path : List ℕ) {hop : ℕ} {found : SegmentIndex} {answer : Option SegmentIndex}
    → hop ≡ curr_hf path → answer ≡ segment_index path hop → answer ≡ Some found → Lies path (curr_hf path) found.index found.start found.end
here path h e f = lies path (curr_hf path) (rw h at (sym e ∙ f))

-- and that it lies in no segment
pub nowhere_here : (path : List ℕ) {hop : ℕ} {answer : Option SegmentIndex}
    → hop ≡ curr_hf path → answer ≡ segment_index path hop → answer ≡ None → ltb (curr_hf path) (hops path) ≡ false
nowhere_here path h e f = lies_nowhere path (curr_hf path) (rw h at (sym e ∙ f))

-- 7 and 8 answered yes, by what was read and compared
pub index_yes : (path : List ℕ) {index actual : ℕ} → actual ≡ curr_inf path → index ≡ actual → eqb index (curr_inf path) ≡ true
index_yes path {index} e h = eq-eqb index (curr_inf path) (h ∙ e)

pub infos_yes : (path : List ℕ) {actual count : ℕ} → actual ≡ curr_inf path → count ≡ infos path → actual < count
    → ltb (curr_inf path) (infos path) ≡ true
infos_yes path {actual} {count} e f h = rw (e, f) at (lt-ltb actual count h)

-- the test of 6, of a hop in this segment, and its opposite
module _ {path : List ℕ} {h index : ℕ} {start end : Bool} (l : Lies path h index start end) where
  pub allowed : (peering_path : Bool) → not (peering_path || not (start && end)) ≡ false → (peering_path || not (start && end)) ≡ true
  allowed peering_path e = not-false (peering_path || not (start && end)) e

  pub alone_no : (peering_path : Bool) → not (peering_path || not (start && end)) ≡ true → (peering_path || not (start && end)) ≡ false
  alone_no peering_path e = not-true (peering_path || not (start && end)) e
