-- What a lookup and a pass along a table come to, over the records of the table.
-- Assumes nothing.
use mathlib.Core.Path.{◌≡◌, refl, ap, sym, ◌∙◌}
use mathlib.Core.Bool.{Bool, true, false, cond, ◌&&◌, and-false}
use mathlib.Core.List.{List, [], ◌∷◌, map}
use Prim.Native.Nat.{ℕ, ◌+◌, ◌≤◌, ◌<◌}
use native.Mathlib.Omega.{arith}
use borrow.Author.Tests.{lt-ltb, le-ltb, le-leb, lt-leb}
use lib.Dec.{eqb, leb}
use lib.ListN.{length, length-map}
use Rattle.std.specs.List.{find}
use Rattle.std.specs.Option.{option_map}
use Rattle.std.specs.Prelude.{Option, Some, None}
use Rattle.interface_table.specs.Table.{table_sound, state_of}
use Rattle.interface_table.proofs.Entries.{entries_sound, sound_by_entries}
use Rattle.records.specs.Layout.{Layout}
use Rattle.records.specs.Records.{interface_number_of, interface_state_of}

-- ---- the first record of a table with the number wanted

module _ (layout : Layout) (itinerary : List ℕ) where
  abbrev pub listed : List ℕ → ℕ → Option ℕ
  listed records wanted =
      state_of (map (interface_number_of layout itinerary) records) (map (interface_state_of layout itinerary) records) wanted

  pub listed_by_find : (records : List ℕ) (wanted : ℕ)
      → option_map (interface_state_of layout itinerary) (find (λ index. eqb (interface_number_of layout itinerary index) wanted) records)
      ≡ listed records wanted
  unfolding state_of
  listed_by_find [] wanted = refl
  listed_by_find (index ∷ records) wanted = go (eqb (interface_number_of layout itinerary index) wanted) (listed_by_find records wanted)
    where
      go : (b : Bool)
          → option_map (interface_state_of layout itinerary) (find (λ index. eqb (interface_number_of layout itinerary index) wanted) records)
          ≡ listed records wanted
          → option_map (interface_state_of layout itinerary)
          (cond b (Some index) (find (λ index. eqb (interface_number_of layout itinerary index) wanted) records))
          ≡ cond b (Some (interface_state_of layout itinerary index)) (listed records wanted)
      go true rest = refl
      go false rest = rest

  module _ (records : List ℕ) (wanted : ℕ) (answer : Option ℕ) (e : answer ≡ find (λ index. eqb (interface_number_of layout itinerary index) wanted) records) where
    pub found : (index state : ℕ) → answer ≡ Some index → state ≡ interface_state_of layout itinerary index → Some state ≡ listed records wanted
    found index state d q = rw q (ap (option_map (interface_state_of layout itinerary)) (sym d ∙ e) ∙ listed_by_find records wanted)

    pub not_found : answer ≡ None → None ≡ listed records wanted
    not_found d = ap (option_map (interface_state_of layout itinerary)) (sym d ∙ e) ∙ listed_by_find records wanted

-- ---- a table is asked in one pass: each number is at least the lowest still allowed

module _ (layout : Layout) (itinerary : List ℕ) where
  abbrev entries_from : ℕ → List ℕ → Bool
  entries_from lowest records =
      entries_sound lowest (map (interface_number_of layout itinerary) records) (map (interface_state_of layout itinerary) records)

  abbrev sound_table : List ℕ → Bool
  sound_table records = table_sound (map (interface_number_of layout itinerary) records) (map (interface_state_of layout itinerary) records)

-- so many were passed, and these are left
pub record Entered (layout : Layout) (itinerary records : List ℕ) (passed lowest : ℕ) (left : List ℕ) : Type 0 where
  pub few : passed ≤ 256
  pub rest : sound_table layout itinerary records ≡ (leb (passed + length left) 256 && entries_from layout itinerary lowest left)

pub entered_none : (layout : Layout) (itinerary records left : List ℕ) (passed : ℕ) → passed ≡ 0 → left ≡ records
    → Entered layout itinerary records passed 0 left
entered_none layout itinerary records left passed e d =
    let n : 0 + length records ≡ length records = omega arith in
    record {
      few = omega arith;
      rest = sound_by_entries (map (interface_number_of layout itinerary) records) (map (interface_state_of layout itinerary) records)
          ∙ rw (length-map, d, e, n);
    }

module _ {layout : Layout} {itinerary records : List ℕ} {passed lowest : ℕ} {left : List ℕ}
    (entered : Entered layout itinerary records passed lowest left) where
  pub entered_all : left ≡ [] → true ≡ sound_table layout itinerary records
  unfolding entries_sound
  entered_all e =
      let few : passed + 0 ≤ 256 = omega (arith, entered.few) in
      sym (entered.rest ∙ rw (e, le-leb (passed + 0) 256 few))

  unsound : entries_from layout itinerary lowest left ≡ false → false ≡ sound_table layout itinerary records
  unsound e = sym (entered.rest ∙ rw (e, and-false))

  module _ {index : ℕ} {later : List ℕ} (turn : left ≡ index ∷ later) where
    pub entered_many : passed ≡ 256 → false ≡ sound_table layout itinerary records
    entered_many e =
        let many : 256 < passed + length (index ∷ later) = omega arith in
        sym (entered.rest ∙ rw (turn, lt-leb (passed + length (index ∷ later)) 256 many))

    pub entered_low : interface_number_of layout itinerary index < lowest → false ≡ sound_table layout itinerary records
    unfolding entries_sound
    entered_low h = unsound (rw (turn, lt-leb lowest (interface_number_of layout itinerary index) h))

    module _ (high : lowest ≤ interface_number_of layout itinerary index) where
      pub entered_state : 8 ≤ interface_state_of layout itinerary index → false ≡ sound_table layout itinerary records
      unfolding entries_sound
      entered_state h = unsound (rw (turn, le-leb lowest _ high, le-ltb _ 8 h))

      pub entered_on : (passed ≡ 256 → ⊥) → interface_state_of layout itinerary index < 8
          → {number more : ℕ} → number ≡ interface_number_of layout itinerary index → more ≡ passed + 1
          → Entered layout itinerary records more (number + 1) later
      unfolding entries_sound
      entered_on n h {number} {more} e d =
          let m : passed + length (index ∷ later) ≡ more + length later = omega arith in
          let few = entered.few in
          record { few = omega (arith, n, few); rest = entered.rest ∙ rw (turn, le-leb lowest _ high, lt-ltb _ 8 h, e, m) }
