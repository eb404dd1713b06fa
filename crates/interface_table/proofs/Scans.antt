-- What the loops go along: one entry more, and the end.
-- Assumes nothing.
use mathlib.Core.Path.{◌≡◌, refl, ◌∙◌}
use mathlib.Core.Bool.{Bool, true, false, cond, not, ◌&&◌}
use mathlib.Core.List.{List, [], ◌∷◌}
use Prim.Native.Nat.{ℕ, suc, ◌+◌, ◌-◌, ◌≤◌, ◌<◌}
use native.Mathlib.Numerals.{add-one}
use native.Mathlib.Omega.{arith}
use lib.Dec.{eqb, ltb, leb-suc-suc, leb-zero}
use lib.ListN.{length, get_or, drop, length-drop, drop_of_length-le}
use lib.Seq.{drop-cons}
use Rattle.std.specs.Prelude.{Option, Some, None, nat_lt}
use Rattle.std.specs.Option.{option_and_then}
use Rattle.std.specs.List.{slice_get, position, position_or_len}
use Rattle.interface_table.specs.Table.{ids_ascending, states_sound, state_of}

-- ---- each number is above the one before it

module _ (ids : List ℕ) (i : ℕ) where
  pub ids_more : 1 ≤ i → i < length ids
      → ids_ascending (drop (i - 1) ids) ≡ (ltb (get_or ids (i - 1) 0) (get_or ids i 0) && ids_ascending (drop (i + 1 - 1) ids))
  unfolding ids_ascending
  ids_more low h = go (i - 1) (omega arith)
    where
      go : (k : ℕ) → k + 1 ≡ i → ids_ascending (drop k ids) ≡ (ltb (get_or ids k 0) (get_or ids i 0) && ids_ascending (drop (i + 1 - 1) ids))
      go k e =
          let here : k < length ids = omega arith in
          let next : i ≡ suc k = omega arith in
          let there : suc k < length ids = omega arith in
          let back : suc k + 1 - 1 ≡ suc k = omega arith in
          rw (next, back, drop-cons ids k 0, drop-cons ids (suc k) 0)

  -- the last number has none after it
  pub ids_end : length ids ≤ i → ids_ascending (drop (i - 1) ids) ≡ true
  unfolding ids_ascending
  ids_end h = short (drop (i - 1) ids) (rw length-drop (omega arith))
    where
      short : (l : List ℕ) → length l ≤ 1 → ids_ascending l ≡ true
      short [] g = refl
      short (id ∷ []) g = refl
      short (id ∷ next ∷ ids) g = absurd (omega arith)

-- ---- each state is sound

module _ (states : List ℕ) (i : ℕ) where
  pub states_more : i < length states → states_sound (drop i states) ≡ (ltb (get_or states i 0) 8 && states_sound (drop (i + 1) states))
  unfolding states_sound
  states_more h = rw (add-one, drop-cons states i 0)

  pub states_end : length states ≤ i → states_sound (drop i states) ≡ true
  unfolding states_sound
  states_end h = rw (drop_of_length-le states h)

-- ---- the first entry with the number wanted, by its place

pub state_by_place : (ids states : List ℕ) (wanted : ℕ)
    → state_of ids states wanted ≡ option_and_then (slice_get states) (position (λ id. eqb id wanted) ids)
unfolding state_of
state_by_place [] states wanted = refl
state_by_place (id ∷ ids) [] wanted = none (position (λ id. eqb id wanted) (id ∷ ids))
  where
    none : (at : Option ℕ) → None ≡ option_and_then (slice_get {X = ℕ} []) at
    none None = refl
    none (Some k) = refl
state_by_place (id ∷ ids) (state ∷ states) wanted =
    by (eqb id wanted) (position_or_len (λ id. eqb id wanted) ids) (state_by_place ids states wanted)
  where
    later : (listed : Bool) (k : ℕ)
        → option_and_then (slice_get states) (cond listed (Some k) None) ≡ option_and_then (slice_get (state ∷ states)) (cond listed (Some (suc k)) None)
    later true k = refl
    later false k = refl

    by : (here : Bool) (k : ℕ) → state_of ids states wanted ≡ option_and_then (slice_get states) (cond (nat_lt k (length ids)) (Some k) None)
        → cond here (Some state) (state_of ids states wanted)
        ≡ option_and_then (slice_get (state ∷ states))
        (cond (nat_lt (cond (not here) (1 + k) 0) (suc (length ids))) (Some (cond (not here) (1 + k) 0)) None)
    by true k e = rw (leb-suc-suc 0 (length ids), leb-zero (length ids))
    by false k e =
        let next : 1 + k ≡ suc k = omega arith in
        rw (next, leb-suc-suc (suc k) (length ids)) (e ∙ later (nat_lt k (length ids)) k)
