-- A table's soundness asked in one pass, entry by entry, as a caller asks it that goes along records.
-- Assumes nothing.
use mathlib.Core.Path.{◌≡◌, refl, sym}
use mathlib.Core.Bool.{Bool, true, false, ◌&&◌, and-false}
use mathlib.Core.List.{List, [], ◌∷◌}
use Prim.Native.Nat.{ℕ, ◌+◌}
use native.Mathlib.Numerals.{add-one}
use lib.Dec.{eqb, leb, ltb, leb-zero, eqb-zero-suc, eqb-suc-zero, eqb-suc-suc}
use lib.ListN.{length}
use Rattle.interface_table.specs.Table.{ids_ascending, states_sound, table_sound}

-- each number is at least the lowest still allowed, which is one more than the number before it
unfoldable pub entries_sound : ℕ → List ℕ → List ℕ → Bool
entries_sound lowest [] [] = true
entries_sound lowest [] (state ∷ states) = false
entries_sound lowest (id ∷ ids) [] = false
entries_sound lowest (id ∷ ids) (state ∷ states) = leb lowest id && (ltb state 8 && entries_sound (id + 1) ids states)

abbrev ascending_from : ℕ → List ℕ → Bool
ascending_from lowest [] = true
ascending_from lowest (id ∷ ids) = leb lowest id && ids_ascending (id ∷ ids)

ascending_after : (id : ℕ) (ids : List ℕ) → ascending_from (id + 1) ids ≡ ids_ascending (id ∷ ids)
unfolding ids_ascending
ascending_after id [] = refl
ascending_after id (next ∷ ids) = rw add-one

ascending_from_zero : (ids : List ℕ) → ascending_from 0 ids ≡ ids_ascending ids
unfolding ids_ascending
ascending_from_zero [] = refl
ascending_from_zero (id ∷ ids) = rw (leb-zero id)

sorted : (size low state next rest : Bool) → (low && (state && (size && (next && rest)))) ≡ (size && (low && next && (state && rest)))
sorted true true true next rest = refl
sorted true true false next rest = sym (and-false next)
sorted true false state next rest = refl
sorted false true true next rest = refl
sorted false true false next rest = refl
sorted false false state next rest = refl

entries_sound_lem : (lowest : ℕ) (ids states : List ℕ)
    → entries_sound lowest ids states ≡ (eqb (length ids) (length states) && (ascending_from lowest ids && states_sound states))
unfolding entries_sound states_sound
entries_sound_lem lowest [] [] = refl
entries_sound_lem lowest [] (state ∷ states) = rw (eqb-zero-suc (length states))
entries_sound_lem lowest (id ∷ ids) [] = rw (eqb-suc-zero (length ids))
entries_sound_lem lowest (id ∷ ids) (state ∷ states) =
    rw (eqb-suc-suc (length ids) (length states), entries_sound_lem (id + 1) ids states, ascending_after id ids)
    (sorted (eqb (length ids) (length states)) (leb lowest id) (ltb state 8) (ids_ascending (id ∷ ids)) (states_sound states))

pub sound_by_entries : (ids states : List ℕ) → table_sound ids states ≡ (leb (length ids) 256 && entries_sound 0 ids states)
unfolding table_sound
sound_by_entries ids states =
    rw (entries_sound_lem 0 ids states, ascending_from_zero ids)
    (regrouped (eqb (length ids) (length states)) (leb (length ids) 256) (ids_ascending ids) (states_sound states))
  where
    regrouped : (a b c d : Bool) → (a && b && c && d) ≡ (b && (a && (c && d)))
    regrouped true true true d = refl
    regrouped true true false d = refl
    regrouped true false c d = refl
    regrouped false true c d = refl
    regrouped false false c d = refl
