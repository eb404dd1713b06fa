-- The lookup's answer is the unique entry or none (01, 'The shape of each place').
-- On all tables: a state that is found is an entry's (found_entry); none is found only where no entry has the number (none_found), and
-- there none is found (unlisted_none). In a sound table no two entries have one number (ascending, one_place), and what is found is the
-- state of the one that has it (entry_found).
-- Assumes nothing.
use mathlib.Core.Path.{◌≡◌, refl}
use mathlib.Core.Bool.{Bool, true, false, cond}
use mathlib.Core.List.{List, [], ◌∷◌}
use Prim.Native.Nat.{ℕ, zero, suc, ◌≤◌, ◌<◌}
use native.Mathlib.Omega.{arith}
use borrow.Author.Tests.{ltb-true, leb-true, eqb-true, eq-eqb, ne_eqb}
use lib.Dec.{eqb, leb, ltb}
use lib.ListN.{length, get_or}
use Rattle.octets.proofs.Bools.{each_of}
use Rattle.std.specs.Prelude.{Option, Some, None}
use Rattle.interface_table.specs.Table.{ids_ascending, states_sound, table_sound, state_of}

-- ---- entries of any table

-- the table has the number, with this state beside it
pub record Entry (ids states : List ℕ) (id state : ℕ) : Type 0 where
  pub place : ℕ
  pub in_ids : place < length ids
  pub in_states : place < length states
  pub has_id : get_or ids place 0 ≡ id
  pub has_state : get_or states place 0 ≡ state

later : {ids states : List ℕ} {first beside id state : ℕ} → Entry ids states id state → Entry (first ∷ ids) (beside ∷ states) id state
later e = record { place = suc e.place; in_ids = omega arith; in_states = omega arith; has_id = e.has_id; has_state = e.has_state }

pub found_entry : (ids states : List ℕ) (id state : ℕ) → state_of ids states id ≡ Some state → Entry ids states id state
unfolding state_of
found_entry [] states id state q = absurd cc
found_entry (first ∷ ids) [] id state q = absurd cc
found_entry (first ∷ ids) (beside ∷ states) id state q = by (eqb first id) refl q (found_entry ids states id state)
  where
    by : (t : Bool) → eqb first id ≡ t → cond t (Some beside) (state_of ids states id) ≡ Some state
        → (state_of ids states id ≡ Some state → Entry ids states id state) → Entry (first ∷ ids) (beside ∷ states) id state
    by true e q found = record { place = 0; in_ids = omega arith; in_states = omega arith; has_id = eqb-true first id e; has_state = cc }
    by false e q found = later (found q)

none_at : (ids states : List ℕ) (id k : ℕ) → state_of ids states id ≡ None → k < length ids → k < length states → get_or ids k 0 ≡ id → ⊥
unfolding state_of
none_at [] states id k q g h e = absurd (omega arith)
none_at (first ∷ ids) [] id k q g h e = absurd (omega arith)
none_at (first ∷ ids) (beside ∷ states) id zero q g h e =
    let found : state_of (first ∷ ids) (beside ∷ states) id ≡ Some beside = rw (eq-eqb first id e) in
    let z : ◌≡◌ {A = ℕ} 0 1 = cc in
    omega arith
none_at (first ∷ ids) (beside ∷ states) id (suc k) q g h e =
    none_at ids states id k (passed (eqb first id) q) (omega arith) (omega arith) e
  where
    passed : (t : Bool) → cond t (Some beside) (state_of ids states id) ≡ None → state_of ids states id ≡ None
    passed true q = cc
    passed false q = q

pub none_found : (ids states : List ℕ) (id state : ℕ) → state_of ids states id ≡ None → Entry ids states id state → ⊥
none_found ids states id state q e = none_at ids states id e.place q e.in_ids e.in_states e.has_id

pub unlisted_none : (ids states : List ℕ) (id : ℕ) → ((state : ℕ) → Entry ids states id state → ⊥) → state_of ids states id ≡ None
unlisted_none ids states id h = by (state_of ids states id) refl
  where
    by : (listed : Option ℕ) → state_of ids states id ≡ listed → state_of ids states id ≡ None
    by (Some state) e = absurd (h state (found_entry ids states id state e))
    by None e = e

-- ---- ascending numbers, and states below 8

rest_ascends : (id : ℕ) (ids : List ℕ) → ids_ascending (id ∷ ids) ≡ true → ids_ascending ids ≡ true
unfolding ids_ascending
rest_ascends id [] q = refl
rest_ascends id (next ∷ ids) q = (each_of (ltb id next) _ q).1

above_first : (id : ℕ) (ids : List ℕ) → ids_ascending (id ∷ ids) ≡ true → (k : ℕ) → k < length ids → id < get_or ids k 0
unfolding ids_ascending
above_first id [] q k h = absurd (omega arith)
above_first id (next ∷ ids) q zero h = ltb-true id next (each_of (ltb id next) _ q).0
above_first id (next ∷ ids) q (suc k) h =
    let here : id < next = ltb-true id next (each_of (ltb id next) _ q).0 in
    let there : next < get_or ids k 0 = above_first next ids (each_of (ltb id next) _ q).1 k (omega arith) in
    omega arith

ascends : (ids : List ℕ) → ids_ascending ids ≡ true → (j k : ℕ) → j < k → k < length ids → get_or ids j 0 < get_or ids k 0
ascends [] q j k g h = absurd (omega arith)
ascends (id ∷ ids) q j zero g h = absurd (omega arith)
ascends (id ∷ ids) q zero (suc k) g h = above_first id ids q k (omega arith)
ascends (id ∷ ids) q (suc j) (suc k) g h = ascends ids (rest_ascends id ids q) j k (omega arith) (omega arith)

found_at : (ids states : List ℕ) → ids_ascending ids ≡ true → (k : ℕ) → k < length ids → k < length states
    → state_of ids states (get_or ids k 0) ≡ Some (get_or states k 0)
unfolding state_of
found_at [] states q k g h = absurd (omega arith)
found_at (id ∷ ids) [] q k g h = absurd (omega arith)
found_at (id ∷ ids) (state ∷ states) q zero g h = rw (eq-eqb id id refl)
found_at (id ∷ ids) (state ∷ states) q (suc k) g h =
    let above : id < get_or ids k 0 = above_first id ids q k (omega arith) in
    rw (ne_eqb id (get_or ids k 0) (λ e. omega arith)) (found_at ids states (rest_ascends id ids q) k (omega arith) (omega arith))

below_8 : (states : List ℕ) → states_sound states ≡ true → (k : ℕ) → k < length states → get_or states k 0 < 8
unfolding states_sound
below_8 [] q k h = absurd (omega arith)
below_8 (state ∷ states) q zero h = ltb-true state 8 (each_of (ltb state 8) _ q).0
below_8 (state ∷ states) q (suc k) h = below_8 states (each_of (ltb state 8) _ q).1 k (omega arith)

-- ---- a sound table

module _ (ids states : List ℕ) (sound : table_sound ids states ≡ true) where
  parts :
      (eqb (length ids) (length states) ≡ true) × (leb (length ids) 256 ≡ true) × (ids_ascending ids ≡ true) × (states_sound states ≡ true)
  unfolding table_sound
  parts =
      let four = each_of _ (states_sound states) sound in
      let three = each_of _ (ids_ascending ids) four.0 in
      let two = each_of (eqb (length ids) (length states)) _ three.0 in
      (two.0, two.1, three.1, four.1)

  pub sound_lengths : length ids ≡ length states
  sound_lengths = eqb-true _ _ parts.0

  pub sound_size : length ids ≤ 256
  sound_size = leb-true _ _ parts.1

  pub sound_states : (k : ℕ) → k < length states → get_or states k 0 < 8
  sound_states = below_8 states parts.3

  pub ascending : (j k : ℕ) → j < k → k < length ids → get_or ids j 0 < get_or ids k 0
  ascending = ascends ids parts.2

  pub one_place : (j k : ℕ) → j < length ids → k < length ids → get_or ids j 0 ≡ get_or ids k 0 → j ≡ k
  one_place j k g h e =
      let below : (j < k → ⊥) = λ b. omega (arith, ascending j k b h) in
      let above : (k < j → ⊥) = λ b. omega (arith, ascending k j b g) in
      omega arith

  pub entry_found : (id state : ℕ) → Entry ids states id state → state_of ids states id ≡ Some state
  entry_found id state e = rw (← e.has_id, ← e.has_state) (found_at ids states parts.2 e.place e.in_ids e.in_states)

  pub found_below_8 : (id state : ℕ) → state_of ids states id ≡ Some state → state < 8
  found_below_8 id state q =
      let e = found_entry ids states id state q in
      rw (← e.has_state) (sound_states e.place e.in_states)
