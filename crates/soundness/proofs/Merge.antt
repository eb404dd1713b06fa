-- One pass along the stations' chain and a table's finds a record that is in both, since both go up.
-- Assumes nothing.
use mathlib.Core.Path.{◌≡◌, refl, ap, sym, subst, ◌∙◌}
use mathlib.Core.Bool.{Bool, true, false, cond, not, ◌&&◌, and-false}
use mathlib.Core.List.{List, [], ◌∷◌}
use mathlib.Core.Logic.{⊎_elim}
use Prim.Native.Nat.{ℕ, zero, suc, ◌+◌, ◌-◌, ◌≤◌}
use native.Mathlib.Omega.{arith}
use borrow.Author.Tests.{ne_eqb, le-leb, leb-true, leb-false, ltb-true, ltb-false, lt-ltb, le-ltb, eqb-false}
use lib.Dec.{eqb, leb, ltb}
use Rattle.octets.proofs.Bools.{each_of, each_of_3, each_way}
use Rattle.std.specs.List.{FoldsTo, slice_get}
use denote.Param.Members.{Mut}
use denote.Ref.{Bor}
use Rattle.std.specs.Fn.{CalledAt}
use Rattle.std.specs.Iterator.{YieldsFirst, YieldsThen, FindsItem}
use Rattle.std.specs.Option.{MatchOption, IfSome, option_eq}
use Rattle.records.specs.Chain.{records_left}
use Rattle.records.specs.declared.Chain.{Chain}
use Rattle.std.specs.Prelude.{Option, Some, None}
use Rattle.records.specs.Layout.{Layout}
use Rattle.records.specs.Records.{every, next_of, chain_within}
use Rattle.record_rules.specs.Rules.{next_sound, zeros_sound}
use Rattle.soundness.specs.Soundness.{is_no_station, interface_sound}
use Rattle.records.proofs.Every.{every_implied, every_same}
use Rattle.records.proofs.Walks.{chain_end, chain_starts}
use Rattle.soundness.proofs.Chains.{next_sound_lem}

-- ---- a list goes up from a number

abbrev pub Up : ℕ → List ℕ → Type 0
Up low [] = Unit {0}
Up low (x ∷ xs) = (low ≤ x) × Up (x + 1) xs

up_from : (xs : List ℕ) (low high : ℕ) → low ≤ high → Up high xs → Up low xs
up_from [] low high h u = tt
up_from (x ∷ xs) low high h u = (omega (arith, u.0), u.1)

up_each : (xs : List ℕ) (low : ℕ) → Up low xs → every (λ x. leb low x) xs ≡ true
unfolding every
up_each [] low u = refl
up_each (x ∷ xs) low u = rw (le-leb low x u.0) (up_each xs low (up_from xs low (x + 1) (omega (arith, u.0)) u.1))

-- without the numbers in front that are below a bound
unfoldable pub drop_below : ℕ → List ℕ → List ℕ
drop_below bound [] = []
drop_below bound (x ∷ xs) = cond (ltb x bound) (drop_below bound xs) (x ∷ xs)

up_dropped : (xs : List ℕ) (low bound : ℕ) → Up low xs → Up bound (drop_below bound xs)
unfolding drop_below
up_dropped [] low bound u = tt
up_dropped (x ∷ xs) low bound u = go (ltb x bound) refl (up_dropped xs (x + 1) bound u.1)
  where
    go : (b : Bool) → ltb x bound ≡ b → Up bound (drop_below bound xs) → Up bound (cond b (drop_below bound xs) (x ∷ xs))
    go true e rest = rest
    go false e rest = let high = ltb-false x bound e in (omega arith, u.1)

-- ---- a number is sought in a list

abbrev pub is_none : List ℕ → ℕ → Bool
is_none xs index = every (λ x. not (eqb x index)) xs

-- numbers below the one sought may be left out
none_dropped : (xs : List ℕ) (bound index : ℕ) → bound ≤ index → is_none (drop_below bound xs) index ≡ is_none xs index
unfolding every drop_below
none_dropped [] bound index h = refl
none_dropped (x ∷ xs) bound index h = go (ltb x bound) refl (none_dropped xs bound index h)
  where
    go : (b : Bool) → ltb x bound ≡ b → is_none (drop_below bound xs) index ≡ is_none xs index
        → is_none (cond b (drop_below bound xs) (x ∷ xs)) index ≡ (not (eqb x index) && is_none xs index)
    go true e same =
        let below = ltb-true x bound e in
        let other : x ≡ index → ⊥ = λ d. omega arith in
        rw (ne_eqb x index other, same)
    go false e same = refl

none_above : (xs : List ℕ) (index : ℕ) → Up (index + 1) xs → is_none xs index ≡ true
none_above xs index u =
    every_implied _ _ xs
    (λ x above. let high = leb-true (index + 1) x above in let other : x ≡ index → ⊥ = λ d. omega arith in rw (ne_eqb x index other))
    (up_each xs (index + 1) u)

abbrev pub is_first : List ℕ → ℕ → Bool
is_first xs index = option_eq eqb (slice_get xs 0) (Some index)

-- in a list that goes up from it, it is the first or not there
none_here : (xs : List ℕ) (index : ℕ) → Up index xs → is_first xs index ≡ false → is_none xs index ≡ true
unfolding every
none_here [] index u n = refl
none_here (x ∷ xs) index u n =
    let other : x ≡ index → ⊥ = eqb-false x index n in
    none_above (x ∷ xs) index (omega (arith, u.0), u.1)

found_here : (xs : List ℕ) (index : ℕ) → is_first xs index ≡ true → is_none xs index ≡ false
unfolding every
found_here [] index e = cc
found_here (x ∷ xs) index e = rw e

module _ (layout : Layout) (itinerary : List ℕ) where
  abbrev next : ℕ → ℕ
  next index = next_of layout itinerary index

  abbrev from : ℕ → ℕ → List ℕ
  from limit index = chain_within layout itinerary limit index

  -- ---- a sound chain goes up

  pub sound_up : (limit index : ℕ) → every (next_sound layout itinerary) (from limit index) ≡ true → Up index (from limit index)
  unfolding every chain_within
  sound_up zero index e = tt
  sound_up (suc limit) index e = go (eqb index 0) (sound_up limit (next index)) e
    where
      go : (b : Bool) → (every (next_sound layout itinerary) (from limit (next index)) ≡ true → Up (next index) (from limit (next index)))
          → every (next_sound layout itinerary) (cond b [] (index ∷ from limit (next index))) ≡ true
          → Up index (cond b [] (index ∷ from limit (next index)))
      go true rest e = tt
      go false rest e =
          let held = each_of (next_sound layout itinerary index) _ e in (
            omega arith,
            ⊎_elim (λ z. rw (chain_end layout itinerary limit _ z) tt)
                (λ w. up_from (from limit (next index)) (index + 1) (next index) (omega (arith, w.0)) (rest held.1))
                (next_sound_lem layout itinerary index held.0),
          )

  -- the end of a chain
  pub record IsChain (xs : List ℕ) : Type 0 where
    pub left : ℕ
    pub index : ℕ
    pub is : xs ≡ from left index

  pub later : (x : ℕ) (xs : List ℕ) → IsChain (x ∷ xs) → IsChain xs
  later x xs chain = record { left = chain.left - 1; index = next x; is = (chain_starts layout itinerary chain.left chain.index x xs (sym chain.is)).3 }

  chain_up : (x : ℕ) (xs : List ℕ) → IsChain (x ∷ xs) → every (next_sound layout itinerary) (x ∷ xs) ≡ true → Up x (x ∷ xs)
  chain_up x xs chain e =
      let first = (chain_starts layout itinerary chain.left chain.index x xs (sym chain.is)).2 in
      let rises : every (next_sound layout itinerary) (from chain.left chain.index) ≡ true = subst (λ ys. every (next_sound layout itinerary) ys ≡ true) chain.is e in
      let up = sound_up chain.left chain.index rises in
      subst (λ low. Up low (x ∷ xs)) first (subst (λ ys. Up chain.index ys) (sym chain.is) up)

  -- ---- what is asked of a record of a table, with some of the stations

  abbrev asks : List ℕ → ℕ → Bool
  asks chained index =
      next_sound layout itinerary index && zeros_sound layout itinerary layout.interface_zeros index && is_none chained index

  -- stations below its first record may be left out
  module _ (chained : List ℕ) (x : ℕ) (xs : List ℕ) (chain : IsChain (x ∷ xs)) where
    left_out : every (next_sound layout itinerary) (x ∷ xs) ≡ true
        → every (asks chained) (x ∷ xs) ≡ every (asks (drop_below x chained)) (x ∷ xs)
    left_out e =
        every_same (λ y. leb x y) _ _ (x ∷ xs) (λ y above. rw (none_dropped chained x y (leb-true x y above)))
        (up_each (x ∷ xs) x (chain_up x xs chain e))

    nexts : (among : List ℕ) → every (asks among) (x ∷ xs) ≡ true → every (next_sound layout itinerary) (x ∷ xs) ≡ true
    nexts among e = every_implied _ _ (x ∷ xs) (λ y h. (each_of_3 (next_sound layout itinerary y) _ _ h).0) e

    leave_out : every (asks chained) (x ∷ xs) ≡ every (asks (drop_below x chained)) (x ∷ xs)
    leave_out =
        each_way _ _ (λ e. sym (left_out (nexts chained e)) ∙ e) (λ e. left_out (nexts (drop_below x chained) e) ∙ e)

-- ---- the loop along both: `stations` and `table` are what is left of them

pub record Merged (layout : Layout) (itinerary chained records stations table : List ℕ) : Type 0 where
  pub rest : every (interface_sound layout itinerary chained) records ≡ every (asks layout itinerary stations) table
  pub low : ℕ
  pub up : Up low stations
  pub chain : IsChain layout itinerary table

pub merged_start : (layout : Layout) (itinerary : List ℕ) (limit first table_limit start : ℕ) (stations table : List ℕ)
    → every (next_sound layout itinerary) (chain_within layout itinerary limit first) ≡ true
    → stations ≡ chain_within layout itinerary limit first → table ≡ chain_within layout itinerary table_limit start
    → Merged layout itinerary (chain_within layout itinerary limit first) (chain_within layout itinerary table_limit start) stations table
unfolding interface_sound is_no_station
merged_start layout itinerary limit first table_limit start stations table rises e d =
    record {
      rest = rw (e, d);
      low = first;
      up = rw e (sound_up layout itinerary limit first rises);
      chain = record { left = table_limit; index = start; is = d };
    }

module _ {layout : Layout} {itinerary chained records stations table : List ℕ} (merged : Merged layout itinerary chained records stations table) where
  pub merged_over : table ≡ [] → true ≡ every (interface_sound layout itinerary chained) records
  unfolding every
  merged_over e = sym (merged.rest ∙ rw e)

  module _ {index : ℕ} {later_table : List ℕ} (turn : table ≡ index ∷ later_table) where
    pub merged_unsound : (next_sound layout itinerary index && zeros_sound layout itinerary layout.interface_zeros index) ≡ false
        → false ≡ every (interface_sound layout itinerary chained) records
    unfolding every
    merged_unsound e = sym (merged.rest ∙ rw (turn, e))

    module _ {reached : List ℕ} (skipped : reached ≡ drop_below index stations) where
      skip : every (interface_sound layout itinerary chained) records ≡ every (asks layout itinerary reached) (index ∷ later_table)
      skip = merged.rest ∙ rw (turn, skipped) (leave_out layout itinerary stations index later_table (rw turn at merged.chain))

      -- the station that the index was skipped to is it
      pub merged_found : is_first reached index ≡ true → false ≡ every (interface_sound layout itinerary chained) records
      unfolding every
      merged_found e = sym (skip ∙ rw (found_here reached index e, and-false))

      pub merged_on : is_first reached index ≡ false
          → (next_sound layout itinerary index && zeros_sound layout itinerary layout.interface_zeros index) ≡ true
          → Merged layout itinerary chained records reached later_table
      unfolding every
      merged_on n e =
          let up : Up index reached = rw skipped (up_dropped stations merged.low index merged.up) in
          let none = none_here reached index up n in
          record { rest = skip ∙ rw (e, none); low = index; up = up; chain = later layout itinerary index later_table (rw turn at merged.chain) }

-- ---- the record that was reached, before those left

abbrev pub held : Option ℕ → List ℕ → List ℕ
held None xs = []
held (Some x) xs = x ∷ xs

pub first_held : (reached : Option ℕ) (left : List ℕ) → reached ≡ slice_get (held reached left) 0
first_held None left = refl
first_held (Some x) left = refl

pub held_next : (reached : Option ℕ) (xs left : List ℕ) → MatchOption reached ((xs ≡ []) × (left ≡ [])) (λ x. xs ≡ x ∷ left) → held reached left ≡ xs
held_next None xs left h = sym h.0
held_next (Some x) xs left h = sym h

-- ---- those below a bound are skipped: whether the first is

abbrev pub starts_below : ℕ → List ℕ → Bool
starts_below bound [] = false
starts_below bound (x ∷ xs) = ltb x bound

pub tested : {Gives : ℕ → Type 0} (bound : ℕ) (xs : List ℕ) (first : Option ℕ) (answer : Bool) → first ≡ slice_get xs 0
    → MatchOption first (answer ≡ false) Gives → ((x : ℕ) → Gives x → answer ≡ ltb x bound) → answer ≡ starts_below bound xs
tested bound [] first answer e h computes = rw e at h
tested bound (x ∷ xs) first answer e h computes = computes x (rw e at h)

pub skipped_over : (bound : ℕ) (xs : List ℕ) → starts_below bound xs ≡ false → xs ≡ drop_below bound xs
unfolding drop_below
skipped_over bound [] e = refl
skipped_over bound (x ∷ xs) e = rw e

-- the first that is not below it, found among those left
module _ {F : Type 0} {g : Mut F (Bor ℕ × Unit {0}) Bool} (bound : ℕ) (f : F)
    (computes : (x : ℕ) (b : Bool) (q : F) → CalledAt g f x b q → (q ≡ f) × (b ≡ leb bound x)) (u : Chain) where
  found_among : (s : Chain) (r : Option ℕ) (xs : List ℕ) (q : F) → YieldsThen (YieldsFirst records_left) s xs r u
      → FoldsTo (λ p x q. CalledAt g p x false q) f xs q → IfSome r (λ x. (h : F) × CalledAt g q x true h)
      → held r (records_left u) ≡ drop_below bound (records_left s)
  unfolding drop_below
  found_among s None [] q (t, here, step) folds last = let none : records_left s ≡ [] = ap records_left here ∙ step.0 in rw none
  found_among s (Some x) [] q (t, here, step) folds (h, call) =
      let first : records_left s ≡ x ∷ records_left u = ap records_left here ∙ step in
      let high = leb-true bound x (sym (computes x true h (subst (λ p. CalledAt g p x true h) (sym folds) call)).1) in
      rw (first, le-ltb x bound high)
  found_among s r (y ∷ ys) q (t, (j, first, rest), step) (p, call, folds) last =
      let low = leb-false bound y (sym (computes y false p call).1) in
      let same = (computes y false p call).0 in
      rw (first, lt-ltb y bound low)
      (found_among j r ys q (t, rest, step) (subst (λ p. FoldsTo (λ p x q. CalledAt g p x false q) p ys q) same folds) last)

  pub skipped_on : (stations : Chain) (reached found : Option ℕ) → starts_below bound (held reached (records_left stations)) ≡ true
      → FindsItem (YieldsFirst records_left) g stations f found u
      → held found (records_left u) ≡ drop_below bound (held reached (records_left stations))
  unfolding drop_below
  skipped_on stations None found e finds = cc
  skipped_on stations (Some x) found e (xs, q, yields, folds, last) = rw e (found_among stations found xs q yields folds last)
