-- A sound chain goes up, so it has fewer records than there are: limits of as many, or more, are all the same.
-- Assumes nothing.
use mathlib.Core.Path.{◌≡◌, refl, sym, ◌∙◌}
use mathlib.Core.Bool.{Bool, true, false, cond, ◌&&◌, ◌||◌}
use mathlib.Core.List.{List, [], ◌∷◌}
use mathlib.Core.Logic.{◌⊎◌, inl, inr, ⊎_elim}
use Prim.Native.Nat.{ℕ, zero, suc, ◌+◌, ◌≤◌, ◌<◌}
use native.Mathlib.Omega.{arith}
use borrow.Author.Tests.{ne_eqb, ltb-true, eqb-true, eqb-false}
use lib.Dec.{eqb, ltb}
use lib.ListN.{length}
use Rattle.octets.proofs.Bools.{each_of, each_of_3, each_of_4, each_way}
use Rattle.records.specs.Layout.{Layout}
use Rattle.records.specs.Records.{every, record_count, next_of, first_interface_of, first_station, chain_within}
use Rattle.records.specs.Inner.{table_records_within}
use Rattle.records.proofs.Every.{every_implied, every_same}
use Rattle.records.proofs.Walks.{chain_end}
use Rattle.record_rules.specs.Rules.{next_sound, size_sound, zeros_sound, head_sound}
use Rattle.soundness.specs.Soundness.{interface_sound, station_sound, sound_of, itinerary_sound}
use Rattle.soundness.specs.Inner.{sound_within}

module _ (layout : Layout) (itinerary : List ℕ) where
  abbrev records : ℕ
  records = record_count layout itinerary

  abbrev next : ℕ → ℕ
  next index = next_of layout itinerary index

  abbrev from : ℕ → ℕ → List ℕ
  from limit index = chain_within layout itinerary limit index

  abbrev first : ℕ
  first = first_station layout itinerary

  abbrev first_in : ℕ → ℕ
  first_in station = first_interface_of layout itinerary station

  -- ---- a chain that ends before one limit and before another is the same with both

  pub same_chain : (one other index : ℕ) → length (from one index) < one → length (from one index) < other → from other index ≡ from one index
  unfolding chain_within
  same_chain zero other index h k = absurd (omega arith)
  same_chain (suc one) zero index h k = absurd (omega arith)
  same_chain (suc one) (suc other) index h k = go (eqb index 0) (same_chain one other (next index)) h k
    where
      go : (b : Bool)
          → (length (from one (next index)) < one → length (from one (next index)) < other → from other (next index) ≡ from one (next index))
          → length (cond b [] (index ∷ from one (next index))) < suc one
          → length (cond b [] (index ∷ from one (next index))) < suc other
          → cond b [] (index ∷ from other (next index)) ≡ cond b [] (index ∷ from one (next index))
      go true same h k = refl
      go false same h k = rw (same (omega arith) (omega arith))

  -- ---- a sound chain has fewer records than there are

  pub next_sound_lem : (index : ℕ) → next_sound layout itinerary index ≡ true → (next index ≡ 0) ⊎ ((index < next index) × (next index < records))
  unfolding next_sound
  next_sound_lem index e = go (eqb (next index) 0) refl e
    where
      go : (b : Bool) → eqb (next index) 0 ≡ b → (b || ltb index (next index) && ltb (next index) records) ≡ true
          → (next index ≡ 0) ⊎ ((index < next index) × (next index < records))
      go true z e = inl (eqb-true _ _ z)
      go false z e = let held = each_of (ltb index (next index)) _ e in inr (ltb-true _ _ held.0, ltb-true _ _ held.1)

  goes_up : (limit index : ℕ) → (index ≡ 0 → ⊥) → index < records → every (next_sound layout itinerary) (from limit index) ≡ true
      → length (from limit index) + index ≤ records
  unfolding every chain_within
  goes_up zero index n h e = omega arith
  goes_up (suc limit) index n h e =
      let split : (next_sound layout itinerary index && every (next_sound layout itinerary) (from limit (next index))) ≡ true =
      rw (ne_eqb index 0 n) at e in
      let held = each_of (next_sound layout itinerary index) _ split in
      let rest : length (from limit (next index)) + 1 + index ≤ records =
      ⊎_elim
      (λ z. let none : length (from limit (next index)) ≡ 0 = rw (chain_end layout itinerary limit _ z) in omega arith)
      (λ w. omega (arith, goes_up limit (next index) (λ z. omega (arith, w.0)) w.1 held.1))
      (next_sound_lem index held.0) in
      rw (ne_eqb index 0 n) (omega arith)

  pub fewer : (limit index : ℕ) → every (next_sound layout itinerary) (from limit index) ≡ true → index < records
      → length (from limit index) < records
  fewer limit index e h = go (eqb index 0) refl
    where
      go : (b : Bool) → eqb index 0 ≡ b → length (from limit index) < records
      go true z = let none : length (from limit index) ≡ 0 = rw (chain_end layout itinerary limit index (eqb-true _ _ z)) in omega arith
      go false z = let n : index ≡ 0 → ⊥ = eqb-false index 0 z in omega (arith, goes_up limit index n h e, n)

  -- ---- so do those that soundness is asked of

  interface_next : (chained : List ℕ) (index : ℕ) → interface_sound layout itinerary chained index ≡ true
      → next_sound layout itinerary index ≡ true
  unfolding interface_sound
  interface_next chained index e = (each_of_3 (next_sound layout itinerary index) _ _ e).0

  pub station_next : (chained : List ℕ) (table_of : ℕ → List ℕ) (station : ℕ) → station_sound layout itinerary chained table_of station ≡ true
      → next_sound layout itinerary station ≡ true
  unfolding station_sound
  station_next chained table_of station e = (each_of_4 (next_sound layout itinerary station) _ _ _ e).0

  pub table_fewer : (chained : List ℕ) (table_limit station : ℕ)
      → station_sound layout itinerary chained (table_records_within layout itinerary table_limit) station ≡ true
      → length (from table_limit (first_in station)) < records
  unfolding station_sound
  table_fewer chained table_limit station e =
      let held = each_of_4 (next_sound layout itinerary station) _ _ _ e in
      let rises = every_implied _ _ _ (interface_next chained) held.3 in
      fewer table_limit (first_in station) rises (ltb-true _ _ held.2)

  module _ (station_limit : ℕ) (table_of : ℕ → List ℕ) (e : sound_of layout itinerary (from station_limit first) table_of ≡ true) where
    pub each_sound : every (station_sound layout itinerary (from station_limit first) table_of) (from station_limit first) ≡ true
    unfolding sound_of
    each_sound = (each_of_3 (size_sound layout itinerary) (head_sound layout itinerary) _ e).2

    pub stations_fewer : length (from station_limit first) < records
    unfolding sound_of head_sound
    stations_fewer =
        let head = (each_of_3 (size_sound layout itinerary) (head_sound layout itinerary) _ e).1 in
        let start = (each_of (zeros_sound layout itinerary layout.head_zeros 0) _ head).1 in
        fewer station_limit first (every_implied _ _ _ (station_next (from station_limit first) table_of) each_sound) (ltb-true _ _ start)

  -- ---- tables that are the same at each station come to the same

  module _ (chained : List ℕ) (one other : ℕ → List ℕ) where
    station_alike : (station : ℕ) → other station ≡ one station
        → station_sound layout itinerary chained other station ≡ station_sound layout itinerary chained one station
    unfolding station_sound
    station_alike station same = rw same

    pub sound_alike : (known : ℕ → Bool) → every known chained ≡ true
        → ((station : ℕ) → known station ≡ true → other station ≡ one station)
        → sound_of layout itinerary chained other ≡ sound_of layout itinerary chained one
    unfolding sound_of
    sound_alike known each same = rw (every_same known _ _ chained (λ s e. station_alike s (same s e)) each)

  -- ---- soundness: limits of as many as there are records, or more, are all the same

  module _ (station_limit table_limit station_limit' table_limit' : ℕ) (h : records ≤ station_limit) (k : records ≤ table_limit)
      (h' : records ≤ station_limit') (k' : records ≤ table_limit') where
    same_soundness : sound_within layout itinerary station_limit table_limit ≡ true
        → sound_within layout itinerary station_limit' table_limit' ≡ sound_within layout itinerary station_limit table_limit
    same_soundness e =
        let few = stations_fewer station_limit (table_records_within layout itinerary table_limit) e in
        let same = same_chain station_limit station_limit' first (omega arith) (omega arith) in
        rw same
        (sound_alike (from station_limit first) (table_records_within layout itinerary table_limit)
        (table_records_within layout itinerary table_limit') _ (each_sound station_limit (table_records_within layout itinerary table_limit) e)
        (λ i q. let short = table_fewer (from station_limit first) table_limit i q in
        same_chain table_limit table_limit' (first_in i) (omega arith) (omega arith)))

  pub whole_sound : (station_limit table_limit : ℕ) → records ≤ station_limit → records ≤ table_limit
      → sound_within layout itinerary station_limit table_limit ≡ itinerary_sound layout itinerary
  whole_sound station_limit table_limit h k =
      each_way _ _ (λ e. same_soundness station_limit table_limit records records h k (omega arith) (omega arith) e ∙ e)
      (λ e. same_soundness records records station_limit table_limit (omega arith) (omega arith) h k e ∙ e)

-- ---- stations whose nexts are not sound are not sound

pub nexts_unsound : (layout : Layout) (itinerary chained : List ℕ) (table_of : ℕ → List ℕ)
    → every (next_sound layout itinerary) chained ≡ false → false ≡ every (station_sound layout itinerary chained table_of) chained
nexts_unsound layout itinerary chained table_of e = go (every (station_sound layout itinerary chained table_of) chained) refl
  where
    go : (b : Bool) → every (station_sound layout itinerary chained table_of) chained ≡ b → false ≡ b
    go false d = refl
    go true d =
        sym e ∙ every_implied (station_sound layout itinerary chained table_of) (next_sound layout itinerary) chained
        (station_next layout itinerary chained table_of) d
