-- The least expiry, as `min` finds it among a segment's hops and among the segments.
-- Assumes nothing.
use mathlib.Core.Path.{◌≡◌, refl, sym, ap, ap₂, ◌∙◌}
use mathlib.Core.Bool.{cond}
use mathlib.Core.List.{List, [], ◌∷◌, map}
use Prim.Native.Nat.{ℕ, zero, suc, ◌+◌, ◌*◌, ◌≤◌, ◌<◌, min}
use native.Mathlib.Omega.{arith}
use lib.Dec.{eqb}
use borrow.Author.Tests.{ne_eqb}
use lib.ListN.{length, get_or, drop}
use lib.Seq.{get_or-take, get_or-drop}
use Rattle.std.specs.Prelude.{fold, unwrap_or}
use Rattle.std.specs.Option.{option_map_or}
use Rattle.std.specs.List.{range_with_len, reduce}
use Rattle.octets.specs.Bytes.{tabulate}
use Rattle.fields.specs.Fields.{timestamp, exp_time, expiry}
use Rattle.fields.specs.Layout.{hop_offset}
use Rattle.standard_path.specs.Header.{infos, info_field, hop_field}
use Rattle.segments.specs.Segments.{hop_fields, segments, segment_count}
use Rattle.segments.specs.declared.Segment.{Segment}
use Rattle.expiration.specs.Expiration.{least, hop_expiry, segment_expiry, path_expiry}

pub least_capped : (times : List ℕ) → least times ≤ 4294967295
least_capped [] = omega arith
least_capped (time ∷ times) = omega (arith, least_capped times)

-- the least of times that are capped, as `min` finds it
fold_least : (first : ℕ) (times : List ℕ) → first ≤ 4294967295 → fold min first times ≡ min first (least times)
fold_least first [] h = omega arith
fold_least first (time ∷ times) h = fold_least (min first time) times (omega arith) ∙ omega arith

module _ (path : List ℕ) where
  segment_capped : (segment : Segment) → segment_expiry path segment ≤ 4294967295
  unfolding segment_expiry
  segment_capped segment = least_capped _

  least_found : (all : List Segment)
      → unwrap_or (reduce min (map (segment_expiry path) all)) 0 ≡ cond (eqb (length all) 0) 0 (least (map (segment_expiry path) all))
  least_found [] = refl
  least_found (segment ∷ more) =
      rw (ne_eqb (suc (length more)) 0 (λ z. omega arith))
      (fold_least (segment_expiry path segment) (map (segment_expiry path) more) (segment_capped segment))

  pub least_by_fold : fold min 4294967295 (map (segment_expiry path) (segments path)) ≡ least (map (segment_expiry path) (segments path))
  least_by_fold =
      let all = map (segment_expiry path) (segments path) in
      fold_least 4294967295 all (omega arith) ∙ omega (arith, least_capped all)

  pub path_found : unwrap_or (reduce min (map (segment_expiry path) (segments path))) 0 ≡ path_expiry path
  unfolding path_expiry segment_count
  path_found = least_found (segments path)

-- the expiry grows with the units
pub expiry_least : (start a b : ℕ) → expiry start (min a b) ≡ min (expiry start a) (expiry start b)
unfolding expiry
expiry_least start a b = omega arith

expiry_capped : (start units : ℕ) → expiry start units ≤ 4294967295
unfolding expiry
expiry_capped start units = omega arith

-- so the least expiry is that of the least ExpTime
module _ (start : ℕ) where
  fold_units : (first : ℕ) (units : List ℕ) → expiry start (fold min first units) ≡ min (expiry start first) (least (map (expiry start) units))
  fold_units first [] = omega (arith, expiry_capped start first)
  fold_units first (unit ∷ units) = fold_units (min first unit) units ∙ omega (arith, expiry_least start first unit)

  pub least_units : (units : List ℕ) → option_map_or (expiry start) (reduce min units) 4294967295 ≡ least (map (expiry start) units)
  least_units [] = refl
  least_units (first ∷ units) = fold_units first units

-- the times of a range by a rule
pub times_same : (time units hop : ℕ → ℕ) (first end i n : ℕ) → i + n ≡ end → ((k : ℕ) → k < end → time (units k) ≡ hop (first + k))
    → map time (map units (range_with_len i n)) ≡ tabulate n (first + i) hop
times_same time units hop first end i zero e same = refl
times_same time units hop first end i (suc n) e same =
    let more = times_same time units hop first end (i + 1) n (omega arith) same in
    let next : first + (i + 1) ≡ suc (first + i) = omega arith in
    ap₂ ◌∷◌ (same i (omega arith)) (rw next at more)

-- a hop's ExpTime, out of the part that `hop_fields` cuts
part_exp_time : (path : List ℕ) (first count i : ℕ) → i < count
    → get_or (hop_fields path first count) (12 * i + 1) 0 ≡ exp_time (hop_field path (first + i))
unfolding hop_fields hop_field exp_time
part_exp_time path first count i h =
    let part = hop_offset (infos path) first in
    let hop = hop_offset (infos path) (first + i) in
    let e : part + (12 * i + 1) ≡ hop + 1 = omega arith in
    get_or-take (12 * count) (drop part path) (12 * i + 1) 0 (omega arith) ∙ get_or-drop part path (12 * i + 1) 0
    ∙ ap (λ (k : ℕ). get_or path k 0) e ∙ sym (get_or-take 12 (drop hop path) 1 0 (omega arith) ∙ get_or-drop hop path 1 0)

-- a hop's expiry, from the info field's timestamp and a byte of the segment's hop fields
pub hop_time : (path : List ℕ) (s first count i : ℕ) {start units : ℕ} {info hops : List ℕ} → i < count → info ≡ info_field path s
    → start ≡ timestamp info → hops ≡ hop_fields path first count → units ≡ get_or hops (12 * i + 1) 0
    → expiry start units ≡ hop_expiry path s (first + i)
unfolding hop_expiry
hop_time path s first count i within info-is start_is hops-are units-are =
    ap₂ expiry (start_is ∙ ap timestamp info-is)
    (units-are ∙ ap (λ (l : List ℕ). get_or l (12 * i + 1) 0) hops-are ∙ part_exp_time path first count i within)
