-- The SegID of a segment, beta step after beta step.
-- Assumes nothing.
use mathlib.Core.Path.{◌≡◌, refl, ap, ◌∙◌}
use mathlib.Core.Bool.{Bool, true, false, cond}
use mathlib.Core.List.{List, [], ◌∷◌, ◌++◌}
use Prim.Native.Nat.{ℕ, zero, suc, ◌+◌}
use native.Mathlib.Omega.{arith}
use Rattle.hop_mac.specs.Mac.{mac_beta_step, mac_chaining_beta}
use Rattle.hop_mac.proofs.HopMac.{chaining_append}
use Rattle.fields.specs.Fields.{by_direction, cons_dir, seg_id, mac_field}
use Rattle.segment_check.specs.Segment.{macs_from, chained_seg_id}

module _ (peer : ℕ → Bool) (hop : ℕ → List ℕ) where
  macs_one_more : (first n : ℕ)
      → macs_from peer hop first (suc n)
      ≡ cond (peer (first + n)) (macs_from peer hop first n) (macs_from peer hop first n ++ (mac_field (hop (first + n)) ∷ []))
  unfolding macs_from
  macs_one_more first zero = let e : first + 0 ≡ first = omega arith in rw e
  macs_one_more first (suc n) =
      let e : first + suc n ≡ suc first + n = omega arith in
      rw (e, macs_one_more (suc first) n) (go (peer first) (peer (suc first + n)))
    where
      rest : List (List ℕ)
      rest = macs_from peer hop (suc first) n

      new : List (List ℕ)
      new = mac_field (hop (suc first + n)) ∷ []

      go : (a b : Bool)
          → cond a (cond b rest (rest ++ new)) (mac_field (hop first) ∷ cond b rest (rest ++ new))
          ≡ cond b (cond a rest (mac_field (hop first) ∷ rest)) (cond a rest (mac_field (hop first) ∷ rest) ++ new)
      go true true = refl
      go true false = refl
      go false true = refl
      go false false = refl

  -- a peering hop's head is left out
  pub chain_one_more : (info : List ℕ) (n : ℕ)
      → let next = by_direction (cons_dir info) 0 1 + n in
      chained_seg_id peer info hop (suc n)
      ≡ cond (peer next) (chained_seg_id peer info hop n) (mac_beta_step (chained_seg_id peer info hop n) (mac_field (hop next)))
  unfolding chained_seg_id mac_chaining_beta
  chain_one_more info n =
      ap (mac_chaining_beta (seg_id info)) (macs_one_more (by_direction (cons_dir info) 0 1) n)
      ∙ go (peer (by_direction (cons_dir info) 0 1 + n))
    where
      macs : List (List ℕ)
      macs = macs_from peer hop (by_direction (cons_dir info) 0 1) n

      mac : List ℕ
      mac = mac_field (hop (by_direction (cons_dir info) 0 1 + n))

      go : (skip : Bool)
          → mac_chaining_beta (seg_id info) (cond skip macs (macs ++ (mac ∷ [])))
          ≡ cond skip (mac_chaining_beta (seg_id info) macs) (mac_beta_step (mac_chaining_beta (seg_id info) macs) mac)
      go true = refl
      go false = chaining_append (seg_id info) macs _
