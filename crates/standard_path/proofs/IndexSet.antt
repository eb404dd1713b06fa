-- CurrINF or CurrHF set: what it keeps of a path, and what is read after it.
-- Assumes nothing.
use mathlib.Core.Path.{◌≡◌, refl}
use mathlib.Core.List.{List}
use mathlib.Core.Logic.{inl}
use Prim.Native.Nat.{ℕ, ◌+◌, ◌*◌, ◌/◌, ◌%◌, ◌<◌}
use native.Mathlib.Omega.{arith}
use lib.ListN.{length, get_or, drop}
use lib.Seq.{get_or-set_same, get_or-set_other}
use Rattle.standard_path.specs.Meta.{curr_inf, curr_hf, set_curr_inf, set_curr_hf}
use Rattle.standard_path.specs.Header.{header_size, info_field, hop_field}
use Rattle.standard_path.proofs.Kept.{Kept, set_kept, set_info, set_hop, set_past}

module _ (path : List ℕ) (index : ℕ) where
  pub set_inf_kept : Kept path (set_curr_inf path index)
  unfolding set_curr_inf
  set_inf_kept = set_kept path 0 _ (inl refl)

  pub set_hf_kept : Kept path (set_curr_hf path index)
  unfolding set_curr_hf
  set_hf_kept = set_kept path 0 _ (inl refl)

  pub set_inf_byte : (j : ℕ) → (j ≡ 0 → ⊥) → get_or (set_curr_inf path index) j 0 ≡ get_or path j 0
  unfolding set_curr_inf
  set_inf_byte j = get_or-set_other path 0 j _ 0

  pub set_hf_byte : (j : ℕ) → (j ≡ 0 → ⊥) → get_or (set_curr_hf path index) j 0 ≡ get_or path j 0
  unfolding set_curr_hf
  set_hf_byte j = get_or-set_other path 0 j _ 0

  pub set_inf_past : drop (header_size path) (set_curr_inf path index) ≡ drop (header_size path) path
  unfolding set_curr_inf header_size
  set_inf_past = set_past path 0 _ (omega arith)

  pub set_hf_past : drop (header_size path) (set_curr_hf path index) ≡ drop (header_size path) path
  unfolding set_curr_hf header_size
  set_hf_past = set_past path 0 _ (omega arith)

  pub set_inf_info : (j : ℕ) → info_field (set_curr_inf path index) j ≡ info_field path j
  unfolding set_curr_inf
  set_inf_info j = set_info path 0 _ j (inl (omega arith))

  pub set_hf_info : (j : ℕ) → info_field (set_curr_hf path index) j ≡ info_field path j
  unfolding set_curr_hf
  set_hf_info j = set_info path 0 _ j (inl (omega arith))

  pub set_inf_hop : (j : ℕ) → hop_field (set_curr_inf path index) j ≡ hop_field path j
  unfolding set_curr_inf
  set_inf_hop j = set_hop path 0 _ set_inf_kept j (inl (omega arith))

  pub set_hf_hop : (j : ℕ) → hop_field (set_curr_hf path index) j ≡ hop_field path j
  unfolding set_curr_hf
  set_hf_hop j = set_hop path 0 _ set_hf_kept j (inl (omega arith))

  module _ (some : 0 < length path) where
    pub inf_after_inf : index < 4 → curr_inf (set_curr_inf path index) ≡ index
    unfolding set_curr_inf
    inf_after_inf b = rw (get_or-set_same path 0 (index % 4 * 64 + get_or path 0 0 % 64) 0 some) (omega arith)

    pub hf_after_inf : curr_hf (set_curr_inf path index) ≡ curr_hf path
    unfolding set_curr_inf
    hf_after_inf = rw (get_or-set_same path 0 (index % 4 * 64 + get_or path 0 0 % 64) 0 some) (omega arith)

    pub hf_after_hf : index < 64 → curr_hf (set_curr_hf path index) ≡ index
    unfolding set_curr_hf
    hf_after_hf b = rw (get_or-set_same path 0 (get_or path 0 0 / 64 * 64 + index % 64) 0 some) (omega arith)

    pub inf_after_hf : curr_inf (set_curr_hf path index) ≡ curr_inf path
    unfolding set_curr_hf
    inf_after_hf = rw (get_or-set_same path 0 (get_or path 0 0 / 64 * 64 + index % 64) 0 some) (omega arith)
