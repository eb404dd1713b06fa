-- Laws of links and of their pairs.
-- Assumes nothing.
use mathlib.Core.Path.{◌≡◌, refl}
use mathlib.Core.Bool.{Bool, true, false, cond, ◌||◌, ◌&&◌, and_comm, or-false, or_assoc}
use Prim.Native.Nat.{ℕ, ◌+◌, ◌<◌}
use borrow.Author.Tests.{ne_eqb}
use lib.Dec.{eqb}
use Rattle.octets.proofs.Below.{same_below}
use Rattle.interface_table.specs.Table.{core, child, peer, link_type, is_up, is_among, pair_allowed}

-- a sound state is the link plus 4 if up
pub state_parts : (state : ℕ) → state < 8 → state ≡ link_type state + cond (is_up state) 4 0
unfolding link_type is_up
state_parts = same_below 8 (λ state. state) (λ state. link_type state + cond (is_up state) 4 0) refl

-- ---- the pairs, by the link of one side

module _ {in_link : ℕ} (out_link : ℕ) where
  pub from_core : in_link ≡ core → pair_allowed in_link out_link ≡ eqb out_link child
  unfolding pair_allowed is_among
  from_core e = rw e (or-false (eqb out_link child))

  pub from_peer : in_link ≡ peer → pair_allowed in_link out_link ≡ eqb out_link child
  unfolding pair_allowed is_among
  from_peer e = rw e (or-false (eqb out_link child))

  pub from_child : in_link ≡ child → pair_allowed in_link out_link ≡ (eqb out_link core || eqb out_link child || eqb out_link peer)
  unfolding pair_allowed is_among
  from_child e = rw (e, or-false (eqb out_link peer), or_assoc)

  pub from_other : (in_link ≡ core → ⊥) → (in_link ≡ child → ⊥) → (in_link ≡ peer → ⊥) → pair_allowed in_link out_link ≡ false
  unfolding pair_allowed is_among
  from_other p q r = rw (ne_eqb in_link core p, ne_eqb in_link child q, ne_eqb in_link peer r)

-- ---- a pair is allowed the other way round too

swapped : (p q r s t : Bool) → (p || (q || (r || (s || (t || false))))) ≡ (q || (p || (r || (t || (s || false)))))
swapped true true r s t = refl
swapped true false r s t = refl
swapped false true r s t = refl
swapped false false true s t = refl
swapped false false false true true = refl
swapped false false false true false = refl
swapped false false false false true = refl
swapped false false false false false = refl

pub pair_symmetric : (in_link out_link : ℕ) → pair_allowed in_link out_link ≡ pair_allowed out_link in_link
unfolding pair_allowed is_among
pair_symmetric in_link out_link =
    let pair : ℕ → ℕ → Bool = λ a b. eqb in_link a && eqb out_link b in
    simp (and_comm (eqb out_link core), and_comm (eqb out_link child), and_comm (eqb out_link peer))
    (swapped (pair core child) (pair child core) (pair child child) (pair child peer) (pair peer child))
