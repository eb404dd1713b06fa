-- The moves with place and direction lent, at the place where the current hop field starts and in its segment's direction.
-- Assumes nothing.
use mathlib.Core.Path.{◌≡◌, refl}
use mathlib.Core.Bool.{Bool, true, false, not, ◌&&◌, cond}
use mathlib.Core.List.{List}
use Prim.Native.Nat.{ℕ}
use lib.Dec.{eqb}
use Rattle.fields.specs.Fields.{cons_dir}
use Rattle.standard_path.specs.Meta.{curr_hf}
use Rattle.standard_path.specs.Header.{hop_field}
use Rattle.edition.specs.declared.Edition.{Edition}
use Rattle.place.specs.Place.{info}
use Rattle.writes.specs.Writes.{flags_at, alert_cleared_at}
use Rattle.moves.specs.Moves.{stepped, takes_step, ingress_fields, ingress_move, egress_move}
use Rattle.moves.specs.Inner.{stepped_at, fields_at, ingress_move_at, indices_at, egress_move_at}
use Rattle.moves.proofs.Touched.{touched, cleared_there}

module _ (edition : Edition) (path : List ℕ) {at : ℕ} {c : Bool} (here : at ≡ flags_at path (curr_hf path)) (dir : c ≡ cons_dir (info path)) where
  stepped_lent : (taken : Bool) → stepped_at path at taken ≡ stepped path taken
  unfolding stepped_at stepped hop_field
  stepped_lent taken = rw here

  cleared_lent : (taken d : Bool) → alert_cleared_at (stepped_at path at taken) at d ≡ touched path taken d
  cleared_lent taken d = rw (stepped_lent taken) (cleared_there path taken d here)

  fields_lent : (interface : ℕ) → fields_at edition path interface at c ≡ ingress_fields edition path interface
  unfolding fields_at
  fields_lent interface = rw (cleared_lent (takes_step edition path true c) c, dir) (go (eqb interface 0))
    where
      go : (local : Bool)
          → cond local path (touched path (takes_step edition path true (cons_dir (info path))) (cons_dir (info path)))
          ≡ cond local path (touched path (not local && takes_step edition path true (cons_dir (info path))) (cons_dir (info path)))
      go true = refl
      go false = refl

  pub ingress_move_lent : (interface : ℕ) (change : Bool)
      → ingress_move_at edition path interface change at c ≡ ingress_move edition path interface change
  unfolding ingress_move_at ingress_move
  ingress_move_lent interface change = rw (fields_lent interface)

  pub egress_move_lent : egress_move_at edition path at c ≡ egress_move edition path
  unfolding indices_at egress_move_at egress_move
  egress_move_lent = rw (cleared_lent (takes_step edition path false c) (not c), dir)
