-- Where a path stands that an ingress moved: CurrINF and CurrHF are in its header.
-- Assumes nothing.
use mathlib.Core.Path.{◌≡◌, refl, ◌∙◌}
use mathlib.Core.Bool.{Bool, true, false}
use mathlib.Core.List.{List}
use Prim.Native.Nat.{ℕ, ◌+◌, ◌<◌}
use native.Mathlib.Omega.{arith}
use lib.ListN.{length}
use Rattle.standard_path.specs.Meta.{curr_inf, curr_hf, set_curr_hf}
use Rattle.standard_path.specs.Header.{infos, hops, header_size}
use Rattle.standard_path.proofs.IndexSet.{hf_after_hf, hf_after_inf, inf_after_inf, set_hf_kept}
use Rattle.edition.specs.declared.Edition.{Edition}
use Rattle.place.specs.Place.{changes}
use Rattle.moves.specs.Moves.{ingress_seg_id, ingress_fields, ingress_move}
use Rattle.moves.proofs.Touched.{FieldsMoved, ingress_fields_moved}
use Rattle.routing.proofs.Inside.{Standing, next_hop_there, infos_few}

pub record Entered (path after : List ℕ) : Type 0 where
  pub among : curr_hf after < hops path
  pub inside : curr_inf after < infos path

pub entered : (edition : Edition) (path : List ℕ) (interface : ℕ) → Standing edition path
    → Entered path (ingress_move edition path interface (changes edition path))
unfolding ingress_move header_size
entered edition path interface s =
    go (ingress_fields_moved path s.inside edition interface (omega (arith, s.room, s.inside))) (changes edition path) refl
  where
    go : FieldsMoved path (ingress_fields edition path interface) (ingress_seg_id edition path interface)
        → (change : Bool) → changes edition path ≡ change → Entered path (ingress_move edition path interface change)
    go fields true e =
        let moved = ingress_fields edition path interface in
        let advanced = set_curr_hf moved (curr_hf path + 1) in
        let far = next_hop_there edition path e in
        let next = s.next e in
        let some : 0 < length moved = omega (arith, s.room, fields.kept.size) in
        let more : 0 < length advanced = omega (arith, some, (set_hf_kept moved (curr_hf path + 1)).size) in
        let hf = hf_after_inf advanced (curr_inf path + 1) more ∙ hf_after_hf moved (curr_hf path + 1) some (omega (arith, far, s.few)) in
        let inf = inf_after_inf advanced (curr_inf path + 1) more (omega (arith, next, infos_few path)) in
        record { among = rw hf far; inside = rw inf next }
    go fields false e = record { among = rw fields.hf s.among; inside = rw fields.inf s.inside }
