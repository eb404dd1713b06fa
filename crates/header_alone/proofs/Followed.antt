-- A complete header with more bytes behind it: its counts, fields and questions are those of the header by itself, and what is written
-- into it leaves those bytes behind it.
-- Assumes nothing.
use mathlib.Core.Path.{◌≡◌, ap, ◌∙◌}
use mathlib.Core.Bool.{Bool}
use mathlib.Core.List.{List, ◌++◌}
use Prim.Native.Nat.{ℕ, ◌+◌, ◌*◌, ◌/◌, ◌%◌, ◌≤◌, ◌<◌}
use native.Mathlib.Omega.{arith}
use borrow.Author.Tests.{le-leb}
use lib.ListN.{length, get_or, set, take, drop, length-append, length-drop, length-set, get_or-append}
use lib.Seq.{length-take-le, get_or-take, take-append-le, drop-append-le, set-append_left}
use Rattle.fields.specs.Layout.{info_offset, hop_offset}
use Rattle.fields.specs.Fields.{peering}
use Rattle.standard_path.specs.Meta.{set_curr_inf, set_curr_hf}
use Rattle.standard_path.specs.Header.{infos, hops, header_size, info_field, hop_field}
use Rattle.standard_path.proofs.Kept.{Kept, header_size_kept}
use Rattle.edition.specs.declared.Edition.{Edition}
use Rattle.edition.specs.Edition.{peering_path, peering_questions}
use Rattle.place.specs.Place.{before, is_final, crosses, changes, ingress_place}
use Rattle.writes.specs.Writes.{set_seg_id, flags_at, clear_ingress_alert}
use Rattle.routing.proofs.Inside.{inside_questions}
use Rattle.edition.proofs.Lengths.{SameLengths, infos_same, hops_same, header_size_same, peering_same, questions_same}

-- question 3 of a path
abbrev pub Whole : List ℕ → Type 0
Whole path = header_size path ≤ length path

pub whole_kept : {path after : List ℕ} → Kept path after → Whole path → Whole after
whole_kept k w = rw (header_size_kept k, k.size) w

-- the header by itself is whole
module _ (path : List ℕ) (whole : Whole path) where
  byte_taken : (i : ℕ) → i < 4 → get_or (take (header_size path) path) i 0 ≡ get_or path i 0
  unfolding header_size
  byte_taken i h = get_or-take (header_size path) path i 0 (omega arith)

  lengths_taken : SameLengths path (take (header_size path) path)
  lengths_taken =
      let one = byte_taken 1 (omega arith) in
      let two = byte_taken 2 (omega arith) in
      let three = byte_taken 3 (omega arith) in
      record { seg0 = rw (one, two); seg1 = rw (two, three); seg2 = rw three }

  pub header_whole : Whole (take (header_size path) path)
  header_whole =
      let size = length-take-le (header_size path) path whole in
      omega (arith, size, header_size_same lengths_taken)

module _ (path rest : List ℕ) (whole : Whole path) where
  size_is : 4 + 8 * infos path + 12 * hops path ≤ length path
  unfolding header_size
  size_is = whole

  pub some : 4 ≤ length path
  some = omega (arith, size_is)

  byte : (i : ℕ) → i < length path → get_or (path ++ rest) i 0 ≡ get_or path i 0
  byte i = get_or-append path rest 0 i

  -- ---- the meta word

  meta : (i : ℕ) → i < 4 → get_or (path ++ rest) i 0 ≡ get_or path i 0
  meta i h = byte i (omega (arith, some))

  pub first_byte : get_or (path ++ rest) 0 0 ≡ get_or path 0 0
  first_byte = meta 0 (omega arith)

  pub lengths_same : SameLengths path (path ++ rest)
  lengths_same =
      let one = meta 1 (omega arith) in
      let two = meta 2 (omega arith) in
      let three = meta 3 (omega arith) in
      record { seg0 = rw (one, two); seg1 = rw (two, three); seg2 = rw three }

  -- ---- the fields

  part : (a n : ℕ) → a + n ≤ length path → take n (drop a (path ++ rest)) ≡ take n (drop a path)
  part a n h =
      ap (take n) (drop-append-le a path rest (omega arith))
      ∙ take-append-le n (drop a path) rest (rw (length-drop a path) (omega arith))

  pub info_same : (i : ℕ) → i < infos path → info_field (path ++ rest) i ≡ info_field path i
  unfolding info_field
  info_same i h = part (info_offset i) 8 (omega (arith, size_is))

  pub hop_same : (j : ℕ) → j < hops path → hop_field (path ++ rest) j ≡ hop_field path j
  unfolding hop_field
  hop_same j h = rw (infos_same lengths_same) (part (hop_offset (infos path) j) 12 (omega (arith, size_is)))

  -- ---- what is asked of the header as a whole

  flags : (i : ℕ) → i < infos path → peering (info_field (path ++ rest) i) ≡ peering (info_field path i)
  flags i h = ap peering (info_same i h)

  pub peering_path_same : (edition : Edition) → peering_path edition (path ++ rest) ≡ peering_path edition path
  peering_path_same = peering_same lengths_same flags

  pub peering_questions_same : (edition : Edition) → peering_questions edition (path ++ rest) ≡ peering_questions edition path
  peering_questions_same = questions_same lengths_same flags

  pub before_same : (ids states : List ℕ) → before ids states (path ++ rest) ≡ before ids states path
  before_same ids states =
      let longer : length path ≤ length (path ++ rest) = rw (length-append path rest) (omega arith) in
      rw (
        header_size_same lengths_same,
        hops_same lengths_same,
        le-leb 4 (length (path ++ rest)) (omega (arith, some, longer)),
        le-leb 4 (length path) some,
        le-leb (header_size path) (length (path ++ rest)) (omega (arith, whole, longer)),
        le-leb (header_size path) (length path) whole,
      )

  -- ---- where it stands

  pub changes_same : (edition : Edition) → changes edition (path ++ rest) ≡ changes edition path
  changes_same edition =
      rw (
        first_byte,
        lengths_same.seg0,
        lengths_same.seg1,
        lengths_same.seg2,
        hops_same lengths_same,
        peering_path_same edition,
      )

  pub final_same : is_final (path ++ rest) ≡ is_final path
  final_same = rw (first_byte, hops_same lengths_same)

  pub crosses_same : (edition : Edition) → crosses edition (path ++ rest) ≡ crosses edition path
  crosses_same edition = rw (first_byte, lengths_same.seg0, peering_path_same edition)

  pub ingress_place_same : (edition : Edition) → ingress_place edition (path ++ rest) ≡ ingress_place edition path
  ingress_place_same edition =
      rw (
        first_byte,
        lengths_same.seg0,
        lengths_same.seg1,
        lengths_same.seg2,
        infos_same lengths_same,
        hops_same lengths_same,
        peering_path_same edition,
        peering_questions_same edition,
      )

  pub inside_same : (edition : Edition) → inside_questions edition (path ++ rest) ≡ inside_questions edition path
  inside_same edition =
      rw (
        first_byte,
        lengths_same.seg0,
        lengths_same.seg1,
        lengths_same.seg2,
        hops_same lengths_same,
        peering_path_same edition,
      )

  -- ---- what is written into it

  pub seg_id_followed : (i value : ℕ) → i < infos path → set_seg_id (path ++ rest) i value ≡ set_seg_id path i value ++ rest
  unfolding set_seg_id
  seg_id_followed i value h =
      let once = set path (info_offset i + 2) (value / 256) in
      rw (set-append_left path rest (info_offset i + 2) (value / 256) (omega (arith, size_is)))
      (set-append_left once rest (info_offset i + 3) (value % 256)
      (omega (arith, size_is, length-set path (info_offset i + 2) (value / 256))))

  pub alert_followed : (c : Bool) (j : ℕ) → j < hops path → clear_ingress_alert (path ++ rest) c j ≡ clear_ingress_alert path c j ++ rest
  unfolding clear_ingress_alert
  alert_followed c j h =
      let inside : flags_at path j < length path = omega (arith, size_is) in
      rw (infos_same lengths_same, byte (flags_at path j) inside) (set-append_left path rest (flags_at path j) _ inside)

  pub hf_followed : (index : ℕ) → set_curr_hf (path ++ rest) index ≡ set_curr_hf path index ++ rest
  unfolding set_curr_hf
  hf_followed index = rw first_byte (set-append_left path rest 0 _ (omega (arith, some)))

  pub inf_followed : (index : ℕ) → set_curr_inf (path ++ rest) index ≡ set_curr_inf path index ++ rest
  unfolding set_curr_inf
  inf_followed index = rw first_byte (set-append_left path rest 0 _ (omega (arith, some)))
