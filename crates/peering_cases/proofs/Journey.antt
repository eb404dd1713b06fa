-- F-6: rows computed from the journey check's definitions.
-- Assumes nothing.
use Prim.Native.Nat.{ℕ}
use mathlib.Core.Bool.{true, false}
use mathlib.Core.List.{List, [], ◌∷◌, ◌++◌}
use mathlib.Core.Path.{◌≡◌, refl}
use Rattle.hop_mac.specs.Mac.{mac_beta_step, mac_chaining_beta}
use Rattle.fields.specs.Fields.{cons_dir, peering, seg_id, mac_field}
use Rattle.standard_path.specs.Header.{infos, hops, info_field, hop_field}
use Rattle.edition.specs.declared.Edition.TheVariants.{First, Second}
use Rattle.edition.specs.Edition.{peering_form, peering_placed, peering_fits}
use Rattle.segment_check.specs.Segment.{macs_from, chained_seg_id, peering_hop_of, hop_of}
use Rattle.journey_questions.specs.Lengths.{lengths_fit, lengths_pass}
use Rattle.journey_questions.specs.Questions.{station_count}

abbrev info : ℕ → List ℕ
info flags = flags ∷ 0x00 ∷ 0x00 ∷ 0x00 ∷ 0x00 ∷ 0x00 ∷ 0x03 ∷ 0xe8 ∷ []

-- a hop whose MAC starts with 0 and this byte
abbrev hop : ℕ → List ℕ
hop head = 0x00 ∷ 0x3f ∷ 0x00 ∷ 0x02 ∷ 0x00 ∷ 0x01 ∷ 0x00 ∷ head ∷ 0x00 ∷ 0x00 ∷ 0x00 ∷ 0x00 ∷ []

-- (3,3,0) with these flags, heads 1, 2, 4 and 8, 16, 32; (1,1,0)
abbrev long : ℕ → ℕ → List ℕ
long flags0 flags1 =
    0x00 ∷ 0x00 ∷ 0x30 ∷ 0xc0 ∷ (info flags0 ++ (info flags1 ++ (hop 1 ++ (hop 2 ++ (hop 4 ++ (hop 8 ++ (hop 16 ++ hop 32)))))))

abbrev short : ℕ → ℕ → List ℕ
short flags0 flags1 = 0x00 ∷ 0x00 ∷ 0x10 ∷ 0x40 ∷ (info flags0 ++ (info flags1 ++ (hop 1 ++ hop 2)))

row : List ℕ → ℕ
unfolding infos hops info_field hop_field cons_dir peering seg_id mac_field mac_beta_step mac_chaining_beta peering_form peering_placed lengths_fit macs_from chained_seg_id
row path = infos path

-- the SegID that each hop is checked under
abbrev chains : List ℕ → ℕ → List ℕ
chains path s =
    chained_seg_id (peering_hop_of Second path s) (info_field path s) (hop_of path s) 0
    ∷ chained_seg_id (peering_hop_of Second path s) (info_field path s) (hop_of path s) 1
    ∷ chained_seg_id (peering_hop_of Second path s) (info_field path s) (hop_of path s) 2
    ∷ []

-- C set: earlier heads without the peering hop's; the peering hop is the last of the first segment and the first of the second
pub row_set : (chains (long 3 3) 0 ≡ 0 ∷ 1 ∷ 3 ∷ []) × (chains (long 3 3) 1 ≡ 0 ∷ 0 ∷ 16 ∷ [])
unfolding row
row_set = (refl, refl)

-- C clear: heads behind the first hop up to the own, without the peering hop's
pub row_clear : (chains (long 2 2) 0 ≡ 0 ∷ 2 ∷ 2 ∷ []) × (chains (long 2 2) 1 ≡ 0 ∷ 16 ∷ 48 ∷ [])
unfolding row
row_clear = (refl, refl)

-- without P: as in the first edition
pub row_plain : (chains (long 1 1) 0 ≡ 0 ∷ 1 ∷ 3 ∷ []) × (chains (long 1 1) 1 ≡ 0 ∷ 8 ∷ 24 ∷ [])
    × (chains (long 0 0) 0 ≡ 0 ∷ 2 ∷ 6 ∷ []) × (chains (long 0 0) 1 ≡ 0 ∷ 16 ∷ 48 ∷ [])
unfolding row
row_plain = (refl, refl, refl, refl)

-- stations and lengths
pub row_counts : (station_count Second (short 2 2) ≡ 2) × (station_count First (short 2 2) ≡ 1) × (station_count Second (long 3 2) ≡ 6)
    × (station_count Second (long 3 0) ≡ 5) × (lengths_pass Second (short 3 2) ≡ true) × (lengths_pass Second (short 3 0) ≡ false)
    × (peering_fits Second (long 3 0) ≡ false) × (peering_fits Second (long 1 0) ≡ true) × (peering_fits First (long 3 0) ≡ true)
unfolding row
row_counts = (refl, refl, refl, refl, refl, refl, refl, refl, refl)
