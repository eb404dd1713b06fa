-- What a reversal does to a path: the lengths, the fields, the current indices, and the bytes that stay.
-- Assumes nothing.
use mathlib.Core.Path.{◌≡◌, refl, sym, ap, ◌∙◌}
use mathlib.Core.Bool.{Bool, true, false}
use mathlib.Core.List.{List}
use Prim.Native.Nat.{ℕ, ◌+◌, ◌-◌, ◌*◌, ◌≤◌, ◌<◌}
use native.Mathlib.Omega.{arith}
use lib.Dec.{leb}
use borrow.Author.Tests.{leb-true}
use lib.ListN.{length, get_or, take, drop, length-set}
use lib.Seq.{take-add, drop_at, length-take-le, drop-set-lt, get_or-take}
use Rattle.std.specs.Prelude.{Result, Ok, Err}
use Rattle.fields.specs.Layout.{info_offset, hop_offset}
use Rattle.questions.specs.Questions.{asks}
use Rattle.standard_path.specs.Meta.{curr_inf, curr_hf, seg0_len, seg1_len, seg2_len, set_curr_inf, set_curr_hf}
use Rattle.standard_path.specs.Header.{infos, hops, header_size, info_field, hop_field, header_check}
use Rattle.standard_path.proofs.IndexSet.{set_hf_kept, set_hf_byte, set_inf_byte, hf_after_hf, hf_after_inf, inf_after_inf}
use Rattle.segments.specs.Segments.{segments, segment_count}
use Rattle.reverse_parts.specs.Parts.{swap_lengths, toggle_cons_dirs, reverse_fields, reverse_parts}
use Rattle.reverse.specs.Reverse.{reversed, bytes_left, reverse_answer, reverse_bytes}
use Rattle.reverse.specs.declared.PathReverseError.{PathReverseError}
use Rattle.reverse.specs.declared.PathReverseError.TheVariants.{HeaderFailed, NoSegments, HopOutOfBounds, InfoOutOfBounds}
use Rattle.reverse_parts.proofs.FieldOrder.{length_reverse_fields, before_fields, behind_fields, reversed_field}
use Rattle.segments.proofs.Walk.{count_at_most}
use Rattle.reverse.proofs.Reversible.{Whole, whole, Reversible, reversible}
use Rattle.reverse_parts.proofs.ReversedLengths.{Lengths, own_lengths, infos_of, hops_of, length_swap_lengths, behind_lengths, swapped_infos, swapped_hops, swapped_used}
use Rattle.reverse_parts.proofs.ReversedInfos.{toggle_info, length_toggle, before_toggle, behind_toggle, toggled_info}

-- ---- the fields

-- a part of the bytes before a place
part_of_front : (l : List ℕ) (k size : ℕ) → k ≤ length l → take size (drop k l) ≡ drop k (take (k + size) l)
part_of_front l k size h = rw (take-add k size l) (sym (drop_at (take k l) (take size (drop k l)) k (length-take-le k l h)))

module _ (n m : ℕ) (path : List ℕ) (fits : hop_offset n m ≤ length path) where
  abbrev toggled_path : List ℕ
  toggled_path = toggle_cons_dirs n path

  abbrev infos_reversed : List ℕ
  infos_reversed = reverse_fields (info_offset 0) 8 n toggled_path

  infos_fit : info_offset 0 + 8 * n ≤ length toggled_path
  infos_fit = rw (length_toggle path n) (omega arith)

  length_infos_reversed : length infos_reversed ≡ length path
  length_infos_reversed = length_reverse_fields 8 (info_offset 0) n toggled_path infos_fit ∙ length_toggle path n

  hops_fit : hop_offset n 0 + 12 * m ≤ length infos_reversed
  hops_fit = rw length_infos_reversed (omega arith)

  length_parts : length (reverse_parts n m path) ≡ length path
  unfolding reverse_parts
  length_parts = length_reverse_fields 12 (hop_offset n 0) m infos_reversed hops_fit ∙ length_infos_reversed

  before_parts : (k : ℕ) → k ≤ 4 → take k (reverse_parts n m path) ≡ take k path
  unfolding reverse_parts
  before_parts k h =
      before_fields 12 (hop_offset n 0) m infos_reversed hops_fit k (omega arith)
      ∙ before_fields 8 (info_offset 0) n toggled_path infos_fit k h ∙ before_toggle path n k h

  behind_infos : (k : ℕ) → hop_offset n 0 ≤ k → drop k infos_reversed ≡ drop k path
  behind_infos k h = behind_fields 8 (info_offset 0) n toggled_path infos_fit k (omega arith) ∙ behind_toggle path n k (omega arith)

  behind_parts : (k : ℕ) → hop_offset n m ≤ k → drop k (reverse_parts n m path) ≡ drop k path
  unfolding reverse_parts
  behind_parts k h = behind_fields 12 (hop_offset n 0) m infos_reversed hops_fit k (omega arith) ∙ behind_infos k (omega arith)

  hop_part : (i : ℕ) → i < m → take 12 (drop (hop_offset n i) (reverse_parts n m path)) ≡ take 12 (drop (hop_offset n (m - 1 - i)) path)
  unfolding reverse_parts
  hop_part i h =
      let at : hop_offset n 0 + 12 * i ≡ hop_offset n i = omega arith in
      let from : hop_offset n 0 + 12 * (m - 1 - i) ≡ hop_offset n (m - 1 - i) = omega arith in
      (rw (at, from) at (reversed_field 12 (hop_offset n 0) m infos_reversed hops_fit i h))
      ∙ ap (take 12) (behind_infos (hop_offset n (m - 1 - i)) (omega arith))

  info_part : (i : ℕ) → i < n
      → take 8 (drop (info_offset i) (reverse_parts n m path)) ≡ toggle_info (take 8 (drop (info_offset (n - 1 - i)) path))
  unfolding reverse_parts
  info_part i h =
      part_of_front (reverse_parts n m path) (info_offset i) 8 (rw length_parts (omega arith))
      ∙ ap (drop (info_offset i)) (before_fields 12 (hop_offset n 0) m infos_reversed hops_fit (info_offset i + 8) (omega arith))
      ∙ sym (part_of_front infos_reversed (info_offset i) 8 (rw length_infos_reversed (omega arith)))
      ∙ reversed_field 8 (info_offset 0) n toggled_path infos_fit i h ∙ toggled_info path n (n - 1 - i) (omega arith)

-- ---- the current indices

module _ (l : List ℕ) (hop info : ℕ) where
  other_byte : (k : ℕ) → 0 < k → get_or (set_curr_inf (set_curr_hf l hop) info) k 0 ≡ get_or l k 0
  other_byte k h = set_inf_byte (set_curr_hf l hop) info k (λ e. omega arith) ∙ set_hf_byte l hop k (λ e. omega arith)

  module _ (some : 0 < length l) where
    some_still : 0 < length (set_curr_hf l hop)
    some_still = rw (set_hf_kept l hop).size some

    curr_hf_set : hop < 64 → curr_hf (set_curr_inf (set_curr_hf l hop) info) ≡ hop
    curr_hf_set h = hf_after_inf (set_curr_hf l hop) info some_still ∙ hf_after_hf l hop some h

    curr_inf_set : info < 4 → curr_inf (set_curr_inf (set_curr_hf l hop) info) ≡ info
    curr_inf_set = inf_after_inf (set_curr_hf l hop) info some_still

-- ---- the path

module _ (path : List ℕ) (ok : Reversible path) where
  of_header : Whole path
  of_header = whole path ok.complete

  parts_fit : hop_offset (infos path) (hops path) ≤ length (swap_lengths path)
  unfolding header_size
  parts_fit = rw (length_swap_lengths path) of_header.fits

  abbrev parts : List ℕ
  parts = reverse_parts (infos path) (hops path) (swap_lengths path)

  length_of_parts : length parts ≡ length path
  length_of_parts = length_parts (infos path) (hops path) (swap_lengths path) parts_fit ∙ length_swap_lengths path

  pub length_reversed : length (reversed path) ≡ length path
  unfolding reversed set_curr_inf set_curr_hf
  length_reversed = rw (length-set, length-set) length_of_parts

  -- only byte 0 is set behind that
  from_parts : (k : ℕ) → 0 < k → drop k (reversed path) ≡ drop k parts
  unfolding reversed set_curr_inf set_curr_hf
  from_parts k h = rw (drop-set-lt, drop-set-lt)

  pub behind_reversed : (k : ℕ) → header_size path ≤ k → drop k (reversed path) ≡ drop k path
  unfolding header_size
  behind_reversed k h =
      from_parts k (omega arith) ∙ behind_parts (infos path) (hops path) (swap_lengths path) parts_fit k h
      ∙ behind_lengths path k (omega arith)

  meta_byte : (k : ℕ) → 0 < k → k < 4 → get_or (reversed path) k 0 ≡ get_or (swap_lengths path) k 0
  unfolding reversed
  meta_byte k h b =
      other_byte parts _ _ k h ∙ sym (get_or-take 4 parts k 0 b)
      ∙ ap (λ (l : List ℕ). get_or l k 0) (before_parts (infos path) (hops path) (swap_lengths path) parts_fit 4 (omega arith))
      ∙ get_or-take 4 (swap_lengths path) k 0 b

  pub reversed_curr_hf : curr_hf (reversed path) ≡ hops path - 1 - curr_hf path
  unfolding reversed
  reversed_curr_hf = curr_hf_set parts _ _ (rw length_of_parts (omega (arith, of_header.meta))) (omega (arith, of_header.few, ok.hop))

  pub reversed_curr_inf : curr_inf (reversed path) ≡ segment_count path - 1 - curr_inf path
  unfolding reversed
  reversed_curr_inf = curr_inf_set parts _ _ (rw length_of_parts (omega (arith, of_header.meta))) (omega (arith, count_at_most path, ok.info))

  -- the lengths are those swapped
  pub reversed_lengths : Lengths (reversed path) (seg0_len (swap_lengths path)) (seg1_len (swap_lengths path)) (seg2_len (swap_lengths path))
  reversed_lengths =
      let one = meta_byte 1 (omega arith) (omega arith) in
      let two = meta_byte 2 (omega arith) (omega arith) in
      let three = meta_byte 3 (omega arith) (omega arith) in
      record { first = rw (one, two); second = rw (two, three); third = rw three }

  module _ (bytes : (i : ℕ) → get_or path i 0 < 256) where
    pub reversed_infos : infos (reversed path) ≡ infos path
    reversed_infos =
        infos_of reversed_lengths ∙ sym (infos_of (own_lengths (swap_lengths path))) ∙ swapped_infos path bytes of_header.meta

    pub reversed_hops : hops (reversed path) ≡ hops path
    reversed_hops =
        hops_of reversed_lengths ∙ sym (hops_of (own_lengths (swap_lengths path))) ∙ swapped_hops path bytes of_header.meta

    pub reversed_used : segment_count (reversed path) ≡ segment_count path
    unfolding segment_count segments
    reversed_used =
        rw (reversed_lengths.first, reversed_lengths.second, reversed_lengths.third)
        (swapped_used path bytes of_header.meta ok.segments)

    pub reversed_hop_field : (i : ℕ) → i < hops path → hop_field (reversed path) i ≡ hop_field path (hops path - 1 - i)
    unfolding hop_field
    reversed_hop_field i h =
        rw reversed_infos
        (ap (take 12) (from_parts (hop_offset (infos path) i) (omega arith))
        ∙ hop_part (infos path) (hops path) (swap_lengths path) parts_fit i h
        ∙ ap (take 12) (behind_lengths path (hop_offset (infos path) (hops path - 1 - i)) (omega arith)))

    pub reversed_info_field : (i : ℕ) → i < infos path → info_field (reversed path) i ≡ toggle_info (info_field path (infos path - 1 - i))
    unfolding info_field
    reversed_info_field i h =
        ap (take 8) (from_parts (info_offset i) (omega arith)) ∙ info_part (infos path) (hops path) (swap_lengths path) parts_fit i h
        ∙ ap (λ (l : List ℕ). toggle_info (take 8 l)) (behind_lengths path (info_offset (infos path - 1 - i)) (omega arith))

-- ---- the bytes left, whatever the answer

same_header : (left path : List ℕ) → length left ≡ length path → infos left ≡ infos path → hops left ≡ hops path
    → header_check left ≡ header_check path
unfolding asks header_check header_size
same_header left path p q r = rw (p, q, r)

module _ (path : List ℕ) where
  by_answer : (P : List ℕ → Type 0) → P path → P (swap_lengths path) → (Reversible path → P (reversed path)) → P (reverse_bytes path)
  unfolding reverse_bytes bytes_left
  by_answer P same swapped turned = go (reverse_answer path) refl
    where
      go : (r : Result Unit PathReverseError) → reverse_answer path ≡ r → P (bytes_left r path)
      go (Ok done) e = turned (reversible path e)
      go (Err (HeaderFailed error)) e = same
      go (Err NoSegments) e = same
      go (Err HopOutOfBounds) e = swapped
      go (Err InfoOutOfBounds) e = swapped

  pub length_reverse_bytes : length (reverse_bytes path) ≡ length path
  length_reverse_bytes = by_answer (λ l. length l ≡ length path) refl (length_swap_lengths path) (length_reversed path)

  -- the bytes past the header stay
  pub behind_header : (k : ℕ) → header_size path ≤ k → drop k (reverse_bytes path) ≡ drop k path
  unfolding header_size
  behind_header k h =
      by_answer (λ l. drop k l ≡ drop k path) refl (behind_lengths path k (omega arith)) (λ ok. behind_reversed path ok k h)

  module _ (bytes : (i : ℕ) → get_or path i 0 < 256) where
    swapped_header : header_check (swap_lengths path) ≡ header_check path
    unfolding asks header_check
    swapped_header = go (leb 4 (length path)) refl
      where
        go : (there : Bool) → leb 4 (length path) ≡ there → header_check (swap_lengths path) ≡ header_check path
        go false e = rw (length_swap_lengths path, e)
        go true e =
            let meta : 4 ≤ length path = leb-true _ _ e in
            same_header (swap_lengths path) path (length_swap_lengths path) (swapped_infos path bytes meta) (swapped_hops path bytes meta)

    -- a header that is complete stays so
    pub header_kept : header_check (reverse_bytes path) ≡ header_check path
    header_kept =
        by_answer (λ l. header_check l ≡ header_check path) refl swapped_header
        (λ ok. same_header (reversed path) path (length_reversed path ok) (reversed_infos path ok bytes) (reversed_hops path ok bytes))
