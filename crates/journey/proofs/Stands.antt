-- Where a path stands on its way: at hop m of segment t, with a SegID in that segment's info field. The segments before have the SegID that
-- their last hop was checked under, and all else is as it was given.
-- Assumes nothing.
use mathlib.Core.Path.{◌≡◌, refl, ap, sym, ◌∙◌}
use mathlib.Core.Bool.{Bool, true, false, not, ◌&&◌, cond, and-false}
use mathlib.Core.List.{List}
use Prim.Native.Nat.{ℕ, zero, suc, ◌+◌, ◌-◌, ◌≤◌, ◌<◌}
use native.Mathlib.Omega.{arith}
use borrow.Author.Tests.{eqb-true, eqb-false, eq-eqb, ne_eqb}
use lib.Dec.{eqb}
use lib.ListN.{length}
use Rattle.fields.specs.Layout.{info_offset}
use Rattle.hop_mac.specs.Mac.{mac_beta_step, mac_chaining_beta}
use Rattle.standard_path.specs.Meta.{curr_inf, curr_hf, set_curr_inf, set_curr_hf}
use Rattle.fields.specs.Fields.{by_direction, cons_dir, seg_id, mac_field}
use Rattle.standard_path.specs.Header.{infos, header_size, info_field, hop_field}
use Rattle.standard_path.proofs.Kept.{Kept, kept_trans, infos_kept}
use Rattle.standard_path.proofs.IndexSet.{set_hf_kept, set_hf_hop, set_hf_info, set_inf_kept, set_inf_hop, set_inf_info, hf_after_hf, inf_after_hf, hf_after_inf, inf_after_inf}
use Rattle.edition.specs.declared.Edition.{Edition}
use Rattle.edition.specs.Edition.{peering_path, first_peering_hop, peering_questions}
use Rattle.place.specs.Place.{is_peering_hop, crosses, hop, info}
use Rattle.moves.specs.Moves.{stepped, ingress_fields, egress_move}
use Rattle.edition.proofs.Peering.{peering_path_kept, questions_kept, peering_hop_kept}
use Rattle.moves.proofs.Touched.{SameInfo, stepped_kept, stepped_inf, stepped_hf, stepped_hop, stepped_info, stepped_info_other, stepped_seg_id_lem}
use Rattle.segment_check.specs.Segment.{start_of, count_of, hop_of, peering_hop_of, macs_from, chained_seg_id}
use Rattle.segment_check.proofs.Chain.{chain_one_more}
use Rattle.journey.proofs.Quiet.{Quiet, quiet_fields, quiet_egress_move}

-- ---- the SegID of a segment

-- under which hop m of segment t is checked, and as it is when the path arrives there
abbrev pub checked_seg_id : Edition → List ℕ → ℕ → ℕ → ℕ
checked_seg_id edition path t m = chained_seg_id (peering_hop_of edition path t) (info_field path t) (hop_of path t) m

abbrev pub arriving_seg_id : Edition → List ℕ → ℕ → ℕ → ℕ
arriving_seg_id edition path t m =
    by_direction (cons_dir (info_field path t)) (checked_seg_id edition path t m) (checked_seg_id edition path t (m - 1))

-- as it stays behind the segment: its last hop's. Egress is not reached there, or takes no beta step at the first peering hop
abbrev pub delivered_seg_id : Edition → List ℕ → ℕ → ℕ
delivered_seg_id edition path t = checked_seg_id edition path t (count_of path t - 1)

-- ---- the place

pub record Stands (edition : Edition) (path now' : List ℕ) (t m value : ℕ) : Type 0 where
  pub kept : Kept path now'
  pub inf : curr_inf now' ≡ t
  pub hf : curr_hf now' ≡ start_of path t + m
  pub hop_same : (j : ℕ) → hop_field now' j ≡ hop_field path j
  pub info_same : (i : ℕ) → SameInfo (info_field path i) (info_field now' i)
  pub seg : seg_id (info_field now' t) ≡ value
  pub later : (i : ℕ) → t < i → info_field now' i ≡ info_field path i
  pub earlier : (i : ℕ) → i < t → seg_id (info_field now' i) ≡ delivered_seg_id edition path i

module _ {edition : Edition} {path mid : List ℕ} {t m value : ℕ} (s : Stands edition path mid t m value) where
  -- what the step reads there
  pub hop_here : hop mid ≡ hop_of path t m
  hop_here = rw (s.hf, s.hop_same)

  pub dir_here : cons_dir (info mid) ≡ cons_dir (info_field path t)
  dir_here = rw s.inf (s.info_same t).dir

  -- a path stays a peering path, or none, and 28 is answered alike
  pub peering_path_here : peering_path edition mid ≡ peering_path edition path
  peering_path_here = peering_path_kept s.kept (λ i l. (s.info_same i).peer) edition

  pub fits_here : peering_questions edition mid ≡ peering_questions edition path
  fits_here = questions_kept s.kept (λ i l. (s.info_same i).peer) edition

  pub peer_here : is_peering_hop edition mid ≡ peering_hop_of edition path t m
  peer_here = rw s.hf (peering_hop_kept s.kept (λ i l. (s.info_same i).peer) edition (start_of path t + m))

  pub crosses_here : crosses edition mid ≡ first_peering_hop edition path (start_of path t + m)
  crosses_here = rw (s.hf, peering_path_here, s.kept.seg0)

same_info_trans : {first second third : List ℕ} → SameInfo first second → SameInfo second third → SameInfo first third
same_info_trans p q = record { dir = q.dir ∙ p.dir; start = q.start ∙ p.start; peer = q.peer ∙ p.peer }

-- ---- moves from place to place

module _ {edition : Edition} {path mid : List ℕ} {t m value : ℕ} (s : Stands edition path mid t m value)
    (room : header_size path ≤ length path) (inside : t < infos path) where
  -- its info field lies in the path
  pub info_among : curr_inf mid < infos mid
  info_among = rw (s.inf, infos_kept s.kept) inside

  pub info_room : info_offset (curr_inf mid) + 8 ≤ length mid
  unfolding header_size
  info_room = rw (s.inf, s.kept.size) (omega (arith, room, inside))

  -- a beta step, if it is taken
  steps : (taken : Bool) → Stands edition path (stepped mid taken) t m (cond taken (mac_beta_step value (mac_field (hop_of path t m))) value)
  steps taken = record {
    kept = kept_trans s.kept (stepped_kept mid info_among taken);
    inf = stepped_inf mid info_among taken ∙ s.inf;
    hf = stepped_hf mid info_among taken ∙ s.hf;
    hop_same = λ j. stepped_hop mid info_among taken j ∙ s.hop_same j;
    info_same = λ i. same_info_trans (s.info_same i) (stepped_info mid info_among taken i);
    seg =
        let e = stepped_seg_id_lem mid info_among taken info_room in
        rw (s.inf, s.hf, s.hop_same, s.seg) at e;
    later = λ i l. stepped_info_other mid info_among taken i (λ e. omega (arith, s.inf)) ∙ s.later i l;
    earlier = λ i l. ap seg_id (stepped_info_other mid info_among taken i (λ e. omega (arith, s.inf))) ∙ s.earlier i l;
  }

  -- CurrHF set
  pub hops_on : (n m' : ℕ) → n ≡ start_of path t + m' → n < 64 → Stands edition path (set_curr_hf mid n) t m' value
  unfolding header_size
  hops_on n m' e few =
      let some : 0 < length mid = rw s.kept.size (omega (arith, room)) in
      record {
        kept = kept_trans s.kept (set_hf_kept mid n);
        inf = inf_after_hf mid n some ∙ s.inf;
        hf = hf_after_hf mid n some few ∙ e;
        hop_same = λ j. set_hf_hop mid n j ∙ s.hop_same j;
        info_same = λ i. rw (set_hf_info mid n i) (s.info_same i);
        seg = rw (set_hf_info mid n t) s.seg;
        later = λ i l. set_hf_info mid n i ∙ s.later i l;
        earlier = λ i l. ap seg_id (set_hf_info mid n i) ∙ s.earlier i l;
      }

  -- CurrHF and CurrINF set to the next segment's first hop, from the last of this one
  pub segments_on : (n u : ℕ) → n ≡ start_of path u + 0 → n < 64 → u ≡ t + 1 → u < infos path → value ≡ delivered_seg_id edition path t
      → Stands edition path (set_curr_inf (set_curr_hf mid n) u) u 0 (checked_seg_id edition path u 0)
  unfolding header_size infos chained_seg_id macs_from mac_chaining_beta
  segments_on n u e few up there done =
      let some : 0 < length mid = rw s.kept.size (omega (arith, room)) in
      let on = set_curr_hf mid n in
      let more : 0 < length on = rw (set_hf_kept mid n).size some in
      record {
        kept = kept_trans s.kept (kept_trans (set_hf_kept mid n) (set_inf_kept on u));
        inf = inf_after_inf on u more (omega arith);
        hf = hf_after_inf on u more ∙ hf_after_hf mid n some few ∙ e;
        hop_same = λ j. set_inf_hop on u j ∙ set_hf_hop mid n j ∙ s.hop_same j;
        info_same = λ i. rw (set_inf_info on u i, set_hf_info mid n i) (s.info_same i);
        seg = rw (set_inf_info on u u, set_hf_info mid n u, s.later u (omega arith));
        later = λ i l. set_inf_info on u i ∙ set_hf_info mid n i ∙ s.later i (omega arith);
        earlier = λ i l. ap seg_id (set_inf_info on u i ∙ set_hf_info mid n i) ∙ before i l (eqb i t) refl;
      }
    where
      before : (i : ℕ) → i < u → (here : Bool) → eqb i t ≡ here → seg_id (info_field mid i) ≡ delivered_seg_id edition path i
      before i l true q = rw (eqb-true i t q) (s.seg ∙ done)
      before i l false q = s.earlier i (omega (arith, eqb-false i t q))

module _ {edition : Edition} {path mid : List ℕ} {t m : ℕ} (room : header_size path ≤ length path) (inside : t < infos path) where
  -- ingress: the SegID is the one that the hop is checked under
  pub enters : Stands edition path mid t m (arriving_seg_id edition path t m) → Quiet (hop_of path t m) → (interface : ℕ)
      → (peering_hop_of edition path t m ≡ false → m ≡ 0 → interface ≡ 0) → (1 ≤ m → interface ≡ 0 → ⊥)
      → Stands edition path (ingress_fields edition mid interface) t m (checked_seg_id edition path t m)
  enters s q interface first later =
      let c = cons_dir (info_field path t) in
      let here : Quiet (hop mid) = rw (hop_here s) q in
      let taken = not (eqb interface 0) && (not (peering_hop_of edition path t m) && not c) in
      let e : cond taken (mac_beta_step (arriving_seg_id edition path t m) (mac_field (hop_of path t m))) (arriving_seg_id edition path t m)
      ≡ checked_seg_id edition path t m = value m interface c (peering_hop_of edition path t m) refl refl first later in
      rw (quiet_fields edition mid (info_among s room inside) here interface, dir_here s, peer_here s, ← e) (steps s room inside taken)
    where
      value : (m interface : ℕ) (c peer : Bool) → cons_dir (info_field path t) ≡ c → peering_hop_of edition path t m ≡ peer
          → (peer ≡ false → m ≡ 0 → interface ≡ 0) → (1 ≤ m → interface ≡ 0 → ⊥)
          → cond (not (eqb interface 0) && (not peer && not c))
          (mac_beta_step (cond c (checked_seg_id edition path t m) (checked_seg_id edition path t (m - 1))) (mac_field (hop_of path t m)))
          (cond c (checked_seg_id edition path t m) (checked_seg_id edition path t (m - 1)))
          ≡ checked_seg_id edition path t m
      value m interface true peer e p first later = go (eqb interface 0) peer
        where
          go : (local peer : Bool)
              → cond (not local && (not peer && not true))
              (mac_beta_step (checked_seg_id edition path t m) (mac_field (hop_of path t m))) (checked_seg_id edition path t m)
              ≡ checked_seg_id edition path t m
          go true peer = refl
          go false true = refl
          go false false = refl
      value zero interface false false e p first later = rw (eq-eqb interface 0 (first refl refl))
      value zero interface false true e p first later = rw (and-false (not (eqb interface 0)))
      value (suc m) interface false false e p first later =
          let less : suc m - 1 ≡ m = omega arith in
          let more : 1 + m ≡ suc m = omega arith in
          rw (ne_eqb interface 0 (later (omega arith)), less)
          (sym (chain_one_more (peering_hop_of edition path t) (hop_of path t) (info_field path t) m ∙ rw (e, more, p)))
      value (suc m) interface false true e p first later =
          let less : suc m - 1 ≡ m = omega arith in
          let more : 1 + m ≡ suc m = omega arith in
          rw (and-false (not (eqb interface 0)), less)
          (sym (chain_one_more (peering_hop_of edition path t) (hop_of path t) (info_field path t) m ∙ rw (e, more, p)))

  -- egress inside the segment: the next hop's arriving SegID
  module _ (s : Stands edition path mid t m (checked_seg_id edition path t m)) (q : Quiet (hop_of path t m)) where
    quiet_there : Quiet (hop mid)
    quiet_there = rw (hop_here s) q

    pub leaves : first_peering_hop edition path (start_of path t + m) ≡ false → start_of path t + m + 1 < 64
        → Stands edition path (egress_move edition mid) t (m + 1) (arriving_seg_id edition path t (m + 1))
    leaves stays few =
        let c = cons_dir (info_field path t) in
        let e : cond (not (peering_hop_of edition path t m) && c) (mac_beta_step (checked_seg_id edition path t m) (mac_field (hop_of path t m)))
        (checked_seg_id edition path t m)
        ≡ arriving_seg_id edition path t (m + 1) = value c (peering_hop_of edition path t m) refl refl in
        rw (quiet_egress_move edition mid (info_among s room inside) quiet_there, crosses_here s, stays)
        (rw (peer_here s, dir_here s, s.hf, ← e)
        (hops_on (steps s room inside (not (peering_hop_of edition path t m) && c)) room inside (start_of path t + m + 1) (m + 1)
        (omega arith) few))
      where
        value : (c peer : Bool) → cons_dir (info_field path t) ≡ c → peering_hop_of edition path t m ≡ peer
            → cond (not peer && c) (mac_beta_step (checked_seg_id edition path t m) (mac_field (hop_of path t m))) (checked_seg_id edition path t m)
            ≡ cond c (checked_seg_id edition path t (m + 1)) (checked_seg_id edition path t (m + 1 - 1))
        value true peer e p =
            let more : m + 1 ≡ suc m = omega arith in
            let none : 0 + m ≡ m = omega arith in
            rw more (go peer ∙ sym (chain_one_more (peering_hop_of edition path t) (hop_of path t) (info_field path t) m ∙ rw (e, none, p)))
          where
            go : (peer : Bool)
                → cond (not peer && true) (mac_beta_step (checked_seg_id edition path t m) (mac_field (hop_of path t m)))
                (checked_seg_id edition path t m)
                ≡ cond peer (checked_seg_id edition path t m) (mac_beta_step (checked_seg_id edition path t m) (mac_field (hop_of path t m)))
            go true = refl
            go false = refl
        value false peer e p = let less : m + 1 - 1 ≡ m = omega arith in rw (less, and-false (not peer))

    -- egress over the peering link, from the segment's last hop, without a beta step: the next segment's first hop, its SegID as given
    pub leaves_over : first_peering_hop edition path (start_of path t + m) ≡ true → peering_hop_of edition path t m ≡ true
        → m + 1 ≡ count_of path t → start_of path t + m + 1 < 64 → start_of path t + m + 1 ≡ start_of path (t + 1) + 0 → t + 1 < infos path
        → Stands edition path (egress_move edition mid) (t + 1) 0 (arriving_seg_id edition path (t + 1) 0)
    leaves_over crossing peer end few next there =
        let last : m ≡ count_of path t - 1 = omega arith in
        let done : checked_seg_id edition path t m ≡ delivered_seg_id edition path t = ap (λ (n : ℕ). checked_seg_id edition path t n) last in
        let e : checked_seg_id edition path (t + 1) 0 ≡ arriving_seg_id edition path (t + 1) 0 = value (cons_dir (info_field path (t + 1))) in
        rw (quiet_egress_move edition mid (info_among s room inside) quiet_there, crosses_here s, crossing)
        (rw (peer_here s, peer, s.hf, s.inf, ← e)
        (segments_on (steps s room inside false) room inside (start_of path t + m + 1) (t + 1) next few refl there done))
      where
        value : (c : Bool)
            → checked_seg_id edition path (t + 1) 0 ≡ cond c (checked_seg_id edition path (t + 1) 0) (checked_seg_id edition path (t + 1) 0)
        value true = refl
        value false = refl
