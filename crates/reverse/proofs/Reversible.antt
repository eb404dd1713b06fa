-- The answers of a reversal: each from what was asked, and what `Reversed` says of the path.
-- Assumes nothing.
use mathlib.Core.Path.{◌≡◌, refl, sym, ap, ◌∙◌}
use mathlib.Core.Bool.{Bool, true, false, not, cond}
use mathlib.Core.List.{List}
use Prim.Native.Nat.{ℕ, ◌≤◌, ◌<◌}
use native.Mathlib.Omega.{arith}
use lib.Dec.{eqb, ltb}
use lib.ListN.{length}
use borrow.Author.Tests.{leb-true, ltb-true, eqb-false}
use Rattle.std.specs.Prelude.{Result, Ok, Err}
use Rattle.questions.specs.Questions.{asks, within}
use Rattle.questions.proofs.Asked.{asks_append, asks_within}
use Rattle.standard_path.specs.Meta.{curr_inf, curr_hf, seg0_len}
use Rattle.standard_path.specs.Header.{infos, hops, header_size, meta_there, fields_there, hops_few, header_questions, header_check}
use Rattle.standard_path.proofs.HeaderAsked.{header_asked}
use Rattle.segments.specs.Segments.{segment_count}
use Rattle.reverse_parts.specs.Parts.{swap_lengths, reverse_parts}
use Rattle.reverse_parts.specs.Inner.{reverse_parts_there}
use Rattle.reverse_parts.proofs.FieldOrder.{parts_there}
use Rattle.reverse_parts.proofs.ReversedLengths.{length_swap_lengths}
use Rattle.reverse.specs.Reverse.{index_questions, reverse_answer}
use Rattle.standard_path.specs.declared.view.HeaderError.{HeaderError}
use Rattle.reverse.specs.declared.PathReverseError.{PathReverseError}
use Rattle.reverse.specs.declared.PathReverseError.TheVariants.{HeaderFailed, NoSegments, HopOutOfBounds, InfoOutOfBounds}

-- what a complete header says
pub record Whole (path : List ℕ) : Type 0 where
  pub meta : 4 ≤ length path
  pub fits : header_size path ≤ length path
  pub few : hops path ≤ 64

-- a path that is turned around
pub record Reversible (path : List ℕ) : Type 0 where
  pub complete : header_check path ≡ Ok tt
  pub segments : seg0_len path ≡ 0 → ⊥
  pub hop : curr_hf path < hops path
  pub info : curr_inf path < segment_count path

-- 20, 21 and 22, once the header is complete
abbrev pub asked : List ℕ → Result Unit PathReverseError
asked path = asks Err (index_questions path) (Ok tt)

abbrev pub after_header : Result Unit HeaderError → Result Unit PathReverseError → Result Unit PathReverseError
after_header (Ok complete) after = after
after_header (Err error) after = Err (HeaderFailed error)

module _ (path : List ℕ) where
  pub answer_asked : reverse_answer path ≡ after_header (header_check path) (asked path)
  unfolding reverse_answer
  answer_asked =
      asks_append Err (within HeaderFailed (header_questions path)) (index_questions path) (Ok tt)
      ∙ asks_within HeaderFailed Err (header_questions path) (asked path)
      ∙ sym (header_asked (λ check. after_header check (asked path)) path)

  pub refused_header : {error : HeaderError} → header_check path ≡ Err error → reverse_answer path ≡ Err (HeaderFailed error)
  refused_header e = answer_asked ∙ ap (λ check. after_header check (asked path)) e

  pub complete_header : header_check path ≡ Ok tt → reverse_answer path ≡ asked path
  complete_header e = answer_asked ∙ ap (λ check. after_header check (asked path)) e

  pub whole : header_check path ≡ Ok tt → Whole path
  unfolding asks header_check
  whole e = go (meta_there path) (fields_there path) (hops_few path) refl refl refl
    where
      go : (meta fields few : Bool) → meta_there path ≡ meta → fields_there path ≡ fields → hops_few path ≡ few → Whole path
      go false fields few p q r = let z : ◌≡◌ {A = ℕ} 0 1 = cc in absurd (omega arith)
      go true false few p q r = let z : ◌≡◌ {A = ℕ} 0 1 = cc in absurd (omega arith)
      go true true false p q r = let z : ◌≡◌ {A = ℕ} 0 1 = cc in absurd (omega arith)
      go true true true p q r = record { meta = leb-true _ _ p; fits = leb-true _ _ q; few = leb-true _ _ r }

  pub reversible : reverse_answer path ≡ Ok tt → Reversible path
  unfolding asks
  reversible e =
      go (header_check path) (eqb (seg0_len path) 0) (ltb (curr_hf path) (hops path)) (ltb (curr_inf path) (segment_count path))
      refl refl refl refl (sym answer_asked ∙ e)
    where
      go : (check : Result Unit HeaderError) (none hop info : Bool) → header_check path ≡ check → eqb (seg0_len path) 0 ≡ none
          → ltb (curr_hf path) (hops path) ≡ hop → ltb (curr_inf path) (segment_count path) ≡ info
          → after_header check (cond (not none) (cond hop (cond info (Ok tt) (Err InfoOutOfBounds)) (Err HopOutOfBounds)) (Err NoSegments))
          ≡ Ok tt
          → Reversible path
      go (Err error) none hop info p q r t f = let z : ◌≡◌ {A = ℕ} 0 1 = cc in absurd (omega arith)
      go (Ok complete) true hop info p q r t f = let z : ◌≡◌ {A = ℕ} 0 1 = cc in absurd (omega arith)
      go (Ok complete) false false info p q r t f = let z : ◌≡◌ {A = ℕ} 0 1 = cc in absurd (omega arith)
      go (Ok complete) false true false p q r t f = let z : ◌≡◌ {A = ℕ} 0 1 = cc in absurd (omega arith)
      go (Ok complete) false true true p q r t f =
          record { complete = p; segments = eqb-false _ _ q; hop = ltb-true _ _ r; info = ltb-true _ _ t }

  pub some_hop : reverse_answer path ≡ Ok tt → 0 < hops path
  some_hop e = omega (arith, (reversible e).hop)

  pub hop_inside : reverse_answer path ≡ Ok tt → curr_hf path < hops path
  hop_inside e = (reversible e).hop

  pub info_inside : reverse_answer path ≡ Ok tt → curr_inf path < segment_count path
  info_inside e = (reversible e).info

  -- all fields of such a path are there, also once the lengths are swapped
  pub parts_all_there : reverse_answer path ≡ Ok tt
      → reverse_parts_there (infos path) (hops path) (swap_lengths path) ≡ reverse_parts (infos path) (hops path) (swap_lengths path)
  unfolding header_size
  parts_all_there e = parts_there _ _ _ (rw (length_swap_lengths path) (whole (reversible e).complete).fits)

-- what the functions name
pub ruleset header_answers = (refused_header, complete_header)

pub ruleset reversible_path = (some_hop, hop_inside, info_inside, parts_all_there)
