-- A header that 2, 3 and 4 let through, and how long it is.
-- Assumes nothing.
use mathlib.Core.Path.{◌≡◌, refl, ap, sym, ◌∙◌}
use mathlib.Core.Bool.{true, and-true}
use mathlib.Core.List.{List}
use Prim.Native.Nat.{ℕ, ◌+◌, ◌*◌, ◌≤◌}
use native.Mathlib.Omega.{arith}
use borrow.Author.Tests.{leb-true}
use lib.ListN.{length, take, drop}
use lib.Seq.{length-take-le}
use Rattle.std.specs.Prelude.{Ok, Err, is_ok}
use Rattle.octets.proofs.Bools.{both, first_of, second_of}
use Rattle.questions.specs.Questions.{all_yes}
use Rattle.questions.proofs.Asked.{asks_yes, through}
use Rattle.standard_path.specs.Header.{infos, hops, header_size, meta_there, fields_there, hops_few, header_questions, header_check}
use Rattle.edition.specs.declared.Edition.{Edition}
use Rattle.records.specs.Layout.{Layout}
use Rattle.journey_questions.specs.Questions.{questions}

module _ (path : List ℕ) (whole : header_check path ≡ Ok tt) where
  header_yes : all_yes (header_questions path) ≡ true
  unfolding header_check
  header_yes =
      sym (and-true (all_yes (header_questions path))) ∙ sym (through Err is_ok (λ why. refl) (header_questions path) (Ok tt))
      ∙ ap is_ok whole

  pub there : header_size path ≤ length path
  unfolding all_yes
  there = leb-true _ _ (first_of (fields_there path) _ (second_of (meta_there path) _ header_yes))

  fits : header_size path ≤ 796
  unfolding all_yes header_size infos
  fits =
      let few = leb-true (hops path) 64 (first_of _ true (second_of (fields_there path) _ (second_of (meta_there path) _ header_yes))) in
      omega (arith, few)

  -- so many bytes are taken of it
  module _ {size count : ℕ} (e : size ≡ 4 + 8 * infos path + 12 * count) (counted : count ≡ hops path) where
    pub taken : size ≡ length (take size path)
    unfolding header_size
    taken = sym (length-take-le size path (rw (e, counted) there))

    pub few : length (take size path) ≤ 796
    unfolding header_size
    few = rw (← taken) (rw (e, counted) fits)

  -- and the others were answered yes: all were
  pub all_yes_lem : (edition : Edition) (layout : Layout) (itinerary : List ℕ) (earliest latest : ℕ)
      → all_yes (drop 3 (questions edition layout itinerary earliest latest path)) ≡ true
      → all_yes (questions edition layout itinerary earliest latest path) ≡ true
  unfolding all_yes
  all_yes_lem edition layout itinerary earliest latest e =
      both (first_of (meta_there path) _ header_yes)
      (both (first_of (fields_there path) _ (second_of (meta_there path) _ header_yes))
      (both {x = hops_few path} (first_of _ true (second_of (fields_there path) _ (second_of (meta_there path) _ header_yes))) e))

-- a call whose questions are all answered yes has such a header
pub complete : (edition : Edition) (layout : Layout) (itinerary : List ℕ) (earliest latest : ℕ) (path : List ℕ)
    → all_yes (questions edition layout itinerary earliest latest path) ≡ true → header_check path ≡ Ok tt
unfolding all_yes header_check
complete edition layout itinerary earliest latest path e =
    let behind_meta = second_of (meta_there path) _ e in
    let behind_fields = second_of (fields_there path) _ behind_meta in
    asks_yes Err (header_questions path) (Ok tt)
    (both (first_of (meta_there path) _ e) (both (first_of (fields_there path) _ behind_meta)
    (both {x = hops_few path} (first_of (hops_few path) _ behind_fields) refl)))
