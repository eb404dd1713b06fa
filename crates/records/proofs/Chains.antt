-- What a method of iterators comes to on a chain, from its clause `ran`, and what a `for` over one is told at each record and at the end.
-- Assumes nothing.
use mathlib.Core.Path.{◌≡◌, refl, ap, sym, ◌∙◌}
use mathlib.Core.Bool.{Bool}
use mathlib.Core.List.{List, [], ◌∷◌}
use Prim.Native.Nat.{ℕ, zero, suc}
use denote.Param.Members.{Mut, Called}
use denote.Ref.{Bor}
use lib.ListN.{length, get_or}
use Rattle.std.specs.Fn.{CalledAt}
use Rattle.std.specs.Iterator.{YieldsFirst, Drains, ChecksAll, SkipsThenYields, FindsItem}
use Rattle.std.specs.List.{list_all, find, slice_get}
use Rattle.std.specs.Option.{option_map, unwrap_or}
use Rattle.std.specs.Prelude.{Option, Some, None}
use Rattle.std.proofs.lemmas.Iterator.{YieldsList}
use Rattle.std.proofs.lemmas.Iterator.Consumers.{YieldsList-from_first, nth_from_yields_List, count_from_yields_List}
use Rattle.std.proofs.lemmas.Iterator.Search.{all_from_yields_List, find_from_yields_List}
use Rattle.records.specs.Records.{every}
use Rattle.records.specs.Chain.{records_left}
use Rattle.records.specs.declared.Chain.{Chain}

pub list_all_every : {A : Type 0} (holds : A → Bool) (xs : List A) → list_all holds xs ≡ every holds xs
unfolding every
list_all_every holds [] = refl
list_all_every holds (x ∷ xs) = rw (list_all_every holds xs)

option_map_same : {A : Type 0} (r : Option A) → option_map (λ x. x) r ≡ r
option_map_same None = refl
option_map_same (Some x) = refl

unwrap_or_slice_get : (xs : List ℕ) (n : ℕ) → unwrap_or (slice_get xs n) 0 ≡ get_or xs n 0
unwrap_or_slice_get [] n = refl
unwrap_or_slice_get (x ∷ xs) zero = refl
unwrap_or_slice_get (x ∷ xs) (suc n) = unwrap_or_slice_get xs n

module _ {chain : Chain} {records : List ℕ} (these : records_left chain ≡ records) where
  yields : YieldsList (YieldsFirst records_left) (λ x. x) chain records
  yields = YieldsList-from_first (λ x. x) records_left records these

  pub chain_count : (answer : ℕ) → (xs : List ℕ) × Drains (YieldsFirst records_left) chain xs × (answer ≡ length xs)
      → answer ≡ length records
  chain_count answer ran = count_from_yields_List chain answer ran yields

  module _ (after : Chain) where
    -- `test` is what the closure computes
    pub chain_all : {F : Type 0} {g : Mut F (ℕ × Unit {0}) Bool} (test : ℕ → Bool) (f : F) (answer : Bool)
        → ChecksAll (YieldsFirst records_left) g chain f answer after
        → ((x : ℕ) (b : Bool) (q : F) → Called g f (x, tt) b q → (q ≡ f) × (b ≡ test x))
        → answer ≡ every test records
    chain_all test f answer ran computes =
        all_from_yields_List test after f answer ran yields computes ∙ list_all_every test records

    pub chain_find : {F : Type 0} {g : Mut F (Bor ℕ × Unit {0}) Bool} (test : ℕ → Bool) (f : F) (answer : Option ℕ)
        → FindsItem (YieldsFirst records_left) g chain f answer after
        → ((x : ℕ) (b : Bool) (q : F) → CalledAt g f x b q → (q ≡ f) × (b ≡ test x))
        → answer ≡ find test records
    chain_find test f answer ran computes =
        sym (option_map_same answer) ∙ find_from_yields_List test after f answer ran yields computes

    pub chain_nth : (answer : Option ℕ) (n : ℕ) → SkipsThenYields (YieldsFirst records_left) chain n answer after
        → unwrap_or answer 0 ≡ get_or records n 0
    chain_nth answer n ran =
        ap (λ r. unwrap_or r 0) (sym (option_map_same answer) ∙ nth_from_yields_List answer after n ran yields)
        ∙ unwrap_or_slice_get records n
