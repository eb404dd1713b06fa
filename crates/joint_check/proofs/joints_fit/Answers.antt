use mathlib.Core.Path.{◌≡◌, ap, ◌∙◌}
use mathlib.Core.Bool.{Bool}
use Prim.Native.Nat.{ℕ, ◌<◌, ◌≤◌}
use lib.ListN.{length, get_or, take, drop}
use Rattle.std.proofs.Common.{rules, arith, length-drop, add_comm}
use Rattle.std.proofs.lemmas.List.{get_or-take, length-take}
use Rattle.std.proofs.lemmas.Grind.{get_or_after_one}
use Rattle.std.specs.Slice.Iter.{iter_rest}
use Rattle.std.proofs.iter.Yields.{fronts}
use Rattle.standard_path.specs.Header.{infos}
use Rattle.records.specs.Layout.{layout_of}
use Rattle.segment_check.proofs.All.{all_same, all_beside, serves_beside}
use Rattle.joint_check.specs.Inner.{joint_fits_from}
use Rattle.joint_check.proofs.joints_fit.Goals as goal

pub all-requires-clause-callable : goal.all-requires-clause-callable
unfolding infos
all-requires-clause-callable c =
    let n = c.saturating_sub-joints.result in
    let few : n ≤ 2 = omega (arith, c.info_field_count.ensures) in
    let end : c.zip.result.a.end ≡ n = ap (λ k. k.end) c.zip.ensures.first in
    serves_beside (fronts {A = ℕ}) (λ p x q r. search rules) (λ x l. let m : x.0 < 3 = omega arith in search rules)

pub returns : goal.returns
unfolding infos
returns c =
    let j = c.args.journey in
    let firsts = c.args.firsts in
    let n = c.saturating_sub-joints.result in
    let few : n ≤ 2 = omega (arith, c.info_field_count.ensures) in
    let fits : ℕ → ℕ → Bool = λ s first. joint_fits_from j.edition (layout_of j.itinerary.form) j.itinerary.bytes.now first j.path.now s in
    let behind = take 2 (drop 1 firsts) in
    let long : n ≤ length behind = omega (arith, length-take 2 (drop 1 firsts), length-drop 1 firsts) in
    rw (← c.info_field_count.ensures, ← c.saturating_sub-joints.ensures)
    (all_beside _ n c.all.new.self c.all.result behind 0 fits long c.zip.ensures.first
    (ap iter_rest c.zip.ensures.second ∙ c.iter.ensures.rest) c.all.ensures.ran (λ x b q k. search rules)
    ∙ all_same n _ _ (λ s l. ap (fits s) (get_or-take 2 (drop 1 firsts) s 0 (omega arith) ∙ get_or_after_one firsts s 0 ∙ ap (λ i. get_or firsts i 0) (add_comm 1 s))))
