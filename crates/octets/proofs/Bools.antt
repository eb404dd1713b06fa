-- Tests put together by `&&` and `||`: what holds of the whole says of each, and back.
-- Assumes nothing.
use mathlib.Core.Path.{◌≡◌, refl, sym}
use mathlib.Core.Bool.{Bool, true, false, ◌&&◌, ◌||◌, and-eq-true_iff}

-- ---- both

pub both : {x y : Bool} → x ≡ true → y ≡ true → (x && y) ≡ true
both {x} {y} a b = (and-eq-true_iff x y).1 (a, b)

pub each_of : (x y : Bool) → (x && y) ≡ true → (x ≡ true) × (y ≡ true)
each_of x y = (and-eq-true_iff x y).0

pub first_of : (x y : Bool) → (x && y) ≡ true → x ≡ true
first_of x y e = (each_of x y e).0

pub second_of : (x y : Bool) → (x && y) ≡ true → y ≡ true
second_of x y e = (each_of x y e).1

pub each_of_3 : (x y z : Bool) → (x && y && z) ≡ true → (x ≡ true) × (y ≡ true) × (z ≡ true)
each_of_3 x y z e =
    let held = each_of (x && y) z e in
    let first = each_of x y held.0 in
    (first.0, first.1, held.1)

pub each_of_4 : (x y z w : Bool) → (x && y && z && w) ≡ true → (x ≡ true) × (y ≡ true) × (z ≡ true) × (w ≡ true)
each_of_4 x y z w e =
    let held = each_of (x && y && z) w e in
    let first = each_of_3 x y z held.0 in
    (first.0, first.1, first.2, held.1)

-- ---- either

pub either : (x y : Bool) → (x ≡ false → y ≡ true) → (x || y) ≡ true
either true y f = refl
either false y f = f refl

pub other_of : (x y : Bool) → x ≡ false → (x || y) ≡ true → y ≡ true
other_of x y e h = rw e at h

-- two tests that say the same
pub each_way : (x y : Bool) → (x ≡ true → y ≡ true) → (y ≡ true → x ≡ true) → x ≡ y
each_way true y there back = sym (there refl)
each_way false true there back = back refl
each_way false false there back = refl
