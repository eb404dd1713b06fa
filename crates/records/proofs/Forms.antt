-- There is one form.
-- Assumes nothing.
use mathlib.Core.Path.{◌≡◌, refl}
use Rattle.records.specs.declared.form.Form.{Form}
use Rattle.records.specs.declared.form.Form.TheVariants.{Narrow}
use Rattle.records.specs.Layout.{narrow, layout_of}

pub is_narrow : (form : Form) → layout_of form ≡ narrow
is_narrow Narrow = refl
