-- The theorems of specs/Laws.antt that rest on region-shells. Assumes nothing.
use Rattle.std.specs.Prelude.{ℕ, ◌+◌, ◌<◌, ◌≡◌, length, get_or, take, Float}
use Rattle.std.proofs.Common.{◌∙◌}
use Rattle.std.proofs.Math.Path.{sym, ap}
use mathlib.Core.List.{List, ◌++◌}
use Rattle.meaning.specs.Lists.{joined}
use Rattle.meaning.specs.Inquire.{sides_of}
use Rattle.meaning_list_laws.specs.Lists.{joined_snoc}
use Rattle.memory_layout.specs.Decode.{decode}
use Rattle.walk_marks.specs.Laws.{take_more}
use Rattle.inquire_regions.specs.Regions.{region_sides, solid_shells}
use Rattle.inquire_regions.specs.Laws.{region-shells}

-- ---- one region more

module _ (room w : List ℕ) (x : List Float) where
  pub regions-turn : (regions shells : List ℕ) (k : ℕ) → k < length regions → shells ≡ solid_shells room w (get_or regions k 0)
      → joined (region_sides (decode room w x)) (take k regions) ++ joined (sides_of (decode room w x)) shells ≡ joined (region_sides (decode room w x)) (take (k + 1) regions)
  regions-turn regions shells k h e =
      ap (λ t. joined (region_sides (decode room w x)) (take k regions) ++ t) (ap (joined (sides_of (decode room w x))) e ∙ region-shells room w x (get_or regions k 0))
      ∙ sym (ap (joined (region_sides (decode room w x))) (take_more regions k 0 h) ∙ joined_snoc (region_sides (decode room w x)) (take k regions) (get_or regions k 0))
