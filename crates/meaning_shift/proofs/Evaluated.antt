-- The theorems of specs/Evaluated.antt that rest on those of specs/ that the edits of must-fail/ make fail. Assumes nothing.
use Rattle.std.specs.Prelude.{◌≡◌, refl, List, pos}
use Rattle.meaning.specs.Model.{largest, point_of}
use Rattle.meaning.specs.Split.{Cut, after_all}
use Rattle.meaning.specs.Stone.{stone}
use Rattle.meaning.specs.Computing.{computing}
use Rattle.meaning_sheets.specs.Sheets.{six_volume}
use Rattle.meaning_sheets.specs.Counting.{counting}
use Rattle.meaning_shift.specs.Moving.{Movable, placed, moved}
use Rattle.meaning_shift.proofs.Statements.{adding-keeps-the-volume, splits-keep-it-movable}
use Rattle.meaning_shift.specs.Evaluated.{stone-movable, way}

-- "The trial stone gives 589,824", there too
stone-moved : six_volume (placed stone 0 (λ v. moved way (point_of stone v))) 0 ≡ pos 589824
unfolding computing counting placed
stone-moved = adding-keeps-the-volume largest stone 0 1 stone-movable way refl refl refl

-- "stays met by a split", whatever edges are split and where
stone-split-movable : (l : List Cut) → Movable largest (after_all largest stone l) 0 1
stone-split-movable = splits-keep-it-movable largest stone 0 1 stone-movable
