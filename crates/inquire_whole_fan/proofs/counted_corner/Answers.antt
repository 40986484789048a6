-- `inquire_whole_fan::counted_corner` meets its contract. Assumes nothing.
use native.Mathlib.Omega.{arith}
use mathlib.Core.Path.{ap, ◌∙◌}
use mathlib.Core.List.{map}
use lib.ListN.{length-map}
use Rattle.meaning_sheets.specs.Sheets.{corner, grid_point}
use Rattle.memory_layout.specs.Decode.{decode}
use Rattle.inquire_fin_starts.specs.Starts.{start_point}
use Rattle.inquire_fan.specs.Fan.{turned}
use Rattle.inquire_fan.specs.Laws.{turned-length}
use Rattle.inquire_whole_fan.specs.Laws.{grid-turned, grid-at}
use Rattle.inquire_whole_fan.proofs.counted_corner.Goals as goal

pub counted-requires : goal.counted-requires
counted-requires c =
    let s = c in
    let at = start_point (decode s.args.room.now s.args.words.now s.args.reals.now) in
    let l = map at s.args.fins.now in
    let long = turned-length s.args.back l ∙ length-map s.args.fins.now at in
    let within = s.requires.k_in_bounds in
    ap grid_point c.corner.ensures ∙ grid-at (turned s.args.back l) s.args.k (grid-turned s.args.back l ∙ s.requires.fins_value) (omega arith)

pub returns : goal.returns
returns c = c.counted.ensures ∙ ap corner c.corner.ensures
