-- `split_stop_room::shells_stop` meets its contract. Assumes nothing.
use Rattle.std.specs.Prelude.{ℕ, Bool}
use Rattle.std.proofs.Common.{ap, ◌∙◌, arith}
use Rattle.geom_lines_planes.specs.Refuse.{◌unless◌}
use Rattle.meaning.specs.Lists.{run}
use Rattle.split_fins.specs.Laws.{counts-listed}
use Rattle.split_stop_parts.specs.Told.{tell_at}
use Rattle.split_stop_parts.specs.Laws.{nothing-told, run_more}
use Rattle.split_stop_room.specs.RoomRows.{shell_part}
use Rattle.split_stop_room.proofs.shells_stop.Goals as goal

pub bounds-words-2 : goal.bounds-words-2
bounds-words-2 c = let n = counts-listed c.args.room.now c.args.words.now c.requires in omega arith

pub loop-s-init : goal.loop-s-init
unfolding run
loop-s-init c = c.stop_at-stop.ensures ∙ nothing-told c.args.row

pub loop-s-preserved : goal.loop-s-preserved
unfolding shell_part
loop-s-preserved c =
    c.first-stop.ensures
    ∙ run_more c.args.row (shell_part c.args.room.now c.args.words.now c.args.edge c.args.more c.args.place c.args.refusal) c.loop-s.s _ _ c.loop-s.invariant
    (c.stop_at.ensures ∙ ap (λ (n : ℕ). tell_at c.args.row c.args.place n 2 c.loop-s.s 10 0) (c.unless-number.ensures ∙ ap (λ (b : Bool). c.args.refusal unless b) c.wires_ok.ensures))
