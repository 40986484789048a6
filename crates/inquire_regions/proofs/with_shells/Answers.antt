-- `inquire_regions::with_shells` meets its contract: a turn of the loop is one shell more. Assumes nothing.
use Rattle.std.specs.Prelude.{◌++◌}
use Rattle.std.proofs.Common.{take, ap, ◌∙◌, arith}
use Rattle.meaning.specs.Lists.{joined}
use Rattle.meaning.specs.Inquire.{sides_of}
use Rattle.meaning_list_laws.specs.Lists.{below-nth}
use Rattle.walk_marks.specs.Laws.{all-nth}
use Rattle.memory_layout.specs.Layout.{word}
use Rattle.memory_layout.specs.Decode.{decode}
use Rattle.inquire_regions.specs.Regions.{tally_of, faces_whole}
use Rattle.inquire_regions.specs.Laws.{faces-none, shells-turn}
use Rattle.inquire_regions.proofs.with_shells.Goals as goal

pub loop-shell-init : goal.loop-shell-init
unfolding joined
loop-shell-init c = λ l e. faces-none (decode c.args.room.now c.args.words.now c.args.reals.now) l c.args.whole _ e

pub with_shell-t-requires : goal.with_shell-t-requires
with_shell-t-requires c =
    let s = c in
    let k = c.loop-shell.shell-index in
    record { fit = s.requires.fit; shell_bound = below-nth (word s.args.words.now 2) s.args.shells.now k s.requires.shells_value (omega arith); shell_value = all-nth (faces_whole s.args.room.now s.args.words.now) s.args.shells.now k s.requires.shells_value_2 (omega arith) }

pub loop-shell-preserved : goal.loop-shell-preserved
loop-shell-preserved c =
    let s = c in
    let k = c.loop-shell.shell-index in
    λ l e. c.with_shell-t.ensures (l ++ joined (sides_of (decode s.args.room.now s.args.words.now s.args.reals.now)) (take k s.args.shells.now)) (c.loop-shell.invariant l e) ∙ ap (tally_of s.args.whole (decode s.args.room.now s.args.words.now s.args.reals.now)) (shells-turn (decode s.args.room.now s.args.words.now s.args.reals.now) l s.args.shells.now k (omega arith))
