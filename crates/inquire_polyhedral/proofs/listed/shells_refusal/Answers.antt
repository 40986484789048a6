-- `inquire_polyhedral::listed::shells_refusal` meets its contract: a turn of the loop is one shell more. Assumes nothing.
use Rattle.std.proofs.Common.{get_or, sym, ap, ◌∙◌, arith}
use Rattle.meaning.specs.Refuse.{first_of}
use Rattle.meaning_list_laws.specs.Tests.{first_of-none}
use Rattle.meaning_list_laws.specs.Lists.{below-nth}
use Rattle.memory_layout.specs.Layout.{word}
use Rattle.memory_layout.specs.Laws.{lists_of}
use Rattle.memory_layout.specs.Entries.{list_of}
use Rattle.walk_marks.specs.Laws.{first-turn}
use Rattle.inquire_polyhedral.specs.Tested.{tested, shell_tested}
use Rattle.inquire_polyhedral.proofs.listed.shells_refusal.Goals as goal

pub loop-shell-init : goal.loop-shell-init
loop-shell-init c = sym (first_of-none _)

pub list-ids-requires : goal.list-ids-requires
list-ids-requires c =
    let s = c in
    let k = c.loop-shell.shell-index in
    let by = c.list_by-j.ensures in
    record { lists = lists_of s.args.room.now s.args.words.now s.args.reals.now s.requires.fit; j_bound = (by.1, rw by.2 (below-nth (word s.args.words.now 2) s.args.shells.now k s.requires.shells_value (omega arith))) }

pub loop-shell-preserved : goal.loop-shell-preserved
unfolding shell_tested
loop-shell-preserved c =
    let s = c in
    let k = c.loop-shell.shell-index in
    c.then-n.ensures ∙ first-turn (shell_tested s.args.room.now s.args.words.now s.args.reals.now s.args.test) s.args.shells.now k _ _ (omega arith) c.loop-shell.invariant (c.ids_refusal.ensures ∙ ap (first_of (tested s.args.room.now s.args.words.now s.args.reals.now s.args.test)) (c.list-ids.ensures ∙ ap (λ j. list_of s.args.room.now s.args.words.now j (get_or s.args.shells.now k 0)) c.list_by-j.ensures.0))
