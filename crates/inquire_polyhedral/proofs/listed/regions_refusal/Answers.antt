-- `inquire_polyhedral::listed::regions_refusal` meets its contract: a turn of the loop is one region more. Assumes nothing.
use Rattle.std.proofs.Common.{get_or, sym, ap, ◌∙◌, arith}
use Rattle.meaning.specs.Refuse.{first_of}
use Rattle.meaning_list_laws.specs.Tests.{first_of-none}
use Rattle.memory_layout.specs.Laws.{lists_of}
use Rattle.walk_marks.specs.Laws.{all-nth, first-turn}
use Rattle.walk_sources.specs.Sources.{followed}
use Rattle.walk_sources.specs.Laws.{followed-slot, followed-entries}
use Rattle.inquire_polyhedral.specs.Tested.{shell_tested, region_tested}
use Rattle.inquire_polyhedral.proofs.listed.regions_refusal.Goals as goal

pub loop-region-init : goal.loop-region-init
loop-region-init c = sym (first_of-none _)

pub list-shells-requires : goal.list-shells-requires
list-shells-requires c =
    let s = c in
    let k = c.loop-region.region-index in
    record { lists = lists_of s.args.room.now s.args.words.now s.args.reals.now s.requires.fit; j_bound = (omega arith, followed-slot s.args.room.now s.args.words.now 1 (get_or s.args.regions.now k 0) (all-nth (followed s.args.room.now s.args.words.now 1) s.args.regions.now k s.requires.regions_value (omega arith))) }

pub shells_refusal-requires : goal.shells_refusal-requires
shells_refusal-requires c =
    let s = c in
    let k = c.loop-region.region-index in
    record { fit = s.requires.fit; shells_value = rw c.list-shells.ensures (followed-entries s.args.room.now s.args.words.now 1 (get_or s.args.regions.now k 0) (all-nth (followed s.args.room.now s.args.words.now 1) s.args.regions.now k s.requires.regions_value (omega arith))) }

pub loop-region-preserved : goal.loop-region-preserved
unfolding region_tested
loop-region-preserved c =
    let s = c in
    let k = c.loop-region.region-index in
    c.then-n.ensures ∙ first-turn (region_tested s.args.room.now s.args.words.now s.args.reals.now s.args.test) s.args.regions.now k _ _ (omega arith) c.loop-region.invariant (c.shells_refusal.ensures ∙ ap (first_of (shell_tested s.args.room.now s.args.words.now s.args.reals.now s.args.test)) c.list-shells.ensures)
