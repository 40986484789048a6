-- `split_lists::beside::put_each` meets its contract. Assumes nothing.
use Rattle.std.proofs.Common.{arith}
use Rattle.split_lists.specs.Beside.{entries_for}
use Rattle.split_lists.specs.BesideLaws.{written_none, written-room, written-turn, written_all}
use Rattle.split_lists.proofs.beside.put_each.Goals as goal

pub loop-entry-init : goal.loop-entry-init
loop-entry-init c = written_none (entries_for c.args.olds.now c.args.owners.now c.args.senses.now c.args.owner c.args.first) c.args.l.now c.args.w.now c.args.q

pub put_for-p-requires : goal.put_for-p-requires
put_for-p-requires c =
    record { olds = c.requires.olds; i_in_bounds = written-room (entries_for c.args.olds.now c.args.owners.now c.args.senses.now c.args.owner c.args.first) c.args.l.now c.args.w.now c.args.q c.requires.l_in_bounds c.loop-entry.entry-index _ _ (omega arith) c.loop-entry.invariant }

pub loop-entry-preserved : goal.loop-entry-preserved
loop-entry-preserved c =
    written-turn (entries_for c.args.olds.now c.args.owners.now c.args.senses.now c.args.owner c.args.first) c.args.l.now c.args.w.now c.args.q c.requires.l_in_bounds c.loop-entry.entry-index c.loop-entry.w c.loop-entry.p (omega arith) c.loop-entry.invariant _ _ c.put_for-p.ensures.behind c.put_for-p.ensures.list

pub returns : goal.returns
returns c =
    let both = written_all (entries_for c.args.olds.now c.args.owners.now c.args.senses.now c.args.owner c.args.first) c.args.l.now c.args.w.now c.args.q c.requires.l_in_bounds c.loop-entry.entry-index _ _ (omega arith) c.loop-entry.invariant in
    record { behind = both.0; list = both.1 }
