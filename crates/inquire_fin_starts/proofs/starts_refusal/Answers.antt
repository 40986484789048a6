-- `inquire_fin_starts::starts_refusal` meets its contract: a turn of the loop is one fin more. Assumes nothing.
use Rattle.std.proofs.Common.{get_or, sym, ◌∙◌, arith}
use Rattle.meaning_list_laws.specs.Tests.{first_of-none}
use Rattle.walk_marks.specs.Laws.{all-nth, first-turn}
use Rattle.inquire_fin_starts.specs.Starts.{fin_whole}
use Rattle.inquire_fin_starts.specs.Laws.{whole_of}
use Rattle.inquire_fin_starts.proofs.starts_refusal.Goals as goal

pub loop-fin-init : goal.loop-fin-init
loop-fin-init c = sym (first_of-none _)

pub start_refusal-requires : goal.start_refusal-requires
start_refusal-requires c =
    let s = c in
    let k = c.loop-fin.fin-index in
    record { lists = s.requires.lists; whole = whole_of s.args.room.now s.args.words.now (get_or s.args.fins.now k 0) (all-nth (fin_whole s.args.room.now s.args.words.now) s.args.fins.now k s.requires.fins_value (omega arith)) }

pub loop-fin-preserved : goal.loop-fin-preserved
loop-fin-preserved c = c.then-n.ensures ∙ first-turn _ c.args.fins.now c.loop-fin.fin-index _ _ (omega arith) c.loop-fin.invariant c.start_refusal.ensures
