-- `mend_tests::count_listed` meets its contract. Assumes nothing.
use Rattle.std.proofs.Common.{◌≡◌, arith, sym, ap, ◌∙◌}
use Rattle.meaning.specs.Lists.{run, joined}
use Rattle.memory_layout.specs.Layout.{word}
use Rattle.memory_layout.specs.Entries.{list_of}
use Rattle.memory_layout.specs.Laws.{version-there}
use Rattle.mend_tests.specs.Status.{followed, tallied, listed}
use Rattle.mend_tests.specs.Laws.{followed-list, followed-table, tallied-none, tallied-more, joined-start}
use Rattle.mend_tests.proofs.count_listed.Goals as goal

pub followed-j-requires : goal.followed-j-requires
followed-j-requires c = c.requires.k_bound

pub bounds-words-k : goal.bounds-words-k
bounds-words-k c = let s = c in let n = version-there s.args.room.now s.args.words.now s.requires.lists.words in omega arith

pub overflow_cast-used : goal.overflow_cast-used
overflow_cast-used c = omega (arith, c.type_inv.words c.args.k)

pub loop-p-init : goal.loop-p-init
loop-p-init c = sym (ap (tallied _) (joined-start _) ∙ tallied-none _)

pub list-requires : goal.list-requires
list-requires c =
    let s = c in
    let e = c.followed-j.ensures in
    let j = followed-list s.args.k s.requires.k_bound in
    let t = ap (word s.args.words.now) (followed-table s.args.k s.requires.k_bound) in
    record { lists = s.requires.lists; j_bound = rw e (j, omega arith) }

pub loop-p-preserved : goal.loop-p-preserved
loop-p-preserved c =
    let s = c in
    let l = c.loop-p in
    c.count_list.ensures ∙ ap (tallied l.counts) (c.list.ensures ∙ ap (λ j. list_of s.args.room.now s.args.words.now j l.p) c.followed-j.ensures)
    ∙ tallied-more s.args.counts.now (list_of s.args.room.now s.args.words.now (word followed s.args.k)) l.p _ l.invariant

pub returns : goal.returns
unfolding listed
returns c =
    let s = c in
    let done : c.loop-p.p ≡ word s.args.words.now s.args.k = omega arith in
    c.loop-p.invariant ∙ ap (λ n. tallied s.args.counts.now (joined (list_of s.args.room.now s.args.words.now (word followed s.args.k)) (run 0 n))) done
