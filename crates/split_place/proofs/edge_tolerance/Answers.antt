-- `split_place::edge_tolerance` meets its contract. Assumes nothing.
use borrow.Author.Rules.{rules}
use native.Mathlib.Omega.{arith}
use mathlib.Core.Path.{◌≡◌, ap, ◌∙◌}
use lib.ListN.{length}
use Rattle.memory_layout.specs.Decode.{decode}
use Rattle.memory_records.specs.Laws.{counts-there}
use Rattle.memory_layout.specs.Laws.{used-inside, precision-there}
use Rattle.memory_layout.proofs.Laws.{words-length, reals-length}
use Rattle.split_place.specs.Place.{tolerance_at}
use Rattle.split_place.proofs.edge_tolerance.Goals as goal

pub words_of-w-requires : goal.words_of-w-requires
words_of-w-requires c =
    let s = c in
    record { small = s.requires.sized.small; inside = (used-inside s.args.room.now s.args.words.now s.args.reals.now 6 s.args.edge s.requires.sized (search rules) s.requires.edge_bound).0 }

pub reals_of-x-requires : goal.reals_of-x-requires
reals_of-x-requires c =
    let s = c in
    record { small = s.requires.sized.small; inside = (used-inside s.args.room.now s.args.words.now s.args.reals.now 6 s.args.edge s.requires.sized (search rules) s.requires.edge_bound).1 }

pub bounds-w-6 : goal.bounds-w-6
bounds-w-6 c =
    let s = c in
    let l : length c.words_of-w.result.now ≡ 16 = ap length c.words_of-w.ensures ∙ words-length s.args.room.now s.args.words.now 6 s.args.edge (used-inside s.args.room.now s.args.words.now s.args.reals.now 6 s.args.edge s.requires.sized (search rules) s.requires.edge_bound).0 in
    omega arith

pub bounds-x-0 : goal.bounds-x-0
bounds-x-0 c =
    let s = c in
    let l : length c.reals_of-x.result.now ≡ 1 = ap length c.reals_of-x.ensures ∙ reals-length s.args.room.now s.args.reals.now 6 s.args.edge (used-inside s.args.room.now s.args.words.now s.args.reals.now 6 s.args.edge s.requires.sized (search rules) s.requires.edge_bound).1 in
    omega arith

pub in_effect-requires : goal.in_effect-requires
in_effect-requires c =
    let s = c in
    (counts-there s.args.room.now s.args.words.now s.args.reals.now s.requires.sized, precision-there s.args.room.now s.args.words.now s.args.reals.now s.requires.sized)

pub returns : goal.returns
unfolding tolerance_at decode
returns c = rw (c.in_effect.ensures, c.tolerance_of.ensures, c.reals_of-x.ensures, c.words_of-w.ensures)
