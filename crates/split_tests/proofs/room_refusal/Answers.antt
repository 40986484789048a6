-- `split_tests::room_refusal` meets its contract. Assumes nothing.
use borrow.Author.Rules.{rules}
use native.Mathlib.Omega.{arith}
use Rattle.memory_layout.specs.Laws.{lists_of}
use Rattle.split_place.specs.Laws.{opened, owned, room-rows}
use Rattle.split_tests.proofs.room_refusal.Goals as goal

pub shells_ok-once-requires : goal.shells_ok-once-requires
shells_ok-once-requires c = let s = c in lists_of s.args.room.now s.args.words.now s.args.reals.now s.requires.fit

pub list-fins-requires : goal.list-fins-requires
list-fins-requires c = let s = c in record { lists = lists_of s.args.room.now s.args.words.now s.args.reals.now s.requires.fit; j_bound = (omega arith, (opened s.args.room.now s.args.words.now s.args.reals.now s.args.edge s.args.fraction s.requires.fraction_value).there) }

pub capacity_fits-fit-requires : goal.capacity_fits-fit-requires
capacity_fits-fit-requires c = let s = c in record { lists = lists_of s.args.room.now s.args.words.now s.args.reals.now s.requires.fit; owned = rw c.list-fins.ensures (owned s.args.room.now s.args.words.now s.args.reals.now s.args.edge s.args.fraction (opened s.args.room.now s.args.words.now s.args.reals.now s.args.edge s.args.fraction s.requires.fraction_value).fins s.requires.fraction_value_2) }

pub returns : goal.returns
returns c =
    let s = c in
    rw (← room-rows s.args.room.now s.args.words.now s.args.reals.now s.args.edge s.args.fraction, c.then.ensures, c.unless-2.ensures, c.unless.ensures, c.capacity_fits-fit.ensures, c.list-fins.ensures, c.shells_ok-once.ensures)
