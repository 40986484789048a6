-- `split_tests::place_refusal` meets its contract. Assumes nothing.
use borrow.Author.Rules.{rules}
use native.Mathlib.Omega.{arith}
use Rattle.memory_layout.specs.Laws.{lists_of, precision-there}
use Rattle.split_place.specs.Laws.{opened, cut-same, place-rows}
use Rattle.split_tests.proofs.place_refusal.Goals as goal

pub segment_at-segment-requires : goal.segment_at-segment-requires
segment_at-segment-requires c = let s = c in record { fit = s.requires.fit; edge_value = (opened s.args.room.now s.args.words.now s.args.reals.now s.args.edge s.args.fraction s.requires.fraction_value).ends }

pub edge_tolerance-requires : goal.edge_tolerance-requires
edge_tolerance-requires c = let s = c in record { sized = s.requires.fit.sized; edge_bound = (opened s.args.room.now s.args.words.now s.args.reals.now s.args.edge s.args.fraction s.requires.fraction_value).there }

pub bounds-reals-0 : goal.bounds-reals-0
bounds-reals-0 c = let s = c in let n = precision-there s.args.room.now s.args.words.now s.args.reals.now s.requires.fit.sized in omega arith

pub list-fins-requires : goal.list-fins-requires
list-fins-requires c = let s = c in record { lists = lists_of s.args.room.now s.args.words.now s.args.reals.now s.requires.fit; j_bound = (omega arith, (opened s.args.room.now s.args.words.now s.args.reals.now s.args.edge s.args.fraction s.requires.fraction_value).there) }

pub fins_refusal-requires : goal.fins_refusal-requires
fins_refusal-requires c = let s = c in record { fit = s.requires.fit; present = rw c.list-fins.ensures (opened s.args.room.now s.args.words.now s.args.reals.now s.args.edge s.args.fraction s.requires.fraction_value).fins }

pub returns : goal.returns
returns c =
    let s = c in
    rw (← place-rows s.args.room.now s.args.words.now s.args.reals.now s.args.edge s.args.fraction, ← cut-same s.args.room.now s.args.words.now s.args.reals.now s.args.edge s.args.fraction, c.then.ensures, c.fins_refusal.ensures, c.list-fins.ensures, c.point_refusal-point.ensures, c.cut_of-cut.ensures, c.edge_tolerance.ensures, c.segment_at-segment.ensures)
