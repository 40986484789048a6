-- `split_stop_place::place_stop` meets its contract. Assumes nothing.
use Rattle.memory_layout.proofs.Laws.{listed_le}
use Rattle.split_stop_place.specs.Laws.{place-told}
use Rattle.split_stop_place.specs.PlaceRows.{point_told}
use Rattle.split_stop_edge.specs.Laws.{ends-given}
use Rattle.split_stop_parts.specs.Told.{first_told, row_told}
use Rattle.split_place.specs.Laws.{opened, cut-same}
use Rattle.split_fin_tests.specs.FinTests.{cut_at}
use Rattle.split_segment.specs.Segment.{segment_at}
use Rattle.memory_records.specs.Laws.{within}
use Rattle.memory_layout.specs.Laws.{lists_of, precision-there, used-inside, edge-fins}
use Rattle.memory_layout.proofs.Laws.{words-length}
use Rattle.memory_layout.specs.Decode.{decode}
use Rattle.memory_layout.specs.Layout.{real}
use Rattle.meaning_stops.specs.Splits.{row11, row11-fins}
use Rattle.meaning.specs.Model.{Model, edge}
use Rattle.meaning.specs.Lists.{the}
use lib.ListN.{length}
use lib.Dec.{lit<}
use Prim.Native.Nat.{ℕ}
use mathlib.Core.List.{List, []}
use mathlib.Core.Path.{◌≡◌, sym, ap, ap₂, ◌∙◌}
use native.Mathlib.Omega.{arith}
use Rattle.split_stop_place.proofs.place_stop.Goals as goal

pub words_of-w-requires : goal.words_of-w-requires
words_of-w-requires c = let s = c in record { small = s.requires.fit.sized.small; inside = (used-inside s.args.room.now s.args.words.now s.args.reals.now 6 s.args.edge s.requires.fit.sized (lit< tt) (opened s.args.room.now s.args.words.now s.args.reals.now s.args.edge s.args.fraction s.requires.fraction_value).there).0 }

pub bounds-w-1 : goal.bounds-w-1
bounds-w-1 c = let s = c in within 1 (ap length c.words_of-w.ensures ∙ words-length s.args.room.now s.args.words.now 6 s.args.edge (used-inside s.args.room.now s.args.words.now s.args.reals.now 6 s.args.edge s.requires.fit.sized (lit< tt) (opened s.args.room.now s.args.words.now s.args.reals.now s.args.edge s.args.fraction s.requires.fraction_value).there).0) (lit< tt)

pub bounds-w-3 : goal.bounds-w-3
bounds-w-3 c = let s = c in within 3 (ap length c.words_of-w.ensures ∙ words-length s.args.room.now s.args.words.now 6 s.args.edge (used-inside s.args.room.now s.args.words.now s.args.reals.now 6 s.args.edge s.requires.fit.sized (lit< tt) (opened s.args.room.now s.args.words.now s.args.reals.now s.args.edge s.args.fraction s.requires.fraction_value).there).0) (lit< tt)

pub segment_at-segment-requires : goal.segment_at-segment-requires
segment_at-segment-requires c = let s = c in record { fit = s.requires.fit; edge_value = (opened s.args.room.now s.args.words.now s.args.reals.now s.args.edge s.args.fraction s.requires.fraction_value).ends }

pub edge_tolerance-requires : goal.edge_tolerance-requires
edge_tolerance-requires c = let s = c in record { sized = s.requires.fit.sized; edge_bound = (opened s.args.room.now s.args.words.now s.args.reals.now s.args.edge s.args.fraction s.requires.fraction_value).there }

pub bounds-reals-0 : goal.bounds-reals-0
bounds-reals-0 c = let s = c in let n = precision-there s.args.room.now s.args.words.now s.args.reals.now s.requires.fit.sized in omega arith

pub list-fins-requires : goal.list-fins-requires
list-fins-requires c = let s = c in record { lists = lists_of s.args.room.now s.args.words.now s.args.reals.now s.requires.fit; j_bound = (lit< tt, (opened s.args.room.now s.args.words.now s.args.reals.now s.args.edge s.args.fraction s.requires.fraction_value).there) }

pub fins_stop-requires : goal.fins_stop-requires
fins_stop-requires c = let s = c in
    let o = opened s.args.room.now s.args.words.now s.args.reals.now s.args.edge s.args.fraction s.requires.fraction_value in
    rw c.list-fins.ensures record { fit = s.requires.fit; present = o.fins; fins_len_bound = listed_le s.args.room.now s.args.words.now 7 s.args.edge (lists_of s.args.room.now s.args.words.now s.args.reals.now s.requires.fit) (lit< tt) o.there }

pub returns : goal.returns
returns c = let s = c in
    let m : Model = decode s.args.room.now s.args.words.now s.args.reals.now in
    let g = ends-given s.args.room.now s.args.words.now s.args.reals.now s.args.edge (opened s.args.room.now s.args.words.now s.args.reals.now s.args.edge s.args.fraction s.requires.fraction_value).ends in
    let cut : c.cut_of-cut.result ≡ cut_at m s.args.edge s.args.fraction = rw (c.cut_of-cut.ensures, c.edge_tolerance.ensures, c.segment_at-segment.ensures) (cut-same s.args.room.now s.args.words.now s.args.reals.now s.args.edge s.args.fraction) in
    let point : c.point_stop-point.result ≡ point_told (segment_at m s.args.edge) (cut_at m s.args.edge s.args.fraction).at (real s.args.reals.now 0) s.args.edge (the (edge m s.args.edge).start) (the (edge m s.args.edge).end) = rw (c.point_stop-point.ensures, cut, c.segment_at-segment.ensures, c.words_of-w.ensures, g.0, g.1) in
    let fins : c.fins_stop.result ≡ row_told 11 (row11 m s.args.edge s.args.fraction) = c.fins_stop.ensures s.args.fraction cut ∙ ap (λ (l : List ℕ). row_told 11 (row11-fins m s.args.edge s.args.fraction [] l)) (c.list-fins.ensures ∙ edge-fins s.args.room.now s.args.words.now s.args.reals.now s.args.edge) in
    c.first.ensures ∙ ap₂ first_told point fins ∙ sym (place-told s.args.room.now s.args.words.now s.args.reals.now s.args.edge s.args.fraction)
