-- `split_stop_edge::bounds_stop` meets its contract. Assumes nothing.
use Rattle.split_stop_edge.specs.Laws.{bounds-told, ends-pass, ends-given}
use Rattle.split_stop_edge.specs.EdgeRows.{carried_told, span_told}
use Rattle.split_stop_parts.specs.Laws.{stops-here, goes_on}
use Rattle.split_stop_parts.specs.Told.{first_told}
use Rattle.split_stop_parts.specs.declared.Stop.{Stop}
use Rattle.split_segment.specs.Segment.{segment_at}
use Rattle.memory_records.specs.Laws.{within}
use Rattle.memory_layout.specs.Laws.{used-inside}
use Rattle.memory_layout.proofs.Laws.{words-length}
use Rattle.memory_layout.specs.Decode.{decode}
use Rattle.memory_layout.specs.Layout.{words_of}
use Rattle.meaning.specs.Model.{Model, edge}
use Rattle.meaning.specs.Lists.{the}
use Prim.Native.Nat.{ℕ}
use mathlib.Core.List.{List}
use lib.ListN.{length}
use lib.Dec.{lit<}
use mathlib.Core.Path.{◌≡◌, sym, ap, ◌∙◌}
use Rattle.split_stop_edge.proofs.bounds_stop.Goals as goal

pub words_of-w-requires : goal.words_of-w-requires
words_of-w-requires c = let s = c in record { small = s.requires.fit.sized.small; inside = (used-inside s.args.room.now s.args.words.now s.args.reals.now 6 s.args.edge s.requires.fit.sized (lit< tt) s.requires.edge_bound).0 }

pub carrier_stop-carried-requires : goal.carrier_stop-carried-requires
carrier_stop-carried-requires c = let s = c in record { sized = s.requires.fit.sized; w_len = ap length c.words_of-w.ensures ∙ words-length s.args.room.now s.args.words.now 6 s.args.edge (used-inside s.args.room.now s.args.words.now s.args.reals.now 6 s.args.edge s.requires.fit.sized (lit< tt) s.requires.edge_bound).0 }

pub returns-then-carried-ne0 : goal.returns-then-carried-ne0
returns-then-carried-ne0 c = let s = c in
    let m : Model = decode s.args.room.now s.args.words.now s.args.reals.now in
    let q : c.carrier_stop-carried.result ≡ carried_told m s.args.words.now (words_of s.args.room.now s.args.words.now 6 s.args.edge) s.args.edge = c.carrier_stop-carried.ensures ∙ ap (λ (z : List ℕ). carried_told m s.args.words.now z s.args.edge) c.words_of-w.ensures in
    let z : Stop = span_told (segment_at m s.args.edge) s.args.edge (the (edge m s.args.edge).start) (the (edge m s.args.edge).end) in
    stops-here c.carrier_stop-carried.result z c.if-carried-ne0.true ∙ ap (λ (a : Stop). first_told a z) q ∙ sym (bounds-told s.args.room.now s.args.words.now s.args.reals.now s.args.edge)

pub segment_at-requires : goal.segment_at-requires
segment_at-requires c = let s = c in
    let m : Model = decode s.args.room.now s.args.words.now s.args.reals.now in
    let q : c.carrier_stop-carried.result ≡ carried_told m s.args.words.now (words_of s.args.room.now s.args.words.now 6 s.args.edge) s.args.edge = c.carrier_stop-carried.ensures ∙ ap (λ (z : List ℕ). carried_told m s.args.words.now z s.args.edge) c.words_of-w.ensures in
    record { fit = s.requires.fit; edge_value = ends-pass s.args.room.now s.args.words.now s.args.reals.now s.args.edge s.requires.edge_bound (sym (ap (λ (a : Stop). a.number) q) ∙ c.if-carried-ne0.false) }

pub bounds-w-1 : goal.bounds-w-1
bounds-w-1 c = let s = c in within 1 (ap length c.words_of-w.ensures ∙ words-length s.args.room.now s.args.words.now 6 s.args.edge (used-inside s.args.room.now s.args.words.now s.args.reals.now 6 s.args.edge s.requires.fit.sized (lit< tt) s.requires.edge_bound).0) (lit< tt)

pub bounds-w-3 : goal.bounds-w-3
bounds-w-3 c = let s = c in within 3 (ap length c.words_of-w.ensures ∙ words-length s.args.room.now s.args.words.now 6 s.args.edge (used-inside s.args.room.now s.args.words.now s.args.reals.now 6 s.args.edge s.requires.fit.sized (lit< tt) s.requires.edge_bound).0) (lit< tt)

pub returns : goal.returns
returns c = let s = c in
    let m : Model = decode s.args.room.now s.args.words.now s.args.reals.now in
    let q : c.carrier_stop-carried.result ≡ carried_told m s.args.words.now (words_of s.args.room.now s.args.words.now 6 s.args.edge) s.args.edge = c.carrier_stop-carried.ensures ∙ ap (λ (z : List ℕ). carried_told m s.args.words.now z s.args.edge) c.words_of-w.ensures in
    let n = sym (ap (λ (a : Stop). a.number) q) ∙ c.if-carried-ne0.false in
    let g = ends-given s.args.room.now s.args.words.now s.args.reals.now s.args.edge (ends-pass s.args.room.now s.args.words.now s.args.reals.now s.args.edge s.requires.edge_bound n) in
    let z : Stop = span_told (segment_at m s.args.edge) s.args.edge (the (edge m s.args.edge).start) (the (edge m s.args.edge).end) in
    let same : c.span_stop.result ≡ z = rw (c.span_stop.ensures, c.segment_at.ensures, c.words_of-w.ensures, g.0, g.1) in
    same ∙ goes_on (carried_told m s.args.words.now (words_of s.args.room.now s.args.words.now 6 s.args.edge) s.args.edge) z n ∙ sym (bounds-told s.args.room.now s.args.words.now s.args.reals.now s.args.edge)
