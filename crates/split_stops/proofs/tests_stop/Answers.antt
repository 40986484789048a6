-- `split_stops::tests_stop` meets its contract. Assumes nothing.
use Rattle.split_stops.specs.Laws.{three-rows}
use Rattle.split_stop_room.specs.RoomRows.{room_rows}
use Rattle.split_stop_place.specs.Laws.{place-number}
use Rattle.split_stop_place.specs.PlaceRows.{place_rows}
use Rattle.split_stop_edge.specs.Laws.{edge-number}
use Rattle.split_stop_edge.specs.EdgeRows.{edge_rows}
use Rattle.split_stop_parts.specs.Laws.{stops-here, goes_on}
use Rattle.split_stop_parts.specs.Told.{told, first_told}
use Rattle.split_stop_parts.specs.declared.Stop.{Stop}
use Rattle.memory_layout.specs.Limits.{limits}
use Rattle.memory_layout.specs.Decode.{decode}
use Rattle.meaning_stops.specs.Stops.{first_stop}
use Rattle.meaning.specs.Model.{Model}
use mathlib.Core.Path.{sym, ap, ◌∙◌}
use borrow.Author.Rules.{rules}
use Rattle.split_stops.proofs.tests_stop.Goals as goal

pub returns-then-own-ne0 : goal.returns-then-own-ne0
returns-then-own-ne0 c = let s = c in
    let m : Model = decode s.args.room.now s.args.words.now s.args.reals.now in
    let z : Stop = first_told (told (first_stop (place_rows m s.args.edge s.args.fraction))) (told (first_stop (room_rows (limits s.args.room.now) m s.args.edge))) in
    stops-here c.edge_stop-own.result z c.if-own-ne0.true ∙ ap (λ (a : Stop). first_told a z) c.edge_stop-own.ensures ∙ sym (three-rows (limits s.args.room.now) m s.args.asked s.args.edge s.args.fraction)

pub place_stop-place-requires : goal.place_stop-place-requires
place_stop-place-requires c = let s = c in record { fit = s.requires; fraction_value = sym (edge-number s.args.room.now s.args.words.now s.args.reals.now s.args.edge s.args.asked s.args.fraction) ∙ sym (ap (λ (a : Stop). a.number) c.edge_stop-own.ensures) ∙ c.if-own-ne0.false }

pub returns-then-place-ne0 : goal.returns-then-place-ne0
returns-then-place-ne0 c = let s = c in
    let m : Model = decode s.args.room.now s.args.words.now s.args.reals.now in
    let y : Stop = told (first_stop (room_rows (limits s.args.room.now) m s.args.edge)) in
    let z : Stop = first_told (told (first_stop (place_rows m s.args.edge s.args.fraction))) y in
    stops-here c.place_stop-place.result y c.if-place-ne0.true
    ∙ ap (λ (a : Stop). first_told a y) c.place_stop-place.ensures
    ∙ goes_on (told (first_stop (edge_rows m s.args.asked s.args.edge s.args.fraction))) z (sym (ap (λ (a : Stop). a.number) c.edge_stop-own.ensures) ∙ c.if-own-ne0.false)
    ∙ sym (three-rows (limits s.args.room.now) m s.args.asked s.args.edge s.args.fraction)

pub room_stop-requires : goal.room_stop-requires
room_stop-requires c = let s = c in record { fit = s.requires; fraction_value = sym (edge-number s.args.room.now s.args.words.now s.args.reals.now s.args.edge s.args.asked s.args.fraction) ∙ sym (ap (λ (a : Stop). a.number) c.edge_stop-own.ensures) ∙ c.if-own-ne0.false; fraction_value_2 = sym (place-number s.args.room.now s.args.words.now s.args.reals.now s.args.edge s.args.fraction) ∙ sym (ap (λ (a : Stop). a.number) c.place_stop-place.ensures) ∙ c.if-place-ne0.false }

pub returns : goal.returns
returns c = let s = c in
    let m : Model = decode s.args.room.now s.args.words.now s.args.reals.now in
    let y : Stop = told (first_stop (room_rows (limits s.args.room.now) m s.args.edge)) in
    let z : Stop = first_told (told (first_stop (place_rows m s.args.edge s.args.fraction))) y in
    c.room_stop.ensures
    ∙ goes_on (told (first_stop (place_rows m s.args.edge s.args.fraction))) y (sym (ap (λ (a : Stop). a.number) c.place_stop-place.ensures) ∙ c.if-place-ne0.false)
    ∙ goes_on (told (first_stop (edge_rows m s.args.asked s.args.edge s.args.fraction))) z (sym (ap (λ (a : Stop). a.number) c.edge_stop-own.ensures) ∙ c.if-own-ne0.false)
    ∙ sym (three-rows (limits s.args.room.now) m s.args.asked s.args.edge s.args.fraction)
