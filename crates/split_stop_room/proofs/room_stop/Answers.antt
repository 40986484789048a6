-- `split_stop_room::room_stop` meets its contract. Assumes nothing.
use Rattle.split_stop_room.specs.Laws.{room-told}
use Rattle.split_stop_room.specs.RoomRows.{tables_told, loop_part}
use Rattle.split_stop_parts.specs.Told.{first_told, row_told}
use Rattle.split_place.specs.Laws.{opened, owned}
use Rattle.memory_layout.specs.Laws.{lists_of}
use Rattle.memory_layout.proofs.Laws.{listed_le}
use lib.ListN.{length}
use lib.Dec.{lit<}
use mathlib.Core.List.{List, map}
use mathlib.Core.Path.{sym, ap, ap₂, ◌∙◌}
use Prim.Native.Nat.{ℕ}
use Rattle.split_stop_room.proofs.room_stop.Goals as goal

pub list-fins-requires : goal.list-fins-requires
list-fins-requires c = let s = c in record { lists = lists_of s.args.room.now s.args.words.now s.args.reals.now s.requires.fit; j_bound = (lit< tt, (opened s.args.room.now s.args.words.now s.args.reals.now s.args.edge s.args.fraction s.requires.fraction_value).there) }

pub shells_stop-wires-requires : goal.shells_stop-wires-requires
shells_stop-wires-requires c = let s = c in lists_of s.args.room.now s.args.words.now s.args.reals.now s.requires.fit

pub tables_stop-tables-requires : goal.tables_stop-tables-requires
tables_stop-tables-requires c = let s = c in
    let f = lists_of s.args.room.now s.args.words.now s.args.reals.now s.requires.fit in
    rw c.list-fins.ensures record { lists = f; n_bound = listed_le s.args.room.now s.args.words.now 7 s.args.edge f (lit< tt) (opened s.args.room.now s.args.words.now s.args.reals.now s.args.edge s.args.fraction s.requires.fraction_value).there }

pub loops_stop-loops-requires : goal.loops_stop-loops-requires
loops_stop-loops-requires c = let s = c in
    let f = lists_of s.args.room.now s.args.words.now s.args.reals.now s.requires.fit in
    let o = opened s.args.room.now s.args.words.now s.args.reals.now s.args.edge s.args.fraction s.requires.fraction_value in
    rw c.list-fins.ensures record { lists = f; owned = owned s.args.room.now s.args.words.now s.args.reals.now s.args.edge s.args.fraction o.fins s.requires.fraction_value_2; fins_len_bound = listed_le s.args.room.now s.args.words.now 7 s.args.edge f (lit< tt) o.there }

pub shells_stop-slots-requires : goal.shells_stop-slots-requires
shells_stop-slots-requires c = let s = c in lists_of s.args.room.now s.args.words.now s.args.reals.now s.requires.fit

pub returns : goal.returns
returns c = let s = c in
    let l = c.list-fins.ensures in
    c.first-3.ensures
    ∙ ap₂ first_told c.shells_stop-wires.ensures
    (c.first-2.ensures
    ∙ ap₂ first_told (c.tables_stop-tables.ensures ∙ ap (λ (z : List ℕ). tables_told s.args.room.now s.args.words.now s.args.edge (length z)) l)
    (c.first.ensures ∙ ap₂ first_told (c.loops_stop-loops.ensures ∙ ap (λ (z : List ℕ). row_told 13 (map (loop_part s.args.room.now s.args.words.now z) z)) l) c.shells_stop-slots.ensures))
    ∙ sym (room-told s.args.room.now s.args.words.now s.args.reals.now s.args.edge)
