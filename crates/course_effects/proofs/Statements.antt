-- The theorems of specs/Statements.antt that rest on relaid. Assumes nothing.
use Rattle.std.specs.Prelude.{ℕ, true, ◌≡◌, set}
use Rattle.std.proofs.Common.{arith, length-append, length-set}
use mathlib.Core.List.{List, [], ◌∷◌}
use Rattle.meaning.specs.Edits.{appended}
use Rattle.memory_layout.specs.Decode.{list_at}
use Rattle.edit_lists.specs.Place.{struck}
use Rattle.course_table.specs.Table.{course_at}
use Rattle.course_edits.specs.Answers.{entry_good, entry_word, append_number, appended_words, put_number, put_words, strike_number, struck_words}
use Rattle.course_edits.specs.Laws.{is_open, place-open, place-there, room_open, room-there}
use Rattle.course_effects.specs.Statements.{Relaid, entries-length, relaid, struck-few}

-- an entry more at the end
pub entry-appended : (w : List ℕ) (c tag id : ℕ) → append_number w c tag id ≡ 0 → Relaid w (appended_words w c tag id) c (appended (list_at w (course_at c)) (entry_word tag id))
unfolding appended_words
entry-appended w c tag id z =
    let o = is_open w (entry_good tag id) c (room_open w (entry_good tag id) c z) in
    let room = room-there w (entry_good tag id) c z in
    let e = entries-length w c o in
    let n = length-append (list_at w (course_at c)) (entry_word tag id ∷ []) in
    rw z (relaid w c o (appended (list_at w (course_at c)) (entry_word tag id)) (omega arith))

-- another entry at a place
pub entry-put : (w : List ℕ) (c p tag id : ℕ) → put_number w c p tag id ≡ 0 → Relaid w (put_words w c p tag id) c (set (list_at w (course_at c)) p (entry_word tag id))
unfolding put_words
entry-put w c p tag id z =
    let o = is_open w (entry_good tag id) c (place-open w (entry_good tag id) c p z) in
    let e = entries-length w c o in
    let s = o.short in
    let n = length-set (list_at w (course_at c)) p (entry_word tag id) in
    rw z (relaid w c o (set (list_at w (course_at c)) p (entry_word tag id)) (omega arith))

-- without the entry at a place
pub entry-struck : (w : List ℕ) (c p : ℕ) → strike_number w c p ≡ 0 → Relaid w (struck_words w c p) c (struck (list_at w (course_at c)) p)
unfolding struck_words
entry-struck w c p z =
    let o = is_open w true c (place-open w true c p z) in
    let e = entries-length w c o in
    let s = o.short in
    let there = place-there w true c p z in
    let n = struck-few (list_at w (course_at c)) p (omega arith) in
    rw z (relaid w c o (struck (list_at w (course_at c)) p) (omega arith))
