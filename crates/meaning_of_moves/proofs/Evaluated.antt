-- What the statements ask is met: by the trial stone in lent memory, moved 5 mm along, 7 back and 1 up. Assumes nothing.
use Rattle.std.specs.Prelude.{ℕ, ◌≡◌, refl, List}
use Rattle.meaning.specs.Model.{largest, point_of}
use Rattle.meaning.specs.Stone.{stone}
use Rattle.meaning.specs.Computing.{computing}
use Rattle.meaning_sheets.specs.Counting.{counting}
use Rattle.meaning_shift.specs.Moving.{Movable, moved}
use Rattle.meaning_shift.specs.Evaluated.{way, stone-movable}
use Rattle.memory_layout.specs.Names.{FACES}
use Rattle.memory_layout.specs.Layout.{base, words_of, reals_of}
use Rattle.memory_layout.specs.Decode.{list_at, decode}
use Rattle.walk_answers.specs.Calls.{reach}
use Rattle.split_witness.specs.Stone.{stone_room, stone_words, stone_reals, stone-readable, stone-decodes}
use Rattle.meaning_of_moves.specs.Moves.{Lent, lent_model, SameTake, body_set}
use Rattle.meaning_of_moves.specs.Same.{same-movable}
use Rattle.meaning_of_moves.proofs.Adding.{adding-keeps-the-answer}

abbrev laid : Lent
laid = record { words = stone_words; reals = stone_reals }

stone-held : Movable largest (lent_model stone_room laid) 0 1
stone-held = same-movable largest (decode stone_room stone_words stone_reals) stone stone-decodes 0 1 stone-movable

stone-answered : (o : ℕ) (face_marks face_marks' : List ℕ) → reach stone_room FACES face_marks' ≡ reach stone_room FACES face_marks
    → SameTake stone_room laid (body_set stone_room laid 0 (λ v. moved way (point_of (lent_model stone_room laid) v))) o 0 face_marks face_marks'
unfolding computing counting decode list_at base words_of reals_of stone_room stone_words stone_reals
stone-answered = adding-keeps-the-answer largest stone_room laid 0 1 stone-held stone-readable way refl refl refl
