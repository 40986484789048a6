-- The trial stone laid out in words and floats, with room for one more split: it is readable, and decodes to the trial stone, by evaluation. Assumes nothing.
use Rattle.std.specs.Prelude.{ℕ, ◌+◌, ◌≡◌, refl, true, List, ◌++◌, drop, Float}
use Rattle.meaning.specs.Computing.{computing}
use Rattle.meaning.specs.Model.{Model, Table}
use Rattle.meaning.specs.Stone.{stone}
use Rattle.memory_layout.specs.Layout.{base, words_of, reals_of}
use Rattle.memory_layout.specs.Decode.{list_at, decode}
use Rattle.memory_layout.specs.Readable.{record_ok, room_ok, counts_ok, table_ok, tables_ok, lent_ok, sized_ok, readable}
use Rattle.memory_layout.specs.Laid.{rooms, words, reals}
use Rattle.memory_writes.specs.Change.{SameModel}
use Rattle.split_witness.specs.Alike.{same-table}

-- ---- the stone, and behind its records those that a split may overwrite

abbrev more : {A : Type 0} → ℕ → Table A → Table A
more n t = record { used = t.used + n; slot = t.slot }

abbrev spacious : Model
spacious =
    record {
      version = stone.version;
      precision = stone.precision;
      bodies = stone.bodies;
      regions = stone.regions;
      shells = stone.shells;
      faces = stone.faces;
      loops = stone.loops;
      fins = more 2 stone.fins;
      edges = more 1 stone.edges;
      vertices = more 1 stone.vertices;
      curves = stone.curves;
      surfaces = stone.surfaces;
    }

-- the memory has room for all of them, and counts the stone's
unfoldable pub stone_room : List ℕ
stone_room = rooms spacious

unfoldable pub stone_words : List ℕ
stone_words = rooms stone ++ drop 10 (words spacious)

unfoldable pub stone_reals : List Float
stone_reals = reals spacious

pub stone-readable : readable stone_room stone_words stone_reals ≡ true
unfolding computing readable sized_ok lent_ok room_ok counts_ok tables_ok table_ok record_ok base words_of reals_of stone_room stone_words stone_reals
stone-readable = refl

pub stone-decodes : SameModel (decode stone_room stone_words stone_reals) stone
unfolding computing decode list_at base words_of reals_of stone_room stone_words stone_reals
stone-decodes =
    record {
      version = refl;
      precision = refl;
      bodies = same-table _ _ refl refl;
      regions = same-table _ _ refl refl;
      shells = same-table _ _ refl refl;
      faces = same-table _ _ refl refl;
      loops = same-table _ _ refl refl;
      fins = same-table _ _ refl refl;
      edges = same-table _ _ refl refl;
      vertices = same-table _ _ refl refl;
      curves = same-table _ _ refl refl;
      surfaces = same-table _ _ refl refl;
    }
