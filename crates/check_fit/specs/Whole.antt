-- What fit to saw asks of a body beside its report, on the lent words. No reader of a public promise needs this file. Definitions only.
use Rattle.std.specs.Prelude.{ℕ, ◌+◌, ◌*◌, Bool, true, not, ◌&&◌, List, eqb, ltb, length}
use Rattle.std.proofs.Math.Option.{Option, none, some}
use Rattle.meaning.specs.Lists.{any, member}
use Rattle.memory_layout.specs.Names.{REGIONS, SHELLS, FACES, REGION_SHELLS, SHELL_FACES, AT_REGION_SOLID, AT_FACE_FRONT, AT_FACE_BACK}
use Rattle.memory_layout.specs.Layout.{word, words_of}
use Rattle.memory_layout.specs.Decode.{maybe_at, flag_at}
use Rattle.memory_layout.specs.Entries.{list_of}

module _ (room w : List ℕ) where
  -- the shell lists a face
  unfoldable pub faced_in : ℕ → Bool
  faced_in s = not (eqb (length (list_of room w SHELL_FACES s)) 0)

  -- the region is solid, and one of its shells lists a face
  unfoldable pub solid_in : ℕ → Bool
  solid_in r = flag_at (words_of room w REGIONS r) AT_REGION_SOLID && any faced_in (list_of room w REGION_SHELLS r)

  -- the shell s stands in a path, as a source of its faces, and lists the face f
  unfoldable pub own_in : List ℕ → ℕ → ℕ → Bool
  own_in path f s = ltb s (word w SHELLS) && (member (8 * s + SHELL_FACES) path && member f (list_of room w SHELL_FACES s))

  -- and so does the shell that the face names, if it names one
  unfoldable pub side_in : List ℕ → ℕ → Option ℕ → Bool
  side_in path f none = true
  side_in path f (some s) = own_in path f s

  unfoldable pub owns_in : List ℕ → ℕ → Bool
  owns_in path f = side_in path f (maybe_at (words_of room w FACES f) AT_FACE_FRONT) && side_in path f (maybe_at (words_of room w FACES f) AT_FACE_BACK)
