-- What each function does on its way, by places of the bytes b of the whole image. No reader of a public promise needs this file. Definitions only.
use Rattle.std.specs.Prelude.{ℕ, zero, suc, ◌+◌, ◌*◌, ◌≤◌, ◌≡◌, List, [], ◌∷◌, length, drop, Float}
use Rattle.memory_writes.specs.Put.{over}
use Rattle.image_format.specs.Bytes.{number, words_in}
use Rattle.image_format.specs.Image.{count_in}
use Rattle.image_loading.specs.Laid.{records_laid, floats_laid}

-- ---- lists

-- where the list ends that begins at a place
unfoldable pub behind_list : List ℕ → ℕ → ℕ
behind_list b at = at + 4 * suc (number 4 (drop at b))

-- it, with its count in front, laid over w from p on
unfoldable pub list_over : List ℕ → ℕ → ℕ → List ℕ → List ℕ
list_over b at p w = over p (words_in (suc (number 4 (drop at b))) (drop at b)) w

-- the bytes have all of it, and so many words have room for it
pub record ListLies (b : List ℕ) (at p long : ℕ) : Type 0 where
  pub whole : at + 4 * suc (number 4 (drop at b)) ≤ length b
  pub room : p + suc (number 4 (drop at b)) ≤ long

-- and several, one behind the other, for these places
unfoldable pub behind_lists : List ℕ → List ℕ → ℕ → ℕ
behind_lists [] b at = at
behind_lists (p ∷ places) b at = behind_lists places b (behind_list b at)

unfoldable pub lists_over : List ℕ → List ℕ → ℕ → List ℕ → List ℕ
lists_over [] b at w = w
lists_over (p ∷ places) b at w = lists_over places b (behind_list b at) (list_over b at p w)

abbrev pub ListsLie : List ℕ → List ℕ → ℕ → ℕ → Type 0
ListsLie [] b at long = at ≤ length b
ListsLie (p ∷ places) b at long = ListLies b at p long × ListsLie places b (behind_list b at) long

-- ---- tables

-- the bytes s are those from a place on
pub record Stands (s b : List ℕ) (at : ℕ) : Type 0 where
  pub inside : at ≤ length b
  pub rest : drop at b ≡ s

-- so far: where the reading is, and what the words w and the floats x have become, which were w₀ and x₀
pub record Reached (s b : List ℕ) (at : ℕ) (v w w₀ : List ℕ) (y x x₀ : List Float) : Type 0 where
  pub place : Stands s b at
  pub words : w ≡ v
  pub floats : x ≡ y
  pub words_long : length w ≡ length w₀
  pub floats-long : length x ≡ length x₀

-- the first k tables laid over the words, and over the floats
module _ (room b : List ℕ) where
  unfoldable pub tables_laid : ℕ → List ℕ → List ℕ
  tables_laid zero w = w
  tables_laid (suc k) w = records_laid room b k (count_in b k) (tables_laid k w)

  unfoldable pub table_floats_laid : ℕ → List Float → List Float
  table_floats_laid zero x = x
  table_floats_laid (suc k) x = floats_laid room b k (count_in b k) (table_floats_laid k x)
