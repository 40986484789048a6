-- Which courses lent words hold (W-213). Definitions only.
-- The words begin with how many courses there are. Then come the courses, 17 words each: how many entries a course has, then room for 16 of them. An entry is one word: a body's id below 65,536,
-- or a course's id and 65,536 more.
use Rattle.std.specs.Prelude.{ℕ, ◌+◌, ◌-◌, ◌*◌, Bool, cond, ◌&&◌, List, [], ◌∷◌, map, leb, ltb, length}
use Rattle.meaning.specs.Lists.{all_below, all, every}
use Rattle.meaning_courses.specs.Courses.{Entry, of_body, of_course, Courses}
use Rattle.memory_layout.specs.Layout.{word}
use Rattle.memory_layout.specs.Decode.{list_at}

-- where course c stands: a list, its length and then its entries
abbrev pub course_at : ℕ → ℕ
course_at c = 1 + 17 * c

unfoldable pub entry_of : ℕ → Entry
entry_of e = cond (ltb e 65536) (of_body e) (of_course (e - 65536))

unfoldable pub courses_in : List ℕ → Courses
courses_in w = record { used = word w 0; slot = λ c. map entry_of (list_at w (course_at c)) }

-- "9 for an unreadable course table": 01, "a used count above capacity, a list above its limit, an unknown tag"

-- "A course has up to 16 entries, each a body or another course": a word from 131,072 on is neither
unfoldable pub course_ok : List ℕ → ℕ → Bool
course_ok w c = leb (word w (course_at c)) 16 && all (λ e. ltb e 131072) (list_at w (course_at c))

-- "A lent table holds up to 256 courses", and no more than there are words for
unfoldable pub courses_ok : List ℕ → Bool
courses_ok w = every (leb (word w 0) 256 ∷ leb (course_at (word w 0)) (length w) ∷ all_below (course_ok w) (word w 0) ∷ [])
