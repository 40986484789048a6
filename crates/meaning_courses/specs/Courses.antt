-- Courses within courses (W-213, whose words are quoted). Definitions only.
use Rattle.std.specs.Prelude.{ℕ, zero, suc, Bool, true, false, not, cond, ◌||◌, List, [], ◌∷◌, ◌++◌, ℤ, pos, ◌+ℤ◌, length}
use Rattle.geom_lines_planes.specs.Refuse.{◌then◌}
use Rattle.meaning.specs.Model.{Model, Table, has}
use Rattle.meaning.specs.Offices.{office_refusal, body_for}
use Rattle.meaning.specs.Refuse.{◌if◌, first_of}
use Rattle.meaning_sheets.specs.Sheets.{six_volume, stone_refusal}

-- "A course has up to 16 entries, each a body or another course"
pub data Entry : Type 0 where
  of_body : ℕ → Entry
  of_course : ℕ → Entry

-- "A lent table holds up to 256 courses": a course is the list of its entries, its id the slot's number
abbrev pub Courses : Type 0
Courses = Table (List Entry)

-- the entries of a course; of one that is not there, none
abbrev pub entries_of : Courses → ℕ → List Entry
entries_of t c = cond (has t c) (t.slot c) []

-- ---- the stones of a course

-- the bodies of the entries in their order, each course among them with its own
unfoldable pub bodies_in : (ℕ → List ℕ) → List Entry → List ℕ
bodies_in within [] = []
bodies_in within (of_body b ∷ l) = b ∷ bodies_in within l
bodies_in within (of_course d ∷ l) = within d ++ bodies_in within l

-- the stones of a course that has n levels, itself being the first: "a course used twice counts twice"; "an empty course has no stones"
unfoldable pub stones_of : Courses → ℕ → ℕ → List ℕ
stones_of t zero c = []
stones_of t (suc n) c = bodies_in (λ d. stones_of t n d) (entries_of t c)

-- ---- what is refused

-- one of the entries is a body, or a course, of which a test holds
unfoldable pub some_entry : (ℕ → Bool) → (ℕ → Bool) → List Entry → Bool
some_entry a_body a_course [] = false
some_entry a_body a_course (of_body b ∷ l) = a_body b || some_entry a_body a_course l
some_entry a_body a_course (of_course d ∷ l) = a_course d || some_entry a_body a_course l

-- a body that is there for the office (W-206: "a body of the other office is answered as if it did not exist")
abbrev pub there : Model → ℕ → ℕ → Bool
there m o b = has m.bodies (body_for m o b)

-- "a course or body missing within the four levels": a course beyond them is not looked for
unfoldable pub missing : Model → ℕ → Courses → ℕ → ℕ → Bool
missing m o t zero c = false
missing m o t (suc n) c = not (has t c) || some_entry (λ b. not (there m o b)) (λ d. missing m o t n d) (entries_of t c)

-- "a course on the fourth level, the one asked for being first, lists a course, there or not": a course is met where no level is left
unfoldable pub too_deep : Courses → ℕ → ℕ → Bool
too_deep t zero c = true
too_deep t (suc n) c = some_entry (λ b. false) (λ d. too_deep t n d) (entries_of t c)

-- "nesting stops at four levels"
abbrev pub LEVELS : ℕ
LEVELS = 4

-- "then W-201's own refusals, the first stone in order deciding"
abbrev pub stones_refusal : Model → ℕ → List ℕ → ℕ
stones_refusal m o l = first_of (λ b. stone_refusal m (body_for m o b)) l

-- "2 for a course or body missing within the four levels, then 1 where a course on the fourth level .. lists a course, .. then W-201's own refusals"; the office that asks is tested behind 9 (W-206)
unfoldable pub course_refusal : Model → ℕ → Courses → ℕ → ℕ
course_refusal m o t c =
    office_refusal o
    then 2 if missing m o t LEVELS c
    then 1 if too_deep t LEVELS c
    then stones_refusal m o (stones_of t LEVELS c)

-- ---- "the number of stones and W-201's exact total for a course"

unfoldable pub total_of : Model → ℕ → List ℕ → ℤ
total_of m o [] = pos 0
total_of m o (b ∷ l) = six_volume m (body_for m o b) +ℤ total_of m o l

abbrev pub course_stones : Courses → ℕ → ℕ
course_stones t c = length (stones_of t LEVELS c)

abbrev pub course_total : Model → ℕ → Courses → ℕ → ℤ
course_total m o t c = total_of m o (stones_of t LEVELS c)
