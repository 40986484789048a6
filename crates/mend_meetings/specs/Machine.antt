-- What a walk of a body leaves behind, meeting by meeting: the words of the changes so far in a list, a mark for each record that was met, how many fins each edge got, and the number of changes. No reader of a
-- public promise needs this file: `walk-told` (mend_exact) says that these are the changes of `meaning_mends`. Definitions only.
use Rattle.std.specs.Prelude.{ℕ, ◌+◌, ◌*◌, ◌/◌, ◌≡◌, Bool, cond, List, [], ◌∷◌, eqb, leb, ltb, length, set}
use Rattle.std.proofs.lemmas.List.Edits.{sets}
use Rattle.meaning.specs.Lists.{member}
use Rattle.meaning.specs.Model.{Model, fin, edge}
use Rattle.memory_layout.specs.Names.{EDGES}
use Rattle.memory_layout.specs.Layout.{word}
use Rattle.meaning_mends.specs.Mends.{Child, a_region, a_shell, a_loop, a_fin, named, child_table, Meeting, renamed, enlisted}
use Rattle.meaning_mends.specs.Words.{change_words}

-- more changes than a list can have: an edge has no slot
abbrev pub FULL : ℕ
FULL = 4611686018427387904

-- where the marks of a table begin: of the regions, the shells, the loops, the fins, the edges, as many as the largest tables have
abbrev pub mark_places : List ℕ
mark_places = 0 ∷ 0 ∷ 128 ∷ 0 ∷ 256 ∷ 768 ∷ 4864 ∷ []

abbrev pub mark_at : ℕ → ℕ → ℕ
mark_at k i = word mark_places k + i

-- how many marks there are
abbrev pub MARKS : ℕ
MARKS = 6912

pub record State : Type 0 where
  pub list : List ℕ
  pub marks : List ℕ
  pub count : ℕ

abbrev pub held : List ℕ → List ℕ → ℕ → State
held d s n = record { list = d; marks = s; count = n }

-- six words put in as entry k, if the list has that entry
unfoldable pub entry_put : List ℕ → ℕ → List ℕ → List ℕ
entry_put d k ws = cond (ltb k (length d / 6)) (sets d (6 * k) ws) d

-- one change more, in its words; behind FULL there is none
unfoldable pub logged : List ℕ → State → State
logged ws s = cond (leb FULL s.count) s (held (entry_put s.list s.count ws) s.marks (s.count + 1))

abbrev pub marked : ℕ → ℕ → ℕ → State → State
marked k i v s = held s.list (set s.marks (mark_at k i) v) s.count

-- a parent that is another
unfoldable pub rename_step : Model → Child → ℕ → ℕ → State → State
rename_step m c p i s = cond (eqb (named m c i) p) s (logged (change_words (renamed c i (named m c i) p)) s)

-- a fin that its edge does not list; the mark of an edge is how many fins it got
abbrev pub enlist_at : Model → ℕ → State → ℕ → ℕ → State
enlist_at m i s e n =
    cond (member i (edge m e).fins) s
    (cond (leb 8 (length (edge m e).fins + n)) (held s.list s.marks FULL)
    (logged (change_words (enlisted e (length (edge m e).fins + n) i)) (marked EDGES e (n + 1) s)))

unfoldable pub enlist_step : Model → ℕ → State → State
enlist_step m i s = enlist_at m i s (fin m i).edge (word s.marks (mark_at EDGES (fin m i).edge))

abbrev pub list_step : Model → Child → ℕ → State → State
list_step m a_region i s = s
list_step m a_shell i s = s
list_step m a_loop i s = s
list_step m a_fin i s = enlist_step m i s

-- a record is looked at where it is met first
unfoldable pub stepped : Model → Meeting → State → State
stepped m t s =
    cond (eqb (word s.marks (mark_at (child_table t.child) t.id)) 0)
    (list_step m t.child t.id (rename_step m t.child t.parent t.id (marked (child_table t.child) t.id 1 s))) s

unfoldable pub walked : Model → List Meeting → State → State
walked m [] s = s
walked m (t ∷ l) s = walked m l (stepped m t s)

-- from one state to the next by f; lengths stay
pub record Goes (f : State → State) (d₀ s₀ : List ℕ) (n₀ : ℕ) (d s : List ℕ) (n : ℕ) : Type 0 where
  pub goes : held d s n ≡ f (held d₀ s₀ n₀)
  pub long : length d ≡ length d₀
  pub marks : length s ≡ length s₀

-- by a list of meetings
pub record Walks (m : Model) (l : List Meeting) (d₀ s₀ : List ℕ) (n₀ : ℕ) (d s : List ℕ) (n : ℕ) : Type 0 where
  pub goes : held d s n ≡ walked m l (held d₀ s₀ n₀)
  pub long : length d ≡ length d₀
  pub marks : length s ≡ length s₀
