-- What applying the changes of a mending does to the lent memory, and to the model that it holds (W-208). The floats are not handed over, so they stay. Assumes nothing.
use Rattle.std.specs.Prelude.{ℕ, ◌+◌, ◌<◌, ◌≡◌, true, false, length, set, Float}
use Rattle.std.proofs.Common.{arith, ◌∙◌, get_or-set_other}
use Rattle.std.proofs.Math.Path.{refl}
use mathlib.Core.List.{List, [], ◌∷◌, ◌++◌}
use Rattle.std.proofs.Math.ListN.{length-set}
use borrow.Author.Tests.{eqb-false, ne_eqb}
use Rattle.meaning.specs.Lists.{member}
use Rattle.meaning.specs.Model.{Model}
use Rattle.meaning_list_laws.specs.Tests.{or-none}
use Rattle.meaning_mends.specs.Mends.{child_table, Change, renamed, enlisted}
use Rattle.memory_layout.specs.Layout.{word_strides, word, word_at}
use Rattle.memory_layout.specs.Decode.{decode}
use Rattle.memory_layout.specs.Readable.{readable}
use Rattle.memory_layout.specs.Laws.{before-tables}
use Rattle.memory_writes.specs.Change.{SameModel}
use Rattle.memory_writes.specs.Kept.{readable_of}
use Rattle.mend_writes.specs.Made.{fins_at, made_word, made_words}
use Rattle.mend_effects.specs.One.{Kept}

-- ---- every word that no change names is as it was

-- the words that a change names
abbrev pub places_of : List ℕ → Change → List ℕ
places_of room (renamed k i old new) = word_at room (child_table k) i ∷ []
places_of room (enlisted e place i) = (fins_at room e + 1 + place) ∷ fins_at room e ∷ []

unfoldable pub all_places : List ℕ → List Change → List ℕ
all_places room [] = []
all_places room (c ∷ l) = places_of room c ++ all_places room l

module _ (room : List ℕ) where
  set_else : (w : List ℕ) (at v q : ℕ) (l : List ℕ) → member q (at ∷ l) ≡ false → (word (set w at v) q ≡ word w q) × (member q l ≡ false)
  unfolding member
  set_else w at v q l h = let no = or-none _ (member q l) h in (get_or-set_other w at q v 0 (eqb-false q at no.0), no.1)

  pub else-one : (w : List ℕ) (c : Change) (q : ℕ) → member q (places_of room c) ≡ false → word (made_word room w c) q ≡ word w q
  unfolding made_word
  else-one w (renamed k i old new) q h = (set_else w (word_at room (child_table k) i) new q [] h).0
  else-one w (enlisted e place i) q h =
      let first = set_else w (fins_at room e + 1 + place) i q (fins_at room e ∷ []) h in
      (set_else (set w (fins_at room e + 1 + place) i) (fins_at room e) (place + 1) q [] first.1).0 ∙ first.0

  -- no change names a used count or the version
  pub head_apart : (c : Change) (q : ℕ) → q < 11 → member q (places_of room c) ≡ false
  unfolding member
  head_apart (renamed k i old new) q h =
      let b = before-tables 11 word_strides room (child_table k) in
      rw (ne_eqb q (word_at room (child_table k) i) (λ e. omega arith))
  head_apart (enlisted e place i) q h =
      let b = before-tables 11 word_strides room 6 in
      rw (ne_eqb q (fins_at room e + 1 + place) (λ e. omega arith), ne_eqb q (fins_at room e) (λ e. omega arith))

  long-one : (w : List ℕ) (c : Change) → length (made_word room w c) ≡ length w
  unfolding made_word
  long-one w (renamed k i old new) = simp length-set
  long-one w (enlisted e place i) = simp length-set

  pub as_long : (w : List ℕ) (l : List Change) → length (made_words room w l) ≡ length w
  unfolding made_words
  as_long w [] = refl
  as_long w (c ∷ l) = as_long (made_word room w c) l ∙ long-one w c

-- ---- "Applying them to the old tables gives the new ones exactly"

-- the words w and the floats x are readable, and hold the model m
pub record HoldsMended (room w : List ℕ) (x : List Float) (m : Model) : Type 0 where
  pub readable : readable room w x ≡ true
  pub model : SameModel (decode room w x) m

module _ (room w : List ℕ) (x : List Float) (ok : readable room w x ≡ true) where
  abbrev m : Model
  m = decode room w x

  pub held : {v : List ℕ} {n : Model} → Kept room v x n → HoldsMended room v x n
  held {v} k = record { readable = readable_of room v x k.fit; model = k.model }
