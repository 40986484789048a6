-- What is there of a body, by its records and lists, and how the walk goes down into them. Assumes nothing.
use Rattle.std.specs.Prelude.{ℕ, ◌+◌, ◌≤◌, ◌<◌, ◌≡◌, Bool, true, ◌&&◌, List, [], ◌∷◌, ltb, length, get_or, take}
use Rattle.std.proofs.Common.{arith, sym, ◌∙◌}
use Rattle.std.proofs.Math.Path.{refl, ap}
use borrow.Author.Tests.{ltb-true}
use Rattle.meaning.specs.Lists.{all, joined}
use Rattle.meaning.specs.Model.{Model, loop}
use Rattle.meaning.specs.Walks.{readable_fin}
use Rattle.meaning_list_laws.specs.Lists.{member-nth, all-member}
use Rattle.meaning_list_laws.specs.Tests.{and_both}
use Rattle.meaning_mends.specs.Mends.{a_region, a_shell, a_loop, Meeting, met, loop_meetings, face_meetings, shell_meetings, region_meetings, meetings, loop_there, face_there, shell_there, region_there, body_there}
use Rattle.memory_layout.specs.Layout.{word}
use Rattle.memory_layout.specs.Decode.{decode}
use Rattle.memory_layout.specs.Entries.{list_tables, list_of}
use Rattle.mend_meetings.specs.Machine.{Walks}
use Rattle.mend_meetings.specs.Facts.{Ready, Present, model_of}
use Rattle.mend_meetings.specs.Laws.{fin_meeting, fins-met, goes_none, goes_then, goes-list, goes-turn, goes-done}

-- ---- what is there

-- the record i that has list j, and each entry of the list
pub record There (room w : List ℕ) (j i : ℕ) (each : ℕ → Bool) : Type 0 where
  pub slot : i < word w (word list_tables j)
  pub list : all each (list_of room w j i) ≡ true

module _ (room w : List ℕ) where
  there : (j i : ℕ) (each : ℕ → Bool) → (ltb i (word w (word list_tables j)) && all each (list_of room w j i)) ≡ true → There room w j i each
  there j i each h = let both = and_both (ltb i (word w (word list_tables j))) (all each (list_of room w j i)) h in record { slot = ltb-true _ _ both.0; list = both.1 }

  pub body-there : (b : ℕ) → body_there (model_of room w) b ≡ true → There room w 0 b (region_there (model_of room w))
  unfolding decode list_of body_there
  body-there b h = there 0 b (region_there (model_of room w)) h

  pub region-there : (r : ℕ) → region_there (model_of room w) r ≡ true → There room w 1 r (shell_there (model_of room w))
  unfolding decode list_of
  region-there r h = there 1 r (shell_there (model_of room w)) h

  pub shell-there : (s : ℕ) → shell_there (model_of room w) s ≡ true → There room w 2 s (face_there (model_of room w))
  unfolding decode list_of
  shell-there s h = there 2 s (face_there (model_of room w)) h

  pub face-there : (f : ℕ) → face_there (model_of room w) f ≡ true → There room w 5 f (loop_there (model_of room w))
  unfolding decode list_of
  face-there f h = there 5 f (loop_there (model_of room w)) h

  pub loop-there : (l : ℕ) → loop_there (model_of room w) l ≡ true → There room w 6 l (readable_fin (model_of room w))
  unfolding decode list_of
  loop-there l h = there 6 l (readable_fin (model_of room w)) h

  pub fin-present : (i : ℕ) → readable_fin (model_of room w) i ≡ true → Present room w 5 i
  unfolding decode
  fin-present i h = let both = and_both _ _ h in record { table = omega arith; slot = ltb-true _ _ both.0; edge = λ _. ltb-true _ _ both.1 }

-- a record with a list is no fin
pub present : {room w : List ℕ} {i : ℕ} {each : ℕ → Bool} (j : ℕ) → word list_tables j < 5 → There room w j i each → Present room w (word list_tables j) i
present j h t = record { table = omega arith; slot = t.slot; edge = λ e. absurd (omega arith) }

pub list-there : {room w : List ℕ} {j i : ℕ} {each : ℕ → Bool} → There room w j i each → {ids : List ℕ} → ids ≡ list_of room w j i → all each ids ≡ true
list-there {room} {w} {j} {i} {each} t h = ap (all each) h ∙ t.list

pub entry-there : (each : ℕ → Bool) (l : List ℕ) (k : ℕ) → k < length l → all each l ≡ true → each (get_or l k 0) ≡ true
entry-there each l k h t = all-member each l (get_or l k 0) t (member-nth l k h)

pub ready_on : {room w d₀ s₀ d s : List ℕ} {m : Model} {l : List Meeting} {n₀ n : ℕ} → Ready room w s₀ → Walks m l d₀ s₀ n₀ d s n → Ready room w s
ready_on r p = record { lists = r.lists; marks = omega (arith, r.marks, p.marks) }

-- ---- the meetings of a record, by its list

module _ (room w : List ℕ) where
  pub body-meetings : (b : ℕ) → joined (region_meetings (model_of room w) b) (list_of room w 0 b) ≡ meetings (model_of room w) b
  unfolding decode list_of meetings
  body-meetings b = refl

  pub region-meetings : (b r : ℕ) → met a_region b r ∷ joined (shell_meetings (model_of room w) r) (list_of room w 1 r) ≡ region_meetings (model_of room w) b r
  unfolding decode list_of region_meetings
  region-meetings b r = refl

  pub shell-meetings : (r s : ℕ) → met a_shell r s ∷ joined (face_meetings (model_of room w)) (list_of room w 2 s) ≡ shell_meetings (model_of room w) r s
  unfolding decode list_of shell_meetings
  shell-meetings r s = refl

  pub face-meetings : (f : ℕ) → joined (loop_meetings (model_of room w) f) (list_of room w 5 f) ≡ face_meetings (model_of room w) f
  unfolding decode list_of face_meetings
  face-meetings f = refl

  pub loop-meetings : (f l : ℕ) → met a_loop f l ∷ joined (fin_meeting l) (list_of room w 6 l) ≡ loop_meetings (model_of room w) f l
  unfolding decode list_of loop_meetings
  loop-meetings f l = ap (λ r. met a_loop f l ∷ r) (sym (fins-met l (loop (model_of room w) l).fins))

-- the list of a record, then the record and its list
pub goes-listed : (f : ℕ → List Meeting) {ids l : List ℕ} {a : List Meeting} → joined f l ≡ a → ids ≡ l → {m : Model} {d s e t : List ℕ} {n u : ℕ} → Walks m (joined f ids) d s n e t u → Walks m a d s n e t u
goes-listed f h k p = goes-list (ap (joined f) k ∙ h) p

pub goes_down : (t : Meeting) (f : ℕ → List Meeting) {ids l : List ℕ} {a : List Meeting} → t ∷ joined f l ≡ a → ids ≡ l
    → {m : Model} {d₀ s₀ d₁ s₁ d₂ s₂ : List ℕ} {n₀ n₁ n₂ : ℕ} → Walks m (t ∷ []) d₀ s₀ n₀ d₁ s₁ n₁ → Walks m (joined f ids) d₁ s₁ n₁ d₂ s₂ n₂ → Walks m a d₀ s₀ n₀ d₂ s₂ n₂
goes_down t f h k p q = goes-list (ap (λ l. t ∷ joined f l) k ∙ h) (goes_then p q)

-- ---- a loop over the entries of a list, each with its meetings: before the entry at k

pub record Turn (m : Model) (f : ℕ → List Meeting) (ids d₀ s₀ : List ℕ) (n₀ : ℕ) (d s : List ℕ) (n k : ℕ) : Type 0 where
  pub place : k ≤ length ids
  pub walks : Walks m (joined f (take k ids)) d₀ s₀ n₀ d s n

pub turn-first : {m : Model} {f : ℕ → List Meeting} {ids d s : List ℕ} {n : ℕ} → Turn m f ids d s n d s n 0
unfolding joined
turn-first {m} {f} {ids} {d} {s} {n} = record { place = omega arith; walks = goes_none d s n m }

module _ {m : Model} {f : ℕ → List Meeting} {ids d₀ s₀ d s : List ℕ} {n₀ n k : ℕ} (t : Turn m f ids d₀ s₀ n₀ d s n k) where
  pub turn-ready : {room w : List ℕ} → Ready room w s₀ → Ready room w s
  turn-ready r = ready_on r t.walks

  pub turn-next : k < length ids → {e u : List ℕ} {v : ℕ} → Walks m (f (get_or ids k 0)) d s n e u v → Turn m f ids d₀ s₀ n₀ e u v (k + 1)
  turn-next h p = record { place = omega arith; walks = goes-turn m f ids k h t.walks p }

  pub turn_last : length ids ≤ k → Walks m (joined f ids) d₀ s₀ n₀ d s n
  turn_last h = goes-done m f ids k h t.walks
