-- One law for all inserts and one for all edits: what is left of what the record reads as, and of its own test. Assumes nothing.
use Prim.Native.Nat.{ℕ, zero, suc, ◌<◌}
use Rattle.std.proofs.Common.{arith, sym, ap, ◌∙◌, subst, eqb-true, le-leb}
use Rattle.std.specs.Prelude.{◌≡◌, refl, Bool, true, false, cond, ◌&&◌, eqb, Float}
use Rattle.std.proofs.Math.Path.{fun_ext}
use mathlib.Core.List.{List}
use Rattle.std.proofs.Math.Dec.{ltb, leb}
use Rattle.geom_lines_planes.specs.Refuse.{◌unless◌, ◌then◌}
use Rattle.meaning.specs.Model.{Model, Table, changed}
use Rattle.meaning.specs.Edits.{edited}
use Rattle.meaning_list_laws.specs.Tests.{then-zero, unless-zero, and_both}
use Rattle.memory_layout.specs.Layout.{word, words_of}
use Rattle.memory_layout.specs.Decode.{decode}
use Rattle.memory_layout.specs.Readable as Readable
use Rattle.memory_layout.specs.Entries.{list_tables, list_places, list_limits}
use Rattle.memory_layout.specs.Fit.{Fit}
use Rattle.memory_layout.specs.Laws.{lists_of}
use Rattle.memory_writes.specs.Put.{unless_refused}
use Rattle.memory_writes.specs.Change.{SameModel}
use Rattle.memory_writes.specs.Kept.{readable_of}
use Rattle.edit_core.specs.Answers.{insert_number, edit_number}
use Rattle.edit_effects.specs.Leaves.{Leaves}

pub same-to : {a m n : Model} → m ≡ n → SameModel a m → SameModel a n
same-to {a} e h = subst (λ (m : Model). SameModel a m) e h

-- a record that is changed by a function is the one that the function makes of it
pub edited-by : {A : Type 0} (t : Table A) (i : ℕ) (a : A) (f : A → A) → a ≡ f (t.slot i) → edited t i (λ _. a) ≡ edited t i f
unfolding changed
edited-by {A} t i a f e = ap (λ (slot : ℕ → A). record { used = t.used; slot = slot }) (fun_ext (λ j. at (eqb j i) j (eqb-true j i)))
  where
    at : (b : Bool) (j : ℕ) → (b ≡ true → j ≡ i) → cond b a (t.slot j) ≡ cond b (f (t.slot j)) (t.slot j)
    at true j h = e ∙ ap (λ (k : ℕ). f (t.slot k)) (sym (h refl))
    at false j h = refl

module _ (room w : List ℕ) (x : List Float) where
  pub leaves : (number : ℕ) (w' : List ℕ) (x' : List Float) (n : Model) → (number ≡ 0 → Fit room w' x') → (number ≡ 0 → SameModel (decode room w' x') n)
      → Leaves room w x number (unless_refused number w' w) (unless_refused number x' x) n
  leaves zero w' x' n f m = record { readable = λ e. readable_of room w' x' (f e); model = m; refused = λ e. absurd (e refl) }
  leaves (suc number) w' x' n f m =
      record { readable = λ e. absurd (omega arith); model = λ e. absurd (omega arith); refused = λ _. (refl, refl) }

  -- the values of what was not refused are ok
  pub insert-ok : (ok : Bool) (k : ℕ) → insert_number room w x ok k ≡ 0 → ok ≡ true
  unfolding insert_number
  insert-ok ok k e =
      unless-zero 0 ok (then-zero (1 unless ok) (8 unless ltb (word w k) (word room k))
      (then-zero (9 unless Readable.readable room w x) (1 unless ok then 8 unless ltb (word w k) (word room k)) e).1).0

  pub edit-ok : (ok : Bool) (k i : ℕ) → edit_number room w x ok k i ≡ 0 → ok ≡ true
  unfolding edit_number
  edit-ok ok k i e =
      unless-zero 0 ok (then-zero (1 unless ok) (2 unless ltb i (word w k) then 0)
      (then-zero (9 unless Readable.readable room w x) (1 unless ok then 2 unless ltb i (word w k) then 0) e).1).0

  -- list j of a used record is within its limit
  pub within : (j i : ℕ) → Fit room w x → j < 8 → i < word w (word list_tables j)
      → leb (word (words_of room w (word list_tables j) i) (word list_places j)) (word list_limits j) ≡ true
  within j i f h g = le-leb _ _ ((lists_of room w x f).short j i h g)

  -- and the office of a used body is known
  pub office-within : (i : ℕ) → Fit room w x → i < word w 0 → leb (word (words_of room w 0 i) 1) 1 ≡ true
  unfolding Readable.record_ok
  office-within i f h =
      let r : List ℕ = words_of room w 0 i in
      (and_both (leb (word r 0) 4) (leb (word r 1) 1) (and_both (leb (word r 0) 4 && leb (word r 1) 1) (leb (word r 2) 16) (f.rows 0 i (omega arith) h)).0).1
