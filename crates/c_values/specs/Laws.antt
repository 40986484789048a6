-- What the proofs of the inserts and sets of a C program cite. Assumes nothing.
use Rattle.std.specs.Prelude.{ℕ, zero, suc, ◌-◌, ◌≤◌, ◌≡◌, refl, Bool, true, false, List, [], ◌∷◌, Float}
use Rattle.std.proofs.Common.{arith}
use Rattle.geom_lines_planes.specs.Refuse.{◌unless◌, ◌then◌}
use Rattle.memory_layout.specs.Readable.{readable, tag_number}
use Rattle.memory_contains.specs.declared.EntityRef.TheVariants.{Vertex}
use Rattle.memory_layout.specs.Layout.{word}
use Rattle.memory_writes.specs.Put.{unless_refused}
use Rattle.c_lent.specs.Lent.{Crosses, alone}
use Rattle.c_lent.specs.Laws.{crossed}
use Rattle.edit_core.specs.declared.Inserted.{Inserted}
use Rattle.edit_core.specs.declared.Inserted.TheVariants.{At, Refused}
use Rattle.edit_core.specs.Answers.{insert_number, insert_answer, insert_words, insert_reals, edit_number, edit_words, edit_reals}
use Rattle.c_values.specs.Given.{entity_of}

-- the classes from 7 on
pub last-class : (n i : ℕ) → 7 ≤ n → entity_of n i ≡ Vertex i
last-class zero i h = absurd (omega arith)
last-class (suc zero) i h = absurd (omega arith)
last-class (suc (suc zero)) i h = absurd (omega arith)
last-class (suc (suc (suc zero))) i h = absurd (omega arith)
last-class (suc (suc (suc (suc zero)))) i h = absurd (omega arith)
last-class (suc (suc (suc (suc (suc zero))))) i h = absurd (omega arith)
last-class (suc (suc (suc (suc (suc (suc zero)))))) i h = absurd (omega arith)
last-class (suc (suc (suc (suc (suc (suc (suc n))))))) i h = refl

-- ---- an insert's id, put into its slot
pub put-inserted : (room w : List ℕ) (x : List Float) (good : Bool) (k r : ℕ) (a : Inserted) (old new : List ℕ)
    → Crosses At Refused alone a r old new → a ≡ insert_answer room w x good k
    → (r ≡ insert_number room w x good k) × (new ≡ unless_refused r (word w k ∷ []) old)
unfolding insert_answer
put-inserted room w x good k r a old new h e = crossed h (insert_number room w x good k) (word w k) e

-- ---- 9, then 1: what is written

kept : {A : Type 0} (b : Bool) (new old : A) → old ≡ unless_refused (9 unless b then 1) new old
kept true new old = refl
kept false new old = refl

some : (b : Bool) → (9 unless b then 1) ≡ suc ((9 unless b then 1) - 1)
some true = refl
some false = refl

pub unknown-some : (room w : List ℕ) (x : List Float) (n : ℕ) → n ≡ tag_number room w x → n ≡ suc (n - 1)
unfolding tag_number
unknown-some room w x n t = rw t (some (readable room w x))

module _ (room w : List ℕ) (x : List Float) (k n : ℕ) (good : Bool) (e : good ≡ false) (t : n ≡ tag_number room w x) (f : List ℕ) (s : List Float) where
  -- an insert with a tag that is none
  pub unknown-inserted : (slots : List ℕ)
      → (n ≡ insert_number room w x good k)
      × ((slots ≡ unless_refused n (word w k ∷ []) slots)
      × ((w ≡ insert_words room w x good k f) × (x ≡ insert_reals room w x good k s)))
  unfolding tag_number insert_number insert_words insert_reals
  unknown-inserted slots =
      rw (e, t)
      (refl, (kept (readable room w x) _ slots, (kept (readable room w x) _ w, kept (readable room w x) _ x)))

  -- and a set
  pub unknown-set : (i p : ℕ)
      → (n ≡ edit_number room w x good k i) × ((w ≡ edit_words room w x good k i p f) × (x ≡ edit_reals room w x good k i s))
  unfolding tag_number edit_number edit_words edit_reals
  unknown-set i p = rw (e, t) (refl, (kept (readable room w x) _ w, kept (readable room w x) _ x))
