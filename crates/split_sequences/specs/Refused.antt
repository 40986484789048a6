-- A call is refused exactly where its row says: `refused-there`, `there-refused`; and accepted where all pass. Assumes nothing.
use Rattle.std.specs.Prelude.{ℕ, zero, suc, ◌≡◌, refl, Bool, true, false, not, List, [], ◌∷◌, get_or, drop, Float}
use Rattle.std.proofs.Common.{arith, sym, ap, ◌∙◌}
use Rattle.std.proofs.lemmas.Bool.{false≢true}
use Rattle.memory_layout.specs.Decode.{decode}
use Rattle.memory_layout.specs.Readable.{readable}
use Rattle.memory_layout.specs.Limits.{limits}
use Rattle.split_place.specs.SplitNumber.{split_number}
use Rattle.meaning_split_laws.specs.Rows.{Step, ◌when◌, split_rows, never, Passes, Says, RefusedAt}
use Rattle.meaning_split_laws.proofs.Refusals.{refused-where, refused-only, accepted-where, accepted-only}
use Rattle.split_sequences.specs.CallRows.{call_rows}
use Rattle.split_sequences.specs.Followed.{number_read}

-- ---- a row in front

-- a row that passes says nothing
pub passing-says : (a : List Step) (n : ℕ) → Passes a → Says a n → ⊥
passing-says a n p s = false≢true (sym (p.none-holds s.step) ∙ s.here)

module _ (a b : List Step) (l : List (List Step)) (p : Passes a) (q : Passes b) where
  -- one row that passes does for another
  front-passes : (k : ℕ) → Passes (get_or (a ∷ l) k []) → Passes (get_or (b ∷ l) k [])
  front-passes zero h = q
  front-passes (suc k) h = h

  front-refused : (k n : ℕ) → RefusedAt (a ∷ l) k n → RefusedAt (b ∷ l) k n
  front-refused zero n r = absurd (passing-says a n p r.here)
  front-refused (suc k) n r = record { before = λ j h. front-passes j (r.before j h); here = r.here }

-- ---- the row of 9

empty-passes : Passes []
empty-passes = record { none-holds = λ j. refl }

pub nine-passes : (b : Bool) → b ≡ true → Passes (9 when not b ∷ [])
nine-passes b h = record { none-holds = at }
  where
    at : (j : ℕ) → (get_or (9 when not b ∷ []) j never).holds ≡ false
    at zero = ap not h
    at (suc j) = refl

pub nine-says : (b : Bool) → b ≡ false → Says (9 when not b ∷ []) 9
nine-says b h = record { step = 0; before = λ j q. absurd (omega arith); here = ap not h; number = refl }

-- where it does not pass, nothing else is said
pub only-nine : (b : Bool) (l : List (List Step)) → b ≡ false → (k n : ℕ) → RefusedAt ((9 when not b ∷ []) ∷ l) k n → n ≡ 9
only-nine b l h zero n r = at r.here.step r.here.here r.here.number
  where
    at : (j : ℕ) → (get_or (9 when not b ∷ []) j never).holds ≡ true → (get_or (9 when not b ∷ []) j never).number ≡ n → n ≡ 9
    at zero s q = sym q
    at (suc j) s q = absurd (false≢true s)
only-nine b l h (suc k) n r = absurd (false≢true (sym ((r.before 0 (omega arith)).none-holds 0) ∙ ap not h))

-- ---- the rows of a call

module _ (room w : List ℕ) (x : List Float) (e : ℕ) (t : Float) where
  abbrev rest : List (List Step)
  rest = drop 1 (split_rows (limits room) (decode room w x) e t)

  abbrev nine : List Step
  nine = 9 when not (readable room w x) ∷ []

  unread : readable room w x ≡ false → split_number room w x e t ≡ 9
  unfolding split_number
  unread h = rw h

  pub refused-there : (n : ℕ) → split_number room w x e t ≡ suc n → (k : ℕ) × RefusedAt (call_rows room w x e t) k (suc n)
  refused-there n z = by (readable room w x) refl
    where
      by : (b : Bool) → readable room w x ≡ b → (k : ℕ) × RefusedAt (call_rows room w x e t) k (suc n)
      by true r =
          let f = refused-only (limits room) (decode room w x) e t n (sym (number_read room w x e t r) ∙ z) in
          (f.0, front-refused [] nine rest empty-passes (nine-passes (readable room w x) r) f.0 (suc n) f.1)
      by false r = (0, rw (sym z ∙ unread r) (record { before = λ j h. absurd (omega arith); here = nine-says (readable room w x) r }))

  pub there-refused : (k n : ℕ) → RefusedAt (call_rows room w x e t) k (suc n) → split_number room w x e t ≡ suc n
  there-refused k n f = by (readable room w x) refl
    where
      by : (b : Bool) → readable room w x ≡ b → split_number room w x e t ≡ suc n
      by true r =
          number_read room w x e t r
          ∙ refused-where (limits room) (decode room w x) e t k n (front-refused nine [] rest (nine-passes (readable room w x) r) empty-passes k (suc n) f)
      by false r = unread r ∙ sym (only-nine (readable room w x) rest r k (suc n) f)

  pub accepted-there : split_number room w x e t ≡ 0 → (k : ℕ) → Passes (get_or (call_rows room w x e t) k [])
  accepted-there z k = by (readable room w x) refl
    where
      by : (b : Bool) → readable room w x ≡ b → Passes (get_or (call_rows room w x e t) k [])
      by true r =
          front-passes [] nine rest empty-passes (nine-passes (readable room w x) r) k
          (accepted-only (limits room) (decode room w x) e t (sym (number_read room w x e t r) ∙ z) k)
      by false r = absurd (let n : ◌≡◌ {A = ℕ} 9 0 = sym (unread r) ∙ z in omega arith)

  pub there-accepted : ((k : ℕ) → Passes (get_or (call_rows room w x e t) k [])) → split_number room w x e t ≡ 0
  there-accepted p = by (readable room w x) refl
    where
      by : (b : Bool) → readable room w x ≡ b → split_number room w x e t ≡ 0
      by true r =
          number_read room w x e t r
          ∙ accepted-where (limits room) (decode room w x) e t (λ k. front-passes nine [] rest (nine-passes (readable room w x) r) empty-passes k (p k))
      by false r = absurd (passing-says nine 9 (p 0) (nine-says (readable room w x) r))
