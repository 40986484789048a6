-- The theorems of specs/Laws.antt that rest on office-above and office-there. Assumes nothing.
use Rattle.std.specs.Prelude.{ℕ, ◌<◌, ◌≤◌, ◌≡◌, Bool, List, Float}
use Rattle.std.proofs.Common.{sym, ap}
use Rattle.std.proofs.Math.Path.{refl}
use Rattle.std.proofs.Math.Bool.{true, false}
use Rattle.geom_lines_planes.specs.Refuse.{◌unless◌, ◌then◌, answer}
use Rattle.memory_layout.specs.Readable.{readable, tag_number}
use Rattle.memory_writes.specs.Put.{unless_refused}
use Rattle.memory_offices.specs.Sight.{by_office}
use Rattle.memory_offices.specs.Laws.{office-there, office-above}

module _ (room w : List ℕ) (x : List Float) (o : ℕ) where
  -- and so the answer that is made of it
  pub answer-above : {A B : Type 0} (is : B → A) (refused : ℕ → A) (n k : ℕ) (v : B) → 1 < o → k ≡ tag_number room w x → refused k ≡ answer is refused (by_office room w x o n) v
  unfolding tag_number
  answer-above is refused n k v h e = rw (office-above room w x o n h, e) (go (readable room w x))
    where
      go : (b : Bool) → refused (9 unless b then 1) ≡ answer is refused (9 unless b then 1) v
      go true = refl
      go false = refl

  pub answer-there : {A B : Type 0} (is : B → A) (refused : ℕ → A) (n : ℕ) (v : B) → o ≤ 1
      → answer is refused (9 unless readable room w x then n) v ≡ answer is refused (by_office room w x o (9 unless readable room w x then n)) v
  answer-there is refused n v h = ap (λ k. answer is refused k v) (sym (office-there room w x o n h))

  -- and what is written by it
  pub unless-there : {A : Type 0} (n : ℕ) (new old : A) → o ≤ 1
      → unless_refused (9 unless readable room w x then n) new old ≡ unless_refused (by_office room w x o (9 unless readable room w x then n)) new old
  unless-there n new old h = ap (λ k. unless_refused k new old) (sym (office-there room w x o n h))

  pub unless-above : {A : Type 0} (n : ℕ) (new old : A) → 1 < o → old ≡ unless_refused (by_office room w x o n) new old
  unfolding tag_number
  unless-above n new old h = rw (office-above room w x o n h) (go (readable room w x))
    where
      go : (b : Bool) → old ≡ unless_refused (9 unless b then 1) new old
      go true = refl
      go false = refl
