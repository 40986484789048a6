-- What the refusals of a course's edits have tested. Assumes nothing.
use Prim.Native.Nat.{ℕ, zero, suc, ◌+◌, ◌-◌, ◌*◌, ◌≤◌, ◌<◌}
use native.Mathlib.Omega.{arith}
use Rattle.std.specs.Prelude.{◌≡◌, refl, Bool, true, false, ◌&&◌, List, [], ◌∷◌, ltb, length}
use Rattle.std.proofs.Common.{sym, ap, ◌∙◌}
use Rattle.std.proofs.Math.Dec.{leb}
use borrow.Author.Tests.{le-leb, lt-leb, lt-ltb, le-ltb, leb-true, ltb-true}
use Rattle.geom_lines_planes.specs.Refuse.{◌unless◌, ◌then◌}
use Rattle.meaning_list_laws.specs.Tests.{and_both, then-zero, unless-zero}
use Rattle.memory_layout.specs.Layout.{word}
use Rattle.memory_layout.specs.Fit.{Held}
use Rattle.course_table.specs.Table.{course_at, courses_ok}
use Rattle.course_table.specs.Facts.{Lies, Laid}
use Rattle.course_table.specs.Laws.{laid_of, laid-lies, course-held}
use Rattle.course_edits.specs.Answers.{entry_good, tag_of, id_of, length_of, open_number, place_number, room_number, make_number, insert_number}

-- ---- a course that is there

pub record Open (w : List ℕ) (c : ℕ) : Type 0 where
  pub laid : Laid w
  pub there : c < word w 0
  pub lies : Lies w c
  pub short : word w (course_at c) ≤ 16
  pub held : Held w (course_at c)
  pub small : c ≤ 256

module _ (w : List ℕ) (good : Bool) (c : ℕ) where
  pub no_table : courses_ok w ≡ false → 9 ≡ open_number w good c
  unfolding open_number
  no_table e = rw e

  pub no-entry : courses_ok w ≡ true → good ≡ false → 1 ≡ open_number w good c
  unfolding open_number
  no-entry e f = rw (e, f)

  pub no-course : courses_ok w ≡ true → good ≡ true → word w 0 ≤ c → 2 ≡ open_number w good c
  unfolding open_number
  no-course e f h = rw (e, f, le-ltb c (word w 0) h)

  pub a-course : courses_ok w ≡ true → good ≡ true → c < word w 0 → 0 ≡ open_number w good c
  unfolding open_number
  a-course e f h = rw (e, f, lt-ltb c (word w 0) h)

  pub is-good : open_number w good c ≡ 0 → good ≡ true
  unfolding open_number
  is-good e = unless-zero 0 good (then-zero (1 unless good) _ (then-zero (9 unless courses_ok w) _ e).1).0

  pub is_open : open_number w good c ≡ 0 → Open w c
  unfolding open_number
  is_open e =
      let a = then-zero (9 unless courses_ok w) _ e in
      let laid = laid_of w (unless-zero 8 (courses_ok w) a.0) in
      let h = ltb-true c (word w 0) (unless-zero 1 (ltb c (word w 0)) (then-zero (1 unless good) _ a.1).1) in
      let lies = laid-lies w c laid h in
      let few = laid.few in
      record { laid = laid; there = h; lies = lies; short = laid.short c h; held = course-held w c lies (laid.short c h); small = omega arith }

-- ---- a place of it, or room in it

module _ (w : List ℕ) (good : Bool) (c p : ℕ) where
  pub place-refused : (n : ℕ) → n ≡ open_number w good c → (n ≡ 0 → ⊥) → n ≡ place_number w good c p
  unfolding place_number
  place-refused zero e z = absurd (z refl)
  place-refused (suc n) e z = rw (← e)

  pub no_place : (n : ℕ) → n ≡ open_number w good c → n ≡ 0 → length_of w c ≤ p → 1 ≡ place_number w good c p
  unfolding place_number
  no_place n e z h = rw (sym e ∙ z, le-ltb p (length_of w c) h)

  pub a-place : (n : ℕ) → n ≡ open_number w good c → n ≡ 0 → p < length_of w c → 0 ≡ place_number w good c p
  unfolding place_number
  a-place n e z h = rw (sym e ∙ z, lt-ltb p (length_of w c) h)

  pub place-open : place_number w good c p ≡ 0 → open_number w good c ≡ 0
  unfolding place_number
  place-open e = (then-zero (open_number w good c) _ e).0

  pub place-there : place_number w good c p ≡ 0 → p < length_of w c
  unfolding place_number
  place-there e = ltb-true p (length_of w c) (unless-zero 0 (ltb p (length_of w c)) (then-zero (open_number w good c) _ e).1)

module _ (w : List ℕ) (good : Bool) (c : ℕ) where
  pub room-refused : (n : ℕ) → n ≡ open_number w good c → (n ≡ 0 → ⊥) → n ≡ room_number w good c
  unfolding room_number
  room-refused zero e z = absurd (z refl)
  room-refused (suc n) e z = rw (← e)

  pub no_room : (n : ℕ) → n ≡ open_number w good c → n ≡ 0 → 16 ≤ length_of w c → 8 ≡ room_number w good c
  unfolding room_number
  no_room n e z h = rw (sym e ∙ z, le-ltb (length_of w c) 16 h)

  pub some-room : (n : ℕ) → n ≡ open_number w good c → n ≡ 0 → length_of w c < 16 → 0 ≡ room_number w good c
  unfolding room_number
  some-room n e z h = rw (sym e ∙ z, lt-ltb (length_of w c) 16 h)

  pub room_open : room_number w good c ≡ 0 → open_number w good c ≡ 0
  unfolding room_number
  room_open e = (then-zero (open_number w good c) _ e).0

  pub room-there : room_number w good c ≡ 0 → length_of w c < 16
  unfolding room_number
  room-there e = ltb-true (length_of w c) 16 (unless-zero 7 (ltb (length_of w c) 16) (then-zero (open_number w good c) _ e).1)

-- an entry that was tested
pub entry-small : (tag id : ℕ) → entry_good tag id ≡ true → (tag ≤ 1) × (id < 65536)
entry-small tag id e = let p = and_both (leb tag 1) (ltb id 65536) e in (leb-true tag 1 p.0, ltb-true id 65536 p.1)

-- an entry that is read
pub read-body : (x e : ℕ) → x ≡ e → x < 65536 → ◌≡◌ {A = List ℕ} (0 ∷ x ∷ []) (tag_of e ∷ id_of e ∷ [])
read-body x e q h = ap (λ i. 0 ∷ i ∷ []) q ∙ (let g : e < 65536 = omega arith in rw (lt-ltb e 65536 g))

pub read-course : (x e : ℕ) → x ≡ e → 65536 ≤ x → ◌≡◌ {A = List ℕ} (1 ∷ (x - 65536) ∷ []) (tag_of e ∷ id_of e ∷ [])
read-course x e q h = ap (λ i. 1 ∷ (i - 65536) ∷ []) q ∙ (let g : 65536 ≤ e = omega arith in rw (le-ltb e 65536 g))

-- ---- a table made, and a course more

pub make-none : (w : List ℕ) → length w ≡ 0 → 9 ≡ make_number w
unfolding make_number
make-none w h = rw (le-ltb 0 (length w) (omega arith))

pub make-some : (w : List ℕ) → (length w ≡ 0 → ⊥) → make_number w ≡ 0
unfolding make_number
make-some w h = let g : 0 < length w = omega arith in rw (lt-ltb 0 (length w) g)

module _ (w : List ℕ) where
  pub insert-unread : courses_ok w ≡ false → 9 ≡ insert_number w
  unfolding insert_number
  insert-unread e = rw e

  pub insert-full : courses_ok w ≡ true → 256 ≤ word w 0 → 8 ≡ insert_number w
  unfolding insert_number
  insert-full e h = rw (e, le-ltb (word w 0) 256 h)

  pub insert-short : courses_ok w ≡ true → word w 0 < 256 → length w < course_at (word w 0 + 1) → 8 ≡ insert_number w
  unfolding insert_number
  insert-short e h g = rw (e, lt-ltb (word w 0) 256 h, lt-leb (course_at (word w 0 + 1)) (length w) g)

  pub insert-given : courses_ok w ≡ true → word w 0 < 256 → course_at (word w 0 + 1) ≤ length w → 0 ≡ insert_number w
  unfolding insert_number
  insert-given e h g = rw (e, lt-ltb (word w 0) 256 h, le-leb (course_at (word w 0 + 1)) (length w) g)

  pub insert-room : insert_number w ≡ 0 → (word w 0 < 256) × (18 + 17 * word w 0 ≤ length w)
  unfolding insert_number
  insert-room e =
      let p = and_both (ltb (word w 0) 256) _ (unless-zero 7 (ltb (word w 0) 256 && leb (course_at (word w 0 + 1)) (length w)) (then-zero (9 unless courses_ok w) _ e).1) in
      let a = leb-true (course_at (word w 0 + 1)) (length w) p.1 in
      (ltb-true (word w 0) 256 p.0, omega arith)
