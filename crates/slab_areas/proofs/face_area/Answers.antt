-- `slab_areas::face_area` meets its contract. Assumes nothing.
use Rattle.memory_layout.specs.Laws.{lists_of}
use Rattle.memory_layout.specs.Decode.{decode}
use mathlib.Core.Path.{sym, ap, ◌∙◌, subst}
use mathlib.Core.List.{List}
use Prim.Native.Nat.{ℕ, ◌^◌, ◌≤◌}
use lib.IntN.{ℤ, nat_abs}
use lib.ListN.{length}
use Rattle.meaning_slabs.specs.Slabs.{steps, closed, sumℤ, face_area, face_axis}
use Rattle.inquire_sides.specs.Laws.{face-there}
use Rattle.inquire_fin_starts.specs.Starts.{Rim}
use Rattle.slab_areas.specs.Measured.{step_at}
use Rattle.slab_areas.specs.Laws.{area-is, whole-face, one-loop, whole-rim, short-rim, area_small, area-held, held-bits}
use Rattle.inquire_corners.specs.Machines.{plain}
use Rattle.slab_areas.proofs.face_area.Goals as goal

pub face_axis-axis-requires : goal.face_axis-axis-requires
face_axis-axis-requires c = let s = c in record { fit = s.requires.fit; f_bound = face-there s.args.room.now s.args.words.now s.args.f (whole-face s.args.room.now s.args.words.now s.args.reals.now s.args.f s.requires.f_value) }

pub rim-requires : goal.rim-requires
rim-requires c = let s = c in record { lists = lists_of s.args.room.now s.args.words.now s.args.reals.now s.requires.fit; face_value = whole-face s.args.room.now s.args.words.now s.args.reals.now s.args.f s.requires.f_value; face_len = one-loop s.args.room.now s.args.words.now s.args.reals.now s.args.f s.requires.f_value }

pub loop_area-requires : goal.loop_area-requires
loop_area-requires c = let s = c in record { fit = s.requires.fit; rim = subst (Rim s.args.room.now s.args.words.now) (sym c.rim.ensures) (whole-rim s.args.room.now s.args.words.now s.args.reals.now s.args.f s.requires.f_value); fins_len_bound = subst (λ (l : List ℕ). length l ≤ 1024) (sym c.rim.ensures) (short-rim s.args.room.now s.args.words.now s.args.reals.now s.args.f s.requires.f_value (lists_of s.args.room.now s.args.words.now s.args.reals.now s.requires.fit)) }

pub size-requires : goal.size-requires
size-requires c = let s = c in let e = c.loop_area.ensures ∙ ap (λ a. sumℤ (steps (step_at (decode s.args.room.now s.args.words.now s.args.reals.now) a) (closed c.rim.result.now))) c.face_axis-axis.ensures ∙ ap (λ (l : List ℕ). sumℤ (steps (step_at (decode s.args.room.now s.args.words.now s.args.reals.now) (face_axis (decode s.args.room.now s.args.words.now s.args.reals.now) s.args.f)) (closed l))) c.rim.ensures in held-bits c.loop_area.result (subst (λ (z : ℤ). nat_abs z ≤ 2 ^ 62) (sym e) (area-held s.args.room.now s.args.words.now s.args.reals.now s.args.f s.requires.f_value (lists_of s.args.room.now s.args.words.now s.args.reals.now s.requires.fit)))

pub returns : goal.returns
unfolding face_area
returns c = let s = c in let e = c.loop_area.ensures ∙ ap (λ a. sumℤ (steps (step_at (decode s.args.room.now s.args.words.now s.args.reals.now) a) (closed c.rim.result.now))) c.face_axis-axis.ensures ∙ ap (λ (l : List ℕ). sumℤ (steps (step_at (decode s.args.room.now s.args.words.now s.args.reals.now) (face_axis (decode s.args.room.now s.args.words.now s.args.reals.now) s.args.f)) (closed l))) c.rim.ensures in
    let held = subst (λ (z : ℤ). nat_abs z ≤ 2 ^ 62) (sym e) (area-held s.args.room.now s.args.words.now s.args.reals.now s.args.f s.requires.f_value (lists_of s.args.room.now s.args.words.now s.args.reals.now s.requires.fit)) in
    let is = c.size.ensures ∙ ap nat_abs (plain c.loop_area.result held ∙ e ∙ sym (area-is s.args.room.now s.args.words.now s.args.reals.now s.args.f)) in
    (is, subst (λ n. n ≤ 2 ^ 42) (sym is) (area_small s.args.room.now s.args.words.now s.args.reals.now s.args.f s.requires.f_value (lists_of s.args.room.now s.args.words.now s.args.reals.now s.requires.fit)))
