-- `slab_faces::level_face` meets its contract. Assumes nothing.
use Rattle.slab_faces.specs.Laws.{face-lacks, face-level}
use Rattle.memory_layout.specs.Laws.{lists_of}
use mathlib.Core.Path.{sym, ap, ◌∙◌, subst, ◌≡◌}
use mathlib.Core.Bool.{true}
use Rattle.inquire_sides.specs.Laws.{face-there, rim-whole, rim-of}
use Rattle.meaning.specs.Lists.{all}
use Rattle.meaning.specs.Refuse.{first_of}
use Rattle.inquire_fin_starts.specs.Starts.{fin_whole, start_number, Rim}
use Prim.Native.Nat.{ℕ}
use mathlib.Core.List.{List}
use Rattle.slab_faces.proofs.level_face.Goals as goal

pub rim-fins-requires : goal.rim-fins-requires
rim-fins-requires c = let s = c in record { lists = lists_of s.args.room.now s.args.words.now s.args.reals.now s.requires.fit; face_value = s.requires.f_value; face_len = s.requires.f_len }

pub starts_refusal-requires : goal.starts_refusal-requires
starts_refusal-requires c = let s = c in record { lists = lists_of s.args.room.now s.args.words.now s.args.reals.now s.requires.fit; fins_value = subst (λ (l : List ℕ). all (fin_whole s.args.room.now s.args.words.now) l ≡ true) (sym c.rim-fins.ensures) (rim-whole s.args.room.now s.args.words.now s.args.f s.requires.f_value s.requires.f_len) }

pub returns-then-starts_refusal-ne0 : goal.returns-then-starts_refusal-ne0
returns-then-starts_refusal-ne0 c = let s = c in face-lacks s.args.room.now s.args.words.now s.args.reals.now s.args.f _ c.rim-fins.ensures (λ z. c.if-starts_refusal-ne0.true (c.starts_refusal.ensures ∙ z))

pub face_axis-requires : goal.face_axis-requires
face_axis-requires c = let s = c in record { fit = s.requires.fit; f_bound = face-there s.args.room.now s.args.words.now s.args.f s.requires.f_value }

pub level-requires : goal.level-requires
level-requires c = let s = c in record { fit = s.requires.fit; rim = subst (Rim s.args.room.now s.args.words.now) (sym c.rim-fins.ensures) (rim-of s.args.room.now s.args.words.now s.args.f s.requires.f_value s.requires.f_len (ap (first_of (start_number s.args.room.now s.args.words.now)) (sym c.rim-fins.ensures) ∙ sym c.starts_refusal.ensures ∙ c.if-starts_refusal-ne0.false)) }

pub returns : goal.returns
returns c = let s = c in face-level s.args.room.now s.args.words.now s.args.reals.now s.args.f _ _ _ c.rim-fins.ensures (sym c.starts_refusal.ensures ∙ c.if-starts_refusal-ne0.false) c.face_axis.ensures c.level.ensures
