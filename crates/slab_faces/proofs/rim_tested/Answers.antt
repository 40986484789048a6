-- `slab_faces::rim_tested` meets its contract. Assumes nothing.
use Rattle.slab_faces.specs.Laws.{fin-tested, rim-same, level-tested}
use Rattle.memory_layout.specs.Laws.{lists_of}
use Rattle.memory_layout.specs.Decode.{decode}
use mathlib.Core.Path.{◌≡◌, sym, ap, ◌∙◌, subst}
use mathlib.Core.Bool.{true}
use Rattle.inquire_sides.specs.Laws.{rim-whole}
use Rattle.meaning.specs.Lists.{all}
use Rattle.inquire_fin_starts.specs.Starts.{fin_whole}
use Prim.Native.Nat.{ℕ, suc}
use mathlib.Core.List.{List}
use Rattle.meaning.specs.Refuse.{first_refusal}
use Rattle.meaning_slabs.specs.Slabs.{steps, closed, broken_fin}
use Rattle.slab_fins.specs.Ends.{open_fin}
use Rattle.geom_lines_planes.specs.Refuse.{◌unless◌}
use Rattle.slab_faces.proofs.rim_tested.Goals as goal

pub rim-requires : goal.rim-requires
rim-requires c = let s = c in record { lists = lists_of s.args.room.now s.args.words.now s.args.reals.now s.requires.fit; face_value = s.requires.f_value; face_len = s.requires.f_len }

pub broken_fin-requires : goal.broken_fin-requires
broken_fin-requires c = let s = c in record { lists = lists_of s.args.room.now s.args.words.now s.args.reals.now s.requires.fit; fins_value = subst (λ (l : List ℕ). all (fin_whole s.args.room.now s.args.words.now) l ≡ true) (sym c.rim.ensures) (rim-whole s.args.room.now s.args.words.now s.args.f s.requires.f_value s.requires.f_len) }

pub returns-then-rule-eq-ENDS : goal.returns-then-rule-eq-ENDS
unfolding broken_fin
returns-then-rule-eq-ENDS c = let s = c in fin-tested s.args.room.now s.args.words.now s.args.reals.now s.args.f s.args.rule _ _ c.if-rule-eq-ENDS.true c.rim.ensures (c.broken_fin.ensures s.args.reals.now ∙ ap (λ l. first_refusal (steps (open_fin (decode s.args.room.now s.args.words.now s.args.reals.now)) (closed l))) (rim-same s.args.room.now s.args.words.now s.args.reals.now s.args.f _ c.rim.ensures))

pub level_face-requires : goal.level_face-requires
level_face-requires c = c.requires

pub returns : goal.returns
returns c = let s = c in c.unless_holds.ensures ∙ ap (λ t. suc s.args.f unless t) c.level_face.ensures ∙ level-tested (decode s.args.room.now s.args.words.now s.args.reals.now) s.args.rule s.args.f c.if-rule-eq-ENDS.false
