-- `slab_faces::normal_of` meets its contract. Assumes nothing.
use Rattle.memory_records.specs.Laws.{words-whole}
use Rattle.memory_layout.specs.Laws.{used-inside}
use Rattle.memory_layout.specs.Decode.{maybe_at, decode}
use Rattle.geom_carriers.specs.Queries.{the_plane}
use mathlib.Core.Path.{◌≡◌, ap, ◌∙◌}
use lib.ListN.{length}
use Rattle.meaning.specs.Lists.{the}
use Rattle.meaning.specs.Model.{surface}
use Prim.Native.Nat.{ℕ}
use mathlib.Core.List.{List}
use Rattle.geom_carriers.specs.Found.{Found}
use borrow.Author.Rules.{rules}
use native.Mathlib.Omega.{arith}
use Rattle.slab_faces.proofs.normal_of.Goals as goal

pub words_of-requires : goal.words_of-requires
words_of-requires c = let s = c in record { small = s.requires.fit.sized.small; inside = (used-inside s.args.room.now s.args.words.now s.args.reals.now 3 s.args.f s.requires.fit.sized (search rules) s.requires.f_bound).0 }

pub id_at-surface-requires : goal.id_at-surface-requires
id_at-surface-requires c = let s = c in let n : length c.words_of.result.now ≡ 24 = words-whole s.args.room.now s.args.words.now c.words_of.result.now 3 s.args.f c.words_of.ensures (used-inside s.args.room.now s.args.words.now s.args.reals.now 3 s.args.f s.requires.fit.sized (search rules) s.requires.f_bound).0 in (omega arith, omega arith)

pub overflow_cast-surface : goal.overflow_cast-surface
overflow_cast-surface c = omega arith

pub surface_found-requires : goal.surface_found-requires
surface_found-requires c = c.requires.fit.sized

pub returns : goal.returns
unfolding decode
returns c = let s = c in c.normal_in.ensures ∙ ap (λ (t : Found). (the_plane t).normal) (c.surface_found.ensures ∙ ap (surface (decode s.args.room.now s.args.words.now s.args.reals.now)) (c.id_at-surface.ensures ∙ ap (λ (l : List ℕ). the (maybe_at l 4)) c.words_of.ensures))
