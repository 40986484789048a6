-- `memory_lists::list` meets its contract: the list stands whole in its record. Assumes nothing.
use Prim.Native.Nat.{ℕ}
use mathlib.Core.Path.{sym, ap, ◌∙◌, subst}
use mathlib.Core.List.{List}
use Rattle.memory_layout.specs.Layout.{word}
use Rattle.memory_layout.specs.Decode.{list_at}
use Rattle.memory_layout.specs.Entries.{list_places, list_of}
use Rattle.memory_layout.specs.Fit.{Held}
use Rattle.memory_layout.specs.Laws.{list_inside}
use Rattle.memory_layout.proofs.Laws.{list_held}
use borrow.Author.Rules.{rules}
use Rattle.memory_lists.proofs.list.Goals as goal

pub words_of-requires : goal.words_of-requires
words_of-requires c =
    let s = c in
    record { small = s.requires.lists.small; inside = list_inside s.args.room.now s.args.words.now s.args.j s.args.i s.requires.lists s.requires.j_bound.0 s.requires.j_bound.1 }

pub list_at-requires : goal.list_at-requires
list_at-requires c =
    let s = c in
    subst (λ (l : List ℕ). Held l (word list_places s.args.j)) (sym c.words_of.ensures)
    (list_held s.args.room.now s.args.words.now s.args.j s.args.i s.requires.lists s.requires.j_bound.0 s.requires.j_bound.1)

pub returns : goal.returns
unfolding list_of
returns c = c.list_at.ensures ∙ ap (λ (l : List ℕ). list_at l (word list_places c.args.j)) c.words_of.ensures
