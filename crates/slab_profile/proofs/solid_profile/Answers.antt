-- `slab_profile::solid_profile` meets its contract. Assumes nothing.
use mathlib.Core.Path.{◌≡◌, sym, ap, ◌∙◌}
use mathlib.Core.Bool.{true, false}
use Prim.Native.Nat.{ℕ}
use mathlib.Core.List.{List}
use lib.ListN.{length}
use borrow.Author.Tests.{not-true, not-false}
use Rattle.meaning.specs.Inquire.{is_solid}
use Rattle.memory_layout.specs.Layout.{word, words_of}
use Rattle.memory_layout.specs.Decode.{decode, kind_of}
use Rattle.memory_layout.specs.Laws.{lists_of, words_inside}
use Rattle.memory_layout.proofs.Laws.{words-length}
use Rattle.slab_profile.specs.Laws.{told-refused, told_same, solid-not, solid-is}
use borrow.Author.Rules.{rules}
use native.Mathlib.Omega.{arith}
use Rattle.slab_profile.proofs.solid_profile.Goals as goal

pub words_of-w-requires : goal.words_of-w-requires
words_of-w-requires c = let s = c in let l = lists_of s.args.room.now s.args.words.now s.args.reals.now s.requires.fit in record { small = l.small; inside = words_inside s.args.room.now s.args.words.now 0 s.args.body l (omega arith) s.requires.edged.looped.faced.shelled.body }

pub bounds-w-0 : goal.bounds-w-0
bounds-w-0 c = let s = c in let l = lists_of s.args.room.now s.args.words.now s.args.reals.now s.requires.fit in omega (arith, ap length c.words_of-w.ensures, words-length s.args.room.now s.args.words.now 0 s.args.body (words_inside s.args.room.now s.args.words.now 0 s.args.body l (omega arith) s.requires.edged.looped.faced.shelled.body))

pub returns-then-not-is_solid : goal.returns-then-not-is_solid
unfolding decode
returns-then-not-is_solid c = let s = c in let kind : is_solid (kind_of (word (words_of s.args.room.now s.args.words.now 0 s.args.body) 0)) ≡ false = sym (c.is_solid.ensures ∙ ap (λ (t : List ℕ). is_solid (kind_of (word t 0))) c.words_of-w.ensures) ∙ c.if-not-is_solid.true in
    record { told = told_same (decode s.args.room.now s.args.words.now s.args.reals.now) s.args.body 6 _ _ _ _ (solid-not (decode s.args.room.now s.args.words.now s.args.reals.now) s.args.body (length s.args.areas.now) kind) (told-refused (decode s.args.room.now s.args.words.now s.args.reals.now) s.args.body 6 s.args.areas.now (λ z. omega arith)); faces_after = s.requires.faces_value; edges_after = s.requires.edges_value }

pub walked-requires : goal.walked-requires
walked-requires c = let s = c in record { fit = s.requires.fit; edged = s.requires.edged; faces_value = s.requires.faces_value; edges_value = s.requires.edges_value }

pub returns : goal.returns
unfolding decode
returns c = let s = c in let kind : is_solid (kind_of (word (words_of s.args.room.now s.args.words.now 0 s.args.body) 0)) ≡ true = sym (c.is_solid.ensures ∙ ap (λ (t : List ℕ). is_solid (kind_of (word t 0))) c.words_of-w.ensures) ∙ c.if-not-is_solid.false in
    let r = c.walked.ensures in record { told = told_same (decode s.args.room.now s.args.words.now s.args.reals.now) s.args.body _ _ _ _ _ (solid-is (decode s.args.room.now s.args.words.now s.args.reals.now) s.args.body (length s.args.areas.now) kind) r.told; faces_after = r.faces_after; edges_after = r.edges_after }
