-- `inquire_tally::solid_tally` meets its contract. Assumes nothing.
use native.Mathlib.Omega.{arith}
use mathlib.Core.Path.{◌≡◌, sym, ap, ◌∙◌}
use mathlib.Core.Bool.{true, false}
use borrow.Author.Tests.{not-true, not-false}
use lib.ListN.{length}
use Rattle.meaning.specs.Lists.{joined}
use Rattle.meaning.specs.Inquire.{is_solid}
use Rattle.memory_layout.specs.Layout.{word, words_of}
use Rattle.memory_layout.specs.Decode.{decode, kind_of}
use Rattle.memory_layout.specs.Laws.{lists_of, words_inside}
use Rattle.memory_layout.proofs.Laws.{words-length}
use Rattle.inquire_regions.specs.Regions.{tally_of, region_sides}
use Rattle.inquire_regions.specs.Whole.{regions-whole}
use Rattle.inquire_tally.specs.Laws.{not-solid, solid-tallied}
use borrow.Author.Rules.{rules}
use Rattle.inquire_tally.proofs.solid_tally.Goals as goal

pub words_of-w-requires : goal.words_of-w-requires
words_of-w-requires c =
    let s = c in
    let l = lists_of s.args.room.now s.args.words.now s.args.reals.now s.requires.fit in
    let d = s.requires.edged.looped.faced.shelled.body in
    record { small = l.small; inside = (words_inside s.args.room.now s.args.words.now 0 s.args.body l (omega arith) d) }

pub bounds-w-0 : goal.bounds-w-0
bounds-w-0 c =
    let s = c in
    let l = lists_of s.args.room.now s.args.words.now s.args.reals.now s.requires.fit in
    let d = s.requires.edged.looped.faced.shelled.body in
    omega (arith, ap length c.words_of-w.ensures, words-length s.args.room.now s.args.words.now 0 s.args.body (words_inside s.args.room.now s.args.words.now 0 s.args.body l (omega arith) d))

pub returns-then-not-is_solid : goal.returns-then-not-is_solid
returns-then-not-is_solid c =
    let s = c in
    let kind : is_solid (kind_of (word (words_of s.args.room.now s.args.words.now 0 s.args.body) 0)) ≡ false = sym (c.is_solid.ensures ∙ ap (λ t. is_solid (kind_of (word t 0))) c.words_of-w.ensures) ∙ c.if-not-is_solid.true in
    c.refused_tally.ensures ∙ not-solid s.args.whole s.args.room.now s.args.words.now s.args.reals.now s.args.body kind

pub list-requires : goal.list-requires
list-requires c =
    let s = c in
    let l = lists_of s.args.room.now s.args.words.now s.args.reals.now s.requires.fit in
    let d = s.requires.edged.looped.faced.shelled.body in
    record { lists = l; j_bound = (omega arith, d) }

pub regions_tally-requires : goal.regions_tally-requires
regions_tally-requires c =
    let s = c in
    record { fit = s.requires.fit; regions_value = rw c.list.ensures (regions-whole s.args.room.now s.args.words.now s.args.reals.now s.args.body (lists_of s.args.room.now s.args.words.now s.args.reals.now s.requires.fit) s.requires.edged) }

pub returns : goal.returns
returns c =
    let s = c in
    let kind : is_solid (kind_of (word (words_of s.args.room.now s.args.words.now 0 s.args.body) 0)) ≡ true = sym (c.is_solid.ensures ∙ ap (λ t. is_solid (kind_of (word t 0))) c.words_of-w.ensures) ∙ c.if-not-is_solid.false in
    c.regions_tally.ensures ∙ ap (λ t. tally_of s.args.whole (decode s.args.room.now s.args.words.now s.args.reals.now) (joined (region_sides (decode s.args.room.now s.args.words.now s.args.reals.now)) t)) c.list.ensures ∙ solid-tallied s.args.whole s.args.room.now s.args.words.now s.args.reals.now s.args.body kind
