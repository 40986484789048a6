use Rattle.split_writes.specs.Written.{words_split}
use Rattle.split_pieces.specs.Pieces.{fin_words}
use lib.ListN.{length}
use mathlib.Core.Path.{sym, ap, ◌∙◌}
use native.Mathlib.Omega.{arith}
use borrow.Author.Rules.{rules}
use Rattle.split_writes.proofs.write_read.Goals as goal

pub fin_words-requires : goal.fin_words-requires
fin_words-requires c =
    let s = c in
    let e = c.copy_fins.ensures in
    record { lists = s.requires.listing.lists; present = rw e s.requires.listing.present; p_bound = (omega arith, s.requires.owners_len ∙ sym (ap length e)) }

pub fin_words-requires-2 : goal.fin_words-requires-2
fin_words-requires-2 c =
    let s = c in
    let e = c.copy_fins.ensures in
    record { lists = s.requires.listing.lists; present = rw e s.requires.listing.present; p_bound = (omega arith, s.requires.senses_len ∙ sym (ap length e)) }

pub write_with-requires : goal.write_with-requires
write_with-requires c =
    let s = c in
    let e = c.copy_fins.ensures in
    let o = c.fin_words.ensures ∙ ap (fin_words s.args.room.now s.args.words.now 0) e in
    let q = c.fin_words-2.ensures ∙ ap (fin_words s.args.room.now s.args.words.now 2) e in
    rw (e, o, q) s.requires.listing.ready

pub returns : goal.returns
unfolding words_split
returns c =
    let s = c in
    let e = c.copy_fins.ensures in
    let o = c.fin_words.ensures ∙ ap (fin_words s.args.room.now s.args.words.now 0) e in
    let q = c.fin_words-2.ensures ∙ ap (fin_words s.args.room.now s.args.words.now 2) e in
    rw (c.write_with.ensures, e, o, q)
