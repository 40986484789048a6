use Rattle.split_edge.specs.Rooms.{office-accepted, accepted, slots, listing, opening}
use Rattle.split_edge.specs.After.{office_split_answer, office_split_words, office_split_reals}
use Rattle.station_answers.specs.declared.Split.TheVariants.{Is, Refused}
use Rattle.split_place.specs.SplitNumber.{office_split_number, split_number}
use Rattle.memory_writes.specs.Kept.{refused-keeps}
use Rattle.meaning_list_laws.specs.Tests.{refused-answer}
use mathlib.Core.Path.{◌≡◌, refl, sym, ◌∙◌}
use native.Mathlib.Omega.{arith}
use borrow.Author.Rules.{rules}
use Rattle.split_edge.proofs.split_line_edge.Goals as goal

pub returns-then-n-ne0 : goal.returns-then-n-ne0
unfolding office_split_answer office_split_words office_split_reals
returns-then-n-ne0 c =
    let e = c.split_refusal-n.ensures in
    let n = c.split_refusal-n.result in record { answer = rw (← e) (refused-answer Is Refused n _ c.if-n-ne0.true); tables = rw (← e) (refused-keeps n _ _ c.if-n-ne0.true); floats = rw (← e) (refused-keeps n _ _ c.if-n-ne0.true) }

pub overflow_cast-split : goal.overflow_cast-split
overflow_cast-split c =
    let s = c in
    let z : split_number s.args.room.now s.args.words.now s.args.reals.now s.args.edge s.args.fraction ≡ 0 = (office-accepted s.args.room.now s.args.words.now s.args.reals.now s.args.office s.args.edge s.args.fraction (sym c.split_refusal-n.ensures ∙ c.if-n-ne0.false)).1 in
    let f = slots _ _ _ _ _ (accepted _ _ _ _ _ z) in
    let h = (opening _ _ _ _ _ (accepted _ _ _ _ _ z)).there in
    omega (arith, f.edges, f.most-edges)

pub bounds-words-6 : goal.bounds-words-6
bounds-words-6 c =
    let s = c in
    let z : split_number s.args.room.now s.args.words.now s.args.reals.now s.args.edge s.args.fraction ≡ 0 = (office-accepted s.args.room.now s.args.words.now s.args.reals.now s.args.office s.args.edge s.args.fraction (sym c.split_refusal-n.ensures ∙ c.if-n-ne0.false)).1 in
    let l = (slots _ _ _ _ _ (accepted _ _ _ _ _ z)).counts in
    omega arith

pub bounds-words-7 : goal.bounds-words-7
bounds-words-7 c =
    let s = c in
    let z : split_number s.args.room.now s.args.words.now s.args.reals.now s.args.edge s.args.fraction ≡ 0 = (office-accepted s.args.room.now s.args.words.now s.args.reals.now s.args.office s.args.edge s.args.fraction (sym c.split_refusal-n.ensures ∙ c.if-n-ne0.false)).1 in
    let l = (slots _ _ _ _ _ (accepted _ _ _ _ _ z)).counts in
    omega arith

pub write_floats-requires : goal.write_floats-requires
write_floats-requires c =
    let s = c in
    let z : split_number s.args.room.now s.args.words.now s.args.reals.now s.args.edge s.args.fraction ≡ 0 = (office-accepted s.args.room.now s.args.words.now s.args.reals.now s.args.office s.args.edge s.args.fraction (sym c.split_refusal-n.ensures ∙ c.if-n-ne0.false)).1 in
    opening _ _ _ _ _ (accepted _ _ _ _ _ z)

pub write_split-requires : goal.write_split-requires
write_split-requires c =
    let s = c in
    let z : split_number s.args.room.now s.args.words.now s.args.reals.now s.args.edge s.args.fraction ≡ 0 = (office-accepted s.args.room.now s.args.words.now s.args.reals.now s.args.office s.args.edge s.args.fraction (sym c.split_refusal-n.ensures ∙ c.if-n-ne0.false)).1 in
    listing _ _ _ _ _ (accepted _ _ _ _ _ z)

pub returns : goal.returns
unfolding office_split_answer office_split_words office_split_reals
returns c =
    let s = c in
    let z : office_split_number s.args.room.now s.args.words.now s.args.reals.now s.args.office s.args.edge s.args.fraction ≡ 0 = sym c.split_refusal-n.ensures ∙ c.if-n-ne0.false in
    record { answer = rw z refl; tables = rw z c.write_split.ensures; floats = rw z c.write_floats.ensures }
