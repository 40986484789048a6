-- `memory_lists::list_entry` meets its contract. Assumes nothing.
use Prim.Native.Nat.{ℕ, ◌<◌}
use mathlib.Core.Path.{◌≡◌, sym, ap, ◌∙◌}
use mathlib.Core.List.{List}
use native.Mathlib.Omega.{arith}
use lib.ListN.{length}
use Rattle.meaning_list_laws.specs.Tests.{refused-answer}
use Rattle.memory_layout.specs.declared.entries.Entry.TheVariants.{Is, Refused}
use Rattle.memory_layout.specs.Layout.{word}
use Rattle.memory_layout.specs.Entries.{list_of, entry_refusal, entry_answer}
use Rattle.memory_layout.specs.Laws.{lists_of, limit-le, entry-standing}
use Rattle.memory_layout.proofs.Laws.{listed_le}
use borrow.Author.Rules.{rules}
use Rattle.memory_lists.proofs.list_entry.Goals as goal

pub returns-then-n-ne0 : goal.returns-then-n-ne0
unfolding entry_answer
returns-then-n-ne0 c =
    let e = c.entry_refusal-n.ensures in
    rw (← e) (refused-answer Is Refused c.entry_refusal-n.result _ c.if-n-ne0.true)

pub list-requires : goal.list-requires
list-requires c =
    let s = c in
    let r = s.args.room.now in
    let w = s.args.words.now in
    let x = s.args.reals.now in
    let j = s.args.j in
    let i = s.args.i in
    let z : entry_refusal r w x j i s.args.place ≡ 0 = sym c.entry_refusal-n.ensures ∙ c.if-n-ne0.false in
    let t = entry-standing r w x j i s.args.place z in
    record { lists = lists_of r w x t.fit; j_bound = (t.list, t.record-there) }

pub offset_bounds-list-place : goal.offset_bounds-list-place
offset_bounds-list-place c =
    let s = c in
    let r = s.args.room.now in
    let w = s.args.words.now in
    let x = s.args.reals.now in
    let j = s.args.j in
    let i = s.args.i in
    let z : entry_refusal r w x j i s.args.place ≡ 0 = sym c.entry_refusal-n.ensures ∙ c.if-n-ne0.false in
    let t = entry-standing r w x j i s.args.place z in
    let h = t.entry in
    let l = listed_le r w j i (lists_of r w x t.fit) t.list t.record-there in
    let m = limit-le j t.list in
    record { fits = omega arith }

pub bounds-list-place : goal.bounds-list-place
bounds-list-place c =
    let s = c in
    let r = s.args.room.now in
    let w = s.args.words.now in
    let x = s.args.reals.now in
    let j = s.args.j in
    let i = s.args.i in
    let z : entry_refusal r w x j i s.args.place ≡ 0 = sym c.entry_refusal-n.ensures ∙ c.if-n-ne0.false in
    let t : s.args.place < length (list_of r w j i) = (entry-standing r w x j i s.args.place z).entry in
    rw c.list.ensures t

pub returns : goal.returns
unfolding entry_answer
returns c =
    let s = c in
    let r = s.args.room.now in
    let w = s.args.words.now in
    let x = s.args.reals.now in
    let j = s.args.j in
    let i = s.args.i in
    let z : entry_refusal r w x j i s.args.place ≡ 0 = sym c.entry_refusal-n.ensures ∙ c.if-n-ne0.false in
    rw z (ap (λ (l : List ℕ). Is (word l s.args.place)) c.list.ensures)
