-- `split_fin_tests::fins::fins_refusal` meets its contract: the first refusal goes to the label. Assumes nothing.
use Rattle.std.specs.Prelude.{◌+◌, ◌<◌, ◌≡◌, length, get_or}
use Rattle.std.proofs.Common.{arith, sym, ap, ◌∙◌, take_all}
use Rattle.meaning.specs.Lists.{count}
use Rattle.meaning_list_laws.specs.Lists.{count_none}
use Rattle.memory_layout.specs.Laws.{lists_of}
use Rattle.split_fins.specs.Laws.{count_turn}
use Rattle.split_fin_tests.specs.Laws.{count-part, used, times, held, at-use, owner-there, at_count, at-face, next-fin, no-fin-left}
use Rattle.split_fin_tests.proofs.fins.fins_refusal.Goals as goal

pub use_refusal-n-requires-clause-lists : goal.use_refusal-n-requires-clause-lists
use_refusal-n-requires-clause-lists c = lists_of c.args.room.now c.args.words.now c.args.reals.now c.requires.fit

pub owner_of-owner-requires-clause-lists : goal.owner_of-owner-requires-clause-lists
owner_of-owner-requires-clause-lists c = lists_of c.args.room.now c.args.words.now c.args.reals.now c.requires.fit

pub list-entries-requires-clause-lists : goal.list-entries-requires-clause-lists
list-entries-requires-clause-lists c = lists_of c.args.room.now c.args.words.now c.args.reals.now c.requires.fit

pub list-entries-requires-clause-j_bound : goal.list-entries-requires-clause-j_bound
list-entries-requires-clause-j_bound c =
    let l = c.args.fins.now in
    let k = c.fins.k in
    let e = c.args.edge in
    let cut = c.args.cut in
    let so_far = c.fins.invariant.1 in
    let h : k < length l = c.fins-test.true in
    let u : used c.args.room.now c.args.words.now c.args.reals.now e cut l k ≡ 0 = sym c.use_refusal-n.ensures ∙ c.if-n-ne0.false in
    (omega arith, rw c.owner_of-owner.ensures (owner-there c.args.room.now c.args.words.now c.args.reals.now e cut l k h so_far u))

pub loop-entry-init : goal.loop-entry-init
loop-entry-init c = (omega arith, sym (count_none _))

pub loop-entry-preserved : goal.loop-entry-preserved
loop-entry-preserved c = (c.if-times-gt1.false, count_turn _ c.list-entries.result.now c.loop-entry.entry-index _ _ c.loop-entry-test.true c.loop-entry.invariant.1 c.one_if-times.ensures)

pub face_of-requires-clause-lists : goal.face_of-requires-clause-lists
face_of-requires-clause-lists c = lists_of c.args.room.now c.args.words.now c.args.reals.now c.requires.fit

pub face_of-requires-clause-owner_bound : goal.face_of-requires-clause-owner_bound
face_of-requires-clause-owner_bound c =
    let l = c.args.fins.now in
    let k = c.fins.k in
    let e = c.args.edge in
    let cut = c.args.cut in
    let so_far = c.fins.invariant.1 in
    let h : k < length l = c.fins-test.true in
    let u : used c.args.room.now c.args.words.now c.args.reals.now e cut l k ≡ 0 = sym c.use_refusal-n.ensures ∙ c.if-n-ne0.false in
    rw c.owner_of-owner.ensures (owner-there c.args.room.now c.args.words.now c.args.reals.now e cut l k h so_far u)

pub fins-preserved : goal.fins-preserved
fins-preserved c =
    let l = c.args.fins.now in
    let k = c.fins.k in
    let e = c.args.edge in
    let cut = c.args.cut in
    let so_far = c.fins.invariant.1 in
    let h : k < length l = c.fins-test.true in
    let u : used c.args.room.now c.args.words.now c.args.reals.now e cut l k ≡ 0 = sym c.use_refusal-n.ensures ∙ c.if-n-ne0.false in
    let same : count (get_or l k 0) c.list-entries.result.now ≡ times c.args.room.now c.args.words.now c.args.reals.now e cut l k = rw (c.list-entries.ensures, c.owner_of-owner.ensures) in
    let all = c.loop-entry.invariant.1 ∙ ap (count (get_or l k 0)) (take_all c.loop-entry.entry-index _ (omega arith)) in
    let t : times c.args.room.now c.args.words.now c.args.reals.now e cut l k ≡ 1 = sym same ∙ sym all ∙ c.if-times-ne1.false in
    let f : c.face_refusal-n.result ≡ held c.args.room.now c.args.words.now c.args.reals.now e cut l k = rw (c.face_refusal-n.ensures, c.face_of.ensures, c.owner_of-owner.ensures) in
    (c.if-n-ne0-2.false, next-fin c.args.room.now c.args.words.now c.args.reals.now e cut l k h so_far u t (sym f ∙ c.if-n-ne0-2.false))

pub returns-after-fins : goal.returns-after-fins
returns-after-fins c = c.fins.invariant.0 ∙ no-fin-left c.args.room.now c.args.words.now c.args.reals.now c.args.edge c.args.cut c.args.fins.now c.fins.k c.fins.invariant.1 (omega arith)

pub returns-then-n-ne0 : goal.returns-then-n-ne0
returns-then-n-ne0 c =
    let l = c.args.fins.now in
    let k = c.fins.k in
    let e = c.args.edge in
    let cut = c.args.cut in
    let so_far = c.fins.invariant.1 in
    let h : k < length l = c.fins-test.true in
    at-use c.args.room.now c.args.words.now c.args.reals.now e cut l k h so_far _ c.use_refusal-n.ensures c.if-n-ne0.true

pub returns-then-times-gt1 : goal.returns-then-times-gt1
returns-then-times-gt1 c =
    let l = c.args.fins.now in
    let k = c.fins.k in
    let e = c.args.edge in
    let cut = c.args.cut in
    let so_far = c.fins.invariant.1 in
    let h : k < length l = c.fins-test.true in
    let u : used c.args.room.now c.args.words.now c.args.reals.now e cut l k ≡ 0 = sym c.use_refusal-n.ensures ∙ c.if-n-ne0.false in
    let same : count (get_or l k 0) c.list-entries.result.now ≡ times c.args.room.now c.args.words.now c.args.reals.now e cut l k = rw (c.list-entries.ensures, c.owner_of-owner.ensures) in
    let q = count_turn (get_or l k 0) c.list-entries.result.now c.loop-entry.entry-index _ _ c.loop-entry-test.true c.loop-entry.invariant.1 c.one_if-times.ensures in
    let p = count-part (get_or l k 0) (c.loop-entry.entry-index + 1) c.list-entries.result.now in
    at_count c.args.room.now c.args.words.now c.args.reals.now e cut l k h so_far u (λ t. omega arith)

pub returns-then-times-ne1 : goal.returns-then-times-ne1
returns-then-times-ne1 c =
    let l = c.args.fins.now in
    let k = c.fins.k in
    let e = c.args.edge in
    let cut = c.args.cut in
    let so_far = c.fins.invariant.1 in
    let h : k < length l = c.fins-test.true in
    let u : used c.args.room.now c.args.words.now c.args.reals.now e cut l k ≡ 0 = sym c.use_refusal-n.ensures ∙ c.if-n-ne0.false in
    let same : count (get_or l k 0) c.list-entries.result.now ≡ times c.args.room.now c.args.words.now c.args.reals.now e cut l k = rw (c.list-entries.ensures, c.owner_of-owner.ensures) in
    let all = c.loop-entry.invariant.1 ∙ ap (count (get_or l k 0)) (take_all c.loop-entry.entry-index _ (omega arith)) in
    at_count c.args.room.now c.args.words.now c.args.reals.now e cut l k h so_far u (λ t. c.if-times-ne1.true (all ∙ same ∙ t))

pub returns-then-n-ne0-2 : goal.returns-then-n-ne0-2
returns-then-n-ne0-2 c =
    let l = c.args.fins.now in
    let k = c.fins.k in
    let e = c.args.edge in
    let cut = c.args.cut in
    let so_far = c.fins.invariant.1 in
    let h : k < length l = c.fins-test.true in
    let u : used c.args.room.now c.args.words.now c.args.reals.now e cut l k ≡ 0 = sym c.use_refusal-n.ensures ∙ c.if-n-ne0.false in
    let same : count (get_or l k 0) c.list-entries.result.now ≡ times c.args.room.now c.args.words.now c.args.reals.now e cut l k = rw (c.list-entries.ensures, c.owner_of-owner.ensures) in
    let all = c.loop-entry.invariant.1 ∙ ap (count (get_or l k 0)) (take_all c.loop-entry.entry-index _ (omega arith)) in
    let t : times c.args.room.now c.args.words.now c.args.reals.now e cut l k ≡ 1 = sym same ∙ sym all ∙ c.if-times-ne1.false in
    let f : c.face_refusal-n.result ≡ held c.args.room.now c.args.words.now c.args.reals.now e cut l k = rw (c.face_refusal-n.ensures, c.face_of.ensures, c.owner_of-owner.ensures) in
    at-face c.args.room.now c.args.words.now c.args.reals.now e cut l k h so_far _ u t f c.if-n-ne0-2.true
