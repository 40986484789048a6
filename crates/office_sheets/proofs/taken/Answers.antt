-- `office_sheets::taken` meets its contract. Assumes nothing.
use Prim.Native.Nat.{◌*◌, ◌^◌, ◌≤◌}
use mathlib.Core.Path.{◌≡◌, sym, ◌∙◌, subst}
use mathlib.Core.Bool.{true}
use borrow.Author.Rules.{rules}
use borrow.Author.Tests.{not-true, not-false}
use Rattle.meaning_sheets.specs.Sheets.{sheet_readable}
use Rattle.inquire_stone.specs.declared.Stone.{Stone}
use Rattle.sheet_words.specs.Words.{sheet_of}
use Rattle.office_sheets.specs.Laws.{unread, above, there, sums-held}
use Rattle.office_sheets.proofs.taken.Goals as goal

pub returns-then-not-readable : goal.returns-then-not-readable
returns-then-not-readable c =
    let s = c in
    let u = unread s.args.room.now s.args.words.now s.args.reals.now s.args.office s.args.body s.args.faces.now s.args.sheet (sym c.readable.ensures ∙ c.if-not-readable.true) in
    record { refused = u.0; sheet = u.1; faces = c.clear.ensures }

pub returns-then-office-gt1 : goal.returns-then-office-gt1
returns-then-office-gt1 c =
    let s = c in
    let u = above s.args.room.now s.args.words.now s.args.reals.now s.args.office s.args.body s.args.faces.now s.args.sheet (sym c.readable.ensures ∙ c.if-not-readable.false) c.unknown_tag.result c.if-office-gt1.true c.unknown_tag.ensures in
    record { refused = u.0; sheet = u.1; faces = c.clear-then-office-gt1.ensures }

pub taken_in-requires : goal.taken_in-requires
taken_in-requires c =
    let s = c in
    record { sheet_value = sym c.readable.ensures ∙ c.if-not-readable.false; plus_bound = subst (λ (t : Stone). (t.plus ≤ 3 * 2 ^ 60) × (t.minus ≤ 3 * 2 ^ 60)) (sym c.body_stone-stone.ensures.answer) (sums-held s.args.room.now s.args.words.now s.args.reals.now _ s.args.faces.now) }

pub returns : goal.returns
returns c =
    let s = c in
    let t = c.body_stone-stone.ensures in
    let u = there s.args.room.now s.args.words.now s.args.reals.now s.args.office s.args.body s.args.faces.now s.args.sheet (sym c.readable.ensures ∙ c.if-not-readable.false) _ (c.body_for-seen.ensures s.args.room.now s.args.reals.now) _ t.answer c.if-office-gt1.false _ c.taken_in.ensures in
    record { refused = u.0; sheet = u.1; faces = t.faces }
