-- `memory_offices::body_for` meets its contract. Assumes nothing.
use Prim.Native.Nat.{◌+◌, ◌*◌, ◌<◌}
use mathlib.Core.List.{[]}
use mathlib.Core.Path.{◌≡◌, sym, ap, ◌∙◌}
use native.Mathlib.Omega.{arith}
use borrow.Author.Rules.{rules}
use Rattle.meaning.specs.Offices.{office_number}
use Rattle.memory_layout.specs.Layout.{word}
use Rattle.memory_layout.specs.Decode.{office_of}
use Rattle.memory_offices.specs.Laws.{body-place, missing-stays, own-stays, other-missing}
use Rattle.memory_offices.proofs.body_for.Goals as goal

pub returns-then-used-body : goal.returns-then-used-body
returns-then-used-body c room x = missing-stays room c.args.words.now x c.args.office c.args.body (rw c.word_in-used.ensures at c.if-used-body.true)

pub overflow_add-body_at : goal.overflow_add-body_at
overflow_add-body_at c =
    let b = c.args.body in
    let p : c.body_at.result ≡ 11 + 19 * b = c.body_at.ensures [] ∙ body-place [] b in
    let h : b < 4294967296 = search rules in
    omega arith

pub returns-then-office_of-office : goal.returns-then-office_of-office
returns-then-office_of-office c room x =
    let s = c in
    own-stays room s.args.words.now x s.args.office s.args.body (rw c.word_in-used.ensures at c.if-used-body.false)
    (sym (ap (λ a. office_number (office_of (word s.args.words.now (a + 1)))) (c.body_at.ensures room)) ∙ sym (ap (λ a. office_number (office_of a)) c.word_in-tag.ensures) ∙ sym c.office_of.ensures ∙ c.if-office_of-office.true)

pub returns : goal.returns
returns c room x =
    let s = c in
    c.word_in-used.ensures
    ∙ other-missing room s.args.words.now x s.args.office s.args.body (rw c.word_in-used.ensures at c.if-used-body.false)
    (λ e. c.if-office_of-office.false (c.office_of.ensures ∙ ap (λ a. office_number (office_of a)) c.word_in-tag.ensures ∙ ap (λ a. office_number (office_of (word s.args.words.now (a + 1)))) (c.body_at.ensures room) ∙ e))
