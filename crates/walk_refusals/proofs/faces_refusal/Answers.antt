-- `walk_refusals::faces_refusal` meets its contract: each way out is the first test that fails. Assumes nothing.
use mathlib.Core.Path.{◌≡◌, sym, ap, ◌∙◌}
use mathlib.Core.Bool.{false, true}
use borrow.Author.Rules.{rules}
use borrow.Author.Tests.{not-true, not-false}
use Rattle.meaning.specs.Walks.{faces_refusal}
use Rattle.memory_layout.specs.Decode.{decode}
use Rattle.memory_layout.specs.Readable.{readable}
use Rattle.memory_layout.specs.Laws.{fit_of, lists_of}
use Rattle.walk_paths.specs.Paths.{body_followed}
use Rattle.geom_lines_planes.specs.Refuse.{◌unless◌}
use Rattle.walk_answers.specs.Laws.{faces-refusal, refused-9, refused-8, refused-not}
use Rattle.walk_refusals.proofs.faces_refusal.Goals as goal

pub returns-then-not-readable : goal.returns-then-not-readable
returns-then-not-readable c =
    let s = c in
    refused-9 (readable s.args.room.now s.args.words.now s.args.reals.now) s.args.enough (faces_refusal (decode s.args.room.now s.args.words.now s.args.reals.now) s.args.body) (sym c.readable.ensures ∙ c.if-not-readable.true)

pub returns-then-not-enough : goal.returns-then-not-enough
returns-then-not-enough c =
    let s = c in
    refused-8 (readable s.args.room.now s.args.words.now s.args.reals.now) s.args.enough (faces_refusal (decode s.args.room.now s.args.words.now s.args.reals.now) s.args.body) (sym c.readable.ensures ∙ c.if-not-readable.false) (c.if-not-enough.true)

pub body_followed-requires : goal.body_followed-requires
body_followed-requires c =
    let s = c in
    lists_of s.args.room.now s.args.words.now s.args.reals.now (fit_of s.args.room.now s.args.words.now s.args.reals.now (sym c.readable.ensures ∙ c.if-not-readable.false))

pub returns-then-not-body_followed : goal.returns-then-not-body_followed
returns-then-not-body_followed c =
    let s = c in
    let none : body_followed s.args.room.now s.args.words.now s.args.body ≡ false = sym c.body_followed.ensures ∙ c.if-not-body_followed.true in
    refused-not (readable s.args.room.now s.args.words.now s.args.reals.now) s.args.enough (faces_refusal (decode s.args.room.now s.args.words.now s.args.reals.now) s.args.body) (sym c.readable.ensures ∙ c.if-not-readable.false) (c.if-not-enough.false) 2 (sym (faces-refusal s.args.room.now s.args.words.now s.args.reals.now s.args.body ∙ ap (λ t. 2 unless t) none))

pub returns : goal.returns
returns c =
    let s = c in
    let all : body_followed s.args.room.now s.args.words.now s.args.body ≡ true = sym c.body_followed.ensures ∙ c.if-not-body_followed.false in
    refused-not (readable s.args.room.now s.args.words.now s.args.reals.now) s.args.enough (faces_refusal (decode s.args.room.now s.args.words.now s.args.reals.now) s.args.body) (sym c.readable.ensures ∙ c.if-not-readable.false) (c.if-not-enough.false) 0 (sym (faces-refusal s.args.room.now s.args.words.now s.args.reals.now s.args.body ∙ ap (λ t. 2 unless t) all))
