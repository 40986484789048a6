-- `walk_refusals::edges_refusal` meets its contract: each way out is the first test that fails. Assumes nothing.
use mathlib.Core.Path.{◌≡◌, sym, ap, ◌∙◌}
use mathlib.Core.Bool.{false, true, ◌&&◌}
use borrow.Author.Rules.{rules}
use borrow.Author.Tests.{not-true, not-false}
use lib.ListN.{length}
use Rattle.meaning.specs.Walks.{faces_refusal}
use Rattle.memory_layout.specs.Decode.{decode}
use Rattle.memory_layout.specs.Readable.{readable}
use Rattle.walk_paths.specs.Paths.{faces_there, loops_followed}
use Rattle.walk_paths.specs.Laws.{faced-of}
use Rattle.meaning_list_laws.specs.Tests.{shut, and-false}
use Rattle.geom_lines_planes.specs.Refuse.{◌unless◌}
use Rattle.walk_answers.specs.Decoded.{refused_by}
use Rattle.walk_answers.specs.Laws.{faces-refusal, edges-refusal, refused-then, refused-before, accepted-faces, marked-zeros}
use Rattle.walk_refusals.proofs.edges_refusal.Goals as goal

pub returns-then-refused-ne0 : goal.returns-then-refused-ne0
returns-then-refused-ne0 c =
    let s = c in
    record { value = refused-before (readable s.args.room.now s.args.words.now s.args.reals.now) s.args.enough (faces_refusal (decode s.args.room.now s.args.words.now s.args.reals.now) s.args.body) _ c.faces_refusal-refused.ensures c.if-refused-ne0.true (2 unless (faces_there s.args.room.now s.args.words.now s.args.body && loops_followed s.args.room.now s.args.words.now s.args.body)) ∙ ap (refused_by (readable s.args.room.now s.args.words.now s.args.reals.now) s.args.enough) (sym (edges-refusal s.args.room.now s.args.words.now s.args.reals.now s.args.body)); marks_after = s.requires }

pub faces_there-requires : goal.faces_there-requires
faces_there-requires c =
    let s = c in
    let both = accepted-faces s.args.room.now s.args.words.now s.args.reals.now s.args.body s.args.enough (sym c.faces_refusal-refused.ensures ∙ c.if-refused-ne0.false) in record { lists = both.0; shelled = both.1 }

pub returns-then-not-faces_there : goal.returns-then-not-faces_there
returns-then-not-faces_there c =
    let s = c in
    let none : faces_there s.args.room.now s.args.words.now s.args.body ≡ false = sym c.faces_there.ensures ∙ c.if-not-faces_there.true in
    record { value = refused-then (readable s.args.room.now s.args.words.now s.args.reals.now) s.args.enough (faces_refusal (decode s.args.room.now s.args.words.now s.args.reals.now) s.args.body) (sym c.faces_refusal-refused.ensures ∙ c.if-refused-ne0.false) (faces_there s.args.room.now s.args.words.now s.args.body && loops_followed s.args.room.now s.args.words.now s.args.body) 2 (sym (ap (λ t. 2 unless t) (sym (shut (faces_there s.args.room.now s.args.words.now s.args.body) (loops_followed s.args.room.now s.args.words.now s.args.body) none)))) ∙ ap (refused_by (readable s.args.room.now s.args.words.now s.args.reals.now) s.args.enough) (sym (edges-refusal s.args.room.now s.args.words.now s.args.reals.now s.args.body)); marks_after = s.requires }

pub loops_followed-requires : goal.loops_followed-requires
loops_followed-requires c =
    let s = c in
    let a = accepted-faces s.args.room.now s.args.words.now s.args.reals.now s.args.body s.args.enough (sym c.faces_refusal-refused.ensures ∙ c.if-refused-ne0.false) in
    record { lists = a.0; faced = faced-of s.args.room.now s.args.words.now s.args.body a.1 (sym c.faces_there.ensures ∙ c.if-not-faces_there.false); marked = marked-zeros (length s.args.marks.now) _ s.requires }

pub returns-then-not-loops_followed : goal.returns-then-not-loops_followed
returns-then-not-loops_followed c =
    let s = c in
    let there : faces_there s.args.room.now s.args.words.now s.args.body ≡ true = sym c.faces_there.ensures ∙ c.if-not-faces_there.false in
    let none : loops_followed s.args.room.now s.args.words.now s.args.body ≡ false = sym c.loops_followed.ensures.value ∙ c.if-not-loops_followed.true in
    record { value = refused-then (readable s.args.room.now s.args.words.now s.args.reals.now) s.args.enough (faces_refusal (decode s.args.room.now s.args.words.now s.args.reals.now) s.args.body) (sym c.faces_refusal-refused.ensures ∙ c.if-refused-ne0.false) (faces_there s.args.room.now s.args.words.now s.args.body && loops_followed s.args.room.now s.args.words.now s.args.body) 2 (sym (ap (λ t. 2 unless (faces_there s.args.room.now s.args.words.now s.args.body && t)) none ∙ ap (λ t. 2 unless t) (and-false (faces_there s.args.room.now s.args.words.now s.args.body)))) ∙ ap (refused_by (readable s.args.room.now s.args.words.now s.args.reals.now) s.args.enough) (sym (edges-refusal s.args.room.now s.args.words.now s.args.reals.now s.args.body)); marks_after = c.loops_followed.ensures.marks_after }

pub returns : goal.returns
returns c =
    let s = c in
    let there : faces_there s.args.room.now s.args.words.now s.args.body ≡ true = sym c.faces_there.ensures ∙ c.if-not-faces_there.false in
    let all : loops_followed s.args.room.now s.args.words.now s.args.body ≡ true = sym c.loops_followed.ensures.value ∙ c.if-not-loops_followed.false in
    record { value = refused-then (readable s.args.room.now s.args.words.now s.args.reals.now) s.args.enough (faces_refusal (decode s.args.room.now s.args.words.now s.args.reals.now) s.args.body) (sym c.faces_refusal-refused.ensures ∙ c.if-refused-ne0.false) (faces_there s.args.room.now s.args.words.now s.args.body && loops_followed s.args.room.now s.args.words.now s.args.body) 0 (sym (ap (λ t. 2 unless (faces_there s.args.room.now s.args.words.now s.args.body && t)) all ∙ ap (λ t. 2 unless (t && true)) there)) ∙ ap (refused_by (readable s.args.room.now s.args.words.now s.args.reals.now) s.args.enough) (sym (edges-refusal s.args.room.now s.args.words.now s.args.reals.now s.args.body)); marks_after = c.loops_followed.ensures.marks_after }
