-- `walk_refusals::vertices_refusal` meets its contract: each way out is the first test that fails. Assumes nothing.
use mathlib.Core.Path.{◌≡◌, sym, ap, ◌∙◌}
use mathlib.Core.Bool.{false, true}
use borrow.Author.Rules.{rules}
use borrow.Author.Tests.{not-true, not-false}
use lib.ListN.{length}
use Rattle.meaning.specs.Walks.{edges_refusal}
use Rattle.memory_layout.specs.Decode.{decode}
use Rattle.memory_layout.specs.Readable.{readable}
use Rattle.walk_paths.specs.Paths.{edges_there}
use Rattle.geom_lines_planes.specs.Refuse.{◌unless◌}
use Rattle.walk_answers.specs.Decoded.{refused_by}
use Rattle.walk_answers.specs.Laws.{edges-refusal, vertices-refusal, refused-then, refused-before, accepted-edges, zeros-on, marked-zeros}
use Rattle.walk_refusals.proofs.vertices_refusal.Goals as goal

pub returns-then-refused-ne0 : goal.returns-then-refused-ne0
returns-then-refused-ne0 c =
    let s = c in
    record { value = refused-before (readable s.args.room.now s.args.words.now s.args.reals.now) s.args.enough (edges_refusal (decode s.args.room.now s.args.words.now s.args.reals.now) s.args.body) _ c.edges_refusal-refused.ensures.value c.if-refused-ne0.true (2 unless edges_there s.args.room.now s.args.words.now s.args.body) ∙ ap (refused_by (readable s.args.room.now s.args.words.now s.args.reals.now) s.args.enough) (sym (vertices-refusal s.args.room.now s.args.words.now s.args.reals.now s.args.body)); marks_after = c.edges_refusal-refused.ensures.marks_after }

pub edges_there-requires : goal.edges_there-requires
edges_there-requires c =
    let s = c in
    let a = accepted-edges s.args.room.now s.args.words.now s.args.reals.now s.args.body s.args.enough (sym c.edges_refusal-refused.ensures.value ∙ c.if-refused-ne0.false) in
    record { lists = a.0; looped = a.1; marked = marked-zeros (length s.args.marks.now) _ c.edges_refusal-refused.ensures.marks_after }

pub returns-then-not-edges_there : goal.returns-then-not-edges_there
returns-then-not-edges_there c =
    let s = c in
    let none : edges_there s.args.room.now s.args.words.now s.args.body ≡ false = sym c.edges_there.ensures.value ∙ c.if-not-edges_there.true in
    record { value = refused-then (readable s.args.room.now s.args.words.now s.args.reals.now) s.args.enough (edges_refusal (decode s.args.room.now s.args.words.now s.args.reals.now) s.args.body) (sym c.edges_refusal-refused.ensures.value ∙ c.if-refused-ne0.false) (edges_there s.args.room.now s.args.words.now s.args.body) 2 (sym (ap (λ t. 2 unless t) none)) ∙ ap (refused_by (readable s.args.room.now s.args.words.now s.args.reals.now) s.args.enough) (sym (vertices-refusal s.args.room.now s.args.words.now s.args.reals.now s.args.body)); marks_after = zeros-on s.args.marks.now c.edges_refusal-refused.new.marks _ c.edges_refusal-refused.ensures.marks_after c.edges_there.ensures.marks_after }

pub returns : goal.returns
returns c =
    let s = c in
    let all : edges_there s.args.room.now s.args.words.now s.args.body ≡ true = sym c.edges_there.ensures.value ∙ c.if-not-edges_there.false in
    record { value = refused-then (readable s.args.room.now s.args.words.now s.args.reals.now) s.args.enough (edges_refusal (decode s.args.room.now s.args.words.now s.args.reals.now) s.args.body) (sym c.edges_refusal-refused.ensures.value ∙ c.if-refused-ne0.false) (edges_there s.args.room.now s.args.words.now s.args.body) 0 (sym (ap (λ t. 2 unless t) all)) ∙ ap (refused_by (readable s.args.room.now s.args.words.now s.args.reals.now) s.args.enough) (sym (vertices-refusal s.args.room.now s.args.words.now s.args.reals.now s.args.body)); marks_after = zeros-on s.args.marks.now c.edges_refusal-refused.new.marks _ c.edges_refusal-refused.ensures.marks_after c.edges_there.ensures.marks_after }
