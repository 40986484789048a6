-- `check_findings::solid_edges` meets its contract: of a solid whose edges can be walked. Assumes nothing.
use mathlib.Core.Path.{sym, ◌∙◌}
use mathlib.Core.Bool.{true}
use borrow.Author.Tests.{not-true, not-false}
use Rattle.memory_layout.specs.Decode.{decode}
use Rattle.memory_layout.specs.Readable.{readable}
use Rattle.memory_layout.specs.Laws.{fit_of, lists_of}
use Rattle.check_reasons.specs.Laws.{enough-same, noted-none, noted-same, noted-over}
use lib.ListN.{length}
use Rattle.walk_answers.specs.Laws.{accepted-edges, marked-zeros, zeros-on}
use Rattle.check_findings.specs.Laws.{edges-not-solid, edges-refused, edges-walked, refused-is}
use borrow.Author.Rules.{rules}
use Rattle.check_findings.proofs.solid_edges.Goals as goal

pub returns-then-done : goal.returns-then-done
returns-then-done c = let s = c in record { noted = noted-over _ _ _ (sym c.done.ensures ∙ c.if-done.true); faces_after = s.requires.faces_value; edges_after = s.requires.edges_value }

pub body_at-it-requires : goal.body_at-it-requires
body_at-it-requires c = record { lists = lists_of _ _ _ (fit_of _ _ _ c.requires.reals_value); i_bound = c.requires.body_bound }

pub returns-then-not-is_solid : goal.returns-then-not-is_solid
returns-then-not-is_solid c = record { noted = noted-same (sym (edges-not-solid (decode c.args.room.now c.args.words.now c.args.reals.now) c.args.body _ _ (c.body_at-it.ensures c.args.reals.now) c.is_solid.ensures (c.if-not-is_solid.true))) (noted-none _ _); faces_after = c.requires.faces_value; edges_after = c.requires.edges_value }

pub edges_refusal-refused-requires : goal.edges_refusal-refused-requires
edges_refusal-refused-requires c = c.requires.faces_value

pub returns-then-refused-ne0 : goal.returns-then-refused-ne0
returns-then-refused-ne0 c = record { noted = noted-same (sym (edges-refused (decode c.args.room.now c.args.words.now c.args.reals.now) c.args.body _ _ (c.body_at-it.ensures c.args.reals.now) c.is_solid.ensures (c.if-not-is_solid.false) (λ z. c.if-refused-ne0.true ((c.edges_refusal-refused.ensures.value ∙ refused-is (readable c.args.room.now c.args.words.now c.args.reals.now) _ c.requires.reals_value) ∙ z)))) (noted-none _ _); faces_after = c.edges_refusal-refused.ensures.marks_after; edges_after = c.requires.edges_value }

pub manifold_edges-requires : goal.manifold_edges-requires
manifold_edges-requires c = record { fit = (fit_of _ _ _ c.requires.reals_value); looped = (accepted-edges c.args.room.now c.args.words.now c.args.reals.now c.args.body true (sym c.edges_refusal-refused.ensures.value ∙ c.if-refused-ne0.false)).1; marked = marked-zeros (length c.args.faces.now) _ c.edges_refusal-refused.ensures.marks_after; marked_2 = marked-zeros (length c.args.edges.now) _ c.requires.edges_value; enough = enough-same (edges-walked (decode c.args.room.now c.args.words.now c.args.reals.now) c.args.body _ _ (c.body_at-it.ensures c.args.reals.now) c.is_solid.ensures (c.if-not-is_solid.false) (sym (c.edges_refusal-refused.ensures.value ∙ refused-is (readable c.args.room.now c.args.words.now c.args.reals.now) _ c.requires.reals_value) ∙ c.if-refused-ne0.false)) c.requires.enough }

pub returns : goal.returns
returns c = record { noted = noted-same (sym (edges-walked (decode c.args.room.now c.args.words.now c.args.reals.now) c.args.body _ _ (c.body_at-it.ensures c.args.reals.now) c.is_solid.ensures (c.if-not-is_solid.false) (sym (c.edges_refusal-refused.ensures.value ∙ refused-is (readable c.args.room.now c.args.words.now c.args.reals.now) _ c.requires.reals_value) ∙ c.if-refused-ne0.false))) c.manifold_edges.ensures.noted; faces_after = zeros-on c.args.faces.now _ _ c.edges_refusal-refused.ensures.marks_after c.manifold_edges.ensures.faces_after; edges_after = c.manifold_edges.ensures.edges_after }
