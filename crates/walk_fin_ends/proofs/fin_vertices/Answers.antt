-- `walk_fin_ends::fin_vertices` meets its contract. Assumes nothing.
use mathlib.Core.Path.{◌≡◌, sym, ap, ◌∙◌}
use Rattle.meaning.specs.Model.{fin, edge}
use Rattle.memory_layout.specs.Decode.{decode}
use Rattle.memory_layout.specs.Laws.{lists_of}
use Rattle.meaning_list_laws.specs.Tests.{refused-answer}
use Rattle.memory_records.specs.Seen.{seen_fin, seen_edge}
use Rattle.walk_fin_ends.specs.declared.FinVertices.TheVariants.{Is, Refused}
use Rattle.walk_fin_ends.specs.Answers.{fin_vertices_answer}
use Rattle.walk_fin_ends.specs.Laws.{turned-seen, standing}
use borrow.Author.Rules.{rules}
use Rattle.walk_fin_ends.proofs.fin_vertices.Goals as goal

pub returns-then-n-ne0 : goal.returns-then-n-ne0
unfolding fin_vertices_answer
returns-then-n-ne0 c = rw (← c.refusal-n.ensures) (refused-answer Is Refused _ _ c.if-n-ne0.true)

pub fin_at-used-requires : goal.fin_at-used-requires
fin_at-used-requires c =
    let s = c in
    let k = standing s.args.room.now s.args.words.now s.args.reals.now s.args.fin (sym c.refusal-n.ensures ∙ c.if-n-ne0.false) in
    record { lists = lists_of s.args.room.now s.args.words.now s.args.reals.now k.fit; i_bound = k.fin-there }

pub edge_at-edge-requires : goal.edge_at-edge-requires
unfolding seen_fin
edge_at-edge-requires c =
    let s = c in
    let k = standing s.args.room.now s.args.words.now s.args.reals.now s.args.fin (sym c.refusal-n.ensures ∙ c.if-n-ne0.false) in
    record { fit = k.fit; i_bound = rw (c.fin_at-used.ensures s.args.reals.now) k.edge-there }

pub returns : goal.returns
unfolding fin_vertices_answer seen_fin seen_edge
returns c =
    let s = c in
    let m = decode s.args.room.now s.args.words.now s.args.reals.now in
    rw (← c.refusal-n.ensures, c.if-n-ne0.false, c.directed.ensures, c.edge_at-edge.ensures, c.fin_at-used.ensures s.args.reals.now) (ap Is (turned-seen (fin m s.args.fin).sense (edge m (fin m s.args.fin).edge)))
