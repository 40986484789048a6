-- `mend_body::readable_refusal` meets its contract: the lists are tested, then the changes are counted. Assumes nothing.
use native.Mathlib.Omega.{arith}
use mathlib.Core.Path.{◌≡◌, refl, sym, ap, ◌∙◌, subst}
use mathlib.Core.Bool.{true}
use mathlib.Core.List.{List, []}
use lib.Ieee.{Float}
use lib.ListN.{length, replicate, length-replicate}
use Rattle.memory_layout.specs.Decode.{decode}
use Rattle.meaning_mends.specs.Mends.{body_there}
use Rattle.walk_answers.specs.Laws.{zeros-on}
use Rattle.mend_body.specs.Laws.{lists-open, lists-refused, count-over, count_fits}
use borrow.Author.Rules.{rules}
use Rattle.mend_body.proofs.readable_refusal.Goals as goal

pub lists_refusal-n-requires : goal.lists_refusal-n-requires
lists_refusal-n-requires c = c.requires.tested.lists

pub returns-then-n-ne0 : goal.returns-then-n-ne0
returns-then-n-ne0 c = let s = c in record { number = λ x. lists-refused (decode s.args.room.now s.args.words.now x) s.args.body s.args.space _ (c.lists_refusal-n.ensures x) c.if-n-ne0.true; marks = s.requires.tested.zeros }

pub body_walk-count-requires : goal.body_walk-count-requires
body_walk-count-requires c =
    let s = c in
    record { ready = record { lists = s.requires.tested.lists; marks = s.requires.tested.long }; body_value = (lists-open (decode s.args.room.now s.args.words.now []) s.args.body (sym (c.lists_refusal-n.ensures []) ∙ c.if-n-ne0.false)).0 }

pub shape_of-marks-then-space-count : goal.shape_of-marks-then-space-count
shape_of-marks-then-space-count c = omega (arith, simp length-replicate at (ap length c.clear.ensures), c.body_walk-count.ensures.marks)

pub returns-then-space-count : goal.returns-then-space-count
returns-then-space-count c =
    let s = c in
    record { number = λ x. count-over s.args.room.now s.args.words.now x s.args.body s.requires.tested.lists (sym (c.lists_refusal-n.ensures x) ∙ c.if-n-ne0.false) _ _ _ _ _ s.requires.tested.long s.requires.tested.zeros c.body_walk-count.ensures s.args.space s.requires.space_bound c.if-space-count.true; marks = c.clear.ensures ∙ ap (λ n. replicate n 0) c.body_walk-count.ensures.marks }

pub shape_of-marks : goal.shape_of-marks
shape_of-marks c = omega (arith, simp length-replicate at (ap length c.clear.ensures), c.body_walk-count.ensures.marks)

pub returns : goal.returns
returns c =
    let s = c in
    record { number = λ x. count_fits s.args.room.now s.args.words.now x s.args.body s.requires.tested.lists (sym (c.lists_refusal-n.ensures x) ∙ c.if-n-ne0.false) _ _ _ _ _ s.requires.tested.long s.requires.tested.zeros c.body_walk-count.ensures s.args.space s.requires.space_bound c.if-space-count.false; marks = c.clear.ensures ∙ ap (λ n. replicate n 0) c.body_walk-count.ensures.marks }
