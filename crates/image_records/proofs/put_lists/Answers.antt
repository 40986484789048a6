-- `image_records::put_lists` meets its contract: a turn of the loop is one more list. Assumes nothing.
use Rattle.std.specs.Prelude.{ℕ, suc, ◌+◌, ◌≡◌, List, length, take, drop}
use Rattle.std.proofs.Common.{arith, sym, ap, ◌∙◌}
use Rattle.memory_layout.specs.Layout.{word}
use Rattle.memory_writes.specs.Put.{over}
use Rattle.memory_writes.specs.Over.{over_none}
use Rattle.image_format.specs.Bytes.{words}
use Rattle.image_format.specs.Fields.{list_counts}
use Rattle.image_laws.specs.Numbers.{length-words}
use Rattle.image_records.specs.Kept.{lists_of}
use Rattle.image_records.specs.Laws.{lists-none, over-turn, turn}
use Rattle.image_records.proofs.put_lists.Goals as goal

pub loop-j-init : goal.loop-j-init
loop-j-init c =
    let s = c in
    let e = lists-none s.args.k s.args.w.now in
    (rw e (omega arith), sym (ap (λ (a : List ℕ). over s.args.at a s.args.bytes.now) e ∙ over_none s.args.at s.args.bytes.now))

pub counted-l-requires : goal.counted-l-requires
counted-l-requires c =
    let s = c in
    let k = s.args.k in
    let w = s.args.w.now in
    let j = c.loop-j.j in
    let p = c.place_of.result in
    let n = c.list_count-n.ensures in
    let t = turn k w j p s.requires.listed (omega arith) c.place_of.ensures in
    t.held

pub put_words-requires : goal.put_words-requires
put_words-requires c =
    let s = c in
    let k = s.args.k in
    let w = s.args.w.now in
    let j = c.loop-j.j in
    let p = c.place_of.result in
    let n = c.list_count-n.ensures in
    let t = turn k w j p s.requires.listed (omega arith) c.place_of.ensures in
    let e = ap length c.counted-l.ensures in
    let g = t.counted in
    let q = t.longer in
    let v = t.within in
    let z = c.loop-j.invariant in
    omega (arith, s.requires.k_in_bounds)

pub overflow_mul-to : goal.overflow_mul-to
overflow_mul-to c =
    let s = c in
    let k = s.args.k in
    let w = s.args.w.now in
    let j = c.loop-j.j in
    let p = c.place_of.result in
    let n = c.list_count-n.ensures in
    let t = turn k w j p s.requires.listed (omega arith) c.place_of.ensures in
    let e = ap length c.counted-l.ensures in
    let g = t.counted in
    let q = t.short in
    omega arith

pub overflow_add-to : goal.overflow_add-to
overflow_add-to c =
    let s = c in
    let k = s.args.k in
    let w = s.args.w.now in
    let j = c.loop-j.j in
    let p = c.place_of.result in
    let n = c.list_count-n.ensures in
    let t = turn k w j p s.requires.listed (omega arith) c.place_of.ensures in
    let e = ap length c.counted-l.ensures in
    let g = t.counted in
    let q = t.longer in
    let v = t.within in
    let z = c.loop-j.invariant in
    omega (arith, s.requires.k_in_bounds)

pub loop-j-preserved : goal.loop-j-preserved
loop-j-preserved c =
    let s = c in
    let k = s.args.k in
    let w = s.args.w.now in
    let j = c.loop-j.j in
    let p = c.place_of.result in
    let n = c.list_count-n.ensures in
    let t = turn k w j p s.requires.listed (omega arith) c.place_of.ensures in
    let i = c.loop-j.invariant in
    let to = c.loop-j.to in
    let at = s.args.at in
    let l : List ℕ = take (suc (word w p)) (drop p w) in
    let a : List ℕ = lists_of k w j in
    let e : c.counted-l.result.now ≡ l = c.counted-l.ensures in
    let f = ap length e in
    let g = t.counted in
    let q = t.longer in
    let v = t.within in
    let r = s.requires.k_in_bounds in
    let o = length-words l in
    let u : c.put_words.new.bytes ≡ over at (lists_of k w (j + 1)) s.args.bytes.now =
    c.put_words.ensures
    ∙ ap (λ (y : List ℕ). over to (words y) c.loop-j.bytes) e
    ∙ over-turn at to a (words l) c.loop-j.bytes s.args.bytes.now i.0 i.1 (omega arith)
    ∙ ap (λ (y : List ℕ). over at y s.args.bytes.now) (sym t.more) in
    (omega arith, u)

pub returns : goal.returns
returns c =
    let s = c in
    let n = c.list_count-n.ensures in
    let e : c.loop-j.j ≡ word list_counts s.args.k = omega arith in
    let i = c.loop-j.invariant in record { end = i.0 ∙ ap (λ (j : ℕ). s.args.at + length (lists_of s.args.k s.args.w.now j)) e; written = i.1 ∙ ap (λ (j : ℕ). over s.args.at (lists_of s.args.k s.args.w.now j) s.args.bytes.now) e }
