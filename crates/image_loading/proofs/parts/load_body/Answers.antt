-- `image_loading::parts::load_body` meets its contract: the kind, and behind it the office. Assumes nothing.
use Prim.Native.Nat.{ℕ}
use native.Mathlib.Omega.{arith}
use mathlib.Core.Path.{sym, ap, ap₂, ◌∙◌}
use mathlib.Core.List.{List, [], ◌∷◌}
use Rattle.memory_writes.specs.Put.{over}
use Rattle.memory_writes.specs.Over.{two-stores}
use Rattle.image_loading.specs.Laws.{body-front}
use Rattle.image_loading.proofs.parts.load_body.Goals as goal

pub returns : goal.returns
returns c =
    let s = c in
    let b : List ℕ = s.args.bytes.now in
    let w : List ℕ = s.args.w.now in
    let long = s.requires.w_len in
    two-stores w 0 c.word_in-kind.result c.office_in-office.result (omega arith)
    ∙ ap (λ (a : List ℕ). over 0 a w) (ap₂ (λ (m n : ℕ). m ∷ n ∷ []) c.word_in-kind.ensures c.office_in-office.ensures ∙ sym (body-front b s.args.at))
