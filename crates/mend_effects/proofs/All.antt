-- The theorems of specs/All.antt that rest on change-kept and want-due. Assumes nothing.
use Rattle.std.specs.Prelude.{ℕ, ◌≤◌, ◌≡◌, true, List, [], ◌∷◌, map, Float}
use Rattle.std.proofs.Common.{arith}
use Rattle.meaning.specs.Lists.{every}
use Rattle.meaning.specs.Model.{Model}
use Rattle.meaning_list_laws.specs.Tests.{and_both}
use Rattle.meaning_mends.specs.Mends.{Child, a_region, a_shell, a_loop, a_fin, child_table, Change, made, made_all, changes, fits}
use Rattle.memory_layout.specs.Layout.{word}
use Rattle.memory_layout.specs.Decode.{decode}
use Rattle.memory_layout.specs.Fit.{Fit}
use Rattle.memory_writes.specs.Change.{SameModel}
use Rattle.mend_writes.specs.Made.{made_word, made_words}
use Rattle.mend_writes.specs.Laws.{AllWithin}
use Rattle.mend_effects.specs.Due.{records, AllDue}
use Rattle.mend_effects.proofs.Due.{changes-due}
use Rattle.mend_effects.specs.One.{Kept, change-kept}
use Rattle.mend_effects.specs.All.{Open, all-within}

pub all-kept : (room : List ℕ) (x : List Float) (l : List Change) (w : List ℕ) (m : Model) → Fit room w x → SameModel (decode room w x) m → AllDue m l → every (map fits l) ≡ true
    → Kept room (made_words room w l) x (made_all m l)
unfolding made_words made_all every
all-kept room x [] w m f s h e = record { fit = f; model = s }
all-kept room x (c ∷ l) w m f s h e =
    let both = and_both (fits c) (every (map fits l)) e in
    let one = change-kept room w x m f s c h.0 both.0 in
    all-kept room x l (made_word room w c) (made m c) one.fit one.model h.1 both.1

pub all-due : (m : Model) (b : ℕ) → Open m b → AllDue m (changes m b)
all-due m b o = changes-due m b o.there

pub open-within : (room w : List ℕ) (x : List Float) (b : ℕ) → Fit room w x → Open (decode room w x) b → AllWithin room (changes (decode room w x) b)
unfolding decode
open-within room w x b f o = all-within room (changes m b) m used (f.sized.counts 6 (omega arith)) (all-due m b o) o.room
  where
    m : Model
    m = decode room w x

    used : (k : Child) → records m k ≤ word room (child_table k)
    used a_region = f.sized.counts 1 (omega arith)
    used a_shell = f.sized.counts 2 (omega arith)
    used a_loop = f.sized.counts 4 (omega arith)
    used a_fin = f.sized.counts 5 (omega arith)
