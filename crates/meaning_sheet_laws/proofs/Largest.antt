-- The sheet's largest stone is the first greatest of those taken, and there is only one such. This rests on those of specs/Largest.antt. Assumes nothing.
use Rattle.std.specs.Prelude.{◌≡◌, ◌↔◌}
use Rattle.std.proofs.Common.{ap, subst}
use mathlib.Core.List.{List, [], ◌∷◌, ◌++◌, append-nil, append_assoc}
use Rattle.std.proofs.Math.Option.{Option, none, some, none-ne-some}
use Rattle.meaning_sheets.specs.Sheets.{Stone, Sheet, with_stone}
use Rattle.meaning_sheet_laws.specs.Terms.{FirstGreatest}
use Rattle.meaning_sheet_laws.specs.Takes.{with_stones}
use Rattle.meaning_sheet_laws.specs.Largest.{Kept, one_more, one-greatest, none-of-none}

pub kept : (h : Sheet) (k l : List Stone) → Kept h.largest k → Kept (with_stones h l).largest (k ++ l)
unfolding with_stones with_stone
kept h k [] a = rw (append-nil k) a
kept h k (s ∷ l) a =
    subst (λ (r : List Stone). Kept (with_stones (with_stone h s) l).largest r) (append_assoc k (s ∷ []) l)
    (kept (with_stone h s) (k ++ (s ∷ [])) l (one_more h.largest k s a))

-- ---- so what is kept is the list's first greatest

pub kept-some : (o : Option Stone) (l : List Stone) (g : Stone) → Kept o l → (o ≡ some g) ↔ FirstGreatest g l
unfolding Kept
kept-some none l g h = (λ e. absurd (none-ne-some g e), λ f. absurd (none-of-none l g f h))
kept-some (some k) l g h = (λ e. subst (λ (p : Option Stone). Kept p l) e h, λ f. ap some (one-greatest l k g h f))
