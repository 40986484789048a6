-- What fit to saw asks of a body beside its report (W-203) is the same behind any sequence of splits. Assumes nothing.
use Rattle.std.specs.Prelude.{ℕ, ◌≡◌, refl, List, [], ◌∷◌, Float}
use Rattle.std.proofs.Common.{◌∙◌}
use Rattle.meaning.specs.Model.{Model, Limits, changed}
use Rattle.meaning.specs.Walks.{face_walk}
use Rattle.meaning.specs.Split.{after_split, model_after, Cut, after_all}
use Rattle.meaning.specs.Faults.{solid_face, own_shells, whole_solid}
use Rattle.meaning_split_laws.specs.After.{part-kept}

-- a split writes no body, region or face, and of a shell its wire edges alone
pub whole-kept : (m : Model) (e : ℕ) (t : Float) (b : ℕ) → whole_solid (after_split m e t) b ≡ whole_solid m b
unfolding whole_solid solid_face own_shells face_walk after_split changed
whole-kept m e t b = refl

pub all-whole-kept : (x : Limits) (m : Model) (l : List Cut) (b : ℕ) → whole_solid (after_all x m l) b ≡ whole_solid m b
unfolding after_all
all-whole-kept x m [] b = refl
all-whole-kept x m (c ∷ l) b = all-whole-kept x (model_after x m c.edge c.fraction) l b ∙ part-kept (λ n. whole_solid n b) x m c.edge c.fraction (whole-kept m c.edge c.fraction b)
