-- What a mending (W-208) keeps and what it mends, for every model and body; where it must be accepted, the statement says so. Assumes nothing.
use Rattle.std.specs.Prelude.{ℕ, suc, ◌<◌, ◌≡◌, refl, true, ◌&&◌, ◌||◌}
use Rattle.std.proofs.Common.{sym, ap, ap₂, ◌∙◌, subst, eq-eqb}
use Rattle.std.proofs.Math.Bool.{or-true}
use Rattle.meaning.specs.Lists.{member}
use Rattle.meaning.specs.Model.{Model, body, fin}
use Rattle.meaning.specs.Split.{where_accepted}
use Rattle.meaning.specs.Faults.{manifold_edges}
use Rattle.meaning_list_laws.specs.Lists.{member-meets}
use Rattle.meaning_mends.specs.Mends.{Child, a_fin, named, children, parents, meetings, changes, mended, mend_refusal, mended_model}
use Rattle.meaning_mends.specs.Laws.{all_listed}
use Rattle.meaning_mends.specs.Laws as laws
use Rattle.meaning_mend_laws.specs.Terms.{linked, listing, reached, new_parent, naming, new_listing, SameLists, SameWalks, Apart, manifold_by}
use Rattle.meaning_mend_laws.specs.Steps.{mended-is}
use Rattle.meaning_mend_laws.specs.Kept.{accepted-there, met_by, member-naming, parent_is, listing-is, linked-lists, linked-walks}
use Rattle.meaning_mend_laws.specs.Reported.{each-apart}
use Rattle.meaning_mend_laws.specs.Checked.{manifolds}

-- ---- the model behind the call: that of a mending where it is accepted, and as it was where it is refused

pub accepted-is-mended : (m : Model) (b n : ℕ) → mend_refusal m b n ≡ 0 → mended_model m b n ≡ mended m b
unfolding mended_model
accepted-is-mended m b n z = ap (λ k. where_accepted k m (mended m b)) z

pub refused-changes-nothing : (m : Model) (b n k : ℕ) → mend_refusal m b n ≡ suc k → mended_model m b n ≡ m
unfolding mended_model
refused-changes-nothing m b n k z = ap (λ k. where_accepted k m (mended m b)) z

-- ---- 1. "nothing else is touched"

-- the model behind a mending is m with other pointers (`linked`: all other fields of all tables, the used counts, version and precision are m's)
pub only-pointers : (m : Model) (b : ℕ) → mended m b ≡ linked m (new_parent m b) (new_listing m b)
only-pointers = mended-is

-- "rewrites, from the lists of one body, the parent named by each region, shell, loop and fin": it is there, and lists the record
pub parent-lists : (m : Model) (b n : ℕ) → mend_refusal m b n ≡ 0 → (k : Child) (i : ℕ) → member i (reached m b k) ≡ true
    → (named (mended m b) k i < parents m k) × (member i (children m k (named (mended m b) k i)) ≡ true)
parent-lists m b n z k i h =
    subst (λ p. (p < parents m k) × (member i (children m k p) ≡ true)) (sym (parent_is m b k i)) (met_by (laws.Listed m) (meetings m b) k i (named m k i) (all_listed m b (accepted-there m b n z)) h)

-- "adds a fin to its edge's list where it is absent": behind it, none is
pub fins-listed : (m : Model) (b : ℕ) → (i : ℕ) → member i (reached m b a_fin) ≡ true → member i (listing (mended m b) (fin m i).edge) ≡ true
fins-listed m b i h =
    ap (member i) (listing-is m b (fin m i).edge)
    ∙ member-meets i (listing m (fin m i).edge) (naming m (fin m i).edge (reached m b a_fin))
    ∙ ap (λ t. member i (listing m (fin m i).edge) || t) (member-naming m (fin m i).edge i (reached m b a_fin) ∙ ap₂ ◌&&◌ h (eq-eqb (fin m i).edge (fin m i).edge refl))
    ∙ or-true (member i (listing m (fin m i).edge))

-- ---- 2. "the body's lists, and so its walks, are the same", of every body

pub lists-stay : (m : Model) (b : ℕ) → SameLists m (mended m b)
lists-stay m b = subst (SameLists m) (sym (mended-is m b)) (linked-lists m (new_parent m b) (new_listing m b))

pub walks-stay : (m : Model) (b c : ℕ) → SameWalks m (mended m b) c
walks-stay m b c = subst (λ n. SameWalks m n c) (sym (mended-is m b)) (linked-walks m (new_parent m b) (new_listing m b) c)

pub fields-once : (m : Model) (b n : ℕ) → mend_refusal m b n ≡ 0 → Apart (changes m b)
fields-once = each-apart

-- of a solid's edges they are by the lists as mended: an edge that listed one fin may have two now (no more 19), one that listed two and lacked a third has three (19 is new)
pub report-of-edges : (m : Model) (b : ℕ) → manifold_edges (mended m b) b ≡ manifold_by m b (new_listing m b)
report-of-edges m b = ap (λ w. manifold_edges w b) (mended-is m b) ∙ manifolds m (new_parent m b) (new_listing m b) b
