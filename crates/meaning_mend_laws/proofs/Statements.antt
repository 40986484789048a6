-- The theorems of specs/Statements.antt that rest on those of specs/ that the edits of must-fail/ make fail. Assumes nothing.
use Rattle.std.specs.Prelude.{ℕ, ◌≤◌, ◌↔◌, ◌≡◌, true, false, ◌++◌}
use Rattle.std.proofs.Common.{sym, ap, ap₂, ◌∙◌, subst}
use Rattle.std.proofs.Math.Path.{fun_ext}
use Rattle.meaning.specs.Lists.{member}
use Rattle.meaning.specs.Model.{Model, Limits, body, largest}
use Rattle.meaning.specs.Walks.{edge_walk}
use Rattle.meaning.specs.Inquire.{is_solid}
use Rattle.meaning.specs.Faults.{CheckOptions, manifold_edges, findings}
use Rattle.meaning.specs.Formed.{WellFormed}
use Rattle.meaning_list_laws.specs.Findings.{NoFault, no-fault-append}
use Rattle.meaning_mends.specs.Mends.{named, parents, meetings, changes, mended, mend_refusal}
use Rattle.meaning_mends.specs.Laws.{Has, Each, wants_all}
use Rattle.meaning_mends.specs.Laws as laws
use Rattle.meaning_mend_laws.specs.Terms.{listing, new_parent, new_listing, Added, OnlyOf, All, Real, without, list_findings, manifold_by, FinsListed, TwoFins, ButForPointers}
use Rattle.meaning_mend_laws.specs.Steps.{mended-is, linked-own}
use Rattle.meaning_mend_laws.specs.Kept.{only_of, only-own, parent_is, listing-is, all_there}
use Rattle.meaning_mend_laws.proofs.Kept.{none-new}
use Rattle.meaning_mend_laws.specs.Reported.{each-real}
use Rattle.meaning_mend_laws.specs.Checked.{all_right, without-findings, manifold-none, manifold-own, manifold-quiet}
use Rattle.meaning_mend_laws.proofs.Checked.{lists-right}
use Rattle.meaning_mend_laws.proofs.Formed.{formed-by-sentences, sentences}
use Rattle.meaning_mend_laws.specs.Statements.{report-of-edges}

-- and of the pointers only those of the records that the body's lists name (`OnlyOf`)
pub nothing-else : (m : Model) (b : ℕ) → OnlyOf m b (named (mended m b)) (listing (mended m b))
nothing-else m b =
    record {
      parents = λ k i h. parent_is m b k i ∙ (only_of m b).parents k i h;
      lists = λ e. subst (Added m b e) (sym (listing-is m b e)) ((only_of m b).lists e);
    }

-- ---- 3. "It reports every change": each changes what stood in the old tables into what stands in the new ones, and no field is reported twice ("Applying them .. gives the new ones exactly" is `mended` itself)

pub changes-change : (m : Model) (b n : ℕ) → mend_refusal m b n ≡ 0 → All (Real m (mended m b)) (changes m b)
changes-change = each-real

-- ---- 4. "A body whose report had only reasons 4, 6, 11, 14 and 16 of those records has a report without them"

-- with any options: of regions, shells, faces, loops and fins the findings are those of before without these reasons, in their order
pub report-of-lists : (m : Model) (b n : ℕ) → mend_refusal m b n ≡ 0 → (o : CheckOptions) → list_findings (mended m b) o b ≡ without (list_findings m o b)
report-of-lists m b n z o =
    subst (λ w. list_findings w o b ≡ without (list_findings m o b)) (sym (mended-is m b))
    (lists-right m (new_parent m b) (new_listing m b) o b (all_right m (new_parent m b) (new_listing m b) (meetings m b) (subst (λ w. Each (Has w) (wants_all (meetings m b))) (mended-is m b) (all_there m b n z))))

whole : (m : Model) (b n : ℕ) → mend_refusal m b n ≡ 0 → (o : CheckOptions) → manifold_by m b (new_listing m b) ≡ manifold_by m b (listing m) → findings (mended m b) o b ≡ without (findings m o b)
unfolding findings
whole m b n z o h = ap₂ ◌++◌ (report-of-lists m b n z o) (report-of-edges m b ∙ h ∙ sym (manifold-own m b)) ∙ sym (without-findings m o b)

-- so the whole report is that of before without these reasons, for a body that is no solid, and for one whose fins are listed by their edges
pub report-not-solid : (m : Model) (b n : ℕ) → mend_refusal m b n ≡ 0 → (o : CheckOptions) → is_solid (body m b).kind ≡ false → findings (mended m b) o b ≡ without (findings m o b)
report-not-solid m b n z o s = whole m b n z o (manifold-none m b (new_listing m b) s ∙ sym (manifold-none m b (listing m) s))

pub report-fins-listed : (m : Model) (b n : ℕ) → mend_refusal m b n ≡ 0 → (o : CheckOptions) → FinsListed m b → findings (mended m b) o b ≡ without (findings m o b)
report-fins-listed m b n z o h = whole m b n z o (ap (manifold_by m b) (fun_ext (λ e. none-new m b h e)))

-- and a body that had only these reasons among its lists has no fault, where each edge of a solid has two fins of opposite sense, those of the body's loops that name it counted
pub no-fault-behind : (m : Model) (b n : ℕ) → mend_refusal m b n ≡ 0 → (o : CheckOptions) → NoFault (without (list_findings m o b))
    → (is_solid (body m b).kind ≡ true → (e : ℕ) → member e (edge_walk m b) ≡ true → TwoFins m b e) → NoFault (findings (mended m b) o b)
unfolding findings
no-fault-behind m b n z o h two =
    no-fault-append (list_findings (mended m b) o b) (manifold_edges (mended m b) b)
    (subst NoFault (sym (report-of-lists m b n z o)) h) (subst NoFault (sym (report-of-edges m b)) (manifold-quiet m b two))

-- ---- 5. "where the tool accepts and the model was well formed but for those pointers, it is well formed", and only there. An edge's list is to have room for the eight fins that the tool tests, as the largest has

pub well-formed-behind : (x : Limits) → largest.edge_fins ≤ x.edge_fins → (m : Model) (b n : ℕ) → mend_refusal m b n ≡ 0 → ButForPointers x m b ↔ WellFormed x (mended m b)
well-formed-behind x room m b n z = (
  λ s. subst (WellFormed x) (sym (mended-is m b)) (formed-by-sentences x m b n z s room),
  λ w. sentences x m b (new_parent m b) (new_listing m b) (only_of m b) (subst (WellFormed x) (mended-is m b) w),
)

-- a well-formed model is well formed but for any body's pointers
pub well-formed-before : (x : Limits) (m : Model) (b : ℕ) → WellFormed x m → ButForPointers x m b
well-formed-before x m b w = sentences x m b (named m) (listing m) (only-own m b) (subst (WellFormed x) (sym (linked-own m)) w)
