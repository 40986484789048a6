-- The theorems of specs/Kept.antt that rest on those of specs/ that the edits of must-fail/ make fail. Assumes nothing.
use Rattle.std.specs.Prelude.{ℕ, ◌≡◌, true, false, List, [], ◌∷◌, ◌++◌}
use Rattle.std.proofs.Common.{sym, ap, ◌∙◌, append-nil}
use Rattle.std.proofs.lemmas.Bool.{false≢true}
use Rattle.meaning.specs.Lists.{member}
use Rattle.meaning.specs.Model.{Model, fin, edge}
use Rattle.meaning_list_laws.specs.Lists.{member-head}
use Rattle.meaning_mends.specs.Mends.{a_fin}
use Rattle.meaning_mend_laws.specs.Terms.{listing, reached, new_listing, FinsListed}
use Rattle.meaning_mend_laws.specs.Kept.{only_of}

-- where no fin is absent, none is added
pub none-new : (m : Model) (b : ℕ) → FinsListed m b → (e : ℕ) → new_listing m b e ≡ listing m e
none-new m b h e = let l = (only_of m b).lists e in l.behind ∙ by l.new l.fins
  where
    by : (new : List ℕ) → ((i : ℕ) → member i new ≡ true → (member i (reached m b a_fin) ≡ true) × ((fin m i).edge ≡ e) × (member i (listing m e) ≡ false)) → listing m e ++ new ≡ listing m e
    by [] f = append-nil (listing m e)
    by (i ∷ new) f =
        let at = f i (member-head i new) in
        absurd (false≢true (sym at.2 ∙ sym (ap (λ d. member i (listing m d)) at.1) ∙ h i at.0))
