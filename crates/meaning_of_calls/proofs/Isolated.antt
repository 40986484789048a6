-- An office is told the same of two memories that are one and the same to it: the theorems of specs/Isolated.antt that rest on `front` there and on `edges-told` and `take-told`. Assumes nothing.
use Rattle.std.specs.Prelude.{ℕ, ◌/◌, ◌≡◌, true, List, [], length, Float}
use Rattle.std.proofs.Common.{sym, ap, ◌∙◌}
use Rattle.meaning.specs.Faults.{kept}
use Rattle.meaning.specs.Offices.{body_for}
use Rattle.meaning_isolation.specs.Told.{SameAnswers}
use Rattle.meaning_isolation.specs.Offices.{OfficeAlike, OthersDiffer}
use Rattle.meaning_isolation.proofs.Others.{others-make-no-difference}
use Rattle.meaning_isolation.proofs.Statements.{office-answers}
use Rattle.memory_layout.specs.Decode.{decode}
use Rattle.memory_layout.specs.Readable.{readable}
use Rattle.walk_answers.specs.Calls.{in_front}
use Rattle.check_reasons.specs.Log.{faults_words}
use Rattle.meaning_of_calls.specs.Shown.{shown, on_list}
use Rattle.meaning_of_calls.proofs.Offices.{edges-told}
use Rattle.meaning_of_calls.specs.Offices.{faces-told, vertices-told, box-told, volume-told, check-told, faults-told, first-told, fit-told}
use Rattle.meaning_of_calls.proofs.Sheets.{take_same, sheet-same}
use Rattle.meaning_of_calls.specs.Isolated.{Marks, Alike, SameTold, walk_same, front, two, three}

module _ (room w : List ℕ) (x : List Float) (room' w' : List ℕ) (x' : List Float) (o : ℕ) (r : readable room w x ≡ true) (r' : readable room' w' x' ≡ true) (b : ℕ) (a a' : Marks) (reaching : Alike room room' a a') where
  told_same : SameAnswers (decode room w x) (decode room' w' x') (body_for (decode room w x) o b) (body_for (decode room' w' x') o b) → SameTold room w x room' w' x' o b a a'
  told_same s =
      record {
        faces = λ out. walk_same _ _ _ _ _ _ (ap (on_list (length out)) (front room w x room' w' x' o r r' b a a' reaching _ _ _ _ reaching.faces s.faces)) (faces-told room w x o b a.faces out) (faces-told room' w' x' o b a'.faces out);
        edges = λ out. walk_same _ _ _ _ _ _ (ap (on_list (length out)) (front room w x room' w' x' o r r' b a a' reaching _ _ _ _ (two room w x room' w' x' o r r' b a a' reaching) s.edges)) (edges-told room w x o b a.faces a.edges out) (edges-told room' w' x' o b a'.faces a'.edges out);
        vertices = λ out. walk_same _ _ _ _ _ _ (ap (on_list (length out)) (front room w x room' w' x' o r r' b a a' reaching _ _ _ _ (three room w x room' w' x' o r r' b a a' reaching) s.vertices)) (vertices-told room w x o b a.faces a.edges a.vertices out) (vertices-told room' w' x' o b a'.faces a'.edges a'.vertices out);
        box = box-told room w x o b a.faces a.edges a.vertices ∙ ap (shown _ _) (front room w x room' w' x' o r r' b a a' reaching _ _ _ _ (three room w x room' w' x' o r r' b a a' reaching) s.box) ∙ sym (box-told room' w' x' o b a'.faces a'.edges a'.vertices);
        volume = volume-told room w x o b a.faces ∙ ap (shown _ _) (front room w x room' w' x' o r r' b a a' reaching _ _ _ _ reaching.faces s.volume) ∙ sym (volume-told room' w' x' o b a'.faces);
        taken = λ k. (take_same room w x room' w' x' o b a.faces a'.faces r r' reaching.faces s.stone k, sheet-same room w x room' w' x' o b a.faces a'.faces r r' reaching.faces s.stone k);
        report = λ c nums. check-told room w x o b a.faces a.edges c nums ∙ ap (shown _ _) (front room w x room' w' x' o r r' b a a' reaching _ _ _ _ (two room w x room' w' x' o r r' b a a' reaching) (s.report c)) ∙ sym (check-told room' w' x' o b a'.faces a'.edges c nums);
        faults = λ c nums. faults-told room w x o b a.faces a.edges c nums ∙ ap (λ d. in_front (shown (λ q. faults_words (kept (length nums / 4) q)) (λ _. []) d) nums) (front room w x room' w' x' o r r' b a a' reaching _ _ _ _ (two room w x room' w' x' o r r' b a a' reaching) (s.report c)) ∙ sym (faults-told room' w' x' o b a'.faces a'.edges c nums);
        first = λ c. first-told room w x o b a.faces a.edges c ∙ ap (shown _ _) (front room w x room' w' x' o r r' b a a' reaching _ _ _ _ (two room w x room' w' x' o r r' b a a' reaching) (s.report c)) ∙ sym (first-told room' w' x' o b a'.faces a'.edges c);
        fit = fit-told room w x o b a.faces a.edges ∙ ap (shown _ _) (front room w x room' w' x' o r r' b a a' reaching _ _ _ _ (two room w x room' w' x' o r r' b a a' reaching) s.fit) ∙ sym (fit-told room' w' x' o b a'.faces a'.edges);
      }

  -- two readable memories that agree on an office's bodies and on all records reached from them, and in which an id met from those names a record in both or in neither
  pub memories-told : OfficeAlike (decode room w x) (decode room' w' x') o → SameTold room w x room' w' x' o b a a'
  memories-told d = told_same (office-answers (decode room w x) (decode room' w' x') o d b)

  -- the request's own words: "whatever stands in the other's records"
  pub others-untold : OthersDiffer (decode room w x) (decode room' w' x') o → SameTold room w x room' w' x' o b a a'
  others-untold d = told_same (others-make-no-difference (decode room w x) (decode room' w' x') o d b)
