-- What splits keep (demand 3), for every model, every limit record and every list of split requests, accepted or refused. Assumes nothing.
use Rattle.std.specs.Prelude.{ℕ, ◌<◌, ◌↔◌, ◌≡◌, true, false, List, ◌∷◌, ◌++◌, Float}
use Rattle.meaning.specs.Model.{Model, shell, Limits}
use Rattle.meaning.specs.Refuse.{refused, given}
use Rattle.meaning.specs.Split.{split_refusal, EdgeSplit, split_line_edge, after_split, model_after, Cut, after_all}
use Rattle.meaning.specs.Faults.{whole_solid}
use Rattle.meaning.specs.Formed.{WellFormed, well_formed, topological_report, empty_report, has_edge}
use Rattle.meaning_split_laws.specs.Terms.{Walked, SameWalks}
use Rattle.meaning_split_laws.specs.Decided.{decided, facts-pass}
use Rattle.meaning_split_laws.specs.Kept.{splits-keep}
use Rattle.meaning_split_laws.specs.Refusals.{refused-keeps}
use Rattle.meaning_split_laws.specs.Struck.{carriers-kept}
use Rattle.meaning_split_laws.specs.Gained.{walked, new-wire-after, split-leaves-others}
use Rattle.meaning_split_laws.specs.Report.{reports-kept}
use Rattle.meaning_split_laws.specs.Whole.{whole-kept, all-whole-kept}

-- 1. "After any sequence of splits, accepted or refused, it is still well formed"
pub stays-well-formed : (x : Limits) (m : Model) (l : List Cut) → WellFormed x m → WellFormed x (after_all x m l)
stays-well-formed = splits-keep

-- (well formed as facts and as a test that computes are one)
pub well-formed-is-tested : (x : Limits) (m : Model) → (well_formed x m ≡ true) ↔ WellFormed x m
well-formed-is-tested x m = (decided x m, facts-pass x m)

-- 2. "and a body whose topological report was empty keeps an empty one"
pub empty-report-stays : (x : Limits) (m : Model) (l : List Cut) → WellFormed x m → (b : ℕ) → b < m.bodies.used
    → empty_report (topological_report m b) ≡ true → empty_report (topological_report (after_all x m l) b) ≡ true
empty-report-stays = reports-kept

-- (W-203, what fit to saw asks of a body beside its report: the same behind an accepted split, and behind any sequence)
pub whole-solid-stays : (m : Model) (e : ℕ) (t : Float) (b : ℕ) → whole_solid (after_split m e t) b ≡ whole_solid m b
whole-solid-stays = whole-kept

pub all-whole-solid-stays : (x : Limits) (m : Model) (l : List Cut) (b : ℕ) → whole_solid (after_all x m l) b ≡ whole_solid m b
all-whole-solid-stays = all-whole-kept

-- 3. "An accepted split gives each body that has the edge exactly one more edge and vertex", its faces the same, and leaves the walks of every other body
-- as they were (`OneMore`, `SameWalks`: Terms.antt; no walk of a well-formed model is refused)
pub walks-given : (x : Limits) (m : Model) → WellFormed x m → (b : ℕ) → b < m.bodies.used → Walked m b
walks-given = walked

pub accepted-split-leaves-others : (x : Limits) (m : Model) (e : ℕ) (t : Float) (s : EdgeSplit)
    → WellFormed x m → split_line_edge x m e t ≡ given s → (b : ℕ) → b < m.bodies.used
    → has_edge m b e ≡ false → SameWalks m (model_after x m e t) b
accepted-split-leaves-others = split-leaves-others

-- (of curves and surfaces the slots too that nobody reads)
pub carriers-stay : (x : Limits) (m : Model) (l : List Cut) → ((after_all x m l).curves ≡ m.curves) × ((after_all x m l).surfaces ≡ m.surfaces)
carriers-stay = carriers-kept

-- and what was added to a list of wire edges stands right after the old edge (of a new fin 1 tells: every fin ends where the next starts)
pub wire-edge-follows : (x : Limits) (m : Model) (e : ℕ) (t : Float) (r : EdgeSplit)
    → WellFormed x m → split_line_edge x m e t ≡ given r → (s : ℕ) → s < m.shells.used
    → (k l : List ℕ) → (shell m s).wire_edges ≡ k ++ (e ∷ l) → (shell (model_after x m e t) s).wire_edges ≡ k ++ (e ∷ r.new_edge ∷ l)
wire-edge-follows = new-wire-after

-- 6. a refused split leaves the model as it was
pub refused-changes-nothing : (x : Limits) (m : Model) (e : ℕ) (t : Float) (n : ℕ) → split_line_edge x m e t ≡ refused n → model_after x m e t ≡ m
refused-changes-nothing = refused-keeps
