-- Wrong splits that Statements.antt shuts out: five would leave the trial stone, which is well formed, not well formed (1), and one would put a new wire
-- edge elsewhere (4). Assumes nothing.
use Rattle.std.specs.Prelude.{ℕ, ◌-◌, ◌≡◌, refl, true, false, cond, ◌&&◌, List, [], ◌∷◌, map, eqb, length, Float}
use Rattle.std.proofs.Common.{sym, ◌∙◌}
use Rattle.std.proofs.lemmas.Bool.{false≢true}
use Rattle.std.proofs.Math.Option.{some}
use Rattle.meaning.specs.Lists.{run, member, joined}
use Rattle.meaning.specs.Model.{Shell, Loop, Edge, Table, Model, extended, changed, shell, fin, edge, largest}
use Rattle.meaning.specs.Walks.{vertex_walk}
use Rattle.meaning.specs.Split.{split_refusal, new_fin, first_half, second_half, after_split, model_after}
use Rattle.meaning.specs.Formed.{WellFormed, well_formed}
use Rattle.meaning.specs.Computing.{computing}
use Rattle.meaning.specs.Stone.{stone}
use Rattle.meaning.specs.Blade.{quarter, blade, shell_is, with_loop}
use Rattle.meaning_split_laws.specs.Decided.{facts-pass}

-- ---- the model after a split, with other shells, loops or edges

abbrev with_shells : Table Shell → Model → Model
with_shells t m = record { version = m.version; precision = m.precision; bodies = m.bodies; regions = m.regions; shells = t; faces = m.faces; loops = m.loops; fins = m.fins; edges = m.edges; vertices = m.vertices; curves = m.curves; surfaces = m.surfaces }

abbrev with_loops : Table Loop → Model → Model
with_loops t m = record { version = m.version; precision = m.precision; bodies = m.bodies; regions = m.regions; shells = m.shells; faces = m.faces; loops = t; fins = m.fins; edges = m.edges; vertices = m.vertices; curves = m.curves; surfaces = m.surfaces }

abbrev with_edges : Table Edge → Model → Model
with_edges t m = record { version = m.version; precision = m.precision; bodies = m.bodies; regions = m.regions; shells = m.shells; faces = m.faces; loops = m.loops; fins = m.fins; edges = t; vertices = m.vertices; curves = m.curves; surfaces = m.surfaces }

-- the edge e replaced by one half, and the other half new
abbrev halved : Model → ℕ → (Edge → Edge) → (Edge → Edge) → Table Edge
halved m e f g = extended (changed m.edges (λ i r. cond (eqb i e) (f r) r)) 1 (λ k. g (edge m e))

-- ---- the wrong splits

-- 01, porter's errors: "Putting every new fin after the old one"
abbrev pub every_fin_after : Model → ℕ → Float → Model
every_fin_after m e t =
    let beside-it : ℕ → ℕ → List ℕ = λ l i. cond (member i (edge m e).fins && eqb (fin m i).owner l) (i ∷ new_fin m e i ∷ []) (i ∷ []) in
    with_loops (changed m.loops (λ l r. record { face = r.face; fins = joined (beside-it l) r.fins })) (after_split m e t)

-- the second half keeps the start
abbrev pub start_kept : Model → ℕ → Float → Model
start_kept m e t =
    let second : Edge → Edge = λ r. record { fins = run m.fins.used (length r.fins); start = r.start; end = r.end; curve = r.curve; tolerance = r.tolerance } in
    with_edges (halved m e (first_half m) second) (after_split m e t)

-- the old edge's end is left
abbrev pub end_left : Model → ℕ → Float → Model
end_left m e t = with_edges (halved m e (λ r. r) (second_half m)) (after_split m e t)

-- one fin of the new edge is left out
abbrev pub fin_left_out : Model → ℕ → Float → Model
fin_left_out m e t =
    let second : Edge → Edge = λ r. record { fins = run m.fins.used (length r.fins - 1); start = some m.vertices.used; end = r.end; curve = r.curve; tolerance = r.tolerance } in
    with_edges (halved m e (first_half m) second) (after_split m e t)

-- no new fin in any loop
abbrev pub loops_left : Model → ℕ → Float → Model
loops_left m e t = with_loops m.loops (after_split m e t)

abbrev wrong : List (Model → ℕ → Float → Model)
wrong = every_fin_after ∷ start_kept ∷ end_left ∷ fin_left_out ∷ loops_left ∷ []

-- ---- on the trial stone, whose edge A may be split at 0.25

pub right-one : well_formed largest stone && well_formed largest (after_split stone 0 quarter) && eqb (split_refusal largest stone 0 quarter) 0 ≡ true
unfolding computing
right-one = refl

pub wrong-ones : map (λ split. well_formed largest (split stone 0 quarter)) wrong ≡ false ∷ false ∷ false ∷ false ∷ false ∷ []
unfolding computing
wrong-ones = refl

-- where the test fails, the facts do not hold
pub shut_out : (split : Model → ℕ → Float → Model) → well_formed largest (split stone 0 quarter) ≡ false → WellFormed largest (split stone 0 quarter) → ⊥
shut_out split h w = false≢true (sym h ∙ facts-pass largest (split stone 0 quarter) w)

-- ---- the new wire edge first

abbrev pub wire_first : Model → ℕ → Float → Model
wire_first m e t =
    let halves : ℕ → List ℕ = λ y. cond (eqb y e) (m.edges.used ∷ e ∷ []) (y ∷ []) in
    with_shells (changed m.shells (λ s r. record { region = r.region; faces = r.faces; wire_edges = joined halves r.wire_edges; acorn_vertices = r.acorn_vertices })) (after_split m e t)

-- the blade with its edge 0 as a wire edge too: the new edge is 1
abbrev wired : Model
wired = shell_is 0 (0 ∷ []) (0 ∷ []) [] blade

pub wires-right-and-wrong :
    map (λ m. (shell m 0).wire_edges) (wired ∷ model_after largest wired 0 quarter ∷ wire_first wired 0 quarter ∷ []) ≡ (0 ∷ []) ∷ (0 ∷ 1 ∷ []) ∷ (1 ∷ 0 ∷ []) ∷ []
unfolding computing
wires-right-and-wrong = refl

-- ---- why of vertices the statements count: a walk that meets the edge by its negative fin first meets the old end before the old start

-- the blade, its loop from the negative fin on: the new vertex is 2
abbrev turned : Model
turned = with_loop 0 (record { face = 0; fins = 1 ∷ 0 ∷ [] }) blade

pub vertices-turned : map (λ m. vertex_walk m 0) (turned ∷ model_after largest turned 0 quarter ∷ []) ≡ (0 ∷ 1 ∷ []) ∷ (2 ∷ 1 ∷ 0 ∷ []) ∷ []
unfolding computing
vertices-turned = refl
