-- W-208, mend back pointers (the request's words are quoted): what the lists of one body ask for, what a mending changes, and when it is refused. Definitions only.
use Rattle.std.specs.Prelude.{ℕ, Bool, true, false, not, cond, ◌&&◌, List, [], ◌∷◌, ◌++◌, map, eqb, leb, ltb, length}
use Rattle.geom_lines_planes.specs.Refuse.{◌unless◌, ◌then◌}
use Rattle.meaning.specs.Lists.{run, all, every, member, count, joined}
use Rattle.meaning.specs.Model.{Model, changed, has, body, region, shell, face, loop, fin, edge, largest}
use Rattle.meaning.specs.Refuse.{Answer, answered}
use Rattle.meaning.specs.Walks.{readable_fin}
use Rattle.meaning.specs.Edits.{appended}
use Rattle.meaning.specs.Split.{where_accepted}

-- ---- the records that a body's lists name: "rewrites, from the lists of one body, the parent named by each region, shell, loop and fin"

pub data Child : Type 0 where
  a_region a_shell a_loop a_fin : Child

-- the parent that one of them names
abbrev pub named : Model → Child → ℕ → ℕ
named m a_region i = (region m i).body
named m a_shell i = (shell m i).region
named m a_loop i = (loop m i).face
named m a_fin i = (fin m i).owner

-- those that a parent lists, and how many parents there are
abbrev pub children : Model → Child → ℕ → List ℕ
children m a_region p = (body m p).regions
children m a_shell p = (region m p).shells
children m a_loop p = (face m p).loops
children m a_fin p = (loop m p).fins

abbrev pub parents : Model → Child → ℕ
parents m a_region = m.bodies.used
parents m a_shell = m.regions.used
parents m a_loop = m.faces.used
parents m a_fin = m.loops.used

-- a record that a list names, and the parent whose list it is
pub record Meeting : Type 0 where
  pub child : Child
  pub id : ℕ
  pub parent : ℕ

abbrev pub met : Child → ℕ → ℕ → Meeting
met k p i = record { child = k; id = i; parent = p }

-- "in walk order": regions, shells, faces, loops, fins in list order, as the checker meets them
unfoldable pub loop_meetings : Model → ℕ → ℕ → List Meeting
loop_meetings m f l = met a_loop f l ∷ map (met a_fin l) (loop m l).fins

unfoldable pub face_meetings : Model → ℕ → List Meeting
face_meetings m f = joined (loop_meetings m f) (face m f).loops

unfoldable pub shell_meetings : Model → ℕ → ℕ → List Meeting
shell_meetings m r s = met a_shell r s ∷ joined (face_meetings m) (shell m s).faces

unfoldable pub region_meetings : Model → ℕ → ℕ → List Meeting
region_meetings m b r = met a_region b r ∷ joined (shell_meetings m r) (region m r).shells

unfoldable pub meetings : Model → ℕ → List Meeting
meetings m b = joined (region_meetings m b) (body m b).regions

-- ---- the changes: "record, field, old value, new value"

-- another parent; or a fin more in an edge's list, at the place behind its last
pub data Change : Type 0 where
  renamed : Child → (id old new : ℕ) → Change
  enlisted : (edge place fin : ℕ) → Change

-- the class of a record, by its table, and whether two are of one
abbrev pub child_table : Child → ℕ
child_table a_region = 1
child_table a_shell = 2
child_table a_loop = 4
child_table a_fin = 5

abbrev pub same_child : Child → Child → Bool
same_child c k = eqb (child_table c) (child_table k)

-- behind a change: what the record i names that named p; what the edge i lists that listed l
abbrev pub names_now : Change → Child → ℕ → ℕ → ℕ
names_now (renamed k j old new) c i p = cond (same_child c k && eqb i j) new p
names_now (enlisted e k j) c i p = p

abbrev pub lists_now : Change → ℕ → List ℕ → List ℕ
lists_now (renamed k j old new) i l = l
lists_now (enlisted e k j) i l = cond (eqb i e) (appended l j) l

-- the model behind a change; all else is as it was
unfoldable pub made : Model → Change → Model
made m c =
    record {
      version = m.version;
      precision = m.precision;
      bodies = m.bodies;
      regions = changed m.regions (λ i r. record { body = names_now c a_region i r.body; solid = r.solid; shells = r.shells });
      shells = changed m.shells (λ i s. record { region = names_now c a_shell i s.region; faces = s.faces; wire_edges = s.wire_edges; acorn_vertices = s.acorn_vertices });
      faces = m.faces;
      loops = changed m.loops (λ i l. record { face = names_now c a_loop i l.face; fins = l.fins });
      fins = changed m.fins (λ i f. record { owner = names_now c a_fin i f.owner; edge = f.edge; sense = f.sense; pcurve = f.pcurve });
      edges = changed m.edges (λ i e. record { fins = lists_now c i e.fins; start = e.start; end = e.end; curve = e.curve; tolerance = e.tolerance });
      vertices = m.vertices;
      curves = m.curves;
      surfaces = m.surfaces;
    }

-- "Applying them to the old tables gives the new ones exactly"
unfoldable pub made_all : Model → List Change → Model
made_all m [] = m
made_all m (c ∷ l) = made_all (made m c) l

abbrev pub change_if : Bool → Change → List Change
change_if true c = c ∷ []
change_if false c = []

-- the parent that the list gives, where the record names another
unfoldable pub parent_change : Model → Meeting → List Change
parent_change m t =
    let old = named m t.child t.id in
    change_if (not (eqb old t.parent)) (renamed t.child t.id old t.parent)

-- "adds a fin to its edge's list where it is absent"
unfoldable pub fin_change : Model → ℕ → List Change
fin_change m i =
    let e = (fin m i).edge in
    change_if (not (member i (edge m e).fins)) (enlisted e (length (edge m e).fins) i)

-- what a meeting changes: a fin's parent, then its edge's list
abbrev pub list_change : Model → Child → ℕ → List Change
list_change m a_region i = []
list_change m a_shell i = []
list_change m a_loop i = []
list_change m a_fin i = fin_change m i

unfoldable pub changes_at : Model → Meeting → List Change
changes_at m t = parent_change m t ++ list_change m t.child t.id

-- "It reports every change in walk order": each meeting is asked of the model that those before it left, so that a record met again, through a face that two shells list, has no more to change
unfoldable pub changes_for : Model → List Meeting → List Change
changes_for m [] = []
changes_for m (t ∷ l) = let c = changes_at m t in c ++ changes_for (made_all m c) l

abbrev pub changes : Model → ℕ → List Change
changes m b = changes_for m (meetings m b)

unfoldable pub mended : Model → ℕ → Model
mended m b = made_all m (changes m b)

-- ---- the refusals

-- "2 for a missing body, region, shell, face, loop, fin or fin's edge"
abbrev pub loop_there : Model → ℕ → Bool
loop_there m l = has m.loops l && all (readable_fin m) (loop m l).fins

abbrev pub face_there : Model → ℕ → Bool
face_there m f = has m.faces f && all (loop_there m) (face m f).loops

abbrev pub shell_there : Model → ℕ → Bool
shell_there m s = has m.shells s && all (face_there m) (shell m s).faces

abbrev pub region_there : Model → ℕ → Bool
region_there m r = has m.regions r && all (shell_there m) (region m r).shells

unfoldable pub body_there : Model → ℕ → Bool
body_there m b = has m.bodies b && all (region_there m) (body m b).regions

-- "Where a region, shell, loop or fin that the body reaches is listed by two parents anywhere in the tables, the tool refuses": it stands once in the lists of all parents
unfoldable pub listings : Model → Child → ℕ → ℕ
listings m k i = count i (joined (children m k) (run 0 (parents m k)))

abbrev pub once : Model → Meeting → Bool
once m t = leb (listings m t.child t.id) 1

-- what is refused before any change is looked at
unfoldable pub lists_refusal : Model → ℕ → ℕ
lists_refusal m b = 2 unless body_there m b then 1 unless every (map (once m) (meetings m b))

-- 01, "Lists: .. edge 8 fins"
abbrev pub fits : Change → Bool
fits (renamed k i old new) = true
fits (enlisted e place i) = ltb place largest.edge_fins

-- "then 8 for an edge or change list without a slot"; n is how many changes the list takes
unfoldable pub mend_refusal : Model → ℕ → ℕ → ℕ
mend_refusal m b n = lists_refusal m b then 8 unless every (map fits (changes m b)) && leb (length (changes m b)) n

abbrev pub mend : Model → ℕ → ℕ → Answer (List Change)
mend m b n = answered (mend_refusal m b n) (changes m b)

-- the model behind the call
unfoldable pub mended_model : Model → ℕ → ℕ → Model
mended_model m b n = where_accepted (mend_refusal m b n) m (mended m b)
