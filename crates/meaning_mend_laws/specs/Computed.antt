-- A blade with wrong pointers, mended; and a solid whose edge gets a third fin. Computed. Assumes nothing.
use Rattle.std.specs.Prelude.{ℕ, ◌≡◌, refl, true, false, List, [], ◌∷◌, map}
use Rattle.meaning.specs.Model.{Model, negative, largest}
use Rattle.meaning.specs.Faults.{findings, faults_of}
use Rattle.meaning.specs.Formed.{well_formed, topological}
use Rattle.meaning.specs.Blade.{blade, with_region, with_shell, with_loop, with_fin, fins_are, as_solid}
use Rattle.meaning.specs.Computing.{computing}
use Rattle.meaning_mends.specs.Mends.{a_region, a_shell, a_loop, a_fin, loop_meetings, face_meetings, shell_meetings, region_meetings, meetings, Change, renamed, enlisted, made, made_all, parent_change, fin_change, changes_at, changes_for, changes, mended, body_there, listings, lists_refusal, mend_refusal}

-- the reasons of the topological report of the body 0
abbrev reasons : Model → List ℕ
reasons m = map (λ f. f.reason) (faults_of (findings m topological 0))

-- a region, a shell, a loop and a fin that name parent 7, and an edge that lacks its second fin
abbrev crooked : Model
crooked =
    with_region 0 (record { body = 7; solid = false; shells = 0 ∷ [] })
    (with_shell 0 (record { region = 7; faces = 0 ∷ []; wire_edges = []; acorn_vertices = [] })
    (with_loop 0 (record { face = 7; fins = 0 ∷ 1 ∷ [] })
    (with_fin 1 (record { owner = 7; edge = 0; sense = negative; pcurve = false })
    (fins_are (0 ∷ []) blade))))

abbrev mending : Model → List Change
mending m = changes m 0

crooked-report : reasons crooked ≡ 4 ∷ 6 ∷ 11 ∷ 14 ∷ 16 ∷ []
unfolding computing
crooked-report = refl

crooked-changes : mending crooked ≡ renamed a_region 0 7 0 ∷ renamed a_shell 0 7 0 ∷ renamed a_loop 0 7 0 ∷ renamed a_fin 1 7 0 ∷ enlisted 0 1 1 ∷ []
unfolding computing loop_meetings face_meetings shell_meetings region_meetings meetings made made_all parent_change fin_change changes_at changes_for
crooked-changes = refl

-- a list of five changes takes them, one of four does not
crooked-refusals : map (mend_refusal crooked 0) (5 ∷ 4 ∷ []) ≡ 0 ∷ 8 ∷ []
unfolding computing loop_meetings face_meetings shell_meetings region_meetings meetings made made_all parent_change fin_change changes_at changes_for body_there listings lists_refusal mend_refusal
crooked-refusals = refl

crooked-mended : reasons (mended crooked 0) ≡ []
unfolding computing loop_meetings face_meetings shell_meetings region_meetings meetings made made_all parent_change fin_change changes_at changes_for mended
crooked-mended = refl

crooked-formed : map (well_formed largest) (crooked ∷ mended crooked 0 ∷ []) ≡ false ∷ true ∷ []
unfolding computing loop_meetings face_meetings shell_meetings region_meetings meetings made made_all parent_change fin_change changes_at changes_for mended
crooked-formed = refl

-- a solid whose loop has the fins 0 and 1 of one edge, which lists 0 and, in the place of 1, an id 2: 16 goes, and 19 comes, since the edge has three fins now
abbrev third : Model
third = fins_are (0 ∷ 2 ∷ []) (as_solid blade)

third-mended : map reasons (third ∷ mended third 0 ∷ []) ≡ (16 ∷ []) ∷ (19 ∷ []) ∷ []
unfolding computing loop_meetings face_meetings shell_meetings region_meetings meetings made made_all parent_change fin_change changes_at changes_for mended
third-mended = refl
