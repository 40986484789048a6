-- What a split writes, each thing of what it is made of (euler.rs, `split_line_edge`; 01, "Splitting", from "The parameter is" on). Definitions only.
use Rattle.std.specs.Prelude.{ℕ, ◌+◌, true, false, List, [], ◌∷◌, map, length, Float}
use Rattle.float_vectors.specs.declared.vector.Point3.{Point3}
use Rattle.meaning.specs.Lists.{run}
use Rattle.memory_layout.specs.Names.{SHELLS, LOOPS, FINS, EDGES, VERTICES, AT_SHELL_WIRES, AT_LOOP_FINS, AT_EDGE_END, AT_EDGE_END_ID, AT_EDGE_CURVE, AT_EDGE_CURVE_ID, AT_EDGE_TOLERANCE}
use Rattle.memory_layout.specs.Layout.{word, words_of}
use Rattle.memory_writes.specs.Put.{over, put_words, put_reals}
use Rattle.split_lists.specs.Pass.{put_all, doubled_at}

-- word p of fin i: 0 its loop, 2 its sense
unfoldable pub fin_word : List ℕ → List ℕ → ℕ → ℕ → ℕ
fin_word room w p i = word (words_of room w FINS i) p

-- and of each of a list of fins
unfoldable pub fin_words : List ℕ → List ℕ → ℕ → List ℕ → List ℕ
fin_words room w p fins = map (fin_word room w p) fins

-- new fin k: the loop and the sense of the old one, the new edge, and no pcurve
unfoldable pub new_fin_words : List ℕ → List ℕ → ℕ → ℕ → List ℕ
new_fin_words owners senses edge k = word owners k ∷ edge ∷ word senses k ∷ 0 ∷ []

-- "the new one the end, curve and tolerance": the new edge's first words, where s are the old one's: it starts at the new vertex, and lists n new fins from the first on
unfoldable pub second_fields : List ℕ → ℕ → ℕ → ℕ → List ℕ
second_fields s vertex first n = 1 ∷ vertex ∷ word s AT_EDGE_END ∷ word s AT_EDGE_END_ID ∷ word s AT_EDGE_CURVE ∷ word s AT_EDGE_CURVE_ID ∷ word s AT_EDGE_TOLERANCE ∷ n ∷ run first n

-- ---- the words, step by step

-- "A new fin stands after a positive old fin, before a negative one": the loops' lists
unfoldable pub loops_put : List ℕ → List ℕ → List ℕ → List ℕ → List ℕ → List ℕ
loops_put room fins owners senses w = put_all room LOOPS 0 (doubled_at room w LOOPS AT_LOOP_FINS fins owners senses true (word w FINS)) (word w LOOPS) w

-- "A new wire edge stands after the old one", in every shell that lists it
unfoldable pub wires_put : List ℕ → ℕ → List ℕ → List ℕ
wires_put room e w = put_all room SHELLS 0 (doubled_at room w SHELLS AT_SHELL_WIRES (e ∷ []) (0 ∷ []) (0 ∷ []) false (word w EDGES)) (word w SHELLS) w

-- "new fins are made in the old edge's fin order"
unfoldable pub fins_put : List ℕ → List ℕ → List ℕ → List ℕ → List ℕ
fins_put room owners senses w = put_all room FINS (word w FINS) (new_fin_words owners senses (word w EDGES)) (length owners) w

-- the new edge, in the next slot
unfoldable pub second_put : List ℕ → ℕ → ℕ → List ℕ → List ℕ
second_put room e n w = put_words room EDGES (word w EDGES) (over 0 (second_fields (words_of room w EDGES e) (word w VERTICES) (word w FINS) n) (words_of room w EDGES (word w EDGES))) w

-- "The old edge keeps the start": its end is the new vertex
unfoldable pub first_put : List ℕ → ℕ → List ℕ → List ℕ
first_put room e w = put_words room EDGES e (over AT_EDGE_END (1 ∷ word w VERTICES ∷ []) (words_of room w EDGES e)) w

-- "The new vertex takes the edge's own tolerance": whether there is one
unfoldable pub vertex_put : List ℕ → ℕ → List ℕ → List ℕ
vertex_put room e w = put_words room VERTICES (word w VERTICES) (word (words_of room w EDGES e) AT_EDGE_TOLERANCE ∷ []) w

-- n fins, an edge and a vertex more
unfoldable pub counts_put : ℕ → List ℕ → List ℕ
counts_put n w = over FINS ((word w FINS + n) ∷ (word w EDGES + 1) ∷ (word w VERTICES + 1) ∷ []) w

-- ---- the floats: the new edge's tolerance, then the new vertex's point and tolerance

unfoldable pub floats_put : List ℕ → ℕ → ℕ → Point3 → Float → List Float → List Float
floats_put room edge vertex p t x = put_reals room VERTICES vertex (p.x ∷ p.y ∷ p.z ∷ t ∷ []) (put_reals room EDGES edge (t ∷ []) x)
