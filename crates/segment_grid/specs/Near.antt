-- The edges near a box.
use Rattle.std.specs.Prelude.{ℕ, List, [], ◌∷◌, ℤ, int_le, if◌then◌else◌, map, IsPermutation}
use Rattle.std.specs.List.{enumerate_from}
use Rattle.plane_exact.specs.declared.point.Seg.{Seg}
use Rattle.lane_kernels.specs.Boxes.{is_met}
use Rattle.lane_kernels.specs.declared.boxes.Rect.{Rect}

-- the lesser of two numbers
abbrev pub lesser : ℤ → ℤ → ℤ
lesser a b = if int_le a b then a else b

-- the greater of two numbers
abbrev pub greater : ℤ → ℤ → ℤ
greater a b = if int_le a b then b else a

-- the least box that holds the edge
abbrev pub box_of : Seg → Rect
box_of e = record { x0 = lesser e.a.x e.b.x; y0 = lesser e.a.y e.b.y; x1 = greater e.a.x e.b.x; y1 = greater e.a.y e.b.y }

-- an edge's number and its box
abbrev pub Entry : Type 0
Entry = ℕ × Rect

-- of numbered boxes, the numbers of those that meet q, in order
abbrev pub hits : Rect → List Entry → List ℕ
hits q [] = []
hits q ((n, b) ∷ rest) = if is_met q b then n ∷ hits q rest else hits q rest

-- the boxes of the edges, numbered from 0
abbrev pub entries_of : List Seg → List Entry
entries_of edges = enumerate_from 0 (map box_of edges)

-- the numbers are those of the edges whose boxes meet q, each once, in any order
abbrev pub AreNear : List Seg → Rect → List ℕ → Type 0
AreNear edges q numbers = IsPermutation (hits q (entries_of edges)) numbers
