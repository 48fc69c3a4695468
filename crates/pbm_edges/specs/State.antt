-- What the reader has read, as the definitions see it.
use Rattle.pbm_edges.specs.Header.{Heading}
use Rattle.pbm_edges.specs.declared.header.Heading.{Heading as Found}

-- the heading of the code as that of the definition
abbrev pub heading_value : Found → Heading
heading_value h = record { width = h.width; height = h.height; rest = h.rest.now }
