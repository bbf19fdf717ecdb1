-- What a contract sees of a reading, apart from the memory that it lies in.
use Rattle.std.specs.Prelude.{List, map, reverse}
use Rattle.logic_terms.specs.Shown.{concepts_of, claims_of}
use Rattle.owl_reader.specs.declared.frames.Frame.{Frame}
use Rattle.owl_reader.specs.declared.frames.Frames.{Frames}
use Rattle.owl_reader.specs.declared.reader.Reader.{Reader}
use Rattle.owl_reader.specs.Reading.{Frame as Open, State}

abbrev pub frame_of : Frame → Open
frame_of f = record { construct = f.construct; fresh = f.fresh; wanted = f.wanted.now; classes = concepts_of f.classes; roles = f.roles; names = f.names }

-- from the innermost on
abbrev pub frames_of : Frames → List Open
frames_of fs = reverse (map frame_of fs.frames.items)

abbrev pub state_of : Reader → State
state_of r = record {
  prefixes = r.prefixes;
  entities = r.entities;
  claims = claims_of r.axioms;
  frames = frames_of r.frames;
  stand = r.stand;
  open_count = r.open_count;
  prefix = r.prefix;
  iri = r.iri;
}
