-- The sizes of the machine.
use Rattle.std.specs.Prelude.{ℕ}

-- pages are the numbers below this
abbrev pub page_count : ℕ
page_count = 262144

-- at most so many cores are in service
abbrev pub most_cores : ℕ
most_cores = 16

-- at most so many frames, numbered from 1
abbrev pub most_frames : ℕ
most_frames = 1024

-- at most so many nodes, numbered from 1
abbrev pub most_nodes : ℕ
most_nodes = 64
