-- A desk in memory as it is made.
use Rattle.std.specs.Prelude.{ℕ, false, List, [], map, None, String, Vec}
use Rattle.std.specs.String.{string_bytes}
use Rattle.std.specs.FinMap.{from_entries}
use Rattle.std.specs.declared.alloc.Global.{Global}
use Rattle.slab_desk.specs.Names.{no_names}
use Rattle.slab_desk.specs.State.{DeskState}
use Rattle.slab_desk.specs.declared.calls.Act.{Act}

-- names with their contents, as they are handed in
abbrev pub Listed : Type 0
Listed = List (String Global × Vec ℕ Global)

abbrev pub listed : Listed → List (List ℕ × List ℕ)
listed files = map (λ (file : String Global × Vec ℕ Global). (string_bytes file.0, file.1.items)) files

abbrev pub names : Listed → List (List ℕ)
names files = map (λ (file : String Global × Vec ℕ Global). string_bytes file.0) files

-- these files, nothing opened, created or said, and no call yet
abbrev pub first_state : Listed → ℕ → List (Act × ℕ) → ℕ → DeskState
first_state files piece failing room = record {
  told = record { files = from_entries (listed files); left = []; target = None; said = [] };
  piece = piece;
  failing = failing;
  room = room;
  made = false;
  calls = record { opens = 0; reads = 0; creates = 0; writes = 0; says = 0 };
  faults = 0;
  stopped = false;
  named = no_names;
}
