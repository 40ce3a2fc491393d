-- What the fields of a desk in memory stand for.
use Rattle.std.specs.Prelude.{◌≡◌, ◌<◌, ◌≤◌, length, drop, is_none, All, IfSome, IsSome, vec_len}
use Rattle.std.specs.Vec.{vec_capacity}
use Rattle.slab_desk.specs.State.{DeskState}
use Rattle.slab_desk.specs.MemFile.{files_of, HasRoom, IsSpare, target_name}
use Rattle.slab_desk.specs.declared.mem_desk.MemDesk.TheInside.{Inside}

abbrev pub state_of : Inside → DeskState
state_of d = record {
  told = record { files = files_of d.files.items; left = drop d.at d.left.bytes; target = target_name d.files.items d.target; said = d.said.bytes };
  piece = d.piece;
  failing = d.failing.items;
  room = d.room;
  made = is_none d.spare;
  calls = d.calls;
  faults = d.faults;
  stopped = d.stopped;
  named = record { opened = d.opened.names; created = d.created.names };
}

-- memory was taken for each file, for one more, for what is left and for what is said
pub record IsReady (d : Inside) : Type 0 where
  pub piece : 0 < d.piece
  pub files : All (HasRoom d.room) d.files.items
  pub left : d.left.room ≡ d.room
  pub left_fits : length d.left.bytes ≤ d.room
  pub at : d.at ≤ length d.left.bytes
  pub said : d.said.room ≡ d.room
  pub said_fits : length d.said.bytes ≤ d.room
  pub spare : IfSome d.spare (IsSpare d.room)
  pub spare_place : IsSome d.spare → vec_len d.files < vec_capacity d.files
