-- How many calls of each kind there were.
use Rattle.std.specs.Prelude.{ℕ}
use Rattle.slab_counter.specs.Counter.{next_count}
use Rattle.slab_desk.specs.declared.calls.Act.{Act}
use Rattle.slab_desk.specs.declared.calls.Act.TheVariants.{OpenFile, Read, Create, Write, Say}
use Rattle.slab_desk.specs.declared.calls.Calls.{Calls}

-- the number of calls of one kind
abbrev pub count_of : Act → Calls → ℕ
count_of OpenFile calls = calls.opens
count_of Read calls = calls.reads
count_of Create calls = calls.creates
count_of Write calls = calls.writes
count_of Say calls = calls.says

-- the numbers after one more call of this kind
abbrev pub with_call : Act → Calls → Calls
with_call OpenFile calls = record calls { opens = next_count calls.opens }
with_call Read calls = record calls { reads = next_count calls.reads }
with_call Create calls = record calls { creates = next_count calls.creates }
with_call Write calls = record calls { writes = next_count calls.writes }
with_call Say calls = record calls { says = next_count calls.says }
