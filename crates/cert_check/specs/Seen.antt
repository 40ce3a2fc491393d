-- The line machine's fields, as one value.
use Rattle.cert_check.specs.declared.machine.Machine.{Machine as Fields}
use Rattle.cert_check.specs.Readings.{Machine, wanted_of}

abbrev pub seen : Fields → Machine
seen f = record {
  mill = f.mill.now;
  wanted = wanted_of f.wanted;
  kept = record { version = f.version; points = f.points; phase = f.phase; draft = f.draft; tally = f.tally; path = f.path.decisions };
  bad = f.path.bad;
}
