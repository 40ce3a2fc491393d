-- The parts of a reader that keeps what it reads, as one value.
use Rattle.cert_keep.specs.declared.gatherer.Gatherer.{Gatherer as Fields}
use Rattle.cert_keep.specs.Gathering.{Gathered}

abbrev pub gathered : Fields → Gathered
gathered f = record { reading = f.reader.reading; built = f.built }
