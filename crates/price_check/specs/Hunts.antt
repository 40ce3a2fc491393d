-- A walk over the groups of some colours, as the laws of pricing see it.
use Rattle.pricing_laws.specs.Hunts as hunts
use Rattle.price_check.specs.declared.hunt.Hunt.{Hunt}
use Rattle.price_check.specs.Searches.{queue_of, search_of}

abbrev pub hunt_of : Hunt → hunts.Hunt
hunt_of h = record { search = search_of h.search; colours = h.colours.now; queue = queue_of h.queue.now; queued = h.queued }
