-- The search over sets of colours, as the laws of pricing see it.
use Rattle.pricing_laws.specs.Searches as searches
use Rattle.price_check.specs.declared.queue.Queue.{Queue}
use Rattle.price_check.specs.declared.search.Search.{Search}
use Rattle.price_check.specs.Frames.{frame_of}
use Rattle.price_check.specs.Leaves.{problem_of}

abbrev pub search_of : Search → searches.Search
search_of s = record { problem = problem_of s.leaf; frame = frame_of s.frame.now; limits = s.leaf.asked.limits; framed = s.framed }

abbrev pub queue_of : Queue → searches.Queue
queue_of q = record { heads = q.heads.items; step = q.step; width = q.width; table = q.table.items }
