-- The search over sets of colours, as the laws of pricing see it.
use Rattle.pricing_laws.specs.Searches as searches
use Rattle.slab_price.specs.declared.queue.Queue.{Queue}
use Rattle.slab_price.specs.declared.search.Search.{Search}
use Rattle.slab_price.specs.Frames.{frame_of}
use Rattle.slab_price.specs.Tasks.{problem_of}

abbrev pub search_of : Search → searches.Search
search_of s = record { problem = problem_of s.task; frame = frame_of s.frame.now; limits = s.task.asked.limits; framed = s.framed }

abbrev pub queue_of : Queue → searches.Queue
queue_of q = record { heads = q.heads.items; step = q.step; width = q.width; table = q.table.items }
