use Rattle.slab_price.proofs.search.Search.+search_sets.Given as goal

abbrev pub decreases-search_sets : goal.decreases-search_sets
decreases-search_sets l = l.rank
