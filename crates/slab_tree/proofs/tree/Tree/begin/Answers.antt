use Rattle.std.proofs.Common.{◌≡◌, ap}
use Rattle.slab_tree.specs.Marking.{HoldsCover}
use Rattle.slab_tree.specs.Searches.{limits_of, opening_of}
use Rattle.slab_tree.specs.Stepping.{HasRoot}
use Rattle.slab_tree.proofs.Standing.{path_open}
use Rattle.slab_tree.proofs.Starting.{has_root, begun_at, begun_after}
use Rattle.slab_tree.proofs.tree.Tree.begin.Goals as goal

pub seek_first-requires : goal.seek_first-requires
seek_first-requires c =
    (has_root c.args.mill.now c.args.self.now c.start.new.self c.args.nodes.now c.start.new.nodes c.limit-limit.ensures.some c.requires.room c.opened-counted.ensures.last c.opened-counted.ensures.bare c.requires.tree c.start.ensures).running

pub tell-requires : goal.tell-requires
tell-requires c =
    rw (c.in_ok-place.place.extent.orders, c.in_ok-place.place.extent.yard, c.in_ok-place.ensures.mill)
    (path_open c.args.mill.now (HoldsCover c.args.mill.now (opening_of c.seek_first.new.self)) (limits_of c.seek_first.new.self) c.seek_first.new.self.path c.seek_first.new.self.nodes c.seek_first.ensures.lowered.running.stands)

-- ---- what has begun

pub returns-in_err-guide-clause-begun : goal.returns-in_err-guide-clause-begun
returns-in_err-guide-clause-begun c =
    begun_at c.args.mill.now c.args.self.now c.start.new.self c.args.nodes.now c.start.new.nodes
    (has_root c.args.mill.now c.args.self.now c.start.new.self c.args.nodes.now c.start.new.nodes c.limit-limit.ensures.some c.requires.room c.opened-counted.ensures.last c.opened-counted.ensures.bare c.requires.tree c.start.ensures)

pub returns-in_err-place-clause-begun : goal.returns-in_err-place-clause-begun
returns-in_err-place-clause-begun c =
    begun_at c.args.mill.now c.args.self.now c.start.new.self c.args.nodes.now c.start.new.nodes
    (has_root c.args.mill.now c.args.self.now c.start.new.self c.args.nodes.now c.start.new.nodes c.limit-limit.ensures.some c.requires.room c.opened-counted.ensures.last c.opened-counted.ensures.bare c.requires.tree c.start.ensures)

pub returns-in_err-seek_first-clause-begun : goal.returns-in_err-seek_first-clause-begun
returns-in_err-seek_first-clause-begun c =
    begun_after c.args.mill.now c.args.self.now c.start.new.self c.seek_first.new.self c.args.nodes.now c.start.new.nodes
    (has_root c.args.mill.now c.args.self.now c.start.new.self c.args.nodes.now c.start.new.nodes c.limit-limit.ensures.some c.requires.room c.opened-counted.ensures.last c.opened-counted.ensures.bare c.requires.tree c.start.ensures)
    c.seek_first.ensures.lowered

pub returns-clause-begun : goal.returns-clause-begun
returns-clause-begun c =
    begun_after c.args.mill.now c.args.self.now c.start.new.self c.seek_first.new.self c.args.nodes.now c.start.new.nodes
    (has_root c.args.mill.now c.args.self.now c.start.new.self c.args.nodes.now c.start.new.nodes c.limit-limit.ensures.some c.requires.room c.opened-counted.ensures.last c.opened-counted.ensures.bare c.requires.tree c.start.ensures)
    c.seek_first.ensures.lowered
