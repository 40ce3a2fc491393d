-- Worked rounds.
use Rattle.std.proofs.Common.{◌≡◌, ◌+◌, ◌*◌, ◌%◌, pos, [], ◌∷◌, Some, None, refl}
use Rattle.mill_model.specs.declared.kind.Kind.TheVariants.{New}
use Rattle.mill_model.specs.Mill.{Mill}
use Rattle.mill_model.specs.Plans.{Plan, sums_of}
use Rattle.slab_start.specs.FirstFit.{first_fit}
use Rattle.number_draws.specs.Draws.{draw}
use Rattle.slab_lns.specs.declared.ways.Way.TheVariants.{On, Open}
use Rattle.slab_lns.specs.Options.{ways}
use Rattle.slab_lns.specs.Rounds.{plan_after_rounds, after_rounds}

-- sizes 4 and 10, two orders of weight 4 and one colour
abbrev mill : Mill
mill = record { sizes = 4 ∷ 10 ∷ []; colours = 1; colour_limit = 2; orders = record { weight = 4; colour = 1 } ∷ record { weight = 4; colour = 1 } ∷ []; yard = []; bars = [] }

abbrev together : Plan
together = record { kinds = New 10 ∷ []; place = 0 ∷ 0 ∷ [] }

abbrev apart : Plan
apart = record { kinds = New 4 ∷ New 4 ∷ []; place = 0 ∷ 1 ∷ [] }

fit : first_fit mill None ≡ Some together
fit = refl

-- the fourth number stands for 43769
fourth : draw 0 4 ≡ 43769 * 65536 + draw 0 4 % 65536
fourth = refl

second_ways : ways mill None 1 (record { kind = New 10; orders = 0 ∷ [] } ∷ []) ≡ On 0 ∷ Open (New 10) ∷ []
second_ways = refl

one_round : plan_after_rounds 1 0 mill None together ≡ apart
one_round = refl

one_round_last : after_rounds mill None 1 (record { plan = together; last = 0 }) ≡ record { plan = apart; last = draw 0 4 }
one_round_last = refl

one_slab : plan_after_rounds 1 0 mill (Some (pos 1)) together ≡ together
one_slab = refl

-- sizes 4 and 8
abbrev fitting : Mill
fitting = record { sizes = 4 ∷ 8 ∷ []; colours = 1; colour_limit = 2; orders = record { weight = 4; colour = 1 } ∷ record { weight = 4; colour = 1 } ∷ []; yard = []; bars = [] }

abbrev full : Plan
full = record { kinds = New 8 ∷ []; place = 0 ∷ 0 ∷ [] }

full_costs : sums_of fitting apart ≡ record { loss = 0; count = 2 }
full_costs = refl

no_more_slabs : plan_after_rounds 1 0 fitting None full ≡ full
no_more_slabs = refl

no_orders : plan_after_rounds 3 7 (record { sizes = 4 ∷ []; colours = 1; colour_limit = 2; orders = []; yard = []; bars = [] }) None (record { kinds = []; place = [] }) ≡ record { kinds = []; place = [] }
no_orders = refl
