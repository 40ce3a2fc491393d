-- Two legal columns of a mill of two orders.
use Rattle.std.proofs.Common.{◌≡◌, [], ◌∷◌, refl, Contains, rules, arith}
use Rattle.mill_model.specs.declared.kind.Kind.TheVariants.{New}
use Rattle.mill_model.specs.Mill.{Mill}
use Rattle.mill_model.specs.Columns.{IsLegalColumn, column_of}

-- sizes 4 and 10, two orders of weight 4 and one colour
abbrev pub two_orders : Mill
two_orders = record { sizes = 4 ∷ 10 ∷ []; colours = 1; colour_limit = 2; orders = record { weight = 4; colour = 1 } ∷ record { weight = 4; colour = 1 } ∷ []; yard = []; bars = [] }

pub both_are_legal : IsLegalColumn two_orders (column_of (New 10) (0 ∷ 1 ∷ []))
both_are_legal = record {
  fits = record { kind = search rules; some = omega arith; weight = omega arith; colours = omega arith; bars = refl };
  rises = (omega arith, omega arith, (omega arith, omega arith, tt));
}

pub second_is_legal : IsLegalColumn two_orders (column_of (New 4) (1 ∷ []))
second_is_legal = record {
  fits = record { kind = search rules; some = omega arith; weight = omega arith; colours = omega arith; bars = refl };
  rises = (omega arith, omega arith, tt);
}
