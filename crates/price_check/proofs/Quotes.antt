-- The numbers of a leaf are in the range of prices.
use Rattle.std.proofs.Common.{ℕ, ◌+◌, ◌≤◌, ℤ, pos, List, length, drop, arith}
use Rattle.std.proofs.lemmas.List.Elements.{All-get_or, All-take, All-drop}
use Rattle.mill_model.specs.Prices.{IsPrice, ArePrices, prices_of}
use Rattle.price_check.specs.Numbers.{AreQuoted}

pub ArePrices-from_quoted : (n : ℕ) (numbers : List ℤ) → AreQuoted n numbers → ArePrices (prices_of n numbers)
ArePrices-from_quoted n numbers quoted =
    let count : 2 + n ≤ length numbers = quoted.count in
    record {
      lambda = All-get_or IsPrice numbers 0 (pos 0) (omega arith) quoted.range;
      mu = All-get_or IsPrice numbers 1 (pos 0) (omega arith) quoted.range;
      pi = All-take IsPrice n (drop 2 numbers) (All-drop IsPrice 2 numbers quoted.range);
      sigma = All-drop IsPrice (2 + n) numbers quoted.range;
    }
